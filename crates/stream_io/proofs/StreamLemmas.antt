-- What a source has left and what a sink holds, after one call and after several.
use Rattle.std.proofs.Common.{◌≡◌, ℕ, ◌+◌, List, ◌++◌, length, take, drop, refl, sym, ◌∙◌, ap, arith, append_assoc, length-append, Option, Some, None}
use Rattle.std.specs.Option.{option_map}
use Rattle.std.proofs.Math.Seq.{take-add, take-append-add}
use Rattle.std.proofs.lemmas.List.{drop-drop, take-append-drop, take-append-le}
use Rattle.stream_io.specs.Stream.{Gives, with_bytes, AddsPrefix}

-- ---- a sink that takes one piece after the other

pub with_bytes-with_bytes : (a b : List ℕ) (held : Option (List ℕ)) → option_map (with_bytes b) (option_map (with_bytes a) held) ≡ option_map (with_bytes (a ++ b)) held
with_bytes-with_bytes a b None = refl
with_bytes-with_bytes a b (Some held) = ap (λ (x : List ℕ). Some x) (append_assoc held a b)

-- The next n of some bytes, after the first m of them.
pub with_bytes-take : (bytes : List ℕ) (m n : ℕ) (held : Option (List ℕ))
    → option_map (with_bytes (take n (drop m bytes))) (option_map (with_bytes (take m bytes)) held) ≡ option_map (with_bytes (take (m + n) bytes)) held
with_bytes-take bytes m n held =
    with_bytes-with_bytes (take m bytes) (take n (drop m bytes)) held ∙ ap (λ (x : List ℕ). option_map (with_bytes x) held) (sym (take-add m n bytes))

-- ---- for callers

-- What is put first ended early: nothing of the rest was taken.
pub AddsPrefix-first : (a b : List ℕ) (old new : Option (List ℕ)) → AddsPrefix a old new → AddsPrefix (a ++ b) old new
AddsPrefix-first a b old new part = record {
  count = part.count;
  short = omega (arith, part.short, length-append a b);
  held = part.held ∙ ap (λ (x : List ℕ). option_map (with_bytes x) old) (sym (take-append-le part.count a b (omega (arith, part.short))));
}

-- What is put first was taken, and the rest ended early.
pub AddsPrefix-then : (a b : List ℕ) (old middle new : Option (List ℕ)) → middle ≡ option_map (with_bytes a) old → AddsPrefix b middle new → AddsPrefix (a ++ b) old new
AddsPrefix-then a b old middle new first part = record {
  count = length a + part.count;
  short = omega (arith, part.short, length-append a b);
  held =
      part.held ∙ ap (option_map (with_bytes (take part.count b))) first ∙ with_bytes-with_bytes a (take part.count b) old
      ∙ ap (λ (x : List ℕ). option_map (with_bytes x) old) (sym (take-append-add a b part.count));
}

-- What was read, and then what is left, is what was left before.
pub Gives-left : (n : ℕ) (buffer left : List ℕ) → Gives n buffer left → take n buffer ++ drop n left ≡ left
Gives-left n buffer left gives = ap (λ (x : List ℕ). x ++ drop n left) gives.next ∙ take-append-drop n left

-- What is left of a source that gives n bytes more.
pub left_more : (done n : ℕ) (first before new : Option (List ℕ)) → before ≡ option_map (drop done) first → new ≡ option_map (drop n) before → new ≡ option_map (drop (done + n)) first
left_more done n None before new was is = is ∙ ap (option_map (drop n)) was
left_more done n (Some left) before new was is = is ∙ ap (option_map (drop n)) was ∙ ap (λ (x : List ℕ). Some x) (drop-drop n done left)
