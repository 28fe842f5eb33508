-- The words of a line, taken one after the other.
use Rattle.std.proofs.Common.{◌≡◌, ℕ, zero, suc, ◌+◌, ◌==◌, ◌<◌, ◌≤◌, Bool, true, false, not, cond, List, [], ◌∷◌, length, take, drop, get_or, sym, ◌∙◌, ap, arith, refl, All, Option, Some, None, add-one, inl, inr, ◌⊎◌, drop-cons, length-drop, ne_eqb, true≢false}
use Rattle.std.specs.Prelude.{filter}
use Rattle.std.proofs.lemmas.List.{take_all, get_or-drop}
use Rattle.std.specs.Option.{unwrap_or}
use Rattle.std.specs.List.{slice_split, position_or_len, prefix_len}
use Rattle.std.proofs.Math.ListN.{drop_of_length-le}
use Rattle.std.proofs.lemmas.Bool.{cases_lt}
use Rattle.std.proofs.lemmas.List.Splits.{slice_split_none, slice_split_first, slice_split-cons_yes}
use Rattle.std.proofs.lemmas.List.Sums.{position_or_len_is, prefix_len_stops, fails_before_first, passes_at_first}
use Rattle.std.proofs.lemmas.List.Folds.{length-prefix_len}
use Rattle.std.proofs.lemmas.List.Elements.{All-from_get_or}
use Rattle.memchr.specs.Find.{IsFirstByte, is_byte}
use Rattle.device_model.specs.Grammar.{words_in}

abbrev is_space : ℕ → Bool
is_space byte = byte == 32

abbrev is_word : List ℕ → Bool
is_word word = not (length word == 0)

words_in-space : (byte : ℕ) (rest : List ℕ) → is_space byte ≡ true → words_in (byte ∷ rest) ≡ words_in rest
words_in-space byte rest space = ap (filter is_word) (slice_split-cons_yes is_space byte rest space)

-- Spaces at the front do not count.
words_in-spaces : (bytes : List ℕ) → words_in bytes ≡ words_in (drop (prefix_len is_space bytes) bytes)
words_in-spaces [] = refl
words_in-spaces (byte ∷ bytes) = by_first (words_in-spaces bytes) (is_space byte) refl
  where
    by_first : words_in bytes ≡ words_in (drop (prefix_len is_space bytes) bytes) → (b : Bool) → is_space byte ≡ b → words_in (byte ∷ bytes) ≡ words_in (drop (cond b (1 + prefix_len is_space bytes) 0) (byte ∷ bytes))
    by_first later true space =
        let next : 1 + prefix_len is_space bytes ≡ suc (prefix_len is_space bytes) = omega arith in
        rw next (words_in-space byte bytes space ∙ later)
    by_first later false other = refl

filter-word : (word : List ℕ) (parts : List (List ℕ)) → 0 < length word → filter is_word (word ∷ parts) ≡ word ∷ filter is_word parts
filter-word [] parts some = absurd (omega arith)
filter-word (byte ∷ word) parts some = let some' : (length (byte ∷ word) == 0) ≡ false = ne_eqb (suc (length word)) 0 (λ is. omega (arith, is)) in rw some' refl

-- A line that begins with no space begins with its first word.
words_in-first : (text : List ℕ) → 0 < length text → is_space (get_or text 0 0) ≡ false →
    words_in text ≡ take (position_or_len is_space text) text ∷ words_in (drop (position_or_len is_space text) text)
words_in-first text some other = by_end (cases_lt (position_or_len is_space text) (length text))
  where
    by_end : ((position_or_len is_space text < length text) ⊎ (length text ≤ position_or_len is_space text))
        → words_in text ≡ take (position_or_len is_space text) text ∷ words_in (drop (position_or_len is_space text) text)
    by_end (inl within) =
        let end = position_or_len is_space text in
        let space : is_space (get_or text end 0) ≡ true = passes_at_first is_space text 0 within in
        let long : 0 < end = nonzero end (λ none. true≢false (sym space ∙ ap (λ (i : ℕ). is_space (get_or text i 0)) none ∙ other)) in
        let word : 0 < length (take end text) = rw (length-prefix_len (λ x. not (is_space x)) text) long in
        let rest : drop end text ≡ get_or text end 0 ∷ drop (end + 1) text = rw (add-one, drop-cons text end 0 within) refl in
        ap (filter is_word) (slice_split_first is_space text 0 within)
        ∙ filter-word (take end text) (slice_split is_space (drop (end + 1) text)) word
        ∙ ap (λ (words : List (List ℕ)). take end text ∷ words) (sym (ap words_in rest ∙ words_in-space (get_or text end 0) (drop (end + 1) text) space))
      where
        nonzero : (n : ℕ) → (n ≡ 0 → ⊥) → 0 < n
        nonzero zero no_zero = absurd (no_zero refl)
        nonzero (suc n) no_zero = omega arith
    by_end (inr past) =
        let plain : All (λ byte. is_space byte ≡ false) text = All-from_get_or (λ byte. is_space byte ≡ false) text 0 (λ k within. fails_before_first is_space text k 0 (omega (arith, past, within))) in
        ap (filter is_word) (slice_split_none is_space text plain) ∙ filter-word text [] some
        ∙ ap (λ (word : List ℕ). word ∷ []) (sym (take_all (position_or_len is_space text) text past))
        ∙ ap (λ (rest : List ℕ). take (position_or_len is_space text) text ∷ words_in rest) (sym (drop_of_length-le text past))

is_false : (b : Bool) → (b ≡ true → ⊥) → b ≡ false
is_false true not_so = absurd (not_so refl)
is_false false not_so = refl

-- ---- for callers

-- Where a byte is first found.
pub first_place : (byte : ℕ) (text : List ℕ) (found : Option ℕ) → IsFirstByte (is_byte byte) text found → position_or_len (λ b. b == byte) text ≡ unwrap_or found (length text)
first_place byte text (Some at) (stands, is) =
    position_or_len_is (λ b. b == byte) text at 0 (omega (arith, stands.high)) (λ k below. is_false (get_or text k 0 == byte) (stands.before k (omega arith) below)) (λ within. is)
first_place byte text None nowhere =
    position_or_len_is (λ b. b == byte) text (length text) 0 (omega arith) (λ k below. is_false (get_or text k 0 == byte) (nowhere k (omega arith) below)) (λ within. absurd (omega (arith, within)))

pub no_word : (bytes : List ℕ) (start : ℕ) → start ≡ prefix_len is_space bytes → length (drop start bytes) ≡ 0 → words_in bytes ≡ []
no_word bytes start is none =
    words_in-spaces bytes ∙ ap (λ (n : ℕ). words_in (drop n bytes)) (sym is) ∙ ap words_in (empty (drop start bytes) none)
  where
    empty : (xs : List ℕ) → length xs ≡ 0 → xs ≡ []
    empty [] none = refl
    empty (x ∷ xs) none = absurd (omega (arith, none))

pub first_word : (bytes text : List ℕ) (start end : ℕ) → start ≡ prefix_len is_space bytes → text ≡ drop start bytes → 0 < length text
    → end ≡ position_or_len is_space text → words_in bytes ≡ take end text ∷ words_in (drop end text)
first_word bytes text start end is text_is some end_is =
    let front = prefix_len is_space bytes in
    let within : front < length bytes = omega (arith, is, ap length text_is, length-drop start bytes) in
    let first : is_space (get_or text 0 0) ≡ false =
    ap (λ (xs : List ℕ). is_space (get_or xs 0 0)) text_is ∙ ap is_space (get_or-drop start bytes 0 0 ∙ ap (λ (i : ℕ). get_or bytes i 0) (at_front start front is))
    ∙ prefix_len_stops is_space bytes 0 within in
    words_in-spaces bytes ∙ ap (λ (n : ℕ). words_in (drop n bytes)) (sym is) ∙ ap words_in (sym text_is) ∙ words_in-first text some first
    ∙ ap (λ (n : ℕ). take n text ∷ words_in (drop n text)) (sym end_is)
  where
    at_front : (start front : ℕ) → start ≡ front → start + 0 ≡ front
    at_front start front is = omega (arith, is)
