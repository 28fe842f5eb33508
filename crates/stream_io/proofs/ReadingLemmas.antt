-- A buffer that is filled by one read after the other, up to the end of what is left.
use Rattle.std.proofs.Common.{◌≡◌, ℕ, ◌+◌, ◌<◌, ◌≤◌, List, ◌++◌, length, take, drop, sym, ◌∙◌, ap, arith, length-drop, Option, Some, None}
use Rattle.std.specs.Option.{ForSome, option_map}
use Rattle.std.proofs.Math.Seq.{take-add, take-append-add}
use Rattle.std.proofs.lemmas.List.{drop_all, length-take-le, take-append-le, take_all, drop-drop}
use Rattle.std.proofs.lemmas.Slice.{take-put_mid_below}
use borrow.Rule.Slice.PartMut.{put_mid, post_of}
use Rattle.stream_io.specs.Stream.{Gives}

-- What was read so far, and then n bytes behind it.
pub filled_more : (done n m : ℕ) (buffer part left : List ℕ) → done ≤ length buffer → n ≤ length part → take done buffer ≡ take done left → Gives n part (drop done left)
    → take (done + n) (put_mid done m buffer part) ≡ take (done + n) left
filled_more done n m buffer part left within fits so_far gives =
    let first = take done buffer in
    let size : length first ≡ done = length-take-le done buffer within in
    ap (λ (k : ℕ). take (k + n) (put_mid done m buffer part)) (sym size)
    ∙ take-append-add first (part ++ post_of done m buffer) n
    ∙ ap (λ (x : List ℕ). first ++ x) (take-append-le n part (post_of done m buffer) fits ∙ gives.next)
    ∙ ap (λ (x : List ℕ). x ++ take n (drop done left)) so_far
    ∙ sym (take-add done n left)

-- Nothing came, so nothing is left.
ends : (done n : ℕ) (part left : List ℕ) → n ≡ 0 → 0 < length part → Gives n part (drop done left) → length left ≤ done
ends done n part left none room gives = omega (arith, length-drop done left, ap length (gives.end none room))

-- Nothing came behind what was read so far: that is all.
pub filled_all : (done n m size : ℕ) (buffer part left : List ℕ) → done ≤ length buffer → done ≤ size → take done buffer ≡ take done left → n ≡ 0 → 0 < length part → Gives n part (drop done left)
    → take done (put_mid done m buffer part) ≡ take size left
filled_all done n m size buffer part left within fits so_far none room gives =
    let end = ends done n part left none room gives in
    take-put_mid_below done m buffer part done (omega arith) within ∙ so_far ∙ take_all done left end ∙ sym (take_all size left (omega (arith, end, fits)))

-- Nothing is left then, as far as it is told.
pub left_all : (done n size : ℕ) (part : List ℕ) (first before new : Option (List ℕ)) → done ≤ size → before ≡ option_map (drop done) first → new ≡ option_map (drop n) before
    → n ≡ 0 → 0 < length part → ForSome before (Gives n part) → new ≡ option_map (drop size) first
left_all done n size part None before new fits was is none room gives = is ∙ ap (option_map (drop n)) was
left_all done n size part (Some left) before new fits was is none room gives =
    let end = ends done n part left none room (gives (drop done left) was) in
    let empty : drop n (drop done left) ≡ drop size left = drop-drop n done left ∙ drop_all (done + n) left (omega (arith, end)) ∙ sym (drop_all size left (omega (arith, end, fits))) in
    is ∙ ap (option_map (drop n)) was ∙ ap (λ (x : List ℕ). Some x) empty
