-- Pieces that are written one after the other.
use Rattle.std.proofs.Common.{◌≡◌, ℕ, zero, suc, ◌<◌, List, [], ◌∷◌, ◌++◌, length, take, drop, get_or, Bor, refl, ap, subst, append_assoc, ◌∙◌, arith, OnErr, Result, Ok, Err, Option}
use Rattle.std.specs.Option.{option_map}
use Rattle.stream_io.specs.Stream.{with_bytes, AddsPrefix}
use Rattle.stream_io.proofs.StreamLemmas.{AddsPrefix-first, AddsPrefix-then}
use Rattle.command_ending.specs.Ended.{bytes_of}

pub on_err_always : {T E P : Type 0} (r : Result T E) → P → OnErr r P
on_err_always (Ok x) p = tt
on_err_always (Err e) p = p

-- What stands before a piece, the piece, and what stands behind it.
bytes_at : (pieces : List (Bor (List ℕ))) (k : ℕ) (d : Bor (List ℕ)) → k < length pieces
    → bytes_of (take k pieces) ++ ((get_or pieces k d).now ++ bytes_of (drop (suc k) pieces)) ≡ bytes_of pieces
bytes_at [] k d inside = absurd (omega arith)
bytes_at (piece ∷ pieces) zero d inside = refl
bytes_at (piece ∷ pieces) (suc k) d inside =
    append_assoc piece.now (bytes_of (take k pieces)) _
    ∙ ap (λ (x : List ℕ). piece.now ++ x) (bytes_at pieces k d (omega arith))

-- The sink failed at a piece.
pub failed_at : (pieces : List (Bor (List ℕ))) (k : ℕ) (d : Bor (List ℕ)) (old middle new : Option (List ℕ))
    → k < length pieces
    → middle ≡ option_map (with_bytes (bytes_of (take k pieces))) old
    → AddsPrefix (get_or pieces k d).now middle new
    → AddsPrefix (bytes_of pieces) old new
failed_at pieces k d old middle new inside before part =
    let piece = (get_or pieces k d).now in
    let rest = bytes_of (drop (suc k) pieces) in
    subst (λ (x : List ℕ). AddsPrefix x old new) (bytes_at pieces k d inside)
    (AddsPrefix-then (bytes_of (take k pieces)) (piece ++ rest) old middle new before
    (AddsPrefix-first piece rest middle new part))
