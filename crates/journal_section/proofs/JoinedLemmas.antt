-- A section whose pieces are kept apart, joined.
use Rattle.std.proofs.Common.{◌≡◌, ℕ, zero, suc, ◌+◌, ◌*◌, ◌<◌, List, [], ◌∷◌, ◌++◌, length, take, drop, get_or, set, refl, sym, ap, ◌∙◌, arith, length-append}
use Rattle.std.specs.List.{concat}
use Rattle.std.proofs.lemmas.List.{drop-drop, drop_at, take_at}
use Rattle.image_model.specs.Geometry.{Shape, section_entries}
use Rattle.image_model.specs.Sectors.{piece}
use Rattle.image_model.proofs.Bounds.{HasEntries}
use Rattle.journal_section.specs.Pieces.{HasPieces, joined, with_piece, with_pieces}

-- Behind other bytes a piece is put as it is put alone.
with_piece-behind : (front : List ℕ) (at : ℕ) (new bytes : List ℕ) → with_piece (length front + at) new (front ++ bytes) ≡ front ++ with_piece at new bytes
with_piece-behind [] at new bytes = let place : 0 + at ≡ at = omega arith in rw place refl
with_piece-behind (byte ∷ front) at new bytes =
    let place : suc (length front) + at ≡ suc (length front + at) = omega arith in
    let end : suc (length front) + at + length new ≡ suc (length front + at + length new) = omega arith in
    rw (end, place) (ap (λ rest. byte ∷ rest) (with_piece-behind front at new bytes))

-- Pieces of one size, joined, are as long as all of them.
length-concat : (size : ℕ) (parts : List (List ℕ)) → ((k : ℕ) → k < length parts → length (get_or parts k []) ≡ size) → length (concat parts) ≡ length parts * size
length-concat size [] each = omega arith
length-concat size (part ∷ parts) each =
    let first = each 0 (omega arith) in
    let others = length-concat size parts (λ k low. each (suc k) (omega arith)) in
    omega (arith, length-append part (concat parts))

-- Piece n of them stands behind n others,
piece-concat : (size : ℕ) (parts : List (List ℕ)) (n : ℕ) → ((k : ℕ) → k < length parts → length (get_or parts k []) ≡ size) → n < length parts
    → piece (concat parts) (n * size) size ≡ get_or parts n []
piece-concat size [] n each low = absurd (omega arith)
piece-concat size (part ∷ parts) zero each low =
    let none : 0 * size ≡ 0 = omega arith in
    rw none (take_at part (concat parts) size (each 0 (omega arith)))
piece-concat size (part ∷ parts) (suc n) each low =
    let first = each 0 (omega arith) in
    let place : suc n * size ≡ size + n * size = omega arith in
    ap (λ at. piece (part ++ concat parts) at size) place
    ∙ ap (take size) (sym (drop-drop (n * size) size (part ++ concat parts)) ∙ ap (drop (n * size)) (drop_at part (concat parts) size first))
    ∙ piece-concat size parts n (λ k inside. each (suc k) (omega arith)) (omega arith)

-- and another one in its place is another one among them.
concat-set : (size : ℕ) (parts : List (List ℕ)) (n : ℕ) (part : List ℕ) → ((k : ℕ) → k < length parts → length (get_or parts k []) ≡ size)
    → n < length parts → length part ≡ size → with_piece (n * size) part (concat parts) ≡ concat (set parts n part)
concat-set size [] n part each low is = absurd (omega arith)
concat-set size (first ∷ parts) zero part each low is =
    let none : 0 * size ≡ 0 = omega arith in
    let all : 0 + length part ≡ size = omega arith in
    rw (none, all) (ap (λ rest. part ++ rest) (drop_at first (concat parts) size (each 0 (omega arith))))
concat-set size (first ∷ parts) (suc n) part each low is =
    let place : suc n * size ≡ length first + n * size = let here = each 0 (omega arith) in omega arith in
    ap (λ at. with_piece at part (first ++ concat parts)) place
    ∙ with_piece-behind first (n * size) part (concat parts)
    ∙ ap (λ rest. first ++ rest) (concat-set size parts n part (λ k inside. each (suc k) (omega arith)) (omega arith) is)

-- ---- for callers

-- Pieces kept apart are those of the section that they make, joined.
pub HasPieces-joined : (shape : Shape) (n : ℕ) (meta : List ℕ) (parts : List (List ℕ)) → HasEntries shape → n < section_entries shape
    → length meta ≡ 4096 → length parts ≡ section_entries shape
    → ((k : ℕ) → k < length parts → length (get_or parts k []) ≡ 512 * shape.spb)
    → HasPieces shape n meta (get_or parts n []) (joined meta parts)
HasPieces-joined shape n meta parts has low size count each =
    let sectors = has.sectors_is in
    let start : 512 * (8 + n * shape.spb) ≡ 4096 + n * (512 * shape.spb) = omega arith in
    let long = length-concat (512 * shape.spb) parts each in
    let all : length parts * (512 * shape.spb) ≡ section_entries shape * (512 * shape.spb) = ap (λ k. k * (512 * shape.spb)) count in
    record {
      size = omega (arith, length-append meta (concat parts));
      meta_are = take_at meta (concat parts) 4096 size;
      parts_are =
          ap (λ at. piece (meta ++ concat parts) at (512 * shape.spb)) start
          ∙ ap (take (512 * shape.spb)) (sym (drop-drop (n * (512 * shape.spb)) 4096 (meta ++ concat parts)) ∙ ap (drop (n * (512 * shape.spb))) (drop_at meta (concat parts) 4096 size))
          ∙ piece-concat (512 * shape.spb) parts n each (omega arith);
    }

-- With a put into two of them they make the section that the put leaves.
pub with_pieces-joined : (shape : Shape) (n : ℕ) (meta new : List ℕ) (parts : List (List ℕ)) (part : List ℕ) → n < length parts
    → length meta ≡ 4096 → ((k : ℕ) → k < length parts → length (get_or parts k []) ≡ 512 * shape.spb) → length part ≡ 512 * shape.spb
    → with_pieces shape n new part (joined meta parts) ≡ joined new (set parts n part)
with_pieces-joined shape n meta new parts part low size each size_part =
    let place : 512 * (n * shape.spb) ≡ n * (512 * shape.spb) = omega arith in
    ap (λ rest. new ++ rest)
    (ap (with_piece (512 * (n * shape.spb)) part) (drop_at meta (concat parts) 4096 size)
    ∙ ap (λ at. with_piece at part (concat parts)) place
    ∙ concat-set (512 * shape.spb) parts n part each low size_part)
