-- What holds of the places that a `Shape` gives.
use Rattle.std.proofs.Common.{ℕ, ◌+◌, ◌*◌, ◌/◌, ◌<◌, ◌≤◌, arith}
use Rattle.commit_id.specs.declared.shape.Shape.{Shape}
use Rattle.commit_id.specs.Shape.{as_shape, IsShape}
use Rattle.commit_id.proofs.ShapeLemmas.{shape_holds}
use Rattle.image_model.specs.Geometry.{section_entries}
use Rattle.journal_section.proofs.PlaceLemmas.{entry_fits, parts_fit}

-- An entry of a shape is one of the section's.
pub entry_low : (shape : Shape) (n : ℕ) → IsShape shape → n < shape.entries → n < section_entries (as_shape shape)
entry_low shape n is low = let entries = is.entries in omega arith

-- It ends before the commit id of its sector.
pub entry_in_sector : (shape : Shape) (n : ℕ) → IsShape shape → n < shape.entries → n / 8 * shape.entry + shape.entry ≤ 504
entry_in_sector shape n is low =
    rw is.entry (entry_fits (as_shape shape) n (shape_holds shape is).2 (entry_low shape n is low))

-- ---- for callers

-- A section has few enough sectors that each can be told by a commit id.
pub sectors_few : (shape : Shape) → IsShape shape → shape.sectors ≤ 504
sectors_few shape is =
    let holds = (shape_holds shape is).2 in
    let most = holds.sectors_high in
    let sectors = is.sectors in
    omega arith

-- The data sectors of an entry lie behind the metadata and end within the section.
pub parts_end : (shape : Shape) (n : ℕ) → IsShape shape → n < shape.entries
    → 4096 + 512 * shape.spb * n + 512 * shape.spb ≤ 512 * shape.sectors
parts_end shape n is low =
    let sectors = is.sectors in
    let fits = parts_fit (as_shape shape) n (shape_holds shape is).2 (entry_low shape n is low) in
    omega arith
