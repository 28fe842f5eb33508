-- What a `Shape` stands for, and which values are shapes.
use Rattle.std.specs.Prelude.{◌≡◌, ℕ, ◌^◌, ◌≤◌}
use Rattle.std.specs.Int.{IsInRange}
use Rattle.image_model.specs.Geometry.{Shape as SectionShape, entry_size, entries_per_sector, section_entries, section_sectors}
use Rattle.commit_id.specs.declared.shape.Shape.{Shape}

-- The sectors of a block and the bytes of a tag, from which all else of a section follows.
abbrev pub as_shape : Shape → SectionShape
as_shape shape = record { spb = shape.spb; tag_size = shape.tag }

-- A shape is one for blocks of 1, 2, 4 or 8 sectors and tags of 1 to 32 bytes, and its other fields follow from these.
pub record IsShape (shape : Shape) : Type 0 where
  pub log2_spb : (log2 : ℕ) × (log2 ≤ 3) × (shape.spb ≡ 2 ^ log2)
  pub tag : IsInRange 1 32 shape.tag
  pub entry : shape.entry ≡ entry_size (as_shape shape)
  pub per_sector : shape.per_sector ≡ entries_per_sector (as_shape shape)
  pub entries : shape.entries ≡ section_entries (as_shape shape)
  pub sectors : shape.sectors ≡ section_sectors (as_shape shape)
