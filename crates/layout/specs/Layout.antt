-- What a contract sees of a `Layout`, and how a geometry gives one back.
use Rattle.std.specs.Prelude.{◌≡◌, ℕ, ◌^◌, ◌<◌, ◌≤◌}
use Rattle.std.proofs.Common.{sym}
use Rattle.std.specs.Int.{IsInRange}
use Rattle.image_model.specs.Geometry.{Geometry, Shape as SectionShape, entry_size, entries_per_sector, section_entries, section_sectors, layout_of, journal_sectors, IsGeometry}
use Rattle.image_model.specs.Superblock.{Superblock}
use Rattle.commit_id.specs.declared.shape.Shape.{Shape}
use Rattle.commit_id.specs.Shape.{as_shape, IsShape}
use Rattle.layout.specs.declared.layout.Layout.{Layout}

-- The geometry.
abbrev pub as_geometry : Layout → Geometry
as_geometry layout = record {
  shape = as_shape layout.shape;
  sections = layout.sections;
  interleave = layout.interleave;
  tag_run = layout.tag_run;
  blocks = layout.blocks;
  log2_region = layout.log2_region;
}

-- The numbers are those of some fields, so that what is computed of them has room.
pub record IsLayout (layout : Layout) : Type 0 where
  pub shape : IsShape layout.shape
  pub interleave : IsInRange 8 (2 ^ 31) layout.interleave
  pub tag_run : layout.tag_run ≤ 2 ^ 32
  pub journal : journal_sectors (as_geometry layout) < 2 ^ 41

-- The geometry is one on some disk.
pub record FitsADisk (layout : Layout) : Type 0 where
  pub numbers : IsLayout layout
  pub geometry : IsGeometry (as_geometry layout) (2 ^ 48)

-- The geometry is that of the fields, and disk and journal have no more sectors than they may.
pub record IsWithinLimits (s : Superblock) (sectors : ℕ) (g : Geometry) : Type 0 where
  pub geometry : g ≡ layout_of s
  pub device : sectors ≤ 2 ^ 48
  pub journal : journal_sectors g ≤ 2 ^ 20

-- The shape of a section with all its numbers.
abbrev pub full_shape : SectionShape → Shape
full_shape shape = record {
  spb = shape.spb;
  tag = shape.tag_size;
  entry = entry_size shape;
  per_sector = entries_per_sector shape;
  entries = section_entries shape;
  sectors = section_sectors shape;
}

-- The layout of a geometry.
abbrev pub as_layout : Geometry → Layout
as_layout g = record {
  shape = full_shape g.shape;
  sections = g.sections;
  interleave = g.interleave;
  tag_run = g.tag_run;
  blocks = g.blocks;
  log2_region = g.log2_region;
}

-- It is the layout whose geometry that is.
pub as_layout-as_geometry : (layout : Layout) → FitsADisk layout → as_layout (as_geometry layout) ≡ layout
as_layout-as_geometry layout fits i = record {
  shape = record {
    spb = layout.shape.spb;
    tag = layout.shape.tag;
    entry = sym fits.numbers.shape.entry i;
    per_sector = sym fits.numbers.shape.per_sector i;
    entries = sym fits.numbers.shape.entries i;
    sectors = sym fits.numbers.shape.sectors i;
  };
  sections = layout.sections;
  interleave = layout.interleave;
  tag_run = layout.tag_run;
  blocks = layout.blocks;
  log2_region = layout.log2_region;
}
