-- Where the bitmap of a disk lies.
use Rattle.std.specs.Prelude.{ℕ, ◌≤◌}
use Rattle.image_model.specs.Geometry.{Geometry, IsGeometry, bitmap_sectors, journal_sectors}

-- All lies so on a disk of so many sectors, and the bitmap fits the place of the journal.
pub record HasBitmap (g : Geometry) (sectors : ℕ) : Type 0 where
  pub geometry : IsGeometry g sectors
  pub fits : bitmap_sectors g ≤ journal_sectors g
