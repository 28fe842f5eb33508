-- What holds of every geometry that the fields give on a disk.
use Rattle.std.specs.Prelude.{◌≡◌, ◌≢◌, ◌⊎◌, ℕ, ◌+◌, ◌-◌, ◌*◌, ◌%◌, ◌^◌, ◌<◌, ◌≤◌, ⊤, IsTrue, ◌↔◌, Ok, Err}
use Rattle.image_model.specs.declared.flags.TheConstants.{DIRTY_BITMAP}
use Rattle.image_model.specs.Superblock.{Superblock, has_flag, HasLayout, IsAccepted}
use Rattle.image_model.specs.Geometry.{Geometry, IsGeometry, section_sectors, layout_of, section_at, journal_sectors, sector_at, data_at, tag_at, bitmap_sectors, bitmap_sectors_for, fitting_log2_region, geometry_of, best_provided_of}
use Rattle.image_model.specs.declared.geom_fault.GeomFault.TheVariants.{TooSmall}

-- The geometry of the fields has room on a disk of so many sectors.
pub record FitsDisk (s : Superblock) (sectors : ℕ) : Type 0 where
  pub device : sectors ≤ 2 ^ 48
  pub journal : journal_sectors (layout_of s) ≤ 2 ^ 20
  pub last : sector_at (layout_of s) (s.provided - 1) < sectors
  pub bitmap : IsTrue (has_flag DIRTY_BITMAP s.flags) → bitmap_sectors (layout_of s) ≤ journal_sectors (layout_of s)

-- A geometry is given exactly where it is the fields' own and has room.
abbrev pub GivenLaw : Type 0
GivenLaw = (s : Superblock) (sectors : ℕ) (g : Geometry) → (geometry_of s sectors ≡ Ok g) ↔ ((g ≡ layout_of s) × FitsDisk s sectors)

-- What takes bytes of the disk: the superblock, a section of the journal, and of each block its tag and its data.
pub data Part : Type 0 where
  Head : Part
  Section : ℕ → Part
  TagOf : ℕ → Part
  DataOf : ℕ → Part

-- There is such a part.
abbrev pub IsPart : Geometry → Part → Type 0
IsPart g Head = ⊤
IsPart g (Section i) = i < g.sections
IsPart g (TagOf b) = b < g.blocks
IsPart g (DataOf b) = b < g.blocks

-- Its first byte on the disk.
abbrev pub first_byte : Geometry → Part → ℕ
first_byte g Head = 0
first_byte g (Section i) = 512 * section_at g i
first_byte g (TagOf b) = 512 * (tag_at g b).sector + (tag_at g b).byte
first_byte g (DataOf b) = 512 * data_at g b

-- The byte behind its last one.
abbrev pub end_byte : Geometry → Part → ℕ
end_byte g Head = 512 * 8
end_byte g (Section i) = first_byte g (Section i) + 512 * section_sectors g.shape
end_byte g (TagOf b) = first_byte g (TagOf b) + g.shape.tag_size
end_byte g (DataOf b) = first_byte g (DataOf b) + 512 * g.shape.spb

-- Each part is on the disk of so many sectors, and any two lie apart.
pub record LiesApart (g : Geometry) (sectors : ℕ) : Type 0 where
  pub inside : (p : Part) → IsPart g p → end_byte g p ≤ 512 * sectors
  pub apart : (p q : Part) → IsPart g p → IsPart g q → p ≢ q → (end_byte g p ≤ first_byte g q) ⊎ (end_byte g q ≤ first_byte g p)

-- Accepted fields give a geometry whose parts lie apart.
abbrev pub ApartLaw : Type 0
ApartLaw = (s : Superblock) (sectors : ℕ) (g : Geometry) → IsAccepted s → geometry_of s sectors ≡ Ok g
    → IsGeometry g sectors × LiesApart g sectors

-- The least log2_region, not below the geometry's, whose bitmap fits the journal's sectors.
pub record IsFitting (g : Geometry) (log2_region : ℕ) : Type 0 where
  pub not_below : g.log2_region ≤ log2_region
  pub fits : bitmap_sectors_for g.blocks log2_region ≤ journal_sectors g
  pub least : (k : ℕ) → g.log2_region ≤ k → bitmap_sectors_for g.blocks k ≤ journal_sectors g → log2_region ≤ k

-- The fitting log2_region of a geometry is that one.
abbrev pub FittingLaw : Type 0
FittingLaw = (g : Geometry) (sectors : ℕ) → IsGeometry g sectors → IsFitting g (fitting_log2_region g)

-- The greatest multiple of 8 above 0 whose last sector's data lie on a disk of so many sectors.
pub record IsBestProvided (s : Superblock) (sectors best : ℕ) : Type 0 where
  pub some : 1 ≤ best
  pub eights : best % 8 ≡ 0
  pub fits : sector_at (layout_of s) (best - 1) < sectors
  pub greatest : (n : ℕ) → 1 ≤ n → n % 8 ≡ 0 → sector_at (layout_of s) (n - 1) < sectors → n ≤ best
  pub accepted : IsAccepted (record s { provided = best })

-- The sectors that are told for a new image are that many.
abbrev pub BestProvidedLaw : Type 0
BestProvidedLaw = (s : Superblock) (sectors best : ℕ) → HasLayout s → best_provided_of s sectors ≡ Ok best → IsBestProvided s sectors best

-- Where the disk is told to be too small, it has room for no such multiple.
abbrev pub NoneProvidedLaw : Type 0
NoneProvidedLaw = (s : Superblock) (sectors have need : ℕ) → HasLayout s → best_provided_of s sectors ≡ Err (TooSmall have need)
    → (n : ℕ) → 1 ≤ n → n % 8 ≡ 0 → sectors ≤ sector_at (layout_of s) (n - 1)
