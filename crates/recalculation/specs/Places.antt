-- Which blocks a region has, and which of them lie side by side on a disk.
use Rattle.std.specs.Prelude.{◌≡◌, ◌↔◌, ℕ, ◌+◌, ◌/◌, ◌%◌, ◌^◌, ◌<◌, ◌≤◌, Bool, min, nat_le}
use Rattle.std.specs.Int.{IsInRange}
use Rattle.image_model.specs.Geometry.{Geometry, IsGeometry, region_of}
use Rattle.image_model.specs.Superblock.{Superblock}
use Rattle.recalculation.specs.declared.places.Places.{Places}

-- The fields tell how large a block and an area are.
pub record TellsAreas (s : Superblock) : Type 0 where
  pub log2_interleave : IsInRange 3 31 s.log2_interleave
  pub log2_spb : s.log2_spb ≤ 3

-- No block below the first one awaits.
abbrev pub awaits_from : (first b : ℕ) → Bool
awaits_from first b = nat_le first b

-- The counts are those of the geometry, where a region has no more blocks than a device may have.
pub record IsPlaces (p : Places) : Type 0 where
  pub on_disk : IsGeometry p.geometry (2 ^ 48)
  pub blocks : p.blocks ≡ p.geometry.blocks
  pub of_area : p.of_area ≡ p.geometry.interleave / p.geometry.shape.spb
  pub of_region : p.of_region ≡ 2 ^ min p.geometry.log2_region 48

-- The blocks from `begin` on, before `end`, are those of the region that are not below the first one.
pub record IsSpan (g : Geometry) (first region begin end : ℕ) : Type 0 where
  pub inside : end ≤ g.blocks
  pub each : (b : ℕ) → b < g.blocks → ((region_of g b ≡ region) × (first ≤ b)) ↔ ((begin ≤ b) × (b < end))

-- So many blocks from the first on are in one area, where their data lie side by side.
abbrev pub IsSideBySide : Geometry → (first count : ℕ) → Type 0
IsSideBySide g first count =
    let of_area = g.interleave / g.shape.spb in first % of_area + count ≤ of_area
