-- Sectors of the bitmap in which the bits of new regions are cleared so far.
use Rattle.std.specs.Prelude.{ℕ, ◌+◌, ◌/◌, ◌<◌, ◌≤◌, List}
use Rattle.disk_model.specs.Disk.{Content, Image}
use Rattle.image_model.specs.Geometry.{quotient_up, regions}
use Rattle.resize_model.specs.CallLaws.{StandsThrough}
use Rattle.image_model.specs.declared.sizes.TheConstants.{SECTOR_BITS}
use Rattle.image_resizing.specs.declared.room.TheConstants.{RUN_SECTORS}
use Rattle.image_resizing.specs.declared.planning.Plan.{Plan}
use Rattle.image_resizing.specs.Filled.{HasFilledOn}
use Rattle.image_resizing.specs.Plan.{growth_of}

-- The first sector of the bitmap that may have a bit of a new region,
abbrev pub bits_begin : Plan → ℕ
bits_begin plan = regions plan.present.geometry / SECTOR_BITS

-- and the first behind all that have one.
abbrev pub bits_end : Plan → ℕ
bits_end plan = quotient_up (regions plan.grown.geometry) SECTOR_BITS

-- So many sectors of the bitmap, from one on, have bits of new regions and none of an old one, and are cleared at once.
pub record IsNewRun (plan : Plan) (next count : ℕ) : Type 0 where
  pub behind : bits_begin plan < next
  pub some : 1 ≤ count
  pub most : count ≤ RUN_SECTORS
  pub inside : next + count ≤ bits_end plan

-- A call clears the bits in sectors of the bitmap up to another one, whatever blocks have their zeros and their tags.
abbrev pub ClearsSectors : (sectors : ℕ) → Plan → (groups groups_then : ℕ) → (before after : List Content) → Type 0
ClearsSectors sectors plan groups groups_then before after = (image : Image) (done : ℕ)
    → HasFilledOn sectors plan image done done groups before
    → HasFilledOn sectors plan image done done groups_then after

-- At each of its moments the disk stands for the same.
abbrev pub StandsClearing : (sectors : ℕ) → Plan → (groups : ℕ) → (before after : List Content) → Type 0
StandsClearing sectors plan groups before after = (image : Image) (done : ℕ)
    → HasFilledOn sectors plan image done done groups before
    → StandsThrough (growth_of sectors plan image) before after
