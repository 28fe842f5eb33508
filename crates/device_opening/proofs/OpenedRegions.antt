-- What is kept of the regions of an image without a bitmap is that of the device that has just been opened on it.
use Rattle.std.proofs.Common.{◌≡◌, ℕ, ◌<◌, true, false, ◌∙◌}
use Rattle.disk_model.specs.Disk.{Image}
use Rattle.image_model.specs.declared.flags.TheConstants.{DIRTY_BITMAP}
use Rattle.image_model.specs.Bitmap.{is_to_recalculate}
use Rattle.image_model.specs.Geometry.{region_of}
use Rattle.image_model.specs.Superblock.{has_flag}
use Rattle.image_model.proofs.BitmapLemmas.{awaits-journal, region_awaits-block}
use Rattle.device_model.specs.Mode.{Direct, Journal}
use Rattle.place_model.specs.Format.{DiskFormat}
use Rattle.place_model.specs.Opened.{awaiting_on}
use Rattle.direct_model.specs.DirectDisk.{DirectDisk}
use Rattle.direct_laws.specs.Device.{MayAwait}
use Rattle.recalculate_laws.specs.Formats.{HasWork}
use Rattle.recalculation.specs.declared.recalculating.Recalculation.{Recalculation}
use Rattle.recalculation.specs.Recalculation.{IsRecalculationOf}
use Rattle.recalculation.proofs.KeptLemmas.{recalculation_opened}
use Rattle.recalculation.proofs.LawsLemmas.{opened_position_law}
use Rattle.device_opening.specs.Opening.{IsRecalculationFor}

-- A region that has work may await on a disk of the format.
pub work_awaits : (d : DirectDisk) (region : ℕ) → HasWork d.format region → MayAwait d region
work_awaits d region has = record { block = has.block; inside = has.inside; is = has.is; to_recalculate = has.to_recalculate }

module _ (f : DiskFormat) (image : Image) (clear : has_flag DIRTY_BITMAP f.superblock.flags ≡ false) where
  -- The region of a block that is to be recalculated awaits.
  pub region_opened : (b : ℕ) → b < f.geometry.blocks → is_to_recalculate f.superblock f.geometry b ≡ true → awaiting_on Direct f image (region_of f.geometry b) ≡ true
  region_opened b low is = region_awaits-block f.superblock f.geometry image b low (awaits-journal f.superblock f.geometry image b clear ∙ is)

  module _ (r : Recalculation) (begins : IsRecalculationFor f.superblock f.geometry r) where
    -- In memory those regions await that do in the image: in journal mode
    pub journal_regions : IsRecalculationOf f.superblock f.geometry (awaiting_on Journal f image) r
    journal_regions =
        recalculation_opened f.superblock f.geometry (awaiting_on Journal f image) r begins.awaiting begins.position
        (λ region low. begins.awaiting.regions_ region low ∙ (opened_position_law f.superblock f.geometry image clear).0 region low)

    -- as in direct mode.
    pub direct_regions : IsRecalculationOf f.superblock f.geometry (awaiting_on Direct f image) r
    direct_regions =
        recalculation_opened f.superblock f.geometry (awaiting_on Direct f image) r begins.awaiting begins.position
        (λ region low. begins.awaiting.regions_ region low ∙ (opened_position_law f.superblock f.geometry image clear).0 region low)
