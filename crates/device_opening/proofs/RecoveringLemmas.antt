-- A recovery is entered behind the first sync.
use Rattle.std.proofs.Common.{◌≡◌, ℕ, false, refl, sym, subst, Some, List}
use Rattle.disk_model.specs.Disk.{Content, EachImage, last_image, newest_only}
use Rattle.disk_model.specs.Identity.{DiskIdentity}
use Rattle.disk_model.specs.Moments.{EachMoment, EachSince, content_now}
use Rattle.disk_model.proofs.DiskLemmas.{newest_only-pending}
use Rattle.disk_model.proofs.MomentsLemmas.{EachMoment-weaker}
use Rattle.image_model.specs.declared.flags.TheConstants.{DIRTY_BITMAP}
use Rattle.image_model.specs.Superblock.{has_flag}
use Rattle.place_model.specs.Format.{DiskFormat, HasCells, OpensAs, cells_on}
use Rattle.place_model.proofs.FirstSyncLemmas.{newest_only-cells}
use Rattle.image_format.specs.declared.reading.ImageFormat.{ImageFormat}
use Rattle.buffer_cache.specs.Cached.{HasNoMark}
use Rattle.buffer_cache.specs.HeldSectors.{no_sectors}
use Rattle.tag_store.specs.Store.{Store}
use Rattle.journal_mode.specs.Recovery.{EntersRecovery}
use Rattle.device_opening.specs.declared.judging.JudgedImage.{JudgedImage}
use Rattle.device_opening.specs.Judged.{judged_format}
use Rattle.device_opening.proofs.MomentsLemmas.{each_from}

-- A store over a cache that holds nothing.
abbrev pub fresh_store : ImageFormat → (slots : ℕ) → Store
fresh_store format slots = record { geometry = format.geometry; sectors = no_sectors slots }

module _ (image : JudgedImage) (disk mid : DiskIdentity) (same : mid ≡ disk) (store : Store) (slots : ℕ) (is : store ≡ fresh_store image.format slots)
    (clear : has_flag DIRTY_BITMAP image.format.fields.flags ≡ false) (start : Content) (opens : OpensAs (judged_format disk.sectors image) (last_image start)) where
  enters_fresh : EntersRecovery (judged_format disk.sectors image) disk.sectors (fresh_store image.format slots) (newest_only start)
  enters_fresh = record {
    sectors_are = refl;
    geometry = refl;
    opens = opens;
    no_bitmap = clear;
    pending = newest_only-pending start;
    fresh = refl;
  }

  pub enters : EntersRecovery (judged_format disk.sectors image) mid.sectors store (newest_only start)
  enters =
      subst (λ (i : DiskIdentity). EntersRecovery (judged_format disk.sectors image) i.sectors store (newest_only start)) (sym same)
      (subst (λ (s : Store). EntersRecovery (judged_format disk.sectors image) disk.sectors s (newest_only start)) (sym is) enters_fresh)

-- The sync of an image that can be opened leaves its cells.
pub sync_cells : (f : DiskFormat) (start : Content) {a b : List Content} → content_now a ≡ Some start → OpensAs f (last_image start) → EachSince (λ start c. c ≡ newest_only start) a b
    → EachMoment a b (EachImage (HasCells f (cells_on f (last_image start))))
sync_cells f start told opens m =
    EachMoment-weaker (λ c is. subst (EachImage (HasCells f (cells_on f (last_image start)))) (sym is) (newest_only-cells f start opens))
    (each_from (λ start c. c ≡ newest_only start) start told m)

-- A fresh store has nothing that is still to be written.
pub fresh_unmarked : (format : ImageFormat) (store : Store) (slots : ℕ) → store ≡ fresh_store format slots → HasNoMark store.sectors
fresh_unmarked format store slots is = subst (λ (s : Store). HasNoMark s.sectors) (sym is) (record { none = λ sector. refl })
