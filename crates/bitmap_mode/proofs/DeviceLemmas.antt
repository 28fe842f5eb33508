-- What the calls leave of a device in bitmap mode, for the layers above.
use Rattle.std.proofs.Common.{◌≡◌, ◌⊎◌, inl, inr, ⊎_elim, ℕ, suc, ◌+◌, ◌<◌, Bool, false, refl, sym, ◌∙◌, ap, subst, List, length, Option, Some}
use Rattle.disk_model.specs.Disk.{Content, Image}
use Rattle.disk_model.specs.Moments.{HasNow}
use Rattle.image_model.specs.Cells.{Cell}
use Rattle.image_model.specs.Geometry.{Geometry, regions}
use Rattle.device_model.specs.History.{cells_now}
use Rattle.device_model.specs.Mode.{DeviceFormat}
use Rattle.device_model.specs.Progress.{Clean, Close, DeviceState, FailedClose, FailedServe, FailedStep, Recalc, Serve, Step, Working, is_flushed_by, is_used}
use Rattle.device_model.specs.Regions.{least_region}
use Rattle.device_model.specs.Reply.{block_reply}
use Rattle.device_model.specs.Request.{Asked, Flush, Read, Write}
use Rattle.device_model.specs.Serial.{readable_cells}
use Rattle.journal_laws.specs.EventLaws.{IsServed, next_write}
use Rattle.journal_laws.specs.RegionLaws.{AreRegions}
use Rattle.place_model.specs.Format.{tagger_of}
use Rattle.bitmap_model.specs.BitmapDisk.{BitmapDisk}
use Rattle.bitmap_model.specs.Steps.{after_flush, after_recalculation, with_clear}
use Rattle.bitmap_laws.specs.CallLaws.{StandsThrough}
use Rattle.bitmap_laws.specs.Device.{IsBitmapDevice, with_block, with_regions}
use Rattle.bitmap_laws.specs.EventLaws.{after_block, after_read, may_be_cleared}
use Rattle.bitmap_laws.specs.MomentLaws.{HasBlocksOf}
use Rattle.bitmap_laws.specs.ServeLaws.{KeepsDevice}
use Rattle.bitmap_laws.proofs.CallLemmas.{block_read_law}
use Rattle.bitmap_laws.proofs.CloseLemmas.{failed_clear_close_law, served_close_law}
use Rattle.bitmap_laws.proofs.LeastLemmas.{least_law}
use Rattle.bitmap_laws.proofs.ServeLemmas.{cleaned_law, failed_block_law, failed_dirty_law, failed_region_law, recalculated_law, served_block_law, served_flush_law, served_read_law}
use Rattle.tag_store.specs.Store.{Store, given_tags}
use Rattle.bitmap_mode.specs.Cleaning.{may_be_cleaned}
use Rattle.bitmap_mode.specs.Closing.{HasClosed, closed_disk}
use Rattle.bitmap_mode.specs.Reading.{HasRead}
use Rattle.bitmap_mode.specs.Standing.{MayTurnInto, StandsAs}
use Rattle.bitmap_mode.specs.States.{States, counts_of}
use Rattle.bitmap_mode.specs.Writing.{HasWritten}

-- ---- the regions that are chosen

module _ (d : BitmapDisk) (s : States) (there : d.geometry ≡ s.geometry) (are : AreRegions (counts_of s) d) where
  -- The least region to clean is that of the disk, where those are held that requests use,
  pub clean_chosen : (held used : ℕ → Bool) (o : Option ℕ) → ((r : ℕ) → r < regions s.geometry → held r ≡ used r) → o ≡ least_region (regions s.geometry) (may_be_cleaned (counts_of s) held)
      → least_region (regions d.geometry) (may_be_cleared d used) ≡ o
  clean_chosen held used o same is =
      least_law (regions d.geometry) (may_be_cleared d used) (may_be_cleaned (counts_of s) held)
      (λ r low.
      rw (← are.set_bits r low, ← are.awaiting r low, ← are.fresh r low, ← same r (subst (λ (y : Geometry). r < regions y) there low)) refl)
      ∙ ap (λ (y : Geometry). least_region (regions y) (may_be_cleaned (counts_of s) held)) there
      ∙ sym is

  -- and so is the least one that awaits.
  pub recalculated_chosen : (o : Option ℕ) → o ≡ least_region (regions s.geometry) (counts_of s).awaiting → least_region (regions d.geometry) d.awaiting ≡ o
  recalculated_chosen o is =
      least_law (regions d.geometry) d.awaiting (counts_of s).awaiting (λ r low. sym (are.awaiting r low))
      ∙ ap (λ (y : Geometry). least_region (regions y) (counts_of s).awaiting) there ∙ sym is

-- ---- serves, steps and a close

module _ (f : DeviceFormat) (s : DeviceState) (d : BitmapDisk) (entry : Image) (marked : ℕ → Bool) (is : IsBitmapDevice f s d) (opened : HasBlocksOf entry d) (regions_ : States) (store : Store) (a b : List Content) where
  module _ (k : ℕ) (r : Asked) (served : IsServed s k r) where
    module _ (first : ℕ) (blocks : List (List ℕ)) (fua : Bool) (request : r.request ≡ Write first blocks fua) where
      -- A block was written,
      pub wrote : HasWritten d marked (next_write k first blocks r.served) (is_flushed_by r blocks fua) regions_ store a b
          → KeepsDevice f s (Serve (suc k)) entry d (after_block (is_flushed_by r blocks fua) (next_write k first blocks r.served) d) a b
      wrote has = served_block_law f s d k r first blocks fua entry marked (given_tags store) a has.through.middle b is opened served request has.through.first has.through.rest has.stands.now

      -- or the disk failed in it, with the bit of its region set or not.
      pub failed_to_write : MayTurnInto d (with_block d (next_write k first blocks r.served)) marked a b
          → KeepsDevice f s (FailedServe (suc k)) entry d d a b ⊎ KeepsDevice f s (FailedServe (suc k)) entry d (with_block d (next_write k first blocks r.served)) a b
      failed_to_write may = ⊎_elim
          (λ through. inl (failed_dirty_law f s d k r first blocks fua entry marked a b is opened served request through))
          (λ turns. inr (failed_block_law f s d k r first blocks fua entry marked a turns.middle b is opened served request turns.first turns.rest)) may

    module _ (first count : ℕ) (request : r.request ≡ Read first count) where
      -- A block was read,
      pub read : (bytes tag : List ℕ) → HasRead d marked (first + r.served) bytes tag regions_ store a b → KeepsDevice f s (Serve (suc k)) entry d (after_read d (first + r.served)) a b
      read bytes tag has = (served_read_law f s d k r first count entry marked a has.through.middle b is opened served request has.through.first has.through.rest).0

      -- whose reply is that of the history,
      pub read_reply : (bytes tag : List ℕ) → HasRead d marked (first + r.served) bytes tag regions_ store a b → length bytes ≡ f.blocks.block_size
          → let cell : Cell = record { bytes = bytes; tag = tag } in let told = readable_cells f (cells_now f.blocks.tag s.history) (first + r.served) in
          HasNow (λ c. (told ≡ cell) × (block_reply f.blocks.tag (first + r.served) told ≡ block_reply (tagger_of d.format) (first + r.served) cell)) b
      read_reply bytes tag has size = block_read_law f s d k r first count marked (given_tags store) b bytes tag is served request has.stands.now size has.reads has.tag_

      -- or the disk failed in it.
      pub failed_to_read : MayTurnInto d (after_read d (first + r.served)) marked a b
          → KeepsDevice f s (FailedServe (suc k)) entry d d a b ⊎ KeepsDevice f s (FailedServe (suc k)) entry d (after_read d (first + r.served)) a b
      failed_to_read may = ⊎_elim
          (λ through. inl (failed_region_law f s d k r first count entry marked a b is opened served request through))
          (λ turns. inr (served_read_law f s d k r first count entry marked a turns.middle b is opened served request turns.first turns.rest).1) may

    -- All was flushed, or not.
    pub flushed : r.request ≡ Flush → StandsThrough d marked a b → StandsAs (after_flush d) marked regions_ store b → KeepsDevice f s (Serve (suc k)) entry d (after_flush d) a b
    flushed request through stands = (served_flush_law f s d k r entry marked (given_tags store) a b is opened served request through).1 stands.now

    pub failed_to_flush : r.request ≡ Flush → StandsThrough d marked a b → KeepsDevice f s (FailedServe (suc k)) entry d d a b
    failed_to_flush request through = (served_flush_law f s d k r entry marked (given_tags store) a b is opened served request through).0

  module _ (works : s.condition ≡ Working) where
    -- A bit was cleared, or that failed,
    pub cleaned : (region : ℕ) → least_region (regions d.geometry) (may_be_cleared d (is_used f s.progress.requests)) ≡ Some region → StandsThrough (with_clear d region) marked a b
        → KeepsDevice f s (Step Clean) entry d (with_clear d region) a b × KeepsDevice f s (FailedStep Clean) entry d (with_clear d region) a b
    cleaned region least through = cleaned_law f s d region entry marked a b is opened works least through

    -- a region was recalculated,
    pub recalculated : (region : ℕ) → least_region (regions d.geometry) d.awaiting ≡ Some region → StandsThrough d marked a b → StandsAs (after_recalculation d region) marked regions_ store b
        → KeepsDevice f s (Step Recalc) entry d (after_recalculation d region) a b
    recalculated region least through stands = recalculated_law f s d region entry marked (given_tags store) a b is opened works least through stands.now

    -- the device was closed,
    pub closed : HasClosed d marked regions_ store a b → KeepsDevice f s Close entry d (closed_disk d) a b
    closed has = served_close_law f s d entry marked (given_tags store) a has.through.middle b is opened works has.through.first has.through.rest has.stands.now

    -- or that failed behind its flush.
    pub failed_to_close : (m : List Content) → StandsThrough d marked a m → StandsThrough (closed_disk d) marked m b
        → KeepsDevice f s FailedClose entry d (with_regions d (closed_disk d).bits d.awaiting (λ region. false)) a b
    failed_to_close m first rest = failed_clear_close_law f s d entry marked a m b is opened works first rest
