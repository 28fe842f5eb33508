-- The fresh disk of eight blocks, by events that change nothing of it: requests that are not served, actors that are idle, and a
-- device that does not work any more. No law of these speaks of nothing.
use Rattle.std.proofs.Common.{◌≡◌, ◌≢◌, true, false, refl, None, [], ◌∷◌, replicate}
use Rattle.image_model.specs.Bitmap.{is_bit_set}
use Rattle.image_model.specs.Geometry.{bitmap_sectors_for, regions, regions_for}
use Rattle.device_model.specs.History.{BlockWrite}
use Rattle.device_model.specs.Mode.{Bitmap}
use Rattle.device_model.specs.Progress.{DeviceState, Working, Closed, Submit, Serve, Step, FailedServe, FailedClose, Commit, Clean, Recalc, Idle, only_answers, is_used, event_result, after_event, Event}
use Rattle.device_model.specs.Regions.{least_region}
use Rattle.device_model.specs.Request.{Request, Asked, newly_asked}
use Rattle.device_model.specs.Submission.{Submission}
use Rattle.place_model.specs.Opened.{opened_on}
use Rattle.place_model.proofs.WorkedDisk.{bitmap_format, fresh_bitmap}
use Rattle.journal_laws.specs.EventLaws.{IsServed, next_write}
use Rattle.bitmap_model.specs.BitmapDisk.{BitmapDisk}
use Rattle.bitmap_model.proofs.WorkedDisk.{fresh}
use Rattle.bitmap_laws.specs.Device.{IsBitmapDevice, with_block, with_regions}
use Rattle.bitmap_laws.specs.EventLaws.{may_be_cleared}
use Rattle.bitmap_laws.proofs.DeviceLemmas.{other_regions_law}
use Rattle.bitmap_laws.proofs.EventLemmas.{stopped_law, quiet_events_law, unserved_law, held_law, serve_write_law, clean_idle_law, recalc_idle_law, idle_law, event_law}
use Rattle.bitmap_laws.proofs.WorkedServe.{format, IsBitmapDevice-fresh}

abbrev at_start : DeviceState
at_start = opened_on Bitmap bitmap_format fresh_bitmap

-- Whatever happens it is one on some disk of the same format.
pub after-any : (event : Event) → (then_ : BitmapDisk) × (then_.format ≡ bitmap_format) × IsBitmapDevice format (after_event format at_start event) then_
after-any event = event_law format at_start event fresh IsBitmapDevice-fresh

-- ---- actors

-- No bit is set, so none may be cleared,
least-clean : least_region (regions bitmap_format.geometry) (may_be_cleared fresh (is_used format at_start.progress.requests)) ≡ None
unfolding is_bit_set bitmap_sectors_for regions_for
least-clean = refl

pub clean-idle : event_result format at_start (Step Clean) ≡ only_answers at_start.progress Idle
clean-idle = clean_idle_law format at_start fresh IsBitmapDevice-fresh refl least-clean

-- no region awaits,
least-awaiting : least_region (regions bitmap_format.geometry) fresh.awaiting ≡ None
unfolding is_bit_set bitmap_sectors_for regions_for
least-awaiting = refl

pub recalc-idle : event_result format at_start (Step Recalc) ≡ only_answers at_start.progress Idle
recalc-idle = recalc_idle_law format at_start fresh IsBitmapDevice-fresh refl least-awaiting

-- and nothing is ever committed.
pub commit-idle : event_result format at_start (Step Commit) ≡ only_answers at_start.progress Idle
commit-idle = idle_law format at_start fresh Commit IsBitmapDevice-fresh refl (λ e. let wrong : Commit ≡ Clean = e in cc) (λ e. let wrong : Commit ≡ Recalc = e in cc)

-- ---- two requests for block 5

abbrev write : Submission
write = Submission.Write 5 1 (replicate 512 0xaa) false

abbrev written : DeviceState
written = after_event format at_start (Submit write)

abbrev both : DeviceState
both = after_event format written (Submit (Submission.Read 5 1 (replicate 512 7)))

IsBitmapDevice-written : IsBitmapDevice format written fresh
IsBitmapDevice-written = quiet_events_law format at_start (Submit write) fresh IsBitmapDevice-fresh tt

IsBitmapDevice-both : IsBitmapDevice format both fresh
IsBitmapDevice-both = quiet_events_law format written (Submit (Submission.Read 5 1 (replicate 512 7))) fresh IsBitmapDevice-written tt

-- The read is held by the write before it.
pub IsBitmapDevice-held : IsBitmapDevice format (after_event format both (Serve 2)) fresh × IsBitmapDevice format (after_event format both (FailedServe 2)) fresh
IsBitmapDevice-held = held_law format both fresh 1 1 (newly_asked (Request.Read 5 1) (replicate 512 7)) IsBitmapDevice-both refl refl

-- ---- a request that is done

abbrev asked : Asked
asked = newly_asked (Request.Write 5 (replicate 512 0xaa ∷ []) false) (replicate 512 0xaa)

IsServed-write : IsServed written 0 asked
IsServed-write = record { works = refl; there = refl; unfinished = refl; unheld = refl }

abbrev served : DeviceState
served = after_event format written (Serve 1)

abbrev block : BlockWrite
block = next_write 0 5 (replicate 512 0xaa ∷ []) 0

-- The write is served with its one block.
IsBitmapDevice-served : IsBitmapDevice format served (with_block fresh block)
IsBitmapDevice-served = (serve_write_law format written fresh 0 asked 5 (replicate 512 0xaa ∷ []) false IsBitmapDevice-written IsServed-write refl).1

-- A second serve of it does nothing.
pub IsBitmapDevice-done : IsBitmapDevice format (after_event format served (Serve 1)) (with_block fresh block) × IsBitmapDevice format (after_event format served (FailedServe 1)) (with_block fresh block)
IsBitmapDevice-done = unserved_law format served (with_block fresh block) 1 IsBitmapDevice-served refl

-- ---- a device that is closed

-- The disk failed as it was closed.
abbrev closed : DeviceState
closed = after_event format at_start FailedClose

IsBitmapDevice-closed : IsBitmapDevice format closed fresh
IsBitmapDevice-closed = quiet_events_law format at_start FailedClose fresh IsBitmapDevice-fresh tt

not_working : closed.condition ≢ Working
not_working e = let wrong : Closed ≡ Working = e in cc

-- No event does anything of it,
pub IsBitmapDevice-stopped : IsBitmapDevice format (after_event format closed (Step Clean)) fresh
IsBitmapDevice-stopped = stopped_law format closed (Step Clean) fresh IsBitmapDevice-closed not_working

-- and its regions may be any, such as all, since the close may have cleared some bits.
pub IsBitmapDevice-other_regions : IsBitmapDevice format closed (with_regions fresh (λ r. true) (λ r. true) (λ r. true))
IsBitmapDevice-other_regions = other_regions_law format closed fresh (λ r. true) (λ r. true) (λ r. true) IsBitmapDevice-closed not_working refl
