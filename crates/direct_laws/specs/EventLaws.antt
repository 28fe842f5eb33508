-- What each event does to a device in direct mode.
use Rattle.std.specs.Prelude.{◌≡◌, ◌≢◌, ℕ, suc, ◌<◌, Bool, true, false, if◌then◌else◌, List, [], Some, slice_get}
use Rattle.image_model.specs.Bitmap.{is_to_recalculate}
use Rattle.image_model.specs.Geometry.{regions}
use Rattle.device_model.specs.History.{BlockWrite, Begun, with_change}
use Rattle.device_model.specs.Mode.{DeviceFormat}
use Rattle.device_model.specs.Progress.{DeviceState, Working, Event, Submit, Serve, Step, Take, Close, FailedServe, FailedStep, FailedClose, Actor, Recalc, Idle, Did, only_answers, is_flushed_by, serve_with, step_regions, event_result, after_event}
use Rattle.device_model.specs.Regions.{recalculated_region}
use Rattle.device_model.specs.Request.{Read, Write, Flush, Asked, asked_of, held_by, is_to_serve}
use Rattle.place_model.specs.Blocks.{IsBlockWrite}
use Rattle.journal_laws.specs.EventLaws.{IsServed, next_write}
use Rattle.direct_model.specs.DirectDisk.{DirectDisk}
use Rattle.direct_model.specs.Steps.{with_write, after_flush}
use Rattle.direct_laws.specs.Device.{IsDirectDevice, after_changes}

-- After any event the disk is the one after its changes,
abbrev pub EventLaw : Type 0
EventLaw = (f : DeviceFormat) (s : DeviceState) (event : Event) (d : DirectDisk) → IsDirectDevice f s d
    → IsDirectDevice f (after_event f s event) (after_changes (event_result f s event).changes d)

-- so the same one where there are none.
abbrev pub QuietLaw : Type 0
QuietLaw = (f : DeviceFormat) (s : DeviceState) (event : Event) (d : DirectDisk) → IsDirectDevice f s d
    → (event_result f s event).changes ≡ [] → IsDirectDevice f (after_event f s event) d

-- All events but serves, and a close that is done.
abbrev pub IsQuiet : Event → Type 0
IsQuiet (Submit submission) = Unit {0}
IsQuiet (Serve ticket) = ⊥
IsQuiet (Step actor) = Unit {0}
IsQuiet (Take ticket) = Unit {0}
IsQuiet Close = ⊥
IsQuiet (FailedServe ticket) = ⊥
IsQuiet (FailedStep actor) = Unit {0}
IsQuiet FailedClose = Unit {0}

-- These have none.
abbrev pub QuietEventsLaw : Type 0
QuietEventsLaw = (f : DeviceFormat) (s : DeviceState) (event : Event) (d : DirectDisk)
    → IsDirectDevice f s d → IsQuiet event → IsDirectDevice f (after_event f s event) d

-- ---- serve

-- Of a request that is not to be served, or is held, nothing is done.
abbrev pub UnservedLaw : Type 0
UnservedLaw = (f : DeviceFormat) (s : DeviceState) (d : DirectDisk) (ticket : ℕ) → IsDirectDevice f s d
    → is_to_serve (asked_of s.progress.requests ticket) ≡ false
    → IsDirectDevice f (after_event f s (Serve ticket)) d

abbrev pub HeldLaw : Type 0
HeldLaw = (f : DeviceFormat) (s : DeviceState) (d : DirectDisk) (k by : ℕ) (a : Asked)
    → IsDirectDevice f s d → slice_get s.progress.requests k ≡ Some a
    → held_by s.progress.requests k a.request ≡ Some by
    → IsDirectDevice f (after_event f s (Serve (suc k))) d

-- Any other is served: there is always room.
abbrev pub ServedLaw : Type 0
ServedLaw = (f : DeviceFormat) (s : DeviceState) (d : DirectDisk) (k : ℕ) (a : Asked)
    → IsDirectDevice f s d → IsServed s k a
    → event_result f s (Serve (suc k)) ≡ serve_with f s k a (Some s.progress.journal)

-- A read changes nothing of the disk.
abbrev pub ServeReadLaw : Type 0
ServeReadLaw = (f : DeviceFormat) (s : DeviceState) (d : DirectDisk) (k : ℕ) (a : Asked) (first count : ℕ)
    → IsDirectDevice f s d → IsServed s k a → a.request ≡ Read first count
    → IsDirectDevice f (after_event f s (Serve (suc k))) d

-- The disk after the write of a block, where that is to be flushed or not.
abbrev pub after_block : Bool → BlockWrite → DirectDisk → DirectDisk
after_block is_flushed write d = if is_flushed then after_flush (with_write d write) else with_write d write

-- A write writes its next block, a whole one of the device; the last one is flushed where that is asked.
abbrev pub ServeWriteLaw : Type 0
ServeWriteLaw = (f : DeviceFormat) (s : DeviceState) (d : DirectDisk) (k : ℕ) (a : Asked) (first : ℕ)
    (blocks : List (List ℕ)) (fua : Bool) → IsDirectDevice f s d → IsServed s k a
    → a.request ≡ Write first blocks fua → let write = next_write k first blocks a.served in
    IsBlockWrite d.geometry write × IsDirectDevice f (after_event f s (Serve (suc k)))
    (after_block (is_flushed_by a blocks fua) write d)

-- A flush flushes all,
abbrev pub ServeFlushLaw : Type 0
ServeFlushLaw = (f : DeviceFormat) (s : DeviceState) (d : DirectDisk) (k : ℕ) (a : Asked)
    → IsDirectDevice f s d → IsServed s k a → a.request ≡ Flush
    → IsDirectDevice f (after_event f s (Serve (suc k))) (after_flush d)

-- and so does a close.
abbrev pub CloseLaw : Type 0
CloseLaw = (f : DeviceFormat) (s : DeviceState) (d : DirectDisk) → IsDirectDevice f s d
    → s.condition ≡ Working → IsDirectDevice f (after_event f s Close) (after_flush d)

-- ---- steps

-- All actors are idle but the one that recalculates,
abbrev pub IdleLaw : Type 0
IdleLaw = (f : DeviceFormat) (s : DeviceState) (d : DirectDisk) (actor : Actor) → IsDirectDevice f s d
    → s.condition ≡ Working → actor ≢ Recalc
    → event_result f s (Step actor) ≡ only_answers s.progress Idle

-- and that one is where no block is to be recalculated,
abbrev pub RecalcIdleLaw : Type 0
RecalcIdleLaw = (f : DeviceFormat) (s : DeviceState) (d : DirectDisk) → IsDirectDevice f s d
    → s.condition ≡ Working
    → ((b : ℕ) → b < d.geometry.blocks → is_to_recalculate d.superblock d.geometry b ≡ false)
    → event_result f s (Step Recalc) ≡ only_answers s.progress Idle

-- and else takes a region that awaits.
abbrev pub RecalcLaw : Type 0
RecalcLaw = (f : DeviceFormat) (s : DeviceState) (d : DirectDisk) → IsDirectDevice f s d
    → (event_result f s (Step Recalc)).answer ≡ Did → (region : ℕ) × (region < regions d.geometry)
    × (s.progress.regions.awaiting region ≡ true) × (event_result f s (Step Recalc)
    ≡ step_regions s.progress (Some (recalculated_region region s.progress.regions)))

-- ---- a disk that fails

-- A serve of a write in which a disk fails leaves that under way.
abbrev pub FailedWriteLaw : Type 0
FailedWriteLaw = (f : DeviceFormat) (s : DeviceState) (d : DirectDisk) (k : ℕ) (a : Asked) (first : ℕ)
    (blocks : List (List ℕ)) (fua : Bool) → IsDirectDevice f s d → IsServed s k a
    → a.request ≡ Write first blocks fua → let write = next_write k first blocks a.served in
    ((after_event f s (FailedServe (suc k))).history ≡ with_change s.history (Begun write))
    × IsDirectDevice f (after_event f s (FailedServe (suc k))) (with_write d write)
