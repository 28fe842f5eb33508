-- A device in direct mode whose tags are recalculated: what its reads and its steps take out of the regions that await.
-- Own: as the device in journal mode.
use Rattle.std.specs.Prelude.{◌≡◌, ℕ, suc, ◌+◌, if◌then◌else◌, Some, None}
use Rattle.image_model.specs.Geometry.{region_of, regions}
use Rattle.device_model.specs.Mode.{DeviceFormat}
use Rattle.device_model.specs.Progress.{DeviceState, Working, Serve, Step, Recalc, Idle, only_answers, step_regions, event_result, after_event}
use Rattle.device_model.specs.Regions.{least_region, recalculated_region}
use Rattle.device_model.specs.Request.{Read, Asked}
use Rattle.journal_laws.specs.EventLaws.{IsServed}
use Rattle.direct_model.specs.DirectDisk.{DirectDisk}
use Rattle.direct_laws.specs.Device.{IsDirectDevice}

-- A read of a block takes its region out of those that await.
abbrev pub DirectReadLaw : Type 0
DirectReadLaw = (f : DeviceFormat) (s : DeviceState) (d : DirectDisk) (k : ℕ) (a : Asked) (first count : ℕ)
    → IsDirectDevice f s d → IsServed s k a → a.request ≡ Read first count
    → let region = region_of d.geometry (first + a.served) in let counts = s.progress.regions in
    (after_event f s (Serve (suc k))).progress.regions
    ≡ (if counts.awaiting region then recalculated_region region counts else counts)

-- A step takes the least region that awaits,
abbrev pub DirectRecalcLaw : Type 0
DirectRecalcLaw = (f : DeviceFormat) (s : DeviceState) (d : DirectDisk) (region : ℕ) → IsDirectDevice f s d
    → s.condition ≡ Working → let counts = s.progress.regions in
    least_region (regions d.geometry) counts.awaiting ≡ Some region
    → (event_result f s (Step Recalc) ≡ step_regions s.progress (Some (recalculated_region region counts)))
    × IsDirectDevice f (after_event f s (Step Recalc)) d

-- and is idle where none does, also where reads took them out.
abbrev pub DirectIdleLaw : Type 0
DirectIdleLaw = (f : DeviceFormat) (s : DeviceState) (d : DirectDisk) → IsDirectDevice f s d
    → s.condition ≡ Working → least_region (regions d.geometry) s.progress.regions.awaiting ≡ None
    → event_result f s (Step Recalc) ≡ only_answers s.progress Idle
