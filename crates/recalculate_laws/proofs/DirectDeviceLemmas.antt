-- A device in direct mode whose tags are recalculated.
use Rattle.std.proofs.Common.{◌≡◌, ℕ, ◌+◌, Bool, true, false, not, ◌&&◌, if◌then◌else◌, refl, sym, ◌∙◌, ap, subst, Option, Some, None, option_map, List}
use Rattle.image_model.specs.Geometry.{region_of, regions}
use Rattle.device_model.specs.Journal.{SectionCounts}
use Rattle.device_model.specs.Progress.{is_journaled}
use Rattle.device_model.specs.Mode.{DeviceFormat}
use Rattle.device_model.specs.Progress.{DeviceState, Working, Step, Recalc, EventResult, regions_with, step_regions, working_result, event_result}
use Rattle.device_model.specs.Regions.{RegionCounts, least_region, recalculated_region}
use Rattle.device_model.specs.Request.{Request, Read}
use Rattle.device_model.proofs.SubmissionLemmas.{result-working}
use Rattle.direct_model.specs.DirectDisk.{DirectDisk}
use Rattle.direct_laws.specs.Device.{IsDirectDevice}
use Rattle.direct_laws.proofs.EventLemmas.{quiet_events_law, served_law}
use Rattle.recalculate_laws.specs.DirectDevice.{DirectReadLaw, DirectRecalcLaw, DirectIdleLaw}

pub direct_read_law : DirectReadLaw
direct_read_law f s d k a first count is asked request =
    let b = first + a.served in
    let counts = s.progress.regions in
    ap (λ (x : EventResult). x.progress.regions) (served_law f s d k a is asked)
    ∙ ap (λ (x : Request). regions_with f s.progress a x) request
    ∙ ap (λ (x : DeviceFormat). regions_with x s.progress a (Read first count)) is.format
    ∙ ap (λ (sections : List SectionCounts). if counts.awaiting (region_of d.geometry b) && not (is_journaled (record s.progress.journal { sections = sections }) b)
    then recalculated_region (region_of d.geometry b) counts else counts) is.unused
    ∙ by_bool counts (region_of d.geometry b) (counts.awaiting (region_of d.geometry b))
  where
    by_bool : (counts : RegionCounts) (region : ℕ) (t : Bool) → (if t && true then recalculated_region region counts else counts) ≡ (if t then recalculated_region region counts else counts)
    by_bool counts region true = refl
    by_bool counts region false = refl

-- A step takes what is found.
step_is : (f : DeviceFormat) (s : DeviceState) (d : DirectDisk) (o : Option ℕ) → IsDirectDevice f s d → s.condition ≡ Working → least_region (regions d.geometry) s.progress.regions.awaiting ≡ o
    → event_result f s (Step Recalc) ≡ step_regions s.progress (option_map (λ (r : ℕ). recalculated_region r s.progress.regions) o)
step_is f s d o is works found =
    result-working f s (Step Recalc) works
    ∙ subst (λ (x : DeviceFormat). working_result x s (Step Recalc) ≡ step_regions s.progress (option_map (λ (r : ℕ). recalculated_region r s.progress.regions) o)) (sym is.format)
    (ap (λ (o : Option ℕ). step_regions s.progress (option_map (λ (r : ℕ). recalculated_region r s.progress.regions) o)) found)

pub direct_recalc_law : DirectRecalcLaw
direct_recalc_law f s d region is works found = (step_is f s d (Some region) is works found, quiet_events_law f s (Step Recalc) d is tt)

pub direct_idle_law : DirectIdleLaw
direct_idle_law f s d is works none = step_is f s d None is works none
