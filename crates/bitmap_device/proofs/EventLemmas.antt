-- The events of a device in bitmap mode that call no disk.
use Rattle.std.proofs.Common.{◌≡◌, List, [], refl, ◌∙◌, ap, subst, sym}
use Rattle.disk_model.specs.Disk.{Content}
use Rattle.disk_model.proofs.MomentsLemmas.{no_moment}
use Rattle.device_model.specs.History.{Change, History, with_changes}
use Rattle.device_model.specs.Progress as Model
use Rattle.bitmap_laws.specs.ServeLaws.{KeepsDevice}
use Rattle.direct_laws.specs.MomentLaws.{IsLeftNow}
use Rattle.request_slots.specs.Flight.{Flight}
use Rattle.request_slots.specs.InFlight.{IsFlightOf}
use Rattle.device_parts.specs.declared.condition.Condition.{Condition}
use Rattle.device_parts.specs.declared.parts.Parts.{Parts}
use Rattle.bitmap_mode.specs.States.{States}
use Rattle.bitmap_device.specs.Device.{BitmapStanding, IsOverDisk, QuietLaw, kind_on, standing_on}
use Rattle.bitmap_device.proofs.OverDisk.{IsAfter, done, done_on, quiet_device}

module _ (w : BitmapStanding) (condition : Condition) (parts : Parts) (regions : States) (a : List Content) (is : IsOverDisk w condition parts regions a) where
  -- An event that changes nothing of the history nor of the regions keeps the device without the disk.
  same_kept : (event : Model.Event) → let result = Model.event_result w.format w.state event in result.changes ≡ [] → result.progress.regions ≡ w.state.progress.regions
      → (Model.after_event w.format w.state event).condition ≡ w.state.condition → KeepsDevice w.format w.state event w.entry w.disk w.disk a a
  same_kept event none same condition_is = record {
    device = quiet_device w.format w.state event w.disk is.device none same condition_is;
    through = record { opens = no_moment a _; left = no_moment a _ };
    now = subst (λ (h : History). IsLeftNow (kind_on w.disk.format) w.entry h a) (sym (ap (λ (xs : List Change). with_changes xs w.state.history) none)) is.left;
  }

  -- So it is done.
  same_done : (event : Model.Event) (flight : Flight) → let result = Model.event_result w.format w.state event in result.changes ≡ []
      → result.progress.regions ≡ w.state.progress.regions → IsFlightOf w.format flight result.progress.requests
      → (Model.after_event w.format w.state event).condition ≡ w.state.condition → IsAfter w event condition (record parts { slots = flight }) regions a a
  same_done event flight none same own condition_is =
      done w condition parts regions a is event w.disk condition (record parts { slots = flight }) regions a
      (same_kept event none same condition_is) refl own refl (condition_is ∙ is.condition_) is.stands

-- ---- for callers

pub quiet_kept_law : QuietLaw
quiet_kept_law w condition device flight moments event is none same own condition_is =
    done_on w is.disk is.format event moments moments condition (record device.parts { slots = flight }) device.regions
    (same_done (standing_on w is.disk) condition device.parts device.regions moments is.over event flight none same own condition_is)
