-- The events of a device in direct mode that call no disk.
use Rattle.std.proofs.Common.{◌≡◌, List, [], refl, ◌∙◌, ap, subst, sym}
use Rattle.disk_model.specs.Disk.{Content}
use Rattle.disk_model.proofs.MomentsLemmas.{no_moment}
use Rattle.device_model.specs.History.{Change, History, with_changes}
use Rattle.device_model.specs.Mode.{DeviceFormat, Direct}
use Rattle.device_model.specs.Progress as Model
use Rattle.device_model.specs.Regions.{RegionCounts}
use Rattle.device_model.proofs.SubmissionLemmas.{result-working}
use Rattle.place_model.specs.Opened.{device_format}
use Rattle.direct_mode.specs.MomentLaws.{IsLeftNow, kind_of}
use Rattle.direct_mode.specs.ServeLaws.{KeepsDevice}
use Rattle.direct_model.specs.DirectDisk.{IsFormed}
use Rattle.direct_mode.proofs.EventLemmas.{quiet_law}
use Rattle.direct_mode.specs.CallLaws.{KeepsNow}
use Rattle.tag_store.specs.Store.{given_tags}
use Rattle.recalculation.specs.declared.recalculating.Recalculation.{Recalculation}
use Rattle.request_slots.specs.Flight.{Flight}
use Rattle.request_slots.specs.InFlight.{IsFlightOf}
use Rattle.device_parts.specs.declared.condition.Condition.{Condition}
use Rattle.device_parts.specs.declared.condition.Condition.TheVariants as Conditions
use Rattle.device_parts.specs.declared.parts.Parts.{Parts}
use Rattle.direct_device.specs.Answers.{HasNoWork, RestLaw}
use Rattle.direct_device.specs.Device.{DirectStanding, IsOverDisk, QuietLaw, standing_on}
use Rattle.direct_device.proofs.DoneLemmas.{done, same_works}
use Rattle.direct_device.proofs.OverDisk.{IsAfter, done_on}

module _ (w : DirectStanding) (condition : Condition) (parts : Parts) (recalculation : Recalculation) (a : List Content) (is : IsOverDisk w condition parts recalculation a) where
  abbrev f : DeviceFormat
  f = w.format

  abbrev s : Model.DeviceState
  s = w.state

  -- An event that changes nothing of the history keeps the device without the disk.
  same_kept : (event : Model.Event) → (Model.event_result f s event).changes ≡ [] → KeepsDevice f s event w.entry w.disk w.disk a a
  same_kept event none = record {
    device = quiet_law f s event w.disk is.device none;
    through = record { opens = no_moment a _; left = no_moment a _ };
    now = subst (λ (h : History). IsLeftNow (kind_of w.disk) w.entry h a) (sym (ap (λ (xs : List Change). with_changes xs s.history) none)) is.left;
  }

  -- So it is done.
  same_done : (event : Model.Event) (flight : Flight) → (Model.event_result f s event).changes ≡ []
      → (Model.event_result f s event).progress.regions ≡ s.progress.regions
      → IsFlightOf f flight (Model.after_event f s event).progress.requests
      → (Model.after_event f s event).condition ≡ s.condition → IsAfter w event condition (record parts { slots = flight }) recalculation a a
  same_done event flight none regions own same =
      done w condition parts recalculation a is event w.disk condition (record parts { slots = flight }) recalculation a
      (same_kept event none) refl own refl (same ∙ is.condition_)
      (λ works. let has = is.works works in same_works w event (record parts { slots = flight }) recalculation a w.disk has.cells has.recalculation_ (ap (λ (x : RegionCounts). x.awaiting) regions))

-- ---- a device that works

module _ (w : DirectStanding) (parts : Parts) (recalculation : Recalculation) (a : List Content) (is : IsOverDisk w Conditions.Working parts recalculation a) where
  working-is : (event : Model.Event) → Model.event_result w.format w.state event ≡ Model.working_result w.format w.state event
  working-is event = result-working w.format w.state event is.condition_

  pub step-idle : (actor : Model.Actor) → HasNoWork actor → Model.event_result w.format w.state (Model.Step actor) ≡ Model.only_answers w.state.progress Model.Idle
  step-idle = idle
    where
      in_direct : (x : Model.Actor) → Model.event_result w.format w.state (Model.Step x) ≡ Model.step (device_format Direct w.disk.format) w.state.progress x
      in_direct x = working-is (Model.Step x) ∙ ap (λ (y : DeviceFormat). Model.step y w.state.progress x) is.device.format

      idle : (x : Model.Actor) → HasNoWork x → Model.event_result w.format w.state (Model.Step x) ≡ Model.only_answers w.state.progress Model.Idle
      idle Model.Commit none = in_direct Model.Commit
      idle Model.Place none = in_direct Model.Place
      idle Model.Settle none = in_direct Model.Settle
      idle Model.Clean none = in_direct Model.Clean
      idle Model.Recalc none = absurd none

  -- A step that is idle keeps the device.
  pub idle_done : (actor : Model.Actor) → Model.event_result w.format w.state (Model.Step actor) ≡ Model.only_answers w.state.progress Model.Idle
      → IsAfter w (Model.Step actor) Conditions.Working parts recalculation a a
  idle_done actor e =
      same_done w Conditions.Working parts recalculation a is (Model.Step actor) parts.slots (ap (λ (x : Model.EventResult). x.changes) e) (ap (λ (x : Model.EventResult). x.progress.regions) e)
      (subst (λ (x : Model.EventResult). IsFlightOf w.format parts.slots x.progress.requests) (sym e) is.flight) refl

  -- What the disk stands for, between calls.
  pub formed : IsFormed w.disk
  formed = ((is.works refl).cells.now is.told is.is_told).stands.formed

  pub keeps : KeepsNow w.disk w.state.progress.regions.awaiting (given_tags parts.tags) a
  keeps = (is.works refl).cells.now

-- ---- for callers

pub quiet_kept_law : QuietLaw
quiet_kept_law w condition device flight moments event is none regions own same =
    done_on w is.disk is.format event moments moments condition (record device.parts { slots = flight }) device.recalculation
    (same_done (standing_on w is.disk) condition device.parts device.recalculation moments is.over event flight none regions own same)

pub rest_law : RestLaw
rest_law w device moments actor none is = step-idle (standing_on w is.disk) device.parts device.recalculation moments is.over actor none
