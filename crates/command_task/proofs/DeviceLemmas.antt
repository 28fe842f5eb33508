-- What an event of a device leaves at each moment, and what its close answers.
use Rattle.std.proofs.Common.{Result, Ok, Err, is_err, ◌≡◌, true, false, List, [], refl, sym, subst}
use Rattle.disk_model.specs.Disk.{Content, Image, EachImage}
use Rattle.disk_model.specs.Moments.{EachMoment}
use Rattle.disk_model.proofs.MomentsLemmas.{EachMoment-weaker}
use Rattle.device_model.specs.Device.{DeviceKind, IsLeftWithin}
use Rattle.device_model.specs.History.{History}
use Rattle.device_model.specs.Mode.{DeviceFormat}
use Rattle.device_model.specs.Progress as Model
use Rattle.device_model.specs.Progress.{DeviceState, Event, Close, FailedClose, event_result, result_in}
use Rattle.direct_laws.specs.MomentLaws.{IsLeftThrough}
use Rattle.direct_laws.specs.Within.{IsWithin}
use Rattle.device_parts.specs.declared.condition.Condition.{Condition}
use Rattle.device_parts.specs.declared.condition.Condition.TheVariants.{Working}
use Rattle.device_parts.specs.Answers.{answer_by, event_by}
use Rattle.device_parts.specs.declared.answers.StepFault.{StepFault}
use Rattle.device_parts.specs.declared.answers.StepFault.TheVariants as faults
use Rattle.device.specs.declared.mode.DeviceParts.{DeviceParts}
use Rattle.device_parts.specs.Device.{HasEnded, Standing}
use Rattle.device.specs.Device.{IsDevice, any_mode}
use Rattle.device_opening.proofs.MomentsLemmas.{EachMoment-both}

-- At each moment of an event some of its first changes are made.
pub since_event : (kind : DeviceKind) (entry : Image) (f : DeviceFormat) (s : DeviceState) (event : Event)
    (a b : List Content)
    → IsLeftThrough kind entry f s event a b
    → EachMoment a b (IsLeftWithin kind entry s.history (event_result f s event).changes)
since_event kind entry f s event a b through = EachMoment-weaker
    (λ (c : Content) (both : EachImage kind.CanOpen c × IsWithin (kind.MayBeLeft entry) f s event c). record {
      made = both.1.within.kept;
      opens = both.0;
      left = subst (λ (h : History). EachImage (kind.MayBeLeft entry h) c) both.1.within.is both.1.each;
    })
    (EachMoment-both through.opens through.left)

failed_close_in : (f : DeviceFormat) (s : DeviceState) (c : Model.Condition)
    → (result_in f s c FailedClose).changes ≡ []
failed_close_in f s Model.Working = refl
failed_close_in f s Model.Broken = refl
failed_close_in f s Model.Closed = refl

-- A close in which the disk fails does nothing to the history.
pub failed_close : (f : DeviceFormat) (s : DeviceState) → (event_result f s FailedClose).changes ≡ []
failed_close f s = failed_close_in f s s.condition

-- ---- what a close answers

-- The device is closed where the close did not fail.
pub closed_device : {T : Type 0} (w : Standing) (a b : List Content) (result : Result T StepFault)
    → is_err result ≡ false
    → HasEnded any_mode w (event_by Close FailedClose result) (answer_by (λ done. Model.IsClosed) result) a b
    → HasEnded any_mode w Close Model.IsClosed a b
closed_device w a b (Ok done) not ended = ended
closed_device w a b (Err fault) not ended = absurd (cc)

-- Where it failed and the device works the disk failed in it.
pub failed_device : {T : Type 0} (w : Standing) (a b : List Content) (result : Result T StepFault)
    → is_err result ≡ true
    → (result ≡ Err faults.Broken → ⊥)
    → HasEnded any_mode w (event_by Close FailedClose result) (answer_by (λ done. Model.IsClosed) result) a b
    → HasEnded any_mode w FailedClose Model.DiskFailed a b
failed_device w a b (Ok done) failed works ended = absurd (cc)
failed_device w a b (Err faults.Disk) failed works ended = ended
failed_device w a b (Err faults.Broken) failed works ended = absurd (works refl)

-- A device is what it is in the condition that it has.
pub in_condition : (w : Standing) (one other : Condition) (parts : DeviceParts) (a : List Content) → one ≡ other
    → IsDevice w other parts a → IsDevice w one parts a
in_condition w one other parts a same is = subst (λ (x : Condition). IsDevice w x parts a) (sym same) is
