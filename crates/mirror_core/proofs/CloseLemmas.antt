-- What is left of a leg while its device is closed, and then.
use Rattle.std.proofs.Common.{◌≡◌, ℕ, zero, suc, if◌then◌else◌, List, [], ◌∷◌, take, Result, Ok, Err, refl, ◌∙◌, ap, subst}
use Rattle.disk_model.specs.Disk.{Content, EachImage}
use Rattle.disk_model.specs.Moments.{EachMoment, HasNow}
use Rattle.disk_model.proofs.MomentsLemmas.{EachMoment-weaker}
use Rattle.device_model.specs.History.{Change, Flushed, History, with_changes}
use Rattle.device_model.specs.Mode.{Mode, is_recovery}
use Rattle.device_model.specs.Progress.{Close, Event, EventResult, FailedClose, event_result}
use Rattle.device_model.proofs.SubmissionLemmas.{result-working}
use Rattle.direct_laws.specs.Within.{IsWithin}
use Rattle.device_parts.specs.declared.answers.StepFault.{StepFault}
use Rattle.device_parts.specs.declared.answers.StepFault.TheVariants as Faults
use Rattle.device_parts.specs.declared.condition.Condition.{Condition}
use Rattle.device_parts.specs.declared.condition.Condition.TheVariants as Conditions
use Rattle.device_parts.specs.Device.{Standing}
use Rattle.device.specs.Calls.{Closes}
use Rattle.device.specs.declared.mode.DeviceParts.{DeviceParts}
use Rattle.device.specs.Device.{kind_of}
use Rattle.device.proofs.ModeLemmas.{left_now}
use Rattle.mirror_calls.specs.Leg.{IsLeftWithin, LegOn}
use Rattle.mirror_core.specs.Closing.{LeavesClosing, LeavesFlushed, closing}
use Rattle.mirror_core.specs.Stands.{MayBeLeftOf, StandsFor}
use Rattle.mirror_core.proofs.LegLemmas.{left_behind}
use Rattle.mirror_core.proofs.StandsLemmas.{works}

-- Some of the first of some changes are some of the first of a close.
record IsFront (k : ℕ) (changes : List Change) : Type 0 where
  made : ℕ
  is : take k changes ≡ take made closing

front_none : (k : ℕ) → IsFront k []
front_none zero = record { made = 0; is = refl }
front_none (suc k) = record { made = 0; is = refl }

module _ (parts : DeviceParts) (a : List Content) (on : LegOn) (told : History) (stands : StandsFor parts a on told) where
  abbrev w : Standing
  w = stands.w

  close_changes : (event_result w.format w.state Close).changes ≡ closing
  close_changes =
      ap (λ (x : EventResult). x.changes) (result-working w.format w.state Close (works w parts a stands.rests))
      ∙ ap (λ (m : Mode). if is_recovery m then [] else Flushed ∷ []) stands.rests.mode

  failed_changes : (event_result w.format w.state FailedClose).changes ≡ []
  failed_changes = ap (λ (x : EventResult). x.changes) (result-working w.format w.state FailedClose (works w parts a stands.rests))

  -- Within one of them,
  leaves_by : (b : List Content) (event : Event) → ((k : ℕ) → IsFront k (event_result w.format w.state event).changes)
      → EachMoment a b (IsWithin ((kind_of w).MayBeLeft w.entry) w.format w.state event)
      → EachMoment a b (IsLeftWithin (MayBeLeftOf on) told closing)
  leaves_by b event front left =
      EachMoment-weaker (λ (c : Content) (is : IsWithin ((kind_of w).MayBeLeft w.entry) w.format w.state event c).
      let first = front is.within.kept in
      record {
        made = first.made;
        left = λ image of.
            left_behind parts a on told stands (take first.made closing) (take first.made closing) image refl
            (subst (λ (h : History). (kind_of w).MayBeLeft w.entry h image)
            (is.within.is ∙ ap (λ (l : List Change). with_changes l w.state.history) first.is) (is.each image of));
      }) left

  close_front : (k : ℕ) → IsFront k (event_result w.format w.state Close).changes
  close_front k = record { made = k; is = ap (take k) close_changes }

  failed_front : (k : ℕ) → IsFront k (event_result w.format w.state FailedClose).changes
  failed_front k = let none = front_none k in record { made = none.made; is = ap (take k) failed_changes ∙ none.is }

  -- however it ends,
  leaves_in : (b : List Content) (result : Result (Unit {0}) StepFault) → Closes result Conditions.Working parts a b
      → EachMoment a b (IsLeftWithin (MayBeLeftOf on) told closing)
  leaves_in b (Ok done) closes = leaves_by b Close close_front (closes w stands.rests.device).through.left
  leaves_in b (Err Faults.Disk) closes = leaves_by b FailedClose failed_front (closes w stands.rests.device).through.left
  leaves_in b (Err Faults.Broken) closes = leaves_by b Close close_front (closes w stands.rests.device).through.left

  -- and once it is done.
  flushed_in : (b : List Content) (done : Unit {0}) → Closes {T = Unit {0}} (Ok done) Conditions.Working parts a b
      → HasNow (EachImage (MayBeLeftOf on (with_changes closing told))) b
  flushed_in b done closes c is_told image of =
      let ended = closes w stands.rests.device in
      left_behind parts a on told stands closing closing image refl
      (subst (λ (l : List Change). (kind_of w).MayBeLeft w.entry (with_changes l w.state.history) image) close_changes (ended.left.left c is_told image of))

  -- Each image may be left by what the mirror was told.
  pub told_now : HasNow (EachImage (MayBeLeftOf on told)) a
  told_now c is_told image of =
      left_behind parts a on told stands [] [] image refl
      ((left_now w Conditions.Working parts.mode parts.common a stands.rests.device).left c is_told image of)

-- ---- for callers

pub close_leaves : (parts : DeviceParts) (condition : Condition) (a b : List Content) (result : Result (Unit {0}) StepFault) → condition ≡ Conditions.Working
    → Closes result condition parts a b → LeavesClosing parts a b
close_leaves parts condition a b result working closes on told stands =
    leaves_in parts a on told stands b result (subst (λ (c : Condition). Closes result c parts a b) working closes)

pub close_flushes : (parts : DeviceParts) (condition : Condition) (a b : List Content) (done : Unit {0}) → condition ≡ Conditions.Working
    → Closes {T = Unit {0}} (Ok done) condition parts a b → LeavesFlushed parts a b
close_flushes parts condition a b done working closes on told stands =
    flushed_in parts a on told stands b done (subst (λ (c : Condition). Closes {T = Unit {0}} (Ok done) c parts a b) working closes)
