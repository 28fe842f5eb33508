-- The end of a session: the device is closed, or the disk fails in that.
use Rattle.std.proofs.Common.{◌≡◌, inr, ◌||◌, Bool, true, false, IfErr, IfOk, is_err, List, Option, Result, Ok, Err, refl, sym, ◌∙◌, ap, subst, ℕ}
use Rattle.disk_model.specs.Causes.{Rose}
use Rattle.disk_model.specs.Disk.{Content}
use Rattle.device_model.specs.Progress.{Close, DiskFailed, FailedClose, IsClosed}
use Rattle.device_parts.specs.declared.answers.StepFault.{StepFault}
use Rattle.device_parts.specs.declared.answers.StepFault.TheVariants as step
use Rattle.device_parts.specs.declared.condition.Condition.{Condition}
use Rattle.device_parts.specs.declared.condition.Condition.TheVariants.{Working}
use Rattle.device_parts.specs.Answers.{HasStepCause, answer_by, event_by}
use Rattle.device_parts.specs.Device.{Ends, HasEnded, Standing}
use Rattle.device.specs.declared.mode.DeviceParts.{DeviceParts}
use Rattle.device.specs.Answers.{IsAtRest}
use Rattle.device.specs.Calls.{LeavesAtRest}
use Rattle.device.specs.Device.{IsDevice, any_mode}
use Rattle.nbd_model.specs.Stream as streams
use Rattle.nbd_model.specs.Deeds.{tells_eio}
use Rattle.nbd_command.specs.ServedRun.{IsClosing}
use Rattle.nbd_flight.specs.declared.flight.Flight.{Flight}
use Rattle.nbd_flight.specs.Deeds.{Scene, behind}
use Rattle.nbd_session.specs.declared.ended.Ended.{Ended}
use Rattle.nbd_session.specs.declared.ended.Ended.TheVariants.{Closed}
use Rattle.nbd_session.specs.declared.ended.SessionFault.{SessionFault}
use Rattle.nbd_session.specs.declared.ended.SessionFault.TheVariants as faults
use Rattle.nbd_session.specs.declared.serving.StreamEnd.{StreamEnd}
use Rattle.nbd_session.specs.Serving.{HasServed, ending_told}
use Rattle.nbd_session.specs.Session.{HasClosed, HasEndedSo, HasFailedClose, HasRefused, HasStoppedSo, IsNew, LeavesClosed, Outside, ServesSession, StopsSession, deeds_over}

-- ---- a close of a device that works

module _ {U : Type 0} (w : Standing) (a b : List Content) where
  pub ended_failed : (r : Result U StepFault) → is_err r ≡ true → (r ≡ Err step.Broken → ⊥)
      → HasEnded any_mode w (event_by Close FailedClose r) (answer_by (λ done. IsClosed) r) a b → HasEnded any_mode w FailedClose DiskFailed a b
  ended_failed (Ok x) failed works ended = absurd cc
  ended_failed (Err step.Disk) failed works ended = ended
  ended_failed (Err step.Broken) failed works ended = absurd (works refl)

  pub ended_closed : (r : Result U StepFault) → is_err r ≡ false
      → HasEnded any_mode w (event_by Close FailedClose r) (answer_by (λ done. IsClosed) r) a b → HasEnded any_mode w Close IsClosed a b
  ended_closed (Ok x) closed ended = ended
  ended_closed (Err fault) closed ended = absurd cc

-- A close that answers well leaves each image as the mode has it.
pub rests_closed : {U : Type 0} (r : Result U StepFault) → is_err r ≡ false → (condition : Condition) (parts : DeviceParts) (a b : List Content)
    → LeavesAtRest r condition parts a b → (w : Standing) → IsDevice w condition parts a → IsAtRest parts.mode w b
rests_closed (Ok x) closed condition parts a b rests = rests
rests_closed (Err fault) closed condition parts a b rests = absurd cc

pub cause_failed : {U : Type 0} (m n : ℕ) (r : Result U StepFault) → is_err r ≡ true → (r ≡ Err step.Broken → ⊥) → HasStepCause m n r → Rose m n
cause_failed m n (Ok x) failed works cause = absurd cc
cause_failed m n (Err step.Disk) failed works cause = cause.failed refl
cause_failed m n (Err step.Broken) failed works cause = absurd (works refl)

pub cause_closed : {U : Type 0} (m n : ℕ) (r : Result U StepFault) → is_err r ≡ false → HasStepCause m n r → n ≡ m
cause_closed {U} m n (Ok x) closed cause = cause.passed (other x)
  where
    other : (x : U) → ◌≡◌ {A = Result U StepFault} (Ok x) (Err step.Disk) → ⊥
    other x is = cc
cause_closed m n (Err fault) closed cause = absurd cc

-- ---- the session

-- All is served, by a flight that had told no damage.
abbrev pub ServesAll : (left : Option (List ℕ)) → streams.StreamEnd → (x y : Flight) → (old mid : Scene) → Type 0
ServesAll left ending x y old mid = (w : Standing) → IsDevice w Working old.parts old.moments → IsNew w → HasServed w left ending x y old mid

-- What ends the stream is told so.
pub served_as : (left : Option (List ℕ)) (end told : StreamEnd) (x y : Flight) (old mid : Scene) → end ≡ told → ServesAll left (ending_told end) x y old mid
    → ServesAll left (ending_told told) x y old mid
served_as left end told x y old mid same served = subst (λ (e : StreamEnd). ServesAll left (ending_told e) x y old mid) same served

module _ (left : Option (List ℕ)) (ending : streams.StreamEnd) (x y : Flight) (old mid : Scene) (served : ServesAll left ending x y old mid) where
  -- It is refused behind that,
  pub session_refused : (w : Standing) → IsDevice w Working old.parts old.moments → IsNew w
      → HasRefused w left ending old (record { moments = mid.moments; held = mid.held })
  session_refused w is new =
      let all = served w is new in
      record { course = all.course; ends = all.ends; served = record { parts = mid.parts; done = all.done } }

  -- or the device is closed.
  module _ (eio : Bool) (none : x.eio ≡ false) (told : eio ≡ y.eio) (closing : IsClosing ending) (after : List Content)
      (leaves : LeavesClosed mid.parts mid.moments after) where
    abbrev out : Outside
    out = record { moments = after; held = mid.held }

    closes : (w : Standing) → IsDevice w Working old.parts old.moments → IsNew w
        → ((u : Standing) → IsDevice u Working mid.parts mid.moments → HasEnded any_mode u Close IsClosed mid.moments after)
        → ((u : Standing) → IsDevice u Working mid.parts mid.moments → IsAtRest mid.parts.mode u after) → HasClosed w left eio old out
    closes w is new ended rests =
        let all = served w is new in
        record {
          course = all.course;
          closes = subst IsClosing (sym all.ends) closing;
          between = mid.moments;
          served = record { parts = mid.parts; done = all.done };
          closed = ended (behind w (deeds_over w all.course.pieces)) all.done.run.device;
          leaves = leaves (behind w (deeds_over w all.course.pieces)) all.done.run.device;
          rests = rests (behind w (deeds_over w all.course.pieces)) all.done.run.device;
          damage = told ∙ all.damage ∙ ap (λ (b : Bool). b || tells_eio (deeds_over w all.course.pieces)) none;
        }

    fails : (w : Standing) → IsDevice w Working old.parts old.moments → IsNew w
        → ((u : Standing) → IsDevice u Working mid.parts mid.moments → HasEnded any_mode u FailedClose DiskFailed mid.moments after) → HasFailedClose w left old out
    fails w is new failed =
        let all = served w is new in
        record {
          course = all.course;
          closes = subst IsClosing (sym all.ends) closing;
          between = mid.moments;
          served = record { parts = mid.parts; done = all.done };
          failed = failed (behind w (deeds_over w all.course.pieces)) all.done.run.device;
          leaves = leaves (behind w (deeds_over w all.course.pieces)) all.done.run.device;
        }

    pub session_closed : (r : Result Ended SessionFault) → IfOk r (λ ended. ended ≡ Closed eio) → Ends any_mode mid.parts mid.moments after r
        → LeavesAtRest r Working mid.parts mid.moments after → ServesSession r left old out
    session_closed (Ok ended) is_closed ends rests = λ w is new.
        subst (λ (e : Ended). HasEndedSo w left e old out) (sym is_closed) (closes w is new ends.done rests)
    session_closed (Err fault) is_closed ends rests = tt

    pub session_unclosed : (r : Result Ended SessionFault) → IfErr r (λ fault. fault ≡ faults.Disk) → Ends any_mode mid.parts mid.moments after r
        → StopsSession r left old out
    session_unclosed (Ok ended) is_disk ends = tt
    session_unclosed (Err fault) is_disk ends = λ w is new.
        subst (λ (e : SessionFault). HasStoppedSo w left e old out) (sym is_disk) (inr (fails w is new ends.err))
