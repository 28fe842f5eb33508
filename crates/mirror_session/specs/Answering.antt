-- What a mirror answers that works, and that is asked for what it has.
use Rattle.std.specs.Prelude.{◌≡◌, ◌≢◌, ◌⊎◌, ℕ, ◌≤◌, Bool, true, false, List, length, None, Result, Err, IfOk}
use Rattle.disk_model.specs.Causes.{Rose}
use Rattle.device_model.specs.Submission.{Submission}
use Rattle.device_model.specs.Transcript.{Session}
use Rattle.mirror_model.specs.Mirror.{MirrorChange, MirrorFormat, MirrorState, with_mirror_changes}
use Rattle.mirror_model.specs.Script.{submitted_outcome}
use Rattle.mirror_calls.specs.declared.fault.MirrorFault.{MirrorFault}
use Rattle.mirror_calls.specs.declared.fault.MirrorFault.TheVariants as Faults
use Rattle.mirror_calls.specs.Faults.{refusal}
use Rattle.mirror_calls.specs.Leg.{LegOn}
use Rattle.mirror_calls.specs.State.{AreLegs, format_of}
use Rattle.script_session.specs.declared.stop.Stop.{Stop}
use Rattle.script_session.specs.declared.stop.Stop.TheVariants as Stops
use Rattle.script_text.specs.Found.{finds_fault}
use Rattle.mirror_session.specs.declared.answer.MirrorAnswer.{MirrorAnswer}
use Rattle.mirror_session.specs.Told.{answer_found, answer_text}

-- ---- what is asked

-- A mirror of so many blocks does not refuse it.
abbrev pub IsTaken : (blocks size : ℕ) → Submission → Type 0
IsTaken blocks size (Submission.Read first count buffer) =
    refusal false blocks size first count (length buffer) ≡ None
IsTaken blocks size (Submission.Write first count bytes fua) =
    refusal false blocks size first count (length bytes) ≡ None
IsTaken blocks size Submission.Flush = Unit {0}

-- How many blocks it is for. A flush is for none.
abbrev pub count_of : Submission → ℕ
count_of (Submission.Read first count buffer) = count
count_of (Submission.Write first count bytes fua) = count
count_of Submission.Flush = 0

-- Its changes.
abbrev pub changes_by : Submission → MirrorFormat → MirrorState → List MirrorChange
changes_by submission f m = (submitted_outcome f m submission).changes

-- ---- what is answered

-- It is done, and answered so.
pub record HasAnswered (a_stands b_stands : LegOn → Session → Type 0) (a b : LegOn) (m : MirrorState)
    (submission : Submission) (answer : MirrorAnswer) : Type 0 where
  pub legs : AreLegs a_stands b_stands a b (with_mirror_changes (changes_by submission (format_of a b) m) m)
  pub text : answer_text answer ≡ (submitted_outcome (format_of a b) m submission).text
  pub found : finds_fault (answer_found answer) ≡ (submitted_outcome (format_of a b) m submission).finds_fault

-- So it is of each mirror that the legs are.
abbrev pub AnswersWell : {A B E : Type 0} → (A → LegOn → Session → Type 0) → (B → LegOn → Session → Type 0)
    → Submission → Result MirrorAnswer E → A → B → A → B → Type 0
AnswersWell a_stands b_stands submission result a_old b_old a_new b_new = IfOk result (λ answer. (a b : LegOn)
    (m : MirrorState) → AreLegs (a_stands a_old) (b_stands b_old) a b m
    → HasAnswered (a_stands a_new) (b_stands b_new) a b m submission answer)

-- ---- what stops it

-- The stop that a fault is. One that is none of a call comes to a disk.
abbrev pub stop_of : MirrorFault → Stop
stop_of Faults.Broken = Stops.Disk
stop_of (Faults.Range first count blocks) = Stops.Disk
stop_of (Faults.Length have need) = Stops.Disk
stop_of Faults.Memory = Stops.Memory
stop_of (Faults.Disk leg) = Stops.Disk

-- The count of one leg's disk rose, and that of the other is as it was.
abbrev pub OneRose : (first_before first second_before second : ℕ) → Type 0
OneRose first_before first second_before second =
    ((Rose first_before first) × (second ≡ second_before))
    ⊎ ((first ≡ first_before) × (Rose second_before second))

-- Neither count ever falls. A disk stops it only where the count of one rose; else both are as they were.
pub record HasStopCause {T : Type 0} (first_before first second_before second : ℕ) (result : Result T Stop)
    : Type 0 where
  pub first_later : first_before ≤ first
  pub second_later : second_before ≤ second
  pub failed : result ≡ Err Stops.Disk → OneRose first_before first second_before second
  pub passed : result ≢ Err Stops.Disk → (first ≡ first_before) × (second ≡ second_before)

-- Where it failed for this the mirror is broken, and else it works.
pub record TurnsAt {T E : Type 0} (failed : E) (broken : Bool) (result : Result T E) : Type 0 where
  pub broken_ : result ≡ Err failed → broken ≡ true
  pub works : result ≢ Err failed → broken ≡ false
