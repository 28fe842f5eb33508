-- What the calls of a command tell, over the disk, the source of the script and the sink that they are given.
use Rattle.std.specs.Prelude.{◌≡◌, ℕ, ◌<◌, List, Option, Some, Result, Err, IfErr}
use Rattle.std.specs.Option.{ForSome}
use Rattle.disk_model.specs.Causes.{Rose}
use Rattle.disk_model.specs.Disk.{Content, Image, last_image}
use Rattle.disk_model.specs.Identity.{DiskIdentity}
use Rattle.disk_model.specs.Moments.{EachMoment, HasNow}
use Rattle.run_model.specs.Ending.{Ending}
use Rattle.device.specs.Opening.{asked_mode}
use Rattle.place_model.specs.KeptTags.{KeepsStill}
use Rattle.device.specs.declared.opening.OpenMode.{OpenMode}
use Rattle.command_ending.specs.declared.ended.Ended.{Ended}
use Rattle.command_ending.specs.declared.ended.Ended.TheVariants as Endings
use Rattle.run_model.specs.CommandRun.{Outset}
use Rattle.command_task.specs.declared.asked.Task.{Task}
use Rattle.command_task.specs.declared.telling.Telling.{Telling}
use Rattle.command_task.specs.Opening.{HasRunIn, HasRunOn, IsMomentOn}
use Rattle.command_model.specs.Opening.{HasReadIn}
use Rattle.command_task.specs.Order.{HasMomentsAt}
use Rattle.command_task.specs.Outset.{task_outset, run_outset}
use Rattle.command_task.specs.Running.{IsBeforeScript}
use Rattle.script_lines.specs.Ends.{HasEndCause, IsCounted}
use Rattle.command_task.specs.Unopened.{IsUnopenedAt}
use Rattle.command_task.specs.Words.{IsScriptless}
use Rattle.run_model.specs.declared.outer.Outer.TheVariants as outers

-- ---- what is outside

-- What ends the run of a script is the disk, the script's source or the sink only where the count of its faults rose.
abbrev pub HasCauseOfRun : {T D S O : Type 0} → (D → ℕ) → (S → ℕ) → (O → ℕ) → Result T Ended → (first last : D)
    → (script read : S) → (sink out : O) → Type 0
HasCauseOfRun disk_faults script_faults sink_faults result first last script read sink out = IfErr result
    (HasEndCause (Rose (disk_faults first) (disk_faults last)) (Rose (script_faults script) (script_faults read))
    (Rose (sink_faults sink) (sink_faults out)))

-- What ends what has no script is the disk or the sink only so.
abbrev pub HasCauseOfTask : {T D O : Type 0} → (D → ℕ) → (O → ℕ) → Result T Ended → (first last : D) → (sink out : O)
    → Type 0
HasCauseOfTask disk_faults sink_faults result first last sink out = IfErr result
    (HasEndCause (Rose (disk_faults first) (disk_faults last)) ⊥ (Rose (sink_faults sink) (sink_faults out)))

-- Each count of faults rises only where that is what ended it: of what has no script,
abbrev pub IsCountedInTask : {T D O : Type 0} → (D → ℕ) → (O → ℕ) → Result T Ended → (first last : D) → (sink out : O)
    → Type 0
IsCountedInTask disk_faults sink_faults result first last sink out =
    IsCounted outers.Disk (disk_faults first) (disk_faults last) result
    × IsCounted outers.Sink (sink_faults sink) (sink_faults out) result

-- and of the run of a script.
abbrev pub IsCountedInRun : {T D S O : Type 0} → (D → ℕ) → (S → ℕ) → (O → ℕ) → Result T Ended → (first last : D)
    → (script read : S) → (sink out : O) → Type 0
IsCountedInRun disk_faults script_faults sink_faults result first last script read sink out =
    IsCounted outers.Disk (disk_faults first) (disk_faults last) result
    × IsCounted outers.Script (script_faults script) (script_faults read) result
    × IsCounted outers.Sink (sink_faults sink) (sink_faults out) result

-- ---- what is done on an image, whatever its disk tells of its content

-- What has no script ran so, whatever script stands by.
abbrev pub RunsTask : {D O : Type 0} → (D → DiskIdentity) → (D → List Content) → (O → Option (List ℕ)) → Task
    → (key : Option (List ℕ)) → Ending → (first last : D) → (sink out : O) → Type 0
RunsTask identity moments held task key ending first last sink out = (script : List ℕ) → HasNow (λ c.
    HasRunOn (task_outset task key (identity first).sectors (last_image c)) c script ending (moments last) (held sink)
    (held out)) (moments first)

-- This stands at each moment of it, in its order.
abbrev pub PassesMoments : {D : Type 0} → (D → DiskIdentity) → (D → List Content) → Task → (key : Option (List ℕ))
    → (first last : D) → Type 0
PassesMoments identity moments task key first last = (script : List ℕ) → HasNow (λ c.
    HasMomentsAt task key (identity first).sectors c script (moments first) (moments last)) (moments first)

-- What is asked ran so, and this stands at each moment of it, whatever script its source tells.
abbrev pub RunsAsked : {D S O : Type 0} → (D → DiskIdentity) → (D → List Content) → (S → Option (List ℕ))
    → (O → Option (List ℕ)) → Task → (key : Option (List ℕ)) → Telling → Ending → (first last : D) → S → (sink out : O)
    → Type 0
RunsAsked identity moments left held task key telling ending first last script sink out = (bytes : List ℕ)
    → left script ≡ Some bytes → HasNow (λ c.
    HasRunIn (task_outset task key (identity first).sectors (last_image c)) telling c bytes ending (moments last)
    (held sink) (held out)
    × HasMomentsAt task key (identity first).sectors c bytes (moments first) (moments last)) (moments first)

-- The same, of the run of a script on a device in this mode, which in recovery mode leaves the disk as it was.
abbrev pub RunsScript : {D S O : Type 0} → (D → DiskIdentity) → (D → List Content) → (S → Option (List ℕ))
    → (O → Option (List ℕ)) → OpenMode → (key : Option (List ℕ)) → Ending → (first last : D) → S → (sink out : O)
    → Type 0
RunsScript identity moments left held mode key ending first last script sink out = (bytes : List ℕ)
    → left script ≡ Some bytes → HasNow (λ c.
    HasRunOn (run_outset mode key (identity first).sectors (last_image c)) c bytes ending (moments last) (held sink)
    (held out)
    × EachMoment (moments first) (moments last) (IsMomentOn mode key (identity first).sectors c bytes)
    × KeepsStill (asked_mode mode) (moments first) (moments last)) (moments first)

-- No more of the script is taken than the run of this has come to, nor is its source asked for more before that.
abbrev pub ReadsOnlyRun : {D S O : Type 0} → (D → DiskIdentity) → (D → List Content) → (S → Option (List ℕ))
    → (O → Option (List ℕ)) → (S → ℕ) → ((sectors : ℕ) → Image → Outset) → D → (script read : S) → (sink out : O)
    → Type 0
ReadsOnlyRun identity moments left held faults outset first script read sink out = (bytes : List ℕ)
    → left script ≡ Some bytes → HasNow (λ c.
    HasReadIn (outset (identity first).sectors (last_image c)) bytes (left read) (held sink) (held out)
    (faults script < faults read)) (moments first)

-- The script stays unread where it ended before that, or has none. Where there was no memory and nothing is taken of
-- it, no device was opened on the image.
pub record LeavesUnread {T D S : Type 0} (moments : D → List Content) (left : S → Option (List ℕ)) (task : Task)
    (result : Result T Ended) (first last : D) (script read : S) : Type 0 where
  pub before : IfErr result (λ ended. IsBeforeScript ended → read ≡ script)
  pub none : IsScriptless task → read ≡ script
  pub unopened : result ≡ Err Endings.Memory → ForSome (left script) (λ bytes. left read ≡ Some bytes
      → IsUnopenedAt task (moments first) (moments last))
