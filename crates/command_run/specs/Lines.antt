-- What the reading and the run of one line leave, and those of all lines of a script.
use Rattle.std.specs.Prelude.{◌≡◌, ℕ, Bool, true, false, List, ◌∷◌, ◌++◌, Option, Result, Ok, Err, ◌<◌, [], Some, IfErr, IfOk}
use Rattle.disk_model.specs.Disk.{Content}
use Rattle.device_model.specs.Grammar.{ReadLine, Means, IsReadAs}
use Rattle.device_model.specs.Script.{ScriptLine}
use Rattle.run_model.specs.ScriptRun.{run_from, ScriptRun, IsRunOf}
use Rattle.device.specs.declared.mode.DeviceParts.{DeviceParts}
use Rattle.device_parts.specs.Device.{Standing}
use Rattle.script_reader.specs.Reading.{Reading}
use Rattle.script_text.specs.declared.line_end.LineEnd.TheVariants as Ends
use Rattle.script_text.specs.declared.tags_found.TagsFound.{TagsFound}
use Rattle.script_session.specs.LineRun.{HasRunLine}
use Rattle.command_ending.specs.Ended.{ending_of}
use Rattle.command_ending.specs.declared.ended.Ended.{Ended}
use Rattle.command_ending.specs.declared.ended.Ended.TheVariants as Endings
use Rattle.command_ending.specs.declared.line_refusal.LineRefusal.TheVariants as Refusals
use Rattle.command_run.specs.Stopping.{IsStopped, IsAtClose, TakesSome}
use Rattle.run_model.specs.declared.outer.Outer.TheVariants as outers
use Rattle.command_ending.specs.declared.refusal.Refusal.TheVariants as refusals
use Rattle.std.specs.Option.{ForSome, IsSomeAnd}
use Rattle.request_slots.specs.Flight.{Flight}
use Rattle.device_parts.specs.declared.condition.Condition.TheVariants.{Working}
use Rattle.device.specs.Device.{IsDevice}
use Rattle.command_model.specs.Running.{HasReadTo}
use Rattle.command_model.specs.Taken.{HasTaken}
use Rattle.device_model.specs.ScriptBytes.{most_taken}

-- The bytes are a line, which was run.
pub record HasRunBytes (w : Standing) (bytes : List ℕ) (found : TagsFound) (parts : DeviceParts)
    (before after : List Content) (held_before held : Option (List ℕ)) : Type 0 where
  pub line : ScriptLine
  pub read : IsReadAs bytes (Means line)
  pub run : HasRunLine w line found parts before after held_before held

-- The run of a script that goes on with these bytes is stopped with them, whatever stands behind them and was
-- found before.
abbrev pub IsStoppedByBytes : Standing → (number : ℕ) → List ℕ → Ended → (before after : List Content)
    → (held_before held : Option (List ℕ)) → Type 0
IsStoppedByBytes w number bytes ended before after held_before held =
    (too_long found : Bool) (read : ReadLine) (lines : List ReadLine) → IsReadAs bytes read
    → IsStopped w (run_from w.format too_long number w.state found (read ∷ lines))
    (ending_of ended) before after
    held_before held

-- ---- the lines of a script, on each device that works

-- No request is in flight or was submitted, and nothing is read of the script.
abbrev pub BeginsScript : Flight → Reading → Type 0
BeginsScript flight reader =
    (flight.slots ≡ []) × (flight.submitted ≡ 0) × (reader ≡ record { unread = []; line = []; taken = 0 })

-- The line that these bytes are is run,
abbrev pub RunsBytes : {D O E : Type 0} → (D → List Content) → (O → Option (List ℕ)) → List ℕ → Result TagsFound E
    → (old new : DeviceParts) → (first last : D) → (sink out : O) → Type 0
RunsBytes moments held bytes result old new first last sink out = IfOk result (λ found. (w : Standing)
    → IsDevice w Working old (moments first)
    → HasRunBytes w bytes found new (moments first) (moments last) (held sink) (held out))

-- or the run is stopped with them.
abbrev pub StopsAtBytes : {T D O : Type 0} → (D → List Content) → (O → Option (List ℕ)) → (number : ℕ) → List ℕ
    → Result T Ended → DeviceParts → (first last : D) → (sink out : O) → Type 0
StopsAtBytes moments held number bytes result old first last sink out = IfErr result (λ ended. (w : Standing)
    → IsDevice w Working old (moments first)
    → IsStoppedByBytes w number bytes ended (moments first) (moments last) (held sink) (held out))

-- All lines of the script are run, and the close is left,
abbrev pub RunsLines : {D S O E : Type 0} → (D → List Content) → (S → Option (List ℕ)) → (O → Option (List ℕ))
    → Result TagsFound E → (old new : DeviceParts) → (first last : D) → S → (sink out : O) → Type 0
RunsLines moments left held result old new first last script sink out = IfOk result (λ found. (w : Standing)
    (bytes : List ℕ) (run : ScriptRun) → IsDevice w Working old (moments first) → left script ≡ Some bytes
    → IsRunOf w.format w.state bytes run
    → IsAtClose w run bytes (moments first) (held sink) found new (moments last) (held out))

-- or this has stopped the run.
abbrev pub StopsLines : {T D S O : Type 0} → (D → List Content) → (S → Option (List ℕ)) → (O → Option (List ℕ))
    → Result T Ended → DeviceParts → (first last : D) → S → (sink out : O) → Type 0
StopsLines moments left held result old first last script sink out = IfErr result (λ ended. (w : Standing)
    (bytes : List ℕ) (run : ScriptRun) → IsDevice w Working old (moments first) → left script ≡ Some bytes
    → IsRunOf w.format w.state bytes run
    → IsStopped w run (ending_of ended) (moments first) (moments last) (held sink) (held out))

-- No more of the script is taken than its bound, nor than the run has come to, nor is its source asked for more before
-- that. Where there was no memory, some of it is taken.
abbrev pub ReadsLines : {T D S O : Type 0} → (D → List Content) → (S → Option (List ℕ)) → (O → Option (List ℕ))
    → (S → ℕ) → Result T Ended → DeviceParts → D → (script read : S) → (sink out : O) → Type 0
ReadsLines moments left held faults result old first script read sink out = HasTaken most_taken (left script) (left read)
    × ((w : Standing) (bytes : List ℕ) (run : ScriptRun) → IsDevice w Working old (moments first)
    → left script ≡ Some bytes → IsRunOf w.format w.state bytes run
    → HasReadTo run bytes (left read) (held sink) (held out) (faults script < faults read))
    × (result ≡ Err Endings.Memory → TakesSome (left script) (left read))
