-- What the calls of a run tell: of each mirror that the legs are, and of the counts of faults whatever the disks tell.
use Rattle.std.specs.Prelude.{◌≡◌, ℕ, ◌+◌, ◌^◌, ◌<◌, ◌≤◌, Bool, List, Option, Some, Result, IfErr, IfOk, OnOk}
use Rattle.disk_model.specs.Causes.{Rose}
use Rattle.mirror_model.specs.Script.{MirrorLine}
use Rattle.mirror_model.specs.ScriptRun.{IsMirrorRunOf, MirrorRun, levelled_run}
use Rattle.mirror_session.specs.Answering.{OneRose}
use Rattle.run_model.specs.declared.outer.Outer.TheVariants as outers
use Rattle.script_text.specs.declared.tags_found.TagsFound.{TagsFound}
use Rattle.command_ending.specs.Ended.{ending_of}
use Rattle.command_ending.specs.declared.ended.Ended.{Ended}
use Rattle.script_lines.specs.Ends.{HasEndCause, IsCounted}
use Rattle.command_model.specs.Taken.{HasTaken}
use Rattle.device_model.specs.ScriptBytes.{most_taken}
use Rattle.command_model.specs.Mirroring.{HasReadTo}
use Rattle.mirror_run.specs.Lines.{HasMadeStep, HasRunBytes, IsStoppedByBytes, level_at}
use Rattle.mirror_run.specs.Running.{IsAtClose, IsStopped}
use Rattle.mirror_run.specs.Standing.{Cuts, IsStanding, Shown, Standing, format_at}

-- Each leg may be asked as much as a script asks: a level of all blocks, and then lines, of which there are no more than
-- bytes in a script.
pub record MayAskScript {A B : Type 0} (a_asked : A → ℕ) (b_asked : B → ℕ) (a : A) (b : B) : Type 0 where
  pub first : a_asked a + 2 ^ 51 ≤ 2 ^ 64
  pub second : b_asked b + 2 ^ 51 ≤ 2 ^ 64

-- ---- the levelling

-- The mirror is levelled, and that is told,
abbrev pub LevelsFirst : {A B O T E : Type 0} → Cuts → (A → B → Shown) → (O → Option (List ℕ)) → Result T E → A → B
    → A → B → (first last : O) → Type 0
LevelsFirst may show held result a_old b_old a_new b_new first last = OnOk result ((w : Standing)
    → IsStanding w (show a_old b_old)
    → HasMadeStep may w (level_at w) (show a_old b_old).moments (show a_new b_new) (held first) (held last))

-- or the run is stopped with that, whichever lines stand behind it.
abbrev pub StopsLevel : {A B O T : Type 0} → Cuts → (A → B → Shown) → (O → Option (List ℕ)) → Result T Ended → A → B
    → A → B → (first last : O) → Type 0
StopsLevel may show held result a_old b_old a_new b_new first last = IfErr result (λ ended. (w : Standing)
    (too_long : Bool) (lines : List MirrorLine) → IsStanding w (show a_old b_old)
    → IsStopped may w (levelled_run (format_at w) too_long w.m lines) (ending_of ended)
    (show a_old b_old).moments (show a_new b_new).moments (held first) (held last))

-- ---- a line

-- The line that these bytes are is run,
abbrev pub RunsBytes : {A B O E : Type 0} → Cuts → (A → B → Shown) → (O → Option (List ℕ)) → List ℕ
    → Result TagsFound E → A → B → A → B → (first last : O) → Type 0
RunsBytes may show held bytes result a_old b_old a_new b_new first last = IfOk result (λ found. (w : Standing)
    → IsStanding w (show a_old b_old)
    → HasRunBytes may w bytes found (show a_old b_old).moments (show a_new b_new) (held first) (held last))

-- or the run is stopped with them.
abbrev pub StopsAtBytes : {A B O T : Type 0} → Cuts → (A → B → Shown) → (O → Option (List ℕ)) → (number : ℕ) → List ℕ
    → Result T Ended → A → B → A → B → (first last : O) → Type 0
StopsAtBytes may show held number bytes result a_old b_old a_new b_new first last = IfErr result (λ ended.
    (w : Standing) → IsStanding w (show a_old b_old)
    → IsStoppedByBytes may w number bytes ended (show a_old b_old).moments (show a_new b_new).moments
    (held first) (held last))

-- ---- a script

-- The mirror is levelled and all lines of the script are run, and the close is left,
abbrev pub RunsScript : {A B S O E : Type 0} → Cuts → (A → B → Shown) → (S → Option (List ℕ))
    → (O → Option (List ℕ)) → Result TagsFound E → A → B → A → B → S → (first last : O) → Type 0
RunsScript may show left held result a_old b_old a_new b_new script first last = IfOk result (λ found.
    (w : Standing) (bytes : List ℕ) (run : MirrorRun) → IsStanding w (show a_old b_old) → left script ≡ Some bytes
    → IsMirrorRunOf (format_at w) w.m bytes run
    → IsAtClose may w run (show a_old b_old).moments (held first) found (show a_new b_new) (held last))

-- or this has stopped the run.
abbrev pub StopsScript : {T A B S O : Type 0} → Cuts → (A → B → Shown) → (S → Option (List ℕ))
    → (O → Option (List ℕ)) → Result T Ended → A → B → A → B → S → (first last : O) → Type 0
StopsScript may show left held result a_old b_old a_new b_new script first last = IfErr result (λ ended.
    (w : Standing) (bytes : List ℕ) (run : MirrorRun) → IsStanding w (show a_old b_old) → left script ≡ Some bytes
    → IsMirrorRunOf (format_at w) w.m bytes run
    → IsStopped may w run (ending_of ended) (show a_old b_old).moments (show a_new b_new).moments
    (held first) (held last))

-- No more of the script is taken than its bound, nor than the run has come to, nor is its source asked for more before
-- that.
abbrev pub ReadsScript : {A B S O : Type 0} → (A → B → Shown) → (S → Option (List ℕ)) → (O → Option (List ℕ))
    → (S → ℕ) → A → B → (script read : S) → (first last : O) → Type 0
ReadsScript show left held faults a_old b_old script read first last = HasTaken most_taken (left script) (left read)
    × ((w : Standing) (bytes : List ℕ) (run : MirrorRun) → IsStanding w (show a_old b_old) → left script ≡ Some bytes
    → IsMirrorRunOf (format_at w) w.m bytes run
    → HasReadTo run bytes (left read) (held first) (held last) (faults script < faults read))

-- ---- causes

-- What ends a line is a disk or the sink only where the count of its faults rose, and of the disks that of one alone,
abbrev pub HasCauseOfLine : {T A B O : Type 0} → (A → ℕ) → (B → ℕ) → (O → ℕ) → Result T Ended → A → B → A → B
    → (first last : O) → Type 0
HasCauseOfLine a_faults b_faults sink_faults result a_old b_old a_new b_new first last = IfErr result
    (HasEndCause (OneRose (a_faults a_old) (a_faults a_new) (b_faults b_old) (b_faults b_new)) ⊥
    (Rose (sink_faults first) (sink_faults last)))

-- and of a script its source too.
abbrev pub HasCauseOfScript : {T A B S O : Type 0} → (A → ℕ) → (B → ℕ) → (S → ℕ) → (O → ℕ) → Result T Ended → A → B
    → A → B → (script read : S) → (first last : O) → Type 0
HasCauseOfScript a_faults b_faults script_faults sink_faults result a_old b_old a_new b_new script read first last =
    IfErr result (HasEndCause (OneRose (a_faults a_old) (a_faults a_new) (b_faults b_old) (b_faults b_new))
    (Rose (script_faults script) (script_faults read)) (Rose (sink_faults first) (sink_faults last)))

-- Each count of faults rises only where that is what ended it: in a line,
abbrev pub IsCountedInLine : {T A B O : Type 0} → (A → ℕ) → (B → ℕ) → (O → ℕ) → Result T Ended → A → B → A → B
    → (first last : O) → Type 0
IsCountedInLine a_faults b_faults sink_faults result a_old b_old a_new b_new first last =
    IsCounted outers.Disk (a_faults a_old) (a_faults a_new) result
    × IsCounted outers.Disk (b_faults b_old) (b_faults b_new) result
    × IsCounted outers.Sink (sink_faults first) (sink_faults last) result

-- and in a script.
abbrev pub IsCountedInScript : {T A B S O : Type 0} → (A → ℕ) → (B → ℕ) → (S → ℕ) → (O → ℕ) → Result T Ended → A → B
    → A → B → (script read : S) → (first last : O) → Type 0
IsCountedInScript a_faults b_faults script_faults sink_faults result a_old b_old a_new b_new script read first last =
    IsCounted outers.Disk (a_faults a_old) (a_faults a_new) result
    × IsCounted outers.Disk (b_faults b_old) (b_faults b_new) result
    × IsCounted outers.Script (script_faults script) (script_faults read) result
    × IsCounted outers.Sink (sink_faults first) (sink_faults last) result
