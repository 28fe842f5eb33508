-- The run of a script on a device: what its lines print and do, one after the other, and what ends it.
-- Own: each line is run before the next is judged; the device is closed behind the last.
use Rattle.std.specs.Prelude.{◌≡◌, ◌≢◌, ◌⊎◌, ℕ, suc, ◌<◌, ◌≤◌, Bool, false, ◌||◌, if◌then◌else◌, List, [], ◌∷◌, ◌++◌, length, take, flat_map, slice_get, Some, None}
use Rattle.std.specs.List.{AllZip}
use Rattle.device_model.specs.Refusals.{ByWords, ByMeaning}
use Rattle.device_model.specs.Grammar.{ReadLine, Means, Refused, IsReadAs}
use Rattle.device_model.specs.History.{Change}
use Rattle.device_model.specs.Mode.{DeviceFormat}
use Rattle.device_model.specs.Progress.{DeviceState, Close, event_result}
use Rattle.device_model.specs.Script.{LineOutcome, line_outcome, meaning_fault}
use Rattle.device_model.specs.ScriptBytes.{lines_of, is_too_long}
use Rattle.device_model.specs.Transcript.{closed_text}
use Rattle.run_model.specs.Ending as endings
use Rattle.run_model.specs.Ending.{Ending, Complete, ByLine, ByLength, fault_text}

-- What a line, or the close behind the last, prints and does to the history.
pub record ScriptStep : Type 0 where
  pub text : List ℕ
  pub changes : List Change

-- The steps of a run, each made whole, and what ends it.
pub record ScriptRun : Type 0 where
  pub steps : List ScriptStep
  pub ending : Ending

abbrev pub line_step : LineOutcome → ScriptStep
line_step outcome = record { text = outcome.text; changes = outcome.changes }

abbrev pub close_step : DeviceFormat → DeviceState → ScriptStep
close_step f s = record { text = closed_text; changes = (event_result f s Close).changes }

abbrev pub with_step : ScriptStep → ScriptRun → ScriptRun
with_step step run = record run { steps = step ∷ run.steps }

-- Nothing is run any more.
abbrev pub only_ends : Ending → ScriptRun
only_ends ending = record { steps = []; ending = ending }

-- The run of some lines, the first of which has this number: up to the first that is refused, else to the close, or to the
-- bound where the script is too long. `found` tells whether a line before them told a block whose tag is not that of its bytes.
abbrev pub run_from : DeviceFormat → (too_long : Bool) → ℕ → DeviceState → (found : Bool) → List ReadLine → ScriptRun
run_from f too_long number s found [] =
    if too_long then only_ends (endings.Refused ByLength) else with_step (close_step f s) (only_ends (Complete found))
run_from f too_long number s found (Refused fault ∷ lines) = only_ends (endings.Refused (ByLine number (ByWords fault)))
run_from f too_long number s found (Means line ∷ lines) = elim (meaning_fault f s.progress line) [
  | Some fault ↦ only_ends (endings.Refused (ByLine number (ByMeaning fault)))
  | None ↦
      let outcome = line_outcome f s line in
      with_step (line_step outcome) (run_from f too_long (suc number) outcome.after (found || outcome.finds_fault) lines)
]

-- The run of a script on a device in this state, where nothing outside fails.
pub record IsRunOf (f : DeviceFormat) (s : DeviceState) (script : List ℕ) (run : ScriptRun) : Type 0 where
  pub lines : List ReadLine
  pub read : AllZip IsReadAs (lines_of script) lines
  pub is : run ≡ run_from f (is_too_long script) 1 s false lines

-- ---- what is printed and done

abbrev pub texts_of : List ScriptStep → List ℕ
texts_of steps = flat_map (λ step. step.text) steps

abbrev pub changes_in : List ScriptStep → List Change
changes_in steps = flat_map (λ step. step.changes) steps

-- All that a whole run prints, the line of what ends it included.
abbrev pub whole_text : ScriptRun → List ℕ
whole_text run = texts_of run.steps ++ fault_text run.ending

-- ---- how far a run came that something outside ended

-- Some steps are whole, and of the next one some changes are made and a part of its text is printed, not all.
pub record IsPartOf (run : ScriptRun) (text : List ℕ) (changes : List Change) : Type 0 where
  pub whole : ℕ
  pub step : ScriptStep
  pub next : slice_get run.steps whole ≡ Some step
  pub printed : ℕ
  pub printed_less : printed < length step.text
  pub made : ℕ
  pub is_text : text ≡ texts_of (take whole run.steps) ++ take printed step.text
  pub is_changes : changes ≡ changes_in (take whole run.steps) ++ take made step.changes
  -- A text is printed once all that its step does is done.
  pub in_order : (printed ≢ 0) → length step.changes ≤ made

-- All steps are whole.
pub record IsWhole (run : ScriptRun) (text : List ℕ) (changes : List Change) : Type 0 where
  pub is_text : text ≡ texts_of run.steps
  pub is_changes : changes ≡ changes_in run.steps

-- So far a run came: text, and changes of the history.
abbrev pub IsRunUpTo : ScriptRun → List ℕ → List Change → Type 0
IsRunUpTo run text changes = IsPartOf run text changes ⊎ IsWhole run text changes
