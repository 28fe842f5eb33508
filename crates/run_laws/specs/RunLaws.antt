-- A run is its first line and the run behind it, and so is how far it came.
use Rattle.std.specs.Prelude.{◌≡◌, ◌≢◌, ℕ, suc, ◌<◌, Bool, true, false, ◌||◌, List, [], ◌∷◌, ◌++◌, length, take}
use Rattle.std.specs.Prelude.{Some, None}
use Rattle.device_model.specs.Refusals.{ByWords, ByMeaning}
use Rattle.device_model.specs.Grammar.{ReadLine, Means, Refused}
use Rattle.device_model.specs.History.{Change}
use Rattle.device_model.specs.LineFault.{WordsFault}
use Rattle.device_model.specs.Mode.{DeviceFormat}
use Rattle.device_model.specs.Progress.{DeviceState}
use Rattle.device_model.specs.Script.{MeaningFault, ScriptLine, line_outcome, meaning_fault}
use Rattle.run_model.specs.Ending as endings
use Rattle.run_model.specs.Ending.{Ending, Complete, ByLine, ByLength}
use Rattle.run_model.specs.ScriptRun.{IsRunUpTo, ScriptRun, ScriptStep, close_step, line_step, only_ends}
use Rattle.run_model.specs.ScriptRun.{changes_in, run_from, texts_of, whole_text, with_step}

-- ---- what is run next

-- The run from here on, as the first of the lines that are left tells.
pub record IsSplitRun (f : DeviceFormat) (number : ℕ) (s : DeviceState) (found : Bool) : Type 0 where
  -- No line is left: the device is closed,
  pub closed : run_from f false number s found [] ≡ with_step (close_step f s) (only_ends (Complete found))
  -- or the bytes go on behind the bound.
  pub cut : run_from f true number s found [] ≡ only_ends (endings.Refused ByLength)
  -- A line is refused by its words,
  pub by_words : (too_long : Bool) (fault : WordsFault) (lines : List ReadLine)
      → run_from f too_long number s found (Refused fault ∷ lines)
      ≡ only_ends (endings.Refused (ByLine number (ByWords fault)))
  -- or by what it means on this device.
  pub by_meaning : (too_long : Bool) (line : ScriptLine) (fault : MeaningFault) (lines : List ReadLine)
      → meaning_fault f s.progress line ≡ Some fault
      → run_from f too_long number s found (Means line ∷ lines)
      ≡ only_ends (endings.Refused (ByLine number (ByMeaning fault)))
  -- A line that is not refused is run, and then those behind it.
  pub goes_on : (too_long : Bool) (line : ScriptLine) (lines : List ReadLine)
      → meaning_fault f s.progress line ≡ None
      → let outcome = line_outcome f s line in
      run_from f too_long number s found (Means line ∷ lines)
      ≡ with_step (line_step outcome)
      (run_from f too_long (suc number) outcome.after (found || outcome.finds_fault) lines)

abbrev pub SplitRunLaw : Type 0
SplitRunLaw = (f : DeviceFormat) (number : ℕ) (s : DeviceState) (found : Bool) → IsSplitRun f number s found

-- A run prints and does what its first step does, and then what the run behind it does.
abbrev pub WholeRunLaw : Type 0
WholeRunLaw = (step : ScriptStep) (run : ScriptRun)
    → (texts_of (with_step step run).steps ≡ step.text ++ texts_of run.steps)
    × (changes_in (with_step step run).steps ≡ step.changes ++ changes_in run.steps)
    × (whole_text (with_step step run) ≡ step.text ++ whole_text run)

-- ---- how far a run came

-- A run that only ends came to its end with nothing printed and nothing done.
abbrev pub CameToEndLaw : Type 0
CameToEndLaw = (ending : Ending) → IsRunUpTo (only_ends ending) [] []

-- What a run came to stays so with a step before it, that step's text and changes before the others.
abbrev pub CameFurtherLaw : Type 0
CameFurtherLaw = (step : ScriptStep) (run : ScriptRun) (text : List ℕ) (changes : List Change)
    → IsRunUpTo run text changes → IsRunUpTo (with_step step run) (step.text ++ text) (step.changes ++ changes)

-- A run came into its first step, where that has a text: some of its changes are made and nothing is printed as yet;
-- or all of them are made, and a part of the text is printed, not all.
pub record IsRunInto (step : ScriptStep) (run : ScriptRun) : Type 0 where
  pub changes : (made : ℕ) → step.text ≢ [] → IsRunUpTo (with_step step run) [] (take made step.changes)
  pub text : (printed : ℕ) → printed < length step.text
      → IsRunUpTo (with_step step run) (take printed step.text) step.changes

abbrev pub CameIntoLaw : Type 0
CameIntoLaw = (step : ScriptStep) (run : ScriptRun) → IsRunInto step run

-- ---- how far a run came into a line

-- So a run came as far as nothing, whichever lines are left,
abbrev pub CameToNothingLaw : Type 0
CameToNothingLaw = (f : DeviceFormat) (too_long : Bool) (number : ℕ) (s : DeviceState) (found : Bool)
    (lines : List ReadLine) → IsRunUpTo (run_from f too_long number s found lines) [] []

-- and as far as some changes of its first line, with nothing printed.
abbrev pub CameIntoLineLaw : Type 0
CameIntoLineLaw = (f : DeviceFormat) (too_long : Bool) (number : ℕ) (s : DeviceState) (found : Bool)
    (line : ScriptLine) (lines : List ReadLine) (made : ℕ) → meaning_fault f s.progress line ≡ None
    → IsRunUpTo (run_from f too_long number s found (Means line ∷ lines)) []
    (take made (line_outcome f s line).changes)
