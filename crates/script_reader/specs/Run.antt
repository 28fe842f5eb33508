-- One run of a reader's unread bytes.
use Rattle.std.specs.Prelude.{◌≡◌, ℕ, ◌+◌, ◌<◌, ◌≤◌, List, [], ◌∷◌, ◌++◌, length, Option, None, Some}
use Rattle.device_model.specs.Grammar.{most_line}
use Rattle.device_model.specs.ScriptBytes.{most_script, HasNoNewline}
use Rattle.script_reader.specs.Reading.{Reading}
use Rattle.script_reader.specs.declared.next_line.NextLine.{NextLine}
use Rattle.script_reader.specs.declared.next_line.NextLine.TheVariants.{Line, End, LongLine, LongScript}

-- The line grew by a run of the unread bytes, and `ending` was taken behind it.
pub record TakesRun (ending : List ℕ) (old new : Reading) : Type 0 where
  pub run : List ℕ
  pub plain : HasNoNewline run
  pub unread : old.unread ≡ run ++ (ending ++ new.unread)
  pub line : new.line ≡ old.line ++ run
  pub taken : new.taken ≡ old.taken + length run + length ending
  pub within : new.taken ≤ most_script

-- What is told of a run is what it ended at. Nothing is told where the line goes on behind the unread bytes.
abbrev pub EndsRun : Option NextLine → Reading → Reading → Type 0
EndsRun (Some Line) old new = TakesRun (10 ∷ []) old new × (length new.line ≤ most_line)
EndsRun (Some End) old new = ⊥
EndsRun (Some LongLine) old new = TakesRun [] old new × (length new.line ≡ most_line + 1)
EndsRun (Some LongScript) old new = (new ≡ old) × (old.taken ≡ most_script)
EndsRun None old new = TakesRun [] old new × (length new.line ≤ most_line) × (old.taken < new.taken)
