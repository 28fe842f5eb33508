-- The lines that are left of a script, and what a reader finds of them.
-- Own: the bounds of a script and of a line.
use Rattle.std.specs.Prelude.{◌≡◌, ℕ, ◌+◌, ◌-◌, ◌<◌, ◌≤◌, ltb, List, [], ◌∷◌, ◌++◌, length, take}
use Rattle.device_model.specs.Grammar.{most_line}
use Rattle.device_model.specs.ScriptBytes.{most_script, parts_of, ended_parts, open_part, open_line}
use Rattle.script_reader.specs.Reading.{Reading}
use Rattle.script_reader.specs.declared.next_line.NextLine.{NextLine}
use Rattle.script_reader.specs.declared.next_line.NextLine.TheVariants.{Line, End, LongLine, LongScript}

-- The lines that are left of a script, by the words of `lines_of`: `taken` bytes of it stand before `rest`.
abbrev pub lines_left : ℕ → List ℕ → List (List ℕ)
lines_left taken rest =
    let parts = parts_of (take (most_script - taken) rest) in
    ended_parts parts ++ open_line (ltb most_script (taken + length rest)) (open_part parts)

-- ---- what a reader finds: `before` is to come when it begins, and `after` when it has ended

-- The next line is this one, and the lines behind it are left. Only its bytes and its newline were taken.
pub record FindsWholeLine (old new : Reading) (before after : List ℕ) : Type 0 where
  pub next : lines_left old.taken before ≡ new.line ∷ lines_left new.taken after
  pub short : length new.line ≤ most_line
  pub more : old.taken < new.taken
  pub counted : new.taken + length after ≡ old.taken + length before

-- No line is left, and the script is not too long: it ends here.
pub record FindsEnd (old new : Reading) (before after : List ℕ) : Type 0 where
  pub none : lines_left old.taken before ≡ []
  pub within : old.taken + length before ≤ most_script
  pub line : new.line ≡ []
  pub end : after ≡ []

-- The next line is longer than a line may be. Only the first of its bytes were taken.
pub record FindsLongLine (old new : Reading) (before : List ℕ) : Type 0 where
  pub bytes : List ℕ
  pub others : List (List ℕ)
  pub next : lines_left old.taken before ≡ bytes ∷ others
  pub long : most_line < length bytes
  pub line : new.line ≡ take (most_line + 1) bytes

-- No line is left, and the script is too long. What stands within the bound was taken.
pub record FindsLongScript (old new : Reading) (before : List ℕ) : Type 0 where
  pub none : lines_left old.taken before ≡ []
  pub beyond : most_script < old.taken + length before
  pub line : new.line ≡ take (most_script - old.taken) before

-- What is told is what it found.
abbrev pub FindsLine : NextLine → Reading → Reading → List ℕ → List ℕ → Type 0
FindsLine Line old new before after = FindsWholeLine old new before after
FindsLine End old new before after = FindsEnd old new before after
FindsLine LongLine old new before after = FindsLongLine old new before
FindsLine LongScript old new before after = FindsLongScript old new before
