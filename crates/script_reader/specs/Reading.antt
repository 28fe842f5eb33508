-- What a contract sees of a `LineReader`, and the bounds that it keeps.
-- Own: how many bytes are read at a time.
use Rattle.std.specs.Prelude.{◌≡◌, ◌⊎◌, ℕ, ◌+◌, ◌<◌, ◌≤◌, List, ◌++◌, length}
use Rattle.std.specs.List.{Contains}
use Rattle.device_model.specs.Grammar.{most_line}
use Rattle.device_model.specs.ScriptBytes.{most_script, HasNoNewline, most_piece}

-- A reader of lines: the bytes that it has read and not taken, its line, and how many bytes it took so far.
pub record Reading : Type 0 where
  pub unread : List ℕ
  pub line : List ℕ
  pub taken : ℕ

-- It took no byte beyond the bound of a script, and has read one at most. It reads one piece ahead at most.
pub record IsWithin (reading : Reading) : Type 0 where
  pub taken : reading.taken ≤ most_script
  pub read : reading.taken + length reading.unread ≤ most_script + 1
  pub ahead : length reading.unread ≤ most_piece

-- What it has read settles what it tells next: a newline is in it, or the byte beyond the bound of a script.
abbrev pub IsSettled : Reading → Type 0
IsSettled reading = Contains reading.unread 10 ⊎ (most_script < reading.taken + length reading.unread)

-- ---- what a call takes of the bytes that are to come: `before` when it begins, and `after` when it has ended

-- It took the bytes of its line alone, and the line does not end in them.
pub record BeginsLine (old new : Reading) (before after : List ℕ) : Type 0 where
  pub plain : HasNoNewline new.line
  pub bytes : before ≡ new.line ++ after
  pub counted : new.taken ≡ old.taken + length new.line

-- It took its line, and what ends that: a newline at most. No other byte is taken, and none is lost.
pub record TakesLine (old new : Reading) (before after : List ℕ) : Type 0 where
  pub plain : HasNoNewline new.line
  pub ending : List ℕ
  pub short : length ending ≤ 1
  pub bytes : before ≡ new.line ++ (ending ++ after)
  pub counted : new.taken ≡ old.taken + length new.line + length ending
