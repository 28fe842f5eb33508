-- What stands next in a script, and what is left of it.
use Rattle.std.specs.Prelude.{◌≡◌, ℕ, ◌+◌, ltb, Bool, true, false, List, ◌++◌, length, Result, Ok, Err}
use Rattle.device_model.specs.ScriptBytes.{most_script}
use Rattle.run_model.specs.declared.outer.Outer.TheVariants as outers
use Rattle.script_reader.specs.Lines.{FindsEnd, FindsLongLine, FindsLongScript, FindsWholeLine, lines_left}
use Rattle.script_reader.specs.Reading.{BeginsLine, Reading}
use Rattle.command_ending.specs.declared.ended.Ended.{Ended}
use Rattle.command_ending.specs.declared.ended.Ended.TheVariants as Endings
use Rattle.command_ending.specs.declared.form_fault.FormFault.TheVariants.{TooLong}
use Rattle.command_ending.specs.declared.line_refusal.LineRefusal.TheVariants as Refusals
use Rattle.command_ending.specs.declared.refusal.Refusal.TheVariants as refusals

-- A line stands next; or the script's end; a line that is too long; or bytes beyond the script's bound. Where the source
-- failed, a line has begun at most: its bytes are taken, and none behind them is read.
abbrev pub HasAdvanced : ℕ → (old new : Reading) → (left later : List ℕ) → Result Bool Ended → Type 0
HasAdvanced number old new left later (Ok true) = FindsWholeLine old new (old.unread ++ left)
    (new.unread ++ later)
HasAdvanced number old new left later (Ok false) = FindsEnd old new (old.unread ++ left) (new.unread ++ later)
HasAdvanced number old new left later (Err (Endings.Refused (refusals.Line n refusal))) =
    (n ≡ number) × (refusal ≡ Refusals.Form TooLong) × FindsLongLine old new (old.unread ++ left)
HasAdvanced number old new left later (Err (Endings.Refused refusals.Length)) = FindsLongScript old new (old.unread ++ left)
HasAdvanced number old new left later (Err ended) =
    (ended ≡ Endings.Failed outers.Script) × BeginsLine old new (old.unread ++ left) later

-- The script is too long, where this is left of it.
abbrev pub is_beyond : Reading → List ℕ → Bool
is_beyond reader left = ltb most_script (reader.taken + length (reader.unread ++ left))

-- The lines that are left of a script.
abbrev pub lines_behind : Reading → List ℕ → List (List ℕ)
lines_behind reader left = lines_left reader.taken (reader.unread ++ left)
