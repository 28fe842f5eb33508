-- How much of its script a mirror takes.
-- Own: the mirror is levelled before the first line, and the script is not read before that is told.
use Rattle.std.specs.Prelude.{◌≡◌, ℕ, ◌+◌, ◌-◌, ◌≤◌, List, ◌++◌, length, take, Option, Some}
use Rattle.std.specs.Option.{IsSomeAnd}
use Rattle.device_model.specs.ScriptBytes.{HasNoNewline, most_piece, newlines_in}
use Rattle.mirror_model.specs.Command.{IsMirrorRunAt, MirrorOutset, Mirrors}
use Rattle.mirror_model.specs.ScriptRun.{MirrorRun, mirror_texts_of}
use Rattle.command_model.specs.Taken.{HoldsText}

-- No more of a script is taken than lines of its run whose text is all printed, one line behind them, and one piece
-- behind that; and nothing before the levelling is told, which is the first step. Where the source failed, not even
-- what ends that one line is taken: it is called only where each line that it gave whole is run, and the text printed.
pub record HasReadTo (run : MirrorRun) (script : List ℕ) (left held_before held : Option (List ℕ)) (failed : Type 0)
    : Type 0 where
  pub done : ℕ
  pub of_run : done ≤ length run.steps
  pub printed : HoldsText (mirror_texts_of (take done run.steps)) held_before held
  pub front : List ℕ
  pub line : List ℕ
  pub ending : List ℕ
  pub behind : List ℕ
  pub bytes : script ≡ front ++ (line ++ (ending ++ behind))
  pub within : newlines_in front ≤ done - 1
  pub plain : HasNoNewline line
  pub short : length ending ≤ 1
  pub taken : IsSomeAnd left (λ more. length behind ≤ length more + most_piece)
  pub asked : failed → left ≡ Some (ending ++ behind)
  pub untouched : done ≡ 0 → left ≡ Some script

-- A script is read where it is run on a mirror, and no further than its run has come to.
abbrev pub HasReadIn : MirrorOutset → (script : List ℕ) → (left held_before held : Option (List ℕ)) → (failed : Type 0)
    → Type 0
HasReadIn (Mirrors kind first second) script left held_before held failed = (run : MirrorRun)
    → IsMirrorRunAt (Mirrors kind first second) script run → HasReadTo run script left held_before held failed
HasReadIn outset script left held_before held failed = left ≡ Some script
