-- How much of its script a run has taken.
use Rattle.std.specs.Prelude.{◌≡◌, ℕ, ◌+◌, ◌≤◌, List, ◌++◌, length, take, Option, Some}
use Rattle.std.specs.Option.{IsSomeAnd}
use Rattle.device_model.specs.ScriptBytes.{HasNoNewline, most_piece, newlines_in}
use Rattle.run_model.specs.ScriptRun.{ScriptRun, texts_of}
use Rattle.command_model.specs.Taken.{HoldsText}

-- No more of a script is taken than lines of its run whose text is all printed, one line behind them, and one piece
-- behind that. What ends a line is its newline, or nothing. A line that is refused is none of the run: it is the one
-- behind them. Where the source failed, not even what ends that one line is taken. Any call of the source may fail: so
-- it is called only where each line that it gave whole is run, and the text printed.
pub record HasReadTo (run : ScriptRun) (script : List ℕ) (left held_before held : Option (List ℕ)) (failed : Type 0)
    : Type 0 where
  pub done : ℕ
  pub of_run : done ≤ length run.steps
  pub printed : HoldsText (texts_of (take done run.steps)) held_before held
  pub front : List ℕ
  pub line : List ℕ
  pub ending : List ℕ
  pub behind : List ℕ
  pub bytes : script ≡ front ++ (line ++ (ending ++ behind))
  pub within : newlines_in front ≤ done
  pub plain : HasNoNewline line
  pub short : length ending ≤ 1
  pub taken : IsSomeAnd left (λ more. length behind ≤ length more + most_piece)
  pub asked : failed → left ≡ Some (ending ++ behind)
