-- The program so far has the first commands of the table.
use Rattle.std.proofs.Common.{◌≡◌, fold, map, take}
use Rattle.clap.specs.Words.{app_of}
use Rattle.command_words.specs.ByClap.{bare_app, with_entry}
use Rattle.command_words.specs.Rows.{as_entry}
use Rattle.command_words.proofs.line.program.Given as goal

abbrev pub invariant-loop-row : goal.invariant-loop-row
invariant-loop-row l = app_of l.program ≡ fold with_entry bare_app (take l.row-index (map as_entry l.row-items))
