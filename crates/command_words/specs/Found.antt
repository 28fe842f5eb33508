-- What a reading has found, as the definition has it.
use Rattle.std.specs.Prelude.{List}
use Rattle.clap.specs.Words.{Row, found_of, rows_of}
use Rattle.command_words.specs.Table.{Text}
use Rattle.command_words.specs.Given as texts
use Rattle.command_words.specs.Commands.{given_by}
use Rattle.command_words.specs.declared.given.Given.{Given}

-- The name of the command, and its matches.
abbrev pub reading_in : Given → Text × List Row
reading_in given = (given.name.now, rows_of (found_of given.matches))

-- The texts of the places and options.
abbrev pub given_in : Given → texts.Given
given_in given = given_by (rows_of (found_of given.matches))
