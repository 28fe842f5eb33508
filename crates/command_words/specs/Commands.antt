-- Which words are which command.
use Rattle.std.specs.Prelude.{◌||◌, List, [], ◌∷◌, Bool, false, Option, None, if◌then◌else◌, drop, option_and_then}
use Rattle.std.specs.Prelude.{codes}
use Rattle.std.specs.List.{list_any}
use Rattle.std.specs.Str.{bytes_eq}
use Rattle.clap.specs.Words.{Kinds, Row, fault_of, first_of, subcommand_of}
use Rattle.command_words.specs.Table.{Text}
use Rattle.command_words.specs.ByClap.{app}
use Rattle.command_words.specs.Given.{Given}
use Rattle.command_words.specs.Judging.{command_named}
use Rattle.command_words.specs.declared.command.Command.{Command}

-- The word asks for help or for the version.
abbrev pub is_question : Text → Bool
is_question word = bytes_eq word (codes "-h") || (bytes_eq word (codes "--help")
    || (bytes_eq word (codes "-V") || bytes_eq word (codes "--version")))

abbrev pub begins_with_help : List Text → Bool
begins_with_help [] = false
begins_with_help (word ∷ words) = bytes_eq word (codes "help")

-- The words behind the program's name ask for help or for the version: one of them does, or the first is `help`.
-- Own: no command does that.
abbrev pub asks_for_help : List Text → Bool
asks_for_help words = list_any is_question words || begins_with_help words

-- What `clap` has found, by the names of places and options.
abbrev pub given_by : List Row → Given
given_by rows = λ name. first_of name rows

-- What was read, unless there is a kind of refusal.
abbrev pub unless_refused : {X : Type 0} → Kinds → Option X → Option X
unless_refused [] read = read
unless_refused (kind ∷ kinds) read = None

-- The name of the command and its matches, as `clap` reads the words, if it does not refuse them.
abbrev pub reading_of : List Text → Option (Text × List Row)
reading_of words = unless_refused (fault_of app words) (subcommand_of app words)

-- The command that the words are, if they are one. The first word is the program's name.
abbrev pub command_of : List Text → Option Command
command_of words =
    if asks_for_help (drop 1 words) then None
    else option_and_then (λ reading. command_named reading.0 (given_by reading.1)) (reading_of words)
