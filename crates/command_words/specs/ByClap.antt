-- What `clap` is told of the table, and what it makes of words.
use Rattle.std.specs.Prelude.{map, true, Some, fold, codes}
use Rattle.clap.specs.Words.{App, Rule, new_app, new_rule, with_rule, with_subcommand}
use Rattle.clap.specs.declared.builder.ArgAction.{ArgAction}
use Rattle.clap.specs.declared.builder.ArgAction.TheVariants.{Set, SetTrue}
use Rattle.command_words.specs.declared.table.Takes.{Takes}
use Rattle.command_words.specs.declared.table.Takes.TheVariants.{Value, Nothing}
use Rattle.command_words.specs.Table.{Entry, OptionEntry, Text, table}

-- What a use of an option does, by what it takes.
abbrev pub action_for : Takes → ArgAction
action_for Value = Set
action_for Nothing = SetTrue

-- An option, as `clap` is told of it.
abbrev pub option_rule : OptionEntry → Rule
option_rule option = record (new_rule option.name) { long = Some option.name; action = Some (action_for option.takes) }

-- A word that is no option, as `clap` is told of it: it is required.
abbrev pub place_rule : Text → Rule
place_rule name = record (new_rule name) { action = Some Set; required = true }

-- A command, as `clap` is told of it.
abbrev pub entry_app : Entry → App
entry_app entry =
    fold with_rule (fold with_rule (new_app entry.name) (map place_rule entry.places)) (map option_rule entry.options)

-- The program without its commands: it prints no help, and a command is required.
abbrev pub bare_app : App
bare_app =
    let new = new_app (codes "integrity") in
    record new {
      top = record new.top {
        disable_help_flag = true;
        disable_help_subcommand = true;
        subcommand_required = true;
      };
    }

-- One more command.
abbrev pub with_entry : App → Entry → App
with_entry app entry = with_subcommand app (entry_app entry).top

-- The program, as `clap` is told of it.
abbrev pub app : App
app = fold with_entry bare_app table
