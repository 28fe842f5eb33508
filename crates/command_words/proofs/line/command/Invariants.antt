-- The command so far is the one of the first places, and then of the first options.
use Rattle.std.proofs.Common.{◌≡◌, false, fold, map, take}
use Rattle.clap.specs.Words.{app_of, new_app, with_rule}
use Rattle.clap.specs.declared.builder.Command.TheViews.{out-Command}
use Rattle.command_words.specs.ByClap.{option_rule, place_rule}
use Rattle.command_words.specs.Rows.{as_option}
use Rattle.command_words.proofs.line.command.Given as goal

abbrev pub invariant-loop-name : goal.invariant-loop-name
invariant-loop-name l = record {
  app : app_of l.command
      ≡ fold with_rule (new_app l.row.name.now) (take l.name-index (map (λ name. place_rule name.now) l.name-items));
  local : (out-Command l.command).has_globals ≡ false;
}

abbrev pub invariant-loop-row : goal.invariant-loop-row
invariant-loop-row l = record {
  app : app_of l.command ≡ fold with_rule
      (fold with_rule (new_app l.fn.row.name.now) (map (λ name. place_rule name.now) l.fn.row.places.now))
      (take l.row-index (map (λ option. option_rule (as_option option)) l.row-items));
  local : (out-Command l.command).has_globals ≡ false;
}
