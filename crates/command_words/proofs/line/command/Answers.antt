use Rattle.std.proofs.Common.{◌∙◌, ap, rules}
use Rattle.clap.specs.Words.{app_of, with_rule}
use Rattle.command_words.specs.ByClap.{option_rule, place_rule}
use Rattle.command_words.specs.Rows.{as_option}
use Rattle.command_words.proofs.FoldLemmas.{fold_step}
use Rattle.command_words.proofs.line.command.Goals as goal

pub loop-name-preserved : goal.loop-name-preserved
loop-name-preserved c = record {
  app = c.in_ok-command.ensures.shape c.place.ensures.local
      ∙ ap (with_rule (app_of c.loop-name.command)) c.place.ensures.rule
      ∙ fold_step with_rule (λ name. place_rule name.now) _ (app_of c.loop-name.command) c.args.row.now.places.now
      c.loop-name.name-index _ (search rules) c.loop-name.invariant.app;
  local = search rules;
}

pub loop-row-preserved : goal.loop-row-preserved
loop-row-preserved c = record {
  app = c.in_ok-command-2.ensures.shape c.option.ensures.local
      ∙ ap (with_rule (app_of c.loop-row.command)) c.option.ensures.rule
      ∙ fold_step with_rule (λ option. option_rule (as_option option)) _ (app_of c.loop-row.command)
      c.args.row.now.options.now c.loop-row.row-index _ (search rules) c.loop-row.invariant.app;
  local = search rules;
}
