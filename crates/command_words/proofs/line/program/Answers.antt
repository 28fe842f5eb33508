use Rattle.std.proofs.Common.{◌∙◌, ap, rules}
use Rattle.clap.specs.Words.{App, app_of, with_subcommand}
use Rattle.command_words.specs.ByClap.{with_entry}
use Rattle.command_words.specs.Rows.{as_entry}
use Rattle.command_words.proofs.FoldLemmas.{fold_step}
use Rattle.command_words.proofs.line.program.Goals as goal

pub loop-row-preserved : goal.loop-row-preserved
loop-row-preserved c =
    c.in_ok-program.ensures.shape c.in_ok-command.ensures.local
    ∙ ap (λ (a : App). with_subcommand (app_of c.loop-row.program) a.top) c.in_ok-command.ensures.app
    ∙ fold_step with_entry as_entry _ (app_of c.loop-row.program) c.commands-row-items.result.now c.loop-row.row-index _
    (search rules) c.loop-row.invariant
