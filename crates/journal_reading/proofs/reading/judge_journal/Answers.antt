use Rattle.std.proofs.Common.{sym, ap, ◌∙◌}
use Rattle.std.proofs.lemmas.Result.{IfOk-weaker}
use Rattle.disk_model.specs.Disk.{last_image}
use Rattle.disk_model.specs.Moments.{content_now}
use Rattle.image_model.specs.Scan.{walk_of_grid}
use Rattle.journal_reading.proofs.JudgingLemmas.{fault_of_scan}
use Rattle.journal_reading.proofs.reading.judge_journal.Goals as goal

pub judge_planned-requires-clause-grid : goal.judge_planned-requires-clause-grid
judge_planned-requires-clause-grid g c content told = c.in_ok-grid.ensures.grid content (sym (ap content_now c.read_grid.ensures.kept) ∙ told)

pub returns-in-Ok-clause-judged : goal.returns-in-Ok-clause-judged
returns-in-Ok-clause-judged g c =
    IfOk-weaker c.judge_planned.result _ _ (λ journal judged content told. judged content (ap content_now c.read_grid.ensures.kept ∙ told)) c.judge_planned.ensures.judged

pub returns-in-Ok-clause-refused : goal.returns-in-Ok-clause-refused
returns-in-Ok-clause-refused g c not_memory not_disk content told =
    c.judge_planned.ensures.refused not_memory not_disk content (ap content_now c.read_grid.ensures.kept ∙ told)

pub returns-in-Err-clause-refused : goal.returns-in-Err-clause-refused
returns-in-Err-clause-refused g c not_memory not_disk content told =
    sym (fault_of_scan c.args.maker.now.key c.args.maker.now.salt c.args.geometry.now (last_image content) c.in-Err.fault
    (sym (ap walk_of_grid (c.in_ok-grid.ensures.grid content told)) ∙ c.in-Err.ensures.fault))
