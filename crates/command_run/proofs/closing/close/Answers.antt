use Rattle.std.proofs.Common.{sym, ◌∙◌, refl}
use Rattle.command_task.proofs.DeviceLemmas.{closed_device, failed_device, in_condition}
use Rattle.command_run.proofs.ClosingLemmas.{closing_leaves, stopped_by_close, stopped_in_close, stopped_in_closed}
use Rattle.command_task.proofs.ClosedLemmas.{rests_closed}
use Rattle.command_run.proofs.closing.close.Goals as goal

pub returns-then-is_err-clause-stopped : goal.returns-then-is_err-clause-stopped
returns-then-is_err-clause-stopped g c w is =
    let works = c.requires.works.is in
    let ended = failed_device w _ _ c.close-closed.result.0 (sym c.is_err.ensures.value ∙ c.if-is_err.true)
    (λ broken. let is_broken = c.close-closed.ensures.broken.1 broken in absurd (cc))
    (c.close-closed.ensures.closed w (in_condition w _ _ _ _ works is)) in
    stopped_in_close w c.args.found _ _ _ _ (closing_leaves w c.args.found _ _ _ is (c.close-closed.ensures.writes works) c.close-closed.ensures.tags) (ended.through, ended.left) refl

pub returns-in-Ok-clause-stopped : goal.returns-in-Ok-clause-stopped
returns-in-Ok-clause-stopped g c w is =
    let works = c.requires.works.is in
    let ended = closed_device w _ _ c.close-closed.result.0 (sym c.is_err.ensures.value ∙ c.if-is_err.false)
    (c.close-closed.ensures.closed w (in_condition w _ _ _ _ works is)) in
    stopped_by_close w c.args.found _ _ _ _ (closing_leaves w c.args.found _ _ _ is (c.close-closed.ensures.writes works) c.close-closed.ensures.tags) (ended.through, ended.left) c.in-Ok.ensures.written

pub returns-in-Err-clause-stopped : goal.returns-in-Err-clause-stopped
returns-in-Err-clause-stopped g c w is =
    let works = c.requires.works.is in
    let ended = closed_device w _ _ c.close-closed.result.0 (sym c.is_err.ensures.value ∙ c.if-is_err.false)
    (c.close-closed.ensures.closed w (in_condition w _ _ _ _ works is)) in
    stopped_in_closed w c.args.found _ _ _ _ (closing_leaves w c.args.found _ _ _ is (c.close-closed.ensures.writes works) c.close-closed.ensures.tags) (ended.through, ended.left) c.in-Err.ensures.err

pub returns-in-Ok-clause-rests : goal.returns-in-Ok-clause-rests
returns-in-Ok-clause-rests g c w is =
    rests_closed c.close-closed.result.0 (sym c.is_err.ensures.value ∙ c.if-is_err.false) _ _ _ _ c.close-closed.ensures.rests w
    (in_condition w _ _ _ _ c.requires.works.is is)
