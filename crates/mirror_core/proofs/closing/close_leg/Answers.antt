use Rattle.std.proofs.Common.{Result, subst}
use Rattle.device_parts.specs.declared.answers.StepFault.{StepFault}
use Rattle.device.specs.Calls.{Closes}
use Rattle.mirror_core.proofs.CloseLemmas.{close_flushes, close_leaves}
use Rattle.mirror_core.proofs.closing.close_leg.Goals as goal

pub returns-in-Ok-clause-flushed : goal.returns-in-Ok-clause-flushed
returns-in-Ok-clause-flushed g c =
    let device = c.args.leg.device in
    let before = g.D.Disk.moments device.disk.now in
    let after = g.D.Disk.moments c.close-closed.result.1.now in
    close_flushes device.parts device.condition before after c.in-Ok.field-0 c.requires.works.is
    (subst (λ (r : Result (Unit {0}) StepFault). Closes r device.condition device.parts before after) c.in-Ok.is c.close-closed.ensures.closed)

pub returns-in-Ok-clause-moments : goal.returns-in-Ok-clause-moments
returns-in-Ok-clause-moments g c =
    let device = c.args.leg.device in
    close_leaves device.parts device.condition (g.D.Disk.moments device.disk.now) (g.D.Disk.moments c.close-closed.result.1.now)
    c.close-closed.result.0 c.requires.works.is c.close-closed.ensures.closed

pub returns-in-Err-clause-moments : goal.returns-in-Err-clause-moments
returns-in-Err-clause-moments g c =
    let device = c.args.leg.device in
    close_leaves device.parts device.condition (g.D.Disk.moments device.disk.now) (g.D.Disk.moments c.close-closed.result.1.now)
    c.close-closed.result.0 c.requires.works.is c.close-closed.ensures.closed
