use Rattle.mirror_core.proofs.OpenedLemmas.{opened_leg_law, resting_law}
use Rattle.mirror_core.proofs.leg_laws.devices_are_legs.Goals as goal

pub returns-clause-resting : goal.returns-clause-resting
returns-clause-resting g c = resting_law g.D.Disk.identity g.D.Disk.moments

pub returns-clause-opened : goal.returns-clause-opened
returns-clause-opened g c = opened_leg_law g.D.Disk.identity g.D.Disk.moments
