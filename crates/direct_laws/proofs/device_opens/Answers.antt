use Rattle.direct_laws.proofs.DeviceLemmas.{beginning_law, placed_opening_law, opening_law, moved_device_law}
use Rattle.direct_laws.proofs.device_opens.Goals as goal

pub returns-clause-begins : goal.returns-clause-begins
returns-clause-begins c = beginning_law

pub returns-clause-placed : goal.returns-clause-placed
returns-clause-placed c = placed_opening_law

pub returns-clause-opened : goal.returns-clause-opened
returns-clause-opened c = opening_law

pub returns-clause-moved : goal.returns-clause-moved
returns-clause-moved c = moved_device_law
