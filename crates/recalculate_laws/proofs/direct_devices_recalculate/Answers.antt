use Rattle.recalculate_laws.proofs.DirectDeviceLemmas.{direct_read_law, direct_recalc_law, direct_idle_law}
use Rattle.recalculate_laws.proofs.direct_devices_recalculate.Goals as goal

pub returns-clause-read : goal.returns-clause-read
returns-clause-read c = direct_read_law

pub returns-clause-recalc : goal.returns-clause-recalc
returns-clause-recalc c = direct_recalc_law

pub returns-clause-idle : goal.returns-clause-idle
returns-clause-idle c = direct_idle_law
