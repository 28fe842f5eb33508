use Rattle.mirror_core.proofs.CloseLemmas.{told_now}
use Rattle.mirror_core.proofs.device_leg.DeviceLegLeg.legs_are_left_as_told.Goals as goal

pub returns : goal.returns
returns g c leg on s stands = told_now leg.device.parts (g.D.Disk.moments leg.device.disk.now) on s.history stands
