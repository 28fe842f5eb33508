use Rattle.std.proofs.Common.{sym, subst}
use Rattle.device.specs.declared.mode.DeviceParts.{DeviceParts}
use Rattle.device.specs.Device.{IsReady}
use Rattle.device.proofs.RequestLemmas.{ready_taken}
use Rattle.device.proofs.device.Device.take.Goals as goal

pub returns-clause-ready : goal.returns-clause-ready
returns-clause-ready g c ready =
    let device = c.args.self.now in
    subst (λ (p : DeviceParts). IsReady device.condition p (g.D.Disk.identity device.disk.now) (g.D.Disk.moments device.disk.now)) (sym c.take.ensures.taken)
    (ready_taken device.condition device.parts c.args.ticket (g.D.Disk.identity device.disk.now) (g.D.Disk.moments device.disk.now) ready)
