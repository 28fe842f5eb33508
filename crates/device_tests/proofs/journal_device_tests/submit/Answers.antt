use Rattle.std.proofs.Common.{sym, subst}
use Rattle.request_slots.specs.Flight.{Flight}
use Rattle.device_parts.proofs.ReadyLemmas.{ready-same, submit-same}
use Rattle.journal_device.specs.Device.{IsReady}
use Rattle.device_tests.proofs.journal_device_tests.submit.Goals as goal

pub returns : goal.returns
returns g c =
    let device = c.args.device.now in
    let identity = g.D.Disk.identity c.args.disk.now in
    let moments = g.D.Disk.moments c.args.disk.now in
    subst (λ (x : Flight). IsReady c.args.condition (record device.parts { slots = x }) device.state identity moments) (sym c.submit.ensures.submitted)
    (record {
      parts_ = λ works. ready-same device.parts _ identity moments (submit-same _ c.args.request device.parts.slots) (c.requires.parts_ works);
      geometry = c.requires.geometry;
      regions_ = c.requires.regions_;
    })
