use Rattle.std.proofs.Common.{sym, subst}
use Rattle.request_slots.specs.Flight.{Flight}
use Rattle.device_parts.proofs.ReadyLemmas.{ready-same, take-same}
use Rattle.journal_device.specs.Device.{IsReady}
use Rattle.device_tests.proofs.journal_device_tests.reply_to.Goals as goal

pub returns : goal.returns
returns g c =
    let device = c.serve_on.new.device in
    let identity = g.D.Disk.identity c.serve_on.new.disk in
    let moments = g.D.Disk.moments c.serve_on.new.disk in
    subst (λ (x : Flight). IsReady c.serve_on.new.condition (record device.parts { slots = x }) device.state identity moments) (sym c.take.ensures.taken)
    (record {
      parts_ = λ works. ready-same device.parts _ identity moments (take-same _ _ device.parts.slots) (c.serve_on.ensures.parts_ works);
      geometry = c.serve_on.ensures.geometry;
      regions_ = c.serve_on.ensures.regions_;
    })
