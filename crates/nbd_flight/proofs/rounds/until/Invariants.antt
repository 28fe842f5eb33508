use Rattle.std.proofs.Common.{◌≡◌, ℕ, List}
use Rattle.device_parts.specs.declared.condition.Condition.TheVariants.{Working}
use Rattle.device_parts.specs.Device.{Standing}
use Rattle.device.specs.Device.{IsDevice}
use Rattle.nbd_model.specs.Session.{Flying}
use Rattle.nbd_flight.specs.Deeds.{scene_of}
use Rattle.nbd_flight.specs.Flight.{AreThose}
use Rattle.nbd_flight.specs.Rounds.{Stays, moment_of}
use Rattle.nbd_flight.proofs.RoundLemmas.{IsOnRounds}
use Rattle.nbd_flight.proofs.rounds.until.Given as goal

abbrev pub invariant-loop-round : goal.invariant-loop-round
invariant-loop-round g l = record {
  stays : Stays 0 g.D.Disk.identity g.D.Disk.moments l.device.condition l.initial.device.parts l.device.parts l.device.disk.now l.flight;
  identity : g.D.Disk.identity l.device.disk.now ≡ g.D.Disk.identity l.initial.device.disk.now;
  disk_same : g.D.Counted.faults l.device.disk.now ≡ g.D.Counted.faults l.initial.device.disk.now;
  sink_same : g.O.Counted.faults l.sink ≡ g.O.Counted.faults l.initial.sink;
  same_disk : l.device.disk.ghost_name ≡ l.initial.device.disk.ghost_name;
  way : (w : Standing) → IsDevice w Working l.initial.device.parts (g.D.Disk.moments l.initial.device.disk.now)
      → (flying : List Flying) → AreThose l.initial.flight.waiting.items flying → (taken : ℕ)
      → IsOnRounds w l.most (moment_of w flying taken) l._round l.initial.flight l.flight
      (scene_of g.D.Disk.moments g.O.Sink.held l.initial.device.parts l.initial.device.disk.now l.initial.sink)
      (scene_of g.D.Disk.moments g.O.Sink.held l.device.parts l.device.disk.now l.sink);
}
