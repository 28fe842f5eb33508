use Rattle.std.proofs.Common.{◌≡◌, ◌-◌, ◌≤◌, length}
use Rattle.nbd_wire.specs.CuttingLaws.{tell}
use Rattle.nbd_flight.specs.Deeds.{scene_of}
use Rattle.nbd_flight.specs.Rounds.{Stays}
use Rattle.nbd_incoming.specs.Taking.{asks_in}
use Rattle.nbd_session.specs.Piece.{ForWay, IsFor}
use Rattle.nbd_session.proofs.PieceLemmas.{IsOnPiece}
use Rattle.nbd_session.proofs.taking.take_piece.Given as goal

abbrev pub invariant-loop-at : goal.invariant-loop-at
invariant-loop-at g l = record {
  low : l.at ≤ length l.piece;
  stays : Stays l.at g.D.Disk.identity g.D.Disk.moments l.device.condition l.initial.device.parts l.device.parts l.device.disk.now l.flight;
  fit : IsFor l.incoming l.device.parts.common.slots;
  identity : g.D.Disk.identity l.device.disk.now ≡ g.D.Disk.identity l.initial.device.disk.now;
  disk_same : g.D.Counted.faults l.device.disk.now ≡ g.D.Counted.faults l.initial.device.disk.now;
  sink_same : g.O.Counted.faults l.sink ≡ g.O.Counted.faults l.initial.sink;
  same_disk : l.device.disk.ghost_name ≡ l.initial.device.disk.ghost_name;
  way : ForWay l.initial.flight l.initial.incoming
      (scene_of g.D.Disk.moments g.O.Sink.held l.initial.device.parts l.initial.device.disk.now l.initial.sink)
      (λ w m coming. IsOnPiece w m (asks_in l.initial.incoming.splitter coming l.piece) (tell l.initial.incoming.splitter l.piece).place l.piece l.at l.incoming
      l.initial.flight l.flight
      (scene_of g.D.Disk.moments g.O.Sink.held l.initial.device.parts l.initial.device.disk.now l.initial.sink)
      (scene_of g.D.Disk.moments g.O.Sink.held l.device.parts l.device.disk.now l.sink));
}

abbrev pub decreases-loop-at : goal.decreases-loop-at
decreases-loop-at g l = length l.piece - l.at
