use Rattle.std.proofs.Common.{◌≡◌, ◌-◌, ◌≤◌, length}
use Rattle.stream_io.specs.Stream.{TakesAtMost}
use Rattle.nbd_model.specs.Session.{most_piece}
use Rattle.nbd_model.specs.Stream.{most_stream}
use Rattle.nbd_flight.specs.Deeds.{scene_of}
use Rattle.nbd_flight.specs.Rounds.{Stays}
use Rattle.nbd_session.specs.Piece.{IsFor}
use Rattle.nbd_session.specs.Session.{ForNew}
use Rattle.nbd_session.proofs.StreamLemmas.{IsOnStream}
use Rattle.nbd_session.proofs.serving.serve_pieces.Given as goal

abbrev pub invariant-loop-count : goal.invariant-loop-count
invariant-loop-count g l = record {
  within : l.left ≤ most_stream;
  size : length l.buffer ≡ most_piece;
  stays : Stays (most_stream - l.left) g.D.Disk.identity g.D.Disk.moments l.device.condition l.initial.device.parts l.device.parts l.device.disk.now l.flight;
  fit : IsFor l.incoming l.device.parts.common.slots;
  identity : g.D.Disk.identity l.device.disk.now ≡ g.D.Disk.identity l.initial.device.disk.now;
  disk_same : g.D.Counted.faults l.device.disk.now ≡ g.D.Counted.faults l.initial.device.disk.now;
  source_same : g.S.Counted.faults l.source ≡ g.S.Counted.faults l.initial.source;
  took : TakesAtMost (most_stream - l.left) (g.S.Source.left l.initial.source) (g.S.Source.left l.source);
  sink_same : g.O.Counted.faults l.sink ≡ g.O.Counted.faults l.initial.sink;
  same_disk : l.device.disk.ghost_name ≡ l.initial.device.disk.ghost_name;
  way : ForNew (scene_of g.D.Disk.moments g.O.Sink.held l.initial.device.parts l.initial.device.disk.now l.initial.sink)
      (λ w. IsOnStream w (g.S.Source.left l.initial.source) (g.S.Source.left l.source) l.left l.incoming l.initial.flight l.flight
      (scene_of g.D.Disk.moments g.O.Sink.held l.initial.device.parts l.initial.device.disk.now l.initial.sink)
      (scene_of g.D.Disk.moments g.O.Sink.held l.device.parts l.device.disk.now l.sink));
}

abbrev pub decreases-loop-count : goal.decreases-loop-count
decreases-loop-count g l = l.left
