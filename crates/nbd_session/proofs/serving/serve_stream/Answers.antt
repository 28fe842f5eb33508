use Rattle.std.proofs.Common.{ℕ, ◌<◌, None, refl, sym, ◌∙◌, subst, arith}
use Rattle.nbd_flight.specs.Deeds.{scene_of}
use Rattle.nbd_session.specs.Session.{most_read}
use Rattle.nbd_session.proofs.DeviceLemmas.{some_bytes}
use Rattle.nbd_session.proofs.ReadLemmas.{read_nothing, took_none}
use Rattle.nbd_session.proofs.StreamLemmas.{stream_unbegun}
use Rattle.nbd_session.proofs.serving.serve_stream.Goals as goal

pub returns-in_default-clause-stopped : goal.returns-in_default-clause-stopped
returns-in_default-clause-stopped g c w is new =
    stream_unbegun w (g.S.Source.left c.args.source.now) (scene_of g.D.Disk.moments g.O.Sink.held c.args.device.now.parts c.args.device.now.disk.now c.args.sink.now) is

pub serve_pieces-requires-clause-first : goal.serve_pieces-requires-clause-first
serve_pieces-requires-clause-first g c =
    let size = c.new-incoming.ensures.block_size ∙ c.block_size-block_size.ensures in
    record {
      place = c.new-incoming.ensures.place;
      keeps = c.new-incoming.ensures.keeps;
      fit = record {
        blocks = c.new-incoming.ensures.blocks ∙ c.blocks-blocks.ensures;
        block_size = size;
        some = subst (λ (n : ℕ). 0 < n) (sym size)
            (some_bytes g.D.Disk.identity g.D.Disk.moments c.args.device.now.condition c.args.device.now.parts c.args.device.now.disk.now c.requires.works);
        coming = None;
        keeps = c.new-incoming.ensures.keeps;
      };
    }

pub serve_pieces-requires-clause-size : goal.serve_pieces-requires-clause-size
serve_pieces-requires-clause-size g c =
    let slice = c.as_mut_slice.ensures.len in
    let room = c.in-Ok.ensures in
    omega (arith, slice, room)

pub returns-in_default-clause-read : goal.returns-in_default-clause-read
returns-in_default-clause-read g c = record {
  most = took_none most_read _ _ refl;
  pieces = λ w is new. read_nothing w _ _ _ _ refl refl;
}
