use Rattle.std.proofs.Common.{List, refl, sym, ap, subst}
use Rattle.disk_model.specs.Disk.{Content}
use Rattle.nbd_model.specs.Stream as streams
use Rattle.nbd_flight.specs.declared.stop.Stop.TheVariants as stops
use Rattle.nbd_flight.specs.Deeds.{Scene, scene_of}
use Rattle.nbd_session.specs.declared.serving.StreamEnd.TheVariants as ends
use Rattle.nbd_session.specs.Session.{HasRefused, HasStoppedIn, HasStoppedSo, most_read}
use Rattle.nbd_session.proofs.CloseLemmas.{served_as, session_closed, session_refused, session_unclosed}
use Rattle.nbd_session.proofs.ReadLemmas.{read_nothing, took_none}
use Rattle.nbd_session.proofs.StreamLemmas.{stream_unbegun}
use Rattle.nbd_session.proofs.serving.session.Goals as goal

pub returns-in-Err-clause-stopped : goal.returns-in-Err-clause-stopped
returns-in-Err-clause-stopped g c w is new =
    let left = g.S.Source.left c.args.source.now in
    let old : Scene = scene_of g.D.Disk.moments g.O.Sink.held c.args.device.parts c.args.device.disk.now c.args.sink.now in
    subst (λ (l : List Content). HasStoppedIn w left stops.Memory old (record { moments = l; held = old.held })) (sym (ap g.D.Disk.moments c.give_back.ensures.disk)) (stream_unbegun w left old is)

pub returns-in-Ok-Disconnected-clause-served : goal.returns-in-Ok-Disconnected-clause-served
returns-in-Ok-Disconnected-clause-served g c =
    let old : Scene = scene_of g.D.Disk.moments g.O.Sink.held c.args.device.parts c.args.device.disk.now c.args.sink.now in
    let mid : Scene = scene_of g.D.Disk.moments g.O.Sink.held c.serve_stream.new.device.parts c.serve_stream.new.device.disk.now c.serve_stream.new.sink in
    session_closed (g.S.Source.left c.args.source.now) streams.Disconnected c.in-Ok.flight c.serve_stream.new.flight old mid
    (served_as (g.S.Source.left c.args.source.now) _ ends.Disconnected c.in-Ok.flight c.serve_stream.new.flight old mid c.in-Ok-Disconnected.field-0-is c.in-Ok-Disconnected.ensures.served)
    c.has_damage.result c.in-Ok.ensures.eio c.has_damage.ensures tt (g.D.Disk.moments c.close.result.1.now) c.close.ensures.leaves c.close.result.0 c.close.ensures.closed c.close.ensures.ends c.close.ensures.rests

pub returns-in-Ok-Disconnected-clause-stopped : goal.returns-in-Ok-Disconnected-clause-stopped
returns-in-Ok-Disconnected-clause-stopped g c =
    let old : Scene = scene_of g.D.Disk.moments g.O.Sink.held c.args.device.parts c.args.device.disk.now c.args.sink.now in
    let mid : Scene = scene_of g.D.Disk.moments g.O.Sink.held c.serve_stream.new.device.parts c.serve_stream.new.device.disk.now c.serve_stream.new.sink in
    session_unclosed (g.S.Source.left c.args.source.now) streams.Disconnected c.in-Ok.flight c.serve_stream.new.flight old mid
    (served_as (g.S.Source.left c.args.source.now) _ ends.Disconnected c.in-Ok.flight c.serve_stream.new.flight old mid c.in-Ok-Disconnected.field-0-is c.in-Ok-Disconnected.ensures.served)
    c.has_damage.result c.in-Ok.ensures.eio c.has_damage.ensures tt (g.D.Disk.moments c.close.result.1.now) c.close.ensures.leaves c.close.result.0 c.close.ensures.failed c.close.ensures.ends

pub returns-in-Ok-Ended-clause-served : goal.returns-in-Ok-Ended-clause-served
returns-in-Ok-Ended-clause-served g c =
    let old : Scene = scene_of g.D.Disk.moments g.O.Sink.held c.args.device.parts c.args.device.disk.now c.args.sink.now in
    let mid : Scene = scene_of g.D.Disk.moments g.O.Sink.held c.serve_stream.new.device.parts c.serve_stream.new.device.disk.now c.serve_stream.new.sink in
    session_closed (g.S.Source.left c.args.source.now) streams.Ended c.in-Ok.flight c.serve_stream.new.flight old mid
    (served_as (g.S.Source.left c.args.source.now) _ ends.Ended c.in-Ok.flight c.serve_stream.new.flight old mid c.in-Ok-Ended.field-0-is c.in-Ok-Ended.ensures.served)
    c.has_damage-in-Ok-Ended.result c.in-Ok.ensures.eio c.has_damage-in-Ok-Ended.ensures tt (g.D.Disk.moments c.close-in-Ok-Ended.result.1.now) c.close-in-Ok-Ended.ensures.leaves c.close-in-Ok-Ended.result.0 c.close-in-Ok-Ended.ensures.closed
    c.close-in-Ok-Ended.ensures.ends c.close-in-Ok-Ended.ensures.rests

pub returns-in-Ok-Ended-clause-stopped : goal.returns-in-Ok-Ended-clause-stopped
returns-in-Ok-Ended-clause-stopped g c =
    let old : Scene = scene_of g.D.Disk.moments g.O.Sink.held c.args.device.parts c.args.device.disk.now c.args.sink.now in
    let mid : Scene = scene_of g.D.Disk.moments g.O.Sink.held c.serve_stream.new.device.parts c.serve_stream.new.device.disk.now c.serve_stream.new.sink in
    session_unclosed (g.S.Source.left c.args.source.now) streams.Ended c.in-Ok.flight c.serve_stream.new.flight old mid
    (served_as (g.S.Source.left c.args.source.now) _ ends.Ended c.in-Ok.flight c.serve_stream.new.flight old mid c.in-Ok-Ended.field-0-is c.in-Ok-Ended.ensures.served)
    c.has_damage-in-Ok-Ended.result c.in-Ok.ensures.eio c.has_damage-in-Ok-Ended.ensures tt (g.D.Disk.moments c.close-in-Ok-Ended.result.1.now) c.close-in-Ok-Ended.ensures.leaves c.close-in-Ok-Ended.result.0 c.close-in-Ok-Ended.ensures.failed
    c.close-in-Ok-Ended.ensures.ends

pub returns-in-Ok-Wrong-clause-served : goal.returns-in-Ok-Wrong-clause-served
returns-in-Ok-Wrong-clause-served g c w is new =
    let left = g.S.Source.left c.args.source.now in
    let old : Scene = scene_of g.D.Disk.moments g.O.Sink.held c.args.device.parts c.args.device.disk.now c.args.sink.now in
    let mid : Scene = scene_of g.D.Disk.moments g.O.Sink.held c.serve_stream.new.device.parts c.serve_stream.new.device.disk.now c.serve_stream.new.sink in
    let ending = streams.WrongMagic c.in-Ok-Wrong.magic in
    subst (λ (l : List Content). HasRefused w left ending old (record { moments = l; held = mid.held })) (sym (ap g.D.Disk.moments c.give_back-in-Ok-Wrong.ensures.disk))
    (session_refused left ending c.in-Ok.flight c.serve_stream.new.flight old mid
    (served_as (g.S.Source.left c.args.source.now) _ (ends.Wrong c.in-Ok-Wrong.magic) c.in-Ok.flight c.serve_stream.new.flight old mid c.in-Ok-Wrong.field-0-is c.in-Ok-Wrong.ensures.served) w is new)

pub returns-in-Ok-Long-clause-served : goal.returns-in-Ok-Long-clause-served
returns-in-Ok-Long-clause-served g c w is new =
    let left = g.S.Source.left c.args.source.now in
    let old : Scene = scene_of g.D.Disk.moments g.O.Sink.held c.args.device.parts c.args.device.disk.now c.args.sink.now in
    let mid : Scene = scene_of g.D.Disk.moments g.O.Sink.held c.serve_stream.new.device.parts c.serve_stream.new.device.disk.now c.serve_stream.new.sink in
    subst (λ (l : List Content). HasRefused w left streams.TooLong old (record { moments = l; held = mid.held })) (sym (ap g.D.Disk.moments c.give_back-in-Ok-Long.ensures.disk))
    (session_refused left streams.TooLong c.in-Ok.flight c.serve_stream.new.flight old mid
    (served_as (g.S.Source.left c.args.source.now) _ ends.Long c.in-Ok.flight c.serve_stream.new.flight old mid c.in-Ok-Long.field-0-is c.in-Ok-Long.ensures.served) w is new)

pub returns-in-Err-clause-read : goal.returns-in-Err-clause-read
returns-in-Err-clause-read g c = record {
  most = took_none most_read _ _ refl;
  pieces = λ w is new. read_nothing w _ _ _ _ refl refl;
}

pub returns-clause-stopped : goal.returns-clause-stopped
returns-clause-stopped g c w is new =
    let left = g.S.Source.left c.args.source.now in
    let old : Scene = scene_of g.D.Disk.moments g.O.Sink.held c.args.device.parts c.args.device.disk.now c.args.sink.now in
    subst (λ (l : List Content). HasStoppedSo w left c.in-Err-serve_stream.fault old (record { moments = l; held = g.O.Sink.held c.serve_stream.new.sink }))
    (sym (ap g.D.Disk.moments c.give_back-in-Err-serve_stream.ensures.disk)) (c.in-Err-serve_stream.ensures.stopped w is new)
