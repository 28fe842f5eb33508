use Rattle.std.proofs.Common.{◌≡◌, ℕ, ◌+◌, ◌-◌, ◌<◌, ◌≤◌, List, drop, length, length-take, Option, option_map, Err, Ok, take, refl, sym, ◌∙◌, ap, subst, arith}
use Rattle.disk_model.specs.Causes.{Rose}
use Rattle.nbd_model.specs.Session.{most_piece}
use Rattle.nbd_model.specs.Stream as streams
use Rattle.nbd_model.specs.Stream.{most_stream}
use Rattle.nbd_flight.specs.Deeds.{Scene, behind, scene_of}
use Rattle.nbd_flight.specs.Flight.{AreHeld}
use Rattle.nbd_flight.specs.declared.flight.Waiting.{Waiting}
use Rattle.nbd_flight.proofs.StaysLemmas.{stays_none, stays_then}
use Rattle.nbd_session.proofs.FitLemmas.{stays_more}
use Rattle.nbd_session.specs.declared.ended.SessionFault.{SessionFault}
use Rattle.nbd_session.specs.declared.serving.StreamEnd.{StreamEnd}
use Rattle.nbd_session.specs.Serving.{HasServed, ending_told}
use Rattle.nbd_session.specs.Session.{HasSessionCauses, HasStoppedSo, most_read}
use Rattle.nbd_session.proofs.CauseLemmas.{session_none, session_source, session_stop}
use Rattle.nbd_session.proofs.CourseLemmas.{left_given}
use Rattle.nbd_session.proofs.ReadLemmas.{done_holds, none_dropped, read_one_more, read_so_far, stopped_holds, took_more, took_none, took_same}
use Rattle.nbd_session.proofs.StreamLemmas.{IsOnStream, here_way, piece_ends_all, piece_goes, piece_stops, stream_begins, stream_ends, stream_long, stream_lost, told_end}
use Rattle.nbd_session.proofs.serving.serve_pieces.Goals as goal

pub loop-count-init : goal.loop-count-init
loop-count-init g c =
    let held = subst (λ (l : List Waiting). AreHeld 0 l c.args.device.now.parts.common.slots) (sym c.requires.none) tt in
    record {
      within = omega arith;
      size = c.requires.size;
      stays = stays_more g.D.Disk.identity g.D.Disk.moments 0 (most_stream - 0x100_0000_0000) c.args.device.now.condition c.args.device.now.parts c.args.device.now.parts c.args.device.now.disk.now c.args.flight.now
          (omega arith) (stays_none g.D.Disk.identity g.D.Disk.moments c.args.device.now.condition c.args.device.now.parts c.args.device.now.disk.now c.args.flight.now c.requires.works held);
      fit = c.requires.first.fit;
      identity = refl;
      disk_same = refl;
      source_same = refl;
      took = took_none (most_stream - 0x100_0000_0000) _ _ refl;
      sink_same = refl;
      same_disk = refl;
      way = λ w is new.
          stream_begins w (g.S.Source.left c.args.source.now) c.args.incoming.now c.args.flight.now (scene_of g.D.Disk.moments g.O.Sink.held c.args.device.now.parts c.args.device.now.disk.now c.args.sink.now)
          is new c.requires.none c.requires.first.place c.requires.first.keeps;
    }

pub returns-then-count-eq0-clause-served : goal.returns-then-count-eq0-clause-served
returns-then-count-eq0-clause-served g c w is new =
    let old : Scene = scene_of g.D.Disk.moments g.O.Sink.held c.args.device.now.parts c.args.device.now.disk.now c.args.sink.now in
    let mid : Scene = scene_of g.D.Disk.moments g.O.Sink.held c.loop-count.device.parts c.loop-count.device.disk.now c.loop-count.sink in
    let kept = c.loop-count.invariant in
    let size = kept.size in
    let same = c.read.auto.buffer in
    let some : 0 < length c.read.new.buffer = omega (arith, size, same) in
    stream_ends w (g.S.Source.left c.args.source.now) (g.S.Source.left c.loop-count.source) c.loop-count.left c.loop-count.incoming c.args.flight.now c.loop-count.flight old mid (kept.way w is new)
    c.in-Ok.count c.read.new.buffer c.if-count-eq0.true some c.in-Ok.ensures.read

pub returns-then-count-eq0-clause-cause : goal.returns-then-count-eq0-clause-cause
returns-then-count-eq0-clause-cause g c =
    let kept = c.loop-count.invariant in
    session_none _ _ _ _ _ _ _ kept.disk_same (c.in-Ok.ensures.cause.passed ∙ kept.source_same) kept.sink_same

pub returns-in-Err-clause-stopped : goal.returns-in-Err-clause-stopped
returns-in-Err-clause-stopped g c w is new =
    let old : Scene = scene_of g.D.Disk.moments g.O.Sink.held c.args.device.now.parts c.args.device.now.disk.now c.args.sink.now in
    let mid : Scene = scene_of g.D.Disk.moments g.O.Sink.held c.loop-count.device.parts c.loop-count.device.disk.now c.loop-count.sink in
    stream_lost w (g.S.Source.left c.args.source.now) (g.S.Source.left c.loop-count.source) c.loop-count.left c.loop-count.incoming c.args.flight.now c.loop-count.flight old mid (c.loop-count.invariant.way w is new)

pub returns-in-Err-clause-cause : goal.returns-in-Err-clause-cause
returns-in-Err-clause-cause g c =
    let kept = c.loop-count.invariant in
    let cause = c.in-Err.ensures.cause in
    session_source _ _ _ _ _ _ kept.disk_same (subst (λ (n : ℕ). n ≤ g.S.Counted.faults c.read.new.self) kept.source_same cause.later)
    (subst (λ (n : ℕ). Rose n (g.S.Counted.faults c.read.new.self)) kept.source_same cause.failed) kept.sink_same

pub serve_piece-requires-clause-number : goal.serve_piece-requires-clause-number
serve_piece-requires-clause-number g c =
    let kept = c.loop-count.invariant in
    let submitted = kept.stays.submitted in
    let none = c.requires.number in
    let within = kept.within in
    let most = c.min-within.ensures in
    let cut = length-take c.min-within.result c.read.new.buffer in
    omega (arith, submitted, none, within, most, cut)

pub returns-in-Ok-Some-clause-served : goal.returns-in-Ok-Some-clause-served
returns-in-Ok-Some-clause-served g c w is new =
    let old : Scene = scene_of g.D.Disk.moments g.O.Sink.held c.args.device.now.parts c.args.device.now.disk.now c.args.sink.now in
    let mid : Scene = scene_of g.D.Disk.moments g.O.Sink.held c.loop-count.device.parts c.loop-count.device.disk.now c.loop-count.sink in
    let new_ : Scene = scene_of g.D.Disk.moments g.O.Sink.held c.serve_piece.new.device.parts c.serve_piece.new.device.disk.now c.serve_piece.new.sink in
    let left = g.S.Source.left c.args.source.now in
    let left_now = g.S.Source.left c.loop-count.source in
    let buffer = c.read.new.buffer in
    let within = c.min-within.result in
    let piece = take within buffer in
    let kept = c.loop-count.invariant in
    let size = kept.size in
    let same = c.read.auto.buffer in
    let most = c.min-within.ensures in
    let read = c.in-Ok.ensures.count in
    let cut = length-take within buffer in
    let few : length piece ≤ most_piece = omega (arith, size, same, cut) in
    let low : length piece ≤ c.loop-count.left = omega (arith, most, cut) in
    let given = left_given left_now c.in-Ok.count within buffer (omega (arith, most)) c.in-Ok.ensures.read in
    let on = kept.way w is new in
    let both = c.in-Ok-Some.ensures.taken (behind w on.part.deeds) on.along.made.done.run.device on.part.behind.flying on.along.made.flying on.part.behind.taken
    (here_way w left left_now c.loop-count.left c.loop-count.incoming c.args.flight.now c.loop-count.flight old mid on) on.coming on.keeps in
    subst (λ (e : streams.StreamEnd). HasServed w left e c.args.flight.now c.serve_piece.new.flight old new_) (told_end c.in-Ok-Some.end ∙ ap ending_told (sym c.end_of_piece.ensures))
    (piece_ends_all w left left_now c.loop-count.left c.loop-count.incoming c.args.flight.now c.loop-count.flight old mid on piece (option_map (drop within) left_now) few low given c.in-Ok-Some.field-0 c.serve_piece.new.incoming
    c.serve_piece.new.flight new_ both.0 both.1 c.in-Ok-Some.end c.in-Ok-Some.field-0-is)

pub returns-in-Ok-Some-clause-cause : goal.returns-in-Ok-Some-clause-cause
returns-in-Ok-Some-clause-cause g c =
    let kept = c.loop-count.invariant in
    let cause = c.in-Ok-Some.ensures.cause in
    session_none _ _ _ _ _ _ _ (cause.disk_passed (λ e. cc) ∙ kept.disk_same) (c.in-Ok.ensures.cause.passed ∙ kept.source_same) (cause.sink_passed (λ e. cc) ∙ kept.sink_same)

pub returns-in-Err-serve_piece-clause-stopped : goal.returns-in-Err-serve_piece-clause-stopped
returns-in-Err-serve_piece-clause-stopped g c w is new =
    let old : Scene = scene_of g.D.Disk.moments g.O.Sink.held c.args.device.now.parts c.args.device.now.disk.now c.args.sink.now in
    let mid : Scene = scene_of g.D.Disk.moments g.O.Sink.held c.loop-count.device.parts c.loop-count.device.disk.now c.loop-count.sink in
    let new_ : Scene = scene_of g.D.Disk.moments g.O.Sink.held c.serve_piece.new.device.parts c.serve_piece.new.device.disk.now c.serve_piece.new.sink in
    let left = g.S.Source.left c.args.source.now in
    let left_now = g.S.Source.left c.loop-count.source in
    let buffer = c.read.new.buffer in
    let within = c.min-within.result in
    let piece = take within buffer in
    let kept = c.loop-count.invariant in
    let size = kept.size in
    let same = c.read.auto.buffer in
    let most = c.min-within.ensures in
    let read = c.in-Ok.ensures.count in
    let cut = length-take within buffer in
    let few : length piece ≤ most_piece = omega (arith, size, same, cut) in
    let low : length piece ≤ c.loop-count.left = omega (arith, most, cut) in
    let given = left_given left_now c.in-Ok.count within buffer (omega (arith, most)) c.in-Ok.ensures.read in
    let on = kept.way w is new in
    subst (λ (f : SessionFault). HasStoppedSo w left f old (record { moments = new_.moments; held = new_.held })) (sym c.fault_of_stop.ensures)
    (piece_stops w left left_now c.loop-count.left c.loop-count.incoming c.args.flight.now c.loop-count.flight old mid on piece (option_map (drop within) left_now) few low given c.in-Err-serve_piece.stop new_
    (c.in-Err-serve_piece.ensures.stopped (behind w on.part.deeds) on.along.made.done.run.device on.part.behind.flying on.along.made.flying on.part.behind.taken
    (here_way w left left_now c.loop-count.left c.loop-count.incoming c.args.flight.now c.loop-count.flight old mid on) on.coming on.keeps))

pub returns-in-Err-serve_piece-clause-cause : goal.returns-in-Err-serve_piece-clause-cause
returns-in-Err-serve_piece-clause-cause g c =
    let kept = c.loop-count.invariant in
    subst (λ (f : SessionFault). HasSessionCauses {T = StreamEnd} (g.D.Counted.faults c.args.device.now.disk.now) (g.D.Counted.faults c.serve_piece.new.device.disk.now)
    (g.S.Counted.faults c.args.source.now) (g.S.Counted.faults c.read.new.self) (g.O.Counted.faults c.args.sink.now) (g.O.Counted.faults c.serve_piece.new.sink) (Err f)) (sym c.fault_of_stop.ensures)
    (session_stop _ _ _ _ _ _ c.in-Err-serve_piece.stop _ _ kept.disk_same (c.in-Ok.ensures.cause.passed ∙ kept.source_same) kept.sink_same c.in-Err-serve_piece.ensures.cause)

pub returns-then-within-count-clause-served : goal.returns-then-within-count-clause-served
returns-then-within-count-clause-served g c w is new =
    let old : Scene = scene_of g.D.Disk.moments g.O.Sink.held c.args.device.now.parts c.args.device.now.disk.now c.args.sink.now in
    let mid : Scene = scene_of g.D.Disk.moments g.O.Sink.held c.loop-count.device.parts c.loop-count.device.disk.now c.loop-count.sink in
    let new_ : Scene = scene_of g.D.Disk.moments g.O.Sink.held c.serve_piece.new.device.parts c.serve_piece.new.device.disk.now c.serve_piece.new.sink in
    let left = g.S.Source.left c.args.source.now in
    let left_now = g.S.Source.left c.loop-count.source in
    let buffer = c.read.new.buffer in
    let within = c.min-within.result in
    let piece = take within buffer in
    let kept = c.loop-count.invariant in
    let size = kept.size in
    let same = c.read.auto.buffer in
    let most = c.min-within.ensures in
    let read = c.in-Ok.ensures.count in
    let cut = length-take within buffer in
    let few : length piece ≤ most_piece = omega (arith, size, same, cut) in
    let low : length piece ≤ c.loop-count.left = omega (arith, most, cut) in
    let given = left_given left_now c.in-Ok.count within buffer (omega (arith, most)) c.in-Ok.ensures.read in
    let on = kept.way w is new in
    let both = c.in-Ok-None.ensures.taken (behind w on.part.deeds) on.along.made.done.run.device on.part.behind.flying on.along.made.flying on.part.behind.taken
    (here_way w left left_now c.loop-count.left c.loop-count.incoming c.args.flight.now c.loop-count.flight old mid on) on.coming on.keeps in
    let next = option_map (drop within) left_now in
    let on_now = piece_goes w left left_now c.loop-count.left c.loop-count.incoming c.args.flight.now c.loop-count.flight old mid on piece next few low given c.in-Ok-None.field-0 c.serve_piece.new.incoming
    c.serve_piece.new.flight new_ both.0 both.1 c.in-Ok-None.field-0-is in
    let short : within < c.in-Ok.count = omega (arith, c.if-within-count.true) in
    let full : c.loop-count.left - length piece ≡ 0 = omega (arith, short, most, cut, read) in
    stream_long w left next (c.loop-count.left - length piece) c.serve_piece.new.incoming c.args.flight.now c.serve_piece.new.flight old new_ on_now full left_now c.in-Ok.count within buffer short c.in-Ok.ensures.read refl

pub returns-then-within-count-clause-cause : goal.returns-then-within-count-clause-cause
returns-then-within-count-clause-cause g c =
    let kept = c.loop-count.invariant in
    let cause = c.in-Ok-None.ensures.cause in
    session_none _ _ _ _ _ _ _ (cause.disk_passed (λ e. cc) ∙ kept.disk_same) (c.in-Ok.ensures.cause.passed ∙ kept.source_same) (cause.sink_passed (λ e. cc) ∙ kept.sink_same)

pub loop-count-smaller : goal.loop-count-smaller
loop-count-smaller g c =
    let most = c.min-within.ensures in
    let short = c.if-within-count.false in
    let some = c.if-count-eq0.false in
    omega (arith, most, short, some)

pub loop-count-preserved : goal.loop-count-preserved
loop-count-preserved g c =
    let old : Scene = scene_of g.D.Disk.moments g.O.Sink.held c.args.device.now.parts c.args.device.now.disk.now c.args.sink.now in
    let mid : Scene = scene_of g.D.Disk.moments g.O.Sink.held c.loop-count.device.parts c.loop-count.device.disk.now c.loop-count.sink in
    let new_ : Scene = scene_of g.D.Disk.moments g.O.Sink.held c.serve_piece.new.device.parts c.serve_piece.new.device.disk.now c.serve_piece.new.sink in
    let left_first = g.S.Source.left c.args.source.now in
    let left_now = g.S.Source.left c.loop-count.source in
    let buffer = c.read.new.buffer in
    let within = c.min-within.result in
    let piece = take within buffer in
    let kept = c.loop-count.invariant in
    let size = kept.size in
    let same = c.read.auto.buffer in
    let most = c.min-within.ensures in
    let read = c.in-Ok.ensures.count in
    let cut = length-take within buffer in
    let few : length piece ≤ most_piece = omega (arith, size, same, cut) in
    let low : length piece ≤ c.loop-count.left = omega (arith, most, cut) in
    let given = left_given left_now c.in-Ok.count within buffer (omega (arith, most)) c.in-Ok.ensures.read in
    let short = c.if-within-count.false in
    let whole : within ≡ c.in-Ok.count = omega (arith, short, most) in
    let stays = c.in-Ok-None.ensures.stays in
    let next : g.S.Source.left c.read.new.self ≡ option_map (drop within) left_now = c.in-Ok.ensures.left ∙ ap (λ (n : ℕ). option_map (drop n) left_now) (sym whole) in
    let room : c.loop-count.left - within ≡ c.loop-count.left - length piece = omega (arith, cut, same, read, most) in
    let within_ = kept.within in
    record {
      within = omega (arith, within_);
      size = same ∙ size;
      stays = stays_more g.D.Disk.identity g.D.Disk.moments (most_stream - c.loop-count.left + length piece) (most_stream - (c.loop-count.left - within)) c.serve_piece.new.device.condition c.args.device.now.parts c.serve_piece.new.device.parts
          c.serve_piece.new.device.disk.now c.serve_piece.new.flight (omega (arith, within_, low, room, cut))
          (stays_then g.D.Disk.identity g.D.Disk.moments (most_stream - c.loop-count.left) (length piece) c.loop-count.device.condition c.serve_piece.new.device.condition c.args.device.now.parts c.loop-count.device.parts c.serve_piece.new.device.parts
          c.loop-count.device.disk.now c.serve_piece.new.device.disk.now c.loop-count.flight c.serve_piece.new.flight kept.stays stays);
      fit = c.in-Ok-None.ensures.left (ap Ok c.in-Ok-None.field-0-is);
      identity = c.serve_piece.ensures.identity ∙ kept.identity;
      disk_same = c.in-Ok-None.ensures.cause.disk_passed (λ e. cc) ∙ kept.disk_same;
      source_same = c.in-Ok.ensures.cause.passed ∙ kept.source_same;
      took = took_more (most_stream - c.loop-count.left) within (most_stream - (c.loop-count.left - within)) left_first left_now (g.S.Source.left c.read.new.self)
          kept.took next (omega (arith, most, within_));
      sink_same = c.in-Ok-None.ensures.cause.sink_passed (λ e. cc) ∙ kept.sink_same;
      same_disk = c.serve_piece.ensures.same_disk ∙ kept.same_disk;
      way = λ w is new.
          let on = kept.way w is new in
          let both = c.in-Ok-None.ensures.taken (behind w on.part.deeds) on.along.made.done.run.device on.part.behind.flying on.along.made.flying on.part.behind.taken
          (here_way w left_first left_now c.loop-count.left c.loop-count.incoming c.args.flight.now c.loop-count.flight old mid on) on.coming on.keeps in
          let on_now = piece_goes w left_first left_now c.loop-count.left c.loop-count.incoming c.args.flight.now c.loop-count.flight old mid on piece (option_map (drop within) left_now) few low given c.in-Ok-None.field-0 c.serve_piece.new.incoming
          c.serve_piece.new.flight new_ both.0 both.1 c.in-Ok-None.field-0-is in
          subst (λ (o : Option (List ℕ)). IsOnStream w left_first o (c.loop-count.left - within) c.serve_piece.new.incoming c.args.flight.now c.serve_piece.new.flight old new_) (sym next)
          (subst (λ (n : ℕ). IsOnStream w left_first (option_map (drop within) left_now) n c.serve_piece.new.incoming c.args.flight.now c.serve_piece.new.flight old new_) (sym room) on_now);
    }

-- ---- what is read

pub returns-in-Err-clause-read : goal.returns-in-Err-clause-read
returns-in-Err-clause-read g c =
    let old : Scene = scene_of g.D.Disk.moments g.O.Sink.held c.args.device.now.parts c.args.device.now.disk.now c.args.sink.now in
    let mid : Scene = scene_of g.D.Disk.moments g.O.Sink.held c.loop-count.device.parts c.loop-count.device.disk.now c.loop-count.sink in
    let left = g.S.Source.left c.args.source.now in
    let left_now = g.S.Source.left c.loop-count.source in
    let kept = c.loop-count.invariant in
    record {
      most = took_same (most_stream - c.loop-count.left) most_read left left_now _ kept.took c.in-Err.ensures.err (let within = kept.within in omega (arith, within));
      pieces = λ w is new. read_so_far w left left_now c.loop-count.left c.loop-count.incoming c.args.flight.now c.loop-count.flight old mid (kept.way w is new) _ c.in-Err.ensures.err;
    }

pub returns-then-count-eq0-clause-read : goal.returns-then-count-eq0-clause-read
returns-then-count-eq0-clause-read g c =
    let old : Scene = scene_of g.D.Disk.moments g.O.Sink.held c.args.device.now.parts c.args.device.now.disk.now c.args.sink.now in
    let mid : Scene = scene_of g.D.Disk.moments g.O.Sink.held c.loop-count.device.parts c.loop-count.device.disk.now c.loop-count.sink in
    let left = g.S.Source.left c.args.source.now in
    let left_now = g.S.Source.left c.loop-count.source in
    let kept = c.loop-count.invariant in
    let same = c.in-Ok.ensures.left ∙ ap (λ (n : ℕ). option_map (drop n) left_now) c.if-count-eq0.true ∙ none_dropped left_now in
    record {
      most = took_same (most_stream - c.loop-count.left) most_read left left_now _ kept.took same (let within = kept.within in omega (arith, within));
      pieces = λ w is new. read_so_far w left left_now c.loop-count.left c.loop-count.incoming c.args.flight.now c.loop-count.flight old mid (kept.way w is new) _ same;
    }

pub returns-in-Ok-Some-clause-read : goal.returns-in-Ok-Some-clause-read
returns-in-Ok-Some-clause-read g c =
    let old : Scene = scene_of g.D.Disk.moments g.O.Sink.held c.args.device.now.parts c.args.device.now.disk.now c.args.sink.now in
    let mid : Scene = scene_of g.D.Disk.moments g.O.Sink.held c.loop-count.device.parts c.loop-count.device.disk.now c.loop-count.sink in
    let new_ : Scene = scene_of g.D.Disk.moments g.O.Sink.held c.serve_piece.new.device.parts c.serve_piece.new.device.disk.now c.serve_piece.new.sink in
    let left = g.S.Source.left c.args.source.now in
    let left_now = g.S.Source.left c.loop-count.source in
    let buffer = c.read.new.buffer in
    let kept = c.loop-count.invariant in
    let size = kept.size in
    let same = c.read.auto.buffer in
    let read = c.in-Ok.ensures.count in
    let cut = length-take c.in-Ok.count buffer in
    let few : length (take c.in-Ok.count buffer) ≤ most_piece = omega (arith, size, same, cut) in
    let sound : g.S.Counted.faults c.args.source.now < g.S.Counted.faults c.read.new.self → ⊥ = λ rose.
    let passed = c.in-Ok.ensures.cause.passed ∙ kept.source_same in omega (arith, rose, passed) in
    record {
      most = took_more (most_stream - c.loop-count.left) c.in-Ok.count most_read left left_now _ kept.took c.in-Ok.ensures.left
          (let within = kept.within in omega (arith, size, same, read, within));
      pieces = λ w is new.
          let on = kept.way w is new in
          let both = c.in-Ok-Some.ensures.taken (behind w on.part.deeds) on.along.made.done.run.device on.part.behind.flying on.along.made.flying on.part.behind.taken
          (here_way w left left_now c.loop-count.left c.loop-count.incoming c.args.flight.now c.loop-count.flight old mid on) on.coming on.keeps in
          read_one_more w left left_now c.loop-count.left c.loop-count.incoming c.args.flight.now c.loop-count.flight old mid on
          c.in-Ok.count buffer few c.in-Ok.ensures.read _ c.in-Ok.ensures.left sound new_ (done_holds (behind w on.part.deeds) _ mid new_ both.0.made.done);
    }

pub returns-then-within-count-clause-read : goal.returns-then-within-count-clause-read
returns-then-within-count-clause-read g c =
    let old : Scene = scene_of g.D.Disk.moments g.O.Sink.held c.args.device.now.parts c.args.device.now.disk.now c.args.sink.now in
    let mid : Scene = scene_of g.D.Disk.moments g.O.Sink.held c.loop-count.device.parts c.loop-count.device.disk.now c.loop-count.sink in
    let new_ : Scene = scene_of g.D.Disk.moments g.O.Sink.held c.serve_piece.new.device.parts c.serve_piece.new.device.disk.now c.serve_piece.new.sink in
    let left = g.S.Source.left c.args.source.now in
    let left_now = g.S.Source.left c.loop-count.source in
    let buffer = c.read.new.buffer in
    let kept = c.loop-count.invariant in
    let size = kept.size in
    let same = c.read.auto.buffer in
    let read = c.in-Ok.ensures.count in
    let cut = length-take c.in-Ok.count buffer in
    let few : length (take c.in-Ok.count buffer) ≤ most_piece = omega (arith, size, same, cut) in
    let sound : g.S.Counted.faults c.args.source.now < g.S.Counted.faults c.read.new.self → ⊥ = λ rose.
    let passed = c.in-Ok.ensures.cause.passed ∙ kept.source_same in omega (arith, rose, passed) in
    record {
      most = took_more (most_stream - c.loop-count.left) c.in-Ok.count most_read left left_now _ kept.took c.in-Ok.ensures.left
          (let within = kept.within in omega (arith, size, same, read, within));
      pieces = λ w is new.
          let on = kept.way w is new in
          let both = c.in-Ok-None.ensures.taken (behind w on.part.deeds) on.along.made.done.run.device on.part.behind.flying on.along.made.flying on.part.behind.taken
          (here_way w left left_now c.loop-count.left c.loop-count.incoming c.args.flight.now c.loop-count.flight old mid on) on.coming on.keeps in
          read_one_more w left left_now c.loop-count.left c.loop-count.incoming c.args.flight.now c.loop-count.flight old mid on
          c.in-Ok.count buffer few c.in-Ok.ensures.read _ c.in-Ok.ensures.left sound new_ (done_holds (behind w on.part.deeds) _ mid new_ both.0.made.done);
    }

pub returns-in-Err-serve_piece-clause-read : goal.returns-in-Err-serve_piece-clause-read
returns-in-Err-serve_piece-clause-read g c =
    let old : Scene = scene_of g.D.Disk.moments g.O.Sink.held c.args.device.now.parts c.args.device.now.disk.now c.args.sink.now in
    let mid : Scene = scene_of g.D.Disk.moments g.O.Sink.held c.loop-count.device.parts c.loop-count.device.disk.now c.loop-count.sink in
    let new_ : Scene = scene_of g.D.Disk.moments g.O.Sink.held c.serve_piece.new.device.parts c.serve_piece.new.device.disk.now c.serve_piece.new.sink in
    let left = g.S.Source.left c.args.source.now in
    let left_now = g.S.Source.left c.loop-count.source in
    let buffer = c.read.new.buffer in
    let kept = c.loop-count.invariant in
    let size = kept.size in
    let same = c.read.auto.buffer in
    let read = c.in-Ok.ensures.count in
    let cut = length-take c.in-Ok.count buffer in
    let few : length (take c.in-Ok.count buffer) ≤ most_piece = omega (arith, size, same, cut) in
    let sound : g.S.Counted.faults c.args.source.now < g.S.Counted.faults c.read.new.self → ⊥ = λ rose.
    let passed = c.in-Ok.ensures.cause.passed ∙ kept.source_same in omega (arith, rose, passed) in
    record {
      most = took_more (most_stream - c.loop-count.left) c.in-Ok.count most_read left left_now _ kept.took c.in-Ok.ensures.left
          (let within = kept.within in omega (arith, size, same, read, within));
      pieces = λ w is new.
          let on = kept.way w is new in
          read_one_more w left left_now c.loop-count.left c.loop-count.incoming c.args.flight.now c.loop-count.flight old mid on
          c.in-Ok.count buffer few c.in-Ok.ensures.read _ c.in-Ok.ensures.left sound new_
          (stopped_holds (behind w on.part.deeds) _ c.in-Err-serve_piece.stop mid new_
          (c.in-Err-serve_piece.ensures.stopped (behind w on.part.deeds) on.along.made.done.run.device on.part.behind.flying on.along.made.flying on.part.behind.taken
          (here_way w left left_now c.loop-count.left c.loop-count.incoming c.args.flight.now c.loop-count.flight old mid on) on.coming on.keeps));
    }
