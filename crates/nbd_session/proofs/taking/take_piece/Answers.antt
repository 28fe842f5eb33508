use Rattle.std.proofs.Common.{inl, inr, ℕ, ◌+◌, ◌<◌, ◌≤◌, List, drop, length, length-drop, None, refl, sym, ◌∙◌, ap, subst, arith}
use Rattle.std.proofs.lemmas.Result.{err_from_is_err_and}
use Rattle.nbd_model.specs.Session.{take_piece}
use Rattle.nbd_wire.specs.CuttingLaws.{tell}
use Rattle.nbd_flight.specs.declared.stop.Stop.{Stop}
use Rattle.nbd_flight.specs.Deeds.{HasStopped, Scene, behind, scene_of}
use Rattle.nbd_flight.specs.Rounds.{moment_of}
use Rattle.nbd_flight.proofs.CauseLemmas.{if_err_of}
use Rattle.nbd_flight.proofs.StaysLemmas.{stays_none, stays_then}
use Rattle.nbd_incoming.specs.Incoming.{HasTaken}
use Rattle.nbd_incoming.specs.Taking.{asks_in}
use Rattle.nbd_session.specs.Piece.{ForWay}
use Rattle.nbd_session.proofs.FitLemmas.{is_for, keeps_part, keeps_whole, rest_is, stays_more, whole_on}
use Rattle.nbd_session.proofs.PieceLemmas.{message_in, message_whole, piece_asks, piece_begins, piece_disconnects, piece_ends, piece_few, piece_part, piece_rounds, piece_stopped_asks, piece_stopped_here, piece_stopped_rounds, piece_wrong}
use Rattle.nbd_session.proofs.taking.take_piece.Goals as goal

pub loop-at-init : goal.loop-at-init
loop-at-init g c = record {
  low = omega arith;
  stays = stays_none g.D.Disk.identity g.D.Disk.moments c.args.device.now.condition c.args.device.now.parts c.args.device.now.disk.now c.args.flight.now c.requires.works c.requires.held;
  fit = c.requires.incoming;
  identity = refl;
  disk_same = refl;
  sink_same = refl;
  same_disk = refl;
  way = λ w is flying are taken way coming keeps.
      piece_begins w (moment_of w flying taken) c.args.piece.now c.args.incoming.now c.args.flight.now
      (scene_of g.D.Disk.moments g.O.Sink.held c.args.device.now.parts c.args.device.now.disk.now c.args.sink.now) is are refl way coming keeps;
}

pub returns-in_err-until-clause-stopped : goal.returns-in_err-until-clause-stopped
returns-in_err-until-clause-stopped g c =
    let old : Scene = scene_of g.D.Disk.moments g.O.Sink.held c.args.device.now.parts c.args.device.now.disk.now c.args.sink.now in
    let mid : Scene = scene_of g.D.Disk.moments g.O.Sink.held c.loop-at.device.parts c.loop-at.device.disk.now c.loop-at.sink in
    let new : Scene = scene_of g.D.Disk.moments g.O.Sink.held c.until.new.device.parts c.until.new.device.disk.now c.until.new.sink in
    let P : Stop → Type 0 = λ stop. ForWay c.args.flight.now c.args.incoming.now old
    (λ w m coming. HasStopped w (take_piece w.format m (asks_in c.args.incoming.now.splitter coming c.args.piece.now).asked).deeds stop old new) in
    let p = err_from_is_err_and c.from_residual.result c.from_residual.ensures.1 in
    if_err_of P c.from_residual.result p.0 p.1 (subst P (sym p.2) (λ w is flying are taken way coming keeps.
    let on = c.loop-at.invariant.way w is flying are taken way coming keeps in
    piece_stopped_rounds w (moment_of w flying taken) (asks_in c.args.incoming.now.splitter coming c.args.piece.now) (tell c.args.incoming.now.splitter c.args.piece.now).place c.args.piece.now
    c.loop-at.at c.loop-at.incoming c.args.flight.now c.loop-at.flight old mid on _ new
    (c.in_err-until.ensures.stopped (behind w on.part.deeds) on.along.made.done.run.device on.part.behind.flying on.along.made.flying on.part.behind.taken)))

pub returns-in_default-clause-stopped : goal.returns-in_default-clause-stopped
returns-in_default-clause-stopped g c w is flying are taken way coming keeps =
    let old : Scene = scene_of g.D.Disk.moments g.O.Sink.held c.args.device.now.parts c.args.device.now.disk.now c.args.sink.now in
    let mid : Scene = scene_of g.D.Disk.moments g.O.Sink.held c.loop-at.device.parts c.loop-at.device.disk.now c.loop-at.sink in
    let new : Scene = scene_of g.D.Disk.moments g.O.Sink.held c.until.new.device.parts c.until.new.device.disk.now c.until.new.sink in
    let all = asks_in c.args.incoming.now.splitter coming c.args.piece.now in
    let last = (tell c.args.incoming.now.splitter c.args.piece.now).place in
    let m = moment_of w flying taken in
    let on = c.loop-at.invariant.way w is flying are taken way coming keeps in
    let there = piece_rounds w m all last c.args.piece.now c.loop-at.at c.loop-at.incoming c.args.flight.now c.loop-at.flight old mid on c.until.new.flight new
    (c.in_ok-until.ensures.ran (behind w on.part.deeds) on.along.made.done.run.device on.part.behind.flying on.along.made.flying on.part.behind.taken) in
    piece_stopped_here w m all last c.args.piece.now c.loop-at.at c.loop-at.incoming c.args.flight.now c.until.new.flight old new there

pub returns-in_err-ask-in-Whole-clause-stopped : goal.returns-in_err-ask-in-Whole-clause-stopped
returns-in_err-ask-in-Whole-clause-stopped g c =
    let old : Scene = scene_of g.D.Disk.moments g.O.Sink.held c.args.device.now.parts c.args.device.now.disk.now c.args.sink.now in
    let mid : Scene = scene_of g.D.Disk.moments g.O.Sink.held c.loop-at.device.parts c.loop-at.device.disk.now c.loop-at.sink in
    let here : Scene = scene_of g.D.Disk.moments g.O.Sink.held c.until.new.device.parts c.until.new.device.disk.now c.until.new.sink in
    let new : Scene = scene_of g.D.Disk.moments g.O.Sink.held c.ask.new.device.parts c.ask.new.device.disk.now c.ask.new.sink in
    let piece = c.args.piece.now in
    let at = c.loop-at.at in
    let test = c.loop-at-test.true in
    let low : at < length piece = omega (arith, test) in
    let has : HasTaken c.loop-at.incoming c.take.new.self (drop at piece) c.in-Ok.count c.in-Ok.taken =
    subst (λ (l : List ℕ). HasTaken c.loop-at.incoming c.take.new.self l c.in-Ok.count c.in-Ok.taken) (rest_is piece at) c.in-Ok.ensures.taken in
    let fit = c.loop-at.invariant.fit in
    let stays = c.in_ok-until.ensures.stays in
    let some : 0 < c.in-Ok.count = c.in-Ok.ensures.some fit.coming fit.keeps (omega (arith, low, length-drop at piece, ap length (rest_is piece at))) in
    let fit_now = is_for c.loop-at.incoming c.take.new.self c.loop-at.device.parts.common.slots c.until.new.device.parts.common.slots fit c.take.ensures.blocks c.take.ensures.block_size stays.blocks stays.block_size
    None (keeps_whole c.loop-at.incoming c.take.new.self (drop at piece) c.in-Ok.count c.in-Ok.taken has fit.coming fit.keeps c.in-Whole.whole c.in-Whole.is) in
    let P : Stop → Type 0 = λ stop. ForWay c.args.flight.now c.args.incoming.now old
    (λ w m coming. HasStopped w (take_piece w.format m (asks_in c.args.incoming.now.splitter coming c.args.piece.now).asked).deeds stop old new) in
    let p = err_from_is_err_and c.from_residual-in_err-ask-in-Whole.result c.from_residual-in_err-ask-in-Whole.ensures.1 in
    if_err_of P c.from_residual-in_err-ask-in-Whole.result p.0 p.1 (subst P (sym p.2) (λ w is flying are taken way coming keeps.
    let all = asks_in c.args.incoming.now.splitter coming piece in
    let last = (tell c.args.incoming.now.splitter piece).place in
    let m = moment_of w flying taken in
    let on = c.loop-at.invariant.way w is flying are taken way coming keeps in
    let rounds = c.in_ok-until.ensures.ran (behind w on.part.deeds) on.along.made.done.run.device on.part.behind.flying on.along.made.flying on.part.behind.taken in
    let there = piece_rounds w m all last piece at c.loop-at.incoming c.args.flight.now c.loop-at.flight old mid on c.until.new.flight here rounds in
    let few = piece_few w m all last piece at c.loop-at.incoming c.args.flight.now c.loop-at.flight old mid on c.until.new.flight here rounds in
    let message = message_in w m all last piece at c.loop-at.incoming c.args.flight.now c.until.new.flight old here there low c.take.new.self c.in-Ok.count c.in-Ok.taken has some c.in-Whole.whole c.in-Whole.is in
    let whole = message_whole w m all last piece at c.loop-at.incoming c.args.flight.now c.until.new.flight old here there low c.take.new.self c.in-Ok.count c.in-Ok.taken has some c.in-Whole.whole c.in-Whole.is in
    piece_stopped_asks w m all last piece at c.loop-at.incoming c.args.flight.now c.until.new.flight old here there low c.take.new.self c.in-Ok.count c.in-Ok.taken has some c.in-Whole.whole c.in-Whole.is few _ new
    (c.in_err-ask-in-Whole.ensures.stopped message (whole_on _ _ _ _ c.in-Whole.whole message fit_now.blocks fit_now.block_size whole)
    (behind w there.part.deeds) there.along.made.done.run.device there.part.behind.flying there.along.made.flying there.part.behind.taken)))

pub returns-in-Disconnected-clause-asked : goal.returns-in-Disconnected-clause-asked
returns-in-Disconnected-clause-asked g c w is flying are taken way coming keeps =
    let old : Scene = scene_of g.D.Disk.moments g.O.Sink.held c.args.device.now.parts c.args.device.now.disk.now c.args.sink.now in
    let mid : Scene = scene_of g.D.Disk.moments g.O.Sink.held c.loop-at.device.parts c.loop-at.device.disk.now c.loop-at.sink in
    let here : Scene = scene_of g.D.Disk.moments g.O.Sink.held c.until.new.device.parts c.until.new.device.disk.now c.until.new.sink in
    let piece = c.args.piece.now in
    let at = c.loop-at.at in
    let test = c.loop-at-test.true in
    let low : at < length piece = omega (arith, test) in
    let has : HasTaken c.loop-at.incoming c.take.new.self (drop at piece) c.in-Ok.count c.in-Ok.taken =
    subst (λ (l : List ℕ). HasTaken c.loop-at.incoming c.take.new.self l c.in-Ok.count c.in-Ok.taken) (rest_is piece at) c.in-Ok.ensures.taken in
    let all = asks_in c.args.incoming.now.splitter coming piece in
    let last = (tell c.args.incoming.now.splitter piece).place in
    let m = moment_of w flying taken in
    let on = c.loop-at.invariant.way w is flying are taken way coming keeps in
    let there = piece_rounds w m all last piece at c.loop-at.incoming c.args.flight.now c.loop-at.flight old mid on c.until.new.flight here
    (c.in_ok-until.ensures.ran (behind w on.part.deeds) on.along.made.done.run.device on.part.behind.flying on.along.made.flying on.part.behind.taken) in
    piece_disconnects w m all last piece at c.loop-at.incoming c.args.flight.now c.until.new.flight old here there low c.take.new.self c.in-Ok.count c.in-Ok.taken has c.in-Disconnected.is

pub returns-in-Wrong-clause-asked : goal.returns-in-Wrong-clause-asked
returns-in-Wrong-clause-asked g c w is flying are taken way coming keeps =
    let old : Scene = scene_of g.D.Disk.moments g.O.Sink.held c.args.device.now.parts c.args.device.now.disk.now c.args.sink.now in
    let mid : Scene = scene_of g.D.Disk.moments g.O.Sink.held c.loop-at.device.parts c.loop-at.device.disk.now c.loop-at.sink in
    let here : Scene = scene_of g.D.Disk.moments g.O.Sink.held c.until.new.device.parts c.until.new.device.disk.now c.until.new.sink in
    let piece = c.args.piece.now in
    let at = c.loop-at.at in
    let test = c.loop-at-test.true in
    let low : at < length piece = omega (arith, test) in
    let has : HasTaken c.loop-at.incoming c.take.new.self (drop at piece) c.in-Ok.count c.in-Ok.taken =
    subst (λ (l : List ℕ). HasTaken c.loop-at.incoming c.take.new.self l c.in-Ok.count c.in-Ok.taken) (rest_is piece at) c.in-Ok.ensures.taken in
    let all = asks_in c.args.incoming.now.splitter coming piece in
    let last = (tell c.args.incoming.now.splitter piece).place in
    let m = moment_of w flying taken in
    let on = c.loop-at.invariant.way w is flying are taken way coming keeps in
    let there = piece_rounds w m all last piece at c.loop-at.incoming c.args.flight.now c.loop-at.flight old mid on c.until.new.flight here
    (c.in_ok-until.ensures.ran (behind w on.part.deeds) on.along.made.done.run.device on.part.behind.flying on.along.made.flying on.part.behind.taken) in
    piece_wrong w m all last piece at c.loop-at.incoming c.args.flight.now c.until.new.flight old here there low c.take.new.self c.in-Ok.count c.in-Ok.taken has c.in-Wrong.magic c.in-Wrong.is

pub loop-at-preserved : goal.loop-at-preserved
loop-at-preserved g c =
    let kept = c.loop-at.invariant in
    let old : Scene = scene_of g.D.Disk.moments g.O.Sink.held c.args.device.now.parts c.args.device.now.disk.now c.args.sink.now in
    let mid : Scene = scene_of g.D.Disk.moments g.O.Sink.held c.loop-at.device.parts c.loop-at.device.disk.now c.loop-at.sink in
    let here : Scene = scene_of g.D.Disk.moments g.O.Sink.held c.until.new.device.parts c.until.new.device.disk.now c.until.new.sink in
    let piece = c.args.piece.now in
    let at = c.loop-at.at in
    let count = c.in-Ok.count in
    let test = c.loop-at-test.true in
    let low : at < length piece = omega (arith, test) in
    let rest = ap length (rest_is piece at) in
    let dropped = length-drop at piece in
    let has : HasTaken c.loop-at.incoming c.take.new.self (drop at piece) count c.in-Ok.taken =
    subst (λ (l : List ℕ). HasTaken c.loop-at.incoming c.take.new.self l count c.in-Ok.taken) (rest_is piece at) c.in-Ok.ensures.taken in
    let fit = kept.fit in
    let stays = c.in_ok-until.ensures.stays in
    let some : 0 < count = c.in-Ok.ensures.some fit.coming fit.keeps (omega (arith, low, dropped, rest)) in
    let within = c.in-Ok.ensures.within in
    let high : at + count ≤ length piece = omega (arith, within, dropped, rest, low) in
    let until_stays = stays_then g.D.Disk.identity g.D.Disk.moments at 0 c.loop-at.device.condition c.until.new.device.condition c.args.device.now.parts c.loop-at.device.parts c.until.new.device.parts
    c.loop-at.device.disk.now c.until.new.device.disk.now c.loop-at.flight c.until.new.flight kept.stays stays in
    let disk_same = c.in_ok-until.ensures.cause.disk_passed (λ e. cc) ∙ kept.disk_same in
    let sink_same = c.in_ok-until.ensures.cause.sink_passed (λ e. cc) ∙ kept.sink_same in
    elim c.match-taken.branch-raw [
      | inl by ↦
          let next = keeps_part c.loop-at.incoming c.take.new.self (drop at piece) count c.in-Ok.taken has fit.coming fit.keeps by.in-Part.is in
          rw (by.device-is, by.flight-is, by.sink-is) (record {
            low = high;
            stays = stays_more g.D.Disk.identity g.D.Disk.moments (at + 0) (at + count) c.until.new.device.condition c.args.device.now.parts c.until.new.device.parts c.until.new.device.disk.now c.until.new.flight
                (omega arith) until_stays;
            fit = is_for c.loop-at.incoming c.take.new.self c.loop-at.device.parts.common.slots c.until.new.device.parts.common.slots fit c.take.ensures.blocks c.take.ensures.block_size stays.blocks stays.block_size next.0 next.1;
            identity = c.until.ensures.identity ∙ kept.identity;
            disk_same = disk_same;
            sink_same = sink_same;
            same_disk = c.until.ensures.same_disk ∙ kept.same_disk;
            way = λ w is flying are taken way coming keeps.
                let all = asks_in c.args.incoming.now.splitter coming piece in
                let last = (tell c.args.incoming.now.splitter piece).place in
                let m = moment_of w flying taken in
                let on = kept.way w is flying are taken way coming keeps in
                let there = piece_rounds w m all last piece at c.loop-at.incoming c.args.flight.now c.loop-at.flight old mid on c.until.new.flight here
                (c.in_ok-until.ensures.ran (behind w on.part.deeds) on.along.made.done.run.device on.part.behind.flying on.along.made.flying on.part.behind.taken) in
                piece_part w m all last piece at c.loop-at.incoming c.args.flight.now c.until.new.flight old here there low c.take.new.self count c.in-Ok.taken has some by.in-Part.is;
          })
      | inr by ↦
          let whole = by.in-Whole.whole in
          let new : Scene = scene_of g.D.Disk.moments g.O.Sink.held by.ask.new.device.parts by.ask.new.device.disk.now by.ask.new.sink in
          let kept_now = keeps_whole c.loop-at.incoming c.take.new.self (drop at piece) count c.in-Ok.taken has fit.coming fit.keeps whole by.in-Whole.is in
          let fit_now = is_for c.loop-at.incoming c.take.new.self c.loop-at.device.parts.common.slots c.until.new.device.parts.common.slots fit c.take.ensures.blocks c.take.ensures.block_size stays.blocks stays.block_size None kept_now in
          let asked_stays = by.in_ok-ask-in-Whole.ensures.stays in
          rw (by.device-is, by.flight-is, by.sink-is) (record {
            low = high;
            stays = stays_more g.D.Disk.identity g.D.Disk.moments (at + 0 + 1) (at + count) by.ask.new.device.condition c.args.device.now.parts by.ask.new.device.parts by.ask.new.device.disk.now by.ask.new.flight
                (omega (arith, some))
                (stays_then g.D.Disk.identity g.D.Disk.moments (at + 0) 1 c.until.new.device.condition by.ask.new.device.condition c.args.device.now.parts c.until.new.device.parts by.ask.new.device.parts
                c.until.new.device.disk.now by.ask.new.device.disk.now c.until.new.flight by.ask.new.flight until_stays asked_stays);
            fit = is_for c.take.new.self c.take.new.self c.until.new.device.parts.common.slots by.ask.new.device.parts.common.slots fit_now refl refl asked_stays.blocks asked_stays.block_size None kept_now;
            identity = ap g.D.Disk.identity by.ask.ensures.disk ∙ c.until.ensures.identity ∙ kept.identity;
            disk_same = ap g.D.Counted.faults by.ask.ensures.disk ∙ disk_same;
            sink_same = by.in_ok-ask-in-Whole.ensures.cause.sink_passed (λ e. cc) ∙ sink_same;
            same_disk = by.ask.ensures.same_disk ∙ c.until.ensures.same_disk ∙ kept.same_disk;
            way = λ w is flying are taken way coming keeps.
                let all = asks_in c.args.incoming.now.splitter coming piece in
                let last = (tell c.args.incoming.now.splitter piece).place in
                let m = moment_of w flying taken in
                let on = kept.way w is flying are taken way coming keeps in
                let rounds = c.in_ok-until.ensures.ran (behind w on.part.deeds) on.along.made.done.run.device on.part.behind.flying on.along.made.flying on.part.behind.taken in
                let there = piece_rounds w m all last piece at c.loop-at.incoming c.args.flight.now c.loop-at.flight old mid on c.until.new.flight here rounds in
                let few = piece_few w m all last piece at c.loop-at.incoming c.args.flight.now c.loop-at.flight old mid on c.until.new.flight here rounds in
                let message = message_in w m all last piece at c.loop-at.incoming c.args.flight.now c.until.new.flight old here there low c.take.new.self count c.in-Ok.taken has some whole by.in-Whole.is in
                let is_whole = message_whole w m all last piece at c.loop-at.incoming c.args.flight.now c.until.new.flight old here there low c.take.new.self count c.in-Ok.taken has some whole by.in-Whole.is in
                piece_asks w m all last piece at c.loop-at.incoming c.args.flight.now c.until.new.flight old here there low c.take.new.self count c.in-Ok.taken has some whole by.in-Whole.is few by.ask.new.flight new
                (by.in_ok-ask-in-Whole.ensures.asked message (whole_on _ _ _ _ whole message fit_now.blocks fit_now.block_size is_whole)
                (behind w there.part.deeds) there.along.made.done.run.device there.part.behind.flying there.along.made.flying there.part.behind.taken);
          })
    ]

pub returns-clause-asked : goal.returns-clause-asked
returns-clause-asked g c w is flying are taken way coming keeps =
    let old : Scene = scene_of g.D.Disk.moments g.O.Sink.held c.args.device.now.parts c.args.device.now.disk.now c.args.sink.now in
    let mid : Scene = scene_of g.D.Disk.moments g.O.Sink.held c.loop-at.device.parts c.loop-at.device.disk.now c.loop-at.sink in
    let test = c.loop-at-test.false in
    piece_ends w (moment_of w flying taken) (asks_in c.args.incoming.now.splitter coming c.args.piece.now) (tell c.args.incoming.now.splitter c.args.piece.now).place c.args.piece.now
    c.loop-at.at c.loop-at.incoming c.args.flight.now c.loop-at.flight old mid (c.loop-at.invariant.way w is flying are taken way coming keeps) (omega (arith, test))
