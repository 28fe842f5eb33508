use Rattle.std.proofs.Common.{ℕ, ◌+◌, ◌<◌, length, Err, refl, sym, ◌∙◌, ap, subst, arith}
use Rattle.std.proofs.lemmas.Result.{err_from_is_err_and}
use Rattle.nbd_flight.specs.declared.stop.Stop.{Stop}
use Rattle.nbd_flight.specs.declared.stop.Stop.TheVariants as Faults
use Rattle.nbd_flight.specs.Deeds.{HasStopped, Scene, scene_of}
use Rattle.nbd_flight.specs.Rounds.{ForMoment, one_round}
use Rattle.nbd_flight.proofs.CauseLemmas.{causes_behind, causes_none, if_err_of, passed_behind}
use Rattle.nbd_flight.proofs.MeasureLemmas.{fewer_ahead}
use Rattle.nbd_flight.proofs.RoundLemmas.{IsOnRound, ahead, here, round_begins, round_ends, round_goes, round_stopped, split}
use Rattle.nbd_flight.proofs.StaysLemmas.{stays_none, stays_then}
use Rattle.nbd_flight.proofs.rounds.round.Goals as goal

pub loop-at-init : goal.loop-at-init
loop-at-init g c = record {
  stays = stays_none g.D.Disk.identity g.D.Disk.moments c.args.device.now.condition c.args.device.now.parts c.args.device.now.disk.now c.args.flight.now c.requires.works c.requires.held;
  identity = refl;
  disk_same = refl;
  sink_same = refl;
  same_disk = refl;
  way = λ w is flying are taken. round_begins w taken flying c.args.flight.now (scene_of g.D.Disk.moments g.O.Sink.held c.args.device.now.parts c.args.device.now.disk.now c.args.sink.now) is are;
}

pub returns-in_err-turn-clause-stopped : goal.returns-in_err-turn-clause-stopped
returns-in_err-turn-clause-stopped g c =
    let old : Scene = scene_of g.D.Disk.moments g.O.Sink.held c.args.device.now.parts c.args.device.now.disk.now c.args.sink.now in
    let mid : Scene = scene_of g.D.Disk.moments g.O.Sink.held c.loop-at.device.parts c.loop-at.device.disk.now c.loop-at.sink in
    let new : Scene = scene_of g.D.Disk.moments g.O.Sink.held c.serve.new.device.parts c.serve.new.device.disk.now c.serve.new.sink in
    let x = c.args.flight.now in
    let y = c.loop-at.flight in
    let counted = c.loop-at.flight.waiting.ok.0 in
    let test = c.loop-at-test.true in
    let size = c.len.ensures in
    let low : c.loop-at.at < length c.loop-at.flight.waiting.items = omega (arith, counted, test, size) in
    let P : Stop → Type 0 = λ fault. ForMoment x.waiting.items old (λ w m. HasStopped w (one_round w m).deeds fault old new) in
    let p = err_from_is_err_and c.from_residual.result c.from_residual.ensures.1 in
    if_err_of P c.from_residual.result p.0 p.1 (subst P (sym p.2) (λ w is flying are taken.
    let way = c.loop-at.invariant.way w is flying are taken in
    let next = ahead w taken flying c.loop-at.at x y old mid way low in
    round_stopped w taken flying c.loop-at.at x y old mid way low _ new
    (c.in_err-turn.ensures.stopped (here w taken flying c.loop-at.at x y old mid way low) way.done.run.device way.before next.own next.more
    (split w taken flying c.loop-at.at x y old mid way low) way.place next.r.number taken)))

pub returns-in_err-turn-clause-memory : goal.returns-in_err-turn-clause-memory
returns-in_err-turn-clause-memory g c =
    let p = err_from_is_err_and c.from_residual.result c.from_residual.ensures.1 in
    passed_behind c.serve.result c.from_residual.result p.0 (c.in_err-turn.was ∙ ap Err (sym p.2)) p.1 Faults.Memory c.serve.ensures.memory

pub returns-in_err-turn-clause-cause : goal.returns-in_err-turn-clause-cause
returns-in_err-turn-clause-cause g c =
    let p = err_from_is_err_and c.from_residual.result c.from_residual.ensures.1 in
    causes_behind c.serve.result c.from_residual.result p.0 (c.in_err-turn.was ∙ ap Err (sym p.2)) p.1
    _ _ _ _ _ _ c.loop-at.invariant.disk_same c.loop-at.invariant.sink_same c.serve.ensures.cause

pub loop-at-preserved : goal.loop-at-preserved
loop-at-preserved g c =
    let kept = c.loop-at.invariant in
    let old : Scene = scene_of g.D.Disk.moments g.O.Sink.held c.args.device.now.parts c.args.device.now.disk.now c.args.sink.now in
    let mid : Scene = scene_of g.D.Disk.moments g.O.Sink.held c.loop-at.device.parts c.loop-at.device.disk.now c.loop-at.sink in
    let new : Scene = scene_of g.D.Disk.moments g.O.Sink.held c.serve.new.device.parts c.serve.new.device.disk.now c.serve.new.sink in
    let x = c.args.flight.now in
    let y = c.loop-at.flight in
    let z = c.serve.new.flight in
    let counted = c.loop-at.flight.waiting.ok.0 in
    let test = c.loop-at-test.true in
    let size = c.len.ensures in
    let low : c.loop-at.at < length c.loop-at.flight.waiting.items = omega (arith, counted, test, size) in
    record {
      stays = stays_then g.D.Disk.identity g.D.Disk.moments 0 0 c.loop-at.device.condition c.serve.new.device.condition c.args.device.now.parts c.loop-at.device.parts c.serve.new.device.parts
          c.loop-at.device.disk.now c.serve.new.device.disk.now y z kept.stays c.in_ok-turn.ensures.stays;
      identity = c.serve.ensures.identity ∙ kept.identity;
      disk_same = c.in_ok-turn.ensures.cause.disk_passed (λ e. cc) ∙ kept.disk_same;
      sink_same = c.in_ok-turn.ensures.cause.sink_passed (λ e. cc) ∙ kept.sink_same;
      same_disk = c.serve.ensures.same_disk ∙ kept.same_disk;
      way = λ w is flying are taken.
          let way = kept.way w is flying are taken in
          let next = ahead w taken flying c.loop-at.at x y old mid way low in
          subst (λ (n : ℕ). IsOnRound w taken flying (c.loop-at.at + n) x z old new) (sym c.places-at.ensures)
          (round_goes w taken flying c.loop-at.at x y old mid way low c.in_ok-turn.turn z new
          (c.in_ok-turn.ensures.served (here w taken flying c.loop-at.at x y old mid way low) way.done.run.device way.before next.own next.more
          (split w taken flying c.loop-at.at x y old mid way low) way.place next.r.number taken) c.in_ok-turn.ensures.left);
    }

pub loop-at-smaller : goal.loop-at-smaller
loop-at-smaller g c =
    let counted = c.loop-at.flight.waiting.ok.0 in
    let test = c.loop-at-test.true in
    let size = c.len.ensures in
    let low : c.loop-at.at < length c.loop-at.flight.waiting.items = omega (arith, counted, test, size) in
    let less = fewer_ahead c.in_ok-turn.turn c.loop-at.flight.waiting.items c.loop-at.at low in
    let left = ap length c.in_ok-turn.ensures.left in
    let places = c.places-at.ensures in
    omega (arith, less, left, places)

pub returns-clause-ran : goal.returns-clause-ran
returns-clause-ran g c w is flying are taken =
    let old : Scene = scene_of g.D.Disk.moments g.O.Sink.held c.args.device.now.parts c.args.device.now.disk.now c.args.sink.now in
    let new : Scene = scene_of g.D.Disk.moments g.O.Sink.held c.loop-at.device.parts c.loop-at.device.disk.now c.loop-at.sink in
    let counted = c.loop-at.flight.waiting.ok.0 in
    let test = c.loop-at-test.false in
    let size = c.len.ensures in
    round_ends w taken flying c.loop-at.at c.args.flight.now c.loop-at.flight old new (c.loop-at.invariant.way w is flying are taken) (omega (arith, counted, test, size))

pub returns-clause-cause : goal.returns-clause-cause
returns-clause-cause g c = causes_none _ _ _ _ _ c.loop-at.invariant.disk_same c.loop-at.invariant.sink_same
