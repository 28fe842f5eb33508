use Rattle.std.proofs.Common.{◌≡◌, ◌^◌, inl, inr, ◌-◌, ◌<◌, ◌≤◌, length, Err, refl, sym, ◌∙◌, ap, subst, arith}
use Rattle.std.proofs.lemmas.Result.{err_from_is_err_and}
use Rattle.nbd_flight.specs.declared.stop.Stop.{Stop}
use Rattle.nbd_flight.specs.declared.stop.Stop.TheVariants as Faults
use Rattle.nbd_flight.specs.Deeds.{Scene, scene_of}
use Rattle.nbd_flight.specs.Rounds.{ForMoment, HasStoppedRounds, moment_of}
use Rattle.nbd_flight.proofs.CauseLemmas.{causes_behind, causes_none, if_err_of, passed_behind}
use Rattle.nbd_flight.proofs.RoundLemmas.{now, round_state, rounds_begin, rounds_end, rounds_go, rounds_stopped}
use Rattle.nbd_flight.proofs.StaysLemmas.{stays_none, stays_then}
use Rattle.nbd_flight.proofs.rounds.until.Goals as goal

pub loop-round-init : goal.loop-round-init
loop-round-init g c = record {
  stays = stays_none g.D.Disk.identity g.D.Disk.moments c.args.device.now.condition c.args.device.now.parts c.args.device.now.disk.now c.args.flight.now c.requires.works c.requires.held;
  identity = refl;
  disk_same = refl;
  sink_same = refl;
  same_disk = refl;
  way = λ w is flying are taken. rounds_begin w c.args.most flying taken c.args.flight.now (scene_of g.D.Disk.moments g.O.Sink.held c.args.device.now.parts c.args.device.now.disk.now c.args.sink.now) is are;
}

pub returns-then-len-most-clause-ran : goal.returns-then-len-most-clause-ran
returns-then-len-most-clause-ran g c w is flying are taken =
    let old : Scene = scene_of g.D.Disk.moments g.O.Sink.held c.args.device.now.parts c.args.device.now.disk.now c.args.sink.now in
    let mid : Scene = scene_of g.D.Disk.moments g.O.Sink.held c.loop-round.device.parts c.loop-round.device.disk.now c.loop-round.sink in
    let counted = c.loop-round.flight.waiting.ok.0 in
    let size = c.len.ensures in
    let few : length c.loop-round.flight.waiting.items ≤ c.args.most = omega (arith, counted, size) in
    rounds_end w c.args.most (moment_of w flying taken) c.loop-round._round c.args.flight.now c.loop-round.flight old mid (c.loop-round.invariant.way w is flying are taken) (inl few)

pub returns-then-len-most-clause-cause : goal.returns-then-len-most-clause-cause
returns-then-len-most-clause-cause g c = causes_none _ _ _ _ _ c.loop-round.invariant.disk_same c.loop-round.invariant.sink_same

pub returns-in_err-round-clause-stopped : goal.returns-in_err-round-clause-stopped
returns-in_err-round-clause-stopped g c =
    let old : Scene = scene_of g.D.Disk.moments g.O.Sink.held c.args.device.now.parts c.args.device.now.disk.now c.args.sink.now in
    let mid : Scene = scene_of g.D.Disk.moments g.O.Sink.held c.loop-round.device.parts c.loop-round.device.disk.now c.loop-round.sink in
    let new : Scene = scene_of g.D.Disk.moments g.O.Sink.held c.round.new.device.parts c.round.new.device.disk.now c.round.new.sink in
    let counted = c.loop-round.flight.waiting.ok.0 in
    let size = c.len.ensures in
    let many : c.args.most < length c.loop-round.flight.waiting.items = omega (arith, counted, size) in
    let low : c.loop-round._round < 2 ^ 64 - 1 = omega arith in
    let x = c.args.flight.now in
    let y = c.loop-round.flight in
    let P : Stop → Type 0 = λ fault. ForMoment x.waiting.items old (λ w m. HasStoppedRounds w c.args.most m fault old new) in
    let p = err_from_is_err_and c.from_residual.result c.from_residual.ensures.1 in
    if_err_of P c.from_residual.result p.0 p.1 (subst P (sym p.2) (λ w is flying are taken.
    let way = c.loop-round.invariant.way w is flying are taken in
    let m = moment_of w flying taken in
    rounds_stopped w c.args.most m c.loop-round._round x y old mid way many low _ new
    (c.in_err-round.ensures.stopped (now w c.args.most m c.loop-round._round x y old mid way) way.made.done.run.device way.part.behind.flying way.made.flying way.part.behind.taken)))

pub returns-in_err-round-clause-memory : goal.returns-in_err-round-clause-memory
returns-in_err-round-clause-memory g c =
    let p = err_from_is_err_and c.from_residual.result c.from_residual.ensures.1 in
    passed_behind c.round.result c.from_residual.result p.0 (c.in_err-round.was ∙ ap Err (sym p.2)) p.1 Faults.Memory c.round.ensures.memory

pub returns-in_err-round-clause-cause : goal.returns-in_err-round-clause-cause
returns-in_err-round-clause-cause g c =
    let p = err_from_is_err_and c.from_residual.result c.from_residual.ensures.1 in
    causes_behind c.round.result c.from_residual.result p.0 (c.in_err-round.was ∙ ap Err (sym p.2)) p.1
    _ _ _ _ _ _ c.loop-round.invariant.disk_same c.loop-round.invariant.sink_same c.round.ensures.cause

pub loop-round-preserved : goal.loop-round-preserved
loop-round-preserved g c =
    let kept = c.loop-round.invariant in
    let old : Scene = scene_of g.D.Disk.moments g.O.Sink.held c.args.device.now.parts c.args.device.now.disk.now c.args.sink.now in
    let mid : Scene = scene_of g.D.Disk.moments g.O.Sink.held c.loop-round.device.parts c.loop-round.device.disk.now c.loop-round.sink in
    let new : Scene = scene_of g.D.Disk.moments g.O.Sink.held c.round.new.device.parts c.round.new.device.disk.now c.round.new.sink in
    let counted = c.loop-round.flight.waiting.ok.0 in
    let size = c.len.ensures in
    let many : c.args.most < length c.loop-round.flight.waiting.items = omega (arith, counted, size) in
    let x = c.args.flight.now in
    let y = c.loop-round.flight in
    let z = c.round.new.flight in
    record {
      stays = stays_then g.D.Disk.identity g.D.Disk.moments 0 0 c.loop-round.device.condition c.round.new.device.condition c.args.device.now.parts c.loop-round.device.parts c.round.new.device.parts
          c.loop-round.device.disk.now c.round.new.device.disk.now y z kept.stays c.in_ok-round.ensures.stays;
      identity = c.round.ensures.identity ∙ kept.identity;
      disk_same = c.in_ok-round.ensures.cause.disk_passed (λ e. cc) ∙ kept.disk_same;
      sink_same = c.in_ok-round.ensures.cause.sink_passed (λ e. cc) ∙ kept.sink_same;
      same_disk = c.round.ensures.same_disk ∙ kept.same_disk;
      way = λ w is flying are taken.
          let way = kept.way w is flying are taken in
          let m = moment_of w flying taken in
          let here = now w c.args.most m c.loop-round._round x y old mid way in
          rounds_go w c.args.most m c.loop-round._round x y old mid way many z new (round_state w.format way.part.behind.taken here.state way.part.behind.flying)
          (c.in_ok-round.ensures.ran here way.made.done.run.device way.part.behind.flying way.made.flying way.part.behind.taken);
    }

pub returns-clause-ran : goal.returns-clause-ran
returns-clause-ran g c w is flying are taken =
    let old : Scene = scene_of g.D.Disk.moments g.O.Sink.held c.args.device.now.parts c.args.device.now.disk.now c.args.sink.now in
    let mid : Scene = scene_of g.D.Disk.moments g.O.Sink.held c.loop-round.device.parts c.loop-round.device.disk.now c.loop-round.sink in
    let all : c.loop-round._round ≡ 2 ^ 64 - 1 = omega arith in
    rounds_end w c.args.most (moment_of w flying taken) c.loop-round._round c.args.flight.now c.loop-round.flight old mid (c.loop-round.invariant.way w is flying are taken) (inr all)

pub returns-clause-cause : goal.returns-clause-cause
returns-clause-cause g c = causes_none _ _ _ _ _ c.loop-round.invariant.disk_same c.loop-round.invariant.sink_same
