use Rattle.std.proofs.Common.{ℕ, ◌+◌, ◌<◌, [], Err, refl, sym, ◌∙◌, ap, arith, subst}
use Rattle.std.proofs.lemmas.Result.{err_from_is_err_and}
use Rattle.device_model.specs.Script.{Read}
use Rattle.workload.proofs.WorkloadLemmas.{reads-next}
use Rattle.device_exercise.proofs.ExercisingLemmas.{among_all, among_cut, among_more, among_none, behind, read_fits}
use Rattle.device_exercise.proofs.ExercisingLemmas.{reads-none, reads_at_start, stays_none, stays_then, stays_wider}
use Rattle.device_exercise.proofs.StopLemmas.{cause_behind, cause_none, not_stopped, on_err_any}
use Rattle.device_exercise.proofs.exercising.read_blocks.Goals as goal

pub loop-block-init : goal.loop-block-init
loop-block-init g c = record {
  works = c.requires.works.is;
  stays = stays_none _ _ _ _ _ c.requires.works.ready c.requires.tickets;
  disk_same = refl;
  same_disk = refl;
  faults = omega arith;
  way = λ w is. among_none w _ _ _ _ _ _ _ _ is (reads_at_start c.args.device.now.parts.common.slots.blocks) refl refl;
}

pub run_counted-requires-clause-runnable : goal.run_counted-requires-clause-runnable
run_counted-requires-clause-runnable g c =
    read_fits c.loop-block.block c.args.device.now.parts.common.slots.blocks _
    c.loop-block.device.parts.common.slots.block_size c.loop-block.invariant.stays.blocks
    (subst (λ (n : ℕ). c.loop-block.block < n) c.blocks-blocks.ensures c.loop-block-test.true)

pub returns-in_err-run_counted-clause-stopped : goal.returns-in_err-run_counted-clause-stopped
returns-in_err-run_counted-clause-stopped g c = on_err_any c.from_residual.result (λ w is.
    let at = c.loop-block.invariant.way w is in
    among_cut w _ _ _ _ _ _ _ _ _ at (Read c.loop-block.block 1) _
    (reads-next c.args.device.now.parts.common.slots.blocks c.loop-block.block
    (subst (λ (n : ℕ). c.loop-block.block < n) c.blocks-blocks.ensures c.loop-block-test.true)) _
    (c.in_err-run_counted.ensures.stopped (behind w at.made) at.ran.run.device))

pub returns-in_err-run_counted-clause-cause : goal.returns-in_err-run_counted-clause-cause
returns-in_err-run_counted-clause-cause g c =
    let p = err_from_is_err_and c.from_residual.result c.from_residual.ensures.1 in
    cause_behind c.run_counted.result c.from_residual.result p.0 (c.in_err-run_counted.was ∙ ap Err (sym p.2)) p.1
    _ _ _ c.loop-block.invariant.disk_same c.run_counted.ensures.cause

pub returns-in_err-run_counted-clause-stays : goal.returns-in_err-run_counted-clause-stays
returns-in_err-run_counted-clause-stays g c =
    stays_then c.loop-block.block 1 c.args.device.now.parts.common.slots.blocks _ _ _ _ _ _ _ _ _ _ _ _
    (let low = c.loop-block-test.true in let is = c.blocks-blocks.ensures in omega (arith, low, is))
    c.loop-block.invariant.stays c.run_counted.ensures.stays

pub loop-block-preserved : goal.loop-block-preserved
loop-block-preserved g c =
    let kept = c.loop-block.invariant in
    record {
      works = c.run_counted.ensures.turn.0 (not_stopped _ _ _ c.in_ok-run_counted.was);
      stays = stays_then c.loop-block.block 1 (c.loop-block.block + 1) _ _ _ _ _ _ _ _ _ _ _ _ (omega arith)
          kept.stays c.run_counted.ensures.stays;
      disk_same = c.run_counted.ensures.cause.passed (not_stopped _ _ _ c.in_ok-run_counted.was) ∙ kept.disk_same;
      same_disk = c.run_counted.ensures.same_disk ∙ kept.same_disk;
      faults = let before = kept.faults in let more = c.run_counted.ensures.counts.1 in omega (arith, before, more);
      way = λ w is.
          let at = kept.way w is in
          let next = reads-next c.args.device.now.parts.common.slots.blocks c.loop-block.block
          (subst (λ (n : ℕ). c.loop-block.block < n) c.blocks-blocks.ensures c.loop-block-test.true) in
          among_more w _ _ _ _ _ _ _ _ _ at (Read c.loop-block.block 1) _ [] _ next refl _ _ _
          (c.in_ok-run_counted.ensures.ran (behind w at.made) at.ran.run.device);
    }

pub returns-clause-ran : goal.returns-clause-ran
returns-clause-ran g c w is =
    among_all w _ _ _ _ _ _ _ _ _ (c.loop-block.invariant.way w is)
    (reads-none _ c.loop-block.block
    (let past = c.loop-block-test.false in let is = c.blocks-blocks.ensures in omega (arith, past, is))) refl

pub returns-clause-cause : goal.returns-clause-cause
returns-clause-cause g c = cause_none _ _ _ c.loop-block.invariant.disk_same

pub returns-clause-stays : goal.returns-clause-stays
returns-clause-stays g c =
    stays_wider c.loop-block.block _ _ _ _ _ _ _ _
    (let end = c.loop-block.auto.block-end in let is = c.blocks-blocks.ensures in omega (arith, end, is))
    c.loop-block.invariant.stays
