use Rattle.std.proofs.Common.{◌+◌, [], ◌∷◌, Err, refl, sym, ◌∙◌, ap, arith}
use Rattle.std.proofs.lemmas.Result.{err_from_is_err_and}
use Rattle.script_text.specs.Line.{ask_of}
use Rattle.workload.specs.Tally.{no_tally}
use Rattle.workload.specs.Workload.{WorkloadState}
use Rattle.workload.proofs.WorkloadLemmas.{asks_ahead-none}
use Rattle.device_exercise.proofs.ExercisingLemmas.{among_all, among_cut, among_more, among_none, asks_at_start}
use Rattle.device_exercise.proofs.ExercisingLemmas.{behind, next_is, ran_counted, some_blocks, stays_none, stays_then}
use Rattle.device_exercise.proofs.ExercisingLemmas.{stays_wider, workload_fits}
use Rattle.device_exercise.proofs.StopLemmas.{cause_behind, cause_none, not_stopped, on_err_any}
use Rattle.device_exercise.proofs.exercising.run_workload.Goals as goal

pub new-workload-requires : goal.new-workload-requires
new-workload-requires g c =
    let some = some_blocks _ _ _ _ c.requires.works.is c.requires.works.ready in
    let is = c.blocks-2.ensures in omega (arith, some, is)

pub loop-made-init : goal.loop-made-init
loop-made-init g c = record {
  works = c.requires.works.is;
  stays = stays_none _ _ _ _ _ c.requires.works.ready c.requires.tickets;
  disk_same = refl;
  same_disk = refl;
  blocks = ap (λ (x : WorkloadState). x.blocks) c.new-workload.ensures ∙ c.blocks-2.ensures;
  lines = rw c.new-tally.ensures (omega arith);
  faults = rw c.new-tally.ensures (omega arith);
  way = λ w is.
      let same = asks_at_start c.args.count c.args.seed _ _ c.new-workload.result c.new-workload.ensures
      c.blocks-2.ensures in
      among_none w _ _ _ _ no_tally _ _ _ is same same c.new-tally.ensures;
}

pub run_counted-requires-clause-runnable : goal.run_counted-requires-clause-runnable
run_counted-requires-clause-runnable g c =
    let kept = c.loop-made.invariant in
    let some = some_blocks _ _ _ _ c.requires.works.is c.requires.works.ready in
    let is = kept.blocks in
    workload_fits c.next_ask-ask.new.self.number c.loop-made.workload.blocks _ _ (ask_of c.next_ask-ask.result)
    c.next_ask-ask.ensures.ask
    (kept.stays.blocks ∙ sym kept.blocks) (omega (arith, some, is))

pub returns-in_err-run_counted-clause-stopped : goal.returns-in_err-run_counted-clause-stopped
returns-in_err-run_counted-clause-stopped g c = on_err_any c.from_residual.result (λ w is.
    let at = c.loop-made.invariant.way w is in
    among_cut w _ _ _ _ _ _ _ _ _ at (ask_of c.next_ask-ask.result) _
    (next_is c.args.count c.loop-made._made c.loop-made.workload c.next_ask-ask.new.self _ c.loop-made-test.true
    c.next_ask-ask.ensures.ask c.next_ask-ask.ensures.number) _
    (c.in_err-run_counted.ensures.stopped (behind w at.made) at.ran.run.device))

pub returns-in_err-run_counted-clause-cause : goal.returns-in_err-run_counted-clause-cause
returns-in_err-run_counted-clause-cause g c =
    let p = err_from_is_err_and c.from_residual.result c.from_residual.ensures.1 in
    cause_behind c.run_counted.result c.from_residual.result p.0 (c.in_err-run_counted.was ∙ ap Err (sym p.2)) p.1
    _ _ _ c.loop-made.invariant.disk_same c.run_counted.ensures.cause

pub returns-in_err-run_counted-clause-stays : goal.returns-in_err-run_counted-clause-stays
returns-in_err-run_counted-clause-stays g c =
    stays_then c.loop-made._made 1 c.args.count _ _ _ _ _ _ _ _ _ _ _ _
    (let low = c.loop-made-test.true in omega (arith, low))
    c.loop-made.invariant.stays c.run_counted.ensures.stays

pub loop-made-preserved : goal.loop-made-preserved
loop-made-preserved g c =
    let kept = c.loop-made.invariant in
    let ask = ask_of c.next_ask-ask.result in
    record {
      works = c.run_counted.ensures.turn.0 (not_stopped _ _ _ c.in_ok-run_counted.was);
      stays = stays_then c.loop-made._made 1 (c.loop-made._made + 1) _ _ _ _ _ _ _ _ _ _ _ _ (omega arith) kept.stays
          c.run_counted.ensures.stays;
      disk_same = c.run_counted.ensures.cause.passed (not_stopped _ _ _ c.in_ok-run_counted.was) ∙ kept.disk_same;
      same_disk = c.run_counted.ensures.same_disk ∙ kept.same_disk;
      blocks = ap (λ (x : WorkloadState). x.blocks) c.next_ask-ask.ensures.number ∙ kept.blocks;
      lines =
          let before = kept.lines in let asked = c.add_ask.ensures.lines in let same = c.run_counted.ensures.counts.0 in
          omega (arith, before, asked, same);
      faults =
          let before = kept.faults in let asked = c.add_ask.ensures.faults in let more = c.run_counted.ensures.counts.1 in
          omega (arith, before, asked, more);
      way = λ w is.
          let at = kept.way w is in
          let next = next_is c.args.count c.loop-made._made c.loop-made.workload c.next_ask-ask.new.self ask
          c.loop-made-test.true c.next_ask-ask.ensures.ask c.next_ask-ask.ensures.number in
          among_more w _ _ _ _ _ _ _ _ _ at ask _ (ask ∷ []) _ next next _ _ _
          (ran_counted (behind w at.made) ask _ _ _ _ _ _ c.add_ask.ensures.counted
          (c.in_ok-run_counted.ensures.ran (behind w at.made) at.ran.run.device));
    }

pub returns-clause-ran : goal.returns-clause-ran
returns-clause-ran g c w is =
    let none = asks_ahead-none c.args.count c.loop-made._made c.loop-made.workload c.loop-made-test.false in
    among_all w _ _ _ _ _ _ _ _ _ (c.loop-made.invariant.way w is) none none

pub returns-clause-cause : goal.returns-clause-cause
returns-clause-cause g c = cause_none _ _ _ c.loop-made.invariant.disk_same

pub returns-clause-stays : goal.returns-clause-stays
returns-clause-stays g c =
    stays_wider c.loop-made._made c.args.count _ _ _ _ _ _ _ (c.loop-made.auto._made-end) c.loop-made.invariant.stays
