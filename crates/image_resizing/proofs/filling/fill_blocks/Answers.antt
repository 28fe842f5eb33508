use Rattle.std.proofs.Common.{rules, ◌≡◌, ℕ, ◌+◌, ◌∙◌, ap, subst, arith}
use Rattle.disk_model.specs.Identity.{DiskIdentity}
use Rattle.image_resizing.proofs.PlanLemmas.{plan_more}
use Rattle.image_resizing.specs.Filled.{FillsBlocks, StandsFilling}
use Rattle.image_resizing.proofs.FilledLemmas.{fills_then, stands_still, stands_then}
use Rattle.image_resizing.proofs.filling.fill_blocks.Goals as goal

pub added-count-requires : goal.added-count-requires
added-count-requires g c = plan_more (g.D.Disk.identity c.args.disk.now).sectors c.args.plan.now c.requires.plan

pub loop-done-init : goal.loop-done-init
loop-done-init g c = record {
  low = omega arith;
  filled = λ image groups has. has;
  stands = stands_still (g.D.Disk.identity c.args.disk.now).sectors c.args.plan.now (g.D.Disk.moments c.args.disk.now) 0 0;
  identity = search rules;
  faults = search rules;
}

pub returns-in_err-done-clause-stands : goal.returns-in_err-done-clause-stands
returns-in_err-done-clause-stands g c =
    let same = ap (λ (d : DiskIdentity). d.sectors) c.loop-done.invariant.identity in
    stands_then (g.D.Disk.identity c.args.disk.now).sectors c.args.plan.now (g.D.Disk.moments c.args.disk.now) (g.D.Disk.moments c.loop-done.disk) (g.D.Disk.moments c.fill_run.new.disk) 0 0 c.loop-done.done 0 c.loop-done.invariant.filled c.loop-done.invariant.stands
    (subst (λ (n : ℕ). StandsFilling n c.args.plan.now c.loop-done.done 0 (g.D.Disk.moments c.loop-done.disk) (g.D.Disk.moments c.fill_run.new.disk)) same c.fill_run.ensures.stands)

pub loop-done-preserved : goal.loop-done-preserved
loop-done-preserved g c =
    let sectors = (g.D.Disk.identity c.args.disk.now).sectors in
    let plan = c.args.plan.now in
    let same = ap (λ (d : DiskIdentity). d.sectors) c.loop-done.invariant.identity in
    let next = c.loop-done.done + c.in_ok-done.field-0 in
    record {
      low = omega (arith, c.in_ok-done.ensures.count, c.added-count.ensures);
      filled = fills_then sectors plan (g.D.Disk.moments c.args.disk.now) (g.D.Disk.moments c.loop-done.disk) (g.D.Disk.moments c.fill_run.new.disk) 0 0 c.loop-done.done 0 next 0 c.loop-done.invariant.filled
          (subst (λ (n : ℕ). FillsBlocks n plan c.loop-done.done 0 next 0 (g.D.Disk.moments c.loop-done.disk) (g.D.Disk.moments c.fill_run.new.disk)) same c.in_ok-done.ensures.filled);
      stands = stands_then sectors plan (g.D.Disk.moments c.args.disk.now) (g.D.Disk.moments c.loop-done.disk) (g.D.Disk.moments c.fill_run.new.disk) 0 0 c.loop-done.done 0 c.loop-done.invariant.filled c.loop-done.invariant.stands
          (subst (λ (n : ℕ). StandsFilling n plan c.loop-done.done 0 (g.D.Disk.moments c.loop-done.disk) (g.D.Disk.moments c.fill_run.new.disk)) same c.fill_run.ensures.stands);
      identity = search rules;
      faults = search rules;
    }

pub returns-clause-filled : goal.returns-clause-filled
returns-clause-filled g c =
    let all : c.loop-done.done ≡ c.added-count.result = omega (arith, c.loop-done-test.false, c.loop-done.invariant.low) in
    subst (λ (n : ℕ). FillsBlocks (g.D.Disk.identity c.args.disk.now).sectors c.args.plan.now 0 0 n 0 (g.D.Disk.moments c.args.disk.now) (g.D.Disk.moments c.loop-done.disk)) (all ∙ c.added-count.ensures) c.loop-done.invariant.filled
