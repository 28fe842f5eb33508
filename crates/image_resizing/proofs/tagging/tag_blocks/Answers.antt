use Rattle.std.proofs.Common.{rules, ◌≡◌, ℕ, ◌+◌, ◌∙◌, ap, subst, arith}
use Rattle.disk_model.specs.Identity.{DiskIdentity}
use Rattle.image_resizing.proofs.PlanLemmas.{plan_more}
use Rattle.image_resizing.specs.Filled.{FillsBlocks, StandsFilling}
use Rattle.image_resizing.proofs.FilledLemmas.{fills_then, stands_still, stands_then}
use Rattle.image_resizing.proofs.tagging.tag_blocks.Goals as goal

pub added-count-requires : goal.added-count-requires
added-count-requires g c = plan_more (g.D.Disk.identity c.args.disk.now).sectors c.args.plan.now c.requires.plan

pub loop-done-init : goal.loop-done-init
loop-done-init g c = record {
  low = omega arith;
  tagged = λ written image groups has. has;
  stands = λ written. stands_still (g.D.Disk.identity c.args.disk.now).sectors c.args.plan.now (g.D.Disk.moments c.args.disk.now) written 0;
  size = search rules;
  identity = search rules;
  faults = search rules;
}

pub returns-in_err-done-clause-stands : goal.returns-in_err-done-clause-stands
returns-in_err-done-clause-stands g c written =
    let same = ap (λ (d : DiskIdentity). d.sectors) c.loop-done.invariant.identity in
    stands_then (g.D.Disk.identity c.args.disk.now).sectors c.args.plan.now (g.D.Disk.moments c.args.disk.now) (g.D.Disk.moments c.loop-done.disk) (g.D.Disk.moments c.tag_some.new.disk) written 0 written c.loop-done.done (c.loop-done.invariant.tagged written) (c.loop-done.invariant.stands written)
    (subst (λ (n : ℕ). StandsFilling n c.args.plan.now written c.loop-done.done (g.D.Disk.moments c.loop-done.disk) (g.D.Disk.moments c.tag_some.new.disk)) same (c.tag_some.ensures.stands written))

pub loop-done-preserved : goal.loop-done-preserved
loop-done-preserved g c =
    let sectors = (g.D.Disk.identity c.args.disk.now).sectors in
    let plan = c.args.plan.now in
    let same = ap (λ (d : DiskIdentity). d.sectors) c.loop-done.invariant.identity in
    let next = c.loop-done.done + c.in_ok-done.field-0 in
    record {
      low = omega (arith, c.in_ok-done.ensures.count, c.added-count.ensures);
      tagged = λ written. fills_then sectors plan (g.D.Disk.moments c.args.disk.now) (g.D.Disk.moments c.loop-done.disk) (g.D.Disk.moments c.tag_some.new.disk) written 0 written c.loop-done.done written next (c.loop-done.invariant.tagged written)
          (subst (λ (n : ℕ). FillsBlocks n plan written c.loop-done.done written next (g.D.Disk.moments c.loop-done.disk) (g.D.Disk.moments c.tag_some.new.disk)) same (c.in_ok-done.ensures.tagged written));
      stands = λ written. stands_then sectors plan (g.D.Disk.moments c.args.disk.now) (g.D.Disk.moments c.loop-done.disk) (g.D.Disk.moments c.tag_some.new.disk) written 0 written c.loop-done.done (c.loop-done.invariant.tagged written) (c.loop-done.invariant.stands written)
          (subst (λ (n : ℕ). StandsFilling n plan written c.loop-done.done (g.D.Disk.moments c.loop-done.disk) (g.D.Disk.moments c.tag_some.new.disk)) same (c.tag_some.ensures.stands written));
      size = search rules;
      identity = search rules;
      faults = search rules;
    }

pub returns-clause-tagged : goal.returns-clause-tagged
returns-clause-tagged g c written =
    let all : c.loop-done.done ≡ c.added-count.result = omega (arith, c.loop-done-test.false, c.loop-done.invariant.low) in
    subst (λ (n : ℕ). FillsBlocks (g.D.Disk.identity c.args.disk.now).sectors c.args.plan.now written 0 written n (g.D.Disk.moments c.args.disk.now) (g.D.Disk.moments c.loop-done.disk)) (all ∙ c.added-count.ensures) (c.loop-done.invariant.tagged written)
