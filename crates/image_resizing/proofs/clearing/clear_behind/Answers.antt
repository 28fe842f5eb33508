use Rattle.std.proofs.Common.{rules, ◌≡◌, ℕ, ◌+◌, ◌/◌, ap, subst, arith, sym}
use Rattle.disk_model.specs.Identity.{DiskIdentity}
use Rattle.image_resizing.specs.Cleared.{ClearsSectors, StandsClearing, bits_begin, bits_end}
use Rattle.image_resizing.proofs.ClearedLemmas.{clearing_still, clearing_then, clears_then}
use Rattle.image_resizing.proofs.clearing.clear_behind.Goals as goal

pub loop-next-init : goal.loop-next-init
loop-next-init g c =
    let begin : bits_begin c.args.plan.now + 1 ≡ c.regions-2.result / 4096 + 1 = ap (λ (n : ℕ). n / 4096 + 1) (sym c.regions-2.ensures) in
    record {
      behind = omega (arith, begin);
      low = omega (arith, begin, c.requires.some);
      cleared = subst (λ (n : ℕ). ClearsSectors (g.D.Disk.identity c.args.disk.now).sectors c.args.plan.now (bits_begin c.args.plan.now + 1) n (g.D.Disk.moments c.args.disk.now) (g.D.Disk.moments c.args.disk.now)) begin (λ image done has. has);
      stands = clearing_still (g.D.Disk.identity c.args.disk.now).sectors c.args.plan.now (g.D.Disk.moments c.args.disk.now) (bits_begin c.args.plan.now + 1);
      identity = search rules;
      faults = search rules;
    }

pub clear_run-requires-clause-run : goal.clear_run-requires-clause-run
clear_run-requires-clause-run g c = record {
  behind = omega (arith, c.loop-next.invariant.behind);
  some = omega (arith, c.min-count.ensures, c.loop-next-test.true);
  most = omega (arith, c.min-count.ensures);
  inside = omega (arith, c.min-count.ensures, c.loop-next-test.true, c.div_ceil-end.ensures, c.regions.ensures);
}

pub returns-in_err-clear_run-clause-stands : goal.returns-in_err-clear_run-clause-stands
returns-in_err-clear_run-clause-stands g c =
    let disk = g.D.Disk.identity c.args.disk.now in
    clearing_then disk.sectors c.args.plan.now (g.D.Disk.moments c.args.disk.now) (g.D.Disk.moments c.loop-next.disk) (g.D.Disk.moments c.clear_run.new.disk) (bits_begin c.args.plan.now + 1) c.loop-next.next c.loop-next.invariant.cleared c.loop-next.invariant.stands
    (subst (λ (i : DiskIdentity). StandsClearing i.sectors c.args.plan.now c.loop-next.next (g.D.Disk.moments c.loop-next.disk) (g.D.Disk.moments c.clear_run.new.disk)) c.loop-next.invariant.identity c.clear_run.ensures.stands)

pub loop-next-preserved : goal.loop-next-preserved
loop-next-preserved g c =
    let disk = g.D.Disk.identity c.args.disk.now in
    let plan = c.args.plan.now in
    let next = c.loop-next.next + c.min-count.result in
    record {
      behind = omega (arith, c.loop-next.invariant.behind);
      low = omega (arith, c.min-count.ensures, c.loop-next-test.true, c.div_ceil-end.ensures, c.regions.ensures);
      cleared = clears_then disk.sectors plan (g.D.Disk.moments c.args.disk.now) (g.D.Disk.moments c.loop-next.disk) (g.D.Disk.moments c.clear_run.new.disk) (bits_begin plan + 1) c.loop-next.next next c.loop-next.invariant.cleared
          (subst (λ (i : DiskIdentity). ClearsSectors i.sectors plan c.loop-next.next next (g.D.Disk.moments c.loop-next.disk) (g.D.Disk.moments c.clear_run.new.disk)) c.loop-next.invariant.identity c.in_ok-clear_run.ensures.cleared);
      stands = clearing_then disk.sectors plan (g.D.Disk.moments c.args.disk.now) (g.D.Disk.moments c.loop-next.disk) (g.D.Disk.moments c.clear_run.new.disk) (bits_begin plan + 1) c.loop-next.next c.loop-next.invariant.cleared c.loop-next.invariant.stands
          (subst (λ (i : DiskIdentity). StandsClearing i.sectors plan c.loop-next.next (g.D.Disk.moments c.loop-next.disk) (g.D.Disk.moments c.clear_run.new.disk)) c.loop-next.invariant.identity c.clear_run.ensures.stands);
      identity = search rules;
      faults = search rules;
    }

pub returns-clause-cleared : goal.returns-clause-cleared
returns-clause-cleared g c =
    let end : c.loop-next.next ≡ bits_end c.args.plan.now = omega (arith, c.loop-next.invariant.low, c.loop-next-test.false, c.div_ceil-end.ensures, c.regions.ensures) in
    subst (λ (n : ℕ). ClearsSectors (g.D.Disk.identity c.args.disk.now).sectors c.args.plan.now (bits_begin c.args.plan.now + 1) n (g.D.Disk.moments c.args.disk.now) (g.D.Disk.moments c.loop-next.disk)) end c.loop-next.invariant.cleared
