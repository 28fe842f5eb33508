use Rattle.std.proofs.Common.{◌+◌, subst, arith}
use Rattle.std.proofs.lemmas.Result.{on_ok_weaker}
use Rattle.disk_model.specs.Identity.{DiskIdentity}
use Rattle.image_resizing.specs.Cleared.{ClearsSectors, StandsClearing, bits_begin, bits_end}
use Rattle.image_resizing.proofs.ClearedLemmas.{clearing_then, clears_then, more_regions}
use Rattle.image_resizing.proofs.clearing.clear_bits.Goals as goal

pub clear_first-requires-clause-some : goal.clear_first-requires-clause-some
clear_first-requires-clause-some g c =
    let more = more_regions (g.D.Disk.identity c.args.disk.now).sectors c.args.plan.now c.requires.plan in
    omega (arith, more, c.if-first-end.false, c.regions-first.ensures, c.regions-end.ensures)

pub clear_behind-requires-clause-some : goal.clear_behind-requires-clause-some
clear_behind-requires-clause-some g c =
    let more = more_regions (g.D.Disk.identity c.args.disk.now).sectors c.args.plan.now c.requires.plan in
    omega (arith, more, c.if-first-end.false, c.regions-first.ensures, c.regions-end.ensures)

pub returns-in_err-clear_first-clause-stands : goal.returns-in_err-clear_first-clause-stands
returns-in_err-clear_first-clause-stands g c = c.clear_first.ensures.stands

pub returns-clause-cleared : goal.returns-clause-cleared
returns-clause-cleared g c =
    on_ok_weaker c.clear_behind.result
    (λ cleared. clears_then (g.D.Disk.identity c.args.disk.now).sectors c.args.plan.now (g.D.Disk.moments c.args.disk.now) (g.D.Disk.moments c.clear_first.new.disk) (g.D.Disk.moments c.clear_behind.new.disk) (bits_begin c.args.plan.now) (bits_begin c.args.plan.now + 1) (bits_end c.args.plan.now) c.in_ok-clear_first.ensures.cleared
    (subst (λ (i : DiskIdentity). ClearsSectors i.sectors c.args.plan.now (bits_begin c.args.plan.now + 1) (bits_end c.args.plan.now) (g.D.Disk.moments c.clear_first.new.disk) (g.D.Disk.moments c.clear_behind.new.disk)) c.clear_first.ensures.identity cleared))
    c.clear_behind.ensures.cleared

pub returns-clause-stands : goal.returns-clause-stands
returns-clause-stands g c =
    clearing_then (g.D.Disk.identity c.args.disk.now).sectors c.args.plan.now (g.D.Disk.moments c.args.disk.now) (g.D.Disk.moments c.clear_first.new.disk) (g.D.Disk.moments c.clear_behind.new.disk) (bits_begin c.args.plan.now) (bits_begin c.args.plan.now + 1) c.in_ok-clear_first.ensures.cleared c.clear_first.ensures.stands
    (subst (λ (i : DiskIdentity). StandsClearing i.sectors c.args.plan.now (bits_begin c.args.plan.now + 1) (g.D.Disk.moments c.clear_first.new.disk) (g.D.Disk.moments c.clear_behind.new.disk)) c.clear_first.ensures.identity c.clear_behind.ensures.stands)
