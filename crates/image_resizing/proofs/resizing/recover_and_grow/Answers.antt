use Rattle.std.proofs.Common.{ℕ, ap, subst}
use Rattle.std.proofs.lemmas.Result.{on_ok_weaker}
use Rattle.disk_model.specs.Disk.{last_image}
use Rattle.disk_model.specs.Identity.{DiskIdentity}
use Rattle.image_resizing.specs.Grown.{GrowsSettled, LeavesResizing}
use Rattle.image_resizing.proofs.OrderLemmas.{grown_order, settled_order, settled_told}
use Rattle.disk_model.proofs.MomentsLemmas.{EachMoment-then}
use Rattle.image_resizing.specs.Writing.{WritesSettled}
use Rattle.image_resizing.proofs.WritingLemmas.{recovered_resize}
use Rattle.image_resizing.proofs.resizing.recover_and_grow.Goals as goal

pub returns-in_err-recover_image-clause-moments : goal.returns-in_err-recover_image-clause-moments
returns-in_err-recover_image-clause-moments g c start told = settled_order (g.D.Disk.identity c.args.disk.now).sectors c.args.plan.now (g.D.Disk.moments c.args.disk.now) (g.D.Disk.moments c.recover_image.new.disk) c.recover_image.ensures.moments

pub returns-clause-moments : goal.returns-clause-moments
returns-clause-moments g c start told =
    let sectors = (g.D.Disk.identity c.args.disk.now).sectors in
    let plan = c.args.plan.now in
    let same = ap (λ (d : DiskIdentity). d.sectors) c.recover_image.ensures.identity in
    let mid = settled_told sectors plan (g.D.Disk.moments c.args.disk.now) (g.D.Disk.moments c.recover_image.new.disk) c.recover_image.ensures.moments start told in
    grown_order sectors plan (g.D.Disk.moments c.args.disk.now) (g.D.Disk.moments c.recover_image.new.disk) c.recover_image.ensures.moments (g.D.Disk.moments c.grow_settled.new.disk) start told
    (subst (λ (n : ℕ). LeavesResizing n plan (g.D.Disk.moments c.recover_image.new.disk) (g.D.Disk.moments c.grow_settled.new.disk)) same c.grow_settled.ensures.moments (last_image start) mid.0 mid.1 (c.in_ok-recover_image.ensures.settled start told mid.0 mid.1).from)

pub returns-clause-resized : goal.returns-clause-resized
returns-clause-resized g c =
    let sectors = (g.D.Disk.identity c.args.disk.now).sectors in
    let plan = c.args.plan.now in
    let same = ap (λ (d : DiskIdentity). d.sectors) c.recover_image.ensures.identity in
    on_ok_weaker c.grow_settled.result
    (λ grown start told.
    let mid = settled_told sectors plan (g.D.Disk.moments c.args.disk.now) (g.D.Disk.moments c.recover_image.new.disk) c.recover_image.ensures.moments start told in
    subst (λ (n : ℕ). GrowsSettled n plan (g.D.Disk.moments c.recover_image.new.disk) (g.D.Disk.moments c.grow_settled.new.disk)) same grown (last_image start) mid.0 mid.1 (c.in_ok-recover_image.ensures.settled start told mid.0 mid.1).from)
    c.grow_settled.ensures.resized

pub returns-in_err-recover_image-clause-writes : goal.returns-in_err-recover_image-clause-writes
returns-in_err-recover_image-clause-writes g c start told =
    recovered_resize (g.D.Disk.identity c.args.disk.now).sectors c.args.plan.now c.requires.plan start c.requires.no_bitmap (g.D.Disk.moments c.args.disk.now) (g.D.Disk.moments c.recover_image.new.disk) (c.recover_image.ensures.writes start told)

pub returns-clause-writes : goal.returns-clause-writes
returns-clause-writes g c start told =
    let sectors = (g.D.Disk.identity c.args.disk.now).sectors in
    let plan = c.args.plan.now in
    let same = ap (λ (d : DiskIdentity). d.sectors) c.recover_image.ensures.identity in
    let mid = settled_told sectors plan (g.D.Disk.moments c.args.disk.now) (g.D.Disk.moments c.recover_image.new.disk) c.recover_image.ensures.moments start told in
    EachMoment-then (recovered_resize sectors plan c.requires.plan start c.requires.no_bitmap (g.D.Disk.moments c.args.disk.now) (g.D.Disk.moments c.recover_image.new.disk) (c.recover_image.ensures.writes start told))
    (subst (λ (n : ℕ). WritesSettled n plan (g.D.Disk.moments c.recover_image.new.disk) (g.D.Disk.moments c.grow_settled.new.disk)) same c.grow_settled.ensures.writes start mid.0 mid.1 (c.in_ok-recover_image.ensures.settled start told mid.0 mid.1))
