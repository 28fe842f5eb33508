use Rattle.std.proofs.Common.{sym, ◌∙◌, ℕ, ap, subst}
use Rattle.std.proofs.lemmas.Result.{on_ok_weaker}
use Rattle.disk_model.specs.Identity.{DiskIdentity}
use Rattle.disk_model.proofs.MomentsLemmas.{EachMoment-then}
use Rattle.image_resizing.specs.Grown.{FoundsGrowth, LeavesCuts}
use Rattle.image_resizing.proofs.GrownLemmas.{stands_cuts}
use Rattle.std.proofs.lemmas.Option.{same_Some}
use Rattle.image_resizing.specs.Grown.{IsToGrow}
use Rattle.image_resizing.specs.Writing.{head_over}
use Rattle.image_resizing.proofs.OrderLemmas.{now_told}
use Rattle.image_resizing.proofs.WritingLemmas.{writes_new, writes_told}
use Rattle.image_resizing.proofs.growing.grow.Goals as goal

pub returns-in_err-prepare-clause-moments : goal.returns-in_err-prepare-clause-moments
returns-in_err-prepare-clause-moments g c image to_grow =
    stands_cuts (g.D.Disk.identity c.args.disk.now).sectors c.args.plan.now c.requires.plan image (g.D.Disk.moments c.args.disk.now) (g.D.Disk.moments c.prepare.new.disk) (c.prepare.ensures.stands image to_grow)

pub returns-clause-grown : goal.returns-clause-grown
returns-clause-grown g c =
    let same = ap (λ (d : DiskIdentity). d.sectors) c.prepare.ensures.identity in
    on_ok_weaker c.found.result
    (λ founded image to_grow. subst (λ (n : ℕ). FoundsGrowth n c.args.plan.now (g.D.Disk.moments c.prepare.new.disk) (g.D.Disk.moments c.found.new.disk)) same founded image (c.in_ok-prepare.ensures.prepared image to_grow))
    c.found.ensures.founded

pub returns-clause-moments : goal.returns-clause-moments
returns-clause-moments g c image to_grow =
    let same = ap (λ (d : DiskIdentity). d.sectors) c.prepare.ensures.identity in
    EachMoment-then
    (stands_cuts (g.D.Disk.identity c.args.disk.now).sectors c.args.plan.now c.requires.plan image (g.D.Disk.moments c.args.disk.now) (g.D.Disk.moments c.prepare.new.disk) (c.prepare.ensures.stands image to_grow))
    (subst (λ (n : ℕ). LeavesCuts n c.args.plan.now (g.D.Disk.moments c.prepare.new.disk) (g.D.Disk.moments c.found.new.disk)) same c.found.ensures.moments image (c.in_ok-prepare.ensures.prepared image to_grow))

pub returns-in_err-prepare-clause-writes : goal.returns-in_err-prepare-clause-writes
returns-in_err-prepare-clause-writes g c image x told begins =
    let sectors = (g.D.Disk.identity c.args.disk.now).sectors in
    let plan = c.args.plan.now in
    let through = c.prepare.ensures.stands image (λ z told_z. subst (IsToGrow sectors plan image) (same_Some x z (sym told ∙ told_z)) begins) in
    writes_new sectors plan image x (g.D.Disk.moments c.args.disk.now) (g.D.Disk.moments c.prepare.new.disk) told through (head_over plan (image 0))

pub returns-clause-writes : goal.returns-clause-writes
returns-clause-writes g c image x told begins =
    let sectors = (g.D.Disk.identity c.args.disk.now).sectors in
    let plan = c.args.plan.now in
    let through = c.prepare.ensures.stands image (λ z told_z. subst (IsToGrow sectors plan image) (same_Some x z (sym told ∙ told_z)) begins) in
    let mid = now_told through.adds x told in
    let prepared = c.in_ok-prepare.ensures.prepared image (λ z told_z. subst (IsToGrow sectors plan image) (same_Some x z (sym told ∙ told_z)) begins) mid.0 mid.1 in
    writes_told sectors plan image x (g.D.Disk.moments c.args.disk.now) (g.D.Disk.moments c.prepare.new.disk) told through (g.D.Disk.moments c.found.new.disk) mid.0 mid.1 prepared (g.met.D.Disk.reads_an_image c.prepare.new.disk mid.0 mid.1) (c.found.ensures.writes mid.0 mid.1)
