use Rattle.std.proofs.Common.{refl, sym, ◌∙◌, subst}
use Rattle.std.proofs.lemmas.Option.{same_Some}
use Rattle.std.proofs.lemmas.Result.{on_ok_weaker}
use Rattle.disk_model.specs.Disk.{last_image}
use Rattle.image_resizing.specs.Grown.{IsResizedFrom}
use Rattle.image_resizing.proofs.GrownLemmas.{cuts_left, founded_resized, still_resized, to_grow}
use Rattle.disk_model.proofs.MomentsLemmas.{EachMoment-weaker, no_moment}
use Rattle.image_resizing.proofs.WritingLemmas.{behind_resize}
use Rattle.image_resizing.proofs.growing.grow_settled.Goals as goal

pub returns-clause-resized : goal.returns-clause-resized
returns-clause-resized g c =
    let disk = c.args.disk.now in
    let sectors = (g.D.Disk.identity disk).sectors in
    let plan = c.args.plan.now in
    on_ok_weaker c.grow.result
    (λ grown entry x told settled y told_y. founded_resized sectors plan c.requires.plan entry x settled (g.met.D.Disk.reads_an_image disk x told) y
    (grown (last_image x) (to_grow sectors plan c.requires.plan entry x settled (g.D.Disk.moments c.args.disk.now) told) y told_y))
    c.grow.ensures.grown

pub returns-clause-moments : goal.returns-clause-moments
returns-clause-moments g c entry x told settled =
    let sectors = (g.D.Disk.identity c.args.disk.now).sectors in
    let plan = c.args.plan.now in
    cuts_left sectors plan c.requires.plan entry x settled (g.D.Disk.moments c.args.disk.now) (g.D.Disk.moments c.grow.new.disk)
    (c.grow.ensures.moments (last_image x) (to_grow sectors plan c.requires.plan entry x settled (g.D.Disk.moments c.args.disk.now) told))

pub returns-then-plan-clause-resized : goal.returns-then-plan-clause-resized
returns-then-plan-clause-resized g c entry x told settled y told_y =
    let sectors = (g.D.Disk.identity c.args.disk.now).sectors in
    let plan = c.args.plan.now in
    subst (IsResizedFrom sectors plan entry) (same_Some x y (sym told ∙ told_y)) (still_resized sectors plan c.requires.plan entry x settled c.if-plan.true)

pub returns-then-plan-clause-writes : goal.returns-then-plan-clause-writes
returns-then-plan-clause-writes g c start x told settled = no_moment (g.D.Disk.moments c.args.disk.now) _

pub returns-clause-writes : goal.returns-clause-writes
returns-clause-writes g c start x told settled =
    EachMoment-weaker
    (λ y behind. behind_resize (g.D.Disk.identity c.args.disk.now).sectors c.args.plan.now c.requires.plan start c.if-plan.false x (g.met.D.Disk.reads_an_image c.args.disk.now x told) settled y behind)
    (c.grow.ensures.writes (last_image x) x told (record { reads = refl; stands = settled.from.stands }))
