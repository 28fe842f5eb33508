use Rattle.std.proofs.Common.{ℕ, sym, ◌∙◌, ap, subst, Err, List}
use Rattle.std.proofs.lemmas.Result.{err_from_is_err_and}
use Rattle.disk_model.specs.Disk.{Content}
use Rattle.disk_model.specs.Identity.{DiskIdentity}
use Rattle.disk_model.specs.Moments.{content_now}
use Rattle.disk_model.proofs.MomentsLemmas.{EachMoment-kept}
use Rattle.hmac_tag.specs.TagMaker.{key_of}
use Rattle.image_resizing.specs.Plan.{IsPlan}
use Rattle.image_resizing.specs.Settled.{IsPlanned, KeepsJournal, ResizesImage, ResizesOpenable}
use Rattle.image_resizing.proofs.OrderLemmas.{as_answer, can_open, in_order, journal_told, provided_told, resized_to, unread_order}
use Rattle.image_resizing.specs.Writing.{WritesOpenable}
use Rattle.image_resizing.proofs.OrderLemmas.{written_by}
use Rattle.image_resizing.proofs.resizing.resize.Goals as goal

pub returns-in_err-plan-clause-refused : goal.returns-in_err-plan-clause-refused
returns-in_err-plan-clause-refused g c =
    let p = err_from_is_err_and c.from_residual.result c.from_residual.ensures.1 in
    rw (p.1, p.2) (λ not_memory not_disk x told. c.in_err-plan.ensures.refused (key_of c.args.hash) (λ e. not_memory (ap Err e)) (λ e. not_disk (ap Err e)) x told)

pub returns-in_err-plan-clause-judged : goal.returns-in_err-plan-clause-judged
returns-in_err-plan-clause-judged g c x told fault has = EachMoment-kept _ c.plan_resize.ensures.kept

pub returns-in_err-plan-clause-moments : goal.returns-in_err-plan-clause-moments
returns-in_err-plan-clause-moments g c x told can = unread_order (key_of c.args.hash) (g.D.Disk.identity c.args.disk.now).sectors (g.D.Disk.moments c.args.disk.now) (g.D.Disk.moments c.plan_resize.new.disk) c.plan_resize.ensures.kept

pub resize_planned-requires-clause-plan : goal.resize_planned-requires-clause-plan
resize_planned-requires-clause-plan g c = subst (λ (d : DiskIdentity). IsPlan d.sectors c.in_ok-plan.plan) (sym c.plan_resize.ensures.identity) c.in_ok-plan.ensures.plan

pub resize_planned-requires-clause-reads : goal.resize_planned-requires-clause-reads
resize_planned-requires-clause-reads g c =
    subst (λ (d : DiskIdentity). IsPlanned d.sectors c.in_ok-plan.plan (g.D.Disk.moments c.plan_resize.new.disk)) (sym c.plan_resize.ensures.identity)
    (subst (λ (a : List Content). IsPlanned (g.D.Disk.identity c.args.disk.now).sectors c.in_ok-plan.plan a) (sym c.plan_resize.ensures.kept) c.in_ok-plan.ensures.reads)

pub returns-in_err-resize_planned-clause-refused : goal.returns-in_err-resize_planned-clause-refused
returns-in_err-resize_planned-clause-refused g c =
    let sectors = (g.D.Disk.identity c.args.disk.now).sectors in
    let key = key_of c.args.hash in
    let plan = c.in_ok-plan.plan in
    let is = c.in_ok-plan.ensures.plan in
    let own = c.in_ok-plan.ensures.key in
    let same = ap (λ (d : DiskIdentity). d.sectors) c.plan_resize.ensures.identity in
    let kept = c.plan_resize.ensures.kept in
    let p = err_from_is_err_and c.from_residual-in_err-resize_planned.result c.from_residual-in_err-resize_planned.ensures.1 in
    rw (p.1, p.2) (λ not_memory not_disk x told.
    c.in_err-resize_planned.ensures.refused (λ e. not_memory (ap (as_answer (Unit {0}) (ℕ × ℕ)) e)) (λ e. not_disk (ap (as_answer (Unit {0}) (ℕ × ℕ)) e)) x (ap content_now kept ∙ told)
    ∙ journal_told key sectors plan is own x (c.in_ok-plan.ensures.reads key x told) _ (c.in_ok-plan.ensures.journal key x told))

pub returns-in_err-resize_planned-clause-judged : goal.returns-in_err-resize_planned-clause-judged
returns-in_err-resize_planned-clause-judged g c x told fault has =
    let sectors = (g.D.Disk.identity c.args.disk.now).sectors in
    let key = key_of c.args.hash in
    let plan = c.in_ok-plan.plan in
    let is = c.in_ok-plan.ensures.plan in
    let own = c.in_ok-plan.ensures.key in
    let same = ap (λ (d : DiskIdentity). d.sectors) c.plan_resize.ensures.identity in
    let kept = c.plan_resize.ensures.kept in
    let judged = subst (λ (a : List Content). KeepsJournal plan a (g.D.Disk.moments c.resize_planned.new.disk)) kept c.resize_planned.ensures.judged in
    judged x told fault (journal_told key sectors plan is own x (c.in_ok-plan.ensures.reads key x told) _ (c.in_ok-plan.ensures.journal key x told) ∙ has)

pub returns-in_err-resize_planned-clause-moments : goal.returns-in_err-resize_planned-clause-moments
returns-in_err-resize_planned-clause-moments g c x told can =
    let sectors = (g.D.Disk.identity c.args.disk.now).sectors in
    let key = key_of c.args.hash in
    let plan = c.in_ok-plan.plan in
    let is = c.in_ok-plan.ensures.plan in
    let own = c.in_ok-plan.ensures.key in
    let same = ap (λ (d : DiskIdentity). d.sectors) c.plan_resize.ensures.identity in
    let kept = c.plan_resize.ensures.kept in
    let order = subst (λ (n : ℕ). ResizesOpenable n plan (g.D.Disk.moments c.args.disk.now) (g.D.Disk.moments c.resize_planned.new.disk)) same (subst (λ (a : List Content). ResizesOpenable (g.D.Disk.identity c.plan_resize.new.disk).sectors plan a (g.D.Disk.moments c.resize_planned.new.disk)) kept c.resize_planned.ensures.moments) in
    let read = c.in_ok-plan.ensures.reads key x told in
    let opens = can_open key sectors plan is own x read can in
    in_order key sectors plan is own x read (g.D.Disk.moments c.args.disk.now) (g.D.Disk.moments c.resize_planned.new.disk) told (g.met.D.Disk.reads_an_image c.args.disk.now x told) opens (order x told opens)

pub returns-clause-told : goal.returns-clause-told
returns-clause-told g c x told =
    let sectors = (g.D.Disk.identity c.args.disk.now).sectors in
    let key = key_of c.args.hash in
    let plan = c.in_ok-plan.plan in
    let is = c.in_ok-plan.ensures.plan in
    let own = c.in_ok-plan.ensures.key in
    let same = ap (λ (d : DiskIdentity). d.sectors) c.plan_resize.ensures.identity in
    let kept = c.plan_resize.ensures.kept in
    let provided = provided_told key sectors plan is own x (c.in_ok-plan.ensures.reads key x told) in
    (sym provided.0, provided.1)

pub returns-clause-resized : goal.returns-clause-resized
returns-clause-resized g c x told y told_y =
    let sectors = (g.D.Disk.identity c.args.disk.now).sectors in
    let key = key_of c.args.hash in
    let plan = c.in_ok-plan.plan in
    let is = c.in_ok-plan.ensures.plan in
    let own = c.in_ok-plan.ensures.key in
    let same = ap (λ (d : DiskIdentity). d.sectors) c.plan_resize.ensures.identity in
    let kept = c.plan_resize.ensures.kept in
    let resized = subst (λ (n : ℕ). ResizesImage n plan (g.D.Disk.moments c.args.disk.now) (g.D.Disk.moments c.resize_planned.new.disk)) same (subst (λ (a : List Content). ResizesImage (g.D.Disk.identity c.plan_resize.new.disk).sectors plan a (g.D.Disk.moments c.resize_planned.new.disk)) kept c.in_ok-resize_planned.ensures.resized) in
    resized_to key sectors plan is own x (c.in_ok-plan.ensures.reads key x told) y (resized x told y told_y)

pub returns-clause-refused : goal.returns-clause-refused
returns-clause-refused g c not_memory not_disk x told =
    let sectors = (g.D.Disk.identity c.args.disk.now).sectors in
    let key = key_of c.args.hash in
    let plan = c.in_ok-plan.plan in
    let is = c.in_ok-plan.ensures.plan in
    let own = c.in_ok-plan.ensures.key in
    let same = ap (λ (d : DiskIdentity). d.sectors) c.plan_resize.ensures.identity in
    let kept = c.plan_resize.ensures.kept in
    c.in_ok-resize_planned.ensures.refused (λ e. cc) (λ e. cc) x (ap content_now kept ∙ told)
    ∙ journal_told key sectors plan is own x (c.in_ok-plan.ensures.reads key x told) _ (c.in_ok-plan.ensures.journal key x told)

pub returns-clause-judged : goal.returns-clause-judged
returns-clause-judged g c x told fault has =
    let sectors = (g.D.Disk.identity c.args.disk.now).sectors in
    let key = key_of c.args.hash in
    let plan = c.in_ok-plan.plan in
    let is = c.in_ok-plan.ensures.plan in
    let own = c.in_ok-plan.ensures.key in
    let same = ap (λ (d : DiskIdentity). d.sectors) c.plan_resize.ensures.identity in
    let kept = c.plan_resize.ensures.kept in
    let judged = subst (λ (a : List Content). KeepsJournal plan a (g.D.Disk.moments c.resize_planned.new.disk)) kept c.resize_planned.ensures.judged in
    judged x told fault (journal_told key sectors plan is own x (c.in_ok-plan.ensures.reads key x told) _ (c.in_ok-plan.ensures.journal key x told) ∙ has)

pub returns-clause-moments : goal.returns-clause-moments
returns-clause-moments g c x told can =
    let sectors = (g.D.Disk.identity c.args.disk.now).sectors in
    let key = key_of c.args.hash in
    let plan = c.in_ok-plan.plan in
    let is = c.in_ok-plan.ensures.plan in
    let own = c.in_ok-plan.ensures.key in
    let same = ap (λ (d : DiskIdentity). d.sectors) c.plan_resize.ensures.identity in
    let kept = c.plan_resize.ensures.kept in
    let order = subst (λ (n : ℕ). ResizesOpenable n plan (g.D.Disk.moments c.args.disk.now) (g.D.Disk.moments c.resize_planned.new.disk)) same (subst (λ (a : List Content). ResizesOpenable (g.D.Disk.identity c.plan_resize.new.disk).sectors plan a (g.D.Disk.moments c.resize_planned.new.disk)) kept c.resize_planned.ensures.moments) in
    let read = c.in_ok-plan.ensures.reads key x told in
    let opens = can_open key sectors plan is own x read can in
    in_order key sectors plan is own x read (g.D.Disk.moments c.args.disk.now) (g.D.Disk.moments c.resize_planned.new.disk) told (g.met.D.Disk.reads_an_image c.args.disk.now x told) opens (order x told opens)

pub returns-in_err-plan-clause-writes : goal.returns-in_err-plan-clause-writes
returns-in_err-plan-clause-writes g c x told can = EachMoment-kept _ c.plan_resize.ensures.kept

pub returns-in_err-resize_planned-clause-writes : goal.returns-in_err-resize_planned-clause-writes
returns-in_err-resize_planned-clause-writes g c x told can =
    let sectors = (g.D.Disk.identity c.args.disk.now).sectors in
    let key = key_of c.args.hash in
    let plan = c.in_ok-plan.plan in
    let is = c.in_ok-plan.ensures.plan in
    let own = c.in_ok-plan.ensures.key in
    let same = ap (λ (d : DiskIdentity). d.sectors) c.plan_resize.ensures.identity in
    let kept = c.plan_resize.ensures.kept in
    let writes = subst (λ (n : ℕ). WritesOpenable n plan (g.D.Disk.moments c.args.disk.now) (g.D.Disk.moments c.resize_planned.new.disk)) same (subst (λ (a : List Content). WritesOpenable (g.D.Disk.identity c.plan_resize.new.disk).sectors plan a (g.D.Disk.moments c.resize_planned.new.disk)) kept c.resize_planned.ensures.writes) in
    let read = c.in_ok-plan.ensures.reads key x told in
    written_by key sectors plan is own x read (g.D.Disk.moments c.args.disk.now) (g.D.Disk.moments c.resize_planned.new.disk) (writes x told (can_open key sectors plan is own x read can))

pub returns-clause-writes : goal.returns-clause-writes
returns-clause-writes g c x told can =
    let sectors = (g.D.Disk.identity c.args.disk.now).sectors in
    let key = key_of c.args.hash in
    let plan = c.in_ok-plan.plan in
    let is = c.in_ok-plan.ensures.plan in
    let own = c.in_ok-plan.ensures.key in
    let same = ap (λ (d : DiskIdentity). d.sectors) c.plan_resize.ensures.identity in
    let kept = c.plan_resize.ensures.kept in
    let writes = subst (λ (n : ℕ). WritesOpenable n plan (g.D.Disk.moments c.args.disk.now) (g.D.Disk.moments c.resize_planned.new.disk)) same (subst (λ (a : List Content). WritesOpenable (g.D.Disk.identity c.plan_resize.new.disk).sectors plan a (g.D.Disk.moments c.resize_planned.new.disk)) kept c.resize_planned.ensures.writes) in
    let read = c.in_ok-plan.ensures.reads key x told in
    written_by key sectors plan is own x read (g.D.Disk.moments c.args.disk.now) (g.D.Disk.moments c.resize_planned.new.disk) (writes x told (can_open key sectors plan is own x read can))
