use Rattle.std.proofs.Common.{refl, sym, ◌∙◌}
use Rattle.std.proofs.lemmas.Option.{none-some}
use Rattle.std.proofs.lemmas.Result.{err_from_is_err_and}
use Rattle.image_resizing.proofs.OrderLemmas.{bitmap_opens, fault_unseen, kept_order}
use Rattle.disk_model.proofs.MomentsLemmas.{no_moment}
use Rattle.image_resizing.proofs.resizing.resize_synced.Goals as goal

pub returns-in_err-growth-clause-refused : goal.returns-in_err-growth-clause-refused
returns-in_err-growth-clause-refused g c =
    let p = err_from_is_err_and c.from_residual.result c.from_residual.ensures.1 in
    rw (p.1, p.2) (λ not_memory not_disk x told. absurd (not_memory refl))

pub returns-in_err-growth-clause-judged : goal.returns-in_err-growth-clause-judged
returns-in_err-growth-clause-judged g c x told fault has = absurd (none-some fault (sym (fault_unseen (g.D.Disk.identity c.args.disk.now).sectors c.args.plan.now c.requires.plan x c.requires.bitmap) ∙ has))

pub returns-in_err-growth-clause-moments : goal.returns-in_err-growth-clause-moments
returns-in_err-growth-clause-moments g c x told opens = kept_order (g.D.Disk.identity c.args.disk.now).sectors c.args.plan.now (g.D.Disk.moments c.args.disk.now) (g.D.Disk.moments c.args.disk.now) refl

pub sync_and_grow-requires-clause-opens : goal.sync_and_grow-requires-clause-opens
sync_and_grow-requires-clause-opens g c x told = bitmap_opens (g.D.Disk.identity c.args.disk.now).sectors c.args.plan.now c.requires.plan x (c.requires.reads c.args.plan.now.maker.key x told) c.requires.bitmap

pub returns-in_err-sync_and_grow-clause-refused : goal.returns-in_err-sync_and_grow-clause-refused
returns-in_err-sync_and_grow-clause-refused g c =
    let p = err_from_is_err_and c.from_residual-in_err-sync_and_grow.result c.from_residual-in_err-sync_and_grow.ensures.1 in
    rw (p.1, p.2) (λ not_memory not_disk x told. absurd (not_disk refl))

pub returns-in_err-sync_and_grow-clause-judged : goal.returns-in_err-sync_and_grow-clause-judged
returns-in_err-sync_and_grow-clause-judged g c x told fault has = absurd (none-some fault (sym (fault_unseen (g.D.Disk.identity c.args.disk.now).sectors c.args.plan.now c.requires.plan x c.requires.bitmap) ∙ has))

pub returns-in_err-sync_and_grow-clause-moments : goal.returns-in_err-sync_and_grow-clause-moments
returns-in_err-sync_and_grow-clause-moments g c x told opens = c.sync_and_grow.ensures.moments x told

pub returns-clause-resized : goal.returns-clause-resized
returns-clause-resized g c = c.in_ok-sync_and_grow.ensures.resized

pub returns-clause-refused : goal.returns-clause-refused
returns-clause-refused g c not_memory not_disk x told = sym (fault_unseen (g.D.Disk.identity c.args.disk.now).sectors c.args.plan.now c.requires.plan x c.requires.bitmap)

pub returns-clause-judged : goal.returns-clause-judged
returns-clause-judged g c x told fault has = absurd (none-some fault (sym (fault_unseen (g.D.Disk.identity c.args.disk.now).sectors c.args.plan.now c.requires.plan x c.requires.bitmap) ∙ has))

pub returns-clause-moments : goal.returns-clause-moments
returns-clause-moments g c x told opens = c.sync_and_grow.ensures.moments x told

pub returns-in_err-growth-clause-writes : goal.returns-in_err-growth-clause-writes
returns-in_err-growth-clause-writes g c x told opens = no_moment (g.D.Disk.moments c.args.disk.now) _

pub returns-in_err-sync_and_grow-clause-writes : goal.returns-in_err-sync_and_grow-clause-writes
returns-in_err-sync_and_grow-clause-writes g c x told opens = c.sync_and_grow.ensures.writes x told

pub returns-clause-writes : goal.returns-clause-writes
returns-clause-writes g c x told opens = c.sync_and_grow.ensures.writes x told
