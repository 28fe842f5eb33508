use Rattle.std.proofs.Common.{◌≡◌, ℕ, List, ap, subst, ◌∙◌}
use Rattle.disk_model.specs.Disk.{IsOfRun, OnlyAdds}
use Rattle.disk_model.specs.Moments.{EachSince}
use Rattle.disk_model.proofs.MomentsLemmas.{write_adds, sync_adds, adds_then}
use Rattle.journal_ring.specs.Runs.{batch_in, Sections}
use Rattle.journal_ring.proofs.committing.write_batch.Goals as goal

pub returns-in_err-write_run-clause-moments : goal.returns-in_err-write_run-clause-moments
returns-in_err-write_run-clause-moments g c =
    let bytes : c.batch.result.now ≡ batch_in c.args.pool.now c.args.from c.args.count = c.batch.ensures ∙ ap (λ (x : Sections). batch_in x c.args.from c.args.count) c.join.ensures in
    subst (λ (xs : List ℕ). EachSince (OnlyAdds (IsOfRun c.args.at xs)) (g.D.Disk.moments c.args.disk.now) (g.D.Disk.moments c.write_run.new.self)) bytes
    (write_adds (IsOfRun c.args.at c.batch.result.now) c.args.at c.batch.result.now c.write_run.ensures.moments (λ s x of. of))

pub returns-clause-moments : goal.returns-clause-moments
returns-clause-moments g c =
    let bytes : c.batch.result.now ≡ batch_in c.args.pool.now c.args.from c.args.count = c.batch.ensures ∙ ap (λ (x : Sections). batch_in x c.args.from c.args.count) c.join.ensures in
    let W = IsOfRun c.args.at c.batch.result.now in
    subst (λ (xs : List ℕ). EachSince (OnlyAdds (IsOfRun c.args.at xs)) (g.D.Disk.moments c.args.disk.now) (g.D.Disk.moments c.sync.new.self)) bytes
    (adds_then W (write_adds W c.args.at c.batch.result.now c.write_run.ensures.moments (λ s x of. of))
    (sync_adds W (g.met.D.Disk.reads_an_image c.write_run.new.self) c.sync.ensures.moments))
