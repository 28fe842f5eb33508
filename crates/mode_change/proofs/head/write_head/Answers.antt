use Rattle.std.proofs.Common.{rules, ◌≡◌, subst, List, length}
use Rattle.disk_model.specs.Disk.{AddsSome, Content}
use Rattle.disk_model.specs.Moments.{EachSince}
use Rattle.disk_model.proofs.MomentsLemmas.{adds_then, sync_adds, write_adds}
use Rattle.change_model.specs.Change.{IsOfHead}
use Rattle.mode_change.proofs.StepLemmas.{head_run, head_told}
use Rattle.mode_change.proofs.head.write_head.Goals as goal

pub returns-in_err-write_run-clause-moments : goal.returns-in_err-write_run-clause-moments
returns-in_err-write_run-clause-moments g c =
    let head = c.in_ok-head.head in
    let size : length head ≡ 512 = search rules in
    let written = subst (λ (x : List Content). EachSince (AddsSome 0 head) x (g.D.Disk.moments c.write_run.new.self)) c.head_with.ensures.kept c.write_run.ensures.moments in
    head_told c.args.fields.now head c.in_ok-head.ensures.head (write_adds (IsOfHead head) 0 head written (head_run head size))

pub returns-clause-moments : goal.returns-clause-moments
returns-clause-moments g c =
    let head = c.in_ok-head.head in
    let size : length head ≡ 512 = search rules in
    let written = subst (λ (x : List Content). EachSince (AddsSome 0 head) x (g.D.Disk.moments c.write_run.new.self)) c.head_with.ensures.kept c.write_run.ensures.moments in
    head_told c.args.fields.now head c.in_ok-head.ensures.head
    (adds_then (IsOfHead head) (write_adds (IsOfHead head) 0 head written (head_run head size))
    (sync_adds (IsOfHead head) (g.met.D.Disk.reads_an_image c.write_run.new.self) c.sync.ensures.moments))
