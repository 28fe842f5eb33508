use Rattle.std.proofs.Common.{rules, ◌≡◌, subst, ap, arith, refl, List, length}
use Rattle.std.proofs.lemmas.Result.{on_ok_weaker}
use Rattle.disk_model.specs.Disk.{AddsSome, Content, with_run}
use Rattle.disk_model.specs.Identity.{DiskIdentity}
use Rattle.disk_model.specs.Moments.{EachSince, IsChangedBy}
use Rattle.disk_model.proofs.MomentsLemmas.{EachMoment-kept, EachMoment-then}
use Rattle.image_resizing.proofs.GrownLemmas.{head_cuts, head_founds, head_sync_cuts}
use Rattle.image_resizing.proofs.PlanLemmas.{plan_sectors}
use Rattle.image_resizing.proofs.WritingLemmas.{syncs_head, writes_head}
use Rattle.image_resizing.proofs.founding.found.Goals as goal

pub read_run-requires-clause-run : goal.read_run-requires-clause-run
read_run-requires-clause-run g c =
    let some = plan_sectors (g.D.Disk.identity c.args.disk.now).sectors c.args.plan.now c.requires.plan in
    record { whole = refl; some = omega arith; inside = omega (arith, some) }

pub returns-in_err-read_run-clause-moments : goal.returns-in_err-read_run-clause-moments
returns-in_err-read_run-clause-moments g c image prepared = EachMoment-kept _ c.read_run.ensures.kept

pub write_run-requires-clause-run : goal.write_run-requires-clause-run
write_run-requires-clause-run g c =
    let some = plan_sectors (g.D.Disk.identity c.args.disk.now).sectors c.args.plan.now c.requires.plan in
    let size : length c.write.new.bytes ≡ 512 = search rules in
    let same = ap (λ (d : DiskIdentity). d.sectors) c.read_run.ensures.identity in
    record { whole = omega (arith, size); some = omega (arith, size); inside = omega (arith, size, same, some) }

pub returns-in_err-write_run-clause-moments : goal.returns-in_err-write_run-clause-moments
returns-in_err-write_run-clause-moments g c image prepared =
    let disk = c.args.disk.now in
    let plan = c.args.plan.now in
    let sectors = (g.D.Disk.identity disk).sectors in
    let head = c.write.new.bytes in
    let size : length head ≡ 512 = search rules in
    let m : EachSince (AddsSome 0 head) (g.D.Disk.moments c.args.disk.now) (g.D.Disk.moments c.write_run.new.self) = subst (λ (x : List Content). EachSince (AddsSome 0 head) x (g.D.Disk.moments c.write_run.new.self)) c.read_run.ensures.kept c.write_run.ensures.moments in
    head_cuts sectors plan c.requires.plan image head (g.D.Disk.moments c.args.disk.now) prepared (g.met.D.Disk.reads_an_image disk) size c.write.ensures.read_back (g.D.Disk.moments c.write_run.new.self) m

pub returns-clause-founded : goal.returns-clause-founded
returns-clause-founded g c =
    let disk = c.args.disk.now in
    let plan = c.args.plan.now in
    let sectors = (g.D.Disk.identity disk).sectors in
    let head = c.write.new.bytes in
    let size : length head ≡ 512 = search rules in
    let written : IsChangedBy (with_run 0 head) (g.D.Disk.moments c.args.disk.now) (g.D.Disk.moments c.write_run.new.self) = subst (λ (x : List Content). IsChangedBy (with_run 0 head) x (g.D.Disk.moments c.write_run.new.self)) c.read_run.ensures.kept c.in_ok-write_run.ensures.written in
    on_ok_weaker c.sync.result (λ synced image prepared. head_founds sectors plan c.requires.plan image head (g.D.Disk.moments c.args.disk.now) prepared (g.met.D.Disk.reads_an_image disk) size c.write.ensures.read_back (g.D.Disk.moments c.write_run.new.self) (g.D.Disk.moments c.sync.new.self) written synced) c.sync.ensures.synced

pub returns-clause-moments : goal.returns-clause-moments
returns-clause-moments g c image prepared =
    let disk = c.args.disk.now in
    let plan = c.args.plan.now in
    let sectors = (g.D.Disk.identity disk).sectors in
    let head = c.write.new.bytes in
    let size : length head ≡ 512 = search rules in
    let m : EachSince (AddsSome 0 head) (g.D.Disk.moments c.args.disk.now) (g.D.Disk.moments c.write_run.new.self) = subst (λ (x : List Content). EachSince (AddsSome 0 head) x (g.D.Disk.moments c.write_run.new.self)) c.read_run.ensures.kept c.write_run.ensures.moments in
    let written : IsChangedBy (with_run 0 head) (g.D.Disk.moments c.args.disk.now) (g.D.Disk.moments c.write_run.new.self) = subst (λ (x : List Content). IsChangedBy (with_run 0 head) x (g.D.Disk.moments c.write_run.new.self)) c.read_run.ensures.kept c.in_ok-write_run.ensures.written in
    EachMoment-then
    (head_cuts sectors plan c.requires.plan image head (g.D.Disk.moments c.args.disk.now) prepared (g.met.D.Disk.reads_an_image disk) size c.write.ensures.read_back (g.D.Disk.moments c.write_run.new.self) m)
    (head_sync_cuts sectors plan c.requires.plan image head (g.D.Disk.moments c.args.disk.now) prepared (g.met.D.Disk.reads_an_image disk) size c.write.ensures.read_back (g.D.Disk.moments c.write_run.new.self) (g.D.Disk.moments c.sync.new.self) written c.sync.ensures.moments)

pub returns-in_err-read_run-clause-writes : goal.returns-in_err-read_run-clause-writes
returns-in_err-read_run-clause-writes g c x told = EachMoment-kept _ c.read_run.ensures.kept

pub returns-in_err-write_run-clause-writes : goal.returns-in_err-write_run-clause-writes
returns-in_err-write_run-clause-writes g c x told =
    let plan = c.args.plan.now in
    let head = c.write.new.bytes in
    let size : length head ≡ 512 = search rules in
    let old = c.read_run.new.buffer in
    let old_size : length old ≡ 512 = search rules in
    let m : EachSince (AddsSome 0 head) (g.D.Disk.moments c.args.disk.now) (g.D.Disk.moments c.write_run.new.self) = subst (λ (y : List Content). EachSince (AddsSome 0 head) y (g.D.Disk.moments c.write_run.new.self)) c.read_run.ensures.kept c.write_run.ensures.moments in
    writes_head plan x old head (c.in_ok-read_run.ensures.read x told) old_size size c.write.ensures.written (g.D.Disk.moments c.args.disk.now) (g.D.Disk.moments c.write_run.new.self) told m

pub returns-clause-writes : goal.returns-clause-writes
returns-clause-writes g c x told =
    let plan = c.args.plan.now in
    let head = c.write.new.bytes in
    let size : length head ≡ 512 = search rules in
    let old = c.read_run.new.buffer in
    let old_size : length old ≡ 512 = search rules in
    let m : EachSince (AddsSome 0 head) (g.D.Disk.moments c.args.disk.now) (g.D.Disk.moments c.write_run.new.self) = subst (λ (y : List Content). EachSince (AddsSome 0 head) y (g.D.Disk.moments c.write_run.new.self)) c.read_run.ensures.kept c.write_run.ensures.moments in
    let written : IsChangedBy (with_run 0 head) (g.D.Disk.moments c.args.disk.now) (g.D.Disk.moments c.write_run.new.self) = subst (λ (y : List Content). IsChangedBy (with_run 0 head) y (g.D.Disk.moments c.write_run.new.self)) c.read_run.ensures.kept c.in_ok-write_run.ensures.written in
    EachMoment-then
    (writes_head plan x old head (c.in_ok-read_run.ensures.read x told) old_size size c.write.ensures.written (g.D.Disk.moments c.args.disk.now) (g.D.Disk.moments c.write_run.new.self) told m)
    (syncs_head plan x old head (c.in_ok-read_run.ensures.read x told) old_size size c.write.ensures.written (g.D.Disk.moments c.args.disk.now) (g.D.Disk.moments c.write_run.new.self) (g.D.Disk.moments c.sync.new.self) told written (g.met.D.Disk.reads_an_image c.write_run.new.self) c.sync.ensures.moments)
