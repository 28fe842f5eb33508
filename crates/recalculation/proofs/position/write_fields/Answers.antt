use Rattle.std.proofs.Common.{rules, ◌≡◌, subst, List, length}
use Rattle.std.proofs.lemmas.Result.{on_ok_weaker}
use Rattle.disk_model.specs.Disk.{AddsSome, Content, with_run}
use Rattle.disk_model.specs.Identity.{DiskIdentity}
use Rattle.disk_model.specs.Moments.{EachSince, IsChangedBy}
use Rattle.disk_model.proofs.MomentsLemmas.{adds_then, sync_adds}
use Rattle.direct_mode.proofs.StoreCalls.{ReadsWhole, gives_synced, reads_whole}
use Rattle.recalculation.specs.Position.{Syncing, Writing}
use Rattle.recalculation.proofs.HeadLemmas.{gives_written, head_adds, store_synced, store_written}
use Rattle.recalculation.proofs.position.write_fields.Goals as goal

pub returns-in_err-write_run-clause-store : goal.returns-in_err-write_run-clause-store
returns-in_err-write_run-clause-store g c =
    let disk = c.args.disk.now in
    let head = c.in_ok-head.head in
    let size : length head ≡ 512 = search rules in
    let m : EachSince (AddsSome 0 head) (g.D.Disk.moments disk) (g.D.Disk.moments c.write_run.new.self) = subst (λ (x : List Content). EachSince (AddsSome 0 head) x (g.D.Disk.moments c.write_run.new.self)) c.head_with.ensures.kept c.write_run.ensures.moments in
    store_written c.args.tags.now (g.D.Disk.identity disk) (g.D.Disk.identity c.write_run.new.self) head c.requires.store (search rules) size m

pub returns-in_err-write_run-clause-through : goal.returns-in_err-write_run-clause-through
returns-in_err-write_run-clause-through g c =
    let disk = c.args.disk.now in
    let head = c.in_ok-head.head in
    Writing head c.in_ok-head.ensures.head
    (subst (λ (x : List Content). EachSince (AddsSome 0 head) x (g.D.Disk.moments c.write_run.new.self)) c.head_with.ensures.kept c.write_run.ensures.moments)

pub returns-in_err-write_run-clause-writes : goal.returns-in_err-write_run-clause-writes
returns-in_err-write_run-clause-writes g c =
    let disk = c.args.disk.now in
    let head = c.in_ok-head.head in
    let size : length head ≡ 512 = search rules in
    let m : EachSince (AddsSome 0 head) (g.D.Disk.moments disk) (g.D.Disk.moments c.write_run.new.self) = subst (λ (x : List Content). EachSince (AddsSome 0 head) x (g.D.Disk.moments c.write_run.new.self)) c.head_with.ensures.kept c.write_run.ensures.moments in
    head_adds c.args.tags.now (g.D.Disk.identity disk) (g.D.Disk.identity c.write_run.new.self) head c.requires.store (search rules) size m

pub returns-clause-written : goal.returns-clause-written
returns-clause-written g c = on_ok_weaker c.sync.result (λ synced.
    let store = c.args.tags.now in
    let disk = c.args.disk.now in
    let middle = c.write_run.new.self in
    let last = c.sync.new.self in
    let head = c.in_ok-head.head in
    let size : length head ≡ 512 = search rules in
    let there : g.D.Disk.identity middle ≡ g.D.Disk.identity disk = search rules in
    let m : EachSince (AddsSome 0 head) (g.D.Disk.moments disk) (g.D.Disk.moments middle) = subst (λ (x : List Content). EachSince (AddsSome 0 head) x (g.D.Disk.moments middle)) c.head_with.ensures.kept c.write_run.ensures.moments in
    let whole = reads_whole (g.D.Disk.identity disk) (g.D.Disk.moments disk) (g.met.D.Disk.reads_an_image disk) (g.met.D.Disk.whole_sectors disk) in
    let whole_middle = reads_whole (g.D.Disk.identity middle) (g.D.Disk.moments middle) (g.met.D.Disk.reads_an_image middle) (g.met.D.Disk.whole_sectors middle) in
    let is_middle = store_written store (g.D.Disk.identity disk) (g.D.Disk.identity middle) head c.requires.store there size m in
    record {
      head = head;
      between = g.D.Disk.moments middle;
      is_head = c.in_ok-head.ensures.head;
      writes = record {
        written = subst (λ (x : List Content). IsChangedBy (with_run 0 head) x (g.D.Disk.moments middle)) c.head_with.ensures.kept c.in_ok-write_run.ensures.written;
        adds = m;
        gives = gives_written store (g.D.Disk.identity disk) (g.D.Disk.identity middle) head c.requires.store there size m whole
            (subst (λ (i : DiskIdentity). ReadsWhole i (g.D.Disk.moments middle)) there whole_middle);
      };
      syncs = record {
        image = g.met.D.Disk.reads_an_image middle;
        synced = synced;
        adds = c.sync.ensures.moments;
        gives = gives_synced store (g.D.Disk.identity middle) (g.D.Disk.moments middle) (g.D.Disk.moments last) is_middle whole_middle synced;
      };
    }) c.sync.ensures.synced

pub returns-clause-store : goal.returns-clause-store
returns-clause-store g c =
    let store = c.args.tags.now in
    let disk = c.args.disk.now in
    let middle = c.write_run.new.self in
    let last = c.sync.new.self in
    let head = c.in_ok-head.head in
    let size : length head ≡ 512 = search rules in
    let m : EachSince (AddsSome 0 head) (g.D.Disk.moments disk) (g.D.Disk.moments middle) = subst (λ (x : List Content). EachSince (AddsSome 0 head) x (g.D.Disk.moments middle)) c.head_with.ensures.kept c.write_run.ensures.moments in
    store_synced c.sync.result store (g.D.Disk.identity last) (g.D.Disk.moments middle) (g.D.Disk.moments last)
    (store_written store (g.D.Disk.identity disk) (g.D.Disk.identity last) head c.requires.store (search rules) size m) c.sync.ensures.synced c.sync.ensures.err

pub returns-clause-through : goal.returns-clause-through
returns-clause-through g c =
    let disk = c.args.disk.now in
    let middle = c.write_run.new.self in
    let head = c.in_ok-head.head in
    Syncing head (g.D.Disk.moments middle) c.in_ok-head.ensures.head
    (subst (λ (x : List Content). IsChangedBy (with_run 0 head) x (g.D.Disk.moments middle)) c.head_with.ensures.kept c.in_ok-write_run.ensures.written)
    (subst (λ (x : List Content). EachSince (AddsSome 0 head) x (g.D.Disk.moments middle)) c.head_with.ensures.kept c.write_run.ensures.moments)
    c.sync.ensures.moments

pub returns-clause-writes : goal.returns-clause-writes
returns-clause-writes g c =
    let disk = c.args.disk.now in
    let middle = c.write_run.new.self in
    let head = c.in_ok-head.head in
    let size : length head ≡ 512 = search rules in
    let m : EachSince (AddsSome 0 head) (g.D.Disk.moments disk) (g.D.Disk.moments middle) = subst (λ (x : List Content). EachSince (AddsSome 0 head) x (g.D.Disk.moments middle)) c.head_with.ensures.kept c.write_run.ensures.moments in
    adds_then (λ s x. s ≡ 0)
    (head_adds c.args.tags.now (g.D.Disk.identity disk) (g.D.Disk.identity middle) head c.requires.store (search rules) size m)
    (sync_adds (λ s x. s ≡ 0) (g.met.D.Disk.reads_an_image middle) c.sync.ensures.moments)
