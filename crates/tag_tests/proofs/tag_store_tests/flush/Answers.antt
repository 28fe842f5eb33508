use Rattle.std.proofs.Common.{sym, subst}
use Rattle.std.proofs.lemmas.Result.{on_ok_weaker}
use Rattle.disk_model.specs.Identity.{DiskIdentity}
use Rattle.tag_store.specs.Store.{IsStore}
use Rattle.tag_store.proofs.StoreLawsLemmas.{synced_law}
use Rattle.tag_tests.proofs.tag_store_tests.flush.Goals as goal

pub returns-clause-store : goal.returns-clause-store
returns-clause-store g c =
    let store = c.write_back.new.self in
    let middle = c.write_back.new.disk in
    on_ok_weaker c.sync.result (λ synced.
    subst (λ (i : DiskIdentity). IsStore store i (g.D.Disk.moments c.sync.new.self)) (sym c.sync.ensures.identity)
    (synced_law store (g.D.Disk.identity middle) (g.D.Disk.moments middle) (g.D.Disk.moments c.sync.new.self) c.write_back.ensures.store synced))
    c.sync.ensures.synced
