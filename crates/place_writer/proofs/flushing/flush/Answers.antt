use Rattle.std.proofs.Common.{◌≡◌, List, sym, subst}
use Rattle.std.proofs.lemmas.Result.{on_ok_weaker}
use Rattle.disk_model.specs.Disk.{Content, newest_only}
use Rattle.disk_model.proofs.DiskLemmas.{synced_has_nothing_pending}
use Rattle.disk_model.proofs.MomentsLemmas.{EachMoment-kept, EachMoment-then, adds_then, sync_adds}
use Rattle.image_model.specs.Geometry.{Geometry}
use Rattle.buffer_cache.proofs.CachedLemmas.{changed_now, write_back_adds}
use Rattle.disk_model.specs.Moments.{EachSince, content_now}
use Rattle.direct_mode.specs.CallLaws.{GivesTags, ReadsTagsNow}
use Rattle.tag_store.specs.Store.{IsMarkedTags, given_tags}
use Rattle.tag_store.proofs.StoreLemmas.{marked_adds}
use Rattle.direct_mode.proofs.StoreCalls.{adds_back, gives_synced, reads_tags, reads_whole, writes_back}
use Rattle.place_writer.proofs.WritingLemmas.{back_in, gives_flushed, settled_in, sync_in, written_in}
use Rattle.place_writer.proofs.flushing.flush.Goals as goal

pub returns-in_err-write_back-clause-stands : goal.returns-in_err-write_back-clause-stands
returns-in_err-write_back-clause-stands g c d has =
    let store = c.args.tags.now in
    let disk = c.args.disk.now in
    back_in d store has
    (adds_back store c.write_back.new.self (g.D.Disk.identity disk) (g.D.Disk.identity c.write_back.new.disk) c.requires.store c.write_back.ensures.store
    (reads_whole (g.D.Disk.identity disk) (g.D.Disk.moments disk) (g.met.D.Disk.reads_an_image disk) (g.met.D.Disk.whole_sectors disk))
    c.write_back.ensures.moments)

pub returns-clause-stands : goal.returns-clause-stands
returns-clause-stands g c d has =
    let store = c.args.tags.now in
    let new = c.write_back.new.self in
    let disk = c.args.disk.now in
    let middle = c.write_back.new.disk in
    let writes = writes_back store new (g.D.Disk.identity disk) (g.D.Disk.identity middle) c.requires.store c.write_back.ensures.store
    (reads_whole (g.D.Disk.identity disk) (g.D.Disk.moments disk) (g.met.D.Disk.reads_an_image disk) (g.met.D.Disk.whole_sectors disk))
    c.write_back.ensures.keeps c.write_back.ensures.moments in
    EachMoment-then (back_in d store has writes.adds)
    (sync_in d new (written_in d store new has writes c.write_back.ensures.keeps.geometry) (g.met.D.Disk.reads_an_image middle) c.sync.ensures.moments)

pub returns-clause-settled : goal.returns-clause-settled
returns-clause-settled g c = on_ok_weaker c.sync.result (λ synced d has.
    let store = c.args.tags.now in
    let new = c.write_back.new.self in
    let disk = c.args.disk.now in
    let middle = c.write_back.new.disk in
    let whole = reads_whole (g.D.Disk.identity disk) (g.D.Disk.moments disk) (g.met.D.Disk.reads_an_image disk) (g.met.D.Disk.whole_sectors disk) in
    let whole_middle = reads_whole (g.D.Disk.identity middle) (g.D.Disk.moments middle) (g.met.D.Disk.reads_an_image middle) (g.met.D.Disk.whole_sectors middle) in
    let writes = writes_back store new (g.D.Disk.identity disk) (g.D.Disk.identity middle) c.requires.store c.write_back.ensures.store whole c.write_back.ensures.keeps c.write_back.ensures.moments in
    settled_in d new (written_in d store new has writes c.write_back.ensures.keeps.geometry) (g.met.D.Disk.reads_an_image middle)
    (subst (λ (y : Geometry). ReadsTagsNow y (given_tags new) (g.D.Disk.moments middle)) (sym c.write_back.ensures.keeps.geometry)
    (reads_tags store new (g.D.Disk.identity disk) (g.D.Disk.identity middle) c.requires.store c.write_back.ensures.store whole c.write_back.ensures.keeps c.in_ok-write_back.ensures.unmarked
    (λ x told. let first = changed_now _ (content_now (g.D.Disk.moments disk)) (content_now (g.D.Disk.moments middle)) c.in_ok-write_back.ensures.written x told in (first.0, first.1))))
    synced
    (gives_synced new (g.D.Disk.identity middle) (g.D.Disk.moments middle) (g.D.Disk.moments c.sync.new.self) c.write_back.ensures.store whole_middle synced)) c.sync.ensures.synced

pub returns-in_err-write_back-clause-moments : goal.returns-in_err-write_back-clause-moments
returns-in_err-write_back-clause-moments g c =
    marked_adds c.args.tags.now (g.D.Disk.identity c.args.disk.now) c.requires.store (write_back_adds c.args.tags.now.sectors c.write_back.ensures.moments)

pub returns-clause-moments : goal.returns-clause-moments
returns-clause-moments g c =
    let store = c.args.tags.now in
    adds_then (IsMarkedTags store) (marked_adds store (g.D.Disk.identity c.args.disk.now) c.requires.store (write_back_adds store.sectors c.write_back.ensures.moments))
    (sync_adds (IsMarkedTags store) (g.met.D.Disk.reads_an_image c.write_back.new.disk) c.sync.ensures.moments)

pub returns-clause-pending : goal.returns-clause-pending
returns-clause-pending g c =
    on_ok_weaker c.sync.result (λ synced. synced_has_nothing_pending (λ (x : Content). x) (content_now (g.D.Disk.moments c.write_back.new.disk)) (content_now (g.D.Disk.moments c.sync.new.self)) synced) c.sync.ensures.synced

pub returns-clause-tags : goal.returns-clause-tags
returns-clause-tags g c = on_ok_weaker c.sync.result (λ synced.
    let store = c.args.tags.now in
    let new = c.write_back.new.self in
    let disk = c.args.disk.now in
    let middle = c.write_back.new.disk in
    let whole = reads_whole (g.D.Disk.identity disk) (g.D.Disk.moments disk) (g.met.D.Disk.reads_an_image disk) (g.met.D.Disk.whole_sectors disk) in
    let whole_middle = reads_whole (g.D.Disk.identity middle) (g.D.Disk.moments middle) (g.met.D.Disk.reads_an_image middle) (g.met.D.Disk.whole_sectors middle) in
    let writes = writes_back store new (g.D.Disk.identity disk) (g.D.Disk.identity middle) c.requires.store c.write_back.ensures.store whole c.write_back.ensures.keeps c.write_back.ensures.moments in
    let last = g.D.Disk.moments c.sync.new.self in
    gives_flushed store.geometry (given_tags store) (given_tags new) (g.D.Disk.moments disk) (g.D.Disk.moments middle) last writes.gives synced
    (subst (λ (y : Geometry). GivesTags y (given_tags new) (given_tags new) (g.D.Disk.moments middle) last) c.write_back.ensures.keeps.geometry
    (gives_synced new (g.D.Disk.identity middle) (g.D.Disk.moments middle) last c.write_back.ensures.store whole_middle synced))) c.sync.ensures.synced

pub returns-in_err-write_back-clause-synced : goal.returns-in_err-write_back-clause-synced
returns-in_err-write_back-clause-synced g c none = EachMoment-kept _ (c.write_back.ensures.unwritten none)

pub returns-clause-synced : goal.returns-clause-synced
returns-clause-synced g c none =
    subst (λ (m : List Content). EachSince (λ start x. x ≡ newest_only start) m (g.D.Disk.moments c.sync.new.self)) (c.write_back.ensures.unwritten none) c.sync.ensures.moments
