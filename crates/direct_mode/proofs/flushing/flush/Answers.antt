use Rattle.std.proofs.Common.{sym, ◌∙◌, subst}
use Rattle.std.proofs.lemmas.Result.{on_ok_weaker}
use Rattle.disk_model.specs.Disk.{newest_only}
use Rattle.disk_model.specs.Moments.{content_now}
use Rattle.disk_model.proofs.MomentsLemmas.{adds_then, sync_adds}
use Rattle.image_model.specs.Geometry.{Geometry}
use Rattle.buffer_cache.specs.Cached.{written_back}
use Rattle.buffer_cache.proofs.CachedLemmas.{changed_now, write_back_adds}
use Rattle.tag_store.specs.Store.{IsMarkedTags, given_tags}
use Rattle.tag_store.proofs.StoreLemmas.{marked_adds}
use Rattle.direct_laws.specs.CallLaws.{GivesTags}
use Rattle.direct_laws.proofs.CallLemmas.{back_law}
use Rattle.direct_laws.proofs.ServeLemmas.{all_flushed_law, sync_failed_law}
use Rattle.direct_mode.specs.Settling.{Back, Syncing}
use Rattle.direct_mode.proofs.StoreCalls.{adds_back, changed_then, gives_synced, reads_tags, reads_whole, writes_back}
use Rattle.direct_mode.proofs.flushing.flush.Goals as goal

pub returns-in_err-write_back-clause-through : goal.returns-in_err-write_back-clause-through
returns-in_err-write_back-clause-through g c d awaiting has =
    let store = c.args.tags.now in
    let disk = c.args.disk.now in
    let middle = c.write_back.new.disk in
    back_law d store.geometry awaiting (given_tags store) _ _ has.geometry has.now
    (adds_back store c.write_back.new.self (g.D.Disk.identity disk) (g.D.Disk.identity middle) c.requires.store c.write_back.ensures.store
    (reads_whole (g.D.Disk.identity disk) (g.D.Disk.moments disk) (g.met.D.Disk.reads_an_image disk) (g.met.D.Disk.whole_sectors disk))
    c.write_back.ensures.moments)

pub returns-in_err-write_back-clause-moments : goal.returns-in_err-write_back-clause-moments
returns-in_err-write_back-clause-moments g c =
    marked_adds c.args.tags.now (g.D.Disk.identity c.args.disk.now) c.requires.store (write_back_adds c.args.tags.now.sectors c.write_back.ensures.moments)

pub returns-clause-through : goal.returns-clause-through
returns-clause-through g c d awaiting has =
    let store = c.args.tags.now in
    let disk = c.args.disk.now in
    let middle = c.write_back.new.disk in
    sync_failed_law d store.geometry awaiting (given_tags store) (given_tags c.write_back.new.self) _ _ _ has.geometry has.now
    (writes_back store c.write_back.new.self (g.D.Disk.identity disk) (g.D.Disk.identity middle) c.requires.store c.write_back.ensures.store
    (reads_whole (g.D.Disk.identity disk) (g.D.Disk.moments disk) (g.met.D.Disk.reads_an_image disk) (g.met.D.Disk.whole_sectors disk))
    c.write_back.ensures.keeps c.write_back.ensures.moments)
    (g.met.D.Disk.reads_an_image middle) c.sync.ensures.moments

pub returns-clause-moments : goal.returns-clause-moments
returns-clause-moments g c =
    let store = c.args.tags.now in
    adds_then (IsMarkedTags store) (marked_adds store (g.D.Disk.identity c.args.disk.now) c.requires.store (write_back_adds store.sectors c.write_back.ensures.moments))
    (sync_adds (IsMarkedTags store) (g.met.D.Disk.reads_an_image c.write_back.new.disk) c.sync.ensures.moments)

pub returns-clause-synced : goal.returns-clause-synced
returns-clause-synced g c = on_ok_weaker c.sync.result (λ synced.
    changed_then (written_back c.args.tags.now.sectors) newest_only (content_now (g.D.Disk.moments c.args.disk.now)) (content_now (g.D.Disk.moments c.write_back.new.disk)) (content_now (g.D.Disk.moments c.sync.new.self))
    c.in_ok-write_back.ensures.written synced) c.sync.ensures.synced

pub returns-clause-unmarked : goal.returns-clause-unmarked
returns-clause-unmarked g c = on_ok_weaker c.sync.result (λ synced. record { none = c.in_ok-write_back.ensures.unmarked.unmarked }) c.sync.ensures.synced

pub returns-clause-flushed : goal.returns-clause-flushed
returns-clause-flushed g c = on_ok_weaker c.sync.result (λ synced d awaiting has.
    let store = c.args.tags.now in
    let new = c.write_back.new.self in
    let disk = c.args.disk.now in
    let middle = c.write_back.new.disk in
    let whole = reads_whole (g.D.Disk.identity disk) (g.D.Disk.moments disk) (g.met.D.Disk.reads_an_image disk) (g.met.D.Disk.whole_sectors disk) in
    let whole_middle = reads_whole (g.D.Disk.identity middle) (g.D.Disk.moments middle) (g.met.D.Disk.reads_an_image middle) (g.met.D.Disk.whole_sectors middle) in
    record {
      geometry = has.geometry ∙ sym c.write_back.ensures.keeps.geometry;
      now = (all_flushed_law d store.geometry awaiting (given_tags store) (given_tags new) (given_tags new) _ _ _ has.geometry has.now
          (writes_back store new (g.D.Disk.identity disk) (g.D.Disk.identity middle) c.requires.store c.write_back.ensures.store whole c.write_back.ensures.keeps c.write_back.ensures.moments)
          (reads_tags store new (g.D.Disk.identity disk) (g.D.Disk.identity middle) c.requires.store c.write_back.ensures.store whole c.write_back.ensures.keeps c.in_ok-write_back.ensures.unmarked
          (λ x told. let first = changed_now _ (content_now (g.D.Disk.moments disk)) (content_now (g.D.Disk.moments middle)) c.in_ok-write_back.ensures.written x told in (first.0, first.1)))
          (record {
            image = g.met.D.Disk.reads_an_image middle;
            synced = synced;
            adds = c.sync.ensures.moments;
            gives = subst (λ (y : Geometry). GivesTags y (given_tags new) (given_tags new) (g.D.Disk.moments middle) (g.D.Disk.moments c.sync.new.self)) c.write_back.ensures.keeps.geometry
                (gives_synced new (g.D.Disk.identity middle) (g.D.Disk.moments middle) (g.D.Disk.moments c.sync.new.self) c.write_back.ensures.store whole_middle synced);
          })).1;
    }) c.sync.ensures.synced

pub returns-in_err-write_back-clause-settling : goal.returns-in_err-write_back-clause-settling
returns-in_err-write_back-clause-settling g c =
    let store = c.args.tags.now in
    let disk = c.args.disk.now in
    let middle = c.write_back.new.disk in
    Back
    (adds_back store c.write_back.new.self (g.D.Disk.identity disk) (g.D.Disk.identity middle) c.requires.store c.write_back.ensures.store
    (reads_whole (g.D.Disk.identity disk) (g.D.Disk.moments disk) (g.met.D.Disk.reads_an_image disk) (g.met.D.Disk.whole_sectors disk))
    c.write_back.ensures.moments)

pub returns-clause-settling : goal.returns-clause-settling
returns-clause-settling g c =
    let store = c.args.tags.now in
    let new = c.write_back.new.self in
    let disk = c.args.disk.now in
    let middle = c.write_back.new.disk in
    let whole = reads_whole (g.D.Disk.identity disk) (g.D.Disk.moments disk) (g.met.D.Disk.reads_an_image disk) (g.met.D.Disk.whole_sectors disk) in
    Syncing (given_tags new) (g.D.Disk.moments middle)
    (writes_back store new (g.D.Disk.identity disk) (g.D.Disk.identity middle) c.requires.store c.write_back.ensures.store whole c.write_back.ensures.keeps c.write_back.ensures.moments)
    (reads_tags store new (g.D.Disk.identity disk) (g.D.Disk.identity middle) c.requires.store c.write_back.ensures.store whole c.write_back.ensures.keeps c.in_ok-write_back.ensures.unmarked
    (λ x told. let first = changed_now _ (content_now (g.D.Disk.moments disk)) (content_now (g.D.Disk.moments middle)) c.in_ok-write_back.ensures.written x told in (first.0, first.1)))
    (g.met.D.Disk.reads_an_image middle) c.sync.ensures.moments

pub returns-clause-settled : goal.returns-clause-settled
returns-clause-settled g c = on_ok_weaker c.sync.result (λ synced.
    let store = c.args.tags.now in
    let new = c.write_back.new.self in
    let disk = c.args.disk.now in
    let middle = c.write_back.new.disk in
    let whole = reads_whole (g.D.Disk.identity disk) (g.D.Disk.moments disk) (g.met.D.Disk.reads_an_image disk) (g.met.D.Disk.whole_sectors disk) in
    let whole_middle = reads_whole (g.D.Disk.identity middle) (g.D.Disk.moments middle) (g.met.D.Disk.reads_an_image middle) (g.met.D.Disk.whole_sectors middle) in
    record {
      back = given_tags new;
      between = g.D.Disk.moments middle;
      writes_back = writes_back store new (g.D.Disk.identity disk) (g.D.Disk.identity middle) c.requires.store c.write_back.ensures.store whole c.write_back.ensures.keeps c.write_back.ensures.moments;
      reads_back = reads_tags store new (g.D.Disk.identity disk) (g.D.Disk.identity middle) c.requires.store c.write_back.ensures.store whole c.write_back.ensures.keeps c.in_ok-write_back.ensures.unmarked
          (λ x told. let first = changed_now _ (content_now (g.D.Disk.moments disk)) (content_now (g.D.Disk.moments middle)) c.in_ok-write_back.ensures.written x told in (first.0, first.1));
      syncs = record {
        image = g.met.D.Disk.reads_an_image middle;
        synced = synced;
        adds = c.sync.ensures.moments;
        gives = subst (λ (y : Geometry). GivesTags y (given_tags new) (given_tags new) (g.D.Disk.moments middle) (g.D.Disk.moments c.sync.new.self)) c.write_back.ensures.keeps.geometry
            (gives_synced new (g.D.Disk.identity middle) (g.D.Disk.moments middle) (g.D.Disk.moments c.sync.new.self) c.write_back.ensures.store whole_middle synced);
      };
    }) c.sync.ensures.synced
