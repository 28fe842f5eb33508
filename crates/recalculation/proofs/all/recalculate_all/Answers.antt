use Rattle.std.proofs.Common.{sym, ◌∙◌, subst}
use Rattle.std.proofs.lemmas.Bool.{true≢false}
use Rattle.std.proofs.lemmas.Result.{on_ok_weaker}
use Rattle.disk_model.specs.Disk.{OnlyAdds}
use Rattle.disk_model.specs.Moments.{EachSince, IsChangedBy, content_now}
use Rattle.disk_model.proofs.MomentsLemmas.{EachMoment-then, adds_then, content_at_end}
use Rattle.image_model.specs.Geometry.{Geometry}
use Rattle.change_model.specs.PhaseLaws.{no_region}
use Rattle.direct_laws.specs.CallLaws.{ReadsTagsNow}
use Rattle.buffer_cache.specs.Cached.{HasNoMark, IsWrittenBack, written_back}
use Rattle.buffer_cache.proofs.CachedLemmas.{changed_now, write_back_adds}
use Rattle.direct_mode.proofs.ServingLemmas.{on_err_always}
use Rattle.direct_mode.proofs.StoreCalls.{adds_back, reads_tags, reads_whole, writes_back}
use Rattle.tag_store.specs.Store.{Store, given_tags}
use Rattle.tag_store.proofs.StoreLemmas.{marked_adds}
use Rattle.recalculation.specs.All.{IsOfTagsOnly}
use Rattle.recalculation.specs.AllWithBitmap.{recalculated_disk}
use Rattle.recalculation.proofs.AllLemmas.{back_keeps, back_rest, back_stands, on_ok_both, only_marked}
use Rattle.recalculation.proofs.AllWithBitmapLemmas.{bitmap_back_keeps, bitmap_recalculated_stands}
use Rattle.recalculation.proofs.RestLemmas.{KeepsRest-then}
use Rattle.recalculation.proofs.all.recalculate_all.Goals as goal

pub returns-clause-taken : goal.returns-clause-taken
returns-clause-taken g c = on_ok_weaker c.write_back.result (λ written.
    let store = c.take_all.new.tags in
    let new = c.write_back.new.self in
    let disk = c.take_all.new.disk in
    let after = c.write_back.new.disk in
    let taken = c.in_ok-take_all.ensures.taken in
    let places = c.take_all.ensures.stays.places ∙ c.requires.same in
    let whole = reads_whole (g.D.Disk.identity disk) (g.D.Disk.moments disk) (g.met.D.Disk.reads_an_image disk) (g.met.D.Disk.whole_sectors disk) in
    let back = writes_back store new (g.D.Disk.identity disk) (g.D.Disk.identity after) c.take_all.ensures.stays.store_ c.write_back.ensures.store whole c.write_back.ensures.keeps c.write_back.ensures.moments in
    record {
      none = taken.none;
      journal = λ d awaiting on keeps.
          back_keeps d no_region store.geometry (places ∙ on.geometry) (given_tags store) (g.D.Disk.moments disk) (g.D.Disk.moments after) (taken.journal d awaiting on keeps) (given_tags new) back;
      bitmap = λ d entry on keeps.
          bitmap_back_keeps (recalculated_disk d) entry store.geometry (given_tags store) (given_tags new) (g.D.Disk.moments disk) (g.D.Disk.moments after) (places ∙ on.geometry) (taken.bitmap d entry on keeps) back;
    })
    c.write_back.ensures.written

pub returns-clause-back : goal.returns-clause-back
returns-clause-back g c =
    let store = c.take_all.new.tags in
    let new = c.write_back.new.self in
    let disk = c.take_all.new.disk in
    let after = c.write_back.new.disk in
    let whole = reads_whole (g.D.Disk.identity disk) (g.D.Disk.moments disk) (g.met.D.Disk.reads_an_image disk) (g.met.D.Disk.whole_sectors disk) in
    let Written = IsChangedBy (written_back store.sectors) (g.D.Disk.moments disk) (g.D.Disk.moments after) in
    let Unmarked = IsWrittenBack store.sectors new.sectors (g.D.Disk.moments disk) (g.D.Disk.moments after) in
    on_ok_weaker c.write_back.result (λ both.
    subst (λ (x : Geometry). ReadsTagsNow x (given_tags new) (g.D.Disk.moments after)) (c.take_all.ensures.stays.places ∙ c.requires.same)
    (reads_tags store new (g.D.Disk.identity disk) (g.D.Disk.identity after) c.take_all.ensures.stays.store_ c.write_back.ensures.store whole c.write_back.ensures.keeps both.1
    (λ x told. let first = changed_now (written_back store.sectors) (content_now (g.D.Disk.moments disk)) (content_now (g.D.Disk.moments after)) both.0 x told in (first.0, first.1))))
    (on_ok_both Written Unmarked c.write_back.result c.write_back.ensures.written c.write_back.ensures.unmarked)

pub returns-clause-unmarked : goal.returns-clause-unmarked
returns-clause-unmarked g c = on_ok_weaker c.write_back.result (λ back. record { none = back.unmarked }) c.write_back.ensures.unmarked

pub returns-clause-idle : goal.returns-clause-idle
returns-clause-idle g c none unmarked =
    let still = c.take_all.ensures.idle none in
    c.write_back.ensures.unwritten (subst (λ (s : Store). HasNoMark s.sectors) (sym still.1) unmarked) ∙ still.0

pub returns-clause-err : goal.returns-clause-err
returns-clause-err g c = on_err_always c.write_back.result (record { each = λ r low waits. absurd (true≢false (sym waits ∙ c.in_ok-take_all.ensures.taken.none r low)) })

pub returns-clause-stays : goal.returns-clause-stays
returns-clause-stays g c =
    let disk = c.take_all.new.disk in
    let after = c.write_back.new.disk in
    let taken = c.take_all.ensures.stays in
    record {
      geometry = taken.geometry;
      first = taken.first;
      store_ = c.write_back.ensures.store;
      places = c.write_back.ensures.keeps.geometry ∙ taken.places;
      rest = KeepsRest-then c.args.tags.now c.take_all.new.tags c.write_back.new.self (g.D.Disk.moments c.args.disk.now) (g.D.Disk.moments disk) (g.D.Disk.moments after) taken.rest
          (back_rest c.take_all.new.tags c.write_back.new.self (g.D.Disk.moments disk) (g.D.Disk.moments after) c.write_back.ensures.keeps (write_back_adds c.take_all.new.tags.sectors c.write_back.ensures.moments));
      identity = c.write_back.ensures.identity ∙ taken.identity;
    }

pub returns-clause-through : goal.returns-clause-through
returns-clause-through g c =
    let store = c.take_all.new.tags in
    let disk = c.take_all.new.disk in
    let after = c.write_back.new.disk in
    let taken = c.in_ok-take_all.ensures.taken in
    let through = c.take_all.ensures.through in
    let places = c.take_all.ensures.stays.places ∙ c.requires.same in
    let whole = reads_whole (g.D.Disk.identity disk) (g.D.Disk.moments disk) (g.met.D.Disk.reads_an_image disk) (g.met.D.Disk.whole_sectors disk) in
    let adds = adds_back store c.write_back.new.self (g.D.Disk.identity disk) (g.D.Disk.identity after) c.take_all.ensures.stays.store_ c.write_back.ensures.store whole c.write_back.ensures.moments in
    record {
      journal = λ d awaiting on keeps.
          EachMoment-then (through.journal d awaiting on keeps)
          (back_stands d no_region store.geometry (places ∙ on.geometry) (given_tags store) (g.D.Disk.moments disk) (g.D.Disk.moments after) (taken.journal d awaiting on keeps) adds);
      bitmap = λ d entry on keeps.
          let first = through.bitmap d entry on keeps in
          EachMoment-then first
          (bitmap_recalculated_stands d entry store.geometry (given_tags store) (g.D.Disk.moments disk) (g.D.Disk.moments after) (places ∙ on.geometry) (taken.bitmap d entry on keeps)
          (content_at_end first (λ x told. (keeps x told).is)) adds);
    }

pub returns-clause-moments : goal.returns-clause-moments
returns-clause-moments g c =
    let store = c.take_all.new.tags in
    let disk = c.take_all.new.disk in
    let after = c.write_back.new.disk in
    adds_then (IsOfTagsOnly c.args.awaiting.now.geometry) c.take_all.ensures.moments
    (subst (λ (x : Geometry). EachSince (OnlyAdds (IsOfTagsOnly x)) (g.D.Disk.moments disk) (g.D.Disk.moments after)) (c.take_all.ensures.stays.places ∙ c.requires.same)
    (only_marked store (marked_adds store (g.D.Disk.identity disk) c.take_all.ensures.stays.store_ (write_back_adds store.sectors c.write_back.ensures.moments))))
