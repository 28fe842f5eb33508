use Rattle.std.proofs.Common.{inl, inr, refl, sym, ◌∙◌, subst}
use Rattle.std.proofs.lemmas.Result.{on_ok_weaker}
use Rattle.disk_model.specs.Identity.{DiskIdentity}
use Rattle.disk_model.proofs.MomentsLemmas.{adds_then, adds_wider, sync_adds}
use Rattle.bitmap_model.specs.Steps.{after_flush}
use Rattle.bitmap_laws.proofs.CallLemmas.{sync_kept_law, sync_law, through_law}
use Rattle.bitmap_laws.proofs.CloseLemmas.{cleared_images_law}
use Rattle.device_model.specs.Regions.{written_back}
use Rattle.direct_mode.proofs.ServingLemmas.{on_err_always}
use Rattle.bitmap_mode.specs.States.{counts_of}
use Rattle.direct_mode.proofs.StoreCalls.{gives_synced, reads_whole}
use Rattle.tag_store.specs.Store.{IsMarkedTags, IsStore, given_tags}
use Rattle.bitmap_mode.specs.Closing.{IsOfClose, closed_disk}
use Rattle.bitmap_mode.proofs.ClosingLemmas.{close_adds, closed_in_part, closed_whole, counts_closed, none_fresh}
use Rattle.bitmap_mode.proofs.StandingLemmas.{turns_at}
use Rattle.bitmap_mode.proofs.MarkingLemmas.{store_synced}
use Rattle.bitmap_mode.proofs.states.RegionStates.close.Goals as goal

pub clean_all-requires-clause-rested : goal.clean_all-requires-clause-rested
clean_all-requires-clause-rested g c = none_fresh c.args.self.now c.flush.new.self c.flush.ensures.stays.regions_ c.in_ok-flush.ensures.counts

pub returns-in_err-flush-clause-through : goal.returns-in_err-flush-clause-through
returns-in_err-flush-clause-through g c d marked stands = inl (c.flush.ensures.through d marked stands)

pub returns-in_err-clean_all-clause-through : goal.returns-in_err-clean_all-clause-through
returns-in_err-clean_all-clause-through g c d marked stands =
    let flushed = c.in_ok-flush.ensures.flushed d marked stands in
    inr (turns_at d (closed_disk d) marked (c.flush.ensures.through d marked stands) (c.clean_all.ensures.through (after_flush d) marked (λ r. refl) flushed))

pub returns-clause-through : goal.returns-clause-through
returns-clause-through g c d marked stands =
    let flushed = c.in_ok-flush.ensures.flushed d marked stands in
    let cleared = c.clean_all.ensures.through (after_flush d) marked (λ r. refl) flushed in
    let middle = c.clean_all.new.disk in
    inr (turns_at d (closed_disk d) marked (c.flush.ensures.through d marked stands)
    (through_law (closed_disk d) marked (g.D.Disk.moments c.flush.new.disk) (g.D.Disk.moments middle) (g.D.Disk.moments c.sync.new.self) cleared
    (sync_law (closed_disk d) marked (g.D.Disk.moments middle) (g.D.Disk.moments c.sync.new.self) cleared.now (g.met.D.Disk.reads_an_image middle) c.sync.ensures.moments)))

pub returns-clause-closed : goal.returns-clause-closed
returns-clause-closed g c = on_ok_weaker c.sync.result (λ synced d marked stands.
    let then_ = closed_disk d in
    let store = c.flush.new.tags in
    let middle = c.clean_all.new.disk in
    let before = g.D.Disk.moments middle in
    let after = g.D.Disk.moments c.sync.new.self in
    let flushed = c.in_ok-flush.ensures.flushed d marked stands in
    let cleared = c.clean_all.ensures.through (after_flush d) marked (λ r. refl) flushed in
    let cleaned = c.in_ok-clean_all.ensures.cleaned (after_flush d) marked (λ r. refl) flushed in
    let whole = reads_whole (g.D.Disk.identity middle) before (g.met.D.Disk.reads_an_image middle) (g.met.D.Disk.whole_sectors middle) in
    let gives = gives_synced store (g.D.Disk.identity middle) before after c.clean_all.ensures.stays.store_ whole synced in
    record {
      through = turns_at d then_ marked (c.flush.ensures.through d marked stands)
          (through_law then_ marked (g.D.Disk.moments c.flush.new.disk) before after cleared (sync_law then_ marked before after cleared.now (g.met.D.Disk.reads_an_image middle) c.sync.ensures.moments));
      stands = record {
        geometry = cleaned.geometry;
        regions_ = cleaned.regions_;
        now = sync_kept_law then_ store.geometry marked (given_tags store) (given_tags store) before after cleaned.geometry cleaned.now (g.met.D.Disk.reads_an_image middle) synced gives;
      };
      images = cleared_images_law then_ marked (given_tags store) before after cleaned.now (g.met.D.Disk.reads_an_image middle) synced;
    }) c.sync.ensures.synced

pub returns-clause-counts : goal.returns-clause-counts
returns-clause-counts g c = on_ok_weaker c.sync.result (λ synced.
    counts_closed c.args.self.now c.flush.new.self c.clean_all.new.self c.flush.ensures.stays.regions_ c.in_ok-flush.ensures.counts c.in_ok-clean_all.ensures.counts) c.sync.ensures.synced

pub returns-clause-stays : goal.returns-clause-stays
returns-clause-stays g c =
    let middle = c.clean_all.new.disk in
    record {
      store_ = subst (λ (i : DiskIdentity). IsStore c.flush.new.tags i (g.D.Disk.moments c.sync.new.self)) (sym c.sync.ensures.identity)
          (store_synced c.sync.result c.flush.new.tags (g.D.Disk.identity middle) (g.D.Disk.moments middle) (g.D.Disk.moments c.sync.new.self) c.clean_all.ensures.stays.store_ c.sync.ensures.synced c.sync.ensures.err);
      tags = c.flush.ensures.stays.tags;
      regions_ = c.clean_all.ensures.stays.geometry ∙ c.flush.ensures.stays.regions_;
      identity = c.sync.ensures.identity ∙ c.clean_all.ensures.stays.identity ∙ c.flush.ensures.stays.identity;
    }

pub returns-in_err-flush-clause-moments : goal.returns-in_err-flush-clause-moments
returns-in_err-flush-clause-moments g c =
    adds_wider (IsMarkedTags c.args.tags.now) (IsOfClose c.args.self.now c.args.tags.now) (λ sector x marked. inl marked) c.flush.ensures.moments

pub returns-in_err-clean_all-clause-moments : goal.returns-in_err-clean_all-clause-moments
returns-in_err-clean_all-clause-moments g c =
    close_adds c.args.self.now c.flush.new.self c.args.tags.now c.flush.ensures.stays.regions_ c.in_ok-flush.ensures.counts c.flush.ensures.moments c.clean_all.ensures.moments

pub returns-clause-moments : goal.returns-clause-moments
returns-clause-moments g c =
    let W = IsOfClose c.args.self.now c.args.tags.now in
    adds_then W (close_adds c.args.self.now c.flush.new.self c.args.tags.now c.flush.ensures.stays.regions_ c.in_ok-flush.ensures.counts c.flush.ensures.moments c.clean_all.ensures.moments)
    (sync_adds W (g.met.D.Disk.reads_an_image c.clean_all.new.disk) c.sync.ensures.moments)

pub returns-in_err-flush-clause-err : goal.returns-in_err-flush-clause-err
returns-in_err-flush-clause-err g c = on_err_always c.from_residual.result (inl c.in_err-flush.ensures.err)

pub returns-in_err-clean_all-clause-err : goal.returns-in_err-clean_all-clause-err
returns-in_err-clean_all-clause-err g c =
    on_err_always c.from_residual-in_err-clean_all.result
    (inr (closed_in_part c.args.self.now c.flush.new.self c.clean_all.new.self c.flush.ensures.stays.regions_ c.in_ok-flush.ensures.counts c.in_err-clean_all.ensures.err))

pub returns-clause-err : goal.returns-clause-err
returns-clause-err g c =
    let s = c.args.self.now in
    on_err_always c.sync.result
    (inr (closed_whole s.geometry (written_back (counts_of s)) (counts_of c.clean_all.new.self)
    (counts_closed s c.flush.new.self c.clean_all.new.self c.flush.ensures.stays.regions_ c.in_ok-flush.ensures.counts c.in_ok-clean_all.ensures.counts)))
