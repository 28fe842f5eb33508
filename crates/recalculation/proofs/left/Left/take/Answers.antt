use Rattle.std.proofs.Common.{refl}
use Rattle.direct_mode.proofs.ServingLemmas.{on_err_always}
use Rattle.dirty_bitmap.specs.Regions.{has_region}
use Rattle.tag_store.specs.Store.{given_tags}
use Rattle.recalculation.specs.Awaiting.{left_blocks}
use Rattle.recalculation.specs.Places.{awaits_from}
use Rattle.recalculation.specs.Rule.{tagger_by}
use Rattle.recalculation.proofs.LawsLemmas.{between_same, rests_none, same_blocks_law, same_left, same_moments_law}
use Rattle.recalculation.proofs.RestLemmas.{KeepsRest-still}
use Rattle.recalculation.proofs.TakingLemmas.{nothing_taken}
use Rattle.recalculation.proofs.left.Left.take.Goals as goal

pub returns-then-not-has-clause-taken : goal.returns-then-not-has-clause-taken
returns-then-not-has-clause-taken g c =
    let places = c.args.places.now in
    let left = has_region c.args.self.now.set in
    nothing_taken (tagger_by c.args.maker.now places.geometry) places.geometry (left_blocks places.geometry places.first left) c.args.region (given_tags c.args.tags.now) (g.D.Disk.moments c.args.disk.now)
    (rests_none places.geometry places.first left c.args.region c.has.result c.has.ensures c.if-not-has.true) (g.met.D.Disk.reads_an_image c.args.disk.now)

pub returns-in_err-take_region-clause-moments : goal.returns-in_err-take_region-clause-moments
returns-in_err-take_region-clause-moments g c =
    let places = c.args.places.now in
    let left = has_region c.args.self.now.set in
    same_moments_law (tagger_by c.args.maker.now places.geometry) places.geometry (awaits_from places.first) (left_blocks places.geometry places.first left) c.args.region (given_tags c.args.tags.now)
    (g.D.Disk.moments c.args.disk.now) (g.D.Disk.moments c.take_region.new.disk)
    (same_left places.geometry places.first left c.args.region c.has.result c.has.ensures c.if-not-has.false) c.take_region.ensures.moments

pub returns-clause-taken : goal.returns-clause-taken
returns-clause-taken g c =
    let places = c.args.places.now in
    let left = has_region c.args.self.now.set in
    same_blocks_law (tagger_by c.args.maker.now places.geometry) places.geometry (awaits_from places.first) (left_blocks places.geometry places.first left) c.args.region (given_tags c.args.tags.now) (given_tags c.take_region.new.tags)
    (g.D.Disk.moments c.args.disk.now) (g.D.Disk.moments c.take_region.new.disk)
    (same_left places.geometry places.first left c.args.region c.has.result c.has.ensures c.if-not-has.false) c.in_ok-take_region.ensures.taken

pub returns-clause-moments : goal.returns-clause-moments
returns-clause-moments g c =
    let places = c.args.places.now in
    let left = has_region c.args.self.now.set in
    same_moments_law (tagger_by c.args.maker.now places.geometry) places.geometry (awaits_from places.first) (left_blocks places.geometry places.first left) c.args.region (given_tags c.args.tags.now)
    (g.D.Disk.moments c.args.disk.now) (g.D.Disk.moments c.take_region.new.disk)
    (same_left places.geometry places.first left c.args.region c.has.result c.has.ensures c.if-not-has.false) c.take_region.ensures.moments

pub returns-then-not-has-clause-stays : goal.returns-then-not-has-clause-stays
returns-then-not-has-clause-stays g c = record {
  store_ = c.requires.fits.store_;
  places = refl;
  rest = KeepsRest-still c.args.tags.now (g.D.Disk.moments c.args.disk.now) (g.D.Disk.moments c.args.disk.now) refl;
  identity = refl;
}

pub returns-in_err-take_region-clause-between : goal.returns-in_err-take_region-clause-between
returns-in_err-take_region-clause-between g c =
    let places = c.args.places.now in
    let left = has_region c.args.self.now.set in
    on_err_always c.from_residual.result (
    between_same (tagger_by c.args.maker.now places.geometry) places.geometry (awaits_from places.first) (left_blocks places.geometry places.first left) c.args.region (given_tags c.args.tags.now) (given_tags c.take_region.new.tags)
    (g.D.Disk.moments c.args.disk.now) (g.D.Disk.moments c.take_region.new.disk)
    (same_left places.geometry places.first left c.args.region c.has.result c.has.ensures c.if-not-has.false) c.in_err-take_region.ensures.err)
