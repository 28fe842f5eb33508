use Rattle.std.proofs.Common.{rules, refl, inl, inr, ⊎_elim, ap, ◌∙◌, subst, arith}
use Rattle.image_model.specs.Geometry.{Geometry, IsGeometry}
use Rattle.direct_mode.proofs.ServingLemmas.{on_err_always}
use Rattle.tag_store.specs.Store.{given_tags}
use Rattle.recalculation.specs.Rule.{tagger_by}
use Rattle.recalculation.proofs.RestLemmas.{KeepsRest-still, stays_then}
use Rattle.recalculation.proofs.TakingLemmas.{taking_begins, taking_ends, taking_fails, taking_left, taking_next}
use Rattle.recalculation.proofs.taking.take_region.Goals as goal

pub loop-block-init : goal.loop-block-init
loop-block-init g c =
    let places = c.args.places.now in
    let sectors = (g.D.Disk.identity c.args.disk.now).sectors in
    record {
      above = omega arith;
      taken = taking_begins (tagger_by c.args.maker.now places.geometry) places.geometry sectors places.first c.args.region c.span-begin.result.0 c.span-begin.result.1
          (subst (λ (x : Geometry). IsGeometry x sectors) c.requires.fits.same c.requires.fits.store_.geometry) c.span-begin.ensures (given_tags c.args.tags.now) (g.D.Disk.moments c.args.disk.now);
      run = c.clear.ensures places.geometry (g.D.Disk.moments c.args.disk.now);
      stays = record {
        store_ = c.requires.fits.store_;
        places = refl;
        rest = KeepsRest-still c.args.tags.now (g.D.Disk.moments c.args.disk.now) (g.D.Disk.moments c.args.disk.now) refl;
        identity = refl;
      };
      faults = refl;
    }

pub take_block-requires-clause-fits : goal.take_block-requires-clause-fits
take_block-requires-clause-fits g c = record {
  numbers = c.requires.fits.numbers;
  same = c.loop-block.invariant.stays.places ∙ c.requires.fits.same;
  size = c.requires.fits.size;
  store_ = c.loop-block.invariant.stays.store_;
}

pub returns-in_err-take_block-clause-moments : goal.returns-in_err-take_block-clause-moments
returns-in_err-take_block-clause-moments g c =
    let places = c.args.places.now in
    let sectors = (g.D.Disk.identity c.args.disk.now).sectors in
    taking_fails (tagger_by c.args.maker.now places.geometry) places.geometry sectors places.first c.args.region c.span-begin.result.0 c.span-begin.result.1
    (subst (λ (x : Geometry). IsGeometry x sectors) c.requires.fits.same c.requires.fits.store_.geometry) c.span-begin.ensures (given_tags c.args.tags.now) (g.D.Disk.moments c.args.disk.now)
    c.loop-block.block (given_tags c.loop-block.tags) (g.D.Disk.moments c.loop-block.disk) c.loop-block.invariant.above c.loop-block-test.true c.loop-block.invariant.taken
    (g.D.Disk.moments c.take_block.new.disk) c.take_block.ensures.moments

pub returns-in_err-take_block-clause-err : goal.returns-in_err-take_block-clause-err
returns-in_err-take_block-clause-err g c =
    let places = c.args.places.now in
    let sectors = (g.D.Disk.identity c.args.disk.now).sectors in
    on_err_always c.from_residual.result (
    taking_left (tagger_by c.args.maker.now places.geometry) places.geometry sectors places.first c.args.region c.span-begin.result.0 c.span-begin.result.1
    (subst (λ (x : Geometry). IsGeometry x sectors) c.requires.fits.same c.requires.fits.store_.geometry) c.span-begin.ensures (given_tags c.args.tags.now) (g.D.Disk.moments c.args.disk.now)
    c.loop-block.block (given_tags c.loop-block.tags) (g.D.Disk.moments c.loop-block.disk) c.loop-block.invariant.above c.loop-block-test.true c.loop-block.invariant.taken
    (given_tags c.take_block.new.tags) (g.D.Disk.moments c.take_block.new.disk) c.take_block.ensures.moments
    (⊎_elim (λ still. inl (still.0, ap given_tags still.1)) (λ fails. inr fails) c.in_err-take_block.ensures.err))

pub returns-in_err-take_block-clause-stays : goal.returns-in_err-take_block-clause-stays
returns-in_err-take_block-clause-stays g c =
    stays_then c.args.tags.now c.loop-block.tags c.take_block.new.tags (g.D.Disk.identity c.args.disk.now) (g.D.Disk.identity c.loop-block.disk) (g.D.Disk.identity c.take_block.new.disk)
    (g.D.Disk.moments c.args.disk.now) (g.D.Disk.moments c.loop-block.disk) (g.D.Disk.moments c.take_block.new.disk) c.loop-block.invariant.stays c.take_block.ensures.stays

pub loop-block-preserved : goal.loop-block-preserved
loop-block-preserved g c =
    let places = c.args.places.now in
    let sectors = (g.D.Disk.identity c.args.disk.now).sectors in
    let kept = c.loop-block.invariant in
    record {
      above = let low = kept.above in omega (arith, low);
      taken = taking_next (tagger_by c.args.maker.now places.geometry) places.geometry sectors places.first c.args.region c.span-begin.result.0 c.span-begin.result.1
          (subst (λ (x : Geometry). IsGeometry x sectors) c.requires.fits.same c.requires.fits.store_.geometry) c.span-begin.ensures (given_tags c.args.tags.now) (g.D.Disk.moments c.args.disk.now)
          c.loop-block.block (given_tags c.loop-block.tags) (g.D.Disk.moments c.loop-block.disk) kept.above c.loop-block-test.true kept.taken
          (given_tags c.take_block.new.tags) (g.D.Disk.moments c.take_block.new.disk) c.in_ok-take_block.ensures.taken;
      run = c.in_ok-take_block.ensures.run;
      stays = stays_then c.args.tags.now c.loop-block.tags c.take_block.new.tags (g.D.Disk.identity c.args.disk.now) (g.D.Disk.identity c.loop-block.disk) (g.D.Disk.identity c.take_block.new.disk)
          (g.D.Disk.moments c.args.disk.now) (g.D.Disk.moments c.loop-block.disk) (g.D.Disk.moments c.take_block.new.disk) kept.stays c.take_block.ensures.stays;
      faults = search rules;
    }

pub returns-clause-taken : goal.returns-clause-taken
returns-clause-taken g c =
    let places = c.args.places.now in
    let sectors = (g.D.Disk.identity c.args.disk.now).sectors in
    let past = c.loop-block-test.false in
    taking_ends (tagger_by c.args.maker.now places.geometry) places.geometry sectors places.first c.args.region c.span-begin.result.0 c.span-begin.result.1
    (subst (λ (x : Geometry). IsGeometry x sectors) c.requires.fits.same c.requires.fits.store_.geometry) c.span-begin.ensures (given_tags c.args.tags.now) (g.D.Disk.moments c.args.disk.now)
    c.loop-block.block (given_tags c.loop-block.tags) (g.D.Disk.moments c.loop-block.disk) (omega (arith, past)) (g.met.D.Disk.reads_an_image c.args.disk.now) c.loop-block.invariant.taken
