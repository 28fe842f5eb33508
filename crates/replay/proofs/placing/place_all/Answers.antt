use Rattle.std.proofs.Common.{◌^◌, ap, refl, sym, ◌∙◌, arith}
use Rattle.disk_model.proofs.MomentsLemmas.{EachMoment-then, adds_then, no_moment}
use Rattle.disk_model.specs.Moments.{content_now}
use Rattle.commit_id.specs.Grid.{as_grid}
use Rattle.tag_store.specs.Store.{given_tags}
use Rattle.journal_reading.specs.Newest.{newest_in}
use Rattle.journal_reading.proofs.PlacesLemmas.{IsWalk-fits}
use Rattle.replay.proofs.ReplayingLemmas.{counted_read, geometry_of}
use Rattle.replay.proofs.TurnedLemmas.{turned_all, turned_none}
use Rattle.replay.proofs.InPlaceLemmas.{in_place_still, still_none, still_then}
use Rattle.replay.proofs.ReadPlacesLemmas.{shows_none}
use Rattle.replay.proofs.placing.place_all.Goals as goal

pub entry_count-k-end-requires-clause-geometry : goal.entry_count-k-end-requires-clause-geometry
entry_count-k-end-requires-clause-geometry g c =
    geometry_of c.args.geometry.now c.args.tags.now (g.D.Disk.identity c.args.disk.now) (g.D.Disk.moments c.args.disk.now) c.requires.geometry c.requires.store_is

pub entry_count-k-end-requires-clause-walk : goal.entry_count-k-end-requires-clause-walk
entry_count-k-end-requires-clause-walk g c =
    IsWalk-fits c.args.geometry.now (as_grid c.args.journal.now.grid) c.args.journal.now.plan c.requires.fits.grid_ c.requires.fits.plan_

pub loop-k-init : goal.loop-k-init
loop-k-init g c = record {
  placed = λ d to read has. turned_none d c.args.geometry.now (newest_in c.args.journal.now.newest) to read.on.newest_ c.args.tags.now (g.D.Disk.moments c.args.disk.now) has;
  stands = λ d to read has. no_moment (g.D.Disk.moments c.args.disk.now) _;
  moments = no_moment (g.D.Disk.moments c.args.disk.now) _;
  still = λ none start told read are. still_none c.args.tags.now (g.D.Disk.moments c.args.disk.now) none;
  faults = refl;
  run = shows_none c.args.tags.now.geometry c.new-run.result (g.D.Disk.moments c.args.disk.now) c.new-run.ensures;
  keeps = record { store = c.requires.store_is; geometry = refl; identity = refl };
}

pub place_entry-requires-clause-replaying : goal.place_entry-requires-clause-replaying
place_entry-requires-clause-replaying g c = record {
  scratch = record {
    geometry = c.requires.geometry ∙ sym c.loop-k.invariant.keeps.geometry;
    size = c.requires.size;
    store_is = c.loop-k.invariant.keeps.store;
  };
  fits = c.requires.fits;
}

pub returns-in_err-place_entry-clause-stands : goal.returns-in_err-place_entry-clause-stands
returns-in_err-place_entry-clause-stands g c d to read has =
    EachMoment-then (c.loop-k.invariant.stands d to read has) (c.place_entry.ensures.stands d to read (c.loop-k.invariant.placed d to read has))

pub returns-in_err-place_entry-clause-still : goal.returns-in_err-place_entry-clause-still
returns-in_err-place_entry-clause-still g c none start told read are =
    let first = c.loop-k.invariant.still none start told read are in
    still_then c.args.tags.now c.loop-k.tags c.place_entry.new.tags (g.D.Disk.moments c.args.disk.now) (g.D.Disk.moments c.loop-k.disk) (g.D.Disk.moments c.place_entry.new.disk) first
    (c.place_entry.ensures.still first.unmarked start (ap content_now first.kept ∙ told) read
    (in_place_still c.args.geometry.now _ (given_tags c.args.tags.now start) (given_tags c.loop-k.tags start) start (first.same start told) are))

pub returns-in_err-place_entry-clause-moments : goal.returns-in_err-place_entry-clause-moments
returns-in_err-place_entry-clause-moments g c = adds_then _ c.loop-k.invariant.moments c.place_entry.ensures.moments

pub loop-k-preserved : goal.loop-k-preserved
loop-k-preserved g c = record {
  placed = λ d to read has. c.in_ok-place_entry.ensures.placed d to read (c.loop-k.invariant.placed d to read has);
  stands = λ d to read has. EachMoment-then (c.loop-k.invariant.stands d to read has) (c.place_entry.ensures.stands d to read (c.loop-k.invariant.placed d to read has));
  moments = adds_then _ c.loop-k.invariant.moments c.place_entry.ensures.moments;
  still = λ none start told read are.
      let first = c.loop-k.invariant.still none start told read are in
      still_then c.args.tags.now c.loop-k.tags c.place_entry.new.tags (g.D.Disk.moments c.args.disk.now) (g.D.Disk.moments c.loop-k.disk) (g.D.Disk.moments c.place_entry.new.disk) first
      (c.place_entry.ensures.still first.unmarked start (ap content_now first.kept ∙ told) read
      (in_place_still c.args.geometry.now _ (given_tags c.args.tags.now start) (given_tags c.loop-k.tags start) start (first.same start told) are));
  faults = c.in_ok-place_entry.ensures.cause.passed ∙ c.loop-k.invariant.faults;
  run = c.in_ok-place_entry.ensures.run;
  keeps = record {
    store = c.place_entry.ensures.keeps.store;
    geometry = c.place_entry.ensures.keeps.geometry ∙ c.loop-k.invariant.keeps.geometry;
    identity = c.place_entry.ensures.keeps.identity ∙ c.loop-k.invariant.keeps.identity;
  };
}

pub returns-clause-placed : goal.returns-clause-placed
returns-clause-placed g c d to read has =
    let geometry = geometry_of c.args.geometry.now c.args.tags.now (g.D.Disk.identity c.args.disk.now) (g.D.Disk.moments c.args.disk.now) c.requires.geometry c.requires.store_is in
    let all = counted_read c.args.geometry.now (2 ^ 48) c.args.bytes.now c.args.journal.now d.journal geometry read in
    turned_all d c.args.geometry.now (newest_in c.args.journal.now.newest) to read.on.newest_ c.loop-k.k c.loop-k.tags (g.D.Disk.moments c.loop-k.disk)
    (omega (arith, all, c.entry_count-k-end.ensures, c.loop-k-test.false, c.loop-k.auto.k-end)) (c.loop-k.invariant.placed d to read has)

pub returns-clause-stands : goal.returns-clause-stands
returns-clause-stands g c d to read has = c.loop-k.invariant.stands d to read has
