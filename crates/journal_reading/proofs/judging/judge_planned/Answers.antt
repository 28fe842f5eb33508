use Rattle.std.proofs.Common.{Err, Ok, get_or, refl, sym, ap, subst, ◌∙◌, arith}
use Rattle.std.proofs.lemmas.Option.{none-some, slice_get-get_or}
use Rattle.std.proofs.lemmas.Result.{err_from_is_err_and}
use Rattle.disk_model.specs.Disk.{last_image}
use Rattle.disk_model.specs.Identity.{DiskIdentity, IsBound}
use Rattle.disk_model.specs.Moments.{content_now}
use Rattle.image_model.specs.Cells.{entry_place}
use Rattle.image_model.specs.Geometry.{IsGeometry, section_sectors}
use Rattle.image_model.specs.Scan.{walk_of_grid}
use Rattle.commit_id.specs.Grid.{as_grid}
use Rattle.sector_window.proofs.WindowLemmas.{fresh_window}
use Rattle.journal_reading.specs.Newest.{newest_in}
use Rattle.journal_reading.specs.Places.{places_of}
use Rattle.journal_reading.specs.declared.reading.JudgedJournal.{JudgedJournal}
use Rattle.journal_reading.proofs.CellsLemmas.{numbers_on}
use Rattle.journal_reading.proofs.JudgingLemmas.{judged-all, judged-next, judged-none, judged-refused}
use Rattle.journal_reading.proofs.PlacesLemmas.{IsWalk-fits}
use Rattle.journal_reading.proofs.judging.judge_planned.Goals as goal

pub entry_count-k-end-requires-clause-walk : goal.entry_count-k-end-requires-clause-walk
entry_count-k-end-requires-clause-walk g c = IsWalk-fits c.args.geometry.now (as_grid c.args.grid) c.args.plan c.requires.fits c.requires.plan

pub loop-k-init : goal.loop-k-init
loop-k-init g c = record {
  few = omega arith;
  inside = λ b number is. absurd (none-some number (sym (c.new-newest.ensures b) ∙ is));
  judged = λ content told. judged-none c.args.maker.now c.args.geometry.now (last_image content) c.args.plan (newest_in c.new-newest.result) c.new-newest.ensures;
  window =
      fresh_window (section_sectors c.args.geometry.now.shape) c.shape-shape.result.sectors c.in_ok-window.window (g.D.Disk.moments c.args.disk.now) c.in_ok-window.ensures
      (omega (arith, c.shape-shape.ensures.is_shape.sectors ∙ ap section_sectors c.shape-shape.ensures.shape));
  faults = refl;
  identity = refl;
  kept = refl;
}

pub judge_at-requires-clause-bound : goal.judge_at-requires-clause-bound
judge_at-requires-clause-bound g c = subst (λ (i : DiskIdentity). IsBound i.name) (sym c.loop-k.invariant.identity) c.requires.bound

pub judge_at-requires-clause-geometry : goal.judge_at-requires-clause-geometry
judge_at-requires-clause-geometry g c = subst (λ (i : DiskIdentity). IsGeometry c.args.geometry.now i.sectors) (sym c.loop-k.invariant.identity) c.requires.geometry

pub judge_at-requires-clause-walk : goal.judge_at-requires-clause-walk
judge_at-requires-clause-walk g c = IsWalk-fits c.args.geometry.now (as_grid c.args.grid) c.args.plan c.requires.fits c.requires.plan

pub returns-in_err-used-clause-refused : goal.returns-in_err-used-clause-refused
returns-in_err-used-clause-refused g c =
    let places = places_of c.args.geometry.now c.args.plan.walk in
    let p = err_from_is_err_and c.from_residual-in_err-used.result c.from_residual-in_err-used.ensures.1 in
    rw (p.1, p.2) (λ not_memory not_disk content told.
    judged-refused c.args.maker.now c.args.geometry.now (last_image content) c.args.plan (sym (ap walk_of_grid (c.requires.grid content told)) ∙ c.requires.plan)
    JudgedJournal c.loop-k.k (get_or places c.loop-k.k (entry_place 0 0)) (newest_in c.loop-k.newest) (newest_in c.judge_at.new.newest) c.loop-k.count (Err c.in_err-used.field-0.0) c.in_err-used.field-0.0
    (slice_get-get_or places c.loop-k.k (entry_place 0 0) (omega (arith, c.loop-k-test.true, c.entry_count-k-end.ensures))) refl (λ e. not_memory (cc)) (λ e. not_disk (cc))
    (c.in_err-used.ensures.judged content (ap content_now c.loop-k.invariant.kept ∙ told)) (c.loop-k.invariant.judged content told))

pub loop-k-preserved : goal.loop-k-preserved
loop-k-preserved g c =
    let places = places_of c.args.geometry.now c.args.plan.walk in
    let within = c.in_ok-used.ensures.inside in
    record {
      few = let few = within.few in omega (arith, few, c.loop-k.invariant.few);
      inside = within.inside c.loop-k.invariant.inside;
      judged = λ content told.
          judged-next c.args.maker.now c.args.geometry.now (last_image content) c.args.plan c.loop-k.k (get_or places c.loop-k.k (entry_place 0 0)) (newest_in c.loop-k.newest) (newest_in c.judge_at.new.newest)
          c.loop-k.count c.in_ok-used.used (Ok c.in_ok-used.used) (slice_get-get_or places c.loop-k.k (entry_place 0 0) (omega (arith, c.loop-k-test.true, c.entry_count-k-end.ensures)))
          c.requires.geometry.spb.0 refl (c.in_ok-used.ensures.judged content (ap content_now c.loop-k.invariant.kept ∙ told)) (c.loop-k.invariant.judged content told);
      window = c.judge_at.ensures.window;
      faults = c.in_ok-used.ensures.cause.passed (λ e. cc) ∙ c.loop-k.invariant.faults;
      identity = c.judge_at.ensures.leaves.identity ∙ c.loop-k.invariant.identity;
      kept = c.judge_at.ensures.leaves.kept ∙ c.loop-k.invariant.kept;
    }

pub returns-clause-fits : goal.returns-clause-fits
returns-clause-fits g c = record { grid_ = c.requires.fits; plan_ = c.requires.plan; inside = c.loop-k.invariant.inside }

pub returns-clause-judged : goal.returns-clause-judged
returns-clause-judged g c content told =
    let journal : JudgedJournal = record { grid = c.args.grid; plan = c.args.plan; newest = c.loop-k.newest; count = c.loop-k.count } in
    judged-all c.args.maker.now c.args.geometry.now (last_image content) c.args.plan (sym (ap walk_of_grid (c.requires.grid content told)) ∙ c.requires.plan) journal c.loop-k.k
    (omega (arith, c.loop-k-test.false, c.loop-k.auto.k-end, c.entry_count-k-end.ensures)) refl
    (numbers_on c.args.geometry.now (g.D.Disk.identity c.args.disk.now).sectors (last_image content) (as_grid c.args.grid) c.requires.geometry (c.requires.grid content told))
    (c.loop-k.invariant.judged content told)

pub returns-clause-refused : goal.returns-clause-refused
returns-clause-refused g c not_memory not_disk content told = sym (returns-clause-judged g c content told).right
