use Rattle.std.proofs.Common.{rules, refl, sym, ◌∙◌, ap}
use Rattle.std.proofs.lemmas.Bool.{true≢false}
use Rattle.std.proofs.lemmas.Result.{on_err_weaker, on_ok_weaker}
use Rattle.disk_model.proofs.MomentsLemmas.{no_moment}
use Rattle.tag_store.specs.Store.{given_tags}
use Rattle.recalculation.specs.Awaiting.{AwaitingRegions, awaiting_blocks}
use Rattle.recalculation.specs.Rule.{tagger_by}
use Rattle.recalculation.proofs.LawsLemmas.{seen_adds, seen_between, seen_nothing, seen_taken}
use Rattle.recalculation.proofs.RestLemmas.{KeepsRest-still}
use Rattle.recalculation.proofs.TakingLemmas.{nothing_taken}
use Rattle.recalculation.proofs.awaiting.Awaiting.recalc_region.Goals as goal
use Rattle.recalculation.proofs.awaiting.Awaiting.recalc_region.Goals.{in-Some, in-None}

pub take-requires-clause-fits : goal.take-requires-clause-fits
take-requires-clause-fits g c = record {
  numbers = c.self.invariant.numbers;
  same = c.requires.same ∙ sym (ap (λ (a : AwaitingRegions). a.geometry) c.self.view_is);
  size = c.requires.size ∙ sym (ap (λ (a : AwaitingRegions). a.geometry.shape.tag_size) c.self.view_is);
  store_ = c.requires.store;
}

pub returns-clause-taken : goal.returns-clause-taken
returns-clause-taken g c = elim c.match-self.branch [
  | in-Some w ↦ rw (w.result-is, w.tags-is, w.disk-is) (on_ok_weaker w.take.result (λ taken.
      seen_taken c.args.maker.now c.args.region (given_tags c.args.tags.now) (g.D.Disk.moments c.args.disk.now) _ c.self.inside.places c.self.inside.left c.args.self.now c.self.view_is
      _ _ w.in-Some.is taken) w.take.ensures.taken)
  | in-None w ↦ rw (w.result-is, w.tags-is, w.disk-is) (
      nothing_taken (tagger_by c.args.maker.now c.args.self.now.geometry) c.args.self.now.geometry (awaiting_blocks c.args.self.now) c.args.region (given_tags c.args.tags.now) (g.D.Disk.moments c.args.disk.now)
      (λ n low is waits. true≢false (sym waits ∙ seen_nothing c.args.maker.now c.args.region (given_tags c.args.tags.now) (g.D.Disk.moments c.args.disk.now) (g.D.Disk.moments c.args.disk.now)
      c.self.inside.places c.self.inside.left c.args.self.now c.self.view_is w.in-None.is n)) (g.met.D.Disk.reads_an_image c.args.disk.now))
]

pub returns-clause-moments : goal.returns-clause-moments
returns-clause-moments g c = elim c.match-self.branch [
  | in-Some w ↦ rw w.disk-is (
      seen_adds c.args.maker.now c.args.region (given_tags c.args.tags.now) (g.D.Disk.moments c.args.disk.now) _ c.self.inside.places c.self.inside.left c.args.self.now c.self.view_is
      _ w.in-Some.is w.take.ensures.moments)
  | in-None w ↦ rw w.disk-is (no_moment (g.D.Disk.moments c.args.disk.now) _)
]

pub returns-clause-stays : goal.returns-clause-stays
returns-clause-stays g c = elim c.match-self.branch [
  | in-Some w ↦ rw (w.tags-is, w.disk-is) (record {
    geometry = search rules;
    first = search rules;
    store_ = w.take.ensures.stays.store_;
    places = w.take.ensures.stays.places;
    rest = w.take.ensures.stays.rest;
    identity = w.take.ensures.stays.identity;
  })
  | in-None w ↦ rw (w.tags-is, w.disk-is) (record {
    geometry = search rules;
    first = search rules;
    store_ = c.requires.store;
    places = refl;
    rest = KeepsRest-still c.args.tags.now (g.D.Disk.moments c.args.disk.now) (g.D.Disk.moments c.args.disk.now) refl;
    identity = refl;
  })
]

pub returns-clause-between : goal.returns-clause-between
returns-clause-between g c = elim c.match-self.branch [
  | in-Some w ↦ rw (w.result-is, w.tags-is, w.disk-is) (on_err_weaker w.take.result (λ gives.
      seen_between c.args.maker.now c.args.region (given_tags c.args.tags.now) (g.D.Disk.moments c.args.disk.now) _ c.self.inside.places c.self.inside.left c.args.self.now c.self.view_is
      _ _ w.in-Some.is gives) w.take.ensures.between)
  | in-None w ↦ rw w.result-is tt
]
