use Rattle.std.proofs.Common.{rules, ◌<◌, false, refl, sym, ◌∙◌, subst}
use Rattle.std.specs.List.{count_by, range_with_len}
use Rattle.std.proofs.lemmas.Bool.{true≢false}
use Rattle.disk_model.specs.Disk.{OnlyAdds}
use Rattle.disk_model.specs.Moments.{EachSince}
use Rattle.disk_model.proofs.MomentsLemmas.{adds_then, no_moment}
use Rattle.image_model.specs.Geometry.{Geometry, regions}
use Rattle.device_model.specs.Regions.{with_region}
use Rattle.bitmap_laws.specs.CallLaws.{AreSameBits, region_tags}
use Rattle.change_model.specs.PhaseLaws.{no_region}
use Rattle.tag_store.specs.Store.{given_tags}
use Rattle.recalculation.specs.All.{IsOfTagsOnly}
use Rattle.recalculation.specs.Awaiting.{awaiting_blocks, awaiting_of}
use Rattle.recalculation.specs.Rule.{tagger_by}
use Rattle.recalculation.proofs.AllLemmas.{fewer_then, next_waits, none_waits, only_tags, turn_keeps, turn_stands, turns_begin, turns_end}
use Rattle.recalculation.proofs.AllWithBitmapLemmas.{bitmap_turn_keeps, bitmap_turn_stands, bitmap_turns_begin, bitmap_turns_end}
use Rattle.recalculation.proofs.RestLemmas.{KeepsRest-still, KeepsRest-then}
use Rattle.recalculation.proofs.StepLemmas.{fewer_await}
use Rattle.recalculation.proofs.all.take_all.Goals as goal

pub regions-init : goal.regions-init
regions-init g c =
    let start = g.D.Disk.moments c.args.disk.now in
    record {
      fewer = record { each = λ r low waits. waits };
      keeps = λ d awaiting on keeps. turns_begin d c.args.maker.now awaiting c.args.awaiting.now (given_tags c.args.tags.now) start on keeps;
      bits = λ d entry on keeps. bitmap_turns_begin d entry c.args.maker.now c.args.awaiting.now (given_tags c.args.tags.now) start on keeps;
      idle = λ none. (refl, refl);
      stays = record { geometry = refl; first = refl; store_ = c.requires.store; places = refl; rest = KeepsRest-still c.args.tags.now start start refl; identity = refl };
      faults = refl;
      moments = no_moment start _;
    }

pub recalc_region-requires-clause-region : goal.recalc_region-requires-clause-region
recalc_region-requires-clause-region g c = (next_waits c.regions.awaiting c.in-Some.region c.next.result c.next.ensures c.in-Some.is).0

pub regions-smaller : goal.regions-smaller
regions-smaller g c =
    let now = c.regions.awaiting in
    let new = c.recalc_region.new.self in
    subst (λ (x : Geometry). count_by (awaiting_of new) (range_with_len 0 (regions x)) < count_by (awaiting_of now) (range_with_len 0 (regions now.geometry))) (sym c.recalc_region.ensures.stays.geometry)
    (fewer_await now.geometry (awaiting_of now) (awaiting_of new) c.in-Some.region (sym c.next.ensures ∙ c.in-Some.is) c.in_ok-recalc_region.ensures.done)

pub regions-preserved : goal.regions-preserved
regions-preserved g c =
    let old = c.args.awaiting.now in
    let now = c.regions.awaiting in
    let inv = c.regions.invariant in
    let region = c.in-Some.region in
    let start = g.D.Disk.moments c.args.disk.now in
    let m = g.D.Disk.moments c.regions.disk in
    let b = g.D.Disk.moments c.recalc_region.new.disk in
    let next = next_waits now region c.next.result c.next.ensures c.in-Some.is in
    let low = subst (λ (x : Geometry). region < regions x) inv.stays.geometry next.0 in
    record {
      fewer = fewer_then old.geometry (awaiting_of old) (awaiting_of now) (awaiting_of c.recalc_region.new.self) region inv.fewer
          (subst (λ (x : Geometry). AreSameBits x (awaiting_of c.recalc_region.new.self) (with_region region false (awaiting_of now))) inv.stays.geometry c.in_ok-recalc_region.ensures.done);
      keeps = λ d awaiting on keeps.
          turn_keeps d c.args.maker.now now (given_tags c.regions.tags) start m (inv.keeps d awaiting on keeps) region next.0 next.1 b c.recalc_region.ensures.moments
          c.recalc_region.new.self (given_tags c.recalc_region.new.tags) c.in_ok-recalc_region.ensures.taken c.in_ok-recalc_region.ensures.done c.recalc_region.ensures.stays.geometry c.recalc_region.ensures.stays.first;
      bits = λ d entry on keeps.
          bitmap_turn_keeps d entry c.args.maker.now now (given_tags c.regions.tags) start m (inv.bits d entry on keeps) region next.0 next.1 b c.recalc_region.ensures.moments
          c.recalc_region.new.self (given_tags c.recalc_region.new.tags) c.in_ok-recalc_region.ensures.taken c.in_ok-recalc_region.ensures.done c.recalc_region.ensures.stays.geometry c.recalc_region.ensures.stays.first;
      idle = λ none. absurd (true≢false (sym (inv.fewer.each region low next.1) ∙ none region low));
      stays = record {
        geometry = c.recalc_region.ensures.stays.geometry ∙ inv.stays.geometry;
        first = c.recalc_region.ensures.stays.first ∙ inv.stays.first;
        store_ = c.recalc_region.ensures.stays.store_;
        places = c.recalc_region.ensures.stays.places ∙ inv.stays.places;
        rest = KeepsRest-then c.args.tags.now c.regions.tags c.recalc_region.new.tags start m b inv.stays.rest c.recalc_region.ensures.stays.rest;
        identity = c.recalc_region.ensures.stays.identity ∙ inv.stays.identity;
      };
      faults = search rules;
      moments = adds_then (IsOfTagsOnly old.geometry) inv.moments
          (subst (λ (x : Geometry). EachSince (OnlyAdds (IsOfTagsOnly x)) m b) inv.stays.geometry
          (only_tags now.geometry (given_tags c.regions.tags) (λ x. region_tags (tagger_by c.args.maker.now now.geometry) now.geometry (awaiting_blocks now) region x (given_tags c.regions.tags x)) c.recalc_region.ensures.moments));
    }

pub returns-in_err-recalc_region-clause-idle : goal.returns-in_err-recalc_region-clause-idle
returns-in_err-recalc_region-clause-idle g c none =
    let inv = c.regions.invariant in
    let next = next_waits c.regions.awaiting c.in-Some.region c.next.result c.next.ensures c.in-Some.is in
    let low = subst (λ (x : Geometry). c.in-Some.region < regions x) inv.stays.geometry next.0 in
    absurd (true≢false (sym (inv.fewer.each c.in-Some.region low next.1) ∙ none c.in-Some.region low))

pub returns-in_err-recalc_region-clause-stays : goal.returns-in_err-recalc_region-clause-stays
returns-in_err-recalc_region-clause-stays g c =
    let stays = c.regions.invariant.stays in
    record {
      geometry = c.recalc_region.ensures.stays.geometry ∙ stays.geometry;
      first = c.recalc_region.ensures.stays.first ∙ stays.first;
      store_ = c.recalc_region.ensures.stays.store_;
      places = c.recalc_region.ensures.stays.places ∙ stays.places;
      rest = KeepsRest-then c.args.tags.now c.regions.tags c.recalc_region.new.tags (g.D.Disk.moments c.args.disk.now) (g.D.Disk.moments c.regions.disk) (g.D.Disk.moments c.recalc_region.new.disk) stays.rest c.recalc_region.ensures.stays.rest;
      identity = c.recalc_region.ensures.stays.identity ∙ stays.identity;
    }

pub returns-in_err-recalc_region-clause-through : goal.returns-in_err-recalc_region-clause-through
returns-in_err-recalc_region-clause-through g c =
    let now = c.regions.awaiting in
    let start = g.D.Disk.moments c.args.disk.now in
    let m = g.D.Disk.moments c.regions.disk in
    let b = g.D.Disk.moments c.recalc_region.new.disk in
    let next = next_waits now c.in-Some.region c.next.result c.next.ensures c.in-Some.is in
    record {
      journal = λ d awaiting on keeps.
          turn_stands d c.args.maker.now now (given_tags c.regions.tags) start m (c.regions.invariant.keeps d awaiting on keeps) c.in-Some.region next.0 next.1 b c.recalc_region.ensures.moments;
      bitmap = λ d entry on keeps.
          bitmap_turn_stands d entry c.args.maker.now now (given_tags c.regions.tags) start m (c.regions.invariant.bits d entry on keeps) c.in-Some.region next.0 next.1 b c.recalc_region.ensures.moments;
    }

pub returns-in_err-recalc_region-clause-moments : goal.returns-in_err-recalc_region-clause-moments
returns-in_err-recalc_region-clause-moments g c =
    let now = c.regions.awaiting in
    let inv = c.regions.invariant in
    let m = g.D.Disk.moments c.regions.disk in
    let b = g.D.Disk.moments c.recalc_region.new.disk in
    adds_then (IsOfTagsOnly c.args.awaiting.now.geometry) inv.moments
    (subst (λ (x : Geometry). EachSince (OnlyAdds (IsOfTagsOnly x)) m b) inv.stays.geometry
    (only_tags now.geometry (given_tags c.regions.tags) (λ x. region_tags (tagger_by c.args.maker.now now.geometry) now.geometry (awaiting_blocks now) c.in-Some.region x (given_tags c.regions.tags x)) c.recalc_region.ensures.moments))

pub returns-clause-taken : goal.returns-clause-taken
returns-clause-taken g c =
    let now = c.regions.awaiting in
    let start = g.D.Disk.moments c.args.disk.now in
    let m = g.D.Disk.moments c.regions.disk in
    let none = none_waits now c.next.result c.next.ensures c.in_default.is in
    record {
      none = subst (λ (x : Geometry). AreSameBits x (awaiting_of now) no_region) c.regions.invariant.stays.geometry none;
      journal = λ d awaiting on keeps. turns_end d c.args.maker.now now (given_tags c.regions.tags) start m (c.regions.invariant.keeps d awaiting on keeps) none;
      bitmap = λ d entry on keeps. bitmap_turns_end d entry c.args.maker.now now (given_tags c.regions.tags) start m (c.regions.invariant.bits d entry on keeps) none;
    }

pub returns-clause-through : goal.returns-clause-through
returns-clause-through g c = record {
  journal = λ d awaiting on keeps. (c.regions.invariant.keeps d awaiting on keeps).stands;
  bitmap = λ d entry on keeps. (c.regions.invariant.bits d entry on keeps).stands;
}
