use Rattle.std.proofs.Common.{◌+◌, ◌≤◌, ◌^◌, false, refl, sym, ◌∙◌, ap, subst, arith}
use Rattle.disk_model.specs.Disk.{OnlyAdds}
use Rattle.disk_model.specs.Moments.{FromStart}
use Rattle.disk_model.proofs.MomentsLemmas.{no_moment}
use Rattle.image_model.specs.Geometry.{Geometry, regions}
use Rattle.device_model.specs.Regions.{clean_all, with_region}
use Rattle.bitmap_laws.specs.CallLaws.{AddsBits, AreSameBits}
use Rattle.bitmap_laws.specs.EventLaws.{with_cleared}
use Rattle.bitmap_laws.specs.ServeLaws.{ClearsBit}
use Rattle.bitmap_laws.proofs.CallLemmas.{through_law}
use Rattle.dirty_bitmap.specs.Bits.{bits_of}
use Rattle.dirty_bitmap.specs.Regions.{Regions, has_region}
use Rattle.dirty_bitmap.proofs.BitsLemmas.{regions-few}
use Rattle.direct_mode.proofs.ServingLemmas.{on_err_always}
use Rattle.tag_store.specs.Store.{given_tags}
use Rattle.bitmap_mode.specs.Closing.{IsOfCleared}
use Rattle.bitmap_mode.specs.States.{AreSameCounts, counts_of}
use Rattle.bitmap_mode.proofs.ClosingLemmas.{awaits_there, cleared-out, cleared_all, cleared_next, clears_more, close_begins, close_ends, close_fails, close_turn, idle_there, next_there, none_there, passed, regions_cleared, rested_there}
use Rattle.bitmap_mode.proofs.StatesLemmas.{regions_same}
use Rattle.bitmap_mode.proofs.states.RegionStates.clean_all.Goals as goal

pub regions-init : goal.regions-init
regions-init g c =
    let s = c.args.self.now in
    let start = g.D.Disk.moments c.args.disk.now in
    record {
      low = omega arith;
      geometry = refl;
      awaiting = refl;
      fresh = refl;
      bits = λ r low. sym (cleared-out (counts_of s) 0 r (omega arith));
      faults = refl;
      store = c.requires.store;
      identity = refl;
      keeps = λ d marked rested stands.
          (close_begins d marked (counts_of s) s.geometry (stands.geometry ∙ c.requires.same) stands.regions_ rested (given_tags c.args.tags.now) start stands.now).0;
      through = λ d marked rested stands.
          (close_begins d marked (counts_of s) s.geometry (stands.geometry ∙ c.requires.same) stands.regions_ rested (given_tags c.args.tags.now) start stands.now).1;
      moments = no_moment start (FromStart start (OnlyAdds (IsOfCleared s.geometry (counts_of s))));
    }

pub clean-requires-clause-region : goal.clean-requires-clause-region
clean-requires-clause-region g c =
    (next_there c.regions.self c.regions.self c.regions.from c.in-Some.region c.next_to_clean.result refl c.next_to_clean.ensures c.in-Some.is).inside

pub clean-requires-clause-rests : goal.clean-requires-clause-rests
clean-requires-clause-rests g c =
    (next_there c.regions.self c.regions.self c.regions.from c.in-Some.region c.next_to_clean.result refl c.next_to_clean.ensures c.in-Some.is).passes

pub overflow_add-from : goal.overflow_add-from
overflow_add-from g c =
    let next = next_there c.args.self.now c.regions.self c.regions.from c.in-Some.region c.next_to_clean.result c.regions.invariant.geometry c.next_to_clean.ensures c.in-Some.is in
    let inside = next.inside in
    let few = subst (λ (y : Geometry). regions y ≤ 2 ^ 48) c.requires.same (regions-few c.args.tags.now.geometry (g.D.Disk.identity c.args.disk.now).sectors c.requires.store.geometry) in
    record { fits = omega (arith, inside, few) }

pub regions-smaller : goal.regions-smaller
regions-smaller g c =
    let next = next_there c.regions.self c.regions.self c.regions.from c.in-Some.region c.next_to_clean.result refl c.next_to_clean.ensures c.in-Some.is in
    let inside = next.inside in
    let above = next.above in
    let same = ap (λ (y : Geometry). regions y) c.clean.ensures.stays.geometry in
    omega (arith, inside, above, same)

pub regions-preserved : goal.regions-preserved
regions-preserved g c =
    let s = c.args.self.now in
    let now = c.regions.self in
    let inv = c.regions.invariant in
    let region = c.in-Some.region in
    let tags = given_tags c.args.tags.now in
    let start = g.D.Disk.moments c.args.disk.now in
    let before = g.D.Disk.moments c.regions.disk in
    let after = g.D.Disk.moments c.clean.new.disk in
    let next = next_there s now c.regions.from region c.next_to_clean.result inv.geometry c.next_to_clean.ensures c.in-Some.is in
    let awaits = awaits_there s now inv.awaiting in
    let rests = rested_there s now inv.fresh c.requires.rested in
    let idle = idle_there s now c.regions.from region inv.awaiting next in
    let bits = subst (λ (y : Geometry). AreSameBits y (bits_of c.clean.new.self.bits) (with_region region false (bits_of now.bits))) inv.geometry c.in_ok-clean.ensures.counts.set_bits in
    let clears = subst (λ (y : Geometry). ClearsBit y (bits_of now.bits) region tags tags before after) inv.geometry c.in_ok-clean.ensures.cleared in
    let cleared = cleared_next (counts_of s) s.geometry (counts_of now) c.regions.from inv.bits awaits rests region next idle (with_region region false (bits_of now.bits)) (λ r low. refl) in
    record {
      low = let inside = next.inside in omega (arith, inside);
      geometry = c.clean.ensures.stays.geometry ∙ inv.geometry;
      awaiting = c.clean.ensures.stays.awaiting ∙ inv.awaiting;
      fresh = c.clean.ensures.stays.fresh ∙ inv.fresh;
      bits = λ r low. bits r low ∙ cleared r low;
      faults = c.in_ok-clean.ensures.cause.passed ∙ inv.faults;
      store = c.clean.ensures.stays.store_;
      identity = c.clean.ensures.stays.identity ∙ inv.identity;
      keeps = λ d marked rested stands.
          (close_turn d marked (counts_of s) s.geometry (stands.geometry ∙ c.requires.same) stands.regions_ rested tags before (counts_of now) c.regions.from region inv.bits awaits rests next idle
          (inv.keeps d marked rested stands) tags after clears).1;
      through = λ d marked rested stands.
          through_law (with_cleared d) marked start before after (inv.through d marked rested stands)
          (close_turn d marked (counts_of s) s.geometry (stands.geometry ∙ c.requires.same) stands.regions_ rested tags before (counts_of now) c.regions.from region inv.bits awaits rests next idle
          (inv.keeps d marked rested stands) tags after clears).0;
      moments = clears_more s.geometry (counts_of s) (with_region region false (bits_of now.bits)) (region + 1) cleared inv.moments
          (subst (λ (y : Geometry). AddsBits y (with_region region false (bits_of now.bits)) before after) inv.geometry c.clean.ensures.moments);
    }

pub returns-in_err-clean-clause-through : goal.returns-in_err-clean-clause-through
returns-in_err-clean-clause-through g c d marked rested stands =
    let s = c.args.self.now in
    let now = c.regions.self in
    let inv = c.regions.invariant in
    let region = c.in-Some.region in
    let tags = given_tags c.args.tags.now in
    let start = g.D.Disk.moments c.args.disk.now in
    let before = g.D.Disk.moments c.regions.disk in
    let after = g.D.Disk.moments c.clean.new.disk in
    let next = next_there s now c.regions.from region c.next_to_clean.result inv.geometry c.next_to_clean.ensures c.in-Some.is in
    through_law (with_cleared d) marked start before after (inv.through d marked rested stands)
    (close_fails d marked (counts_of s) s.geometry (stands.geometry ∙ c.requires.same) stands.regions_ rested tags before (counts_of now) c.regions.from region inv.bits (awaits_there s now inv.awaiting)
    (rested_there s now inv.fresh c.requires.rested) next (idle_there s now c.regions.from region inv.awaiting next) (inv.keeps d marked rested stands) after
    (subst (λ (y : Geometry). AddsBits y (with_region region false (bits_of now.bits)) before after) inv.geometry c.clean.ensures.moments))

pub returns-in_err-clean-clause-moments : goal.returns-in_err-clean-clause-moments
returns-in_err-clean-clause-moments g c =
    let s = c.args.self.now in
    let now = c.regions.self in
    let inv = c.regions.invariant in
    let region = c.in-Some.region in
    let next = next_there s now c.regions.from region c.next_to_clean.result inv.geometry c.next_to_clean.ensures c.in-Some.is in
    clears_more s.geometry (counts_of s) (with_region region false (bits_of now.bits)) (region + 1)
    (cleared_next (counts_of s) s.geometry (counts_of now) c.regions.from inv.bits (awaits_there s now inv.awaiting) (rested_there s now inv.fresh c.requires.rested) region next
    (idle_there s now c.regions.from region inv.awaiting next) (with_region region false (bits_of now.bits)) (λ r low. refl))
    inv.moments
    (subst (λ (y : Geometry). AddsBits y (with_region region false (bits_of now.bits)) (g.D.Disk.moments c.regions.disk) (g.D.Disk.moments c.clean.new.disk)) inv.geometry c.clean.ensures.moments)

pub returns-in_err-clean-clause-err : goal.returns-in_err-clean-clause-err
returns-in_err-clean-clause-err g c =
    let s = c.args.self.now in
    let inv = c.regions.invariant in
    let err = subst (λ (y : Geometry). AreSameCounts y (counts_of c.clean.new.self) (counts_of c.regions.self)) inv.geometry c.in_err-clean.ensures.err in
    on_err_always c.from_residual.result (record {
      count = c.regions.from;
      counts = record {
        set_bits = λ r low. err.set_bits r low ∙ inv.bits r low;
        awaiting = λ r low. err.awaiting r low ∙ awaits_there s c.regions.self inv.awaiting r;
        fresh = λ r low. err.fresh r low ∙ ap (λ (set : Regions). has_region set r) inv.fresh;
      };
    })

pub returns-clause-counts : goal.returns-clause-counts
returns-clause-counts g c =
    let s = c.args.self.now in
    let now = c.regions.self in
    let inv = c.regions.invariant in
    let none = none_there s now c.regions.from c.next_to_clean.result inv.geometry c.next_to_clean.ensures c.in_default.is in
    record {
      set_bits = cleared_all (counts_of s) s.geometry (counts_of now) c.regions.from inv.bits (awaits_there s now inv.awaiting) (rested_there s now inv.fresh c.requires.rested) none;
      awaiting = λ r low. awaits_there s now inv.awaiting r;
      fresh = λ r low. rw inv.fresh refl;
    }

pub returns-clause-cleaned : goal.returns-clause-cleaned
returns-clause-cleaned g c d marked rested stands =
    let s = c.args.self.now in
    let now = c.regions.self in
    let inv = c.regions.invariant in
    let tags = given_tags c.args.tags.now in
    let there = stands.geometry ∙ c.requires.same in
    let awaits = awaits_there s now inv.awaiting in
    let rests = rested_there s now inv.fresh c.requires.rested in
    let none = none_there s now c.regions.from c.next_to_clean.result inv.geometry c.next_to_clean.ensures c.in_default.is in
    let counts : AreSameCounts s.geometry (counts_of now) (clean_all (counts_of s)) = record {
      set_bits = cleared_all (counts_of s) s.geometry (counts_of now) c.regions.from inv.bits awaits rests none;
      awaiting = λ r low. awaits r;
      fresh = λ r low. rw inv.fresh refl;
    } in
    record {
      geometry = stands.geometry;
      regions_ = regions_same s.geometry (with_cleared d) (counts_of now) (clean_all (counts_of s)) there counts (regions_cleared d (counts_of s) stands.regions_);
      now = close_ends d marked (counts_of s) s.geometry there stands.regions_ rested tags (g.D.Disk.moments c.regions.disk) c.regions.from inv.low
          (λ r above low. passed (counts_of s) s.geometry (counts_of now) c.regions.from inv.bits awaits rests r above low (none r above low)) (inv.keeps d marked rested stands);
    }
