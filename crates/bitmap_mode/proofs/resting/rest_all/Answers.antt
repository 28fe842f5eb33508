use Rattle.std.proofs.Common.{inl, inr, sym, ◌∙◌, subst, arith}
use Rattle.std.proofs.lemmas.Bool.{cases_lt}
use Rattle.dirty_bitmap.specs.Regions.{Regions, has_region}
use Rattle.bitmap_mode.specs.States.{AreToClean, counts_by}
use Rattle.recalculation.proofs.FindLemmas.{next_found, next_none}
use Rattle.bitmap_mode.proofs.FindLemmas.{below_next}
use Rattle.bitmap_mode.proofs.StatesLemmas.{clean_if_set, clean_unless_awaiting, rested_in, rested_out}
use Rattle.bitmap_mode.proofs.resting.rest_all.Goals as goal
use Rattle.bitmap_mode.proofs.resting.rest_all.Goals.{then-is_set+then-not-awaits, else-is_set, else-is_set-via-then-is_set+else-not-awaits, else-is_set-via-else-is_set}

pub remove-requires : goal.remove-requires
remove-requires c = (next_found (has_region c.fresh.fresh) c.fresh.fresh.size c.fresh.from c.in-Some.region c.next.result c.next.ensures c.in-Some.is).inside

pub is_set-requires : goal.is_set-requires
is_set-requires c =
    let next = next_found (has_region c.fresh.fresh) c.fresh.fresh.size c.fresh.from c.in-Some.region c.next.result c.next.ensures c.in-Some.is in
    rw c.requires.bits (rw (← c.requires.fresh) (rw (← c.fresh.invariant.size) next.inside))

pub awaits-requires : goal.awaits-requires
awaits-requires c =
    let next = next_found (has_region c.fresh.fresh) c.fresh.fresh.size c.fresh.from c.in-Some.region c.next.result c.next.ensures c.in-Some.is in
    rw (← c.requires.fresh) (rw (← c.fresh.invariant.size) next.inside)

pub insert-requires : goal.insert-requires
insert-requires c =
    let next = next_found (has_region c.fresh.fresh) c.fresh.fresh.size c.fresh.from c.in-Some.region c.next.result c.next.ensures c.in-Some.is in
    rw c.fresh.invariant.clean.0 (rw (← c.requires.fresh) (rw (← c.fresh.invariant.size) next.inside))

pub overflow_add-from : goal.overflow_add-from
overflow_add-from c =
    let next = next_found (has_region c.fresh.fresh) c.fresh.fresh.size c.fresh.from c.in-Some.region c.next.result c.next.ensures c.in-Some.is in
    let inside = next.inside in
    let size = c.fresh.invariant.size in
    let few = c.requires.few in
    record { fits = omega (arith, inside, size, few) }

pub fresh-smaller : goal.fresh-smaller
fresh-smaller c =
    let next = next_found (has_region c.fresh.fresh) c.fresh.fresh.size c.fresh.from c.in-Some.region c.next.result c.next.ensures c.in-Some.is in
    let inside = next.inside in
    let above = next.above in
    let size = c.remove.ensures.size in
    omega (arith, inside, above, size)

pub fresh-preserved : goal.fresh-preserved
fresh-preserved c =
    let next = next_found (has_region c.fresh.fresh) c.fresh.fresh.size c.fresh.from c.in-Some.region c.next.result c.next.ensures c.in-Some.is in
    let g = c.args.awaiting.now.geometry in
    let bits = c.args.bits.now in
    let awaiting = c.args.awaiting.now in
    let fresh = c.fresh.fresh in
    let fresh_ = c.remove.new.self in
    let set = c.fresh.to_clean in
    let r = c.in-Some.region in
    record {
      size = c.remove.ensures.size ∙ c.fresh.invariant.size;
      below = below_next (has_region fresh) (has_region fresh_) fresh.size c.fresh.from r next c.remove.ensures.has c.fresh.invariant.below;
      clean = elim c.if-is_set.branch [
        | then-is_set+then-not-awaits w ↦
            subst (λ (x : Regions). AreToClean g bits awaiting fresh_ x) (sym w.to_clean-is)
            (rested_in g bits awaiting fresh fresh_ set r next.passes c.remove.ensures.has c.fresh.invariant.clean w.insert.new.self
            (sym c.is_set.ensures ∙ w.if-is_set.true) (sym w.awaits.ensures ∙ w.if-not-awaits.true) w.insert.ensures.size w.insert.ensures.has)
        | else-is_set w ↦
            let out = rested_out g bits awaiting fresh fresh_ set r next.passes c.remove.ensures.has c.fresh.invariant.clean in
            subst (λ (x : Regions). AreToClean g bits awaiting fresh_ x) (sym w.to_clean-is) (elim w.else-is_set.branch [
              | else-is_set-via-then-is_set+else-not-awaits w' ↦ out (clean_unless_awaiting (counts_by bits awaiting fresh_) r (sym w'.awaits.ensures ∙ w'.if-not-awaits.false))
              | else-is_set-via-else-is_set w' ↦ out (clean_if_set (counts_by bits awaiting fresh_) r (sym c.is_set.ensures ∙ w'.if-is_set.false))
            ])
      ];
    }

pub returns-clause-none : goal.returns-clause-none
returns-clause-none c region low = elim (cases_lt region c.fresh.from) [
  | inl before ↦ c.fresh.invariant.below region before
  | inr behind ↦ next_none (has_region c.fresh.fresh) c.fresh.fresh.size c.fresh.from c.next.result c.next.ensures c.in_default.is region behind low
]
