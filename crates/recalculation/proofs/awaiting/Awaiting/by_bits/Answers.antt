use Rattle.std.proofs.Common.{not, refl, ◌∙◌, ap, ℕ, List}
use Rattle.image_model.specs.Bitmap.{is_bit_set}
use Rattle.dirty_bitmap.specs.Regions.{Regions, has_region}
use Rattle.recalculation.proofs.AwaitingLemmas.{bits_opening, no_next, none_left, some_next}
use Rattle.recalculation.proofs.awaiting.Awaiting.by_bits.Goals as goal

pub returns-then-is_none-clause-opening : goal.returns-then-is_none-clause-opening
returns-then-is_none-clause-opening c =
    none_left c.args.fields.now c.args.geometry.now _ _ c.of-places.ensures.geometry c.of-places.ensures.first refl
    (no_next c.args.fields.now c.args.geometry.now c.args.bits.now c.next_set.result c.requires.bits c.next_set.ensures (ap not (c.is_none.ensures ∙ ap not c.if-is_none.true)))

pub returns-in_err-set-clause-none : goal.returns-in_err-set-clause-none
returns-in_err-set-clause-none c none = absurd (some_next c.args.fields.now c.args.geometry.now c.args.bits.now c.next_set.result c.requires.bits c.next_set.ensures (ap not (c.is_none.ensures ∙ ap not c.if-is_none.false)) none)

pub returns-in_err-left-clause-none : goal.returns-in_err-left-clause-none
returns-in_err-left-clause-none c none = absurd (some_next c.args.fields.now c.args.geometry.now c.args.bits.now c.next_set.result c.requires.bits c.next_set.ensures (ap not (c.is_none.ensures ∙ ap not c.if-is_none.false)) none)

pub returns-clause-opening : goal.returns-clause-opening
returns-clause-opening c =
    bits_opening c.args.fields.now c.args.geometry.now c.args.bits.now _ c.of-places.ensures.geometry c.of-places.ensures.first
    (λ region low. ap (λ (s : Regions). has_region s region) (c.in_ok-left.ensures.set ∙ c.in_ok-set.ensures) ∙ ap (λ (bytes : List ℕ). is_bit_set bytes region) c.regions.ensures.bytes)
