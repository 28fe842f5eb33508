use Rattle.std.proofs.Common.{◌≡◌, ◌/◌, inl, inr, refl, ◌∙◌, ap, arith, ℕ}
use Rattle.image_model.specs.Geometry.{Shape}
use Rattle.dirty_bitmap.specs.Regions.{Regions, has_region}
use Rattle.recalculation.proofs.AwaitingLemmas.{flag_clear, flag_set, no_position, none_left, position_opening, regions_few, some_position}
use Rattle.recalculation.proofs.awaiting.Awaiting.by_position.Goals as goal
use Rattle.recalculation.proofs.awaiting.Awaiting.by_position.Goals.{then-fields-eq0-via-then-fields-eq0, then-fields-eq0-via-else-fields-eq0+then-first-blocks}

pub returns-then-fields-eq0-clause-opening : goal.returns-then-fields-eq0-clause-opening
returns-then-fields-eq0-clause-opening c =
    let fields = c.args.fields.now in
    let geometry = c.args.geometry.now in
    let spb_is = ap (λ (s : Shape). s.spb) c.shape.ensures.shape in
    let on_disk = c.of-places.ensures.places.on_disk in
    let some = rw c.of-places.ensures.geometry at on_disk.spb.0 in
    let at : c.of-places.result.first ≡ fields.recalc_sector / geometry.shape.spb = c.of-places.ensures.first ∙ ap (λ (n : ℕ). fields.recalc_sector / n) spb_is in
    none_left fields geometry _ _ c.of-places.ensures.geometry at refl (elim c.then-fields-eq0.branch [
      | then-fields-eq0-via-then-fields-eq0 w ↦ no_position fields geometry some (inl (flag_clear fields w.if-fields-eq0.true))
      | then-fields-eq0-via-else-fields-eq0+then-first-blocks w ↦ no_position fields geometry some (inr (rw (spb_is, w.blocks-else-fields-eq0.ensures.blocks) at w.if-first-blocks.true))
    ])

pub from_region-requires : goal.from_region-requires
from_region-requires c = let few = regions_few c.args.geometry.now _ c.blocks-else-fields-eq0.ensures.geometry in let is = c.regions.ensures in omega (arith, few, is)

pub returns-in_err-set-clause-none : goal.returns-in_err-set-clause-none
returns-in_err-set-clause-none c none =
    let spb_is = ap (λ (s : Shape). s.spb) c.shape.ensures.shape in
    let inside = rw (spb_is, c.blocks-else-fields-eq0.ensures.blocks) at c.if-first-blocks.false in
    absurd (some_position c.args.fields.now c.args.geometry.now c.blocks-else-fields-eq0.ensures.geometry.spb.0 (flag_set c.args.fields.now c.if-fields-eq0.false) (omega (arith, inside)) none)

pub returns-in_err-left-clause-none : goal.returns-in_err-left-clause-none
returns-in_err-left-clause-none c none =
    let spb_is = ap (λ (s : Shape). s.spb) c.shape.ensures.shape in
    let inside = rw (spb_is, c.blocks-else-fields-eq0.ensures.blocks) at c.if-first-blocks.false in
    absurd (some_position c.args.fields.now c.args.geometry.now c.blocks-else-fields-eq0.ensures.geometry.spb.0 (flag_set c.args.fields.now c.if-fields-eq0.false) (omega (arith, inside)) none)

pub returns-clause-opening : goal.returns-clause-opening
returns-clause-opening c =
    let fields = c.args.fields.now in
    let geometry = c.args.geometry.now in
    let spb_is = ap (λ (s : Shape). s.spb) c.shape.ensures.shape in
    let inside = rw (spb_is, c.blocks-else-fields-eq0.ensures.blocks) at c.if-first-blocks.false in
    let at : c.of-places.result.first ≡ fields.recalc_sector / geometry.shape.spb = c.of-places.ensures.first ∙ ap (λ (n : ℕ). fields.recalc_sector / n) spb_is in
    position_opening fields geometry c.blocks-else-fields-eq0.ensures.geometry.spb.0 (flag_set fields c.if-fields-eq0.false) (omega (arith, inside)) _ c.of-places.ensures.geometry at
    (λ region low. ap (λ (s : Regions). has_region s region) c.in_ok-left.ensures.set ∙ (rw (c.region_of.ensures, spb_is) at c.in_ok-set.ensures.has) region (let is = c.regions.ensures in omega (arith, low, is)))
