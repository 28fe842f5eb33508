use Rattle.std.proofs.Common.{◌≡◌, ◌+◌, ◌*◌, ◌-◌, ◌≤◌, ◌^◌, ℕ, get_or, ap, sym, ◌∙◌, arith}
use Rattle.std.proofs.Math.Nat.{mul-le-mul_right}
use Rattle.image_model.specs.Geometry.{section_entries}
use Rattle.journal_reading.proofs.PlacesLemmas.{entries_few, length-places, tells_walk}
use Rattle.journal_reading.proofs.places.entry_count.Goals as goal

pub overflow_add-result : goal.overflow_add-result
overflow_add-result c =
    let told = tells_walk c.args.geometry.now c.args.walk.now c.requires.walk in
    let few = entries_few c.args.geometry.now (2 ^ 48) c.requires.geometry in
    omega (arith, told.first_end, told.second_end, few.0)

pub overflow_mul-result : goal.overflow_mul-result
overflow_mul-result c =
    let g = c.args.geometry.now in
    let walk = c.args.walk.now in
    let told = tells_walk g walk c.requires.walk in
    let few = entries_few g (2 ^ 48) c.requires.geometry in
    let entries : c.shape.result.entries ≡ section_entries g.shape = c.shape.ensures.is_shape.entries ∙ ap section_entries c.shape.ensures.shape in
    let count = ((get_or walk 0 (0, 0)).1 - (get_or walk 0 (0, 0)).0) + ((get_or walk 1 (0, 0)).1 - (get_or walk 1 (0, 0)).0) in
    let low : count ≤ 2 * g.sections = omega (arith, told.first_end, told.second_end) in
    let most : count * section_entries g.shape ≤ 2 * g.sections * section_entries g.shape = mul-le-mul_right (section_entries g.shape) low in
    let same : count * c.shape.result.entries ≡ count * section_entries g.shape = ap (λ (n : ℕ). count * n) entries in
    omega (arith, same, most, few.1)

pub returns : goal.returns
returns c =
    let g = c.args.geometry.now in
    let walk = c.args.walk.now in
    let told = tells_walk g walk c.requires.walk in
    let entries : c.shape.result.entries ≡ section_entries g.shape = c.shape.ensures.is_shape.entries ∙ ap section_entries c.shape.ensures.shape in
    let count = ((get_or walk 0 (0, 0)).1 - (get_or walk 0 (0, 0)).0) + ((get_or walk 1 (0, 0)).1 - (get_or walk 1 (0, 0)).0) in
    ap (λ (n : ℕ). count * n) entries
    ∙ ap (λ (n : ℕ). n * section_entries g.shape) (sym told.count)
    ∙ sym (length-places g walk)
