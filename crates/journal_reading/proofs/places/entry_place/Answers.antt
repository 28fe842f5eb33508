use Rattle.std.proofs.Common.{◌≡◌, ◌/◌, ◌%◌, ◌<◌, ◌^◌, ℕ, Some, List, get_or, length, ap, sym, ◌∙◌, arith}
use Rattle.std.proofs.lemmas.Nat.{div_below}
use Rattle.image_model.specs.Cells.{entry_place as place}
use Rattle.image_model.specs.Geometry.{Geometry, section_entries}
use Rattle.image_model.specs.Walk.{sections_of}
use Rattle.journal_reading.specs.Places.{places_of}
use Rattle.journal_reading.proofs.PlacesLemmas.{entries_few, length-places, place-at, some_entries, tells_walk}
use Rattle.journal_reading.proofs.places.entry_place.Goals as goal
use Rattle.journal_reading.proofs.places.entry_place.Goals.{then-at-count, else-at-count}

-- There are entries where one has this number, and its section is one of the walk.
some_there : (g : Geometry) (walk : List (ℕ × ℕ)) (k : ℕ) → k < length (places_of g walk) → 0 < section_entries g.shape
some_there g walk k low = some_entries (section_entries g.shape) (length (sections_of walk)) k (let many = length-places g walk in omega arith)

at_there : (g : Geometry) (walk : List (ℕ × ℕ)) (k : ℕ) → k < length (places_of g walk) → k / section_entries g.shape < length (sections_of walk)
at_there g walk k low = div_below k (section_entries g.shape) (length (sections_of walk)) (some_there g walk k low) (let many = length-places g walk in omega arith)

pub nonzero_div-at : goal.nonzero_div-at
nonzero_div-at c =
    let g = c.args.geometry.now in
    let entries : c.shape-entries.result.entries ≡ section_entries g.shape = c.shape-entries.ensures.is_shape.entries ∙ ap section_entries c.shape-entries.ensures.shape in
    omega (arith, entries, some_there g c.args.walk.now c.args.k c.requires.k)

pub overflow_add-section-else-at-count : goal.overflow_add-section-else-at-count
overflow_add-section-else-at-count c =
    let g = c.args.geometry.now in
    let walk = c.args.walk.now in
    let entries : c.shape-entries.result.entries ≡ section_entries g.shape = c.shape-entries.ensures.is_shape.entries ∙ ap section_entries c.shape-entries.ensures.shape in
    let told = tells_walk g walk c.requires.walk in
    let few = entries_few g (2 ^ 48) c.requires.geometry in
    let at = at_there g walk c.args.k c.requires.k in
    let same : c.args.k / c.shape-entries.result.entries ≡ c.args.k / section_entries g.shape = ap (λ (n : ℕ). c.args.k / n) entries in
    omega (arith, same, at, told.count, told.second_end, told.second_order, few.0)

pub nonzero_rem-result : goal.nonzero_rem-result
nonzero_rem-result c =
    let g = c.args.geometry.now in
    let entries : c.shape-entries.result.entries ≡ section_entries g.shape = c.shape-entries.ensures.is_shape.entries ∙ ap section_entries c.shape-entries.ensures.shape in
    omega (arith, entries, some_there g c.args.walk.now c.args.k c.requires.k)

pub returns : goal.returns
returns c =
    let g = c.args.geometry.now in
    let walk = c.args.walk.now in
    let k = c.args.k in
    let entries : c.shape-entries.result.entries ≡ section_entries g.shape = c.shape-entries.ensures.is_shape.entries ∙ ap section_entries c.shape-entries.ensures.shape in
    let told = tells_walk g walk c.requires.walk in
    let at = at_there g walk k c.requires.k in
    let same : k / c.shape-entries.result.entries ≡ k / section_entries g.shape = ap (λ (n : ℕ). k / n) entries in
    let section : get_or (sections_of walk) (k / section_entries g.shape) 0 ≡ c.if-at-count.section = elim c.if-at-count.branch [
      | then-at-count w ↦ let here = told.first (k / section_entries g.shape) (omega (arith, same, w.if-at-count.true)) in omega (arith, here, same, w.section-is)
      | else-at-count w ↦ let here = told.second (k / section_entries g.shape) (omega (arith, same, w.if-at-count.false)) at in omega (arith, here, same, w.section-is)
    ] in
    place-at g walk k c.requires.k
    ∙ ap (λ (n : ℕ). Some (place n (k % section_entries g.shape))) section
    ∙ ap (λ (n : ℕ). Some (place c.if-at-count.section (k % n))) (sym entries)
