-- The places of the entries of a walk, by their numbers.
use Rattle.std.proofs.Common.{◌≡◌, ◌⊎◌, inl, inr, ℕ, zero, suc, ◌+◌, ◌-◌, ◌*◌, ◌/◌, ◌%◌, ◌^◌, ◌<◌, ◌≤◌, Bool, true, false, refl, sym, ◌∙◌, ap, subst, arith, Some, Result, Ok, Err, List, [], ◌∷◌, ◌++◌, length, map, get_or, slice_get, length-append}
use Rattle.std.specs.List.{range_with_len, flat_map}
use Rattle.std.proofs.lemmas.Bool.{cases_lt, lt-ltb, le-ltb}
use Rattle.std.proofs.lemmas.List.{get_or_append_left, get_or-append-add}
use Rattle.std.proofs.lemmas.List.FromFn.{length-range_with_len, get_or-range_with_len, length-map-range_with_len, get_or-map-range_with_len}
use Rattle.std.proofs.lemmas.Nat.{div-add-mod', div_below}
use Rattle.std.proofs.lemmas.Option.{same_Some, slice_get-get_or, slice_get_within}
use Rattle.image_model.specs.declared.entry_place.EntryPlace.{EntryPlace}
use Rattle.image_model.specs.declared.journal_plan.Plan.{Plan}
use Rattle.image_model.specs.declared.scan_fault.ScanFault.{ScanFault}
use Rattle.image_model.specs.Cells.{entry_place, places_in}
use Rattle.image_model.specs.Geometry.{Geometry, IsGeometry, section_entries, section_sectors}
use Rattle.image_model.specs.Scan.{Grid, blank_number, blank_plan, numbers_of, scan_fault_of, walk_of_grid}
use Rattle.image_model.specs.Walk.{is_wholly, later, occurs, plan_by, plan_of, range, reach, sections_of, whole_sections}
use Rattle.std.proofs.Math.Nat.{mul-le-mul_left}
use Rattle.image_model.proofs.Bounds.{has_entries}
use Rattle.image_model.proofs.BelowLemmas.{front_le}
use Rattle.image_model.proofs.NumberLemmas.{cases_option}
use Rattle.image_model.proofs.WalkLemmas.{plan_newest}
use Rattle.journal_reading.specs.Grids.{IsGridFor}
use Rattle.journal_reading.specs.Places.{IsWalk, places_of}

-- ---- the entries of a list of sections

-- The places of the entries of some sections.
abbrev rows : ℕ → List ℕ → List EntryPlace
rows entries sections = flat_map (places_in entries) sections

length-rows : (entries : ℕ) (sections : List ℕ) → length (rows entries sections) ≡ length sections * entries
length-rows entries [] = omega arith
length-rows entries (x ∷ xs) =
    let first : length (places_in entries x) ≡ entries = length-map-range_with_len {X = EntryPlace} (entry_place x) 0 entries in
    omega (arith, length-append (places_in entries x) (rows entries xs), first, length-rows entries xs)

get_or-rows : (entries : ℕ) (sections : List ℕ) (at n : ℕ) (d : EntryPlace) → at < length sections → n < entries
    → get_or (rows entries sections) (at * entries + n) d ≡ entry_place (get_or sections at 0) n
get_or-rows entries [] at n d low inside = absurd (omega arith)
get_or-rows entries (x ∷ xs) zero n d low inside =
    let first : length (places_in entries x) ≡ entries = length-map-range_with_len {X = EntryPlace} (entry_place x) 0 entries in
    let here : 0 * entries + n ≡ n = omega arith in
    ap (λ (k : ℕ). get_or (places_in entries x ++ rows entries xs) k d) here
    ∙ get_or_append_left (places_in entries x) (rows entries xs) d n (omega arith)
    ∙ get_or-map-range_with_len {X = EntryPlace} (entry_place x) 0 entries n n d inside (omega arith)
get_or-rows entries (x ∷ xs) (suc at) n d low inside =
    let first : length (places_in entries x) ≡ entries = length-map-range_with_len {X = EntryPlace} (entry_place x) 0 entries in
    let behind : suc at * entries + n ≡ length (places_in entries x) + (at * entries + n) = omega arith in
    ap (λ (k : ℕ). get_or (places_in entries x ++ rows entries xs) k d) behind
    ∙ get_or-append-add (places_in entries x) (rows entries xs) (at * entries + n) d
    ∙ get_or-rows entries xs at n d (omega arith) inside

-- ---- the sections of a walk

module _ (a b c d : ℕ) (first : a ≤ b) (second : c ≤ d) where
  abbrev two : List (ℕ × ℕ)
  two = (a, b) ∷ (c, d) ∷ []

  abbrev behind : List ℕ
  behind = range_with_len c (d - c) ++ []

  length-behind : length behind ≡ d - c
  length-behind = length-append (range_with_len c (d - c)) [] ∙ (let long = length-range_with_len c (d - c) in omega arith)

  pub length-two : length (sections_of two) ≡ (b - a) + (d - c)
  length-two =
      let front = length-range_with_len a (b - a) in
      omega (arith, length-append (range_with_len a (b - a)) behind, front, length-behind)

  -- The sections of the first range,
  pub two-first : (at : ℕ) → at < b - a → get_or (sections_of two) at 0 ≡ a + at
  two-first at low =
      let front = length-range_with_len a (b - a) in
      get_or_append_left (range_with_len a (b - a)) behind 0 at (omega arith)
      ∙ get_or-range_with_len a (b - a) at 0 low

  -- and then those of the second.
  pub two-second : (at : ℕ) → b - a ≤ at → at < (b - a) + (d - c) → get_or (sections_of two) at 0 ≡ c + (at - (b - a))
  two-second at past low =
      let front = length-range_with_len a (b - a) in
      let rest = at - (b - a) in
      let place : at ≡ length (range_with_len a (b - a)) + rest = omega arith in
      let inside : rest < d - c = omega arith in
      ap (λ (k : ℕ). get_or (sections_of two) k 0) place
      ∙ get_or-append-add (range_with_len a (b - a)) behind rest 0
      ∙ get_or_append_left (range_with_len c (d - c)) [] 0 rest (let long = length-range_with_len c (d - c) in omega arith)
      ∙ get_or-range_with_len c (d - c) rest 0 inside

  pub two-inside : (sections at : ℕ) → b ≤ sections → d ≤ sections → at < length (sections_of two) → get_or (sections_of two) at 0 < sections
  two-inside sections at first_end second_end low = elim (cases_lt at (b - a)) [
    | inl under ↦ let is = two-first at under in omega arith
    | inr past ↦ let is = two-second at past (omega (arith, length-two)) in omega (arith, length-two)
  ]

-- ---- places

-- How many there are.
pub length-places : (g : Geometry) (walk : List (ℕ × ℕ)) → length (places_of g walk) ≡ length (sections_of walk) * section_entries g.shape
length-places g walk = length-rows (section_entries g.shape) (sections_of walk)

pub some_entries : (entries sections k : ℕ) → k < sections * entries → 0 < entries
some_entries zero sections k under = absurd (omega arith)
some_entries (suc entries) sections k under = omega arith

-- The place of one, by its number.
pub place-at : (g : Geometry) (walk : List (ℕ × ℕ)) (k : ℕ) → k < length (places_of g walk)
    → slice_get (places_of g walk) k ≡ Some (entry_place (get_or (sections_of walk) (k / section_entries g.shape) 0) (k % section_entries g.shape))
place-at g walk k low =
    let entries = section_entries g.shape in
    let many = length-places g walk in
    let some : 0 < entries = some_entries entries (length (sections_of walk)) k (omega arith) in
    let at : k / entries < length (sections_of walk) = div_below k entries (length (sections_of walk)) some (omega arith) in
    let is : k / entries * entries + k % entries ≡ k = div-add-mod' k entries in
    slice_get-get_or (places_of g walk) k (entry_place 0 0) low
    ∙ ap (λ (m : ℕ). Some (get_or (places_of g walk) m (entry_place 0 0))) (sym is)
    ∙ ap (λ (x : EntryPlace). Some x) (get_or-rows entries (sections_of walk) (k / entries) (k % entries) (entry_place 0 0) at (omega arith))

-- It is a place in the journal.
pub place-inside : (g : Geometry) (walk : List (ℕ × ℕ)) (k : ℕ) (at : EntryPlace) → IsWalk g.sections walk
    → slice_get (places_of g walk) k ≡ Some at → (at.section < g.sections) × (at.entry < section_entries g.shape)
place-inside g walk k found is there =
    let entries = section_entries g.shape in
    let low = slice_get_within (places_of g walk) k found there in
    let many = length-places g walk in
    let some : 0 < entries = some_entries entries (length (sections_of walk)) k (omega arith) in
    let at : k / entries < length (sections_of walk) = div_below k entries (length (sections_of walk)) some (omega arith) in
    let same = same_Some _ _ (sym there ∙ place-at g walk k low) in
    let section = ap (λ (x : EntryPlace). x.section) same in
    let entry = ap (λ (x : EntryPlace). x.entry) same in
    let inside = inside_of (sections_of walk) (ap sections_of is.is) (k / entries) at in
    (omega arith, omega arith)
  where
    inside_of : (xs : List ℕ) → xs ≡ sections_of (is.first ∷ is.second ∷ []) → (at : ℕ) → at < length xs → get_or xs at 0 < g.sections
    inside_of xs e at low =
        let long = ap length e in
        let here = ap (λ (ys : List ℕ). get_or ys at 0) e in
        let inside = two-inside is.first.0 is.first.1 is.second.0 is.second.1 is.first_order is.second_order g.sections at is.first_end is.second_end (omega arith) in
        omega arith

-- ---- a walk by its two ranges

-- What a walk is in numbers.
pub record TellsWalk (g : Geometry) (walk : List (ℕ × ℕ)) : Type 0 where
  pub first_order : (get_or walk 0 (0, 0)).0 ≤ (get_or walk 0 (0, 0)).1
  pub first_end : (get_or walk 0 (0, 0)).1 ≤ g.sections
  pub second_order : (get_or walk 1 (0, 0)).0 ≤ (get_or walk 1 (0, 0)).1
  pub second_end : (get_or walk 1 (0, 0)).1 ≤ g.sections
  pub count : length (sections_of walk)
      ≡ ((get_or walk 0 (0, 0)).1 - (get_or walk 0 (0, 0)).0) + ((get_or walk 1 (0, 0)).1 - (get_or walk 1 (0, 0)).0)
  pub first : (at : ℕ) → at < (get_or walk 0 (0, 0)).1 - (get_or walk 0 (0, 0)).0 → get_or (sections_of walk) at 0 ≡ (get_or walk 0 (0, 0)).0 + at
  pub second : (at : ℕ) → (get_or walk 0 (0, 0)).1 - (get_or walk 0 (0, 0)).0 ≤ at → at < length (sections_of walk)
      → get_or (sections_of walk) at 0 ≡ (get_or walk 1 (0, 0)).0 + (at - ((get_or walk 0 (0, 0)).1 - (get_or walk 0 (0, 0)).0))

pub tells_walk : (g : Geometry) (walk : List (ℕ × ℕ)) → IsWalk g.sections walk → TellsWalk g walk
tells_walk g walk is = subst (TellsWalk g) (sym is.is) (record {
  first_order = is.first_order;
  first_end = is.first_end;
  second_order = is.second_order;
  second_end = is.second_end;
  count = length-two is.first.0 is.first.1 is.second.0 is.second.1 is.first_order is.second_order;
  first = two-first is.first.0 is.first.1 is.second.0 is.second.1 is.first_order is.second_order;
  second = λ at past low. two-second is.first.0 is.first.1 is.second.0 is.second.1 is.first_order is.second_order at past
      (omega (arith, low, length-two is.first.0 is.first.1 is.second.0 is.second.1 is.first_order is.second_order));
})

-- The journal has few entries, used or not.
pub entries_few : (g : Geometry) (sectors : ℕ) → IsGeometry g sectors → (g.sections ≤ 2 ^ 20) × (g.sections * section_entries g.shape ≤ 2 ^ 20)
entries_few g sectors geometry =
    let has = has_entries g.shape geometry.spb.0 geometry.spb.1 geometry.tag_size.0 geometry.tag_size.1 in
    let some = has.sectors_low in
    let is = has.sectors_is in
    let wide : section_entries g.shape * 1 ≤ section_entries g.shape * g.shape.spb = mul-le-mul_left (section_entries g.shape) geometry.spb.0 in
    let entries : section_entries g.shape ≤ section_sectors g.shape = omega arith in
    let all : g.sections * section_entries g.shape ≤ g.sections * section_sectors g.shape = mul-le-mul_left g.sections entries in
    let one : g.sections * 1 ≤ g.sections * section_sectors g.shape = mul-le-mul_left g.sections (let low : 1 ≤ section_sectors g.shape = omega arith in low) in
    let most = geometry.journal in
    (omega arith, omega arith)

-- ---- the walk of a plan

blank_or_plan : (grid : Grid) (plan : Plan) → walk_of_grid grid ≡ Ok plan
    → ((number : ℕ) × (blank_plan number ≡ plan)) ⊎ (plan_of grid.sections grid.sectors (numbers_of grid) ≡ Some plan)
unfolding walk_of_grid
blank_or_plan grid plan e = elim (cases_option (blank_number grid)) [
  | inr blank ↦ inl (blank.0, told _ _ (rw blank.1 at e))
  | inl none ↦ elim (cases_option (plan_of grid.sections grid.sectors (numbers_of grid))) [
    | inr found ↦ inr (found.1 ∙ ap (λ (x : Plan). Some x) (told _ _ (rw (none, found.1) at e)))
    | inl lost ↦ absurd (refused (rw (none, lost) at e))
  ]
]
  where
    told : (x y : Plan) → (let r : Result Plan ScanFault = Ok x in r) ≡ Ok y → x ≡ y
    told x y same = cc

    refused : (let r : Result Plan ScanFault = Err (scan_fault_of grid) in r) ≡ Ok plan → ⊥
    refused same = cc

empty_walk : (sections : ℕ) → IsWalk sections ((0, 0) ∷ (0, 0) ∷ [])
empty_walk sections = record { first = (0, 0); second = (0, 0); is = refl; first_order = omega arith; first_end = omega arith; second_order = omega arith; second_end = omega arith }

range_order : (a b : ℕ) → (range a b).0 ≤ (range a b).1
range_order a b = elim (cases_lt a b) [
  | inl lt ↦ rw (lt-ltb a b lt) (let le : a ≤ b = omega arith in le)
  | inr ge ↦ rw (le-ltb a b ge) (let le : 0 ≤ 0 = omega arith in le)
]

range_end : (a b : ℕ) → (range a b).1 ≤ b
range_end a b = elim (cases_lt a b) [
  | inl lt ↦ rw (lt-ltb a b lt) (let le : b ≤ b = omega arith in le)
  | inr ge ↦ rw (le-ltb a b ge) (let le : 0 ≤ b = omega arith in le)
]

walk_by : (sections reached whole number : ℕ) (has : Bool) → whole ≤ sections → IsWalk sections (plan_by sections has reached whole number).walk
walk_by sections reached whole number true low = empty_walk sections
walk_by sections reached whole number false low = record {
  first = range reached sections;
  second = range 0 whole;
  is = refl;
  first_order = range_order reached sections;
  first_end = range_end reached sections;
  second_order = range_order 0 whole;
  second_end = let le = range_end 0 whole in omega arith;
}

-- The walk of a grid is one of its sections.
pub IsWalk-grid : (grid : Grid) (plan : Plan) → walk_of_grid grid ≡ Ok plan → IsWalk grid.sections plan.walk
IsWalk-grid grid plan e =
    elim (blank_or_plan grid plan e) [
      | inl blank ↦ subst (λ (p : Plan). IsWalk grid.sections p.walk) blank.1 (empty_walk grid.sections)
      | inr found ↦
          let told = (plan_newest grid.sections grid.sectors (numbers_of grid) plan found).1 in
          subst (λ (p : Plan). IsWalk grid.sections p.walk) told.2
          (walk_by grid.sections (reach grid.sections grid.sectors (numbers_of grid) told.0) (whole_sections grid.sections grid.sectors (numbers_of grid) told.0) told.0
          (occurs grid.sections grid.sectors (numbers_of grid) (later 2 told.0))
          (front_le grid.sections (is_wholly grid.sectors (numbers_of grid) told.0)))
    ]

pub IsWalk-fits : (g : Geometry) (grid : Grid) (plan : Plan) → IsGridFor g grid → walk_of_grid grid ≡ Ok plan → IsWalk g.sections plan.walk
IsWalk-fits g grid plan fits e = subst (λ (n : ℕ). IsWalk n plan.walk) fits.sections (IsWalk-grid grid plan e)
