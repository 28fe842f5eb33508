-- The scan of a grid follows the rules in words.
use Rattle.std.proofs.Common.{◌≡◌, ◌≢◌, ◌⊎◌, inl, inr, ℕ, ◌+◌, ◌-◌, ◌*◌, ◌/◌, ◌%◌, ◌<◌, Bool, true, false, not, ◌&&◌, ◌||◌, refl, sym, ◌∙◌, ap, subst, arith, nat_lt, Option, Some, None, is_some, is_none, find, List, [], ◌∷◌, length, map, slice_index_or, append-nil}
use Rattle.std.specs.List.{position_or_len}
use Rattle.std.proofs.lemmas.Bool.{cases_Bool, cases_eq, cases_lt, true≢false, and_from, and_parts, or_left, or_right, or_cases, ltb-true, ltb-false, lt-ltb, eq-eqb, ne_eqb, not-true, not_from_false, false_from_ne_true}
use Rattle.std.proofs.lemmas.List.Sums.{fails_before_first, passes_at_first}
use Rattle.std.proofs.lemmas.Nat.{div-add-mod', mod_below, div_below, mul-add-lt}
use Rattle.std.proofs.lemmas.Option.{none-some, same_Some}
use Rattle.image_model.specs.declared.sector_place.SectorPlace.{SectorPlace}
use Rattle.image_model.specs.CommitId.{commit_numbers}
use Rattle.image_model.specs.Below.{any_below}
use Rattle.image_model.specs.Walk.{bears, is_numbered, occurs, later, newest, reach, whole_sections, state_at, range, plan_at, plan_of, sections_of}
use Rattle.image_model.specs.declared.journal_plan.State.{State}
use Rattle.image_model.specs.declared.journal_plan.State.TheVariants.{Rest, Mixed, Erasing}
use Rattle.image_model.specs.declared.journal_plan.Plan.{Plan}
use Rattle.image_model.specs.Scan.{SectorCell, Grid, IsGrid, cell_at, cell_number, number_at, found_in, is_zero, numbers_of, is_blank_sector, is_blank_with, blank_number, first_place, scan_fault_of, walk_of_grid, sector_place}
use Rattle.image_model.specs.declared.sector_cell.Cell.TheVariants.{Number, Zero, Other}
use Rattle.image_model.specs.Tables.{IsWalkOfTwo, IsBlankSector, IsBlank, IsNumbered, IsPlanOf, IsFirstPlace, IsFaultOf, ScanLaw}
use Rattle.image_model.proofs.BelowLemmas.{any_at, any_found, all_from, all_at, all_or_some}
use Rattle.image_model.proofs.NumberLemmas.{four_numbers, first_of_four, first_of_four_tells, cases_option, newest_none}
use Rattle.image_model.proofs.WalkLemmas.{bears_it, bears_is, some_is, numbered_from, numbered_at, occurs_at, occurs_found, plan_is, plan_at_two, plan_newest, walk_runs}
use Rattle.image_model.proofs.TablesLemmas.{walk_of_two, rests_at_start, rests_inside, rest_plan}

-- ---- sectors of the journal

-- A sector of the journal is one of a section.
pub place_inside : (sections sectors k : ℕ) → 0 < sectors → k < sections * sectors → (k / sectors < sections) × (k % sectors < sectors) × (k / sectors * sectors + k % sectors ≡ k)
place_inside n s k wide low = (div_below k s n wide low, mod_below k s wide, div-add-mod' k s)

-- A place in a section is a sector of the journal.
pub place_low : (sections sectors section sector : ℕ) → section < sections → sector < sectors → section * sectors + sector < sections * sectors
place_low n s i j low narrow = omega (arith, mul-add-lt i s j n low narrow)

is_zero_tells : (cell : SectorCell) → is_zero cell ≡ true → cell ≡ Zero
is_zero_tells (Number number) e = absurd (true≢false (sym e))
is_zero_tells Zero e = refl
is_zero_tells (Other found) e = absurd (true≢false (sym e))

none_is : (o : Option ℕ) → is_none o ≡ true → o ≡ None
none_is None e = refl
none_is (Some x) e = absurd (true≢false (sym e))

none_is_not : (o : Option ℕ) → is_none o ≡ false → o ≢ None
none_is_not None e same = true≢false e
none_is_not (Some x) e same = none-some x (sym same)

some_from : (o : Option ℕ) → o ≢ None → is_some o ≡ true
some_from None ne = absurd (ne refl)
some_from (Some x) ne = refl

-- The test of a blank sector says that it is one,
blank_sector_is : (grid : Grid) (k : ℕ) → is_blank_sector grid k ≡ true → IsBlankSector grid k
blank_sector_is grid k e = let parts = and_parts (nat_lt k grid.bitmap) (is_zero (cell_at grid k)) e in (ltb-true k grid.bitmap parts.0, is_zero_tells (cell_at grid k) parts.1)

-- and passes where it is.
blank_sector_at : (grid : Grid) (k : ℕ) → IsBlankSector grid k → is_blank_sector grid k ≡ true
blank_sector_at grid k is = and_from (nat_lt k grid.bitmap) (is_zero (cell_at grid k)) (lt-ltb k grid.bitmap is.0) (ap is_zero is.1)

-- ---- blanks

module _ (grid : Grid) (is_grid : IsGrid grid) where
  is_blank_with_at : (number k : ℕ) → is_blank_with grid number ≡ true → k < length grid.cells → (IsBlankSector grid k → ⊥) → number_at grid k ≡ Some number
  is_blank_with_at number k e low other = elim (or_cases _ _ (all_at (length grid.cells) (λ k. is_blank_sector grid k || bears (number_at grid k) number) e k low)) [
    | inl blank ↦ absurd (other (blank_sector_is grid k blank))
    | inr has ↦ bears_is (number_at grid k) number has
  ]

  is_blank_with_from : (number : ℕ) → ((k : ℕ) → k < length grid.cells → (IsBlankSector grid k → ⊥) → number_at grid k ≡ Some number) → is_blank_with grid number ≡ true
  is_blank_with_from number each = all_from (length grid.cells) (λ k. is_blank_sector grid k || bears (number_at grid k) number) (λ k low. elim (cases_Bool (is_blank_sector grid k)) [
    | inl blank ↦ or_left _ _ blank
    | inr other ↦ or_right _ _ (bears_it (number_at grid k) number (each k low (λ is. true≢false (sym (blank_sector_at grid k is) ∙ other))))
  ])

  -- Where all sectors are blank the first number is 0.
  all_blank : ((k : ℕ) → k < length grid.cells → IsBlankSector grid k) → find (is_blank_with grid) commit_numbers ≡ Some 0
  all_blank each = let zero : is_blank_with grid 0 ≡ true = is_blank_with_from 0 (λ k low other. absurd (other (each k low))) in rw zero refl

  -- Where one is not, it is the number that is borne.
  some_number : (number k : ℕ) → k < length grid.cells → (IsBlankSector grid k → ⊥) → ((k : ℕ) → k < length grid.cells → (IsBlankSector grid k → ⊥) → number_at grid k ≡ Some number)
      → find (is_blank_with grid) commit_numbers ≡ Some number
  some_number number k low other each =
      first_of_four (is_blank_with grid) number (is_grid.numbers k number (each k low other)) (is_blank_with_from number each)
      (λ q _ ne. false_from_ne_true _ (λ is. ne (same_Some _ _ (sym (is_blank_with_at q k is low other) ∙ each k low other))))

  blank_or_not : (k : ℕ) → (IsBlankSector grid k) ⊎ (IsBlankSector grid k → ⊥)
  blank_or_not k = elim (cases_Bool (is_blank_sector grid k)) [
    | inl blank ↦ inl (blank_sector_is grid k blank)
    | inr other ↦ inr (λ is. true≢false (sym (blank_sector_at grid k is) ∙ other))
  ]

  -- A blank journal is seen as one,
  pub blank_seen : (number : ℕ) → IsBlank grid number → blank_number grid ≡ Some number
  blank_seen number blank =
      let some : any_below (length grid.cells) (is_blank_sector grid) ≡ true = any_at (length grid.cells) (is_blank_sector grid) blank.some.0 blank.some.1 (blank_sector_at grid blank.some.0 blank.some.2) in
      let test = and_from _ _ some (not_from_false grid.used_outside blank.unused) in
      rw test (elim (all_or_some (length grid.cells) (IsBlankSector grid) (λ k. IsBlankSector grid k → ⊥) (λ k _. blank_or_not k)) [
        | inl all ↦ all_blank all ∙ ap Some (sym (blank.no_others all))
        | inr one ↦ some_number number one.0 one.1 one.2 blank.others
      ])

  -- and what is seen as one is blank.
  pub blank_tells : (number : ℕ) → blank_number grid ≡ Some number → IsBlank grid number
  blank_tells number e = elim (cases_Bool (any_below (length grid.cells) (is_blank_sector grid) && not grid.used_outside)) [
    | inr fails ↦ absurd (none-some number (rw fails at e))
    | inl test ↦
        let parts = and_parts _ _ test in
        let found = any_found (length grid.cells) (is_blank_sector grid) parts.0 in
        let first : find (is_blank_with grid) commit_numbers ≡ Some number = rw test at e in
        record {
          some = (found.0, found.1, blank_sector_is grid found.0 found.2);
          others = λ k. is_blank_with_at number k (first_of_four_tells (is_blank_with grid) number first).1;
          unused = not-true grid.used_outside parts.1;
          no_others = λ all. same_Some _ _ (sym first ∙ all_blank all);
        }
  ]

-- ---- plans

-- The numbers on a grid are commit numbers.
numbers_low : (grid : Grid) → IsGrid grid → (i j k : ℕ) → i < grid.sections → j < grid.sectors → numbers_of grid i j ≡ Some k → k < 4
numbers_low grid is_grid i j k low narrow = is_grid.numbers (i * grid.sectors + j) k

-- Where all sectors are numbered each cell has a number.
cells_numbered : (grid : Grid) → IsGrid grid → is_numbered grid.sections grid.sectors (numbers_of grid) ≡ true → IsNumbered grid
cells_numbered grid is_grid numbered k low none =
    let place = place_inside grid.sections grid.sectors k is_grid.has_sectors (subst (λ m. k < m) is_grid.cells low) in
    let some = some_is _ (numbered_at grid.sections grid.sectors (numbers_of grid) numbered (k / grid.sectors) (k % grid.sectors) place.0 place.1) in
    none-some some.0 (sym none ∙ ap (number_at grid) (sym place.2) ∙ some.1)

-- A plan by the numbers says what holds of the journal.
pub plan_says : (grid : Grid) → IsGrid grid → (plan : Plan) → plan_of grid.sections grid.sectors (numbers_of grid) ≡ Some plan → IsPlanOf grid (sections_of plan.walk) plan.state
plan_says grid is_grid plan planned =
    let n = grid.sections in
    let s = grid.sectors in
    let g = numbers_of grid in
    let from = plan_newest n s g plan planned in
    let q = from.1.0 in
    let new : newest (occurs n s g) ≡ Some q = from.1.1 in
    let low = numbers_low grid is_grid in
    let wide = is_grid.has_sectors in
    elim (cases_Bool (occurs n s g (later 2 q))) [
      | inl two ↦
          let at : plan_at n s g q ≡ record { state = Erasing q; walk = (0, 0) ∷ (0, 0) ∷ [] } = rw two refl in
          subst (λ (x : Plan). IsPlanOf grid (sections_of x.walk) x.state) (sym at ∙ from.1.2) (cells_numbered grid is_grid from.0, new, two, refl)
      | inr lacks ↦
          let at = plan_at_two n s g q lacks in
          let runs = walk_runs (reach n s g q) n (whole_sections n s g q) in
          subst (λ (x : Plan). IsPlanOf grid (sections_of x.walk) x.state) (sym at ∙ from.1.2) (
          elim (cases_eq (whole_sections n s g q) (reach n s g q)) [
            | inr torn ↦
                let mixed : state_at n (reach n s g q) (whole_sections n s g q) q ≡ Mixed q = rw (ne_eqb _ _ torn) refl in
                let state : plan.state ≡ Mixed q = ap (λ (x : Plan). x.state) (sym from.1.2 ∙ at) ∙ mixed in
                subst (λ (x : State). IsPlanOf grid (sections_of (range (reach n s g q) n ∷ range 0 (whole_sections n s g q) ∷ [])) x) (sym mixed) (
                  cells_numbered grid is_grid from.0,
                  new,
                  lacks,
                  λ next other rest. let other_plan = rest_plan n s next other g wide rest in
                      let same : plan ≡ other_plan.0 = same_Some _ _ (sym planned ∙ other_plan.1) in
                      let apart : Mixed q ≡ Rest next other = sym state ∙ ap (λ (x : Plan). x.state) same ∙ other_plan.2 in cc,
                  subst (λ (x : List ℕ). IsWalkOfTwo n s q g x) (sym runs) (walk_of_two n s q g wide low from.0 new lacks),
                )
            | inl whole ↦ elim (cases_eq (reach n s g q) n) [
              | inl full ↦
                  let rest : state_at n (reach n s g q) (whole_sections n s g q) q ≡ Rest 0 (later 1 q) = rw (eq-eqb _ _ whole, eq-eqb _ _ full) refl in
                  subst (λ (x : State). IsPlanOf grid (sections_of (range (reach n s g q) n ∷ range 0 (whole_sections n s g q) ∷ [])) x) (sym rest) (
                    rests_at_start n s q g wide low from.0 new lacks whole full,
                    runs ∙ (let none : n - n ≡ 0 = omega arith in let all : n - 0 ≡ n = omega arith in rw (whole, full, none, all) (sym (append-nil _))),
                  )
              | inr inside ↦
                  let rest : state_at n (reach n s g q) (whole_sections n s g q) q ≡ Rest (reach n s g q) q = rw (eq-eqb _ _ whole, ne_eqb _ _ inside) refl in
                  subst (λ (x : State). IsPlanOf grid (sections_of (range (reach n s g q) n ∷ range 0 (whole_sections n s g q) ∷ [])) x) (sym rest) (
                    rests_inside n s q g wide low from.0 new lacks whole inside,
                    runs ∙ rw whole refl,
                  )
            ]
          ])
    ]

-- ---- faults

abbrev unnumbered : SectorCell → Bool
unnumbered cell = is_none (cell_number cell)

-- Where each cell has a number, all sectors do.
pub grid_numbered : (grid : Grid) → IsGrid grid → ((k : ℕ) → k < length grid.cells → number_at grid k ≢ None) → is_numbered grid.sections grid.sectors (numbers_of grid) ≡ true
grid_numbered grid is_grid each = numbered_from grid.sections grid.sectors (numbers_of grid) (λ i j low narrow.
    some_from (numbers_of grid i j) (each (i * grid.sectors + j) (subst (λ m. i * grid.sectors + j < m) (sym is_grid.cells) (place_low grid.sections grid.sectors i j low narrow))))

abbrev first_without : Grid → ℕ
first_without grid = position_or_len unnumbered grid.cells

abbrev first_of : Grid → ℕ → ℕ
first_of grid number = position_or_len (λ cell. bears (cell_number cell) number) grid.cells

-- Sector k is the first that bears the number.
abbrev IsFirstOf : Grid → ℕ → ℕ → Type 0
IsFirstOf grid number k =
    (k < length grid.cells) × (number_at grid k ≡ Some number)
    × ((before : ℕ) → before < k → number_at grid before ≢ Some number)

-- The first sector of a number that occurs is on the journal, and the first.
first_of_is : (grid : Grid) (number k : ℕ) → k < length grid.cells → number_at grid k ≡ Some number → IsFirstOf grid number (first_of grid number)
first_of_is grid number k low is =
    let test = λ (cell : SectorCell). bears (cell_number cell) number in
    let here : bears (number_at grid k) number ≡ true = bears_it (number_at grid k) number is in
    let inside : first_of grid number < length grid.cells = elim (cases_lt k (first_of grid number)) [
      | inl before ↦ absurd (true≢false (sym here ∙ fails_before_first test grid.cells k Zero before))
      | inr within ↦ omega arith
    ] in (
      inside,
      bears_is (cell_number (cell_at grid (first_of grid number))) number (passes_at_first test grid.cells Zero inside),
      λ before under same. true≢false (sym (bears_it (number_at grid before) number same) ∙ fails_before_first test grid.cells before Zero under),
    )

-- Four places, by their number.
place_by : (f : ℕ → SectorPlace) (number : ℕ) → number < 4 → slice_index_or (map f commit_numbers) number (sector_place 0 0) ≡ f number
place_by f = four_numbers (λ number. slice_index_or (map f commit_numbers) number (sector_place 0 0) ≡ f number) refl refl refl refl

-- A grid with no plan has a fault that says why.
pub fault_says : (grid : Grid) → IsGrid grid → plan_of grid.sections grid.sectors (numbers_of grid) ≡ None → IsFaultOf grid (scan_fault_of grid)
fault_says grid is_grid none =
    let n = grid.sections in
    let s = grid.sectors in
    let g = numbers_of grid in
    let total = is_grid.cells in
    elim (cases_Bool (nat_lt (first_without grid) (length grid.cells))) [
      | inl within ↦
          let k = first_without grid in
          let low : k < length grid.cells = ltb-true _ _ within in
          let place = place_inside n s k is_grid.has_sectors (subst (λ m. k < m) total low) in
          let at : is_none (number_at grid k) ≡ true = passes_at_first unnumbered grid.cells Zero low in
          rw within (
            (
              place.0,
              place.1,
              subst (λ x. number_at grid x ≡ None) (sym place.2) (none_is (number_at grid k) at),
              λ before under. none_is_not (number_at grid before) (fails_before_first unnumbered grid.cells before Zero (subst (λ x. before < x) place.2 under)),
            ),
            ap (λ x. found_in (cell_at grid x)) (sym place.2),
          )
      | inr past ↦
          let all : (k : ℕ) → k < length grid.cells → number_at grid k ≢ None =
          λ k low. none_is_not (number_at grid k) (fails_before_first unnumbered grid.cells k Zero (let end = ltb-false _ _ past in omega arith)) in
          let numbered = grid_numbered grid is_grid all in
          let no_newest : newest (occurs n s g) ≡ None = elim (cases_option (newest (occurs n s g))) [
            | inl is ↦ is
            | inr some ↦ absurd (none-some _ (sym none ∙ plan_is n s g some.0 numbered some.1))
          ] in
          let first = some_is (g 0 0) (numbered_at n s g numbered 0 0 is_grid.has_sections is_grid.has_sectors) in
          let each = newest_none (occurs n s g) first.0 (numbers_low grid is_grid 0 0 first.0 is_grid.has_sections is_grid.has_sectors first.1)
          (occurs_at n s g first.0 0 0 is_grid.has_sections is_grid.has_sectors first.1) no_newest in
          rw past (
            all,
            refl,
            λ number low.
                let found = occurs_found n s g number (each number low) in
                let k = found.0 * s + found.1 in
                let low_k : k < length grid.cells = subst (λ m. k < m) (sym total) (place_low n s found.0 found.1 found.2 found.3) in
                let is = first_of_is grid number k low_k found.4 in
                let place = place_inside n s (first_of grid number) is_grid.has_sectors (subst (λ m. first_of grid number < m) total is.0) in
                subst (IsFirstPlace grid (Some number)) (sym (place_by (λ number. first_place (λ cell. bears (cell_number cell) number) grid) number low))
                (place.0, place.1, subst (λ x. number_at grid x ≡ Some number) (sym place.2) is.1, λ before under. is.2 before (subst (λ x. before < x) place.2 under)),
          )
    ]

-- ---- the law

-- The scan of a grid follows the rules.
pub scan_law : ScanLaw
unfolding walk_of_grid
scan_law grid is_grid = elim (cases_option (blank_number grid)) [
  | inl not_blank ↦ elim (cases_option (plan_of grid.sections grid.sectors (numbers_of grid))) [
    | inl none ↦ record {
      plan = rw (not_blank, none) tt;
      fault = rw (not_blank, none) (fault_says grid is_grid none);
      blank = λ number is. absurd (none-some number (sym not_blank ∙ blank_seen grid is_grid number is));
    }
    | inr some ↦ record {
      plan = rw (not_blank, some.1) (plan_says grid is_grid some.0 some.1);
      fault = rw (not_blank, some.1) tt;
      blank = λ number is. absurd (none-some number (sym not_blank ∙ blank_seen grid is_grid number is));
    }
  ]
  | inr blank ↦ record {
    plan = rw blank.1 (blank_tells grid is_grid blank.0 blank.1, refl);
    fault = rw blank.1 tt;
    blank = λ number is. rw (blank_seen grid is_grid number is) refl;
  }
]
