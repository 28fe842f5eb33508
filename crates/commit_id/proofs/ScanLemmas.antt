-- The scan of a grid, by the tally of its sectors and the spread over its sections.
use Rattle.std.proofs.Common.{◌≡◌, ℕ, ◌+◌, ◌*◌, ◌/◌, ◌%◌, ◌<◌, Bool, true, false, nat_lt, refl, sym, ◌∙◌, ap, subst, arith, Some, None, is_none, Ok, Err, List, [], ◌∷◌, length}
use Rattle.std.specs.Prelude.{slice_index, slice_index_or}
use Rattle.std.specs.List.{position_or_len}
use Rattle.std.proofs.lemmas.Bool.{le-ltb, ltb-true, true≢false, false_from_ne_true}
use Rattle.std.proofs.lemmas.List.Sums.{position_or_len_is}
use Rattle.image_model.specs.declared.sector_place.SectorPlace.{SectorPlace}
use Rattle.image_model.specs.Below.{all_below}
use Rattle.image_model.specs.Scan.{Grid, SectorCell, IsGrid, cell_number, numbers_of, blank_number, blank_plan, first_place, scan_fault_of, walk_of_grid, sector_place}
use Rattle.image_model.specs.declared.sector_cell.Cell.TheVariants.{Zero}
use Rattle.image_model.specs.declared.scan_fault.ScanFault.TheVariants.{FourNumbers}
use Rattle.image_model.specs.Walk.{bears, is_numbered, occurs, later, newest, plan_at, plan_by, plan_of}
use Rattle.image_model.specs.declared.journal_plan.Plan.{Plan}
use Rattle.image_model.proofs.BelowLemmas.{all_from, all_at, any_at}
use Rattle.image_model.proofs.NumberLemmas.{later_low, newest_tells, newest_none}
use Rattle.image_model.proofs.ScanLemmas.{place_inside, place_low}
use Rattle.image_model.proofs.WalkLemmas.{plan_is, numbered_at, numbered_from, occurs_at, occurs_found, some_is, bears_it}
use Rattle.image_model.specs.declared.scan_fault.ScanFault.{ScanFault}
use Rattle.commit_id.specs.declared.tally.Tally.{Tally}
use Rattle.commit_id.specs.declared.spread.Spread.{Spread}
use Rattle.commit_id.specs.Spread.{IsSpread, has_reached}
use Rattle.commit_id.specs.Tally.{count_below, bears_at, is_numbered_at, IsTally}
use Rattle.commit_id.proofs.CountLemmas.{any_count, any_last}
use Rattle.commit_id.proofs.TallyLemmas.{none_below}

-- A blank journal has the plan of one.
pub walk_of_grid-blank : (grid : Grid) (number : ℕ) → blank_number grid ≡ Some number → walk_of_grid grid ≡ Ok (blank_plan number)
unfolding walk_of_grid
walk_of_grid-blank grid number is = rw is refl

-- A journal that is not has its plan by the numbers, or the fault.
walk_of_grid-plan : (grid : Grid) (plan : Plan) → blank_number grid ≡ None → plan_of grid.sections grid.sectors (numbers_of grid) ≡ Some plan → walk_of_grid grid ≡ Ok plan
unfolding walk_of_grid
walk_of_grid-plan grid plan not_blank planned = rw (not_blank, planned) refl

walk_of_grid-fault : (grid : Grid) → blank_number grid ≡ None → plan_of grid.sections grid.sectors (numbers_of grid) ≡ None → walk_of_grid grid ≡ Err (scan_fault_of grid)
unfolding walk_of_grid
walk_of_grid-fault grid not_blank none = rw (not_blank, none) refl

plan_of-unnumbered : (grid : Grid) → is_numbered grid.sections grid.sectors (numbers_of grid) ≡ false → plan_of grid.sections grid.sectors (numbers_of grid) ≡ None
unfolding plan_of
plan_of-unnumbered grid none = rw none refl

plan_of-four : (grid : Grid) → newest (occurs grid.sections grid.sectors (numbers_of grid)) ≡ None → is_numbered grid.sections grid.sectors (numbers_of grid) ≡ true → plan_of grid.sections grid.sectors (numbers_of grid) ≡ None
unfolding plan_of
plan_of-four grid none numbered = rw (numbered, none) refl

-- Tests that agree on the four numbers have the same newest.
newest-same : (has other : ℕ → Bool) → ((number : ℕ) → number < 4 → has number ≡ other number) → newest has ≡ newest other
newest-same has other same = rw (same 0 (omega arith), same 1 (omega arith), same 2 (omega arith), same 3 (omega arith)) refl

-- Four items in a row.
four_items : (xs : List SectorPlace) → length xs ≡ 4 → xs ≡ slice_index_or xs 0 (sector_place 0 0) ∷ slice_index_or xs 1 (sector_place 0 0) ∷ slice_index_or xs 2 (sector_place 0 0) ∷ slice_index_or xs 3 (sector_place 0 0) ∷ []
four_items [] size = absurd (omega arith)
four_items (a ∷ []) size = absurd (omega arith)
four_items (a ∷ b ∷ []) size = absurd (omega arith)
four_items (a ∷ b ∷ d ∷ []) size = absurd (omega arith)
four_items (a ∷ b ∷ d ∷ e ∷ []) size = refl
four_items (a ∷ b ∷ d ∷ e ∷ f ∷ xs) size = absurd (omega arith)

module _ (grid : Grid) (is_grid : IsGrid grid) where
  -- All sectors bear numbers where those of all sections do.
  numbered_all : is_numbered grid.sections grid.sectors (numbers_of grid) ≡ true → all_below (grid.sections * grid.sectors) (is_numbered_at grid) ≡ true
  numbered_all numbered = all_from (grid.sections * grid.sectors) (is_numbered_at grid) (λ k low.
      let place = place_inside grid.sections grid.sectors k is_grid.has_sectors low in
      subst (λ n. is_numbered_at grid n ≡ true) place.2 (numbered_at grid.sections grid.sectors (numbers_of grid) numbered (k / grid.sectors) (k % grid.sectors) place.0 place.1))

  all_numbered : all_below (grid.sections * grid.sectors) (is_numbered_at grid) ≡ true → is_numbered grid.sections grid.sectors (numbers_of grid) ≡ true
  all_numbered all = numbered_from grid.sections grid.sectors (numbers_of grid) (λ i j low narrow.
      all_at (grid.sections * grid.sectors) (is_numbered_at grid) all (i * grid.sectors + j) (place_low grid.sections grid.sectors i j low narrow))

  -- With a sector without a number the journal has the fault.
  pub walk_of_grid-unnumbered : (fault : ScanFault) → blank_number grid ≡ None → all_below (grid.sections * grid.sectors) (is_numbered_at grid) ≡ false
      → fault ≡ scan_fault_of grid → walk_of_grid grid ≡ Err fault
  walk_of_grid-unnumbered fault not_blank some told =
      walk_of_grid-fault grid not_blank (plan_of-unnumbered grid (false_from_ne_true _ (λ numbered. true≢false (sym (numbered_all numbered) ∙ some))))
      ∙ ap (λ f. Err f) (sym told)

  -- A number that occurs has been counted.
  counted : (number : ℕ) → occurs grid.sections grid.sectors (numbers_of grid) number ≡ true → 0 < count_below (grid.sections * grid.sectors) (bears_at grid number)
  counted number occurs =
      let at = occurs_found grid.sections grid.sectors (numbers_of grid) number occurs in
      let some = any_at (grid.sections * grid.sectors) (bears_at grid number) (at.0 * grid.sectors + at.1) (place_low grid.sections grid.sectors at.0 at.1 at.2 at.3) (bears_it (numbers_of grid at.0 at.1) number at.4) in
      ltb-true 0 _ (sym (any_count (grid.sections * grid.sectors) (bears_at grid number)) ∙ some)

  -- Where all four numbers occur and no sector lacks one, the fault has the first places.
  scan_fault_of-four : (tally : Tally) → IsTally grid (grid.sections * grid.sectors) tally → all_below (grid.sections * grid.sectors) (is_numbered_at grid) ≡ true
      → newest (occurs grid.sections grid.sectors (numbers_of grid)) ≡ None → scan_fault_of grid ≡ FourNumbers tally.firsts
  scan_fault_of-four tally tallied all none =
      let has = occurs grid.sections grid.sectors (numbers_of grid) in
      let start = some_is (numbers_of grid 0 0) (numbered_at grid.sections grid.sectors (numbers_of grid) (all_numbered all) 0 0 is_grid.has_sections is_grid.has_sectors) in
      let each = newest_none has start.0 (is_grid.numbers (0 * grid.sectors + 0) start.0 start.1) (occurs_at grid.sections grid.sectors (numbers_of grid) start.0 0 0 is_grid.has_sections is_grid.has_sectors start.1) none in
      let first : (number : ℕ) → number < 4 → first_place (λ cell. bears (cell_number cell) number) grid ≡ slice_index_or tally.firsts number (sector_place 0 0) =
      λ number low. sym (tallied.firsts number low (counted number (each number low))) in
      let test = λ (cell : SectorCell). is_none (cell_number cell) in
      let past : position_or_len test grid.cells ≡ length grid.cells = position_or_len_is test grid.cells (length grid.cells) Zero (omega arith)
      (none_below grid (length grid.cells) (subst (λ n. all_below n (is_numbered_at grid) ≡ true) (sym is_grid.cells) all)) (λ lt. absurd (omega arith)) in
      rw (past, le-ltb (length grid.cells) (length grid.cells) (omega arith), first 0 (omega arith), first 1 (omega arith), first 2 (omega arith), first 3 (omega arith))
      (ap FourNumbers (sym (four_items tally.firsts tallied.four.1)))

  module _ (spread : Spread) (spreads : IsSpread grid grid.sections spread) where
    occurs_is : (number : ℕ) → number < 4 → has_reached spread number ≡ occurs grid.sections grid.sectors (numbers_of grid) number
    occurs_is number low = ap (λ n. nat_lt 0 n) (spreads.reach number low) ∙ sym (any_last grid.sections _)

    newest_is : newest (has_reached spread) ≡ newest (occurs grid.sections grid.sectors (numbers_of grid))
    newest_is = newest-same (has_reached spread) (occurs grid.sections grid.sectors (numbers_of grid)) occurs_is

    -- With a newest number the journal has the plan for it.
    pub walk_of_grid-newest : (number : ℕ) → blank_number grid ≡ None → all_below (grid.sections * grid.sectors) (is_numbered_at grid) ≡ true
        → newest (has_reached spread) ≡ Some number
        → walk_of_grid grid ≡ Ok (plan_by grid.sections (has_reached spread (later 2 number)) (slice_index spread.reach number) (slice_index spread.whole number) number)
    walk_of_grid-newest number not_blank all new =
        let low = (newest_tells (has_reached spread) number new).0 in
        let planned = plan_is grid.sections grid.sectors (numbers_of grid) number (all_numbered all) (sym newest_is ∙ new) in
        rw (occurs_is (later 2 number) (later_low 2 number), spreads.reach number low, spreads.whole number low)
        (walk_of_grid-plan grid (plan_at grid.sections grid.sectors (numbers_of grid) number) not_blank planned)

    -- Without one all four occur, and their places are told.
    pub walk_of_grid-four : (tally : Tally) → IsTally grid (grid.sections * grid.sectors) tally → blank_number grid ≡ None
        → all_below (grid.sections * grid.sectors) (is_numbered_at grid) ≡ true → newest (has_reached spread) ≡ None
        → walk_of_grid grid ≡ Err (FourNumbers tally.firsts)
    walk_of_grid-four tally tallied not_blank all none =
        let absent : newest (occurs grid.sections grid.sectors (numbers_of grid)) ≡ None = sym newest_is ∙ none in
        walk_of_grid-fault grid not_blank (plan_of-four grid absent (all_numbered all)) ∙ ap (λ f. Err f) (scan_fault_of-four tally tallied all absent)
