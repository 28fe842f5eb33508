-- A blank journal, by the tally of all its sectors.
use Rattle.std.proofs.Common.{◌≡◌, ◌≢◌, ℕ, ◌+◌, ◌*◌, ◌<◌, ◌≤◌, true, false, ◌==◌, ◌||◌, nat_lt, refl, sym, ◌∙◌, ap, arith, Some, None, length}
use Rattle.std.specs.Prelude.{slice_index}
use Rattle.std.proofs.lemmas.Bool.{and_parts, and_right, eq-eqb, ne_eqb, lt-ltb, true≢false}
use Rattle.image_model.specs.Below.{any_below}
use Rattle.image_model.specs.Scan.{Grid, SectorCell, IsGrid, cell_at, cell_number, is_zero, is_blank_sector, is_blank_with, blank_number}
use Rattle.image_model.specs.declared.sector_cell.Cell.TheVariants.{Number, Zero, Other}
use Rattle.image_model.specs.Walk.{bears}
use Rattle.commit_id.specs.declared.tally.Tally.{Tally}
use Rattle.commit_id.specs.Tally.{count_below, bears_at, IsTally}
use Rattle.commit_id.proofs.CountLemmas.{count_below-le, count_below-or, any_count, all_count}
use Rattle.commit_id.proofs.FirstLemmas.{first_number, no_number}

zero_bears_none : (cell : SectorCell) (number : ℕ) → is_zero cell ≡ true → bears (cell_number cell) number ≡ false
zero_bears_none (Number borne) number e = absurd (true≢false (sym e))
zero_bears_none Zero number e = refl
zero_bears_none (Other found) number e = refl

-- A blank sector bears no number.
blank_bears_none : (grid : Grid) (number k : ℕ) → is_blank_sector grid k ≡ true → bears_at grid number k ≡ false
blank_bears_none grid number k e = zero_bears_none (cell_at grid k) number (and_parts (nat_lt k grid.bitmap) (is_zero (cell_at grid k)) e).1

module _ (grid : Grid) (tally : Tally) (is_grid : IsGrid grid) (tallied : IsTally grid (grid.sections * grid.sectors) tally) where
  either : (number : ℕ) → number < 4
      → count_below (length grid.cells) (λ k. is_blank_sector grid k || bears_at grid number k) ≡ tally.blanks + slice_index tally.counts number
  either number low =
      count_below-or (length grid.cells) (is_blank_sector grid) (bears_at grid number) (blank_bears_none grid number)
      ∙ ap (λ n. count_below n (is_blank_sector grid) + count_below n (bears_at grid number)) is_grid.cells
      ∙ sym (ap (λ n. n + slice_index tally.counts number) tallied.blanks ∙ ap (λ n. count_below (grid.sections * grid.sectors) (is_blank_sector grid) + n) (tallied.counts number low))

  -- Blank sectors and those of a number are no more than there are.
  pub either_low : (number : ℕ) → number < 4 → tally.blanks + slice_index tally.counts number ≤ length grid.cells
  either_low number low = omega (arith, either number low, count_below-le (length grid.cells) (λ k. is_blank_sector grid k || bears_at grid number k))

  -- All others bear the number where the two counts make up all.
  blank_with : (number : ℕ) → number < 4 → is_blank_with grid number ≡ (tally.blanks + slice_index tally.counts number == length grid.cells)
  blank_with number low =
      all_count (length grid.cells) (λ k. is_blank_sector grid k || bears_at grid number k) ∙ ap (λ n. n == length grid.cells) (either number low)

  some_blank : any_below (length grid.cells) (is_blank_sector grid) ≡ nat_lt 0 tally.blanks
  some_blank = any_count (length grid.cells) (is_blank_sector grid) ∙ ap (λ n. nat_lt 0 (count_below n (is_blank_sector grid))) is_grid.cells ∙ ap (λ n. nat_lt 0 n) (sym tallied.blanks)

  -- A journal with no blank sector is not blank,
  pub not_blank-none : tally.blanks ≡ 0 → None ≡ blank_number grid
  not_blank-none none = rw (some_blank, none) refl

  -- nor is one with a used entry outside.
  pub not_blank-used : grid.used_outside ≡ true → None ≡ blank_number grid
  not_blank-used used = rw (used, and_right (any_below (length grid.cells) (is_blank_sector grid)) false refl) refl

  -- Else it is blank where some number makes up all, the first that does,
  pub is_blank : (number : ℕ) → number < 4 → tally.blanks ≢ 0 → grid.used_outside ≡ false
      → ((k : ℕ) → k < number → tally.blanks + slice_index tally.counts k ≢ length grid.cells)
      → tally.blanks + slice_index tally.counts number ≡ length grid.cells → Some number ≡ blank_number grid
  is_blank number low some unused before here =
      rw (some_blank, lt-ltb 0 tally.blanks (omega arith), unused)
      (first_number (is_blank_with grid) number low
      (λ k under. blank_with k (omega arith) ∙ ne_eqb _ _ (before k under)) (blank_with number low ∙ eq-eqb _ _ here))

  -- and not where none does.
  pub not_blank-mixed : tally.blanks ≢ 0 → grid.used_outside ≡ false
      → ((k : ℕ) → k < 4 → tally.blanks + slice_index tally.counts k ≢ length grid.cells) → None ≡ blank_number grid
  not_blank-mixed some unused each =
      rw (some_blank, lt-ltb 0 tally.blanks (omega arith), unused)
      (no_number (is_blank_with grid) (λ k low. blank_with k low ∙ ne_eqb _ _ (each k low)))
