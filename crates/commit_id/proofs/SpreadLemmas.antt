-- How a spread goes on with one more section.
use Rattle.std.proofs.Common.{◌≡◌, ℕ, ◌+◌, ◌-◌, ◌*◌, ◌<◌, ◌≤◌, ◌==◌, ◌&&◌, nat_lt, if◌then◌else◌, refl, ◌∙◌, arith, add-one}
use Rattle.std.specs.Prelude.{slice_index}
use Rattle.image_model.specs.Below.{front_length}
use Rattle.image_model.specs.Scan.{Grid, numbers_of}
use Rattle.image_model.specs.Walk.{bears, is_wholly, reach, whole_sections}
use Rattle.commit_id.specs.declared.tally.Tally.{Tally}
use Rattle.commit_id.specs.declared.spread.Spread.{Spread}
use Rattle.commit_id.specs.Spread.{IsSpread}
use Rattle.commit_id.specs.Tally.{count_below, bears_at, IsTally}
use Rattle.commit_id.proofs.CountLemmas.{count_below-add, any_count, all_count, all_front, and_swap}

module _ (grid : Grid) (section : ℕ) (before after : Tally)
    (tallied_before : IsTally grid (section * grid.sectors) before) (tallied : IsTally grid (section * grid.sectors + grid.sectors) after) where
  -- How many sectors of the section bear the number.
  abbrev here : ℕ → ℕ
  here number = count_below grid.sectors (λ sector. bears (numbers_of grid section sector) number)

  pub counts_more : (number : ℕ) → number < 4 → slice_index before.counts number ≤ slice_index after.counts number
  counts_more number low = omega (arith, tallied_before.counts number low, tallied.counts number low, count_below-add (section * grid.sectors) grid.sectors (bears_at grid number))

  here_is : (number : ℕ) → number < 4 → slice_index after.counts number - slice_index before.counts number ≡ here number
  here_is number low = omega (arith, tallied_before.counts number low, tallied.counts number low, count_below-add (section * grid.sectors) grid.sectors (bears_at grid number))

  reach_more : (number reached : ℕ) → reached ≡ reach section grid.sectors (numbers_of grid) number
      → (if nat_lt 0 (here number) then section + 1 else reached) ≡ reach (section + 1) grid.sectors (numbers_of grid) number
  reach_more number reached is = rw (add-one, any_count grid.sectors (λ sector. bears (numbers_of grid section sector) number), is) refl

  whole_more : (number whole : ℕ) → whole ≡ whole_sections section grid.sectors (numbers_of grid) number
      → (if here number == grid.sectors && whole == section then section + 1 else whole) ≡ whole_sections (section + 1) grid.sectors (numbers_of grid) number
  whole_more number whole is =
      let test = is_wholly grid.sectors (numbers_of grid) number in
      rw (
        add-one,
        all_front section test,
        all_count grid.sectors (λ sector. bears (numbers_of grid section sector) number),
        is,
        and_swap (here number == grid.sectors) (front_length section test == section),
      ) refl

  -- With the section added, a spread goes on.
  pub section_added : (old new : Spread) → IsSpread grid section old
      → ((number : ℕ) → number < 4 → slice_index new.reach number
      ≡ (if nat_lt 0 (slice_index after.counts number - slice_index before.counts number) then section + 1 else slice_index old.reach number))
      → ((number : ℕ) → number < 4 → slice_index new.whole number
      ≡ (if slice_index after.counts number - slice_index before.counts number == grid.sectors && slice_index old.whole number == section then section + 1 else slice_index old.whole number))
      → IsSpread grid (section + 1) new
  section_added old new is reach_is whole_is = record {
    reach = λ number low. reach_is number low ∙ rw (here_is number low) (reach_more number (slice_index old.reach number) (is.reach number low));
    whole = λ number low. whole_is number low ∙ rw (here_is number low) (whole_more number (slice_index old.whole number) (is.whole number low));
  }
