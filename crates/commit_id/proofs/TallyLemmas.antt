-- How a tally goes on with one more sector.
use Rattle.std.proofs.Common.{◌≡◌, ◌≢◌, inl, inr, ℕ, ◌+◌, ◌/◌, ◌%◌, ◌<◌, ◌≤◌, Bool, true, false, ◌==◌, nat_lt, if◌then◌else◌, refl, sym, ◌∙◌, ap, arith, add-one, Option, Some, None, is_some, is_none, length, get_or-set_same, get_or-set_other}
use Rattle.std.proofs.Math.ListN.{length-set}
use Rattle.std.specs.Prelude.{slice_index, slice_set}
use Rattle.std.specs.List.{position_or_len}
use Rattle.std.proofs.lemmas.Bool.{cases_Bool, cases_eq, eq-eqb, ne_eqb, lt-ltb, and_from, and_right, true≢false}
use Rattle.std.proofs.lemmas.List.Sums.{position_or_len_is}
use Rattle.std.proofs.lemmas.Option.{none-some}
use Rattle.image_model.specs.Below.{all_below}
use Rattle.image_model.specs.Scan.{Grid, SectorCell, cell_at, cell_number, found_in, first_place, is_blank_sector, is_zero, scan_fault_of, sector_place}
use Rattle.image_model.specs.declared.sector_cell.Cell.TheVariants.{Number, Zero, Other}
use Rattle.image_model.specs.declared.scan_fault.ScanFault.TheVariants.{NoNumber}
use Rattle.image_model.specs.Walk.{bears}
use Rattle.image_model.proofs.BelowLemmas.{all_at}
use Rattle.image_model.proofs.WalkLemmas.{bears_it, bears_other}
use Rattle.std.specs.Option.{option_or}
use Rattle.image_model.specs.declared.scan_fault.ScanFault.{ScanFault}
use Rattle.image_model.specs.declared.scan_fault.ScanFault.TheVariants.{NoNumber as Unnumbered}
use Rattle.commit_id.specs.declared.tally.Tally.{Tally}
use Rattle.commit_id.specs.Tally.{count_below, IsPlace, bears_at, is_numbered_at, TellsUnnumbered, IsTally, AddsNumber}
use Rattle.commit_id.proofs.CountLemmas.{count_below-passes, count_below-fails, count_below-none, count_below-le}
use mir.Val.{bool_byte}

-- A place where a number first stands is its first place.
first_place-is : (grid : Grid) (k section sector number : ℕ) → IsPlace grid k section sector → cell_number (cell_at grid k) ≡ Some number
    → count_below k (bears_at grid number) ≡ 0
    → sector_place section sector ≡ first_place (λ cell. bears (cell_number cell) number) grid
first_place-is grid k section sector number place is none =
    let test = λ (cell : SectorCell). bears (cell_number cell) number in
    let first : position_or_len test grid.cells ≡ k = position_or_len_is test grid.cells k Zero (omega (arith, place.inside))
    (count_below-none k (bears_at grid number) none) (λ _. bears_it (cell_number (cell_at grid k)) number is) in
    let here : sector_place section sector ≡ sector_place (k / grid.sectors) (k % grid.sectors) = let one = place.section_is in let other = place.sector_is in cc in
    here ∙ ap (λ n. sector_place (n / grid.sectors) (n % grid.sectors)) (sym first)

some_not_none : (borne : Option ℕ) → is_some borne ≡ true → is_none borne ≡ false
some_not_none None e = absurd (true≢false (sym e))
some_not_none (Some number) e = refl

numbered_not_zero : (cell : SectorCell) (number : ℕ) → cell_number cell ≡ Some number → is_zero cell ≡ false
numbered_not_zero (Number borne) number is = refl
numbered_not_zero Zero number is = absurd (none-some number is)
numbered_not_zero (Other found) number is = refl

-- A sector that bears a number is not blank.
not_blank : (grid : Grid) (k number : ℕ) → cell_number (cell_at grid k) ≡ Some number → is_blank_sector grid k ≡ false
not_blank grid k number is = and_right (nat_lt k grid.bitmap) (is_zero (cell_at grid k)) (numbered_not_zero (cell_at grid k) number is)

-- With a sector more that bears a number, the first without one is the same.
still_numbered : (grid : Grid) (k number : ℕ) (told : Option ScanFault) → cell_number (cell_at grid k) ≡ Some number → TellsUnnumbered grid k told → TellsUnnumbered grid (k + 1) told
still_numbered grid k number None is all = rw (add-one k) (and_from (all_below k (is_numbered_at grid)) (is_numbered_at grid k) all (ap (λ borne. is_some borne) is))
still_numbered grid k number (Some fault) is some = (rw (add-one k, some.0) refl, some.1)

-- Where the first k sectors bear numbers, none of them bears none.
pub none_below : (grid : Grid) (k : ℕ) → all_below k (is_numbered_at grid) ≡ true → (i : ℕ) → i < k → is_none (cell_number (cell_at grid i)) ≡ false
none_below grid k all i low = some_not_none (cell_number (cell_at grid i)) (all_at k (is_numbered_at grid) all i low)

-- The fault is that of the first sector without a number.
scan_fault_of-first : (grid : Grid) (k section sector found : ℕ) → IsPlace grid k section sector → cell_number (cell_at grid k) ≡ None → found ≡ found_in (cell_at grid k)
    → all_below k (is_numbered_at grid) ≡ true → NoNumber section sector found ≡ scan_fault_of grid
scan_fault_of-first grid k section sector found place is found_is all =
    let test = λ (cell : SectorCell). is_none (cell_number cell) in
    let first : position_or_len test grid.cells ≡ k = position_or_len_is test grid.cells k Zero (omega (arith, place.inside))
    (none_below grid k all) (λ _. ap (λ borne. is_none borne) is) in
    rw (first, lt-ltb k (length grid.cells) place.inside, place.section_is, place.sector_is, found_is) refl

-- With a sector more that bears none, it is the one told before, or this one.
pub unnumbered_added : (grid : Grid) (k section sector found : ℕ) (told : Option ScanFault) → IsPlace grid k section sector → cell_number (cell_at grid k) ≡ None → found ≡ found_in (cell_at grid k)
    → TellsUnnumbered grid k told → TellsUnnumbered grid (k + 1) (option_or told (Some (Unnumbered section sector found)))
unnumbered_added grid k section sector found None place is found_is all = (
  rw (add-one k) (and_right (all_below k (is_numbered_at grid)) (is_numbered_at grid k) (ap (λ borne. is_some borne) is)),
  scan_fault_of-first grid k section sector found place is found_is all,
)
unnumbered_added grid k section sector found (Some fault) place is found_is some = (rw (add-one k, some.0) refl, some.1)

-- With a number counted and its place kept where it is the first, a tally goes on.
pub number_added : (section sector number : ℕ) (old new : Tally) → number < 4
    → new.counts ≡ slice_set old.counts number (slice_index old.counts number + 1)
    → new.firsts ≡ (if slice_index old.counts number == 0 then slice_set old.firsts number (sector_place section sector) else old.firsts)
    → new.blanks ≡ old.blanks → new.unnumbered ≡ old.unnumbered → AddsNumber section sector number old new
number_added section sector number old new low counts_is firsts_is blanks_is unnumbered_is grid k place is tally =
    let counted = tally.counts number low in
    let here : number < length old.counts = omega (arith, tally.four.0) in
    let here_first : number < length old.firsts = omega (arith, tally.four.1) in
    let more : count_below (k + 1) (bears_at grid number) ≡ count_below k (bears_at grid number) + 1 = count_below-passes k (bears_at grid number) (bears_it (cell_number (cell_at grid k)) number is) in
    let same : (q : ℕ) → q ≢ number → count_below (k + 1) (bears_at grid q) ≡ count_below k (bears_at grid q) =
    λ q other. count_below-fails k (bears_at grid q) (bears_other (cell_number (cell_at grid k)) number q is (λ e. other (sym e))) in
    record {
      four = (
        rw (counts_is, length-set old.counts number (slice_index old.counts number + 1)) tally.four.0,
        elim (cases_eq (slice_index old.counts number) 0) [
          | inl none ↦ rw (firsts_is, eq-eqb _ _ none, length-set old.firsts number (sector_place section sector)) tally.four.1
          | inr known ↦ rw (firsts_is, ne_eqb _ _ known) tally.four.1
        ],
      );
      counts = λ q low_q. elim (cases_eq q number) [
        | inl is_it ↦ rw (counts_is, is_it, more, get_or-set_same old.counts number (slice_index old.counts number + 1) 0 here) (ap (λ n. n + 1) counted)
        | inr other ↦ rw (counts_is, same q other, get_or-set_other old.counts number q (slice_index old.counts number + 1) 0 other) (tally.counts q low_q)
      ];
      firsts = λ q low_q some. elim (cases_eq q number) [
        | inl is_it ↦ elim (cases_eq (slice_index old.counts number) 0) [
          | inl none ↦ rw (firsts_is, eq-eqb _ _ none, is_it, get_or-set_same old.firsts number (sector_place section sector) (sector_place 0 0) here_first)
              (first_place-is grid k section sector number place is (sym counted ∙ none))
          | inr known ↦ rw (firsts_is, ne_eqb _ _ known, is_it) (tally.firsts number low (omega arith))
        ]
        | inr other ↦ elim (cases_eq (slice_index old.counts number) 0) [
          | inl none ↦ rw (firsts_is, eq-eqb _ _ none, get_or-set_other old.firsts number q (sector_place section sector) (sector_place 0 0) other)
              (tally.firsts q low_q (omega (arith, same q other, some)))
          | inr known ↦ rw (firsts_is, ne_eqb _ _ known) (tally.firsts q low_q (omega (arith, same q other, some)))
        ]
      ];
      blanks = blanks_is ∙ tally.blanks ∙ sym (count_below-fails k (is_blank_sector grid) (not_blank grid k number is));
      unnumbered = rw unnumbered_is (still_numbered grid k number old.unnumbered is tally.unnumbered);
    }

-- With a sector more that bears no number the counts and the first places stay.
pub unnumbered_tally : (grid : Grid) (k blanks : ℕ) (old new : Tally) → cell_number (cell_at grid k) ≡ None → IsTally grid k old
    → new ≡ record { counts = old.counts; firsts = old.firsts; blanks = blanks; unnumbered = new.unnumbered }
    → blanks ≡ count_below (k + 1) (is_blank_sector grid) → TellsUnnumbered grid (k + 1) new.unnumbered → IsTally grid (k + 1) new
unnumbered_tally grid k blanks old new is tally new_is blanks_is told =
    let counts_is : new.counts ≡ old.counts = ap (λ (t : Tally). t.counts) new_is in
    let firsts_is : new.firsts ≡ old.firsts = ap (λ (t : Tally). t.firsts) new_is in
    let same : (q : ℕ) → count_below (k + 1) (bears_at grid q) ≡ count_below k (bears_at grid q) =
    λ q. count_below-fails k (bears_at grid q) (ap (λ borne. bears borne q) is) in
    record {
      four = (rw counts_is tally.four.0, rw firsts_is tally.four.1);
      counts = λ q low. rw (counts_is, same q) (tally.counts q low);
      firsts = λ q low some. rw firsts_is (tally.firsts q low (omega (arith, same q, some)));
      blanks = ap (λ (t : Tally). t.blanks) new_is ∙ blanks_is;
      unnumbered = told;
    }

-- ---- for callers

-- A zero sector is blank among the bitmap's, and only there.
pub blanks_more-zero : (grid : Grid) (k blanks : ℕ) → cell_at grid k ≡ Zero → blanks ≡ count_below k (is_blank_sector grid)
    → blanks + bool_byte (nat_lt k grid.bitmap) ≡ count_below (k + 1) (is_blank_sector grid)
blanks_more-zero grid k blanks is counted = elim (cases_Bool (nat_lt k grid.bitmap)) [
  | inl inside ↦ rw (inside, counted) (sym (count_below-passes k (is_blank_sector grid) (and_from (nat_lt k grid.bitmap) (is_zero (cell_at grid k)) inside (ap is_zero is))))
  | inr behind ↦ rw (behind, counted) (omega (arith, count_below-fails k (is_blank_sector grid) (rw behind refl)))
]

-- A sector with another id is none.
pub blanks_more-other : (grid : Grid) (k found blanks : ℕ) → cell_at grid k ≡ Other found → blanks ≡ count_below k (is_blank_sector grid)
    → blanks ≡ count_below (k + 1) (is_blank_sector grid)
blanks_more-other grid k found blanks is counted =
    counted ∙ sym (count_below-fails k (is_blank_sector grid) (and_right (nat_lt k grid.bitmap) (is_zero (cell_at grid k)) (ap is_zero is)))

-- No number stands on more sectors than there are.
pub counts_low : (grid : Grid) (k number : ℕ) (tally : Tally) → IsTally grid k tally → number < 4 → slice_index tally.counts number ≤ k
counts_low grid k number tally is low = omega (arith, is.counts number low, count_below-le k (bears_at grid number))

pub bool_byte_low : (b : Bool) → bool_byte b ≤ 1
bool_byte_low true = omega arith
bool_byte_low false = omega arith

pub blanks_low : (grid : Grid) (k : ℕ) (tally : Tally) → IsTally grid k tally → tally.blanks ≤ k
blanks_low grid k tally is = omega (arith, is.blanks, count_below-le k (is_blank_sector grid))
