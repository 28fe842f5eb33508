-- How many sectors a disk can provide.
use Rattle.std.proofs.Common.{◌≡◌, inl, inr, ℕ, zero, suc, ◌+◌, ◌-◌, ◌*◌, ◌/◌, ◌%◌, ◌^◌, ◌<◌, ◌≤◌, Bool, true, false, [], ◌∷◌, ◌++◌, Ok, Err, refl, sym, ap, subst, ◌∙◌, arith}
use Rattle.std.specs.Prelude.{◌==◌, IsTrue}
use Rattle.std.proofs.lemmas.Bool.{cases_order, cases_lt, eqb-false, eqb-true, ltb-false}
use Rattle.std.proofs.lemmas.Nat.{row_fits, div-add-mod', mod_below, pow_pos}
use Rattle.std.proofs.Math.Nat.{mul-mod_left}
use Rattle.image_model.specs.declared.flags.TheConstants.{DIRTY_BITMAP}
use Rattle.image_model.specs.Superblock.{Superblock, has_flag, HasLayout}
use Rattle.image_model.specs.Geometry.{Geometry, layout_of, journal_sectors, initial, sector_at, bitmap_sectors_for, size_faults, best_provided, best_provided_of}
use Rattle.image_model.specs.declared.geom_fault.GeomFault.TheVariants.{DeviceTooLarge, JournalTooLarge, TooSmall}
use Rattle.image_model.specs.Faults.{ok_unless}
use Rattle.image_model.specs.GeometryLaws.{FitsDisk, BestProvidedLaw, NoneProvidedLaw}
use Rattle.image_model.proofs.FaultLemmas.{ok_unless-told}
use Rattle.image_model.proofs.GeometryLemmas.{sector_at-provided}

-- Place o of row a lies in the first `space` places of rows that have `run` places more, exactly where it is one of
-- those that the whole rows and the last one leave.
room_is : (run row space a o : ℕ) → 0 < row → o < row
    → (a * (run + row) + run + o < space → a * row + o < space / (run + row) * row + (space % (run + row) - run))
    × (a * row + o < space / (run + row) * row + (space % (run + row) - run) → a * (run + row) + run + o < space)
room_is run row space a o some inside =
    let whole = space / (run + row) in
    let rest = space % (run + row) in
    let split : whole * (run + row) + rest ≡ space = div-add-mod' space (run + row) in
    let low : rest < run + row = mod_below space (run + row) (omega arith) in
    elim (cases_order a whole) [
      | inl same ↦
          let rows : a * (run + row) ≡ whole * (run + row) = ap (λ n. n * (run + row)) same in
          let places : a * row ≡ whole * row = ap (λ n. n * row) same in
          (λ h. omega arith, λ h. omega arith)
      | inr (inl less) ↦
          let rows : a * (run + row) + (run + row) ≤ whole * (run + row) = row_fits a (run + row) whole (run + row) less (omega arith) in
          let places : a * row + row ≤ whole * row = row_fits a row whole row less (omega arith) in
          (λ h. omega arith, λ h. omega arith)
      | inr (inr more) ↦
          let rows : whole * (run + row) + (run + row) ≤ a * (run + row) = row_fits whole (run + row) a (run + row) more (omega arith) in
          let places : whole * row + row ≤ a * row = row_fits whole row a row more (omega arith) in
          (λ h. absurd (omega arith), λ h. absurd (omega arith))
    ]

-- So many sectors of the device have a place on a disk of so many sectors.
abbrev room : Geometry → ℕ → ℕ
room g sectors = (sectors - initial g) / (g.tag_run + g.interleave) * g.interleave + ((sectors - initial g) % (g.tag_run + g.interleave) - g.tag_run)

sector_at_in_room : (g : Geometry) (sectors x : ℕ) → 0 < g.interleave → sector_at g x < sectors → x < room g sectors
unfolding sector_at
sector_at_in_room g sectors x some h =
    let split : x / g.interleave * g.interleave + x % g.interleave ≡ x = div-add-mod' x g.interleave in
    let is = room_is g.tag_run g.interleave (sectors - initial g) (x / g.interleave) (x % g.interleave) some (mod_below x g.interleave some) in
    let inside = is.0 (omega arith) in
    omega arith

room_in_disk : (g : Geometry) (sectors x : ℕ) → 0 < g.interleave → x < room g sectors → sector_at g x < sectors
unfolding sector_at
room_in_disk g sectors x some h =
    let split : x / g.interleave * g.interleave + x % g.interleave ≡ x = div-add-mod' x g.interleave in
    let is = room_is g.tag_run g.interleave (sectors - initial g) (x / g.interleave) (x % g.interleave) some (mod_below x g.interleave some) in
    let inside = is.1 (omega arith) in
    omega arith

-- A sector of the disk is not before the device's own.
pub sector_at-le : (g : Geometry) (x : ℕ) → x ≤ sector_at g x
unfolding sector_at
sector_at-le g x =
    let split : x / g.interleave * g.interleave + x % g.interleave ≡ x = div-add-mod' x g.interleave in
    let rows : x / g.interleave * (g.tag_run + g.interleave) ≡ x / g.interleave * g.tag_run + x / g.interleave * g.interleave = omega arith in
    omega arith

-- A multiple of 8 is one of each smaller power of two.
eights_whole : (n k : ℕ) → n % 8 ≡ 0 → k ≤ 3 → n % 2 ^ k ≡ 0
eights_whole n zero whole low = omega arith
eights_whole n (suc zero) whole low = omega arith
eights_whole n (suc (suc zero)) whole low = omega arith
eights_whole n (suc (suc (suc zero))) whole low = whole
eights_whole n (suc (suc (suc (suc k)))) whole low = absurd (omega arith)

-- ---- the greatest

best_eights : (g : Geometry) (sectors : ℕ) → best_provided g sectors % 8 ≡ 0
unfolding best_provided
best_eights g sectors = mul-mod_left (room g sectors / 8) 8

best_in_room : (g : Geometry) (sectors : ℕ) → 1 ≤ best_provided g sectors → best_provided g sectors - 1 < room g sectors
unfolding best_provided
best_in_room g sectors some = omega arith

best_greatest : (g : Geometry) (sectors n : ℕ) → 1 ≤ n → n % 8 ≡ 0 → n - 1 < room g sectors → n ≤ best_provided g sectors
unfolding best_provided
best_greatest g sectors n some eights inside = omega arith

-- What is told of a disk that can provide sectors.
best_told : (s : Superblock) (sectors best : ℕ) → best_provided_of s sectors ≡ Ok best → (best_provided (layout_of s) sectors ≡ best) × (1 ≤ best) × (sectors ≤ 2 ^ 48) × (journal_sectors (layout_of s) ≤ 2 ^ 20)
unfolding best_provided_of
best_told s sectors best told =
    let g = layout_of s in
    let parts = ok_unless-told (size_faults g sectors ++ (best_provided g sectors == 0, TooSmall sectors (initial g + g.tag_run + 8)) ∷ []) (best_provided g sectors) best told in
    let some = eqb-false (best_provided g sectors) 0 parts.1.1.1.0 in
    let is = parts.0 in
    (is, omega (arith, some), ltb-false (2 ^ 48) sectors parts.1.0, ltb-false (2 ^ 20) (journal_sectors g) parts.1.1.0)

small_told : (large long small : Bool) (x sectors journal have need told_have told_need : ℕ)
    → ok_unless ((large, DeviceTooLarge sectors) ∷ (long, JournalTooLarge journal) ∷ (small, TooSmall have need) ∷ []) x ≡ Err (TooSmall told_have told_need) → small ≡ true
small_told true long small x sectors journal have need told_have told_need told = absurd (cc)
small_told false true small x sectors journal have need told_have told_need told = absurd (cc)
small_told false false true x sectors journal have need told_have told_need told = refl
small_told false false false x sectors journal have need told_have told_need told = absurd (cc)

none_told : (s : Superblock) (sectors have need : ℕ) → best_provided_of s sectors ≡ Err (TooSmall have need) → best_provided (layout_of s) sectors ≡ 0
unfolding best_provided_of
none_told s sectors have need told =
    let g = layout_of s in
    eqb-true (best_provided g sectors) 0
    (small_told _ _ _ (best_provided g sectors) sectors (journal_sectors g) sectors (initial g + g.tag_run + 8) have need told)

-- ---- for callers

-- The provided sectors of a new image are the most that the disk can provide.
pub best_provided_is : BestProvidedLaw
best_provided_is s sectors best h told =
    let g = layout_of s in
    let parts = best_told s sectors best told in
    let is = parts.0 in
    let positive = pow_pos s.log2_interleave in
    let eights = ap (λ n. n % 8) (sym is) ∙ best_eights g sectors in
    let fits = room_in_disk g sectors (best - 1) positive (subst (λ n. n - 1 < room g sectors) is (best_in_room g sectors (omega arith))) in
    let low = sector_at-le g (best - 1) in
    record {
      some = parts.1;
      eights = eights;
      fits = fits;
      greatest = λ n some whole inside. subst (λ m. n ≤ m) is (best_greatest g sectors n some whole (sector_at_in_room g sectors (n - 1) positive inside));
      accepted = record {
        layout = record { version = h.version; flags = h.flags; log2_interleave = h.log2_interleave; log2_spb = h.log2_spb; tag_size = h.tag_size; sections = h.sections };
        provided = (parts.1, omega arith);
        whole_blocks = eights_whole best s.log2_spb eights h.log2_spb;
      };
    }

-- Where none are told, the disk can provide none.
pub none_provided : NoneProvidedLaw
none_provided s sectors have need h told n some whole =
    let g = layout_of s in
    let none = none_told s sectors have need told in
    elim (cases_lt (sector_at g (n - 1)) sectors) [
      | inl inside ↦
          let most = best_greatest g sectors n some whole (sector_at_in_room g sectors (n - 1) (pow_pos s.log2_interleave) inside) in
          absurd (omega arith)
      | inr outside ↦ outside
    ]

-- The fields with these sectors fit the disk, if the bitmap does.
pub best_provided-FitsDisk : (s : Superblock) (sectors best : ℕ) → HasLayout s → best_provided_of s sectors ≡ Ok best
    → (IsTrue (has_flag DIRTY_BITMAP s.flags) → bitmap_sectors_for (best / 2 ^ s.log2_spb) s.log2_region ≤ journal_sectors (layout_of s))
    → FitsDisk (record s { provided = best }) sectors
best_provided-FitsDisk s sectors best h told bitmap =
    let parts = best_told s sectors best told in
    let is = best_provided_is s sectors best h told in
    record {
      device = parts.2;
      journal = parts.3;
      last = subst (λ n. n < sectors) (sym (sector_at-provided s best (best - 1))) is.fits;
      bitmap = bitmap;
    }
