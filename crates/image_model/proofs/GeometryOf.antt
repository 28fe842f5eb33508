-- What the geometry of accepted fields has.
use Rattle.std.proofs.Common.{◌≡◌, inl, inr, ℕ, zero, suc, ◌+◌, ◌-◌, ◌*◌, ◌/◌, ◌^◌, ◌≤◌, Bool, true, false, cond, Ok, refl, sym, ap, subst, ◌∙◌, arith}
use Rattle.std.specs.Prelude.{◌&&◌}
use Rattle.std.proofs.lemmas.Bool.{ltb-false, le-ltb, cases_Bool}
use Rattle.std.proofs.lemmas.Nat.{pow_pos, pow-add, div-add-mod'}
use Rattle.std.proofs.Math.Nat.{pow-le-pow_right, mul-div_cancel}
use Rattle.image_model.specs.declared.flags.TheConstants.{FIXED_PADDING}
use Rattle.image_model.specs.Superblock.{Superblock, has_flag, IsAccepted}
use Rattle.image_model.specs.Geometry.{IsGeometry, round_up, tag_run_of, layout_of, journal_sectors, sector_at, data_at, bitmap_sectors, geometry_of, geometry_faults}
use Rattle.image_model.specs.GeometryLaws.{FitsDisk, GivenLaw, ApartLaw}
use Rattle.image_model.proofs.FaultLemmas.{HasPassed, ok_unless-told, ok_unless-passed}
use Rattle.image_model.proofs.Apart.{lies_apart}
use Rattle.image_model.proofs.GeometryLemmas.{sector_at-block}

-- ---- powers

-- A power of two as whole groups of a smaller one.
whole_groups : (high low : ℕ) → low ≤ high → 2 ^ high ≡ 2 ^ (high - low) * 2 ^ low
whole_groups high low h = ap (λ n. 2 ^ n) (let e : high ≡ high - low + low = omega arith in e) ∙ pow-add 2 (high - low) low

groups_are : (high low : ℕ) → low ≤ high → 2 ^ high / 2 ^ low ≡ 2 ^ (high - low)
groups_are high low h = ap (λ n. n / 2 ^ low) (whole_groups high low h) ∙ mul-div_cancel (2 ^ (high - low)) (pow_pos low)

-- ---- tags

-- The tags of an area fit its run.
tags_fit : (s : Superblock) → 2 ^ (s.log2_interleave - s.log2_spb) * s.tag_size ≤ 512 * tag_run_of s
unfolding tag_run_of
tags_fit s = elim (cases_Bool (has_flag FIXED_PADDING s.flags)) [
  | inl set ↦ let e = ap (λ b. round_up (2 ^ (s.log2_interleave - s.log2_spb) * s.tag_size) (cond b 4096 131072) / 512) set in omega arith
  | inr unset ↦ let e = ap (λ b. round_up (2 ^ (s.log2_interleave - s.log2_spb) * s.tag_size) (cond b 4096 131072) / 512) unset in omega arith
]

-- ---- blocks

-- The provided sectors are whole blocks.
provided_is : (s : Superblock) → IsAccepted s → s.provided ≡ s.provided / 2 ^ s.log2_spb * 2 ^ s.log2_spb
provided_is s h = let whole = h.whole_blocks in let split = div-add-mod' s.provided (2 ^ s.log2_spb) in omega arith

-- They make a block.
pub blocks_some : (s : Superblock) → IsAccepted s → 1 ≤ s.provided / 2 ^ s.log2_spb
blocks_some s h = some (s.provided / 2 ^ s.log2_spb) (provided_is s h) h.provided.0
  where
    some : (blocks : ℕ) → s.provided ≡ blocks * 2 ^ s.log2_spb → 1 ≤ s.provided → 1 ≤ blocks
    some zero is provided = absurd (omega arith)
    some (suc blocks) is provided = omega arith

-- The last block ends where the last provided sector does.
last_is : (s : Superblock) → IsAccepted s → sector_at (layout_of s) (s.provided - 1) + 1 ≡ data_at (layout_of s) (s.provided / 2 ^ s.log2_spb - 1) + 2 ^ s.log2_spb
last_is s h =
    let layout = h.layout in
    let spb = 2 ^ s.log2_spb in
    let positive = pow_pos s.log2_spb in
    let last = s.provided / spb - 1 in
    let some = blocks_some s h in
    let row : (last + 1) * spb ≡ s.provided = ap (λ n. n * spb) (let e : last + 1 ≡ s.provided / spb = omega arith in e) ∙ sym (provided_is s h) in
    let at : s.provided - 1 ≡ last * spb + (spb - 1) = omega arith in
    let groups = whole_groups s.log2_interleave s.log2_spb (omega arith) in
    ap (λ n. sector_at (layout_of s) n + 1) at
    ∙ ap (λ n. n + 1) (sector_at-block (layout_of s) last (2 ^ (s.log2_interleave - s.log2_spb)) (spb - 1) (pow_pos (s.log2_interleave - s.log2_spb)) groups (omega arith))
    ∙ omega arith

-- ---- faults

second_unset : (one two : Bool) → (one && two) ≡ false → one ≡ true → two ≡ false
second_unset true two both set = both
second_unset false two both set = absurd (cc)

second_unused : (one two : Bool) → (one ≡ true → two ≡ false) → (one && two) ≡ false
second_unused true two h = h refl
second_unused false two h = refl

-- A disk that no test refuses has room.
passed_fits : (s : Superblock) (sectors : ℕ) → HasPassed (geometry_faults s sectors) → FitsDisk s sectors
passed_fits s sectors (device, (journal, (small, (bitmap, end)))) =
    let g = layout_of s in
    let enough = ltb-false sectors (sector_at g (s.provided - 1) + 1) small in
    record {
      device = ltb-false (2 ^ 48) sectors device;
      journal = ltb-false (2 ^ 20) (journal_sectors g) journal;
      last = omega arith;
      bitmap = λ set. ltb-false (journal_sectors g) (bitmap_sectors g) (second_unset _ _ bitmap set);
    }

-- No test refuses a disk that has room.
fits_passed : (s : Superblock) (sectors : ℕ) → FitsDisk s sectors → HasPassed (geometry_faults s sectors)
fits_passed s sectors h =
    let g = layout_of s in (
      le-ltb (2 ^ 48) sectors h.device,
      (
        le-ltb (2 ^ 20) (journal_sectors g) h.journal,
        (
          le-ltb sectors (sector_at g (s.provided - 1) + 1) (let last = h.last in omega arith),
          (
            second_unused _ _ (λ set. le-ltb (journal_sectors g) (bitmap_sectors g) (h.bitmap set)),
            tt,
          ),
        ),
      ),
    )

-- ---- for callers

-- A geometry is given exactly where it has room.
pub geometry_given : GivenLaw
unfolding geometry_of
geometry_given s sectors g = (
  λ given.
      let parts = ok_unless-told (geometry_faults s sectors) (layout_of s) g given in
      (sym parts.0, passed_fits s sectors parts.1),
  λ h. ok_unless-passed (geometry_faults s sectors) (layout_of s) (fits_passed s sectors h.1) ∙ ap Ok (sym h.0),
)

-- Where accepted fields have room, their geometry is one.
pub IsGeometry-fits : (s : Superblock) (sectors : ℕ) → IsAccepted s → FitsDisk s sectors → IsGeometry (layout_of s) sectors
IsGeometry-fits s sectors h fits =
    let layout = h.layout in
    let low = pow-le-pow_right {n = 2} (omega arith) {i = s.log2_spb} {j = 3} layout.log2_spb in
    let high = pow-le-pow_right {n = 2} (omega arith) {i = 3} {j = s.log2_interleave} layout.log2_interleave.0 in
    let positive = pow_pos s.log2_spb in
    let groups = groups_are s.log2_interleave s.log2_spb (omega arith) in
    record {
      spb = (positive, omega arith);
      tag_size = layout.tag_size;
      sections = layout.sections;
      whole_blocks = whole_groups s.log2_interleave s.log2_spb (omega arith) ∙ ap (λ n. n * 2 ^ s.log2_spb) (sym groups);
      interleave = omega arith;
      tags = subst (λ n. n * s.tag_size ≤ 512 * tag_run_of s) (sym groups) (tags_fit s);
      blocks = blocks_some s h;
      last = let is = last_is s h in let last = fits.last in omega arith;
      device = fits.device;
      journal = fits.journal;
    }

-- Accepted fields give a geometry whose parts lie apart.
pub geometry_apart : ApartLaw
geometry_apart s sectors g h given =
    let told = (geometry_given s sectors g).0 given in
    let own = IsGeometry-fits s sectors h told.1 in
    let is = subst (λ g. IsGeometry g sectors) (sym told.0) own in
    (is, lies_apart g sectors is)
