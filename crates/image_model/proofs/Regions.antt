-- Which blocks make a region, and how large its bitmap is.
use Rattle.std.proofs.Common.{◌≡◌, inl, inr, ℕ, zero, suc, ◌+◌, ◌-◌, ◌*◌, ◌/◌, ◌%◌, ◌^◌, ◌<◌, ◌≤◌, min, max, Bool, true, ap, subst, ◌∙◌, arith}
use Rattle.std.specs.Prelude.{nat_le}
use Rattle.std.proofs.lemmas.Bool.{cond_both, both_ways, cases_eq, leb-true, le-leb}
use Rattle.std.proofs.lemmas.Nat.{row_fits, pow_pos, div-add-mod', mod_below}
use Rattle.std.proofs.Math.Nat.{add-div_right, div-eq_of_lt-le, div-mul-le_self, mul-le-mul_left, mul-le-mul_right, pow-le-pow_right}
use Rattle.std.proofs.Math.Pow.{shr_mono}
use Rattle.image_model.specs.Geometry.{Geometry, IsGeometry, quotient_up, section_sectors, journal_sectors, data_at, regions_for, bitmap_sectors_for, regions, bitmap_sectors, region_of, least_from, fitting_log2_region}
use Rattle.image_model.specs.GeometryLaws.{IsFitting, FittingLaw}
use Rattle.image_model.proofs.BestProvided.{sector_at-le}

-- ---- the least number that passes

-- It is not below the first.
least_from-from : (passes : ℕ → Bool) (from count : ℕ) → from ≤ least_from passes from count
least_from-from passes from zero = omega arith
least_from-from passes from (suc count) =
    cond_both (passes from) from (least_from passes (suc from) count) (λ n. from ≤ n)
    (λ here. omega arith) (λ later. let rest = least_from-from passes (suc from) count in omega arith)

-- It passes, if the one behind all that are tried does.
least_from-passes : (passes : ℕ → Bool) (from count : ℕ) → passes (from + count) ≡ true → passes (least_from passes from count) ≡ true
least_from-passes passes from zero last = subst (λ n. passes n ≡ true) (let e : from + 0 ≡ from = omega arith in e) last
least_from-passes passes from (suc count) last =
    cond_both (passes from) from (least_from passes (suc from) count) (λ n. passes n ≡ true)
    (λ here. here)
    (λ later. least_from-passes passes (suc from) count (subst (λ n. passes n ≡ true) (let e : from + suc count ≡ suc from + count = omega arith in e) last))

-- None that passes is below it.
least_from-least : (passes : ℕ → Bool) (from count k : ℕ) → from ≤ k → passes k ≡ true → least_from passes from count ≤ k
least_from-least passes from zero k low passing = low
least_from-least passes from (suc count) k low passing =
    cond_both (passes from) from (least_from passes (suc from) count) (λ n. n ≤ k)
    (λ here. low)
    (λ later. elim (cases_eq from k) [
      | inl same ↦ absurd (both_ways (passes from) later (ap passes same ∙ passing))
      | inr other ↦ least_from-least passes (suc from) count k (omega (arith, other)) passing
    ])

-- ---- regions

-- There is one region where a region has all blocks.
regions_for-one : (blocks log2_region : ℕ) → 1 ≤ blocks → blocks ≤ 2 ^ log2_region → regions_for blocks log2_region ≡ 1
unfolding regions_for
regions_for-one blocks log2_region some low = div-eq_of_lt-le (2 ^ log2_region) (omega arith) (omega arith)

-- A section has its 8 metadata sectors.
section_sectors-low : (g : Geometry) → 8 ≤ section_sectors g.shape
unfolding section_sectors
section_sectors-low g = omega arith

-- ---- for callers

-- Their bitmap takes eight sectors.
pub bitmap_sectors_for-one : (blocks log2_region : ℕ) → 1 ≤ blocks → blocks ≤ 2 ^ log2_region → bitmap_sectors_for blocks log2_region ≡ 8
unfolding bitmap_sectors_for
bitmap_sectors_for-one blocks log2_region some low = let one = regions_for-one blocks log2_region some low in omega arith

-- A quotient rounded up, as `div_ceil` gives it.
pub quotient_up-is : (number by : ℕ) → 0 < by → quotient_up number by ≡ number / by + min 1 (number % by)
quotient_up-is number by some =
    let split : number / by * by + number % by ≡ number = div-add-mod' number by in
    let low : number % by < by = mod_below number by some in
    let up : ℕ = number / by + min 1 (number % by) in
    elim (cases_eq (number % by) 0) [
      | inl none ↦
          let is : up ≡ number / by = omega arith in
          let row : up * by ≡ number / by * by = ap (λ n. n * by) is in
          div-eq_of_lt-le by (omega arith) (omega arith)
      | inr rest ↦
          let is : up ≡ number / by + 1 = omega (arith, rest) in
          let row : up * by ≡ (number / by + 1) * by = ap (λ n. n * by) is in
          div-eq_of_lt-le by (omega (arith, rest)) (omega (arith, rest))
    ]

-- The regions of so many blocks: that of the last one, and those before it.
pub regions_for-is : (blocks log2_region : ℕ) → 1 ≤ blocks → regions_for blocks log2_region ≡ (blocks - 1) / 2 ^ log2_region + 1
unfolding regions_for
regions_for-is blocks log2_region some =
    let positive = pow_pos log2_region in
    let moved : blocks + (2 ^ log2_region - 1) ≡ blocks - 1 + 2 ^ log2_region = omega arith in
    ap (λ n. n / 2 ^ log2_region) moved ∙ add-div_right (blocks - 1) positive

-- The sectors of their bitmap, as `div_ceil` gives them.
pub bitmap_sectors_for-is : (blocks log2_region : ℕ)
    → bitmap_sectors_for blocks log2_region ≡ 8 * (regions_for blocks log2_region / 32768 + min 1 (regions_for blocks log2_region % 32768))
unfolding bitmap_sectors_for
bitmap_sectors_for-is blocks log2_region = ap (λ n. 8 * n) (quotient_up-is (regions_for blocks log2_region) 32768 (omega arith))

-- A device has no more blocks than a disk may have sectors.
pub blocks-low : (g : Geometry) (sectors : ℕ) → IsGeometry g sectors → g.blocks ≤ 2 ^ 48
unfolding data_at
blocks-low g sectors h =
    let spb = h.spb in
    let some = h.blocks in
    let last = h.last in
    let device = h.device in
    let low = sector_at-le g ((g.blocks - 1) * g.shape.spb) in
    let row : (g.blocks - 1) * 1 ≤ (g.blocks - 1) * g.shape.spb = mul-le-mul_left (g.blocks - 1) spb.0 in
    omega arith

-- The journal has room for the bitmap of one region.
pub journal_sectors-some : (g : Geometry) (sectors : ℕ) → IsGeometry g sectors → 8 ≤ journal_sectors g
journal_sectors-some g sectors h =
    let section = section_sectors-low g in
    let journal : 1 * section_sectors g.shape ≤ journal_sectors g = mul-le-mul_right (section_sectors g.shape) h.sections in
    omega arith

-- The fitting log2_region is the least one whose bitmap fits the journal.
pub fitting_log2_region_is : FittingLaw
unfolding fitting_log2_region
fitting_log2_region_is g sectors h =
    let passes : ℕ → Bool = λ k. nat_le (bitmap_sectors_for g.blocks k) (journal_sectors g) in
    let low = blocks-low g sectors h in
    let most = pow-le-pow_right {n = 2} (omega arith) {i = 48} {j = g.log2_region + 48} (omega arith) in
    let one = bitmap_sectors_for-one g.blocks (g.log2_region + 48) h.blocks (omega arith) in
    let journal = journal_sectors-some g sectors h in
    record {
      not_below = least_from-from passes g.log2_region 48;
      fits = leb-true _ _ (least_from-passes passes g.log2_region 48 (le-leb _ _ (omega arith)));
      least = λ k from fits. least_from-least passes g.log2_region 48 k from (le-leb _ _ fits);
    }

-- It is the given one, or at most 48.
pub fitting_log2_region-high : (g : Geometry) (sectors : ℕ) → IsGeometry g sectors → fitting_log2_region g ≤ max g.log2_region 48
fitting_log2_region-high g sectors h =
    let fitting = fitting_log2_region_is g sectors h in
    let low = blocks-low g sectors h in
    let most = pow-le-pow_right {n = 2} (omega arith) {i = 48} {j = max g.log2_region 48} (omega arith) in
    let one = bitmap_sectors_for-one g.blocks (max g.log2_region 48) h.blocks (omega arith) in
    let journal = journal_sectors-some g sectors h in
    fitting.least (max g.log2_region 48) (omega arith) (omega arith)

-- A log2_region that is the least to fit is the fitting one.
pub IsFitting-same : (g : Geometry) (sectors k : ℕ) → IsGeometry g sectors → IsFitting g k → k ≡ fitting_log2_region g
IsFitting-same g sectors k h is =
    let fitting = fitting_log2_region_is g sectors h in
    let one = is.least (fitting_log2_region g) fitting.not_below fitting.fits in
    let other = fitting.least k is.not_below is.fits in
    omega arith

-- The region of a block is one of the regions.
pub region_of-lt : (g : Geometry) (b : ℕ) → b < g.blocks → region_of g b < regions g
unfolding regions_for
region_of-lt g b inside =
    let size = 2 ^ g.log2_region in
    let positive = pow_pos g.log2_region in
    let moved : (b + size) / size ≡ b / size + 1 = add-div_right b positive in
    let up : (b + size) / size ≤ (g.blocks + (size - 1)) / size = shr_mono g.log2_region (omega arith) in
    omega arith

-- A region begins with a block of the device.
pub region-begins : (g : Geometry) (r : ℕ) → r < regions g → r * 2 ^ g.log2_region < g.blocks
unfolding regions_for
region-begins g r inside =
    let size = 2 ^ g.log2_region in
    let positive = pow_pos g.log2_region in
    let most : (g.blocks + (size - 1)) / size * size ≤ g.blocks + (size - 1) = div-mul-le_self (g.blocks + (size - 1)) size in
    let row : r * size + size ≤ (g.blocks + (size - 1)) / size * size = row_fits r size ((g.blocks + (size - 1)) / size) size inside (omega arith) in
    omega arith

-- Each region has a bit in the bitmap, whose sectors have 4096 bits each.
pub regions-le : (g : Geometry) → regions g ≤ 4096 * bitmap_sectors g
unfolding bitmap_sectors_for
regions-le g = omega arith
