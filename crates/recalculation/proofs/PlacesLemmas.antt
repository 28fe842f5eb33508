-- Which blocks a region has, and where blocks lie that are side by side.
use Rattle.std.proofs.Common.{◌≡◌, inl, inr, ℕ, zero, suc, ◌+◌, ◌-◌, ◌*◌, ◌/◌, ◌%◌, ◌^◌, ◌<◌, ◌≤◌, min, max, sym, ◌∙◌, ap, arith}
use Rattle.std.proofs.lemmas.Bool.{cases_lt}
use Rattle.std.proofs.lemmas.Nat.{div-mul-add, mod-mul-add, div-add-mod', mod_below, pow-add, pow_pos}
use Rattle.std.proofs.Math.Nat.{mul-div_cancel, mul-le-mul_left, mul-le-mul_right, pow-le-pow_right}
use Rattle.image_model.specs.Geometry.{Geometry, IsGeometry, area_at, data_at, layout_of, region_of, regions}
use Rattle.image_model.specs.Superblock.{Superblock}
use Rattle.image_model.proofs.GeometryLemmas.{area_blocks_some, data_at-inside, placed}
use Rattle.image_model.proofs.Regions.{region-begins}
use Rattle.recalculation.specs.Places.{IsSideBySide, IsSpan, TellsAreas}

-- ---- regions

small : (b w : ℕ) → b < w → b / w ≡ 0
small b w low = let e : 0 * w + b ≡ b = omega arith in ap (λ n. n / w) (sym e) ∙ div-mul-add 0 w b low

module _ (g : Geometry) (few : g.blocks ≤ 2 ^ 48) where
  -- The blocks of a region, or as many as a device may have.
  abbrev of_region : ℕ
  of_region = 2 ^ min g.log2_region 48

  -- By these the region of a block is the same.
  pub region_is : (b : ℕ) → b < g.blocks → region_of g b ≡ b / 2 ^ min g.log2_region 48
  region_is b low = elim (cases_lt g.log2_region 48) [
    | inl short ↦ let e : g.log2_region ≡ min g.log2_region 48 = omega arith in ap (λ n. b / 2 ^ n) e
    | inr long ↦
        let e : min g.log2_region 48 ≡ 48 = omega arith in
        let more : 2 ^ 48 ≤ 2 ^ g.log2_region = pow-le-pow_right (omega arith) long in
        small b (2 ^ g.log2_region) (omega arith) ∙ sym (small b (2 ^ 48) (omega arith)) ∙ ap (λ n. b / 2 ^ n) (sym e)
  ]

  pub begins_low : (region : ℕ) → region < regions g → region * 2 ^ min g.log2_region 48 < g.blocks
  begins_low region low =
      let real = region-begins g region low in
      let less : 2 ^ min g.log2_region 48 ≤ 2 ^ g.log2_region = pow-le-pow_right (omega arith) (omega arith) in
      let row : region * 2 ^ min g.log2_region 48 ≤ region * 2 ^ g.log2_region = mul-le-mul_left region less in
      omega (arith, real, row)

  -- The first block of one is the same.
  pub start_is : (region : ℕ) → region < regions g → region * 2 ^ min g.log2_region 48 ≡ region * 2 ^ g.log2_region
  start_is region low = elim (cases_lt g.log2_region 48) [
    | inl short ↦ let e : min g.log2_region 48 ≡ g.log2_region = omega arith in ap (λ n. region * 2 ^ n) e
    | inr long ↦ elim (cases_lt 0 region) [
      | inl some ↦
          let real = region-begins g region low in
          let more : 2 ^ 48 ≤ 2 ^ g.log2_region = pow-le-pow_right (omega arith) long in
          let row : 1 * 2 ^ g.log2_region ≤ region * 2 ^ g.log2_region = mul-le-mul_right (2 ^ g.log2_region) some in
          absurd (omega (arith, few, real, more, row))
      | inr none ↦
          let first : region ≡ 0 = omega (arith, none) in
          let same : 0 * 2 ^ min g.log2_region 48 ≡ 0 * 2 ^ g.log2_region = omega arith in
          ap (λ n. n * 2 ^ min g.log2_region 48) first ∙ same ∙ ap (λ n. n * 2 ^ g.log2_region) (sym first)
    ]
  ]

  -- The blocks of a region that are not below some first one.
  pub span_is : (first region : ℕ) → IsSpan g first region (max (region * 2 ^ min g.log2_region 48) first) (min (region * 2 ^ min g.log2_region 48 + 2 ^ min g.log2_region 48) g.blocks)
  span_is first region =
      let of = 2 ^ min g.log2_region 48 in
      let some : 0 < of = pow_pos (min g.log2_region 48) in
      record {
        inside = omega arith;
        each = λ b low. (
          λ is.
              let e : b / of ≡ region = sym (region_is b low) ∙ is.0 in
              let split : b / of * of + b % of ≡ b = div-add-mod' b of in
              let narrow : b % of < of = mod_below b of some in
              let row : b / of * of ≡ region * of = ap (λ n. n * of) e in
              let above = is.1 in
              (omega (arith, split, row, above), omega (arith, split, narrow, row, low)),
          λ within.
              let above = within.0 in
              let under = within.1 in
              let sum : b ≡ region * of + (b - region * of) = omega (arith, above) in
              let narrow : b - region * of < of = omega (arith, above, under) in
              (region_is b low ∙ ap (λ n. n / of) sum ∙ div-mul-add region of (b - region * of) narrow, omega (arith, above)),
        );
      }

-- They are no more than those of a device.
pub region_small : (g : Geometry) → 2 ^ min g.log2_region 48 ≤ 2 ^ 48
region_small g = pow-le-pow_right {n = 2} (omega arith) {i = min g.log2_region 48} {j = 48} (omega arith)

-- ---- blocks that lie side by side

-- A read has room for a block.
pub run_some : (spb : ℕ) → 1 ≤ spb → spb ≤ 8 → 1 ≤ 128 / spb
run_some spb some few = elim (cases_lt (128 / spb) 1) [
  | inr enough ↦ enough
  | inl none ↦
      let split : 128 / spb * spb + 128 % spb ≡ 128 = div-add-mod' 128 spb in
      let narrow : 128 % spb < spb = mod_below 128 spb (omega (arith, some)) in
      let zero_ : 128 / spb ≡ 0 = omega (arith, none) in
      let row : 128 / spb * spb ≡ 0 * spb = ap (λ n. n * spb) zero_ in
      absurd (omega (arith, split, narrow, row, few))
]

pub of_area_some : (g : Geometry) (sectors : ℕ) → IsGeometry g sectors → 0 < g.interleave / g.shape.spb
of_area_some g sectors is = area_blocks_some (g.interleave / g.shape.spb) g.shape.spb g.interleave is.whole_blocks is.interleave

-- The data of one of them lie behind those of the first.
pub data_beside : (g : Geometry) (sectors first count j : ℕ) → IsGeometry g sectors → IsSideBySide g first count → j < count → data_at g (first + j) ≡ data_at g first + j * g.shape.spb
data_beside g sectors first count j is beside low =
    let n = g.interleave / g.shape.spb in
    let one = placed g sectors first is in
    let other = placed g sectors (first + j) is in
    let place : first % n ≡ one.place = ap (λ m. m % n) one.block_is ∙ mod-mul-add one.area n one.place one.place_low in
    let inside : one.place + j < n = omega (arith, beside, place, low) in
    let sum : first + j ≡ one.area * n + (one.place + j) = omega (arith, one.block_is) in
    let area : other.area ≡ one.area = sym (div-mul-add other.area n other.place other.place_low) ∙ ap (λ m. m / n) (sym other.block_is ∙ sum) ∙ div-mul-add one.area n (one.place + j) inside in
    let at : other.place ≡ one.place + j = sym (mod-mul-add other.area n other.place other.place_low) ∙ ap (λ m. m % n) (sym other.block_is ∙ sum) ∙ mod-mul-add one.area n (one.place + j) inside in
    let moved : other.place * g.shape.spb ≡ one.place * g.shape.spb + j * g.shape.spb = ap (λ m. m * g.shape.spb) at ∙ omega arith in
    let data_is : data_at g (first + j) ≡ area_at g one.area + g.tag_run + other.place * g.shape.spb = other.data_is ∙ ap (λ m. area_at g m + g.tag_run + other.place * g.shape.spb) area in
    omega (arith, one.data_is, data_is, moved)

-- They end on the disk.
pub beside_inside : (g : Geometry) (sectors first count : ℕ) → IsGeometry g sectors → IsSideBySide g first count → 1 ≤ count → first + count ≤ g.blocks → data_at g first + count * g.shape.spb ≤ sectors
beside_inside g sectors first count is beside some inside =
    let last = data_beside g sectors first count (count - 1) is beside (omega (arith, some)) in
    let end = (data_at-inside g sectors (first + (count - 1)) is (omega (arith, some, inside))).1 in
    let all = whole count g.shape.spb some in
    omega (arith, last, end, all)
  where
    whole : (n size : ℕ) → 1 ≤ n → (n - 1) * size + size ≡ n * size
    whole zero size low = absurd (omega arith)
    whole (suc n) size low = let e : suc n - 1 ≡ n = omega arith in rw e (omega arith)

-- ---- the counts, as they are computed

-- A power below the word's size.
power_fits : (n : ℕ) → n ≤ 48 → 1 * 2 ^ n % 2 ^ 64 ≡ 2 ^ n
power_fits n few =
    let most : 2 ^ n ≤ 2 ^ 48 = pow-le-pow_right (omega arith) few in
    let one : 1 * 2 ^ n ≡ 2 ^ n = omega arith in
    let e : 0 * 2 ^ 64 + 2 ^ n ≡ 1 * 2 ^ n = omega arith in
    ap (λ m. m % 2 ^ 64) (sym e) ∙ mod-mul-add 0 (2 ^ 64) (2 ^ n) (omega (arith, most))

pub region_power : (log2 : ℕ) → 1 * 2 ^ min log2 48 % 2 ^ 64 ≡ 2 ^ min log2 48
region_power log2 = power_fits (min log2 48) (omega arith)

pub area_power : (s : Superblock) → TellsAreas s → 1 * 2 ^ (s.log2_interleave - s.log2_spb) % 2 ^ 64 ≡ (layout_of s).interleave / (layout_of s).shape.spb
area_power s is =
    let bounds = is.log2_interleave in
    let few = is.log2_spb in
    let low : s.log2_interleave - s.log2_spb ≤ 48 = omega (arith, bounds.1) in
    let sum : (s.log2_interleave - s.log2_spb) + s.log2_spb ≡ s.log2_interleave = omega (arith, bounds.0, few) in
    let product : 2 ^ s.log2_interleave ≡ 2 ^ (s.log2_interleave - s.log2_spb) * 2 ^ s.log2_spb = ap (λ n. 2 ^ n) (sym sum) ∙ pow-add 2 (s.log2_interleave - s.log2_spb) s.log2_spb in
    power_fits (s.log2_interleave - s.log2_spb) low ∙ sym (ap (λ n. n / 2 ^ s.log2_spb) product ∙ mul-div_cancel (2 ^ (s.log2_interleave - s.log2_spb)) (pow_pos s.log2_spb))
