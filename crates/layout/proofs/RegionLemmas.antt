-- How regions are counted in numbers of 64 bits.
use Rattle.std.proofs.Common.{◌≡◌, inl, inr, ℕ, ◌/◌, ◌^◌, ◌<◌, ◌≤◌, max, Option, Some, None, sym, ap, ◌∙◌, arith}
use Rattle.std.specs.Prelude.{unwrap_or}
use Rattle.std.specs.Int.{IsInRange}
use Rattle.std.specs.Option.{SomeIff}
use Rattle.std.proofs.lemmas.Bool.{cases_lt}
use Rattle.std.proofs.Math.Nat.{div-eq_of_lt, pow-le-pow_right}
use Rattle.image_model.specs.Geometry.{bitmap_sectors_for}
use Rattle.image_model.proofs.Regions.{bitmap_sectors_for-one}

-- A number of 64 bits that is shifted as far as they reach, or further, is 0.
pub unwrap_or-shifted : (number log2 : ℕ) (shifted : Option ℕ) → number < 2 ^ 64
    → SomeIff shifted (log2 < 64) (number / 2 ^ log2) → unwrap_or shifted 0 ≡ number / 2 ^ log2
unwrap_or-shifted number log2 (Some n) low is = is.1
unwrap_or-shifted number log2 None low is =
    elim (cases_lt log2 64) [
      | inl less ↦ absurd (is less)
      | inr far ↦
          let power = pow-le-pow_right {n = 2} (omega arith) {i = 64} {j = log2} far in
          sym (div-eq_of_lt (omega arith))
    ]

-- With 48 there is one region, whose bitmap takes eight sectors: so a least exponent that is not yet
-- enough is below that.
pub below_most : (blocks log2_region sectors least : ℕ) → IsInRange 1 (2 ^ 48) blocks → 8 ≤ sectors
    → ((k : ℕ) → log2_region ≤ k → bitmap_sectors_for blocks k ≤ sectors → least ≤ k)
    → sectors < bitmap_sectors_for blocks least → least < max log2_region 48
below_most blocks log2_region sectors least low room is_least long =
    let most = max log2_region 48 in
    let power = pow-le-pow_right {n = 2} (omega arith) {i = 48} {j = most} (omega arith) in
    let one = bitmap_sectors_for-one blocks most low.0 (omega arith) in
    let high = is_least most (omega arith) (omega arith) in
    elim (cases_lt least most) [
      | inl less ↦ less
      | inr more ↦
          let same : least ≡ most = omega arith in
          let fits : bitmap_sectors_for blocks least ≡ 8 = ap (bitmap_sectors_for blocks) same ∙ one in
          absurd (omega arith)
    ]
