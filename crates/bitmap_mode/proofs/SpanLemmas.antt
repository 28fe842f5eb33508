-- The regions of blocks that follow one another.
use Rattle.std.proofs.Common.{◌≡◌, ◌≢◌, inl, inr, ℕ, zero, suc, ◌+◌, ◌-◌, ◌/◌, ◌^◌, ◌≤◌, ◌==◌, Bool, false, ◌&&◌, ◌||◌, refl, ◌∙◌, ap, subst, arith}
use Rattle.std.specs.Prelude.{nat_le, nat_lt}
use Rattle.std.proofs.lemmas.Bool.{cases_eq, cases_lt, eq-eqb, le-leb, le-ltb, lt-leb, lt-ltb, ne_eqb}
use Rattle.std.proofs.lemmas.Nat.{pow_pos}
use Rattle.std.proofs.Math.Nat.{add-div_right}
use Rattle.std.proofs.Math.Pow.{shr_mono}
use Rattle.image_model.specs.Geometry.{Geometry, region_of}
use Rattle.bitmap_mode.specs.Cleaning.{has_block_in}

-- From this region on, and not above that one.
abbrev pub is_between : (first last region : ℕ) → Bool
is_between first last region = nat_le first region && nat_lt region (last + 1)

-- A region more in front, which is the same or the one before it.
between_more : (q q' e r : ℕ) → q ≤ q' → q' ≤ q + 1 → q' ≤ e → ((q == r) || is_between q' e r) ≡ is_between q e r
between_more q q' e r low high end = elim (cases_eq q r) [
  | inl same ↦ rw (eq-eqb q r same, le-leb q r (omega arith), lt-ltb r (e + 1) (omega arith)) refl
  | inr other ↦ elim (cases_lt r q) [
    | inl below ↦ rw (ne_eqb q r other, lt-leb q' r (omega arith), lt-leb q r (omega arith)) refl
    | inr above ↦ rw (ne_eqb q r other, le-leb q' r (omega arith), le-leb q r (omega arith)) refl
  ]
]

-- The region of the next block is the same, or the next one.
region_of-next : (g : Geometry) (b : ℕ) → (region_of g b ≤ region_of g (b + 1)) × (region_of g (b + 1) ≤ region_of g b + 1)
region_of-next g b =
    let size = 2 ^ g.log2_region in
    let positive = pow_pos g.log2_region in
    let moved : (b + size) / size ≡ b / size + 1 = add-div_right b positive in
    let up : (b + 1) / size ≤ (b + size) / size = shr_mono g.log2_region (omega arith) in
    (shr_mono g.log2_region (omega arith), omega arith)

-- So many blocks and one more are in the regions from the first block's to the last one's.
between_regions : (g : Geometry) (n first r : ℕ) → has_block_in g first (suc n) r ≡ is_between (region_of g first) (region_of g (first + n)) r
between_regions g zero first r =
    subst (λ (last : ℕ). has_block_in g first 1 r ≡ is_between (region_of g first) last r) (ap (region_of g) (omega arith)) (only (region_of g first) r)
  where
    only : (q r : ℕ) → ((q == r) || false) ≡ is_between q q r
    only q r = elim (cases_eq q r) [
      | inl same ↦ rw (eq-eqb q r same, le-leb q r (omega arith), lt-ltb r (q + 1) (omega arith)) refl
      | inr other ↦ elim (cases_lt r q) [
        | inl below ↦ rw (ne_eqb q r other, lt-leb q r (omega arith)) refl
        | inr above ↦ rw (ne_eqb q r other, le-leb q r (omega arith), le-ltb r (q + 1) (omega (arith, other))) refl
      ]
    ]
between_regions g (suc n) first r =
    let next = region_of-next g first in
    let low = next.0 in
    let high = next.1 in
    let end : region_of g (first + 1) ≤ region_of g (first + 1 + n) = shr_mono g.log2_region (omega arith) in
    let same : first + 1 + n ≡ first + suc n = omega arith in
    ap (λ (t : Bool). (region_of g first == r) || t) (between_regions g n (first + 1) r)
    ∙ between_more (region_of g first) (region_of g (first + 1)) (region_of g (first + 1 + n)) r low high end
    ∙ ap (λ (b : ℕ). is_between (region_of g first) (region_of g b) r) same

-- ---- for callers

-- So many blocks, if there is one, are in the regions from the first block's to the last one's.
pub span_regions : (g : Geometry) (first count r : ℕ) → count ≢ 0
    → has_block_in g first count r ≡ is_between (region_of g first) (region_of g (first + count - 1)) r
span_regions g first zero r some = absurd (some refl)
span_regions g first (suc n) r some =
    let last : first + n ≡ first + suc n - 1 = omega arith in
    between_regions g n first r ∙ ap (λ (b : ℕ). is_between (region_of g first) (region_of g b) r) last
