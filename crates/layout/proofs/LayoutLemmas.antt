-- Lemmas on the words of specs/Layout.antt.
use Rattle.std.proofs.Common.{◌≡◌, inl, inr, ℕ, ◌+◌, ◌-◌, ◌*◌, ◌/◌, ◌%◌, ◌^◌, ◌<◌, ◌≤◌, Bool, cond, refl, ap, subst, ◌∙◌, arith}
use Rattle.std.proofs.lemmas.Bool.{cases_Bool}
use Rattle.std.proofs.Math.Nat.{pow-le-pow_right}
use Rattle.image_model.specs.declared.flags.TheConstants.{FIXED_PADDING}
use Rattle.image_model.specs.Superblock.{Superblock, has_flag, HasLayout}
use Rattle.image_model.specs.Geometry.{round_up, journal_sectors, tag_run_of, layout_of}
use Rattle.image_model.proofs.Bounds.{journal_sectors-low, tag_run_of-high}
use Rattle.commit_id.specs.Shape.{as_shape, IsShape}
use Rattle.layout.specs.declared.layout.Layout.{Layout}
use Rattle.layout.specs.Layout.{as_geometry, IsLayout}

-- What an exponent of at most 31 gives has room.
shifted_is : (log2 : ℕ) → log2 ≤ 31 → (1 * 2 ^ log2 % 2 ^ 64 ≡ 2 ^ log2) × (2 ^ log2 ≤ 2 ^ 31)
shifted_is log2 low =
    let most = pow-le-pow_right {n = 2} (omega arith) {i = log2} {j = 31} low in
    (omega arith, most)

-- The bytes of the tags of an area.
abbrev tag_bytes : Superblock → ℕ
tag_bytes s = 2 ^ (s.log2_interleave - s.log2_spb) * s.tag_size

-- The sectors that they take in whole paddings, of which there are two.
abbrev padded_run : ℕ → Bool → ℕ
padded_run bytes fixed = round_up bytes (cond fixed 4096 131072) / 512

-- Whole paddings that hold some bytes, and no more than it takes, are their sectors.
padded_run-is : (bytes padding padded : ℕ) (fixed : Bool) → padding ≡ cond fixed 4096 131072
    → bytes ≤ padded → padded < bytes + padding → padded % padding ≡ 0 → padded / 512 ≡ padded_run bytes fixed
padded_run-is bytes padding padded fixed padding_is least most whole =
    elim (cases_Bool fixed) [
      | inl set ↦
          let is : padding ≡ 4096 = padding_is ∙ ap (λ b. cond b 4096 131072) set in
          let run = ap (padded_run bytes) set in
          let rest = subst (λ n. padded % n ≡ 0) is whole in
          omega arith
      | inr unset ↦
          let is : padding ≡ 131072 = padding_is ∙ ap (λ b. cond b 4096 131072) unset in
          let run = ap (padded_run bytes) unset in
          let rest = subst (λ n. padded % n ≡ 0) is whole in
          omega arith
    ]

-- ---- for callers

-- Whole paddings that hold the tags of an area, and no more than it takes, are the run of tags.
pub tag_run_of-is : (s : Superblock) (blocks padding padded : ℕ) → HasLayout s
    → blocks ≡ 1 * 2 ^ (s.log2_interleave - s.log2_spb) % 2 ^ 64
    → padding ≡ cond (has_flag FIXED_PADDING s.flags) 4096 131072
    → blocks * s.tag_size ≤ padded → padded < blocks * s.tag_size + padding → padded % padding ≡ 0
    → padded / 512 ≡ tag_run_of s
unfolding tag_run_of
tag_run_of-is s blocks padding padded h blocks_are padding_is least most whole =
    let high = h.log2_interleave.1 in
    let shifted = shifted_is (s.log2_interleave - s.log2_spb) (omega arith) in
    let tags : blocks * s.tag_size ≡ tag_bytes s = ap (λ n. n * s.tag_size) (blocks_are ∙ shifted.0) in
    padded_run-is (tag_bytes s) padding padded (has_flag FIXED_PADDING s.flags) padding_is (omega arith) (omega arith) whole

-- What is computed of accepted fields is a layout.
pub IsLayout-of : (s : Superblock) (layout : Layout) → HasLayout s → s.sections < 2 ^ 32 → IsShape layout.shape
    → as_shape layout.shape ≡ record { spb = 2 ^ s.log2_spb; tag_size = s.tag_size }
    → layout.sections ≡ s.sections → layout.interleave ≡ 1 * 2 ^ s.log2_interleave % 2 ^ 64
    → layout.tag_run ≡ tag_run_of s → IsLayout layout
IsLayout-of s layout h few shape shape_is sections_are interleave_is run_is =
    let shifted = shifted_is s.log2_interleave h.log2_interleave.1 in
    let least = pow-le-pow_right {n = 2} (omega arith) {i = 3} {j = s.log2_interleave} h.log2_interleave.0 in
    let run = tag_run_of-high s h in
    let journal = journal_sectors-low s h few in
    let same : journal_sectors (as_geometry layout) ≡ journal_sectors (layout_of s) = rw (sections_are, shape_is) refl in
    record {
      shape = shape;
      interleave = (omega arith, omega arith);
      tag_run = omega arith;
      journal = omega arith;
    }
