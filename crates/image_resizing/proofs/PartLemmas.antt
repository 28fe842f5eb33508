-- Bytes of a list of which a part was written.
use Rattle.std.proofs.Common.{◌≡◌, ◌⊎◌, inl, inr, ⊎_elim, ℕ, ◌+◌, ◌/◌, ◌%◌, ◌<◌, ◌≤◌, List, ◌++◌, length, take, drop_at, get_or, slice_index, sym, ◌∙◌, ap, arith}
use Rattle.std.proofs.lemmas.Bool.{cases_lt}
use Rattle.std.proofs.lemmas.List.{get_or-take, get_or-drop, get_or_append_left, length-take-le}
use Rattle.std.proofs.lemmas.Slice.{drop-put_mid, take-put_mid_below}
use Rattle.disk_model.specs.Disk.{Content, Reads, last_image}
use Rattle.disk_model.proofs.DiskLemmas.{Reads-one}
use borrow.Rule.Slice.PartMut.{put_mid, post_of}

module _ (a k : ℕ) (xs ys : List ℕ) (begins : a ≤ length xs) where
  -- Before the part,
  pub byte_before : (p : ℕ) → p < a → slice_index (put_mid a k xs ys) p ≡ slice_index xs p
  byte_before p low =
      sym (get_or-take a (put_mid a k xs ys) p 0 low)
      ∙ ap (λ (zs : List ℕ). get_or zs p 0) (take-put_mid_below a k xs ys a (omega arith) begins)
      ∙ get_or-take a xs p 0 low

  -- in it,
  pub byte_in : (i : ℕ) → i < length ys → slice_index (put_mid a k xs ys) (a + i) ≡ slice_index ys i
  byte_in i low =
      sym (get_or-drop a (put_mid a k xs ys) i 0)
      ∙ ap (λ (zs : List ℕ). get_or zs i 0) (drop_at (take a xs) (ys ++ post_of a k xs) a (length-take-le a xs begins))
      ∙ get_or_append_left ys (post_of a k xs) 0 i low

  -- and behind it.
  pub byte_behind : length ys ≡ k → (p : ℕ) → a + k ≤ p → slice_index (put_mid a k xs ys) p ≡ slice_index xs p
  byte_behind size p above =
      let there : p + 0 ≡ p = omega arith in
      ap (slice_index (put_mid a k xs ys)) (sym there)
      ∙ sym (get_or-drop p (put_mid a k xs ys) 0 0)
      ∙ ap (λ (zs : List ℕ). get_or zs 0 0) (drop-put_mid a k xs ys p above begins size)
      ∙ get_or-drop p xs 0 0
      ∙ ap (slice_index xs) there

-- The first sector of a run was read over its own, where what stands behind some byte had been read before.
pub around_is : (at from end p : ℕ) (run buffer : List ℕ) (c : Content) → from < 512 → length buffer ≡ 512 → Reads at buffer c
    → (end ≤ p → slice_index run p ≡ slice_index (last_image c (at + p / 512)) (p % 512)) → (p < from) ⊎ (end ≤ p)
    → slice_index (put_mid 0 512 run buffer) p ≡ slice_index (last_image c (at + p / 512)) (p % 512)
around_is at from end p run buffer c begins size read behind other = elim (cases_lt p 512) [
  | inl first ↦
      let there : 0 + p ≡ p = omega arith in
      let sector : at ≡ at + p / 512 = omega (arith, first) in
      let byte : p ≡ p % 512 = omega (arith, first) in
      ap (slice_index (put_mid 0 512 run buffer)) (sym there)
      ∙ byte_in 0 512 run buffer (omega arith) p (omega (arith, first, size))
      ∙ ap (λ (xs : List ℕ). slice_index xs p) (Reads-one at buffer c size read)
      ∙ ap (λ (n : ℕ). slice_index (last_image c n) p) sector
      ∙ ap (slice_index (last_image c (at + p / 512))) byte
  | inr above ↦
      byte_behind 0 512 run buffer (omega arith) size p (omega (arith, above))
      ∙ behind (⊎_elim (λ before. absurd (omega (arith, before, above, begins))) (λ far. far) other)
]
