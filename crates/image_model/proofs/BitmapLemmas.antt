-- When a region awaits.
use Rattle.std.proofs.Common.{◌≡◌, inl, inr, ℕ, ◌+◌, ◌-◌, ◌*◌, ◌/◌, ◌%◌, ◌^◌, ◌<◌, ◌≤◌, min, true, false, ◌&&◌, ◌==◌, nat_lt, refl, sym, ◌∙◌, ap, subst, arith}
use Rattle.std.proofs.lemmas.Bool.{cases_Bool, and_parts, and_from, eqb-true, eq-eqb, true≢false, lt-ltb, ltb-true, false_from_ne_true}
use Rattle.std.proofs.lemmas.Nat.{pow_pos, div-mul-add, div-add-mod', mod_below, mul-le}
use Rattle.disk_model.specs.Disk.{Image}
use Rattle.image_model.specs.declared.flags.TheConstants.{DIRTY_BITMAP, RECALCULATING}
use Rattle.image_model.specs.Bitmap.{is_dirty, is_to_recalculate, awaits, region_awaits}
use Rattle.image_model.specs.Geometry.{Geometry, region_of, regions}
use Rattle.image_model.specs.Superblock.{Superblock, has_flag}
use Rattle.image_model.proofs.BelowLemmas.{any_at, any_found}
use Rattle.image_model.proofs.Regions.{region-begins}

module _ (s : Superblock) (g : Geometry) (image : Image) where
  -- With a bitmap a block awaits where its region is dirty,
  pub awaits-bitmap : (b : ℕ) → has_flag DIRTY_BITMAP s.flags ≡ true → awaits s g image b ≡ is_dirty g image (region_of g b)
  unfolding awaits
  awaits-bitmap b set = rw set refl

  -- and with a journal where it is to be recalculated.
  pub awaits-journal : (b : ℕ) → has_flag DIRTY_BITMAP s.flags ≡ false → awaits s g image b ≡ is_to_recalculate s g b
  unfolding awaits
  awaits-journal b clear = rw clear refl

  -- A block that awaits makes its region await,
  pub region_awaits-block : (b : ℕ) → b < g.blocks → awaits s g image b ≡ true → region_awaits s g image (region_of g b) ≡ true
  unfolding region_awaits
  region_awaits-block b low is = any_at g.blocks _ b low (and_from _ _ (eq-eqb (region_of g b) (region_of g b) refl) is)

  -- and a region that awaits has one.
  pub region_awaits_found : (region : ℕ) → region_awaits s g image region ≡ true → (b : ℕ) × (b < g.blocks) × (region_of g b ≡ region) × (awaits s g image b ≡ true)
  unfolding region_awaits
  region_awaits_found region e =
      let found = any_found g.blocks (λ b. region_of g b == region && awaits s g image b) e in
      let parts = and_parts (region_of g found.0 == region) (awaits s g image found.0) found.2 in
      (found.0, found.1, eqb-true (region_of g found.0) region parts.0, parts.1)

  -- The first block of a region is in it.
  region_of-first : (region : ℕ) → region_of g (region * 2 ^ g.log2_region) ≡ region
  region_of-first region =
      let some = pow_pos g.log2_region in
      let same : region * 2 ^ g.log2_region + 0 ≡ region * 2 ^ g.log2_region = omega arith in
      ap (λ x. x / 2 ^ g.log2_region) (sym same) ∙ div-mul-add region (2 ^ g.log2_region) 0 some

  -- With a bitmap a region awaits where it is dirty.
  pub region_awaits-bitmap : (region : ℕ) → region < regions g → has_flag DIRTY_BITMAP s.flags ≡ true → region_awaits s g image region ≡ is_dirty g image region
  region_awaits-bitmap region low set = elim (cases_Bool (is_dirty g image region)) [
    | inl dirty ↦
        let first = region * 2 ^ g.log2_region in
        let is : awaits s g image first ≡ true = awaits-bitmap first set ∙ ap (is_dirty g image) (region_of-first region) ∙ dirty in
        ap (region_awaits s g image) (sym (region_of-first region)) ∙ region_awaits-block first (region-begins g region low) is ∙ sym dirty
    | inr clean ↦ false_from_ne_true _ (λ is.
        let found = region_awaits_found region is in
        true≢false (sym found.3 ∙ awaits-bitmap found.0 set ∙ ap (is_dirty g image) found.2 ∙ clean)) ∙ sym clean
  ]

  -- The last block of a region.
  abbrev last_of : ℕ → ℕ
  last_of region = min ((region + 1) * 2 ^ g.log2_region) g.blocks - 1

  last_is : (region : ℕ) → region < regions g → (last_of region < g.blocks) × (region_of g (last_of region) ≡ region)
  last_is region low =
      let p = 2 ^ g.log2_region in
      let some : 0 < p = pow_pos g.log2_region in
      let begins : region * p < g.blocks = region-begins g region low in
      let row : (region + 1) * p ≡ region * p + p = omega arith in
      let rest : last_of region ≡ region * p + (last_of region - region * p) = omega arith in
      let narrow : last_of region - region * p < p = omega arith in
      (omega arith, ap (λ x. x / p) rest ∙ div-mul-add region p (last_of region - region * p) narrow)

  -- A block is not behind the last of its region.
  last_most : (b : ℕ) → b < g.blocks → b ≤ last_of (region_of g b)
  last_most b low =
      let p = 2 ^ g.log2_region in
      let some : 0 < p = pow_pos g.log2_region in
      let split : b / p * p + b % p ≡ b = div-add-mod' b p in
      let narrow : b % p < p = mod_below b p some in
      let row : (b / p + 1) * p ≡ b / p * p + p = omega arith in
      omega arith

  to_recalculate-later : (b c : ℕ) → b ≤ c → is_to_recalculate s g b ≡ true → is_to_recalculate s g c ≡ true
  to_recalculate-later b c le is =
      let parts = and_parts (has_flag RECALCULATING s.flags) (nat_lt s.recalc_sector ((b + 1) * g.shape.spb)) is in
      let below = ltb-true _ _ parts.1 in
      let more : (b + 1) * g.shape.spb ≤ (c + 1) * g.shape.spb = mul-le (b + 1) g.shape.spb (c + 1) g.shape.spb (omega arith) (omega arith) in
      and_from _ _ parts.0 (lt-ltb s.recalc_sector ((c + 1) * g.shape.spb) (omega arith))

  -- With a journal a region awaits where its last block is to be recalculated.
  pub region_awaits-journal : (region : ℕ) → region < regions g → has_flag DIRTY_BITMAP s.flags ≡ false → region_awaits s g image region ≡ is_to_recalculate s g (min ((region + 1) * 2 ^ g.log2_region) g.blocks - 1)
  region_awaits-journal region low clear =
      let last = last_is region low in
      elim (cases_Bool (is_to_recalculate s g (last_of region))) [
        | inl is ↦ ap (region_awaits s g image) (sym last.1) ∙ region_awaits-block (last_of region) last.0 (awaits-journal (last_of region) clear ∙ is) ∙ sym is
        | inr done ↦ false_from_ne_true _ (λ is.
            let found = region_awaits_found region is in
            let within : found.0 ≤ last_of region = subst (λ r. found.0 ≤ last_of r) found.2 (last_most found.0 found.1) in
            true≢false (sym (to_recalculate-later found.0 (last_of region) within (sym (awaits-journal found.0 clear) ∙ found.3)) ∙ done)) ∙ sym done
      ]
