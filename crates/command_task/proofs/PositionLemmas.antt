-- Where a close leaves the position: at the least region that awaits.
use Rattle.std.proofs.Common.{◌≡◌, inl, inr, ℕ, ◌+◌, ◌-◌, ◌*◌, ◌/◌, ◌%◌, ◌^◌, ◌<◌, ◌≤◌, min, max, nat_lt, nat_le, ◌==◌, Bool, true, false, not, ◌&&◌, if◌then◌else◌, refl, sym, ◌∙◌, ap, subst, arith, Option, Some, None, Ok, List}
use Rattle.std.specs.List.{starts_with}
use Rattle.std.specs.Prelude.{nat_eq, ◌∷◌}
use Rattle.std.specs.Int.{w32, bit_not}
use Rattle.std.proofs.lemmas.Bool.{and_from, and_parts, and_right, cases_Bool, cases_lt, eqb-true, false_from_ne_true, le-leb, leb-true, lt-ltb, ltb-true, true≢false}
use Rattle.std.proofs.lemmas.Nat.{div-add-mod', mod_below, pow_pos}
use Rattle.std.proofs.Math.Nat.{mul-le-mul_right}
use Rattle.disk_model.specs.Disk.{Content, EachImage, Image}
use Rattle.disk_model.specs.Moments.{HasNow}
use Rattle.image_model.specs.declared.flags.TheConstants.{DIRTY_BITMAP, RECALCULATING}
use Rattle.image_model.specs.declared.super_fields.SuperFault.TheVariants.{Magic}
use Rattle.image_model.specs.Bitmap.{is_to_recalculate, region_awaits}
use Rattle.image_model.specs.Geometry.{Geometry, region_of, regions}
use Rattle.image_model.specs.Superblock.{Superblock, fields_in, has_flag, magic, superblock_faults, superblock_of}
use Rattle.image_model.proofs.BitmapLemmas.{region_awaits-journal}
use Rattle.image_model.proofs.FaultLemmas.{ok_unless-told}
use Rattle.image_model.proofs.Regions.{region-begins}
use Rattle.device_model.specs.Regions.{least_region}
use Rattle.bitmap_laws.proofs.LeastLemmas.{least_found, least_law}
use Rattle.change_model.proofs.FieldsLemmas.{has_flag-gone, has_flag-kept}
use Rattle.recalculate_laws.specs.Position.{moved_fields, next_awaiting, position_at, region_end, region_start}
use Rattle.recalculate_laws.proofs.AwaitsLemmas.{moved_same_law}
use Rattle.recalculation.specs.declared.recalculating.Recalculation.{Recalculation}
use Rattle.recalculation.specs.Awaiting.{awaiting_of}
use Rattle.recalculation.specs.Position.{is_same_position}
use Rattle.recalculation.specs.Recalculation.{HasFields, IsRecalculationOf, fields_left, fields_or}
use Rattle.place_model.specs.Awaiting.{fields_of}
use Rattle.command_model.specs.Closed.{is_from}

-- ---- regions

module _ (g : Geometry) where
  end_in_order : (one other : ℕ) → one ≤ other → region_end g one ≤ region_end g other
  end_in_order one other le =
      let rows : (one + 1) * 2 ^ g.log2_region ≤ (other + 1) * 2 ^ g.log2_region = mul-le-mul_right (2 ^ g.log2_region) (omega (arith, le)) in
      mul-le-mul_right g.shape.spb (omega (arith, rows))

  ends_before_start : (one other : ℕ) → one < other → region_end g one ≤ region_start g other
  ends_before_start one other less =
      let rows : (one + 1) * 2 ^ g.log2_region ≤ other * 2 ^ g.log2_region = mul-le-mul_right (2 ^ g.log2_region) (omega (arith, less)) in
      mul-le-mul_right g.shape.spb (omega (arith, rows))

  starts_before_end : 1 ≤ g.shape.spb → (region : ℕ) → region < regions g → region_start g region < region_end g region
  starts_before_end spb region low =
      let first = region * 2 ^ g.log2_region in
      let begins : first < g.blocks = region-begins g region low in
      let size : 0 < 2 ^ g.log2_region = pow_pos g.log2_region in
      let next : (region + 1) * 2 ^ g.log2_region ≡ first + 2 ^ g.log2_region = omega arith in
      let row : (first + 1) * g.shape.spb ≤ region_end g region = mul-le-mul_right g.shape.spb (omega (arith, begins, size, next)) in
      let split : (first + 1) * g.shape.spb ≡ region_start g region + g.shape.spb = omega arith in
      omega (arith, row, split, spb)

  -- From the greater of a sector of a region and its first one on, just those regions have a sector that are not before it.
  from_least : 1 ≤ g.shape.spb → (sector least : ℕ) → sector < region_end g least → (region : ℕ) → region < regions g
      → nat_lt (max sector (region_start g least)) (region_end g region) ≡ nat_le least region
  from_least spb sector least waits region low = elim (cases_lt region least) [
    | inl before ↦
        let ends = ends_before_start region least before in
        false_from_ne_true (nat_lt (max sector (region_start g least)) (region_end g region))
        (λ is. let less = ltb-true (max sector (region_start g least)) (region_end g region) is in absurd (omega (arith, less, ends)))
        ∙ sym (false_from_ne_true (nat_le least region) (λ is. let le = leb-true least region is in absurd (omega (arith, le, before))))
    | inr after ↦
        let ends = end_in_order least region after in
        let starts = starts_before_end spb region low in
        let rows : least * 2 ^ g.log2_region ≤ region * 2 ^ g.log2_region = mul-le-mul_right (2 ^ g.log2_region) after in
        let order : region_start g least ≤ region_start g region = mul-le-mul_right g.shape.spb rows in
        lt-ltb (max sector (region_start g least)) (region_end g region) (omega (arith, waits, ends, starts, order))
        ∙ sym (le-leb least region after)
  ]

-- ---- the fields

-- Fields that are accepted are those in the bytes.
fields_told : (bytes : List ℕ) (s : Superblock) → superblock_of bytes ≡ Ok s → fields_in bytes ≡ s
unfolding superblock_of
fields_told bytes s e = (ok_unless-told ((not (starts_with nat_eq bytes magic), Magic) ∷ superblock_faults (fields_in bytes)) (fields_in bytes) s e).0

-- A block is not behind its region's last.
block_ends : (g : Geometry) (b : ℕ) → b < g.blocks → (b + 1) * g.shape.spb ≤ region_end g (region_of g b)
block_ends g b low =
    let size = 2 ^ g.log2_region in
    let split : b / size * size + b % size ≡ b = div-add-mod' b size in
    let narrow : b % size < size = mod_below b size (pow_pos g.log2_region) in
    let row : (b / size + 1) * size ≡ b / size * size + size = omega arith in
    mul-le-mul_right g.shape.spb (omega (arith, low, split, narrow, row))

module _ (s : Superblock) (g : Geometry) (awaiting : ℕ → Bool)
    (work : (region : ℕ) → awaiting region ≡ true → (b : ℕ) × (b < g.blocks) × (region_of g b ≡ region) × (is_to_recalculate s g b ≡ true)) where
  -- Each region that awaits ends behind the position.
  ends_behind : (region : ℕ) → awaiting region ≡ true → s.recalc_sector < region_end g region
  ends_behind region waits =
      let has = work region waits in
      let parts = and_parts (has_flag RECALCULATING s.flags) (nat_lt s.recalc_sector ((has.0 + 1) * g.shape.spb)) has.3 in
      let low = ltb-true s.recalc_sector ((has.0 + 1) * g.shape.spb) parts.1 in
      let end : (has.0 + 1) * g.shape.spb ≤ region_end g region = subst (λ (r : ℕ). (has.0 + 1) * g.shape.spb ≤ region_end g r) has.2 (block_ends g has.0 has.1) in
      omega (arith, low, end)

  looked_for : (region : ℕ) → (awaiting region && nat_lt s.recalc_sector (region_end g region)) ≡ awaiting region
  looked_for region = elim (cases_Bool (awaiting region)) [
    | inl waits ↦
        ap (λ (t : Bool). t && nat_lt s.recalc_sector (region_end g region)) waits
        ∙ lt-ltb s.recalc_sector (region_end g region) (ends_behind region waits) ∙ sym waits
    | inr done ↦ ap (λ (t : Bool). t && nat_lt s.recalc_sector (region_end g region)) done ∙ sym done
  ]

  -- So the least that awaits is looked for.
  next_least : next_awaiting s g awaiting ≡ least_region (regions g) awaiting
  next_least = least_law (regions g) (λ region. awaiting region && nat_lt s.recalc_sector (region_end g region)) awaiting (λ region low. looked_for region)

  -- By the fields of a position at a region the region has a block to be recalculated that is not before it.
  last_behind : 1 ≤ g.blocks → (region : ℕ) → region < regions g → (min ((region + 1) * 2 ^ g.log2_region) g.blocks - 1 + 1) * g.shape.spb ≡ region_end g region
  last_behind some region low =
      let size : 0 < 2 ^ g.log2_region = pow_pos g.log2_region in
      let next : (region + 1) * 2 ^ g.log2_region ≡ region * 2 ^ g.log2_region + 2 ^ g.log2_region = omega arith in
      let row : min ((region + 1) * 2 ^ g.log2_region) g.blocks - 1 + 1 ≡ min ((region + 1) * 2 ^ g.log2_region) g.blocks = omega (arith, some, size, next) in
      ap (λ (n : ℕ). n * g.shape.spb) row

  module _ (set : has_flag RECALCULATING s.flags ≡ true) (spb : 1 ≤ g.shape.spb) (some : 1 ≤ g.blocks) where
    abbrev last : ℕ → ℕ
    last region = min ((region + 1) * 2 ^ g.log2_region) g.blocks - 1

    by_least : (o : Option ℕ) → least_region (regions g) awaiting ≡ o → (region : ℕ) → region < regions g
        → is_to_recalculate (position_at s g o) g (last region) ≡ is_from o region
    by_least None none region low =
        ap (λ (t : Bool). t && nat_lt s.provided ((last region + 1) * g.shape.spb)) (has_flag-gone RECALCULATING (bit_not w32 RECALCULATING) s.flags refl)
    by_least (Some least) found region low =
        let waits = ends_behind least (least_found (regions g) awaiting least found).1 in
        ap (λ (t : Bool). t && nat_lt (max s.recalc_sector (region_start g least)) ((last region + 1) * g.shape.spb)) set
        ∙ ap (λ (n : ℕ). nat_lt (max s.recalc_sector (region_start g least)) n) (last_behind some region low)
        ∙ from_least g spb s.recalc_sector least waits region low

    -- By the moved fields that region awaits, and all behind it, and no other.
    moved_awaits : (region : ℕ) → region < regions g
        → is_to_recalculate (moved_fields s g awaiting) g (last region) ≡ is_from (least_region (regions g) awaiting) region
    moved_awaits region low =
        ap (λ (o : Option ℕ). is_to_recalculate (position_at s g o) g (last region)) next_least
        ∙ by_least (least_region (regions g) awaiting) refl region low

  -- So it is by fields with the same position and flags, and by those where nothing was to be recalculated.
  pub told_awaits : (spb : 1 ≤ g.shape.spb) (some : 1 ≤ g.blocks) (t : Superblock) (image : Image) → has_flag DIRTY_BITMAP t.flags ≡ false
      → (has_flag RECALCULATING s.flags ≡ true → (t.recalc_sector ≡ (moved_fields s g awaiting).recalc_sector) × (t.flags ≡ (moved_fields s g awaiting).flags))
      → (has_flag RECALCULATING s.flags ≡ false → t.flags ≡ s.flags)
      → (region : ℕ) → region < regions g → region_awaits t g image region ≡ is_from (least_region (regions g) awaiting) region
  told_awaits spb some t image clear moved unmoved region low =
      region_awaits-journal t g image region low clear ∙ elim (cases_Bool (has_flag RECALCULATING s.flags)) [
        | inl set ↦
            let same = moved set in
            ap (λ (n : ℕ). has_flag RECALCULATING t.flags && nat_lt n ((min ((region + 1) * 2 ^ g.log2_region) g.blocks - 1 + 1) * g.shape.spb)) same.0
            ∙ ap (λ (f : ℕ). has_flag RECALCULATING f && nat_lt (moved_fields s g awaiting).recalc_sector ((min ((region + 1) * 2 ^ g.log2_region) g.blocks - 1 + 1) * g.shape.spb)) same.1
            ∙ moved_awaits set spb some region low
        | inr unset ↦
            ap (λ (b : Bool). b && nat_lt t.recalc_sector ((min ((region + 1) * 2 ^ g.log2_region) g.blocks - 1 + 1) * g.shape.spb)) (ap (λ (f : ℕ). has_flag RECALCULATING f) (unmoved unset) ∙ unset)
            ∙ by_none (least_region (regions g) awaiting) refl unset
      ]
    where
      by_none : (o : Option ℕ) → least_region (regions g) awaiting ≡ o → has_flag RECALCULATING s.flags ≡ false → false ≡ is_from o region
      by_none None none unset = refl
      by_none (Some least) found unset =
          let has = work least (least_found (regions g) awaiting least found).1 in
          let parts = and_parts (has_flag RECALCULATING s.flags) (nat_lt s.recalc_sector ((has.0 + 1) * g.shape.spb)) has.3 in
          absurd (true≢false (sym parts.0 ∙ unset))

-- ---- what a close writes

-- The fields that are written where these are moved, if any are, and else these.
abbrev fields_by : Superblock → (moved : Superblock) → Superblock
fields_by s moved = fields_or (if has_flag RECALCULATING s.flags && not (is_same_position s moved) then Some moved else None) s

module _ (s moved : Superblock) where
  by_set : has_flag RECALCULATING s.flags ≡ true → ((fields_by s moved).recalc_sector ≡ moved.recalc_sector) × ((fields_by s moved).flags ≡ moved.flags)
  by_set set = elim (cases_Bool (is_same_position s moved)) [
    | inl same ↦
        let parts = and_parts (moved.recalc_sector == s.recalc_sector) (moved.flags == s.flags) same in
        let is : fields_by s moved ≡ s = ap (λ (t : Bool). fields_or (if t then Some moved else None) s) (and_right (has_flag RECALCULATING s.flags) (not (is_same_position s moved)) (ap not same)) in
        (ap (λ (x : Superblock). x.recalc_sector) is ∙ sym (eqb-true moved.recalc_sector s.recalc_sector parts.0), ap (λ (x : Superblock). x.flags) is ∙ sym (eqb-true moved.flags s.flags parts.1))
    | inr differs ↦
        let is : fields_by s moved ≡ moved = ap (λ (t : Bool). fields_or (if t then Some moved else None) s)
        (and_from (has_flag RECALCULATING s.flags) (not (is_same_position s moved)) set (ap not differs)) in
        (ap (λ (x : Superblock). x.recalc_sector) is, ap (λ (x : Superblock). x.flags) is)
  ]

  by_unset : has_flag RECALCULATING s.flags ≡ false → fields_by s moved ≡ s
  by_unset unset = ap (λ (t : Bool). fields_or (if t && not (is_same_position s moved) then Some moved else None) s) unset

-- No flag of a bitmap comes.
moved_clear : (s : Superblock) (g : Geometry) (o : Option ℕ) → has_flag DIRTY_BITMAP s.flags ≡ false → has_flag DIRTY_BITMAP (position_at s g o).flags ≡ false
moved_clear s g None clear = has_flag-kept DIRTY_BITMAP (bit_not w32 RECALCULATING) s.flags refl ∙ clear
moved_clear s g (Some region) clear = clear

module _ (r : Recalculation) (s : Superblock) (g : Geometry) (awaiting : ℕ → Bool) (is : IsRecalculationOf s g awaiting r)
    (clear : has_flag DIRTY_BITMAP s.flags ≡ false) where
  moved_is : moved_fields r.position r.awaiting.geometry (awaiting_of r.awaiting) ≡ moved_fields s g awaiting
  moved_is =
      ap (λ (x : Superblock). moved_fields x r.awaiting.geometry (awaiting_of r.awaiting)) is.fields
      ∙ ap (λ (y : Geometry). moved_fields s y (awaiting_of r.awaiting)) is.geometry
      ∙ moved_same_law s g (awaiting_of r.awaiting) awaiting is.regions_

  left_is : fields_left r ≡ fields_by s (moved_fields s g awaiting)
  left_is =
      ap (λ (x : Superblock). fields_by x (moved_fields r.position r.awaiting.geometry (awaiting_of r.awaiting))) is.fields
      ∙ ap (fields_by s) moved_is

  left_clear : has_flag DIRTY_BITMAP (fields_by s (moved_fields s g awaiting)).flags ≡ false
  left_clear = elim (cases_Bool (has_flag RECALCULATING s.flags)) [
    | inl set ↦ ap (λ (f : ℕ). has_flag DIRTY_BITMAP f) (by_set s (moved_fields s g awaiting) set).1 ∙ moved_clear s g (next_awaiting s g awaiting) clear
    | inr unset ↦ ap (λ (x : Superblock). has_flag DIRTY_BITMAP x.flags) (by_unset s (moved_fields s g awaiting) unset) ∙ clear
  ]

  -- ---- for callers

  -- Once it is written, each image is so.
  pub position_left : ((region : ℕ) → awaiting region ≡ true → (b : ℕ) × (b < g.blocks) × (region_of g b ≡ region) × (is_to_recalculate s g b ≡ true))
      → (1 ≤ g.shape.spb) → (1 ≤ g.blocks) → (b : List Content) → HasFields (fields_left r) b
      → HasNow (EachImage (λ image. (region : ℕ) → region < regions g → region_awaits (fields_of image) g image region ≡ is_from (least_region (regions g) awaiting) region)) b
  position_left work spb some b fields c told image of region low =
      ap (λ (x : Superblock). region_awaits x g image region) (fields_told (image 0) (fields_left r) (fields c told image of) ∙ left_is)
      ∙ told_awaits s g awaiting work spb some (fields_by s (moved_fields s g awaiting)) image left_clear (by_set s (moved_fields s g awaiting))
      (λ unset. ap (λ (x : Superblock). x.flags) (by_unset s (moved_fields s g awaiting) unset)) region low
