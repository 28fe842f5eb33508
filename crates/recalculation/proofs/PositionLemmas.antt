-- The position as fields: the region that it moves to, and that its fields may be written.
use Rattle.std.proofs.Common.{◌≡◌, inl, inr, bit_and, ℕ, ◌+◌, ◌-◌, ◌*◌, ◌/◌, ◌%◌, ◌^◌, ◌<◌, ◌≤◌, ◌==◌, max, min, nat_le, nat_lt, not, ◌&&◌, Bool, true, false, if◌then◌else◌, sym, ◌∙◌, ap, subst, arith, Option, Some, None, find}
use Rattle.std.specs.Int.{w32, bit_not}
use Rattle.std.specs.List.{range_with_len}
use Rattle.std.specs.Option.{option_map}
use Rattle.std.proofs.lemmas.Bool.{and_from, and_parts, and_right, cases_Bool, cases_lt, eq-eqb, eqb-true, false_from_ne_true, lt-ltb, le-leb, leb-true, ltb-true}
use Rattle.std.proofs.lemmas.Nat.{and_le_l, div-add-mod', mod_below, mul-le, pow_pos}
use Rattle.std.proofs.lemmas.Option.{none-some, same_Some}
use Rattle.image_model.specs.declared.flags.TheConstants.{KNOWN_FLAGS, RECALCULATING}
use Rattle.image_model.specs.Geometry.{Geometry, IsGeometry, region_of, regions}
use Rattle.image_model.specs.Superblock.{Superblock, has_flag}
use Rattle.image_model.proofs.SuperblockLemmas.{version_for-accepted}
use Rattle.device_model.specs.Regions.{least_region}
use Rattle.change_model.specs.Fields.{with_version, without_flag}
use Rattle.change_model.proofs.FieldsLemmas.{and_none}
use Rattle.dirty_bitmap.specs.Regions.{Regions, has_region, next_in}
use Rattle.recalculate_laws.specs.Position.{IsSamePosition, moved_fields, region_end}
use Rattle.recalculation.specs.declared.left.Left.{Left}
use Rattle.recalculation.specs.declared.places.Places.{Places}
use Rattle.recalculation.specs.Awaiting.{AwaitingRegions, IsLeft, awaiting_of, is_left}
use Rattle.recalculation.specs.Position.{CanBeWritten, fields_to_write, is_same_position}
use Rattle.recalculation.proofs.FindLemmas.{least_from, least_none}

-- ---- the least region that has a sector at or above the position

-- The test by which it is looked for.
abbrev waits : Geometry → (awaiting : ℕ → Bool) → (at : ℕ) → ℕ → Bool
waits g awaiting at region = awaiting region && nat_lt at (region_end g region)

module _ (g : Geometry) (at : ℕ) (some : 0 < g.shape.spb) where
  -- Behind all blocks no region has one,
  none_ends : g.blocks ≤ at / g.shape.spb → (region : ℕ) → nat_lt at (region_end g region) ≡ false
  none_ends behind region =
      let spb = g.shape.spb in
      let split : at / spb * spb + at % spb ≡ at = div-add-mod' at spb in
      let row : region_end g region ≤ at / spb * spb = mul-le (min ((region + 1) * 2 ^ g.log2_region) g.blocks) spb (at / spb) spb (omega (arith, behind)) (omega arith) in
      false_from_ne_true _ (λ e. let less = ltb-true at (region_end g region) e in absurd (omega (arith, less, row, split)))

  -- and else each has one that is not before that of the block which holds the position.
  region_ends : at / g.shape.spb < g.blocks → (region : ℕ) → nat_lt at (region_end g region) ≡ nat_le (region_of g (at / g.shape.spb)) region
  region_ends inside region =
      let spb = g.shape.spb in
      let p = 2 ^ g.log2_region in
      let first = at / spb in
      let split : first * spb + at % spb ≡ at = div-add-mod' at spb in
      let narrow : at % spb < spb = mod_below at spb some in
      let own : first / p * p + first % p ≡ first = div-add-mod' first p in
      let own_narrow : first % p < p = mod_below first p (pow_pos g.log2_region) in
      elim (cases_lt region (first / p)) [
        | inl below ↦
            let row : (region + 1) * p ≤ first / p * p = mul-le (region + 1) p (first / p) p (omega (arith, below)) (omega arith) in
            let end : region_end g region ≤ first * spb = mul-le (min ((region + 1) * p) g.blocks) spb first spb (omega (arith, row, own)) (omega arith) in
            false_from_ne_true _ (λ e. let less = ltb-true at (region_end g region) e in absurd (omega (arith, less, end, split)))
            ∙ sym (false_from_ne_true _ (λ e. let more = leb-true (first / p) region e in absurd (omega (arith, more, below))))
        | inr above ↦
            let row : (first / p + 1) * p ≤ (region + 1) * p = mul-le (first / p + 1) p (region + 1) p (omega (arith, above)) (omega arith) in
            let wide : (first / p + 1) * p ≡ first / p * p + p = omega arith in
            let end : (first + 1) * spb ≤ region_end g region = mul-le (first + 1) spb (min ((region + 1) * p) g.blocks) spb (omega (arith, row, wide, own, own_narrow, inside)) (omega arith) in
            let next : (first + 1) * spb ≡ first * spb + spb = omega arith in
            lt-ltb at (region_end g region) (omega (arith, end, next, split, narrow)) ∙ sym (le-leb (first / p) region above)
      ]

  -- So none is found where no block is behind it,
  pub none_above : (awaiting : ℕ → Bool) → g.blocks ≤ at / g.shape.spb → None ≡ least_region (regions g) (waits g awaiting at)
  none_above awaiting behind = least_none (waits g awaiting at) (regions g) (λ region low. and_right (awaiting region) (nat_lt at (region_end g region)) (none_ends behind region))

  -- and else the search begins with that block's region.
  pub found_above : (awaiting : ℕ → Bool) → at / g.shape.spb < g.blocks
      → find awaiting (range_with_len (region_of g (at / g.shape.spb)) (regions g - region_of g (at / g.shape.spb))) ≡ least_region (regions g) (waits g awaiting at)
  found_above awaiting inside = least_from awaiting (waits g awaiting at) (regions g) (region_of g (at / g.shape.spb))
      (λ region low. ap (λ (t : Bool). awaiting region && t) (region_ends inside region))

-- Where nothing is left none is found.
pub nothing_above : (g : Geometry) (first at : ℕ) (left : Option Left) (a : AwaitingRegions) → (let view : AwaitingRegions = record { geometry = g; first = first; left = option_map (λ (l : Left). l.set) left } in view ≡ a) → left ≡ None
    → None ≡ least_region (regions a.geometry) (waits a.geometry (awaiting_of a) at)
nothing_above g first at left a view nothing =
    let none : a.left ≡ None = sym (ap (λ (x : AwaitingRegions). x.left) view) ∙ ap (option_map (λ (l : Left). l.set)) nothing in
    least_none (waits a.geometry (awaiting_of a) at) (regions a.geometry) (λ region low. ap (λ (o : Option Regions). is_left o region && nat_lt at (region_end a.geometry region)) none)

-- So it is by what stands in memory.
module _ (places : Places) (left : Option Left) (a : AwaitingRegions) (view : (let v : AwaitingRegions = record { geometry = places.geometry; first = places.first; left = option_map (λ (l : Left). l.set) left } in v ≡ a))
    (at spb blocks : ℕ) (is : IsGeometry places.geometry (2 ^ 48)) (spb_is : spb ≡ places.geometry.shape.spb) (blocks_is : blocks ≡ places.geometry.blocks) where
  abbrev least : AwaitingRegions → Option ℕ
  least x = least_region (regions x.geometry) (waits x.geometry (awaiting_of x) at)

  pub above_none : blocks ≤ at / spb → None ≡ least_region (regions a.geometry) (waits a.geometry (awaiting_of a) at)
  above_none behind =
      let behind_ : places.geometry.blocks ≤ at / places.geometry.shape.spb = subst (λ n. places.geometry.blocks ≤ at / n) spb_is (subst (λ n. n ≤ at / spb) blocks_is behind) in
      none_above places.geometry at is.spb.0 (is_left (option_map (λ (l : Left). l.set) left)) behind_ ∙ ap least view

  pub above_found : (l : Left) → left ≡ Some l → IsLeft places.geometry l → (from : ℕ) → from ≡ region_of places.geometry (at / spb) → at / spb < blocks
      → next_in l.set from ≡ least_region (regions a.geometry) (waits a.geometry (awaiting_of a) at)
  above_found l some own from from_is inside =
      let g = places.geometry in
      let inside_ : at / g.shape.spb < g.blocks = subst (λ n. at / n < g.blocks) spb_is (subst (λ n. at / spb < n) blocks_is inside) in
      let from_ : from ≡ region_of g (at / g.shape.spb) = from_is ∙ ap (λ n. region_of g (at / n)) spb_is in
      ap (λ n. find (has_region l.set) (range_with_len from (n - from))) own.size
      ∙ ap (λ n. find (has_region l.set) (range_with_len n (regions g - n))) from_
      ∙ found_above g at is.spb.0 (has_region l.set) inside_
      ∙ ap (λ (o : Option Left). least_region (regions g) (waits g (is_left (option_map (λ (x : Left). x.set) o)) at)) (sym some)
      ∙ ap least view

-- ---- fields that may be written

-- With a position,
pub can_at : (s : Superblock) (start : ℕ) → CanBeWritten s → start < 2 ^ 64 → CanBeWritten (with_version (record s { recalc_sector = max s.recalc_sector start }))
can_at s start can low = record {
  accepted = record {
    layout = record {
      version = (version_for-accepted s.version s.flags can.accepted.layout.version).0;
      flags = can.accepted.layout.flags;
      log2_interleave = can.accepted.layout.log2_interleave;
      log2_spb = can.accepted.layout.log2_spb;
      tag_size = can.accepted.layout.tag_size;
      sections = can.accepted.layout.sections;
    };
    provided = can.accepted.provided;
    whole_blocks = can.accepted.whole_blocks;
  };
  fits = record {
    sections = can.fits.sections;
    flags = can.fits.flags;
    log2_region = can.fits.log2_region;
    recalc_sector = let old = can.fits.recalc_sector in omega arith;
    salt = can.fits.salt;
  };
}

-- and without one.
pub can_end : (s : Superblock) → CanBeWritten s → CanBeWritten (with_version (record s { flags = without_flag RECALCULATING s.flags; recalc_sector = s.provided }))
can_end s can = record {
  accepted = record {
    layout = record {
      version = (version_for-accepted s.version (without_flag RECALCULATING s.flags) can.accepted.layout.version).0;
      flags = and_none s.flags (bit_not w32 RECALCULATING) (bit_not w32 KNOWN_FLAGS) can.accepted.layout.flags;
      log2_interleave = can.accepted.layout.log2_interleave;
      log2_spb = can.accepted.layout.log2_spb;
      tag_size = can.accepted.layout.tag_size;
      sections = can.accepted.layout.sections;
    };
    provided = can.accepted.provided;
    whole_blocks = can.accepted.whole_blocks;
  };
  fits = record {
    sections = can.fits.sections;
    flags = let less = and_le_l s.flags (bit_not w32 RECALCULATING) in let low = can.fits.flags in omega arith;
    log2_region = can.fits.log2_region;
    recalc_sector = let low = can.accepted.provided.1 in omega arith;
    salt = can.fits.salt;
  };
}

-- ---- whether they are to be

module _ (s : Superblock) (g : Geometry) (awaiting : ℕ → Bool) where
  abbrev moved : Superblock
  moved = moved_fields s g awaiting

  -- None are without the flag,
  pub unset_none : bit_and s.flags RECALCULATING ≡ 0 → None ≡ fields_to_write s g awaiting
  unset_none clear =
      let unset : has_flag RECALCULATING s.flags ≡ false = ap not (eq-eqb (bit_and s.flags RECALCULATING) 0 clear) in
      ap (λ (t : Bool). if t && not (is_same_position s moved) then Some moved else None) (sym unset)

  module _ (set : has_flag RECALCULATING s.flags ≡ true) where
    -- nor where both stay,
    pub same_none : is_same_position s moved ≡ true → None ≡ fields_to_write s g awaiting
    same_none same = ap (λ (t : Bool). if t then Some moved else None) (sym (and_right (has_flag RECALCULATING s.flags) (not (is_same_position s moved)) (ap not same)))

    -- and else the moved fields are.
    pub differs_some : is_same_position s moved ≡ false → Some moved ≡ fields_to_write s g awaiting
    differs_some differs = ap (λ (t : Bool). if t then Some moved else None) (sym (and_from (has_flag RECALCULATING s.flags) (not (is_same_position s moved)) set (ap not differs)))

  -- What is to be written are the moved fields, where the flag is set.
  pub written_moved : (t : Superblock) → fields_to_write s g awaiting ≡ Some t → (t ≡ moved) × (has_flag RECALCULATING s.flags ≡ true)
  written_moved t e = elim (cases_Bool (has_flag RECALCULATING s.flags && not (is_same_position s moved))) [
    | inl is ↦ (sym (same_Some moved t (sym (ap (λ (x : Bool). if x then Some moved else None) is) ∙ e)), (and_parts (has_flag RECALCULATING s.flags) (not (is_same_position s moved)) is).0)
    | inr none ↦ absurd (none-some t (sym (ap (λ (x : Bool). if x then Some moved else None) none) ∙ e))
  ]

  -- ---- for callers

  -- They are to be written where the flag is set and position or flag changes.
  pub moved_written : has_flag RECALCULATING s.flags ≡ true → ¬ IsSamePosition s moved → fields_to_write s g awaiting ≡ Some moved
  moved_written set changes = elim (cases_Bool (is_same_position s moved)) [
    | inr differs ↦ sym (differs_some set differs)
    | inl same ↦
        let parts = and_parts (moved.recalc_sector == s.recalc_sector) (moved.flags == s.flags) same in
        absurd (changes (record { position = eqb-true moved.recalc_sector s.recalc_sector parts.0; flags = eqb-true moved.flags s.flags parts.1 }))
  ]
