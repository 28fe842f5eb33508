-- Which regions and blocks await at opening, and once a region is recalculated.
use Rattle.std.proofs.Common.{◌≡◌, ◌≢◌, ◌⊎◌, bit_and, inl, inr, ⊎_elim, ℕ, zero, suc, ◌+◌, ◌-◌, ◌*◌, ◌/◌, ◌%◌, ◌^◌, ◌<◌, ◌≤◌, ◌==◌, ◌&&◌, not, Bool, true, false, nat_le, nat_lt, Option, Some, None, find, is_none, refl, sym, ◌∙◌, ap, arith}
use Rattle.std.specs.List.{range_with_len}
use Rattle.std.specs.Option.{option_map}
use Rattle.std.proofs.lemmas.Bool.{and_from, and_left, and_right, cases_Bool, cases_lt, eq-eqb, eqb-true, false_from_ne_true, le-leb, leb-true, lt-ltb, ltb-true, ne_eqb, true≢false}
use Rattle.std.proofs.lemmas.Nat.{div-add-mod', div-mul-add, mod_below, mul-le, pow_pos}
use Rattle.image_model.specs.declared.flags.TheConstants.{RECALCULATING}
use Rattle.image_model.specs.Geometry.{Geometry, IsGeometry, region_of, regions}
use Rattle.image_model.specs.Superblock.{Superblock, has_flag}
use Rattle.image_model.proofs.BelowLemmas.{any_at, any_none}
use Rattle.image_model.proofs.Regions.{blocks-low, region-begins, region_of-lt}
use Rattle.device_model.specs.Regions.{least_region}
use Rattle.bitmap_laws.proofs.LeastLemmas.{find_least, find_none}
use Rattle.dirty_bitmap.specs.Bits.{RegionBits, bits_of}
use Rattle.dirty_bitmap.specs.Regions.{Regions}
use Rattle.recalculation.specs.declared.left.Left.{Left}
use Rattle.recalculation.specs.Awaiting.{AwaitingRegions, IsOpening, NoneAwaits, awaiting_of, is_left, opening_blocks, opening_first, opening_regions}

-- No number is found where none passes.
find_no : (from count : ℕ) → find (λ region. false) (range_with_len from count) ≡ None
find_no from zero = refl
find_no from (suc count) = find_no (from + 1) count

pub none_least : (count : ℕ) → None ≡ least_region count (λ region. false)
none_least count = sym (find_no 0 count)

pub nothing_least : (g : Geometry) (first : ℕ) (left : Option Left) (a : AwaitingRegions) → (let view : AwaitingRegions = record { geometry = g; first = first; left = option_map (λ (l : Left). l.set) left } in view ≡ a) → left ≡ None
    → None ≡ least_region (regions a.geometry) (awaiting_of a)
nothing_least g first left a view nothing =
    let none : a.left ≡ None = sym (ap (λ (x : AwaitingRegions). x.left) view) ∙ ap (option_map (λ (l : Left). l.set)) nothing in
    none_least (regions a.geometry) ∙ ap (λ (o : Option Regions). least_region (regions a.geometry) (is_left o)) (sym none)

module _ (s : Superblock) (g : Geometry) (bits : Option RegionBits) where
  -- Where no block awaits no region does,
  pub no_region : NoneAwaits s g bits → (region : ℕ) → opening_regions s g bits region ≡ false
  no_region none region = any_none g.blocks _ (λ b low. and_right (region_of g b == region) (opening_blocks s g bits b) (none.none b low))

  -- so nothing is left then,
  pub none_left : (a : AwaitingRegions) → a.geometry ≡ g → a.first ≡ opening_first s g bits → a.left ≡ None → NoneAwaits s g bits → IsOpening s g bits a
  none_left a is first nothing none = record {
    geometry = is;
    first = first;
    regions_ = λ region low. rw nothing (sym (no_region none region));
    blocks_ = λ b low. rw nothing (sym (none.none b low));
  }

  -- and a block that awaits makes its region await.
  pub some_region : (b : ℕ) → b < g.blocks → opening_blocks s g bits b ≡ true → opening_regions s g bits (region_of g b) ≡ true
  some_region b low waits = any_at g.blocks _ b low (and_from _ _ (eq-eqb (region_of g b) (region_of g b) refl) waits)

-- ---- with a bitmap

-- The first block of a region.
first_block : (g : Geometry) (region : ℕ) → region < regions g → (b : ℕ) × (b < g.blocks) × (region_of g b ≡ region)
first_block g region low =
    let same : region * 2 ^ g.log2_region + 0 ≡ region * 2 ^ g.log2_region = omega arith in
    (region * 2 ^ g.log2_region, region-begins g region low, ap (λ x. x / 2 ^ g.log2_region) (sym same) ∙ div-mul-add region (2 ^ g.log2_region) 0 (pow_pos g.log2_region))

-- What is found, or not.
found_none : (o : Option ℕ) → is_none o ≡ true → o ≡ None
found_none None e = refl
found_none (Some r) e = absurd (true≢false (sym e))

found_some : (o : Option ℕ) → is_none o ≡ false → (r : ℕ) × (o ≡ Some r)
found_some None e = absurd (true≢false e)
found_some (Some r) e = (r, refl)

module _ (s : Superblock) (g : Geometry) (bits : RegionBits) where
  -- A region awaits where its bit is set.
  pub bits_region : (region : ℕ) → region < regions g → opening_regions s g (Some bits) region ≡ bits_of bits region
  bits_region region low = elim (cases_Bool (bits_of bits region)) [
    | inl set ↦
        let first = first_block g region low in
        ap (opening_regions s g (Some bits)) (sym first.2) ∙ some_region s g (Some bits) first.0 first.1 (ap (bits_of bits) first.2 ∙ set) ∙ sym set
    | inr clear ↦ any_none g.blocks _ (λ b b_low. elim (cases_Bool (region_of g b == region)) [
      | inl is ↦ and_right _ _ (ap (bits_of bits) (eqb-true (region_of g b) region is) ∙ clear)
      | inr other ↦ and_left _ _ other
    ]) ∙ sym clear
  ]

  -- Where none is set none awaits,
  pub no_bits : find (bits_of bits) (range_with_len 0 (regions g)) ≡ None → NoneAwaits s g (Some bits)
  no_bits none = record { none = λ b low. let within = region_of-lt g b low in find_none (bits_of bits) 0 (regions g) none (region_of g b) (omega arith) (omega (arith, within)) }

  -- and where one is, one does.
  pub some_bits : (region : ℕ) → find (bits_of bits) (range_with_len 0 (regions g)) ≡ Some region → NoneAwaits s g (Some bits) → ⊥
  some_bits region found none =
      let least = find_least (bits_of bits) 0 (regions g) region found in
      let low : region < regions g = omega (arith, least.0) in
      let first = first_block g region low in
      true≢false (sym least.1 ∙ ap (bits_of bits) (sym first.2) ∙ none.none first.0 first.1)

  -- So it is by the search for the least one.
  pub no_next : (o : Option ℕ) → bits.geometry ≡ g → o ≡ find (bits_of bits) (range_with_len 0 (regions bits.geometry - 0)) → is_none o ≡ true → NoneAwaits s g (Some bits)
  no_next o is told none =
      let all : regions g - 0 ≡ regions g = omega arith in
      no_bits (ap (λ n. find (bits_of bits) (range_with_len 0 n)) (sym all) ∙ ap (λ (x : Geometry). find (bits_of bits) (range_with_len 0 (regions x - 0))) (sym is) ∙ sym told ∙ found_none o none)

  pub some_next : (o : Option ℕ) → bits.geometry ≡ g → o ≡ find (bits_of bits) (range_with_len 0 (regions bits.geometry - 0)) → is_none o ≡ false → NoneAwaits s g (Some bits) → ⊥
  some_next o is told some =
      let all : regions g - 0 ≡ regions g = omega arith in
      let found = found_some o some in
      some_bits found.0 (ap (λ n. find (bits_of bits) (range_with_len 0 n)) (sym all) ∙ ap (λ (x : Geometry). find (bits_of bits) (range_with_len 0 (regions x - 0))) (sym is) ∙ sym told ∙ found.1)

  -- The set has these.
  pub bits_opening : (a : AwaitingRegions) → a.geometry ≡ g → a.first ≡ 0 → ((region : ℕ) → region < regions g → awaiting_of a region ≡ bits_of bits region) → IsOpening s g (Some bits) a
  bits_opening a is first has = record {
    geometry = is;
    first = first;
    regions_ = λ region low. has region low ∙ sym (bits_region region low);
    blocks_ = λ b low. rw (is, first) (and_all (awaiting_of a (region_of g b)) (nat_le 0 b) (le-leb 0 b (omega arith)) ∙ has (region_of g b) (region_of-lt g b low));
  }
    where
      and_all : (x y : Bool) → y ≡ true → (x && y) ≡ x
      and_all true y e = e
      and_all false y e = refl

-- ---- by the position

-- A block has a sector at or above it where the block is not below the one that holds it.
by_position : (at spb b : ℕ) → 0 < spb → nat_lt at ((b + 1) * spb) ≡ nat_le (at / spb) b
by_position at spb b some =
    let split : at / spb * spb + at % spb ≡ at = div-add-mod' at spb in
    let narrow : at % spb < spb = mod_below at spb some in
    elim (cases_lt b (at / spb)) [
      | inl below ↦
          let row : (b + 1) * spb ≤ at / spb * spb = mul-le (b + 1) spb (at / spb) spb (omega arith) (omega arith) in
          false_from_ne_true _ (λ e. let less = ltb-true at ((b + 1) * spb) e in absurd (omega (arith, less, row, split)))
          ∙ sym (false_from_ne_true _ (λ e. let more = leb-true (at / spb) b e in absurd (omega (arith, more, below))))
      | inr above ↦
          let row : (at / spb + 1) * spb ≤ (b + 1) * spb = mul-le (at / spb + 1) spb (b + 1) spb (omega arith) (omega arith) in
          let wide : (at / spb + 1) * spb ≡ at / spb * spb + spb = omega arith in
          lt-ltb at ((b + 1) * spb) (omega (arith, row, wide, split, narrow)) ∙ sym (le-leb (at / spb) b above)
    ]

module _ (s : Superblock) (g : Geometry) (some : 0 < g.shape.spb) where
  abbrev first : ℕ
  first = s.recalc_sector / g.shape.spb

  pub position_blocks : (b : ℕ) → opening_blocks s g None b ≡ (has_flag RECALCULATING s.flags && nat_le (s.recalc_sector / g.shape.spb) b)
  position_blocks b = ap (λ (t : Bool). has_flag RECALCULATING s.flags && t) (by_position s.recalc_sector g.shape.spb b some)

  -- Without the flag none awaits, nor where the position is behind all blocks.
  pub no_position : (has_flag RECALCULATING s.flags ≡ false) ⊎ (g.blocks ≤ s.recalc_sector / g.shape.spb) → NoneAwaits s g None
  no_position behind = record {
    none = λ b low. position_blocks b ∙ ⊎_elim (λ clear. and_left _ _ clear)
        (λ high. and_right _ _ (false_from_ne_true _ (λ e. let more = leb-true first b e in absurd (omega (arith, more, high, low))))) behind;
  }

  module _ (set : has_flag RECALCULATING s.flags ≡ true) (inside : s.recalc_sector / g.shape.spb < g.blocks) where
    waits : (b : ℕ) → first ≤ b → opening_blocks s g None b ≡ true
    waits b above = position_blocks b ∙ and_from _ _ set (le-leb first b above)

    -- With it one does.
    pub some_position : NoneAwaits s g None → ⊥
    some_position none = true≢false (sym (waits first (omega arith)) ∙ none.none first inside)

    -- Regions await from that of the first block on.
    pub position_region : (region : ℕ) → region < regions g → opening_regions s g None region ≡ nat_le (region_of g (s.recalc_sector / g.shape.spb)) region
    position_region region low =
        let p = 2 ^ g.log2_region in
        let positive : 0 < p = pow_pos g.log2_region in
        let split : first / p * p + first % p ≡ first = div-add-mod' first p in
        let narrow : first % p < p = mod_below first p positive in
        elim (cases_lt region (region_of g first)) [
          | inl below ↦
              any_none g.blocks _ (λ b b_low. elim (cases_Bool (region_of g b == region)) [
                | inr other ↦ and_left _ _ other
                | inl is ↦ and_right _ _ (position_blocks b ∙ and_right _ _ (false_from_ne_true _ (λ e.
                    let more = leb-true first b e in
                    let same : b / p ≡ region = eqb-true (region_of g b) region is in
                    let b_split : b / p * p + b % p ≡ b = div-add-mod' b p in
                    let b_narrow : b % p < p = mod_below b p positive in
                    let row : (region + 1) * p ≤ first / p * p = mul-le (region + 1) p (first / p) p (omega (arith, below)) (omega arith) in
                    let b_row : b / p * p ≡ region * p = ap (λ n. n * p) same in
                    let wide : (region + 1) * p ≡ region * p + p = omega arith in
                    absurd (omega (arith, more, split, b_split, b_narrow, row, b_row, wide)))))
              ])
              ∙ sym (false_from_ne_true _ (λ e. let more = leb-true (region_of g first) region e in absurd (omega (arith, more, below))))
          | inr above ↦ elim (cases_lt region (region_of g first + 1)) [
            | inl near ↦
                let same : region_of g first ≡ region = omega (arith, near, above) in
                ap (opening_regions s g None) (sym same) ∙ some_region s g None first inside (waits first (omega arith)) ∙ sym (le-leb (region_of g first) region above)
            | inr far ↦
                let block = first_block g region low in
                let block_split : block.0 / p * p + block.0 % p ≡ block.0 = div-add-mod' block.0 p in
                let row : (first / p + 1) * p ≤ region * p = mul-le (first / p + 1) p region p (omega (arith, far)) (omega arith) in
                let block_row : block.0 / p * p ≡ region * p = ap (λ n. n * p) block.2 in
                let wide : (first / p + 1) * p ≡ first / p * p + p = omega arith in
                ap (opening_regions s g None) (sym block.2)
                ∙ some_region s g None block.0 block.1 (waits block.0 (omega (arith, split, narrow, block_split, row, block_row, wide)))
                ∙ sym (le-leb (region_of g first) region above)
          ]
        ]

    -- The set has these.
    pub position_opening : (a : AwaitingRegions) → a.geometry ≡ g → a.first ≡ s.recalc_sector / g.shape.spb
        → ((region : ℕ) → region < regions g → awaiting_of a region ≡ nat_le (region_of g (s.recalc_sector / g.shape.spb)) region) → IsOpening s g None a
    position_opening a is at has = record {
      geometry = is;
      first = at;
      regions_ = λ region low. has region low ∙ sym (position_region region low);
      blocks_ = λ b low. rw (is, at) (blocks b low);
    }
      where
        blocks : (b : ℕ) → b < g.blocks → (awaiting_of a (region_of g b) && nat_le (s.recalc_sector / g.shape.spb) b) ≡ opening_blocks s g None b
        blocks b low = elim (cases_lt b first) [
          | inl below ↦
              let no : nat_le first b ≡ false = false_from_ne_true _ (λ e. let more = leb-true first b e in absurd (omega (arith, more, below))) in
              and_right _ _ no ∙ sym (position_blocks b ∙ and_right _ _ no)
          | inr above ↦
              let within = region_of-lt g b low in
              let region_is = has (region_of g b) within ∙ sym (position_region (region_of g b) within) ∙ some_region s g None b low (waits b above) in
              and_from _ _ region_is (le-leb first b above) ∙ sym (waits b above)
        ]

-- There are no more regions than blocks.
pub regions_few : (g : Geometry) (sectors : ℕ) → IsGeometry g sectors → regions g ≤ 2 ^ 48
regions_few g sectors is =
    let few = blocks-low g sectors is in
    elim (cases_lt (2 ^ 48) (regions g)) [
      | inr low ↦ low
      | inl many ↦
          let begins = region-begins g (2 ^ 48) many in
          let row : 2 ^ 48 * 1 ≤ 2 ^ 48 * 2 ^ g.log2_region = mul-le (2 ^ 48) 1 (2 ^ 48) (2 ^ g.log2_region) (omega arith) (pow_pos g.log2_region) in
          absurd (omega (arith, few, begins, row))
    ]

-- The flag, as it is tested.
pub flag_clear : (s : Superblock) → bit_and s.flags RECALCULATING ≡ 0 → has_flag RECALCULATING s.flags ≡ false
flag_clear s e = ap not (eq-eqb (bit_and s.flags RECALCULATING) 0 e)

pub flag_set : (s : Superblock) → bit_and s.flags RECALCULATING ≢ 0 → has_flag RECALCULATING s.flags ≡ true
flag_set s e = ap not (ne_eqb (bit_and s.flags RECALCULATING) 0 e)
