-- What awaits when an image without a bitmap is opened.
use Rattle.std.proofs.Common.{◌≡◌, ℕ, ◌+◌, ◌*◌, ◌-◌, ◌/◌, ◌%◌, ◌^◌, ◌<◌, ◌≤◌, nat_lt, true, false, is_some, refl, sym, ◌∙◌, ap, subst, arith, Ok, Some, None, Option}
use Rattle.std.proofs.lemmas.Bool.{and_from, and_parts, false_from_ne_true, lt-ltb, ltb-true, true≢false}
use Rattle.std.proofs.lemmas.Nat.{div-add-mod'}
use Rattle.std.proofs.Math.Nat.{mul-le-mul_right}
use Rattle.disk_model.specs.Disk.{Image}
use Rattle.image_model.specs.declared.flags.TheConstants.{DIRTY_BITMAP, RECALCULATING}
use Rattle.image_model.specs.Bitmap.{is_to_recalculate, region_awaits, some_await}
use Rattle.image_model.specs.Cells.{Cell}
use Rattle.image_model.specs.Geometry.{Geometry, geometry_of, layout_of, region_of, regions}
use Rattle.image_model.specs.Superblock.{IsAccepted, Superblock, has_flag}
use Rattle.image_model.proofs.BitmapLemmas.{awaits-journal, region_awaits-block, region_awaits-journal, region_awaits_found}
use Rattle.image_model.proofs.GeometryOf.{blocks_some, geometry_given}
use Rattle.image_model.proofs.Regions.{region_of-lt}
use Rattle.device_model.specs.Regions.{least_region}
use Rattle.place_model.proofs.PlacedLemmas.{cells_of-none, recalculated-computed}
use Rattle.bitmap_laws.proofs.LeastLemmas.{find_none, least_found}
use Rattle.recalculate_laws.specs.Opened.{FromStartLaw, SomeAwaitLaw}

module _ (s : Superblock) (sectors : ℕ) (g : Geometry) (image : Image) (accepted : IsAccepted s) (e : geometry_of s sectors ≡ Ok g) (clear : has_flag DIRTY_BITMAP s.flags ≡ false) where
  is_layout : g ≡ layout_of s
  is_layout = ((geometry_given s sectors g).0 e).0

  -- The sectors of the blocks are those that are provided, and there is one.
  all_sectors : g.blocks * g.shape.spb ≡ s.provided
  all_sectors =
      let split : s.provided / 2 ^ s.log2_spb * 2 ^ s.log2_spb + s.provided % 2 ^ s.log2_spb ≡ s.provided = div-add-mod' s.provided (2 ^ s.log2_spb) in
      let whole : s.provided % 2 ^ s.log2_spb ≡ 0 = accepted.whole_blocks in
      ap (λ (x : Geometry). x.blocks * x.shape.spb) is_layout ∙ omega arith

  some : 1 ≤ g.blocks
  some = subst (λ (x : Geometry). 1 ≤ x.blocks) (sym is_layout) (blocks_some s accepted)

  abbrev last : ℕ
  last = g.blocks - 1

  -- Where some block is to be recalculated the last one is.
  last_waits : some_await s ≡ true → is_to_recalculate s g last ≡ true
  last_waits is =
      let parts = and_parts (has_flag RECALCULATING s.flags) (nat_lt s.recalc_sector s.provided) is in
      let low = ltb-true s.recalc_sector s.provided parts.1 in
      let count = some in
      let row : last + 1 ≡ g.blocks = omega arith in
      let end : (last + 1) * g.shape.spb ≡ s.provided = ap (λ (n : ℕ). n * g.shape.spb) row ∙ all_sectors in
      and_from (has_flag RECALCULATING s.flags) (nat_lt s.recalc_sector ((last + 1) * g.shape.spb)) parts.0 (lt-ltb s.recalc_sector ((last + 1) * g.shape.spb) (omega (arith, low, end)))

  -- Any block that is says so.
  found_waits : (b : ℕ) → b < g.blocks → is_to_recalculate s g b ≡ true → some_await s ≡ true
  found_waits b inside is =
      let parts = and_parts (has_flag RECALCULATING s.flags) (nat_lt s.recalc_sector ((b + 1) * g.shape.spb)) is in
      let low = ltb-true s.recalc_sector ((b + 1) * g.shape.spb) parts.1 in
      let most : (b + 1) * g.shape.spb ≤ g.blocks * g.shape.spb = mul-le-mul_right g.shape.spb (omega (arith, inside)) in
      let whole = all_sectors in
      and_from (has_flag RECALCULATING s.flags) (nat_lt s.recalc_sector s.provided) parts.0 (lt-ltb s.recalc_sector s.provided (omega (arith, low, most, whole)))

  by_least : (o : Option ℕ) → least_region (regions g) (region_awaits s g image) ≡ o → is_some o ≡ some_await s
  by_least None none = sym (false_from_ne_true (some_await s) (λ is.
      let inside : last < g.blocks = let count = some in omega arith in
      let region = region_of g last in
      let waits = region_awaits-block s g image last inside (awaits-journal s g image last clear ∙ last_waits is) in
      let below = region_of-lt g last inside in
      true≢false (sym waits ∙ find_none (region_awaits s g image) 0 (regions g) none region (omega arith) (omega (arith, below)))))
  by_least (Some region) found =
      let least = least_found (regions g) (region_awaits s g image) region found in
      let block = region_awaits_found s g image region least.1 in
      sym (found_waits block.0 block.1 (sym (awaits-journal s g image block.0 clear) ∙ block.3))

pub some_await_law : SomeAwaitLaw
some_await_law s sectors g image accepted e clear = by_least s sectors g image accepted e clear (least_region (regions g) (region_awaits s g image)) refl

-- From the first sector on each block is to be recalculated.
pub each_waits : (s : Superblock) (g : Geometry) (b : ℕ) → 1 ≤ g.shape.spb → has_flag RECALCULATING s.flags ≡ true → s.recalc_sector ≡ 0 → is_to_recalculate s g b ≡ true
each_waits s g b spb set start =
    let row : 1 * g.shape.spb ≤ (b + 1) * g.shape.spb = mul-le-mul_right g.shape.spb (omega arith) in
    and_from (has_flag RECALCULATING s.flags) (nat_lt s.recalc_sector ((b + 1) * g.shape.spb)) set (lt-ltb s.recalc_sector ((b + 1) * g.shape.spb) (omega (arith, row, spb, start)))

pub from_start_law : FromStartLaw
from_start_law d image is clear set start = (
  λ b. awaits-journal d.superblock d.geometry image b clear ∙ each_waits d.superblock d.geometry b is.spb.0 set start,
  λ region inside. region_awaits-journal d.superblock d.geometry image region inside clear ∙ each_waits d.superblock d.geometry _ is.spb.0 set start,
  λ b none.
      ap (λ (cell : Cell). cell.tag) (cells_of-none d.key d.superblock d.geometry image b none)
      ∙ recalculated-computed d.key d.superblock d.geometry image b (awaits-journal d.superblock d.geometry image b clear ∙ each_waits d.superblock d.geometry b is.spb.0 set start),
)
