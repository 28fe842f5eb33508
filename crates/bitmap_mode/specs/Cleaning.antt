-- A bit that is cleared: which region's that may be.
use Rattle.std.specs.Prelude.{ℕ, ◌==◌, Bool, not, ◌&&◌, nat_le, nat_lt, List}
use Rattle.std.specs.List.{list_any, range_with_len}
use Rattle.disk_model.specs.Disk.{Content}
use Rattle.image_model.specs.Geometry.{Geometry, region_of}
use Rattle.device_model.specs.Regions.{RegionCounts}
use Rattle.bitmap_laws.specs.ServeLaws.{ClearsBit}
use Rattle.dirty_bitmap.specs.Bits.{RegionBits, bits_of}
use Rattle.tag_store.specs.Store.{Store, given_tags}
use Rattle.bitmap_mode.specs.declared.spans.RegionSpan.{RegionSpan}
use Rattle.bitmap_mode.specs.States.{may_be_clean}

-- The region is one of the span,
abbrev pub is_in_span : RegionSpan → ℕ → Bool
is_in_span span region = nat_le span.first region && nat_lt region span.end

-- or of one of these spans.
abbrev pub is_held : List RegionSpan → ℕ → Bool
is_held held region = list_any (λ span. is_in_span span region) held

-- One of so many blocks, from a first one on, is in the region.
abbrev pub has_block_in : Geometry → (first count : ℕ) → ℕ → Bool
has_block_in g first count region = list_any (λ b. region_of g b == region) (range_with_len first count)

-- The bit of a region may be cleared that is set, needs none and is not held.
abbrev pub may_be_cleaned : RegionCounts → (is_held : ℕ → Bool) → ℕ → Bool
may_be_cleaned c is_held region = may_be_clean c region && not (is_held region)

-- The bit of a region is cleared, and not synced; the store gives the same tags.
abbrev pub ClearsBitOf : RegionBits → Geometry → (region : ℕ) → Store → (before after : List Content) → Type 0
ClearsBitOf bits g region store before after =
    ClearsBit g (bits_of bits) region (given_tags store) (given_tags store) before after
