-- Values of the definitions, computed: which bits may be cleared, and which regions await, at each step of a device of
-- 47 blocks of eight sectors in regions of one block. Byte 08 is the bit of block 3, and byte 01 that of block 0.
use Rattle.std.proofs.Common.{◌≡◌, ℕ, Bool, true, false, refl, None, Some, List, [], ◌∷◌, filter, replicate}
use Rattle.std.specs.List.{range_with_len}
use Rattle.disk_model.specs.Disk.{Content, last_image}
use Rattle.image_model.specs.Bitmap.{is_bit_set}
use Rattle.image_model.specs.Cells.{placed_cells_of}
use Rattle.image_model.specs.Geometry.{regions_for}
use Rattle.image_model.specs.Tag.{tag_of}
use Rattle.device_model.specs.Regions.{least_region}
use Rattle.dirty_bitmap.specs.Regions.{Regions}
use Rattle.recalculation.proofs.Worked.{bits_with, of_47_blocks}
use Rattle.hmac_tag.specs.TagMaker.{TagRule}
use Rattle.tag_store.specs.Store.{Store, given_tags}
use Rattle.bitmap_mode.specs.Cleaning.{has_block_in, is_held, may_be_cleaned}
use Rattle.bitmap_mode.specs.Closing.{bits_cleared}
use Rattle.bitmap_mode.specs.Reading.{tags_to_read}
use Rattle.bitmap_mode.specs.States.{States, counts_cleaned, counts_of, counts_taken, counts_written, least_awaiting, may_be_clean}
use Rattle.bitmap_mode.specs.declared.spans.RegionSpan.{RegionSpan}

-- ---- the regions

-- A set of the 47 regions, whose first byte is this one, and the others 0.
abbrev set_with : (byte : ℕ) → Regions
set_with byte = record { size = 47; bytes = byte ∷ replicate 4095 0 }

-- The regions in memory, by the first bytes of those whose bit is set, of those that await, and of those that are
-- fresh.
abbrev pub states : (bits awaiting fresh : ℕ) → States
states bits awaiting fresh = record {
  geometry = of_47_blocks 0;
  bits = bits_with 0 bits;
  awaiting = record { geometry = of_47_blocks 0; first = 0; left = Some (set_with awaiting) };
  fresh = set_with fresh;
}

-- The regions that pass, of all 47.
abbrev those : (ℕ → Bool) → List ℕ
those passes = filter passes (range_with_len 0 47)

-- ---- a block is written, flushed and cleaned

-- No bit is set, and block 3 is written: the bit of its region is set then, and it is fresh.
set_bits-written : those (counts_written false 3 (states 0 0 0)).set_bits ≡ 3 ∷ []
unfolding is_bit_set
set_bits-written = refl

fresh-written : those (counts_written false 3 (states 0 0 0)).fresh ≡ 3 ∷ []
unfolding is_bit_set
fresh-written = refl

-- Where that is flushed with it, no region is fresh, and the bit stays set.
set_bits-written_flushed : those (counts_written true 3 (states 0 0 0x21)).set_bits ≡ 3 ∷ []
unfolding is_bit_set
set_bits-written_flushed = refl

fresh-written_flushed : those (counts_written true 3 (states 0 0 0x21)).fresh ≡ []
unfolding is_bit_set
fresh-written_flushed = refl

-- A region that awaits still does when a block of it was written.
awaiting-written : those (counts_written false 0 (states 0x01 0x01 0)).awaiting ≡ 0 ∷ []
unfolding is_bit_set
awaiting-written = refl

-- The bit may be cleared once its region was flushed, and not before.
may_be_clean-fresh : those (may_be_clean (counts_of (states 0x08 0 0x08))) ≡ []
unfolding is_bit_set
may_be_clean-fresh = refl

may_be_clean-flushed : those (may_be_clean (counts_of (states 0x08 0 0))) ≡ 3 ∷ []
unfolding is_bit_set
may_be_clean-flushed = refl

-- It is the one that a clean takes, whose bit is clear then, and there is no other.
least-flushed : least_region 47 (may_be_cleaned (counts_of (states 0x08 0 0)) (is_held [])) ≡ Some 3
unfolding is_bit_set
least-flushed = refl

set_bits-cleaned : those (counts_cleaned 3 (states 0x08 0 0)).set_bits ≡ []
unfolding is_bit_set
set_bits-cleaned = refl

least-cleaned : least_region 47 (may_be_cleaned (counts_cleaned 3 (states 0x08 0 0)) (is_held [])) ≡ None
unfolding is_bit_set
least-cleaned = refl

-- Of those in flight one request has blocks 2 to 4, one block 9, and one is a flush: their regions are held,
abbrev held : List RegionSpan
held = record { first = 2; end = 5 } ∷ record { first = 9; end = 10 } ∷ record { first = 0; end = 0 } ∷ []

is_held-three : those (is_held held) ≡ 2 ∷ 3 ∷ 4 ∷ 9 ∷ []
is_held-three = refl

-- and of bits 1, 3 and 7 the one of region 3 may not be cleared.
may_be_cleaned-held : those (may_be_cleaned (counts_of (states 0x8a 0 0)) (is_held held)) ≡ 1 ∷ 7 ∷ []
unfolding is_bit_set
may_be_cleaned-held = refl

-- In regions of four blocks, blocks 2 to 4 are in the first two, block 46 is in the last, and no block in none.
has_block_in-two : those (has_block_in (of_47_blocks 2) 2 3) ≡ 0 ∷ 1 ∷ []
has_block_in-two = refl

has_block_in-last : those (has_block_in (of_47_blocks 2) 46 1) ≡ 11 ∷ []
has_block_in-last = refl

has_block_in-none : those (has_block_in (of_47_blocks 2) 2 0) ≡ []
has_block_in-none = refl

-- ---- the image of a write that was cut is opened

-- The bit of block 0 is set, so its region awaits: it is the least that does, and its bit may not be cleared.
least_awaiting-cut : least_awaiting (states 0x01 0x01 0) ≡ Some 0
unfolding is_bit_set regions_for
least_awaiting-cut = refl

may_be_clean-cut : those (may_be_clean (counts_of (states 0x01 0x01 0))) ≡ []
unfolding is_bit_set
may_be_clean-cut = refl

-- Once it is recalculated it awaits no more, and is fresh: its bit is set until that is flushed.
awaiting-taken : those (counts_taken 0 (states 0x01 0x01 0)).awaiting ≡ []
unfolding is_bit_set
awaiting-taken = refl

fresh-taken : those (counts_taken 0 (states 0x01 0x01 0)).fresh ≡ 0 ∷ []
unfolding is_bit_set
fresh-taken = refl

set_bits-taken : those (counts_taken 0 (states 0x01 0x01 0)).set_bits ≡ 0 ∷ []
unfolding is_bit_set
set_bits-taken = refl

-- A read of block 5, whose region does not await, changes nothing.
awaiting-other : those (counts_taken 5 (states 0x01 0x01 0)).awaiting ≡ 0 ∷ []
unfolding is_bit_set
awaiting-other = refl

fresh-other : those (counts_taken 5 (states 0x01 0x01 0)).fresh ≡ []
unfolding is_bit_set
fresh-other = refl

-- Before the read block 0 gets the tag of the bytes that are in its place, over its sector 0,
tags_to_read-first : (rule : TagRule) (store : Store) (c : Content)
    → tags_to_read rule (states 0x01 0x01 0) 0 store c 0
    ≡ tag_of rule.key rule.salt rule.size 0 (placed_cells_of (of_47_blocks 0) (last_image c) 0).bytes
unfolding is_bit_set
tags_to_read-first rule store c = refl

-- as block 1 does over its sector 8, where that awaits,
tags_to_read-second : (rule : TagRule) (store : Store) (c : Content)
    → tags_to_read rule (states 0x02 0x02 0) 1 store c 1
    ≡ tag_of rule.key rule.salt rule.size 8 (placed_cells_of (of_47_blocks 0) (last_image c) 1).bytes
unfolding is_bit_set
tags_to_read-second rule store c = refl

-- and the tag of block 5, be it right or not, is left as it is by that, and by a read of it.
tags_to_read-other : (rule : TagRule) (store : Store) (c : Content)
    → tags_to_read rule (states 0x01 0x01 0) 0 store c 5 ≡ given_tags store c 5
unfolding is_bit_set
tags_to_read-other rule store c = refl

tags_to_read-clear : (rule : TagRule) (store : Store) (c : Content)
    → tags_to_read rule (states 0x01 0x01 0) 5 store c 5 ≡ given_tags store c 5
unfolding is_bit_set
tags_to_read-clear rule store c = refl

-- ---- a close

-- The bits of regions 0, 1, 3 and 5 are set, and region 1 awaits: a close clears the others, one after the other.
bits_cleared-none : those (bits_cleared (counts_of (states 0x2b 0x02 0)) 0) ≡ 0 ∷ 1 ∷ 3 ∷ 5 ∷ []
unfolding is_bit_set
bits_cleared-none = refl

bits_cleared-four : those (bits_cleared (counts_of (states 0x2b 0x02 0)) 4) ≡ 1 ∷ 5 ∷ []
unfolding is_bit_set
bits_cleared-four = refl

bits_cleared-all : those (bits_cleared (counts_of (states 0x2b 0x02 0)) 47) ≡ 1 ∷ []
unfolding is_bit_set
bits_cleared-all = refl
