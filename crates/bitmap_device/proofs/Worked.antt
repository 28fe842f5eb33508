-- Values of the definitions, computed: which bit a clean takes beside requests in flight, what it may write, and how
-- long the actors have work, on a device of 47 blocks of eight sectors in regions of one block.
use Rattle.std.proofs.Common.{◌≡◌, ℕ, Bool, false, refl, None, Some, List, [], ◌∷◌, filter, replicate}
use Rattle.std.specs.List.{range_with_len}
use Rattle.disk_model.specs.Disk.{Content}
use Rattle.image_model.specs.Bitmap.{is_bit_set}
use Rattle.image_model.specs.Geometry.{Geometry, regions_for}
use Rattle.device_model.specs.Regions.{with_region}
use Rattle.bitmap_laws.specs.CallLaws.{AddsBits}
use Rattle.dirty_bitmap.specs.Bits.{bits_of}
use Rattle.request_slots.specs.Flight.{Flight, newly_slotted}
use Rattle.request_slots.specs.Serving.{with_change, with_finish}
use Rattle.request_slots.specs.declared.request.Request.TheVariants.{Flush, Read, Write}
use Rattle.device_model.specs.declared.actor.Actor.TheVariants.{Clean, Commit, Recalc}
use Rattle.device_parts.specs.declared.parts.Parts.{Parts}
use Rattle.bitmap_mode.proofs.Worked.{states}
use Rattle.bitmap_device.specs.Answers.{WritesAs, is_held_by, is_to_clean, least_to_clean, steps_left}

-- Where its blocks lie.
abbrev g : Geometry
g = (states 0 0 0).geometry

-- ---- the requests in flight

-- A write of block 3, which has ticket 1, and a flush.
abbrev writing : Flight
writing = record {
  blocks = 47;
  block_size = 4096;
  submitted = 2;
  slots = newly_slotted 1 (Write 3 1 (replicate 4096 0xaa) false) ∷ newly_slotted 2 Flush ∷ [];
}

-- The write is taken, and the flush left.
abbrev taken : Flight
taken = record writing { slots = newly_slotted 2 Flush ∷ [] }

-- What a device keeps, with these requests.
abbrev with_flight : Flight → Parts → Parts
with_flight flight parts = record parts { slots = flight }

-- The regions that pass, of all 47.
abbrev those : (ℕ → Bool) → List ℕ
those passes = filter passes (range_with_len 0 47)

-- ---- which bit a clean takes

-- The write has its block's region, also once it is served, and the flush has none.
is_held_by-writing : those (is_held_by g writing) ≡ 3 ∷ []
is_held_by-writing = refl

is_held_by-served : those (is_held_by g (with_change 1 with_finish writing)) ≡ 3 ∷ []
is_held_by-served = refl

is_held_by-taken : those (is_held_by g taken) ≡ []
is_held_by-taken = refl

-- A read of blocks 2 to 4 has the first two regions of four blocks.
abbrev reading : Flight
reading = record taken { slots = newly_slotted 3 (Read 2 3 (replicate 12288 0)) ∷ [] }

is_held_by-reading : those (is_held_by (record g { log2_region = 2 }) reading) ≡ 0 ∷ 1 ∷ []
is_held_by-reading = refl

-- Flushed, the bit of block 3 is to be cleared once the write is taken,
least_to_clean-taken : (parts : Parts) → least_to_clean (with_flight taken parts) (states 0x08 0 0) ≡ Some 3
unfolding is_bit_set regions_for
least_to_clean-taken parts = refl

-- and not before, as it is served or while it is fresh.
least_to_clean-writing : (parts : Parts)
    → least_to_clean (with_flight (with_change 1 with_finish writing) parts) (states 0x08 0 0) ≡ None
unfolding is_bit_set regions_for
least_to_clean-writing parts = refl

least_to_clean-fresh : (parts : Parts) → least_to_clean (with_flight taken parts) (states 0x08 0 0x08) ≡ None
unfolding is_bit_set regions_for
least_to_clean-fresh parts = refl

-- The bit of a region that awaits is not.
least_to_clean-cut : (parts : Parts) → least_to_clean (with_flight taken parts) (states 0x01 0x01 0) ≡ None
unfolding is_bit_set regions_for
least_to_clean-cut parts = refl

-- Beside a write of block 3, of bits 3, 5 and 6 the one of region 5 is the least, and that of region 6 the other one.
is_to_clean-beside : (parts : Parts) → those (is_to_clean (with_flight writing parts) (states 0x68 0 0)) ≡ 5 ∷ 6 ∷ []
unfolding is_bit_set
is_to_clean-beside parts = refl

least_to_clean-beside : (parts : Parts) → least_to_clean (with_flight writing parts) (states 0x68 0 0) ≡ Some 5
unfolding is_bit_set regions_for
least_to_clean-beside parts = refl

-- ---- what a clean writes

-- Its bit is cleared in a sector of the bitmap, and else nothing is written; nothing is where there is none to clear.
WritesClean-taken : (parts : Parts) (before after : List Content)
    → WritesAs Clean (with_flight taken parts) (states 0x08 0 0) before after
    ≡ AddsBits g (with_region 3 false (bits_of (states 0x08 0 0).bits)) before after
unfolding is_bit_set regions_for
WritesClean-taken parts before after = refl

WritesClean-fresh : (parts : Parts) (before after : List Content)
    → WritesAs Clean (with_flight taken parts) (states 0x08 0 0x08) before after ≡ (after ≡ before)
unfolding is_bit_set regions_for
WritesClean-fresh parts before after = refl

-- A commit writes nothing in bitmap mode, and a recalculation nothing where no region awaits.
WritesAs-commit : (parts : Parts) (before after : List Content)
    → WritesAs Commit parts (states 0x08 0x08 0) before after ≡ (after ≡ before)
WritesAs-commit parts before after = refl

WritesAs-no_recalc : (parts : Parts) (before after : List Content)
    → WritesAs Recalc parts (states 0x08 0 0) before after ≡ (after ≡ before)
unfolding is_bit_set regions_for
WritesAs-no_recalc parts before after = refl

-- The bits before the clean are those of block 3, and behind it none are.
set_bits-clean : those (with_region 3 false (bits_of (states 0x08 0 0).bits)) ≡ []
unfolding is_bit_set
set_bits-clean = refl

-- ---- how long there is work

-- Of three bits that are set, and two regions that await: three cleans, two recalculations and no commit are left.
steps_left-clean : steps_left Clean (states 0x29 0x21 0) ≡ 3
unfolding is_bit_set regions_for
steps_left-clean = refl

steps_left-recalc : steps_left Recalc (states 0x29 0x21 0) ≡ 2
unfolding is_bit_set regions_for
steps_left-recalc = refl

steps_left-commit : steps_left Commit (states 0x29 0x21 0) ≡ 0
steps_left-commit = refl
