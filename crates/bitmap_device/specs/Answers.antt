-- What the calls of a device in bitmap mode write, how long its actors have work, and which bits a close leaves.
use Rattle.std.specs.Prelude.{◌≡◌, ℕ, ◌*◌, ◌<◌, Bool, false, ◌&&◌, List, length, Option, Some, None, IfSome}
use Rattle.std.specs.List.{count_by, list_any, range_with_len}
use Rattle.disk_model.specs.Disk.{Content, EachImage, OnlyAdds}
use Rattle.disk_model.specs.Moments.{EachSince, HasNow}
use Rattle.image_model.specs.Bitmap.{is_dirty}
use Rattle.image_model.specs.Geometry.{Geometry, region_of, regions}
use Rattle.device_model.specs.Progress as Model
use Rattle.device_model.specs.Regions.{least_region, with_region}
use Rattle.place_model.specs.Format.{OpensAs}
use Rattle.bitmap_laws.specs.CallLaws.{AddsBits}
use Rattle.dirty_bitmap.specs.Bits.{bits_of}
use Rattle.request_slots.specs.Flight.{Flight, count_in, first_in, slot_of}
use Rattle.request_slots.specs.Serving.{next_bytes}
use Rattle.request_slots.specs.declared.turn.Turn.{Turn}
use Rattle.request_slots.specs.declared.turn.Turn.TheVariants as Turns
use Rattle.tag_store.specs.Store.{IsMarkedTags}
use Rattle.device_model.specs.declared.actor.Actor.{Actor}
use Rattle.device_model.specs.declared.actor.Actor.TheVariants as Actors
use Rattle.device_parts.specs.declared.parts.Parts.{Parts}
use Rattle.device_parts.specs.Device.{Standing}
use Rattle.bitmap_mode.specs.Cleaning.{has_block_in, may_be_cleaned}
use Rattle.bitmap_mode.specs.Reading.{AddsToRead}
use Rattle.bitmap_mode.specs.States.{States, counts_of, least_awaiting}
use Rattle.bitmap_mode.specs.Writing.{IsOfMarkedBlock}

-- ---- a serve

-- The block is written next, with the bytes of the request: the bit of its region first, where it is clear, then the
-- block's bytes, and sectors of tags.
pub record WritesBlock (ticket block : ℕ) (parts : Parts) (regions : States) (before after : List Content)
    : Type 0 where
  pub low : block < regions.geometry.blocks
  pub bytes : List ℕ
  pub size : length bytes ≡ 512 * regions.geometry.shape.spb
  pub next : IfSome (slot_of ticket parts.slots) (λ slot. bytes ≡ next_bytes parts.slots.block_size slot)
  pub adds : EachSince (OnlyAdds (IsOfMarkedBlock regions block bytes)) before after

-- What is written in a serve, by what is done next: for a read sectors of tags, with those of its region's blocks where
-- that awaits; for a write its block; for a flush the sectors of tags that were changed; and else nothing.
abbrev pub WritesFor : Turn → (ticket : ℕ) → Parts → States → (before after : List Content) → Type 0
WritesFor Turns.Finished ticket parts regions before after = after ≡ before
WritesFor (Turns.Held by) ticket parts regions before after = after ≡ before
WritesFor (Turns.Read block) ticket parts regions before after =
    AddsToRead parts.maker regions (region_of regions.geometry block) parts.tags before after
WritesFor (Turns.Write block is_flushed) ticket parts regions before after =
    WritesBlock ticket block parts regions before after
WritesFor Turns.Flush ticket parts regions before after =
    EachSince (OnlyAdds (IsMarkedTags parts.tags)) before after

-- ---- a step

-- A request in flight has a block in the region.
abbrev pub is_held_by : Geometry → Flight → (region : ℕ) → Bool
is_held_by g flight region =
    list_any (λ slot. has_block_in g (first_in slot.request) (count_in slot.request) region) flight.slots

-- The bit of a region may be cleared that is set, needs none and has no block of a request in flight.
abbrev pub is_to_clean : Parts → States → (region : ℕ) → Bool
is_to_clean parts s = may_be_cleaned (counts_of s) (is_held_by s.geometry parts.slots)

-- The least such region.
abbrev pub least_to_clean : Parts → States → Option ℕ
least_to_clean parts s = least_region (regions s.geometry) (is_to_clean parts s)

-- What is written where this region's bit is cleared,
abbrev pub WritesClean : Option ℕ → States → (before after : List Content) → Type 0
WritesClean None s before after = after ≡ before
WritesClean (Some region) s before after = AddsBits s.geometry (with_region region false (bits_of s.bits)) before after

-- and where it is recalculated.
abbrev pub WritesRecalc : Option ℕ → Parts → States → (before after : List Content) → Type 0
WritesRecalc None parts s before after = after ≡ before
WritesRecalc (Some region) parts s before after = AddsToRead parts.maker s region parts.tags before after

-- What is written in a step.
abbrev pub WritesAs : Actor → Parts → States → (before after : List Content) → Type 0
WritesAs Actors.Commit parts s before after = after ≡ before
WritesAs Actors.Place parts s before after = after ≡ before
WritesAs Actors.Settle parts s before after = after ≡ before
WritesAs Actors.Clean parts s before after = WritesClean (least_to_clean parts s) s before after
WritesAs Actors.Recalc parts s before after = WritesRecalc (least_awaiting s) parts s before after

-- How many regions pass, of all of them.
abbrev pub regions_in : Geometry → (ℕ → Bool) → ℕ
regions_in g test = count_by test (range_with_len 0 (regions g))

-- How many steps of an actor still do something at most: a clean for each bit that is set, a recalculation for each
-- region that awaits.
abbrev pub steps_left : Actor → States → ℕ
steps_left Actors.Commit s = 0
steps_left Actors.Place s = 0
steps_left Actors.Settle s = 0
steps_left Actors.Clean s = regions_in s.geometry (counts_of s).set_bits
steps_left Actors.Recalc s = regions_in s.geometry (counts_of s).awaiting

-- The actor has nothing to do in bitmap mode.
abbrev pub HasNoWork : Model.Actor → Type 0
HasNoWork Model.Commit = Unit {0}
HasNoWork Model.Place = Unit {0}
HasNoWork Model.Settle = Unit {0}
HasNoWork Model.Clean = ⊥
HasNoWork Model.Recalc = ⊥

-- ---- a close

-- In each image those bits are set that were before it, and whose regions await.
abbrev pub HasBitsLeft : Standing → List Content → Type 0
HasBitsLeft w moments = let counts = w.state.progress.regions in
    HasNow (EachImage (λ image. (region : ℕ) → region < regions w.on.geometry
    → is_dirty w.on.geometry image region ≡ (counts.set_bits region && counts.awaiting region))) moments

-- So it is, and each image can be opened in the device's own format: its superblock has the same fields, the flag of a
-- bitmap among them.
pub record HasBitmapLeft (w : Standing) (moments : List Content) : Type 0 where
  pub opens : HasNow (EachImage (OpensAs w.on)) moments
  pub bits : HasBitsLeft w moments
