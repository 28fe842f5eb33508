-- The fresh disk with its bit set: all is flushed, a clean clears the bit, and so does a close. No law of these speaks of nothing.
use Rattle.std.proofs.Common.{◌≡◌, inl, inr, ℕ, ◌/◌, ◌%◌, ◌<◌, ◌==◌, ◌&&◌, ◌||◌, Bool, false, refl, sym, ◌∙◌, ap, subst, arith, Some, List, [], ◌∷◌, slice_index, replicate}
use Rattle.std.specs.Int.{bit_at}
use Rattle.std.proofs.lemmas.Bool.{cases_lt}
use Rattle.std.proofs.lemmas.List.{get_or-replicate, get_or_past}
use Rattle.std.proofs.lemmas.Nat.Bits.{bit_at-zero}
use Rattle.std.proofs.lemmas.Option.{same_Some}
use Rattle.disk_model.specs.Disk.{Content, EachImage, IsImage, last_image, newest_only, with_run}
use Rattle.disk_model.specs.Moments.{HasNow}
use Rattle.disk_model.proofs.DiskLemmas.{AddsSome-adds, AddsSome-all, IsOfRun-one, OnlyAdds-wider, last_image-with_other, newest_only-last}
use Rattle.disk_model.proofs.MomentsLemmas.{no_moment}
use Rattle.image_model.specs.Bitmap.{is_bit_set, is_dirty}
use Rattle.image_model.specs.Cells.{placed_cells_of}
use Rattle.image_model.specs.Geometry.{bitmap_sectors_for, regions, regions_for}
use Rattle.device_model.specs.Progress.{DeviceState, Submit, Serve, Step, Clean, Close, FailedClose, opened_device, after_event, is_used}
use Rattle.device_model.specs.Regions.{least_region, with_region}
use Rattle.device_model.specs.Request.{Request, Asked, newly_asked}
use Rattle.device_model.specs.Submission.{Flush}
use Rattle.place_model.specs.Opened.{blocks_of}
use Rattle.place_model.specs.Tags.{ReadsTags, tag_byte_at}
use Rattle.place_model.proofs.FormatLemmas.{format_on-is, opens_tells}
use Rattle.place_model.proofs.PlacedLemmas.{placed_tag-byte}
use Rattle.place_model.proofs.WorkedDisk.{bitmap_format, fresh_bitmap, is_dirty-fresh, OpensAs-bitmap, HasWholeSectors-bitmap}
use Rattle.journal_laws.specs.EventLaws.{IsServed}
use Rattle.direct_laws.specs.CallLaws.{ReadsTagsNow}
use Rattle.direct_laws.specs.ServeLaws.{WritesBack, Syncs}
use Rattle.bitmap_model.specs.BitmapDisk.{BitmapDisk, bit_in, bit_sector, needs_bit}
use Rattle.bitmap_model.specs.Steps.{AreBits, with_clear, with_dirty, after_flush}
use Rattle.bitmap_model.proofs.BitLemmas.{with_region-here}
use Rattle.bitmap_model.proofs.KeepsLemmas.{tag_byte-no_bits}
use Rattle.bitmap_model.proofs.WorkedDisk.{content, fresh, tags, dirty_sector, regions-one}
use Rattle.bitmap_laws.specs.CallLaws.{IsBitmapSector, KeepsNow, StandsThrough}
use Rattle.bitmap_laws.specs.CloseLaws.{cleared_below}
use Rattle.bitmap_laws.specs.Device.{IsBitmapDevice, with_regions}
use Rattle.bitmap_laws.specs.EventLaws.{may_be_cleared, with_cleared}
use Rattle.bitmap_laws.specs.MomentLaws.{HasBlocksOf}
use Rattle.bitmap_laws.specs.ServeLaws.{ClearsBit, KeepsDevice}
use Rattle.bitmap_laws.proofs.CallLemmas.{run_image, dirty_done_law, sync_kept_law, sync_law, through_law, still_law, kept_stands_law}
use Rattle.bitmap_laws.proofs.CloseLemmas.{clear_begins_law, clear_skips_law, clear_turn_law, clear_ends_law, cleared_images_law, served_close_law, failed_clear_close_law, clear_stands_law}
use Rattle.bitmap_laws.proofs.DeviceLemmas.{beginning_law}
use Rattle.bitmap_laws.proofs.EventLemmas.{quiet_events_law}
use Rattle.bitmap_laws.proofs.PromiseLemmas.{closed_bits_law}
use Rattle.bitmap_laws.proofs.ServeLemmas.{all_flushed_law, bit_cleared_law, cleaned_law, served_flush_law, tags_kept_law}
use Rattle.bitmap_laws.proofs.WorkedServe.{format, marked, old_tags, marked_dirty, before, with_bit, sectors-eight, KeepsNow-before, MakesDirty-region}

-- ---- a device whose bit is set

abbrev pub dirty : BitmapDisk
dirty = with_dirty fresh 0

abbrev at_dirty : DeviceState
at_dirty = opened_device fresh.base 0 dirty.bits dirty.awaiting

IsBitmapDevice-dirty : IsBitmapDevice format at_dirty dirty
IsBitmapDevice-dirty = beginning_law format dirty fresh.base 0 dirty.bits dirty.awaiting refl refl refl (λ b low. refl)
    (record { set_bits = λ r low. refl; awaiting = λ r low. refl; fresh = λ r low. refl })

HasBlocksOf-dirty : HasBlocksOf fresh_bitmap dirty
HasBlocksOf-dirty = ap blocks_of (sym (format_on-is bitmap_format fresh_bitmap OpensAs-bitmap))

pub KeepsNow-dirty : KeepsNow dirty marked old_tags with_bit
KeepsNow-dirty =
    let made = MakesDirty-region in
    dirty_done_law fresh bitmap_format.geometry marked fresh.bits 0 old_tags old_tags before with_bit refl (λ r low. refl) (omega (arith, regions-one)) KeepsNow-before made.image made.adds made.made made.gives

needs_bit-none : needs_bit dirty 0 ≡ false
needs_bit-none = ap (λ (t : Bool). t || false) is_dirty-fresh

-- ---- a sector without a bit

abbrev zero_sector : List ℕ
zero_sector = replicate 512 0

is_bit_set-none : (place : ℕ) → is_bit_set zero_sector place ≡ false
unfolding is_bit_set
is_bit_set-none place = ap (λ (x : ℕ). bit_at x (place % 8) == 1) (zeros (place / 8)) ∙ ap (λ (bit : ℕ). bit == 1) (bit_at-zero (place % 8))
  where
    zeros : (k : ℕ) → slice_index zero_sector k ≡ 0
    zeros k = elim (cases_lt k 512) [
      | inl low ↦ get_or-replicate 512 k 0 0 low
      | inr past ↦ get_or_past zero_sector k 0 past
    ]

AreBits-none : (bits : ℕ → Bool) → AreBits bitmap_format.geometry (with_region 0 false bits) (bit_sector 0) zero_sector
AreBits-none bits = record {
  whole = refl;
  each = λ r low there. is_bit_set-none (bit_in r) ∙ sym (with_region-here 0 r false bits (omega (arith, regions-one)));
  unused = λ r above there. is_bit_set-none (bit_in r);
}

abbrev without_bit : Content → Content
without_bit start = with_run (bit_sector 0) zero_sector start

-- It is written, and not synced.
ClearsBit-first : (bits : ℕ → Bool) (start : Content) (h : List Content) → ClearsBit bitmap_format.geometry bits 0 old_tags old_tags (start ∷ h) (without_bit start ∷ start ∷ h)
ClearsBit-first bits start h =
    let is : IsBitmapSector bitmap_format.geometry (with_region 0 false bits) (bit_sector 0) zero_sector = record { group = 0; inside = omega (arith, sectors-eight); is = refl; are = AreBits-none bits } in
    record {
      adds = record {
        since = without_bit start ∷ [];
        grows = refl;
        each = (
          OnlyAdds-wider _ (IsBitmapSector bitmap_format.geometry (with_region 0 false bits)) (λ s x run.
              let one = IsOfRun-one (bit_sector 0) zero_sector s x refl run in
              subst (λ (n : ℕ). IsBitmapSector bitmap_format.geometry (with_region 0 false bits) n x) (sym one.0)
              (subst (λ (y : List ℕ). IsBitmapSector bitmap_format.geometry (with_region 0 false bits) (bit_sector 0) y) (sym one.1) is))
              start (without_bit start) (AddsSome-adds (bit_sector 0) zero_sector start (without_bit start) (AddsSome-all (bit_sector 0) zero_sector start)),
          tt,
        );
      };
      made = λ s told c told_c. record {
        bytes = zero_sector;
        are = AreBits-none bits;
        is = sym (same_Some (without_bit start) c told_c) ∙ ap without_bit (same_Some start s told);
      };
      gives = λ s told c told_c b low. refl;
    }

-- ---- a clean

abbrev cleaned : List Content
cleaned = without_bit (newest_only marked_dirty) ∷ with_bit

-- The one bit may be cleared.
least-dirty : least_region (regions bitmap_format.geometry) (may_be_cleared dirty (is_used format at_dirty.progress.requests)) ≡ Some 0
unfolding is_bit_set bitmap_sectors_for regions_for
least-dirty = refl

BitCleared-dirty : StandsThrough (with_clear dirty 0) marked with_bit cleaned × KeepsNow (with_clear dirty 0) marked old_tags cleaned
BitCleared-dirty = bit_cleared_law dirty bitmap_format.geometry marked dirty.bits 0 old_tags old_tags with_bit cleaned refl (λ r low. refl) (omega (arith, regions-one)) needs_bit-none KeepsNow-dirty
    (ClearsBit-first dirty.bits (newest_only marked_dirty) (marked_dirty ∷ before))

pub KeepsDevice-cleaned : KeepsDevice format at_dirty (Step Clean) fresh_bitmap dirty (with_clear dirty 0) with_bit cleaned
KeepsDevice-cleaned = (cleaned_law format at_dirty dirty 0 fresh_bitmap marked with_bit cleaned IsBitmapDevice-dirty HasBlocksOf-dirty refl least-dirty BitCleared-dirty.0).0

-- ---- a flush

-- Reads of the tags give those that are in place: the bit stands elsewhere.
ReadsTags-dirty : ReadsTags bitmap_format.geometry tags (newest_only marked_dirty)
ReadsTags-dirty =
    let geometry = (opens_tells bitmap_format fresh_bitmap OpensAs-bitmap).is_geometry in
    record {
      each = λ b i low i_low.
          ap (λ (x : List ℕ). slice_index x (tag_byte_at bitmap_format.geometry b i).byte)
          (last_image-with_other (bit_sector 0) dirty_sector content (tag_byte_at bitmap_format.geometry b i).sector refl
          (tag_byte-no_bits fresh 0 b i (KeepsNow-before content refl).cells.stands.formed (omega (arith, regions-one)) low))
          ∙ sym (placed_tag-byte bitmap_format.geometry 112 geometry fresh_bitmap HasWholeSectors-bitmap b low (placed_cells_of bitmap_format.geometry fresh_bitmap b) i i_low);
    }

ReadsTagsNow-dirty : ReadsTagsNow bitmap_format.geometry old_tags with_bit
ReadsTagsNow-dirty c told = subst (ReadsTags bitmap_format.geometry tags) (same_Some (newest_only marked_dirty) c told) ReadsTags-dirty

-- No tag is marked, so none is written back.
WritesBack-none : WritesBack bitmap_format.geometry old_tags old_tags with_bit with_bit
WritesBack-none = record {
  adds = no_moment with_bit _;
  others = λ start told c told_c. record { each = λ sector none. ap (λ (x : Content). last_image x sector) (same_Some c start (sym told_c ∙ told)) };
  gives = λ start told c told_c b low. refl;
}

-- So the disk stands as it did.
pub KeepsNow-kept : StandsThrough dirty marked with_bit with_bit × KeepsNow dirty marked old_tags with_bit
KeepsNow-kept = tags_kept_law dirty bitmap_format.geometry marked old_tags old_tags with_bit with_bit refl KeepsNow-dirty WritesBack-none

-- A sync of contents whose reads are an image.
Syncs-content : (start : Content) (h : List Content) → IsImage start (last_image start) → Syncs bitmap_format.geometry old_tags old_tags (start ∷ h) (newest_only start ∷ start ∷ h)
Syncs-content start h image = record {
  image = λ c told. subst (λ (x : Content). IsImage x (last_image x)) (same_Some start c told) image;
  synced = refl;
  adds = record { since = newest_only start ∷ []; grows = refl; each = (refl, tt) };
  gives = λ s told c told_c b low. refl;
}

abbrev set_content : Content
set_content = newest_only marked_dirty

abbrev flushed : List Content
flushed = newest_only set_content ∷ with_bit

AllFlushed-dirty : StandsThrough dirty marked with_bit flushed × KeepsNow (after_flush dirty) marked old_tags flushed
AllFlushed-dirty = all_flushed_law dirty bitmap_format.geometry marked old_tags old_tags old_tags with_bit with_bit flushed refl KeepsNow-dirty WritesBack-none ReadsTagsNow-dirty
    (Syncs-content set_content (marked_dirty ∷ before) (newest_only-last marked_dirty))

abbrev asked_flush : Asked
asked_flush = newly_asked Request.Flush []

abbrev at_flush : DeviceState
at_flush = after_event format at_dirty (Submit Flush)

IsServed-flush : IsServed at_flush 0 asked_flush
IsServed-flush = record { works = refl; there = refl; unfinished = refl; unheld = refl }

pub KeepsDevice-flushed : KeepsDevice format at_flush (Serve 1) fresh_bitmap dirty (after_flush dirty) with_bit flushed
KeepsDevice-flushed =
    (served_flush_law format at_flush dirty 0 asked_flush fresh_bitmap marked old_tags with_bit flushed (quiet_events_law format at_dirty (Submit Flush) dirty IsBitmapDevice-dirty tt) HasBlocksOf-dirty
    IsServed-flush refl AllFlushed-dirty.0).1 AllFlushed-dirty.1

-- ---- a close

abbrev closing : BitmapDisk
closing = after_flush dirty

abbrev cleared : List Content
cleared = without_bit (newest_only set_content) ∷ flushed

abbrev closed : List Content
closed = newest_only (without_bit (newest_only set_content)) ∷ cleared

-- Its loop has one turn, which clears the bit.
ClearTurn-dirty : StandsThrough (with_cleared closing) marked flushed cleared × KeepsNow (cleared_below closing 1) marked old_tags cleared
ClearTurn-dirty = clear_turn_law closing bitmap_format.geometry 0 marked (cleared_below closing 0).bits old_tags old_tags flushed cleared refl (λ r. refl) (omega (arith, regions-one)) is_dirty-fresh (λ r low. refl)
    (clear_begins_law closing marked old_tags flushed AllFlushed-dirty.1) (ClearsBit-first (cleared_below closing 0).bits (newest_only set_content) with_bit)

-- Within the loop it stands for the one without all bits too.
pub StandsThrough-within : StandsThrough (with_cleared closing) marked cleared cleared
StandsThrough-within = clear_stands_law closing marked 1 cleared cleared (λ r. refl)
    (still_law (cleared_below closing 1) marked cleared cleared refl (kept_stands_law (cleared_below closing 1) marked old_tags cleared ClearTurn-dirty.1))

-- On the fresh disk, whose bit is clear, such a turn does nothing.
pub KeepsNow-skipped : KeepsNow (cleared_below fresh 1) marked old_tags before
KeepsNow-skipped = clear_skips_law fresh 0 marked old_tags before (ap (λ (t : Bool). t && fresh.awaiting 0) is_dirty-fresh ∙ sym is_dirty-fresh)
    (clear_begins_law fresh marked old_tags before KeepsNow-before)

KeepsNow-cleared : KeepsNow (with_cleared closing) marked old_tags cleared
KeepsNow-cleared = clear_ends_law closing marked old_tags cleared (subst (λ (n : ℕ). KeepsNow (cleared_below closing n) marked old_tags cleared) (sym regions-one) ClearTurn-dirty.1)

Syncs-cleared : Syncs bitmap_format.geometry old_tags old_tags cleared closed
Syncs-cleared = Syncs-content (without_bit (newest_only set_content)) flushed (run_image (bit_sector 0) zero_sector (newest_only set_content) (newest_only-last set_content))

Closed-dirty : StandsThrough (with_cleared closing) marked flushed closed
Closed-dirty = through_law (with_cleared closing) marked flushed cleared closed ClearTurn-dirty.0
    (sync_law (with_cleared closing) marked cleared closed ClearTurn-dirty.0.now Syncs-cleared.image Syncs-cleared.adds)

KeepsNow-closed : KeepsNow (with_cleared closing) marked old_tags closed
KeepsNow-closed = sync_kept_law (with_cleared closing) bitmap_format.geometry marked old_tags old_tags cleared closed refl KeepsNow-cleared Syncs-cleared.image Syncs-cleared.synced Syncs-cleared.gives

pub KeepsDevice-closed : KeepsDevice format at_dirty Close fresh_bitmap dirty (with_cleared closing) with_bit closed
KeepsDevice-closed =
    served_close_law format at_dirty dirty fresh_bitmap marked old_tags with_bit flushed closed IsBitmapDevice-dirty HasBlocksOf-dirty refl AllFlushed-dirty.0 Closed-dirty KeepsNow-closed

-- No bit is set in any image then.
pub images-closed : HasNow (EachImage (λ image. (r : ℕ) → r < regions bitmap_format.geometry → is_dirty bitmap_format.geometry image r ≡ (with_cleared closing).bits r)) closed
images-closed = cleared_images_law (with_cleared closing) marked old_tags cleared closed KeepsNow-cleared Syncs-cleared.image Syncs-cleared.synced

-- What is left is what was set at opening and awaits still: none.
pub bits-closed : (with_cleared closing).bits 0 ≡ (marked 0 && closing.awaiting 0)
bits-closed = closed_bits_law closing marked (newest_only (without_bit (newest_only set_content))) 0
    (let keeps = KeepsNow-closed (newest_only (without_bit (newest_only set_content))) refl in record { stands = keeps.cells.stands; own = keeps.own }) (omega (arith, regions-one))

-- Where the disk fails behind the turn, it is closed all the same.
pub KeepsDevice-failed_close : KeepsDevice format at_dirty FailedClose fresh_bitmap dirty (with_regions dirty (with_cleared closing).bits dirty.awaiting (λ r. false)) with_bit cleared
KeepsDevice-failed_close =
    failed_clear_close_law format at_dirty dirty fresh_bitmap marked with_bit flushed cleared IsBitmapDevice-dirty HasBlocksOf-dirty refl AllFlushed-dirty.0 ClearTurn-dirty.0
