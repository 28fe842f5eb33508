-- A fresh disk of eight blocks with a journal, changed to a bitmap: its bytes are those of the same disk with a bitmap. And that
-- one, changed to a journal, has the bytes of the one with a journal. So no clause of a change speaks of nothing.
use Rattle.std.proofs.Common.{◌≡◌, ℕ, refl, subst, arith, None, List, [], ◌∷◌}
use Rattle.disk_model.proofs.DiskLemmas.{newest_only-last}
use Rattle.image_model.specs.Geometry.{bitmap_sectors_for, entries_per_sector, entry_size, fitting_log2_region, regions_for, section_entries, section_sectors, tag_run_of}
use Rattle.image_model.specs.Sectors.{bytes_at}
use Rattle.image_model.specs.Superblock.{IsAccepted, superblock_bytes}
use Rattle.image_model.proofs.OpenableLemmas.{IsReadable-accepted}
use Rattle.place_model.proofs.FormatLemmas.{opens_tells}
use Rattle.place_model.proofs.WorkedDisk.{HasWholeSectors-bitmap, HasWholeSectors-journal, OpensAs-bitmap, OpensAs-journal, bitmap_format as with_a_bitmap, fresh_bitmap, fresh_journal, journal_format}
use Rattle.image_format.specs.declared.reading.ImageFormat.{ImageFormat}
use Rattle.image_format.specs.Format.{IsBitmapFormat, IsDirectFormat, disk_format}
use Rattle.change_model.specs.Ends.{ArePlacedTags}
use Rattle.change_model.specs.Fields.{bitmap_fields, journal_fields, with_head}
use Rattle.change_model.specs.Opened.{bitmap_change, journal_change}
use Rattle.change_model.proofs.WorkedDisk.{IsEmptiedOf-fresh, IsEntry-bitmap, IsEntry-fresh, IsRecalculatedOf-fresh, bitmap_content, bitmap_disk, bitmap_tags, content, fresh, tags}
use Rattle.image_model.specs.EmptySections.{AreEmptySections, empty_image}
use Rattle.mode_change.specs.ToBitmap.{IsBitmapOf, bitmap_count, bitmap_format, with_bitmap}
use Rattle.mode_change.specs.ToJournal.{IsJournalOf, journal_format as with_a_journal, with_journal}
use Rattle.mode_change.proofs.ChangeLemmas.{becomes_bitmap}
use Rattle.mode_change.proofs.FormatLemmas.{marks_format, unmarked_format}
use Rattle.mode_change.proofs.JournalChangeLemmas.{becomes_journal}

abbrev format : ImageFormat
format = record { fields = journal_format.superblock; geometry = journal_format.geometry }

-- The bitmap has eight sectors,
bitmap_count-fresh : bitmap_count format ≡ 8
unfolding fitting_log2_region bitmap_sectors_for regions_for entry_size entries_per_sector section_entries section_sectors tag_run_of
bitmap_count-fresh = refl

-- and the format is that of the disk with a bitmap.
bitmap_format-fresh : bitmap_format format ≡ record { fields = with_a_bitmap.superblock; geometry = with_a_bitmap.geometry }
unfolding fitting_log2_region bitmap_sectors_for regions_for entry_size entries_per_sector section_entries section_sectors tag_run_of
bitmap_format-fresh = refl

-- Where the bitmap would not fit the regions are raised: of 2^20 blocks in regions of one it would take 256 sectors, and of those
-- of four it takes 64 of the journal's 88.
log2_region-raised : (bitmap_fields (record journal_format.superblock { provided = 0x100000; log2_region = 0 })).log2_region ≡ 2
unfolding fitting_log2_region bitmap_sectors_for regions_for entry_size entries_per_sector section_entries section_sectors tag_run_of
log2_region-raised = refl

-- Sector 0 is as on the disk with a bitmap,
with_head-fresh : with_head (bitmap_fields format.fields) (fresh_journal 0) ≡ fresh_bitmap 0
unfolding superblock_bytes fitting_log2_region bitmap_sectors_for regions_for entry_size entries_per_sector section_entries section_sectors tag_run_of
with_head-fresh = refl

-- also once all is written and synced,
with_bitmap-head : with_bitmap format content 0 ≡ fresh_bitmap 0 ∷ []
unfolding superblock_bytes fitting_log2_region bitmap_sectors_for regions_for entry_size entries_per_sector section_entries section_sectors tag_run_of
with_bitmap-head = refl

-- and so are the bitmap's sectors, and the first one behind them, which ends in its commit id.
with_bitmap-first : with_bitmap format content 8 ≡ fresh_bitmap 8 ∷ []
unfolding superblock_bytes fitting_log2_region bitmap_sectors_for regions_for entry_size entries_per_sector section_entries section_sectors tag_run_of
with_bitmap-first = refl

with_bitmap-last : with_bitmap format content 15 ≡ fresh_bitmap 15 ∷ []
unfolding superblock_bytes fitting_log2_region bitmap_sectors_for regions_for entry_size entries_per_sector section_entries section_sectors tag_run_of
with_bitmap-last = refl

with_bitmap-behind : with_bitmap format content 16 ≡ fresh_bitmap 16 ∷ []
unfolding superblock_bytes fitting_log2_region bitmap_sectors_for regions_for entry_size entries_per_sector section_entries section_sectors tag_run_of
with_bitmap-behind = refl

-- ---- the premises are met

IsDirectFormat-fresh : IsDirectFormat 112 format
IsDirectFormat-fresh =
    let told = opens_tells journal_format fresh_journal OpensAs-journal in
    record {
      accepted = record {
        fields = subst IsAccepted OpensAs-journal.superblock (IsReadable-accepted 112 fresh_journal OpensAs-journal.openable.readable);
        told = told.has_geometry;
        geometry = told.is_geometry;
      };
      no_bitmap = refl;
    }

-- So a device in bitmap mode may be opened on what the change leaves of the disk.
pub IsBitmapOf-fresh : (others : ℕ → List ℕ) → ArePlacedTags (disk_format None 112 (bitmap_format format)) others (with_bitmap format content)
    → IsBitmapOf journal_format (disk_format None 112 (bitmap_format format)) fresh_journal (bitmap_change journal_format fresh 0) others (with_bitmap format content)
IsBitmapOf-fresh others placed =
    becomes_bitmap 112 format IsDirectFormat-fresh (marks_format 112 format IsDirectFormat-fresh.accepted IsEntry-fresh.fits) content (λ sector. newest_only-last content sector)
    (HasWholeSectors-journal 0 (omega arith)) None fresh_journal fresh 0 tags others IsEntry-fresh IsEmptiedOf-fresh placed

-- ---- from a bitmap to a journal

abbrev marked : ImageFormat
marked = record { fields = with_a_bitmap.superblock; geometry = with_a_bitmap.geometry }

-- An empty journal of the number 0.
abbrev empty : List ℕ
empty = bytes_at fresh_journal 8 88

-- The format is that of the disk with a journal,
with_a_journal-fresh : with_a_journal marked ≡ format
unfolding fitting_log2_region bitmap_sectors_for regions_for entry_size entries_per_sector section_entries section_sectors tag_run_of
with_a_journal-fresh = refl

-- sector 0 is as on it,
with_head-journal : with_head (journal_fields marked.fields) (fresh_bitmap 0) ≡ fresh_journal 0
unfolding superblock_bytes fitting_log2_region bitmap_sectors_for regions_for entry_size entries_per_sector section_entries section_sectors tag_run_of
with_head-journal = refl

-- also once all is written and synced,
with_journal-head : with_journal marked empty bitmap_content 0 ≡ fresh_journal 0 ∷ []
unfolding superblock_bytes fitting_log2_region bitmap_sectors_for regions_for entry_size entries_per_sector section_entries section_sectors tag_run_of
with_journal-head = refl

-- and so are the sectors where the bitmap was, and those behind them up to the journal's last.
with_journal-first : with_journal marked empty bitmap_content 8 ≡ fresh_journal 8 ∷ []
unfolding superblock_bytes fitting_log2_region bitmap_sectors_for regions_for entry_size entries_per_sector section_entries section_sectors tag_run_of
with_journal-first = refl

with_journal-last_blank : with_journal marked empty bitmap_content 15 ≡ fresh_journal 15 ∷ []
unfolding superblock_bytes fitting_log2_region bitmap_sectors_for regions_for entry_size entries_per_sector section_entries section_sectors tag_run_of
with_journal-last_blank = refl

with_journal-behind : with_journal marked empty bitmap_content 16 ≡ fresh_journal 16 ∷ []
unfolding superblock_bytes fitting_log2_region bitmap_sectors_for regions_for entry_size entries_per_sector section_entries section_sectors tag_run_of
with_journal-behind = refl

with_journal-last : with_journal marked empty bitmap_content 95 ≡ fresh_journal 95 ∷ []
unfolding superblock_bytes fitting_log2_region bitmap_sectors_for regions_for entry_size entries_per_sector section_entries section_sectors tag_run_of
with_journal-last = refl

-- ---- the premises are met

IsBitmapFormat-fresh : IsBitmapFormat 112 marked
IsBitmapFormat-fresh =
    let told = opens_tells with_a_bitmap fresh_bitmap OpensAs-bitmap in
    record {
      accepted = record {
        fields = subst IsAccepted OpensAs-bitmap.superblock (IsReadable-accepted 112 fresh_bitmap OpensAs-bitmap.openable.readable);
        told = told.has_geometry;
        geometry = told.is_geometry;
      };
      bitmap = refl;
    }

-- So a device in journal mode may be opened on what the change leaves of the disk, whose empty sections are written.
pub IsJournalOf-fresh : (bytes : List ℕ) → AreEmptySections with_a_bitmap.geometry 0 bytes → (others : ℕ → List ℕ)
    → ArePlacedTags (disk_format None 112 (with_a_journal marked)) others (with_journal marked bytes bitmap_content)
    → IsJournalOf with_a_bitmap (disk_format None 112 (with_a_journal marked)) fresh_bitmap (journal_change with_a_bitmap bitmap_disk (empty_image with_a_bitmap.geometry bytes)) others
    (with_journal marked bytes bitmap_content)
IsJournalOf-fresh bytes are others placed =
    becomes_journal 112 marked IsBitmapFormat-fresh (unmarked_format 112 marked IsEntry-bitmap.fits IsBitmapFormat-fresh) bytes bitmap_content (λ sector. newest_only-last bitmap_content sector)
    (HasWholeSectors-bitmap 0 (omega arith)) None are fresh_bitmap bitmap_disk bitmap_tags others IsEntry-bitmap IsRecalculatedOf-fresh placed
