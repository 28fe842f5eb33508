-- What an opening writes, where it may change the mode of an image: in bitmap mode a journal becomes a bitmap of which
-- no bit is set, and in journal mode and in direct mode a bitmap a journal that is empty.
use Rattle.std.specs.Prelude.{◌≡◌, ◌⊎◌, ℕ, true, false, List}
use Rattle.disk_model.specs.Disk.{Content, OnlyAdds, last_image, newest_only}
use Rattle.image_model.specs.declared.flags.TheConstants.{DIRTY_BITMAP}
use Rattle.image_model.specs.Cells.{replayed_entries}
use Rattle.image_model.specs.EmptySections.{AreEmptySections, empty_image}
use Rattle.image_model.specs.Geometry.{Geometry, bitmap_sectors}
use Rattle.image_model.specs.Superblock.{Superblock, has_flag}
use Rattle.image_format.specs.declared.reading.ImageFormat.{ImageFormat}
use Rattle.place_model.specs.Changed.{bitmap_fields, journal_fields}
use Rattle.place_model.specs.EmptyJournal.{KeepsEmpty}
use Rattle.place_model.specs.Journal.{IsOfJournal}
use Rattle.place_model.specs.RecoveryWrites.{IsOfOpening, IsOfRecovery}
use Rattle.place_model.specs.Tags.{HoldsTag}
use Rattle.change_model.specs.Change.{IsOfHead, IsOfZeros}
use Rattle.change_model.specs.Fields.{with_head}

-- ---- a journal that becomes a bitmap

-- The bytes may be written to the sector: what a recovery writes, zeros where the bitmap will be, or sector 0 as it was
-- with the fields of one with a bitmap.
abbrev pub IsOfMaking : Superblock → Geometry → (start : Content) → (sector : ℕ) → List ℕ → Type 0
IsOfMaking s g start sector x =
    IsOfRecovery g (replayed_entries g (last_image start)) sector x
    ⊎ (IsOfZeros g (bitmap_sectors (record g { log2_region = (bitmap_fields s).log2_region })) sector x
    ⊎ IsOfHead (with_head (bitmap_fields s) (last_image start 0)) sector x)

-- The content comes by the making of a bitmap: what was pending is settled, and then nothing else is written.
abbrev pub IsOfMade : Superblock → Geometry → (start c : Content) → Type 0
IsOfMade s g start c = OnlyAdds (IsOfMaking s g start) (newest_only start) c

-- It comes by an opening in bitmap mode of an image with these fields: where that has a bitmap nothing is written, and
-- else one is made.
pub record IsOfBitmapOpening (s : Superblock) (g : Geometry) (start c : Content) : Type 0 where
  pub found : has_flag DIRTY_BITMAP s.flags ≡ true → c ≡ newest_only start
  pub made : has_flag DIRTY_BITMAP s.flags ≡ false → IsOfMade s g start c

-- ---- a bitmap that becomes a journal

-- The bytes are those of a journal that is empty with the number 0, in one of its sectors.
pub record IsOfNewJournal (g : Geometry) (sector : ℕ) (x : List ℕ) : Type 0 where
  pub bytes : List ℕ
  pub empty : AreEmptySections g 0 bytes
  pub on : IsOfJournal g sector
  pub is : x ≡ empty_image g bytes sector

-- The bytes are zeros in the bitmap's place, or those of such a journal, or those of sector 0 as it was, with the new
-- fields.
abbrev pub IsOfJournalChange : ImageFormat → (start : Content) → (sector : ℕ) → List ℕ → Type 0
IsOfJournalChange f start sector x =
    IsOfZeros f.geometry (bitmap_sectors f.geometry) sector x ⊎ (IsOfNewJournal f.geometry sector x
    ⊎ IsOfHead (with_head (journal_fields f.fields) (last_image start 0)) sector x)

-- The bytes may be written to the sector: it is one of tags; or they are what the change from a bitmap to a journal
-- writes, of an image with these fields and places.
abbrev pub IsOfJournalMaking : Superblock → Geometry → (start : Content) → (sector : ℕ) → List ℕ → Type 0
IsOfJournalMaking s g start sector x =
    HoldsTag g sector ⊎ IsOfJournalChange (record { fields = s; geometry = g }) start sector x

-- The content comes by the making of a journal: what was pending is settled, and then nothing else is written.
abbrev pub IsOfMadeJournal : Superblock → Geometry → (start c : Content) → Type 0
IsOfMadeJournal s g start c = OnlyAdds (IsOfJournalMaking s g start) (newest_only start) c

-- It comes by an opening in journal mode of an image with these fields: that is recovered where it has a journal, and
-- else one is made.
pub record IsOfJournalOpening (s : Superblock) (g : Geometry) (start c : Content) : Type 0 where
  pub found : has_flag DIRTY_BITMAP s.flags ≡ false → IsOfOpening g start c
  pub made : has_flag DIRTY_BITMAP s.flags ≡ true → IsOfMadeJournal s g start c

-- It comes by one in direct mode: so it does, and where the image has a journal that is empty, nothing is written but
-- sectors of tags.
pub record IsOfDirectOpening (s : Superblock) (g : Geometry) (start c : Content) : Type 0 where
  pub opening : IsOfJournalOpening s g start c
  pub keeps : has_flag DIRTY_BITMAP s.flags ≡ false → KeepsEmpty g start c
