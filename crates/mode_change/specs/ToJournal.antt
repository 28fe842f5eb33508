-- A change from a bitmap to a journal: the format behind it, what it writes, and what each moment of it keeps.
-- Own: the disk is synced first, then zeros are written in the bitmap's place, then empty sectors behind it, then
-- sector 0, and then empty sectors in the bitmap's place; each is synced.
use Rattle.std.specs.Prelude.{◌≡◌, ℕ, ◌+◌, ◌*◌, List, [], ◌∷◌, Option, drop, take}
use Rattle.disk_model.specs.Disk.{Content, EachImage, Image, OnlyAdds, last_image, newest_only, with_run}
use Rattle.disk_model.specs.Moments.{EachSince, HasNow}
use Rattle.image_model.specs.Geometry.{Geometry, bitmap_sectors}
use Rattle.image_format.specs.declared.reading.ImageFormat.{ImageFormat}
use Rattle.image_format.specs.Format.{disk_format}
use Rattle.place_model.specs.Format.{DiskFormat, HasCells, cells_on}
use Rattle.image_model.specs.EmptySections.{empty_image}
use Rattle.bitmap_model.specs.BitmapDisk.{BitmapDisk}
use Rattle.change_model.specs.Change.{ModeChange}
use Rattle.change_model.specs.Ends.{ArePlacedTags, IsNewJournal, format_after}
use Rattle.change_model.specs.Fields.{KeepsRest, journal_fields, with_head}
use Rattle.change_model.specs.Opened.{IsEntry, IsRecalculatedOf, KeepsEntry, journal_change, rest_of}
use Rattle.change_model.specs.Whole.{IsToJournalMoment}
use Rattle.change_model.specs.OpeningWrites.{IsOfJournalChange}
use Rattle.mode_change.specs.ToBitmap.{with_fields, with_zeros}

-- ---- the format

-- The format behind the change: its fields are those of a journal, and all lies where it did.
abbrev pub journal_format : ImageFormat → ImageFormat
journal_format f = record f { fields = journal_fields f.fields }

-- ---- what is written

-- The bytes from sector `at` on, where there are any.
abbrev pub with_any : (at : ℕ) → List ℕ → Content → Content
with_any at [] c = c
with_any at (x ∷ xs) c = with_run at (x ∷ xs) c

-- Behind the bitmap's place the sectors of an empty journal, whose bytes are these, synced.
abbrev pub with_rest : Geometry → (empty : List ℕ) → Content → Content
with_rest g empty c = newest_only (with_any (8 + bitmap_sectors g) (drop (512 * bitmap_sectors g) empty) c)

-- In the bitmap's place its sectors, synced.
abbrev pub with_filling : Geometry → (empty : List ℕ) → Content → Content
with_filling g empty c = newest_only (with_run 8 (take (512 * bitmap_sectors g) empty) c)

-- All of the change: what was pending is synced, and then the zeros, the sectors behind them, the fields and the
-- sectors in place of the zeros are written.
abbrev pub with_journal : ImageFormat → (empty : List ℕ) → Content → Content
with_journal f empty c = with_filling f.geometry empty (with_fields (journal_fields f.fields)
    (with_rest f.geometry empty (with_zeros (bitmap_sectors f.geometry) (newest_only c))))

-- ---- each moment

-- It is a change of an image in this format to a journal of these bytes, whatever its cells are.
pub record IsJournalChangeOf (f : ImageFormat) (empty : List ℕ) (m : ModeChange) : Type 0 where
  pub geometry : m.disk.geometry ≡ f.geometry
  pub before : m.before ≡ f.fields
  pub empty_is : m.empty ≡ empty_image f.geometry empty

-- The content is that of a moment of each such change, which begins on what is left once what was pending is synced.
abbrev pub IsAmidJournal : ImageFormat → (empty : List ℕ) → (start c : Content) → Type 0
IsAmidJournal f empty start c = (m : ModeChange) → IsJournalChangeOf f empty m
    → IsToJournalMoment m (with_head (journal_fields f.fields) (last_image start 0)) (newest_only start) c

-- Where the content at the start has all tags of the image `entry` that were to be made, each image keeps the blocks
-- and the cells of that image, and what follows the fields in sector 0.
abbrev pub KeepsRecalculated : DiskFormat → (start c : Content) → Type 0
KeepsRecalculated d start c = (entry : Image) (now : BitmapDisk) (tags : ℕ → List ℕ) → IsEntry d entry
    → IsRecalculatedOf d entry now tags start → EachImage (KeepsEntry d entry) c × KeepsRest (rest_of start) c

-- Each moment between the two, on a disk of so many sectors. No sector is written but those of the journal's place and
-- sector 0, in this order; and under any key each image keeps the blocks and the cells of the one at the start.
pub record StepsToJournal (sectors : ℕ) (f : ImageFormat) (empty : List ℕ) (before after : List Content) : Type 0 where
  pub writes : EachSince (λ start. OnlyAdds (IsOfJournalChange f start) start) before after
  pub through : EachSince (IsAmidJournal f empty) before after
  pub keeps : (key : Option (List ℕ)) → EachSince (KeepsRecalculated (disk_format key sectors f)) before after

-- ---- the end

-- In the format `after` a device in journal mode may be opened on the content, with the cells of the image `entry`: the
-- journal is empty, writing begins at its start with the number 1, and no region awaits.
pub record IsJournalOf (d after : DiskFormat) (entry : Image) (m : ModeChange) (others : ℕ → List ℕ) (c : Content)
    : Type 0 where
  pub format : format_after m ≡ after
  pub is_new : IsNewJournal m others c
  pub cells : EachImage (HasCells after (cells_on d entry)) c

-- It is so of an image all of whose tags were made at the start, with the tags that are in place.
abbrev pub BecomesJournal : (d after : DiskFormat) → (empty : List ℕ) → (start last : Content) → Type 0
BecomesJournal d after empty start last = (entry : Image) (now : BitmapDisk) (tags others : ℕ → List ℕ)
    → IsEntry d entry → IsRecalculatedOf d entry now tags start → ArePlacedTags after others last
    → IsJournalOf d after entry (journal_change d now (empty_image d.geometry empty)) others last

-- So the disk became one with a journal of these bytes, under a key.
abbrev pub OpensJournal : Option (List ℕ) → (sectors : ℕ) → ImageFormat → (empty : List ℕ)
    → (before after : List Content) → Type 0
OpensJournal key sectors f empty before after = HasNow (λ start. HasNow (λ last. BecomesJournal
    (disk_format key sectors f) (disk_format key sectors (journal_format f)) empty start last) after) before
