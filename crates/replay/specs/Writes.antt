-- Which sectors a recovery writes, and with which bytes.
-- Source: Linux, drivers/md/dm-integrity.c, do_journal_write and init_journal.
use Rattle.std.specs.Prelude.{◌≡◌, ◌⊎◌, ℕ, ◌+◌, ◌<◌, true, Ok, List}
use Rattle.std.specs.List.{Contains}
use Rattle.disk_model.specs.Disk.{Content, Image, IsOfRun, OnlyAdds, last_image, newest_only}
use Rattle.disk_model.specs.Moments.{EachSince, HasNow}
use Rattle.image_model.specs.Cells.{replayed_entries}
use Rattle.image_model.specs.Geometry.{Geometry, section_at}
use Rattle.image_model.specs.Grid.{blank_bound, is_zero_sector, walk_of}
use Rattle.image_model.specs.Scan.{SectorCell}
use Rattle.image_model.specs.declared.journal_plan.Plan.{Plan}
use Rattle.image_model.specs.declared.journal_plan.State.TheVariants.{Blank}
use Rattle.buffer_cache.specs.Cached.{HasNoMark}
use Rattle.image_model.specs.EmptySections.{AreEmptySections}
use Rattle.journal_erasure.specs.Filling.{IsOfLacking}
use Rattle.journal_reading.specs.declared.reading.JudgedJournal.{JudgedJournal}
use Rattle.journal_reading.specs.Journal.{journal_image}
use Rattle.tag_store.specs.Store.{Store}
use Rattle.place_model.specs.Tags.{HoldsTag}
use Rattle.place_model.specs.RecoveryWrites.{IsOfPlacing, IsOfRecovery}
use Rattle.replay.specs.Replaying.{entries_on}

-- The bytes are those of an empty sector of this number, in a sector of the journal whose cell does not have it.
pub record IsOfUnnumbered (g : Geometry) (cells : List SectorCell) (number sector : ℕ) (x : List ℕ) : Type 0 where
  pub bytes : List ℕ
  pub empty : AreEmptySections g number bytes
  pub lacking : IsOfLacking g cells number bytes sector x

-- They are those of an empty sector of this number, in place of a blank sector of the image's journal.
pub record IsOfBlankSector (g : Geometry) (number : ℕ) (image : Image) (sector : ℕ) (x : List ℕ) : Type 0 where
  pub inside : sector < 8 + blank_bound g
  pub zeros : is_zero_sector (image sector) ≡ true
  pub bytes : List ℕ
  pub empty : AreEmptySections g number bytes
  pub in_place : IsOfRun (section_at g 0) bytes sector x

-- Each content since the start is the one there with nothing pending: the disk was synced at most.
abbrev pub OnlySyncs : (before after : List Content) → Type 0
OnlySyncs before after = EachSince (λ start c. c ≡ newest_only start) before after

-- So it is where no tag is still to be written and the image at the start is of this kind.
abbrev pub OnlySyncsWhere : (Image → Type 0) → Store → (before after : List Content) → Type 0
OnlySyncsWhere P store before after =
    HasNoMark store.sectors → HasNow (λ start. P (last_image start) → OnlySyncs before after) before

-- ---- since the start of a call

-- Nothing is written but sectors of tags, and in their places the entries of a journal that was judged and read,
abbrev pub AddsRead : Geometry → (bytes : List ℕ) → JudgedJournal → (before after : List Content) → Type 0
AddsRead g bytes journal before after =
    EachSince (OnlyAdds (IsOfPlacing g (Contains (entries_on g (journal_image bytes) journal.plan.walk)))) before after

-- or those of the image at the start,
abbrev pub AddsPlacing : Geometry → (before after : List Content) → Type 0
AddsPlacing g before after =
    EachSince (λ start. OnlyAdds (IsOfPlacing g (Contains (replayed_entries g (last_image start)))) start) before after

-- and with these the empty sections of a journal that is erased or filled.
abbrev pub AddsRecovery : Geometry → (before after : List Content) → Type 0
AddsRecovery g before after =
    EachSince (λ start. OnlyAdds (IsOfRecovery g (replayed_entries g (last_image start))) start) before after

-- Where the journal of the image at the start is blank with a number, nothing is written but sectors of tags, and empty
-- sectors of that number in place of its blank ones.
abbrev pub FillsBlank : Geometry → (start c : Content) → Type 0
FillsBlank g start c = (plan : Plan) (number : ℕ) → walk_of g (last_image start) ≡ Ok plan → plan.state ≡ Blank number
    → OnlyAdds (λ sector x. HoldsTag g sector ⊎ IsOfBlankSector g number (last_image start) sector x) start c

-- So it is of each content since the start of a call.
abbrev pub FillsBlanks : Geometry → (before after : List Content) → Type 0
FillsBlanks g before after = EachSince (FillsBlank g) before after
