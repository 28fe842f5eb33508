-- The tags of blocks that a run in journal or in direct mode does not write: each stays, byte for byte, as it is stored.
-- Own: of a block that awaits its tag no stored tag counts, so nothing is said of it.
use Rattle.std.specs.Prelude.{◌≡◌, ◌⊎◌, ℕ, ◌<◌, Bool, false, List, take, Option, None, option_map, unwrap_or}
use Rattle.disk_model.specs.Disk.{Content, EachImage, Image, last_image}
use Rattle.run_model.specs.ScriptRun.{ScriptRun, changes_in}
use Rattle.image_model.specs.Bitmap.{awaits}
use Rattle.image_model.specs.Cells.{counted_entries, last_entry, placed_cells_of}
use Rattle.place_model.specs.Format.{DiskFormat, format_on}
use Rattle.device.specs.declared.opening.OpenMode.{OpenMode}
use Rattle.device.specs.declared.opening.OpenMode.TheVariants as Modes
use Rattle.place_model.specs.KeptTags.{AreOfOthers}
use Rattle.run_model.specs.CommandRun.{IsRunAt, IsUntouched}
use Rattle.command_task.specs.Opening.{IsMomentOn}
use Rattle.command_task.specs.Outset.{run_outset}
use Rattle.command_model.specs.Outset.{geometry_on}

-- The tag that is stored for block b: that of its last entry that counts, and else the one in its place.
abbrev pub tag_stored : DiskFormat → Image → ℕ → List ℕ
tag_stored d image b =
    unwrap_or (option_map (λ entry. entry.tag)
    (last_entry d.geometry (counted_entries d.superblock d.geometry image) b)) (placed_cells_of d.geometry image b).tag

-- So it is by the image's own first sector, on a disk of so many sectors. The key is for the tags that are made.
abbrev pub stored_tag : (sectors : ℕ) → Image → ℕ → List ℕ
stored_tag sectors image b = tag_stored (format_on None sectors image) image b

-- By that sector, and the bitmap where there is one, the block awaits its tag.
abbrev pub awaits_tag : (sectors : ℕ) → Image → ℕ → Bool
awaits_tag sectors image b =
    awaits (format_on None sectors image).superblock (geometry_on sectors image) image b

-- Each of these blocks that awaits its tag in neither of two images has the same tag stored in both.
pub record HasStoredTags (Concerns : ℕ → Type 0) (sectors : ℕ) (entry image : Image) : Type 0 where
  pub each : (b : ℕ) → b < (geometry_on sectors entry).blocks → Concerns b
      → awaits_tag sectors entry b ≡ false → awaits_tag sectors image b ≡ false
      → stored_tag sectors image b ≡ stored_tag sectors entry b

-- At a moment no sector was written; or in each image these tags are those of the image that was opened, of all blocks
-- but those that the run's first changes write.
pub record KeepsStoredTags (mode : OpenMode) (key : Option (List ℕ)) (sectors : ℕ) (start : Content) (script : List ℕ)
    (later : Content) : Type 0 where
  pub run : ScriptRun
  pub is_run : IsRunAt (run_outset mode key sectors (last_image start)) script run
  pub made : ℕ
  pub kept : IsUntouched start later
      ⊎ EachImage (HasStoredTags (AreOfOthers (take made (changes_in run.steps))) sectors (last_image start)) later

-- In these modes an image has a journal, and no bitmap.
abbrev pub HasJournal : OpenMode → Type 0
HasJournal (Modes.Direct consent) = Unit {0}
HasJournal (Modes.Journal consent) = Unit {0}
HasJournal (Modes.Bitmap consent) = ⊥
HasJournal Modes.Recovery = ⊥

-- ---- laws

-- It is so at each moment of a run in one of them, also where its opening has made the journal of a bitmap.
abbrev pub StoredTagsLaw : Type 0
StoredTagsLaw = (mode : OpenMode) (key : Option (List ℕ)) (sectors : ℕ) (start : Content) (script : List ℕ)
    (later : Content) → HasJournal mode → IsMomentOn mode key sectors start script later
    → KeepsStoredTags mode key sectors start script later
