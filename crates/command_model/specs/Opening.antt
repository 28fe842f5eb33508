-- What the run of a script on an image writes and leaves at each moment, from its opening on, and what it reads.
use Rattle.std.specs.Prelude.{◌≡◌, ◌⊎◌, ℕ, ◌<◌, Bool, true, false, if◌then◌else◌, List, Option}
use Rattle.disk_model.specs.Disk.{Content, EachImage, Image, OnlyAdds, last_image}
use Rattle.device_model.specs.Device.{DeviceKind}
use Rattle.device_model.specs.Mode.{Mode, Bitmap, Direct, Recovery}
use Rattle.image_model.specs.Cells.{Cell, placed_cells_of}
use Rattle.image_model.specs.Geometry.{Geometry}
use Rattle.image_model.specs.declared.flags.TheConstants.{RECALCULATING}
use Rattle.image_model.specs.Superblock.{Superblock, has_flag}
use Rattle.place_model.specs.Awaiting.{fields_of}
use Rattle.place_model.specs.Changed.{bitmap_fields, changes_mode}
use Rattle.place_model.specs.KeptTags.{AreOfOthers, KeepsTagsOf}
use Rattle.place_model.specs.RunWrites.{IsOfRun}
use Rattle.change_model.specs.OpeningWrites.{IsOfBitmapOpening, IsOfDirectOpening, IsOfJournalOpening}
use Rattle.run_model.specs.CommandRun.{Exercising, Outset, RefusedBy, RunsOn, Prints, Makes, Exercises, ReadsOn, Changes, Serves, IsRunAt, IsUntouched, MayStandAt}
use Rattle.run_model.specs.ScriptRun.{ScriptRun, changes_in}
use Rattle.command_model.specs.Running.{HasReadTo}
use Rattle.command_model.specs.Serving.{HasReadStream}

-- The content comes by an opening in this mode: what was pending is settled, and behind that nothing is written of an
-- image with a journal but its entries in their places, sectors of tags, and empty sections of the journal; in direct
-- mode sectors of tags alone where the journal was empty. Nothing is of one with a bitmap in bitmap mode. Where a
-- bitmap is made of a journal, zeros in the bitmap's place are written too, and the first sector with the new fields.
-- Where a journal is made of a bitmap, these two are, sectors of tags, and those of the journal, which is empty. In
-- recovery mode it is as it was.
abbrev pub IsOfOpeningIn : Mode → Geometry → (start opened : Content) → Type 0
IsOfOpeningIn Direct g start opened = IsOfDirectOpening (fields_of (last_image start)) g start opened
IsOfOpeningIn Bitmap g start opened = IsOfBitmapOpening (fields_of (last_image start)) g start opened
IsOfOpeningIn Recovery g start opened = opened ≡ start
IsOfOpeningIn mode g start opened = IsOfJournalOpening (fields_of (last_image start)) g start opened

-- It does, or all is as it was.
abbrev pub IsOpenedTo : Mode → Geometry → (start opened : Content) → Type 0
IsOpenedTo mode g start opened = (opened ≡ start) ⊎ IsOfOpeningIn mode g start opened

-- A device of this kind changes the mode of the image, as it opens it.
abbrev pub changes_mode_of : DeviceKind → Image → Bool
changes_mode_of kind image = changes_mode (kind.format image).mode (fields_of image)

-- The geometry of a device in this mode: where the opening makes a bitmap, its regions are those that fit.
abbrev pub opened_geometry : Mode → Superblock → Geometry → Geometry
opened_geometry Bitmap s g =
    if changes_mode Bitmap s then record g { log2_region = (bitmap_fields s).log2_region } else g
opened_geometry mode s g = g

-- The same of a device of this kind on an image with this geometry.
abbrev pub geometry_of_device : DeviceKind → Image → Geometry → Geometry
geometry_of_device kind image g = opened_geometry (kind.format image).mode (fields_of image) g

-- In each image the tag of each of these blocks stands in its place as the block's cell has it.
abbrev pub HasTagsBy : (Concerns : ℕ → Type 0) → Geometry → (cells : ℕ → Cell) → Content → Type 0
HasTagsBy Concerns g cells c = EachImage (λ image. (b : ℕ) → b < g.blocks → Concerns b
    → (placed_cells_of g image b).tag ≡ (cells b).tag) c

-- No block of an image awaits its tag, by its fields.
abbrev pub HasAllTags : Content → Type 0
HasAllTags c = EachImage (λ image. has_flag RECALCULATING (fields_of image).flags ≡ false) c

-- Where the mode was changed all tags were made: in bitmap mode each of these blocks' tags stands in its place as the
-- block's cell has it, and in journal and in direct mode no block awaits its tag.
abbrev pub HasMadeTags : Mode → (Concerns : ℕ → Type 0) → Geometry → (cells : ℕ → Cell) → Content → Type 0
HasMadeTags Bitmap Concerns g cells c = HasTagsBy Concerns g cells c
HasMadeTags mode Concerns g cells c = HasAllTags c

-- In bitmap mode the tags stand in their places as in the image that was opened, of each block that the run does not
-- write, where its region's bit was clear in that image. In journal and in direct mode no block awaits its tag, by the
-- fields of an image, that did not by those of the image that was opened. Where the mode was changed all tags were
-- made.
pub record KeepsTagsBehind (kind : DeviceKind) (image : Image) (g : Geometry) (run : ScriptRun) (later : Content)
    : Type 0 where
  pub found : changes_mode_of kind image ≡ false
      → KeepsTagsOf (kind.format image).mode (AreOfOthers (changes_in run.steps)) g image later
  pub made : changes_mode_of kind image ≡ true
      → HasMadeTags (kind.format image).mode (AreOfOthers (changes_in run.steps)) (geometry_of_device kind image g)
      (kind.opened image).history.base later

-- Where an opening changes the mode, the content is the one that it has come to.
abbrev pub IsAmidChange : DeviceKind → Image → (opened later : Content) → Type 0
IsAmidChange kind image opened later = (changes_mode_of kind image ≡ true) × (later ≡ opened)

-- No sector was written, or the mode is being changed; or the tags are kept so. So no region is recalculated but those
-- whose bit was set, none once the mode was changed, and no block but those that the position named.
abbrev pub KeepsClearTags : DeviceKind → Image → Geometry → ScriptRun → (start opened later : Content) → Type 0
KeepsClearTags kind image g run start opened later =
    IsUntouched start later ⊎ (IsAmidChange kind image opened later ⊎ KeepsTagsBehind kind image g run later)

-- What is written up to a moment of a run on a device of this kind, which has opened this image: in its opening what
-- that may write; and then in direct mode sectors of tags, and of the data of blocks that the run writes, in bitmap
-- mode these and sectors of the bitmap, and in journal mode sectors of the journal, of tags, and of the data of
-- blocks; in direct and in journal mode the first sector too, where the flag of tags that are to be recalculated is
-- set in the image that was opened. Neither another sector of the superblock, nor padding, nor a sector behind the
-- data is ever among them.
pub record IsWrittenByRun (kind : DeviceKind) (image : Image) (g : Geometry) (run : ScriptRun)
    (start later : Content) : Type 0 where
  pub opened : Content
  pub opening : IsOpenedTo (kind.format image).mode g start opened
  pub behind : OnlyAdds (IsOfRun (kind.format image).mode (geometry_of_device kind image g) image
      (changes_in run.steps)) opened later
  pub tags : KeepsClearTags kind image g run start opened later

-- The same behind the making of an image that is exercised: what a run on its device writes.
pub record IsWrittenByExercise (e : Exercising) (run : ScriptRun) (start later : Content) : Type 0 where
  pub made : Content
  pub is_made : e.IsMade start made
  pub written : IsWrittenByRun e.kind (last_image made) (e.geometry (last_image made)) run made later

-- What was written, by what the command starts on. What the making of an image may leave tells which sectors it
-- writes.
abbrev pub WritesOnlyBy : Outset → Geometry → ScriptRun → (start later : Content) → Type 0
WritesOnlyBy (RefusedBy ending) g run start later = IsUntouched start later
WritesOnlyBy (RunsOn kind image) g run start later = IsWrittenByRun kind image g run start later
WritesOnlyBy (Prints texts found) g run start later = later ≡ start
WritesOnlyBy (Makes making) g run start later = making.MayBeLeft start later
WritesOnlyBy (Exercises exercising) g run start later =
    exercising.MayBeLeft start later ⊎ IsWrittenByExercise exercising run start later
WritesOnlyBy (ReadsOn kind image) g run start later = later ≡ start
WritesOnlyBy (Changes changing) g run start later = changing.IsWritten start later
WritesOnlyBy (Serves kind image) g run start later = IsWrittenByRun kind image g run start later

-- No other sector was written.
pub record IsOnlyWritten (outset : Outset) (g : Geometry) (start : Content) (script : List ℕ) (later : Content)
    : Type 0 where
  pub run : ScriptRun
  pub is_run : IsRunAt outset script run
  pub only : WritesOnlyBy outset g run start later

-- What stands at a moment of the command: what some of the first changes of its run leave, and no sector written that
-- the run does not write.
pub record IsMomentOf (outset : Outset) (g : Geometry) (start : Content) (script : List ℕ) (later : Content)
    : Type 0 where
  pub left : MayStandAt outset start script later
  pub only : IsOnlyWritten outset g start script later

-- No more of the script is taken than its run has come to, nor is its source asked for more before that.
pub record HasReadOn (outset : Outset) (script : List ℕ) (left held_before held : Option (List ℕ)) (failed : Type 0)
    : Type 0 where
  pub run : ScriptRun
  pub is_run : IsRunAt outset script run
  pub read : HasReadTo run script left held_before held failed

-- The same, or so it is of a stream that is served.
abbrev pub HasReadIn : Outset → (script : List ℕ) → (left held_before held : Option (List ℕ)) → (failed : Type 0) → Type 0
HasReadIn (Serves kind image) stream left held_before held failed =
    HasReadStream kind image stream left held_before held failed
HasReadIn outset script left held_before held failed = HasReadOn outset script left held_before held failed
