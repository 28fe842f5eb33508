-- The device behind the lines of a script or the requests of a stream, and what its close leaves.
use Rattle.std.specs.Prelude.{◌≡◌, ℕ, ◌<◌, nat_le, Bool, false, ◌&&◌, List, [], ◌∷◌, Option, Some, None, Ok}
use Rattle.std.specs.List.{AllZip}
use Rattle.disk_model.specs.Disk.{Content, EachImage, Image, last_image}
use Rattle.formatting_model.specs.NewImage.{provided_of}
use Rattle.image_model.specs.Bitmap.{is_dirty, region_awaits}
use Rattle.image_model.specs.Geometry.{Geometry, regions}
use Rattle.device_model.specs.Device.{DeviceKind}
use Rattle.device_model.specs.Grammar.{ReadLine, IsReadAs, Means, Refused}
use Rattle.device_model.specs.History.{Tagger, cells_now}
use Rattle.device_model.specs.Mode.{DeviceFormat, Mode, Bitmap, Direct, Journal, Recovery}
use Rattle.device_model.specs.Progress.{DeviceState}
use Rattle.device_model.specs.Regions.{least_region}
use Rattle.device_model.specs.Script.{after_script, line_outcome}
use Rattle.device_model.specs.ScriptBytes.{lines_of}
use Rattle.workload_model.specs.Exercise.{exercise_lines}
use Rattle.nbd_model.specs.Session.{Deed, IsSessionOf, ending_in, opened_session, take_pieces}
use Rattle.place_model.specs.Awaiting.{HasNoBitmap, fields_of}
use Rattle.place_model.specs.Format.{DiskFormat, OpensAs, format_on, placed_on}
use Rattle.place_model.specs.Kind.{kind_in}
use Rattle.command_model.specs.Exercising.{exercise_image, exercising_of}

-- The state of a device behind some lines of a script, where none of them is refused.
abbrev pub state_behind : DeviceFormat → DeviceState → List ReadLine → DeviceState
state_behind f s [] = s
state_behind f s (Refused fault ∷ lines) = s
state_behind f s (Means line ∷ lines) = state_behind f (line_outcome f s line).after lines

-- Each image has in the place of each block the cell that the history gives it, by the image's own fields, so that who
-- reads it without a replay reads the latest write.
abbrev pub HasAllPlaced : DiskFormat → Tagger → DeviceState → Content → Type 0
HasAllPlaced d tag s c = EachImage (λ image. (b : ℕ) → b < d.geometry.blocks
    → placed_on (format_on d.key d.sectors image) image b ≡ cells_now tag s.history b) c

-- Each image has those bits set that are set in this state, and whose regions await in it.
abbrev pub HasBitsOf : Geometry → DeviceState → Content → Type 0
HasBitsOf g s c = let counts = s.progress.regions in
    EachImage (λ image. (region : ℕ) → region < regions g
    → is_dirty g image region ≡ (counts.set_bits region && counts.awaiting region)) c

-- So it is, and each image can be opened in this format: its superblock has the same fields, the flag of a bitmap among
-- them.
pub record HasBitmapOf (d : DiskFormat) (s : DeviceState) (c : Content) : Type 0 where
  pub opens : EachImage (OpensAs d) c
  pub bits : HasBitsOf d.geometry s c

-- The region is the least one, or one behind it.
abbrev pub is_from : Option ℕ → (region : ℕ) → Bool
is_from None region = false
is_from (Some least) region = nat_le least region

-- By the position of each image the least region that awaits in this state awaits, and all behind it, and no other; so
-- where none does, none awaits at the next opening.
abbrev pub HasPositionOf : Geometry → DeviceState → Content → Type 0
HasPositionOf g s c = EachImage (λ image. (region : ℕ) → region < regions g
    → region_awaits (fields_of image) g image region
    ≡ is_from (least_region (regions g) s.progress.regions.awaiting) region) c

-- How a close in a mode leaves the images of a device that is in this state. In direct mode it moves the position, and
-- else leaves no more than a flush does; in journal and in direct mode no image has the flag of a bitmap; in recovery
-- mode it leaves the disk.
abbrev pub IsClosedIn : Mode → DiskFormat → Tagger → DeviceState → Content → Type 0
IsClosedIn Journal d tag s c = HasAllPlaced d tag s c × HasPositionOf d.geometry s c × HasNoBitmap c
IsClosedIn Bitmap d tag s c = HasBitmapOf d s c
IsClosedIn Direct d tag s c = HasPositionOf d.geometry s c × HasNoBitmap c
IsClosedIn Recovery d tag s c = Unit {0}

-- So is each image left by the close of the device of this kind that opened an image, and left it in this format,
-- behind the lines of a script.
pub record IsClosedBehind (kind : DeviceKind) (image : Image) (d : DiskFormat) (script : List ℕ) (c : Content)
    : Type 0 where
  pub lines : List ReadLine
  pub read : AllZip IsReadAs (lines_of script) lines
  pub closed : IsClosedIn (kind.format image).mode d (kind.format image).blocks.tag
      (state_behind (kind.format image) (kind.opened image) lines) c

-- The state of a device behind all that a session does on it over these pieces of a stream.
abbrev pub state_served : DeviceFormat → DeviceState → (pieces : List (List ℕ)) → DeviceState
state_served f s pieces = (take_pieces f (opened_session s) (ending_in [] 0 pieces)).behind.state

-- So is each image left by the close of such a device behind the requests of a stream.
pub record IsClosedServed (kind : DeviceKind) (image : Image) (d : DiskFormat) (stream : List ℕ) (c : Content)
    : Type 0 where
  pub deeds : List Deed
  pub is_session : IsSessionOf (kind.format image) (kind.opened image) stream deeds
  pub closed : IsClosedIn (kind.format image).mode d (kind.format image).blocks.tag
      (state_served (kind.format image) (kind.opened image) is_session.pieces) c

-- So is it left by the close of the device that opened an image which was made, behind all requests of an exercise.
abbrev pub IsClosedOn : (sectors count seed : ℕ) → (made c : Content) → Type 0
IsClosedOn sectors count seed made c =
    let kind = kind_in Journal None sectors in
    let f = kind.format (last_image made) in
    let after = after_script f (kind.opened (last_image made)) (exercise_lines count seed f.blocks.blocks) in
    IsClosedIn f.mode (format_on None sectors (last_image made)) f.blocks.tag after c

-- The image was made for that.
pub record IsClosedNew (sectors count seed : ℕ) (start c : Content) : Type 0 where
  pub provided : ℕ
  pub is_provided : provided_of exercise_image sectors ≡ Ok provided
  pub made : Content
  pub is_made : (exercising_of sectors provided count seed).IsMade start made
  pub closed : IsClosedOn sectors count seed made c
