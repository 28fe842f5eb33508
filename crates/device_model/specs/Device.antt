-- What a device is to a command: which images it opens, in which state, and what a cut may leave of it.
-- Own: the same words for every mode.
use Rattle.std.specs.Prelude.{ℕ, List, take}
use Rattle.disk_model.specs.Disk.{Content, EachImage, Image}
use Rattle.device_model.specs.History.{Change, History, with_changes}
use Rattle.device_model.specs.Mode.{DeviceFormat}
use Rattle.device_model.specs.Progress.{DeviceState}

-- A way to open images: those that can be opened; the format of the device that is on one, with its blocks, and its state
-- once it is opened, with its cells; and the images that a cut may leave of it by its history.
pub record DeviceKind : Type 1 where
  pub CanOpen : Image → Type 0
  pub format : Image → DeviceFormat
  pub opened : Image → DeviceState
  pub MayBeLeft : Image → History → Image → Type 0

-- Some of the first changes are made at a moment: each image can be opened, and may be left by that history.
pub record IsLeftWithin (kind : DeviceKind) (entry : Image) (h : History) (changes : List Change) (c : Content)
    : Type 0 where
  pub made : ℕ
  pub opens : EachImage kind.CanOpen c
  pub left : EachImage (kind.MayBeLeft entry (with_changes (take made changes) h)) c
