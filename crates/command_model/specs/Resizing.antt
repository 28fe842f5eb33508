-- What `resize` starts on.
use Rattle.std.specs.Prelude.{ℕ, List, Option, Some, None}
use Rattle.disk_model.specs.Disk.{Content, Image}
use Rattle.place_model.specs.Format.{format_on}
use Rattle.place_model.specs.RecoveryWrites.{IsOfRecovering}
use Rattle.device_model.specs.Refusals as model
use Rattle.resize_model.specs.Left.{IsLeftByResize, IsResizedTo}
use Rattle.resize_model.specs.Refusals.{resize_fault_of}
use Rattle.resize_model.specs.Resized.{resized_provided, resized_text}
use Rattle.resize_model.specs.Written.{IsWrittenByResize}
use Rattle.run_model.specs.CommandRun.{Changing, Changes, Outset, RefusedBy}
use Rattle.run_model.specs.Ending as runs

-- What the recovery of the image writes before it grows, under a key, on a disk of so many sectors.
abbrev pub Recovers : (key : Option (List ℕ)) → (sectors : ℕ) → Image → (start c : Content) → Type 0
Recovers key sectors image start c = IsOfRecovering (format_on key sectors image).geometry start c

-- The resize of an image on such a disk, whose recovery writes this.
abbrev pub resizing_of : (Recovers : (start c : Content) → Type 0) → (key : Option (List ℕ)) → (sectors : ℕ) → Image
    → Changing
resizing_of Recovers key sectors image =
    let d = format_on key sectors image in
    record {
      text = resized_text d.superblock.provided (resized_provided d.superblock sectors);
      MayBeLeft = IsLeftByResize key sectors;
      IsChanged = IsResizedTo key sectors;
      IsWritten = IsWrittenByResize Recovers d;
    }

-- By why the image is refused, if it is: it is resized, or it is refused.
abbrev pub outset_by_resize : (Recovers : (start c : Content) → Type 0) → (key : Option (List ℕ)) → (sectors : ℕ)
    → Image → Option model.ImageFault → Outset
outset_by_resize Recovers key sectors image None = Changes (resizing_of Recovers key sectors image)
outset_by_resize Recovers key sectors image (Some fault) = RefusedBy (runs.Refused (runs.ByImage fault))

-- What a resize starts on, on such a disk with this image.
abbrev pub resizing_outset : (key : Option (List ℕ)) → (sectors : ℕ) → Image → Outset
resizing_outset key sectors image =
    outset_by_resize (Recovers key sectors image) key sectors image (resize_fault_of key sectors image)
