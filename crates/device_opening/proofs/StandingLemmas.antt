-- Which device is open: where the image was of the mode the one on it, and else the one behind the change.
use Rattle.std.proofs.Common.{◌≡◌, ℕ, true, false, sym, ◌∙◌, ap, Option, List}
use Rattle.disk_model.specs.Disk.{Image}
use Rattle.device_model.specs.Mode.{Mode}
use Rattle.device_model.specs.Progress.{DeviceState}
use Rattle.place_model.specs.Changed.{changed_device, changed_format, changes_mode, judged_image, opened_in}
use Rattle.place_model.specs.Format.{DiskFormat, format_on}
use Rattle.place_model.specs.Opened.{blocks_of, device_format, opened_on}
use Rattle.place_model.proofs.KindLemmas.{judged_image-changed, judged_image-same, opened_format-changed, opened_format-same, opened_in-changed, opened_in-same}
use Rattle.device_parts.specs.Device.{IsOfSameBlocks, Standing, opened_standing}

-- A device in a mode, on a disk of this format.
abbrev pub standing_at : Mode → DiskFormat → DeviceState → Image → Standing
standing_at mode on state entry = record { format = device_format mode on; state = state; on = on; entry = entry }

module _ (mode : Mode) (key : Option (List ℕ)) (sectors : ℕ) (entry made : Image) where
  abbrev d : DiskFormat
  d = format_on key sectors entry

  -- Where the image is of the mode the device is the one on it,
  module _ (is : changes_mode mode (format_on key sectors entry).superblock ≡ false) where
    pub standing_same : opened_standing mode key sectors entry made ≡ standing_at mode (format_on key sectors entry) (opened_on mode (format_on key sectors entry) entry) entry
    standing_same =
        ap (λ (x : DiskFormat). standing_at mode x (opened_in mode d entry) (judged_image mode d entry made)) (opened_format-same mode d is)
        ∙ ap (λ (s : DeviceState). standing_at mode d s (judged_image mode d entry made)) (opened_in-same mode d is entry)
        ∙ ap (λ (x : Image). standing_at mode d (opened_on mode d entry) x) (judged_image-same mode d is entry made)

    pub same_blocks : IsOfSameBlocks mode key sectors entry made
    same_blocks =
        let entry_is = judged_image-same mode d is entry made in
        record {
          blocks = ap (λ (x : Image). blocks_of (format_on key sectors x)) entry_is;
          format = ap (λ (x : Image). format_on key sectors x) entry_is ∙ sym (opened_format-same mode d is);
        }

  -- and where it is not it is the one behind the change.
  module _ (is : changes_mode mode (format_on key sectors entry).superblock ≡ true) where
    pub standing_changed : opened_standing mode key sectors entry made ≡ standing_at mode (changed_format mode (format_on key sectors entry)) (changed_device (format_on key sectors entry) entry) made
    standing_changed =
        ap (λ (x : DiskFormat). standing_at mode x (opened_in mode d entry) (judged_image mode d entry made)) (opened_format-changed mode d is)
        ∙ ap (λ (s : DeviceState). standing_at mode (changed_format mode d) s (judged_image mode d entry made)) (opened_in-changed mode d is entry)
        ∙ ap (λ (x : Image). standing_at mode (changed_format mode d) (changed_device d entry) x) (judged_image-changed mode d is entry made)

    pub changed_blocks : blocks_of (format_on key sectors made) ≡ blocks_of (format_on key sectors entry) → format_on key sectors made ≡ changed_format mode (format_on key sectors entry)
        → IsOfSameBlocks mode key sectors entry made
    changed_blocks same format =
        let made_is = judged_image-changed mode d is entry made in
        record {
          blocks = ap (λ (x : Image). blocks_of (format_on key sectors x)) made_is ∙ same;
          format = ap (λ (x : Image). format_on key sectors x) made_is ∙ format ∙ sym (opened_format-changed mode d is);
        }
