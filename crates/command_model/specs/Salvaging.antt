-- What `salvage` prints, or why an image is refused by it.
use Rattle.std.specs.Prelude.{ℕ, List, Option, Some, None}
use Rattle.disk_model.specs.Disk.{Image}
use Rattle.device_model.specs.Refusals.{ImageFault}
use Rattle.run_model.specs.Ending.{Refused, ByImage}
use Rattle.place_model.specs.Format.{DiskFormat, format_on}
use Rattle.place_model.specs.Refusals.{read_fault_of}
use Rattle.salvage_model.specs.Salvaging.{has_bad, salvage_texts}
use Rattle.run_model.specs.CommandRun.{Outset, RefusedBy, Prints}

-- ---- what it starts on

-- By why the image is refused, if it is: its lines are printed, or it is refused.
abbrev pub outset_by_salvage : DiskFormat → Image → Option ImageFault → Outset
outset_by_salvage d image None = Prints (salvage_texts d image) (has_bad d image)
outset_by_salvage d image (Some fault) = RefusedBy (Refused (ByImage fault))

-- What a salvage starts on, on a disk of so many sectors with this image, under a key.
abbrev pub salvage_outset : (key : Option (List ℕ)) → (sectors : ℕ) → Image → Outset
salvage_outset key sectors image =
    outset_by_salvage (format_on key sectors image) image (read_fault_of sectors image)
