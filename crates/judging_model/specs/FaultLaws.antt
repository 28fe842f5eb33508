-- Which images have a fault.
use Rattle.std.specs.Prelude.{◌≡◌, ◌↔◌, ℕ, Bool, false, if◌then◌else◌, None, Option, List}
use Rattle.disk_model.specs.Disk.{Image}
use Rattle.image_model.specs.declared.flags.TheConstants.{DIRTY_BITMAP}
use Rattle.image_model.specs.Bitmap.{some_await}
use Rattle.image_model.specs.Openable.{IsOpenable}
use Rattle.image_model.specs.Superblock.{has_flag}
use Rattle.place_model.specs.Format.{DiskFormat, format_on}
use Rattle.judging_model.specs.declared.consent.Consent.{Consent}
use Rattle.judging_model.specs.Faults.{fault_of, has_dirty_region, lacks_consent}

-- Some block awaits its tag where an image in this format is opened: with a bitmap by its bits, and without one by its
-- fields.
abbrev pub some_await_on : DiskFormat → Image → Bool
some_await_on d image =
    if has_flag DIRTY_BITMAP d.superblock.flags then has_dirty_region d.geometry image else some_await d.superblock

-- An image has no fault exactly where it can be opened, and consent is not lacking.
abbrev pub OpensLaw : Type 0
OpensLaw = (key : Option (List ℕ)) (consent : Consent) (sectors : ℕ) (image : Image)
    → (fault_of key consent sectors image ≡ None) ↔ (IsOpenable key sectors image
    × (lacks_consent key consent (some_await_on (format_on key sectors image) image) ≡ false))
