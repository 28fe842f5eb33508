-- What an opening writes, by its mode.
use Rattle.std.proofs.Common.{◌≡◌, ℕ, List, Option, Some}
use Rattle.disk_model.specs.Disk.{Content, last_image}
use Rattle.disk_model.specs.Moments.{content_now, EachMoment}
use Rattle.disk_model.proofs.MomentsLemmas.{EachMoment-kept, EachMoment-weaker}
use Rattle.place_model.specs.Format.{format_on}
use Rattle.device_opening.proofs.MomentsLemmas.{each_from}
use Rattle.device.specs.declared.opening.OpenMode.{OpenMode}
use Rattle.device.specs.declared.opening.OpenMode.TheVariants.{Bitmap, Direct, Journal, Recovery}
use Rattle.place_model.specs.Awaiting.{fields_of}
use Rattle.device.specs.Opening.{WritesInOpening, asked_mode}
use Rattle.place_model.specs.KeptTags.{KeepsStill}
use Rattle.command_model.specs.Opening.{IsOfOpeningIn}
use Rattle.command_model.specs.Outset.{geometry_on}
use Rattle.command_task.proofs.JudgedLemmas.{bitmap_opening, direct_opening, journal_opening}

-- An opening in recovery mode leaves the disk as it was.
pub still_opened : (mode : OpenMode) (key : Option (List ℕ)) (sectors : ℕ) (a b : List Content) → WritesInOpening mode key sectors a b
    → KeepsStill (asked_mode mode) a b
still_opened (Direct consent) key sectors a b writes = tt
still_opened (Journal consent) key sectors a b writes = tt
still_opened (Bitmap consent) key sectors a b writes = tt
still_opened Recovery key sectors a b kept = kept

-- What an opening writes, of each content since, of an image whose format has the fields of its first sector.
pub written_in : (mode : OpenMode) (key : Option (List ℕ)) (sectors : ℕ) (start : Content) {a b : List Content}
    → (format_on key sectors (last_image start)).superblock ≡ fields_of (last_image start)
    → content_now a ≡ Some start → WritesInOpening mode key sectors a b
    → EachMoment a b (IsOfOpeningIn (asked_mode mode) (geometry_on sectors (last_image start)) start)
written_in (Direct consent) key sectors start is told writes =
    EachMoment-weaker (direct_opening key sectors start is) (each_from _ start told writes)
written_in (Journal consent) key sectors start is told writes =
    EachMoment-weaker (journal_opening key sectors start is) (each_from _ start told writes)
written_in (Bitmap consent) key sectors start is told writes =
    EachMoment-weaker (bitmap_opening key sectors start is) (each_from _ start told writes)
written_in Recovery key sectors start is told kept = EachMoment-kept _ kept
