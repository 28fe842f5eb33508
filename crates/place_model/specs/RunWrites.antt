-- Which sectors a run of events writes.
use Rattle.std.specs.Prelude.{◌≡◌, ◌⊎◌, ℕ, ◌+◌, ◌<◌, ◌≤◌, true, List}
use Rattle.disk_model.specs.Disk.{Content, Image, OnlyAdds}
use Rattle.disk_model.specs.Moments.{EachSince}
use Rattle.image_model.specs.declared.flags.TheConstants.{RECALCULATING}
use Rattle.image_model.specs.Geometry.{Geometry, bitmap_sectors, initial}
use Rattle.image_model.specs.Superblock.{has_flag}
use Rattle.device_model.specs.History.{Change, IsWrittenIn}
use Rattle.device_model.specs.Mode as Model
use Rattle.place_model.specs.Places.{IsOfPlaces}
use Rattle.place_model.specs.Awaiting.{fields_of}

-- The sector is one of the journal's: behind those of the superblock, and before those of tags.
pub record IsInJournal (g : Geometry) (sector : ℕ) : Type 0 where
  pub begins : 8 ≤ sector
  pub ends : sector < initial g

-- The sector is one of the bitmap's, which stands in the journal's place.
pub record IsInBitmap (g : Geometry) (sector : ℕ) : Type 0 where
  pub place : ℕ
  pub inside : place < bitmap_sectors g
  pub is : sector ≡ 8 + place

-- It is sector 0, and the image that was opened says that tags are to be recalculated.
pub record IsMovedHead (entry : Image) (sector : ℕ) : Type 0 where
  pub is : sector ≡ 0
  pub flag : has_flag RECALCULATING (fields_of entry).flags ≡ true

-- Any block may be written.
abbrev pub IsAnyBlock : ℕ → Type 0
IsAnyBlock block = Unit {0}

-- Bytes may be written to the sector: in direct mode it is one of tags, or of the data of a block that the changes
-- write; in bitmap mode one of these or of the bitmap; in journal mode one of the journal, of tags, or of the data of a
-- block, since entries of earlier writes come to their places. In direct and in journal mode it may be sector 0, where
-- the image that was opened says that tags are to be recalculated.
abbrev pub IsOfRun : Model.Mode → Geometry → (entry : Image) → List Change → (sector : ℕ) → List ℕ → Type 0
IsOfRun Model.Journal g entry changes sector x =
    IsMovedHead entry sector ⊎ (IsInJournal g sector ⊎ IsOfPlaces g IsAnyBlock sector x)
IsOfRun Model.Direct g entry changes sector x = IsMovedHead entry sector ⊎ IsOfPlaces g (IsWrittenIn changes) sector x
IsOfRun Model.Bitmap g entry changes sector x = IsInBitmap g sector ⊎ IsOfPlaces g (IsWrittenIn changes) sector x
IsOfRun Model.Recovery g entry changes sector x = IsOfPlaces g (IsWrittenIn changes) sector x

-- Between two moments nothing else was written.
abbrev pub WritesOnly : Model.Mode → Geometry → (entry : Image) → List Change → (before after : List Content) → Type 0
WritesOnly mode g entry changes before after = EachSince (OnlyAdds (IsOfRun mode g entry changes)) before after
