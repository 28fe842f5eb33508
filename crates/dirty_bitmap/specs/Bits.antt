-- What a contract sees of a `Bits`, and what a disk holds of it.
-- Own: the bitmap stands in memory whole, so that a sector of it is written without a read.
use Rattle.std.specs.Prelude.{◌≡◌, ℕ, ◌≤◌, Bool, true, List}
use Rattle.std.specs.List.{Contains}
use Rattle.disk_model.specs.Disk.{Content, EachImage, OnlyAdds}
use Rattle.disk_model.specs.Identity.{DiskIdentity}
use Rattle.disk_model.specs.Moments.{EachSince, HasNow}
use Rattle.image_model.specs.Bitmap.{is_bit_set, is_dirty}
use Rattle.image_model.specs.Geometry.{Geometry, bitmap_sectors, journal_sectors, regions}
use Rattle.bitmap_model.specs.BitmapDisk.{HasBits}
use Rattle.bitmap_model.specs.Steps.{ReadsBits}
use Rattle.bitmap_laws.specs.CallLaws.{KeepsElsewhere}
use Rattle.dirty_bitmap.specs.Regions.{Regions}

-- Where the bitmap lies, and its bytes.
pub record RegionBits : Type 0 where
  pub geometry : Geometry
  pub bytes : List ℕ

-- Which regions' bits are set.
abbrev pub bits_of : RegionBits → ℕ → Bool
bits_of b = is_bit_set b.bytes

-- The set is one of the geometry's regions, whose bitmap fits the journal.
pub record IsSetOf (g : Geometry) (s : Regions) : Type 0 where
  pub size : s.size ≡ regions g
  pub fits : bitmap_sectors g ≤ journal_sectors g

-- Reads of the bitmap give these bits, and each candidate has those that are set.
pub record HoldsBits (g : Geometry) (bits : ℕ → Bool) (c : Content) : Type 0 where
  pub reads : ReadsBits g bits c
  pub set : (sector : ℕ) (x : List ℕ) → Contains (c sector) x → HasBits g bits sector x

-- It is so now.
abbrev pub HoldsBitsNow : Geometry → (bits : ℕ → Bool) → List Content → Type 0
HoldsBitsNow g bits moments = HasNow (HoldsBits g bits) moments

-- At each moment of a call one sector alone has been added to.
abbrev pub AddsToSector : ℕ → (before after : List Content) → Type 0
AddsToSector at before after = EachSince (OnlyAdds (λ sector x. sector ≡ at)) before after

-- ---- what a call leaves that writes one bit

-- The bitmap lies in the same place, the disk is the one that it was, and of each sector outside the bitmap reads give
-- what they gave.
pub record StaysButBit (old new : RegionBits) (disk now : DiskIdentity) (before after : List Content) : Type 0 where
  pub geometry : new.geometry ≡ old.geometry
  pub identity : now ≡ disk
  pub elsewhere : KeepsElsewhere old.geometry before after

-- Where each candidate had the bits that were set, each has those that are.
abbrev pub KeepsHolding : (old new : RegionBits) → (before after : List Content) → Type 0
KeepsHolding old new before after = HoldsBitsNow old.geometry (bits_of old) before
    → HoldsBitsNow old.geometry (bits_of new) after

-- Each candidate has the bits that are set, and each image the region's.
pub record HoldsBit (g : Geometry) (bits : ℕ → Bool) (region : ℕ) (moments : List Content) : Type 0 where
  pub all : HoldsBitsNow g bits moments
  pub images : HasNow (EachImage (λ image. is_dirty g image region ≡ true)) moments

-- Where each candidate had the bits that were set, each has those that are, and each image the region's.
abbrev pub KeepsHoldingWith : (region : ℕ) → (old new : RegionBits) → (before after : List Content) → Type 0
KeepsHoldingWith region old new before after = HoldsBitsNow old.geometry (bits_of old) before
    → HoldsBit old.geometry (bits_of new) region after
