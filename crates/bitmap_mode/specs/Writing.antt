-- A block that is written: the bit of its region first, then its bytes and its tag.
use Rattle.std.specs.Prelude.{◌≡◌, ◌⊎◌, ℕ, Bool, true, false, List}
use Rattle.disk_model.specs.Disk.{Content}
use Rattle.image_model.specs.Geometry.{Geometry, region_of}
use Rattle.device_model.specs.History.{BlockWrite}
use Rattle.device_model.specs.Regions.{with_region}
use Rattle.place_model.specs.Format.{tagger_of}
use Rattle.bitmap_model.specs.BitmapDisk.{BitmapDisk}
use Rattle.bitmap_model.specs.Steps.{with_write}
use Rattle.bitmap_laws.specs.CallLaws.{IsBitmapSector, KeepsNow, StandsThrough}
use Rattle.bitmap_laws.specs.Device.{with_block}
use Rattle.bitmap_laws.specs.EventLaws.{after_block}
use Rattle.bitmap_laws.specs.ServeLaws.{MakesDirty}
use Rattle.direct_mode.specs.Cells.{IsOfBlockOrTags, block_write}
use Rattle.dirty_bitmap.specs.Bits.{RegionBits, bits_of}
use Rattle.tag_store.specs.Store.{Store, given_tags}
use Rattle.bitmap_mode.specs.States.{States}
use Rattle.bitmap_mode.specs.Standing.{MayTurnInto, StandsAs, TurnsInto}

-- The disk stands so, and the tag is that of the bytes that are written.
pub record TakesWrite (d : BitmapDisk) (marked : ℕ → Bool) (write : BlockWrite) (tag : List ℕ) (s : States)
    (store : Store) (moments : List Content) : Type 0 where
  pub stands : StandsAs d marked s store moments
  pub tag_ : tag ≡ tagger_of d.format write.block write.bytes

-- The disk turns into the one with the block, and stands so at the end, flushed where that is asked.
pub record HasWritten (d : BitmapDisk) (marked : ℕ → Bool) (write : BlockWrite) (is_flushed : Bool) (s : States)
    (store : Store) (before after : List Content) : Type 0 where
  pub through : TurnsInto d (with_block d write) marked before after
  pub stands : StandsAs (after_block is_flushed write d) marked s store after

-- So does each disk over which the block is written,
abbrev pub WritesBlock : (block : ℕ) → (bytes tag : List ℕ) → (is_flushed : Bool) → (old new : States)
    → (store last : Store) → (before after : List Content) → Type 0
WritesBlock block bytes tag is_flushed old new store last before after =
    (d : BitmapDisk) (ticket : ℕ) (marked : ℕ → Bool) → let write = block_write ticket block bytes in
    TakesWrite d marked write tag old store before → HasWritten d marked write is_flushed new last before after

-- and where that fails, it may have.
abbrev pub MayWriteBlock : (block : ℕ) → (bytes tag : List ℕ) → States → Store → (before after : List Content)
    → Type 0
MayWriteBlock block bytes tag s store before after =
    (d : BitmapDisk) (ticket : ℕ) (marked : ℕ → Bool) → let write = block_write ticket block bytes in
    TakesWrite d marked write tag s store before → MayTurnInto d (with_block d write) marked before after

-- ---- the calls below

-- The bit is set and synced, or nothing written where it was set; the store gives the same tags.
abbrev pub SetsBit : RegionBits → (region : ℕ) → Store → (before after : List Content) → Type 0
SetsBit bits region store before after =
    MakesDirty bits.geometry (bits_of bits) region (given_tags store) (given_tags store) before after

-- The disk has the region's bit, and the tag is that of the bytes that are written.
pub record TakesCell (d : BitmapDisk) (marked : ℕ → Bool) (write : BlockWrite) (tag : List ℕ) (store : Store)
    (moments : List Content) : Type 0 where
  pub geometry : d.geometry ≡ store.geometry
  pub set : d.bits (region_of d.geometry write.block) ≡ true
  pub tag_ : tag ≡ tagger_of d.format write.block write.bytes
  pub now : KeepsNow d marked (given_tags store) moments

-- Bytes and tag are written to each disk that has it,
abbrev pub WritesCell : (block : ℕ) → (bytes tag : List ℕ) → (store last : Store)
    → (before after : List Content) → Type 0
WritesCell block bytes tag store last before after =
    (d : BitmapDisk) (ticket : ℕ) (marked : ℕ → Bool) → let write = block_write ticket block bytes in
    TakesCell d marked write tag store before → KeepsNow (with_write d write) marked (given_tags last) after

-- which stands for the one with the block, also where that fails.
abbrev pub WritesInCell : (block : ℕ) → (bytes tag : List ℕ) → Store → (before after : List Content) → Type 0
WritesInCell block bytes tag store before after =
    (d : BitmapDisk) (ticket : ℕ) (marked : ℕ → Bool) → let write = block_write ticket block bytes in
    TakesCell d marked write tag store before → StandsThrough (with_write d write) marked before after

-- ---- what may be written

-- The bytes may be written to the sector to set the bit of a region: that is clear, and they are a sector of the bitmap
-- with it.
pub record IsOfBit (g : Geometry) (bits : ℕ → Bool) (region sector : ℕ) (x : List ℕ) : Type 0 where
  pub clear : bits region ≡ false
  pub sector_ : IsBitmapSector g (with_region region true bits) sector x

-- They may be written while a block is: such a sector with the bit of its region, or the block's own bytes there, or
-- the sector is one of tags.
abbrev pub IsOfMarkedBlock : States → (block : ℕ) → List ℕ → ℕ → List ℕ → Type 0
IsOfMarkedBlock s block bytes sector x =
    IsOfBit s.geometry (bits_of s.bits) (region_of s.geometry block) sector x
    ⊎ IsOfBlockOrTags s.geometry block bytes sector x
