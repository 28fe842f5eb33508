-- What a cut may leave of a device: an image that can be opened, or read, whose cells its history allows.
-- Own: what each mode promises.
use Rattle.std.specs.Prelude.{◌≡◌, ℕ, Bool, ◌&&◌, None}
use Rattle.disk_model.specs.Disk.{Image}
use Rattle.image_model.specs.declared.flags.TheConstants.{DIRTY_BITMAP}
use Rattle.image_model.specs.Bitmap.{is_dirty}
use Rattle.image_model.specs.Geometry.{region_of}
use Rattle.image_model.specs.Superblock.{has_flag}
use Rattle.device_model.specs.Cut.{MayBeLeftDirect, MayBeLeftJournal, MayBeLeftBitmap}
use Rattle.device_model.specs.History.{BlockWrite, History, Begun, with_change}
use Rattle.place_model.specs.Format.{DiskFormat, tagger_of, placed_on, cells_on, IsReadAs, OpensAs}

-- The image may be left in direct mode: each block with no write that is not flushed holds what the flushed ones gave it.
pub record IsLeftInDirect (d : DiskFormat) (h : History) (image : Image) : Type 0 where
  pub opens : OpensAs d image
  pub left : MayBeLeftDirect (tagger_of d) d.geometry.blocks h (cells_on d image)

-- The same of the placed cells, whatever the journal says: the image may be left of a device that does not look at it.
pub record IsLeftPlaced (d : DiskFormat) (h : History) (image : Image) : Type 0 where
  pub reads : IsReadAs d image
  pub left : MayBeLeftDirect (tagger_of d) d.geometry.blocks h (placed_on d image)

-- The image may be left in journal mode: its blocks hold what some of the first writes gave them, with every flushed one
-- among them.
pub record IsLeftInJournal (d : DiskFormat) (h : History) (image : Image) : Type 0 where
  pub opens : OpensAs d image
  pub left : MayBeLeftJournal (tagger_of d) d.geometry.blocks h (cells_on d image)

-- The image has a bitmap, in which the bit of the block's region is set.
abbrev pub is_block_dirty : DiskFormat → Image → ℕ → Bool
is_block_dirty d image b =
    has_flag DIRTY_BITMAP d.superblock.flags && is_dirty d.geometry image (region_of d.geometry b)

-- The image may be left in bitmap mode: each sector of a block holds what some of the first writes gave it, and where no
-- bit of the image says else the block holds what all writes gave it.
pub record IsLeftInBitmap (d : DiskFormat) (h : History) (image : Image) : Type 0 where
  pub opens : OpensAs d image
  pub left : MayBeLeftBitmap (tagger_of d) d.geometry.blocks d.geometry.shape.spb
      (is_block_dirty d image) h (cells_on d image)

-- ---- laws

-- What may be left before a write may be left while it is under way, in direct mode,
abbrev pub DirectPendingLaw : Type 0
DirectPendingLaw = (d : DiskFormat) (h : History) (write : BlockWrite) (image : Image) → h.pending ≡ None
    → IsLeftInDirect d h image → IsLeftInDirect d (with_change h (Begun write)) image

-- of the placed cells,
abbrev pub PlacedPendingLaw : Type 0
PlacedPendingLaw = (d : DiskFormat) (h : History) (write : BlockWrite) (image : Image) → h.pending ≡ None
    → IsLeftPlaced d h image → IsLeftPlaced d (with_change h (Begun write)) image

-- in journal mode,
abbrev pub JournalPendingLaw : Type 0
JournalPendingLaw = (d : DiskFormat) (h : History) (write : BlockWrite) (image : Image) → h.pending ≡ None
    → IsLeftInJournal d h image → IsLeftInJournal d (with_change h (Begun write)) image

-- and in bitmap mode.
abbrev pub BitmapPendingLaw : Type 0
BitmapPendingLaw = (d : DiskFormat) (h : History) (write : BlockWrite) (image : Image) → h.pending ≡ None
    → IsLeftInBitmap d h image → IsLeftInBitmap d (with_change h (Begun write)) image
