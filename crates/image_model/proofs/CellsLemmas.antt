-- What the cell of a block is.
use Rattle.std.proofs.Common.{◌≡◌, ℕ, ◌*◌, true, false, refl, List, [], Option, Some, None}
use Rattle.disk_model.specs.Disk.{Image}
use Rattle.image_model.specs.declared.flags.TheConstants.{DIRTY_BITMAP}
use Rattle.image_model.specs.Bitmap.{awaits}
use Rattle.image_model.specs.Cells.{salt_of, placed_cells_of, replayed_entries, counted_entries, last_entry, block_tag, cells_of}
use Rattle.image_model.specs.Geometry.{Geometry}
use Rattle.image_model.specs.Section.{Entry}
use Rattle.image_model.specs.Superblock.{Superblock, has_flag}

module _ (key : Option (List ℕ)) (s : Superblock) (g : Geometry) (image : Image) where
  -- With a journal its replayed entries count,
  pub counted_entries-journal : has_flag DIRTY_BITMAP s.flags ≡ false → counted_entries s g image ≡ replayed_entries g image
  counted_entries-journal clear = rw clear refl

  -- and with a bitmap none do.
  pub counted_entries-bitmap : has_flag DIRTY_BITMAP s.flags ≡ true → counted_entries s g image ≡ []
  counted_entries-bitmap set = rw set refl

  -- A block of which an entry counts has the last such entry's bytes and tag.
  pub cells_of-entry : (b : ℕ) (entry : Entry) → last_entry g (counted_entries s g image) b ≡ Some entry → cells_of key s g image b ≡ record { bytes = entry.bytes; tag = entry.tag }
  unfolding cells_of
  cells_of-entry b entry last = rw last refl

  -- A block with no such entry has what is placed, where it does not await,
  pub cells_of-placed : (b : ℕ) → last_entry g (counted_entries s g image) b ≡ None → awaits s g image b ≡ false → cells_of key s g image b ≡ placed_cells_of g image b
  unfolding cells_of
  cells_of-placed b none rests = rw (none, rests) refl

  -- and else the bytes that are placed, with their tag.
  pub cells_of-awaiting : (b : ℕ) → last_entry g (counted_entries s g image) b ≡ None → awaits s g image b ≡ true
      → cells_of key s g image b ≡ record { bytes = (placed_cells_of g image b).bytes; tag = block_tag key (salt_of s) g (b * g.shape.spb) (placed_cells_of g image b).bytes }
  unfolding cells_of
  cells_of-awaiting b none waits = rw (none, waits) refl
