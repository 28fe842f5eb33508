-- What a resize writes up to each of its moments: what a recovery may, then what is written for the new blocks, and last the
-- first sector that tells of them.
-- Own: all that is written for the new blocks is synced before the first sector is written.
use Rattle.std.specs.Prelude.{◌≡◌, ◌≢◌, ◌⊎◌, ℕ, ◌+◌, ◌<◌, ◌≤◌, true, false, Ok, List, length, drop}
use Rattle.disk_model.specs.Disk.{Content, EachImage, HasNothingPending, OnlyAdds, last_image, newest_only}
use Rattle.image_model.specs.declared.flags.TheConstants.{DIRTY_BITMAP}
use Rattle.image_model.specs.Cells.{Cell}
use Rattle.image_model.specs.Geometry.{data_at}
use Rattle.image_model.specs.Sectors.{zero_bytes}
use Rattle.image_model.specs.Superblock.{has_flag, superblock_of}
use Rattle.image_model.specs.SuperblockLaws.{FitsBytes}
use Rattle.run_model.specs.CommandRun.{IsUntouched}
use Rattle.place_model.specs.FirstSync.{IsOfOpening}
use Rattle.place_model.specs.Format.{DiskFormat}
use Rattle.place_model.specs.Journal.{IsOfJournal}
use Rattle.resize_model.specs.Growth.{Growth, HasNewBlocks, IsCutOf, IsFormed, IsNewBlock, IsOfGrowth, StandsFor}
use Rattle.resize_model.specs.PlacesLaws.{IsGrown}
use Rattle.resize_model.specs.Resized.{resized_fields, resized_head, resized_provided, with_provided}
use Rattle.resize_model.specs.StepLaws.{resizing}

-- ---- the parts

-- These bytes in the first sector.
pub record IsOfHead (head : List ℕ) (sector : ℕ) (x : List ℕ) : Type 0 where
  pub first : sector ≡ 0
  pub is : x ≡ head

-- What stands before a block is added: under a bitmap all as it was, synced at most; and else all as it was, or what a recovery
-- may leave.
pub record IsBeforeGrowth (Recovers : (start c : Content) → Type 0) (d : DiskFormat) (start c : Content) : Type 0 where
  pub bitmap : has_flag DIRTY_BITMAP d.superblock.flags ≡ true → IsUntouched start c
  pub journal : has_flag DIRTY_BITMAP d.superblock.flags ≡ false → (c ≡ start) ⊎ Recovers start c

-- Blocks are added to this: more is to be provided, the disk is synced, or recovered where there is no bitmap, and nothing is
-- pending.
pub record IsToGrow (Recovers : (start c : Content) → Type 0) (d : DiskFormat) (start first : Content) : Type 0 where
  pub more : d.superblock.provided < resized_provided d.superblock d.sectors
  pub bitmap : has_flag DIRTY_BITMAP d.superblock.flags ≡ true → first ≡ newest_only start
  pub journal : has_flag DIRTY_BITMAP d.superblock.flags ≡ false → Recovers start first
  pub settled : HasNothingPending first

-- They are there: all that is written for them is synced, and nothing else was written.
pub record IsToTell (w : Growth) (first grown : Content) : Type 0 where
  pub written : OnlyAdds (IsOfGrowth w) first grown
  pub settled : HasNothingPending grown
  pub new : HasNewBlocks w (last_image grown)

-- The first sector that tells of them, where the start has these bytes there.
abbrev pub head_then : DiskFormat → (old : List ℕ) → List ℕ
head_then d old = resized_head (resized_fields d.superblock d.sectors) old

-- ---- the moments

-- A moment of the resize of a disk of this format: no block is added yet; or what is written for the new blocks is written so
-- far; or they are there, and the first sector is written so far.
pub data IsWrittenByResize (Recovers : (start c : Content) → Type 0) (d : DiskFormat) (start c : Content) : Type 0 where
  Recovering : IsBeforeGrowth Recovers d start c → IsWrittenByResize Recovers d start c
  Growing : (first : Content) → IsToGrow Recovers d start first
      → OnlyAdds (IsOfGrowth (resizing d (last_image first))) first c → IsWrittenByResize Recovers d start c
  Telling : (first grown : Content) → IsToGrow Recovers d start first
      → IsToTell (resizing d (last_image first)) first grown
      → OnlyAdds (IsOfHead (head_then d (last_image start 0))) grown c → IsWrittenByResize Recovers d start c

-- ---- laws

-- No sector of the superblock, of an old block's data, or of a journal; and in a sector of a new block's data zeros.
pub record IsBesideOld (w : Growth) (sector : ℕ) (x : List ℕ) : Type 0 where
  pub behind : 8 ≤ sector
  pub journal : has_flag DIRTY_BITMAP w.superblock.flags ≡ false → IsOfJournal w.geometry sector → ⊥
  pub old : (b k : ℕ) → b < w.geometry.blocks → k < w.geometry.shape.spb → sector ≢ data_at w.geometry b + k
  pub new : (b k : ℕ) → IsNewBlock w b → k < w.geometry.shape.spb → sector ≡ data_at w.geometry b + k
      → x ≡ zero_bytes 512

-- What is written for the new blocks is so.
abbrev pub BesideOldLaw : Type 0
BesideOldLaw = (w : Growth) (sector : ℕ) (x : List ℕ) → IsFormed w → IsOfGrowth w sector x → IsBesideOld w sector x

-- Where no more is provided nothing more is written than by a recovery, of which each image has these cells.
abbrev pub UngrownWritesLaw : Type 0
UngrownWritesLaw = (d : DiskFormat) (base : ℕ → Cell) (start c : Content)
    → resized_provided d.superblock d.sectors ≡ d.superblock.provided
    → IsWrittenByResize (IsOfOpening d base) d start c → IsBeforeGrowth (IsOfOpening d base) d start c

-- Under a bitmap nothing is written then.
abbrev pub UngrownBitmapLaw : Type 0
UngrownBitmapLaw = (d : DiskFormat) (base : ℕ → Cell) (start c : Content)
    → resized_provided d.superblock d.sectors ≡ d.superblock.provided
    → has_flag DIRTY_BITMAP d.superblock.flags ≡ true
    → IsWrittenByResize (IsOfOpening d base) d start c → IsUntouched start c

-- The first sector tells the new fields, and keeps what lies behind them.
abbrev pub HeadBytesLaw : Type 0
HeadBytesLaw = (d : DiskFormat) (provided : ℕ) (old : List ℕ) → IsGrown d provided → FitsBytes d.superblock
    → length old ≡ 512
    → let head = resized_head (with_provided provided d.superblock) old in
    (length head ≡ 512) × (superblock_of head ≡ Ok (with_provided provided d.superblock))
    × (drop 64 head ≡ drop 64 old)

-- While blocks are added each image stays what it may be,
abbrev pub GrowingLeftLaw : Type 0
GrowingLeftLaw = (w : Growth) (first c : Content) → StandsFor w first → OnlyAdds (IsOfGrowth w) first c
    → EachImage (IsCutOf w) c

-- and so it does while the first sector is written, by bytes that tell the new fields.
abbrev pub TellingLeftLaw : Type 0
TellingLeftLaw = (w : Growth) (head : List ℕ) (first grown c : Content) → StandsFor w first → IsToTell w first grown
    → length head ≡ 512 → superblock_of head ≡ Ok (with_provided w.provided w.superblock)
    → OnlyAdds (IsOfHead head) grown c → EachImage (IsCutOf w) c
