-- A disk in direct mode whose tags go through a store, between the calls of its work.
use Rattle.std.specs.Prelude.{◌≡◌, ◌⊎◌, ℕ, ◌*◌, ◌<◌, Bool, List, length}
use Rattle.disk_model.specs.Disk.{Content, IsOfRun}
use Rattle.image_model.specs.Geometry.{Geometry, data_at}
use Rattle.device_model.specs.History.{BlockWrite}
use Rattle.direct_model.specs.DirectDisk.{DirectDisk}
use Rattle.direct_laws.specs.CallLaws.{KeepsNow, StandsThrough}
use Rattle.tag_store.specs.Store.{IsOfPut, Store, given_tags}
use Rattle.place_model.specs.Tags.{HoldsTag}

-- The store has the disk's places, and with the tags that it gives the disk has its cells now.
pub record HasCells (d : DirectDisk) (awaiting : ℕ → Bool) (store : Store) (moments : List Content)
    : Type 0 where
  pub geometry : d.geometry ≡ store.geometry
  pub now : KeepsNow d awaiting (given_tags store) moments

-- The disk stands for the same at each moment of a call, and has its cells at its end.
pub record KeepsDisk (d : DirectDisk) (awaiting : ℕ → Bool) (store : Store) (before after : List Content)
    : Type 0 where
  pub through : StandsThrough d before after
  pub cells : HasCells d awaiting store after

-- ---- a block of the layout

-- These are as many bytes as the block has, which is one of the layout.
pub record IsBlock (g : Geometry) (block : ℕ) (bytes : List ℕ) : Type 0 where
  pub low : block < g.blocks
  pub size : length bytes ≡ 512 * g.shape.spb

-- So are these, and with them is a tag of full length.
pub record IsTaggedBlock (g : Geometry) (block : ℕ) (bytes tag : List ℕ) : Type 0 where
  pub block_ : IsBlock g block bytes
  pub tag_size : length tag ≡ g.shape.tag_size

-- The write of these bytes to the block.
abbrev pub block_write : (ticket block : ℕ) → List ℕ → BlockWrite
block_write ticket block bytes = record { ticket = ticket; block = block; bytes = bytes }

-- ---- what may be written

-- The bytes may be written to the sector while the block is: its own bytes there, or what a put of its tag writes.
abbrev pub IsOfBlock : (block : ℕ) → (bytes tag : List ℕ) → Store → Content → ℕ → List ℕ → Type 0
IsOfBlock block bytes tag store start sector x = IsOfRun (data_at store.geometry block) bytes sector x
    ⊎ IsOfPut block tag store start sector x

-- The bytes are the block's own there, or the sector is one of tags.
abbrev pub IsOfBlockOrTags : Geometry → ℕ → List ℕ → ℕ → List ℕ → Type 0
IsOfBlockOrTags g block bytes sector x = IsOfRun (data_at g block) bytes sector x ⊎ HoldsTag g sector
