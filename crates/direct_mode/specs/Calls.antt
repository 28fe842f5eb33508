-- What the calls tell of each disk in direct mode that has its cells with the store.
use Rattle.std.specs.Prelude.{◌≡◌, ℕ, Bool, List}
use Rattle.disk_model.specs.Disk.{Content}
use Rattle.place_model.specs.Format.{tagger_of}
use Rattle.place_model.specs.Tags.{with_block_tag}
use Rattle.direct_model.specs.DirectDisk.{DirectDisk}
use Rattle.direct_model.specs.Steps.{after_flush, with_write}
use Rattle.direct_laws.specs.CallLaws.{GivesTags, StandsThrough}
use Rattle.direct_mode.specs.Cells.{HasCells, KeepsDisk, block_write}
use Rattle.direct_mode.specs.Serving.{HasFailed, HasServed, ServedWrite, WritesNext}
use Rattle.tag_store.specs.Store.{Store, given_tags}

-- A read keeps it,
abbrev pub KeepsEach : (old new : Store) → (before after : List Content) → Type 0
KeepsEach old new before after = (d : DirectDisk) (awaiting : ℕ → Bool) → HasCells d awaiting old before
    → KeepsDisk d awaiting new before after

-- a flush flushes all of it,
abbrev pub FlushesEach : (old new : Store) → (before after : List Content) → Type 0
FlushesEach old new before after = (d : DirectDisk) (awaiting : ℕ → Bool) → HasCells d awaiting old before
    → HasCells (after_flush d) awaiting new after

-- at each moment of which it stands for the same,
abbrev pub StandsEach : Store → (before after : List Content) → Type 0
StandsEach store before after = (d : DirectDisk) (awaiting : ℕ → Bool) → HasCells d awaiting store before
    → StandsThrough d before after

-- and the write of a block, whoever asked for it, gives it these bytes,
abbrev pub WritesEach : (block : ℕ) → (bytes tag : List ℕ) → (old new : Store) → (before after : List Content) → Type 0
WritesEach block bytes tag old new before after = (d : DirectDisk) (ticket : ℕ) (awaiting : ℕ → Bool)
    → HasCells d awaiting old before → tag ≡ tagger_of d.format block bytes
    → HasCells (with_write d (block_write ticket block bytes)) awaiting new after

-- at each moment of which it stands for what it has with them.
abbrev pub StandsWriting : (block : ℕ) → List ℕ → Store → (before after : List Content) → Type 0
StandsWriting block bytes store before after = (d : DirectDisk) (ticket : ℕ) (awaiting : ℕ → Bool)
    → HasCells d awaiting store before → StandsThrough (with_write d (block_write ticket block bytes)) before after

-- Whatever stands on the disk, the store gives the block this tag then, and all others the tags that it gave.
abbrev pub GivesBlockTag : (block : ℕ) → (tag : List ℕ) → (old new : Store) → (before after : List Content) → Type 0
GivesBlockTag block tag old new before after =
    GivesTags old.geometry (λ c. with_block_tag block tag (given_tags old c)) (given_tags new) before after

-- ---- a block of a request

-- The next block of a write is served,
abbrev pub ServesEach : (block : ℕ) → (bytes tag : List ℕ) → (flushes : Bool) → (old new : Store)
    → (before after : List Content) → Type 0
ServesEach block bytes tag flushes old new before after = (w : ServedWrite)
    → WritesNext w block bytes tag flushes old before → HasServed w flushes new before after

-- or the disk failed in that.
abbrev pub FailsEach : (block : ℕ) → (bytes tag : List ℕ) → (flushes : Bool) → Store → (before after : List Content)
    → Type 0
FailsEach block bytes tag flushes store before after = (w : ServedWrite)
    → WritesNext w block bytes tag flushes store before → HasFailed w before after
