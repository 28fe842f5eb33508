-- What the calls that a device in direct mode makes leave at each of their moments, by what the calls below them say.
-- Own: the tags come from a store, which may write any of them back within each call of its own.
use Rattle.std.specs.Prelude.{◌≡◌, ◌≢◌, ℕ, ◌<◌, Bool, false, List, length}
use Rattle.disk_model.specs.Disk.{Content, IsImage, OnlyAdds, AddsSome, Reads, last_image, newest_only, with_run}
use Rattle.disk_model.specs.Moments.{EachMoment, EachSince, HasNow, IsChangedBy}
use Rattle.image_model.specs.Cells.{Cell}
use Rattle.image_model.specs.Geometry.{Geometry, data_at}
use Rattle.device_model.specs.History.{BlockWrite, cells_now}
use Rattle.device_model.specs.Mode.{DeviceFormat}
use Rattle.device_model.specs.Progress.{Working, DeviceState}
use Rattle.device_model.specs.Reply.{block_reply}
use Rattle.device_model.specs.Serial.{readable_cells}
use Rattle.place_model.specs.Blocks.{IsBlockWrite, ReadsData}
use Rattle.place_model.specs.Format.{tagger_of}
use Rattle.place_model.specs.Tags.{IsOfTags, KeepsOthers, ReadsTags, with_block_tag}
use Rattle.direct_model.specs.DirectDisk.{DirectDisk, IsFormed, StandsFor, cell_now}
use Rattle.direct_model.specs.Steps.{with_write, after_flush}
use Rattle.direct_laws.specs.Device.{IsDirectDevice}
use Rattle.direct_laws.specs.ReadLaws.{KeepsCells, awaits_tag}

-- ---- what a call leaves

-- The disk, with the tags that a store gives over its content, has the cells.
abbrev pub KeepsNow : DirectDisk → (awaiting : ℕ → Bool) → (tags : Content → ℕ → List ℕ) → List Content
    → Type 0
KeepsNow d awaiting tags moments = HasNow (λ c. KeepsCells d awaiting (tags c) c) moments

-- The disk stands for this at each moment of a call, and at its end.
pub record StandsThrough (d : DirectDisk) (before after : List Content) : Type 0 where
  pub moments : EachMoment before after (StandsFor d)
  pub now : HasNow (StandsFor d) after

-- The bytes of a write stand in its block, whose tag is not told: the disk stands for the one with the write, and reads
-- and all other tags are its cells.
pub record HasData (d : DirectDisk) (write : BlockWrite) (awaiting : ℕ → Bool) (tags : ℕ → List ℕ)
    (c : Content) : Type 0 where
  pub formed : IsFormed d
  pub stands : StandsFor (with_write d write) c
  pub reads : ReadsData d.geometry (cell_now (with_write d write)) c
  pub tags_are : (b : ℕ) → b < d.geometry.blocks → write.block ≢ b → awaits_tag d awaiting b ≡ false
      → tags b ≡ (cell_now d b).tag

-- It is so now.
abbrev pub HasDataNow : DirectDisk → BlockWrite → (awaiting : ℕ → Bool) → (tags : Content → ℕ → List ℕ)
    → List Content → Type 0
HasDataNow d write awaiting tags moments = HasNow (λ c. HasData d write awaiting (tags c) c) moments

-- ---- what a call says

-- What reads give is an image.
abbrev pub ReadsImage : List Content → Type 0
ReadsImage moments = HasNow (λ c. IsImage c (last_image c)) moments

-- At each moment of a call sectors of tags alone have been added, with bytes of the old tags and the new ones.
abbrev pub AddsTags : Geometry → (old new : Content → ℕ → List ℕ) → (before after : List Content) → Type 0
AddsTags g old new before after =
    EachSince (λ start. OnlyAdds (IsOfTags g (old start) (new start)) start) before after

-- At its end a store gives the tags that are told by the content at the start.
abbrev pub GivesTags : Geometry → (told now : Content → ℕ → List ℕ) → (before after : List Content) → Type 0
GivesTags g told now before after =
    HasNow (λ start. HasNow (λ c. (b : ℕ) → b < g.blocks → now c b ≡ told start b) after) before

-- Reads of each sector without a byte of a tag give then what they gave.
abbrev pub KeepsOthersNow : Geometry → (before after : List Content) → Type 0
KeepsOthersNow g before after = HasNow (λ start. HasNow (KeepsOthers g start) after) before

-- What reads give of the tags are those of the store.
abbrev pub ReadsTagsNow : Geometry → (tags : Content → ℕ → List ℕ) → List Content → Type 0
ReadsTagsNow g tags moments = HasNow (λ c. ReadsTags g (tags c) c) moments

-- ---- laws

-- A call that keeps the moments, as a read does,
abbrev pub StillLaw : Type 0
StillLaw = (d : DirectDisk) (a b : List Content) → b ≡ a → HasNow (StandsFor d) a → StandsThrough d a b

-- and calls in a row.
abbrev pub ThroughLaw : Type 0
ThroughLaw = (d : DirectDisk) (a b c : List Content) → StandsThrough d a b → StandsThrough d b c
    → StandsThrough d a c

-- While the bytes of a block are written the disk stands for the one with the write, whether the call fails or not,
abbrev pub DataLaw : Type 0
DataLaw = (d : DirectDisk) (g : Geometry) (write : BlockWrite) (awaiting : ℕ → Bool)
    (tags : Content → ℕ → List ℕ) (a b : List Content) → d.geometry ≡ g → IsBlockWrite d.geometry write
    → KeepsNow d awaiting tags a → EachSince (AddsSome (data_at g write.block) write.bytes) a b
    → StandsThrough (with_write d write) a b

-- and then they are there.
abbrev pub DataDoneLaw : Type 0
DataDoneLaw = (d : DirectDisk) (g : Geometry) (write : BlockWrite) (awaiting : ℕ → Bool)
    (tags now : Content → ℕ → List ℕ) (a b : List Content) → d.geometry ≡ g → IsBlockWrite d.geometry write
    → KeepsNow d awaiting tags a → IsChangedBy (with_run (data_at g write.block) write.bytes) a b
    → GivesTags g tags now a b → HasDataNow d write awaiting now b

-- So it stands while the block's tag is put, whether that fails or not,
abbrev pub PutLaw : Type 0
PutLaw = (d : DirectDisk) (g : Geometry) (write : BlockWrite) (tag : List ℕ) (awaiting : ℕ → Bool)
    (tags : Content → ℕ → List ℕ) (a b : List Content) → d.geometry ≡ g → IsBlockWrite d.geometry write
    → HasDataNow d write awaiting tags a
    → AddsTags g tags (λ c. with_block_tag write.block tag (tags c)) a b
    → StandsThrough (with_write d write) a b

-- and then the block is written.
abbrev pub PutDoneLaw : Type 0
PutDoneLaw = (d : DirectDisk) (g : Geometry) (write : BlockWrite) (tag : List ℕ) (awaiting : ℕ → Bool)
    (tags now : Content → ℕ → List ℕ) (a b : List Content) → d.geometry ≡ g → IsBlockWrite d.geometry write
    → tag ≡ tagger_of d.format write.block write.bytes → HasDataNow d write awaiting tags a
    → AddsTags g tags (λ c. with_block_tag write.block tag (tags c)) a b → KeepsOthersNow g a b
    → GivesTags g (λ c. with_block_tag write.block tag (tags c)) now a b
    → KeepsNow (with_write d write) awaiting now b

-- While tags are written back, or one is got, the disk stands for the same,
abbrev pub BackLaw : Type 0
BackLaw = (d : DirectDisk) (g : Geometry) (awaiting : ℕ → Bool) (tags : Content → ℕ → List ℕ)
    (a b : List Content) → d.geometry ≡ g → KeepsNow d awaiting tags a → AddsTags g tags tags a b
    → StandsThrough d a b

-- and then it has the same cells.
abbrev pub BackDoneLaw : Type 0
BackDoneLaw = (d : DirectDisk) (g : Geometry) (awaiting : ℕ → Bool) (tags now : Content → ℕ → List ℕ)
    (a b : List Content) → d.geometry ≡ g → KeepsNow d awaiting tags a → AddsTags g tags tags a b
    → KeepsOthersNow g a b → GivesTags g tags now a b → KeepsNow d awaiting now b

-- While it is synced it stands for the same,
abbrev pub SyncLaw : Type 0
SyncLaw = (d : DirectDisk) (a b : List Content) → HasNow (StandsFor d) a → ReadsImage a
    → EachSince (λ start c. c ≡ newest_only start) a b → StandsThrough d a b

-- and then all writes are flushed, where reads gave the tags.
abbrev pub SyncDoneLaw : Type 0
SyncDoneLaw = (d : DirectDisk) (g : Geometry) (awaiting : ℕ → Bool) (tags now : Content → ℕ → List ℕ)
    (a b : List Content) → d.geometry ≡ g → KeepsNow d awaiting tags a → ReadsImage a
    → ReadsTagsNow g tags a → IsChangedBy newest_only a b → GivesTags g tags now a b
    → KeepsNow (after_flush d) awaiting now b

-- What is read of a block, data and tag, is its cell by the history, and so its reply is theirs.
abbrev pub BlockReadLaw : Type 0
BlockReadLaw = (f : DeviceFormat) (s : DeviceState) (d : DirectDisk) (awaiting : ℕ → Bool)
    (tags : Content → ℕ → List ℕ) (a : List Content) (b : ℕ) (bytes tag : List ℕ) → IsDirectDevice f s d
    → s.condition ≡ Working → KeepsNow d awaiting tags a → b < f.blocks.blocks
    → awaits_tag d awaiting b ≡ false → length bytes ≡ f.blocks.block_size
    → HasNow (Reads (data_at d.geometry b) bytes) a → HasNow (λ c. tag ≡ tags c b) a
    → let cell : Cell = record { bytes = bytes; tag = tag } in
    let told = readable_cells f (cells_now f.blocks.tag s.history) b in
    HasNow (λ c. (told ≡ cell)
    × (block_reply f.blocks.tag b told ≡ block_reply (tagger_of d.format) b cell)) a
