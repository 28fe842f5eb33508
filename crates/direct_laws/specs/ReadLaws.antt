-- What reads give of a disk in direct mode, through each of its calls.
-- Own: tags may stand in memory before they are written.
use Rattle.std.specs.Prelude.{◌≡◌, ℕ, ◌<◌, ◌==◌, Bool, true, false, ◌&&◌, if◌then◌else◌, List, [], length, Ok}
use Rattle.disk_model.specs.Disk.{Content, HasNothingPending, IsImage, OnlyAdds, Reads, last_image, newest_only, with_run}
use Rattle.image_model.specs.declared.flags.TheConstants.{DIRTY_BITMAP}
use Rattle.image_model.specs.Bitmap.{is_to_recalculate}
use Rattle.image_model.specs.Cells.{Cell, placed_cells_of, replayed_entries}
use Rattle.image_model.specs.Geometry.{data_at, region_of}
use Rattle.image_model.specs.Superblock.{Superblock, has_flag, superblock_of}
use Rattle.device_model.specs.History.{BlockWrite, cells_now}
use Rattle.device_model.specs.Mode.{DeviceFormat, Direct}
use Rattle.device_model.specs.Progress.{Working, DeviceState}
use Rattle.device_model.specs.Regions.{with_region}
use Rattle.device_model.specs.Reply.{block_reply}
use Rattle.device_model.specs.Serial.{readable_cells}
use Rattle.place_model.specs.Blocks.{IsBlockWrite, ReadsData}
use Rattle.place_model.specs.Format.{DiskFormat, HasWholeSectors, IsReadAs, OpensAs, tagger_of}
use Rattle.place_model.specs.Journal.{HasNothingToReplay}
use Rattle.place_model.specs.Opened.{awaiting_on}
use Rattle.place_model.specs.Tags.{IsOfTags, KeepsOthers, ReadsTags, with_block_tag}
use Rattle.direct_model.specs.DirectDisk.{DirectDisk, StandsFor, cell_now}
use Rattle.direct_model.specs.Opening.{placed_disk, opened_disk}
use Rattle.direct_model.specs.Steps.{with_write, after_flush, with_fields, IsMoved}
use Rattle.direct_laws.specs.Device.{IsDirectDevice, PassesNone}

-- A block awaits its tag where it is to be recalculated and its region awaits.
abbrev pub awaits_tag : DirectDisk → (awaiting : ℕ → Bool) → ℕ → Bool
awaits_tag d awaiting b = awaiting (region_of d.geometry b) && is_to_recalculate d.superblock d.geometry b

-- The disk stands for this. Data as reads give them, and tags as they are told, are those after all writes, but for a
-- tag that is awaited.
pub record KeepsCells (d : DirectDisk) (awaiting : ℕ → Bool) (tags : ℕ → List ℕ) (c : Content) : Type 0 where
  pub stands : StandsFor d c
  pub reads : ReadsData d.geometry (cell_now d) c
  pub tags_are : (b : ℕ) → b < d.geometry.blocks → awaits_tag d awaiting b ≡ false
      → tags b ≡ (cell_now d b).tag

-- ---- a read

-- What reads give of a block is its cell by the history, and so its reply is theirs.
abbrev pub ReadLaw : Type 0
ReadLaw = (f : DeviceFormat) (s : DeviceState) (d : DirectDisk) (awaiting : ℕ → Bool) (tags : ℕ → List ℕ)
    (c : Content) (b : ℕ) (bytes : List ℕ) → IsDirectDevice f s d → s.condition ≡ Working
    → KeepsCells d awaiting tags c → b < f.blocks.blocks → awaits_tag d awaiting b ≡ false
    → length bytes ≡ f.blocks.block_size → Reads (data_at d.geometry b) bytes c
    → let cell : Cell = record { bytes = bytes; tag = tags b } in
    let told = readable_cells f (cells_now f.blocks.tag s.history) b in
    (told ≡ cell) × (block_reply f.blocks.tag b told ≡ block_reply (tagger_of d.format) b cell)

-- ---- what keeps that

-- A disk with all flushed has it, with the tags that are in place,
abbrev pub KeepsBegun : Type 0
KeepsBegun = (d : DirectDisk) (awaiting : ℕ → Bool) (tags : ℕ → List ℕ) (c : Content) → StandsFor d c
    → IsImage c (last_image c) → d.flushed ≡ length d.writes
    → ((b : ℕ) → b < d.geometry.blocks → is_to_recalculate d.superblock d.geometry b ≡ true
    → awaiting (region_of d.geometry b) ≡ true)
    → ((b : ℕ) → b < d.geometry.blocks → tags b ≡ (placed_cells_of d.geometry (last_image c) b).tag)
    → KeepsCells d awaiting tags c

-- so one after the first sync of an opening, with its placed cells,
abbrev pub KeepsPlaced : Type 0
KeepsPlaced = (d : DiskFormat) (entry : Content) (tags : ℕ → List ℕ) → IsImage entry (last_image entry)
    → IsReadAs d (last_image entry) → has_flag DIRTY_BITMAP d.superblock.flags ≡ false
    → HasWholeSectors d (last_image entry)
    → ((b : ℕ) → b < d.geometry.blocks → tags b ≡ (placed_cells_of d.geometry (last_image entry) b).tag)
    → KeepsCells (placed_disk d (last_image entry)) (awaiting_on Direct d (last_image entry)) tags
    (newest_only entry)

-- and with its cells, where no entry is replayed.
abbrev pub KeepsOpened : Type 0
KeepsOpened = (d : DiskFormat) (entry : Content) (tags : ℕ → List ℕ) → IsImage entry (last_image entry)
    → OpensAs d (last_image entry) → has_flag DIRTY_BITMAP d.superblock.flags ≡ false
    → replayed_entries d.geometry (last_image entry) ≡ [] → HasWholeSectors d (last_image entry)
    → ((b : ℕ) → b < d.geometry.blocks → tags b ≡ (placed_cells_of d.geometry (last_image entry) b).tag)
    → KeepsCells (opened_disk d (last_image entry)) (awaiting_on Direct d (last_image entry)) tags
    (newest_only entry) × HasNothingToReplay d.geometry (last_image entry)

-- The bytes of a block are written, then sectors of tags without and with its tag.
abbrev pub KeepsWrite : Type 0
KeepsWrite = (d : DirectDisk) (write : BlockWrite) (awaiting : ℕ → Bool) (tags : ℕ → List ℕ)
    (first c : Content) → let tag = tagger_of d.format write.block write.bytes in
    let with_tag = with_block_tag write.block tag tags in
    let written = with_run (data_at d.geometry write.block) write.bytes first in
    KeepsCells d awaiting tags first → IsBlockWrite d.geometry write
    → OnlyAdds (IsOfTags d.geometry tags with_tag) written c → KeepsOthers d.geometry written c
    → KeepsCells (with_write d write) awaiting with_tag c

-- A sync alone flushes nothing,
abbrev pub KeepsSynced : Type 0
KeepsSynced = (d : DirectDisk) (awaiting : ℕ → Bool) (tags : ℕ → List ℕ) (first : Content)
    → KeepsCells d awaiting tags first → IsImage first (last_image first)
    → KeepsCells d awaiting tags (newest_only first)

-- but tags are written back,
abbrev pub KeepsBack : Type 0
KeepsBack = (d : DirectDisk) (awaiting : ℕ → Bool) (tags : ℕ → List ℕ) (first c : Content)
    → KeepsCells d awaiting tags first → OnlyAdds (IsOfTags d.geometry tags tags) first c
    → KeepsOthers d.geometry first c → KeepsCells d awaiting tags c

-- and then a sync flushes all writes.
abbrev pub KeepsFlushed : Type 0
KeepsFlushed = (d : DirectDisk) (awaiting : ℕ → Bool) (tags : ℕ → List ℕ) (first : Content)
    → KeepsCells d awaiting tags first → IsImage first (last_image first) → ReadsTags d.geometry tags first
    → KeepsCells (after_flush d) awaiting tags (newest_only first)

-- Other tags and regions are as good, where they say the same of each block.
abbrev pub KeepsSame : Type 0
KeepsSame = (d : DirectDisk) (awaiting now : ℕ → Bool) (tags others : ℕ → List ℕ) (c : Content)
    → ((b : ℕ) → b < d.geometry.blocks → others b ≡ tags b)
    → ((b : ℕ) → b < d.geometry.blocks → awaits_tag d now b ≡ false → awaits_tag d awaiting b ≡ false)
    → KeepsCells d awaiting tags c → KeepsCells d now others c

-- The tags, with those of the bytes in place of the blocks of a region that are to be recalculated.
abbrev pub recalculated_tags : DirectDisk → ℕ → Content → (ℕ → List ℕ) → ℕ → List ℕ
recalculated_tags d region c tags b =
    if region_of d.geometry b == region && is_to_recalculate d.superblock d.geometry b
    then tagger_of d.format b (placed_cells_of d.geometry (last_image c) b).bytes
    else tags b

-- A region gets these, and awaits no more.
abbrev pub KeepsRecalculated : Type 0
KeepsRecalculated = (d : DirectDisk) (region : ℕ) (awaiting : ℕ → Bool) (tags : ℕ → List ℕ)
    (first c : Content) → let new = recalculated_tags d region first tags in
    KeepsCells d awaiting tags first → OnlyAdds (IsOfTags d.geometry tags new) first c
    → KeepsOthers d.geometry first c
    → KeepsCells d (with_region region false awaiting) new c

-- The position moves past no block of a region that awaits, once the tags are in place.
abbrev pub KeepsMoved : Type 0
KeepsMoved = (d : DirectDisk) (fields : Superblock) (awaiting : ℕ → Bool) (tags : ℕ → List ℕ)
    (bytes : List ℕ) (first : Content) → KeepsCells d awaiting tags first → IsImage first (last_image first)
    → HasNothingPending first → ReadsTags d.geometry tags first → IsMoved d fields
    → PassesNone d awaiting fields → length bytes ≡ 512 → superblock_of bytes ≡ Ok fields
    → KeepsCells (with_fields d fields) awaiting tags (newest_only (with_run 0 bytes first))
