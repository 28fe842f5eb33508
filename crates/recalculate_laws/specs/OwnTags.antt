-- The tags of blocks that do not await: each stays in its place byte for byte, but by the block's own writes, also through a
-- recovery and every recalculation.
-- Own: what is to be recalculated grows less alone.
use Rattle.std.specs.Prelude.{◌≡◌, ℕ, ◌<◌, Bool, false, None}
use Rattle.std.specs.List.{Any}
use Rattle.disk_model.specs.Disk.{Content, EachImage, Image}
use Rattle.image_model.specs.declared.flags.TheConstants.{DIRTY_BITMAP}
use Rattle.image_model.specs.Bitmap.{is_to_recalculate}
use Rattle.image_model.specs.Cells.{counted_entries, last_entry, placed_cells_of}
use Rattle.image_model.specs.Geometry.{Geometry}
use Rattle.image_model.specs.Superblock.{Superblock, has_flag}
use Rattle.place_model.specs.Format.{DiskFormat, cells_on, placed_on}
use Rattle.journal_model.specs.JournaledDisk as Journaled
use Rattle.journal_model.specs.JournaledDisk.{JournaledDisk}
use Rattle.direct_model.specs.DirectDisk as Directs
use Rattle.direct_model.specs.DirectDisk.{DirectDisk}
use Rattle.recalculate_laws.specs.Position.{MovesPosition}

-- At opening the tag of a block that does not await, and of which no entry is replayed, is that in its place,
abbrev pub BaseTagLaw : Type 0
BaseTagLaw = (d : DiskFormat) (entry : Image) (b : ℕ) → has_flag DIRTY_BITMAP d.superblock.flags ≡ false
    → is_to_recalculate d.superblock d.geometry b ≡ false
    → ((placed_on d entry b).tag ≡ (placed_cells_of d.geometry entry b).tag)
    × (last_entry d.geometry (counted_entries d.superblock d.geometry entry) b ≡ None
    → (cells_on d entry b).tag ≡ (placed_cells_of d.geometry entry b).tag)

-- it does not await under moved fields,
abbrev pub RestsMovedLaw : Type 0
RestsMovedLaw = (s t : Superblock) (g : Geometry) (sectors : ℕ) (awaiting : ℕ → Bool) (b : ℕ)
    → MovesPosition s g sectors awaiting t → b < g.blocks → is_to_recalculate s g b ≡ false
    → is_to_recalculate t g b ≡ false

-- and in journal mode its tag stays as long as no entry of it was committed,
abbrev pub TagStaysLaw : Type 0
TagStaysLaw = (d : JournaledDisk) (c : Content) (b : ℕ) → Journaled.StandsFor d c → b < d.geometry.blocks
    → is_to_recalculate d.superblock d.geometry b ≡ false → last_entry d.geometry d.entries b ≡ None
    → EachImage (λ image. (placed_cells_of d.geometry image b).tag ≡ (d.base b).tag) c

-- and in direct mode as long as it has no write.
abbrev pub DirectTagStaysLaw : Type 0
DirectTagStaysLaw = (d : DirectDisk) (c : Content) (b : ℕ) → Directs.StandsFor d c → b < d.geometry.blocks
    → is_to_recalculate d.superblock d.geometry b ≡ false → ¬ Any (λ write. write.block ≡ b) d.writes
    → EachImage (λ image. (placed_cells_of d.geometry image b).tag ≡ (d.base b).tag) c
