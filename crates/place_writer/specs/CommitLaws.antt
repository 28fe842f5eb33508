-- What a commit leaves of the tags in memory, and of what is placed.
use Rattle.std.specs.Prelude.{ℕ, List}
use Rattle.disk_model.specs.Disk.{Content, last_image, newest_only, with_run}
use Rattle.disk_model.specs.Identity.{DiskIdentity}
use Rattle.disk_model.specs.Moments.{HasNow, IsChangedBy}
use Rattle.image_model.specs.Geometry.{section_at}
use Rattle.journal_laws.specs.Device.{IsJournalRing}
use Rattle.direct_mode.specs.CallLaws.{GivesTags, ReadsImage}
use Rattle.journal_model.specs.JournaledDisk.{JournaledDisk, Rests}
use Rattle.journal_model.specs.Ring.{JournalRing, next_batch, with_commit}
use Rattle.journal_model.specs.Steps.{IsBatch, after_commit}
use Rattle.journal_ring.specs.Batch.{HasWritten}
use Rattle.tag_store.specs.Store.{IsStore, Store, given_tags}
use Rattle.tag_store.specs.StoreLaws.{AreWhole}
use Rattle.place_writer.specs.Cells.{HasCells}
use Rattle.place_writer.specs.Moves.{IsPlacedOn}
use Rattle.place_writer.specs.Placement.{IsPlacementOf}
use Rattle.place_writer.specs.declared.placement.Placement.{Placement}

-- Each sector is read as 512 bytes, as the trait of disks has it.
abbrev pub ReadsWhole : DiskIdentity → List Content → Type 0
ReadsWhole disk moments = HasNow (λ c. AreWhole disk.sectors (last_image c)) moments

-- Once a batch of the disk is written and synced, the store is one of the disk still, it gives the tags that it gave,
-- and with them the disk has its cells.
abbrev pub CommittedCellsLaw : Type 0
CommittedCellsLaw = (d : JournaledDisk) (batch : ℕ) (bytes : List ℕ) (store : Store) (disk : DiskIdentity)
    (before after : List Content) → Rests d → IsBatch d batch bytes → IsStore store disk before
    → HasCells d store before → ReadsImage before → ReadsWhole disk before → ReadsWhole disk after
    → IsChangedBy (λ c. newest_only (with_run (section_at d.geometry d.next) bytes c)) before after
    → IsStore store disk after × HasCells (after_commit d batch bytes) store after
    × GivesTags store.geometry (given_tags store) (given_tags store) before after

-- So once a ring's next batch is, as much of it is placed on the disk then, if the ring is that of the disk then.
abbrev pub PlacedCommitLaw : Type 0
PlacedCommitLaw = (d : JournaledDisk) (p : Placement) (ring : JournalRing) (store : Store) (disk : DiskIdentity)
    (before after : List Content) (written : HasWritten ring before after) → IsPlacementOf p ring
    → IsStore store disk before → IsPlacedOn d p ring store before
    → ReadsImage before → ReadsWhole disk before → ReadsWhole disk after
    → IsJournalRing (after_commit d (next_batch ring) written.bytes) (with_commit ring)
    → IsStore store disk after
    × IsPlacedOn (after_commit d (next_batch ring) written.bytes) p (with_commit ring) store after
    × GivesTags store.geometry (given_tags store) (given_tags store) before after
