-- What the calls of a recovery tell: of each disk whose entries are in their places, and of the image at the start.
use Rattle.std.specs.Prelude.{◌≡◌, ℕ, List, [], length}
use Rattle.disk_model.specs.Disk.{Content, EachImage, HasNothingPending, last_image}
use Rattle.disk_model.specs.Identity.{DiskIdentity}
use Rattle.disk_model.specs.Moments.{EachMoment, HasNow}
use Rattle.image_model.specs.Geometry.{Geometry}
use Rattle.journal_erasure.specs.declared.erasure.Erasure.{Erasure}
use Rattle.journal_erasure.specs.Erasing.{IsErasureOf}
use Rattle.journal_model.specs.JournaledDisk.{IsCutOf, JournaledDisk}
use Rattle.journal_model.specs.Opening.{opened_disk}
use Rattle.journal_model.specs.Steps.{after_settle}
use Rattle.journal_reading.specs.declared.reading.JudgedJournal.{JudgedJournal}
use Rattle.place_model.specs.Format.{DiskFormat, HasCells as HasImageCells, cells_on}
use Rattle.place_writer.specs.Cells.{HasCells}
use Rattle.tag_store.specs.Store.{Store, given_tags}
use Rattle.replay.specs.declared.recovered.Recovered.{Recovered}
use Rattle.replay.specs.Recovery.{EntersRecovery, IsReplayed, LeavesRecovered}
use Rattle.replay.specs.Replaying.{all_placed}

-- ---- a disk whose entries are in their places

-- With the tags of the store it is recovered now, and goes on as is told.
abbrev pub LeavesOn : JournaledDisk → Store → List Content → Recovered → Type 0
LeavesOn d store moments at = HasNow (λ c. LeavesRecovered d at (given_tags store c) c) moments

-- Each image at each moment of a call is a cut of it.
abbrev pub LeavesCutsOf : JournaledDisk → (before after : List Content) → Type 0
LeavesCutsOf d before after = EachMoment before after (EachImage (IsCutOf d []))

-- Each disk of which this holds, and that had its cells, is left so,
abbrev pub LeavesEach : (JournaledDisk → Type 0) → Store → (before after : List Content) → Recovered → Type 0
LeavesEach P store before after at = (d : JournaledDisk) → P d → HasCells d store before → LeavesOn d store after at

-- so is one of which this is an erasure, with all of its entries placed,
abbrev pub LeavesErased : Geometry → Erasure → Store → (before after : List Content) → Recovered → Type 0
LeavesErased g erasure store before after at = (d : JournaledDisk) → IsErasureOf g erasure d
    → d.placed ≡ length d.entries → HasCells d store before → LeavesOn d store after at

-- and so is one whose entries were replayed, where nothing was pending.
abbrev pub LeavesReplayed : Geometry → JudgedJournal → Store → (before after : List Content) → Recovered → Type 0
LeavesReplayed g journal store before after at =
    HasNow HasNothingPending before → LeavesEach (λ d. IsReplayed d g journal) store before after at

-- Of each disk of which this holds, and that had its cells, cuts are left.
abbrev pub LeavesCutsOfEach : (JournaledDisk → Type 0) → Store → (before after : List Content) → Type 0
LeavesCutsOfEach P store before after =
    (d : JournaledDisk) → P d → HasCells d store before → LeavesCutsOf d before after

-- ---- the image at the start, of a disk of so many sectors

-- Where a recovery can be entered with it, all its entries are placed and settled,
abbrev pub SettlesEntries : (sectors : ℕ) → (old new : Store) → (before after : List Content) → Type 0
SettlesEntries sectors old new before after = (f : DiskFormat) → HasNow (λ start. EntersRecovery f sectors old start
    → HasCells (after_settle (all_placed (opened_disk f (last_image start)))) new after) before

-- it is recovered, and goes on as is told,
abbrev pub RecoversImage : (sectors : ℕ) → (old new : Store) → (before after : List Content) → Recovered → Type 0
RecoversImage sectors old new before after at = (f : DiskFormat) → HasNow (λ start.
    EntersRecovery f sectors old start → LeavesOn (opened_disk f (last_image start)) new after at) before

-- and each image at each moment of a call has its cells.
abbrev pub KeepsImageCells : (sectors : ℕ) → Store → (before after : List Content) → Type 0
KeepsImageCells sectors store before after = (f : DiskFormat) → HasNow (λ start. EntersRecovery f sectors store start
    → EachMoment before after (EachImage (HasImageCells f (cells_on f (last_image start))))) before

-- ---- what stays

-- In any case the store keeps its geometry and the bytes their size, and the disk is the same.
pub record KeepsRoom (old new : Store) (bytes left : List ℕ) (disk now : DiskIdentity) : Type 0 where
  pub geometry : new.geometry ≡ old.geometry
  pub size : length left ≡ length bytes
  pub identity : now ≡ disk
