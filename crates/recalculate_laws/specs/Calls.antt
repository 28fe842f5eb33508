-- The calls that end a step that recalculates, and a close, as the moments of a disk in journal mode: tags are written back,
-- all is synced, and then sector 0 is written and synced.
-- Own: a law of each moment holds of a call that failed too; one of what a call leaves, of one that succeeded.
use Rattle.std.specs.Prelude.{◌≡◌, ◌⊎◌, ℕ, Bool, List, []}
use Rattle.disk_model.specs.Disk.{AddsSome, Content, EachImage, HasNothingPending, last_image, newest_only, with_run}
use Rattle.disk_model.specs.Moments.{EachMoment, EachSince, HasNow, IsChangedBy}
use Rattle.image_model.specs.Geometry.{Geometry}
use Rattle.image_model.specs.Superblock.{Superblock}
use Rattle.place_model.specs.Format.{DiskFormat}
use Rattle.journal_model.specs.JournaledDisk.{IsCutOf, JournaledDisk}
use Rattle.journal_model.specs.Steps.{after_settle}
use Rattle.direct_laws.specs.CallLaws.{AddsTags, GivesTags, ReadsImage, ReadsTagsNow}
use Rattle.direct_laws.specs.ServeLaws.{Syncs, WritesBack}
use Rattle.change_model.specs.Fields.{with_head}
use Rattle.recalculate_laws.specs.JournalDisk.{with_fields}
use Rattle.recalculate_laws.specs.Moments.{tags_then}
use Rattle.recalculate_laws.specs.Position.{HasPosition, moved_fields}
use Rattle.recalculate_laws.specs.Taking.{KeepsAwaitingNow}

-- ---- what calls say that succeed

-- Sector 0 was written, and nothing synced.
pub record WritesHead (g : Geometry) (head : List ℕ) (tags now : Content → ℕ → List ℕ)
    (before after : List Content) : Type 0 where
  pub written : IsChangedBy (with_run 0 head) before after
  pub adds : EachSince (AddsSome 0 head) before after
  pub gives : GivesTags g tags now before after

-- ---- between the calls

-- All is written back and synced: nothing is pending, and reads give the tags of the store.
pub record IsSettledNow (g : Geometry) (tags : Content → ℕ → List ℕ) (moments : List Content) : Type 0 where
  pub image : ReadsImage moments
  pub none : HasNow HasNothingPending moments
  pub back : ReadsTagsNow g tags moments

-- The bytes are those of sector 0 as reads give it, with the moved fields.
abbrev pub IsHeadNow : DiskFormat → (awaiting : ℕ → Bool) → (head : List ℕ) → List Content → Type 0
IsHeadNow d awaiting head moments =
    HasNow (λ c. head ≡ with_head (moved_fields d.superblock d.geometry awaiting) (last_image c 0)) moments

-- The disk under the fields that are written where these regions await.
abbrev pub moved_disk : JournaledDisk → (awaiting : ℕ → Bool) → JournaledDisk
moved_disk d awaiting = with_fields d (moved_fields d.superblock d.geometry awaiting)

-- At each moment of a call each image is one that a cut leaves, under the old fields or under these.
abbrev pub IsCutThrough : JournaledDisk → (fields : Superblock) → (before after : List Content) → Type 0
IsCutThrough d fields before after =
    EachMoment before after (EachImage (λ image. IsCutOf d [] image ⊎ IsCutOf (with_fields d fields) [] image))

-- ---- call by call

-- A region is recalculated,
abbrev pub TakeThroughLaw : Type 0
TakeThroughLaw = (d : JournaledDisk) (fields : Superblock) (region : ℕ) (awaiting : ℕ → Bool)
    (tags : Content → ℕ → List ℕ) (a b : List Content) → KeepsAwaitingNow d awaiting tags a
    → AddsTags d.geometry tags (λ c. tags_then d.format region c (tags c)) a b → IsCutThrough d fields a b

-- tags are written back, or one is got,
abbrev pub BackThroughLaw : Type 0
BackThroughLaw = (d : JournaledDisk) (fields : Superblock) (awaiting : ℕ → Bool) (tags : Content → ℕ → List ℕ)
    (a b : List Content) → KeepsAwaitingNow d awaiting tags a → AddsTags d.geometry tags tags a b
    → IsCutThrough d fields a b

-- behind which what awaits is kept,
abbrev pub BackLaw : Type 0
BackLaw = (d : JournaledDisk) (awaiting : ℕ → Bool) (tags now : Content → ℕ → List ℕ) (a b : List Content)
    → KeepsAwaitingNow d awaiting tags a → WritesBack d.geometry tags now a b → KeepsAwaitingNow d awaiting now b

-- the disk is synced,
abbrev pub SyncThroughLaw : Type 0
SyncThroughLaw = (d : JournaledDisk) (fields : Superblock) (awaiting : ℕ → Bool) (tags : Content → ℕ → List ℕ)
    (a b : List Content) → KeepsAwaitingNow d awaiting tags a → ReadsImage a
    → EachSince (λ start c. c ≡ newest_only start) a b → IsCutThrough d fields a b

-- behind which it is kept too, and all is settled,
abbrev pub SyncLaw : Type 0
SyncLaw = (d : JournaledDisk) (awaiting : ℕ → Bool) (tags now : Content → ℕ → List ℕ) (a b : List Content)
    → KeepsAwaitingNow d awaiting tags a → ReadsTagsNow d.geometry tags a → Syncs d.geometry tags now a b
    → KeepsAwaitingNow d awaiting now b × IsSettledNow d.geometry now b

-- sector 0 is written,
abbrev pub HeadThroughLaw : Type 0
HeadThroughLaw = (d : JournaledDisk) (awaiting : ℕ → Bool) (tags : Content → ℕ → List ℕ) (head : List ℕ)
    (a b : List Content) → KeepsAwaitingNow d awaiting tags a → IsSettledNow d.geometry tags a
    → HasPosition d.superblock → IsHeadNow d.format awaiting head a → EachSince (AddsSome 0 head) a b
    → IsCutThrough d (moved_fields d.superblock d.geometry awaiting) a b

-- and that is synced.
abbrev pub HeadSyncThroughLaw : Type 0
HeadSyncThroughLaw = (d : JournaledDisk) (awaiting : ℕ → Bool) (tags : Content → ℕ → List ℕ) (head : List ℕ)
    (a m b : List Content) → KeepsAwaitingNow d awaiting tags a → IsSettledNow d.geometry tags a
    → HasPosition d.superblock → IsHeadNow d.format awaiting head a → IsChangedBy (with_run 0 head) a m
    → EachSince (λ start c. c ≡ newest_only start) m b
    → IsCutThrough d (moved_fields d.superblock d.geometry awaiting) m b

-- Behind that the disk is one under the moved fields, and keeps what awaits.
abbrev pub HeadLaw : Type 0
HeadLaw = (d : JournaledDisk) (awaiting : ℕ → Bool) (tags mid now : Content → ℕ → List ℕ) (head : List ℕ)
    (a m b : List Content) → KeepsAwaitingNow d awaiting tags a → IsSettledNow d.geometry tags a
    → HasPosition d.superblock → IsHeadNow d.format awaiting head a → WritesHead d.geometry head tags mid a m
    → Syncs d.geometry mid now m b → KeepsAwaitingNow (moved_disk d awaiting) awaiting now b

-- ---- calls in a row

-- Tags are written back, all of them, and all is synced.
pub record SettlesBy (g : Geometry) (tags now : Content → ℕ → List ℕ) (before after : List Content) : Type 0 where
  pub back : Content → ℕ → List ℕ
  pub between : List Content
  pub writes_back : WritesBack g tags back before between
  pub reads_back : ReadsTagsNow g back between
  pub syncs : Syncs g back now between after

-- Sector 0 is written with the moved fields, and synced.
pub record MovesHeadBy (d : DiskFormat) (awaiting : ℕ → Bool) (tags now : Content → ℕ → List ℕ)
    (before after : List Content) : Type 0 where
  pub head : List ℕ
  pub written : Content → ℕ → List ℕ
  pub between : List Content
  pub is_head : IsHeadNow d awaiting head before
  pub writes : WritesHead d.geometry head tags written before between
  pub syncs : Syncs d.geometry written now between after

-- The one, and then the other: behind them the position is that of the regions that await still.
pub record MovesPositionBy (d : DiskFormat) (awaiting : ℕ → Bool) (tags now : Content → ℕ → List ℕ)
    (before after : List Content) : Type 0 where
  pub settled : Content → ℕ → List ℕ
  pub between : List Content
  pub settles : SettlesBy d.geometry tags settled before between
  pub moves : MovesHeadBy d awaiting settled now between after

-- Once all is written back and synced the disk stands for the same, and for what is settled too, if that is counted,
abbrev pub SettledLaw : Type 0
SettledLaw = (d : JournaledDisk) (fields : Superblock) (awaiting : ℕ → Bool) (tags now : Content → ℕ → List ℕ)
    (a b : List Content) → KeepsAwaitingNow d awaiting tags a → SettlesBy d.geometry tags now a b
    → IsCutThrough d fields a b × KeepsAwaitingNow d awaiting now b × KeepsAwaitingNow (after_settle d) awaiting now b
    × IsSettledNow d.geometry now b

-- from there the position moves,
abbrev pub HeadMovedLaw : Type 0
HeadMovedLaw = (d : JournaledDisk) (awaiting : ℕ → Bool) (tags now : Content → ℕ → List ℕ) (a b : List Content)
    → KeepsAwaitingNow d awaiting tags a → IsSettledNow d.geometry tags a → HasPosition d.superblock
    → MovesHeadBy d.format awaiting tags now a b
    → IsCutThrough d (moved_fields d.superblock d.geometry awaiting) a b
    × KeepsAwaitingNow (moved_disk d awaiting) awaiting now b

-- and so by all of these.
abbrev pub PositionMovedLaw : Type 0
PositionMovedLaw = (d : JournaledDisk) (awaiting : ℕ → Bool) (tags now : Content → ℕ → List ℕ) (a b : List Content)
    → KeepsAwaitingNow d awaiting tags a → HasPosition d.superblock → MovesPositionBy d.format awaiting tags now a b
    → IsCutThrough d (moved_fields d.superblock d.geometry awaiting) a b
    × KeepsAwaitingNow (moved_disk d awaiting) awaiting now b
