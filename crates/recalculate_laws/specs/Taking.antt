-- A region that is recalculated without a bitmap, by the loop over its blocks: those that are to be recalculated get their
-- tags.
-- Own: it is the loop of bitmap mode, which tests each block.
use Rattle.std.specs.Prelude.{ℕ, Bool, false, List, []}
use Rattle.disk_model.specs.Disk.{Content, EachImage}
use Rattle.disk_model.specs.Moments.{EachMoment, HasNow}
use Rattle.image_model.specs.Bitmap.{is_to_recalculate}
use Rattle.device_model.specs.Regions.{with_region}
use Rattle.place_model.specs.Format.{DiskFormat, tagger_of}
use Rattle.journal_model.specs.JournaledDisk.{JournaledDisk, StandsFor, IsCutOf}
use Rattle.direct_model.specs.DirectDisk.{DirectDisk}
use Rattle.direct_laws.specs.CallLaws.{AddsTags, KeepsNow, StandsThrough}
use Rattle.bitmap_laws.specs.ServeLaws.{Recalculates}
use Rattle.recalculate_laws.specs.Moments.{tags_then}
use Rattle.recalculate_laws.specs.Recalculating.{KeepsAwaiting}

-- The tags of the region's blocks that are to be recalculated were put, and others may have been written back.
abbrev pub TakesRegion : DiskFormat → (region : ℕ) → (tags now : Content → ℕ → List ℕ) → (before after : List Content)
    → Type 0
TakesRegion d region tags now before after =
    Recalculates (tagger_of d) d.geometry (is_to_recalculate d.superblock d.geometry) region tags now before after

-- The disk in journal mode, with the tags that a store gives over its content, is as told now.
abbrev pub KeepsAwaitingNow : JournaledDisk → (awaiting : ℕ → Bool) → (tags : Content → ℕ → List ℕ) → List Content
    → Type 0
KeepsAwaitingNow d awaiting tags moments = HasNow (λ c. KeepsAwaiting d awaiting (tags c) c) moments

-- At each moment of it, whether it fails or not, a disk in journal mode stands for the same, and each image has the same
-- cells,
abbrev pub TakingLaw : Type 0
TakingLaw = (d : JournaledDisk) (region : ℕ) (awaiting : ℕ → Bool) (tags : Content → ℕ → List ℕ)
    (a b : List Content) → KeepsAwaitingNow d awaiting tags a
    → AddsTags d.geometry tags (λ c. tags_then d.format region c (tags c)) a b
    → EachMoment a b (λ c. StandsFor d c × EachImage (IsCutOf d []) c)

-- and then the region awaits no more.
abbrev pub TakenLaw : Type 0
TakenLaw = (d : JournaledDisk) (region : ℕ) (awaiting : ℕ → Bool) (tags now : Content → ℕ → List ℕ)
    (a b : List Content) → KeepsAwaitingNow d awaiting tags a → TakesRegion d.format region tags now a b
    → KeepsAwaitingNow d (with_region region false awaiting) now b

-- So a disk in direct mode stands for the same,
abbrev pub DirectTakingLaw : Type 0
DirectTakingLaw = (d : DirectDisk) (region : ℕ) (awaiting : ℕ → Bool) (tags : Content → ℕ → List ℕ)
    (a b : List Content) → KeepsNow d awaiting tags a
    → AddsTags d.geometry tags (λ c. tags_then d.format region c (tags c)) a b → StandsThrough d a b

-- and then the region awaits no more.
abbrev pub DirectTakenLaw : Type 0
DirectTakenLaw = (d : DirectDisk) (region : ℕ) (awaiting : ℕ → Bool) (tags now : Content → ℕ → List ℕ)
    (a b : List Content) → KeepsNow d awaiting tags a → TakesRegion d.format region tags now a b
    → KeepsNow d (with_region region false awaiting) now b
