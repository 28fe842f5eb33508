-- Which events change what awaits, in every mode: a read, and a step that recalculates. And which blocks of a region that awaits
-- are to be recalculated, once the position has moved.
-- Own: what awaits grows less alone, from the opening on. Code keeps a set of the regions that there are.
use Rattle.std.specs.Prelude.{◌≡◌, ℕ, suc, ◌<◌, Bool, true, false, List}
use Rattle.disk_model.specs.Disk.{Content}
use Rattle.image_model.specs.Bitmap.{is_to_recalculate}
use Rattle.image_model.specs.Geometry.{Geometry, region_of}
use Rattle.image_model.specs.Superblock.{Superblock}
use Rattle.device_model.specs.Mode.{DeviceFormat}
use Rattle.device_model.specs.Progress.{Clean, Close, Commit, DeviceState, Event, FailedClose, FailedServe, FailedStep, Place, Recalc, Serve, Settle, Step, Submit, Take, after_event}
use Rattle.device_model.specs.Regions.{with_region}
use Rattle.device_model.specs.Request.{Asked, Flush, Read, Request, Write}
use Rattle.journal_laws.specs.EventLaws.{IsServed}
use Rattle.journal_model.specs.JournaledDisk.{JournaledDisk}
use Rattle.bitmap_laws.specs.CallLaws.{AreSameBits}
use Rattle.recalculate_laws.specs.Position.{MovesPosition, moved_fields}
use Rattle.recalculate_laws.specs.Taking.{KeepsAwaitingNow}

-- ---- events

-- Neither a serve nor a step that recalculates.
abbrev pub TakesNone : Event → Type 0
TakesNone (Submit submission) = Unit {0}
TakesNone (Serve ticket) = ⊥
TakesNone (Step Commit) = Unit {0}
TakesNone (Step Place) = Unit {0}
TakesNone (Step Settle) = Unit {0}
TakesNone (Step Clean) = Unit {0}
TakesNone (Step Recalc) = ⊥
TakesNone (Take ticket) = Unit {0}
TakesNone Close = Unit {0}
TakesNone (FailedServe ticket) = Unit {0}
TakesNone (FailedStep actor) = Unit {0}
TakesNone FailedClose = Unit {0}

-- Such an event takes no region out of those that await,
abbrev pub AwaitingStaysLaw : Type 0
AwaitingStaysLaw = (f : DeviceFormat) (s : DeviceState) (event : Event) → TakesNone event
    → (after_event f s event).progress.regions.awaiting ≡ s.progress.regions.awaiting

-- A request that is no read.
abbrev pub ReadsNone : Request → Type 0
ReadsNone (Read first count) = ⊥
ReadsNone (Write first blocks fua) = Unit {0}
ReadsNone Flush = Unit {0}

-- and nor does the serve of such a request.
abbrev pub AwaitingServedLaw : Type 0
AwaitingServedLaw = (f : DeviceFormat) (s : DeviceState) (k : ℕ) (a : Asked) → IsServed s k a → ReadsNone a.request
    → (after_event f s (Serve (suc k))).progress.regions.awaiting ≡ s.progress.regions.awaiting

-- ---- blocks

-- Of each region that awaits those blocks are to be recalculated that were at opening.
abbrev pub HasOpenedWork : (opened now : Superblock) → Geometry → (awaiting : ℕ → Bool) → Type 0
HasOpenedWork opened now g awaiting = (b : ℕ) → b < g.blocks → awaiting (region_of g b) ≡ true
    → is_to_recalculate now g b ≡ is_to_recalculate opened g b

-- So it is once a region is taken out,
abbrev pub WorkLessLaw : Type 0
WorkLessLaw = (opened now : Superblock) (g : Geometry) (awaiting : ℕ → Bool) (region : ℕ)
    → HasOpenedWork opened now g awaiting → HasOpenedWork opened now g (with_region region false awaiting)

-- and once the position moves: the test of blocks that was made at opening serves from then on.
abbrev pub WorkStaysLaw : Type 0
WorkStaysLaw = (opened now fields : Superblock) (g : Geometry) (sectors : ℕ) (awaiting : ℕ → Bool)
    → HasOpenedWork opened now g awaiting → MovesPosition now g sectors awaiting fields
    → HasOpenedWork opened fields g awaiting

-- ---- sets

-- The same is awaited where two sets are the same for each region: the fields that are written are,
abbrev pub MovedSameLaw : Type 0
MovedSameLaw = (s : Superblock) (g : Geometry) (one other : ℕ → Bool) → AreSameBits g one other
    → moved_fields s g one ≡ moved_fields s g other

-- and what is kept is.
abbrev pub AwaitingSameLaw : Type 0
AwaitingSameLaw = (d : JournaledDisk) (one other : ℕ → Bool) (tags : Content → ℕ → List ℕ) (a : List Content)
    → AreSameBits d.geometry one other → KeepsAwaitingNow d one tags a → KeepsAwaitingNow d other tags a
