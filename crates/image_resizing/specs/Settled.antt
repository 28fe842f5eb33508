-- An image that is settled and then grows, on a disk on which something may be pending at first.
use Rattle.std.specs.Prelude.{◌≡◌, ◌≢◌, ℕ, Option, Some, List, Result, Err}
use Rattle.disk_model.specs.Disk.{Content, EachImage, last_image, newest_only}
use Rattle.disk_model.specs.Moments.{EachMoment, EachSince, FromStart, HasNow}
use Rattle.device_model.specs.Refusals.{ImageFault}
use Rattle.place_model.specs.Format.{HasCells, OpensAs, cells_on}
use Rattle.image_format.specs.Format.{IsReadNow}
use Rattle.journal_reading.specs.declared.reading.JudgedJournal.{JudgedJournal}
use Rattle.journal_reading.specs.Journal.{FitsJournal, IsJournalOn}
use Rattle.resize_model.specs.Left.{IsResizedOrNot, IsSyncedAtMost}
use Rattle.resize_model.specs.Refusals.{fault_by_journal}
use Rattle.image_resizing.specs.declared.planning.Plan.{Plan}
use Rattle.image_refusal.specs.declared.call_fault.CallFault.{CallFault}
use Rattle.image_refusal.specs.declared.call_fault.CallFault.TheVariants.{Disk, Memory}
use Rattle.image_refusal.specs.declared.resize_fault.ResizeFault.{ResizeFault}
use Rattle.image_resizing.specs.Faults.{fault_in}
use Rattle.image_resizing.specs.Grown.{IsResizedFrom}
use Rattle.image_resizing.specs.Plan.{present_format}
use Rattle.image_resizing.specs.Writing.{IsSettledBy}

-- ---- what is known of the image

-- The image that reads give has the format of the plan, under any key.
abbrev pub IsPlanned : (sectors : ℕ) → Plan → List Content → Type 0
IsPlanned sectors plan moments = (key : Option (List ℕ)) → HasNow (IsReadNow key sectors plan.present) moments

-- It can be opened.
abbrev pub OpensPlanned : (sectors : ℕ) → Plan → List Content → Type 0
OpensPlanned sectors plan moments = HasNow (λ c. OpensAs (present_format sectors plan) (last_image c)) moments

-- The journal that was judged is the image's.
pub record KnowsJournal (plan : Plan) (journal : JudgedJournal) (moments : List Content) : Type 0 where
  pub fits : FitsJournal plan.present.geometry journal
  pub on : HasNow (λ c. IsJournalOn plan.present.geometry (last_image c) journal) moments

-- ---- a call that settles

-- The image that reads gave is settled,
abbrev pub SettlesImage : (sectors : ℕ) → Plan → (before after : List Content) → Type 0
SettlesImage sectors plan before after =
    HasNow (λ start. HasNow (IsSettledBy sectors plan start) after) before

-- and from the first sync on each image has its cells.
pub record SettlesInOrder (sectors : ℕ) (plan : Plan) (before after : List Content) : Type 0 where
  pub synced : List Content
  pub earlier : EachSince (λ start c. c ≡ newest_only start) before synced
  pub later : EachMoment synced after (FromStart before (λ start.
      EachImage (HasCells (present_format sectors plan) (cells_on (present_format sectors plan) (last_image start)))))

-- ---- a call that resizes

-- The image that reads gave is resized,
abbrev pub ResizesImage : (sectors : ℕ) → Plan → (before after : List Content) → Type 0
ResizesImage sectors plan before after =
    HasNow (λ start. HasNow (IsResizedFrom sectors plan (last_image start)) after) before

-- and from the first sync on each image is that one, or the resized one.
pub record ResizesInOrder (sectors : ℕ) (plan : Plan) (before after : List Content) : Type 0 where
  pub synced : List Content
  pub earlier : EachSince (λ start c. c ≡ newest_only start) before synced
  pub later : EachMoment synced after (FromStart before (λ start.
      EachImage (IsResizedOrNot (present_format sectors plan)
      (cells_on (present_format sectors plan) (last_image start)))))

-- It is so of a disk that tells its content,
abbrev pub ResizesNow : (sectors : ℕ) → Plan → (before after : List Content) → Type 0
ResizesNow sectors plan before after = HasNow (λ start. ResizesInOrder sectors plan before after) before

-- and, of an image that was not judged, where that can be opened.
abbrev pub ResizesOpenable : (sectors : ℕ) → Plan → (before after : List Content) → Type 0
ResizesOpenable sectors plan before after =
    HasNow (λ start. OpensAs (present_format sectors plan) (last_image start)
    → ResizesInOrder sectors plan before after) before

-- ---- the journal

-- The fault of the image's journal, where that is looked at.
abbrev pub journal_fault : Plan → Content → Option ImageFault
journal_fault plan c = fault_by_journal plan.maker.key (last_image c) plan.present.fields plan.present.geometry

-- Where neither memory nor the disk failed, an answer tells it, if there is one.
abbrev pub TellsJournal : Plan → List Content → Result Unit (CallFault ResizeFault) → Type 0
TellsJournal plan before result = result ≢ Err Memory → result ≢ Err Disk
    → HasNow (λ c. fault_in result ≡ journal_fault plan c) before

-- Where there is one, the disk is synced at most.
abbrev pub KeepsJournal : Plan → (before after : List Content) → Type 0
KeepsJournal plan before after = HasNow (λ start. (fault : ImageFault) → journal_fault plan start ≡ Some fault
    → IsSyncedAtMost before after) before
