-- An event of a device in journal mode over its disk, and as one of any mode.
use Rattle.std.proofs.Common.{◌≡◌, ℕ, List}
use Rattle.disk_model.specs.Disk.{Content}
use Rattle.device_model.specs.Progress as Model
use Rattle.direct_laws.specs.MomentLaws.{IsLeftNow, IsLeftThrough}
use Rattle.journal_model.specs.JournaledDisk.{JournaledDisk}
use Rattle.recalculate_laws.specs.Formats.{IsFormatOf}
use Rattle.recalculation.specs.declared.recalculating.Recalculation.{Recalculation}
use Rattle.device_parts.specs.declared.answers.Served.{Served}
use Rattle.device_parts.specs.declared.condition.Condition.{Condition}
use Rattle.device_parts.specs.declared.condition.Condition.TheVariants.{Broken, Working}
use Rattle.device_parts.specs.declared.parts.Parts.{Parts}
use Rattle.device_parts.specs.Answers.{served_answer}
use Rattle.device_parts.specs.Device.{HasDone, HasEnded, IsDone, Standing}
use Rattle.journal_mode.specs.Journal.{PlacedRing}
use Rattle.journal_device.specs.Device.{IsOverDisk, JournaledStanding, in_journal, kept, kind_on, standing_on, standing_then}
use Rattle.journal_device.specs.declared.parts.JournalState.{JournalState}
use Rattle.journal_device.proofs.KindLemmas.{format_again, now_on, through_on}

-- What a device in journal mode keeps for its mode: a journal, and a recalculation.
abbrev pub state_of : PlacedRing → Recalculation → JournalState
state_of journal recalculation = record { journal = journal; recalculation = recalculation }

-- The device is the one after an event, over a disk of the same format, but for what is to be recalculated. At each
-- moment of the call each image can be opened, and may be left within the event.
pub record IsAfter (w : JournaledStanding) (event : Model.Event) (condition : Condition) (parts : Parts)
    (journal : PlacedRing) (recalculation : Recalculation) (before after : List Content) : Type 0 where
  pub disk : JournaledDisk
  pub format : IsFormatOf w.disk.format disk.format
  pub device : IsOverDisk (standing_then w event disk) condition parts journal recalculation after
  pub through : IsLeftThrough (kind_on w.disk.format) w.entry w.format w.state event before after

-- The device answers the event so, and is the one after it.
pub record IsDoneOver (w : JournaledStanding) (event : Model.Event) (answer : Model.Answer) (condition : Condition)
    (parts : Parts) (journal : PlacedRing) (recalculation : Recalculation) (before after : List Content) : Type 0 where
  pub answers : (Model.event_result w.format w.state event).answer ≡ answer
  pub done : IsAfter w event condition parts journal recalculation before after

-- The request is served, and answers so.
abbrev pub IsServedAs : JournaledStanding → (ticket : ℕ) → Served → Parts → PlacedRing → Recalculation
    → (before after : List Content) → Type 0
IsServedAs w ticket served parts journal recalculation before after =
    IsDoneOver w (Model.Serve ticket) (served_answer served) Working parts journal recalculation before after

-- The disk failed in it.
abbrev pub HasFailedIn : JournaledStanding → (ticket : ℕ) → Parts → PlacedRing → Recalculation
    → (before after : List Content) → Type 0
HasFailedIn w ticket parts journal recalculation before after =
    IsAfter w (Model.FailedServe ticket) Broken parts journal recalculation before after

-- It ends with an event that answers so.
pub record EndsOver (w : JournaledStanding) (event : Model.Event) (answer : Model.Answer) (before after : List Content)
    : Type 0 where
  pub answers : (Model.event_result w.format w.state event).answer ≡ answer
  pub through : IsLeftThrough (kind_on w.disk.format) w.entry w.format w.state event before after
  pub left : IsLeftNow (kind_on w.disk.format) w.entry (Model.after_event w.format w.state event).history after

-- ---- for callers

-- What is said over a disk of the device's format is said of the device.
module _ (w : Standing) (disk : JournaledDisk) (same : IsFormatOf w.on disk.format) (event : Model.Event) where
  pub done_on : (condition : Condition) (parts : Parts) (journal : PlacedRing) (recalculation : Recalculation) (a b : List Content)
      → IsAfter (standing_on w disk) event condition parts journal recalculation a b
      → HasDone in_journal w event condition (kept parts (state_of journal recalculation)) a b
  done_on condition parts journal recalculation a b done = record {
    device = record { disk = done.disk; format = format_again w.on disk.format same done.disk.format done.format; over = done.device };
    through = through_on w.on disk.format same w.entry w.format w.state event a b done.through;
  }

  pub is_done_on : (answer : Model.Answer) (condition : Condition) (parts : Parts) (journal : PlacedRing) (recalculation : Recalculation) (a b : List Content)
      → IsDoneOver (standing_on w disk) event answer condition parts journal recalculation a b
      → IsDone in_journal w event answer condition (kept parts (state_of journal recalculation)) a b
  is_done_on answer condition parts journal recalculation a b done =
      record { answers = done.answers; done = done_on condition parts journal recalculation a b done.done }

  pub ended_on : (answer : Model.Answer) (a b : List Content) → EndsOver (standing_on w disk) event answer a b
      → HasEnded in_journal w event answer a b
  ended_on answer a b ended = record {
    answers = ended.answers;
    through = through_on w.on disk.format same w.entry w.format w.state event a b ended.through;
    left = now_on w.on disk.format same w.entry (Model.after_event w.format w.state event).history b ended.left;
  }
