-- An event of a device in direct mode over its disk, and as one of any mode.
use Rattle.std.proofs.Common.{◌≡◌, ℕ, List, Option, ◌∙◌, ap, subst}
use Rattle.disk_model.specs.Disk.{Content}
use Rattle.device_model.specs.Progress as Model
use Rattle.place_model.specs.Format.{DiskFormat}
use Rattle.place_model.specs.Kind.{placed_kind}
use Rattle.direct_model.specs.DirectDisk.{DirectDisk}
use Rattle.direct_mode.specs.MomentLaws.{IsLeftNow, IsLeftThrough, kind_of}
use Rattle.device_model.specs.Device.{DeviceKind}
use Rattle.device_parts.specs.declared.answers.Served.{Served}
use Rattle.device_parts.specs.declared.condition.Condition.{Condition}
use Rattle.device_parts.specs.declared.condition.Condition.TheVariants as Conditions
use Rattle.device_parts.specs.declared.parts.Parts.{Parts}
use Rattle.device_parts.specs.Answers.{served_answer}
use Rattle.device_parts.specs.Device.{HasDone, HasEnded, IsDone, Standing}
use Rattle.recalculate_laws.specs.Formats.{IsFormatOf}
use Rattle.recalculation.specs.declared.recalculating.Recalculation.{Recalculation}
use Rattle.direct_device.specs.Device.{DirectStanding, IsOverDisk, in_direct, kept, standing_on, standing_then}

-- The device is the one after an event, over a disk of the same format, but for what is to be recalculated. At each
-- moment of the call each image can be opened, and may be left within the event.
pub record IsAfter (w : DirectStanding) (event : Model.Event) (condition : Condition) (parts : Parts)
    (recalculation : Recalculation) (before after : List Content) : Type 0 where
  pub disk : DirectDisk
  pub format : (on : DiskFormat) → IsFormatOf on w.disk.format → IsFormatOf on disk.format
  pub device : IsOverDisk (standing_then w event disk) condition parts recalculation after
  pub through : IsLeftThrough (kind_of w.disk) w.entry w.format w.state event before after

-- The request is served, and answers so.
pub record IsServedAs (w : DirectStanding) (ticket : ℕ) (served : Served) (parts : Parts)
    (recalculation : Recalculation) (before after : List Content) : Type 0 where
  pub answer : (Model.event_result w.format w.state (Model.Serve ticket)).answer ≡ served_answer served
  pub done : IsAfter w (Model.Serve ticket) Conditions.Working parts recalculation before after

-- The disk failed in it.
abbrev pub HasFailedIn : DirectStanding → (ticket : ℕ) → Parts → Recalculation → (before after : List Content)
    → Type 0
HasFailedIn w ticket parts recalculation before after =
    IsAfter w (Model.FailedServe ticket) Conditions.Broken parts recalculation before after

-- It ends with an event that answers so.
pub record EndsOver (w : DirectStanding) (event : Model.Event) (answer : Model.Answer) (before after : List Content)
    : Type 0 where
  pub answers : (Model.event_result w.format w.state event).answer ≡ answer
  pub through : IsLeftThrough (kind_of w.disk) w.entry w.format w.state event before after
  pub left : IsLeftNow (kind_of w.disk) w.entry (Model.after_event w.format w.state event).history after

-- ---- for callers

-- What is said over a disk of the device's format is said of the device.
module _ (w : Standing) (disk : DirectDisk) (same : IsFormatOf w.on disk.format) (event : Model.Event) (a b : List Content) where
  kind_is : placed_kind disk.key disk.sectors ≡ placed_kind w.on.key w.on.sectors
  kind_is = ap (λ (key : Option (List ℕ)). placed_kind key disk.sectors) same.key ∙ ap (placed_kind w.on.key) same.sectors

  pub done_on : (condition : Condition) (parts : Parts) (recalculation : Recalculation) → IsAfter (standing_on w disk) event condition parts recalculation a b
      → HasDone in_direct w event condition (kept parts recalculation) a b
  done_on condition parts recalculation done = record {
    device = record { disk = done.disk; format = done.format w.on same; over = done.device };
    through = subst (λ (kind : DeviceKind). IsLeftThrough kind w.entry w.format w.state event a b) kind_is done.through;
  }

  pub ended_on : (answer : Model.Answer) → EndsOver (standing_on w disk) event answer a b → HasEnded in_direct w event answer a b
  ended_on answer ended = record {
    answers = ended.answers;
    through = subst (λ (kind : DeviceKind). IsLeftThrough kind w.entry w.format w.state event a b) kind_is ended.through;
    left = subst (λ (kind : DeviceKind). IsLeftNow kind w.entry (Model.after_event w.format w.state event).history b) kind_is ended.left;
  }

pub served_on : (w : Standing) (disk : DirectDisk) → IsFormatOf w.on disk.format → (ticket : ℕ) (served : Served) (parts : Parts) (recalculation : Recalculation)
    (a b : List Content) → IsServedAs (standing_on w disk) ticket served parts recalculation a b
    → IsDone in_direct w (Model.Serve ticket) (served_answer served) Conditions.Working (kept parts recalculation) a b
served_on w disk same ticket served parts recalculation a b as_told = record {
  answers = as_told.answer;
  done = done_on w disk same (Model.Serve ticket) a b Conditions.Working parts recalculation as_told.done;
}
