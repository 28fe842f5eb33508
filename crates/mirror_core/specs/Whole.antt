-- A request that is run whole on a device: submitted, served to its end with room made for it, and taken.
use Rattle.std.specs.Prelude.{◌≡◌, ℕ, suc, List, length}
use Rattle.disk_model.specs.Disk.{Content}
use Rattle.disk_model.specs.Moments.{EachMoment}
use Rattle.image_model.specs.Cells.{Cell}
use Rattle.device_model.specs.History.{Change, cells_now, with_changes}
use Rattle.device_model.specs.Progress.{Event, after_events}
use Rattle.device_model.specs.Request.{Request}
use Rattle.device_model.specs.Script.{whole_events}
use Rattle.device_model.specs.Serial.{whole_reply, whole_returned}
use Rattle.device_model.specs.Submission.{Submission, bytes_in, request_in}
use Rattle.mirror_model.specs.Mirror.{request_changes}
use Rattle.request_slots.specs.declared.reply.Reply.{Reply}
use Rattle.request_slots.specs.InFlight.{as_reply, returned_in}
use Rattle.device_parts.specs.Device.{Standing}
use Rattle.device.specs.declared.mode.DeviceParts.{DeviceParts}
use Rattle.device.specs.Device.{kind_of}
use Rattle.device.specs.Run.{standing_behind}
use Rattle.device_model.specs.Device.{IsLeftWithin}
use Rattle.mirror_core.specs.Stands.{RestsAs}

abbrev pub whole_of : Submission → Standing → List Event
whole_of submission w = whole_events w.format submission w.state

-- The request that it makes, what that does to the history, and what the blocks hold before it.
abbrev pub request_on : Submission → Standing → Request
request_on submission w = request_in w.format.blocks.block_size submission

abbrev pub changes_on : Submission → Standing → List Change
changes_on submission w = request_changes (suc (length w.state.progress.requests)) (request_on submission w)

abbrev pub cells_on : Standing → ℕ → Cell
cells_on w = cells_now w.format.blocks.tag w.state.history

-- It is run on this device, which is at rest again, and this is its reply.
pub record HasRunWhole (w : Standing) (submission : Submission) (reply : Reply) (parts : DeviceParts)
    (after : List Content) : Type 0 where
  pub rests : RestsAs (standing_behind w (whole_of submission w)) parts after
  pub history : (after_events w.format w.state (whole_of submission w)).history
      ≡ with_changes (changes_on submission w) w.state.history
  pub reply_ : as_reply reply ≡ whole_reply w.format (cells_on w) (request_on submission w)
  pub returned : returned_in reply ≡ whole_returned w.format (cells_on w) (request_on submission w) (bytes_in submission)

-- Some of its first changes are made at each moment.
abbrev pub LeavesWhole : Standing → Submission → (before after : List Content) → Type 0
LeavesWhole w submission before after =
    EachMoment before after (IsLeftWithin (kind_of w) w.entry w.state.history (changes_on submission w))

-- So it is for each device at rest that this one is.
abbrev pub RunsOn : Submission → Reply → (old new : DeviceParts) → (before after : List Content) → Type 0
RunsOn submission reply old new before after = (w : Standing) → RestsAs w old before
    → HasRunWhole w submission reply new after

abbrev pub LeavesOn : Submission → DeviceParts → (before after : List Content) → Type 0
LeavesOn submission old before after = (w : Standing) → RestsAs w old before → LeavesWhole w submission before after
