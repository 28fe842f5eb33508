-- What a run of events of a device leaves of its disk: the sectors that it does not write, and the tags of blocks that
-- it leaves out.
use Rattle.std.specs.Prelude.{ℕ, List}
use Rattle.disk_model.specs.Disk.{Content}
use Rattle.disk_model.specs.Moments.{EachMoment}
use Rattle.device_model.specs.History.{Change, History}
use Rattle.device_model.specs.Progress.{Event, changes_of}
use Rattle.bitmap_device.specs.Device.{IsUnwritten}
use Rattle.device_parts.specs.Device.{Standing}
use Rattle.place_model.specs.RunWrites.{WritesOnly}
use Rattle.place_model.specs.KeptTags.{AreOfOthers, KeepsStill, KeepsTagsOf}

-- The blocks of a device that it has not written before, and that the changes do not.
pub record IsLeftOut (h : History) (changes : List Change) (block : ℕ) : Type 0 where
  pub before : IsUnwritten h block
  pub since : AreOfOthers changes block

-- Between two moments a device writes no sector but those that its changes may, and at each of them the tags stand of
-- blocks that it leaves out; in recovery mode there are none between them.
pub record Leaves (w : Standing) (changes : List Change) (before after : List Content) : Type 0 where
  pub sectors : WritesOnly w.format.mode w.on.geometry w.entry changes before after
  pub tags : EachMoment before after
      (KeepsTagsOf w.format.mode (IsLeftOut w.state.history changes) w.on.geometry w.entry)
  pub still : KeepsStill w.format.mode before after

-- So it is for these events of a device.
abbrev pub LeavesIn : Standing → List Event → (before after : List Content) → Type 0
LeavesIn w events before after = Leaves w (changes_of w.format w.state events) before after
