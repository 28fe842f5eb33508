-- What a cut leaves of a device in direct mode within one of its calls.
-- Own: a call that is cut has made some of its first changes.
use Rattle.disk_model.specs.Disk.{Content, Image, EachImage}
use Rattle.device_model.specs.History.{History}
use Rattle.device_model.specs.Mode.{DeviceFormat}
use Rattle.device_model.specs.Progress.{DeviceState, Event, IsHistoryWithin}
use Rattle.place_model.specs.Format.{DiskFormat}
use Rattle.place_model.specs.Left.{IsLeftInDirect, IsLeftPlaced}

-- Each image may be left by one history, which is one within the event.
pub record IsWithin (MayBeLeft : History → Image → Type 0) (f : DeviceFormat) (s : DeviceState)
    (event : Event) (c : Content) : Type 0 where
  pub history : History
  pub within : IsHistoryWithin f s event history
  pub each : EachImage (MayBeLeft history) c

-- Each is one that can be read, with its placed cells as the history says,
abbrev pub IsPlacedWithin : DeviceFormat → DeviceState → Event → DiskFormat → Content → Type 0
IsPlacedWithin f s event d c = IsWithin (IsLeftPlaced d) f s event c

-- or one that can be opened, with its cells so.
abbrev pub IsLeftWithin : DeviceFormat → DeviceState → Event → DiskFormat → Content → Type 0
IsLeftWithin f s event d c = IsWithin (IsLeftInDirect d) f s event c
