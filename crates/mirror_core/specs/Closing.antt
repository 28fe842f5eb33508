-- What a close leaves of a leg.
use Rattle.std.specs.Prelude.{[], ◌∷◌, List}
use Rattle.disk_model.specs.Disk.{Content, EachImage}
use Rattle.disk_model.specs.Moments.{HasNow}
use Rattle.device_model.specs.History.{Change, Flushed, History, with_changes}
use Rattle.device.specs.declared.mode.DeviceParts.{DeviceParts}
use Rattle.mirror_calls.specs.Leg.{IsLeftSince, LegOn}
use Rattle.mirror_core.specs.Stands.{MayBeLeftOf, StandsFor}

-- What it does to what the mirror was told.
abbrev pub closing : List Change
closing = Flushed ∷ []

-- At each moment of it each image may be left by what the mirror was told, with all flushed or not yet.
abbrev pub LeavesClosing : DeviceParts → (before after : List Content) → Type 0
LeavesClosing parts before after = (on : LegOn) (told : History) → StandsFor parts before on told
    → IsLeftSince (MayBeLeftOf on) told closing before after

-- Once it is closed all that the mirror was told is flushed.
abbrev pub LeavesFlushed : DeviceParts → (before after : List Content) → Type 0
LeavesFlushed parts before after = (on : LegOn) (told : History) → StandsFor parts before on told
    → HasNow (EachImage (MayBeLeftOf on (with_changes closing told))) after
