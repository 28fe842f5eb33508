-- Which devices are legs of a mirror, and what is left of one.
use Rattle.std.specs.Prelude.{◌≡◌, ℕ, List, [], length, Option, Some}
use Rattle.disk_model.specs.Disk.{Content, EachImage, last_image}
use Rattle.disk_model.specs.Identity.{DiskIdentity}
use Rattle.disk_model.specs.Moments.{HasNow, content_now}
use Rattle.device_model.specs.History.{History, cells_now, opened}
use Rattle.device_model.specs.Mode as Modes
use Rattle.place_model.specs.Format.{format_on}
use Rattle.place_model.specs.Opened.{blocks_of}
use Rattle.device_parts.specs.declared.condition.Condition.{Condition}
use Rattle.device_parts.specs.declared.condition.Condition.TheVariants.{Working}
use Rattle.device_parts.specs.Device.{Standing, opened_standing}
use Rattle.judging_model.specs.declared.consent.Consent.{Consent}
use Rattle.device.specs.Calls.{Works}
use Rattle.device.specs.Device.{mode_of}
use Rattle.device.specs.declared.mode.DeviceParts.{DeviceParts}
use Rattle.device.specs.declared.opening.OpenMode.TheVariants.{Journal}
use Rattle.device.specs.Opening.{HasOpenedIn}
use Rattle.mirror_calls.specs.Leg.{LegOn}
use Rattle.mirror_core.specs.Stands.{IsLeg, MayBeLeftOf, RestsAs, StandsFor}

-- A device in journal mode is one that works, and has all taken, whatever its disk tells,
abbrev pub RestingLegLaw : {D : Type 0} → (D → DiskIdentity) → (D → List Content) → Type 0
RestingLegLaw {D} identity moments = (condition : Condition) (parts : DeviceParts) (disk : D)
    → Works identity moments condition parts disk → mode_of parts.mode ≡ Modes.Journal
    → parts.common.slots.slots ≡ [] → IsLeg identity moments condition parts disk

-- and so one that has just been opened.
abbrev pub OpenedLegLaw : {D : Type 0} → (D → DiskIdentity) → (D → List Content) → Type 0
OpenedLegLaw {D} identity moments = (consent : Consent) (key : Option (List ℕ)) (condition : Condition)
    (parts : DeviceParts) (first last : D) → identity last ≡ identity first → condition ≡ Working
    → HasOpenedIn (Journal consent) key (identity first) (moments first) (moments last) parts
    → IsLeg identity moments condition parts last

-- ---- what a leg stands for, over a disk that tells its content

-- The leg that a device is, on the image that it was opened on, and the history that a mirror of it begins with.
abbrev pub leg_on : Standing → LegOn
leg_on w = record { format = w.format.blocks; key = w.on.key; sectors = w.on.sectors; entry = w.entry }

abbrev pub told_by : Standing → History
told_by w = opened (cells_now w.format.blocks.tag w.state.history)

-- A device stands for that once all is taken and all is flushed,
abbrev pub RestedLaw : Type 0
RestedLaw = (w : Standing) (parts : DeviceParts) (moments : List Content) → RestsAs w parts moments
    → w.state.history.flushed ≡ length w.state.history.writes → StandsFor parts moments (leg_on w) (told_by w)

-- and so does one that has just been opened.
abbrev pub OpenedLaw : Type 0
OpenedLaw = (consent : Consent) (key : Option (List ℕ)) (disk : DiskIdentity) (parts : DeviceParts)
    (before after : List Content) (start made : Content) → content_now before ≡ Some start
    → content_now after ≡ Some made → HasOpenedIn (Journal consent) key disk before after parts
    → let w = opened_standing Modes.Journal key disk.sectors (last_image start) (last_image made) in
    StandsFor parts after (leg_on w) (told_by w)

-- The blocks of a leg are those of the image that it was opened on, and each image may be left by what the mirror was
-- told.
pub record IsLeftAsTold (on : LegOn) (told : History) (moments : List Content) : Type 0 where
  pub blocks : on.format ≡ blocks_of (format_on on.key on.sectors on.entry)
  pub left : HasNow (EachImage (MayBeLeftOf on told)) moments

abbrev pub ToldLaw : Type 0
ToldLaw = (parts : DeviceParts) (moments : List Content) (on : LegOn) (told : History) → StandsFor parts moments on told
    → IsLeftAsTold on told moments
