-- Which leg of a mirror a device is, from the moment on at which the mirror was made.
-- Own: all was flushed then, and the mirror is told what has happened since, by tickets of its own.
use Rattle.std.specs.Prelude.{◌≡◌, ◌^◌, ◌<◌, ◌≤◌, List, []}
use Rattle.disk_model.specs.Disk.{Content, Image}
use Rattle.disk_model.specs.Identity.{DiskIdentity}
use Rattle.device_model.specs.History.{History}
use Rattle.device_model.specs.Mode as Modes
use Rattle.device_model.specs.ScriptLaws.{IsAtRest}
use Rattle.place_model.specs.Kind.{MayBeLeftIn}
use Rattle.device_parts.specs.declared.condition.Condition.{Condition}
use Rattle.device_parts.specs.declared.condition.Condition.TheVariants.{Working}
use Rattle.device_parts.specs.Device.{Standing}
use Rattle.device.specs.Calls.{Works}
use Rattle.device.specs.declared.mode.DeviceParts.{DeviceParts}
use Rattle.device.specs.Device.{IsDevice, mode_of}
use Rattle.mirror_calls.specs.Leg.{LegOn}
use Rattle.mirror_core.specs.Since.{IsSince}

-- It is this device, in journal mode, which works; and all its requests are taken.
pub record RestsAs (w : Standing) (parts : DeviceParts) (moments : List Content) : Type 0 where
  pub device : IsDevice w Working parts moments
  pub mode : w.format.mode ≡ Modes.Journal
  pub rests : IsAtRest w.state

-- It is such a device on the image of this leg, of whose history the mirror was told this one.
pub record StandsFor (parts : DeviceParts) (moments : List Content) (on : LegOn) (told : History) : Type 0 where
  pub w : Standing
  pub rests : RestsAs w parts moments
  pub format : on.format ≡ w.format.blocks
  pub key : on.key ≡ w.on.key
  pub sectors : on.sectors ≡ w.on.sectors
  pub entry : on.entry ≡ w.entry
  pub since : IsSince w.format.blocks.tag w.state.history told
  pub blocks : on.format.blocks ≡ parts.common.slots.blocks
  pub size : on.format.block_size ≡ parts.common.slots.block_size

-- What a cut may leave of it, by the history that the mirror was told.
abbrev pub MayBeLeftOf : LegOn → History → Image → Type 0
MayBeLeftOf on h image = MayBeLeftIn Modes.Journal on.key on.sectors on.entry h image

-- It works in journal mode, with no request in flight. Of its blocks are as few, and they are as long, as those of any
-- device.
pub record IsLeg {D : Type 0} (identity : D → DiskIdentity) (moments : D → List Content) (condition : Condition)
    (parts : DeviceParts) (disk : D) : Type 0 where
  pub works : Works identity moments condition parts disk
  pub mode : mode_of parts.mode ≡ Modes.Journal
  pub none : parts.common.slots.slots ≡ []
  pub few : parts.common.slots.blocks ≤ 2 ^ 48
  pub some : 1 ≤ parts.common.slots.block_size
  pub small : parts.common.slots.block_size < 2 ^ 16
