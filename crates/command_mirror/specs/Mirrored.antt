-- A command of two images: what it starts on, and how far it came before its last line.
use Rattle.std.specs.Prelude.{◌≡◌, ℕ, List, Option}
use Rattle.std.specs.Option.{option_map}
use Rattle.disk_model.specs.Disk.{Content, Image}
use Rattle.disk_model.specs.Moments.{EachMoment, HasNow}
use Rattle.device_model.specs.Mode as Modes
use Rattle.device_model.specs.Refusals.{ImageFault}
use Rattle.place_model.specs.Kind.{kind_in}
use Rattle.judging_model.specs.declared.consent.Consent.{Consent}
use Rattle.device.specs.declared.opening.OpenMode.TheVariants.{Journal}
use Rattle.device.specs.Opening.{fault_in_mode}
use Rattle.stream_io.specs.Stream.{held_with}
use Rattle.run_model.specs.Ending.{Ending}
use Rattle.mirror_model.specs.Command.{FirstMayStandAt, IsMirrorAtExit, IsMirrorEndedBy, IsMirrorRunAt, MirrorKind}
use Rattle.mirror_model.specs.Command.{MirrorOutset, SecondMayStandAt, mirror_outset}
use Rattle.mirror_model.specs.Mirror.{LegChanges}
use Rattle.mirror_model.specs.ScriptRun.{MirrorRun}
use Rattle.command_mirror.specs.Refusing.{image_fault_by}

-- The legs of a mirror: each image is opened in journal mode, under one key.
abbrev pub mirror_kind_in : (key : Option (List ℕ)) → (sectors second_sectors : ℕ) → MirrorKind
mirror_kind_in key sectors second_sectors =
    record { first = kind_in Modes.Journal key sectors; second = kind_in Modes.Journal key second_sectors }

-- Why an image is refused as a leg, if it is.
abbrev pub leg_fault : Consent → (key : Option (List ℕ)) → (sectors : ℕ) → Image → Option ImageFault
leg_fault consent key sectors image = option_map image_fault_by (fault_in_mode (Journal consent) key sectors image)

-- What the command starts on, on disks of so many sectors with these images.
abbrev pub mirror_outset_on : Consent → (key : Option (List ℕ)) → (sectors second_sectors : ℕ)
    → (first second : Image) → MirrorOutset
mirror_outset_on consent key sectors second_sectors first second =
    mirror_outset (mirror_kind_in key sectors second_sectors) first second
    (leg_fault consent key sectors first) (leg_fault consent key second_sectors second)

-- It came so far, and ended so: the sink holds its text behind what it held, and this is left of both disks.
pub record HasMirrored (outset : MirrorOutset) (start second_start : Content) (script : List ℕ) (ending : Ending)
    (after second_after : List Content) (held_before held : Option (List ℕ)) : Type 0 where
  pub run : MirrorRun
  pub is_run : IsMirrorRunAt outset script run
  pub text : List ℕ
  pub changes : LegChanges
  pub ended : IsMirrorEndedBy run text changes ending
  pub told : held ≡ held_with text held_before
  pub left : HasNow (λ later. HasNow (IsMirrorAtExit outset start second_start changes ending later) second_after) after

-- What stands of each disk at each moment.
pub record HasMirrorMoments (outset : MirrorOutset) (start second_start : Content) (script : List ℕ)
    (before after second_before second_after : List Content) : Type 0 where
  pub first : EachMoment before after (FirstMayStandAt outset start script)
  pub second : EachMoment second_before second_after (SecondMayStandAt outset second_start script)
