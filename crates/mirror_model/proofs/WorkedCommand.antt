-- What a command of a mirror starts on and leaves, at small values: devices of 80 and of 208 blocks.
use Rattle.std.proofs.Common.{◌≡◌, ◌≢◌, inl, inr, List, ℕ, false, [], ◌∷◌, None, Some, refl}
use Rattle.std.specs.Prelude.{codes}
use Rattle.std.specs.Fmt.{digits}
use Rattle.disk_model.specs.Disk.{Content, Image}
use Rattle.image_model.specs.declared.super_fields.SuperFault.TheVariants.{Magic, Version}
use Rattle.device_model.specs.Device.{DeviceKind}
use Rattle.device_model.specs.Refusals.{BySuperblock}
use Rattle.device_model.specs.History.{Flushed}
use Rattle.device_model.specs.Mode.{Journal}
use Rattle.device_model.specs.Progress.{opened_device}
use Rattle.mirror_model.specs.Calls.{LevelCall, call_changes}
use Rattle.run_model.specs.CommandRun.{IsOfDevice, IsUntouched}
use Rattle.run_model.specs.Ending.{Ending, Refused, ByImage, BySecond, status_of, fault_text}
use Rattle.mirror_model.specs.Command.{MirrorKind, RefusedBefore, RefusedOpen, RefusedLegs, Mirrors, mirror_outset, mirror_format, opened_mirror, unequal_in, AreLegsLeft, IsMirrorAtExit}
use Rattle.mirror_model.specs.Mirror.{LegChanges, changes_on_first, changes_on_second, on_legs}

-- A device of so many blocks of 512 bytes, all of whose cells are empty.
abbrev device_of : ℕ → DeviceKind
device_of blocks = record {
  CanOpen = λ image. Unit {0};
  format = λ image. record {
    mode = Journal;
    blocks = record { blocks = blocks; block_size = 512; tag = λ b bytes. b ∷ [] };
    slots = 16;
    sections = 1;
    entries = 80;
    regions = 1;
    region_of = λ b. 0;
  };
  opened = λ image. opened_device (λ b. record { bytes = []; tag = b ∷ [] }) 0 (λ r. false) (λ r. false);
  MayBeLeft = λ image h left. Unit {0};
}

abbrev equal : MirrorKind
equal = record { first = device_of 80; second = device_of 80 }

abbrev unequal : MirrorKind
unequal = record { first = device_of 80; second = device_of 208 }

abbrev image : Image
image = λ sector. []

-- ---- which outset, in which order

mirror_outset-equal : mirror_outset equal image image None None ≡ Mirrors equal image image
mirror_outset-equal = refl

mirror_outset-unequal : mirror_outset unequal image image None None ≡ RefusedLegs unequal image image
mirror_outset-unequal = refl

-- A second image that is refused comes before legs that would be unequal,
mirror_outset-second : mirror_outset unequal image image None (Some (BySuperblock Magic)) ≡ RefusedOpen unequal image (BySuperblock Magic)
mirror_outset-second = refl

-- and the first image before the second.
mirror_outset-first : mirror_outset unequal image image (Some (BySuperblock (Version 9))) (Some (BySuperblock Magic))
    ≡ RefusedBefore (Refused (ByImage (BySuperblock (Version 9))))
mirror_outset-first = refl

-- ---- what is told

unequal_in-text : fault_text (unequal_in unequal image image) ≡ codes "fault legs 80 512 208 512\n"
unfolding digits
unequal_in-text = refl

second-text : fault_text (Refused (BySecond (BySuperblock Magic))) ≡ codes "fault second magic\n"
second-text = refl

first-text : fault_text (Refused (ByImage (BySuperblock Magic))) ≡ codes "fault image magic\n"
first-text = refl

statuses : (status_of (unequal_in unequal image image) ≡ 3) × (status_of (Refused (BySecond (BySuperblock Magic))) ≡ 3)
    × (status_of (Refused (ByImage (BySuperblock Magic))) ≡ 3)
statuses = (refl, refl, refl)

-- ---- the changes of each leg

-- A level flushes each leg, so no run that came to its end leaves a leg as it was before its first sync.
changes-level : let changes = call_changes (record (mirror_format equal image image) { blocks = 0 }) (opened_mirror equal image image) LevelCall in
    (changes_on_first changes ≡ Flushed ∷ []) × (changes_on_second changes ≡ Flushed ∷ [])
changes-level = (refl, refl)

-- ---- what is left

-- So no such run leaves a disk as it was at the start.
left-once_levelled : (start second_start later second_later : Content) (ending : Ending) (changes : LegChanges) → changes ≢ on_legs []
    → IsMirrorAtExit (Mirrors equal image image) start second_start changes ending later second_later → AreLegsLeft equal image image changes later second_later
left-once_levelled start second_start later second_later ending changes some (inl opening) = absurd (some opening.0)
left-once_levelled start second_start later second_later ending changes some (inr left) = left

-- By the refusal of the second image the first is open and keeps its cells, and the second is not written.
left-second_refused : (start second_start later second_later : Content)
    → IsMirrorAtExit (RefusedOpen unequal image (BySuperblock Magic)) start second_start (on_legs []) (Refused (BySecond (BySuperblock Magic))) later second_later
    → IsOfDevice unequal.first image [] later × IsUntouched second_start second_later
left-second_refused start second_start later second_later left = left

-- By unequal legs both are, and keep theirs.
left-unequal : (start second_start later second_later : Content)
    → IsMirrorAtExit (RefusedLegs unequal image image) start second_start (on_legs []) (unequal_in unequal image image) later second_later
    → IsOfDevice unequal.first image [] later × IsOfDevice unequal.second image [] second_later
left-unequal start second_start later second_later left = (left.on_first, left.on_second)
