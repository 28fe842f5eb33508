-- A leg that has just been opened on an image: what is left of it is left of the device on that image.
use Rattle.std.proofs.Common.{◌≡◌, ℕ, Bool, true, false, if◌then◌else◌, List, [], take, refl, sym, ◌∙◌, ap, subst, Option, Some}
use Rattle.disk_model.specs.Disk.{Content, EachImage, Image, last_image}
use Rattle.disk_model.specs.Identity.{DiskIdentity}
use Rattle.disk_model.specs.Moments.{HasNow, content_now}
use Rattle.device_model.specs.Device.{DeviceKind}
use Rattle.device_model.specs.History.{Change, History, cells_now, opened, with_changes}
use Rattle.device_model.specs.Mode as Modes
use Rattle.run_model.specs.CommandRun.{IsOfDevice}
use Rattle.judging_model.specs.declared.consent.Consent.{Consent}
use Rattle.place_model.specs.Changed.{changed_device, changes_mode}
use Rattle.place_model.specs.Format.{DiskFormat, format_on}
use Rattle.place_model.specs.Kind.{MayBeLeftIn, kind_in}
use Rattle.place_model.specs.Opened.{opened_on}
use Rattle.device_parts.specs.Device.{IsOfSameBlocks, Standing, opened_standing}
use Rattle.device.specs.declared.mode.DeviceParts.{DeviceParts}
use Rattle.device.specs.declared.opening.OpenMode.TheVariants.{Journal}
use Rattle.device.specs.Opening.{HasOpenedIn}
use Rattle.mirror_calls.specs.Leg.{IsLeftWithin}
use Rattle.mirror_core.specs.LegLaws.{leg_on, told_by}
use Rattle.mirror_core.specs.Stands.{MayBeLeftOf, StandsFor}
use Rattle.mirror_core.proofs.OpenedLemmas.{opened_law, told_law}
use Rattle.command_task.proofs.JudgedLemmas.{kind_opened}

-- The history of a device that has just been opened is empty.
fresh_by : (t : Bool) (d : DiskFormat) (image : Image)
    → (if t then changed_device d image else opened_on Modes.Journal d image).history
    ≡ opened (if t then changed_device d image else opened_on Modes.Journal d image).history.base
fresh_by true d image = refl
fresh_by false d image = refl

module _ (consent : Consent) (key : Option (List ℕ)) (disk : DiskIdentity) (parts : DeviceParts) (a b : List Content)
    (start made : Content) (told : content_now a ≡ Some start) (told_made : content_now b ≡ Some made)
    (has : HasOpenedIn (Journal consent) key disk a b parts) where
  abbrev image : Image
  image = last_image start

  abbrev kind : DeviceKind
  kind = kind_in Modes.Journal key disk.sectors

  abbrev w : Standing
  w = opened_standing Modes.Journal key disk.sectors image (last_image made)

  -- The history that a mirror is told.
  abbrev begun : History
  begun = opened (kind.opened image).history.base

  fresh : (kind.opened image).history ≡ begun
  fresh =
      let d = format_on key disk.sectors image in
      fresh_by (changes_mode Modes.Journal d.superblock) d image

  told_begun : told_by w ≡ begun
  told_begun = ap (λ (h : History). opened (cells_now w.format.blocks.tag h)) fresh

  -- It stands for that.
  pub leg_stands : StandsFor parts b (leg_on w) begun
  leg_stands = subst (StandsFor parts b (leg_on w)) told_begun (opened_law consent key disk parts a b start made told told_made has)

  same : IsOfSameBlocks Modes.Journal key disk.sectors image (last_image made)
  same = has.blocks start told made told_made

  -- What may be left of the leg may be left of the device on the image at the start,
  left_at_start : (h : History) (left : Image) → MayBeLeftOf (leg_on w) h left
      → MayBeLeftIn Modes.Journal key disk.sectors image h left
  left_at_start h left is =
      let judged : kind.MayBeLeft w.entry h left =
      subst (λ (k : DeviceKind). k.MayBeLeft w.entry h left)
      (kind_opened Modes.Journal key disk.sectors image (last_image made)) is in
      record { blocks = judged.blocks ∙ same.blocks; left_is = judged.left_is }

  -- and can be opened.
  pub of_device : (changes : List Change) (c : Content)
      → EachImage (MayBeLeftOf (leg_on w) (with_changes changes begun)) c → IsOfDevice kind image changes c
  of_device changes c each = record {
    opens = λ left at. (left_at_start (with_changes changes begun) left (each left at)).left_is.opens.openable;
    left = λ left at.
        subst (λ (h : History). MayBeLeftIn Modes.Journal key disk.sectors image (with_changes changes h) left)
        (sym fresh) (left_at_start (with_changes changes begun) left (each left at));
  }

  -- So it is at a moment behind some of its changes,
  pub of_device_within : (changes : List Change) (c : Content)
      → (within : IsLeftWithin (MayBeLeftOf (leg_on w)) begun changes c)
      → IsOfDevice kind image (take within.made changes) c
  of_device_within changes c within = of_device (take within.made changes) c within.left

  -- and where nothing is done.
  pub of_device_now : HasNow (IsOfDevice kind image []) b
  of_device_now c at = of_device [] c ((told_law parts b (leg_on w) begun leg_stands).left c at)
