-- The opening of both legs: what stands of each disk while it is opened, and where something outside ends that.
use Rattle.std.proofs.Common.{◌≡◌, ℕ, Bool, true, false, List, [], refl, inl, inr, Option, Some, None}
use Rattle.disk_model.specs.Disk.{Content, Image, last_image}
use Rattle.disk_model.specs.Identity.{DiskIdentity}
use Rattle.disk_model.specs.Moments.{EachMoment, content_now}
use Rattle.disk_model.proofs.MomentsLemmas.{EachMoment-weaker}
use Rattle.device_model.specs.Device.{DeviceKind}
use Rattle.device_model.specs.Mode as Modes
use Rattle.device_model.specs.Refusals.{ImageFault}
use Rattle.run_model.specs.CommandRun.{IsFromOutside, IsOfDevice, IsOfScriptRun, IsUntouched}
use Rattle.run_model.specs.Ending.{Complete, Ending, Failed, NoMemory, Refused}
use Rattle.judging_model.specs.declared.consent.Consent.{Consent}
use Rattle.judging_model.specs.Faults as faults
use Rattle.judging_model.specs.FaultLaws.{OpensLaw}
use Rattle.place_model.specs.Kind.{kind_in}
use Rattle.device_opening.proofs.MomentsLemmas.{EachMoment-both, each_from}
use Rattle.device.specs.declared.opening.OpenMode.TheVariants.{Journal}
use Rattle.device.specs.Opening.{LeavesOpening, fault_in_mode}
use Rattle.mirror_model.specs.Command.{IsFirstAtMoment, IsMirrorAtExit, IsSecondAtMoment, MirrorKind, MirrorOutset, Mirrors}
use Rattle.mirror_model.specs.Command.{RefusedBefore, RefusedLegs, RefusedOpen, first_blocks, has_equal_blocks}
use Rattle.mirror_model.specs.Command.{mirror_outset, outset_by_blocks, second_blocks}
use Rattle.mirror_model.specs.Mirror.{on_legs}
use Rattle.command_task.proofs.RunningLemmas.{now_of}
use Rattle.command_task.proofs.UnbegunLemmas.{untouched_through}
use Rattle.command_mirror.specs.Mirrored.{HasMirrorMoments}
use Rattle.command_mirror.proofs.UnbegunLemmas.{some_run}

-- ---- one image

module _ (law : OpensLaw) (consent : Consent) (key : Option (List ℕ)) (disk now : DiskIdentity) (a b : List Content)
    (start : Content) (told : content_now a ≡ Some start) (leaves : LeavesOpening (Journal consent) key disk now a b) where
  abbrev image : Image
  image = last_image start

  abbrev kind : DeviceKind
  kind = kind_in Modes.Journal key disk.sectors

  -- One that has no fault is left so that it can be opened,
  pub opening_leaves : fault_in_mode (Journal consent) key disk.sectors image ≡ None
      → EachMoment a b (IsOfScriptRun kind image start [])
  opening_leaves none =
      let left = leaves.left (now_of _ a start told ((law key consent disk.sectors image).0 none).0) in
      EachMoment-weaker (λ c both. inr (record { opens = both.0; left = both.1 }))
      (EachMoment-both (each_from _ start told left.opens) (each_from _ start told left.left))

  -- and one that is refused is synced at most.
  pub refusing_leaves : (fault : faults.ImageFault) → fault_in_mode (Journal consent) key disk.sectors image ≡ Some fault
      → EachMoment a b (IsUntouched start)
  refusing_leaves fault is = untouched_through start told (leaves.refused start told fault is)

-- ---- by what the command starts on

-- The first image, where it can be opened,
first_by_equal : (kind : MirrorKind) (first second : Image) (equal : Bool) (start c : Content)
    → IsOfScriptRun kind.first first start [] c → IsFirstAtMoment (outset_by_blocks kind first second equal) start [] c
first_by_equal kind first second true start c left = left
first_by_equal kind first second false start c left = left

pub first_at : (kind : MirrorKind) (first second : Image) (second_fault : Option ImageFault) (start c : Content)
    → IsOfScriptRun kind.first first start [] c
    → IsFirstAtMoment (mirror_outset kind first second None second_fault) start [] c
first_at kind first second (Some fault) start c left = left
first_at kind first second None start c left =
    first_by_equal kind first second (has_equal_blocks (first_blocks kind first) (second_blocks kind second)) start c left

-- and the second.
second_by_equal : (kind : MirrorKind) (first second : Image) (equal : Bool) (start c : Content)
    → IsOfScriptRun kind.second second start [] c → IsSecondAtMoment (outset_by_blocks kind first second equal) start [] c
second_by_equal kind first second true start c left = left
second_by_equal kind first second false start c left = left

pub second_at : (kind : MirrorKind) (first second : Image) (start c : Content)
    → IsOfScriptRun kind.second second start [] c → IsSecondAtMoment (mirror_outset kind first second None None) start [] c
second_at kind first second start c left =
    second_by_equal kind first second (has_equal_blocks (first_blocks kind first) (second_blocks kind second)) start c left

-- Both are legs of a mirror, or are not, by their blocks.
abbrev pub outset_of : (kind : MirrorKind) (first second : Image) → MirrorOutset
outset_of kind first second = mirror_outset kind first second None None

-- What stands of both disks at each moment, where nothing is done on the mirror yet.
pub moments_before : (outset : MirrorOutset) (start second_start : Content) (script : List ℕ)
    (before after second_before second_after : List Content) → EachMoment before after (IsFirstAtMoment outset start [])
    → EachMoment second_before second_after (IsSecondAtMoment outset second_start [])
    → HasMirrorMoments outset start second_start script before after second_before second_after
moments_before outset start second_start script before after second_before second_after first second =
    let run = some_run outset script in
    record {
      first = EachMoment-weaker (λ c left. record { run = run.0; is_run = run.1; made = 0; left = left }) first;
      second = EachMoment-weaker (λ c left. record { run = run.0; is_run = run.1; made = 0; left = left }) second;
    }

-- ---- what is left where something outside ended it

-- The first image was opened at most, and the second disk was not called.
pub left_by_first : (outset : MirrorOutset) (start second_start : Content) (ending : Ending) → IsFromOutside ending
    → (c : Content) → IsFirstAtMoment outset start [] c
    → IsMirrorAtExit outset start second_start (on_legs []) ending c second_start
left_by_first (RefusedBefore refused) start second_start ending outside c left = (left, refl)
left_by_first (RefusedOpen kind first fault) start second_start (Complete found_fault) outside c left = absurd outside
left_by_first (RefusedOpen kind first fault) start second_start (Refused refusal) outside c left = absurd outside
left_by_first (RefusedOpen kind first fault) start second_start (Failed outer) outside c left = (left, inl refl)
left_by_first (RefusedOpen kind first fault) start second_start NoMemory outside c left = (left, inl refl)
left_by_first (RefusedLegs kind first second) start second_start (Complete found_fault) outside c left = absurd outside
left_by_first (RefusedLegs kind first second) start second_start (Refused refusal) outside c left = absurd outside
left_by_first (RefusedLegs kind first second) start second_start (Failed outer) outside c left = inl (left, refl)
left_by_first (RefusedLegs kind first second) start second_start NoMemory outside c left = inl (left, refl)
left_by_first (Mirrors kind first second) start second_start ending outside c left = inl (refl, inl (left, refl))

-- The first is open, and the second was opened at most.
second_left_by : (kind : MirrorKind) (first second : Image) (equal : Bool) (start second_start : Content)
    (ending : Ending) → IsFromOutside ending → (c d : Content) → IsOfDevice kind.first first [] c
    → IsSecondAtMoment (outset_by_blocks kind first second equal) second_start [] d
    → IsMirrorAtExit (outset_by_blocks kind first second equal) start second_start (on_legs []) ending c d
second_left_by kind first second true start second_start ending outside c d opened left = inl (refl, inr (opened, left))
second_left_by kind first second false start second_start (Complete found_fault) outside c d opened left = absurd outside
second_left_by kind first second false start second_start (Refused refusal) outside c d opened left = absurd outside
second_left_by kind first second false start second_start (Failed outer) outside c d opened left = inr (opened, left)
second_left_by kind first second false start second_start NoMemory outside c d opened left = inr (opened, left)

pub left_by_second : (kind : MirrorKind) (first second : Image) (second_fault : Option ImageFault)
    (start second_start : Content) (ending : Ending) → IsFromOutside ending → (c d : Content)
    → IsOfDevice kind.first first [] c
    → IsSecondAtMoment (mirror_outset kind first second None second_fault) second_start [] d
    → IsMirrorAtExit (mirror_outset kind first second None second_fault) start second_start (on_legs []) ending c d
left_by_second kind first second (Some fault) start second_start (Complete found_fault) outside c d opened left =
    absurd outside
left_by_second kind first second (Some fault) start second_start (Refused refusal) outside c d opened left =
    absurd outside
left_by_second kind first second (Some fault) start second_start (Failed outer) outside c d opened left =
    (inr opened, left)
left_by_second kind first second (Some fault) start second_start NoMemory outside c d opened left = (inr opened, left)
left_by_second kind first second None start second_start ending outside c d opened left =
    second_left_by kind first second (has_equal_blocks (first_blocks kind first) (second_blocks kind second))
    start second_start ending outside c d opened left
