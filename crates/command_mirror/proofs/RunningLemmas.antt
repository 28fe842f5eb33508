-- A command of two images that can both be opened: they are no mirror, or its script is run on them.
use Rattle.std.proofs.Common.{◌≡◌, ℕ, ◌==◌, Bool, true, false, ◌&&◌, List, [], refl, sym, ◌∙◌, ap, subst, arith, inr, Option, Some, None}
use Rattle.std.specs.Option.{option_map}
use Rattle.disk_model.specs.Disk.{Content, Image, last_image}
use Rattle.disk_model.specs.Identity.{DiskIdentity}
use Rattle.disk_model.specs.Moments.{HasNow, content_now}
use Rattle.disk_model.proofs.MomentsLemmas.{EachMoment-then, EachMoment-weaker}
use Rattle.device_opening.proofs.MomentsLemmas.{now_told}
use Rattle.device_model.specs.Mode as Modes
use Rattle.run_model.specs.CommandRun.{IsOfDevice}
use Rattle.run_model.specs.Ending.{Ending}
use Rattle.judging_model.specs.declared.consent.Consent.{Consent}
use Rattle.judging_model.specs.Faults as faults
use Rattle.judging_model.specs.FaultLaws.{OpensLaw}
use Rattle.place_model.specs.Kind.{kind_in}
use Rattle.device_parts.specs.Device.{opened_standing}
use Rattle.device.specs.declared.mode.DeviceParts.{DeviceParts}
use Rattle.device.specs.declared.opening.OpenMode.TheVariants.{Journal}
use Rattle.device.specs.Opening.{HasOpenedIn, LeavesOpening, fault_in_mode}
use Rattle.mirror_calls.specs.Leg.{LegOn}
use Rattle.mirror_calls.specs.State.{unequal_of}
use Rattle.mirror_calls.specs.declared.mirror.Unequal.{Unequal}
use Rattle.mirror_core.specs.LegLaws.{leg_on}
use Rattle.mirror_core.specs.Stands.{MayBeLeftOf}
use Rattle.mirror_model.specs.Command.{IsMirrorRunAt, MirrorKind, MirrorOutset, Mirrors, RefusedLegs}
use Rattle.mirror_model.specs.Command.{first_blocks, mirror_outset, opened_mirror}
use Rattle.mirror_model.specs.Command.{outset_by_blocks, second_blocks, unequal_in}
use Rattle.mirror_model.specs.ScriptRun.{IsMirrorRunOf, MirrorRun}
use Rattle.command_model.specs.Mirroring.{HasReadIn, HasReadTo}
use Rattle.mirror_run.specs.Running.{IsStopped}
use Rattle.mirror_run.specs.Standing.{IsStanding, Standing, cuts_by, format_at}
use Rattle.command_ending.specs.Ended.{ending_of}
use Rattle.command_mirror.specs.Calls.{shown_of}
use Rattle.command_mirror.specs.Mirrored.{HasMirrored, HasMirrorMoments, leg_fault, mirror_kind_in, mirror_outset_on}
use Rattle.command_mirror.specs.Refusing.{ended_by_legs, image_fault_by}
use Rattle.command_mirror.proofs.LegLemmas.{leg_stands, of_device, of_device_now, of_device_within}
use Rattle.command_mirror.proofs.OpeningLemmas.{opening_leaves}
use Rattle.command_mirror.proofs.RefusedLemmas.{both_moments, ended_at_once}
use Rattle.command_mirror.proofs.UnbegunLemmas.{some_run}

-- ---- blocks that are equal, or are not

equal_numbers : (x y : ℕ) → x ≡ y → (x == y) ≡ true
equal_numbers x y is = grind (arith, is)

-- What two images start that can both be opened, where the blocks of the legs are equal,
pub with_equal : (kind : MirrorKind) (first second : Image)
    → (first_blocks kind first).blocks ≡ (second_blocks kind second).blocks
    → (first_blocks kind first).block_size ≡ (second_blocks kind second).block_size
    → mirror_outset kind first second None None ≡ Mirrors kind first second
with_equal kind first second blocks size =
    let a = first_blocks kind first in
    let b = second_blocks kind second in
    ap (outset_by_blocks kind first second)
    (ap (λ (x : Bool). x && (a.block_size == b.block_size)) (equal_numbers a.blocks b.blocks blocks)
    ∙ equal_numbers a.block_size b.block_size size)

-- and where they are not.
unequal_numbers : (a b c d : ℕ) → ((a ≡ b) × (c ≡ d) → ⊥) → ((a == b) && (c == d)) ≡ false
unequal_numbers a b c d other = grind (arith, other)

pub with_unequal : (kind : MirrorKind) (first second : Image)
    → (((first_blocks kind first).blocks ≡ (second_blocks kind second).blocks)
    × ((first_blocks kind first).block_size ≡ (second_blocks kind second).block_size) → ⊥)
    → mirror_outset kind first second None None ≡ RefusedLegs kind first second
with_unequal kind first second other =
    let a = first_blocks kind first in
    let b = second_blocks kind second in
    ap (outset_by_blocks kind first second) (unequal_numbers a.blocks b.blocks a.block_size b.block_size other)

-- ---- both images are open

module _ (law : OpensLaw) (consent : Consent) (key : Option (List ℕ)) (disk disk_now second_disk second_now : DiskIdentity)
    (a b second_a second_b : List Content) (start second_start : Content) (told : content_now a ≡ Some start)
    (told_second : content_now second_a ≡ Some second_start) (script : List ℕ)
    (parts second_parts : DeviceParts)
    (leaves : LeavesOpening (Journal consent) key disk disk_now a b)
    (second_leaves : LeavesOpening (Journal consent) key second_disk second_now second_a second_b)
    (none : fault_in_mode (Journal consent) key disk.sectors (last_image start) ≡ None)
    (second_none : fault_in_mode (Journal consent) key second_disk.sectors (last_image second_start) ≡ None)
    (has : HasOpenedIn (Journal consent) key disk a b parts)
    (second_has : HasOpenedIn (Journal consent) key second_disk second_a second_b second_parts) where
  abbrev image : Image
  image = last_image start

  abbrev second_image : Image
  second_image = last_image second_start

  abbrev kind : MirrorKind
  kind = mirror_kind_in key disk.sectors second_disk.sectors

  abbrev outset : MirrorOutset
  outset = mirror_outset_on consent key disk.sectors second_disk.sectors image second_image

  pub made : (c : Content) × (content_now b ≡ Some c)
  made = now_told (opening_leaves law consent key disk disk_now a b start told leaves none) start told

  pub second_made : (c : Content) × (content_now second_b ≡ Some c)
  second_made =
      now_told (opening_leaves law consent key second_disk second_now second_a second_b second_start told_second second_leaves second_none)
      second_start told_second

  abbrev leg : LegOn
  leg = leg_on (opened_standing Modes.Journal key disk.sectors image (last_image made.0))

  abbrev second_leg : LegOn
  second_leg = leg_on (opened_standing Modes.Journal key second_disk.sectors second_image (last_image second_made.0))

  -- The mirror that they are.
  abbrev w : Standing
  w = record { a = leg; b = second_leg; m = opened_mirror kind image second_image }

  pub is_standing : IsStanding w (shown_of parts second_parts b second_b)
  is_standing = record {
    first = leg_stands consent key disk parts a b start made.0 told made.1 has;
    second = leg_stands consent key second_disk second_parts second_a second_b second_start second_made.0 told_second second_made.1 second_has;
  }

  opened : HasNow (IsOfDevice kind.first image []) b
  opened = of_device_now consent key disk parts a b start made.0 told made.1 has

  second_opened : HasNow (IsOfDevice kind.second second_image []) second_b
  second_opened = of_device_now consent key second_disk second_parts second_a second_b second_start second_made.0 told_second second_made.1 second_has

  abbrev opening_moments : HasMirrorMoments outset start second_start script a b second_a second_b
  opening_moments =
      both_moments law consent key disk disk_now second_disk a b second_a start second_start told told_second script None leaves none opened
      second_now second_b second_leaves

  -- No image has a fault.
  by_blocks : outset ≡ mirror_outset kind image second_image None None
  by_blocks =
      ap (λ (f : Option faults.ImageFault). mirror_outset kind image second_image (option_map image_fault_by f)
      (leg_fault consent key second_disk.sectors second_image)) none
      ∙ ap (λ (f : Option faults.ImageFault). mirror_outset kind image second_image None (option_map image_fault_by f)) second_none

  -- The legs have the blocks of their images.
  blocks_are : (first_blocks kind image).blocks ≡ parts.common.slots.blocks
  blocks_are = is_standing.first.blocks

  size_is : (first_blocks kind image).block_size ≡ parts.common.slots.block_size
  size_is = is_standing.first.size

  second_blocks_are : (second_blocks kind second_image).blocks ≡ second_parts.common.slots.blocks
  second_blocks_are = is_standing.second.blocks

  second_size_is : (second_blocks kind second_image).block_size ≡ second_parts.common.slots.block_size
  second_size_is = is_standing.second.size

  -- ---- they are no mirror

  abbrev AreEqual : Type 0
  AreEqual = (parts.common.slots.blocks ≡ second_parts.common.slots.blocks)
      × (parts.common.slots.block_size ≡ second_parts.common.slots.block_size)

  ending_is : (unequal : Unequal) → unequal ≡ unequal_of parts.common.slots.blocks parts.common.slots.block_size
      second_parts.common.slots.blocks second_parts.common.slots.block_size
      → ending_of (ended_by_legs unequal) ≡ unequal_in kind image second_image
  ending_is unequal is =
      ap (λ (u : Unequal). ending_of (ended_by_legs u)) is
      ∙ ap (λ (n : ℕ). ending_of (ended_by_legs (unequal_of n parts.common.slots.block_size second_parts.common.slots.blocks
      second_parts.common.slots.block_size))) (sym blocks_are)
      ∙ ap (λ (n : ℕ). ending_of (ended_by_legs (unequal_of (first_blocks kind image).blocks n second_parts.common.slots.blocks
      second_parts.common.slots.block_size))) (sym size_is)
      ∙ ap (λ (n : ℕ). ending_of (ended_by_legs (unequal_of (first_blocks kind image).blocks (first_blocks kind image).block_size n
      second_parts.common.slots.block_size))) (sym second_blocks_are)
      ∙ ap (λ (n : ℕ). ending_of (ended_by_legs (unequal_of (first_blocks kind image).blocks (first_blocks kind image).block_size
      (second_blocks kind second_image).blocks n))) (sym second_size_is)

  pub refused_by_legs : (held : Option (List ℕ)) (unequal : Unequal)
      → unequal ≡ unequal_of parts.common.slots.blocks parts.common.slots.block_size second_parts.common.slots.blocks
      second_parts.common.slots.block_size → (AreEqual → ⊥)
      → HasMirrored outset start second_start script (ending_of (ended_by_legs unequal)) b second_b held held
      × HasMirrorMoments outset start second_start script a b second_a second_b
  refused_by_legs held unequal is other =
      let ending = unequal_in kind image second_image in
      let begins : outset ≡ RefusedLegs kind image second_image =
      by_blocks ∙ with_unequal kind image second_image
      (λ same. other (sym blocks_are ∙ same.0 ∙ second_blocks_are, sym size_is ∙ same.1 ∙ second_size_is)) in (
        subst (λ (o : MirrorOutset). HasMirrored o start second_start script (ending_of (ended_by_legs unequal)) b second_b held held)
            (sym begins)
            (subst (λ (e : Ending). HasMirrored (RefusedLegs kind image second_image) start second_start script e b second_b held held)
            (sym (ending_is unequal is))
            (ended_at_once (RefusedLegs kind image second_image) start second_start script ending refl b second_b
            (λ c at d at_second. record { on_first = opened c at; on_second = second_opened d at_second }) held)),
        opening_moments,
      )

  -- ---- the script is run on them

  module _ (equal : AreEqual) where
    mirrors : outset ≡ Mirrors kind image second_image
    mirrors =
        by_blocks ∙ with_equal kind image second_image (blocks_are ∙ equal.0 ∙ sym second_blocks_are)
        (size_is ∙ equal.1 ∙ sym second_size_is)

    abbrev on_mirror : MirrorOutset
    on_mirror = Mirrors kind image second_image

    module _ (ending : Ending) (later second_later : List Content) (held_before held : Option (List ℕ))
        (ran : (w : Standing) (run : MirrorRun) → IsStanding w (shown_of parts second_parts b second_b)
        → IsMirrorRunOf (format_at w) w.m script run
        → IsStopped (cuts_by MayBeLeftOf MayBeLeftOf) w run ending (record { first = b; second = second_b })
        (record { first = later; second = second_later }) held_before held) where
      a_run : (run : MirrorRun) × IsMirrorRunAt on_mirror script run
      a_run = some_run on_mirror script

      stopped : IsStopped (cuts_by MayBeLeftOf MayBeLeftOf) w a_run.0 ending (record { first = b; second = second_b })
          (record { first = later; second = second_later }) held_before held
      stopped = ran w a_run.0 is_standing a_run.1

      mirrored : HasMirrored on_mirror start second_start script ending later second_later held_before held
      mirrored = record {
        run = a_run.0;
        is_run = a_run.1;
        text = stopped.text;
        changes = stopped.changes;
        ended = stopped.ended;
        told = stopped.told;
        left = λ c at d at_second. inr (record {
          on_first = of_device consent key disk parts a b start made.0 told made.1 has stopped.changes.first c (stopped.first.now c at);
          on_second = of_device consent key second_disk second_parts second_a second_b second_start second_made.0 told_second second_made.1
              second_has stopped.changes.second d (stopped.second.now d at_second);
        });
      }

      moments : HasMirrorMoments outset start second_start script b later second_b second_later
      moments = subst (λ (o : MirrorOutset). HasMirrorMoments o start second_start script b later second_b second_later) (sym mirrors) (record {
        first = EachMoment-weaker (λ c within. record {
          run = a_run.0;
          is_run = a_run.1;
          made = within.made;
          left = inr (of_device_within consent key disk parts a b start made.0 told made.1 has _ c within);
        }) stopped.first.since;
        second = EachMoment-weaker (λ c within. record {
          run = a_run.0;
          is_run = a_run.1;
          made = within.made;
          left = inr (of_device_within consent key second_disk second_parts second_a second_b second_start second_made.0 told_second
              second_made.1 second_has _ c within);
        }) stopped.second.since;
      })

      pub run_on_legs : HasMirrored outset start second_start script ending later second_later held_before held
          × HasMirrorMoments outset start second_start script a later second_a second_later
      run_on_legs = (
        subst (λ (o : MirrorOutset). HasMirrored o start second_start script ending later second_later held_before held) (sym mirrors)
            mirrored,
        record {
          first = EachMoment-then opening_moments.first moments.first;
          second = EachMoment-then opening_moments.second moments.second;
        },
      )

    -- What is read of the script is so of the command's.
    pub read_on_legs : (failed : Type 0) (left held_before held : Option (List ℕ))
        → ((w : Standing) (run : MirrorRun) → IsStanding w (shown_of parts second_parts b second_b)
        → IsMirrorRunOf (format_at w) w.m script run → HasReadTo run script left held_before held failed)
        → HasReadIn outset script left held_before held failed
    read_on_legs failed left held_before held reads =
        subst (λ (o : MirrorOutset). HasReadIn o script left held_before held failed) (sym mirrors)
        (λ run is. reads w run is_standing is)

-- ---- one image that is open

-- What is left of its disk is left of a device on it.
pub opened_now : (consent : Consent) (key : Option (List ℕ)) (disk : DiskIdentity) (parts : DeviceParts) (a b : List Content)
    (start : Content) → content_now a ≡ Some start → HasOpenedIn (Journal consent) key disk a b parts
    → HasNow (IsOfDevice (kind_in Modes.Journal key disk.sectors) (last_image start) []) b
opened_now consent key disk parts a b start told has c at = of_device_now consent key disk parts a b start c told at has c at

pub false_is_no_true : false ≡ true → ⊥
false_is_no_true is = absurd (cc)
