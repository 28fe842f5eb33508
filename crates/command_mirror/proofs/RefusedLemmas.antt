-- A command of two images that opens none of them, or only the first, or both which are no mirror.
use Rattle.std.proofs.Common.{◌≡◌, ◌≢◌, ℕ, List, [], refl, sym, ◌∙◌, ap, subst, inl, Option, Some, None, Err}
use Rattle.std.specs.Option.{option_map}
use Rattle.disk_model.specs.Disk.{Content, Image, last_image}
use Rattle.disk_model.specs.Identity.{DiskIdentity}
use Rattle.disk_model.specs.Moments.{EachMoment, HasNow, content_now}
use Rattle.disk_model.proofs.MomentsLemmas.{EachMoment-weaker, content_at_end, no_moment}
use Rattle.device_model.specs.Refusals.{ImageFault}
use Rattle.run_model.specs.CommandRun.{IsFromOutside, IsOfDevice}
use Rattle.run_model.specs.Ending.{ByImage, BySecond, Ending, Failed, NoMemory, Refused}
use Rattle.run_model.specs.declared.outer.Outer.TheVariants as outers
use Rattle.judging_model.specs.declared.consent.Consent.{Consent}
use Rattle.judging_model.specs.Faults as faults
use Rattle.judging_model.specs.Faults.{fault_in}
use Rattle.judging_model.specs.FaultLaws.{OpensLaw}
use Rattle.image_refusal.specs.declared.call_fault.CallFault.{CallFault}
use Rattle.image_refusal.specs.declared.call_fault.CallFault.TheVariants as CallFaults
use Rattle.image_refusal.specs.declared.open_fault.HeadFault.TheVariants as HeadFaults
use Rattle.image_refusal.specs.declared.open_fault.OpenFault.{OpenFault}
use Rattle.image_refusal.specs.declared.open_fault.OpenFault.TheVariants as OpenFaults
use Rattle.device.specs.declared.mode.DeviceParts.{DeviceParts}
use Rattle.device.specs.declared.opening.OpenMode.TheVariants.{Journal}
use Rattle.device.specs.Opening.{IsRefused, LeavesOpening, fault_in_mode}
use Rattle.mirror_model.specs.Command.{IsFirstAtMoment, IsMirrorAtExit, IsMirrorRunAt, IsSecondAtMoment, MirrorKind}
use Rattle.mirror_model.specs.Command.{MirrorOutset, RefusedBefore, RefusedOpen, mirror_outset}
use Rattle.mirror_model.specs.Mirror.{on_legs}
use Rattle.mirror_model.specs.ScriptRun.{mirror_only_ends}
use Rattle.mirror_run.proofs.StoppingLemmas.{told_nothing}
use Rattle.command_ending.specs.Ended.{ending_of}
use Rattle.command_task.specs.Refusing.{ended_by_opening}
use Rattle.command_task.proofs.RunningLemmas.{now_of}
use Rattle.command_task.proofs.UnbegunLemmas.{untouched_kept}
use Rattle.command_mirror.specs.Mirrored.{HasMirrored, HasMirrorMoments, leg_fault, mirror_kind_in, mirror_outset_on}
use Rattle.command_mirror.specs.Refusing.{ended_by_second, image_fault_by}
use Rattle.command_mirror.proofs.OpeningLemmas.{first_at, left_by_first, left_by_second, moments_before, opening_leaves}
use Rattle.command_mirror.proofs.OpeningLemmas.{refusing_leaves, second_at}
use Rattle.command_mirror.proofs.UnbegunLemmas.{left_as_it_was, nothing_mirrored, sound_on}

-- A run that only ends so, of a command that starts on this, has come to its end.
pub ended_at_once : (outset : MirrorOutset) (start second_start : Content) (script : List ℕ) (ending : Ending)
    → IsMirrorRunAt outset script (mirror_only_ends ending) → (after second_after : List Content)
    → HasNow (λ later. HasNow (IsMirrorAtExit outset start second_start (on_legs []) ending later) second_after) after
    → (held : Option (List ℕ)) → HasMirrored outset start second_start script ending after second_after held held
ended_at_once outset start second_start script ending is after second_after left held = record {
  run = mirror_only_ends ending;
  is_run = is;
  text = [];
  changes = on_legs [];
  ended = inl (record { whole = record { is_text = refl; is_changes = refl }; is = refl });
  told = told_nothing held;
  left = left;
}

-- Of a disk that tells its content each content now is that one.
is_now : (moments : List Content) (start c : Content) → content_now moments ≡ Some start → content_now moments ≡ Some c → start ≡ c
is_now moments start c told at = now_of (λ x. start ≡ x) moments start told refl c at

module _ (law : OpensLaw) (consent : Consent) (key : Option (List ℕ)) (disk disk_now second_disk : DiskIdentity)
    (a b second_a : List Content) (start second_start : Content) (told : content_now a ≡ Some start)
    (told_second : content_now second_a ≡ Some second_start) (script : List ℕ) (held : Option (List ℕ)) where
  abbrev image : Image
  image = last_image start

  abbrev second_image : Image
  second_image = last_image second_start

  abbrev mirror_kind : MirrorKind
  mirror_kind = mirror_kind_in key disk.sectors second_disk.sectors

  abbrev fault_of : Option faults.ImageFault
  fault_of = fault_in_mode (Journal consent) key disk.sectors image

  abbrev second_fault : Option ImageFault
  second_fault = leg_fault consent key second_disk.sectors second_image

  abbrev outset : MirrorOutset
  outset = mirror_outset_on consent key disk.sectors second_disk.sectors image second_image

  -- ---- the first

  module _ (leaves : LeavesOpening (Journal consent) key disk disk_now a b) where
    first_by : (fault : Option faults.ImageFault) → fault_of ≡ fault
        → EachMoment a b (IsFirstAtMoment (mirror_outset mirror_kind image second_image (option_map image_fault_by fault) second_fault) start [])
    first_by None none =
        EachMoment-weaker (λ c left. first_at mirror_kind image second_image second_fault start c left)
        (opening_leaves law consent key disk disk_now a b start told leaves none)
    first_by (Some fault) is = refusing_leaves law consent key disk disk_now a b start told leaves fault is

    pub first_moments : EachMoment a b (IsFirstAtMoment outset start [])
    first_moments = first_by fault_of refl

    -- It is as before, or open, or synced at most: also where it was as before at the start.
    start_by : (fault : Option faults.ImageFault) → IsFirstAtMoment (mirror_outset mirror_kind image second_image (option_map image_fault_by fault) second_fault) start [] start
    start_by None = first_at mirror_kind image second_image second_fault start start (inl (refl, inl refl))
    start_by (Some fault) = inl refl

    pub first_now : HasNow (IsFirstAtMoment outset start []) b
    first_now = content_at_end first_moments (now_of (IsFirstAtMoment outset start []) a start told (start_by fault_of))

    first_moments_all : HasMirrorMoments outset start second_start script a b second_a second_a
    first_moments_all =
        moments_before outset start second_start script a b second_a second_a first_moments
        (no_moment second_a (IsSecondAtMoment outset second_start []))

    -- Something outside ended it,
    first_from_outside : (ending : Ending) → IsFromOutside ending → HasMirrored outset start second_start script ending b second_a held held
    first_from_outside ending outside =
        nothing_mirrored outset (sound_on mirror_kind image second_image (option_map image_fault_by fault_of) second_fault)
        start second_start script ending outside b second_a
        (λ c at d at_second.
        subst (λ (x : Content). IsMirrorAtExit outset start second_start (on_legs []) ending c x)
        (is_now second_a second_start d told_second at_second)
        (left_by_first outset start second_start ending outside c (first_now c at))) held

    -- or the image is refused.
    refused_for : (fault : faults.ImageFault) → b ≡ a → fault_of ≡ Some fault
        → HasMirrored outset start second_start script (Refused (ByImage (image_fault_by fault))) b second_a held held
    refused_for fault same is =
        let ending = Refused (ByImage (image_fault_by fault)) in
        let by : outset ≡ RefusedBefore ending =
        ap (λ (f : Option faults.ImageFault). mirror_outset mirror_kind image second_image (option_map image_fault_by f) second_fault) is in
        subst (λ (o : MirrorOutset). HasMirrored o start second_start script ending b second_a held held) (sym by)
        (ended_at_once (RefusedBefore ending) start second_start script ending refl b second_a
        (λ c at d at_second. (untouched_kept start told same c at, sym (is_now second_a second_start d told_second at_second))) held)

    told_as : (refusal : faults.ImageFault) (fault : CallFault OpenFault) → IsRefused (Journal consent) key disk a b fault
        → fault ≢ CallFaults.Disk → fault ≢ CallFaults.Memory → fault_in {T = DeviceParts} (Err fault) ≡ Some refusal
        → HasMirrored outset start second_start script (Refused (ByImage (image_fault_by refusal))) b second_a held held
    told_as refusal fault refused not_disk not_memory is =
        refused_for refusal (refused.untouched not_disk) (sym (refused.told not_disk not_memory start told) ∙ is)

    mirrored_by_first : (fault : CallFault OpenFault) → IsRefused (Journal consent) key disk a b fault
        → HasMirrored outset start second_start script (ending_of (ended_by_opening fault)) b second_a held held
    mirrored_by_first CallFaults.Memory refused = first_from_outside NoMemory tt
    mirrored_by_first CallFaults.Disk refused = first_from_outside (Failed outers.Disk) tt
    mirrored_by_first (CallFaults.Refused (OpenFaults.Head (HeadFaults.Super fault))) refused =
        told_as _ (CallFaults.Refused (OpenFaults.Head (HeadFaults.Super fault))) refused (λ is. absurd (cc)) (λ is. absurd (cc)) refl
    mirrored_by_first (CallFaults.Refused (OpenFaults.Head (HeadFaults.Geom fault))) refused =
        told_as _ (CallFaults.Refused (OpenFaults.Head (HeadFaults.Geom fault))) refused (λ is. absurd (cc)) (λ is. absurd (cc)) refl
    mirrored_by_first (CallFaults.Refused (OpenFaults.Consent flags)) refused =
        told_as _ (CallFaults.Refused (OpenFaults.Consent flags)) refused (λ is. absurd (cc)) (λ is. absurd (cc)) refl
    mirrored_by_first (CallFaults.Refused (OpenFaults.Journal fault)) refused =
        told_as _ (CallFaults.Refused (OpenFaults.Journal fault)) refused (λ is. absurd (cc)) (λ is. absurd (cc)) refl

    -- The first image is not opened.
    pub refused_by_first : (fault : CallFault OpenFault) → IsRefused (Journal consent) key disk a b fault
        → HasMirrored outset start second_start script (ending_of (ended_by_opening fault)) b second_a held held
        × HasMirrorMoments outset start second_start script a b second_a second_a
    refused_by_first fault refused = (mirrored_by_first fault refused, first_moments_all)

  -- ---- the second, where the first is open

  module _ (leaves : LeavesOpening (Journal consent) key disk disk_now a b) (none : fault_of ≡ None)
      (opened : HasNow (IsOfDevice mirror_kind.first image []) b) (second_now : DiskIdentity) (second_b : List Content)
      (second_leaves : LeavesOpening (Journal consent) key second_disk second_now second_a second_b) where
    abbrev second_fault_of : Option faults.ImageFault
    second_fault_of = fault_in_mode (Journal consent) key second_disk.sectors second_image

    abbrev outset_by : Option faults.ImageFault → MirrorOutset
    outset_by fault = mirror_outset mirror_kind image second_image None (option_map image_fault_by fault)

    -- It starts so, where the first image has no fault.
    pub begins : outset ≡ outset_by second_fault_of
    begins = ap (λ (f : Option faults.ImageFault). mirror_outset mirror_kind image second_image (option_map image_fault_by f) second_fault) none

    second_by : (fault : Option faults.ImageFault) → second_fault_of ≡ fault
        → EachMoment second_a second_b (IsSecondAtMoment (outset_by fault) second_start [])
    second_by None is =
        EachMoment-weaker (λ c left. second_at mirror_kind image second_image second_start c left)
        (opening_leaves law consent key second_disk second_now second_a second_b second_start told_second second_leaves is)
    second_by (Some fault) is =
        refusing_leaves law consent key second_disk second_now second_a second_b second_start told_second second_leaves fault is

    pub second_moments : EachMoment second_a second_b (IsSecondAtMoment outset second_start [])
    second_moments =
        subst (λ (o : MirrorOutset). EachMoment second_a second_b (IsSecondAtMoment o second_start [])) (sym begins)
        (second_by second_fault_of refl)

    second_start_by : (fault : Option faults.ImageFault) → IsSecondAtMoment (outset_by fault) second_start [] second_start
    second_start_by None = second_at mirror_kind image second_image second_start second_start (inl (refl, inl refl))
    second_start_by (Some fault) = inl refl

    second_now_by : HasNow (IsSecondAtMoment (outset_by second_fault_of) second_start []) second_b
    second_now_by =
        content_at_end (second_by second_fault_of refl)
        (now_of (IsSecondAtMoment (outset_by second_fault_of) second_start []) second_a second_start told_second (second_start_by second_fault_of))

    pub both_moments : HasMirrorMoments outset start second_start script a b second_a second_b
    both_moments =
        moments_before outset start second_start script a b second_a second_b (first_moments leaves) second_moments

    second_from_outside : (ending : Ending) → IsFromOutside ending → HasMirrored outset start second_start script ending b second_b held held
    second_from_outside ending outside =
        nothing_mirrored outset (sound_on mirror_kind image second_image (option_map image_fault_by fault_of) second_fault)
        start second_start script ending outside b second_b
        (λ c at d at_second.
        subst (λ (o : MirrorOutset). IsMirrorAtExit o start second_start (on_legs []) ending c d) (sym begins)
        (left_by_second mirror_kind image second_image second_fault start second_start ending outside c d (opened c at)
        (second_now_by d at_second))) held

    second_refused_for : (fault : faults.ImageFault) → second_b ≡ second_a → second_fault_of ≡ Some fault
        → HasMirrored outset start second_start script (Refused (BySecond (image_fault_by fault))) b second_b held held
    second_refused_for fault same is =
        let refusal = image_fault_by fault in
        let by : outset ≡ RefusedOpen mirror_kind image refusal = begins ∙ ap outset_by is in
        subst (λ (o : MirrorOutset). HasMirrored o start second_start script (Refused (BySecond refusal)) b second_b held held) (sym by)
        (ended_at_once (RefusedOpen mirror_kind image refusal) start second_start script (Refused (BySecond refusal)) refl b second_b
        (λ c at d at_second. (opened c at, untouched_kept second_start told_second same d at_second)) held)

    second_told_as : (refusal : faults.ImageFault) (fault : CallFault OpenFault)
        → IsRefused (Journal consent) key second_disk second_a second_b fault
        → fault ≢ CallFaults.Disk → fault ≢ CallFaults.Memory → fault_in {T = DeviceParts} (Err fault) ≡ Some refusal
        → HasMirrored outset start second_start script (Refused (BySecond (image_fault_by refusal))) b second_b held held
    second_told_as refusal fault refused not_disk not_memory is =
        second_refused_for refusal (refused.untouched not_disk) (sym (refused.told not_disk not_memory second_start told_second) ∙ is)

    mirrored_by_second : (fault : CallFault OpenFault) → IsRefused (Journal consent) key second_disk second_a second_b fault
        → HasMirrored outset start second_start script (ending_of (ended_by_second fault)) b second_b held held
    mirrored_by_second CallFaults.Memory refused = second_from_outside NoMemory tt
    mirrored_by_second CallFaults.Disk refused = second_from_outside (Failed outers.Disk) tt
    mirrored_by_second (CallFaults.Refused (OpenFaults.Head (HeadFaults.Super fault))) refused =
        second_told_as _ (CallFaults.Refused (OpenFaults.Head (HeadFaults.Super fault))) refused (λ is. absurd (cc)) (λ is. absurd (cc)) refl
    mirrored_by_second (CallFaults.Refused (OpenFaults.Head (HeadFaults.Geom fault))) refused =
        second_told_as _ (CallFaults.Refused (OpenFaults.Head (HeadFaults.Geom fault))) refused (λ is. absurd (cc)) (λ is. absurd (cc)) refl
    mirrored_by_second (CallFaults.Refused (OpenFaults.Consent flags)) refused =
        second_told_as _ (CallFaults.Refused (OpenFaults.Consent flags)) refused (λ is. absurd (cc)) (λ is. absurd (cc)) refl
    mirrored_by_second (CallFaults.Refused (OpenFaults.Journal fault)) refused =
        second_told_as _ (CallFaults.Refused (OpenFaults.Journal fault)) refused (λ is. absurd (cc)) (λ is. absurd (cc)) refl

    -- The second image is not opened.
    pub refused_by_second : (fault : CallFault OpenFault) → IsRefused (Journal consent) key second_disk second_a second_b fault
        → HasMirrored outset start second_start script (ending_of (ended_by_second fault)) b second_b held held
        × HasMirrorMoments outset start second_start script a b second_a second_b
    refused_by_second fault refused = (mirrored_by_second fault refused, both_moments)

-- There was no memory before the first image was opened.
pub nothing_begun : (consent : Consent) (key : Option (List ℕ)) (sectors second_sectors : ℕ) (a second_a : List Content)
    (start second_start : Content) → content_now a ≡ Some start → content_now second_a ≡ Some second_start
    → (script : List ℕ) (held : Option (List ℕ))
    → let outset = mirror_outset_on consent key sectors second_sectors (last_image start) (last_image second_start) in
    HasMirrored outset start second_start script NoMemory a second_a held held
    × HasMirrorMoments outset start second_start script a a second_a second_a
nothing_begun consent key sectors second_sectors a second_a start second_start told told_second script held =
    let outset = mirror_outset_on consent key sectors second_sectors (last_image start) (last_image second_start) in (
      nothing_mirrored outset
          (sound_on (mirror_kind_in key sectors second_sectors) (last_image start) (last_image second_start)
          (leg_fault consent key sectors (last_image start)) (leg_fault consent key second_sectors (last_image second_start)))
          start second_start script NoMemory tt a second_a
          (λ c at d at_second.
          subst (λ (x : Content). IsMirrorAtExit outset start second_start (on_legs []) NoMemory x d) (is_now a start c told at)
          (subst (λ (x : Content). IsMirrorAtExit outset start second_start (on_legs []) NoMemory start x)
          (is_now second_a second_start d told_second at_second) (left_as_it_was outset start second_start NoMemory tt))) held,
      moments_before outset start second_start script a a second_a second_a
          (no_moment a (IsFirstAtMoment outset start [])) (no_moment second_a (IsSecondAtMoment outset second_start [])),
    )
