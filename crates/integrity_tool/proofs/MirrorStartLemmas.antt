-- A command of two images by what it is given: what ends it before its first step, and what one that has run leaves.
use Rattle.std.proofs.Common.{◌≡◌, ◌⊎◌, ℕ, List, [], refl, sym, ◌∙◌, ap, subst, arith, inl, inr, Option, None, Some, Result, Ok, Err}
use Rattle.std.specs.Prelude.{option_and_then}
use Rattle.std.proofs.lemmas.Option.{same_Some}
use Rattle.disk_model.specs.Disk.{Content, last_image}
use Rattle.disk_model.specs.Identity.{NamedDisk}
use Rattle.disk_model.specs.Moments.{content_now, EachMoment, HasNow}
use Rattle.disk_model.proofs.MomentsLemmas.{EachMoment-kept}
use Rattle.run_model.specs.CommandRun.{IsFromOutside}
use Rattle.run_model.specs.Ending.{ByKey, Ending, Failed, NoMemory, Refused}
use Rattle.run_model.specs.declared.key_refusal.KeyRefusal.{KeyRefusal}
use Rattle.run_model.specs.declared.outer.Outer.TheVariants as outers
use Rattle.mirror_model.specs.Command.{FirstMayStandAt, IsMirrorAtExit, MirrorOutset, Mirrors, RefusedBefore, RefusedLegs, RefusedOpen, SecondMayStandAt}
use Rattle.mirror_model.specs.Mirror.{on_legs}
use Rattle.mirror_model.specs.ScriptRun.{mirror_only_ends}
use Rattle.command_ending.specs.Ended.{ending_of}
use Rattle.command_ending.specs.declared.ended.Ended.{Ended}
use Rattle.command_ending.specs.declared.ended.Ended.TheVariants as Endings
use Rattle.command_ending.specs.declared.refusal.Refusal.TheVariants as refusals
use Rattle.command_model.specs.Outset.{key_by}
use Rattle.command_task.specs.Words.{asking_of, key_file_of}
use Rattle.command_task.specs.declared.asked.AskedMirror.{AskedMirror}
use Rattle.command_task.specs.declared.asked.Asking.{Asking}
use Rattle.command_task.specs.declared.asked.Asking.TheVariants.{OneImage, TwoImages}
use Rattle.command_model.specs.Mirroring.{HasReadIn}
use Rattle.command_task.proofs.RunningLemmas.{now_of, told_nothing}
use Rattle.command_mirror.specs.Mirrored.{HasMirrored, HasMirrorMoments, leg_fault, mirror_kind_in, mirror_outset_on}
use Rattle.command_mirror.proofs.UnbegunLemmas.{IsSound, left_as_it_was, nothing_mirrored, sound_on}
use Rattle.integrity_tool.specs.KeyFile.{HasHash, IsKeyRefused, IsKeyed}
use Rattle.integrity_tool.specs.Mirrored.{IsMirrorGiven, MirrorGiven, first_in, keyed_mirror, mirror_outset_in, second_in}
use Rattle.command_model.specs.World.{World}
use Rattle.integrity_tool.proofs.WorldLemmas.{no_command}

-- The words of a mirror ask for one alone.
abbrev on_two_images : Asking → Option AskedMirror
on_two_images (OneImage asked) = None
on_two_images (TwoImages asked) = Some asked

pub same_mirror : (words : List (List ℕ)) (asked : AskedMirror) (given : MirrorGiven) → asking_of words ≡ Some (TwoImages asked) → (world : World)
    → IsMirrorGiven words world given → given.asked ≡ asked
same_mirror words asked given asks world is = same_Some _ _ (ap (option_and_then on_two_images) (sym is.asks ∙ asks))

-- Where the script is not read, that is no further than its run has come to.
pub mirror_read_none : (outset : MirrorOutset) (script : List ℕ) (held_before : Option (List ℕ)) {left : Option (List ℕ)} (failed : Type 0)
    → left ≡ Some script → HasReadIn outset script left held_before held_before failed
mirror_read_none (RefusedBefore ending) script held_before failed told = told
mirror_read_none (RefusedOpen kind first fault) script held_before failed told = told
mirror_read_none (RefusedLegs kind first second) script held_before failed told = told
mirror_read_none (Mirrors kind first second) script held_before {left} failed told = λ run is. record {
  done = 0;
  of_run = omega arith;
  printed = record { more = []; is = told_nothing held_before };
  front = [];
  line = [];
  ending = [];
  behind = script;
  bytes = refl;
  within = omega arith;
  plain = λ at x less is. absurd (omega (arith, less));
  short = omega arith;
  taken = rw told (omega arith);
  asked = λ failed_. told;
  untouched = λ none_done. told;
}

module _ (given : MirrorGiven) (words : List (List ℕ)) (world : World) (is : IsMirrorGiven words world given) (held : Option (List ℕ)) where
  -- It came so far on its outset, and so it stands of both disks.
  abbrev Came : MirrorOutset → Ending → (after second_after : List Content) → (held_after : Option (List ℕ)) → Type 0
  Came outset ending after second_after held_after =
      HasMirrored outset given.content given.second_content given.script ending after second_after held held_after
      × HasMirrorMoments outset given.content given.second_content given.script (first_in given.asked world).moments after
      (second_in given.asked world).moments second_after

  sound_keyed : (told : Result (Option (List ℕ)) KeyRefusal) → IsSound (keyed_mirror told given)
  sound_keyed (Ok key) = sound_on (mirror_kind_in key given.sectors given.second_sectors) (last_image given.content) (last_image given.second_content)
      (leg_fault given.asked.consent key given.sectors (last_image given.content))
      (leg_fault given.asked.consent key given.second_sectors (last_image given.second_content))
  sound_keyed (Err refusal) = λ found_fault same. absurd (cc)

  sound_given : IsSound (mirror_outset_in given)
  sound_given = sound_keyed (key_by (key_file_of given.asked.hash) given.key_bytes)

  -- What is left at an exit is so of what both disks hold then.
  left_now : (outset : MirrorOutset) (ending : Ending) (after second_after : List Content) → after ≡ (first_in given.asked world).moments
      → second_after ≡ (second_in given.asked world).moments
      → IsMirrorAtExit outset given.content given.second_content (on_legs []) ending given.content given.second_content
      → HasNow (λ later. HasNow (IsMirrorAtExit outset given.content given.second_content (on_legs []) ending later) second_after) after
  left_now outset ending after second_after same second_same left =
      now_of _ after given.content (ap content_now same ∙ is.content)
      (now_of _ second_after given.second_content (ap content_now second_same ∙ is.second_content) left)

  nothing_changed : (outset : MirrorOutset) (after second_after : List Content) → after ≡ (first_in given.asked world).moments
      → second_after ≡ (second_in given.asked world).moments
      → HasMirrorMoments outset given.content given.second_content given.script (first_in given.asked world).moments after
      (second_in given.asked world).moments second_after
  nothing_changed outset after second_after same second_same =
      record { first = EachMoment-kept _ same; second = EachMoment-kept _ second_same }

  -- Something outside ended it before either image was open.
  pub outside_before : (ending : Ending) → IsFromOutside ending → (after second_after : List Content)
      → after ≡ (first_in given.asked world).moments → second_after ≡ (second_in given.asked world).moments
      → Came (mirror_outset_in given) ending after second_after held
  outside_before ending outside after second_after same second_same =
      let outset = mirror_outset_in given in (
        nothing_mirrored outset sound_given given.content given.second_content given.script ending outside after second_after
            (left_now outset ending after second_after same second_same (left_as_it_was outset given.content given.second_content ending outside)) held,
        nothing_changed outset after second_after same second_same,
      )

  refused_before : (refusal : KeyRefusal) → mirror_outset_in given ≡ RefusedBefore (Refused (ByKey refusal))
      → Came (mirror_outset_in given) (Refused (ByKey refusal)) (first_in given.asked world).moments (second_in given.asked world).moments held
  refused_before refusal refused =
      let outset = RefusedBefore (Refused (ByKey refusal)) in
      subst (λ (o : MirrorOutset). Came o (Refused (ByKey refusal)) (first_in given.asked world).moments (second_in given.asked world).moments held) (sym refused) (
        record {
          run = mirror_only_ends (Refused (ByKey refusal));
          is_run = refl;
          text = [];
          changes = on_legs [];
          ended = inl (record { whole = record { is_text = refl; is_changes = refl }; is = refl });
          told = told_nothing held;
          left = left_now outset (Refused (ByKey refusal)) _ _ refl refl (inl refl, refl);
        },
        nothing_changed outset _ _ refl refl,
      )

  -- The key file, or its source, ended it.
  at_key : (faults_before faults : ℕ) (ended : Ended) → IsKeyRefused (key_file_of given.asked.hash) world.keys faults_before faults ended
      → Came (mirror_outset_in given) (ending_of ended) (first_in given.asked world).moments (second_in given.asked world).moments held
  at_key faults_before faults (Endings.Refused refusals.Words) refused = absurd refused
  at_key faults_before faults (Endings.Refused (refusals.Key refusal)) refused =
      refused_before refusal (ap (λ (told : Result (Option (List ℕ)) KeyRefusal). keyed_mirror told given) (refused given.key_bytes is.key))
  at_key faults_before faults (Endings.Refused (refusals.Line number refusal)) refused = absurd refused
  at_key faults_before faults (Endings.Refused refusals.Length) refused = absurd refused
  at_key faults_before faults (Endings.Refused (refusals.Image fault)) refused = absurd refused
  at_key faults_before faults (Endings.Refused (refusals.Second fault)) refused = absurd refused
  at_key faults_before faults (Endings.Refused (refusals.Legs a_blocks a_size b_blocks b_size)) refused = absurd refused
  at_key faults_before faults (Endings.Failed outers.Disk) refused = absurd refused
  at_key faults_before faults (Endings.Failed outers.Key) refused = outside_before (Failed outers.Key) tt _ _ refl refl
  at_key faults_before faults (Endings.Failed outers.Script) refused = absurd refused
  at_key faults_before faults (Endings.Failed outers.Sink) refused = absurd refused
  at_key faults_before faults Endings.Memory refused = outside_before NoMemory tt _ _ refl refl

  pub mirror_at_key : (asked : AskedMirror) → given.asked ≡ asked → (faults_before faults : ℕ) (ended : Ended)
      → IsKeyRefused (key_file_of asked.hash) world.keys faults_before faults ended
      → Came (mirror_outset_in given) (ending_of ended) (first_in given.asked world).moments (second_in given.asked world).moments held
  mirror_at_key asked asks faults_before faults ended refused =
      at_key faults_before faults ended
      (subst (λ (a : AskedMirror). IsKeyRefused (key_file_of a.hash) world.keys faults_before faults ended) (sym asks) refused)

  -- There was no memory for the words, which are those of a mirror.
  pub mirror_at_words : (ended : Ended) → (ended ≡ Endings.Refused refusals.Words) ⊎ (ended ≡ Endings.Memory)
      → (ended ≡ Endings.Refused refusals.Words → asking_of words ≡ None)
      → Came (mirror_outset_in given) (ending_of ended) (first_in given.asked world).moments (second_in given.asked world).moments held
  mirror_at_words ended ends none = elim ends [
    | inl at_words ↦ absurd (no_command words (TwoImages given.asked) (none at_words) is.asks)
    | inr memory ↦
        subst (λ (e : Ended). Came (mirror_outset_in given) (ending_of e) (first_in given.asked world).moments (second_in given.asked world).moments held)
        (sym memory) (outside_before NoMemory tt _ _ refl refl)
  ]

  -- A key that is taken gives the outset on both images.
  pub outset_taken : (key : Option (List ℕ)) → IsKeyed (key_file_of given.asked.hash) world.keys (HasHash key)
      → mirror_outset_in given ≡ mirror_outset_on given.asked.consent key given.sectors given.second_sectors (last_image given.content)
      (last_image given.second_content)
  outset_taken key keyed = ap (λ (told : Result (Option (List ℕ)) KeyRefusal). keyed_mirror told given) (keyed given.key_bytes is.key)

  -- What it starts on, on disks of so many sectors.
  abbrev outset_on : (asked : AskedMirror) (key : Option (List ℕ)) (sectors second_sectors : ℕ) → MirrorOutset
  outset_on asked key sectors second_sectors =
      mirror_outset_on asked.consent key sectors second_sectors (last_image given.content) (last_image given.second_content)

  module _ (asked : AskedMirror) (asks : given.asked ≡ asked) (key : Option (List ℕ))
      (keyed : IsKeyed (key_file_of given.asked.hash) world.keys (HasHash key)) (sectors second_sectors : ℕ)
      (mid second_mid : List Content) (there : first_in given.asked world ≡ record { sectors = sectors; moments = mid })
      (second_there : second_in given.asked world ≡ record { sectors = second_sectors; moments = second_mid }) where
    same_outset : mirror_outset_in given ≡ outset_on asked key sectors second_sectors
    same_outset =
        outset_taken key keyed
        ∙ ap (λ (a : AskedMirror). outset_on a key given.sectors given.second_sectors) asks
        ∙ ap (λ (n : ℕ). outset_on asked key n given.second_sectors) (is.sectors ∙ ap (λ (n : NamedDisk). n.sectors) there)
        ∙ ap (λ (n : ℕ). outset_on asked key sectors n) (is.second_sectors ∙ ap (λ (n : NamedDisk). n.sectors) second_there)

    -- What was run on both disks, which are these, is so of what stood under the names.
    pub mirrored_given : (after second_after : List Content) (later second_later : NamedDisk) → later.moments ≡ after
        → second_later.moments ≡ second_after → (ending : Ending) (held_after : Option (List ℕ))
        → HasMirrored (outset_on asked key sectors second_sectors) given.content given.second_content given.script ending after second_after held held_after
        × HasMirrorMoments (outset_on asked key sectors second_sectors) given.content given.second_content given.script mid after second_mid second_after
        → Came (mirror_outset_in given) ending later.moments second_later.moments held_after
    mirrored_given after second_after later second_later at_end second_at_end ending held_after ran =
        let outset = outset_on asked key sectors second_sectors in
        subst (λ (o : MirrorOutset). Came o ending later.moments second_later.moments held_after) (sym same_outset)
        (subst (λ (m : List Content). Came outset ending m second_later.moments held_after) (sym at_end)
        (subst (λ (m : List Content). Came outset ending after m held_after) (sym second_at_end) (
          ran.0,
          record {
            first = subst (λ (m : List Content). EachMoment m after (FirstMayStandAt outset given.content given.script))
                (sym (ap (λ (n : NamedDisk). n.moments) there)) ran.1.first;
            second = subst (λ (m : List Content). EachMoment m second_after (SecondMayStandAt outset given.second_content given.script))
                (sym (ap (λ (n : NamedDisk). n.moments) second_there)) ran.1.second;
          },
        )))

    -- What is taken of its script is so of the command's.
    pub mirror_read_given : (left held_after : Option (List ℕ)) (failed : Type 0)
        → HasReadIn (outset_on asked key sectors second_sectors) given.script left held held_after failed
        → HasReadIn (mirror_outset_in given) given.script left held held_after failed
    mirror_read_given left held_after failed read =
        subst (λ (o : MirrorOutset). HasReadIn o given.script left held held_after failed) (sym same_outset) read
