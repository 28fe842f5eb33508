-- A command by what it is given: what ends it before its first line, and what one that has run leaves.
use Rattle.std.proofs.Common.{◌≡◌, ◌⊎◌, inl, inr, ℕ, List, refl, sym, ◌∙◌, ap, subst, Option, Some, None, Result}
use Rattle.disk_model.specs.Disk.{Content, Image, last_image}
use Rattle.disk_model.specs.Moments.{EachMoment, HasNow}
use Rattle.disk_model.proofs.MomentsLemmas.{EachMoment-kept}
use Rattle.disk_model.specs.Identity.{NamedDisk}
use Rattle.run_model.specs.Ending.{Ending, Refused, Failed, NoMemory, ByWords, ByKey}
use Rattle.run_model.specs.declared.key_refusal.KeyRefusal.{KeyRefusal}
use Rattle.run_model.specs.ServedRun.{EndsUnbegun}
use Rattle.command_ending.specs.Ended.{ending_of}
use Rattle.command_ending.specs.declared.ended.Ended.{Ended}
use Rattle.command_ending.specs.declared.ended.Ended.TheVariants as Endings
use Rattle.command_task.specs.declared.asked.Asked.{Asked}
use Rattle.command_task.specs.declared.asked.Asking.{Asking}
use Rattle.command_task.specs.declared.asked.Asking.TheVariants.{OneImage}
use Rattle.command_task.specs.Words.{asked_of, asking_of, key_file_of, key_file_of_asking}
use Rattle.integrity_tool.specs.KeyFile.{HasHash, IsKeyRefused, IsKeyed}
use Rattle.command_model.specs.KeyFile.{HasFile}
use Rattle.integrity_tool.specs.Top.{HasMomentsIn, IsGiven, IsLeftClosed, image_in, outset_in}
use Rattle.command_model.specs.Given.{Given}
use Rattle.command_model.specs.World.{World}
use Rattle.run_model.specs.CommandRun.{Outset, RefusedBy}
use Rattle.command_task.specs.declared.telling.Telling.{Telling}
use Rattle.command_task.specs.declared.telling.Telling.TheVariants.{Lines}
use Rattle.command_task.specs.Opening.{HasRunIn}
use Rattle.command_model.specs.Opening.{HasReadIn, IsMomentOf}
use Rattle.command_task.specs.Closed.{IsClosedAt, IsClosedFor, IsClosedUnder}
use Rattle.command_task.specs.Order.{HasMomentsAt, IsInOrderAt, IsInOrderFor, IsInOrderUnder}
use Rattle.command_task.specs.Outset.{task_outset, keyed_outset, asked_outset}
use Rattle.command_model.specs.Outset.{geometry_on}
use Rattle.run_model.specs.declared.outer.Outer.TheVariants as outers
use Rattle.command_ending.specs.declared.refusal.Refusal.TheVariants as refusals
use Rattle.command_task.proofs.OutsetLemmas.{IsSound, sound_for}
use Rattle.integrity_tool.proofs.WorldLemmas.{asked_none, asked_one}
use Rattle.command_task.proofs.UnbegunLemmas.{before_kept, kept_for, nothing_begun, refused_begun, untouched_kept}

-- ---- by what a command is given

module _ (given : Given) (words : List (List ℕ)) (world : World) (is : IsGiven words world given) (held : Option (List ℕ)) where
  outset_asked : (asked : Option Asked) → asked_of words ≡ asked → outset_in given ≡ asked_outset asked given.key_bytes given.sectors (last_image given.content)
  outset_asked asked asks = ap (λ (o : Option Asked). asked_outset o given.key_bytes given.sectors (last_image given.content)) (ap asked_of is.words_are ∙ asks)

  sound_given : IsSound (outset_in given)
  sound_given = sound_for (asked_of given.words) given.key_bytes given.sectors (last_image given.content)

  nothing_changed : (later : NamedDisk) → later.moments ≡ (image_in words world).moments → HasMomentsIn given (image_in words world).moments later.moments
  nothing_changed later same = record { each = EachMoment-kept _ same; order = kept_for (asked_of given.words) given.key_bytes given.sectors same }

  pub outside_first : (ending : Ending) → EndsUnbegun ending → (later : NamedDisk) → later.moments ≡ (image_in words world).moments
      → HasRunIn (outset_in given) Lines given.content given.script ending later.moments held held
      × HasMomentsIn given (image_in words world).moments later.moments
  outside_first ending outside later same = (
    nothing_begun (outset_in given) sound_given given.content given.script ending outside later.moments (before_kept (outset_in given) given.content is.content same) held held refl,
    nothing_changed later same,
  )

  refused_first : (ending : Ending) → outset_in given ≡ RefusedBy ending
      → HasRunIn (outset_in given) Lines given.content given.script ending (image_in words world).moments held held
      × HasMomentsIn given (image_in words world).moments (image_in words world).moments
  refused_first ending refused = (
    refused_begun (outset_in given) given.content given.script ending refused (image_in words world).moments (untouched_kept given.content is.content refl) held held refl,
    nothing_changed (image_in words world) refl,
  )

  -- The words ask for nothing.
  pub words_first : asking_of words ≡ None
      → HasRunIn (outset_in given) Lines given.content given.script (Refused ByWords) (image_in words world).moments held held
      × HasMomentsIn given (image_in words world).moments (image_in words world).moments
  words_first none = refused_first (Refused ByWords) (outset_asked None (asked_none words none))

  pub stopped_at_words : (ended : Ended) → (ended ≡ Endings.Refused refusals.Words) ⊎ (ended ≡ Endings.Memory) → (ended ≡ Endings.Refused refusals.Words → asking_of words ≡ None)
      → HasRunIn (outset_in given) Lines given.content given.script (ending_of ended) (image_in words world).moments held held
      × HasMomentsIn given (image_in words world).moments (image_in words world).moments
  stopped_at_words ended ends none = elim ends [
    | inl words_end ↦
        subst (λ (e : Ended). HasRunIn (outset_in given) Lines given.content given.script (ending_of e) (image_in words world).moments held held
        × HasMomentsIn given (image_in words world).moments (image_in words world).moments) (sym words_end) (words_first (none words_end))
    | inr memory ↦
        subst (λ (e : Ended). HasRunIn (outset_in given) Lines given.content given.script (ending_of e) (image_in words world).moments held held
        × HasMomentsIn given (image_in words world).moments (image_in words world).moments) (sym memory) (outside_first NoMemory tt (image_in words world) refl)
  ]

  module _ (asked : Asked) (asking : asking_of words ≡ Some (OneImage asked)) where
    asks : asked_of words ≡ Some asked
    asks = asked_one words asked asking

    has_key : HasFile (key_file_of asked.hash) world.keys given.key_bytes
    has_key = subst (λ (o : Option Asking). HasFile (key_file_of_asking o) world.keys given.key_bytes) asking is.key

    -- The key file, or its source, ended it.
    pub stopped_at_key : (faults_before faults : ℕ) (ended : Ended) → IsKeyRefused (key_file_of asked.hash) world.keys faults_before faults ended
        → HasRunIn (outset_in given) Lines given.content given.script (ending_of ended) (image_in words world).moments held held
        × HasMomentsIn given (image_in words world).moments (image_in words world).moments
    stopped_at_key faults_before faults (Endings.Refused refusals.Words) refused = absurd refused
    stopped_at_key faults_before faults (Endings.Refused (refusals.Key refusal)) refused =
        refused_first (Refused (ByKey refusal))
        (outset_asked (Some asked) asks
        ∙ ap (λ (told : Result (Option (List ℕ)) KeyRefusal). keyed_outset asked.task told given.sectors (last_image given.content)) (refused given.key_bytes has_key))
    stopped_at_key faults_before faults (Endings.Refused (refusals.Line number refusal)) refused = absurd refused
    stopped_at_key faults_before faults (Endings.Refused refusals.Length) refused = absurd refused
    stopped_at_key faults_before faults (Endings.Refused (refusals.Image fault)) refused = absurd refused
    stopped_at_key faults_before faults (Endings.Refused (refusals.Second fault)) refused = absurd refused
    stopped_at_key faults_before faults (Endings.Refused (refusals.Legs a_blocks a_size b_blocks b_size)) refused = absurd refused
    stopped_at_key faults_before faults (Endings.Failed outers.Disk) refused = absurd refused
    stopped_at_key faults_before faults (Endings.Failed outers.Key) refused = outside_first (Failed outers.Key) tt (image_in words world) refl
    stopped_at_key faults_before faults (Endings.Failed outers.Script) refused = absurd refused
    stopped_at_key faults_before faults (Endings.Failed outers.Sink) refused = absurd refused
    stopped_at_key faults_before faults Endings.Memory refused = outside_first NoMemory tt (image_in words world) refl

    -- What is asked was done on the image, with this key.
    pub ran_given : (key : Option (List ℕ)) → IsKeyed (key_file_of asked.hash) world.keys (HasHash key) → (sectors : ℕ) (mid after : List Content) (later : NamedDisk)
        → image_in words world ≡ record { sectors = sectors; moments = mid } → later.moments ≡ after → (telling : Telling) (ending : Ending) (held_after : Option (List ℕ))
        → HasRunIn (task_outset asked.task key sectors (last_image given.content)) telling given.content given.script ending after held held_after
        × HasMomentsAt asked.task key sectors given.content given.script mid after
        → HasRunIn (outset_in given) telling given.content given.script ending later.moments held held_after
        × HasMomentsIn given (image_in words world).moments later.moments
    ran_given key keyed sectors mid after later there at_end telling ending held_after runs =
        let entry : Image = last_image given.content in
        let same_sectors : given.sectors ≡ sectors = is.sectors ∙ ap (λ (n : NamedDisk). n.sectors) there in
        let same_outset : outset_in given ≡ task_outset asked.task key sectors entry =
        outset_asked (Some asked) asks
        ∙ ap (λ (told : Result (Option (List ℕ)) KeyRefusal). keyed_outset asked.task told given.sectors entry)
        (keyed given.key_bytes has_key)
        ∙ ap (λ (n : ℕ). task_outset asked.task key n entry) same_sectors in
        let same_moments : (image_in words world).moments ≡ mid = ap (λ (n : NamedDisk). n.moments) there in
        let At = λ (o : Outset) (n : ℕ). IsMomentOf o (geometry_on n entry) given.content given.script in (
          subst (λ (o : Outset). HasRunIn o telling given.content given.script ending later.moments held held_after)
              (sym same_outset)
              (subst (λ (m : List Content).
              HasRunIn (task_outset asked.task key sectors entry) telling given.content given.script ending m held held_after)
              (sym at_end) runs.0),
          record {
            each = subst (λ (o : Outset). EachMoment (image_in words world).moments later.moments (At o given.sectors)) (sym same_outset)
                (subst (λ (n : ℕ). EachMoment (image_in words world).moments later.moments (At (task_outset asked.task key sectors entry) n))
                (sym same_sectors)
                (subst (λ (m : List Content). EachMoment m later.moments (At (task_outset asked.task key sectors entry) sectors))
                (sym same_moments)
                (subst (λ (m : List Content). EachMoment mid m (At (task_outset asked.task key sectors entry) sectors))
                (sym at_end) runs.1.each)));
            order = subst (λ (o : Option Asked). IsInOrderFor o given.key_bytes given.sectors (image_in words world).moments later.moments) (sym (ap asked_of is.words_are ∙ asks))
                (subst (λ (told : Result (Option (List ℕ)) KeyRefusal). IsInOrderUnder asked.task told given.sectors (image_in words world).moments later.moments) (sym (keyed given.key_bytes has_key))
                (subst (λ (n : ℕ). IsInOrderAt asked.task key n (image_in words world).moments later.moments) (sym same_sectors)
                (subst (λ (m : List Content). IsInOrderAt asked.task key sectors m later.moments) (sym same_moments)
                (subst (λ (m : List Content). IsInOrderAt asked.task key sectors mid m) (sym at_end) runs.1.order))));
          },
        )

    -- What its close leaves is so of the command's.
    pub closed_given : (key : Option (List ℕ)) → IsKeyed (key_file_of asked.hash) world.keys (HasHash key) → (sectors : ℕ)
        (mid after : List Content) (later : NamedDisk) → image_in words world ≡ record { sectors = sectors; moments = mid } → later.moments ≡ after
        → HasNow (IsClosedAt asked.task key sectors given.content given.script) after
        → IsLeftClosed given later.moments
    closed_given key keyed sectors mid after later there at_end closed =
        let entry : Content = given.content in
        subst (λ (o : Option Asked). HasNow (IsClosedFor o given.key_bytes given.sectors entry given.script) later.moments) (sym (ap asked_of is.words_are ∙ asks))
        (subst (λ (told : Result (Option (List ℕ)) KeyRefusal). HasNow (IsClosedUnder asked.task told given.sectors entry given.script) later.moments)
        (sym (keyed given.key_bytes has_key))
        (subst (λ (n : ℕ). HasNow (IsClosedAt asked.task key n entry given.script) later.moments)
        (sym (is.sectors ∙ ap (λ (n : NamedDisk). n.sectors) there))
        (subst (λ (m : List Content). HasNow (IsClosedAt asked.task key sectors entry given.script) m) (sym at_end) closed)))

    -- What is taken of its script is so of the command's.
    pub read_given : (key : Option (List ℕ)) → IsKeyed (key_file_of asked.hash) world.keys (HasHash key) → (sectors : ℕ)
        (mid : List Content) → image_in words world ≡ record { sectors = sectors; moments = mid }
        → (left held_after : Option (List ℕ)) (failed : Type 0)
        → HasReadIn (task_outset asked.task key sectors (last_image given.content)) given.script left held held_after
        failed
        → HasReadIn (outset_in given) given.script left held held_after failed
    read_given key keyed sectors mid there left held_after failed read =
        let entry : Image = last_image given.content in
        subst (λ (o : Outset). HasReadIn o given.script left held held_after failed)
        (sym (outset_asked (Some asked) asks
        ∙ ap (λ (told : Result (Option (List ℕ)) KeyRefusal). keyed_outset asked.task told given.sectors entry)
        (keyed given.key_bytes has_key)
        ∙ ap (λ (n : ℕ). task_outset asked.task key n entry) (is.sectors ∙ ap (λ (n : NamedDisk). n.sectors) there))) read
