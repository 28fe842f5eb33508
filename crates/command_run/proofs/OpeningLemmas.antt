-- The opening of a run: what it leaves and writes, whether a device is open then or not; and the run behind it.
use Rattle.std.proofs.Common.{◌≡◌, ◌≢◌, ◌⊎◌, inl, inr, ℕ, ◌<◌, List, [], length, take, refl, sym, ◌∙◌, ap, subst, arith, Option, Some, None, Result, Ok, Err, IfErr}
use Rattle.std.specs.List.{Any}
use Rattle.std.specs.Option.{IsSomeAnd}
use Rattle.std.proofs.lemmas.Option.{same_Some}
use Rattle.disk_model.specs.Disk.{Content, EachImage, Image, IsImage, OnlyAdds, last_image}
use Rattle.disk_model.specs.Identity.{DiskIdentity}
use Rattle.disk_model.specs.Moments.{content_now, EachMoment, HasNow}
use Rattle.disk_model.proofs.DiskLemmas.{OnlyAdds-none}
use Rattle.disk_model.proofs.MomentsLemmas.{EachMoment-kept, EachMoment-then, EachMoment-weaker, content_at_end}
use Rattle.device_model.specs.Device.{DeviceKind, IsLeftWithin}
use Rattle.run_model.specs.Ending.{Ending, Failed, NoMemory}
use Rattle.device_model.proofs.HistoryLemmas.{Any-nil}
use Rattle.device_model.specs.Cut.{all_writes}
use Rattle.device_model.specs.History.{BlockWrite, Change, History, with_changes}
use Rattle.run_model.specs.ScriptRun.{ScriptRun, IsRunOf, changes_in}
use Rattle.direct_laws.specs.MomentLaws.{IsLeftNow}
use Rattle.image_model.specs.Geometry.{Geometry}
use Rattle.image_model.specs.Openable.{IsReadable}
use Rattle.place_model.specs.Format.{format_on}
use Rattle.place_model.specs.Kind.{kind_in}
use Rattle.image_refusal.specs.declared.call_fault.CallFault.{CallFault}
use Rattle.image_refusal.specs.declared.call_fault.CallFault.TheVariants as CallFaults
use Rattle.image_refusal.specs.declared.open_fault.OpenFault.{OpenFault}
use Rattle.image_refusal.specs.declared.open_fault.OpenFault.TheVariants as OpenFaults
use Rattle.image_refusal.specs.declared.open_fault.HeadFault.TheVariants as HeadFaults
use Rattle.judging_model.specs.FaultLaws.{OpensLaw}
use Rattle.judging_model.specs.Faults.{ImageFault, fault_in}
use Rattle.device_opening.proofs.MadeDeviceLemmas.{some_disk}
use Rattle.device_opening.proofs.MomentsLemmas.{EachMoment-both, each_from, now_told}
use Rattle.place_model.proofs.FormatLemmas.{reads_on, reads_tells}
use Rattle.device.specs.declared.mode.DeviceParts.{DeviceParts}
use Rattle.device.specs.declared.opening.OpenMode.{OpenMode}
use Rattle.device.specs.declared.opening.OpenMode.TheVariants.{Bitmap, Direct, Journal, Recovery}
use Rattle.judging_model.specs.declared.consent.Consent.{Consent}
use Rattle.place_model.specs.Awaiting.{fields_of}
use Rattle.device.specs.Device.{IsDevice, kind_by, kind_of, mode_of}
use Rattle.device.specs.Opening.{IsRefused, LeavesOpening, WritesInOpening, asked_mode, fault_in_mode}
use Rattle.device_parts.specs.declared.condition.Condition.TheVariants.{Working}
use Rattle.device_parts.specs.Device.{IsOfSameBlocks, Standing, opened_standing}
use Rattle.device.specs.Tags.{IsLeftOut, Leaves}
use Rattle.place_model.specs.KeptTags.{AreOfOthers, KeepsStill, KeepsTagsOf}
use Rattle.place_model.specs.RunWrites.{IsOfRun}
use Rattle.device.proofs.TagsLemmas.{still_then, tags_fewer}
use Rattle.command_ending.specs.Ended.{ending_of}
use Rattle.run_model.specs.CommandRun.{Outset, RunsOn, ReadsOn, Serves, IsAtExit, IsAtMoment, IsOfDevice, IsOfScriptRun, IsRunAt, MayStandAt}
use Rattle.command_ending.specs.declared.ended.Ended.{Ended}
use Rattle.command_ending.specs.declared.ended.Ended.TheVariants as Endings
use Rattle.script_text.specs.declared.tags_found.TagsFound.{TagsFound}
use Rattle.command_task.specs.declared.asked.Task.TheVariants as Tasks
use Rattle.command_run.specs.declared.closing.CloseFault.{CloseFault}
use Rattle.command_run.specs.declared.closing.CloseFault.TheVariants as CloseFaults
use Rattle.command_task.specs.Calls.{LeavesUnread}
use Rattle.command_run.specs.Closing.{ended_close}
use Rattle.command_task.specs.Running.{IsBeforeScript}
use Rattle.command_model.specs.Running.{HasReadTo}
use Rattle.command_task.specs.declared.telling.Telling.TheVariants.{Lines}
use Rattle.command_task.specs.Opening.{EndsImage, HasRunIn, HasRunOn, IsMomentOn}
use Rattle.command_model.specs.Opening.{HasReadIn, IsMomentOf, IsOpenedTo, IsWrittenByRun, KeepsTagsBehind, WritesOnlyBy, geometry_of_device}
use Rattle.command_task.specs.Outset.{begun_on, run_outset}
use Rattle.command_model.specs.Outset.{geometry_on, judged_outset}
use Rattle.command_task.specs.Refusing.{ended_by_opening}
use Rattle.command_model.specs.Refusing.{ending_by_refusal}
use Rattle.command_run.specs.Stopping.{IsStopped}
use Rattle.script_lines.specs.Ends.{EndsScript}
use Rattle.command_task.specs.Words.{MayWrite}
use Rattle.command_task.proofs.JudgedLemmas.{fields_on, kind_opened, opened_writes, tags_found, tags_made, tags_opened, written_behind}
use Rattle.command_task.proofs.OutsetLemmas.{IsOfRun as IsRuns, IsSound, fine_begun, fine_on, sound_begun, sound_by}
use Rattle.command_task.proofs.UnbegunLemmas.{IsAsBefore, as_same, before_may_be_left, nothing_begun, ran_in, read_in, refused_begun, some_run, untouched_now, untouched_through}
use Rattle.run_model.specs.declared.outer.Outer.TheVariants as outers
use Rattle.command_ending.specs.declared.refusal.Refusal.TheVariants as refusals
use Rattle.command_task.proofs.WritingLemmas.{still_opened, written_in}
use Rattle.command_task.proofs.RunningLemmas.{now_of}

-- ---- modes that take writes, and recovery mode

-- A device takes writes, where the image has no fault, which can be read then, and it is of the mode's kind. What may be left
-- of it, by the image by which it is judged, may be left by the one that was opened.
pub record TakesWrites (mode : OpenMode) : Type 1 where
  pub kind_ : (key : Option (List ℕ)) (sectors : ℕ) → kind_by (asked_mode mode) key sectors ≡ kind_in (asked_mode mode) key sectors
  pub opens : OpensLaw → (key : Option (List ℕ)) (sectors : ℕ) (image : Image)
      → fault_in_mode mode key sectors image ≡ None → (kind_in (asked_mode mode) key sectors).CanOpen image
  pub reads : (key : Option (List ℕ)) (sectors : ℕ) (image : Image) → (kind_in (asked_mode mode) key sectors).CanOpen image
      → IsReadable sectors image
  pub judged : (key : Option (List ℕ)) (sectors : ℕ) (start made : Image) → IsOfSameBlocks (asked_mode mode) key sectors start made
      → (h : History) (left : Image)
      → (kind_in (asked_mode mode) key sectors).MayBeLeft (opened_standing (asked_mode mode) key sectors start made).entry h left
      → (kind_in (asked_mode mode) key sectors).MayBeLeft start h left

-- A script runs on it, or a stream is served.
abbrev IsWriting : DeviceKind → Image → Outset → Type 1
IsWriting kind image begun = (begun ≡ RunsOn kind image) ⊎ (begun ≡ Serves kind image)

-- Something is begun on such a device, or on one in recovery mode.
pub data Sort (mode : OpenMode) (kind : DeviceKind) (image : Image) (begun : Outset) : Type 1 where
  Writing : TakesWrites mode → IsWriting kind image begun → Sort mode kind image begun
  Reading : mode ≡ Recovery → begun ≡ ReadsOn kind image → Sort mode kind image begun

writing_direct : (consent : Consent) → TakesWrites (Direct consent)
writing_direct consent = record {
  kind_ = λ key sectors. refl;
  opens = λ law key sectors image none. ((law key consent sectors image).0 none).0;
  reads = λ key sectors image can. can.readable;
  judged = λ key sectors start made same h left is. record { blocks = is.blocks ∙ same.blocks; left_is = is.left_is };
}

writing_journal : (consent : Consent) → TakesWrites (Journal consent)
writing_journal consent = record {
  kind_ = λ key sectors. refl;
  opens = λ law key sectors image none. ((law key consent sectors image).0 none).0;
  reads = λ key sectors image can. can.readable;
  judged = λ key sectors start made same h left is. record { blocks = is.blocks ∙ same.blocks; left_is = is.left_is };
}

writing_bitmap : (consent : Consent) → TakesWrites (Bitmap consent)
writing_bitmap consent = record {
  kind_ = λ key sectors. refl;
  opens = λ law key sectors image none. ((law key consent sectors image).0 none).0;
  reads = λ key sectors image can. can.readable;
  judged = λ key sectors start made same h left is. record { blocks = is.blocks ∙ same.blocks; left_is = is.left_is };
}

-- So it is of a run in each mode,
pub sort_of_run : (mode : OpenMode) (kind : DeviceKind) (image : Image) → Sort mode kind image (begun_on mode kind image)
sort_of_run (Direct consent) kind image = Writing (writing_direct consent) (inl refl)
sort_of_run (Journal consent) kind image = Writing (writing_journal consent) (inl refl)
sort_of_run (Bitmap consent) kind image = Writing (writing_bitmap consent) (inl refl)
sort_of_run Recovery kind image = Reading refl refl

-- and of a session in one that takes writes.
pub writes_in : (mode : OpenMode) → MayWrite mode → TakesWrites mode
writes_in (Direct consent) may = writing_direct consent
writes_in (Journal consent) may = writing_journal consent
writes_in (Bitmap consent) may = writing_bitmap consent
writes_in Recovery may = absurd may

pub sort_of_serving : (mode : OpenMode) → MayWrite mode → (kind : DeviceKind) (image : Image) → Sort mode kind image (Serves kind image)
sort_of_serving mode may kind image = Writing (writes_in mode may) (inr refl)

-- What an opening leaves, and what is left and written behind it, is so of what is begun on the device.
module _ {kind : DeviceKind} {image : Image} (start : Content) (begun : Outset) (writing : IsWriting kind image begun) where
  by_both : (P : Outset → Type 0) → P (RunsOn kind image) → P (Serves kind image) → P begun
  by_both P runs serves = elim writing [
    | inl is ↦ subst P (sym is) runs
    | inr is ↦ subst P (sym is) serves
  ]

  as_before_on : (c : Content) → IsOfScriptRun kind image start [] c → IsAsBefore begun start c
  as_before_on c left = by_both (λ (o : Outset). IsAsBefore o start c) left left

  writes_on : (g : Geometry) (run : ScriptRun) (c : Content) → IsWrittenByRun kind image g run start c → WritesOnlyBy begun g run start c
  writes_on g run c written = by_both (λ (o : Outset). WritesOnlyBy o g run start c) written written

  left_on : (changes : List Change) (c : Content) → IsOfScriptRun kind image start changes c → IsAtMoment begun start changes c
  left_on changes c left = by_both (λ (o : Outset). IsAtMoment o start changes c) left left

-- A run of the device is one of the command, in every mode.
run_at : (mode : OpenMode) (kind : DeviceKind) (image : Image) (script : List ℕ) (run : ScriptRun)
    → IsRunOf (kind.format image) (kind.opened image) script run → IsRunAt (begun_on mode kind image) script run
run_at (Direct consent) kind image script run is = is
run_at (Journal consent) kind image script run is = is
run_at (Bitmap consent) kind image script run is = is
run_at Recovery kind image script run is = is

-- ---- the opening

module _ (law : OpensLaw) (mode : OpenMode) (key : Option (List ℕ)) (disk now : DiskIdentity) (a b : List Content)
    (start : Content) (told : content_now a ≡ Some start) (script : List ℕ)
    (begun : Outset) (sort : Sort mode (kind_in (asked_mode mode) key disk.sectors) (last_image start) begun) (sound : IsSound begun)
  where
    abbrev image : Image
    image = last_image start

    abbrev kind : DeviceKind
    kind = kind_in (asked_mode mode) key disk.sectors

    abbrev outset : Outset
    outset = judged_outset begun (fault_in_mode mode key disk.sectors image)

    abbrev g : Geometry
    g = geometry_on disk.sectors image

    -- An image that a device takes writes on has the fields of its first sector.
    fields_same : TakesWrites mode → fault_in_mode mode key disk.sectors image ≡ None
        → (format_on key disk.sectors image).superblock ≡ fields_of image
    fields_same writing none = fields_on key disk.sectors image (writing.reads key disk.sectors image (writing.opens law key disk.sectors image none))

    -- What is begun is refused, or is so on a device.
    sound_on : IsSound outset
    sound_on = sound_by begun sound (fault_in_mode mode key disk.sectors image)

    of_begun_by : (refusal : Option ImageFault) → IsRuns (judged_outset begun refusal)
    of_begun_by None = elim sort [
      | Writing writing on ↦ by_both start begun on IsRuns tt tt
      | Reading is on ↦ subst IsRuns (sym on) tt
    ]
    of_begun_by (Some refusal) = tt

    of_begun : IsRuns outset
    of_begun = of_begun_by (fault_in_mode mode key disk.sectors image)

    -- Nothing is written where all stays as it was.
    stays_at_start : b ≡ a → EachMoment a b (λ c. c ≡ start)
    stays_at_start same = EachMoment-kept (λ c. c ≡ start) same

    -- The geometry of the device that is opened on it.
    abbrev on_geometry : Geometry
    on_geometry = geometry_of_device kind image g

    module _ (leaves : LeavesOpening mode key disk now a b) where
      opening_still : mode ≡ Recovery → b ≡ a
      opening_still is = subst (λ (m : OpenMode). WritesInOpening m key disk.sectors a b) is leaves.writes

      left_by : (refusal : Option ImageFault) → fault_in_mode mode key disk.sectors image ≡ refusal
          → EachMoment a b (IsAsBefore (judged_outset begun refusal) start)
      left_by None none = elim sort [
        | Writing writing on ↦
            let left = leaves.left (now_of _ a start told (writing.opens law key disk.sectors image none)) in
            EachMoment-weaker (λ c both. as_before_on start begun on c (inr (record { opens = both.0; left = both.1 })))
            (EachMoment-both (each_from _ start told left.opens) (each_from _ start told left.left))
        | Reading is on ↦ subst (λ (o : Outset). EachMoment a b (IsAsBefore o start)) (sym on) (stays_at_start (opening_still is))
      ]
      left_by (Some refusal) is = untouched_through start told (leaves.refused start told refusal is)

      -- Each moment is as before,
      left_each : EachMoment a b (IsAsBefore outset start)
      left_each = left_by (fault_in_mode mode key disk.sectors image) refl

      -- and so is the end.
      left_now : HasNow (IsAsBefore outset start) b
      left_now = content_at_end left_each (now_of (IsAsBefore outset start) a start told (as_same outset start start refl))

      writes_by : (run : ScriptRun) (refusal : Option ImageFault) → fault_in_mode mode key disk.sectors image ≡ refusal
          → EachMoment a b (WritesOnlyBy (judged_outset begun refusal) g run start)
      writes_by run None none = elim sort [
        | Writing writing on ↦
            EachMoment-weaker (λ c of. writes_on start begun on g run c (record {
              opened = c;
              opening = inr of;
              behind = OnlyAdds-none (IsOfRun (asked_mode mode) on_geometry image (changes_in run.steps)) c;
              tags = tags_opened key disk.sectors g run start c (asked_mode mode) of;
            }))
            (written_in mode key disk.sectors start (fields_same writing none) told leaves.writes)
        | Reading is on ↦ subst (λ (o : Outset). EachMoment a b (WritesOnlyBy o g run start)) (sym on) (stays_at_start (opening_still is))
      ]
      writes_by run (Some refusal) is = untouched_through start told (leaves.refused start told refusal is)

      -- Each is one of the command.
      pub moments_in_opening : EachMoment a b (IsMomentOf outset g start script)
      moments_in_opening =
          let run = some_run outset script in
          EachMoment-weaker
          (λ c both. record { left = both.0; only = record { run = run.0; is_run = run.1; only = both.1 } })
          (EachMoment-both
          (EachMoment-weaker (before_may_be_left outset of_begun start script) left_each)
          (writes_by run.0 (fault_in_mode mode key disk.sectors image) refl))

      -- What stands at the end is told, too.
      pub content_opened : (c : Content) × (content_now b ≡ Some c)
      content_opened = now_told moments_in_opening start told

      -- ---- no device is open

      module _ (held : Option (List ℕ)) where
        told_by : (refusal : ImageFault) (fault : CallFault OpenFault) → IsRefused mode key disk a b fault → fault ≢ CallFaults.Disk
            → fault ≢ CallFaults.Memory → fault_in {T = DeviceParts} (Err fault) ≡ Some refusal
            → HasRunIn outset Lines start script (ending_by_refusal refusal) b held held
        told_by refusal fault refused not_disk not_memory is =
            refused_begun outset start script (ending_by_refusal refusal)
            (ap (judged_outset begun) (sym (refused.told not_disk not_memory start told) ∙ is)) b
            (untouched_now start told (EachMoment-kept _ (refused.untouched not_disk))) held held refl

        -- What ended the run is that the image is refused, or comes from outside.
        pub refused_in_opening : (fault : CallFault OpenFault) → IsRefused mode key disk a b fault
            → HasRunIn outset Lines start script (ending_of (ended_by_opening fault)) b held held
        refused_in_opening CallFaults.Memory refused =
            nothing_begun outset sound_on start script NoMemory tt b left_now held held refl
        refused_in_opening CallFaults.Disk refused =
            nothing_begun outset sound_on start script (Failed outers.Disk) tt b left_now held held refl
        refused_in_opening (CallFaults.Refused (OpenFaults.Head (HeadFaults.Super fault))) refused =
            told_by _ (CallFaults.Refused (OpenFaults.Head (HeadFaults.Super fault))) refused (λ is. absurd (cc)) (λ is. absurd (cc)) refl
        refused_in_opening (CallFaults.Refused (OpenFaults.Head (HeadFaults.Geom fault))) refused =
            told_by _ (CallFaults.Refused (OpenFaults.Head (HeadFaults.Geom fault))) refused (λ is. absurd (cc)) (λ is. absurd (cc)) refl
        refused_in_opening (CallFaults.Refused (OpenFaults.Consent flags)) refused =
            told_by _ (CallFaults.Refused (OpenFaults.Consent flags)) refused (λ is. absurd (cc)) (λ is. absurd (cc)) refl
        refused_in_opening (CallFaults.Refused (OpenFaults.Journal fault)) refused =
            told_by _ (CallFaults.Refused (OpenFaults.Journal fault)) refused (λ is. absurd (cc)) (λ is. absurd (cc)) refl

      -- ---- a device is open, and what is done on it came so far

      module _ (none : fault_in_mode mode key disk.sectors image ≡ None) (run : ScriptRun) (after : List Content)
          (is_run : IsRunAt begun script run)
          (made : Content) (told_made : content_now b ≡ Some made)
          (reads : IsImage made (last_image made))
          (parts : DeviceParts) (asked : mode_of parts.mode ≡ asked_mode mode)
          (device : IsDevice (opened_standing (asked_mode mode) key disk.sectors image (last_image made)) Working parts b)
          (same : IsOfSameBlocks (asked_mode mode) key disk.sectors image (last_image made))
          (since : let w = opened_standing (asked_mode mode) key disk.sectors image (last_image made) in
          EachMoment b after (IsLeftWithin (kind_of w) w.entry w.state.history (changes_in run.steps)))
          (others : Leaves (opened_standing (asked_mode mode) key disk.sectors image (last_image made)) (changes_in run.steps) b after) where
        begins : outset ≡ begun
        begins = ap (judged_outset begun) none

        -- In recovery mode the disk is as it was.
        as_it_was : mode ≡ Recovery → after ≡ b
        as_it_was reading = subst (λ (m : OpenMode). KeepsStill (asked_mode m) b after) reading others.still

        -- ---- in the other modes

        module _ (writing : TakesWrites mode) (on : IsWriting kind image begun) where
          abbrev w : Standing
          w = opened_standing (asked_mode mode) key disk.sectors image (last_image made)

          fields : (format_on key disk.sectors image).superblock ≡ fields_of image
          fields = fields_same writing none

          -- The disk has a sector, since its image can be read.
          some_sector : 0 < disk.sectors
          some_sector =
              let d = format_on key disk.sectors image in
              some_disk d.geometry disk.sectors (reads_tells d image (reads_on key disk.sectors image (writing.reads key disk.sectors image (writing.opens law key disk.sectors image none)))).is_geometry

          is_kind : kind_of w ≡ kind
          is_kind = kind_opened (asked_mode mode) key disk.sectors image (last_image made) ∙ writing.kind_ key disk.sectors

          -- What may be left by the image by which the device is judged may be left by the one at the start.
          left_judged : (h : History) (c : Content) → EachImage (kind.MayBeLeft w.entry h) c → EachImage (kind.MayBeLeft image h) c
          left_judged h c each left is = writing.judged key disk.sectors image (last_image made) same h left (each left is)

          within_judged : (h : History) (changes : List Change) (c : Content) → IsLeftWithin kind w.entry h changes c
              → IsLeftWithin kind image h changes c
          within_judged h changes c within = record {
            made = within.made;
            opens = within.opens;
            left = left_judged (with_changes (take within.made changes) h) c within.left;
          }

          left_then : (changes : List Change) → IsLeftNow (kind_of w) w.entry (with_changes changes w.state.history) after
              → IsLeftNow kind image (with_changes changes (kind.opened image).history) after
          left_then changes now =
              let h = with_changes changes (kind.opened image).history in
              let judged : IsLeftNow kind w.entry h after = subst (λ (k : DeviceKind). IsLeftNow k w.entry h after) is_kind now in
              record { opens = judged.opens; left = λ c at. left_judged h c (judged.left c at) }

          left_since : EachMoment b after (IsLeftWithin kind image (kind.opened image).history (changes_in run.steps))
          left_since =
              let h = (kind.opened image).history in
              EachMoment-weaker (within_judged h (changes_in run.steps))
              (subst (λ (k : DeviceKind). EachMoment b after (IsLeftWithin k w.entry h (changes_in run.steps))) is_kind since)

          left_through : EachMoment b after (MayStandAt begun start script)
          left_through =
              EachMoment-weaker
              (λ c within. record {
                run = run;
                is_run = is_run;
                made = within.made;
                left = left_on start begun on (take within.made (changes_in run.steps)) c (inr (record { opens = within.opens; left = within.left }));
              })
              left_since

          -- What stands once the device is open is what its opening left.
          opened_to : HasNow (IsOpenedTo (asked_mode mode) g start) b
          opened_to =
              content_at_end
              (EachMoment-weaker (λ c of. inr of) (written_in mode key disk.sectors start fields told leaves.writes))
              (now_of (IsOpenedTo (asked_mode mode) g start) a start told (inl refl))

          -- No block has a write where the device was opened, so the tags of those stand that the run does not write.
          unwritten : (block : ℕ) → Any (λ write. write.block ≡ block) (all_writes (kind.opened image).history) → ⊥
          unwritten block any =
              Any-nil (λ write. write.block ≡ block)
              (subst (λ (writes : List BlockWrite). Any (λ write. write.block ≡ block) writes)
              (opened_writes (asked_mode mode) (format_on key disk.sectors image) image) any)

          fewer_tags : (c : Content) → KeepsTagsOf (asked_mode mode) (IsLeftOut (kind.opened image).history (changes_in run.steps)) w.on.geometry w.entry c
              → KeepsTagsOf (asked_mode mode) (AreOfOthers (changes_in run.steps)) w.on.geometry w.entry c
          fewer_tags =
              tags_fewer (asked_mode mode) (IsLeftOut (kind.opened image).history (changes_in run.steps)) (AreOfOthers (changes_in run.steps))
              w.on.geometry w.entry (λ block others. record { before = unwritten block; since = others })

          tags_by : (c : Content) → KeepsTagsOf (asked_mode mode) (AreOfOthers (changes_in run.steps)) w.on.geometry w.entry c
              → KeepsTagsBehind kind image g run c
          tags_by c keeps = record {
            found = λ none. tags_found key disk.sectors start fields some_sector (asked_mode mode) made same (AreOfOthers (changes_in run.steps)) c none keeps;
            made = λ changed.
                tags_made key disk.sectors start fields some_sector (asked_mode mode) made same parts b told_made reads asked device changed
                (AreOfOthers (changes_in run.steps)) c keeps;
          }

          adds_by : (c : Content) → OnlyAdds (IsOfRun (asked_mode mode) w.on.geometry w.entry (changes_in run.steps)) made c
              → OnlyAdds (IsOfRun (asked_mode mode) on_geometry image (changes_in run.steps)) made c
          adds_by c =
              written_behind key disk.sectors start fields some_sector (asked_mode mode) made same (changes_in run.steps) c

          writes_behind : EachMoment b after (WritesOnlyBy begun g run start)
          writes_behind =
              EachMoment-weaker
              (λ c both. writes_on start begun on g run c (record {
                opened = made;
                opening = opened_to made told_made;
                behind = adds_by c both.0;
                tags = inr (inr (tags_by c (fewer_tags c both.1)));
              }))
              (EachMoment-both (each_from _ made told_made others.sectors) others.tags)

          moments_then : EachMoment b after (IsMomentOf begun g start script)
          moments_then =
              EachMoment-weaker
              (λ c both. record { left = both.0; only = record { run = run; is_run = is_run; only = both.1 } })
              (EachMoment-both left_through writes_behind)

        -- Each moment is one of the command,
        pub moments_behind : EachMoment a after (IsMomentOf outset g start script)
        moments_behind = elim sort [
          | Writing writing on ↦
              EachMoment-then moments_in_opening (subst (λ (o : Outset). EachMoment b after (IsMomentOf o g start script)) (sym begins) (moments_then writing on))
          | Reading reading on ↦ EachMoment-then moments_in_opening (EachMoment-kept _ (as_it_was reading))
        ]

        -- in its order,
        pub still_behind : KeepsStill (asked_mode mode) a after
        still_behind = still_then (asked_mode mode) a b after (still_opened mode key disk.sectors a b leaves.writes) others.still

        -- and where the device takes writes this is left of it.
        pub left_behind : (writing : TakesWrites mode) → (on : IsWriting kind image begun) → (changes : List Change)
            → let w = opened_standing (asked_mode mode) key disk.sectors image (last_image made) in
            IsLeftNow (kind_of w) w.entry (with_changes changes w.state.history) after → HasNow (IsOfDevice kind image changes) after
        left_behind writing on changes now =
            let left = left_then writing on changes now in
            λ c at. record { opens = left.opens c at; left = left.left c at }

        -- ---- a run that was stopped

        module _ (ending : Ending) (held_before held : Option (List ℕ))
            (stopped : IsStopped (opened_standing (asked_mode mode) key disk.sectors image (last_image made)) run ending b after held_before held) where
          left_of_run : HasNow (IsAtExit begun start stopped.changes ending) after
          left_of_run = elim sort [
            | Writing writing on ↦ λ c at.
                let left = left_behind writing on stopped.changes stopped.now c at in
                by_both start begun on (λ (o : Outset). IsAtExit o start stopped.changes ending c) (inr left) (inr left)
            | Reading reading on ↦
                subst (λ (o : Outset). HasNow (IsAtExit o start stopped.changes ending) after) (sym on)
                (λ c at. same_Some c start (sym at ∙ ap content_now (as_it_was reading ∙ opening_still reading) ∙ told))
          ]

          pub ran_behind : HasRunOn outset start script ending after held_before held
          ran_behind = subst (λ (o : Outset). HasRunOn o start script ending after held_before held) (sym begins) (record {
            run = run;
            is_run = is_run;
            text = stopped.text;
            changes = stopped.changes;
            ended = stopped.ended;
            told = stopped.told;
            left = left_of_run;
          })

-- ---- a run

module _ (law : OpensLaw) (mode : OpenMode) (key : Option (List ℕ)) (disk now : DiskIdentity) (a b : List Content)
    (start : Content) (told : content_now a ≡ Some start) (script : List ℕ) (leaves : LeavesOpening mode key disk now a b) where
  abbrev run_kind : DeviceKind
  run_kind = kind_in (asked_mode mode) key disk.sectors

  abbrev run_begun : Outset
  run_begun = begun_on mode run_kind (last_image start)

  abbrev run_sort : Sort mode run_kind (last_image start) run_begun
  run_sort = sort_of_run mode run_kind (last_image start)

  abbrev run_sound : IsSound run_begun
  run_sound = sound_begun mode run_kind (last_image start)

  pub opening_moments : EachMoment a b (IsMomentOn mode key disk.sectors start script)
  opening_moments = moments_in_opening law mode key disk now a b start told script run_begun run_sort run_sound leaves

  pub opened_content : (c : Content) × (content_now b ≡ Some c)
  opened_content = now_told opening_moments start told

  pub refused_by_opening : (held : Option (List ℕ)) (fault : CallFault OpenFault) → IsRefused mode key disk a b fault
      → HasRunOn (run_outset mode key disk.sectors (last_image start)) start script (ending_of (ended_by_opening fault)) b held held
  refused_by_opening held fault refused =
      ran_in (run_outset mode key disk.sectors (last_image start)) (fine_on mode key disk.sectors (last_image start)) start script
      (ending_of (ended_by_opening fault)) b held held
      (refused_in_opening law mode key disk now a b start told script run_begun run_sort run_sound leaves held fault refused)

  -- All of it is one of the command's runs.
  pub ran_on : (none : fault_in_mode mode key disk.sectors (last_image start) ≡ None) (run : ScriptRun) (ending : Ending) (after : List Content)
      (held_before held : Option (List ℕ))
      → IsRunOf (run_kind.format (last_image start)) (run_kind.opened (last_image start)) script run
      → (made : Content) → content_now b ≡ Some made → IsImage made (last_image made)
      → (parts : DeviceParts) → mode_of parts.mode ≡ asked_mode mode
      → IsDevice (opened_standing (asked_mode mode) key disk.sectors (last_image start) (last_image made)) Working parts b
      → IsOfSameBlocks (asked_mode mode) key disk.sectors (last_image start) (last_image made)
      → IsStopped (opened_standing (asked_mode mode) key disk.sectors (last_image start) (last_image made)) run ending b after held_before held
      → HasRunOn (run_outset mode key disk.sectors (last_image start)) start script ending after held_before held
      × EachMoment a after (IsMomentOn mode key disk.sectors start script) × KeepsStill (asked_mode mode) a after
  ran_on none run ending after held_before held is_run made told_made reads parts asked device same stopped =
      let at = run_at mode run_kind (last_image start) script run is_run in (
        ran_behind law mode key disk now a b start told script run_begun run_sort run_sound leaves none run after at made told_made reads parts asked device same
            stopped.since stopped.others ending held_before held stopped,
        moments_behind law mode key disk now a b start told script run_begun run_sort run_sound leaves none run after at made told_made reads parts asked device same
            stopped.since stopped.others,
        still_behind law mode key disk now a b start told script run_begun run_sort run_sound leaves none run after at made told_made reads parts asked device same
            stopped.since stopped.others,
      )

-- What is taken of the script is so of the command's.
pub read_on_image : {failed : Type 0} (mode : OpenMode) (key : Option (List ℕ)) (sectors : ℕ) (image : Image) (script : List ℕ)
    → let kind = kind_in (asked_mode mode) key sectors in fault_in_mode mode key sectors image ≡ None
    → (run : ScriptRun) (left held_before held : Option (List ℕ))
    → IsRunOf (kind.format image) (kind.opened image) script run → HasReadTo run script left held_before held failed
    → HasReadIn (run_outset mode key sectors image) script left held_before held failed
read_on_image {failed} mode key sectors image script none run left held_before held is_run read =
    let kind = kind_in (asked_mode mode) key sectors in
    subst (λ (o : Outset). HasReadIn o script left held_before held failed) (sym (ap (judged_outset (begun_on mode kind image)) none))
    (read_in (begun_on mode kind image) (fine_begun mode kind image) script left held_before held
    (record { run = run; is_run = run_at mode kind image script run is_run; read = read }))

-- The disk at the end is the one that was given back.
pub given_back : (mode : OpenMode) (key : Option (List ℕ)) (sectors : ℕ) (start : Content) (script : List ℕ) (ending : Ending)
    (first : List Content) (held_before held : Option (List ℕ)) {a b : List Content}
    → let outset = run_outset mode key sectors (last_image start) in
    HasRunOn outset start script ending a held_before held
    × EachMoment first a (IsMomentOn mode key sectors start script) × KeepsStill (asked_mode mode) first a → b ≡ a
    → HasRunOn outset start script ending b held_before held
    × EachMoment first b (IsMomentOn mode key sectors start script) × KeepsStill (asked_mode mode) first b
given_back mode key sectors start script ending first held_before held all same =
    subst (λ (m : List Content). HasRunOn (run_outset mode key sectors (last_image start)) start script ending m held_before
    held × EachMoment first m (IsMomentOn mode key sectors start script) × KeepsStill (asked_mode mode) first m) (sym same) all

-- ---- what is left unread, and unopened

-- What refused an opening for want of memory is no disk.
pub refused_by_memory : (fault told : CallFault OpenFault) (ended : Ended) → ended ≡ ended_by_opening told → told ≡ fault → ended ≡ Endings.Memory
    → fault ≢ CallFaults.Disk
refused_by_memory fault told ended is same memory disk =
    let other : Endings.Memory ≡ Endings.Failed outers.Disk = sym memory ∙ is ∙ ap ended_by_opening (same ∙ disk) in absurd (cc)

-- A script is read, and a close takes no memory.
pub read_at_close : (P : Type 0) (closed : Result TagsFound CloseFault) (ended : Result TagsFound Ended) → ended ≡ ended_close closed
    → IfErr ended (λ e. IsBeforeScript e → P)
read_at_close P closed ended is = subst (λ (r : Result TagsFound Ended). IfErr r (λ e. IsBeforeScript e → P)) (sym is) (by closed)
  where
    by : (c : Result TagsFound CloseFault) → IfErr (ended_close c) (λ e. IsBeforeScript e → P)
    by (Ok found) = tt
    by (Err CloseFaults.Disk) = λ before. absurd before
    by (Err CloseFaults.Sink) = λ before. absurd before

pub no_memory_at_close : (closed : Result TagsFound CloseFault) (ended : Result TagsFound Ended) → ended ≡ ended_close closed → ended ≡ Err Endings.Memory → ⊥
no_memory_at_close (Ok found) ended is memory = absurd (cc)
no_memory_at_close (Err CloseFaults.Disk) ended is memory = absurd (cc)
no_memory_at_close (Err CloseFaults.Sink) ended is memory = absurd (cc)

-- What ends the lines of a script comes behind its begin.
pub read_at_lines : (ended : Ended) → EndsScript ended → IsBeforeScript ended → ⊥
read_at_lines (Endings.Refused refusals.Words) ends before = ends
read_at_lines (Endings.Refused (refusals.Key refusal)) ends before = ends
read_at_lines (Endings.Refused (refusals.Line number refusal)) ends before = before
read_at_lines (Endings.Refused refusals.Length) ends before = before
read_at_lines (Endings.Refused (refusals.Image fault)) ends before = ends
read_at_lines (Endings.Refused (refusals.Second fault)) ends before = ends
read_at_lines (Endings.Refused (refusals.Legs a_blocks a_size b_blocks b_size)) ends before = ends
read_at_lines (Endings.Failed outers.Disk) ends before = before
read_at_lines (Endings.Failed outers.Key) ends before = ends
read_at_lines (Endings.Failed outers.Script) ends before = before
read_at_lines (Endings.Failed outers.Sink) ends before = before
read_at_lines Endings.Memory ends before = before

-- What ends the lines of a script can end a run on an image.
pub script_ends_image : (ended : Ended) → EndsScript ended → EndsImage ended
script_ends_image (Endings.Refused refusals.Words) ends = ends
script_ends_image (Endings.Refused (refusals.Key refusal)) ends = ends
script_ends_image (Endings.Refused (refusals.Image fault)) ends = tt
script_ends_image (Endings.Refused (refusals.Second fault)) ends = ends
script_ends_image (Endings.Refused (refusals.Legs a_blocks a_size b_blocks b_size)) ends = ends
script_ends_image (Endings.Refused (refusals.Line number refusal)) ends = tt
script_ends_image (Endings.Refused refusals.Length) ends = tt
script_ends_image (Endings.Failed outers.Disk) ends = tt
script_ends_image (Endings.Failed outers.Key) ends = ends
script_ends_image (Endings.Failed outers.Script) ends = tt
script_ends_image (Endings.Failed outers.Sink) ends = tt
script_ends_image Endings.Memory ends = tt

-- A script of which something was taken is not as it was.
pub taken_is_less : (left : List ℕ) (later : Option (List ℕ)) → later ≡ Some left → IsSomeAnd later (λ more. length more < length left) → ⊥
taken_is_less left later same some =
    let less = subst (λ (o : Option (List ℕ)). IsSomeAnd o (λ more. length more < length left)) same some in omega (arith, less)

-- What is left unread where a disk came back with the same moments.
pub unread_kept : {T D S : Type 0} {moments : D → List Content} {left : S → Option (List ℕ)} {mode : OpenMode} {result : Result T Ended} {first mid last : D} {script read : S}
    → LeavesUnread moments left (Tasks.Run mode) result first mid script read → moments last ≡ moments mid
    → LeavesUnread moments left (Tasks.Run mode) result first last script read
unread_kept unread same = record {
  before = unread.before;
  none = unread.none;
  unopened = λ memory bytes told as_before. same ∙ unread.unopened memory bytes told as_before;
}
