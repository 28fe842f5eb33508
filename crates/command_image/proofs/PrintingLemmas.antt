-- What has no script: what it prints, and what it leaves.
use Rattle.std.proofs.Common.{◌≡◌, ◌≢◌, ◌⊎◌, inl, inr, ℕ, Bool, false, List, [], ◌∷◌, map, take, append-nil, refl, sym, ◌∙◌, ap, subst, Option, Some, unwrap_or, Ok, Err}
use Rattle.std.specs.Option.{option_map}
use Rattle.disk_model.specs.Disk.{Content, last_image}
use Rattle.disk_model.specs.Moments.{content_now, HasNow}
use Rattle.run_model.specs.Ending.{Ending, Complete, Failed, NoMemory}
use Rattle.run_model.specs.ScriptRun.{texts_of}
use Rattle.stream_io.specs.Stream.{AddsPrefix, held_with, with_bytes}
use Rattle.image_refusal.specs.declared.call_fault.CallFault.{CallFault}
use Rattle.image_refusal.specs.declared.call_fault.CallFault.TheVariants as CallFaults
use Rattle.image_refusal.specs.declared.dump_fault.DumpFault.{DumpFault}
use Rattle.image_refusal.specs.declared.dump_fault.DumpFault.TheVariants as DumpFaults
use Rattle.image_refusal.specs.declared.open_fault.HeadFault.TheVariants as HeadFaults
use Rattle.dump_model.specs.declared.shown.Dump.{Dump}
use Rattle.dump_model.specs.Dump.{dump_of}
use Rattle.dump_model.specs.Lines.{dump_lines, joined_lines}
use Rattle.command_ending.specs.Ended.{ending_of}
use Rattle.run_model.specs.CommandRun.{Outset, Prints, IsEndedShort, IsAtExit, IsRunAt, only_prints, printing_step}
use Rattle.command_task.specs.Dumping.{ended_by_dump}
use Rattle.command_model.specs.Dumping.{dump_outset, ending_by_dump, outset_by_dump}
use Rattle.command_task.specs.Opening.{HasRunOn}
use Rattle.command_task.proofs.OutsetLemmas.{fine_dump}
use Rattle.command_task.proofs.UnbegunLemmas.{before_kept, nothing_run, refused_run, untouched_kept}
use Rattle.command_task.proofs.TextsLemmas.{text_short, texts_change_nothing}
use Rattle.run_model.specs.declared.outer.Outer.TheVariants as outers

-- The content now is that at the start, where the moments are as before.
pub same_now : {a b : List Content} (start : Content) → content_now a ≡ Some start → b ≡ a → HasNow (λ c. c ≡ start) b
same_now start told same c here = ap (λ (o : Option Content). unwrap_or o start) (sym here ∙ ap content_now same ∙ told)

-- ---- texts that are printed, by what they stand for

-- What is run prints these texts, whatever the script is.
abbrev pub IsTold : Outset → List (List ℕ) → (found : Bool) → Type 0
IsTold outset texts found = (script : List ℕ) → IsRunAt outset script (only_prints texts found)

module _ (outset : Outset) (texts : List (List ℕ)) (found : Bool) (start : Content) (script : List ℕ) (after : List Content)
    (held_before : Option (List ℕ)) (is : IsTold outset texts found) where
  -- All of them are printed, and this is left.
  pub all_printed : (text : List ℕ) (held : Option (List ℕ)) → text ≡ texts_of (map printing_step texts) → held ≡ held_with text held_before
      → HasNow (IsAtExit outset start [] (Complete found)) after → HasRunOn outset start script (Complete found) after held_before held
  all_printed text held all told left = record {
    run = only_prints texts found;
    is_run = is script;
    text = text;
    changes = [];
    ended = inl (record { whole = record { is_text = all; is_changes = sym (texts_change_nothing texts) }; is = refl });
    told = told;
    left = left;
  }

  -- Something outside ended that.
  pub part_printed : (text : List ℕ) (ending : Ending) (held : Option (List ℕ)) → IsEndedShort (only_prints texts found) text [] ending
      → held ≡ held_with text held_before → HasNow (IsAtExit outset start [] ending) after → HasRunOn outset start script ending after held_before held
  part_printed text ending held short told left = record {
    run = only_prints texts found;
    is_run = is script;
    text = text;
    changes = [];
    ended = inr short;
    told = told;
    left = left;
  }

-- The same of one text: all of it is printed,
pub one_printed : (outset : Outset) (text : List ℕ) (start : Content) (script : List ℕ) (after : List Content) (held_before held : Option (List ℕ))
    → IsTold outset (text ∷ []) false → held ≡ held_with text held_before → HasNow (IsAtExit outset start [] (Complete false)) after
    → HasRunOn outset start script (Complete false) after held_before held
one_printed outset text start script after held_before held is told left =
    all_printed outset (text ∷ []) false start script after held_before is text held (sym (append-nil text)) told left

-- or the sink failed before its end.
pub one_cut : (outset : Outset) (text : List ℕ) (start : Content) (script : List ℕ) (after : List Content) (held_before held : Option (List ℕ))
    → IsTold outset (text ∷ []) false → AddsPrefix text held_before held → HasNow (IsAtExit outset start [] (Failed outers.Sink)) after
    → HasRunOn outset start script (Failed outers.Sink) after held_before held
one_cut outset text start script after held_before held is prefix left =
    part_printed outset (text ∷ []) false start script after held_before is (take prefix.count text) (Failed outers.Sink) held
    (text_short text [] false prefix.count (Failed outers.Sink) prefix.short (λ other. absurd (other refl)) tt) prefix.held left

-- ---- an image that is shown

module _ (sectors : ℕ) (start : Content) (script : List ℕ) {a b : List Content} (told : content_now a ≡ Some start) (kept : b ≡ a) where
  shown_as : (dump : Dump) → dump_of sectors (last_image start) ≡ Ok dump → dump_outset sectors (last_image start) ≡ Prints (joined_lines (dump_lines dump) ∷ []) false
  shown_as dump shown = ap outset_by_dump shown

  pub printed : (dump : Dump) (held_before held : Option (List ℕ)) → dump_of sectors (last_image start) ≡ Ok dump
      → held ≡ option_map (with_bytes (joined_lines (dump_lines dump))) held_before
      → HasRunOn (dump_outset sectors (last_image start)) start script (Complete false) b held_before held
  printed dump held_before held shown put =
      let text = joined_lines (dump_lines dump) in
      subst (λ (o : Outset). HasRunOn o start script (Complete false) b held_before held) (sym (shown_as dump shown))
      (one_printed (Prints (text ∷ []) false) text start script b held_before held (λ s. refl) put (same_now start told kept))

  pub printed_part : (dump : Dump) (held_before held : Option (List ℕ)) → dump_of sectors (last_image start) ≡ Ok dump
      → AddsPrefix (joined_lines (dump_lines dump)) held_before held
      → HasRunOn (dump_outset sectors (last_image start)) start script (Failed outers.Sink) b held_before held
  printed_part dump held_before held shown put =
      let text = joined_lines (dump_lines dump) in
      subst (λ (o : Outset). HasRunOn o start script (Failed outers.Sink) b held_before held) (sym (shown_as dump shown))
      (one_cut (Prints (text ∷ []) false) text start script b held_before held (λ s. refl) put (same_now start told kept))

  -- There was no memory, or the disk failed: nothing is printed.
  pub unshown : (ending : Ending) (held : Option (List ℕ)) → (ending ≡ NoMemory) ⊎ (ending ≡ Failed outers.Disk)
      → HasRunOn (dump_outset sectors (last_image start)) start script ending b held held
  unshown ending held early = elim early [
    | inl memory ↦
        subst (λ (e : Ending). HasRunOn (dump_outset sectors (last_image start)) start script e b held held) (sym memory)
        (nothing_run (dump_outset sectors (last_image start)) (fine_dump sectors (last_image start)) start script NoMemory tt b
        (before_kept (dump_outset sectors (last_image start)) start told kept) held held refl)
    | inr disk ↦
        subst (λ (e : Ending). HasRunOn (dump_outset sectors (last_image start)) start script e b held held) (sym disk)
        (nothing_run (dump_outset sectors (last_image start)) (fine_dump sectors (last_image start)) start script (Failed outers.Disk) tt b
        (before_kept (dump_outset sectors (last_image start)) start told kept) held held refl)
  ]

  -- The image is refused.
  unshown_by : (cause : DumpFault) (held : Option (List ℕ)) → dump_of sectors (last_image start) ≡ Err cause
      → HasRunOn (dump_outset sectors (last_image start)) start script (ending_by_dump cause) b held held
  unshown_by cause held refused =
      refused_run (dump_outset sectors (last_image start)) start script (ending_by_dump cause) (ap outset_by_dump refused) b
      (untouched_kept start told kept) held held refl

  pub not_shown : (fault : CallFault DumpFault) (held : Option (List ℕ))
      → ((cause : DumpFault) → fault ≡ CallFaults.Refused cause → dump_of sectors (last_image start) ≡ Err cause)
      → HasRunOn (dump_outset sectors (last_image start)) start script (ending_of (ended_by_dump fault)) b held held
  not_shown CallFaults.Memory held refused = unshown NoMemory held (inl refl)
  not_shown CallFaults.Disk held refused = unshown (Failed outers.Disk) held (inr refl)
  not_shown (CallFaults.Refused (DumpFaults.Head (HeadFaults.Super fault))) held refused =
      unshown_by (DumpFaults.Head (HeadFaults.Super fault)) held (refused _ refl)
  not_shown (CallFaults.Refused (DumpFaults.Head (HeadFaults.Geom fault))) held refused =
      unshown_by (DumpFaults.Head (HeadFaults.Geom fault)) held (refused _ refl)
  not_shown (CallFaults.Refused (DumpFaults.Scan fault)) held refused = unshown_by (DumpFaults.Scan fault) held (refused _ refl)
