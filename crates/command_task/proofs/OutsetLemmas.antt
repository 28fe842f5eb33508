-- What a command starts on: where it is not refused, it has a line to print or a run to do.
use Rattle.std.proofs.Common.{◌≡◌, inl, inr, ℕ, ◌+◌, ◌<◌, Bool, List, [], ◌∷◌, ◌++◌, length, map, drop, length-append, codes, arith, refl, sym, ◌∙◌, ap, subst, Option, Some, None, Result, Ok, Err}
use Rattle.std.specs.List.{range_with_len}
use Rattle.std.proofs.lemmas.Bool.{cases_Bool}
use Rattle.std.specs.Fmt.{decimal}
use Rattle.std.proofs.lemmas.List.Concat.{flat_map-cons}
use Rattle.disk_model.specs.Disk.{Content, Image}
use Rattle.device_model.specs.Device.{DeviceKind}
use Rattle.disk_model.proofs.DiskLemmas.{OnlyAdds-none}
use Rattle.run_model.specs.Ending.{Ending, Complete, Refused, ByWords, ByKey}
use Rattle.run_model.specs.declared.key_refusal.KeyRefusal.{KeyRefusal}
use Rattle.image_model.specs.declared.geom_fault.GeomFault.{GeomFault}
use Rattle.image_refusal.specs.declared.open_fault.HeadFault.{HeadFault}
use Rattle.image_refusal.specs.declared.open_fault.HeadFault.TheVariants as HeadFaults
use Rattle.check_model.specs.Bad.{bad_blocks}
use Rattle.check_model.specs.declared.bad.Bad.{Bad}
use Rattle.image_model.specs.declared.judged.What.{What}
use Rattle.judging_model.specs.Faults as faults
use Rattle.check_model.specs.Faults.{fault_for}
use Rattle.judging_model.specs.Faults.{ImageFault}
use Rattle.device.specs.Opening.{fault_in_mode, asked_mode}
use Rattle.place_model.specs.Format.{DiskFormat, format_on}
use Rattle.device_model.specs.Refusals as Refusals
use Rattle.place_model.specs.Refusals.{read_fault_of}
use Rattle.resize_model.specs.Refusals.{resize_fault_of}
use Rattle.resize_model.specs.Resized.{resized_text}
use Rattle.command_model.specs.Resizing.{outset_by_resize, Recovers, resizing_outset}
use Rattle.salvage_model.specs.Salvaging.{block_text, counts_text, verdict_text}
use Rattle.command_model.specs.Salvaging.{outset_by_salvage, salvage_outset}
use Rattle.salvage_model.specs.Verdicts.{Verdict, is_good, salvaged_bytes, verdict_on}
use Rattle.image_refusal.specs.declared.dump_fault.DumpFault.{DumpFault}
use Rattle.image_refusal.specs.declared.dump_fault.DumpFault.TheVariants as DumpFaults
use Rattle.dump_model.specs.declared.shown.Dump.{Dump}
use Rattle.dump_model.specs.Dump.{dump_of}
use Rattle.dump_model.specs.Lines.{dump_lines, joined_lines}
use Rattle.formatting_model.specs.declared.new_image.NewImage.{NewImage}
use Rattle.formatting_model.specs.NewImage.{provided_of}
use Rattle.formatting_model.specs.Written.{IsOfNewImage}
use Rattle.command_task.specs.declared.asked.Asked.{Asked}
use Rattle.command_task.specs.declared.asked.Task.{Task}
use Rattle.command_task.specs.declared.asked.Task.TheVariants as Tasks
use Rattle.command_model.specs.Checking.{check_outset, counts_line, bad_line, outset_by_check}
use Rattle.command_model.specs.Dumping.{dump_outset, outset_by_dump}
use Rattle.command_model.specs.Exercising.{exercise_image, exercise_outset, outset_by_exercise}
use Rattle.command_model.specs.Making.{IsLeftByMaking, format_outset, formatted_text, outset_by_format}
use Rattle.run_model.specs.CommandRun.{Outset, RefusedBy, RunsOn, Prints, Makes, Exercises, ReadsOn, Changes, Serves}
use Rattle.command_task.proofs.TextsLemmas.{BeginsText}
use Rattle.device.specs.declared.opening.OpenMode.{OpenMode}
use Rattle.device.specs.declared.opening.OpenMode.TheVariants.{Bitmap, Direct, Journal, Recovery}
use Rattle.place_model.specs.Kind.{kind_in}
use Rattle.command_model.specs.Refusing.{ending_by_head, ending_by_refusal}
use Rattle.command_task.specs.Outset.{begun_on, task_outset, run_outset, keyed_outset, asked_outset}
use Rattle.command_model.specs.Outset.{judged_outset}

-- ---- what a command starts on

-- It is not refused by a run's own end, and no stream is served.
abbrev pub IsFine : Outset → Type 0
IsFine (RefusedBy ending) = (found : Bool) → ending ≡ Complete found → ⊥
IsFine (RunsOn kind image) = Unit {0}
IsFine (Prints texts found) = BeginsText texts
IsFine (Makes making) = (0 < length making.text) × ((start : Content) → making.MayBeLeft start start)
IsFine (Exercises exercising) = (start : Content) → exercising.MayBeLeft start start
IsFine (ReadsOn kind image) = Unit {0}
IsFine (Changes changing) = (0 < length changing.text) × ((start : Content) → changing.MayBeLeft start start)
IsFine (Serves kind image) = ⊥

abbrev is_complete_type : Ending → Type 0
is_complete_type (Complete found) = Unit {0}
is_complete_type ending = ⊥

no_complete : (ending : Ending) → (is_complete_type ending → ⊥) → (found : Bool) → ending ≡ Complete found → ⊥
no_complete ending none found is = none (subst is_complete_type (sym is) tt)

fine_head_fault : (fault : HeadFault) → IsFine (RefusedBy (ending_by_head fault))
fine_head_fault (HeadFaults.Super fault) = no_complete _ (λ (x : ⊥). x)
fine_head_fault (HeadFaults.Geom fault) = no_complete _ (λ (x : ⊥). x)

fine_refused : (refusal : ImageFault) → IsFine (RefusedBy (ending_by_refusal refusal))
fine_refused (faults.ByHead fault) = fine_head_fault fault
fine_refused (faults.ByConsent flags) = no_complete _ (λ (x : ⊥). x)
fine_refused (faults.ByJournal fault) = no_complete _ (λ (x : ⊥). x)

pub fine_begun : (mode : OpenMode) (kind : DeviceKind) (image : Image) → IsFine (begun_on mode kind image)
fine_begun (Direct consent) kind image = tt
fine_begun (Journal consent) kind image = tt
fine_begun (Bitmap consent) kind image = tt
fine_begun Recovery kind image = tt

fine_by : (begun : Outset) → IsFine begun → (refusal : Option ImageFault) → IsFine (judged_outset begun refusal)
fine_by begun fine None = fine
fine_by begun fine (Some refusal) = fine_refused refusal

pub fine_on : (mode : OpenMode) (key : Option (List ℕ)) (sectors : ℕ) (image : Image) → IsFine (run_outset mode key sectors image)
fine_on mode key sectors image =
    let kind = kind_in (asked_mode mode) key sectors in
    fine_by (begun_on mode kind image) (fine_begun mode kind image) (fault_in_mode mode key sectors image)

-- Lines have a text where the first one has.
some_lines : (line : List ℕ) (lines : List (List ℕ)) → 0 < length line → 0 < length (joined_lines (line ∷ lines))
some_lines line lines some =
    let whole : length (joined_lines (line ∷ lines)) ≡ length (line ++ codes "\n") + length (joined_lines lines) =
    ap length (flat_map-cons (λ (l : List ℕ). l ++ codes "\n") line lines)
    ∙ length-append (line ++ codes "\n") (joined_lines lines) in
    omega (arith, whole, length-append line (codes "\n"), some)

shown_prints : (dump : Dump) → 0 < length (joined_lines (dump_lines dump))
shown_prints dump =
    some_lines (codes "version " ++ decimal dump.format.fields.version) (drop 1 (dump_lines dump))
    (omega (arith, length-append (codes "version ") (decimal dump.format.fields.version)))

pub made_prints : (provided : ℕ) → 0 < length (formatted_text provided)
made_prints provided = omega (arith, length-append (codes "formatted provided ") (decimal provided ++ codes "\n"))

fine_shown : (told : Result Dump DumpFault) → IsFine (outset_by_dump told)
fine_shown (Ok dump) = shown_prints dump
fine_shown (Err (DumpFaults.Head fault)) = fine_head_fault fault
fine_shown (Err (DumpFaults.Scan fault)) = no_complete _ (λ (x : ⊥). x)

pub fine_dump : (sectors : ℕ) (image : Image) → IsFine (dump_outset sectors image)
fine_dump sectors image = fine_shown (dump_of sectors image)

-- Its lines begin with one that says something.
pub lines_begin : (bad : List Bad) (last : List ℕ) → 0 < length last → BeginsText (map bad_line bad ++ last ∷ [])
lines_begin [] last some = some
lines_begin (bad ∷ more) last some = omega (arith, length-append (codes "bad ") (drop 4 (bad_line bad)))

pub counts_begin : (blocks bad awaiting : ℕ) → 0 < length (counts_line blocks bad awaiting)
counts_begin blocks bad awaiting =
    omega (arith, length-append (codes "blocks ") (drop 7 (counts_line blocks bad awaiting)))

fine_checked : (what : What) (d : DiskFormat) (image : Image) (refusal : Option ImageFault) → IsFine (outset_by_check what d image refusal)
fine_checked what d image None = lines_begin (bad_blocks what d image) _ (counts_begin _ _ _)
fine_checked what d image (Some refusal) = fine_refused refusal

pub fine_check : (what : What) (key : Option (List ℕ)) (sectors : ℕ) (image : Image) → IsFine (check_outset what key sectors image)
fine_check what key sectors image = fine_checked what (format_on key sectors image) image (fault_for what key sectors image)

-- The last line of a salvage says something, and so does the line of each block.
pub salvage_counts_begin : (blocks bad : ℕ) → 0 < length (counts_text blocks bad)
salvage_counts_begin blocks bad =
    omega (arith, length-append (codes "blocks ") (drop 7 (counts_text blocks bad)))

pub verdict_begins : (verdict : Verdict) (bytes : List ℕ) → 0 < length (verdict_text verdict bytes)
verdict_begins verdict bytes = elim (cases_Bool (is_good verdict)) [
  | inl good ↦ rw good (omega (arith, length-append (codes "good ") (drop 5 (verdict_text verdict bytes))))
  | inr bad ↦ rw bad (omega (arith, length-append (codes "bad ") (drop 4 (verdict_text verdict bytes))))
]

-- So its lines begin with one that says something, from each block on.
pub blocks_begin : (d : DiskFormat) (image : Image) (blocks : List ℕ) (last : List ℕ) → 0 < length last
    → BeginsText (map (block_text d image) blocks ++ last ∷ [])
blocks_begin d image [] last some = some
blocks_begin d image (b ∷ blocks) last some = verdict_begins (verdict_on d image b) (salvaged_bytes d image b)

fine_salvaged : (d : DiskFormat) (image : Image) (refusal : Option Refusals.ImageFault) → IsFine (outset_by_salvage d image refusal)
fine_salvaged d image None = blocks_begin d image (range_with_len 0 d.geometry.blocks) _ (salvage_counts_begin _ _)
fine_salvaged d image (Some refusal) = no_complete _ (λ (x : ⊥). x)

pub fine_salvage : (key : Option (List ℕ)) (sectors : ℕ) (image : Image) → IsFine (salvage_outset key sectors image)
fine_salvage key sectors image = fine_salvaged (format_on key sectors image) image (read_fault_of sectors image)

pub resized_prints : (provided resized : ℕ) → 0 < length (resized_text provided resized)
resized_prints provided resized =
    omega (arith, length-append (codes "provided ") (drop 9 (resized_text provided resized)))

fine_resized : (key : Option (List ℕ)) (sectors : ℕ) (image : Image) (refusal : Option Refusals.ImageFault)
    → IsFine (outset_by_resize (Recovers key sectors image) key sectors image refusal)
fine_resized key sectors image None = (resized_prints _ _, λ start. inl refl)
fine_resized key sectors image (Some refusal) = no_complete _ (λ (x : ⊥). x)

pub fine_resize : (key : Option (List ℕ)) (sectors : ℕ) (image : Image) → IsFine (resizing_outset key sectors image)
fine_resize key sectors image = fine_resized key sectors image (resize_fault_of key sectors image)

-- What stood at the start may stand while an image is made.
pub left_at_start : (key : Option (List ℕ)) (sectors : ℕ) (new : NewImage) (start : Content) → IsLeftByMaking key sectors new start start
left_at_start key sectors new start = record { images = λ image is. inl is; writes = OnlyAdds-none (IsOfNewImage sectors new start) start }

fine_made : (key : Option (List ℕ)) (sectors : ℕ) (new : NewImage) (told : Result ℕ GeomFault) → IsFine (outset_by_format key sectors new told)
fine_made key sectors new (Ok provided) = (made_prints provided, left_at_start key sectors new)
fine_made key sectors new (Err fault) = no_complete _ (λ (x : ⊥). x)

pub fine_format : (key : Option (List ℕ)) (sectors : ℕ) (new : NewImage) → IsFine (format_outset key sectors new)
fine_format key sectors new = fine_made key sectors new (provided_of new sectors)

fine_exercised : (sectors count seed : ℕ) (told : Result ℕ GeomFault) → IsFine (outset_by_exercise sectors count seed told)
fine_exercised sectors count seed (Ok provided) = left_at_start None sectors exercise_image
fine_exercised sectors count seed (Err fault) = no_complete _ (λ (x : ⊥). x)

pub fine_exercise : (sectors count seed : ℕ) → IsFine (exercise_outset sectors count seed)
fine_exercise sectors count seed = fine_exercised sectors count seed (provided_of exercise_image sectors)

-- ---- what it starts on where a stream may be served

-- It is fine, or a stream is served.
abbrev pub IsSound : Outset → Type 0
IsSound (Serves kind image) = Unit {0}
IsSound outset = IsFine outset

pub fine_sound : (outset : Outset) → IsFine outset → IsSound outset
fine_sound (RefusedBy ending) fine = fine
fine_sound (RunsOn kind image) fine = fine
fine_sound (Prints texts found) fine = fine
fine_sound (Makes making) fine = fine
fine_sound (Exercises exercising) fine = fine
fine_sound (ReadsOn kind image) fine = fine
fine_sound (Changes changing) fine = fine
fine_sound (Serves kind image) fine = tt

pub sound_by : (begun : Outset) → IsSound begun → (refusal : Option ImageFault) → IsSound (judged_outset begun refusal)
sound_by begun sound None = sound
sound_by begun sound (Some refusal) = fine_refused refusal

pub sound_begun : (mode : OpenMode) (kind : DeviceKind) (image : Image) → IsSound (begun_on mode kind image)
sound_begun mode kind image = fine_sound (begun_on mode kind image) (fine_begun mode kind image)

sound_at : (task : Task) (key : Option (List ℕ)) (sectors : ℕ) (image : Image) → IsSound (task_outset task key sectors image)
sound_at (Tasks.Run mode) key sectors image = fine_sound (run_outset mode key sectors image) (fine_on mode key sectors image)
sound_at (Tasks.Serve mode) key sectors image =
    sound_by (Serves (kind_in (asked_mode mode) key sectors) image) tt (fault_in_mode mode key sectors image)
sound_at Tasks.Dump key sectors image = fine_sound (dump_outset sectors image) (fine_dump sectors image)
sound_at (Tasks.Check what) key sectors image = fine_sound (check_outset what key sectors image) (fine_check what key sectors image)
sound_at Tasks.Salvage key sectors image = fine_sound (salvage_outset key sectors image) (fine_salvage key sectors image)
sound_at Tasks.Resize key sectors image = fine_sound (resizing_outset key sectors image) (fine_resize key sectors image)
sound_at (Tasks.Format new) key sectors image = fine_sound (format_outset key sectors new) (fine_format key sectors new)
sound_at (Tasks.Exercise seed count) key sectors image = fine_sound (exercise_outset sectors count seed) (fine_exercise sectors count seed)

sound_under : (task : Task) (told : Result (Option (List ℕ)) KeyRefusal) (sectors : ℕ) (image : Image) → IsSound (keyed_outset task told sectors image)
sound_under task (Ok key) sectors image = sound_at task key sectors image
sound_under task (Err refusal) sectors image = no_complete (Refused (ByKey refusal)) (λ (x : ⊥). x)

pub sound_for : (asked : Option Asked) (key_bytes : List ℕ) (sectors : ℕ) (image : Image) → IsSound (asked_outset asked key_bytes sectors image)
sound_for None key_bytes sectors image = no_complete (Refused ByWords) (λ (x : ⊥). x)
sound_for (Some asked) key_bytes sectors image = sound_under asked.task _ sectors image

-- It is a run's, or is refused.
abbrev pub IsOfRun : Outset → Type 0
IsOfRun (RefusedBy ending) = Unit {0}
IsOfRun (RunsOn kind image) = Unit {0}
IsOfRun (Prints texts found) = ⊥
IsOfRun (Makes making) = ⊥
IsOfRun (Exercises exercising) = ⊥
IsOfRun (ReadsOn kind image) = Unit {0}
IsOfRun (Changes changing) = ⊥
IsOfRun (Serves kind image) = Unit {0}
