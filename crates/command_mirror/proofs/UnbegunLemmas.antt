-- A command of two images that something outside ended before its first step: nothing is printed, and nothing done.
use Rattle.std.proofs.Common.{◌≡◌, ◌≢◌, ℕ, ◌<◌, Bool, true, false, List, [], length, length-append, refl, ap, arith, inl, inr, Option, Some, None}
use Rattle.disk_model.specs.Disk.{Content, Image}
use Rattle.disk_model.specs.Moments.{HasNow}
use Rattle.device_model.specs.Refusals.{ImageFault}
use Rattle.device_model.specs.ScriptBytes.{is_too_long, lines_of}
use Rattle.run_model.specs.CommandRun.{IsFromOutside}
use Rattle.run_model.specs.Ending.{BySecond, Complete, Ending, Failed, NoMemory, Refused}
use Rattle.mirror_model.specs.Command.{IsMirrorAtExit, IsMirrorEndedBy, IsMirrorRunAt, MirrorKind, MirrorOutset, Mirrors}
use Rattle.mirror_model.specs.Command.{RefusedBefore, RefusedLegs, RefusedOpen, first_blocks, has_equal_blocks, mirror_format, mirror_outset}
use Rattle.mirror_model.specs.Command.{opened_mirror, outset_by_blocks, second_blocks, unequal_in}
use Rattle.mirror_model.specs.Mirror.{MirrorFormat, MirrorState, on_legs, with_mirror_changes}
use Rattle.mirror_model.specs.Script.{MirrorLine, level_text}
use Rattle.mirror_model.specs.ScriptRun.{MirrorRun, level_step, levelled_run, mirror_only_ends, mirror_run_from, mirror_texts_of}
use Rattle.mirror_run.proofs.RunLemmas.{came_to_changes, came_to_end, some_text, texts_of-cons}
use Rattle.mirror_run.proofs.StoppingLemmas.{told_nothing}
use Rattle.mirror_session.proofs.LinesLemmas.{mirror_lines}
use Rattle.command_mirror.specs.Mirrored.{HasMirrored}

-- ---- what is begun

-- What is refused before an image is open did not come to its end.
abbrev pub IsSound : MirrorOutset → Type 0
IsSound (RefusedBefore ending) = (found_fault : Bool) → ending ≡ Complete found_fault → ⊥
IsSound outset = Unit {0}

sound_legs : (kind : MirrorKind) (first second : Image) (equal : Bool) → IsSound (outset_by_blocks kind first second equal)
sound_legs kind first second true = tt
sound_legs kind first second false = tt

-- So it is of any two images.
pub sound_on : (kind : MirrorKind) (first second : Image) (fault second_fault : Option ImageFault)
    → IsSound (mirror_outset kind first second fault second_fault)
sound_on kind first second (Some fault) second_fault = λ found_fault is. absurd (cc)
sound_on kind first second None (Some fault) = tt
sound_on kind first second None None =
    sound_legs kind first second (has_equal_blocks (first_blocks kind first) (second_blocks kind second))

-- Each command of two images has a run.
pub some_run : (outset : MirrorOutset) (script : List ℕ) → (run : MirrorRun) × IsMirrorRunAt outset script run
some_run (RefusedBefore ending) script = (mirror_only_ends ending, refl)
some_run (RefusedOpen kind first fault) script = (mirror_only_ends (Refused (BySecond fault)), refl)
some_run (RefusedLegs kind first second) script = (mirror_only_ends (unequal_in kind first second), refl)
some_run (Mirrors kind first second) script =
    let lines = mirror_lines (lines_of script) in (
      levelled_run (mirror_format kind first second) (is_too_long script) (opened_mirror kind first second) lines.0,
      record { lines = lines.0; read = lines.1; is = refl },
    )

-- ---- nothing is done

level_text_some : (written : ℕ) → level_text written ≢ []
level_text_some written none = absurd (cc)

-- A run that comes to its end prints at least what its levelling tells.
complete_text : (f : MirrorFormat) (too_long : Bool) (m : MirrorState) (lines : List MirrorLine)
    → 0 < length (mirror_texts_of (levelled_run f too_long m lines).steps)
complete_text f too_long m lines =
    let step = level_step f m in
    let rest = mirror_run_from f too_long 1 (with_mirror_changes step.changes m) false lines in
    omega (arith, some_text step.text (level_text_some _), ap length (texts_of-cons step rest.steps), length-append step.text (mirror_texts_of rest.steps))

-- A run that only ends, and comes to no end of its own, was ended from outside with nothing done.
short_end : (own ending : Ending) → ((found_fault : Bool) → own ≡ Complete found_fault → ⊥) → IsFromOutside ending
    → IsMirrorEndedBy (mirror_only_ends own) [] (on_legs []) ending
short_end own ending other outside = inr (record {
  came = came_to_end own;
  whole_steps = λ not_sink. (0, refl);
  whole_changes = λ not_disk. (0, refl);
  short = λ complete. absurd (other complete.0 complete.1);
  outside = outside;
})

pub nothing_done : (outset : MirrorOutset) → IsSound outset → (script : List ℕ) (ending : Ending) → IsFromOutside ending
    → (run : MirrorRun) → IsMirrorRunAt outset script run → IsMirrorEndedBy run [] (on_legs []) ending
nothing_done (RefusedBefore own) sound script ending outside run is = rw is (short_end own ending sound outside)
nothing_done (RefusedOpen kind first fault) sound script ending outside run is =
    rw is (short_end (Refused (BySecond fault)) ending (λ found_fault same. absurd (cc)) outside)
nothing_done (RefusedLegs kind first second) sound script ending outside run is =
    rw is (short_end (unequal_in kind first second) ending (λ found_fault same. absurd (cc)) outside)
nothing_done (Mirrors kind first second) sound script ending outside run is =
    let f = mirror_format kind first second in
    let m = opened_mirror kind first second in
    rw is.is (inr (record {
      came = came_to_changes (level_step f m) _ 0 0 (level_text_some _);
      whole_steps = λ not_sink. (0, refl);
      whole_changes = λ not_disk. (0, refl);
      short = λ complete. complete_text f (is_too_long script) m is.lines;
      outside = outside;
    }))

-- ---- for callers

-- What something outside has ended before its first step came so far, and leaves this of both disks.
pub nothing_mirrored : (outset : MirrorOutset) → IsSound outset → (start second_start : Content) (script : List ℕ) (ending : Ending)
    → IsFromOutside ending → (after second_after : List Content)
    → HasNow (λ later. HasNow (IsMirrorAtExit outset start second_start (on_legs []) ending later) second_after) after
    → (held : Option (List ℕ)) → HasMirrored outset start second_start script ending after second_after held held
nothing_mirrored outset sound start second_start script ending outside after second_after left held =
    let run = some_run outset script in
    record {
      run = run.0;
      is_run = run.1;
      text = [];
      changes = on_legs [];
      ended = nothing_done outset sound script ending outside run.0 run.1;
      told = told_nothing held;
      left = left;
    }

-- Where neither disk was called, this is left of them.
pub left_as_it_was : (outset : MirrorOutset) (start second_start : Content) (ending : Ending) → IsFromOutside ending
    → IsMirrorAtExit outset start second_start (on_legs []) ending start second_start
left_as_it_was (RefusedBefore refused) start second_start ending outside = (inl refl, refl)
left_as_it_was (RefusedOpen kind first fault) start second_start (Complete found_fault) outside = absurd outside
left_as_it_was (RefusedOpen kind first fault) start second_start (Refused refusal) outside = absurd outside
left_as_it_was (RefusedOpen kind first fault) start second_start (Failed outer) outside = (inl (refl, inl refl), inl refl)
left_as_it_was (RefusedOpen kind first fault) start second_start NoMemory outside = (inl (refl, inl refl), inl refl)
left_as_it_was (RefusedLegs kind first second) start second_start (Complete found_fault) outside = absurd outside
left_as_it_was (RefusedLegs kind first second) start second_start (Refused refusal) outside = absurd outside
left_as_it_was (RefusedLegs kind first second) start second_start (Failed outer) outside = inl (inl (refl, inl refl), refl)
left_as_it_was (RefusedLegs kind first second) start second_start NoMemory outside = inl (inl (refl, inl refl), refl)
left_as_it_was (Mirrors kind first second) start second_start ending outside = inl (refl, inl (inl (refl, inl refl), refl))
