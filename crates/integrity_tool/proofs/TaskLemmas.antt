-- The end of what has no script, as the end of a run.
use Rattle.std.proofs.Common.{◌≡◌, ℕ, List, refl, sym, ap, subst, arith, Option, Result, Ok, Err, IfErr}
use Rattle.disk_model.specs.Disk.{Content, last_image}
use Rattle.command_ending.specs.declared.ended.Ended.{Ended}
use Rattle.command_ending.specs.declared.ended.Ended.TheVariants as Endings
use Rattle.run_model.specs.CommandRun.{Outset}
use Rattle.command_task.specs.declared.asked.Task.{Task}
use Rattle.command_task.specs.declared.telling.Telling.{Telling}
use Rattle.command_task.specs.declared.telling.Telling.TheVariants.{Lines}
use Rattle.command_task.specs.Opening.{EndsImage, HasRunIn, HasRunOn}
use Rattle.command_model.specs.Opening.{HasReadIn}
use Rattle.command_task.specs.Order.{HasMomentsAt}
use Rattle.command_task.specs.Outset.{task_outset}
use Rattle.command_task.specs.Running.{ending_by}
use Rattle.script_lines.specs.Ends.{HasEndCause, IsCounted}
use Rattle.command_image.specs.Tasks.{EndsTask, ending_done, found_by}
use Rattle.command_task.proofs.OutsetLemmas.{IsFine}
use Rattle.command_task.proofs.UnbegunLemmas.{read_in_further, read_none, told_by_lines}
use Rattle.run_model.specs.Ending.{Ending}
use Rattle.std.specs.Prelude.{Some}
use Rattle.run_model.specs.declared.outer.Outer.{Outer}
use Rattle.run_model.specs.declared.outer.Outer.TheVariants as outers
use Rattle.command_ending.specs.declared.refusal.Refusal.TheVariants as refusals

pub ending_found : (r : Result (Unit {0}) Ended) → ending_by (found_by r) ≡ ending_done r
ending_found (Ok done) = refl
ending_found (Err ended) = refl

ends_image : (ended : Ended) → EndsTask ended → EndsImage ended
ends_image (Endings.Refused refusals.Words) ends = ends
ends_image (Endings.Refused (refusals.Key refusal)) ends = ends
ends_image (Endings.Refused (refusals.Line number refusal)) ends = tt
ends_image (Endings.Refused refusals.Length) ends = tt
ends_image (Endings.Refused (refusals.Image fault)) ends = tt
ends_image (Endings.Refused (refusals.Second fault)) ends = ends
ends_image (Endings.Refused (refusals.Legs a_blocks a_size b_blocks b_size)) ends = ends
ends_image (Endings.Failed outers.Disk) ends = tt
ends_image (Endings.Failed outers.Key) ends = ends
ends_image (Endings.Failed outers.Script) ends = tt
ends_image (Endings.Failed outers.Sink) ends = tt
ends_image Endings.Memory ends = tt

pub ends_wider : {T : Type 0} (r : Result T Ended) → IfErr r EndsTask → IfErr r EndsImage
ends_wider (Ok done) ends = tt
ends_wider (Err ended) ends = ends_image ended ends

pub ends_found : (r : Result (Unit {0}) Ended) → IfErr r EndsTask → IfErr (found_by r) EndsImage
ends_found (Ok done) ends = tt
ends_found (Err ended) ends = ends_image ended ends

cause_wider : (disk script sink : Type 0) (ended : Ended) → HasEndCause disk ⊥ sink ended → HasEndCause disk script sink ended
cause_wider disk script sink (Endings.Refused refusal) cause = tt
cause_wider disk script sink (Endings.Failed outers.Disk) cause = cause
cause_wider disk script sink (Endings.Failed outers.Key) cause = tt
cause_wider disk script sink (Endings.Failed outers.Script) cause = absurd cause
cause_wider disk script sink (Endings.Failed outers.Sink) cause = cause
cause_wider disk script sink Endings.Memory cause = tt

pub causes_wider : {T : Type 0} (disk script sink : Type 0) (r : Result T Ended) → IfErr r (HasEndCause disk ⊥ sink) → IfErr r (HasEndCause disk script sink)
causes_wider disk script sink (Ok done) cause = tt
causes_wider disk script sink (Err ended) cause = cause_wider disk script sink ended cause

pub cause_found : (disk script sink : Type 0) (r : Result (Unit {0}) Ended) → IfErr r (HasEndCause disk ⊥ sink) → IfErr (found_by r) (HasEndCause disk script sink)
cause_found disk script sink (Ok done) cause = tt
cause_found disk script sink (Err ended) cause = cause_wider disk script sink ended cause

pub counted_found : (outer : Outer) (before after : ℕ) (r : Result (Unit {0}) Ended) → IsCounted outer before after r → IsCounted outer before after (found_by r)
counted_found outer before after r counted = record {
  later = counted.later;
  passed = λ other. counted.passed (λ is. other (ap found_by is));
}

-- What is not called counts no fault.
pub uncounted : {T : Type 0} (outer : Outer) (count : ℕ) (r : Result T Ended) → IsCounted outer count count r
uncounted outer count r = record { later = omega arith; passed = λ other. refl }

-- What holds whatever ended it.
pub whatever_ended : {T : Type 0} (P : Ended → Type 0) → ((ended : Ended) → P ended) → (r : Result T Ended) → IfErr r P
whatever_ended P holds (Ok x) = tt
whatever_ended P holds (Err ended) = holds ended

-- A script that is not called has all of it left, whatever is printed.
pub read_no_script : (outset : Outset) (start : Content) (script : List ℕ) (ending : Ending) (after : List Content) (held_before held left : Option (List ℕ))
    (failed : Type 0) → left ≡ Some script → HasRunOn outset start script ending after held_before held
    → HasReadIn outset script left held_before held failed
read_no_script outset start script ending after held_before held left failed told ran =
    read_in_further outset script left held_before held_before failed (read_none outset script held_before failed told)
    (record { more = ran.text; is = ran.told })

-- What has no stream to serve is told by lines.
pub runs_told : (task : Task) (telling : Telling) (key : Option (List ℕ)) (sectors : ℕ) (start : Content) (script : List ℕ) (ending : Ending)
    (before after : List Content) (held_before held : Option (List ℕ)) → telling ≡ Lines → IsFine (task_outset task key sectors (last_image start))
    → HasRunOn (task_outset task key sectors (last_image start)) start script ending after held_before held
    × HasMomentsAt task key sectors start script before after
    → HasRunIn (task_outset task key sectors (last_image start)) telling start script ending after held_before held
    × HasMomentsAt task key sectors start script before after
runs_told task telling key sectors start script ending before after held_before held lines fine runs =
    let outset = task_outset task key sectors (last_image start) in (
      subst (λ (t : Telling). HasRunIn outset t start script ending after held_before held) (sym lines)
          (told_by_lines outset fine start script ending after held_before held runs.0),
      runs.1,
    )
