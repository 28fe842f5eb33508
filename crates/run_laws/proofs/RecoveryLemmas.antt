-- What runs of scripts in recovery mode change: nothing.
use Rattle.std.proofs.Common.{◌≡◌, ⊎_elim, ℕ, zero, suc, Bool, true, false, ◌||◌, Option, None, Some, List, [], ◌∷◌, take, slice_get, refl, sym, ◌∙◌, ap, subst}
use Rattle.std.specs.List.{AllByRecursion}
use Rattle.std.proofs.lemmas.Option.{none-some, same_Some}
use Rattle.image_model.specs.Cells.{Cell, placed_cells_of}
use Rattle.device_model.specs.Refusals.{LineFault, ByWords, ByMeaning}
use Rattle.device_model.specs.Grammar.{ReadLine, Means, Refused}
use Rattle.device_model.specs.History.{Change, opened, with_changes}
use Rattle.device_model.specs.Mode.{DeviceFormat, Recovery}
use Rattle.device_model.specs.Progress.{Answer, DeviceState, Event, Close, after_event, after_events, answers, changes_of, event_result}
use Rattle.device_model.specs.Script.{MeaningFault, ScriptLine, last_answer, line_events, line_outcome, meaning_fault, tells_fault, told_fault}
use Rattle.device_model.specs.ScriptBytes.{is_too_long}
use Rattle.place_model.specs.Format.{DiskFormat}
use Rattle.place_model.specs.Opened.{device_format}
use Rattle.recovery_laws.specs.Device.{AreHarmless}
use Rattle.recovery_laws.proofs.EventLemmas.{AreFlushes, flushes-append, flushes-history, flushes-take, goes}
use Rattle.run_model.specs.Ending as endings
use Rattle.run_model.specs.Ending.{Complete, ByLine}
use Rattle.run_model.specs.ScriptRun.{ScriptRun, ScriptStep, IsRunUpTo, changes_in, only_ends, run_from, with_step}
use Rattle.run_laws.specs.RecoveryLaws.{ChangesNothing, RecoveryRunLaw}

-- ---- events in a row

AreQuiet : List Answer → Type 0
AreQuiet answers = AllByRecursion (λ (answer : Answer). tells_fault answer ≡ false) answers

last-quiet : (answers : List Answer) → AreQuiet answers → told_fault (last_answer answers) ≡ false
unfolding AreQuiet
last-quiet [] each = refl
last-quiet (answer ∷ []) each = each.0
last-quiet (answer ∷ next ∷ more) each = last-quiet (next ∷ more) each.1

module _ (d : DiskFormat) where
  abbrev f : DeviceFormat
  f = device_format Recovery d

  record GoOn (s : DeviceState) (events : List Event) : Type 0 where
    harmless : AreHarmless (after_events (device_format Recovery d) s events).progress.requests
    flushes : AreFlushes (changes_of (device_format Recovery d) s events)
    quiet : AreQuiet (answers (device_format Recovery d) s events)

  go_on : (s : DeviceState) (events : List Event) → AreHarmless s.progress.requests → GoOn s events
  unfolding AreQuiet
  go_on s [] each = record { harmless = each; flushes = tt; quiet = tt }
  go_on s (event ∷ events) each =
      let gone = goes f s event d refl each in
      let rest = go_on (after_event f s event) events gone.harmless in
      record {
        harmless = rest.harmless;
        flushes = flushes-append (event_result f s event).changes (changes_of f (after_event f s event) events) gone.flushes rest.flushes;
        quiet = (gone.quiet, rest.quiet);
      }

  -- ---- lines

  StepsFlush : ScriptRun → Type 0
  StepsFlush run = AllByRecursion (λ (step : ScriptStep). AreFlushes step.changes) run.steps

  NeverFinds : ScriptRun → Type 0
  NeverFinds run = (found : Bool) → run.ending ≡ Complete found → found ≡ false

  record IsQuietRun (run : ScriptRun) : Type 0 where
    steps : StepsFlush run
    ends : NeverFinds run

  complete_is : (x y : Bool) → Complete x ≡ Complete y → x ≡ y
  complete_is true true e = refl
  complete_is false false e = refl
  complete_is true false e = cc
  complete_is false true e = cc

  quiet-ended : (tl : Bool) (s : DeviceState) (found : Bool) → AreHarmless s.progress.requests → found ≡ false → (number : ℕ) → IsQuietRun (run_from (device_format Recovery d) tl number s found [])
  unfolding StepsFlush NeverFinds
  quiet-ended true s found each none number = record { steps = tt; ends = λ x e. absurd (cc) }
  quiet-ended false s found each none number = record { steps = ((goes f s Close d refl each).flushes, tt); ends = λ x e. sym (complete_is found x e) ∙ none }

  -- A line that is run, before lines that are.
  quiet-more : (outcome_events : List Event) (s : DeviceState) (run : ScriptRun) (text : List ℕ) → AreFlushes (changes_of (device_format Recovery d) s outcome_events) → IsQuietRun run
      → IsQuietRun (with_step (record { text = text; changes = changes_of (device_format Recovery d) s outcome_events }) run)
  unfolding StepsFlush NeverFinds
  quiet-more events s run text flushes quiet = record { steps = (flushes, quiet.steps); ends = quiet.ends }

  quiet-refused : (number : ℕ) (fault : LineFault) → IsQuietRun (only_ends (endings.Refused (ByLine number fault)))
  unfolding StepsFlush NeverFinds
  quiet-refused number fault = record { steps = tt; ends = λ x e. absurd (cc) }

  -- What follows a line, of lines that are each run on a harmless device.
  abbrev RunsQuiet : Bool → List ReadLine → Type 0
  RunsQuiet tl lines = (s : DeviceState) (found : Bool) → AreHarmless s.progress.requests → found ≡ false → (number : ℕ) → IsQuietRun (run_from (device_format Recovery d) tl number s found lines)

  quiet-means : (tl : Bool) (lines : List ReadLine) (line : ScriptLine) → RunsQuiet tl lines → (s : DeviceState) (found : Bool) → AreHarmless s.progress.requests → found ≡ false → (number : ℕ)
      → (fault : Option MeaningFault) → meaning_fault (device_format Recovery d) s.progress line ≡ fault → IsQuietRun (run_from (device_format Recovery d) tl number s found (Means line ∷ lines))
  quiet-means tl lines line rest s found each none number (Some fault) e = rw (run_from, e) (quiet-refused number (ByMeaning fault))
  quiet-means tl lines line rest s found each none number None e =
      let events = line_events f s line in
      let gone = go_on s events each in
      let outcome = line_outcome f s line in
      let still : (found || outcome.finds_fault) ≡ false = rw (none, last-quiet (answers f s events) gone.quiet) refl in
      rw (run_from, e) (quiet-more events s (run_from f tl (suc number) outcome.after (found || outcome.finds_fault) lines) outcome.text gone.flushes
      (rest outcome.after (found || outcome.finds_fault) gone.harmless still (suc number)))

  quiet-lines : (tl : Bool) (lines : List ReadLine) → RunsQuiet tl lines
  quiet-lines tl [] s found each none number = quiet-ended tl s found each none number
  quiet-lines tl (Refused fault ∷ lines) s found each none number = quiet-refused number (ByWords fault)
  quiet-lines tl (Means line ∷ lines) s found each none number =
      quiet-means tl lines line (quiet-lines tl lines) s found each none number (meaning_fault f s.progress line) refl

  -- ---- a run

  all_changes : (steps : List ScriptStep) → AllByRecursion (λ (step : ScriptStep). AreFlushes step.changes) steps → AreFlushes (changes_in steps)
  all_changes [] each = tt
  all_changes (step ∷ steps) each = flushes-append step.changes (changes_in steps) each.0 (all_changes steps each.1)

  all_taken : (count : ℕ) (steps : List ScriptStep) → AllByRecursion (λ (step : ScriptStep). AreFlushes step.changes) steps → AllByRecursion (λ (step : ScriptStep). AreFlushes step.changes) (take count steps)
  all_taken zero steps each = tt
  all_taken (suc count) [] each = tt
  all_taken (suc count) (step ∷ steps) each = (each.0, all_taken count steps each.1)

  one_step : (k : ℕ) (steps : List ScriptStep) (step : ScriptStep) → AllByRecursion (λ (step : ScriptStep). AreFlushes step.changes) steps → slice_get steps k ≡ Some step → AreFlushes step.changes
  one_step k [] step each at = absurd (none-some step at)
  one_step zero (first ∷ steps) step each at = subst (λ (x : ScriptStep). AreFlushes x.changes) (same_Some first step at) each.0
  one_step (suc k) (first ∷ steps) step each at = one_step k steps step each.1 at

  came_flushes : (run : ScriptRun) (text : List ℕ) (changes : List Change) → IsQuietRun run → IsRunUpTo run text changes → AreFlushes changes
  unfolding StepsFlush
  came_flushes run text changes quiet came = ⊎_elim
      (λ part. subst AreFlushes (sym part.is_changes)
      (flushes-append (changes_in (take part.whole run.steps)) (take part.made part.step.changes)
      (all_changes (take part.whole run.steps) (all_taken part.whole run.steps quiet.steps))
      (flushes-take part.made part.step.changes (one_step part.whole run.steps part.step quiet.steps part.next))))
      (λ whole. subst AreFlushes (sym whole.is_changes) (all_changes run.steps quiet.steps)) came

  changes_nothing : (s : DeviceState) (base : ℕ → Cell) → s.history ≡ opened base → (run : ScriptRun) → IsQuietRun run → ChangesNothing s run
  unfolding StepsFlush NeverFinds
  changes_nothing s base fresh run quiet = record {
    made = λ count. let some = take count (changes_in run.steps) in
        ap (with_changes some) fresh ∙ flushes-history some base (flushes-take count (changes_in run.steps) (all_changes run.steps quiet.steps)) ∙ sym fresh;
    came = λ text changes came. ap (with_changes changes) fresh ∙ flushes-history changes base (came_flushes run text changes quiet came) ∙ sym fresh;
    ends = quiet.ends;
  }

-- ---- for callers

pub recovery_run_law : RecoveryRunLaw
recovery_run_law f s d image script run is runs =
    let ran = subst (λ (x : DeviceFormat). run ≡ run_from x (is_too_long script) 1 s false runs.lines) is.format runs.is in
    changes_nothing d s (placed_cells_of d.geometry image) is.history run
    (subst (IsQuietRun d) (sym ran) (quiet-lines d (is_too_long script) runs.lines s false is.requests refl 1))
