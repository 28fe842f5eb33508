-- What a disk tells at the end, what a sink holds behind texts, and what ended a run short.
use Rattle.std.proofs.Common.{◌≡◌, ℕ, suc, ◌+◌, ◌<◌, Bool, true, false, List, [], ◌∷◌, ◌++◌, length, take, refl, sym, ◌∙◌, ap, subst, arith, append_assoc, append-nil, length-append, Option, Some, None}
use Rattle.std.specs.Prelude.{◌||◌}
use Rattle.std.proofs.lemmas.List.Concat.{flat_map-cons}
use Rattle.std.proofs.lemmas.Option.{same_Some}
use Rattle.disk_model.specs.Disk.{Content}
use Rattle.disk_model.specs.Moments.{EachMoment, HasNow, content_now}
use Rattle.run_model.specs.Ending.{Ending, Complete, ByLine}
use Rattle.run_model.specs.Ending as endings
use Rattle.device_model.specs.Refusals.{ByMeaning}
use Rattle.device_model.specs.Grammar.{ReadLine, Means, Refused}
use Rattle.device_model.specs.History.{Change}
use Rattle.device_model.specs.Mode.{DeviceFormat}
use Rattle.device_model.specs.Progress.{DeviceState}
use Rattle.device_model.specs.Script.{MeaningFault, line_outcome, meaning_fault}
use Rattle.run_model.specs.ScriptRun.{ScriptRun, ScriptStep, close_step, line_step, only_ends, run_from, texts_of, with_step}
use Rattle.device_model.specs.Transcript.{closed_text}
use Rattle.run_laws.proofs.ScriptRunLemmas.{came_further, run_is_split, run_is_whole}
use Rattle.stream_io.specs.Stream.{held_with}
use Rattle.run_model.specs.CommandRun.{IsComplete, IsEndedShort}

-- ---- moments

-- What holds of the content now holds of the one that the disk tells.
pub now_of : (P : Content → Type 0) (moments : List Content) (told : Content) → content_now moments ≡ Some told
    → P told
    → HasNow P moments
now_of P moments told is has x is_x = subst P (same_Some _ _ (sym is ∙ is_x)) has

-- A disk that tells its content tells it at the end of a call.
pub told_at_end : {a b : List Content} {P : Content → Type 0} (c : Content) → content_now a ≡ Some c → EachMoment a b P
    → (d : Content) × (content_now b ≡ Some d)
told_at_end {a} {b} {P} c told each = by each.since each.grows
  where
    by : (since : List Content) → b ≡ since ++ a → (d : Content) × (content_now b ≡ Some d)
    by [] grows = (c, ap content_now grows ∙ told)
    by (d ∷ since) grows = (d, ap content_now grows)

-- ---- texts

-- What a sink holds behind no text is what it held.
pub told_nothing : (held : Option (List ℕ)) → held ≡ held_with [] held
told_nothing None = refl
told_nothing (Some bytes) = ap (λ (l : List ℕ). Some l) (sym (append-nil bytes))

pub told_further : (one more : List ℕ) (held : Option (List ℕ))
    → held_with more (held_with one held) ≡ held_with (one ++ more) held
told_further one more None = refl
told_further one more (Some bytes) = ap (λ (l : List ℕ). Some l) (append_assoc bytes one more)

-- ---- behind a step

-- What ended a run short ended it behind a step too,
pub short_further : (step : ScriptStep) (rest : ScriptRun) (text : List ℕ) (changes : List Change) (ending : Ending)
    → IsEndedShort rest text changes ending
    → IsEndedShort (with_step step rest) (step.text ++ text) (step.changes ++ changes) ending
short_further step rest text changes ending cut = record {
  came = came_further step rest text changes cut.came;
  whole_steps = λ other.
      let some = cut.whole_steps other in (
        suc some.0,
        ap (λ (l : List ℕ). step.text ++ l) some.1
            ∙ sym (flat_map-cons (λ (s : ScriptStep). s.text) step (take some.0 rest.steps)),
      );
  short = λ complete.
      let less : length text < length (texts_of rest.steps) = cut.short complete in
      let one : length (step.text ++ text) ≡ length step.text + length text = length-append step.text text in
      let all : length (texts_of (with_step step rest).steps)
      ≡ length step.text + length (texts_of rest.steps) =
      ap length (run_is_whole step rest).0 ∙ length-append step.text (texts_of rest.steps) in
      omega arith;
  outside = cut.outside;
}

-- ---- where nothing is done

-- What is left of a run that comes to its own end prints something: `closed` stands at its end.
pub complete_prints : (f : DeviceFormat) (too_long : Bool) (number : ℕ) (s : DeviceState) (found : Bool)
    (lines : List ReadLine) → IsComplete (run_from f too_long number s found lines)
    → 0 < length (texts_of (run_from f too_long number s found lines).steps)
complete_prints f true number s found [] (fault, is) = absurd (cc)
complete_prints f false number s found [] complete =
    let step = close_step f s in
    let all : length (texts_of (with_step step (only_ends (Complete found))).steps) ≡ length closed_text + 0 =
    ap length (run_is_whole step (only_ends (Complete found))).0 ∙ length-append closed_text [] in
    omega arith
complete_prints f too_long number s found (Refused fault ∷ lines) (told, is) = absurd (cc)
complete_prints f too_long number s found (Means line ∷ lines) complete =
    let outcome = line_outcome f s line in
    by (meaning_fault f s.progress line) refl
    (complete_prints f too_long (suc number) outcome.after (found || outcome.finds_fault) lines)
  where
    Prints : ScriptRun → Type 0
    Prints run = IsComplete run → 0 < length (texts_of run.steps)

    by : (fault : Option MeaningFault) → meaning_fault f s.progress line ≡ fault
        → Prints (run_from f too_long (suc number) (line_outcome f s line).after
        (found || (line_outcome f s line).finds_fault) lines)
        → 0 < length (texts_of (run_from f too_long number s found (Means line ∷ lines)).steps)
    by (Some fault) is prints =
        let ended : (run_from f too_long number s found (Means line ∷ lines)).ending
        ≡ endings.Refused (ByLine number (ByMeaning fault)) =
        ap (λ (run : ScriptRun). run.ending)
        ((run_is_split f number s found).by_meaning too_long line fault lines is) in
        let own = complete.1 in
        absurd (cc)
    by None is prints =
        let outcome = line_outcome f s line in
        let step = line_step outcome in
        let rest = run_from f too_long (suc number) outcome.after (found || outcome.finds_fault) lines in
        let split : run_from f too_long number s found (Means line ∷ lines) ≡ with_step step rest =
        (run_is_split f number s found).goes_on too_long line lines is in
        let behind : 0 < length (texts_of rest.steps) =
        prints (complete.0, sym (ap (λ (run : ScriptRun). run.ending) split) ∙ complete.1) in
        let all : length (texts_of (run_from f too_long number s found (Means line ∷ lines)).steps)
        ≡ length step.text + length (texts_of rest.steps) =
        ap (λ (run : ScriptRun). length (texts_of run.steps)) split
        ∙ ap length (run_is_whole step rest).0 ∙ length-append step.text (texts_of rest.steps) in
        omega arith
