-- How a run is told line by line, and how far it came.
use Rattle.std.proofs.Common.{◌≡◌, ◌≢◌, ℕ, suc, ◌<◌, true, false, List, [], ◌∷◌, ◌++◌, length, take}
use Rattle.std.proofs.Common.{Option, Some, None, sym, ◌∙◌, ap, subst, arith, append_assoc, inl, inr, refl}
use Rattle.std.specs.Prelude.{◌||◌}
use Rattle.std.proofs.lemmas.List.{take_all}
use Rattle.std.proofs.lemmas.List.Concat.{flat_map-cons}
use Rattle.device_model.specs.Refusals.{ByWords, ByMeaning}
use Rattle.device_model.specs.Grammar.{Means, Refused}
use Rattle.device_model.specs.History.{Change}
use Rattle.device_model.specs.Script.{MeaningFault, line_outcome, meaning_fault}
use Rattle.script_text.proofs.QuietLemmas.{quiet_line}
use Rattle.run_model.specs.Ending as endings
use Rattle.run_model.specs.Ending.{Complete, ByLine, ByLength, fault_text}
use Rattle.run_model.specs.ScriptRun.{IsRunUpTo, ScriptRun, ScriptStep, changes_in, texts_of}
use Rattle.run_model.specs.ScriptRun.{close_step, line_step, only_ends, run_from, whole_text, with_step}
use Rattle.run_laws.specs.RunLaws.{CameFurtherLaw, CameIntoLaw, CameToEndLaw}
use Rattle.run_laws.specs.RunLaws.{CameIntoLineLaw, CameToNothingLaw, SplitRunLaw, WholeRunLaw}

-- ---- steps, one after the other

texts_of-cons : (step : ScriptStep) (steps : List ScriptStep)
    → texts_of (step ∷ steps) ≡ step.text ++ texts_of steps
texts_of-cons step steps = flat_map-cons (λ s. s.text) step steps

changes_in-cons : (step : ScriptStep) (steps : List ScriptStep)
    → changes_in (step ∷ steps) ≡ step.changes ++ changes_in steps
changes_in-cons step steps = flat_map-cons (λ s. s.changes) step steps

-- What stands behind the texts or the changes of some steps stands behind them with a step before.
text_behind : (step : ScriptStep) (steps : List ScriptStep) (text rest : List ℕ) → text ≡ texts_of steps ++ rest
    → step.text ++ text ≡ texts_of (step ∷ steps) ++ rest
text_behind step steps text rest is =
    ap (λ (bytes : List ℕ). step.text ++ bytes) is
    ∙ sym (append_assoc step.text (texts_of steps) rest)
    ∙ ap (λ (bytes : List ℕ). bytes ++ rest) (sym (texts_of-cons step steps))

changes_behind : (step : ScriptStep) (steps : List ScriptStep) (changes rest : List Change)
    → changes ≡ changes_in steps ++ rest → step.changes ++ changes ≡ changes_in (step ∷ steps) ++ rest
changes_behind step steps changes rest is =
    ap (λ (done : List Change). step.changes ++ done) is
    ∙ sym (append_assoc step.changes (changes_in steps) rest)
    ∙ ap (λ (done : List Change). done ++ rest) (sym (changes_in-cons step steps))

some_text : (text : List ℕ) → text ≢ [] → 0 < length text
some_text [] some = absurd (some refl)
some_text (byte ∷ text) some = omega arith

-- ---- for callers

pub run_is_split : SplitRunLaw
run_is_split f number s found = record {
  closed = refl;
  cut = refl;
  by_words = λ too_long fault lines. refl;
  by_meaning = λ too_long line fault lines is. rw (is, run_from);
  goes_on = λ too_long line lines is. rw (is, run_from);
}

pub run_is_whole : WholeRunLaw
run_is_whole step run = (
  texts_of-cons step run.steps,
  changes_in-cons step run.steps,
  sym (text_behind step run.steps (whole_text run) (fault_text run.ending) refl),
)

pub came_to_end : CameToEndLaw
came_to_end ending = inr (record { is_text = refl; is_changes = refl })

pub came_further : CameFurtherLaw
came_further step run text changes (inl part) = inl (record {
  whole = suc part.whole;
  step = part.step;
  next = part.next;
  printed = part.printed;
  printed_less = part.printed_less;
  made = part.made;
  is_text = text_behind step (take part.whole run.steps) text (take part.printed part.step.text) part.is_text;
  is_changes =
      changes_behind step (take part.whole run.steps) changes (take part.made part.step.changes)
      part.is_changes;
  in_order = part.in_order;
})
came_further step run text changes (inr whole) = inr (record {
  is_text = ap (λ (bytes : List ℕ). step.text ++ bytes) whole.is_text ∙ sym (texts_of-cons step run.steps);
  is_changes =
      ap (λ (done : List Change). step.changes ++ done) whole.is_changes ∙ sym (changes_in-cons step run.steps);
})

came_to_changes : (step : ScriptStep) (run : ScriptRun) (made : ℕ) → step.text ≢ []
    → IsRunUpTo (with_step step run) [] (take made step.changes)
came_to_changes step run made some = inl (record {
  whole = 0;
  step = step;
  next = refl;
  printed = 0;
  printed_less = some_text step.text some;
  made = made;
  is_text = refl;
  is_changes = refl;
  in_order = λ printed. absurd (printed refl);
})

came_to_text : (step : ScriptStep) (run : ScriptRun) (printed : ℕ) → printed < length step.text
    → IsRunUpTo (with_step step run) (take printed step.text) step.changes
came_to_text step run printed less = inl (record {
  whole = 0;
  step = step;
  next = refl;
  printed = printed;
  printed_less = less;
  made = length step.changes;
  is_text = refl;
  is_changes = sym (take_all (length step.changes) step.changes (omega arith));
  in_order = λ some. omega arith;
})

pub came_into : CameIntoLaw
came_into step run = record { changes = came_to_changes step run; text = came_to_text step run }

-- ---- into a line

-- A run came as far as nothing where its first step has a text, or does nothing and the run behind it came there.
nothing_yet : (step : ScriptStep) (run : ScriptRun) (text : List ℕ) → step.text ≡ text
    → (step.text ≡ [] → step.changes ≡ []) → IsRunUpTo run [] [] → IsRunUpTo (with_step step run) [] []
nothing_yet step run [] none quiet came =
    let text : step.text ++ [] ≡ [] = ap (λ (bytes : List ℕ). bytes ++ []) none in
    let changes : step.changes ++ [] ≡ [] = ap (λ (done : List Change). done ++ []) (quiet none) in
    subst (λ (done : List Change). IsRunUpTo (with_step step run) [] done) changes
    (subst (λ (bytes : List ℕ). IsRunUpTo (with_step step run) bytes (step.changes ++ [])) text
    (came_further step run [] [] came))
nothing_yet step run (byte ∷ text) some quiet came = came_to_changes step run 0 (λ none. absurd (cc))

pub came_to_nothing : CameToNothingLaw
came_to_nothing f true number s found [] = came_to_end (endings.Refused ByLength)
came_to_nothing f false number s found [] =
    came_to_changes (close_step f s) (only_ends (Complete found)) 0 (λ none. absurd (cc))
came_to_nothing f too_long number s found (Refused fault ∷ lines) =
    came_to_end (endings.Refused (ByLine number (ByWords fault)))
came_to_nothing f too_long number s found (Means line ∷ lines) =
    let outcome = line_outcome f s line in
    by (meaning_fault f s.progress line) refl
    (came_to_nothing f too_long (suc number) outcome.after (found || outcome.finds_fault) lines)
  where
    by : (fault : Option MeaningFault) → meaning_fault f s.progress line ≡ fault
        → IsRunUpTo (run_from f too_long (suc number) (line_outcome f s line).after
        (found || (line_outcome f s line).finds_fault) lines) [] []
        → IsRunUpTo (run_from f too_long number s found (Means line ∷ lines)) [] []
    by (Some fault) is came =
        subst (λ (run : ScriptRun). IsRunUpTo run [] [])
        (sym ((run_is_split f number s found).by_meaning too_long line fault lines is))
        (came_to_end (endings.Refused (ByLine number (ByMeaning fault))))
    by None is came =
        let outcome = line_outcome f s line in
        let rest = run_from f too_long (suc number) outcome.after (found || outcome.finds_fault) lines in
        subst (λ (run : ScriptRun). IsRunUpTo run [] [])
        (sym ((run_is_split f number s found).goes_on too_long line lines is))
        (nothing_yet (line_step outcome) rest outcome.text refl (quiet_line f s line is) came)

pub came_into_line : CameIntoLineLaw
came_into_line f too_long number s found line lines made is =
    let outcome = line_outcome f s line in
    by outcome.text refl
  where
    by : (text : List ℕ) → (line_outcome f s line).text ≡ text
        → IsRunUpTo (run_from f too_long number s found (Means line ∷ lines)) []
        (take made (line_outcome f s line).changes)
    by [] none =
        let quiet = quiet_line f s line is none in
        let taken : take made (line_outcome f s line).changes ≡ [] =
        ap (take made) quiet ∙ take_all made [] (omega arith) in
        let run = run_from f too_long number s found (Means line ∷ lines) in
        subst (λ (done : List Change). IsRunUpTo run [] done) (sym taken)
        (came_to_nothing f too_long number s found (Means line ∷ lines))
    by (byte ∷ text) some =
        let outcome = line_outcome f s line in
        let rest = run_from f too_long (suc number) outcome.after (found || outcome.finds_fault) lines in
        subst (λ (run : ScriptRun). IsRunUpTo run [] (take made outcome.changes))
        (sym ((run_is_split f number s found).goes_on too_long line lines is))
        (came_to_changes (line_step outcome) rest made (λ none. absurd (cc)))
