-- How the run of a mirror is told step by step, and how far it came.
use Rattle.std.proofs.Common.{◌≡◌, ◌≢◌, ℕ, suc, ◌+◌, ◌<◌, Bool, true, false, List, [], ◌∷◌, ◌++◌, length, take, refl, sym}
use Rattle.std.proofs.Common.{◌∙◌, ap, ap₂, subst, arith, append_assoc, length-append, inl, inr, Option, Some, None}
use Rattle.std.specs.Prelude.{◌||◌}
use Rattle.std.proofs.lemmas.List.{take_all}
use Rattle.std.proofs.lemmas.List.Concat.{flat_map-cons}
use Rattle.device_model.specs.History.{Change}
use Rattle.device_model.specs.Refusals.{ByMeaning, ByWords}
use Rattle.device_model.specs.Script.{Ask, MeaningFault, submission_of}
use Rattle.device_model.specs.Submission.{Submission}
use Rattle.run_model.specs.Ending.{ByLength, ByLine, Complete, Ending, Refused}
use Rattle.mirror_model.specs.Calls.{Bytes, MirrorReply, TagFault, mirror_read}
use Rattle.mirror_model.specs.Command.{IsMirrorComplete}
use Rattle.mirror_model.specs.Mirror.{LegChanges, MirrorFormat, MirrorState, changes_on_first, changes_on_second, on_legs}
use Rattle.mirror_model.specs.Mirror.{with_mirror_changes}
use Rattle.mirror_model.proofs.ChangeLemmas.{changes_on_first-append, changes_on_second-append}
use Rattle.mirror_model.specs.Script.{AsksFor, MirrorLine, RefusedWords, Skips, mirror_ask_fault, mirror_outcome}
use Rattle.mirror_model.specs.Script.{mirror_read_text, submitted_outcome}
use Rattle.mirror_model.specs.ScriptRun.{IsMirrorRunUpTo, MirrorRun, MirrorStep, asking_step, mirror_changes_in}
use Rattle.mirror_model.specs.ScriptRun.{mirror_close_step, mirror_only_ends, mirror_run_from, mirror_texts_of}
use Rattle.mirror_model.specs.ScriptRun.{skipping_step, with_mirror_step}
use Rattle.mirror_run.specs.Lines.{IsRunnable, line_outcome}

-- ---- steps, one after the other

pub texts_of-cons : (step : MirrorStep) (steps : List MirrorStep)
    → mirror_texts_of (step ∷ steps) ≡ step.text ++ mirror_texts_of steps
texts_of-cons step steps = flat_map-cons (λ (s : MirrorStep). s.text) step steps

pub first_of-cons : (step : MirrorStep) (steps : List MirrorStep)
    → changes_on_first (mirror_changes_in (step ∷ steps))
    ≡ changes_on_first step.changes ++ changes_on_first (mirror_changes_in steps)
first_of-cons step steps =
    ap changes_on_first (flat_map-cons (λ (s : MirrorStep). s.changes) step steps)
    ∙ changes_on_first-append step.changes (mirror_changes_in steps)

pub second_of-cons : (step : MirrorStep) (steps : List MirrorStep)
    → changes_on_second (mirror_changes_in (step ∷ steps))
    ≡ changes_on_second step.changes ++ changes_on_second (mirror_changes_in steps)
second_of-cons step steps =
    ap changes_on_second (flat_map-cons (λ (s : MirrorStep). s.changes) step steps)
    ∙ changes_on_second-append step.changes (mirror_changes_in steps)

-- The changes of each leg, and those of both legs behind others.
abbrev pub both : (first second : List Change) → LegChanges
both first second = record { first = first; second = second }

abbrev pub legs_then : LegChanges → LegChanges → LegChanges
legs_then one more = both (one.first ++ more.first) (one.second ++ more.second)

pub legs_of-cons : (step : MirrorStep) (steps : List MirrorStep)
    → legs_then (on_legs step.changes) (on_legs (mirror_changes_in steps)) ≡ on_legs (mirror_changes_in (step ∷ steps))
legs_of-cons step steps =
    ap₂ both (sym (first_of-cons step steps)) (sym (second_of-cons step steps))

-- What stands behind the texts or the changes of some steps stands behind them with a step before.
text_behind : (step : MirrorStep) (steps : List MirrorStep) (text rest : List ℕ) → text ≡ mirror_texts_of steps ++ rest
    → step.text ++ text ≡ mirror_texts_of (step ∷ steps) ++ rest
text_behind step steps text rest is =
    ap (λ (bytes : List ℕ). step.text ++ bytes) is
    ∙ sym (append_assoc step.text (mirror_texts_of steps) rest)
    ∙ ap (λ (bytes : List ℕ). bytes ++ rest) (sym (texts_of-cons step steps))

first_behind : (step : MirrorStep) (steps : List MirrorStep) (changes rest : List Change)
    → changes ≡ changes_on_first (mirror_changes_in steps) ++ rest
    → changes_on_first step.changes ++ changes ≡ changes_on_first (mirror_changes_in (step ∷ steps)) ++ rest
first_behind step steps changes rest is =
    ap (λ (done : List Change). changes_on_first step.changes ++ done) is
    ∙ sym (append_assoc (changes_on_first step.changes) (changes_on_first (mirror_changes_in steps)) rest)
    ∙ ap (λ (done : List Change). done ++ rest) (sym (first_of-cons step steps))

second_behind : (step : MirrorStep) (steps : List MirrorStep) (changes rest : List Change)
    → changes ≡ changes_on_second (mirror_changes_in steps) ++ rest
    → changes_on_second step.changes ++ changes ≡ changes_on_second (mirror_changes_in (step ∷ steps)) ++ rest
second_behind step steps changes rest is =
    ap (λ (done : List Change). changes_on_second step.changes ++ done) is
    ∙ sym (append_assoc (changes_on_second step.changes) (changes_on_second (mirror_changes_in steps)) rest)
    ∙ ap (λ (done : List Change). done ++ rest) (sym (second_of-cons step steps))

pub some_text : (text : List ℕ) → text ≢ [] → 0 < length text
some_text [] some = absurd (some refl)
some_text (byte ∷ text) some = omega arith

-- ---- how far a run came

-- A run that only ends came to its end with nothing printed and nothing done.
pub came_to_end : (ending : Ending) → IsMirrorRunUpTo (mirror_only_ends ending) [] (on_legs [])
came_to_end ending = inr (record { is_text = refl; is_changes = refl })

-- What a run came to stays so with a step before it, that step's text and changes before the others.
pub came_further : (step : MirrorStep) (run : MirrorRun) (text : List ℕ) (changes : LegChanges)
    → IsMirrorRunUpTo run text changes
    → IsMirrorRunUpTo (with_mirror_step step run) (step.text ++ text) (legs_then (on_legs step.changes) changes)
came_further step run text changes (inl part) = inl (record {
  whole = suc part.whole;
  step = part.step;
  next = part.next;
  printed = part.printed;
  printed_less = part.printed_less;
  made = part.made;
  second_made = part.second_made;
  is_text = text_behind step (take part.whole run.steps) text (take part.printed part.step.text) part.is_text;
  is_first = first_behind step (take part.whole run.steps) changes.first
      (take part.made (changes_on_first part.step.changes)) part.is_first;
  is_second = second_behind step (take part.whole run.steps) changes.second
      (take part.second_made (changes_on_second part.step.changes)) part.is_second;
  in_order = part.in_order;
})
came_further step run text changes (inr whole) = inr (record {
  is_text = ap (λ (bytes : List ℕ). step.text ++ bytes) whole.is_text ∙ sym (texts_of-cons step run.steps);
  is_changes = ap (λ (done : LegChanges). legs_then (on_legs step.changes) done) whole.is_changes
      ∙ legs_of-cons step run.steps;
})

-- Some of the first changes of a step, on each leg.
abbrev pub made_of : MirrorStep → (made second_made : ℕ) → LegChanges
made_of step made second_made = record {
  first = take made (changes_on_first step.changes);
  second = take second_made (changes_on_second step.changes);
}

-- A run came into its first step, where that has a text: some of its changes are made and nothing is printed as yet;
pub came_to_changes : (step : MirrorStep) (run : MirrorRun) (made second_made : ℕ) → step.text ≢ []
    → IsMirrorRunUpTo (with_mirror_step step run) [] (made_of step made second_made)
came_to_changes step run made second_made some = inl (record {
  whole = 0;
  step = step;
  next = refl;
  printed = 0;
  printed_less = some_text step.text some;
  made = made;
  second_made = second_made;
  is_text = refl;
  is_first = refl;
  is_second = refl;
  in_order = λ printed. absurd (printed refl);
})

-- or all of them are made, and a part of the text is printed, not all.
pub came_to_text : (step : MirrorStep) (run : MirrorRun) (printed : ℕ) → printed < length step.text
    → IsMirrorRunUpTo (with_mirror_step step run) (take printed step.text) (on_legs step.changes)
came_to_text step run printed less = inl (record {
  whole = 0;
  step = step;
  next = refl;
  printed = printed;
  printed_less = less;
  made = length (changes_on_first step.changes);
  second_made = length (changes_on_second step.changes);
  is_text = refl;
  is_first = sym (take_all (length (changes_on_first step.changes)) (changes_on_first step.changes) (omega arith));
  is_second = sym (take_all (length (changes_on_second step.changes)) (changes_on_second step.changes) (omega arith));
  in_order = λ some. (omega arith, omega arith);
})

-- ---- what is run next

or_false : (b : Bool) → b ≡ (b || false)
or_false true = refl
or_false false = refl

-- A request is refused by what it means,
pub refused_by_meaning : (f : MirrorFormat) (too_long : Bool) (number : ℕ) (m : MirrorState) (found : Bool) (ask : Ask)
    (fault : MeaningFault) (lines : List MirrorLine) → mirror_ask_fault f ask ≡ Some fault
    → mirror_run_from f too_long number m found (AsksFor ask ∷ lines)
    ≡ mirror_only_ends (Refused (ByLine number (ByMeaning fault)))
refused_by_meaning f too_long number m found ask fault lines is = rw (is, mirror_run_from)

-- and a line that is not refused is run, and then those behind it.
pub goes_on : (f : MirrorFormat) (too_long : Bool) (number : ℕ) (m : MirrorState) (found : Bool) (line : MirrorLine)
    (lines : List MirrorLine) → IsRunnable f line → let outcome = line_outcome f m line in
    mirror_run_from f too_long number m found (line ∷ lines)
    ≡ with_mirror_step (asking_step outcome)
    (mirror_run_from f too_long (suc number) (with_mirror_changes outcome.changes m) (found || outcome.finds_fault) lines)
goes_on f too_long number m found Skips lines is =
    ap (λ (b : Bool). with_mirror_step skipping_step (mirror_run_from f too_long (suc number) m b lines)) (or_false found)
goes_on f too_long number m found (AsksFor ask) lines is = rw (is, mirror_run_from)
goes_on f too_long number m found (RefusedWords fault) lines is = absurd is

-- ---- a request prints something

read_text_some : (first count : ℕ) (reply : MirrorReply) → mirror_read_text first count reply ≢ []
read_text_some first count (Bytes bytes) none = absurd (cc)
read_text_some first count (TagFault block a b) none = absurd (cc)

submitted_text_some : (f : MirrorFormat) (m : MirrorState) (submission : Submission)
    → (submitted_outcome f m submission).text ≢ []
submitted_text_some f m (Submission.Read first count buffer) none =
    read_text_some first count (mirror_read f m first count).answer none
submitted_text_some f m (Submission.Write first count bytes fua) none = absurd (cc)
submitted_text_some f m Submission.Flush none = absurd (cc)

pub ask_text_some : (f : MirrorFormat) (m : MirrorState) (ask : Ask) → (mirror_outcome f m ask).text ≢ []
ask_text_some f m ask = submitted_text_some f m (submission_of f.block_size ask)

-- ---- as far as nothing

-- A run came as far as nothing, whichever lines are left,
pub came_to_nothing : (f : MirrorFormat) (too_long : Bool) (number : ℕ) (m : MirrorState) (found : Bool)
    (lines : List MirrorLine) → IsMirrorRunUpTo (mirror_run_from f too_long number m found lines) [] (on_legs [])
came_to_nothing f true number m found [] = came_to_end (Refused ByLength)
came_to_nothing f false number m found [] =
    came_to_changes mirror_close_step (mirror_only_ends (Complete found)) 0 0 (λ none. absurd (cc))
came_to_nothing f too_long number m found (RefusedWords fault ∷ lines) =
    came_to_end (Refused (ByLine number (ByWords fault)))
came_to_nothing f too_long number m found (Skips ∷ lines) =
    came_further skipping_step (mirror_run_from f too_long (suc number) m found lines) [] (on_legs [])
    (came_to_nothing f too_long (suc number) m found lines)
came_to_nothing f too_long number m found (AsksFor ask ∷ lines) = by (mirror_ask_fault f ask) refl
  where
    by : (fault : Option MeaningFault) → mirror_ask_fault f ask ≡ fault
        → IsMirrorRunUpTo (mirror_run_from f too_long number m found (AsksFor ask ∷ lines)) [] (on_legs [])
    by (Some fault) is =
        subst (λ (run : MirrorRun). IsMirrorRunUpTo run [] (on_legs []))
        (sym (refused_by_meaning f too_long number m found ask fault lines is))
        (came_to_end (Refused (ByLine number (ByMeaning fault))))
    by None is =
        let outcome = mirror_outcome f m ask in
        subst (λ (run : MirrorRun). IsMirrorRunUpTo run [] (on_legs []))
        (sym (goes_on f too_long number m found (AsksFor ask) lines is))
        (came_to_changes (asking_step outcome) _ 0 0 (ask_text_some f m ask))

-- and as far as some changes of its first line, with nothing printed.
pub came_into_ask : (f : MirrorFormat) (too_long : Bool) (number : ℕ) (m : MirrorState) (found : Bool) (ask : Ask)
    (lines : List MirrorLine) (made second_made : ℕ) → mirror_ask_fault f ask ≡ None
    → IsMirrorRunUpTo (mirror_run_from f too_long number m found (AsksFor ask ∷ lines)) []
    (made_of (asking_step (mirror_outcome f m ask)) made second_made)
came_into_ask f too_long number m found ask lines made second_made is =
    subst (λ (run : MirrorRun). IsMirrorRunUpTo run [] (made_of (asking_step (mirror_outcome f m ask)) made second_made))
    (sym (goes_on f too_long number m found (AsksFor ask) lines is))
    (came_to_changes (asking_step (mirror_outcome f m ask)) _ made second_made (ask_text_some f m ask))

-- ---- a run that comes to its own end prints something

-- What is left of it prints something: `closed` stands at its end.
pub complete_prints : (f : MirrorFormat) (too_long : Bool) (number : ℕ) (m : MirrorState) (found : Bool)
    (lines : List MirrorLine) → IsMirrorComplete (mirror_run_from f too_long number m found lines)
    → 0 < length (mirror_texts_of (mirror_run_from f too_long number m found lines).steps)
complete_prints f true number m found [] (told, is) = absurd (cc)
complete_prints f false number m found [] complete = omega arith
complete_prints f too_long number m found (RefusedWords fault ∷ lines) (told, is) = absurd (cc)
complete_prints f too_long number m found (Skips ∷ lines) complete =
    let rest = mirror_run_from f too_long (suc number) m found lines in
    let behind = complete_prints f too_long (suc number) m found lines complete in
    let all = ap length (texts_of-cons skipping_step rest.steps) in
    omega (arith, behind, all)
complete_prints f too_long number m found (AsksFor ask ∷ lines) complete = by (mirror_ask_fault f ask) refl
  where
    run : MirrorRun
    run = mirror_run_from f too_long number m found (AsksFor ask ∷ lines)

    by : (fault : Option MeaningFault) → mirror_ask_fault f ask ≡ fault → 0 < length (mirror_texts_of run.steps)
    by (Some fault) is =
        let ended : run.ending ≡ Refused (ByLine number (ByMeaning fault)) =
        ap (λ (r : MirrorRun). r.ending) (refused_by_meaning f too_long number m found ask fault lines is) in
        let own = complete.1 in
        absurd (cc)
    by None is =
        let outcome = mirror_outcome f m ask in
        let rest = mirror_run_from f too_long (suc number) (with_mirror_changes outcome.changes m)
        (found || outcome.finds_fault) lines in
        let split = goes_on f too_long number m found (AsksFor ask) lines is in
        let all : length (mirror_texts_of run.steps) ≡ length (outcome.text ++ mirror_texts_of rest.steps) =
        ap (λ (r : MirrorRun). length (mirror_texts_of r.steps)) split
        ∙ ap length (texts_of-cons (asking_step outcome) rest.steps) in
        let some = some_text outcome.text (ask_text_some f m ask) in
        omega (arith, all, some, length-append outcome.text (mirror_texts_of rest.steps))
