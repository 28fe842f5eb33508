-- What stops the rest of a run on a mirror: before any of it, behind a step, and within one.
use Rattle.std.proofs.Common.{◌≡◌, ◌≢◌, ◌⊎◌, inl, inr, ℕ, suc, ◌+◌, ◌<◌, Bool, List, [], ◌∷◌, ◌++◌, length, take, refl, sym, ◌∙◌}
use Rattle.std.proofs.Common.{ap, subst, arith, append-nil, append_assoc, length-append, length-take, Option, Some, None}
use Rattle.std.proofs.lemmas.List.Concat.{flat_map-cons}
use Rattle.std.proofs.lemmas.List.Sums.{fold-append}
use Rattle.std.proofs.lemmas.Option.{none-some, same_Some}
use Rattle.disk_model.specs.Disk.{Content, EachImage, Image}
use Rattle.disk_model.specs.Moments.{HasNow, content_now}
use Rattle.disk_model.proofs.MomentsLemmas.{content_at_end, no_moment}
use Rattle.device_model.specs.History.{Change, History, with_change, with_changes}
use Rattle.device_model.specs.Transcript.{Session}
use Rattle.run_model.specs.CommandRun.{IsFromOutside}
use Rattle.run_model.specs.Ending.{Ending, Failed, NoMemory}
use Rattle.run_model.specs.declared.outer.Outer.TheVariants as outers
use Rattle.stream_io.specs.Stream.{AddsPrefix, held_with}
use Rattle.mirror_model.specs.Command.{IsMirrorEndedBy, IsMirrorEndedShort}
use Rattle.mirror_model.specs.Mirror.{LegChanges, changes_on_first, changes_on_second, on_legs}
use Rattle.mirror_model.proofs.ChangeLemmas.{changes_on_first-is, changes_on_second-is}
use Rattle.mirror_model.specs.Script.{MirrorLine}
use Rattle.mirror_model.specs.ScriptRun.{MirrorRun, MirrorStep, mirror_changes_in, mirror_only_ends, mirror_run_from}
use Rattle.mirror_model.specs.ScriptRun.{mirror_texts_of, with_mirror_step}
use Rattle.mirror_calls.specs.Leg.{IsLeftSince, IsLeftWithin, LegOn}
use Rattle.mirror_calls.proofs.SinceLemmas.{IsLeftSince-more, IsLeftSince-then}
use Rattle.mirror_run.specs.Lines.{HasMadeStep}
use Rattle.mirror_run.specs.Running.{IsLegStopped, IsStopped}
use Rattle.mirror_run.specs.Standing.{BothMoments, Cuts, IsStanding, Shown, Standing, cuts_by, format_at, shown_by}
use Rattle.mirror_run.specs.Standing.{standing_behind}
use Rattle.mirror_run.proofs.RunLemmas.{came_further, came_to_changes, came_to_nothing, came_to_text, complete_prints}
use Rattle.mirror_run.proofs.RunLemmas.{first_of-cons, legs_of-cons, legs_then, made_of, second_of-cons, some_text}
use Rattle.mirror_run.proofs.RunLemmas.{texts_of-cons}

-- ---- what is left of legs that stand somewhere

-- Each image of both disks may be left by what has happened.
pub record AreLeft (may : Cuts) (w : Standing) (now : BothMoments) : Type 0 where
  pub first : HasNow (EachImage (may.first w.a w.m.a.history)) now.first
  pub second : HasNow (EachImage (may.second w.b w.m.b.history)) now.second

-- So it is of each mirror that legs stand for, which show this.
abbrev pub StandLeft : Cuts → Shown → Type 0
StandLeft may now = (w : Standing) → IsStanding w now → AreLeft may w now.moments

-- Legs that leave what they stand for leave it so.
pub stands_left : {A B : Type 0} (a_stands : A → LegOn → Session → Type 0) (b_stands : B → LegOn → Session → Type 0)
    (a_moments : A → List Content) (b_moments : B → List Content) (a_left b_left : LegOn → History → Image → Type 0)
    → ((leg : A) (on : LegOn) (s : Session) → a_stands leg on s
    → HasNow (EachImage (a_left on s.history)) (a_moments leg))
    → ((leg : B) (on : LegOn) (s : Session) → b_stands leg on s
    → HasNow (EachImage (b_left on s.history)) (b_moments leg))
    → (a : A) (b : B) → StandLeft (cuts_by a_left b_left) (shown_by a_stands b_stands a_moments b_moments a b)
stands_left a_stands b_stands a_moments b_moments a_left b_left first second a b w legs = record {
  first = first a w.a w.m.a legs.first;
  second = second b w.b w.m.b legs.second;
}

-- ---- texts

-- What a sink holds behind no text is what it held.
pub told_nothing : (held : Option (List ℕ)) → held ≡ held_with [] held
told_nothing None = refl
told_nothing (Some bytes) = ap (λ (l : List ℕ). Some l) (sym (append-nil bytes))

pub told_further : (one more : List ℕ) (held : Option (List ℕ))
    → held_with more (held_with one held) ≡ held_with (one ++ more) held
told_further one more None = refl
told_further one more (Some bytes) = ap (λ (l : List ℕ). Some l) (append_assoc bytes one more)

-- ---- behind a step

-- What ended a run short ended it behind a step too,
pub short_further : (step : MirrorStep) (rest : MirrorRun) (text : List ℕ) (changes : LegChanges) (ending : Ending)
    → IsMirrorEndedShort rest text changes ending
    → IsMirrorEndedShort (with_mirror_step step rest) (step.text ++ text) (legs_then (on_legs step.changes) changes) ending
short_further step rest text changes ending cut = record {
  came = came_further step rest text changes cut.came;
  whole_steps = λ other.
      let some = cut.whole_steps other in (
        suc some.0,
        ap (λ (l : List ℕ). step.text ++ l) some.1 ∙ sym (texts_of-cons step (take some.0 rest.steps)),
      );
  whole_changes = λ other.
      let some = cut.whole_changes other in (
        suc some.0,
        ap (λ (done : LegChanges). legs_then (on_legs step.changes) done) some.1
            ∙ legs_of-cons step (take some.0 rest.steps),
      );
  short = λ complete.
      let less : length text < length (mirror_texts_of rest.steps) = cut.short complete in
      let one : length (step.text ++ text) ≡ length step.text + length text = length-append step.text text in
      let all : length (mirror_texts_of (with_mirror_step step rest).steps)
      ≡ length step.text + length (mirror_texts_of rest.steps) =
      ap length (texts_of-cons step rest.steps) ∙ length-append step.text (mirror_texts_of rest.steps) in
      omega arith;
  outside = cut.outside;
}

-- and so did whatever ended it.
pub ended_further : (step : MirrorStep) (rest : MirrorRun) (text : List ℕ) (changes : LegChanges) (ending : Ending)
    → IsMirrorEndedBy rest text changes ending
    → IsMirrorEndedBy (with_mirror_step step rest) (step.text ++ text) (legs_then (on_legs step.changes) changes) ending
ended_further step rest text changes ending (inl done) = inl (record {
  whole = record {
    is_text = ap (λ (l : List ℕ). step.text ++ l) done.whole.is_text ∙ sym (texts_of-cons step rest.steps);
    is_changes = ap (λ (made : LegChanges). legs_then (on_legs step.changes) made) done.whole.is_changes
        ∙ legs_of-cons step rest.steps;
  };
  is = done.is;
})
ended_further step rest text changes ending (inr cut) = inr (short_further step rest text changes ending cut)

-- What stops the rest of the changes of a leg behind some stops them all.
leg_further : (P : History → Image → Type 0) (h there : History) (xs ys all made : List Change)
    (a b c : List Content) → there ≡ with_changes xs h → all ≡ xs ++ ys → IsLeftSince P h xs a b
    → IsLegStopped P there ys made b c → IsLegStopped P h all (xs ++ made) a c
leg_further P h there xs ys all made a b c is whole first stopped = record {
  since = subst (λ (l : List Change). IsLeftSince P h l a c) (sym whole)
      (IsLeftSince-then P h xs ys first (subst (λ (g : History). IsLeftSince P g ys b c) is stopped.since));
  now = subst (λ (g : History). HasNow (EachImage (P g)) c)
      (ap (with_changes made) is ∙ sym (fold-append with_change h xs made)) stopped.now;
}

-- What stops the run behind a step that was made stops it with the step.
pub stopped_further : (may : Cuts) (w : Standing) (step : MirrorStep) (a : BothMoments) (now : Shown)
    (held_a held_b : Option (List ℕ)) → HasMadeStep may w step a now held_a held_b
    → (rest : MirrorRun) (ending : Ending) (c : BothMoments) (held_c : Option (List ℕ))
    → IsStopped may (standing_behind w step.changes) rest ending now.moments c held_b held_c
    → IsStopped may w (with_mirror_step step rest) ending a c held_a held_c
stopped_further may w step a now held_a held_b made rest ending c held_c stopped = record {
  text = step.text ++ stopped.text;
  changes = legs_then (on_legs step.changes) stopped.changes;
  ended = ended_further step rest stopped.text stopped.changes ending stopped.ended;
  first = leg_further (may.first w.a) w.m.a.history (standing_behind w step.changes).m.a.history
      (changes_on_first step.changes) (changes_on_first (mirror_changes_in rest.steps))
      (changes_on_first (mirror_changes_in (with_mirror_step step rest).steps)) stopped.changes.first
      a.first now.moments.first c.first (changes_on_first-is step.changes w.m) (first_of-cons step rest.steps)
      made.first stopped.first;
  second = leg_further (may.second w.b) w.m.b.history (standing_behind w step.changes).m.b.history
      (changes_on_second step.changes) (changes_on_second (mirror_changes_in rest.steps))
      (changes_on_second (mirror_changes_in (with_mirror_step step rest).steps)) stopped.changes.second
      a.second now.moments.second c.second (changes_on_second-is step.changes w.m) (second_of-cons step rest.steps)
      made.second stopped.second;
  told = stopped.told ∙ ap (held_with stopped.text) made.told ∙ told_further step.text stopped.text held_a;
}

-- ---- where nothing is done

-- Legs that are left as they are are stopped with nothing made.
leg_kept : (P : History → Image → Type 0) (h : History) (rest : List Change) (a : List Content)
    → HasNow (EachImage (P h)) a → IsLegStopped P h rest [] a a
leg_kept P h rest a left = record { since = no_moment a (IsLeftWithin P h rest); now = left }

-- Something outside stops the rest of a run before any of it is done.
pub stopped_at_lines : (may : Cuts) (w : Standing) (a : BothMoments) → AreLeft may w a → (ending : Ending)
    (held : Option (List ℕ)) → IsFromOutside ending → (too_long : Bool) (number : ℕ) (found : Bool)
    (lines : List MirrorLine)
    → IsStopped may w (mirror_run_from (format_at w) too_long number w.m found lines) ending a a held held
stopped_at_lines may w a left ending held outside too_long number found lines =
    let rest = mirror_run_from (format_at w) too_long number w.m found lines in
    record {
      text = [];
      changes = on_legs [];
      ended = inr (record {
        came = came_to_nothing (format_at w) too_long number w.m found lines;
        whole_steps = λ other. (0, refl);
        whole_changes = λ other. (0, refl);
        short = complete_prints (format_at w) too_long number w.m found lines;
        outside = outside;
      });
      first = leg_kept (may.first w.a) w.m.a.history (changes_on_first (mirror_changes_in rest.steps)) a.first left.first;
      second = leg_kept (may.second w.b) w.m.b.history (changes_on_second (mirror_changes_in rest.steps)) a.second
          left.second;
      told = told_nothing held;
    }

-- A run that only ends so is stopped by that.
pub stopped_by_itself : (may : Cuts) (w : Standing) (a : BothMoments) → AreLeft may w a → (rest : MirrorRun)
    (ending : Ending) (held : Option (List ℕ)) → rest ≡ mirror_only_ends ending → IsStopped may w rest ending a a held held
stopped_by_itself may w a left rest ending held only =
    subst (λ (run : MirrorRun). IsStopped may w run ending a a held held) (sym only) (record {
      text = [];
      changes = on_legs [];
      ended = inl (record { whole = record { is_text = refl; is_changes = refl }; is = refl });
      first = leg_kept (may.first w.a) w.m.a.history [] a.first left.first;
      second = leg_kept (may.second w.b) w.m.b.history [] a.second left.second;
      told = told_nothing held;
    })

-- ---- within a step

-- What is left of a leg within a step, by some of the first of its changes.
record IsCutTo (P : History → Image → Type 0) (h : History) (xs : List Change) (b : List Content) : Type 0 where
  pub made : ℕ
  pub left : HasNow (EachImage (P (with_changes (take made xs) h))) b

cut_to : (P : History → Image → Type 0) (h : History) (xs : List Change) (a b : List Content)
    → IsLeftSince P h xs a b → HasNow (EachImage (P h)) a → IsCutTo P h xs b
cut_to P h xs a b since start = by (content_now b) refl
  where
    within : HasNow (IsLeftWithin P h xs) b
    within = content_at_end since (λ c told. record { made = 0; left = start c told })

    by : (now : Option Content) → content_now b ≡ now → IsCutTo P h xs b
    by None none = record { made = 0; left = λ c told. absurd (none-some c (sym none ∙ told)) }
    by (Some later) told =
        let left = within later told in
        record {
          made = left.made;
          left = λ c is. subst (λ (x : Content). EachImage (P (with_changes (take left.made xs) h)) x)
              (same_Some _ _ (sym told ∙ is)) left.left;
        }

-- The changes of one step are those of a run up to its first.
one_step : (step : MirrorStep) (rest : MirrorRun)
    → on_legs step.changes ≡ on_legs (mirror_changes_in (take 1 (with_mirror_step step rest).steps))
one_step step rest =
    ap on_legs (sym (flat_map-cons (λ (s : MirrorStep). s.changes) step [] ∙ append-nil step.changes))

module _ (may : Cuts) (w : Standing) (step : MirrorStep) (behind : MirrorRun) (some : step.text ≢ []) (a b : BothMoments)
    (held_a held_b : Option (List ℕ))
    (since : IsLeftSince (may.first w.a) w.m.a.history (changes_on_first step.changes) a.first b.first)
    (second_since : IsLeftSince (may.second w.b) w.m.b.history (changes_on_second step.changes) a.second b.second) where
  abbrev run : MirrorRun
  run = with_mirror_step step behind

  -- Each moment of the step is one of the run.
  since_run : IsLeftSince (may.first w.a) w.m.a.history (changes_on_first (mirror_changes_in run.steps)) a.first b.first
  since_run = subst (λ (l : List Change). IsLeftSince (may.first w.a) w.m.a.history l a.first b.first)
      (sym (first_of-cons step behind.steps))
      (IsLeftSince-more (may.first w.a) w.m.a.history (changes_on_first step.changes)
      (changes_on_first (mirror_changes_in behind.steps)) since)

  second_since_run : IsLeftSince (may.second w.b) w.m.b.history (changes_on_second (mirror_changes_in run.steps))
      a.second b.second
  second_since_run = subst (λ (l : List Change). IsLeftSince (may.second w.b) w.m.b.history l a.second b.second)
      (sym (second_of-cons step behind.steps))
      (IsLeftSince-more (may.second w.b) w.m.b.history (changes_on_second step.changes)
      (changes_on_second (mirror_changes_in behind.steps)) second_since)

  -- The run prints more than nothing.
  prints : 0 < length (mirror_texts_of run.steps)
  prints = by step.text refl
    where
      by : (text : List ℕ) → step.text ≡ text → 0 < length (mirror_texts_of run.steps)
      by [] none = absurd (some none)
      by (byte ∷ text) is =
          let all = ap length (texts_of-cons step behind.steps) in
          let one = ap length is in
          omega (arith, all, one, length-append step.text (mirror_texts_of behind.steps))

  -- A disk that failed stops the run, with some of the first changes of each leg made.
  pub stopped_by_disk : AreLeft may w a → held_b ≡ held_a → IsStopped may w run (Failed outers.Disk) a b held_a held_b
  stopped_by_disk left untold =
      let first = cut_to (may.first w.a) w.m.a.history (changes_on_first step.changes) a.first b.first since left.first in
      let second = cut_to (may.second w.b) w.m.b.history (changes_on_second step.changes) a.second b.second second_since
      left.second in
      record {
        text = [];
        changes = made_of step first.made second.made;
        ended = inr (record {
          came = came_to_changes step behind first.made second.made some;
          whole_steps = λ other. (0, refl);
          whole_changes = λ other. absurd (other refl);
          short = λ complete. prints;
          outside = tt;
        });
        first = record { since = since_run; now = first.left };
        second = record { since = second_since_run; now = second.left };
        told = untold ∙ told_nothing held_a;
      }

  -- All of the step is made.
  abbrev IsMade : Type 0
  IsMade = AreLeft may (standing_behind w step.changes) b

  first_made : IsMade
      → HasNow (EachImage (may.first w.a (with_changes (changes_on_first step.changes) w.m.a.history))) b.first
  first_made left = subst (λ (g : History). HasNow (EachImage (may.first w.a g)) b.first)
      (changes_on_first-is step.changes w.m) left.first

  second_made : IsMade
      → HasNow (EachImage (may.second w.b (with_changes (changes_on_second step.changes) w.m.b.history))) b.second
  second_made left = subst (λ (g : History). HasNow (EachImage (may.second w.b g)) b.second)
      (changes_on_second-is step.changes w.m) left.second

  -- A sink that failed stops it with all made, and a part of the text told.
  pub stopped_by_sink : IsMade → AddsPrefix step.text held_a held_b
      → IsStopped may w run (Failed outers.Sink) a b held_a held_b
  stopped_by_sink left part = record {
    text = take part.count step.text;
    changes = on_legs step.changes;
    ended = inr (record {
      came = came_to_text step behind part.count part.short;
      whole_steps = λ other. absurd (other refl);
      whole_changes = λ other. (1, one_step step behind);
      short = λ complete.
          let less : part.count < length step.text = part.short in
          let all = ap length (texts_of-cons step behind.steps) in
          let some = length-take part.count step.text in
          omega (arith, less, all, some, length-append step.text (mirror_texts_of behind.steps));
      outside = tt;
    });
    first = record { since = since_run; now = first_made left };
    second = record { since = second_since_run; now = second_made left };
    told = part.held;
  }

  -- Where there is no memory nothing is made, or all.
  pub stopped_by_memory : AreLeft may w b ⊎ IsMade → held_b ≡ held_a → IsStopped may w run NoMemory a b held_a held_b
  stopped_by_memory (inl left) untold = record {
    text = [];
    changes = on_legs [];
    ended = inr (record {
      came = came_to_changes step behind 0 0 some;
      whole_steps = λ other. (0, refl);
      whole_changes = λ other. (0, refl);
      short = λ complete. prints;
      outside = tt;
    });
    first = record { since = since_run; now = left.first };
    second = record { since = second_since_run; now = left.second };
    told = untold ∙ told_nothing held_a;
  }
  stopped_by_memory (inr left) untold = record {
    text = [];
    changes = on_legs step.changes;
    ended = inr (record {
      came = came_to_text step behind 0 (some_text step.text some);
      whole_steps = λ other. (0, refl);
      whole_changes = λ other. (1, one_step step behind);
      short = λ complete. prints;
      outside = tt;
    });
    first = record { since = since_run; now = first_made left };
    second = record { since = second_since_run; now = second_made left };
    told = untold ∙ told_nothing held_a;
  }
