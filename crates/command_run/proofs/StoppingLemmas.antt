-- What stops the rest of a run, behind a line and at a line.
use Rattle.std.proofs.Common.{◌≡◌, inl, inr, ℕ, suc, ◌+◌, ◌<◌, Bool, List, [], ◌∷◌, ◌++◌, length, take, refl, sym, ◌∙◌, ap, subst, arith, length-append, length-take, Option, Some, None}
use Rattle.std.specs.Prelude.{◌||◌}
use Rattle.std.specs.Option.{IsSomeAnd}
use Rattle.std.proofs.lemmas.List.Sums.{fold-append}
use Rattle.std.proofs.lemmas.Option.{none-some}
use Rattle.disk_model.specs.Disk.{Content}
use Rattle.disk_model.specs.Moments.{EachMoment, HasNow, content_now}
use Rattle.disk_model.proofs.MomentsLemmas.{EachMoment-then, EachMoment-weaker, no_moment}
use Rattle.device_model.specs.Refusals.{ByWords, ByMeaning}
use Rattle.run_model.specs.Ending.{Ending, Failed, NoMemory, ByLine}
use Rattle.run_model.specs.Ending as endings
use Rattle.device_model.specs.Grammar.{ReadLine, Means, Refused}
use Rattle.device_model.specs.LineFault.{WordsFault}
use Rattle.device_model.specs.History.{Change, History, with_change, with_changes}
use Rattle.device_model.specs.Script.{MeaningFault, ScriptLine, line_outcome, meaning_fault}
use Rattle.run_model.specs.ScriptRun.{IsRunUpTo, ScriptRun, ScriptStep, changes_in, line_step, only_ends, run_from, texts_of, with_step}
use Rattle.device_model.proofs.ScriptLemmas.{history-after}
use Rattle.direct_laws.specs.MomentLaws.{IsLeftNow}
use Rattle.run_laws.proofs.ScriptRunLemmas.{came_into, came_into_line, came_to_nothing, run_is_split, run_is_whole}
use Rattle.device_parts.specs.declared.condition.Condition.{Condition}
use Rattle.device_parts.specs.declared.condition.Condition.TheVariants.{Working}
use Rattle.device.specs.declared.mode.DeviceParts.{DeviceParts}
use Rattle.device.specs.Device.{IsDevice, kind_of}
use Rattle.device_parts.specs.Device.{Standing}
use Rattle.device.proofs.ModeLemmas.{left_now}
use Rattle.device.specs.Run.{standing_behind}
use Rattle.device_model.specs.Device.{IsLeftWithin}
use Rattle.device.specs.Tags.{Leaves}
use Rattle.device.proofs.RunLemmas.{left-behind, left-wider}
use Rattle.device.proofs.TagsLemmas.{leaves_all, leaves_left, leaves_then}
use Rattle.script_text.specs.declared.tags_found.TagsFound.{TagsFound}
use Rattle.script_text.specs.declared.line_end.LineEnd.{LineEnd}
use Rattle.script_text.specs.declared.line_end.LineEnd.TheVariants as Ends
use Rattle.script_text.specs.declared.meaning_fault.MeaningFault as session
use Rattle.script_text.specs.Meaning.{meaning_of}
use Rattle.command_ending.specs.Ended.{ending_of}
use Rattle.command_ending.specs.declared.ended.Ended.{Ended}
use Rattle.script_session.specs.LineRun.{HasEnded, HasRunLine, IsCutLine, IsHalfTold, events_of}
use Rattle.stream_io.specs.Stream.{held_with}
use Rattle.script_session.proofs.LineLemmas.{line_cut_begun, line_cut_failed}
use Rattle.run_model.specs.CommandRun.{IsComplete, IsEndedBy, IsFromOutside}
use Rattle.script_lines.specs.Ends.{ended_by}
use Rattle.command_run.specs.Stopping.{IsStopped}
use Rattle.run_model.specs.declared.outer.Outer.TheVariants as outers
use Rattle.command_task.proofs.RunningLemmas.{now_of, told_nothing, told_further, short_further, complete_prints}

-- What follows, of a value that is there.
pub and_weaker : {X : Type 0} (P Q : X → Type 0) (o : Option X) → ((x : X) → P x → Q x) → IsSomeAnd o P
    → IsSomeAnd o Q
and_weaker P Q None f is = is
and_weaker P Q (Some x) f is = f x is

-- ---- behind a step

-- and so did whatever ended it.
ended_further : (step : ScriptStep) (rest : ScriptRun) (text : List ℕ) (changes : List Change) (ending : Ending)
    → IsEndedBy rest text changes ending
    → IsEndedBy (with_step step rest) (step.text ++ text) (step.changes ++ changes) ending
ended_further step rest text changes ending (inl done) = inl (record {
  whole = record {
    is_text = ap (λ (l : List ℕ). step.text ++ l) done.whole.is_text ∙ sym (run_is_whole step rest).0;
    is_changes = ap (λ (l : List Change). step.changes ++ l) done.whole.is_changes
        ∙ sym (run_is_whole step rest).1;
  };
  is = done.is;
})
ended_further step rest text changes ending (inr cut) = inr (short_further step rest text changes ending cut)

-- ---- behind a line

-- What stops the run behind a line that was run stops it with the line.
pub stopped_further : (w : Standing) (line : ScriptLine) (found : TagsFound) (parts : DeviceParts)
    (a b : List Content)
    (held_a held_b : Option (List ℕ)) (ran : HasRunLine w line found parts a b held_a held_b)
    (rest : ScriptRun) (ending : Ending) (c : List Content) (held_c : Option (List ℕ))
    → IsStopped (standing_behind w (events_of w line)) rest ending b c held_b held_c
    → IsStopped w (with_step (line_step (line_outcome w.format w.state line)) rest) ending a c held_a held_c
stopped_further w line found parts a b held_a held_b ran rest ending c held_c stopped =
    let step = line_step (line_outcome w.format w.state line) in
    let there = standing_behind w (events_of w line) in
    let kind = kind_of w in
    let h = w.state.history in
    let history : there.state.history ≡ with_changes step.changes h =
    history-after w.format w.state (events_of w line) in
    let all : changes_in (with_step step rest).steps ≡ step.changes ++ changes_in rest.steps =
    (run_is_whole step rest).1 in
    let wider = λ (x : Content) (is : IsLeftWithin kind w.entry h step.changes x).
    subst (λ (l : List Change). IsLeftWithin kind w.entry h l x) (sym all)
    (left-wider kind w.entry h step.changes (changes_in rest.steps) x is) in
    let behind = λ (x : Content)
    (is : IsLeftWithin kind w.entry there.state.history (changes_in rest.steps) x).
    subst (λ (l : List Change). IsLeftWithin kind w.entry h l x) (sym all)
    (left-behind kind w.entry h step.changes (changes_in rest.steps) x
    (subst (λ (y : History). IsLeftWithin kind w.entry y (changes_in rest.steps) x) history is)) in
    record {
      text = step.text ++ stopped.text;
      changes = step.changes ++ stopped.changes;
      ended = ended_further step rest stopped.text stopped.changes ending stopped.ended;
      since = EachMoment-then (EachMoment-weaker wider ran.run.since) (EachMoment-weaker behind stopped.since);
      others = subst (λ (l : List Change). Leaves w l a c) (sym all)
          (leaves_then w there.state step.changes (changes_in rest.steps) history ran.run.others stopped.others);
      now = subst (λ (y : History). IsLeftNow kind w.entry y c)
          (ap (with_changes stopped.changes) history
          ∙ sym (fold-append with_change h step.changes stopped.changes))
          stopped.now;
      told = stopped.told ∙ ap (held_with stopped.text) ran.told ∙ told_further step.text stopped.text held_a;
    }

-- ---- where nothing is done

-- Something outside stops the rest of a run before any of it is done.
pub stopped_before : (w : Standing) (condition : Condition) (parts : DeviceParts) (a : List Content)
    → IsDevice w condition parts a → (rest : ScriptRun) (ending : Ending) (held : Option (List ℕ))
    → IsRunUpTo rest [] [] → (IsComplete rest → 0 < length (texts_of rest.steps)) → IsFromOutside ending
    → IsStopped w rest ending a a held held
stopped_before w condition parts a is rest ending held came prints outside = record {
  text = [];
  changes = [];
  ended = inr (record { came = came; whole_steps = λ other. (0, refl); short = prints; outside = outside });
  since = no_moment a _;
  others = leaves_all w (changes_in rest.steps) refl;
  now = left_now w condition parts.mode parts.common a is;
  told = told_nothing held;
}

-- The same, where lines are left.
pub stopped_at_lines : (w : Standing) (condition : Condition) (parts : DeviceParts) (a : List Content)
    → IsDevice w condition parts a → (ending : Ending) (held : Option (List ℕ)) → IsFromOutside ending
    → (too_long : Bool) (number : ℕ) (found : Bool) (lines : List ReadLine)
    → IsStopped w (run_from w.format too_long number w.state found lines) ending a a held held
stopped_at_lines w condition parts a is ending held outside too_long number found lines =
    stopped_before w condition parts a is (run_from w.format too_long number w.state found lines) ending held
    (came_to_nothing w.format too_long number w.state found lines)
    (complete_prints w.format too_long number w.state found lines) outside

-- A run that only ends so is stopped by that.
pub stopped_by_itself : (w : Standing) (condition : Condition) (parts : DeviceParts) (a : List Content)
    → IsDevice w condition parts a → (rest : ScriptRun) (ending : Ending) (held : Option (List ℕ))
    → rest ≡ only_ends ending → IsStopped w rest ending a a held held
stopped_by_itself w condition parts a is rest ending held only =
    subst (λ (run : ScriptRun). IsStopped w run ending a a held held) (sym only) (record {
      text = [];
      changes = [];
      ended = inl (record { whole = record { is_text = refl; is_changes = refl }; is = refl });
      since = no_moment a _;
      others = leaves_all w [] refl;
      now = left_now w condition parts.mode parts.common a is;
      told = told_nothing held;
    })

-- ---- within a line

module _ (w : Standing) (condition : Condition) (parts : DeviceParts) (a : List Content)
    (is : IsDevice w condition parts a)
    (line : ScriptLine) (parts_b : DeviceParts) (b : List Content) (held_a held_b : Option (List ℕ))
    (too_long : Bool) (number : ℕ) (found : Bool) (lines : List ReadLine) where
  abbrev step : ScriptStep
  step = line_step (line_outcome w.format w.state line)

  abbrev behind : ScriptRun
  behind = run_from w.format too_long (suc number) (line_outcome w.format w.state line).after
      (found || (line_outcome w.format w.state line).finds_fault) lines

  abbrev run : ScriptRun
  run = run_from w.format too_long number w.state found (Means line ∷ lines)

  split : meaning_fault w.format w.state.progress line ≡ None → run ≡ with_step step behind
  split runnable = (run_is_split w.format number w.state found).goes_on too_long line lines runnable

  -- Each moment of the line is one of the run.
  since_line : meaning_fault w.format w.state.progress line ≡ None
      → EachMoment a b (IsLeftWithin (kind_of w) w.entry w.state.history step.changes)
      → EachMoment a b (IsLeftWithin (kind_of w) w.entry w.state.history (changes_in run.steps))
  since_line runnable since = EachMoment-weaker (λ (x : Content) left.
      subst (λ (l : List Change). IsLeftWithin (kind_of w) w.entry w.state.history l x)
      (sym (ap (λ (r : ScriptRun). changes_in r.steps) (split runnable) ∙ (run_is_whole step behind).1))
      (left-wider (kind_of w) w.entry w.state.history step.changes (changes_in behind.steps) x left)) since

  others_of_line : meaning_fault w.format w.state.progress line ≡ None
      → Leaves w step.changes a b → Leaves w (changes_in run.steps) a b
  others_of_line runnable others =
      subst (λ (l : List Change). Leaves w l a b)
      (sym (ap (λ (r : ScriptRun). changes_in r.steps) (split runnable) ∙ (run_is_whole step behind).1))
      (leaves_left w step.changes (changes_in behind.steps) others)

  -- What is left of a line that is cut off is so by some of its first changes.
  record IsCutTo : Type 0 where
    pub made : ℕ
    pub left : IsLeftNow (kind_of w) w.entry (with_changes (take made step.changes) w.state.history) b

  cut_to : HasNow (IsLeftWithin (kind_of w) w.entry w.state.history step.changes) b → (now : Option Content)
      → content_now b ≡ now → IsCutTo
  cut_to cut None none = record {
    made = 0;
    left = record {
      opens = λ c told. absurd (none-some c (sym none ∙ told));
      left = λ c told. absurd (none-some c (sym none ∙ told));
    };
  }
  cut_to cut (Some later) told =
      let left = cut later told in
      record {
        made = left.made;
        left = record { opens = now_of _ b later told left.opens; left = now_of _ b later told left.left };
      }

  -- A line that is cut off stops the run.
  pub stopped_in_line : (ending : Ending) → IsFromOutside ending → IsCutLine w line a b held_a held_b
      → IsStopped w run ending a b held_a held_b
  stopped_in_line ending outside cut =
      let to = cut_to cut.cut.now (content_now b) refl in
      record {
        text = [];
        changes = take to.made step.changes;
        ended = inr (record {
          came = came_into_line w.format too_long number w.state found line lines to.made cut.runnable;
          whole_steps = λ other. (0, refl);
          short = complete_prints w.format too_long number w.state found (Means line ∷ lines);
          outside = outside;
        });
        since = since_line cut.runnable cut.cut.since;
        others = others_of_line cut.runnable cut.cut.others;
        now = to.left;
        told = cut.told ∙ told_nothing held_a;
      }

  -- So does one that is half told.
  pub stopped_in_text : IsHalfTold w line parts_b a b held_a held_b
      → IsStopped w run (Failed outers.Sink) a b held_a held_b
  stopped_in_text half = record {
    text = take half.told.count step.text;
    changes = step.changes;
    ended = inr (record {
      came = subst (λ (r : ScriptRun). IsRunUpTo r (take half.told.count step.text) step.changes)
          (sym (split half.runnable)) ((came_into step behind).text half.told.count half.told.short);
      whole_steps = λ other. absurd (other refl);
      short = λ complete.
          let less : half.told.count < length step.text = half.told.short in
          let all : length (texts_of run.steps) ≡ length step.text + length (texts_of behind.steps) =
          ap (λ (r : ScriptRun). length (texts_of r.steps)) (split half.runnable)
          ∙ ap length (run_is_whole step behind).0 ∙ length-append step.text (texts_of behind.steps) in
          let some = length-take half.told.count step.text in
          omega arith;
      outside = tt;
    });
    since = since_line half.runnable half.run.since;
    others = others_of_line half.runnable half.run.others;
    now = subst (λ (y : History). IsLeftNow (kind_of w) w.entry y b)
        (history-after w.format w.state (events_of w line))
        (left_now (standing_behind w (events_of w line)) Working parts_b.mode parts_b.common b half.run.device);
    told = half.told.held;
  }

  -- So does the end of a line, whichever it is.
  pub stopped_by_end : (end : LineEnd) → HasEnded w line end parts_b a b held_a held_b
      → ((fault : session.MeaningFault) → end ≡ Ends.Refused fault → (b ≡ a) × (held_b ≡ held_a))
      → IsStopped w run (ending_of (ended_by number end)) a b held_a held_b
  stopped_by_end (Ends.Refused fault) refused kept =
      let same = kept fault refl in
      subst (λ (x : List Content). IsStopped w run
      (endings.Refused (ByLine number (ByMeaning (meaning_of fault)))) a x held_a held_b)
      (sym same.0)
      (subst (λ (x : Option (List ℕ)).
      IsStopped w run (endings.Refused (ByLine number (ByMeaning (meaning_of fault)))) a a held_a x) (sym same.1)
      (stopped_by_itself w condition parts a is run (endings.Refused (ByLine number (ByMeaning (meaning_of fault)))) held_a
      ((run_is_split w.format number w.state found).by_meaning too_long line (meaning_of fault) lines refused)))
  stopped_by_end Ends.Disk failed kept =
      stopped_in_line (Failed outers.Disk) tt (line_cut_failed w line parts_b a b held_a held_b failed)
  stopped_by_end Ends.Sink half kept = stopped_in_text half
  stopped_by_end Ends.Memory begun kept =
      stopped_in_line NoMemory tt (line_cut_begun w line parts_b a b held_a held_b begun)

  -- The same, of bytes that are this line.
  pub stopped_by_line : (read : ReadLine) → read ≡ Means line → (end : LineEnd) (ended : Ended)
      → ended ≡ ended_by number end → HasEnded w line end parts_b a b held_a held_b
      → ((fault : session.MeaningFault) → end ≡ Ends.Refused fault → (b ≡ a) × (held_b ≡ held_a))
      → IsStopped w (run_from w.format too_long number w.state found (read ∷ lines))
      (ending_of ended) a b held_a held_b
  stopped_by_line read means end ended by has kept =
      subst (λ (r : ReadLine). IsStopped w (run_from w.format too_long number w.state found (r ∷ lines))
      (ending_of ended) a b held_a held_b) (sym means)
      (subst (λ (e : Ended). IsStopped w run (ending_of e) a b held_a held_b) (sym by)
      (stopped_by_end end has kept))

-- Bytes that are no line stop the run.
pub stopped_by_words : (w : Standing) (condition : Condition) (parts : DeviceParts) (a : List Content)
    → IsDevice w condition parts a → (held : Option (List ℕ)) (too_long : Bool) (number : ℕ) (found : Bool)
    (lines : List ReadLine) (read : ReadLine) (fault told : WordsFault) → read ≡ Refused fault → told ≡ fault
    → IsStopped w (run_from w.format too_long number w.state found (read ∷ lines))
    (endings.Refused (ByLine number (ByWords told)))
    a a held held
stopped_by_words w condition parts a is held too_long number found lines read fault told refused same =
    stopped_by_itself w condition parts a is (run_from w.format too_long number w.state found (read ∷ lines))
    (endings.Refused (ByLine number (ByWords told))) held
    (ap (λ (r : ReadLine). run_from w.format too_long number w.state found (r ∷ lines)) refused
    ∙ ap (λ (f : WordsFault). only_ends (endings.Refused (ByLine number (ByWords f)))) (sym same))
