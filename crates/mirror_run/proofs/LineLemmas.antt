-- The levelling and one line of a script, as a run of a mirror has them.
use Rattle.std.proofs.Common.{◌≡◌, ◌≢◌, ◌⊎◌, inl, inr, ℕ, suc, Bool, List, [], ◌∷◌, refl, sym, ◌∙◌, ap, subst, Option, None}
use Rattle.std.specs.Prelude.{◌||◌}
use Rattle.disk_model.proofs.MomentsLemmas.{EachMoment-kept}
use Rattle.device_model.specs.LineFault.{WordsFault}
use Rattle.device_model.specs.Refusals.{ByMeaning, ByWords}
use Rattle.device_model.specs.Script.{Ask}
use Rattle.run_model.specs.Ending.{ByLine, Ending, Failed, NoMemory, Refused}
use Rattle.run_model.specs.declared.outer.Outer.TheVariants as outers
use Rattle.mirror_model.specs.Mirror.{changes_on_first, changes_on_second, with_mirror_changes}
use Rattle.mirror_model.specs.Script.{AsksFor, IsMirrorLine, MirrorLine, RefusedWords, Skips, level_text, mirror_ask_fault}
use Rattle.mirror_model.specs.Script.{mirror_outcome}
use Rattle.mirror_model.specs.ScriptRun.{MirrorRun, MirrorStep, asking_step, levelled_run, mirror_only_ends}
use Rattle.mirror_model.specs.ScriptRun.{mirror_run_from, with_mirror_step}
use Rattle.mirror_calls.specs.Leg.{IsLeftSince, IsLeftWithin}
use Rattle.script_text.specs.Meaning.{meaning_of}
use Rattle.script_text.specs.declared.line_end.LineEnd.{LineEnd}
use Rattle.script_text.specs.declared.line_end.LineEnd.TheVariants as Ends
use Rattle.script_text.specs.declared.meaning_fault.MeaningFault as session
use Rattle.script_text.specs.declared.tags_found.TagsFound.{TagsFound}
use Rattle.script_text.specs.declared.tags_found.TagsFound.TheVariants.{Matching}
use Rattle.mirror_session.specs.AskRun.{HasEnded, HasEndedLevel, HasLevelled, HasRunAsk}
use Rattle.command_ending.specs.Ended.{ending_of, form_of}
use Rattle.command_ending.specs.declared.ended.Ended.{Ended}
use Rattle.command_ending.specs.declared.ended.Ended.TheVariants as Endings
use Rattle.command_ending.specs.declared.line_refusal.LineRefusal.TheVariants as Refusals
use Rattle.command_ending.specs.declared.refusal.Refusal.TheVariants as refusals
use Rattle.script_lines.specs.Ends.{IsOfForm, ended_by}
use Rattle.mirror_run.specs.Lines.{HasMadeStep, HasRunBytes, level_at}
use Rattle.mirror_run.specs.Running.{IsStopped}
use Rattle.mirror_run.specs.Standing.{BothMoments, Cuts, IsStanding, Shown, Standing, format_at, standing_behind}
use Rattle.mirror_run.proofs.RunLemmas.{ask_text_some, goes_on, refused_by_meaning}
use Rattle.mirror_run.proofs.StoppingLemmas.{AreLeft, StandLeft, stopped_at_lines, stopped_by_disk, stopped_by_itself}
use Rattle.mirror_run.proofs.StoppingLemmas.{stopped_by_memory, stopped_by_sink, told_nothing}

module _ (may : Cuts) (w : Standing) (old new : Shown) (held_a held_b : Option (List ℕ)) (legs : IsStanding w old)
    (stand : StandLeft may old) (stand_b : StandLeft may new) where
  -- ---- a request

  module _ (ask : Ask)
      (since : IsLeftSince (may.first w.a) w.m.a.history
      (changes_on_first (mirror_outcome (format_at w) w.m ask).changes) old.moments.first new.moments.first)
      (second_since : IsLeftSince (may.second w.b) w.m.b.history
      (changes_on_second (mirror_outcome (format_at w) w.m ask).changes) old.moments.second new.moments.second) where
    -- It was run.
    pub ran_ask : (bytes : List ℕ) (found : TagsFound) → IsMirrorLine bytes (AsksFor ask)
        → HasRunAsk new.first new.second w.a w.b w.m ask found held_a held_b
        → HasRunBytes may w bytes found old.moments new held_a held_b
    ran_ask bytes found is ran = record {
      line = AsksFor ask;
      read = is;
      runnable = ran.runnable;
      step = record { legs = ran.legs; first = since; second = second_since; told = ran.told };
      found_ = ran.found_;
    }

    module _ (too_long : Bool) (number : ℕ) (found : Bool) (lines : List MirrorLine) where
      abbrev run : MirrorRun
      run = mirror_run_from (format_at w) too_long number w.m found (AsksFor ask ∷ lines)

      abbrev step : MirrorStep
      step = asking_step (mirror_outcome (format_at w) w.m ask)

      abbrev behind : MirrorRun
      behind = mirror_run_from (format_at w) too_long (suc number)
          (with_mirror_changes (mirror_outcome (format_at w) w.m ask).changes w.m)
          (found || (mirror_outcome (format_at w) w.m ask).finds_fault) lines

      -- What stops its step stops the run.
      within : mirror_ask_fault (format_at w) ask ≡ None → (ending : Ending)
          → IsStopped may w (with_mirror_step step behind) ending old.moments new.moments held_a held_b
          → IsStopped may w run ending old.moments new.moments held_a held_b
      within runnable ending stopped =
          subst (λ (r : MirrorRun). IsStopped may w r ending old.moments new.moments held_a held_b)
          (sym (goes_on (format_at w) too_long number w.m found (AsksFor ask) lines runnable)) stopped

      -- It has ended before its text was whole, and the run is stopped.
      pub stopped_by_end : (end : LineEnd) → HasEnded new.first new.second w.a w.b w.m ask end held_a held_b
          → ((fault : session.MeaningFault) → end ≡ Ends.Refused fault
          → (new.moments ≡ old.moments) × (held_b ≡ held_a))
          → (end ≡ Ends.Disk → held_b ≡ held_a) → (end ≡ Ends.Memory → held_b ≡ held_a)
          → IsStopped may w run (ending_of (ended_by number end)) old.moments new.moments held_a held_b
      stopped_by_end (Ends.Refused fault) refused kept disk memory =
          let same = kept fault refl in
          let told = meaning_of fault in
          subst (λ (x : BothMoments). IsStopped may w run (Refused (ByLine number (ByMeaning told))) old.moments x held_a held_b)
          (sym same.0)
          (subst (λ (x : Option (List ℕ)).
          IsStopped may w run (Refused (ByLine number (ByMeaning told))) old.moments old.moments held_a x) (sym same.1)
          (stopped_by_itself may w old.moments (stand w legs) run (Refused (ByLine number (ByMeaning told))) held_a
          (refused_by_meaning (format_at w) too_long number w.m found ask told lines refused)))
      stopped_by_end Ends.Disk runnable kept disk memory =
          within runnable (Failed outers.Disk)
          (stopped_by_disk may w step behind (ask_text_some (format_at w) w.m ask) old.moments new.moments held_a held_b
          since second_since (stand w legs) (disk refl))
      stopped_by_end Ends.Sink half kept disk memory =
          within half.runnable (Failed outers.Sink)
          (stopped_by_sink may w step behind (ask_text_some (format_at w) w.m ask) old.moments new.moments held_a held_b
          since second_since (stand_b (standing_behind w step.changes) half.legs) half.told)
      stopped_by_end Ends.Memory done kept disk memory =
          within done.runnable NoMemory
          (stopped_by_memory may w step behind (ask_text_some (format_at w) w.m ask) old.moments new.moments held_a
          held_b since second_since (left_by done.legs) (memory refl))
        where
          left_by : IsStanding w new ⊎ IsStanding (standing_behind w step.changes) new
              → AreLeft may w new.moments ⊎ AreLeft may (standing_behind w step.changes) new.moments
          left_by (inl none) = inl (stand_b w none)
          left_by (inr all) = inr (stand_b (standing_behind w step.changes) all)

  -- ---- the levelling

  module _ (since : IsLeftSince (may.first w.a) w.m.a.history (changes_on_first (level_at w).changes) old.moments.first
      new.moments.first)
      (second_since : IsLeftSince (may.second w.b) w.m.b.history (changes_on_second (level_at w).changes)
      old.moments.second new.moments.second) where
    -- It was made.
    pub levelled : HasLevelled new.first new.second w.a w.b w.m held_a held_b
        → HasMadeStep may w (level_at w) old.moments new held_a held_b
    levelled done = record { legs = done.legs; first = since; second = second_since; told = done.told }

    level_text_some : (written : ℕ) → level_text written ≢ []
    level_text_some written none = absurd (cc)

    -- It has ended before its text was whole, and the run is stopped.
    pub stopped_by_level : (too_long : Bool) (lines : List MirrorLine) (end : LineEnd)
        → HasEndedLevel new.first new.second w.a w.b w.m end held_a held_b
        → (end ≡ Ends.Disk → held_b ≡ held_a) → (end ≡ Ends.Memory → held_b ≡ held_a)
        → IsStopped may w (levelled_run (format_at w) too_long w.m lines) (ending_of (ended_by 0 end)) old.moments
        new.moments held_a held_b
    stopped_by_level too_long lines (Ends.Refused fault) ended disk memory = absurd ended
    stopped_by_level too_long lines Ends.Disk ended disk memory =
        stopped_by_disk may w (level_at w) _ (level_text_some _) old.moments new.moments held_a held_b
        since second_since (stand w legs) (disk refl)
    stopped_by_level too_long lines Ends.Sink half disk memory =
        stopped_by_sink may w (level_at w) _ (level_text_some _) old.moments new.moments held_a held_b
        since second_since (stand_b (standing_behind w (level_at w).changes) half.legs) half.told
    stopped_by_level too_long lines Ends.Memory done disk memory =
        stopped_by_memory may w (level_at w) _ (level_text_some _) old.moments new.moments held_a held_b
        since second_since (left_by done) (memory refl)
      where
        left_by : IsStanding w new ⊎ IsStanding (standing_behind w (level_at w).changes) new
            → AreLeft may w new.moments ⊎ AreLeft may (standing_behind w (level_at w).changes) new.moments
        left_by (inl none) = inl (stand_b w none)
        left_by (inr all) = inr (stand_b (standing_behind w (level_at w).changes) all)

-- ---- lines that ask for nothing

-- A line that is skipped was run: nothing is done.
pub ran_skip : (may : Cuts) (w : Standing) (now : Shown) (held : Option (List ℕ)) (bytes : List ℕ) → IsStanding w now
    → IsMirrorLine bytes Skips → HasRunBytes may w bytes Matching now.moments now held held
ran_skip may w now held bytes legs is = record {
  line = Skips;
  read = is;
  runnable = tt;
  step = record {
    legs = legs;
    first = EachMoment-kept (IsLeftWithin (may.first w.a) w.m.a.history []) refl;
    second = EachMoment-kept (IsLeftWithin (may.second w.b) w.m.b.history []) refl;
    told = told_nothing held;
  };
  found_ = refl;
}

-- Bytes that are no line stop the run.
pub stopped_by_words : (may : Cuts) (w : Standing) (now : Shown) (held : Option (List ℕ)) → AreLeft may w now.moments
    → (too_long : Bool) (number : ℕ) (found : Bool) (lines : List MirrorLine) (line : MirrorLine) (fault : WordsFault)
    → line ≡ RefusedWords fault → (ended : Ended) → IsOfForm number fault ended
    → IsStopped may w (mirror_run_from (format_at w) too_long number w.m found (line ∷ lines)) (ending_of ended)
    now.moments now.moments held held
stopped_by_words may w now held left too_long number found lines line fault refused
    (Endings.Refused (refusals.Line n (Refusals.Form form))) (same, told) =
    stopped_by_itself may w now.moments left _ (Refused (ByLine n (ByWords (form_of form)))) held
    (ap (λ (l : MirrorLine). mirror_run_from (format_at w) too_long number w.m found (l ∷ lines)) refused
    ∙ ap (λ (k : ℕ). mirror_only_ends (Refused (ByLine k (ByWords fault)))) (sym same)
    ∙ ap (λ (f : WordsFault). mirror_only_ends (Refused (ByLine n (ByWords f)))) (sym told))
stopped_by_words may w now held left too_long number found lines line fault refused
    (Endings.Refused (refusals.Line n (Refusals.Meaning meaning))) of_form = absurd of_form
stopped_by_words may w now held left too_long number found lines line fault refused (Endings.Refused refusals.Words)
    of_form = absurd of_form
stopped_by_words may w now held left too_long number found lines line fault refused
    (Endings.Refused (refusals.Key refusal)) of_form = absurd of_form
stopped_by_words may w now held left too_long number found lines line fault refused
    (Endings.Refused (refusals.Image of_image)) of_form = absurd of_form
stopped_by_words may w now held left too_long number found lines line fault refused
    (Endings.Refused (refusals.Second of_image)) of_form = absurd of_form
stopped_by_words may w now held left too_long number found lines line fault refused
    (Endings.Refused (refusals.Legs a_blocks a_size b_blocks b_size)) of_form = absurd of_form
stopped_by_words may w now held left too_long number found lines line fault refused (Endings.Refused refusals.Length)
    of_form = absurd of_form
stopped_by_words may w now held left too_long number found lines line fault refused (Endings.Failed outer) of_form =
    absurd of_form
stopped_by_words may w now held left too_long number found lines line fault refused Endings.Memory of_form =
    stopped_at_lines may w now.moments left NoMemory held tt too_long number found (line ∷ lines)
