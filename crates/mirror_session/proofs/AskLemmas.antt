-- What a request of a script, or the levelling, has come to when it ends.
use Rattle.std.proofs.Common.{◌≡◌, inr, ℕ, List, Option, None, sym, ◌∙◌, ap, subst}
use Rattle.device_model.specs.Script.{Ask, submission_of}
use Rattle.device_model.specs.Submission.{Submission}
use Rattle.device_model.specs.Transcript.{Session}
use Rattle.mirror_model.specs.Calls.{mirror_level}
use Rattle.mirror_model.specs.Mirror.{MirrorState, with_mirror_changes}
use Rattle.mirror_model.specs.Script.{after_ask, level_text, mirror_ask_fault, mirror_outcome, submitted_outcome}
use Rattle.mirror_calls.specs.Leg.{LegOn}
use Rattle.mirror_calls.specs.State.{AreLegs, HasDone, format_of}
use Rattle.script_text.specs.declared.tags_found.TagsFound.{TagsFound}
use Rattle.script_text.specs.Found.{finds_fault}
use Rattle.stream_io.specs.Stream.{AddsPrefix}
use Rattle.mirror_session.specs.declared.answer.MirrorAnswer.{MirrorAnswer}
use Rattle.mirror_session.specs.Answering.{HasAnswered, changes_by}
use Rattle.mirror_session.specs.AskRun.{HasLevelled, HasRunAsk, IsAllOrNothing, IsHalfLevelled, IsHalfTold, held_with}
use Rattle.mirror_session.specs.Told.{answer_found, answer_text}

-- What is submitted is the request of the line.
pub submission-is : (size block_size : ℕ) (submission : Submission) (ask : Ask) → size ≡ block_size → submission ≡ submission_of size ask
    → submission ≡ submission_of block_size ask
submission-is size block_size submission ask is same = same ∙ ap (λ (n : ℕ). submission_of n ask) is

module _ (a_stands b_stands : LegOn → Session → Type 0) (a b : LegOn) (m : MirrorState) where
  -- Where it is done
  module _ (ask : Ask) (runnable : mirror_ask_fault (format_of a b) ask ≡ None) (submission : Submission)
      (same : submission ≡ submission_of (format_of a b).block_size ask) (answer : MirrorAnswer)
      (answered : HasAnswered a_stands b_stands a b m submission answer) where
    legs_behind : AreLegs a_stands b_stands a b (after_ask (format_of a b) m ask)
    legs_behind = subst (λ (s : Submission). AreLegs a_stands b_stands a b (with_mirror_changes (changes_by s (format_of a b) m) m)) same answered.legs

    text-is : answer_text answer ≡ (mirror_outcome (format_of a b) m ask).text
    text-is = answered.text ∙ ap (λ (s : Submission). (submitted_outcome (format_of a b) m s).text) same

    -- all is told,
    pub ask_told : (found : TagsFound) (before now : Option (List ℕ)) → found ≡ answer_found answer → now ≡ held_with (answer_text answer) before
        → HasRunAsk a_stands b_stands a b m ask found before now
    ask_told found before now found_is told = record {
      runnable = runnable;
      legs = legs_behind;
      found_ = ap finds_fault found_is ∙ answered.found
          ∙ ap (λ (s : Submission). (submitted_outcome (format_of a b) m s).finds_fault) same;
      told = told ∙ ap (λ (t : List ℕ). held_with t before) text-is;
    }

    -- or nothing,
    pub ask_untold : IsAllOrNothing a_stands b_stands a b m ask
    ask_untold = record { runnable = runnable; legs = inr legs_behind }

    -- or a part.
    pub ask_half : (before now : Option (List ℕ)) → AddsPrefix (answer_text answer) before now → IsHalfTold a_stands b_stands a b m ask before now
    ask_half before now told = record {
      runnable = runnable;
      legs = legs_behind;
      told = subst (λ (t : List ℕ). AddsPrefix t before now) text-is told;
    }

  -- ---- the levelling

  module _ (written : ℕ) (done : HasDone a_stands b_stands a b m (mirror_level (format_of a b) m) written) (before now : Option (List ℕ)) where
    pub level_told : now ≡ held_with (level_text written) before → HasLevelled a_stands b_stands a b m before now
    level_told told = record {
      legs = done.legs;
      told = told ∙ ap (λ (n : ℕ). held_with (level_text n) before) (sym done.answers);
    }

    pub level_half : AddsPrefix (level_text written) before now → IsHalfLevelled a_stands b_stands a b m before now
    level_half told = record {
      legs = done.legs;
      told = subst (λ (n : ℕ). AddsPrefix (level_text n) before now) (sym done.answers) told;
    }
