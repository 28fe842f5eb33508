-- A turn of the loop over the lines of a script, where its source tells what is left; and causes.
use Rattle.std.proofs.Common.{Result, Ok, Err, ◌≡◌, ◌≢◌, ℕ, ◌+◌, ◌<◌, ◌≤◌, Bool, true, false, List, [], ◌++◌, refl, sym}
use Rattle.std.proofs.Common.{length, subst, arith, Option, Some, None}
use Rattle.std.specs.Prelude.{◌||◌}
use Rattle.std.specs.Option.{ForSome, IsSomeAnd}
use Rattle.std.proofs.lemmas.List.Elements.{All-nil}
use Rattle.disk_model.specs.Causes.{Rose}
use Rattle.device_model.specs.ScriptBytes.{most_piece}
use Rattle.run_model.specs.declared.outer.Outer.TheVariants as outers
use Rattle.mirror_model.specs.Script.{MirrorLine}
use Rattle.mirror_model.specs.ScriptRun.{IsMirrorRunOf, MirrorRun, levelled_run}
use Rattle.script_reader.specs.Reading.{IsWithin, Reading, TakesLine}
use Rattle.script_text.specs.Found.{finds_fault}
use Rattle.script_text.specs.declared.tags_found.TagsFound.{TagsFound}
use Rattle.command_ending.specs.Ended.{ending_of}
use Rattle.command_ending.specs.declared.ended.Ended.{Ended}
use Rattle.command_ending.specs.declared.ended.Ended.TheVariants as Endings
use Rattle.script_lines.specs.Ends.{HasEndCause}
use Rattle.script_lines.specs.Lines.{HasAdvanced}
use Rattle.command_model.specs.Taken.{HasTaken, HoldsText}
use Rattle.command_model.specs.Mirroring.{HasReadTo}
use Rattle.mirror_run.specs.Lines.{HasMadeStep, HasRunBytes, IsStoppedByBytes, level_at}
use Rattle.mirror_run.specs.Running.{IsAt, IsAtClose, IsStopped}
use Rattle.mirror_run.specs.Standing.{BothMoments, Cuts, IsStanding, Shown, Standing, format_at}
use Rattle.script_text.specs.declared.tags_found.TagsFound.TheVariants.{Matching}
use Rattle.mirror_run.proofs.LoopLemmas.{advance_stopped, at_first_line, end_found, line_done, line_held, line_read}
use Rattle.mirror_run.proofs.LoopLemmas.{line_stopped, none_read}
use Rattle.mirror_run.proofs.StoppingLemmas.{StandLeft}

-- ---- causes

-- What came to its end was not ended.
pub not_ended : {T : Type 0} {result : Result T Ended} (told : T) (ended : Ended) → result ≡ Ok told
    → result ≡ Err ended → ⊥
not_ended told ended is other = absurd (cc)

-- A count that is as it was has not risen.
pub not_risen : {before after : ℕ} → after ≡ before → before < after → ⊥
not_risen same rose = omega (arith, same, rose)

pub at_most : {before after : ℕ} → after ≡ before → before ≤ after
at_most same = omega (arith, same)

-- A count that rose later rose since it was lower.
rose_since : (before between after : ℕ) → before ≤ between → Rose between after → Rose before after
rose_since before between after later rose = omega (arith, later, rose)

-- What has its cause in a source has it in the source since its count was lower.
pub source_cause : (before between after : ℕ) (disk sink : Type 0) (ended : Ended) → before ≤ between
    → HasEndCause ⊥ (Rose between after) ⊥ ended → HasEndCause disk (Rose before after) sink ended
source_cause before between after disk sink (Endings.Refused refusal) later cause = tt
source_cause before between after disk sink (Endings.Failed outers.Disk) later cause = absurd cause
source_cause before between after disk sink (Endings.Failed outers.Key) later cause = tt
source_cause before between after disk sink (Endings.Failed outers.Script) later cause =
    rose_since before between after later cause
source_cause before between after disk sink (Endings.Failed outers.Sink) later cause = absurd cause
source_cause before between after disk sink Endings.Memory later cause = tt

-- ---- a turn

module _ (may : Cuts) (w : Standing) (run : MirrorRun) (script : List ℕ) (start : BothMoments)
    (held_start : Option (List ℕ)) (number : ℕ) (found : TagsFound) (old new : Reading) (now : Shown)
    (held : Option (List ℕ)) (stand : StandLeft may now) where
  -- The run stands before its line, where this is left of the script.
  abbrev pub StandsAt : Option (List ℕ) → Type 0
  StandsAt before =
      IsSomeAnd before (λ left. IsAt may w run script start held_start number found old left now held)

  -- Then its line was looked for,
  abbrev pub Advances : (before after : Option (List ℕ)) → Result Bool Ended → Type 0
  Advances before after result =
      ForSome before (λ left. IsSomeAnd after (λ later. HasAdvanced number old new left later result))

  -- and no more than its line was taken.
  abbrev pub Takes : (before after : Option (List ℕ)) → Type 0
  Takes before after =
      ForSome before (λ left. IsSomeAnd after (λ later. TakesLine old new (old.unread ++ left) (new.unread ++ later)))

  -- None is found: the run is stopped.
  pub turn_stopped : (before after : Option (List ℕ)) (ended : Ended) → StandsAt before
      → Advances before after (Err ended)
      → IsStopped may w run (ending_of ended) start now.moments held_start held
  turn_stopped None after ended at advanced = absurd at
  turn_stopped (Some left) None ended at advanced = absurd (advanced left refl)
  turn_stopped (Some left) (Some later) ended at advanced =
      advance_stopped may w run script start held_start number found old new left later now held at stand ended
      (advanced left refl)

  -- One is found, which stops it;
  pub turn_stopped_in_line : (before after : Option (List ℕ)) (more : Bool) (bytes : List ℕ) (now_b : BothMoments)
      (held_b : Option (List ℕ)) (ended : Ended) → StandsAt before → Advances before after (Ok more) → more ≡ true
      → bytes ≡ new.line
      → ((here : Standing) → IsStanding here now
      → IsStoppedByBytes may here number bytes ended now.moments now_b held held_b)
      → IsStopped may w run (ending_of ended) start now_b held_start held_b
  turn_stopped_in_line None after more bytes now_b held_b ended at advanced is same stopped = absurd at
  turn_stopped_in_line (Some left) None more bytes now_b held_b ended at advanced is same stopped =
      absurd (advanced left refl)
  turn_stopped_in_line (Some left) (Some later) false bytes now_b held_b ended at advanced is same stopped = absurd (cc)
  turn_stopped_in_line (Some left) (Some later) true bytes now_b held_b ended at advanced is same stopped =
      line_stopped may w run script start held_start number found old new left later now held at stand now_b held_b
      ended (advanced left refl)
      (subst (λ (l : List ℕ). IsStoppedByBytes may at.here number l ended now.moments now_b held held_b) same
      (stopped at.here at.legs))

  -- or one that is run: the run stands before the next one.
  pub turn_done : (before after : Option (List ℕ)) (more : Bool) (bytes : List ℕ) (now_b : Shown)
      (held_b : Option (List ℕ)) (told found_b : TagsFound) → StandsAt before → Advances before after (Ok more)
      → more ≡ true → bytes ≡ new.line
      → ((here : Standing) → IsStanding here now
      → HasRunBytes may here bytes told now.moments now_b held held_b)
      → finds_fault found_b ≡ (finds_fault found || finds_fault told) → Takes before after
      → IsSomeAnd after (λ later. IsAt may w run script start held_start (number + 1) found_b new later now_b held_b)
  turn_done None after more bytes now_b held_b told found_b at advanced is same ran either takes = absurd at
  turn_done (Some left) None more bytes now_b held_b told found_b at advanced is same ran either takes =
      absurd (advanced left refl)
  turn_done (Some left) (Some later) false bytes now_b held_b told found_b at advanced is same ran either takes =
      absurd (cc)
  turn_done (Some left) (Some later) true bytes now_b held_b told found_b at advanced is same ran either takes =
      line_done may w run script start held_start number found old new left later now held at stand now_b held_b told
      found_b (number + 1) (advanced left refl)
      (subst (λ (l : List ℕ). HasRunBytes may at.here l told now.moments now_b held held_b) same
      (ran at.here at.legs))
      either refl (takes left refl)

  -- The end is found: the close is left.
  pub turn_ended : (before after : Option (List ℕ)) (more : Bool) → StandsAt before → Advances before after (Ok more)
      → more ≡ false → IsAtClose may w run start held_start found now held
  turn_ended None after more at advanced is = absurd at
  turn_ended (Some left) None more at advanced is = absurd (advanced left refl)
  turn_ended (Some left) (Some later) true at advanced is = absurd (cc)
  turn_ended (Some left) (Some later) false at advanced is =
      end_found may w run script start held_start number found old new left later now held at stand (advanced left refl)

  -- What is taken of the script where its line was looked for, and the source has not failed;
  pub turn_read : (before after : Option (List ℕ)) (held_b : Option (List ℕ)) (failed : Type 0) → StandsAt before
      → Takes before after → IsWithin new → HoldsText [] held held_b → (failed → ⊥)
      → HasReadTo run script after held_start held_b failed
  turn_read None after held_b failed at takes within holds fine = absurd at
  turn_read (Some left) None held_b failed at takes within holds fine = absurd (takes left refl)
  turn_read (Some left) (Some later) held_b failed at takes within holds fine =
      line_read may w run script start held_start number found old new left later now held at stand (Some later) held_b
      failed fine (takes left refl) within refl holds

  -- where none is found, whether the source has failed or not;
  pub turn_unread : (before after : Option (List ℕ)) (failed : Type 0) (ended : Ended) → StandsAt before
      → Advances before after (Err ended) → Takes before after → IsWithin new
      → (ended ≢ Endings.Failed outers.Script → failed → ⊥) → HasReadTo run script after held_start held failed
  turn_unread None after failed ended at advanced takes within fine = absurd at
  turn_unread (Some left) None failed ended at advanced takes within fine = absurd (takes left refl)
  turn_unread (Some left) (Some later) failed ended at advanced takes within fine =
      none_read may w run script start held_start number found old new left later now held at stand (Some later) failed
      ended (advanced left refl) (takes left refl) within refl fine

  -- and what a line that stops the run has printed.
  pub turn_held : (before after : Option (List ℕ)) (more : Bool) (bytes : List ℕ) (now_b : BothMoments)
      (held_b : Option (List ℕ)) (ended : Ended) → StandsAt before → Advances before after (Ok more) → more ≡ true
      → bytes ≡ new.line
      → ((here : Standing) → IsStanding here now
      → IsStoppedByBytes may here number bytes ended now.moments now_b held held_b)
      → HoldsText [] held held_b
  turn_held None after more bytes now_b held_b ended at advanced is same stopped = absurd at
  turn_held (Some left) None more bytes now_b held_b ended at advanced is same stopped = absurd (advanced left refl)
  turn_held (Some left) (Some later) false bytes now_b held_b ended at advanced is same stopped = absurd (cc)
  turn_held (Some left) (Some later) true bytes now_b held_b ended at advanced is same stopped =
      line_held may w run script start held_start number found old new left later now held at stand now_b held_b ended
      (advanced left refl)
      (subst (λ (l : List ℕ). IsStoppedByBytes may at.here number l ended now.moments now_b held held_b) same
      (stopped at.here at.legs))

-- ---- the levelling

-- Where it stops the run, nothing of the script is taken.
pub level_unread : (may : Cuts) (w : Standing) (run : MirrorRun) (script : List ℕ) (now after : BothMoments)
    (held held_b : Option (List ℕ)) (left : Option (List ℕ)) (ended : Ended) (failed : Type 0) → left ≡ Some script
    → ((too_long : Bool) (lines : List MirrorLine)
    → IsStopped may w (levelled_run (format_at w) too_long w.m lines) (ending_of ended) now after held held_b)
    → HasReadTo run script left held held_b failed
level_unread may w run script now after held held_b left ended failed told stopped =
    let stops = stopped false [] in
    record {
      done = 0;
      of_run = omega arith;
      printed = record { more = stops.text; is = stops.told };
      front = [];
      line = [];
      ending = [];
      behind = script;
      bytes = refl;
      within = omega arith;
      plain = All-nil (λ (byte : ℕ). byte ≢ 10);
      short = omega arith;
      taken = subst (λ (o : Option (List ℕ)). IsSomeAnd o (λ more. length script ≤ length more + most_piece)) (sym told)
          (omega arith);
      asked = λ rose. told;
      untouched = λ none. told;
    }

-- Nothing taken is no more than any bound.
pub none_taken : (most : ℕ) (left : Option (List ℕ)) → HasTaken most left left
none_taken most left bytes told =
    subst (λ (o : Option (List ℕ)). IsSomeAnd o (λ more. length bytes ≤ length more + most)) (sym told) (omega arith)

-- Where it is made, the run stands before its first line.
pub begins_lines : (may : Cuts) (w : Standing) (run : MirrorRun) (script : List ℕ) (start : BothMoments)
    (held_start : Option (List ℕ)) (now : Shown) (held : Option (List ℕ)) (reader : Reading) (left : Option (List ℕ))
    → left ≡ Some script → reader ≡ record { unread = []; line = []; taken = 0 } → IsMirrorRunOf (format_at w) w.m script run
    → HasMadeStep may w (level_at w) start now held_start held
    → IsSomeAnd left (λ later. IsAt may w run script start held_start 1 Matching reader later now held)
begins_lines may w run script start held_start now held reader left told fresh is_run made =
    subst (λ (o : Option (List ℕ)). IsSomeAnd o (λ later. IsAt may w run script start held_start 1 Matching reader later
    now held)) (sym told) (at_first_line may w run script start held_start now held made is_run reader fresh)
