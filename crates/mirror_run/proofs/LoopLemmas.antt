-- A run of a script on a mirror before its first line, at a line, and at its end.
use Rattle.std.proofs.Common.{Err, ◌≡◌, ◌≢◌, ℕ, suc, ◌+◌, ◌-◌, ◌<◌, ◌≤◌, Bool, true, false, List, [], ◌∷◌, ◌++◌}
use Rattle.std.proofs.Common.{length, take, refl, sym, ◌∙◌, ap, subst, arith, Option, Some, append-nil, append_assoc}
use Rattle.std.proofs.Common.{length-append}
use Rattle.std.specs.Prelude.{◌||◌, ltb}
use Rattle.std.specs.List.{AllZip}
use Rattle.std.specs.Option.{IsSomeAnd}
use Rattle.std.proofs.lemmas.Bool.{le-ltb, lt-ltb}
use Rattle.std.proofs.lemmas.Grind.{flat_map-append}
use Rattle.std.proofs.lemmas.List.Concat.{flat_map-cons}
use Rattle.std.proofs.lemmas.List.Sums.{fold-append}
use Rattle.std.proofs.Math.Seq.{take-append_seam}
use Rattle.device_model.specs.LineFault.{TooLong}
use Rattle.device_model.specs.Refusals.{ByWords}
use Rattle.device_model.specs.ScriptBytes.{most_script}
use Rattle.run_model.specs.Ending.{ByLength, ByLine, Failed, Refused}
use Rattle.run_model.specs.declared.outer.Outer.TheVariants as outers
use Rattle.mirror_model.specs.Mirror.{MirrorChange, MirrorState, with_mirror_change, with_mirror_changes}
use Rattle.mirror_model.specs.Script.{IsMirrorLine, MirrorLine, RefusedWords}
use Rattle.mirror_model.specs.ScriptRun.{IsMirrorRunOf, MirrorRun, MirrorStep, asking_step, levelled_run, mirror_changes_in}
use Rattle.mirror_model.specs.ScriptRun.{mirror_run_from, mirror_texts_of, with_mirror_step}
use Rattle.script_reader.specs.Lines.{FindsEnd, FindsWholeLine}
use Rattle.script_reader.specs.Reading.{BeginsLine, IsWithin, Reading, TakesLine}
use Rattle.script_reader.proofs.LinesLemmas.{is_too_long-script, lines_left-script}
use Rattle.stream_io.specs.Stream.{held_with}
use Rattle.script_text.specs.Found.{finds_fault}
use Rattle.script_text.specs.declared.tags_found.TagsFound.{TagsFound}
use Rattle.script_text.specs.declared.tags_found.TagsFound.TheVariants.{Matching}
use Rattle.command_ending.specs.Ended.{ending_of}
use Rattle.command_ending.specs.declared.ended.Ended.{Ended}
use Rattle.command_ending.specs.declared.ended.Ended.TheVariants as Endings
use Rattle.command_ending.specs.declared.line_refusal.LineRefusal.{LineRefusal}
use Rattle.command_ending.specs.declared.refusal.Refusal.TheVariants as refusals
use Rattle.script_lines.specs.Lines.{HasAdvanced, is_beyond, lines_behind}
use Rattle.command_model.specs.Taken.{HoldsText}
use Rattle.device_model.specs.ScriptBytes.{HasNoNewline, most_piece}
use Rattle.script_lines.proofs.NewlineLemmas.{newlines_in-append, newlines_in-most, newlines_in-none}
use Rattle.command_model.specs.Mirroring.{HasReadTo}
use Rattle.mirror_run.specs.Lines.{HasMadeStep, HasRunBytes, IsStoppedByBytes, level_at, outcome_at}
use Rattle.mirror_run.specs.Running.{IsAt, IsAtClose, IsStopped, Leads, only_close, rest_at}
use Rattle.mirror_run.specs.Standing.{BothMoments, Cuts, Shown, Standing, format_at, standing_behind}
use Rattle.mirror_run.proofs.ReadingLemmas.{line_once}
use Rattle.mirror_run.proofs.RunLemmas.{goes_on}
use Rattle.mirror_run.proofs.StoppingLemmas.{AreLeft, StandLeft, stopped_at_lines, stopped_by_itself, stopped_further}
use Rattle.mirror_run.proofs.StoppingLemmas.{told_further, told_nothing}

-- ---- steps

texts_of-push : (steps : List MirrorStep) (step : MirrorStep)
    → mirror_texts_of (steps ++ step ∷ []) ≡ mirror_texts_of steps ++ step.text
texts_of-push steps step = flat_map-append (λ (s : MirrorStep). s.text) steps (step ∷ [])
    ∙ ap (λ (text : List ℕ). mirror_texts_of steps ++ text)
    (flat_map-cons (λ (s : MirrorStep). s.text) step [] ∙ append-nil step.text)

changes_in-push : (steps : List MirrorStep) (step : MirrorStep)
    → mirror_changes_in (steps ++ step ∷ []) ≡ mirror_changes_in steps ++ step.changes
changes_in-push steps step = flat_map-append (λ (s : MirrorStep). s.changes) steps (step ∷ [])
    ∙ ap (λ (changes : List MirrorChange). mirror_changes_in steps ++ changes)
    (flat_map-cons (λ (s : MirrorStep). s.changes) step [] ∙ append-nil step.changes)

-- The first steps are no more than all.
length-first : (first rest all : List MirrorStep) → all ≡ first ++ rest → length first ≤ length all
length-first first rest all is = omega (arith, ap length is, length-append first rest)

-- Behind one step more a mirror stands behind all of them.
behind_push : (there here : Standing) (steps : List MirrorStep) (step : MirrorStep)
    → here ≡ standing_behind there (mirror_changes_in steps)
    → standing_behind here step.changes ≡ standing_behind there (mirror_changes_in (steps ++ step ∷ []))
behind_push there here steps step is =
    ap (λ (w : Standing). standing_behind w step.changes) is
    ∙ ap (λ (m : MirrorState). record there { m = m })
    (sym (ap (λ (changes : List MirrorChange). with_mirror_changes changes there.m) (changes_in-push steps step)
    ∙ fold-append with_mirror_change there.m (mirror_changes_in steps) step.changes))

-- Nothing is printed.
pub holds_same : {held_before held : Option (List ℕ)} → held ≡ held_before → HoldsText [] held_before held
holds_same {held_before} same = record { more = []; is = same ∙ told_nothing held_before }

module _ (may : Cuts) (there : Standing) (run : MirrorRun) (script : List ℕ) (start : BothMoments)
    (held_start : Option (List ℕ)) where
  -- ---- before the first line

  -- The step of the levelling is made: the run stands before its first line, where nothing is read yet.
  pub at_first_line : (now : Shown) (held : Option (List ℕ)) → HasMadeStep may there (level_at there) start now held_start held
      → IsMirrorRunOf (format_at there) there.m script run → (reader : Reading)
      → reader ≡ record { unread = []; line = []; taken = 0 }
      → IsAt may there run script start held_start 1 Matching reader script now held
  at_first_line now held made is_run reader none =
      subst (λ (r : Reading). IsAt may there run script start held_start 1 Matching r script now held) (sym none) (record {
        here = here;
        legs = made.legs;
        lines = is_run.lines;
        read = subst (λ (l : List (List ℕ)). AllZip IsMirrorLine l is_run.lines)
            (sym (lines_left-script script)) is_run.read;
        leads = λ ending later held_later stopped.
            subst (λ (r : MirrorRun). IsStopped may there r ending start later held_start held_later) (sym split)
            (stopped_further may there (level_at there) start now held_start held made rest ending later held_later stopped);
        passed = record {
          steps = level_at there ∷ [];
          is_split = ap (λ (r : MirrorRun). r.steps) split;
          done = behind_push there there [] (level_at there) refl;
          printed = made.told ∙ ap (λ (text : List ℕ). held_with text held_start)
              (sym (texts_of-push [] (level_at there)));
          front = [];
          bytes = refl;
          within = omega arith;
        };
      })
    where
      here : Standing
      here = standing_behind there (level_at there).changes

      fresh : Reading
      fresh = record { unread = []; line = []; taken = 0 }

      rest : MirrorRun
      rest = rest_at here fresh script 1 Matching is_run.lines

      split : run ≡ with_mirror_step (level_at there) rest
      split = is_run.is
          ∙ ap (λ (b : Bool). levelled_run (format_at there) b there.m is_run.lines) (is_too_long-script script)

  -- ---- at a line

  -- A run stands before some lines that are read as these.
  record StandsBefore (here : Standing) (beyond : Bool) (number : ℕ) (found : TagsFound) (bytes : List (List ℕ))
      (now : BothMoments) (held : Option (List ℕ)) (steps : List MirrorStep) : Type 0 where
    pub lines : List MirrorLine
    pub read : AllZip IsMirrorLine bytes lines
    pub is_split : run.steps
        ≡ steps ++ (mirror_run_from (format_at here) beyond number here.m (finds_fault found) lines).steps
    pub leads : Leads may here (mirror_run_from (format_at here) beyond number here.m (finds_fault found) lines) now held
        there run start held_start

  -- Behind its first line, which was run, it stands before the others.
  behind_line : (here : Standing) (beyond : Bool) (number : ℕ) (found told found_b : TagsFound) (bytes : List ℕ)
      (others : List (List ℕ)) (now : BothMoments) (later : Shown) (held held_b : Option (List ℕ))
      (ran : HasRunBytes may here bytes told now later held held_b)
      → finds_fault found_b ≡ (finds_fault found || finds_fault told) → (lines : List MirrorLine)
      → AllZip IsMirrorLine (bytes ∷ others) lines
      → Leads may here (mirror_run_from (format_at here) beyond number here.m (finds_fault found) lines) now held
      there run start held_start
      → (steps : List MirrorStep)
      → run.steps ≡ steps ++ (mirror_run_from (format_at here) beyond number here.m (finds_fault found) lines).steps
      → StandsBefore (standing_behind here (outcome_at here ran.line).changes) beyond (suc number) found_b others
      later.moments held_b (steps ++ asking_step (outcome_at here ran.line) ∷ [])
  behind_line here beyond number found told found_b bytes others now later held held_b ran either [] read leads steps
      is_split =
      absurd read
  behind_line here beyond number found told found_b bytes others now later held held_b ran either (first ∷ lines) read
      leads steps is_split =
      let f = format_at here in
      let outcome = outcome_at here ran.line in
      let means : first ≡ ran.line = line_once bytes first ran.line read.0 ran.read in
      let next = standing_behind here outcome.changes in
      let rest = mirror_run_from f beyond (suc number) next.m (finds_fault found || outcome.finds_fault) lines in
      let one : MirrorStep = asking_step outcome in
      let split : mirror_run_from f beyond number here.m (finds_fault found) (first ∷ lines)
      ≡ with_mirror_step one rest =
      ap (λ (l : MirrorLine). mirror_run_from f beyond number here.m (finds_fault found) (l ∷ lines)) means
      ∙ goes_on f beyond number here.m (finds_fault found) ran.line lines ran.runnable in
      let same : finds_fault found_b ≡ (finds_fault found || outcome.finds_fault) =
      either ∙ ap (λ (b : Bool). finds_fault found || b) ran.found_ in
      record {
        lines = lines;
        read = read.1;
        is_split =
            is_split ∙ ap (λ (r : MirrorRun). steps ++ r.steps) split
            ∙ sym (append_assoc steps (one ∷ []) rest.steps)
            ∙ ap (λ (b : Bool). (steps ++ one ∷ []) ++ (mirror_run_from f beyond (suc number) next.m b lines).steps)
            (sym same);
        leads = λ ending last held_last stopped.
            leads ending last held_last
            (subst (λ (r : MirrorRun). IsStopped may here r ending now last held held_last) (sym split)
            (stopped_further may here one now later held held_b ran.step rest ending last held_last
            (subst (λ (b : Bool). IsStopped may next (mirror_run_from f beyond (suc number) next.m b lines) ending
            later.moments last held_b held_last) same stopped)));
      }

  -- What stops it with its first line stops the whole run.
  stopped_line : (here : Standing) (beyond : Bool) (number : ℕ) (found : TagsFound) (bytes : List ℕ)
      (others : List (List ℕ)) (now later : BothMoments) (held held_b : Option (List ℕ)) (ended : Ended)
      → IsStoppedByBytes may here number bytes ended now later held held_b → (lines : List MirrorLine)
      → AllZip IsMirrorLine (bytes ∷ others) lines
      → Leads may here (mirror_run_from (format_at here) beyond number here.m (finds_fault found) lines) now held
      there run start held_start → IsStopped may there run (ending_of ended) start later held_start held_b
  stopped_line here beyond number found bytes others now later held held_b ended stopped [] read leads = absurd read
  stopped_line here beyond number found bytes others now later held held_b ended stopped (first ∷ lines) read leads =
      leads (ending_of ended) later held_b (stopped beyond (finds_fault found) first lines read.0)

  -- So does a line that is too long.
  long_line : (here : Standing) (now : BothMoments) → AreLeft may here now
      → (beyond : Bool) (number : ℕ) (found : TagsFound) (bytes : List ℕ) (others : List (List ℕ))
      (held : Option (List ℕ)) → IsMirrorLine bytes (RefusedWords TooLong) → (lines : List MirrorLine)
      → AllZip IsMirrorLine (bytes ∷ others) lines
      → Leads may here (mirror_run_from (format_at here) beyond number here.m (finds_fault found) lines) now held
      there run start held_start
      → IsStopped may there run (Refused (ByLine number (ByWords TooLong))) start now held_start held
  long_line here now left beyond number found bytes others held long [] read leads = absurd read
  long_line here now left beyond number found bytes others held long (first ∷ lines) read leads =
      leads (Refused (ByLine number (ByWords TooLong))) now held
      (stopped_by_itself may here now left _ (Refused (ByLine number (ByWords TooLong))) held
      (ap (λ (l : MirrorLine). mirror_run_from (format_at here) beyond number here.m (finds_fault found) (l ∷ lines))
      (line_once bytes first (RefusedWords TooLong) read.0 long)))

  -- A script that is too long ends where no line is left.
  long_script : (here : Standing) (now : BothMoments) → AreLeft may here now
      → (beyond : Bool) → beyond ≡ true → (number : ℕ) (found : TagsFound) (held : Option (List ℕ))
      (lines : List MirrorLine) → AllZip IsMirrorLine [] lines
      → Leads may here (mirror_run_from (format_at here) beyond number here.m (finds_fault found) lines) now held
      there run start held_start → IsStopped may there run (Refused ByLength) start now held_start held
  long_script here now left beyond long number found held [] read leads =
      leads (Refused ByLength) now held
      (stopped_by_itself may here now left _ (Refused ByLength) held
      (ap (λ (b : Bool). mirror_run_from (format_at here) b number here.m (finds_fault found) []) long))
  long_script here now left beyond long number found held (first ∷ lines) read leads = absurd read

  -- Where no line is left of another script the close is.
  record IsOnlyClose (here : Standing) (found : TagsFound) (now : BothMoments) (held : Option (List ℕ))
      (steps : List MirrorStep) : Type 0 where
    pub leads : Leads may here (only_close found) now held there run start held_start
    pub is_split : run.steps ≡ steps ++ (only_close found).steps

  no_line : (here : Standing) (now : BothMoments) (beyond : Bool) → beyond ≡ false
      → (number : ℕ) (found : TagsFound) (held : Option (List ℕ)) (steps : List MirrorStep) (lines : List MirrorLine)
      → AllZip IsMirrorLine [] lines
      → Leads may here (mirror_run_from (format_at here) beyond number here.m (finds_fault found) lines) now held
      there run start held_start
      → run.steps ≡ steps ++ (mirror_run_from (format_at here) beyond number here.m (finds_fault found) lines).steps
      → IsOnlyClose here found now held steps
  no_line here now beyond short number found held steps [] read leads is_split =
      let closes : mirror_run_from (format_at here) beyond number here.m (finds_fault found) [] ≡ only_close found =
      ap (λ (b : Bool). mirror_run_from (format_at here) b number here.m (finds_fault found) []) short in
      record {
        leads = subst (λ (r : MirrorRun). Leads may here r now held there run start held_start) closes leads;
        is_split = is_split ∙ ap (λ (r : MirrorRun). steps ++ r.steps) closes;
      }
  no_line here now beyond short number found held steps (first ∷ lines) read leads is_split = absurd read

  -- ---- for callers

  module _ (number : ℕ) (found : TagsFound) (old new : Reading) (left later : List ℕ) (now : Shown)
      (held : Option (List ℕ)) (at : IsAt may there run script start held_start number found old left now held)
      (stand : StandLeft may now) where
    left_here : AreLeft may at.here now.moments
    left_here = stand at.here at.legs

    -- A line is found and run: the run stands before the next one.
    pub line_done : (now_b : Shown) (held_b : Option (List ℕ)) (told found_b : TagsFound) (number_b : ℕ)
        → FindsWholeLine old new (old.unread ++ left) (new.unread ++ later)
        → HasRunBytes may at.here new.line told now.moments now_b held held_b
        → finds_fault found_b ≡ (finds_fault found || finds_fault told) → number_b ≡ number + 1
        → TakesLine old new (old.unread ++ left) (new.unread ++ later)
        → IsAt may there run script start held_start number_b found_b new later now_b held_b
    line_done now_b held_b told found_b number_b finds ran either next takes =
        let same : is_beyond old left ≡ is_beyond new later = ap (ltb most_script) (sym finds.counted) in
        let is_next : suc number ≡ number_b = omega (arith, next) in
        let behind = behind_line at.here (is_beyond old left) number found told found_b new.line
        (lines_behind new later) now.moments now_b held held_b ran either at.lines
        (subst (λ (l : List (List ℕ)). AllZip IsMirrorLine l at.lines) finds.next at.read) at.leads
        at.passed.steps at.passed.is_split in
        let here = standing_behind at.here (outcome_at at.here ran.line).changes in
        let before = at.passed in
        let one : MirrorStep = asking_step (outcome_at at.here ran.line) in
        let within = before.within in
        let ending = newlines_in-most takes.ending in
        let short = takes.short in
        record {
          here = here;
          legs = ran.step.legs;
          lines = behind.lines;
          read = behind.read;
          leads = subst (λ (n : ℕ). Leads may here (rest_at here new later n found_b behind.lines) now_b.moments held_b
              there run start held_start) is_next
              (subst (λ (b : Bool). Leads may here
              (mirror_run_from (format_at here) b (suc number) here.m (finds_fault found_b) behind.lines) now_b.moments
              held_b there run start held_start) same behind.leads);
          passed = record {
            steps = before.steps ++ one ∷ [];
            is_split = behind.is_split
                ∙ ap (λ (b : Bool). (before.steps ++ one ∷ [])
                ++ (mirror_run_from (format_at here) b (suc number) here.m (finds_fault found_b) behind.lines).steps) same
                ∙ ap (λ (n : ℕ). (before.steps ++ one ∷ [])
                ++ (rest_at here new later n found_b behind.lines).steps) is_next;
            done = behind_push there at.here before.steps one before.done;
            printed = ran.step.told ∙ ap (held_with one.text) before.printed
                ∙ told_further (mirror_texts_of before.steps) one.text held_start
                ∙ ap (λ (text : List ℕ). held_with text held_start) (sym (texts_of-push before.steps one));
            front = before.front ++ (new.line ++ takes.ending);
            bytes = before.bytes ∙ ap (λ (l : List ℕ). before.front ++ l)
                (takes.bytes ∙ sym (append_assoc new.line takes.ending (new.unread ++ later)))
                ∙ sym (append_assoc before.front (new.line ++ takes.ending) (new.unread ++ later));
            within = omega (
              arith,
              within,
              ending,
              short,
              newlines_in-append before.front (new.line ++ takes.ending),
              newlines_in-append new.line takes.ending,
              newlines_in-none new.line takes.plain,
              length-append before.steps (one ∷ []),
            );
          };
        }

    -- This is taken of its line and behind that, the text of all lines before it being printed.
    read_to : (line ending behind : List ℕ) (after : Option (List ℕ)) (held_b : Option (List ℕ)) (failed : Type 0)
        → old.unread ++ left ≡ line ++ (ending ++ behind) → HasNoNewline line → length ending ≤ 1
        → IsSomeAnd after (λ more. length behind ≤ length more + most_piece)
        → (failed → after ≡ Some (ending ++ behind))
        → HoldsText [] held held_b → HasReadTo run script after held_start held_b failed
    read_to line ending behind after held_b failed bytes plain short taken asked holds =
        let passed = at.passed in
        let within = passed.within in
        let steps_is : take (length passed.steps) run.steps ≡ passed.steps =
        ap (take (length passed.steps)) passed.is_split ∙ take-append_seam passed.steps _ in
        record {
          done = length passed.steps;
          of_run = length-first passed.steps _ run.steps passed.is_split;
          printed = record {
            more = holds.more;
            is = holds.is ∙ ap (held_with holds.more) passed.printed
                ∙ told_further (mirror_texts_of passed.steps) holds.more held_start
                ∙ ap (λ (steps : List MirrorStep). held_with (mirror_texts_of steps ++ holds.more) held_start)
                (sym steps_is);
          };
          front = passed.front;
          line = line;
          ending = ending;
          behind = behind;
          bytes = passed.bytes ∙ ap (λ (l : List ℕ). passed.front ++ l) bytes;
          within = omega (arith, within);
          plain = plain;
          short = short;
          taken = taken;
          asked = asked;
          untouched = λ none. absurd (omega (arith, within, none));
        }

    -- The bytes that are taken when its line was looked for.
    pub line_read : (after : Option (List ℕ)) (held_b : Option (List ℕ)) (failed : Type 0) → (failed → ⊥)
        → TakesLine old new (old.unread ++ left) (new.unread ++ later) → IsWithin new → after ≡ Some later
        → HoldsText [] held held_b → HasReadTo run script after held_start held_b failed
    line_read after held_b failed fine takes within told holds =
        let ahead = within.ahead in
        read_to new.line takes.ending (new.unread ++ later) after held_b failed takes.bytes takes.plain takes.short
        (subst (λ (o : Option (List ℕ)). IsSomeAnd o (λ more. length (new.unread ++ later) ≤ length more + most_piece))
        (sym told) (omega (arith, ahead, length-append new.unread later)))
        (λ rose. absurd (fine rose)) holds

    -- Where the source failed, a line has begun at most, and no byte behind that is read.
    line_begun : (after : Option (List ℕ)) (failed : Type 0) → BeginsLine old new (old.unread ++ left) later
        → after ≡ Some later → HasReadTo run script after held_start held failed
    line_begun after failed begins told =
        read_to new.line [] later after held failed begins.bytes begins.plain (omega arith)
        (subst (λ (o : Option (List ℕ)). IsSomeAnd o (λ more. length later ≤ length more + most_piece)) (sym told)
        (omega arith)) (λ rose. told) (holds_same refl)

    -- What is taken where no line is found.
    pub none_read : (after : Option (List ℕ)) (failed : Type 0) (ended : Ended)
        → HasAdvanced number old new left later (Err ended)
        → TakesLine old new (old.unread ++ left) (new.unread ++ later) → IsWithin new → after ≡ Some later
        → (ended ≢ Endings.Failed outers.Script → failed → ⊥) → HasReadTo run script after held_start held failed
    none_read after failed (Endings.Refused (refusals.Line n refusal)) advanced takes within told fine =
        line_read after held failed
        (fine (λ (is : (Endings.Refused (refusals.Line n refusal)) ≡ Endings.Failed outers.Script). absurd (cc)))
        takes within told (holds_same refl)
    none_read after failed (Endings.Refused refusals.Length) advanced takes within told fine =
        line_read after held failed
        (fine (λ (is : (Endings.Refused refusals.Length) ≡ Endings.Failed outers.Script). absurd (cc)))
        takes within told (holds_same refl)
    none_read after failed (Endings.Refused refusals.Words) (is, begins) takes within told fine =
        line_begun after failed begins told
    none_read after failed (Endings.Refused (refusals.Key refusal)) (is, begins) takes within told fine =
        line_begun after failed begins told
    none_read after failed (Endings.Refused (refusals.Image fault)) (is, begins) takes within told fine =
        line_begun after failed begins told
    none_read after failed (Endings.Refused (refusals.Second fault)) (is, begins) takes within told fine =
        line_begun after failed begins told
    none_read after failed (Endings.Refused (refusals.Legs a_blocks a_size b_blocks b_size)) (is, begins) takes within
        told fine =
        line_begun after failed begins told
    none_read after failed (Endings.Failed outer) (is, begins) takes within told fine = line_begun after failed begins told
    none_read after failed Endings.Memory (is, begins) takes within told fine = line_begun after failed begins told

    -- A line is found and stops the run.
    pub line_stopped : (now_b : BothMoments) (held_b : Option (List ℕ)) (ended : Ended)
        → FindsWholeLine old new (old.unread ++ left) (new.unread ++ later)
        → IsStoppedByBytes may at.here number new.line ended now.moments now_b held held_b
        → IsStopped may there run (ending_of ended) start now_b held_start held_b
    line_stopped now_b held_b ended finds stopped =
        stopped_line at.here (is_beyond old left) number found new.line
        (lines_behind new later) now.moments now_b held held_b ended
        stopped at.lines (subst (λ (l : List (List ℕ)). AllZip IsMirrorLine l at.lines) finds.next at.read) at.leads

    -- What it has printed then stands behind what the sink held.
    pub line_held : (now_b : BothMoments) (held_b : Option (List ℕ)) (ended : Ended)
        → FindsWholeLine old new (old.unread ++ left) (new.unread ++ later)
        → IsStoppedByBytes may at.here number new.line ended now.moments now_b held held_b → HoldsText [] held held_b
    line_held now_b held_b ended finds stopped =
        by at.lines (subst (λ (l : List (List ℕ)). AllZip IsMirrorLine l at.lines) finds.next at.read)
      where
        by : (lines : List MirrorLine) → AllZip IsMirrorLine (new.line ∷ lines_behind new later) lines
            → HoldsText [] held held_b
        by [] read = absurd read
        by (first ∷ lines) read =
            let stops = stopped (is_beyond old left) (finds_fault found) first lines read.0 in
            record { more = stops.text; is = stops.told }

    -- The end is found: the close is left.
    pub end_found : FindsEnd old new (old.unread ++ left) (new.unread ++ later)
        → IsAtClose may there run start held_start found now held
    end_found finds =
        let closes = no_line at.here now.moments (is_beyond old left)
        (at_most_is (old.taken + length (old.unread ++ left)) finds.within)
        number found held at.passed.steps at.lines
        (subst (λ (l : List (List ℕ)). AllZip IsMirrorLine l at.lines) finds.none at.read) at.leads at.passed.is_split in
        record {
          here = at.here;
          legs = at.legs;
          leads = closes.leads;
          steps = at.passed.steps;
          is_split = closes.is_split;
          done = at.passed.done;
        }
      where
        at_most_is : (n : ℕ) → n ≤ most_script → ltb most_script n ≡ false
        at_most_is n within = le-ltb most_script n within

    source_failed : (ended : Ended) → ended ≡ Endings.Failed outers.Script
        → IsStopped may there run (ending_of ended) start now.moments held_start held
    source_failed ended is =
        subst (λ (e : Ended). IsStopped may there run (ending_of e) start now.moments held_start held) (sym is)
        (at.leads (Failed outers.Script) now.moments held
        (stopped_at_lines may at.here now.moments left_here (Failed outers.Script) held tt
        (is_beyond old left) number (finds_fault found) at.lines))

    -- What else is found stops the run.
    pub advance_stopped : (ended : Ended) → HasAdvanced number old new left later (Err ended)
        → IsStopped may there run (ending_of ended) start now.moments held_start held
    advance_stopped (Endings.Refused (refusals.Line n refusal)) (same, form, finds) =
        subst (λ (n : ℕ). IsStopped may there run (ending_of (Endings.Refused (refusals.Line n refusal))) start
        now.moments held_start held)
        (sym same)
        (subst (λ (r : LineRefusal). IsStopped may there run
        (ending_of (Endings.Refused (refusals.Line number r))) start now.moments held_start held)
        (sym form)
        (long_line at.here now.moments left_here (is_beyond old left) number found finds.bytes finds.others held finds.long
        at.lines (subst (λ (l : List (List ℕ)). AllZip IsMirrorLine l at.lines) finds.next at.read) at.leads))
    advance_stopped (Endings.Refused refusals.Length) finds =
        long_script at.here now.moments left_here (is_beyond old left)
        (beyond_is (old.taken + length (old.unread ++ left)) finds.beyond) number found held
        at.lines (subst (λ (l : List (List ℕ)). AllZip IsMirrorLine l at.lines) finds.none at.read) at.leads
      where
        beyond_is : (n : ℕ) → most_script < n → ltb most_script n ≡ true
        beyond_is n beyond = lt-ltb most_script n beyond
    advance_stopped (Endings.Refused refusals.Words) (is, begins) = source_failed (Endings.Refused refusals.Words) is
    advance_stopped (Endings.Refused (refusals.Key refusal)) (is, begins) =
        source_failed (Endings.Refused (refusals.Key refusal)) is
    advance_stopped (Endings.Refused (refusals.Image fault)) (is, begins) =
        source_failed (Endings.Refused (refusals.Image fault)) is
    advance_stopped (Endings.Refused (refusals.Second fault)) (is, begins) =
        source_failed (Endings.Refused (refusals.Second fault)) is
    advance_stopped (Endings.Refused (refusals.Legs a_blocks a_size b_blocks b_size)) (is, begins) =
        source_failed (Endings.Refused (refusals.Legs a_blocks a_size b_blocks b_size)) is
    advance_stopped (Endings.Failed outer) (is, begins) = source_failed (Endings.Failed outer) is
    advance_stopped Endings.Memory (is, begins) = source_failed Endings.Memory is
