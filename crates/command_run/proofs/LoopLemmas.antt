-- A run of a script before its next line, behind that, and at its end.
use Rattle.std.proofs.Common.{Result, Ok, Err, map, ◌≡◌, ℕ, suc, ◌+◌, ◌<◌, ◌≤◌, Bool, true, false, List, [], ◌≢◌, ◌==◌, if◌then◌else◌, ne_eqb, ◌∷◌, ◌++◌, length, take, refl, sym, ◌∙◌, ap, subst, arith, Option, Some, None, append-nil, append_assoc, length-append}
use Rattle.std.specs.Prelude.{◌||◌, ltb}
use Rattle.std.specs.List.{AllZip}
use Rattle.std.specs.Option.{ForSome, IsSomeAnd}
use Rattle.std.proofs.lemmas.Bool.{le-ltb, lt-ltb}
use Rattle.std.proofs.lemmas.Grind.{flat_map-append}
use Rattle.std.proofs.lemmas.List.Concat.{flat_map-cons}
use Rattle.std.proofs.lemmas.List.Elements.{All-head, All-tail}
use Rattle.std.proofs.Math.Seq.{take-append_seam}
use Rattle.disk_model.specs.Causes.{Rose}
use Rattle.disk_model.specs.Disk.{Content}
use Rattle.device_model.specs.Refusals.{ByWords}
use Rattle.run_model.specs.Ending.{Failed, ByLine, ByLength}
use Rattle.run_model.specs.Ending as endings
use Rattle.device_model.specs.Grammar.{ReadLine, Means, Refused, IsReadAs}
use Rattle.device_model.specs.LineFault.{TooLong}
use Rattle.device_model.specs.Script.{line_outcome}
use Rattle.device_model.specs.ScriptBytes.{most_script, HasNoNewline, most_piece}
use Rattle.run_model.specs.ScriptRun.{IsRunOf, ScriptRun, ScriptStep, line_step, run_from, texts_of, with_step}
use Rattle.device_model.proofs.UniqueReading.{read_once}
use Rattle.run_laws.proofs.ScriptRunLemmas.{run_is_split}
use Rattle.script_reader.specs.Lines.{FindsEnd, FindsWholeLine}
use Rattle.script_reader.specs.Reading.{BeginsLine, IsWithin, Reading, TakesLine}
use Rattle.script_reader.proofs.LinesLemmas.{is_too_long-script, lines_left-script}
use Rattle.device_parts.specs.declared.condition.Condition.TheVariants as Conditions
use Rattle.device.specs.declared.mode.DeviceParts.{DeviceParts}
use Rattle.device.specs.Device.{IsDevice}
use Rattle.device_parts.specs.Device.{Standing}
use Rattle.device.specs.Run.{standing_behind}
use Rattle.script_text.specs.declared.tags_found.TagsFound.{TagsFound}
use Rattle.script_text.specs.declared.tags_found.TagsFound.TheVariants.{Matching}
use Rattle.request_slots.specs.Flight.{Flight, ask_of}
use Rattle.script_session.specs.declared.tickets.Tickets.{Tickets}
use Rattle.script_session.specs.Tickets.{AreInFlight, ask_by}
use Rattle.script_session.specs.LineRun.{events_of}
use Rattle.stream_io.specs.Stream.{held_with}
use Rattle.script_text.specs.Found.{finds_fault}
use Rattle.command_ending.specs.Ended.{ending_of}
use Rattle.command_ending.specs.declared.ended.Ended.{Ended}
use Rattle.command_ending.specs.declared.ended.Ended.TheVariants as Endings
use Rattle.command_ending.specs.declared.line_refusal.LineRefusal.{LineRefusal}
use Rattle.command_task.specs.Closed.{ComesTo}
use Rattle.command_model.specs.Closed.{state_behind}
use Rattle.command_run.specs.Lines.{HasRunBytes, IsStoppedByBytes}
use Rattle.script_lines.specs.Lines.{HasAdvanced, is_beyond, lines_behind}
use Rattle.command_model.specs.Running.{HasReadTo}
use Rattle.command_model.specs.Taken.{HoldsText}
use Rattle.script_lines.specs.Ends.{HasEndCause}
use Rattle.command_run.specs.Stopping.{IsAt, IsAtClose, IsStopped, Leads, only_close}
use Rattle.command_run.proofs.StoppingLemmas.{stopped_at_lines, stopped_by_itself, stopped_further}
use Rattle.command_task.proofs.RunningLemmas.{told_further, told_nothing}
use Rattle.run_model.specs.declared.outer.Outer.TheVariants as outers
use Rattle.command_ending.specs.declared.refusal.Refusal.TheVariants as refusals
use Rattle.script_lines.proofs.NewlineLemmas.{newlines_in-append, newlines_in-none, newlines_in-most}

-- ---- lines and steps

texts_of-push : (steps : List ScriptStep) (step : ScriptStep)
    → texts_of (steps ++ step ∷ []) ≡ texts_of steps ++ step.text
texts_of-push steps step = flat_map-append (λ (s : ScriptStep). s.text) steps (step ∷ [])
    ∙ ap (λ (text : List ℕ). texts_of steps ++ text)
    (flat_map-cons (λ (s : ScriptStep). s.text) step [] ∙ append-nil step.text)

-- The first steps are no more than all.
length-first : (first rest all : List ScriptStep) → all ≡ first ++ rest → length first ≤ length all
length-first first rest all is = omega (arith, ap length is, length-append first rest)

-- Nothing is printed.
pub holds_same : {held_before held : Option (List ℕ)} → held ≡ held_before → HoldsText [] held_before held
holds_same {held_before} same = record { more = []; is = same ∙ told_nothing held_before }

-- ---- at the start

-- A run that is told by what it is leads to itself.
leads_at_start : (w : Standing) (run other : ScriptRun) (a : List Content) (held : Option (List ℕ)) → run
    ≡ other
    → Leads w other a held w run a held
leads_at_start w run other a held is ending later held_later stopped =
    subst (λ (r : ScriptRun). IsStopped w r ending a later held held_later) (sym is) stopped

-- A run stands before its first line where nothing is read yet.
pub at_start : (w : Standing) (parts : DeviceParts) (a : List Content) (held : Option (List ℕ)) (script : List ℕ)
    (run : ScriptRun)
    (reader : Reading) (left : Option (List ℕ)) → IsDevice w Conditions.Working parts a → left ≡ Some script
    → IsRunOf w.format w.state script run → reader ≡ record { unread = []; line = []; taken = 0 }
    → IsSomeAnd left (λ later. IsAt w run script a held 1 Matching reader later parts a held)
at_start w parts a held script run reader left is told is_run none =
    subst (λ (o : Option (List ℕ)). IsSomeAnd o
    (λ later. IsAt w run script a held 1 Matching reader later parts a held)) (sym told)
    (subst (λ (r : Reading). IsAt w run script a held 1 Matching r script parts a held) (sym none) (record {
      here = w;
      device = is;
      lines = is_run.lines;
      read = subst (λ (l : List (List ℕ)). AllZip IsReadAs l is_run.lines)
          (sym (lines_left-script script)) is_run.read;
      leads = leads_at_start w run _ a held is_split;
      passed = record {
        steps = [];
        is_split = ap (λ (r : ScriptRun). r.steps) is_split;
        printed = told_nothing held;
        front = [];
        bytes = refl;
        within = omega arith;
      };
      comes = record { all = is_run.lines; read = is_run.read; same = refl; comes = refl };
    }))
  where
    is_split : run ≡ run_from w.format (is_beyond (record { unread = []; line = []; taken = 0 }) script) 1 w.state
        (finds_fault Matching) is_run.lines
    is_split = is_run.is
        ∙ ap (λ (b : Bool). run_from w.format b 1 w.state false is_run.lines) (is_too_long-script script)

-- ---- at a line

module _ (there : Standing) (run : ScriptRun) (start : List Content) (held_start : Option (List ℕ)) where
  -- A run stands before some lines that are read as these.
  record StandsBefore (script : List ℕ) (here : Standing) (beyond : Bool) (number : ℕ) (found : TagsFound)
      (bytes : List (List ℕ)) (now : List Content) (held : Option (List ℕ)) (steps : List ScriptStep) : Type 0 where
    pub lines : List ReadLine
    pub read : AllZip IsReadAs bytes lines
    pub is_split : run.steps ≡ steps ++ (run_from here.format beyond number here.state (finds_fault found) lines).steps
    pub leads : Leads here (run_from here.format beyond number here.state (finds_fault found) lines) now held
        there run start held_start
    pub comes : ComesTo there script here lines

  -- Behind its first line, which was run, it stands before the others.
  behind_line : (here : Standing) (beyond : Bool) (number : ℕ) (found told found_b : TagsFound) (bytes : List ℕ)
      (others : List (List ℕ)) (parts : DeviceParts) (now later : List Content) (held held_b : Option (List ℕ))
      (ran : HasRunBytes here bytes told parts now later held held_b)
      → finds_fault found_b ≡ (finds_fault found || finds_fault told) → (lines : List ReadLine)
      → AllZip IsReadAs (bytes ∷ others) lines
      → Leads here (run_from here.format beyond number here.state (finds_fault found) lines) now held
      there run start held_start
      → (steps : List ScriptStep)
      → run.steps ≡ steps ++ (run_from here.format beyond number here.state (finds_fault found) lines).steps
      → (script : List ℕ) → ComesTo there script here lines
      → StandsBefore script (standing_behind here (events_of here ran.line)) beyond
      (suc number) found_b others
      later held_b (steps ++ line_step (line_outcome here.format here.state ran.line) ∷ [])
  behind_line here beyond number found told found_b bytes others parts now later held held_b ran either [] read
      leads steps is_split script comes =
      absurd read
  behind_line here beyond number found told found_b bytes others parts now later held held_b ran either
      (first ∷ lines) read leads steps is_split script comes =
      let f = here.format in
      let s = here.state in
      let outcome = line_outcome f s ran.line in
      let means : first ≡ Means ran.line = read_once bytes first (Means ran.line) read.0 ran.read in
      let rest = run_from f beyond (suc number) outcome.after
      (finds_fault found || outcome.finds_fault) lines in
      let split : run_from f beyond number s (finds_fault found) (first ∷ lines)
      ≡ with_step (line_step outcome) rest =
      ap (λ (r : ReadLine). run_from f beyond number s (finds_fault found) (r ∷ lines)) means
      ∙ (run_is_split f number s (finds_fault found)).goes_on beyond ran.line lines ran.run.runnable in
      let same : finds_fault found_b ≡ (finds_fault found || outcome.finds_fault) =
      either ∙ ap (λ (b : Bool). finds_fault found || b) ran.run.found_ in
      let next = standing_behind here (events_of here ran.line) in
      let one : ScriptStep = line_step outcome in
      record {
        lines = lines;
        read = read.1;
        is_split =
            is_split ∙ ap (λ (r : ScriptRun). steps ++ r.steps) split
            ∙ sym (append_assoc steps (one ∷ []) rest.steps)
            ∙ ap (λ (b : Bool). (steps ++ one ∷ []) ++ (run_from f beyond (suc number) outcome.after b lines).steps)
            (sym same);
        leads = λ ending last held_last stopped.
            leads ending last held_last
            (subst (λ (r : ScriptRun). IsStopped here r ending now last held held_last) (sym split)
            (stopped_further here ran.line told parts now later held held_b ran.run rest ending last held_last
            (subst (λ (b : Bool). IsStopped next
            (run_from f beyond (suc number) outcome.after b lines) ending later last
            held_b held_last) same stopped)));
        comes = record {
          all = comes.all;
          read = comes.read;
          same = ap (λ (w : Standing). record w { state = outcome.after }) comes.same;
          comes =
              ap (λ (w : Standing). state_behind there.format (line_outcome w.format s ran.line).after lines) comes.same
              ∙ ap (λ (r : ReadLine). state_behind there.format s (r ∷ lines)) (sym means) ∙ comes.comes;
        };
      }

  -- Where no line is left it has come there.
  comes_at_end : (script : List ℕ) (here : Standing) (lines : List ReadLine) → AllZip IsReadAs [] lines
      → ComesTo there script here lines → ComesTo there script here []
  comes_at_end script here [] read comes = comes
  comes_at_end script here (first ∷ lines) read comes = absurd read

  -- What stops it with its first line stops the whole run.
  stopped_line : (here : Standing) (beyond : Bool) (number : ℕ) (found : TagsFound) (bytes : List ℕ)
      (others : List (List ℕ)) (now later : List Content) (held held_b : Option (List ℕ)) (ended : Ended)
      → IsStoppedByBytes here number bytes ended now later held held_b → (lines : List ReadLine)
      → AllZip IsReadAs (bytes ∷ others) lines
      → Leads here (run_from here.format beyond number here.state (finds_fault found) lines) now held
      there run start held_start → IsStopped there run (ending_of ended) start later held_start held_b
  stopped_line here beyond number found bytes others now later held held_b ended stopped [] read leads = absurd
      read
  stopped_line here beyond number found bytes others now later held held_b ended stopped
      (first ∷ lines) read leads =
      leads (ending_of ended) later held_b (stopped beyond (finds_fault found) first lines read.0)

  -- So does a line that is too long.
  long_line : (here : Standing) (parts : DeviceParts) (now : List Content)
      → IsDevice here Conditions.Working parts now
      → (beyond : Bool) (number : ℕ) (found : TagsFound) (bytes : List ℕ) (others : List (List ℕ))
      (held : Option (List ℕ)) → IsReadAs bytes (Refused TooLong) → (lines : List ReadLine)
      → AllZip IsReadAs (bytes ∷ others) lines
      → Leads here (run_from here.format beyond number here.state (finds_fault found) lines) now held
      there run start held_start
      → IsStopped there run (endings.Refused (ByLine number (ByWords TooLong))) start now held_start held
  long_line here parts now is beyond number found bytes others held long [] read leads = absurd read
  long_line here parts now is beyond number found bytes others held long (first ∷ lines) read leads =
      leads (endings.Refused (ByLine number (ByWords TooLong))) now held
      (stopped_by_itself here Conditions.Working parts now is _ (endings.Refused (ByLine number (ByWords TooLong))) held
      (ap (λ (r : ReadLine). run_from here.format beyond number here.state (finds_fault found) (r ∷ lines))
      (read_once bytes first (Refused TooLong) read.0 long)))

  -- A script that is too long ends where no line is left.
  long_script : (here : Standing) (parts : DeviceParts) (now : List Content)
      → IsDevice here Conditions.Working parts now
      → (beyond : Bool) → beyond ≡ true → (number : ℕ) (found : TagsFound) (held : Option (List ℕ))
      (lines : List ReadLine) → AllZip IsReadAs [] lines
      → Leads here (run_from here.format beyond number here.state (finds_fault found) lines) now held
      there run start held_start → IsStopped there run (endings.Refused ByLength) start now held_start held
  long_script here parts now is beyond long number found held [] read leads =
      leads (endings.Refused ByLength) now held
      (stopped_by_itself here Conditions.Working parts now is _ (endings.Refused ByLength) held
      (ap (λ (b : Bool). run_from here.format b number here.state (finds_fault found) []) long))
  long_script here parts now is beyond long number found held (first ∷ lines) read leads = absurd read

  -- Where no line is left of another script the close is.
  no_line : (here : Standing) (now : List Content) (beyond : Bool) → beyond ≡ false
      → (number : ℕ) (found : TagsFound)
      (held : Option (List ℕ)) (lines : List ReadLine) → AllZip IsReadAs [] lines
      → Leads here (run_from here.format beyond number here.state (finds_fault found) lines) now held
      there run start held_start → Leads here (only_close here found) now held there run start held_start
  no_line here now beyond short number found held [] read leads =
      subst (λ (r : ScriptRun). Leads here r now held there run start held_start)
      (ap (λ (b : Bool). run_from here.format b number here.state (finds_fault found) []) short) leads
  no_line here now beyond short number found held (first ∷ lines) read leads = absurd read

  -- ---- for callers

  module _ (number : ℕ) (found : TagsFound) (old new : Reading) (left later : List ℕ) (parts : DeviceParts)
      (now : List Content) (held : Option (List ℕ))
      (script : List ℕ) (at : IsAt there run script start held_start number found old left parts now held) where
    -- A line is found and run: the run stands before the next one.
    pub line_done : (parts_b : DeviceParts) (now_b : List Content) (held_b : Option (List ℕ))
        (told found_b : TagsFound)
        (number_b : ℕ) → FindsWholeLine old new (old.unread ++ left) (new.unread ++ later)
        → HasRunBytes at.here new.line told parts_b now now_b held held_b
        → finds_fault found_b ≡ (finds_fault found || finds_fault told) → number_b ≡ number + 1
        → TakesLine old new (old.unread ++ left) (new.unread ++ later)
        → IsAt there run script start held_start number_b found_b new later parts_b now_b held_b
    line_done parts_b now_b held_b told found_b number_b finds ran either next takes =
        let same : is_beyond old left ≡ is_beyond new later = ap (ltb most_script) (sym finds.counted) in
        let is_next : suc number ≡ number_b = omega arith in
        let behind = behind_line at.here (is_beyond old left) number found told found_b new.line
        (lines_behind new later)
        parts_b now now_b held held_b ran either at.lines
        (subst (λ (l : List (List ℕ)). AllZip IsReadAs l at.lines) finds.next at.read) at.leads
        at.passed.steps at.passed.is_split script at.comes in
        let here = standing_behind at.here (events_of at.here ran.line) in
        let before = at.passed in
        let one : ScriptStep = line_step (line_outcome at.here.format at.here.state ran.line) in
        let within = before.within in
        let ending = newlines_in-most takes.ending in
        let short = takes.short in
        record {
          here = here;
          device = ran.run.run.device;
          lines = behind.lines;
          read = behind.read;
          leads = subst (λ (n : ℕ). Leads here
              (run_from here.format (is_beyond new later) n here.state (finds_fault found_b) behind.lines) now_b
              held_b
              there run start held_start) is_next
              (subst (λ (b : Bool). Leads here
              (run_from here.format b (suc number) here.state (finds_fault found_b) behind.lines) now_b held_b
              there run start held_start) same behind.leads);
          passed = record {
            steps = before.steps ++ one ∷ [];
            is_split = behind.is_split
                ∙ ap (λ (b : Bool). (before.steps ++ one ∷ [])
                ++ (run_from here.format b (suc number) here.state (finds_fault found_b) behind.lines).steps) same
                ∙ ap (λ (n : ℕ). (before.steps ++ one ∷ [])
                ++ (run_from here.format (is_beyond new later) n here.state (finds_fault found_b) behind.lines).steps)
                is_next;
            printed = ran.run.told ∙ ap (held_with one.text) before.printed
                ∙ told_further (texts_of before.steps) one.text held_start
                ∙ ap (λ (text : List ℕ). held_with text held_start) (sym (texts_of-push before.steps one));
            front = before.front ++ (new.line ++ takes.ending);
            bytes = before.bytes ∙ ap (λ (l : List ℕ). before.front ++ l)
                (takes.bytes ∙ sym (append_assoc new.line takes.ending (new.unread ++ later)))
                ∙ sym (append_assoc before.front (new.line ++ takes.ending) (new.unread ++ later));
            within = omega (
              arith,
              within,
              ending,
              short,
              newlines_in-append before.front (new.line ++ takes.ending),
              newlines_in-append new.line takes.ending,
              newlines_in-none new.line takes.plain,
              length-append before.steps (one ∷ []),
            );
          };
          comes = behind.comes;
        }

    -- This is taken of its line and behind that, the text of all lines before it being printed.
    read_to : (line ending behind : List ℕ) (after : Option (List ℕ)) (held_b : Option (List ℕ)) (failed : Type 0)
        → old.unread ++ left ≡ line ++ (ending ++ behind) → HasNoNewline line → length ending ≤ 1
        → IsSomeAnd after (λ more. length behind ≤ length more + most_piece)
        → (failed → after ≡ Some (ending ++ behind))
        → HoldsText [] held held_b → HasReadTo run script after held_start held_b failed
    read_to line ending behind after held_b failed bytes plain short taken asked holds =
        let passed = at.passed in
        let steps_is : take (length passed.steps) run.steps ≡ passed.steps =
        ap (take (length passed.steps)) passed.is_split ∙ take-append_seam passed.steps _ in
        record {
          done = length passed.steps;
          of_run = length-first passed.steps _ run.steps passed.is_split;
          printed = record {
            more = holds.more;
            is = holds.is ∙ ap (held_with holds.more) passed.printed
                ∙ told_further (texts_of passed.steps) holds.more held_start
                ∙ ap (λ (steps : List ScriptStep). held_with (texts_of steps ++ holds.more) held_start) (sym steps_is);
          };
          front = passed.front;
          line = line;
          ending = ending;
          behind = behind;
          bytes = passed.bytes ∙ ap (λ (l : List ℕ). passed.front ++ l) bytes;
          within = passed.within;
          plain = plain;
          short = short;
          taken = taken;
          asked = asked;
        }

    -- The bytes that are taken when its line was looked for.
    pub line_read : (after : Option (List ℕ)) (held_b : Option (List ℕ)) (failed : Type 0) → (failed → ⊥)
        → TakesLine old new (old.unread ++ left) (new.unread ++ later) → IsWithin new → after ≡ Some later
        → HoldsText [] held held_b → HasReadTo run script after held_start held_b failed
    line_read after held_b failed fine takes within told holds =
        let ahead = within.ahead in
        read_to new.line takes.ending (new.unread ++ later) after held_b failed takes.bytes takes.plain takes.short
        (subst (λ (o : Option (List ℕ)). IsSomeAnd o (λ more. length (new.unread ++ later) ≤ length more + most_piece))
        (sym told) (omega (arith, ahead, length-append new.unread later)))
        (λ rose. absurd (fine rose)) holds

    -- Where the source failed, a line has begun at most, and no byte behind that is read.
    line_begun : (after : Option (List ℕ)) (failed : Type 0) → BeginsLine old new (old.unread ++ left) later
        → after ≡ Some later → HasReadTo run script after held_start held failed
    line_begun after failed begins told =
        read_to new.line [] later after held failed begins.bytes begins.plain (omega arith)
        (subst (λ (o : Option (List ℕ)). IsSomeAnd o (λ more. length later ≤ length more + most_piece)) (sym told)
        (omega arith)) (λ rose. told) (holds_same refl)

    -- What is taken where no line is found.
    pub none_read : (after : Option (List ℕ)) (failed : Type 0) (ended : Ended)
        → HasAdvanced number old new left later (Err ended)
        → TakesLine old new (old.unread ++ left) (new.unread ++ later) → IsWithin new → after ≡ Some later
        → (ended ≢ Endings.Failed outers.Script → failed → ⊥) → HasReadTo run script after held_start held failed
    none_read after failed (Endings.Refused (refusals.Line n refusal)) advanced takes within told fine =
        line_read after held failed (fine (λ (is : (Endings.Refused (refusals.Line n refusal)) ≡ Endings.Failed outers.Script). absurd (cc))) takes
        within told (holds_same refl)
    none_read after failed (Endings.Refused refusals.Length) advanced takes within told fine =
        line_read after held failed (fine (λ (is : (Endings.Refused refusals.Length) ≡ Endings.Failed outers.Script). absurd (cc))) takes within told
        (holds_same refl)
    none_read after failed (Endings.Refused refusals.Words) (is, begins) takes within told fine = line_begun after failed begins told
    none_read after failed (Endings.Refused (refusals.Key refusal)) (is, begins) takes within told fine =
        line_begun after failed begins told
    none_read after failed (Endings.Refused (refusals.Image fault)) (is, begins) takes within told fine =
        line_begun after failed begins told
    none_read after failed (Endings.Refused (refusals.Second fault)) (is, begins) takes within told fine =
        line_begun after failed begins told
    none_read after failed (Endings.Refused (refusals.Legs a_blocks a_size b_blocks b_size)) (is, begins) takes within told fine =
        line_begun after failed begins told
    none_read after failed (Endings.Failed outer) (is, begins) takes within told fine = line_begun after failed begins told
    none_read after failed Endings.Memory (is, begins) takes within told fine = line_begun after failed begins told

    -- A line is found and stops the run.
    pub line_stopped : (now_b : List Content) (held_b : Option (List ℕ)) (ended : Ended)
        → FindsWholeLine old new (old.unread ++ left) (new.unread ++ later)
        → IsStoppedByBytes at.here number new.line ended now now_b held held_b
        → IsStopped there run (ending_of ended) start now_b held_start held_b
    line_stopped now_b held_b ended finds stopped =
        stopped_line at.here (is_beyond old left) number found new.line
        (lines_behind new later) now now_b held held_b ended
        stopped at.lines (subst (λ (l : List (List ℕ)). AllZip IsReadAs l at.lines) finds.next at.read) at.leads

    -- What it has printed then stands behind what the sink held.
    pub line_held : (now_b : List Content) (held_b : Option (List ℕ)) (ended : Ended)
        → FindsWholeLine old new (old.unread ++ left) (new.unread ++ later)
        → IsStoppedByBytes at.here number new.line ended now now_b held held_b → HoldsText [] held held_b
    line_held now_b held_b ended finds stopped =
        by at.lines (subst (λ (l : List (List ℕ)). AllZip IsReadAs l at.lines) finds.next at.read)
      where
        by : (lines : List ReadLine) → AllZip IsReadAs (new.line ∷ lines_behind new later) lines → HoldsText [] held held_b
        by [] read = absurd read
        by (first ∷ lines) read =
            let stops = stopped (is_beyond old left) (finds_fault found) first lines read.0 in
            record { more = stops.text; is = stops.told }

    -- The end is found: the close is left.
    pub end_found : FindsEnd old new (old.unread ++ left) (new.unread ++ later)
        → IsAtClose there run script start held_start found parts now held
    end_found finds = record {
      here = at.here;
      device = at.device;
      leads = no_line at.here now (is_beyond old left)
          (at_most_is (old.taken + length (old.unread ++ left)) finds.within)
          number found held at.lines
          (subst (λ (l : List (List ℕ)). AllZip IsReadAs l at.lines) finds.none at.read) at.leads;
      comes = comes_at_end script at.here at.lines
          (subst (λ (l : List (List ℕ)). AllZip IsReadAs l at.lines) finds.none at.read) at.comes;
    }
      where
        at_most_is : (n : ℕ) → n ≤ most_script → ltb most_script n ≡ false
        at_most_is n within = le-ltb most_script n within

    source_failed : (ended : Ended) → ended ≡ Endings.Failed outers.Script
        → IsStopped there run (ending_of ended) start now held_start held
    source_failed ended is =
        subst (λ (e : Ended). IsStopped there run (ending_of e) start now held_start held) (sym is)
        (at.leads (Failed outers.Script) now held
        (stopped_at_lines at.here Conditions.Working parts now at.device (Failed outers.Script) held tt
        (is_beyond old left) number (finds_fault found) at.lines))

    -- What else is found stops the run.
    pub advance_stopped : (ended : Ended) → HasAdvanced number old new left later (Err ended)
        → IsStopped there run (ending_of ended) start now held_start held
    advance_stopped (Endings.Refused (refusals.Line n refusal)) (same, form, finds) =
        subst (λ (m : ℕ). IsStopped there run (ending_of (Endings.Refused (refusals.Line m refusal))) start now held_start held)
        (sym same)
        (subst (λ (r : LineRefusal). IsStopped there run
        (ending_of (Endings.Refused (refusals.Line number r))) start now held_start held)
        (sym form)
        (long_line at.here parts now at.device
        (is_beyond old left) number found finds.bytes finds.others held finds.long
        at.lines (subst (λ (l : List (List ℕ)). AllZip IsReadAs l at.lines) finds.next at.read) at.leads))
    advance_stopped (Endings.Refused refusals.Length) finds =
        long_script at.here parts now at.device (is_beyond old left)
        (beyond_is (old.taken + length (old.unread ++ left)) finds.beyond) number found held
        at.lines (subst (λ (l : List (List ℕ)). AllZip IsReadAs l at.lines) finds.none at.read) at.leads
      where
        beyond_is : (n : ℕ) → most_script < n → ltb most_script n ≡ true
        beyond_is n beyond = lt-ltb most_script n beyond
    advance_stopped (Endings.Refused refusals.Words) (is, begins) = source_failed (Endings.Refused refusals.Words) is
    advance_stopped (Endings.Refused (refusals.Key refusal)) (is, begins) = source_failed (Endings.Refused (refusals.Key refusal)) is
    advance_stopped (Endings.Refused (refusals.Image fault)) (is, begins) = source_failed (Endings.Refused (refusals.Image fault)) is
    advance_stopped (Endings.Refused (refusals.Second fault)) (is, begins) = source_failed (Endings.Refused (refusals.Second fault)) is
    advance_stopped (Endings.Refused (refusals.Legs a_blocks a_size b_blocks b_size)) (is, begins) =
        source_failed (Endings.Refused (refusals.Legs a_blocks a_size b_blocks b_size)) is
    advance_stopped (Endings.Failed outer) (is, begins) = source_failed (Endings.Failed outer) is
    advance_stopped Endings.Memory (is, begins) = source_failed Endings.Memory is

-- ---- causes

-- A count that is as it was has not risen.
pub not_risen : {before after : ℕ} → after ≡ before → before < after → ⊥
not_risen same rose = omega (arith, same, rose)

pub at_most : {before after : ℕ} → after ≡ before → before ≤ after
at_most same = omega (arith, same)

-- A count that rose later rose since it was lower.
rose_since : (before between after : ℕ) → before ≤ between → Rose between after → Rose before after
rose_since before between after later rose = omega arith

-- What has its cause in a source has it in the source since its count was lower.
pub source_cause : (before between after : ℕ) (disk sink : Type 0) (ended : Ended) → before ≤ between
    → HasEndCause ⊥ (Rose between after) ⊥ ended → HasEndCause disk (Rose before after) sink ended
source_cause before between after disk sink (Endings.Refused refusal) later cause = tt
source_cause before between after disk sink (Endings.Failed outers.Disk) later cause = absurd cause
source_cause before between after disk sink (Endings.Failed outers.Key) later cause = tt
source_cause before between after disk sink (Endings.Failed outers.Script) later cause =
    rose_since before between after later cause
source_cause before between after disk sink (Endings.Failed outers.Sink) later cause = absurd cause
source_cause before between after disk sink Endings.Memory later cause = tt

-- ---- a turn of the loop

-- No request is in flight of a device that has just been opened.
pub none_in_flight : (tickets : Tickets) (flight : Flight) → tickets.waiting.items ≡ [] → flight.slots ≡ []
    → AreInFlight tickets flight
none_in_flight tickets flight none empty = record { asks = ap (map ask_by) none ∙ sym (ap (map ask_of) empty) }

module _ (w : Standing) (run : ScriptRun) (script : List ℕ) (start : List Content) (held_start : Option (List ℕ))
    (number : ℕ) (found : TagsFound) (old new : Reading) (parts : DeviceParts) (now : List Content)
    (held : Option (List ℕ)) where
  -- The run stands before its line, where this is left of the script.
  abbrev pub StandsAt : Option (List ℕ) → Type 0
  StandsAt before = IsSomeAnd before (λ left. IsAt w run script start held_start number found old left parts now held)

  -- Then its line was looked for.
  abbrev pub Advances : (before after : Option (List ℕ)) → Result Bool Ended → Type 0
  Advances before after result =
      ForSome before (λ left. IsSomeAnd after (λ later. HasAdvanced number old new left later result))

  -- and no more than its line was taken.
  abbrev pub Takes : (before after : Option (List ℕ)) → Type 0
  Takes before after =
      ForSome before (λ left. IsSomeAnd after (λ later. TakesLine old new (old.unread ++ left) (new.unread ++ later)))

  pub turn_stopped : (before after : Option (List ℕ)) (ended : Ended) → StandsAt before
      → Advances before after (Err ended) → IsStopped w run (ending_of ended) start now held_start held
  turn_stopped None after ended at advanced = absurd at
  turn_stopped (Some left) None ended at advanced = absurd (advanced left refl)
  turn_stopped (Some left) (Some later) ended at advanced =
      advance_stopped w run start held_start number found old new left later parts now held script at ended
      (advanced left refl)

  pub turn_stopped_in_line : (before after : Option (List ℕ)) (more : Bool) (bytes : List ℕ)
      (now_b : List Content)
      (held_b : Option (List ℕ)) (ended : Ended) → StandsAt before → Advances before after (Ok more) → more
      ≡ true
      → bytes ≡ new.line
      → ((here : Standing) → IsDevice here Conditions.Working parts now
      → IsStoppedByBytes here number bytes ended now now_b held held_b)
      → IsStopped w run (ending_of ended) start now_b held_start held_b
  turn_stopped_in_line None after more bytes now_b held_b ended at advanced is same stopped = absurd at
  turn_stopped_in_line (Some left) None more bytes now_b held_b ended at advanced is same stopped =
      absurd (advanced left refl)
  turn_stopped_in_line (Some left)
      (Some later) false bytes now_b held_b ended at advanced is same stopped = absurd (cc)
  turn_stopped_in_line (Some left) (Some later) true bytes now_b held_b ended at advanced is same stopped =
      line_stopped w run start held_start number found old new left later parts now held script at now_b held_b
      ended
      (advanced left refl)
      (subst (λ (l : List ℕ). IsStoppedByBytes at.here number l ended now now_b held held_b) same
      (stopped at.here at.device))

  pub turn_done : (before after : Option (List ℕ)) (more : Bool) (bytes : List ℕ) (parts_b : DeviceParts)
      (now_b : List Content) (held_b : Option (List ℕ)) (told found_b : TagsFound) → StandsAt before
      → Advances before after (Ok more) → more ≡ true → bytes ≡ new.line
      → ((here : Standing) → IsDevice here Conditions.Working parts now
      → HasRunBytes here bytes told parts_b now now_b held held_b)
      → finds_fault found_b ≡ (finds_fault found || finds_fault told) → Takes before after
      → IsSomeAnd after (λ later. IsAt w run script start held_start
      (number + 1) found_b new later parts_b now_b held_b)
  turn_done None after more bytes parts_b now_b held_b told found_b at advanced is same ran either takes = absurd at
  turn_done (Some left) None more bytes parts_b now_b held_b told found_b at advanced is same ran either takes =
      absurd (advanced left refl)
  turn_done (Some left)
      (Some later) false bytes parts_b now_b held_b told found_b at advanced is same ran either takes =
      absurd (cc)
  turn_done (Some left)
      (Some later) true bytes parts_b now_b held_b told found_b at advanced is same ran either takes =
      line_done w run start held_start number found old new left later parts now held script at parts_b now_b
      held_b told
      found_b (number + 1) (advanced left refl)
      (subst (λ (l : List ℕ). HasRunBytes at.here l told parts_b now now_b held held_b) same
      (ran at.here at.device))
      either refl (takes left refl)

  pub turn_ended : (before after : Option (List ℕ)) (more : Bool) → StandsAt before
      → Advances before after (Ok more)
      → more ≡ false → IsAtClose w run script start held_start found parts now held
  turn_ended None after more at advanced is = absurd at
  turn_ended (Some left) None more at advanced is = absurd (advanced left refl)
  turn_ended (Some left) (Some later) true at advanced is = absurd (cc)
  turn_ended (Some left) (Some later) false at advanced is =
      end_found w run start held_start number found old new left later parts now held script at (advanced left refl)

  -- What is taken of the script where its line was looked for, and the source has not failed;
  pub turn_read : (before after : Option (List ℕ)) (held_b : Option (List ℕ)) (failed : Type 0) → StandsAt before
      → Takes before after → IsWithin new → HoldsText [] held held_b → (failed → ⊥)
      → HasReadTo run script after held_start held_b failed
  turn_read None after held_b failed at takes within holds fine = absurd at
  turn_read (Some left) None held_b failed at takes within holds fine = absurd (takes left refl)
  turn_read (Some left) (Some later) held_b failed at takes within holds fine =
      line_read w run start held_start number found old new left later parts now held script at (Some later) held_b
      failed fine (takes left refl) within refl holds

  -- where none is found, whether the source has failed or not;
  pub turn_unread : (before after : Option (List ℕ)) (failed : Type 0) (ended : Ended) → StandsAt before
      → Advances before after (Err ended) → Takes before after → IsWithin new
      → (ended ≢ Endings.Failed outers.Script → failed → ⊥) → HasReadTo run script after held_start held failed
  turn_unread None after failed ended at advanced takes within fine = absurd at
  turn_unread (Some left) None failed ended at advanced takes within fine = absurd (takes left refl)
  turn_unread (Some left) (Some later) failed ended at advanced takes within fine =
      none_read w run start held_start number found old new left later parts now held script at (Some later)
      failed ended (advanced left refl) (takes left refl) within refl fine

  -- and what a line that stops the run has printed.
  pub turn_held : (before after : Option (List ℕ)) (more : Bool) (bytes : List ℕ) (now_b : List Content)
      (held_b : Option (List ℕ)) (ended : Ended) → StandsAt before → Advances before after (Ok more) → more
      ≡ true
      → bytes ≡ new.line
      → ((here : Standing) → IsDevice here Conditions.Working parts now
      → IsStoppedByBytes here number bytes ended now now_b held held_b)
      → HoldsText [] held held_b
  turn_held None after more bytes now_b held_b ended at advanced is same stopped = absurd at
  turn_held (Some left) None more bytes now_b held_b ended at advanced is same stopped =
      absurd (advanced left refl)
  turn_held (Some left) (Some later) false bytes now_b held_b ended at advanced is same stopped = absurd (cc)
  turn_held (Some left) (Some later) true bytes now_b held_b ended at advanced is same stopped =
      line_held w run start held_start number found old new left later parts now held script at now_b held_b ended
      (advanced left refl)
      (subst (λ (l : List ℕ). IsStoppedByBytes at.here number l ended now now_b held held_b) same
      (stopped at.here at.device))

-- The next line of a script that is told is not taken for want of memory.
pub no_memory_for_line : (P : List ℕ → Type 0) (number : ℕ) (old new : Reading) (left later : Option (List ℕ)) (ended : Ended)
    → IsSomeAnd left P → ForSome left (λ l. IsSomeAnd later (λ m. HasAdvanced number old new l m (Err ended))) → ended ≡ Endings.Memory → ⊥
no_memory_for_line P number old new None later ended some advanced memory = some
no_memory_for_line P number old new (Some l) None ended some advanced memory = advanced l refl
no_memory_for_line P number old new (Some l) (Some m) ended some advanced memory =
    let script = (subst (λ (e : Ended). HasAdvanced number old new l m (Err e)) memory (advanced l refl)).0 in cc
