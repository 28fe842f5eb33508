-- The last line of a command, its status, and what both tell.
use Rattle.std.proofs.Common.{◌≡◌, ◌≢◌, ◌⊎◌, inl, inr, ℕ, ◌<◌, ◌≤◌, Bool, true, false, List, [], ◌++◌, length, take, refl, sym, ◌∙◌, ap, subst, arith, append_assoc, append-nil, Option, Some, None, Result, Ok, Err, IfErr, OnOk, OnErr}
use Rattle.std.specs.Option.{option_map, IsSomeAnd}
use Rattle.std.proofs.lemmas.List.{length-take}
use Rattle.disk_model.specs.Causes.{HasCause, Rose}
use Rattle.disk_model.specs.Disk.{Content}
use Rattle.disk_model.specs.Identity.{NamedDisk}
use Rattle.disk_model.specs.Moments.{content_now}
use Rattle.run_model.specs.Ending.{Ending, Refusal, Complete, Refused, Failed, NoMemory, ByWords, ByKey, ByImage, BySecond, ByLegs, ByLine, ByLength, refused_status, status_of, fault_text}
use Rattle.stream_io.specs.Stream.{AddsPrefix, held_with, with_bytes}
use Rattle.command_ending.specs.Ended.{refusal_of, ending_of}
use Rattle.command_ending.specs.declared.ended.Ended.{Ended}
use Rattle.command_ending.specs.declared.ended.Ended.TheVariants as Endings
use Rattle.run_model.specs.CommandRun.{Faults, Outset, RefusedBy, RunsOn, Prints, Makes, Exercises, ReadsOn, Changes, Serves, HasCauseIn, IsLastLine}
use Rattle.nbd_command.specs.ServedRun as ends
use Rattle.nbd_command.specs.ServedRun.{SessionEnd, session_status}
use Rattle.run_model.specs.ServedRun.{HasSessionCause}
use Rattle.command_task.specs.Running.{IsBeforeScript}
use Rattle.command_model.specs.Taken.{HoldsText}
use Rattle.script_lines.specs.Ends.{HasEndCause}
use Rattle.integrity_tool.specs.KeyFile.{IsKeyRefused}
use Rattle.command_task.specs.declared.telling.Telling.{Telling}
use Rattle.command_task.specs.declared.telling.Telling.TheVariants.{Lines, Replies}
use Rattle.command_task.specs.Opening.{EndsImage, HasRunIn, HasRunOn}
use Rattle.command_task.specs.Serving.{session_ending}
use Rattle.command_task.specs.Telling.{last_text}
use Rattle.integrity_tool.specs.Top.{IsCountedBy, outset_in}
use Rattle.command_model.specs.Given.{Given, TellsIn, TellsRun}
use Rattle.command_model.specs.Status.{HasStatus}
use Rattle.command_model.specs.World.{Counts, either_rises, rises}
use Rattle.command_task.proofs.EndedLemmas.{same_ended}
use Rattle.command_task.proofs.RunningLemmas.{told_nothing}
use Rattle.run_model.specs.declared.outer.Outer.TheVariants as outers
use Rattle.command_ending.specs.declared.refusal.Refusal.TheVariants as refusals

-- ---- causes

pub rose_later : (a b c : ℕ) → Rose a b → b ≤ c → Rose a c
rose_later a b c rose later = omega (arith, rose, later)

pub rose_earlier : (a b c : ℕ) → a ≤ b → Rose b c → Rose a c
rose_earlier a b c later rose = omega (arith, rose, later)

-- The sink's count may rise further, with the last line.
pub cause_later : (first mid : Counts) (sink : ℕ) → mid.sink ≤ sink → (ending : Ending) → HasCauseIn (rises first mid) ending
    → HasCauseIn (rises first (record mid { sink = sink })) ending
cause_later first mid sink later (Complete found_fault) cause = tt
cause_later first mid sink later (Refused refusal) cause = tt
cause_later first mid sink later (Failed outers.Disk) cause = cause
cause_later first mid sink later (Failed outers.Key) cause = cause
cause_later first mid sink later (Failed outers.Script) cause = cause
cause_later first mid sink later (Failed outers.Sink) cause = rose_later _ _ _ cause later
cause_later first mid sink later NoMemory cause = tt

-- So it may where either disk counts.
pub either_later : (first mid : Counts) (sink : ℕ) → mid.sink ≤ sink → (ending : Ending) → HasCauseIn (either_rises first mid) ending
    → HasCauseIn (either_rises first (record mid { sink = sink })) ending
either_later first mid sink later (Complete found_fault) cause = tt
either_later first mid sink later (Refused refusal) cause = tt
either_later first mid sink later (Failed outers.Disk) cause = cause
either_later first mid sink later (Failed outers.Key) cause = cause
either_later first mid sink later (Failed outers.Script) cause = cause
either_later first mid sink later (Failed outers.Sink) cause = rose_later _ _ _ cause later
either_later first mid sink later NoMemory cause = tt

-- Words, or want of memory, rest on no fault.
pub cause_at_words : (faults : Faults) (ended : Ended) → (ended ≡ Endings.Refused refusals.Words) ⊎ (ended ≡ Endings.Memory) → HasCauseIn faults (ending_of ended)
cause_at_words faults ended ends = elim ends [
  | inl words ↦ subst (λ (e : Ended). HasCauseIn faults (ending_of e)) (sym words) tt
  | inr memory ↦ subst (λ (e : Ended). HasCauseIn faults (ending_of e)) (sym memory) tt
]

-- Of what a key is refused by, its source alone does.
pub cause_at_key : (faults : Faults) (file : Option (List ℕ)) (named : List ℕ → Option (List ℕ)) (before after : ℕ) → (Rose before after → faults.key)
    → (ended : Ended) → IsKeyRefused file named before after ended → HasCauseIn faults (ending_of ended)
cause_at_key faults file named before after rose (Endings.Refused refusal) refused = tt
cause_at_key faults file named before after rose (Endings.Failed outers.Disk) refused = absurd refused
cause_at_key faults file named before after rose (Endings.Failed outers.Key) refused = rose refused
cause_at_key faults file named before after rose (Endings.Failed outers.Script) refused = absurd refused
cause_at_key faults file named before after rose (Endings.Failed outers.Sink) refused = absurd refused
cause_at_key faults file named before after rose Endings.Memory refused = tt

-- What ends a run on an image is no source of keys.
pub cause_on_image : (faults : Faults) (ended : Ended) → EndsImage ended → HasEndCause faults.disk faults.script faults.sink ended → HasCauseIn faults (ending_of ended)
cause_on_image faults (Endings.Refused refusal) ends cause = tt
cause_on_image faults (Endings.Failed outers.Disk) ends cause = cause
cause_on_image faults (Endings.Failed outers.Key) ends cause = absurd ends
cause_on_image faults (Endings.Failed outers.Script) ends cause = cause
cause_on_image faults (Endings.Failed outers.Sink) ends cause = cause
cause_on_image faults Endings.Memory ends cause = tt

pub causes_on_image : {T : Type 0} (faults : Faults) (r : Result T Ended) → IfErr r EndsImage → IfErr r (HasEndCause faults.disk faults.script faults.sink)
    → IfErr r (λ ended. HasCauseIn faults (ending_of ended))
causes_on_image faults (Ok x) ends cause = tt
causes_on_image faults (Err ended) ends cause = cause_on_image faults ended ends cause

-- ---- statuses

-- Where a command came to its end no count rose.
pub status_complete : {T : Type 0} (first last : Counts) (status : ℕ) → status ≤ 1 → (found : T) (result : Result T Ended) → result ≡ Ok found
    → IsCountedBy result first last → HasStatus first last status
status_complete first last status low found result is counted = record {
  low = omega (arith, low);
  of_disk = λ told. absurd (omega (arith, low, told));
  of_sources = λ told. absurd (omega (arith, low, told));
  of_sink = λ told. absurd (omega (arith, low, told));
  disk_passed = λ other. (counted.disk.passed (λ ended. absurd (cc)), counted.second.passed (λ ended. absurd (cc)));
  sources_passed = λ other. (counted.key.passed (λ ended. absurd (cc)), counted.script.passed (λ ended. absurd (cc)));
  sink_passed = λ told. counted.sink.passed (λ ended. absurd (cc));
}

-- A refusal has status 2 or 3.
refused_is_high : (refusal : Refusal) → 2 ≤ refused_status refusal
refused_is_high ByWords = omega arith
refused_is_high (ByKey refusal) = omega arith
refused_is_high (ByImage fault) = omega arith
refused_is_high (BySecond fault) = omega arith
refused_is_high (ByLegs a_blocks a_size b_blocks b_size) = omega arith
refused_is_high (ByLine number fault) = omega arith
refused_is_high ByLength = omega arith

refused_is_low : (refusal : Refusal) → refused_status refusal ≤ 3
refused_is_low ByWords = omega arith
refused_is_low (ByKey refusal) = omega arith
refused_is_low (ByImage fault) = omega arith
refused_is_low (BySecond fault) = omega arith
refused_is_low (ByLegs a_blocks a_size b_blocks b_size) = omega arith
refused_is_low (ByLine number fault) = omega arith
refused_is_low ByLength = omega arith

-- Where its last line is printed, the sink's count may have risen since.
module _ {T : Type 0} (first mid : Counts) (sink : ℕ) where
  pub status_ended : (ended : Ended) → HasCauseIn (either_rises first (record mid { sink = sink })) (ending_of ended)
      → IsCountedBy {R = T} (Err ended) first mid → HasStatus first (record mid { sink = sink }) (status_of (ending_of ended))
  status_ended (Endings.Refused refusal) cause counted =
      let low : refused_status (refusal_of refusal) ≤ 3 = refused_is_low (refusal_of refusal) in
      record {
        low = omega (arith, low);
        of_disk = λ is. absurd (omega (arith, low, is));
        of_sources = λ is. absurd (omega (arith, low, is));
        of_sink = λ is. absurd (omega (arith, low, is));
        disk_passed = λ other. (counted.disk.passed (λ same. absurd (cc)), counted.second.passed (λ same. absurd (cc)));
        sources_passed = λ other. (counted.key.passed (λ same. absurd (cc)), counted.script.passed (λ same. absurd (cc)));
        sink_passed = λ is. absurd (omega (arith, refused_is_high (refusal_of refusal), is));
      }
  status_ended (Endings.Failed outers.Disk) cause counted = record {
    low = omega arith;
    of_disk = λ is. cause;
    of_sources = λ is. absurd (omega (arith, is));
    of_sink = λ is. absurd (omega (arith, is));
    disk_passed = λ other. absurd (other refl);
    sources_passed = λ other. (counted.key.passed (λ same. absurd (cc)), counted.script.passed (λ same. absurd (cc)));
    sink_passed = λ is. absurd (omega (arith, is));
  }
  status_ended (Endings.Failed outers.Key) cause counted = record {
    low = omega arith;
    of_disk = λ is. absurd (omega (arith, is));
    of_sources = λ is. inl cause;
    of_sink = λ is. absurd (omega (arith, is));
    disk_passed = λ other. (counted.disk.passed (λ same. absurd (cc)), counted.second.passed (λ same. absurd (cc)));
    sources_passed = λ other. absurd (other refl);
    sink_passed = λ is. absurd (omega (arith, is));
  }
  status_ended (Endings.Failed outers.Script) cause counted = record {
    low = omega arith;
    of_disk = λ is. absurd (omega (arith, is));
    of_sources = λ is. inr cause;
    of_sink = λ is. absurd (omega (arith, is));
    disk_passed = λ other. (counted.disk.passed (λ same. absurd (cc)), counted.second.passed (λ same. absurd (cc)));
    sources_passed = λ other. absurd (other refl);
    sink_passed = λ is. absurd (omega (arith, is));
  }
  status_ended (Endings.Failed outers.Sink) cause counted = record {
    low = omega arith;
    of_disk = λ is. absurd (omega (arith, is));
    of_sources = λ is. absurd (omega (arith, is));
    of_sink = λ is. cause;
    disk_passed = λ other. (counted.disk.passed (λ same. absurd (cc)), counted.second.passed (λ same. absurd (cc)));
    sources_passed = λ other. (counted.key.passed (λ same. absurd (cc)), counted.script.passed (λ same. absurd (cc)));
    sink_passed = λ is. absurd (omega (arith, is));
  }
  status_ended Endings.Memory cause counted = record {
    low = omega arith;
    of_disk = λ is. absurd (omega (arith, is));
    of_sources = λ is. absurd (omega (arith, is));
    of_sink = λ is. absurd (omega (arith, is));
    disk_passed = λ other. (counted.disk.passed (λ same. absurd (cc)), counted.second.passed (λ same. absurd (cc)));
    sources_passed = λ other. (counted.key.passed (λ same. absurd (cc)), counted.script.passed (λ same. absurd (cc)));
    sink_passed = λ is. absurd (omega (arith, is));
  }

-- What ended a command by the sink has status 6.
pub sink_status : {T : Type 0} (ended : Ended) (r : Result T Ended) → r ≡ Err ended → r ≡ Err (Endings.Failed outers.Sink) → status_of (ending_of ended) ≡ 6
sink_status ended r is is_sink = ap (λ (e : Ended). status_of (ending_of e)) (same_ended ended (Endings.Failed outers.Sink) r is is_sink)

-- ---- the last line

-- What stands behind the text: its last line, or a part of it, where lines are written, and nothing behind replies. With another status
-- than 6 the sink has failed in that line at most.
abbrev pub EndsWith : Telling → Ending → (line : List ℕ) → (status : ℕ) → (first last : Counts) → Type 0
EndsWith Lines ending line status first last =
    IsLastLine (Rose first.sink last.sink) ending line × (status ≢ 6 → line ≡ fault_text ending → last.sink ≡ first.sink)
EndsWith Replies ending line status first last = (line ≡ []) × (status ≢ 6 → last.sink ≡ first.sink)

-- What ended a session has its status, and its cause.
session_status_is : (ended : SessionEnd) → status_of (session_ending ended) ≡ session_status ended
session_status_is (ends.Complete found) = refl
session_status_is ends.RefusedStream = refl
session_status_is ends.DiskFailed = refl
session_status_is ends.SourceFailed = refl
session_status_is ends.SinkFailed = refl
session_status_is ends.NoMemory = refl

session_cause : (faults : Faults) (ended : SessionEnd) → HasCauseIn faults (session_ending ended) → HasSessionCause faults ended
session_cause faults (ends.Complete found) cause = cause
session_cause faults ends.RefusedStream cause = cause
session_cause faults ends.DiskFailed cause = cause
session_cause faults ends.SourceFailed cause = cause
session_cause faults ends.SinkFailed cause = cause
session_cause faults ends.NoMemory cause = cause

module _ (given : Given) (ending : Ending) (moments : List Content) (held_before held : Option (List ℕ)) (status : ℕ) (before : List ℕ) (d : Content)
    (is_before : held_before ≡ Some before) (told : content_now moments ≡ Some d) (is_status : status ≡ status_of ending)
    (after : Option (List ℕ)) (first last : Counts) (line : List ℕ) (cause : HasCauseIn (rises first last) ending)
    (is_after : after ≡ option_map (with_bytes line) held) where
  -- The sink holds this text and this line behind what it held.
  abbrev Told : Outset → Type 0
  Told outset = IsSomeAnd after (λ text. IsSomeAnd (content_now moments) (TellsIn outset given status first last before text))

  tells_text : (outset : Outset) (text : List ℕ) → held ≡ held_with text held_before
      → TellsIn outset given status first last before ((before ++ text) ++ line) d → Told outset
  tells_text outset text holds tells =
      let all : after ≡ Some ((before ++ text) ++ line) =
      is_after ∙ ap (option_map (with_bytes line)) holds ∙ ap (λ (o : Option (List ℕ)). option_map (with_bytes line) (held_with text o)) is_before in
      subst (λ (o : Option (List ℕ)). IsSomeAnd o (λ text. IsSomeAnd (content_now moments) (TellsIn outset given status first last before text))) (sym all)
      (subst (λ (o : Option Content). IsSomeAnd o (TellsIn outset given status first last before ((before ++ text) ++ line))) (sym told) tells)

  -- A run came so far, and this line stands behind its text.
  tells_run : (outset : Outset) (run : HasRunOn outset given.content given.script ending moments held_before held)
      → EndsWith Lines ending line status first last → TellsRun outset given status first last before ((before ++ run.text) ++ line) d
  tells_run outset run end = record {
    told = record {
      run = run.run;
      is_run = run.is_run;
      text = run.text;
      changes = run.changes;
      ending = ending;
      ended = run.ended;
      cause = cause;
      is_status = is_status;
      line = line;
      last = end.0;
      printed = append_assoc before run.text line;
      left = run.left d told;
    };
    sink_passed = end.1;
  }

  -- So it is of what is done, whatever it starts on.
  tells_line : (outset : Outset) (telling : Telling) → HasRunIn outset telling given.content given.script ending moments held_before held
      → EndsWith telling ending line status first last → Told outset
  tells_line (RefusedBy refused) Lines run end = tells_text (RefusedBy refused) run.text run.told (tells_run (RefusedBy refused) run end)
  tells_line (RefusedBy refused) Replies run end = absurd run
  tells_line (RunsOn kind image) Lines run end = tells_text (RunsOn kind image) run.text run.told (tells_run (RunsOn kind image) run end)
  tells_line (RunsOn kind image) Replies run end = absurd run
  tells_line (Prints texts found) Lines run end = tells_text (Prints texts found) run.text run.told (tells_run (Prints texts found) run end)
  tells_line (Prints texts found) Replies run end = absurd run
  tells_line (Makes making) Lines run end = tells_text (Makes making) run.text run.told (tells_run (Makes making) run end)
  tells_line (Makes making) Replies run end = absurd run
  tells_line (Exercises exercising) Lines run end = tells_text (Exercises exercising) run.text run.told (tells_run (Exercises exercising) run end)
  tells_line (Exercises exercising) Replies run end = absurd run
  tells_line (ReadsOn kind image) Lines run end = tells_text (ReadsOn kind image) run.text run.told (tells_run (ReadsOn kind image) run end)
  tells_line (ReadsOn kind image) Replies run end = absurd run
  tells_line (Changes changing) Lines run end = tells_text (Changes changing) run.text run.told (tells_run (Changes changing) run end)
  tells_line (Changes changing) Replies run end = absurd run
  tells_line (Serves kind image) Lines run end = tells_text (Serves kind image) [] (run.told ∙ told_nothing held_before) (record {
    told = inl (record {
      ended = ending;
      outside = run.outside;
      cause = cause;
      is_status = is_status;
      line = line;
      last = end.0;
      printed = ap (λ (l : List ℕ). l ++ line) (append-nil before);
      left = run.left d told;
    });
    sink_passed = end.1;
  })
  tells_line (Serves kind image) Replies run end = tells_text (Serves kind image) run.text run.told (record {
    told = inr (record {
      deeds = run.deeds;
      is_session = run.is_session;
      text = run.text;
      changes = run.changes;
      ended = run.ended;
      came = run.came;
      cause = session_cause (rises first last) run.ended (subst (HasCauseIn (rises first last)) run.is cause);
      is_status = is_status ∙ ap status_of run.is ∙ session_status_is run.ended;
      printed = ap (λ (l : List ℕ). (before ++ run.text) ++ l) end.0 ∙ append-nil (before ++ run.text);
      left = run.left d told;
    });
    sink_passed = λ other whole. end.1 other;
  })

pub no_line : (held : Option (List ℕ)) → held ≡ option_map (with_bytes []) held
no_line None = refl
no_line (Some bytes) = ap (λ (x : List ℕ). Some x) (sym (append-nil bytes))

pub ends_complete : (telling : Telling) (found : Bool) (status : ℕ) (first last : Counts) → last.sink ≡ first.sink
    → EndsWith telling (Complete found) [] status first last
ends_complete Lines found status first last same = (inl refl, λ other whole. same)
ends_complete Replies found status first last same = (refl, λ other. same)

-- A run that came to its end has no last line.
pub tells_complete : (given : Given) (telling : Telling) (found : Bool) (moments : List Content) (held_before held : Option (List ℕ)) (status : ℕ) (before : List ℕ) (d : Content)
    → HasRunIn (outset_in given) telling given.content given.script (Complete found) moments held_before held → held_before ≡ Some before
    → content_now moments ≡ Some d → status ≡ status_of (Complete found) → (first last : Counts) → last.sink ≡ first.sink
    → IsSomeAnd held (λ text. IsSomeAnd (content_now moments) (TellsIn (outset_in given) given status first last before text))
tells_complete given telling found moments held_before held status before d run is_before told is_status first last same =
    tells_line given (Complete found) moments held_before held status before d is_before told is_status
    held first last [] tt (no_line held) (outset_in given) telling run (ends_complete telling found status first last same)

-- What is less than all of a line is not that line.
not_whole : (count : ℕ) (line : List ℕ) → count < length line → take count line ≡ line → ⊥
not_whole count line short is = omega (arith, short, length-take count line, ap length is)

pub ends_early : (telling : Telling) (ending : Ending) (status : ℕ) (first last : Counts) → (status ≢ 6 → last.sink ≡ first.sink)
    → EndsWith telling ending (last_text telling ending) status first last
ends_early Lines ending status first last passed = (inl refl, λ other whole. passed other)
ends_early Replies ending status first last passed = (refl, passed)

pub ends_torn : (telling : Telling) (ending : Ending) (status : ℕ) (first last : Counts) (count : ℕ) → count < length (last_text telling ending)
    → Rose first.sink last.sink → EndsWith telling ending (take count (last_text telling ending)) status first last
ends_torn Lines ending status first last count short rose = (inr (rose, count, short, refl), λ other whole. absurd (not_whole count _ short whole))
ends_torn Replies ending status first last count short rose = absurd (omega (arith, short))

-- One that was ended early has one where lines are written, or where the sink failed a part of it.
pub tells_early : (given : Given) (telling : Telling) (ended : Ended) (moments : List Content) (held_before held : Option (List ℕ)) (status : ℕ) (before : List ℕ) (d : Content)
    → HasRunIn (outset_in given) telling given.content given.script (ending_of ended) moments held_before held → held_before ≡ Some before
    → content_now moments ≡ Some d → status ≡ status_of (ending_of ended) → {T E R : Type 0} (result : Result T E) (after : Option (List ℕ)) (first mid : Counts) (sink : ℕ)
    → HasCauseIn (rises first mid) (ending_of ended) → IsCountedBy {R = R} (Err ended) first mid → HasCause mid.sink sink result
    → OnOk result (after ≡ option_map (with_bytes (last_text telling (ending_of ended))) held)
    → OnErr result (AddsPrefix (last_text telling (ending_of ended)) held after)
    → IsSomeAnd after (λ text. IsSomeAnd (content_now moments) (TellsIn (outset_in given) given status first (record mid { sink = sink }) before text))
tells_early given telling ended moments held_before held status before d run is_before told is_status (Ok x) after first mid sink cause counted put written err =
    tells_line given (ending_of ended) moments held_before held status before d is_before told is_status
    after first (record mid { sink = sink }) (last_text telling (ending_of ended)) (cause_later first mid sink put.later (ending_of ended) cause) written
    (outset_in given) telling run
    (ends_early telling (ending_of ended) status first (record mid { sink = sink })
    (λ other. put.passed ∙ counted.sink.passed (λ is. other (is_status ∙ sink_status ended _ refl is))))
tells_early given telling ended moments held_before held status before d run is_before told is_status (Err e) after first mid sink cause counted put written err =
    tells_line given (ending_of ended) moments held_before held status before d is_before told is_status
    after first (record mid { sink = sink }) (take err.count (last_text telling (ending_of ended))) (cause_later first mid sink put.later (ending_of ended) cause) err.held
    (outset_in given) telling run
    (ends_torn telling (ending_of ended) status first (record mid { sink = sink }) err.count err.short
    (rose_earlier _ _ _ counted.sink.later put.failed))

-- What was put of the last line stands behind what the sink held.
pub last_line_holds : {T E : Type 0} (result : Result T E) (line : List ℕ) (held after : Option (List ℕ))
    → OnOk result (after ≡ option_map (with_bytes line) held) → OnErr result (AddsPrefix line held after)
    → HoldsText [] held after
last_line_holds (Ok x) line held after written err = record { more = line; is = written }
last_line_holds (Err e) line held after written err = record { more = take err.count line; is = err.held }

-- ---- a disk that is bound, and what stood under its name

pub told_there : {first : NamedDisk} {sectors : ℕ} {before : List Content} {content : Content} → first ≡ record { sectors = sectors; moments = before }
    → content_now first.moments ≡ Some content → content_now before ≡ Some content
told_there is told = sym (ap (λ (n : NamedDisk). content_now n.moments) is) ∙ told

-- ---- what a status tells

-- The status of an image that is refused comes of that alone,
pub image_refused : (ended : Ended) → status_of (ending_of ended) ≡ 3 → IsBeforeScript ended
image_refused (Endings.Refused refusals.Words) is = tt
image_refused (Endings.Refused (refusals.Key refusal)) is = tt
image_refused (Endings.Refused (refusals.Line number refusal)) is = absurd (omega (arith, is))
image_refused (Endings.Refused refusals.Length) is = absurd (omega (arith, is))
image_refused (Endings.Refused (refusals.Image fault)) is = tt
image_refused (Endings.Refused (refusals.Second fault)) is = tt
image_refused (Endings.Refused (refusals.Legs a_blocks a_size b_blocks b_size)) is = tt
image_refused (Endings.Failed outers.Disk) is = absurd (omega (arith, is))
image_refused (Endings.Failed outers.Key) is = tt
image_refused (Endings.Failed outers.Script) is = absurd (omega (arith, is))
image_refused (Endings.Failed outers.Sink) is = absurd (omega (arith, is))
image_refused Endings.Memory is = absurd (omega (arith, is))

-- and a run that came to its end has another one.
pub complete_is_low : (found : Bool) → status_of (Complete found) ≤ 1
complete_is_low true = omega arith
complete_is_low false = omega arith

-- What ended a command has another one too.
pub ended_is_high : (ended : Ended) → 2 ≤ status_of (ending_of ended)
ended_is_high (Endings.Refused refusal) = refused_is_high (refusal_of refusal)
ended_is_high (Endings.Failed outers.Disk) = omega arith
ended_is_high (Endings.Failed outers.Key) = omega arith
ended_is_high (Endings.Failed outers.Script) = omega arith
ended_is_high (Endings.Failed outers.Sink) = omega arith
ended_is_high Endings.Memory = omega arith

-- That of want of memory does too.
pub memory_ended : (ended : Ended) → status_of (ending_of ended) ≡ 7 → ended ≡ Endings.Memory
memory_ended (Endings.Refused refusal) is = absurd (omega (arith, refused_is_low (refusal_of refusal), is))
memory_ended (Endings.Failed outers.Disk) is = absurd (omega (arith, is))
memory_ended (Endings.Failed outers.Key) is = absurd (omega (arith, is))
memory_ended (Endings.Failed outers.Script) is = absurd (omega (arith, is))
memory_ended (Endings.Failed outers.Sink) is = absurd (omega (arith, is))
memory_ended Endings.Memory is = refl

-- Where words, or want of memory, ended it, its status tells.
pub words_status : {T : Type 0} (ended : Ended) (r : Result T Ended) → r ≡ Err ended → (r ≡ Err (Endings.Refused refusals.Words)) ⊎ (r ≡ Err Endings.Memory)
    → (status_of (ending_of ended) ≡ 2) ⊎ (status_of (ending_of ended) ≡ 7)
words_status ended r is ends = elim ends [
  | inl words ↦ inl (ap (λ (e : Ended). status_of (ending_of e)) (same_ended ended (Endings.Refused refusals.Words) r is words))
  | inr memory ↦ inr (ap (λ (e : Ended). status_of (ending_of e)) (same_ended ended Endings.Memory r is memory))
]
