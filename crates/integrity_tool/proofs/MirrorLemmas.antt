-- A command of two images: what has caused its end, and its last line and its status behind a run that came so far.
use Rattle.std.proofs.Common.{◌≡◌, ℕ, Bool, List, [], ◌++◌, take, refl, sym, ◌∙◌, ap, subst, append_assoc, ◌⊎◌, inl, inr, Option, Some, Result, Ok, Err, IfErr, OnOk, OnErr}
use Rattle.std.specs.Option.{option_map, IsSomeAnd}
use Rattle.disk_model.specs.Causes.{HasCause, Rose}
use Rattle.disk_model.specs.Disk.{Content}
use Rattle.disk_model.specs.Moments.{content_now}
use Rattle.run_model.specs.Ending.{Ending, Complete, status_of}
use Rattle.run_model.specs.CommandRun.{Faults, HasCauseIn}
use Rattle.mirror_model.specs.Command.{Mirrors, MirrorOutset, RefusedBefore, RefusedLegs, RefusedOpen}
use Rattle.command_model.specs.Taken.{HoldsText}
use Rattle.command_task.proofs.UnbegunLemmas.{holds_further}
use Rattle.stream_io.specs.Stream.{AddsPrefix, held_with, with_bytes}
use Rattle.command_ending.specs.Ended.{ending_of}
use Rattle.command_ending.specs.declared.ended.Ended.{Ended}
use Rattle.command_ending.specs.declared.ended.Ended.TheVariants as Endings
use Rattle.run_model.specs.declared.outer.Outer.TheVariants as outers
use Rattle.script_lines.specs.Ends.{HasEndCause}
use Rattle.command_task.specs.Telling.{last_text}
use Rattle.command_task.specs.declared.telling.Telling.TheVariants.{Lines}
use Rattle.command_model.specs.Mirroring.{HasReadIn}
use Rattle.command_mirror.specs.Calls.{EndsMirror}
use Rattle.command_mirror.specs.Mirrored.{HasMirrored}
use Rattle.integrity_tool.specs.Mirrored.{MirrorGiven, TellsMirror, mirror_outset_in}
use Rattle.integrity_tool.specs.Top.{IsCountedBy}
use Rattle.command_model.specs.World.{Counts, either_rises}
use Rattle.integrity_tool.proofs.TopLemmas.{EndsWith, either_later, ends_complete, ends_early, ends_torn, no_line, rose_earlier, sink_status}

-- ---- causes

-- What ends a run on two images is no source of keys.
cause_on_mirror : (faults : Faults) (disk_rose : Type 0) → (disk_rose → faults.disk) → (ended : Ended) → EndsMirror ended
    → HasEndCause disk_rose faults.script faults.sink ended → HasCauseIn faults (ending_of ended)
cause_on_mirror faults disk_rose rose (Endings.Refused refusal) ends cause = tt
cause_on_mirror faults disk_rose rose (Endings.Failed outers.Disk) ends cause = rose cause
cause_on_mirror faults disk_rose rose (Endings.Failed outers.Key) ends cause = absurd ends
cause_on_mirror faults disk_rose rose (Endings.Failed outers.Script) ends cause = cause
cause_on_mirror faults disk_rose rose (Endings.Failed outers.Sink) ends cause = cause
cause_on_mirror faults disk_rose rose Endings.Memory ends cause = tt

pub causes_on_mirror : {T : Type 0} (faults : Faults) (disk_rose : Type 0) → (disk_rose → faults.disk) → (r : Result T Ended)
    → IfErr r EndsMirror → IfErr r (HasEndCause disk_rose faults.script faults.sink) → IfErr r (λ ended. HasCauseIn faults (ending_of ended))
causes_on_mirror faults disk_rose rose (Ok x) ends cause = tt
causes_on_mirror faults disk_rose rose (Err ended) ends cause = cause_on_mirror faults disk_rose rose ended ends cause

-- One of two disks failed where one alone did.
pub either_rose : {a b c d : ℕ} → ((Rose a b) × (d ≡ c)) ⊎ ((b ≡ a) × (Rose c d)) → Rose a b ⊎ Rose c d
either_rose one = elim one [
  | inl rose ↦ inl rose.0
  | inr rose ↦ inr rose.1
]

-- ---- the last line

module _ (given : MirrorGiven) (ending : Ending) (moments second_moments : List Content) (held_before held : Option (List ℕ)) (status : ℕ)
    (before : List ℕ) (d e : Content) (is_before : held_before ≡ Some before) (told : content_now moments ≡ Some d)
    (second_told : content_now second_moments ≡ Some e) (is_status : status ≡ status_of ending) (after : Option (List ℕ)) (first last : Counts)
    (line : List ℕ) (cause : HasCauseIn (either_rises first last) ending) (is_after : after ≡ option_map (with_bytes line) held) where
  -- The sink holds this text behind what it held, and both disks what goes with it.
  abbrev Told : Option (List ℕ) → Type 0
  Told shown = IsSomeAnd shown (λ text. IsSomeAnd (content_now moments) (λ later. IsSomeAnd (content_now second_moments)
      (TellsMirror given status first last before text later)))

  -- A run came so far, and this line stands behind its text.
  pub tells_behind : HasMirrored (mirror_outset_in given) given.content given.second_content given.script ending moments second_moments held_before held
      → EndsWith Lines ending line status first last → Told after
  tells_behind run end =
      let all : after ≡ Some ((before ++ run.text) ++ line) =
      is_after ∙ ap (option_map (with_bytes line)) run.told ∙ ap (λ (o : Option (List ℕ)). option_map (with_bytes line) (held_with run.text o)) is_before in
      let tells : TellsMirror given status first last before ((before ++ run.text) ++ line) d e = record {
        told = record {
          run = run.run;
          is_run = run.is_run;
          text = run.text;
          changes = run.changes;
          ending = ending;
          ended = run.ended;
          cause = cause;
          is_status = is_status;
          line = line;
          last = end.0;
          printed = append_assoc before run.text line;
          left = run.left d told e second_told;
        };
        sink_passed = end.1;
      } in
      subst Told (sym all)
      (subst (λ (o : Option Content). IsSomeAnd o (λ later. IsSomeAnd (content_now second_moments)
      (TellsMirror given status first last before ((before ++ run.text) ++ line) later))) (sym told)
      (subst (λ (o : Option Content). IsSomeAnd o (TellsMirror given status first last before ((before ++ run.text) ++ line) d)) (sym second_told)
      tells))

-- ---- for callers

-- A run that came to its end has no last line.
pub mirror_complete : (given : MirrorGiven) (found : Bool) (moments second_moments : List Content) (held_before held : Option (List ℕ)) (status : ℕ)
    (before : List ℕ) (d e : Content)
    → HasMirrored (mirror_outset_in given) given.content given.second_content given.script (Complete found) moments second_moments held_before held
    → held_before ≡ Some before → content_now moments ≡ Some d → content_now second_moments ≡ Some e → status ≡ status_of (Complete found)
    → (first last : Counts) → last.sink ≡ first.sink
    → IsSomeAnd held (λ text. IsSomeAnd (content_now moments) (λ later. IsSomeAnd (content_now second_moments)
    (TellsMirror given status first last before text later)))
mirror_complete given found moments second_moments held_before held status before d e run is_before told second_told is_status first last same =
    tells_behind given (Complete found) moments second_moments held_before held status before d e is_before told second_told is_status
    held first last [] tt (no_line held) run (ends_complete Lines found status first last same)

-- One that was ended early has one, or where the sink failed a part of it.
pub mirror_early : (given : MirrorGiven) (ended : Ended) (moments second_moments : List Content) (held_before held : Option (List ℕ)) (status : ℕ)
    (before : List ℕ) (d e : Content)
    → HasMirrored (mirror_outset_in given) given.content given.second_content given.script (ending_of ended) moments second_moments held_before held
    → held_before ≡ Some before → content_now moments ≡ Some d → content_now second_moments ≡ Some e → status ≡ status_of (ending_of ended)
    → {T F R : Type 0} (result : Result T F) (after : Option (List ℕ)) (first mid : Counts) (sink : ℕ)
    → HasCauseIn (either_rises first mid) (ending_of ended) → IsCountedBy {R = R} (Err ended) first mid → HasCause mid.sink sink result
    → OnOk result (after ≡ option_map (with_bytes (last_text Lines (ending_of ended))) held)
    → OnErr result (AddsPrefix (last_text Lines (ending_of ended)) held after)
    → IsSomeAnd after (λ text. IsSomeAnd (content_now moments) (λ later. IsSomeAnd (content_now second_moments)
    (TellsMirror given status first (record mid { sink = sink }) before text later)))
mirror_early given ended moments second_moments held_before held status before d e run is_before told second_told is_status (Ok x) after first mid sink cause counted put written err =
    tells_behind given (ending_of ended) moments second_moments held_before held status before d e is_before told second_told is_status
    after first (record mid { sink = sink }) (last_text Lines (ending_of ended)) (either_later first mid sink put.later (ending_of ended) cause) written
    run
    (ends_early Lines (ending_of ended) status first (record mid { sink = sink })
    (λ other. put.passed ∙ counted.sink.passed (λ is. other (is_status ∙ sink_status ended _ refl is))))
mirror_early given ended moments second_moments held_before held status before d e run is_before told second_told is_status (Err f) after first mid sink cause counted put written err =
    tells_behind given (ending_of ended) moments second_moments held_before held status before d e is_before told second_told is_status
    after first (record mid { sink = sink }) (take err.count (last_text Lines (ending_of ended))) (either_later first mid sink put.later (ending_of ended) cause) err.held
    run
    (ends_torn Lines (ending_of ended) status first (record mid { sink = sink }) err.count err.short
    (rose_earlier _ _ _ counted.sink.later put.failed))

-- What is printed behind that leaves what is taken of the script.
pub mirror_read_further : (outset : MirrorOutset) (script : List ℕ) (left held_before held : Option (List ℕ)) {held_after : Option (List ℕ)} (failed : Type 0)
    → HasReadIn outset script left held_before held failed → HoldsText [] held held_after → HasReadIn outset script left held_before held_after failed
mirror_read_further (RefusedBefore ending) script left held_before held failed read more = read
mirror_read_further (RefusedOpen kind first fault) script left held_before held failed read more = read
mirror_read_further (RefusedLegs kind first second) script left held_before held failed read more = read
mirror_read_further (Mirrors kind first second) script left held_before held failed read more = λ run is.
    let r = read run is in
    record {
      done = r.done;
      of_run = r.of_run;
      printed = holds_further r.printed more;
      front = r.front;
      line = r.line;
      ending = r.ending;
      behind = r.behind;
      bytes = r.bytes;
      within = r.within;
      plain = r.plain;
      short = r.short;
      taken = r.taken;
      asked = r.asked;
      untouched = r.untouched;
    }
