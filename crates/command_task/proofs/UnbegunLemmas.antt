-- A command that runs no line: what it leaves, what its run is, and what it takes of its script.
use Rattle.std.proofs.Common.{◌≡◌, inl, inr, ℕ, ◌+◌, ◌<◌, ◌≤◌, false, List, [], ◌∷◌, ◌++◌, length, take, append-nil, append_assoc, arith, refl, sym, ◌∙◌, ap, subst, Option, Some, None, unwrap_or, Result, Ok, Err}
use Rattle.std.specs.Option.{IsSomeAnd}
use Rattle.disk_model.specs.Disk.{Content, Image, last_image, newest_only}
use Rattle.disk_model.specs.Moments.{content_now, EachMoment, EachSince, HasNow}
use Rattle.disk_model.proofs.MomentsLemmas.{EachMoment-kept, EachMoment-weaker, content_at_end, no_moment}
use Rattle.device_model.specs.Device.{DeviceKind}
use Rattle.run_model.specs.Ending.{Ending, Complete, Refused, Failed, NoMemory}
use Rattle.run_model.specs.declared.key_refusal.KeyRefusal.{KeyRefusal}
use Rattle.device_model.specs.Mode.{DeviceFormat}
use Rattle.device_model.specs.Progress.{DeviceState}
use Rattle.device_model.specs.ScriptBytes.{is_too_long, most_piece}
use Rattle.run_model.specs.ScriptRun.{ScriptRun, ScriptStep, IsRunUpTo, IsRunOf, only_ends, texts_of}
use Rattle.nbd_model.specs.Stream.{most_stream, requests_of}
use Rattle.nbd_model.specs.Session.{session_deeds}
use Rattle.nbd_model.specs.Deeds.{changes_by, text_in}
use Rattle.run_model.specs.ServedRun.{EndsUnbegun}
use Rattle.nbd_model.proofs.CuttingLemmas.{none_unended, singles, small-none, small-singles, whole-singles}
use Rattle.run_laws.proofs.ScriptRunLemmas.{came_to_end, came_to_nothing}
use Rattle.run_laws.proofs.ReadingLemmas.{has_run}
use Rattle.device_model.specs.Refusals as Refusals
use Rattle.resize_model.specs.Left.{IsInOrderBy}
use Rattle.resize_model.specs.Refusals.{resize_fault_of}
use Rattle.formatting_model.specs.declared.new_image.NewImage.{NewImage}
use Rattle.command_task.specs.declared.asked.Asked.{Asked}
use Rattle.command_task.specs.declared.asked.Task.{Task}
use Rattle.command_task.specs.declared.asked.Task.TheVariants as Tasks
use Rattle.command_model.specs.Exercising.{exercise_image}
use Rattle.command_model.specs.Making.{IsMadeInOrder}
use Rattle.command_task.specs.Words.{key_file_of}
use Rattle.run_model.specs.CommandRun.{Exercising, Making, Outset, RefusedBy, RunsOn, Prints, Makes, Exercises, ReadsOn, Changes, Serves, Changing, IsSessionRun, IsAfterChanging, IsComplete, IsFromOutside, IsEndedShort, IsAtMoment, IsAfterExercise, IsAfterMaking, IsRunAt, IsUntouched, MayStandAt, only_prints}
use Rattle.command_task.specs.declared.telling.Telling.TheVariants.{Lines}
use Rattle.command_task.specs.Opening.{HasRunIn, HasRunOn}
use Rattle.command_model.specs.Opening.{HasReadIn, HasReadOn}
use Rattle.command_task.specs.Order.{IsInOrderAt, IsInOrderFor, IsInOrderUnder}
use Rattle.command_model.specs.Running.{HasReadTo}
use Rattle.command_model.specs.Taken.{HoldsText}
use Rattle.command_task.proofs.RunningLemmas.{complete_prints, told_further, told_nothing}
use Rattle.command_task.proofs.TextsLemmas.{none_short}
use Rattle.stream_io.specs.Stream.{held_with}
use Rattle.device.specs.Opening.{asked_mode}
use Rattle.device.proofs.TagsLemmas.{still_kept}
use Rattle.command_model.specs.Outset.{key_by}
use Rattle.run_model.specs.declared.outer.Outer.TheVariants as outers
use Rattle.command_task.proofs.OutsetLemmas.{IsFine, IsOfRun, IsSound}

-- ---- no sector is written

-- No sector is written where the disk is synced at most,
pub untouched_now : {a b : List Content} (start : Content) → content_now a ≡ Some start → EachSince (λ s c. c ≡ newest_only s) a b → HasNow (IsUntouched start) b
untouched_now {a} {b} start told each =
    content_at_end
    (EachMoment-weaker (λ c from. inr (subst (λ (o : Option Content). IsSomeAnd o (λ s. c ≡ newest_only s)) told from)) each)
    (λ c here. inl (some_same (sym here ∙ told)))
  where
    some_same : {c d : Content} → Some c ≡ Some d → c ≡ d
    some_same is = ap (λ (o : Option Content). unwrap_or o start) is

pub untouched_through : {a b : List Content} (start : Content) → content_now a ≡ Some start → EachSince (λ s c. c ≡ newest_only s) a b → EachMoment a b (IsUntouched start)
untouched_through start told each =
    EachMoment-weaker (λ c from. inr (subst (λ (o : Option Content). IsSomeAnd o (λ s. c ≡ newest_only s)) told from)) each

-- or where its moments are as before.
pub untouched_kept : {a b : List Content} (start : Content) → content_now a ≡ Some start → b ≡ a → HasNow (IsUntouched start) b
untouched_kept start told same c here =
    inl (ap (λ (o : Option Content). unwrap_or o start) (sym here ∙ ap content_now same ∙ told))

-- All is as it was before. Where a device is opened the disk may be synced, and what its journal held may be in its place.
abbrev pub IsAsBefore : Outset → (start later : Content) → Type 0
IsAsBefore (RefusedBy ending) start later = IsUntouched start later
IsAsBefore (RunsOn kind image) start later = IsAtMoment (RunsOn kind image) start [] later
IsAsBefore (Prints texts found) start later = later ≡ start
IsAsBefore (Makes making) start later = later ≡ start
IsAsBefore (Exercises exercising) start later = later ≡ start
IsAsBefore (ReadsOn kind image) start later = later ≡ start
IsAsBefore (Changes changing) start later = later ≡ start
IsAsBefore (Serves kind image) start later = IsAtMoment (Serves kind image) start [] later

pub as_same : (outset : Outset) (start later : Content) → later ≡ start → IsAsBefore outset start later
as_same (RefusedBy ending) start later same = inl same
as_same (RunsOn kind image) start later same = inl (refl, inl same)
as_same (Prints texts found) start later same = same
as_same (Makes making) start later same = same
as_same (Exercises exercising) start later same = same
as_same (ReadsOn kind image) start later same = same
as_same (Changes changing) start later same = same
as_same (Serves kind image) start later same = inl (refl, inl same)

-- So it is where the moments are.
pub before_kept : (outset : Outset) {a b : List Content} (start : Content) → content_now a ≡ Some start → b ≡ a → HasNow (IsAsBefore outset start) b
before_kept outset start told same c here =
    as_same outset start c (ap (λ (o : Option Content). unwrap_or o start) (sym here ∙ ap content_now same ∙ told))

-- ---- no line is run

-- The run of a script on a device that has just been opened.
run_on : (kind : DeviceKind) (image : Image) (script : List ℕ) → (run : ScriptRun) × IsRunOf (kind.format image) (kind.opened image) script run
run_on kind image script = has_run (kind.format image) (kind.opened image) script

-- A session on it, whose stream comes byte by byte.
serve_on : (kind : DeviceKind) (image : Image) (stream : List ℕ) → (run : ScriptRun) × IsSessionRun (kind.format image) (kind.opened image) stream run
serve_on kind image stream =
    let f = kind.format image in
    let s = kind.opened image in
    let bytes = take most_stream stream in
    let deeds = session_deeds f s (requests_of stream).ending (singles bytes) in
    let step : ScriptStep = record { text = text_in deeds; changes = changes_by f s deeds } in (
      record { steps = step ∷ []; ending = Complete false },
      record {
        deeds = deeds;
        is_session = record { pieces = singles bytes; cut = whole-singles bytes; small = small-singles bytes; is = refl };
        prints = append-nil (text_in deeds);
        does = append-nil (changes_by f s deeds);
      },
    )

-- Whatever a command starts on, it has a run.
pub some_run : (outset : Outset) (script : List ℕ) → (run : ScriptRun) × IsRunAt outset script run
some_run (RefusedBy ending) script = (only_ends ending, refl)
some_run (RunsOn kind image) script = run_on kind image script
some_run (Prints texts found) script = (only_prints texts found, refl)
some_run (Makes making) script = (only_prints (making.text ∷ []) false, refl)
some_run (Exercises exercising) script = (only_ends NoMemory, inr (record { ending = NoMemory; outside = tt; is = refl }))
some_run (ReadsOn kind image) script = run_on kind image script
some_run (Changes changing) script = (only_prints (changing.text ∷ []) false, refl)
some_run (Serves kind image) script = serve_on kind image script

pub before_may_be_left : (outset : Outset) → IsOfRun outset → (start : Content) (script : List ℕ) (later : Content) → IsAsBefore outset start later → MayStandAt outset start script later
before_may_be_left (RefusedBy ending) of start script later before = record { run = only_ends ending; is_run = refl; made = 0; left = before }
before_may_be_left (RunsOn kind image) of start script later before =
    let r = run_on kind image script in record { run = r.0; is_run = r.1; made = 0; left = before }
before_may_be_left (Prints texts found) of start script later before = absurd of
before_may_be_left (Makes making) of start script later before = absurd of
before_may_be_left (Exercises exercising) of start script later before = absurd of
before_may_be_left (ReadsOn kind image) of start script later before =
    let r = run_on kind image script in record { run = r.0; is_run = r.1; made = 0; left = before }
before_may_be_left (Changes changing) of start script later before = absurd of
before_may_be_left (Serves kind image) of start script later before =
    let r = serve_on kind image script in record { run = r.0; is_run = r.1; made = 0; left = before }

short_of : (f : DeviceFormat) (s : DeviceState) (script : List ℕ) (run : ScriptRun) (ending : Ending) → IsRunOf f s script run → IsFromOutside ending → IsEndedShort run [] [] ending
short_of f s script run ending is outside = record {
  came = subst (λ (r : ScriptRun). IsRunUpTo r [] []) (sym is.is) (came_to_nothing f (is_too_long script) 1 s false is.lines);
  whole_steps = λ other. (0, refl);
  short = subst (λ (r : ScriptRun). IsComplete r → 0 < length (texts_of r.steps)) (sym is.is) (complete_prints f (is_too_long script) 1 s false is.lines);
  outside = outside;
}

-- What is outside may end a command before it has begun: but the sink, which is not called then.
early_outside : (ending : Ending) → EndsUnbegun ending → IsFromOutside ending
early_outside (Complete found_fault) early = absurd early
early_outside (Refused refusal) early = absurd early
early_outside (Failed outer) early = tt
early_outside NoMemory early = tt

left_unmade : (making : Making) → IsFine (Makes making) → (start later : Content) (ending : Ending) → EndsUnbegun ending → later ≡ start → IsAfterMaking making start ending later
left_unmade making fine start later (Complete found_fault) early same = absurd early
left_unmade making fine start later (Refused refusal) early same = absurd early
left_unmade making fine start later (Failed outers.Disk) early same =
    subst (λ (c : Content). making.MayBeLeft start c) (sym same) (fine.1 start)
left_unmade making fine start later (Failed outers.Key) early same = same
left_unmade making fine start later (Failed outers.Script) early same = absurd early
left_unmade making fine start later (Failed outers.Sink) early same = absurd early
left_unmade making fine start later NoMemory early same = same

left_unchanged : (changing : Changing) → IsFine (Changes changing) → (start later : Content) (ending : Ending) → EndsUnbegun ending → later ≡ start → IsAfterChanging changing start ending later
left_unchanged changing fine start later (Complete found_fault) early same = absurd early
left_unchanged changing fine start later (Refused refusal) early same = absurd early
left_unchanged changing fine start later (Failed outers.Disk) early same =
    subst (λ (c : Content). changing.MayBeLeft start c) (sym same) (fine.1 start)
left_unchanged changing fine start later (Failed outers.Key) early same = same
left_unchanged changing fine start later (Failed outers.Script) early same = absurd early
left_unchanged changing fine start later (Failed outers.Sink) early same = absurd early
left_unchanged changing fine start later NoMemory early same = inl same

left_unexercised : (e : Exercising) → IsFine (Exercises e) → (start later : Content) (ending : Ending) → EndsUnbegun ending → later ≡ start → IsAfterExercise e start [] ending later
left_unexercised e fine start later (Complete found_fault) early same = absurd early
left_unexercised e fine start later (Refused refusal) early same = absurd early
left_unexercised e fine start later (Failed outers.Disk) early same =
    inl (refl, subst (λ (c : Content). e.MayBeLeft start c) (sym same) (fine start))
left_unexercised e fine start later (Failed outers.Key) early same = same
left_unexercised e fine start later (Failed outers.Script) early same = absurd early
left_unexercised e fine start later (Failed outers.Sink) early same = absurd early
left_unexercised e fine start later NoMemory early same = inl (refl, same)

-- Something outside ended a command before its first line.
pub nothing_run : (outset : Outset) → IsFine outset → (start : Content) (script : List ℕ) (ending : Ending) → EndsUnbegun ending
    → (after : List Content) → HasNow (IsAsBefore outset start) after → (held_before held : Option (List ℕ)) → held ≡ held_before → HasRunOn outset start script ending after held_before held
nothing_run (RefusedBy refused) fine start script ending outside after untouched held_before held same = record {
  run = only_ends refused;
  is_run = refl;
  text = [];
  changes = [];
  ended = inr (record {
    came = came_to_end refused;
    whole_steps = λ other. (0, refl);
    short = λ complete. absurd (fine complete.0 complete.1);
    outside = early_outside ending outside;
  });
  told = same ∙ told_nothing held_before;
  left = untouched;
}
nothing_run (RunsOn kind image) fine start script ending outside after untouched held_before held same =
    let r = run_on kind image script in record {
      run = r.0;
      is_run = r.1;
      text = [];
      changes = [];
      ended = inr (short_of (kind.format image) (kind.opened image) script r.0 ending r.1 (early_outside ending outside));
      told = same ∙ told_nothing held_before;
      left = untouched;
    }
nothing_run (Prints texts found) fine start script ending outside after untouched held_before held same = record {
  run = only_prints texts found;
  is_run = refl;
  text = [];
  changes = [];
  ended = inr (none_short texts found ending fine (early_outside ending outside));
  told = same ∙ told_nothing held_before;
  left = untouched;
}
nothing_run (Makes making) fine start script ending outside after untouched held_before held same = record {
  run = only_prints (making.text ∷ []) false;
  is_run = refl;
  text = [];
  changes = [];
  ended = inr (none_short (making.text ∷ []) false ending fine.0 (early_outside ending outside));
  told = same ∙ told_nothing held_before;
  left = λ c told. left_unmade making fine start c ending outside (untouched c told);
}
nothing_run (Exercises exercising) fine start script ending outside after untouched held_before held same = record {
  run = only_ends ending;
  is_run = inr (record { ending = ending; outside = early_outside ending outside; is = refl });
  text = [];
  changes = [];
  ended = inl (record { whole = record { is_text = refl; is_changes = refl }; is = refl });
  told = same ∙ told_nothing held_before;
  left = λ c told. left_unexercised exercising fine start c ending outside (untouched c told);
}
nothing_run (ReadsOn kind image) fine start script ending outside after untouched held_before held same =
    let r = run_on kind image script in record {
      run = r.0;
      is_run = r.1;
      text = [];
      changes = [];
      ended = inr (short_of (kind.format image) (kind.opened image) script r.0 ending r.1 (early_outside ending outside));
      told = same ∙ told_nothing held_before;
      left = untouched;
    }
nothing_run (Changes changing) fine start script ending outside after untouched held_before held same = record {
  run = only_prints (changing.text ∷ []) false;
  is_run = refl;
  text = [];
  changes = [];
  ended = inr (none_short (changing.text ∷ []) false ending fine.0 (early_outside ending outside));
  told = same ∙ told_nothing held_before;
  left = λ c told. left_unchanged changing fine start c ending outside (untouched c told);
}
nothing_run (Serves kind image) fine start script ending outside after untouched held_before held same = absurd fine

-- It was refused.
pub refused_run : (outset : Outset) (start : Content) (script : List ℕ) (ending : Ending) → outset ≡ RefusedBy ending
    → (after : List Content) → HasNow (IsUntouched start) after → (held_before held : Option (List ℕ)) → held ≡ held_before → HasRunOn outset start script ending after held_before held
refused_run outset start script ending is after untouched held_before held same =
    subst (λ (o : Outset). HasRunOn o start script ending after held_before held) (sym is) (record {
      run = only_ends ending;
      is_run = refl;
      text = [];
      changes = [];
      ended = inl (record { whole = record { is_text = refl; is_changes = refl }; is = refl });
      told = same ∙ told_nothing held_before;
      left = untouched;
    })

-- ---- the same where a stream may be served

-- A run is told by lines, and so is what is told by lines where no stream is served.
module _ (start : Content) (script : List ℕ) (ending : Ending) (after : List Content) (held_before held : Option (List ℕ)) where
  abbrev RunsOn_ : Outset → Type 0
  RunsOn_ outset = HasRunOn outset start script ending after held_before held

  abbrev RunsIn_ : Outset → Type 0
  RunsIn_ outset = HasRunIn outset Lines start script ending after held_before held

  run_in : (outset : Outset) → IsFine outset → RunsOn_ outset → RunsIn_ outset
  run_in (RefusedBy refused) fine run = run
  run_in (RunsOn kind image) fine run = run
  run_in (Prints texts found) fine run = run
  run_in (Makes making) fine run = run
  run_in (Exercises exercising) fine run = run
  run_in (ReadsOn kind image) fine run = run
  run_in (Changes changing) fine run = run
  run_in (Serves kind image) fine run = absurd fine

  run_out : (outset : Outset) → IsFine outset → RunsIn_ outset → RunsOn_ outset
  run_out (RefusedBy refused) fine run = run
  run_out (RunsOn kind image) fine run = run
  run_out (Prints texts found) fine run = run
  run_out (Makes making) fine run = run
  run_out (Exercises exercising) fine run = run
  run_out (ReadsOn kind image) fine run = run
  run_out (Changes changing) fine run = run
  run_out (Serves kind image) fine run = absurd fine

pub told_by_lines : (outset : Outset) → IsFine outset → (start : Content) (script : List ℕ) (ending : Ending) (after : List Content)
    (held_before held : Option (List ℕ)) → HasRunOn outset start script ending after held_before held
    → HasRunIn outset Lines start script ending after held_before held
told_by_lines outset fine start script ending after held_before held = run_in start script ending after held_before held outset fine

pub ran_in : (outset : Outset) → IsFine outset → (start : Content) (script : List ℕ) (ending : Ending) (after : List Content)
    (held_before held : Option (List ℕ)) → HasRunIn outset Lines start script ending after held_before held
    → HasRunOn outset start script ending after held_before held
ran_in outset fine start script ending after held_before held = run_out start script ending after held_before held outset fine

-- Something outside ended it before it had begun,
pub nothing_begun : (outset : Outset) → IsSound outset → (start : Content) (script : List ℕ) (ending : Ending) → EndsUnbegun ending
    → (after : List Content) → HasNow (IsAsBefore outset start) after → (held_before held : Option (List ℕ)) → held ≡ held_before
    → HasRunIn outset Lines start script ending after held_before held
nothing_begun (RefusedBy refused) sound start script ending outside after untouched held_before held same =
    nothing_run (RefusedBy refused) sound start script ending outside after untouched held_before held same
nothing_begun (RunsOn kind image) sound start script ending outside after untouched held_before held same =
    nothing_run (RunsOn kind image) sound start script ending outside after untouched held_before held same
nothing_begun (Prints texts found) sound start script ending outside after untouched held_before held same =
    nothing_run (Prints texts found) sound start script ending outside after untouched held_before held same
nothing_begun (Makes making) sound start script ending outside after untouched held_before held same =
    nothing_run (Makes making) sound start script ending outside after untouched held_before held same
nothing_begun (Exercises exercising) sound start script ending outside after untouched held_before held same =
    nothing_run (Exercises exercising) sound start script ending outside after untouched held_before held same
nothing_begun (ReadsOn kind image) sound start script ending outside after untouched held_before held same =
    nothing_run (ReadsOn kind image) sound start script ending outside after untouched held_before held same
nothing_begun (Changes changing) sound start script ending outside after untouched held_before held same =
    nothing_run (Changes changing) sound start script ending outside after untouched held_before held same
nothing_begun (Serves kind image) sound start script ending outside after untouched held_before held same =
    record { outside = outside; told = same; left = untouched }

-- or it was refused.
pub refused_begun : (outset : Outset) (start : Content) (script : List ℕ) (ending : Ending) → outset ≡ RefusedBy ending
    → (after : List Content) → HasNow (IsUntouched start) after → (held_before held : Option (List ℕ)) → held ≡ held_before
    → HasRunIn outset Lines start script ending after held_before held
refused_begun outset start script ending is after untouched held_before held same =
    subst (λ (o : Outset). HasRunIn o Lines start script ending after held_before held) (sym is)
    (refused_run (RefusedBy ending) start script ending refl after untouched held_before held same)

-- ---- what is taken of the script

pub read_in : {failed : Type 0} (outset : Outset) → IsFine outset → (script : List ℕ) (left held_before held : Option (List ℕ))
    → HasReadOn outset script left held_before held failed → HasReadIn outset script left held_before held failed
read_in (RefusedBy refused) fine script left held_before held read = read
read_in (RunsOn kind image) fine script left held_before held read = read
read_in (Prints texts found) fine script left held_before held read = read
read_in (Makes making) fine script left held_before held read = read
read_in (Exercises exercising) fine script left held_before held read = read
read_in (ReadsOn kind image) fine script left held_before held read = read
read_in (Changes changing) fine script left held_before held read = read
read_in (Serves kind image) fine script left held_before held read = absurd fine

read_none_on : (outset : Outset) (script : List ℕ) (held : Option (List ℕ)) {left : Option (List ℕ)} {failed : Type 0}
    → left ≡ Some script → HasReadOn outset script left held held failed
read_none_on outset script held told =
    let run = some_run outset script in
    record {
      run = run.0;
      is_run = run.1;
      read = record {
        done = 0;
        of_run = omega arith;
        printed = record { more = []; is = told_nothing held };
        front = [];
        line = [];
        ending = [];
        behind = script;
        bytes = refl;
        within = omega arith;
        plain = λ at x less is. absurd (omega (arith, less));
        short = omega arith;
        taken = subst (λ (o : Option (List ℕ)). IsSomeAnd o (λ more. length script ≤ length more + most_piece))
            (sym told) (omega arith);
        asked = λ rose. told;
      };
    }

-- Nothing of it is taken.
pub read_none : (outset : Outset) (script : List ℕ) (held : Option (List ℕ)) {left : Option (List ℕ)} (failed : Type 0)
    → left ≡ Some script → HasReadIn outset script left held held failed
read_none (RefusedBy refused) script held failed told = read_none_on (RefusedBy refused) script held told
read_none (RunsOn kind image) script held failed told = read_none_on (RunsOn kind image) script held told
read_none (Prints texts found) script held failed told = read_none_on (Prints texts found) script held told
read_none (Makes making) script held failed told = read_none_on (Makes making) script held told
read_none (Exercises exercising) script held failed told = read_none_on (Exercises exercising) script held told
read_none (ReadsOn kind image) script held failed told = read_none_on (ReadsOn kind image) script held told
read_none (Changes changing) script held failed told = read_none_on (Changes changing) script held told
read_none (Serves kind image) script held failed told = record {
  pieces = [];
  small = small-none;
  behind = script;
  bytes = refl;
  taken = told;
  done = 0;
  but_one = omega arith;
  printed = record { more = []; is = told_nothing held };
  unended = none_unended;
  asked = λ rose. omega arith;
}

-- More is printed.
pub holds_further : {text : List ℕ} {held_before held held_after : Option (List ℕ)} → HoldsText text held_before held → HoldsText [] held held_after
    → HoldsText text held_before held_after
holds_further {text} {held_before} printed more = record {
  more = printed.more ++ more.more;
  is = more.is ∙ ap (held_with more.more) printed.is ∙ told_further (text ++ printed.more) more.more held_before
      ∙ ap (λ (l : List ℕ). held_with l held_before) (append_assoc text printed.more more.more);
}

pub read_further : (run : ScriptRun) (script : List ℕ) (left held_before held : Option (List ℕ)) {held_after : Option (List ℕ)}
    {failed : Type 0} → HasReadTo run script left held_before held failed → HoldsText [] held held_after
    → HasReadTo run script left held_before held_after failed
read_further run script left held_before held read more = record {
  done = read.done;
  of_run = read.of_run;
  printed = holds_further read.printed more;
  front = read.front;
  line = read.line;
  ending = read.ending;
  behind = read.behind;
  bytes = read.bytes;
  within = read.within;
  plain = read.plain;
  short = read.short;
  taken = read.taken;
  asked = read.asked;
}

read_on_further : (outset : Outset) (script : List ℕ) (left held_before held : Option (List ℕ)) {held_after : Option (List ℕ)}
    {failed : Type 0} → HasReadOn outset script left held_before held failed → HoldsText [] held held_after
    → HasReadOn outset script left held_before held_after failed
read_on_further outset script left held_before held read more =
    record { run = read.run; is_run = read.is_run; read = read_further read.run script left held_before held read.read more }

pub read_in_further : (outset : Outset) (script : List ℕ) (left held_before held : Option (List ℕ)) {held_after : Option (List ℕ)}
    (failed : Type 0) → HasReadIn outset script left held_before held failed → HoldsText [] held held_after
    → HasReadIn outset script left held_before held_after failed
read_in_further (RefusedBy refused) script left held_before held failed read more = read_on_further (RefusedBy refused) script left held_before held read more
read_in_further (RunsOn kind image) script left held_before held failed read more = read_on_further (RunsOn kind image) script left held_before held read more
read_in_further (Prints texts found) script left held_before held failed read more = read_on_further (Prints texts found) script left held_before held read more
read_in_further (Makes making) script left held_before held failed read more = read_on_further (Makes making) script left held_before held read more
read_in_further (Exercises exercising) script left held_before held failed read more = read_on_further (Exercises exercising) script left held_before held read more
read_in_further (ReadsOn kind image) script left held_before held failed read more = read_on_further (ReadsOn kind image) script left held_before held read more
read_in_further (Changes changing) script left held_before held failed read more = read_on_further (Changes changing) script left held_before held read more
read_in_further (Serves kind image) script left held_before held failed read more = record {
  pieces = read.pieces;
  small = read.small;
  behind = read.behind;
  bytes = read.bytes;
  taken = read.taken;
  done = read.done;
  but_one = read.but_one;
  printed = holds_further read.printed more;
  unended = read.unended;
  asked = read.asked;
}

-- ---- the order

-- A disk that is not written is no further than at the start of a resize, whatever the image is.
unresized : (key : Option (List ℕ)) (sectors : ℕ) (refusal : Option Refusals.ImageFault) {a b : List Content} → b ≡ a
    → IsInOrderBy refusal key sectors a b
unresized key sectors None {a} same = record { unsynced = a; earlier = no_moment a _; later = EachMoment-kept _ same }
unresized key sectors (Some refusal) same = EachMoment-kept _ same

-- Nor is it further than at the start of a making.
unmade_kept : (key : Option (List ℕ)) (sectors : ℕ) (new : NewImage) {a b : List Content} → b ≡ a → IsMadeInOrder key sectors new a b
unmade_kept key sectors new same = record { order = inl (EachMoment-kept _ same); writes = EachMoment-kept _ same }

-- So it keeps to every order.
kept_at : (task : Task) (key : Option (List ℕ)) (sectors : ℕ) {a b : List Content} → b ≡ a → IsInOrderAt task key sectors a b
kept_at (Tasks.Run mode) key sectors same = still_kept (asked_mode mode) same
kept_at (Tasks.Serve mode) key sectors same = still_kept (asked_mode mode) same
kept_at Tasks.Dump key sectors same = same
kept_at (Tasks.Check what) key sectors same = same
kept_at Tasks.Salvage key sectors same = same
kept_at Tasks.Resize key sectors same = λ start told. unresized key sectors (resize_fault_of key sectors (last_image start)) same
kept_at (Tasks.Format new) key sectors same = unmade_kept key sectors new same
kept_at (Tasks.Exercise seed count) key sectors {b = b} same =
    record {
      made = b;
      making = unmade_kept None sectors exercise_image same;
      behind = no_moment b _;
      by_line = λ start told. inl refl;
    }

kept_under : (task : Task) (told : Result (Option (List ℕ)) KeyRefusal) (sectors : ℕ) {a b : List Content} → b ≡ a → IsInOrderUnder task told sectors a b
kept_under task (Ok key) sectors same = kept_at task key sectors same
kept_under task (Err refusal) sectors same = tt

pub kept_for : (asked : Option Asked) (key_bytes : List ℕ) (sectors : ℕ) {a b : List Content} → b ≡ a → IsInOrderFor asked key_bytes sectors a b
kept_for None key_bytes sectors same = tt
kept_for (Some asked) key_bytes sectors same = kept_under asked.task (key_by (key_file_of asked.hash) key_bytes) sectors same
