-- What stops a run at its close.
use Rattle.std.proofs.Common.{Result, Ok, Err, IfErr, ◌≡◌, inl, inr, ℕ, ◌<◌, List, [], length, take, refl, sym, ◌∙◌, ap, subst, arith, append-nil, length-take, Option, OnOk}
use Rattle.disk_model.specs.Disk.{Content}
use Rattle.disk_model.specs.Moments.{EachMoment}
use Rattle.disk_model.proofs.MomentsLemmas.{EachMoment-weaker}
use Rattle.device_model.specs.Device.{DeviceKind, IsLeftWithin}
use Rattle.run_model.specs.Ending.{Complete, Failed}
use Rattle.device_model.specs.History.{Change, with_changes}
use Rattle.device_model.specs.Progress.{Event, Close, FailedClose, after_event}
use Rattle.run_model.specs.ScriptRun.{ScriptStep, changes_in, close_step, only_ends, texts_of}
use Rattle.device_model.specs.Transcript.{closed_text}
use Rattle.direct_laws.specs.MomentLaws.{IsLeftNow, IsLeftThrough}
use Rattle.stream_io.specs.Stream.{AddsPrefix, held_with}
use Rattle.run_laws.proofs.ScriptRunLemmas.{came_into, run_is_whole}
use Rattle.device_parts.specs.declared.condition.Condition.TheVariants.{Working}
use Rattle.script_text.specs.declared.tags_found.TagsFound.{TagsFound}
use Rattle.script_text.specs.Found.{finds_fault}
use Rattle.device.specs.declared.mode.DeviceParts.{DeviceParts}
use Rattle.device.specs.Answers.{KeepsClearTags, WritesInClose}
use Rattle.device.specs.Device.{IsDevice, kind_of}
use Rattle.device_parts.specs.Device.{Standing}
use Rattle.device.specs.Tags.{Leaves}
use Rattle.device.proofs.LeavesLemmas.{close_leaves}
use Rattle.device.proofs.RunLemmas.{left-wider}
use Rattle.command_ending.specs.declared.ended.Ended.{Ended}
use Rattle.command_run.specs.Closing.{HasCloseCounts, close_ending, ended_close}
use Rattle.command_task.specs.Opening.{EndsImage}
use Rattle.command_task.specs.Running.{ending_by}
use Rattle.script_lines.specs.Ends.{IsCounted}
use Rattle.command_run.specs.Stopping.{IsStopped, only_close}
use Rattle.command_run.specs.declared.closing.CloseFault.{CloseFault}
use Rattle.command_run.specs.declared.closing.CloseFault.TheVariants as CloseFaults
use Rattle.command_task.proofs.RunningLemmas.{told_nothing}
use Rattle.run_model.specs.declared.outer.Outer.TheVariants as outers
use Rattle.command_task.proofs.DeviceLemmas.{since_event, failed_close}

-- ---- what a close does

-- What a close leaves the rest of a run does.
pub closing_leaves : (w : Standing) (found : TagsFound) (parts : DeviceParts) (a b : List Content)
    → IsDevice w Working parts a → WritesInClose parts.mode parts.common a b
    → KeepsClearTags parts.mode parts.common Close a b → Leaves w (changes_in (only_close w found).steps) a b
closing_leaves w found parts a b is writes tags =
    close_leaves w parts.common a parts.mode is (changes_in (only_close w found).steps) writes tags

module _ (w : Standing) (found : TagsFound) (a b : List Content)
    (held_a held_b : Option (List ℕ))
    (others : Leaves w (changes_in (only_close w found).steps) a b) where
  abbrev closing : ScriptStep
  closing = close_step w.format w.state

  abbrev kind : DeviceKind
  kind = kind_of w

  -- What the device is left as by such an event.
  abbrev Closes : Event → Type 0
  Closes event = IsLeftThrough kind w.entry w.format w.state event a b
      × IsLeftNow kind w.entry (after_event w.format w.state event).history b

  texts_closed : texts_of (only_close w found).steps ≡ closed_text
  texts_closed = (run_is_whole closing (only_ends (Complete (finds_fault found)))).0 ∙ append-nil closed_text

  changes_closed : changes_in (only_close w found).steps ≡ closing.changes
  changes_closed = (run_is_whole closing (only_ends (Complete (finds_fault found)))).1
      ∙ append-nil closing.changes

  since_close : Closes Close
      → EachMoment a b (IsLeftWithin kind w.entry w.state.history (changes_in (only_close w found).steps))
  since_close keeps = subst (λ (l : List Change). EachMoment a b (IsLeftWithin kind w.entry w.state.history l))
      (sym changes_closed) (since_event kind w.entry w.format w.state Close a b keeps.0)

  -- The device is closed, and that is printed: all is done.
  pub stopped_by_close : Closes Close
      → held_b ≡ held_with closed_text held_a
      → IsStopped w (only_close w found) (Complete (finds_fault found)) a b held_a held_b
  stopped_by_close keeps told = record {
    text = closed_text;
    changes = closing.changes;
    ended = inl (record {
      whole = record { is_text = sym texts_closed; is_changes = sym changes_closed };
      is = refl;
    });
    since = since_close keeps;
    others = others;
    now = keeps.1;
    told = told;
  }

  -- It is closed, and the sink failed.
  pub stopped_in_closed : Closes Close
      → AddsPrefix closed_text held_a held_b → IsStopped w (only_close w found) (Failed outers.Sink) a b held_a held_b
  stopped_in_closed keeps told = record {
    text = take told.count closed_text;
    changes = closing.changes;
    ended = inr (record {
      came = (came_into closing (only_ends (Complete (finds_fault found)))).text told.count told.short;
      whole_steps = λ other. absurd (other refl);
      short = λ complete.
          let less : told.count < length closed_text = told.short in
          let all : length (texts_of (only_close w found).steps)
          ≡ length closed_text = ap length texts_closed in
          let some = length-take told.count closed_text in
          omega arith;
      outside = tt;
    });
    since = since_close keeps;
    others = others;
    now = keeps.1;
    told = told.held;
  }

  -- The disk failed in the close, and nothing is printed.
  pub stopped_in_close : Closes FailedClose → held_b ≡ held_a
      → IsStopped w (only_close w found) (Failed outers.Disk) a b held_a held_b
  stopped_in_close keeps told = record {
    text = [];
    changes = [];
    ended = inr (record {
      came = (came_into closing (only_ends (Complete (finds_fault found)))).changes 0 (λ none. absurd (cc));
      whole_steps = λ other. (0, refl);
      short = λ complete.
          let all : length (texts_of (only_close w found).steps)
          ≡ length closed_text = ap length texts_closed in
          omega arith;
      outside = tt;
    });
    since = EachMoment-weaker (λ (c : Content) left. left-wider kind w.entry w.state.history []
        (changes_in (only_close w found).steps) c
        (subst (λ (l : List Change). IsLeftWithin kind w.entry w.state.history l c)
        (failed_close w.format w.state) left))
        (since_event kind w.entry w.format w.state FailedClose a b keeps.0);
    others = others;
    now = subst (λ (l : List Change). IsLeftNow kind w.entry (with_changes l w.state.history) b)
        (failed_close w.format w.state) keeps.1;
    told = told ∙ told_nothing held_a;
  }

-- ---- how a run ends with its close

pub ending_at_close : (closed : Result TagsFound CloseFault) → ending_by (ended_close closed) ≡ close_ending closed
ending_at_close (Ok found) = refl
ending_at_close (Err CloseFaults.Disk) = refl
ending_at_close (Err CloseFaults.Sink) = refl

pub ends_at_close : (closed : Result TagsFound CloseFault) → IfErr (ended_close closed) EndsImage
ends_at_close (Ok found) = tt
ends_at_close (Err CloseFaults.Disk) = tt
ends_at_close (Err CloseFaults.Sink) = tt

-- The counts of a run whose lines came to their end, and then of its close.
module _ (disk disk_between disk_after script script_after sink sink_between sink_after : ℕ)
    (same_disk : disk_between ≡ disk) (same_script : script_after ≡ script) (same_sink : sink_between ≡ sink) where
  abbrev IsCountedAs : Result TagsFound Ended → Type 0
  IsCountedAs result = IsCounted outers.Disk disk disk_after result × IsCounted outers.Script script script_after result
      × IsCounted outers.Sink sink sink_after result

  counted_at_close : (closed : Result TagsFound CloseFault)
      → HasCloseCounts disk_between disk_after sink_between sink_after closed → IsCountedAs (ended_close closed)
  counted_at_close (Ok found) counts =
      let a = counts.disk_later in
      let b = counts.sink_later in (
        record { later = omega (arith, a, same_disk); passed = λ other. counts.disk_passed (λ is. absurd (cc)) ∙ same_disk },
        record { later = omega (arith, same_script); passed = λ other. same_script },
        record { later = omega (arith, b, same_sink); passed = λ other. counts.sink_passed (λ is. absurd (cc)) ∙ same_sink },
      )
  counted_at_close (Err CloseFaults.Disk) counts =
      let a = counts.disk_later in
      let b = counts.sink_later in (
        record { later = omega (arith, a, same_disk); passed = λ other. absurd (other refl) },
        record { later = omega (arith, same_script); passed = λ other. same_script },
        record { later = omega (arith, b, same_sink); passed = λ other. counts.sink_passed (λ is. absurd (cc)) ∙ same_sink },
      )
  counted_at_close (Err CloseFaults.Sink) counts =
      let a = counts.disk_later in
      let b = counts.sink_later in (
        record { later = omega (arith, a, same_disk); passed = λ other. counts.disk_passed (λ is. absurd (cc)) ∙ same_disk },
        record { later = omega (arith, same_script); passed = λ other. same_script },
        record { later = omega (arith, b, same_sink); passed = λ other. absurd (other refl) },
      )

  -- So it is of what such a close ended.
  pub counted_by_close : (closed : Result TagsFound CloseFault) (result : Result TagsFound Ended)
      → result ≡ ended_close closed → HasCloseCounts disk_between disk_after sink_between sink_after closed
      → IsCountedAs result
  counted_by_close closed result is counts = subst IsCountedAs (sym is) (counted_at_close closed counts)

-- What holds behind a close that answers well holds behind a run that it ends.
pub closed_as : {R : Type 0} (closed : Result TagsFound CloseFault) (ended : Result TagsFound Ended) → ended ≡ ended_close closed
    → (P : Type 0) → (R → P) → OnOk closed R → OnOk ended P
closed_as (Ok found) ended is P from rests = subst (λ (r : Result TagsFound Ended). OnOk r P) (sym is) (from rests)
closed_as (Err fault) ended is P from rests = subst (λ (r : Result TagsFound Ended). OnOk r P) (sym is) tt
