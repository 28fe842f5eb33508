-- What the run of one line does, as `device_model` has it: its events, what may be left, and what is told.
use Rattle.std.specs.Prelude.{◌≡◌, ◌≢◌, ℕ, ◌≤◌, true, false, List, length, Option, Some, None, Result, Err}
use Rattle.std.specs.Option.{option_map}
use Rattle.disk_model.specs.Causes.{Rose}
use Rattle.disk_model.specs.Disk.{Content}
use Rattle.device_model.specs.Mode as Modes
use Rattle.device_model.specs.Progress.{Event, Submit, answers, event_result}
use Rattle.device_model.specs.Script.{Ask, AskLine, ScriptLine, ServeLine, Skip, StepLine, TakeLine, finish_all_events, last_answer, line_events, line_outcome, meaning_fault, told_fault, told_text}
use Rattle.device_model.specs.Submission.{Submission}
use Rattle.stream_io.specs.Stream.{AddsPrefix, held_with}
use Rattle.device.specs.declared.mode.DeviceParts.{DeviceParts}
use Rattle.device.specs.Answers.{HasNoWork}
use Rattle.device_parts.specs.Device.{Standing}
use Rattle.device.specs.Run.{HasBegun, HasFailed, HasRun, IsCutOff}
use Rattle.request_slots.specs.declared.reply.Reply.{Reply}
use Rattle.script_session.specs.declared.line_answer.LineAnswer.{LineAnswer}
use Rattle.script_text.specs.declared.line_end.LineEnd.{LineEnd}
use Rattle.script_text.specs.declared.line_end.LineEnd.TheVariants as Ends
use Rattle.script_session.specs.declared.stop.Stop.{Stop}
use Rattle.script_session.specs.declared.stop.Stop.TheVariants as Stops
use Rattle.script_text.specs.declared.tags_found.TagsFound.{TagsFound}
use Rattle.script_text.specs.Meaning.{meaning_of}
use Rattle.script_session.specs.Told.{IsReplied, IsTicketOf, answer_found, answer_told, reply_in}
use Rattle.script_text.specs.Found.{finds_fault}

-- ---- some events

-- The events are done, and the last of them answers so.
pub record HasAnswered (w : Standing) (events : List Event) (answer : LineAnswer) (parts : DeviceParts)
    (before after : List Content) : Type 0 where
  pub run : HasRun w events parts before after
  pub text : answer_told answer ≡ told_text (last_answer (answers w.format w.state events))
  pub found : finds_fault (answer_found answer) ≡ told_fault (last_answer (answers w.format w.state events))
  pub reply : IsReplied (reply_in answer) (last_answer (answers w.format w.state events))

-- The disk failed in one of the events, or there was no memory for one: some of the first are done then.
abbrev pub HasStopped : Standing → List Event → Stop → DeviceParts → (before after : List Content) → Type 0
HasStopped w events Stops.Disk parts before after = HasFailed w events parts before after
HasStopped w events Stops.Memory parts before after = HasBegun w events parts before after

-- What is told of a submission is a ticket exactly where it got that.
abbrev pub TellsTicket : Standing → Submission → LineAnswer → Type 0
TellsTicket w submission line = IsTicketOf line (event_result w.format w.state (Submit submission)).answer

-- ---- a line

-- The line is not refused.
abbrev pub IsRunnable : Standing → ScriptLine → Type 0
IsRunnable w line = meaning_fault w.format w.state.progress line ≡ None

-- Each request in flight is served to its end, in order.
abbrev pub all_finishes : Standing → List Event
all_finishes w = finish_all_events w.format 1 (length w.state.progress.requests) w.state

-- What a line does to a device.
abbrev pub events_of : Standing → ScriptLine → List Event
events_of w line = line_events w.format w.state line

-- The request of a line without `start` is done, and this is its reply, if it got one.
pub record HasRunAsk (w : Standing) (ask : Ask) (reply : Option Reply) (parts : DeviceParts)
    (before after : List Content) : Type 0 where
  pub runnable : IsRunnable w (AskLine false ask)
  pub run : HasRun w (events_of w (AskLine false ask)) parts before after
  pub reply_ : IsReplied reply (line_outcome w.format w.state (AskLine false ask)).answer

-- It serves no request, and steps no actor that has something to do in the mode.
abbrev pub ServesNone : Modes.Mode → ScriptLine → Type 0
ServesNone mode Skip = Unit {0}
ServesNone mode (AskLine start ask) = start ≡ true
ServesNone mode (ServeLine ticket) = ⊥
ServesNone mode (TakeLine ticket) = Unit {0}
ServesNone mode (StepLine actor) = HasNoWork mode actor

-- What a line prints.
abbrev pub text_of : Standing → ScriptLine → List ℕ
text_of w line = (line_outcome w.format w.state line).text

-- The line is done, and its text is told.
pub record HasRunLine (w : Standing) (line : ScriptLine) (found : TagsFound) (parts : DeviceParts)
    (before after : List Content) (held_before held : Option (List ℕ)) : Type 0 where
  pub runnable : IsRunnable w line
  pub run : HasRun w (events_of w line) parts before after
  pub found_ : finds_fault found ≡ (line_outcome w.format w.state line).finds_fault
  pub told : held ≡ held_with (text_of w line) held_before

-- The line was cut off, and nothing of its text is told.
pub record IsCutLine (w : Standing) (line : ScriptLine) (before after : List Content)
    (held_before held : Option (List ℕ)) : Type 0 where
  pub runnable : IsRunnable w line
  pub cut : IsCutOff w (events_of w line) before after
  pub told : held ≡ held_before

-- The disk failed in it, and nothing of its text is told.
pub record IsFailedLine (w : Standing) (line : ScriptLine) (parts : DeviceParts) (before after : List Content)
    (held_before held : Option (List ℕ)) : Type 0 where
  pub runnable : IsRunnable w line
  pub failed : HasFailed w (events_of w line) parts before after
  pub told : held ≡ held_before

-- Some of the first of what it does is done, or all, and nothing of its text is told.
pub record IsBegunLine (w : Standing) (line : ScriptLine) (parts : DeviceParts) (before after : List Content)
    (held_before held : Option (List ℕ)) : Type 0 where
  pub runnable : IsRunnable w line
  pub begun : HasBegun w (events_of w line) parts before after
  pub told : held ≡ held_before

-- The line is done, and the first of its text is told, not all.
pub record IsHalfTold (w : Standing) (line : ScriptLine) (parts : DeviceParts) (before after : List Content)
    (held_before held : Option (List ℕ)) : Type 0 where
  pub runnable : IsRunnable w line
  pub run : HasRun w (events_of w line) parts before after
  pub told : AddsPrefix (text_of w line) held_before held

-- What has ended a line before its text was whole.
abbrev pub HasEnded : Standing → ScriptLine → LineEnd → DeviceParts → (before after : List Content)
    → (held_before held : Option (List ℕ)) → Type 0
HasEnded w line (Ends.Refused fault) parts before after held_before held =
    meaning_fault w.format w.state.progress line ≡ Some (meaning_of fault)
HasEnded w line Ends.Disk parts before after held_before held =
    IsFailedLine w line parts before after held_before held
HasEnded w line Ends.Sink parts before after held_before held =
    IsHalfTold w line parts before after held_before held
HasEnded w line Ends.Memory parts before after held_before held =
    IsBegunLine w line parts before after held_before held

-- The counts of faults never fall; what is outside ends a line only where its count rose, and else that is as it was.
pub record HasLineCause (disk_before disk sink_before sink : ℕ) (result : Result TagsFound LineEnd)
    : Type 0 where
  pub disk_later : disk_before ≤ disk
  pub sink_later : sink_before ≤ sink
  pub disk_failed : result ≡ Err Ends.Disk → Rose disk_before disk
  pub sink_failed : result ≡ Err Ends.Sink → Rose sink_before sink
  pub disk_passed : result ≢ Err Ends.Disk → disk ≡ disk_before
  pub sink_passed : result ≢ Err Ends.Sink → sink ≡ sink_before
