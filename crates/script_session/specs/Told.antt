-- What is told of a line that was run.
use Rattle.std.specs.Prelude.{◌≡◌, ℕ, Bool, true, false, List, [], Option, Some, None}
use Rattle.device_model.specs.Progress as progress
use Rattle.device_model.specs.Reply.{Bytes, TagFault}
use Rattle.device_model.specs.Request as request
use Rattle.device_model.specs.Script as script
use Rattle.device_model.specs.Transcript.{read_text, write_text}
use Rattle.request_slots.specs.InFlight.{as_reply, returned_in}
use Rattle.request_slots.specs.declared.reply.Reply.{Reply}
use Rattle.request_slots.specs.declared.reply.Reply.TheVariants as replies
use Rattle.request_slots.specs.declared.submit_fault.SubmitFault.{SubmitFault}
use Rattle.request_slots.specs.declared.submit_fault.SubmitFault.TheVariants as refusals
use Rattle.device_parts.specs.declared.answers.Moved.{Moved}
use Rattle.device_parts.specs.declared.answers.Moved.TheVariants as moves
use Rattle.device_parts.specs.declared.answers.Served.{Served}
use Rattle.device_parts.specs.declared.answers.Served.TheVariants as serves
use Rattle.script_session.specs.declared.line_answer.LineAnswer.{LineAnswer}
use Rattle.script_session.specs.declared.line_answer.LineAnswer.TheVariants.{Nothing, Ticket, SlotsFull, ReadOnly, HeldBy, NoRoom, Did, Done, Idle, NotDone, Replied}
use Rattle.script_text.specs.declared.tags_found.TagsFound.{TagsFound}
use Rattle.script_text.specs.declared.tags_found.TagsFound.TheVariants.{Matching, Differing}

-- The text of a reply to a request for `count` blocks from block `first` on. Those do not show in a fault.
abbrev pub reply_told : (first count : ℕ) → Reply → List ℕ
reply_told first count (replies.Read buffer) = read_text first count (Bytes buffer)
reply_told first count (replies.TagFault block stored computed buffer) =
    read_text 0 0 (TagFault block stored computed)
reply_told first count (replies.Written bytes) = write_text first count
reply_told first count replies.Flushed = script.reply_text request.Flush (Bytes [])

-- The text of an answer.
abbrev pub answer_told : LineAnswer → List ℕ
answer_told Nothing = []
answer_told (Ticket ticket) = script.answer_text (progress.Ticket ticket)
answer_told SlotsFull = script.answer_text progress.SlotsFull
answer_told ReadOnly = script.answer_text progress.ReadOnly
answer_told (HeldBy by) = script.answer_text (progress.HeldBy by)
answer_told NoRoom = script.answer_text progress.NoRoom
answer_told Did = script.answer_text progress.Did
answer_told Done = script.answer_text progress.Done
answer_told Idle = script.answer_text progress.Idle
answer_told NotDone = script.answer_text progress.NotDone
answer_told (Replied first count reply) = reply_told first count reply

abbrev pub reply_found : Reply → TagsFound
reply_found (replies.Read buffer) = Matching
reply_found (replies.TagFault block stored computed buffer) = Differing
reply_found (replies.Written bytes) = Matching
reply_found replies.Flushed = Matching

-- Whether it tells such a block.
abbrev pub answer_found : LineAnswer → TagsFound
answer_found Nothing = Matching
answer_found (Ticket ticket) = Matching
answer_found SlotsFull = Matching
answer_found ReadOnly = Matching
answer_found (HeldBy by) = Matching
answer_found NoRoom = Matching
answer_found Did = Matching
answer_found Done = Matching
answer_found Idle = Matching
answer_found NotDone = Matching
answer_found (Replied first count reply) = reply_found reply

-- The reply that it has, if it has one.
abbrev pub reply_in : LineAnswer → Option Reply
reply_in Nothing = None
reply_in (Ticket ticket) = None
reply_in SlotsFull = None
reply_in ReadOnly = None
reply_in (HeldBy by) = None
reply_in NoRoom = None
reply_in Did = None
reply_in Done = None
reply_in Idle = None
reply_in NotDone = None
reply_in (Replied first count reply) = Some reply

-- What is told of a serve.
abbrev pub served_line : Served → LineAnswer
served_line (serves.Held by) = HeldBy by
served_line serves.Did = Did
served_line serves.Done = Done
served_line serves.NoRoom = NoRoom

-- What is told of a step.
abbrev pub moved_line : Moved → LineAnswer
moved_line moves.Did = Did
moved_line moves.Idle = Idle

-- What is told of a request that is refused.
abbrev pub refused_answer : SubmitFault → LineAnswer
refused_answer refusals.Broken = Nothing
refused_answer refusals.ReadOnly = ReadOnly
refused_answer (refusals.Range first count blocks) = Nothing
refused_answer (refusals.Length have need) = Nothing
refused_answer (refusals.SlotsFull slots) = SlotsFull

abbrev pub IsNoTicket : progress.Answer → Type 0
IsNoTicket (progress.Ticket ticket) = ⊥
IsNoTicket answer = Unit {0}

-- It is told that a request got this ticket where it did, and else something else.
abbrev pub IsTicketOf : LineAnswer → progress.Answer → Type 0
IsTicketOf (Ticket ticket) answer = answer ≡ progress.Ticket ticket
IsTicketOf line answer = IsNoTicket answer

-- ---- replies

abbrev pub IsNoReply : progress.Answer → Type 0
IsNoReply (progress.Replied request reply returned) = ⊥
IsNoReply answer = Unit {0}

-- A request is answered by this reply, with the bytes that go back.
pub record IsReplyOf (reply : Reply) (answer : progress.Answer) : Type 0 where
  pub asked : request.Request
  pub is : answer ≡ progress.Replied asked (as_reply reply) (returned_in reply)

-- The reply is that of the answer, and there is none exactly where the answer is none.
abbrev pub IsReplied : Option Reply → Option progress.Answer → Type 0
IsReplied None None = Unit {0}
IsReplied None (Some answer) = IsNoReply answer
IsReplied (Some reply) None = ⊥
IsReplied (Some reply) (Some answer) = IsReplyOf reply answer
