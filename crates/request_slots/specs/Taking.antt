-- What a request that is done is answered, and what is in flight once that is taken.
use Rattle.std.specs.Prelude.{ℕ, if◌then◌else◌, List, [], ◌∷◌, Option, Some, None, Result, Ok, Err}
use Rattle.request_slots.specs.declared.reply.Reply.{Reply}
use Rattle.request_slots.specs.declared.reply.Reply.TheVariants as Replies
use Rattle.request_slots.specs.declared.request.Request.{Request}
use Rattle.request_slots.specs.declared.request.Request.TheVariants.{Read, Write, Flush}
use Rattle.request_slots.specs.declared.slot.Outcome.{Outcome}
use Rattle.request_slots.specs.declared.slot.Outcome.TheVariants.{Unfinished, Finished, Fault}
use Rattle.request_slots.specs.declared.slot.Slot.{Slot}
use Rattle.request_slots.specs.Flight.{Flight, is_of, is_unfinished}

-- What a read is answered.
abbrev pub read_reply_of : List ℕ → Outcome → Reply
read_reply_of buffer Unfinished = Replies.Read buffer
read_reply_of buffer Finished = Replies.Read buffer
read_reply_of buffer (Fault block stored computed) = Replies.TagFault block stored computed buffer

abbrev pub reply_by : Request → Outcome → Reply
reply_by (Read first count buffer) outcome = read_reply_of buffer outcome
reply_by (Write first count bytes fua) outcome = Replies.Written bytes
reply_by Flush outcome = Replies.Flushed

-- What the request of a slot is answered.
abbrev pub reply_of : Slot → Reply
reply_of slot = reply_by slot.request slot.outcome

-- Its reply, or the ticket back where it is not done.
abbrev pub taken_by : ℕ → Option Slot → Result Reply ℕ
taken_by ticket None = Err ticket
taken_by ticket (Some slot) = if is_unfinished slot then Err ticket else Ok (reply_of slot)

-- Those in flight without the request of this ticket.
abbrev pub without : ℕ → List Slot → List Slot
without ticket [] = []
without ticket (slot ∷ slots) = if is_of ticket slot then slots else slot ∷ without ticket slots

abbrev pub after_take : ℕ → Option Slot → Flight → Flight
after_take ticket None flight = flight
after_take ticket (Some slot) flight =
    if is_unfinished slot then flight else record flight { slots = without ticket flight.slots }
