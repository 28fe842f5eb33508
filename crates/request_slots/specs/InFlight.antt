-- Which requests of `device_model` those in flight are, and what they are answered there.
use Rattle.std.specs.Prelude.{◌≡◌, ℕ, suc, ◌*◌, false, true, if◌then◌else◌, List, [], ◌∷◌, ◌++◌, length, drop, Option, Some, None, slice_get}
use Rattle.device_model.specs.Mode.{DeviceFormat}
use Rattle.device_model.specs.Progress as Model
use Rattle.device_model.specs.Reply as ModelReply
use Rattle.device_model.specs.Request as Asks
use Rattle.device_model.specs.Submission as Submissions
use Rattle.device_model.specs.SubmissionLaws.{IsOfSubmission}
use Rattle.device_model.specs.Transcript.{is_fault}
use Rattle.request_slots.specs.declared.reply.Reply.{Reply}
use Rattle.request_slots.specs.declared.reply.Reply.TheVariants as Replies
use Rattle.request_slots.specs.declared.request.Request.{Request}
use Rattle.request_slots.specs.declared.request.Request.TheVariants.{Read, Write, Flush}
use Rattle.request_slots.specs.declared.slot.Outcome.{Outcome}
use Rattle.request_slots.specs.declared.slot.Outcome.TheVariants.{Unfinished, Finished, Fault}
use Rattle.request_slots.specs.declared.slot.Slot.{Slot}
use Rattle.request_slots.specs.declared.submit_fault.SubmitFault.{SubmitFault}
use Rattle.request_slots.specs.declared.submit_fault.SubmitFault.TheVariants as Faults
use Rattle.request_slots.specs.Flight.{Flight}
use Rattle.request_slots.specs.Submitting.{most_slots}

-- ---- what is submitted

-- What is handed in.
abbrev pub as_submission : Request → Submissions.Submission
as_submission (Read first count buffer) = Submissions.Submission.Read first count buffer
as_submission (Write first count bytes fua) = Submissions.Submission.Write first count bytes fua
as_submission Flush = Submissions.Submission.Flush

-- What a refused request is answered.
abbrev pub as_answer : SubmitFault → Model.Answer
as_answer Faults.Broken = Model.IsBroken
as_answer Faults.ReadOnly = Model.ReadOnly
as_answer (Faults.Range first count blocks) = Model.Range first count blocks
as_answer (Faults.Length have need) = Model.Length have need
as_answer (Faults.SlotsFull slots) = Model.SlotsFull

-- What a request is answered: the next ticket where nothing is against it.
abbrev pub submit_answer : Option SubmitFault → ℕ → Model.Answer
submit_answer None ticket = Model.Ticket ticket
submit_answer (Some fault) ticket = as_answer fault

-- ---- what is in flight

-- What has come of a request that is done.
abbrev pub outcome_by : ModelReply.Reply → Outcome
outcome_by (ModelReply.Bytes bytes) = Finished
outcome_by (ModelReply.TagFault block stored computed) = Fault block stored computed

abbrev pub outcome_in : Asks.RequestState → ModelReply.Reply → Outcome
outcome_in Asks.Unfinished reply = Unfinished
outcome_in Asks.Finished reply = outcome_by reply
outcome_in Asks.Taken reply = outcome_by reply
outcome_in Asks.Dropped reply = outcome_by reply

-- The request with these bytes.
abbrev pub request_with : Asks.Request → List ℕ → Request
request_with (Asks.Read first count) bytes = Read first count bytes
request_with (Asks.Write first blocks fua) bytes = Write first (length blocks) bytes fua
request_with Asks.Flush bytes = Flush

-- The bytes that it has now: what was read, and behind it what came with it.
abbrev pub bytes_now : Asks.Asked → List ℕ
bytes_now a = a.got ++ drop (length a.got) a.given

-- The slot of a request.
abbrev pub slot_for : ℕ → Asks.Asked → Slot
slot_for ticket a = record {
  ticket = ticket;
  request = request_with a.request (bytes_now a);
  served = a.served;
  outcome = outcome_in a.state a.reply;
}

-- The slots of those that are neither taken nor dropped. The first has ticket t.
abbrev pub slots_of : ℕ → List Asks.Asked → List Slot
slots_of t [] = []
slots_of t (a ∷ requests) =
    if Asks.is_over a.state then slots_of (suc t) requests else slot_for t a ∷ slots_of (suc t) requests

-- How many blocks a request has read, where it found no fault. A write and a flush read nothing.
abbrev pub blocks_read : Asks.Asked → Asks.Request → ℕ
blocks_read a (Asks.Read first count) = a.served
blocks_read a (Asks.Write first blocks fua) = 0
blocks_read a Asks.Flush = 0

-- A read that is done has read all its blocks, where it found no fault.
abbrev pub IsWhole : Asks.Asked → Asks.Request → Type 0
IsWhole a (Asks.Read first count) = a.state ≡ Asks.Finished → a.served ≡ count
IsWhole a (Asks.Write first blocks fua) = Unit {0}
IsWhole a Asks.Flush = Unit {0}

-- A read alone may be at fault.
abbrev pub IsNoFault : Asks.Asked → Asks.Request → Type 0
IsNoFault a (Asks.Read first count) = Unit {0}
IsNoFault a (Asks.Write first blocks fua) = is_fault a.reply ≡ false
IsNoFault a Asks.Flush = is_fault a.reply ≡ false

-- What a request has read, blocks of so many bytes, is its reply up to a fault, which ends it.
pub record HasRead (block_size : ℕ) (a : Asks.Asked) : Type 0 where
  pub reply : is_fault a.reply ≡ false → a.reply ≡ ModelReply.Bytes a.got
  pub size : is_fault a.reply ≡ false → length a.got ≡ blocks_read a a.request * block_size
  pub open_ : Asks.is_unfinished a.state ≡ true → is_fault a.reply ≡ false
  pub whole : is_fault a.reply ≡ false → IsWhole a a.request
  pub no_fault : IsNoFault a a.request

-- Those in flight are these requests of a device, each of which was submitted, as far as they are neither taken nor dropped.
pub record IsFlightOf (f : DeviceFormat) (flight : Flight) (requests : List Asks.Asked) : Type 0 where
  pub blocks : flight.blocks ≡ f.blocks.blocks
  pub block_size : flight.block_size ≡ f.blocks.block_size
  pub most : f.slots ≡ most_slots
  pub submitted : flight.submitted ≡ length requests
  pub slots : flight.slots ≡ slots_of 1 requests
  pub each : (k : ℕ) (a : Asks.Asked) → slice_get requests k ≡ Some a
      → HasRead f.blocks.block_size a × IsOfSubmission f a

-- ---- what is taken

-- What a request is answered with, and the bytes that go back with it.
abbrev pub as_reply : Reply → ModelReply.Reply
as_reply (Replies.Read buffer) = ModelReply.Bytes buffer
as_reply (Replies.TagFault block stored computed buffer) = ModelReply.TagFault block stored computed
as_reply (Replies.Written bytes) = ModelReply.Bytes []
as_reply Replies.Flushed = ModelReply.Bytes []

abbrev pub returned_in : Reply → List ℕ
returned_in (Replies.Read buffer) = buffer
returned_in (Replies.TagFault block stored computed buffer) = buffer
returned_in (Replies.Written bytes) = bytes
returned_in Replies.Flushed = []
