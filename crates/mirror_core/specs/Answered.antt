-- What a request is answered, whatever the disk tells, and what a leg gives by that.
use Rattle.std.specs.Prelude.{◌≡◌, ℕ, ◌+◌, ◌<◌, ◌≤◌, List, length}
use Rattle.mirror_calls.specs.declared.leg.BlocksRead.{BlocksRead}
use Rattle.mirror_calls.specs.declared.leg.BlocksRead.TheVariants.{Given, Differs}
use Rattle.request_slots.specs.declared.reply.Reply.{Reply}
use Rattle.request_slots.specs.declared.reply.Reply.TheVariants.{Read, TagFault, Written, Flushed}
use Rattle.request_slots.specs.declared.request.Request.{Request}
use Rattle.request_slots.specs.declared.request.Request.TheVariants as Requests

-- ---- a request

-- A read is answered with as many bytes; and where one of its blocks is at fault, with that one.
abbrev pub IsReplyToRead : (first count : ℕ) → List ℕ → Reply → Type 0
IsReplyToRead first count buffer (Read out) = length out ≡ length buffer
IsReplyToRead first count buffer (TagFault block stored computed out) =
    (length out ≡ length buffer) × ((first ≤ block) × (block < first + count))
IsReplyToRead first count buffer (Written out) = ⊥
IsReplyToRead first count buffer Flushed = ⊥

-- A write is answered with its bytes,
abbrev pub IsReplyToWrite : List ℕ → Reply → Type 0
IsReplyToWrite bytes (Read out) = ⊥
IsReplyToWrite bytes (TagFault block stored computed out) = ⊥
IsReplyToWrite bytes (Written out) = out ≡ bytes
IsReplyToWrite bytes Flushed = ⊥

-- and a flush with none.
abbrev pub IsReplyToFlush : Reply → Type 0
IsReplyToFlush (Read out) = ⊥
IsReplyToFlush (TagFault block stored computed out) = ⊥
IsReplyToFlush (Written out) = ⊥
IsReplyToFlush Flushed = Unit {0}

abbrev pub IsReplyTo : Request → Reply → Type 0
IsReplyTo (Requests.Read first count buffer) reply = IsReplyToRead first count buffer reply
IsReplyTo (Requests.Write first count bytes fua) reply = IsReplyToWrite bytes reply
IsReplyTo Requests.Flush reply = IsReplyToFlush reply

-- ---- a leg

-- A read is answered so,
abbrev pub IsOfRead : Reply → Type 0
IsOfRead (Read buffer) = Unit {0}
IsOfRead (TagFault block stored computed buffer) = Unit {0}
IsOfRead (Written bytes) = ⊥
IsOfRead Flushed = ⊥

-- and gives this.
abbrev pub IsReadAs : Reply → BlocksRead → Type 0
IsReadAs (Read buffer) read = read ≡ Given buffer
IsReadAs (TagFault block stored computed buffer) read =
    read ≡ Differs block (record { stored = stored; computed = computed }) buffer
IsReadAs (Written bytes) read = ⊥
IsReadAs Flushed read = ⊥

-- A write is answered so.
abbrev pub IsOfWrite : Reply → Type 0
IsOfWrite (Read buffer) = ⊥
IsOfWrite (TagFault block stored computed buffer) = ⊥
IsOfWrite (Written bytes) = Unit {0}
IsOfWrite Flushed = ⊥
