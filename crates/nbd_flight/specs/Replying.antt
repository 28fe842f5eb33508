-- What is written for a reply.
use Rattle.std.specs.Prelude.{ℕ, Bool, true, false, List, [], ◌++◌}
use Rattle.nbd_model.specs.Message.{EIO, no_error, reply_head}
use Rattle.request_slots.specs.declared.reply.Reply.{Reply}
use Rattle.request_slots.specs.declared.reply.Reply.TheVariants.{Read, TagFault, Written, Flushed}

-- It tells a damaged block.
abbrev pub tells_damage : Reply → Bool
tells_damage (Read buffer) = false
tells_damage (TagFault block stored computed buffer) = true
tells_damage (Written bytes) = false
tells_damage Flushed = false

abbrev pub error_told : Reply → ℕ
error_told (Read buffer) = no_error
error_told (TagFault block stored computed buffer) = EIO
error_told (Written bytes) = no_error
error_told Flushed = no_error

-- What was read, if anything was.
abbrev pub read_told : Reply → List ℕ
read_told (Read buffer) = buffer
read_told (TagFault block stored computed buffer) = []
read_told (Written bytes) = []
read_told Flushed = []

-- The head with the error, and behind it what was read.
abbrev pub bytes_told : (cookie : ℕ) → Reply → List ℕ
bytes_told cookie reply = reply_head (error_told reply) cookie ++ read_told reply
