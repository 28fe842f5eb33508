-- What a request is judged to ask.
use Rattle.std.specs.Prelude.{◌≡◌, ℕ, ◌/◌, if◌then◌else◌, Option, Some, None}
use Rattle.device_model.specs.Transcript.{BlockFormat}
use Rattle.nbd_model.specs.declared.nbd_request.NbdRequest.{NbdRequest}
use Rattle.nbd_model.specs.Message as message
use Rattle.nbd_model.specs.Message.{Kind, has_fua, kind_of}
use Rattle.nbd_model.specs.Judged.{is_bad_range, is_refused_kind}
use Rattle.nbd_flight.specs.declared.judging.Asked.{Asked}
use Rattle.nbd_flight.specs.declared.judging.Asked.TheVariants.{Read, Write, Flush, Disconnect, Refused}

-- A request of a kind that is not refused.
abbrev pub asked_of_kind : BlockFormat → NbdRequest → Kind → Asked
asked_of_kind b r message.Read = Read (r.offset / b.block_size) (r.length / b.block_size)
asked_of_kind b r message.Write = Write (r.offset / b.block_size) (r.length / b.block_size) (has_fua r)
asked_of_kind b r message.Disconnect = Disconnect
asked_of_kind b r message.Flush = Flush
asked_of_kind b r message.Unknown = Refused

abbrev pub asked_in : BlockFormat → NbdRequest → Asked
asked_in b r = if is_refused_kind b r (kind_of r) then Refused else asked_of_kind b r (kind_of r)

-- The first block of a request, and how many it has, where its range can be.
abbrev pub range_in : BlockFormat → NbdRequest → Option (ℕ × ℕ)
range_in b r = if is_bad_range b r then None else Some (r.offset / b.block_size, r.length / b.block_size)

-- Of each device of so many blocks of so many bytes.
abbrev pub OnBlocks : (blocks block_size : ℕ) → (BlockFormat → Type 0) → Type 0
OnBlocks blocks block_size P = (b : BlockFormat) → b.blocks ≡ blocks → b.block_size ≡ block_size → P b
