-- What an `Incoming` keeps of a stream, and what it takes of a piece.
-- Own.
use Rattle.std.specs.Prelude.{◌≡◌, ℕ, ◌+◌, ◌-◌, ◌<◌, ◌≤◌, if◌then◌else◌, ◌==◌, List, [], length, take, Option, Some, None}
use Rattle.nbd_model.specs.Message.{bytes_behind}
use Rattle.nbd_model.specs.Stream.{Message}
use Rattle.nbd_model.specs.declared.nbd_request.NbdRequest.{NbdRequest}
use Rattle.nbd_wire.specs.Splitting.{take_from}
use Rattle.nbd_flight.specs.declared.judging.Asked.{Asked}
use Rattle.nbd_flight.specs.declared.judging.Asked.TheVariants.{Write}
use Rattle.nbd_flight.specs.declared.whole.Whole.{Whole}
use Rattle.nbd_flight.specs.Asking.{IsWhole}
use Rattle.nbd_incoming.specs.declared.incoming.Coming.{Coming}
use Rattle.nbd_incoming.specs.declared.incoming.Incoming.{Incoming}
use Rattle.nbd_incoming.specs.declared.taken.Taken.{Taken}
use Rattle.nbd_incoming.specs.declared.taken.Taken.TheVariants as takens
use Rattle.nbd_incoming.specs.Taking as taking
use Rattle.nbd_incoming.specs.Taking.{Fits, Outcome, asked_now, more_of, outcome_of}

-- ---- what is kept

-- No byte is kept but those of a write that is not refused.
abbrev pub KeepsNone : Asked → List ℕ → Type 0
KeepsNone (Write first count fua) kept = Unit {0}
KeepsNone asked kept = kept ≡ []

-- A write of which some bytes are to come is that message so far.
pub record KeepsWrite (blocks block_size : ℕ) (coming : Coming) (m : Message) : Type 0 where
  pub write : IsWhole blocks block_size coming.write m
  pub none : KeepsNone coming.write.asked coming.write.bytes.items
  pub left : coming.left + length m.bytes ≡ bytes_behind m.request

abbrev pub KeepsComing : (blocks block_size : ℕ) → Option Coming → Option Message → Type 0
KeepsComing blocks block_size None None = Unit {0}
KeepsComing blocks block_size None (Some m) = ⊥
KeepsComing blocks block_size (Some coming) None = ⊥
KeepsComing blocks block_size (Some coming) (Some m) = KeepsWrite blocks block_size coming m

-- It stands at a place where this write is coming, if one is, and keeps what is to be kept of that.
pub record Keeps (incoming : Incoming) (coming : Option Message) : Type 0 where
  pub fits : Fits incoming.splitter coming
  pub write : KeepsComing incoming.blocks incoming.block_size incoming.coming coming

-- ---- what is taken

-- What is told is that outcome, and what is coming is kept.
abbrev pub IsOutcome : (blocks block_size : ℕ) → Option Coming → Taken → Outcome → Type 0
IsOutcome blocks block_size now takens.Part (taking.Part coming) = KeepsComing blocks block_size now coming
IsOutcome blocks block_size now (takens.Whole whole) (taking.Whole m) =
    IsWhole blocks block_size whole m × KeepsNone whole.asked whole.bytes.items × (now ≡ None)
IsOutcome blocks block_size now takens.Disconnected taking.Disconnected = Unit {0}
IsOutcome blocks block_size now (takens.Wrong magic) (taking.Wrong m) = magic ≡ m
IsOutcome blocks block_size now taken outcome = ⊥

-- Bytes are taken from the front of a piece: as many as a splitter takes, and with the outcome of its event.
pub record HasTaken (old new : Incoming) (piece : List ℕ) (count : ℕ) (taken : Taken) : Type 0 where
  pub count_ : count ≡ (take_from old.splitter piece).count
  pub place : new.splitter ≡ (take_from old.splitter piece).place
  pub outcome : (coming : Option Message) → Keeps old coming
      → IsOutcome new.blocks new.block_size new.coming taken (outcome_of coming (take_from old.splitter piece).event (take count piece))

-- ---- parts of that

-- A request waits for so many bytes, or is whole.
abbrev pub WaitsSo : Option Coming → Option Coming → Whole → (left : ℕ) → Taken → Type 0
WaitsSo old new whole left takens.Part = (0 < left) × (new ≡ Some (record { write = whole; left = left }))
WaitsSo old new whole left (takens.Whole w) = (left ≡ 0) × (w ≡ whole) × (new ≡ old)
WaitsSo old new whole left taken = ⊥

-- A head is taken where no write is coming.
abbrev pub BeginsSo : (blocks block_size : ℕ) → Option Coming → Option Coming → NbdRequest → Taken → Type 0
BeginsSo blocks block_size old new r taken = old ≡ None → IsOutcome blocks block_size new taken (asked_now r)

-- Bytes are taken of the write that is coming, no more than are left.
abbrev pub GoesOnSo : Option Coming → Option Coming → List ℕ → Taken → Type 0
GoesOnSo old new piece taken = (blocks block_size : ℕ) (coming : Coming) (m : Message) → old ≡ Some coming
    → KeepsWrite blocks block_size coming m → length piece ≤ coming.left → IsOutcome blocks block_size new taken (more_of (Some m) piece)
