-- Events on a small device, computed: four blocks of two bytes, in direct mode where nothing else is said.
use Rattle.std.proofs.Common.{◌≡◌, ℕ, ◌==◌, true, false, List, [], ◌∷◌, Some, None, map, if◌then◌else◌, refl}
use Rattle.image_model.specs.Cells.{Cell}
use Rattle.device_model.specs.History.{BlockWrite, Begun, Written, Flushed}
use Rattle.device_model.specs.Journal.{Free}
use Rattle.device_model.specs.Mode.{Mode, Journal, Bitmap, Direct, Recovery, DeviceFormat}
use Rattle.device_model.specs.Progress.{DeviceState, Broken, Closed, opened_device, Event, Submit, Serve, Step, Take, Close, FailedServe, FailedStep, FailedClose, Commit, Place, Settle, Clean, Recalc, Answer, Ticket, ReadOnly, Range, Length, SlotsFull, Did, Done, Idle, Replied, NotDone, DiskFailed, IsBroken, IsClosed, answers, changes_of, after_events}
use Rattle.device_model.specs.Reply.{Bytes, TagFault}
use Rattle.device_model.specs.Request.{Request, RequestState, Unfinished, Finished, Dropped}
use Rattle.device_model.specs.Submission.{Read, Write, Flush}

-- Tags that are easy to compute: that of a block is its number and its first byte.
abbrev easy_tag : ℕ → List ℕ → List ℕ
easy_tag b [] = b ∷ []
easy_tag b (x ∷ bytes) = b ∷ x ∷ []

abbrev small : Mode → DeviceFormat
small mode = record {
  mode = mode;
  blocks = record { blocks = 4; block_size = 2; tag = easy_tag };
  slots = 2;
  sections = 1;
  entries = 2;
  regions = 4;
  region_of = λ b. b;
}

-- Block 2 has another tag than that of its bytes.
abbrev cells : ℕ → Cell
cells b = record { bytes = b ∷ b ∷ []; tag = if b == 2 then 255 ∷ [] else b ∷ b ∷ [] }

abbrev fresh : DeviceState
fresh = opened_device cells 0 (λ r. false) (λ r. false)

abbrev told : Mode → List Event → List Answer
told mode events = answers (small mode) fresh events

abbrev after : Mode → List Event → DeviceState
after mode events = after_events (small mode) fresh events

abbrev states : DeviceState → List RequestState
states s = map (λ a. a.state) s.progress.requests

write_of : ℕ → ℕ → ℕ → BlockWrite
write_of ticket block byte = record { ticket = ticket; block = block; bytes = byte ∷ byte ∷ [] }

-- ---- what is refused, and with what

told-read_only : told Recovery (Submit (Write 9 1 [] false) ∷ []) ≡ ReadOnly ∷ []
told-read_only = refl

told-range_behind_the_end : told Direct (Submit (Write 3 2 [] false) ∷ []) ≡ Range 3 2 4 ∷ []
told-range_behind_the_end = refl

told-range_of_no_block : told Direct (Submit (Read 1 0 []) ∷ []) ≡ Range 1 0 4 ∷ []
told-range_of_no_block = refl

told-length : told Direct (Submit (Read 1 2 (7 ∷ 7 ∷ 7 ∷ [])) ∷ []) ≡ Length 3 4 ∷ []
told-length = refl

-- The slots are asked for last, and a refused submission takes no ticket.
told-slots_full : told Direct (Submit Flush ∷ Submit (Read 4 1 []) ∷ Submit Flush ∷ Submit Flush ∷ Submit (Read 4 1 []) ∷ [])
    ≡ Ticket 1 ∷ Range 4 1 4 ∷ Ticket 2 ∷ SlotsFull ∷ Range 4 1 4 ∷ []
told-slots_full = refl

-- ---- the bytes that are given back

-- Two good blocks, and then a bad one: the rest of the buffer is as it was handed in.
told-fault : told Direct (Submit (Read 0 4 (90 ∷ 91 ∷ 92 ∷ 93 ∷ 94 ∷ 95 ∷ 96 ∷ 97 ∷ [])) ∷ Serve 1 ∷ Serve 1 ∷ Serve 1 ∷ Take 1 ∷ [])
    ≡ Ticket 1 ∷ Did ∷ Did ∷ Done
    ∷ Replied (Request.Read 0 4) (TagFault 2 (255 ∷ []) (2 ∷ 2 ∷ [])) (0 ∷ 0 ∷ 1 ∷ 1 ∷ 94 ∷ 95 ∷ 96 ∷ 97 ∷ []) ∷ []
told-fault = refl

-- A read without a fault gives its blocks, and in recovery mode there is none.
told-read : told Recovery (Submit (Read 1 2 (90 ∷ 91 ∷ 92 ∷ 93 ∷ [])) ∷ Serve 1 ∷ Serve 1 ∷ Take 1 ∷ [])
    ≡ Ticket 1 ∷ Did ∷ Done ∷ Replied (Request.Read 1 2) (Bytes (1 ∷ 1 ∷ 2 ∷ 2 ∷ [])) (1 ∷ 1 ∷ 2 ∷ 2 ∷ []) ∷ []
told-read = refl

-- A write gives its bytes, and is cut into blocks.
told-write : told Direct (Submit (Write 1 2 (7 ∷ 8 ∷ 9 ∷ 10 ∷ []) false) ∷ Serve 1 ∷ Take 1 ∷ Serve 1 ∷ Take 1 ∷ [])
    ≡ Ticket 1 ∷ Did ∷ NotDone ∷ Done
    ∷ Replied (Request.Write 1 ((7 ∷ 8 ∷ []) ∷ (9 ∷ 10 ∷ []) ∷ []) false) (Bytes []) (7 ∷ 8 ∷ 9 ∷ 10 ∷ []) ∷ []
told-write = refl

-- ---- what is under way, and a disk that fails

abbrev write_two : List Event
write_two = Submit (Write 0 2 (7 ∷ 7 ∷ 8 ∷ 8 ∷ []) true) ∷ Serve 1 ∷ []

changes_of-write : changes_of (small Direct) fresh (Submit (Write 0 2 (7 ∷ 7 ∷ 8 ∷ 8 ∷ []) true) ∷ Serve 1 ∷ Serve 1 ∷ [])
    ≡ Begun (write_of 1 0 7) ∷ Written (write_of 1 0 7) ∷ Begun (write_of 1 1 8) ∷ Written (write_of 1 1 8) ∷ Flushed ∷ []
unfolding write_of
changes_of-write = refl

-- The write of the serve that failed stays under way; what was done before it stays done.
after-failed_serve : let s = after Direct (Submit (Write 0 2 (7 ∷ 7 ∷ 8 ∷ 8 ∷ []) true) ∷ Serve 1 ∷ FailedServe 1 ∷ []) in
    (s.history.writes ≡ write_of 1 0 7 ∷ []) × (s.history.pending ≡ Some (write_of 1 1 8)) × (s.condition ≡ Broken) × (states s ≡ Unfinished ∷ [])
unfolding write_of
after-failed_serve = (refl, refl, refl, refl)

-- It answers so from then on. A reply that is done is taken.
told-broken : told Direct
    (Submit Flush ∷ Serve 1 ∷ Submit (Write 0 1 (7 ∷ 7 ∷ []) false) ∷ FailedServe 2 ∷ Serve 2 ∷ FailedServe 2 ∷ Submit Flush ∷ Step Recalc ∷ Close
    ∷ Take 2 ∷ Take 1 ∷ Take 1 ∷ [])
    ≡ Ticket 1 ∷ Done ∷ Ticket 2 ∷ DiskFailed ∷ IsBroken ∷ IsBroken ∷ IsBroken ∷ IsBroken ∷ IsBroken
    ∷ NotDone ∷ Replied Request.Flush (Bytes []) [] ∷ NotDone ∷ []
told-broken = refl

-- A serve that would not have written has nothing under way.
after-failed_read : let s = after Direct (Submit (Read 0 1 (7 ∷ 7 ∷ [])) ∷ FailedServe 1 ∷ []) in (s.history.pending ≡ None) × (s.condition ≡ Broken)
after-failed_read = (refl, refl)

after-failed_held : let s = after Direct (Submit (Read 0 1 (7 ∷ 7 ∷ [])) ∷ Submit (Write 0 1 (7 ∷ 7 ∷ []) false) ∷ FailedServe 2 ∷ []) in
    (s.history.pending ≡ None) × (s.condition ≡ Broken)
after-failed_held = (refl, refl)

told-failed_step : told Journal (FailedStep Commit ∷ Step Commit ∷ []) ≡ DiskFailed ∷ IsBroken ∷ []
told-failed_step = refl

-- ---- close

-- It drops what is unfinished, and leaves what is done. All is flushed.
after-close : let s = after Direct (Submit (Write 0 2 (7 ∷ 7 ∷ 8 ∷ 8 ∷ []) false) ∷ Serve 1 ∷ Submit Flush ∷ Serve 2 ∷ Close ∷ []) in
    (states s ≡ Dropped ∷ Finished ∷ []) × (s.history.flushed ≡ 1) × (s.condition ≡ Closed)
after-close = (refl, refl, refl)

told-closed : told Direct (Submit Flush ∷ Serve 1 ∷ Close ∷ Take 1 ∷ Submit Flush ∷ Step Commit ∷ FailedClose ∷ [])
    ≡ Ticket 1 ∷ Done ∷ IsClosed ∷ IsClosed ∷ IsClosed ∷ IsClosed ∷ IsClosed ∷ []
told-closed = refl

-- One in which the disk fails flushes nothing.
after-failed_close : let s = after Direct (Submit (Write 0 2 (7 ∷ 7 ∷ 8 ∷ 8 ∷ []) false) ∷ Serve 1 ∷ FailedClose ∷ []) in
    (states s ≡ Dropped ∷ []) × (s.history.flushed ≡ 0) × (s.condition ≡ Closed)
after-failed_close = (refl, refl, refl)

-- With a journal all is committed, placed and settled.
after-close_journal : (after Journal (Submit (Write 0 2 (7 ∷ 7 ∷ 8 ∷ 8 ∷ []) false) ∷ Serve 1 ∷ Serve 1 ∷ Close ∷ [])).progress.journal.sections
    ≡ record { blocks = 0 ∷ 1 ∷ []; placed = 2; state = Free } ∷ []
after-close_journal = refl

-- With a bitmap the bits of the regions that await stay set.
after-close_bitmap : map (after_events (small Bitmap) (opened_device cells 0 (λ r. r == 3) (λ r. r == 3)) (Submit (Write 0 1 (7 ∷ 7 ∷ []) false) ∷ Serve 1 ∷ Close ∷ [])).progress.regions.set_bits
    (0 ∷ 1 ∷ 2 ∷ 3 ∷ []) ≡ false ∷ false ∷ false ∷ true ∷ []
after-close_bitmap = refl

-- ---- actors

told-actors : told Direct (Step Commit ∷ Step Place ∷ Step Settle ∷ Step Clean ∷ Step Recalc ∷ []) ≡ Idle ∷ Idle ∷ Idle ∷ Idle ∷ Idle ∷ []
told-actors = refl

-- In recovery mode nothing is recalculated, by its actor or by a read.
told-recalc_recovery : answers (small Recovery) (opened_device cells 0 (λ r. false) (λ r. true)) (Step Recalc ∷ Submit (Read 1 1 (7 ∷ 7 ∷ [])) ∷ Serve 1 ∷ Step Recalc ∷ [])
    ≡ Idle ∷ Ticket 1 ∷ Done ∷ Idle ∷ []
told-recalc_recovery = refl

after-recalc_recovery : (after_events (small Recovery) (opened_device cells 0 (λ r. false) (λ r. true)) (Submit (Read 1 1 (7 ∷ 7 ∷ [])) ∷ Serve 1 ∷ [])).progress.regions.awaiting 1 ≡ true
after-recalc_recovery = refl
