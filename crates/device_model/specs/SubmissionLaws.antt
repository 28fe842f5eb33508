-- What holds of submissions: which get a ticket, and what becomes of those.
use Rattle.std.specs.Prelude.{◌≡◌, ◌⊎◌, ℕ, suc, ◌+◌, ◌*◌, ◌<◌, ◌≤◌, false, ◌↔◌, List, length, Some, slice_get}
use Rattle.device_model.specs.Mode.{DeviceFormat, is_recovery}
use Rattle.device_model.specs.Progress.{DeviceState, Working, in_flight, Event, Submit, Ticket, event_result, after_event, after_events}
use Rattle.device_model.specs.Request.{Request, Read, Write, Flush, Asked}
use Rattle.device_model.specs.RequestLaws.{IsReached}
use Rattle.device_model.specs.Submission.{Submission, request_in, bytes_in}

-- So many blocks are there, and all of them blocks of the device, with as many bytes as they have.
pub record AreBlocks (f : DeviceFormat) (first count : ℕ) (bytes : List ℕ) : Type 0 where
  pub some : 1 ≤ count
  pub there : first + count ≤ f.blocks.blocks
  pub size : length bytes ≡ count * f.blocks.block_size

-- The submission may get a ticket. In recovery mode no write may.
abbrev pub IsFitting : DeviceFormat → Submission → Type 0
IsFitting f (Submission.Read first count buffer) = AreBlocks f first count buffer
IsFitting f (Submission.Write first count bytes fua) = (is_recovery f.mode ≡ false) × AreBlocks f first count bytes
IsFitting f Submission.Flush = Unit {0}

-- It gets the next ticket exactly where it may and a slot is left.
abbrev pub TicketLaw : Type 0
TicketLaw = (f : DeviceFormat) (s : DeviceState) (submission : Submission) → s.condition ≡ Working
    → ((event_result f s (Submit submission)).answer ≡ Ticket (suc (length s.progress.requests)))
    ↔ (IsFitting f submission × (in_flight s.progress.requests < f.slots))

-- Where it gets none, nothing changes.
abbrev pub RefusedLaw : Type 0
RefusedLaw = (f : DeviceFormat) (s : DeviceState) (submission : Submission)
    → ((event_result f s (Submit submission)).answer ≡ Ticket (suc (length s.progress.requests)))
    ⊎ (after_event f s (Submit submission) ≡ s)

-- The request and its bytes are those of a submission that may get a ticket.
pub record IsOfSubmission (f : DeviceFormat) (a : Asked) : Type 0 where
  pub submission : Submission
  pub fitting : IsFitting f submission
  pub request : a.request ≡ request_in f.blocks.block_size submission
  pub given : a.given ≡ bytes_in submission

-- The request has blocks, all of them blocks of the device, and what is written to each is as long as a block; or it is a
-- flush.
abbrev pub IsInRange : DeviceFormat → Request → Type 0
IsInRange f (Read first count) = (1 ≤ count) × (first + count ≤ f.blocks.blocks)
IsInRange f (Write first blocks fua) =
    (1 ≤ length blocks) × (first + length blocks ≤ f.blocks.blocks)
    × ((k : ℕ) (bytes : List ℕ) → slice_get blocks k ≡ Some bytes → length bytes ≡ f.blocks.block_size)
IsInRange f Flush = Unit {0}

-- Each request on the list is what was submitted, so in range.
abbrev pub AcceptedLaw : Type 0
AcceptedLaw = (f : DeviceFormat) (s : DeviceState) → IsReached f s → (k : ℕ) (a : Asked)
    → slice_get s.progress.requests k ≡ Some a → IsOfSubmission f a × IsInRange f a.request

-- It stays that, at its place.
abbrev pub KeptLaw : Type 0
KeptLaw = (f : DeviceFormat) (s : DeviceState) (events : List Event) (k : ℕ) (a : Asked) → slice_get s.progress.requests k ≡ Some a
    → (b : Asked) × (slice_get (after_events f s events).progress.requests k ≡ Some b) × (b.request ≡ a.request) × (b.given ≡ a.given)
