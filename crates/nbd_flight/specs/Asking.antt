-- What is handed in for a request that came whole.
use Rattle.std.specs.Prelude.{◌≡◌, ℕ, List, replicate, Option, Some, None, Result}
use Rattle.device_model.specs.Submission as submissions
use Rattle.device_model.specs.Submission.{Submission}
use Rattle.device_parts.specs.Device.{Standing}
use Rattle.nbd_model.specs.Stream.{Message}
use Rattle.nbd_model.specs.Judged.{submission_of}
use Rattle.nbd_model.specs.Session.{Moment, Part, submit_to}
use Rattle.nbd_flight.specs.declared.stop.Stop.{Stop}
use Rattle.nbd_flight.specs.declared.flight.Flight.{Flight}
use Rattle.nbd_flight.specs.declared.whole.Whole.{Whole}
use Rattle.nbd_flight.specs.declared.judging.Asked.{Asked}
use Rattle.nbd_flight.specs.declared.judging.Asked.TheVariants.{Read, Write, Flush, Disconnect, Refused}
use Rattle.nbd_flight.specs.Deeds.{Scene}
use Rattle.nbd_flight.specs.Judging.{OnBlocks, asked_in}
use Rattle.nbd_flight.specs.Rounds.{ForMoment, HasMade, Makes, StopsIn}

-- What is handed in for what is asked, with so many zeros for a read, or these bytes.
abbrev pub handed_for : Asked → (length : ℕ) → List ℕ → Option Submission
handed_for (Read first count) length bytes = Some (submissions.Read first count (replicate length 0))
handed_for (Write first count fua) length bytes = Some (submissions.Write first count bytes fua)
handed_for Flush length bytes = Some submissions.Flush
handed_for Disconnect length bytes = None
handed_for Refused length bytes = None

-- The bytes of a write that is not refused are kept.
abbrev pub KeepsBytes : Asked → (kept bytes : List ℕ) → Type 0
KeepsBytes (Write first count fua) kept bytes = kept ≡ bytes
KeepsBytes asked kept bytes = Unit {0}

-- The request that came whole is that of a message, as a device of these blocks judges it.
pub record IsWhole (blocks block_size : ℕ) (whole : Whole) (message : Message) : Type 0 where
  pub request : whole.request ≡ message.request
  pub asked : OnBlocks blocks block_size (λ b. whole.asked ≡ asked_in b message.request)
  pub bytes : KeepsBytes whole.asked whole.bytes.items message.bytes

-- It is refused, or handed in to the device.
abbrev pub handing : Message → Standing → Moment → Part
handing message w m = submit_to w.format m message.request.cookie (submission_of w.format.blocks message)

abbrev pub submitting : Submission → (cookie : ℕ) → Standing → Moment → Part
submitting submission cookie w m = submit_to w.format m cookie (Some submission)

abbrev pub Asks : {T E : Type 0} → Whole → Result T E → (flight flight_now : Flight) → (old new : Scene) → Type 0
Asks whole result flight flight_now old new = (message : Message)
    → IsWhole old.parts.common.slots.blocks old.parts.common.slots.block_size whole message
    → Makes (handing message) result flight flight_now old new

abbrev pub StopsAsking : {T : Type 0} → Whole → Result T Stop → (flight : Flight) → (old new : Scene) → Type 0
StopsAsking whole result flight old new = (message : Message)
    → IsWhole old.parts.common.slots.blocks old.parts.common.slots.block_size whole message
    → StopsIn (handing message) result flight old new

-- It is handed in.
abbrev pub Submits : (flight flight_now : Flight) → Submission → (cookie : ℕ) → (old new : Scene) → Type 0
Submits flight flight_now submission cookie old new = ForMoment flight.waiting.items old
    (λ w m. HasMade w (submitting submission cookie w m) flight flight_now old new)
