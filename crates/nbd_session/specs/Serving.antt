-- What is done of a stream up to its end.
-- Own.
use Rattle.std.specs.Prelude.{◌≡◌, List, [], ℕ, Option, None, Result, IfOk}
use Rattle.device_parts.specs.Device.{Standing}
use Rattle.request_slots.specs.Flight as slots
use Rattle.nbd_model.specs.Stream as streams
use Rattle.nbd_wire.specs.Splitting.{InHead}
use Rattle.nbd_flight.specs.declared.stop.Stop.{Stop}
use Rattle.nbd_flight.specs.declared.stop.Stop.TheVariants as stops
use Rattle.nbd_flight.specs.declared.flight.Flight.{Flight}
use Rattle.nbd_flight.specs.Deeds.{HasDone, Scene}
use Rattle.nbd_flight.specs.Rounds.{CountsDamage}
use Rattle.nbd_incoming.specs.declared.incoming.Incoming.{Incoming}
use Rattle.nbd_incoming.specs.Incoming.{Keeps}
use Rattle.nbd_session.specs.declared.piece_end.PieceEnd.{PieceEnd}
use Rattle.nbd_session.specs.declared.piece_end.PieceEnd.TheVariants as pieces
use Rattle.nbd_session.specs.Piece.{IsFor}
use Rattle.nbd_session.specs.declared.ended.SessionFault.{SessionFault}
use Rattle.nbd_session.specs.declared.ended.SessionFault.TheVariants.{Memory, Disk, Sink}
use Rattle.nbd_session.specs.declared.serving.StreamEnd.{StreamEnd}
use Rattle.nbd_session.specs.declared.serving.StreamEnd.TheVariants.{Disconnected, Ended, Wrong, Long}
use Rattle.nbd_session.specs.Session.{Course, ForNew, deeds_over, ending_of}

-- What a stop is to the session.
abbrev pub fault_of : Stop → SessionFault
fault_of stops.Memory = Memory
fault_of stops.Disk = Disk
fault_of stops.Sink = Sink

-- What an end in a piece is to the stream.
abbrev pub end_in_piece : PieceEnd → StreamEnd
end_in_piece pieces.Disconnected = Disconnected
end_in_piece (pieces.Wrong magic) = Wrong magic

-- It is that ending.
abbrev pub ending_told : StreamEnd → streams.StreamEnd
ending_told Disconnected = streams.Disconnected
ending_told Ended = streams.Ended
ending_told (Wrong magic) = streams.WrongMagic magic
ending_told Long = streams.TooLong

-- It stands at the beginning of a stream, for a device of these blocks.
pub record IsFirst (incoming : Incoming) (flight : slots.Flight) : Type 0 where
  pub place : incoming.splitter ≡ InHead []
  pub keeps : Keeps incoming None
  pub fit : IsFor incoming flight

-- All that is asked in a stream that ends so is done and replied to.
pub record HasServed (w : Standing) (left : Option (List ℕ)) (ending : streams.StreamEnd) (flight flight_now : Flight) (old new : Scene)
    : Type 0 where
  pub course : Course left
  pub ends : ending_of course ≡ ending
  pub done : HasDone w (deeds_over w course.pieces) old new
  pub damage : CountsDamage (deeds_over w course.pieces) flight flight_now

abbrev pub ServesStream : {E : Type 0} → Result StreamEnd E → (left : Option (List ℕ)) → (flight flight_now : Flight) → (old new : Scene) → Type 0
ServesStream result left flight flight_now old new =
    IfOk result (λ end. ForNew old (λ w. HasServed w left (ending_told end) flight flight_now old new))
