-- What is done of a piece of a stream, on each device that works and with each requests in flight that these may be.
-- Own.
use Rattle.std.specs.Prelude.{◌≡◌, ℕ, ◌<◌, List, [], Option, None, Result, IfErr, IfOk}
use Rattle.std.specs.Option.{option_map}
use Rattle.device_parts.specs.declared.condition.Condition.TheVariants.{Working}
use Rattle.device_parts.specs.Device.{Standing}
use Rattle.device.specs.Device.{IsDevice}
use Rattle.nbd_model.specs.Stream as streams
use Rattle.nbd_model.specs.Stream.{Message}
use Rattle.nbd_model.specs.Session.{Flying, Moment, Part, take_piece, until, with_deeds}
use Rattle.request_slots.specs.Flight as slots
use Rattle.nbd_wire.specs.CuttingLaws.{tell}
use Rattle.nbd_wire.specs.Splitting.{Place}
use Rattle.nbd_flight.specs.declared.stop.Stop.{Stop}
use Rattle.nbd_flight.specs.declared.flight.Flight.{Flight}
use Rattle.nbd_flight.specs.Deeds.{HasStopped, Scene, behind}
use Rattle.nbd_flight.specs.Flight.{AreThose}
use Rattle.nbd_flight.specs.Rounds.{HasMade, moment_of}
use Rattle.nbd_incoming.specs.declared.incoming.Incoming.{Incoming}
use Rattle.nbd_incoming.specs.Incoming.{Keeps}
use Rattle.nbd_incoming.specs.Taking.{Asking, asks_in}
use Rattle.nbd_session.specs.declared.piece_end.PieceEnd.{PieceEnd}
use Rattle.nbd_session.specs.declared.piece_end.PieceEnd.TheVariants.{Disconnected, Wrong}
use Rattle.nbd_session.specs.UnderWay.{IsUnderWay}

-- It is that ending.
abbrev pub end_told : PieceEnd → streams.StreamEnd
end_told Disconnected = streams.Disconnected
end_told (Wrong magic) = streams.WrongMagic magic

-- The stream's requests are taken for a device of these blocks, and a write that may be coming is kept.
pub record IsFor (incoming : Incoming) (flight : slots.Flight) : Type 0 where
  pub blocks : incoming.blocks ≡ flight.blocks
  pub block_size : incoming.block_size ≡ flight.block_size
  pub some : 0 < incoming.block_size
  pub coming : Option Message
  pub keeps : Keeps incoming coming

-- So it is for each session under way, and each write that may be coming.
abbrev pub ForWay : Flight → Incoming → Scene → (Standing → Moment → Option Message → Type 0) → Type 0
ForWay flight incoming old P = (w : Standing) → IsDevice w Working old.parts old.moments → (flying : List Flying)
    → AreThose flight.waiting.items flying → (taken : ℕ) → IsUnderWay w.format (moment_of w flying taken)
    → (coming : Option Message) → Keeps incoming coming → P w (moment_of w flying taken) coming

-- What ends the requests in the piece is told. Else the next piece is taken from there.
pub record EndsSo (end : Option PieceEnd) (a : Asking) (place : Place) (incoming : Incoming) : Type 0 where
  pub ends : option_map end_told end ≡ a.ending
  pub goes : end ≡ None → Keeps incoming a.coming
  pub place_ : end ≡ None → incoming.splitter ≡ place

-- All that is asked in a piece is taken; the rounds until none is in flight are left.
pub record HasAsked (w : Standing) (m : Moment) (asked : List Message) (flight flight_now : Flight) (old new : Scene) : Type 0 where
  pub part : Part
  pub made : HasMade w part flight flight_now old new
  pub state : part.behind.state ≡ (behind w part.deeds).state
  pub way : IsUnderWay w.format part.behind
  pub left : take_piece w.format m asked ≡ with_deeds part.deeds (until w.format 0 part.behind)

abbrev pub Asks : {E : Type 0} → Result (Option PieceEnd) E → List ℕ → (flight flight_now : Flight) → (incoming incoming_now : Incoming)
    → (old new : Scene) → Type 0
Asks result piece flight flight_now incoming incoming_now old new = IfOk result (λ end. ForWay flight incoming old (λ w m coming.
    let a = asks_in incoming.splitter coming piece in
    HasAsked w m a.asked flight flight_now old new × EndsSo end a (tell incoming.splitter piece).place incoming_now))

-- And then they are made: none is in flight.
pub record HasTakenPiece (w : Standing) (m : Moment) (asked : List Message) (flight flight_now : Flight) (old new : Scene) : Type 0 where
  pub made : HasMade w (take_piece w.format m asked) flight flight_now old new
  pub state : (take_piece w.format m asked).behind.state ≡ (behind w (take_piece w.format m asked).deeds).state
  pub way : IsUnderWay w.format (take_piece w.format m asked).behind
  pub none : (take_piece w.format m asked).behind.flying ≡ []

abbrev pub TakesPiece : {E : Type 0} → Result (Option PieceEnd) E → List ℕ → (flight flight_now : Flight) → (incoming incoming_now : Incoming)
    → (old new : Scene) → Type 0
TakesPiece result piece flight flight_now incoming incoming_now old new = IfOk result (λ end. ForWay flight incoming old (λ w m coming.
    let a = asks_in incoming.splitter coming piece in
    HasTakenPiece w m a.asked flight flight_now old new × EndsSo end a (tell incoming.splitter piece).place incoming_now))

-- Something stopped it.
abbrev pub StopsPiece : {T : Type 0} → Result T Stop → List ℕ → Flight → Incoming → (old new : Scene) → Type 0
StopsPiece result piece flight incoming old new = IfErr result (λ stop. ForWay flight incoming old (λ w m coming.
    HasStopped w (take_piece w.format m (asks_in incoming.splitter coming piece).asked).deeds stop old new))
