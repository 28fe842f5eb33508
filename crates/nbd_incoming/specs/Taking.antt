-- What comes of the bytes of a stream that comes in pieces: the requests that it asks, and what ends them.
-- Own.
use Rattle.std.specs.Prelude.{◌≡◌, ℕ, ◌+◌, ◌<◌, Bool, true, false, if◌then◌else◌, ltb, List, [], ◌∷◌, ◌++◌, length, map, take, flat_map, Option, Some, None}
use Rattle.nbd_model.specs.Message.{bytes_behind, is_disconnect}
use Rattle.nbd_model.specs.declared.nbd_request.NbdRequest.{NbdRequest}
use Rattle.nbd_model.specs.Session.{ending_in}
use Rattle.nbd_model.specs.Stream.{Message, StreamEnd, is_whole, most_stream, requests_of}
use Rattle.nbd_model.specs.Stream as streams
use Rattle.nbd_wire.specs.CuttingLaws.{Told, tell}
use Rattle.nbd_wire.specs.declared.event.Event.{Event}
use Rattle.nbd_wire.specs.declared.event.Event.TheVariants.{More, Ask, Bytes}
use Rattle.nbd_wire.specs.declared.event.Event.TheVariants as events
use Rattle.nbd_wire.specs.Splitting.{Place, InHead, InBytes, AtWrong}
use Rattle.nbd_wire.specs.Standing.{IsOpenHead}

-- ---- what comes of an event

-- No message ends, and this write is coming, if one is; a message is whole; a request to disconnect; a wrong magic.
pub data Outcome : Type 0 where
  Part : (coming : Option Message) → Outcome
  Whole : (m : Message) → Outcome
  Disconnected : Outcome
  Wrong : (magic : ℕ) → Outcome

abbrev pub outcome_by : Message → Outcome
outcome_by m = if is_whole m then Whole m else Part (Some m)

abbrev pub more_of : Option Message → List ℕ → Outcome
more_of None bytes = Part None
more_of (Some m) bytes = outcome_by (record m { bytes = m.bytes ++ bytes })

abbrev pub asked_now : NbdRequest → Outcome
asked_now r = if is_disconnect r then Disconnected else outcome_by (record { request = r; bytes = [] })

-- What comes of an event with these bytes, behind what is coming.
abbrev pub outcome_of : Option Message → Event → List ℕ → Outcome
outcome_of coming More bytes = Part coming
outcome_of coming (Ask r) bytes = asked_now r
outcome_of coming (Bytes n) bytes = more_of coming bytes
outcome_of coming (events.Wrong magic) bytes = Wrong magic

-- ---- what is coming

-- Of a write some bytes came, and so many are to come.
pub record IsOpenWrite (left : ℕ) (m : Message) : Type 0 where
  pub some : 0 < left
  pub left_ : left + length m.bytes ≡ bytes_behind m.request
  pub goes : is_disconnect m.request ≡ false

-- A write is coming exactly among its bytes. Behind a wrong magic nothing is.
abbrev pub Fits : Place → Option Message → Type 0
Fits (InHead head) None = IsOpenHead head
Fits (InHead head) (Some m) = ⊥
Fits (InBytes left) None = ⊥
Fits (InBytes left) (Some m) = IsOpenWrite left m
Fits (AtWrong magic) coming = ⊥

-- ---- what is asked

-- The requests that came whole, in order; what ends the requests, if that came; and the write that is coming.
pub record Asking : Type 0 where
  pub asked : List Message
  pub ending : Option StreamEnd
  pub coming : Option Message

abbrev pub asks_none : Option StreamEnd → Option Message → Asking
asks_none ending coming = record { asked = []; ending = ending; coming = coming }

abbrev pub with_asked : Message → Asking → Asking
with_asked m a = record a { asked = m ∷ a.asked }

-- What is asked by what is told, behind what is coming. What is told behind an end is passed over.
abbrev pub asks_by : Option Message → List Told → Asking
asks_by coming [] = asks_none None coming
asks_by coming (t ∷ told) = elim (outcome_of coming t.event t.bytes) [
  | Part next ↦ asks_by next told
  | Whole m ↦ with_asked m (asks_by None told)
  | Disconnected ↦ asks_none (Some streams.Disconnected) None
  | Wrong magic ↦ asks_none (Some (streams.WrongMagic magic)) None
]

-- What is asked in a piece.
abbrev pub asks_in : Place → Option Message → List ℕ → Asking
asks_in place coming piece = asks_by coming (tell place piece).told

-- The requests that are asked in each of some pieces: none behind the piece that ends them.
abbrev pub groups_in : Place → Option Message → List (List ℕ) → List (List Message)
groups_in place coming [] = []
groups_in place coming (piece ∷ pieces) =
    let a = asks_in place coming piece in
    a.asked ∷ elim a.ending [
      | None ↦ groups_in (tell place piece).place a.coming pieces
      | Some end ↦ map (λ later. []) pieces
    ]

-- What ends them, if that is in one of the pieces.
abbrev pub ending_by : Place → Option Message → List (List ℕ) → Option StreamEnd
ending_by place coming [] = None
ending_by place coming (piece ∷ pieces) =
    let a = asks_in place coming piece in
    elim a.ending [
      | None ↦ ending_by (tell place piece).place a.coming pieces
      | Some end ↦ Some end
    ]

-- ---- laws

-- The requests that are asked in each piece of a stream are those that a session takes with the piece.
abbrev pub GroupsLaw : Type 0
GroupsLaw = (pieces : List (List ℕ)) → groups_in (InHead []) None pieces ≡ ending_in [] 0 pieces

-- Where nothing in its pieces ends the requests of a stream, its end does, or the bound on it.
abbrev pub end_of : (too_long : Bool) → Option StreamEnd → StreamEnd
end_of too_long (Some end) = end
end_of true None = streams.TooLong
end_of false None = streams.Ended

-- What ends the requests of a stream is what ends those of its pieces.
abbrev pub EndingLaw : Type 0
EndingLaw = (stream : List ℕ) (pieces : List (List ℕ)) → flat_map (λ piece. piece) pieces ≡ take most_stream stream
    → (requests_of stream).ending ≡ end_of (ltb most_stream (length stream)) (ending_by (InHead []) None pieces)
