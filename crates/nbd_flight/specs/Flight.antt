-- The requests in flight, as a session keeps them.
use Rattle.std.specs.Prelude.{◌≡◌, ℕ, ◌<◌, ◌≤◌, true, List, [], ◌∷◌}
use Rattle.nbd_model.specs.Session.{Flying}
use Rattle.request_slots.specs.Flight as slots
use Rattle.request_slots.specs.Flight.{is_in_flight}
use Rattle.nbd_flight.specs.declared.flight.Waiting.{Waiting}

-- The requests that the device has in flight are among those that were submitted, in order of submission, behind a ticket.
abbrev pub AreHeld : (low : ℕ) → List Waiting → slots.Flight → Type 0
AreHeld low [] flight = Unit {0}
AreHeld low (own ∷ waiting) flight =
    (low < own.ticket) × (own.ticket ≤ flight.submitted) × (is_in_flight own.ticket flight ≡ true) × AreHeld own.ticket waiting flight

-- One of them, by its number among those of the stream.
abbrev pub flying_of : (number : ℕ) → Waiting → Flying
flying_of number own = record { number = number; ticket = own.ticket; cookie = own.cookie }

-- They are these requests in flight, one by one.
abbrev pub AreThose : List Waiting → List Flying → Type 0
AreThose [] [] = Unit {0}
AreThose [] (r ∷ flying) = ⊥
AreThose (own ∷ waiting) [] = ⊥
AreThose (own ∷ waiting) (r ∷ flying) = (r ≡ flying_of r.number own) × AreThose waiting flying
