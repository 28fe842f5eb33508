-- What is done next for a request in flight, as `device_model` has it.
use Rattle.std.proofs.Common.{◌≡◌, ◌⊎◌, inl, inr, ℕ, suc, ◌+◌, ◌==◌, ◌||◌, ◌&&◌, Bool, true, false, if◌then◌else◌, List, [], ◌∷◌, find, map, slice_get, Option, None, Some, refl, sym, ◌∙◌, ap, subst, arith}
use Rattle.std.specs.List.{list_any}
use Rattle.std.proofs.lemmas.Bool.{cases_Bool, eqb-true, false≢true}
use Rattle.device_model.specs.Mode.{DeviceFormat}
use Rattle.device_model.specs.Progress as Model
use Rattle.device_model.specs.Request as Asks
use Rattle.range_lock.specs.Asks.{holder_of}
use Rattle.range_lock.specs.declared.ask.Ask.{Ask}
use Rattle.request_slots.specs.Flight.{Flight, ask_of, asks_in, count_in, is_in_flight, is_of, next_of, slot_of, turn_behind, turn_in, turn_of}
use Rattle.request_slots.specs.InFlight.{IsFlightOf, bytes_now, request_with, slot_for, slots_of}
use Rattle.request_slots.specs.Serving.{changed, with_change}
use Rattle.request_slots.specs.declared.slot.Slot.{Slot}
use Rattle.request_slots.specs.declared.turn.Turn.{Turn}
use Rattle.request_slots.specs.declared.turn.Turn.TheVariants as Turns
use Rattle.request_slots.proofs.InFlightLemmas.{holder_of-request, is_open-outcome_in, slot_of-request}
use Rattle.device_parts.specs.Answers.{served_answer, served_by, waits}

-- ---- where a request in flight stands

-- The request of a ticket, of some of which the first has ticket t, is neither taken nor dropped.
pub record IsPlaced (ticket t : ℕ) (requests : List Asks.Asked) : Type 0 where
  pub place : ℕ
  pub asked : Asks.Asked
  pub is : ticket ≡ t + place
  pub there : slice_get requests place ≡ Some asked
  pub open_ : Asks.is_over asked.state ≡ false

placed_behind : (ticket t : ℕ) (a : Asks.Asked) (requests : List Asks.Asked) → IsPlaced ticket (suc t) requests → IsPlaced ticket t (a ∷ requests)
placed_behind ticket t a requests is = record {
  place = suc is.place;
  asked = is.asked;
  is = let same = is.is in omega (arith, same);
  there = is.there;
  open_ = is.open_;
}

placed_own : (ticket t : ℕ) (a : Asks.Asked) (requests : List Asks.Asked) → (list_any (is_of ticket) (slots_of (suc t) requests) ≡ true → IsPlaced ticket (suc t) requests)
    → Asks.is_over a.state ≡ false → (t == ticket ≡ true) ⊎ (t == ticket ≡ false) → list_any (is_of ticket) (slot_for t a ∷ slots_of (suc t) requests) ≡ true → IsPlaced ticket t (a ∷ requests)
placed_own ticket t a requests rest open_ (inl same) x = record {
  place = 0;
  asked = a;
  is = let e = eqb-true t ticket same in omega (arith, e);
  there = refl;
  open_ = open_;
}
placed_own ticket t a requests rest open_ (inr other) x =
    placed_behind ticket t a requests (rest (subst (λ (b : Bool). (b || list_any (is_of ticket) (slots_of (suc t) requests)) ≡ true) other x))

placed_by : (ticket t : ℕ) (a : Asks.Asked) (requests : List Asks.Asked) → (list_any (is_of ticket) (slots_of (suc t) requests) ≡ true → IsPlaced ticket (suc t) requests)
    → (Asks.is_over a.state ≡ true) ⊎ (Asks.is_over a.state ≡ false) → list_any (is_of ticket) (slots_of t (a ∷ requests)) ≡ true → IsPlaced ticket t (a ∷ requests)
placed_by ticket t a requests rest (inl over) x =
    placed_behind ticket t a requests (rest
    (subst (λ (b : Bool). list_any (is_of ticket) (if b then slots_of (suc t) requests else slot_for t a ∷ slots_of (suc t) requests) ≡ true) over x))
placed_by ticket t a requests rest (inr open_) x =
    placed_own ticket t a requests rest open_ (cases_Bool (t == ticket))
    (subst (λ (b : Bool). list_any (is_of ticket) (if b then slots_of (suc t) requests else slot_for t a ∷ slots_of (suc t) requests) ≡ true) open_ x)

pub placed : (ticket t : ℕ) (requests : List Asks.Asked) → list_any (is_of ticket) (slots_of t requests) ≡ true → IsPlaced ticket t requests
placed ticket t [] any = absurd (false≢true any)
placed ticket t (a ∷ requests) any = placed_by ticket t a requests (λ x. placed ticket (suc t) requests x) (cases_Bool (Asks.is_over a.state)) any

-- ---- what is done next

-- The next block of a read is this one.
pub record IsNextRead (requests : List Asks.Asked) (k : ℕ) (a : Asks.Asked) (block : ℕ) : Type 0 where
  pub unfinished : a.state ≡ Asks.Unfinished
  pub unheld : Asks.held_by requests k a.request ≡ None
  pub first : ℕ
  pub count : ℕ
  pub request : a.request ≡ Asks.Read first count
  pub block_ : block ≡ first + a.served

-- That of a write is, and all is flushed where it is the last of a write with a flush.
pub record IsNextWrite (requests : List Asks.Asked) (k : ℕ) (a : Asks.Asked) (block : ℕ) (flushes : Bool) : Type 0 where
  pub unfinished : a.state ≡ Asks.Unfinished
  pub unheld : Asks.held_by requests k a.request ≡ None
  pub first : ℕ
  pub blocks : List (List ℕ)
  pub fua : Bool
  pub request : a.request ≡ Asks.Write first blocks fua
  pub block_ : block ≡ first + a.served
  pub flushes_ : flushes ≡ Model.is_flushed_by a blocks fua

pub record IsNextFlush (requests : List Asks.Asked) (k : ℕ) (a : Asks.Asked) : Type 0 where
  pub unfinished : a.state ≡ Asks.Unfinished
  pub unheld : Asks.held_by requests k a.request ≡ None
  pub request : a.request ≡ Asks.Flush

-- What is done next for the request at place k.
abbrev pub IsTurnOf : List Asks.Asked → ℕ → Asks.Asked → Turn → Type 0
IsTurnOf requests k a Turns.Finished = a.state ≡ Asks.Finished
IsTurnOf requests k a (Turns.Held by) = (a.state ≡ Asks.Unfinished) × (Asks.held_by requests k a.request ≡ Some by)
IsTurnOf requests k a (Turns.Read block) = IsNextRead requests k a block
IsTurnOf requests k a (Turns.Write block flushes) = IsNextWrite requests k a block flushes
IsTurnOf requests k a Turns.Flush = IsNextFlush requests k a

module _ (f : DeviceFormat) (flight : Flight) (requests : List Asks.Asked) (is : IsFlightOf f flight requests) (k : ℕ) (a : Asks.Asked)
    (there : slice_get requests k ≡ Some a) (open_ : Asks.is_over a.state ≡ false) where
  abbrev slot : Slot
  slot = slot_for (1 + k) a

  pub slot-is : slot_of (suc k) flight ≡ Some slot
  slot-is = ap (find (is_of (suc k))) is.slots ∙ slot_of-request requests k a there open_

  one_is : 1 + k ≡ suc k
  one_is = omega arith

  pub turn-done : Asks.is_unfinished a.state ≡ false → turn_of flight (suc k) ≡ Turns.Finished
  turn-done done =
      ap (turn_in flight) slot-is
      ∙ ap (λ (b : Bool). if b then turn_behind slot (holder_of slot.ticket (asks_in flight.slots)) else Turns.Finished) (is_open-outcome_in a.state a.reply ∙ done)

  pub turn-open : Asks.is_unfinished a.state ≡ true → turn_of flight (suc k) ≡ turn_behind slot (Asks.held_by requests k a.request)
  turn-open still =
      ap (turn_in flight) slot-is
      ∙ ap (λ (b : Bool). if b then turn_behind slot (holder_of slot.ticket (asks_in flight.slots)) else Turns.Finished) (is_open-outcome_in a.state a.reply ∙ still)
      ∙ ap (λ (n : ℕ). turn_behind slot (holder_of n (asks_in flight.slots))) one_is
      ∙ ap (λ (xs : List Slot). turn_behind slot (holder_of (suc k) (asks_in xs))) is.slots
      ∙ ap (turn_behind slot) (holder_of-request requests k a there open_ still)

  next_is : a.state ≡ Asks.Unfinished → Asks.held_by requests k a.request ≡ None → (r : Asks.Request) → a.request ≡ r
      → IsTurnOf requests k a (next_of slot (request_with r (bytes_now a)))
  next_is unfinished unheld (Asks.Read first count) request = record {
    unfinished = unfinished;
    unheld = unheld;
    first = first;
    count = count;
    request = request;
    block_ = refl;
  }
  next_is unfinished unheld (Asks.Write first blocks fua) request = record {
    unfinished = unfinished;
    unheld = unheld;
    first = first;
    blocks = blocks;
    fua = fua;
    request = request;
    block_ = refl;
    flushes_ = ap (λ (r : Asks.Request). fua && (suc a.served == count_in (request_with r (bytes_now a)))) request;
  }
  next_is unfinished unheld Asks.Flush request = record { unfinished = unfinished; unheld = unheld; request = request }

  behind_is : a.state ≡ Asks.Unfinished → (o : Option ℕ) → Asks.held_by requests k a.request ≡ o → IsTurnOf requests k a (turn_behind slot o)
  behind_is unfinished (Some by) held = (unfinished, held)
  behind_is unfinished None held = next_is unfinished held a.request refl

  pub turn_is : IsTurnOf requests k a (turn_of flight (suc k))
  turn_is = by a.state refl
    where
      by : (state : Asks.RequestState) → a.state ≡ state → IsTurnOf requests k a (turn_of flight (suc k))
      by Asks.Unfinished e =
          subst (IsTurnOf requests k a) (sym (turn-open (ap Asks.is_unfinished e))) (behind_is e (Asks.held_by requests k a.request) refl)
      by Asks.Finished e = subst (IsTurnOf requests k a) (sym (turn-done (ap Asks.is_unfinished e))) e
      by Asks.Taken e = absurd (false≢true (sym open_ ∙ ap Asks.is_over e))
      by Asks.Dropped e = absurd (false≢true (sym open_ ∙ ap Asks.is_over e))

  -- What it answers.
  pub answer_is : Model.answer_by a.state ≡ served_answer (served_by (turn_of flight (suc k)))
  answer_is = by a.state refl
    where
      next : (r : Asks.Request) → Model.Did ≡ served_answer (served_by (next_of slot (request_with r (bytes_now a))))
      next (Asks.Read first count) = refl
      next (Asks.Write first blocks fua) = refl
      next Asks.Flush = refl

      behind : (o : Option ℕ) → Model.Did ≡ served_answer (served_by (turn_behind slot o))
      behind (Some by) = refl
      behind None = next a.request

      by : (state : Asks.RequestState) → a.state ≡ state → Model.answer_by a.state ≡ served_answer (served_by (turn_of flight (suc k)))
      by Asks.Unfinished e =
          ap Model.answer_by e ∙ behind (Asks.held_by requests k a.request) ∙ ap (λ (t : Turn). served_answer (served_by t)) (sym (turn-open (ap Asks.is_unfinished e)))
      by Asks.Finished e = ap Model.answer_by e ∙ ap (λ (t : Turn). served_answer (served_by t)) (sym (turn-done (ap Asks.is_unfinished e)))
      by Asks.Taken e = absurd (false≢true (sym open_ ∙ ap Asks.is_over e))
      by Asks.Dropped e = absurd (false≢true (sym open_ ∙ ap Asks.is_over e))

-- ---- which are in flight

-- A change that keeps the ticket changes nothing of that.
in_flight-one : (t : ℕ) (change : Slot → Slot) → ((x : Slot) → (change x).ticket ≡ x.ticket) → (x : Slot) (slots others : List Slot)
    → list_any (is_of t) others ≡ list_any (is_of t) slots → (b : Bool)
    → list_any (is_of t) (if b then change x ∷ slots else x ∷ others) ≡ list_any (is_of t) (x ∷ slots)
in_flight-one t change same x slots others rest true = ap (λ (n : ℕ). (n == t) || list_any (is_of t) slots) (same x)
in_flight-one t change same x slots others rest false = ap (λ (b : Bool). is_of t x || b) rest

in_flight-slots : (ticket t : ℕ) (change : Slot → Slot) → ((x : Slot) → (change x).ticket ≡ x.ticket) → (slots : List Slot)
    → list_any (is_of t) (changed ticket change slots) ≡ list_any (is_of t) slots
in_flight-slots ticket t change same [] = refl
in_flight-slots ticket t change same (x ∷ slots) =
    in_flight-one t change same x slots (changed ticket change slots) (in_flight-slots ticket t change same slots) (is_of ticket x)

pub in_flight-changed : (ticket t : ℕ) (change : Slot → Slot) → ((x : Slot) → (change x).ticket ≡ x.ticket) → (flight : Flight)
    → is_in_flight t (with_change ticket change flight) ≡ is_in_flight t flight
in_flight-changed ticket t change same flight = in_flight-slots ticket t change same flight.slots

-- So does one that keeps the blocks with it, of what is asked.
asks-one : (change : Slot → Slot) → ((x : Slot) → ask_of (change x) ≡ ask_of x) → (x : Slot) (slots others : List Slot)
    → map ask_of others ≡ map ask_of slots → (b : Bool) → map ask_of (if b then change x ∷ slots else x ∷ others) ≡ map ask_of (x ∷ slots)
asks-one change same x slots others rest true =
    ap (λ (a : Ask). a ∷ map ask_of slots) (same x)
asks-one change same x slots others rest false =
    ap (λ (l : List Ask). ask_of x ∷ l) rest

pub asks-changed : (ticket : ℕ) (change : Slot → Slot) → ((x : Slot) → ask_of (change x) ≡ ask_of x) → (slots : List Slot)
    → map ask_of (changed ticket change slots) ≡ map ask_of slots
asks-changed ticket change same [] = refl
asks-changed ticket change same (x ∷ slots) =
    asks-one change same x slots (changed ticket change slots) (asks-changed ticket change same slots) (is_of ticket x)

-- A request that was served waits for nothing.
pub served-goes_on : (t : Turn) → waits (served_by t) ≡ false
served-goes_on Turns.Finished = refl
served-goes_on (Turns.Held by) = refl
served-goes_on (Turns.Read block) = refl
served-goes_on (Turns.Write block is_flushed) = refl
served-goes_on Turns.Flush = refl
