-- The tickets of a script are those of the requests in flight.
use Rattle.std.proofs.Common.{◌≡◌, inl, inr, ℕ, zero, suc, ◌+◌, ◌<◌, ◌==◌, ◌||◌, not, Bool, true, false, if◌then◌else◌, List, [], ◌∷◌, ◌++◌, map, length, take, drop, get_or, None, Some, Option, slice_get, refl, sym, ◌∙◌, ap, arith}
use Rattle.std.specs.List.{list_any}
use Rattle.std.proofs.lemmas.Bool.{cases_Bool, eq-eqb, ne_eqb}
use Rattle.std.proofs.lemmas.Option.{none-some}
use Rattle.std.proofs.lemmas.List.Folds.{list_any_at}
use Rattle.device_model.specs.Mode.{DeviceFormat}
use Rattle.device_model.specs.Progress.{Progress}
use Rattle.device_model.specs.Request as Asks
use Rattle.device_model.specs.Request.{Asked, is_not_over, is_over}
use Rattle.device_model.specs.Script as script
use Rattle.device_model.specs.Script.{MeaningFault, ScriptLine, WrongTicket, meaning_fault}
use Rattle.range_lock.specs.declared.ask.Ask.{Ask}
use Rattle.request_slots.specs.Flight.{Flight, ask_of, is_in_flight, is_of}
use Rattle.request_slots.specs.InFlight.{IsFlightOf, slot_for, slots_of}
use Rattle.request_slots.specs.declared.slot.Slot.{Slot}
use Rattle.script_session.specs.declared.tickets.Tickets.{Tickets}
use Rattle.script_session.specs.declared.tickets.Waiting.{Waiting}
use Rattle.script_session.specs.Meaning.{ask_fault_on, fault_on, ticket_fault_among}
use Rattle.script_session.specs.Tickets.{AreInFlight, ask_by, numbers_of}
use Rattle.script_session.proofs.AllLemmas.{numbers_from}

abbrev pub of_waiting : ℕ → Waiting → Bool
of_waiting ticket waiting = waiting.ticket == ticket

-- ---- the tickets and the slots

pub any-asks : (t : ℕ) (waiting : List Waiting) (slots : List Slot) → map ask_by waiting ≡ map ask_of slots
    → list_any (of_waiting t) waiting ≡ list_any (is_of t) slots
any-asks t [] [] same = refl
any-asks t [] (x ∷ slots) same = absurd (cc)
any-asks t (w ∷ waiting) [] same = absurd (cc)
any-asks t (w ∷ waiting) (x ∷ slots) same =
    let head : ask_by w ≡ ask_of x = cc in
    let tail : map ask_by waiting ≡ map ask_of slots = cc in
    ap (λ (a : Ask). (a.ticket == t) || list_any (of_waiting t) waiting) head
    ∙ ap (λ (b : Bool). (x.ticket == t) || b) (any-asks t waiting slots tail)

pub any-numbers : (t : ℕ) (waiting : List Waiting)
    → list_any (λ n. n == t) (map (λ w. w.ticket) waiting) ≡ list_any (of_waiting t) waiting
any-numbers t [] = refl
any-numbers t (w ∷ waiting) = ap (λ (b : Bool). (w.ticket == t) || b) (any-numbers t waiting)

numbers-asks : (waiting : List Waiting) (slots : List Slot) → map ask_by waiting ≡ map ask_of slots
    → map (λ w. w.ticket) waiting ≡ map (λ slot. slot.ticket) slots
numbers-asks [] [] same = refl
numbers-asks [] (x ∷ slots) same = absurd (cc)
numbers-asks (w ∷ waiting) [] same = absurd (cc)
numbers-asks (w ∷ waiting) (x ∷ slots) same =
    let head : ask_by w ≡ ask_of x = cc in
    let tail : map ask_by waiting ≡ map ask_of slots = cc in
    ap (λ (a : Ask). a.ticket ∷ map (λ w. w.ticket) waiting) head ∙ ap (λ (l : List ℕ). x.ticket ∷ l) (numbers-asks waiting slots tail)

numbers-slots : (t : ℕ) (requests : List Asked) → map (λ slot. slot.ticket)
    (slots_of t requests) ≡ numbers_from t requests
numbers-slots t [] = refl
numbers-slots t (a ∷ requests) = by (is_over a.state) (numbers-slots (suc t) requests)
  where
    by : (b : Bool) → map (λ slot. slot.ticket) (slots_of (suc t) requests) ≡ numbers_from (suc t) requests
        → map (λ slot. slot.ticket)
        (if b then slots_of (suc t) requests else slot_for t a ∷ slots_of (suc t) requests)
        ≡ (if b then numbers_from (suc t) requests else t ∷ numbers_from (suc t) requests)
    by true rest = rest
    by false rest = ap (λ (l : List ℕ). t ∷ l) rest

-- ---- the requests of the model

none_below : (ticket t : ℕ) (requests : List Asked) → ticket < t → list_any (is_of ticket)
    (slots_of t requests) ≡ false
none_below ticket t [] low = refl
none_below ticket t (a ∷ requests) low = by (is_over a.state) (none_below ticket (suc t) requests (omega (arith, low)))
  where
    by : (b : Bool) → list_any (is_of ticket) (slots_of (suc t) requests) ≡ false → list_any (is_of ticket)
        (if b then slots_of (suc t) requests else slot_for t a ∷ slots_of (suc t) requests) ≡ false
    by true rest = rest
    by false rest =
        ap (λ (b : Bool). b || list_any (is_of ticket) (slots_of (suc t) requests)) (ne_eqb t ticket (λ same. omega (arith, low, same)))
        ∙ rest

any_at : (ticket t : ℕ) (requests : List Asked) (k : ℕ) → ticket ≡ t + k → list_any (is_of ticket)
    (slots_of t requests) ≡ is_not_over (slice_get requests k)
any_at ticket t [] k is = refl
any_at ticket t (a ∷ requests) zero is = elim (cases_Bool (is_over a.state)) [
  | inl over ↦
      ap (λ (b : Bool). list_any (is_of ticket) (if b then slots_of (suc t) requests else slot_for t a ∷ slots_of (suc t) requests)) over
      ∙ none_below ticket (suc t) requests (omega (arith, is)) ∙ sym (ap not over)
  | inr open_ ↦
      ap (λ (b : Bool). list_any (is_of ticket) (if b then slots_of (suc t) requests else slot_for t a ∷ slots_of (suc t) requests)) open_
      ∙ ap (λ (b : Bool). b || list_any (is_of ticket) (slots_of (suc t) requests)) (eq-eqb t ticket (omega (arith, is))) ∙ sym (ap not open_)
]
any_at ticket t (a ∷ requests) (suc k) is = by (is_over a.state) (any_at ticket (suc t) requests k (omega (arith, is)))
  where
    by : (b : Bool) → list_any (is_of ticket) (slots_of (suc t) requests) ≡ is_not_over (slice_get requests k)
        → list_any (is_of ticket)
        (if b then slots_of (suc t) requests else slot_for t a ∷ slots_of (suc t) requests) ≡ is_not_over (slice_get requests k)
    by true rest = rest
    by false rest =
        ap (λ (b : Bool). b || list_any (is_of ticket) (slots_of (suc t) requests)) (ne_eqb t ticket (λ same. omega (arith, is, same)))
        ∙ rest

module _ (f : DeviceFormat) (flight : Flight) (requests : List Asked) (is : IsFlightOf f flight requests) where
  pub in_flight-is : (ticket : ℕ) → is_in_flight ticket flight ≡ Asks.is_in_flight requests ticket
  in_flight-is zero = ap (list_any (is_of 0)) is.slots ∙ none_below 0 1 requests (omega arith)
  in_flight-is (suc k) = ap (list_any (is_of (suc k))) is.slots ∙ any_at (suc k) 1 requests k (omega arith)

  -- Their numbers are those of the model's requests.
  pub numbers-are : (tickets : Tickets) → AreInFlight tickets flight
      → numbers_of tickets ≡ numbers_from 1 requests
  numbers-are tickets in_flight =
      numbers-asks tickets.waiting.items flight.slots in_flight.asks ∙ ap (map (λ slot. slot.ticket)) is.slots ∙ numbers-slots 1 requests

pub any-tickets : (tickets : Tickets) (flight : Flight) (ticket : ℕ) → AreInFlight tickets flight
    → list_any (λ n. n == ticket) (numbers_of tickets) ≡ is_in_flight ticket flight
any-tickets tickets flight ticket in_flight = any-numbers ticket tickets.waiting.items ∙ any-asks ticket tickets.waiting.items flight.slots in_flight.asks

-- No ticket is that of a device without requests.
pub none_in_flight : (tickets : Tickets) (flight : Flight) → tickets.waiting.items ≡ [] → flight.slots ≡ []
    → AreInFlight tickets flight
none_in_flight tickets flight none empty =
    record { asks = ap (map ask_by) none ∙ sym (ap (map ask_of) empty) }

-- The request at a place is in flight.
pub ticket_there : (tickets : Tickets) (flight : Flight) → AreInFlight tickets flight → (i : ℕ) (own : Waiting)
    → i < length tickets.waiting.items
    → own ≡ get_or tickets.waiting.items i own → is_in_flight own.ticket flight ≡ true
ticket_there tickets flight are i own low is =
    sym (any-asks own.ticket tickets.waiting.items flight.slots are.asks)
    ∙ list_any_at (of_waiting own.ticket) tickets.waiting.items i own low
    (ap (of_waiting own.ticket) (sym is) ∙ eq-eqb own.ticket own.ticket refl)

-- Tickets around one.
pub numbers-split : (waiting : List Waiting) (i : ℕ) (own : Waiting) → i < length waiting
    → own ≡ get_or waiting i own
    → map (λ w. w.ticket) (take i waiting) ++ own.ticket ∷ map (λ w. w.ticket)
    (drop (suc i) waiting) ≡ map (λ w. w.ticket) waiting
numbers-split [] i own low is = absurd (omega (arith, low))
numbers-split (w ∷ waiting) zero own low is = ap (λ (x : Waiting). x.ticket ∷ map (λ y. y.ticket) waiting) is
numbers-split (w ∷ waiting) (suc i) own low is =
    ap (λ (l : List ℕ). w.ticket ∷ l) (numbers-split waiting i own (omega (arith, low)) is)

-- ---- what is refused

ask_fault-is : (f : DeviceFormat) (ask : script.Ask)
    → ask_fault_on f.blocks.blocks f.blocks.block_size ask ≡ script.ask_fault f ask
ask_fault-is f (script.Fill first count byte fua) = refl
ask_fault-is f (script.Write first stretches fua) = refl
ask_fault-is f (script.Read first count) = refl
ask_fault-is f script.Flush = refl

module _ (f : DeviceFormat) (flight : Flight) (p : Progress) (is : IsFlightOf f flight p.requests) (tickets : Tickets) (in_flight : AreInFlight tickets flight) where
  ticket_is : (ticket : ℕ)
      → (if list_any (λ n. n == ticket) (numbers_of tickets) then None else Some (WrongTicket ticket)) ≡ script.ticket_fault p ticket
  ticket_is ticket =
      let by : Bool → Option MeaningFault = λ b. (if b then None else Some (WrongTicket ticket)) in
      ap by (any-tickets tickets flight ticket in_flight ∙ in_flight-is f flight p.requests is ticket)

  -- A line is refused as the model says.
  pub fault-is : (line : ScriptLine)
      → fault_on flight.blocks flight.block_size (numbers_of tickets) line ≡ meaning_fault f p line
  fault-is script.Skip = refl
  fault-is (script.AskLine start ask) =
      ap (λ (n : ℕ). ask_fault_on n flight.block_size ask) is.blocks ∙ ap (λ (n : ℕ). ask_fault_on f.blocks.blocks n ask) is.block_size ∙ ask_fault-is f ask
  fault-is (script.ServeLine ticket) = ticket_is ticket
  fault-is (script.TakeLine ticket) = ticket_is ticket
  fault-is (script.StepLine actor) = refl

-- A ticket that is not refused is there.
pub ticket_held : (tickets : Tickets) (ticket : ℕ) → ticket_fault_among (numbers_of tickets) ticket ≡ None
    → list_any (of_waiting ticket) tickets.waiting.items ≡ true
ticket_held tickets ticket none = elim (cases_Bool (list_any (λ n. n == ticket) (numbers_of tickets))) [
  | inl there ↦ sym (any-numbers ticket tickets.waiting.items) ∙ there
  | inr other ↦
      let by : Bool → Option MeaningFault = λ b. (if b then None else Some (WrongTicket ticket)) in
      absurd (none-some (WrongTicket ticket) (sym none ∙ ap by other))
]
