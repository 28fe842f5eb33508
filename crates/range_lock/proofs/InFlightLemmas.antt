-- What holds an ask is what holds the request in flight that it is for.
use Rattle.std.proofs.Common.{◌≡◌, inl, inr, ℕ, zero, suc, ◌+◌, ◌<◌, ◌≤◌, not, Bool, true, false, List, [], ◌∷◌, ◌++◌, length, take, set, get_or, filter, position, slice_get, if◌then◌else◌, None, Some, refl, ◌∙◌, ap, arith}
use Rattle.std.specs.List.{position_or_len}
use Rattle.std.proofs.lemmas.Bool.{cases_Bool, eq-eqb, ne_eqb, lt-ltb}
use Rattle.std.proofs.lemmas.List.{length-append, length-take, get_or_append_left, get_or_at, take_at}
use Rattle.std.proofs.lemmas.List.Sums.{position_or_len_is}
use Rattle.std.proofs.lemmas.Option.{none-some, same_Some}
use Rattle.device_model.specs.Request.{Request, Asked, first_of, count_of, is_unfinished, overlaps, first_holder, held_by}
use Rattle.range_lock.specs.Asks.{ask_for, blocks_of, has_ticket, holder_among, holder_at, holder_of}
use Rattle.range_lock.specs.InFlight.{asks_of}
use Rattle.range_lock.specs.declared.ask.Ask.{Ask}

-- ---- for callers

-- what holds a request, of those asked for, is the first in flight that does
pub holder_among-asks_of : (t : ℕ) (r : Request) (requests : List Asked) → holder_among (asks_of t requests) r ≡ first_holder t r requests
holder_among-asks_of t r [] = refl
holder_among-asks_of t r (a ∷ requests) =
    let rest = holder_among-asks_of (suc t) r requests in
    elim (cases_Bool (is_unfinished a.state)) [
      | inl unfinished ↦ elim (cases_Bool (overlaps r a.request)) [
        | inl over ↦ simp (unfinished, over)
        | inr apart ↦ simp (unfinished, apart) rest
      ]
      | inr done ↦ simp done rest
    ]

-- a request that is submitted asks behind all others
pub asks_of-append : (t : ℕ) (requests others : List Asked) → asks_of t (requests ++ others) ≡ asks_of t requests ++ asks_of (t + length requests) others
asks_of-append t [] others = ap (λ (n : ℕ). asks_of n others) (omega arith)
asks_of-append t (a ∷ requests) others =
    let rest : asks_of (suc t) (requests ++ others) ≡ asks_of (suc t) requests ++ asks_of (t + suc (length requests)) others =
    asks_of-append (suc t) requests others ∙ ap (λ (n : ℕ). asks_of (suc t) requests ++ asks_of n others) (omega arith) in
    elim (cases_Bool (is_unfinished a.state)) [
      | inl unfinished ↦ simp unfinished (ap (λ (asks : List Ask). ask_for t (first_of a.request) (count_of a.request) ∷ asks) rest)
      | inr done ↦ simp done rest
    ]

-- ---- one request of those in flight

abbrev own : ℕ → Asked → Ask
own ticket a = ask_for ticket (first_of a.request) (count_of a.request)

-- The asks of some requests, where the first of them is unfinished or not.
abbrev asks_by : ℕ → Asked → List Asked → Bool → List Ask
asks_by t a requests b = if b then own t a ∷ asks_of (suc t) requests else asks_of (suc t) requests

tickets_by : (t : ℕ) (a : Asked) (requests : List Asked)
    → ((i : ℕ) → i < length (asks_of (suc t) requests)
    → (suc t ≤ (get_or (asks_of (suc t) requests) i (ask_for 0 0 0)).ticket) × ((get_or (asks_of (suc t) requests) i (ask_for 0 0 0)).ticket < suc t + length requests))
    → (b : Bool) (j : ℕ) → j < length (asks_by t a requests b)
    → (t ≤ (get_or (asks_by t a requests b) j (ask_for 0 0 0)).ticket) × ((get_or (asks_by t a requests b) j (ask_for 0 0 0)).ticket < t + suc (length requests))
tickets_by t a requests later true zero less = (omega arith, omega arith)
tickets_by t a requests later true (suc j) less =
    let rest = later j (omega (arith, less)) in
    (omega (arith, rest.0), omega (arith, rest.1))
tickets_by t a requests later false j less =
    let rest = later j less in
    (omega (arith, rest.0), omega (arith, rest.1))

-- The asks of requests have tickets from the first one's on, below the next one's.
tickets : (t : ℕ) (requests : List Asked) (j : ℕ) → j < length (asks_of t requests)
    → (t ≤ (get_or (asks_of t requests) j (ask_for 0 0 0)).ticket) × ((get_or (asks_of t requests) j (ask_for 0 0 0)).ticket < t + length requests)
tickets t [] j less = absurd (no_less less)
  where
    no_less : j < 0 → ⊥
    no_less l = omega (arith, l)
tickets t (a ∷ requests) j less = tickets_by t a requests (tickets (suc t) requests) (is_unfinished a.state) j less

-- The asks with that of the request at place k among them.
around : (t : ℕ) (requests : List Asked) (k : ℕ) (a : Asked) → slice_get requests k ≡ Some a → is_unfinished a.state ≡ true
    → (behind : List Ask) × (asks_of t requests ≡ asks_of t (take k requests) ++ own (t + k) a ∷ behind)
around t [] k a there unfinished = absurd (none-some a there)
around t (x ∷ requests) zero a there unfinished =
    let same : x ≡ a = same_Some x a there in
    let is : is_unfinished x.state ≡ true = ap (λ (y : Asked). is_unfinished y.state) same ∙ unfinished in
    (asks_of (suc t) requests, simp is (ap (λ (y : Asked). own t y ∷ asks_of (suc t) requests) same ∙ ap (λ (n : ℕ). own n a ∷ asks_of (suc t) requests) (omega arith)))
around t (x ∷ requests) (suc k) a there unfinished =
    let rest = around (suc t) requests k a there unfinished in
    let moved : asks_of (suc t) requests ≡ asks_of (suc t) (take k requests) ++ own (t + suc k) a ∷ rest.0 =
    rest.1 ∙ ap (λ (n : ℕ). asks_of (suc t) (take k requests) ++ own n a ∷ rest.0) (omega arith) in
    elim (cases_Bool (is_unfinished x.state)) [
      | inl is ↦ (rest.0, simp is (ap (λ (asks : List Ask). own t x ∷ asks) moved))
      | inr done ↦ (rest.0, simp done moved)
    ]

-- A ticket below that of all requests takes out none of their asks.
later_stay : (ticket t : ℕ) (requests : List Asked) → ticket < t → filter (λ ask. not (has_ticket ticket ask)) (asks_of t requests) ≡ asks_of t requests
later_stay ticket t [] less = refl
later_stay ticket t (x ∷ requests) less =
    let rest = later_stay ticket (suc t) requests (omega (arith, less)) in
    elim (cases_Bool (is_unfinished x.state)) [
      | inl is ↦ simp (is, ne_eqb t ticket (λ same. omega (arith, same, less))) (ap (λ (asks : List Ask). own t x ∷ asks) rest)
      | inr done ↦ simp done rest
    ]

abbrev no_ask : Ask
no_ask = ask_for 0 0 0

other_ticket : (k : ℕ) (requests : List Asked) (j : ℕ) → j < length (asks_of 1 (take k requests))
    → has_ticket (suc k) (get_or (asks_of 1 (take k requests)) j (ask_for 0 0 0)) ≡ false
other_ticket k requests j less =
    let most : length (take k requests) ≤ k = omega (arith, length-take k requests) in
    let below = (tickets 1 (take k requests) j less).1 in
    ne_eqb (get_or (asks_of 1 (take k requests)) j (ask_for 0 0 0)).ticket (suc k) (λ same. omega (arith, same, below, most))

-- ---- for callers

-- What holds an unfinished request is the first one before it in flight that does.
pub holder_of-asks_of : (requests : List Asked) (k : ℕ) (a : Asked) → slice_get requests k ≡ Some a → is_unfinished a.state ≡ true
    → holder_of (suc k) (asks_of 1 requests) ≡ held_by requests k a.request
holder_of-asks_of requests k a there unfinished =
    let split = around 1 requests k a there unfinished in
    let before = asks_of 1 (take k requests) in
    let me : Ask = own (1 + k) a in
    let all : List Ask = before ++ me ∷ split.0 in
    let first : position_or_len (has_ticket (suc k)) all ≡ length before =
    position_or_len_is (has_ticket (suc k)) all (length before) no_ask (omega (arith, length-append before (me ∷ split.0)))
    (λ j less. ap (has_ticket (suc k)) (get_or_append_left before (me ∷ split.0) no_ask j less) ∙ other_ticket k requests j less)
    (λ less. ap (has_ticket (suc k)) (get_or_at before me split.0 no_ask (length before) refl) ∙ eq-eqb (1 + k) (suc k) (omega arith)) in
    let short : length before < length all = omega (arith, length-append before (me ∷ split.0)) in
    let place : position (has_ticket (suc k)) all ≡ Some (length before) =
    rw first (ap (λ (b : Bool). if b then Some (length before) else None) (lt-ltb (length before) (length all) short)) in
    ap (holder_of (suc k)) split.1
    ∙ ap (holder_at all) place
    ∙ ap (λ (asks : List Ask). holder_among asks (blocks_of (get_or all (length before) no_ask))) (take_at before (me ∷ split.0) (length before) refl)
    ∙ ap (λ (ask : Ask). holder_among before (blocks_of ask)) (get_or_at before me split.0 no_ask (length before) refl)
    ∙ holder_among-asks_of 1 a.request (take k requests)

-- A request that is finished asks for nothing any more.
pub asks_of-finished : (t : ℕ) (requests : List Asked) (k : ℕ) (b : Asked) → is_unfinished b.state ≡ false
    → filter (λ ask. not (has_ticket (t + k) ask)) (asks_of t requests) ≡ asks_of t (set requests k b)
asks_of-finished t [] k b finished = refl
asks_of-finished t (x ∷ requests) zero b finished =
    let rest : filter (λ ask. not (has_ticket (t + 0) ask)) (asks_of (suc t) requests) ≡ asks_of (suc t) requests =
    later_stay (t + 0) (suc t) requests (omega arith) in
    elim (cases_Bool (is_unfinished x.state)) [
      | inl is ↦ simp (is, finished, eq-eqb t (t + 0) (omega arith)) rest
      | inr done ↦ simp (done, finished) rest
    ]
asks_of-finished t (x ∷ requests) (suc k) b finished =
    let rest : filter (λ ask. not (has_ticket (t + suc k) ask)) (asks_of (suc t) requests) ≡ asks_of (suc t) (set requests k b) =
    ap (λ (n : ℕ). filter (λ ask. not (has_ticket n ask)) (asks_of (suc t) requests)) (omega arith) ∙ asks_of-finished (suc t) requests k b finished in
    elim (cases_Bool (is_unfinished x.state)) [
      | inl is ↦ simp (is, ne_eqb t (t + suc k) (λ same. omega (arith, same))) (ap (λ (asks : List Ask). own t x ∷ asks) rest)
      | inr done ↦ simp done rest
    ]
