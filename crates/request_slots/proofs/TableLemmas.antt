-- The table around the request of a ticket, and after a change of it.
use Rattle.std.proofs.Common.{◌≡◌, ◌⊎◌, inl, inr, ℕ, suc, ◌+◌, ◌<◌, ◌≤◌, not, Bool, true, false, if◌then◌else◌, List, ◌∷◌, ◌++◌, length, set, get_or, find, Option, None, Some, IfSome, refl, sym, ◌∙◌, ap, subst, arith, length-append, [], unwrap_or, position, ltb}
use Rattle.std.specs.List.{AllByRecursion, position_or_len, remove}
use Rattle.std.specs.Global.{Vec}
use Rattle.std.specs.Vec.{with_item, vec_len, vec_capacity}
use Rattle.std.proofs.lemmas.Bool.{cases_Bool, eqb-true, ltb-false}
use Rattle.std.proofs.lemmas.List.Sums.{prefix_len-le-length}
use Rattle.request_slots.proofs.SubmitLemmas.{slot_is_left, form_is_right, IsSlotOf-new}
use Rattle.request_slots.specs.Submitting.{fault_of}
use Rattle.range_lock.specs.Asks.{Slots, answer_by, ask_for, holder_of}
use Rattle.range_lock.specs.declared.ask.Asked.{Asked}
use Rattle.range_lock.specs.declared.ask.Asked.TheVariants.{Granted, Held}
use Rattle.range_lock.specs.declared.ask.Ask.{Ask}
use Rattle.request_slots.specs.Flight.{FitsFlight, Flight, is_in_flight, is_of, is_unfinished, ask_of, asks_in, first_in, count_in, newly_slotted, slot_of, turn_of, turn_in, turn_behind, next_of, has_blocks, IsSlotOf, IsRead, IsWrite, AreAbove}
use Rattle.request_slots.specs.Serving.{changed, with_change}
use Rattle.request_slots.specs.Taking.{after_take, without}
use Rattle.request_slots.specs.Table.{flight_of, with_unlocked, IsTable}
use Rattle.request_slots.specs.declared.request.Request.{Request}
use Rattle.request_slots.specs.declared.request.Request.TheVariants.{Read, Write, Flush}
use Rattle.request_slots.specs.declared.slot.Slot.{Slot}
use Rattle.request_slots.specs.declared.slots.Slots.TheInside.{Inside}
use Rattle.request_slots.specs.declared.turn.Turn.{Turn}
use Rattle.request_slots.specs.declared.turn.Turn.TheVariants as Turns
use Rattle.request_slots.proofs.SlotsLemmas.{IsSplit, split_of, place-split, find-split, changed-split, get_or-split, set-split, low-split, asks_in-goes_on, asks_in-done, released, released-split, AreAbove-push, AreAbove-split, AreAbove-without, asks_in-append, each-at, each-push, each-split, each-wider, each-without, length-split, length-without, remove-split, without-split}

-- ---- the request of a ticket

-- The request of a ticket is in the table, and stands at this place.
pub record IsAt (table : Inside) (t at : ℕ) : Type 0 where
  pub split : IsSplit t table.slots.items
  pub place : at ≡ length split.before

-- where it is in flight, as a contract sees it
pub at-place : (table : Inside) (flight : Flight) (t at : ℕ) → flight_of table ≡ flight → is_in_flight t flight ≡ true
    → at ≡ position_or_len (is_of t) flight.slots → IsAt table t at
at-place table flight t at view there is =
    let split = split_of t table.slots.items (ap (is_in_flight t) view ∙ there) in
    record {
      split = split;
      place = is ∙ ap (λ (f : Flight). position_or_len (is_of t) f.slots) (sym view)
          ∙ ap (position_or_len (is_of t)) split.is ∙ place-split t split.own split.behind split.own_is split.before split.none;
    }

module _ (table : Inside) (t at : ℕ) (is : IsTable table) (here : IsAt table t at) where
  abbrev pub own : Slot
  own = here.split.own

  pub at-low : at < vec_len table.slots
  at-low =
      let low : length here.split.before < length table.slots.items =
      subst (λ (xs : List Slot). length here.split.before < length xs) (sym here.split.is) (low-split here.split.before here.split.behind own) in
      let len : table.slots.len ≡ length table.slots.items = table.slots.ok.0 in
      let place : at ≡ length here.split.before = here.place in
      omega (arith, low, len, place)

  pub at-own : (d : Slot) → get_or table.slots.items at d ≡ own
  at-own d =
      ap (λ (n : ℕ). get_or table.slots.items n d) here.place ∙ ap (λ (xs : List Slot). get_or xs (length here.split.before) d) here.split.is
      ∙ get_or-split here.split.before here.split.behind own d

  pub slot_of-own : slot_of t (flight_of table) ≡ Some own
  slot_of-own = ap (find (is_of t)) here.split.is ∙ find-split t own here.split.behind here.split.own_is here.split.before here.split.none

  pub fits-own : IsSlotOf table.blocks table.block_size table.submitted own
  fits-own = each-at (IsSlotOf table.blocks table.block_size table.submitted) here.split.before here.split.behind own
      (subst (AllByRecursion (IsSlotOf table.blocks table.block_size table.submitted)) here.split.is is.each)

  pub ticket-own : own.ticket ≡ t
  ticket-own = eqb-true own.ticket t here.split.own_is

  -- ---- a change of it

  around : (x : Slot) → set table.slots.items at x ≡ here.split.before ++ x ∷ here.split.behind
  around x =
      ap (λ (n : ℕ). set table.slots.items n x) here.place ∙ ap (λ (xs : List Slot). set xs (length here.split.before) x) here.split.is
      ∙ set-split here.split.before here.split.behind own x

  pub items-changed : (change : Slot → Slot) (x : Slot) → x ≡ change own → set table.slots.items at x ≡ changed t change table.slots.items
  items-changed change x same =
      around x ∙ ap (λ (y : Slot). here.split.before ++ y ∷ here.split.behind) same
      ∙ sym (ap (changed t change) here.split.is ∙ changed-split t own here.split.behind here.split.own_is change here.split.before here.split.none)

  abbrev held : List Ask → Slots
  held asks = record { count = 16; asks = asks }

  unlocked : (x : Slot) → x.ticket ≡ own.ticket → ask_of x ≡ ask_of own → (is_unfinished x ≡ true → is_unfinished own ≡ true)
      → (is_unfinished x ≡ true) ⊎ (is_unfinished x ≡ false)
      → with_unlocked x (held (asks_in table.slots.items)) ≡ held (asks_in (here.split.before ++ x ∷ here.split.behind))
  unlocked x ticket same still (inl open_) =
      ap (λ (b : Bool). if b then held (asks_in table.slots.items) else held (released x.ticket (asks_in table.slots.items))) open_
      ∙ ap held (ap asks_in here.split.is ∙ sym (asks_in-goes_on here.split.before here.split.behind own x (still open_) open_ same))
  unlocked x ticket same still (inr done) =
      ap (λ (b : Bool). if b then held (asks_in table.slots.items) else held (released x.ticket (asks_in table.slots.items))) done
      ∙ ap (λ (n : ℕ). held (released n (asks_in table.slots.items))) (ticket ∙ ticket-own)
      ∙ ap held (ap (λ (xs : List Slot). released t (asks_in xs)) here.split.is
      ∙ released-split t 0 here.split.before here.split.behind own here.split.own_is here.split.none (subst (AreAbove 0) here.split.is is.above)
      ∙ sym (asks_in-done here.split.before here.split.behind x done))

  -- where a slot goes on with the same ticket and blocks, and its locks are released with its end
  pub IsTable-changed : (x : Slot) (locks : Slots) → x.ticket ≡ own.ticket → IsSlotOf table.blocks table.block_size table.submitted x
      → ask_of x ≡ ask_of own → (is_unfinished x ≡ true → is_unfinished own ≡ true) → locks ≡ with_unlocked x table.locks
      → IsTable (record {
        blocks = table.blocks;
        block_size = table.block_size;
        submitted = table.submitted;
        slots = with_item table.slots at x;
        locks = locks;
      })
  IsTable-changed x locks ticket fits same still locks_are = record {
    few_blocks = is.few_blocks;
    some = is.some;
    small = is.small;
    room = is.room;
    few = subst (λ (xs : List Slot). length xs ≤ 16) (sym (around x))
        (subst (λ (n : ℕ). n ≤ 16) (sym (length-split here.split.before here.split.behind own x)) (subst (λ (xs : List Slot). length xs ≤ 16) here.split.is is.few));
    each = subst (AllByRecursion (IsSlotOf table.blocks table.block_size table.submitted)) (sym (around x))
        (each-split (IsSlotOf table.blocks table.block_size table.submitted) here.split.before here.split.behind own x fits
        (subst (AllByRecursion (IsSlotOf table.blocks table.block_size table.submitted)) here.split.is is.each));
    above = subst (AreAbove 0) (sym (around x)) (AreAbove-split 0 here.split.before here.split.behind own x ticket (subst (AreAbove 0) here.split.is is.above));
    locks = locks_are ∙ ap (with_unlocked x) is.locks ∙ unlocked x ticket same still (cases_Bool (is_unfinished x)) ∙ ap (λ (xs : List Slot). held (asks_in xs)) (sym (around x));
  }

-- what was lent of the table is its slot
pub lent-own : (table : Inside) (t at : ℕ) (is : IsTable table) (here : IsAt table t at) (x : Slot) → x ≡ get_or table.slots.items at x
    → x ≡ here.split.own
lent-own table t at is here x value = value ∙ at-own table t at is here x

-- what a contract sees then
pub flight-changed : (table : Inside) (t at : ℕ) (is : IsTable table) (here : IsAt table t at) (flight : Flight) → flight_of table ≡ flight
    → (change : Slot → Slot) (x : Slot) → x ≡ change here.split.own
    → record { blocks = table.blocks; block_size = table.block_size; submitted = table.submitted; slots = set table.slots.items at x } ≡ with_change t change flight
flight-changed table t at is here flight view change x same =
    ap (λ (xs : List Slot). record { blocks = table.blocks; block_size = table.block_size; submitted = table.submitted; slots = xs }) (items-changed table t at is here change x same)
    ∙ ap (with_change t change) view

-- ---- what is done next

-- A block is to be read or written.
abbrev pub HasNext : Turn → Type 0
HasNext turn = IsRead turn ⊎ IsWrite turn

next-blocks : (x : Slot) (r : Request) → HasNext (next_of x r) → has_blocks r ≡ true
next-blocks x (Read first count buffer) next = refl
next-blocks x (Write first count bytes fua) next = refl
next-blocks x Flush (inl reads) = absurd reads
next-blocks x Flush (inr writes) = absurd writes

pub behind-blocks : (x : Slot) (by : Option ℕ) → HasNext (turn_behind x by) → has_blocks x.request ≡ true
behind-blocks x (Some ticket) (inl reads) = absurd reads
behind-blocks x (Some ticket) (inr writes) = absurd writes
behind-blocks x None next = next-blocks x x.request next

not_finished : HasNext Turns.Finished → ⊥
not_finished (inl reads) = reads
not_finished (inr writes) = writes

-- Its turn, where it is unfinished or not.
abbrev pub turn_by : Slot → List Slot → Bool → Turn
turn_by x slots b = if b then turn_behind x (holder_of x.ticket (asks_in slots)) else Turns.Finished

-- that is what is done next
pub turn_of-own : (table : Inside) (flight : Flight) (t at : ℕ) (is : IsTable table) (here : IsAt table t at) → flight_of table ≡ flight
    → turn_of flight t ≡ turn_by here.split.own table.slots.items (is_unfinished here.split.own)
turn_of-own table flight t at is here view =
    sym (ap (λ (f : Flight). turn_of f t) view) ∙ ap (turn_in (flight_of table)) (slot_of-own table t at is here)

-- What is done next, by what the locks answer.
abbrev pub turn_asked : Slot → Asked → Turn
turn_asked x Granted = next_of x x.request
turn_asked x (Held by) = Turns.Held by

turn_behind-answer_by : (x : Slot) (o : Option ℕ) → turn_behind x o ≡ turn_asked x (answer_by o)
turn_behind-answer_by x None = refl
turn_behind-answer_by x (Some by) = refl

-- as the locks say it
pub turn_of-asked : (table : Inside) (flight : Flight) (t at number : ℕ) (is : IsTable table) (here : IsAt table t at) → flight_of table ≡ flight
    → is_unfinished here.split.own ≡ true → number ≡ t → (answer : Asked) → answer ≡ answer_by (holder_of number table.locks.asks)
    → turn_of flight t ≡ turn_asked here.split.own answer
turn_of-asked table flight t at number is here view still same answer asked =
    let own = here.split.own in
    turn_of-own table flight t at is here view ∙ ap (turn_by own table.slots.items) still
    ∙ turn_behind-answer_by own (holder_of own.ticket (asks_in table.slots.items))
    ∙ ap (turn_asked own) (sym (asked ∙ ap (λ (l : Slots). answer_by (holder_of number l.asks)) is.locks
    ∙ ap (λ (n : ℕ). answer_by (holder_of n (asks_in table.slots.items))) (same ∙ sym (ticket-own table t at is here))))

-- what a contract sees of it
pub slot_of-view : (table : Inside) (flight : Flight) (t at : ℕ) (is : IsTable table) (here : IsAt table t at) → flight_of table ≡ flight
    → slot_of t flight ≡ Some here.split.own
slot_of-view table flight t at is here view = sym (ap (slot_of t) view) ∙ slot_of-own table t at is here

-- and that it fits
pub fits-view : (table : Inside) (flight : Flight) (t at : ℕ) (is : IsTable table) (here : IsAt table t at)
    → flight_of table ≡ flight → FitsFlight t flight
fits-view table flight t at is here view =
    subst (λ (o : Option Slot). IfSome o (IsSlotOf flight.blocks flight.block_size flight.submitted))
    (sym (slot_of-view table flight t at is here view))
    (subst (λ (f : Flight). IsSlotOf f.blocks f.block_size f.submitted here.split.own) view
    (fits-own table t at is here))

-- where one is, the request is unfinished, and has blocks
module _ (table : Inside) (flight : Flight) (t at : ℕ) (is : IsTable table) (here : IsAt table t at) (view : flight_of table ≡ flight)
    (next : HasNext (turn_of flight t)) where
  by-own : HasNext (turn_by here.split.own table.slots.items (is_unfinished here.split.own))
  by-own = subst HasNext (turn_of-own table flight t at is here view) next

  pub still-own : is_unfinished here.split.own ≡ true
  still-own = elim (cases_Bool (is_unfinished here.split.own)) [
    | inl still ↦ still
    | inr done ↦ absurd (not_finished (subst (λ (b : Bool). HasNext (turn_by here.split.own table.slots.items b)) done by-own))
  ]

  pub blocks-own : has_blocks here.split.own.request ≡ true
  blocks-own = behind-blocks here.split.own (holder_of here.split.own.ticket (asks_in table.slots.items))
      (subst (λ (b : Bool). HasNext (turn_by here.split.own table.slots.items b)) still-own by-own)

-- ---- a request that comes in

pub IsTable-push : (table : Inside) (request : Request) (slots : Vec Slot) (locks : Slots) → IsTable table
    → fault_of (flight_of table) request ≡ None → slots.items ≡ table.slots.items ++ newly_slotted (table.submitted + 1) request ∷ []
    → vec_capacity slots ≡ vec_capacity table.slots
    → locks ≡ record table.locks { asks = table.locks.asks ++ ask_for (table.submitted + 1) (first_in request) (count_in request) ∷ [] }
    → IsTable (record { blocks = table.blocks; block_size = table.block_size; submitted = table.submitted + 1; slots = slots; locks = locks })
IsTable-push table request slots locks is none items same asked =
    let new : Slot = newly_slotted (table.submitted + 1) request in
    let old = table.slots.items in
    let fits = IsSlotOf-new (flight_of table) (table.submitted + 1) request (form_is_right (flight_of table) request none) in
    let left : length old < 16 = slot_is_left (flight_of table) request none in
    let given : AllByRecursion (λ slot. slot.ticket ≤ table.submitted) old =
    each-wider (IsSlotOf table.blocks table.block_size table.submitted) (λ slot. slot.ticket ≤ table.submitted) old (λ x fit. fit.given) is.each in
    record {
      few_blocks = is.few_blocks;
      some = is.some;
      small = is.small;
      room = subst (λ (n : ℕ). 16 ≤ n) (sym same) is.room;
      few = subst (λ (xs : List Slot). length xs ≤ 16) (sym items) (let size = length-append old (new ∷ []) in omega (arith, left, size));
      each = subst (AllByRecursion (IsSlotOf table.blocks table.block_size (table.submitted + 1))) (sym items)
          (each-push (IsSlotOf table.blocks table.block_size (table.submitted + 1)) old new
          (each-wider (IsSlotOf table.blocks table.block_size table.submitted) (IsSlotOf table.blocks table.block_size (table.submitted + 1)) old
          (λ x fit. record { given = let low = fit.given in omega (arith, low); there = fit.there; bytes = fit.bytes; counted = fit.counted; left = fit.left }) is.each)
          fits);
      above = subst (AreAbove 0) (sym items) (AreAbove-push 0 table.submitted old new (omega arith) (omega arith) given is.above);
      locks = asked ∙ ap (λ (l : Slots). record l { asks = l.asks ++ ask_of new ∷ [] }) is.locks
          ∙ ap (λ (asks : List Ask). record { count = 16; asks = asks }) (sym (asks_in-append old (new ∷ [])) ∙ ap asks_in (sym items));
    }

-- ---- a request that is taken

pub flight-without : (table : Inside) (t at : ℕ) (is : IsTable table) (here : IsAt table t at) (items : List Slot) → items ≡ remove table.slots.items at
    → items ≡ here.split.before ++ here.split.behind
flight-without table t at is here items removed =
    removed ∙ ap (λ (n : ℕ). remove table.slots.items n) here.place ∙ ap (λ (xs : List Slot). remove xs (length here.split.before)) here.split.is
    ∙ remove-split here.split.before here.split.behind here.split.own

pub IsTable-without : (table : Inside) (t at : ℕ) (is : IsTable table) (here : IsAt table t at) (slots : Vec Slot)
    → slots.items ≡ remove table.slots.items at → vec_capacity slots ≡ vec_capacity table.slots → is_unfinished here.split.own ≡ false
    → IsTable (record { blocks = table.blocks; block_size = table.block_size; submitted = table.submitted; slots = slots; locks = table.locks })
IsTable-without table t at is here slots removed same done =
    let before = here.split.before in
    let behind = here.split.behind in
    let items = flight-without table t at is here slots.items removed in
    record {
      few_blocks = is.few_blocks;
      some = is.some;
      small = is.small;
      room = subst (λ (n : ℕ). 16 ≤ n) (sym same) is.room;
      few = subst (λ (xs : List Slot). length xs ≤ 16) (sym items)
          (let few : length (before ++ here.split.own ∷ behind) ≤ 16 = subst (λ (xs : List Slot). length xs ≤ 16) here.split.is is.few in
          let less : suc (length (before ++ behind)) ≡ length (before ++ here.split.own ∷ behind) = length-without before behind here.split.own in
          omega (arith, few, less));
      each = subst (AllByRecursion (IsSlotOf table.blocks table.block_size table.submitted)) (sym items)
          (each-without (IsSlotOf table.blocks table.block_size table.submitted) before behind here.split.own
          (subst (AllByRecursion (IsSlotOf table.blocks table.block_size table.submitted)) here.split.is is.each));
      above = subst (AreAbove 0) (sym items) (AreAbove-without 0 before behind here.split.own (subst (AreAbove 0) here.split.is is.above));
      locks = is.locks ∙ ap (λ (asks : List Ask). record { count = 16; asks = asks })
          (ap asks_in here.split.is ∙ asks_in-done before behind here.split.own done ∙ ap asks_in (sym items));
    }

-- what a contract sees then
pub flight-taken : (table : Inside) (t at : ℕ) (is : IsTable table) (here : IsAt table t at) (flight : Flight) → flight_of table ≡ flight
    → (items : List Slot) → items ≡ remove table.slots.items at → is_unfinished here.split.own ≡ false
    → record { blocks = table.blocks; block_size = table.block_size; submitted = table.submitted; slots = items } ≡ after_take t (slot_of t flight) flight
flight-taken table t at is here flight view items removed done =
    let split = here.split in
    ap (λ (xs : List Slot). record { blocks = table.blocks; block_size = table.block_size; submitted = table.submitted; slots = xs })
    (flight-without table t at is here items removed ∙ sym (ap (without t) split.is ∙ without-split t split.own split.behind split.own_is split.before split.none))
    ∙ sym (ap (λ (b : Bool). if b then flight_of table else record (flight_of table) { slots = without t table.slots.items }) done)
    ∙ sym (ap (λ (o : Option Slot). after_take t o (flight_of table)) (slot_of-own table t at is here))
    ∙ ap (λ (f : Flight). after_take t (slot_of t f) f) view

-- ---- where a ticket is

by_length : (p : Slot → Bool) (slots : List Slot) (b : Bool) → ltb (position_or_len p slots) (length slots) ≡ b
    → unwrap_or (if b then Some (position_or_len p slots) else None) (length slots) ≡ position_or_len p slots
by_length p slots true is = refl
by_length p slots false is =
    let low : length slots ≤ position_or_len p slots = ltb-false (position_or_len p slots) (length slots) is in
    let high : position_or_len p slots ≤ length slots = prefix_len-le-length (λ x. not (p x)) slots in
    omega (arith, low, high)

-- behind all where it is none
pub unwrap_or-position : (p : Slot → Bool) (slots : List Slot) → unwrap_or (position p slots) (length slots) ≡ position_or_len p slots
unwrap_or-position p slots = by_length p slots (ltb (position_or_len p slots) (length slots)) refl
