-- The requests in flight, as a session keeps them: what a call of the device leaves of them.
use Rattle.std.proofs.Common.{◌≡◌, ◌≢◌, inl, inr, ℕ, zero, suc, ◌<◌, ◌≤◌, ◌||◌, Bool, true, false, if◌then◌else◌, List, [], ◌∷◌, ◌++◌, length, get_or, Option, None, Some, refl, sym, ◌∙◌, ap, arith}
use Rattle.std.specs.List.{list_any, remove}
use Rattle.std.proofs.lemmas.Bool.{cases_Bool, eqb-true, ne_eqb}
use Rattle.request_slots.specs.Flight.{Flight, is_in_flight, is_of, is_unfinished}
use Rattle.request_slots.specs.Taking.{after_take, without}
use Rattle.request_slots.specs.declared.slot.Slot.{Slot}
use Rattle.device_parts.specs.Device.{KeepsFlight}
use Rattle.nbd_flight.specs.declared.flight.Waiting.{Waiting}
use Rattle.nbd_flight.specs.Flight.{AreHeld}

-- ---- one of them

pub held_own : (low : ℕ) (before : List Waiting) (own : Waiting) (rest : List Waiting) (flight : Flight)
    → AreHeld low (before ++ own ∷ rest) flight → is_in_flight own.ticket flight ≡ true
held_own low [] own rest flight are = are.2
held_own low (w ∷ before) own rest flight are = held_own w.ticket before own rest flight are.3

above : (low : ℕ) (before : List Waiting) (own : Waiting) (rest : List Waiting) (flight : Flight)
    → AreHeld low (before ++ own ∷ rest) flight → low < own.ticket
above low [] own rest flight are = are.0
above low (w ∷ before) own rest flight are = let later = above w.ticket before own rest flight are.3 in omega (arith, are.0, later)

pub remove-split : (before : List Waiting) (own : Waiting) (rest : List Waiting)
    → remove (before ++ own ∷ rest) (length before) ≡ before ++ rest
remove-split [] own rest = refl
remove-split (w ∷ before) own rest = ap (λ (l : List Waiting). w ∷ l) (remove-split before own rest)

pub get_or-split : (before : List Waiting) (own : Waiting) (rest : List Waiting) (d : Waiting)
    → get_or (before ++ own ∷ rest) (length before) d ≡ own
get_or-split [] own rest d = refl
get_or-split (w ∷ before) own rest d = get_or-split before own rest d

-- What stands at a place, with what is before it and behind.
pub record IsSplitAt (waiting : List Waiting) (at : ℕ) : Type 0 where
  pub before : List Waiting
  pub own : Waiting
  pub rest : List Waiting
  pub is : waiting ≡ before ++ own ∷ rest
  pub place : length before ≡ at

pub split_at : (waiting : List Waiting) (at : ℕ) → at < length waiting → IsSplitAt waiting at
split_at [] at low = absurd (omega (arith, low))
split_at (w ∷ waiting) zero low = record { before = []; own = w; rest = waiting; is = refl; place = refl }
split_at (w ∷ waiting) (suc at) low =
    let split = split_at waiting at (omega (arith, low)) in
    record {
      before = w ∷ split.before;
      own = split.own;
      rest = split.rest;
      is = ap (λ (l : List Waiting). w ∷ l) split.is;
      place = let same = split.place in omega (arith, same);
    }

-- What is read there is that.
pub own-is : (waiting : List Waiting) (at : ℕ) (x : Waiting) (before : List Waiting) (own : Waiting) (rest : List Waiting)
    → x ≡ get_or waiting at x → waiting ≡ before ++ own ∷ rest → length before ≡ at → x ≡ own
own-is waiting at x before own rest is split place =
    is ∙ ap (λ (l : List Waiting). get_or l at x) split ∙ ap (λ (n : ℕ). get_or (before ++ own ∷ rest) n x) (sym place) ∙ get_or-split before own rest x

-- ---- what a call leaves

pub held_kept : (low : ℕ) (waiting : List Waiting) (old new : Flight) → KeepsFlight old new → AreHeld low waiting old → AreHeld low waiting new
held_kept low [] old new kept are = tt
held_kept low (w ∷ waiting) old new kept are =
    let count = kept.submitted in (
      are.0,
      omega (arith, are.1, count),
      kept.same w.ticket ∙ are.2,
      held_kept w.ticket waiting old new kept are.3,
    )

-- All but the request of a ticket stay in flight.
record KeepsOthers (ticket : ℕ) (old new : Flight) : Type 0 where
  blocks : new.blocks ≡ old.blocks
  block_size : new.block_size ≡ old.block_size
  submitted : new.submitted ≡ old.submitted
  same : (t : ℕ) → t ≢ ticket → is_in_flight t new ≡ is_in_flight t old

any-without : (t ticket : ℕ) (slots : List Slot) → t ≢ ticket → list_any (is_of t) (without ticket slots) ≡ list_any (is_of t) slots
any-without t ticket [] other = refl
any-without t ticket (x ∷ slots) other = elim (cases_Bool (is_of ticket x)) [
  | inl own ↦
      let is = eqb-true x.ticket ticket own in
      ap (λ (b : Bool). list_any (is_of t) (if b then slots else x ∷ without ticket slots)) own
      ∙ sym (ap (λ (b : Bool). b || list_any (is_of t) slots) (ne_eqb x.ticket t (λ same. other (sym same ∙ is))))
  | inr differs ↦
      ap (λ (b : Bool). list_any (is_of t) (if b then slots else x ∷ without ticket slots)) differs
      ∙ ap (λ (b : Bool). is_of t x || b) (any-without t ticket slots other)
]

others_taken : (ticket : ℕ) (slot : Option Slot) (flight : Flight) → KeepsOthers ticket flight (after_take ticket slot flight)
others_taken ticket None flight = record { blocks = refl; block_size = refl; submitted = refl; same = λ t other. refl }
others_taken ticket (Some x) flight = by (is_unfinished x)
  where
    by : (b : Bool) → KeepsOthers ticket flight (if b then flight else record flight { slots = without ticket flight.slots })
    by true = record { blocks = refl; block_size = refl; submitted = refl; same = λ t other. refl }
    by false = record { blocks = refl; block_size = refl; submitted = refl; same = λ t other. any-without t ticket flight.slots other }

held_others : (ticket low least : ℕ) (waiting : List Waiting) (old new : Flight) → KeepsOthers ticket old new → ticket ≤ low → least ≤ low
    → AreHeld low waiting old → AreHeld least waiting new
held_others ticket low least [] old new kept high less are = tt
held_others ticket low least (w ∷ waiting) old new kept high less are =
    let count = kept.submitted in (
      omega (arith, are.0, less),
      omega (arith, are.1, count),
      kept.same w.ticket (λ same. omega (arith, same, are.0, high)) ∙ are.2,
      held_others ticket w.ticket w.ticket waiting old new kept (omega (arith, are.0, high)) (omega arith) are.3,
    )

held_without : (low : ℕ) (before : List Waiting) (own : Waiting) (rest : List Waiting) (old new : Flight) → KeepsOthers own.ticket old new
    → AreHeld low (before ++ own ∷ rest) old → AreHeld low (before ++ rest) new
held_without low [] own rest old new kept are = held_others own.ticket own.ticket low rest old new kept (omega arith) (omega (arith, are.0)) are.3
held_without low (w ∷ before) own rest old new kept are =
    let count = kept.submitted in
    let later = above w.ticket before own rest old are.3 in (
      are.0,
      omega (arith, are.1, count),
      kept.same w.ticket (λ same. omega (arith, same, later)) ∙ are.2,
      held_without w.ticket before own rest old new kept are.3,
    )

-- One of them is taken out.
pub held_taken : (before : List Waiting) (own : Waiting) (rest : List Waiting) (slot : Option Slot) (flight : Flight)
    → AreHeld 0 (before ++ own ∷ rest) flight → AreHeld 0 (before ++ rest) (after_take own.ticket slot flight)
held_taken before own rest slot flight are =
    held_without 0 before own rest flight (after_take own.ticket slot flight) (others_taken own.ticket slot flight) are

pub submitted_taken : (ticket : ℕ) (slot : Option Slot) (flight : Flight) → (after_take ticket slot flight).submitted ≡ flight.submitted
submitted_taken ticket slot flight = (others_taken ticket slot flight).submitted

pub blocks_taken : (ticket : ℕ) (slot : Option Slot) (flight : Flight) → (after_take ticket slot flight).blocks ≡ flight.blocks
blocks_taken ticket slot flight = (others_taken ticket slot flight).blocks

pub block_size_taken : (ticket : ℕ) (slot : Option Slot) (flight : Flight) → (after_take ticket slot flight).block_size ≡ flight.block_size
block_size_taken ticket slot flight = (others_taken ticket slot flight).block_size
