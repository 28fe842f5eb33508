-- Each serve that does something leaves the request fewer turns.
use Rattle.std.proofs.Common.{◌≡◌, inl, inr, ℕ, suc, ◌-◌, ◌*◌, ◌<◌, ◌≤◌, ◌==◌, Bool, true, false, if◌then◌else◌, List, find, Option, Some, IfSome, refl, sym, ◌∙◌, ap, subst, arith}
use Rattle.std.specs.Str.{bytes_eq}
use Rattle.std.proofs.lemmas.Bool.{cases_Bool}
use Rattle.range_lock.specs.Asks.{holder_of}
use Rattle.request_slots.specs.Flight.{FitsFlight, Flight, IsRead, IsSlotOf, IsWrite, asks_in, count_in, is_in_flight, is_of, is_open, is_unfinished, slot_of, turn_behind, turn_in, turn_of}
use Rattle.request_slots.specs.Serving.{changed, with_block_counted, with_block_read, with_change, with_fault, with_finish, with_read_piece}
use Rattle.request_slots.specs.declared.slot.Outcome.{Outcome}
use Rattle.request_slots.specs.declared.slot.Outcome.TheVariants.{Finished}
use Rattle.request_slots.specs.declared.slot.Slot.{Slot}
use Rattle.request_slots.specs.declared.turn.Turn.{Turn}
use Rattle.request_slots.specs.declared.turn.Turn.TheVariants as Turns
use Rattle.request_slots.proofs.SlotLemmas.{count-read_piece}
use Rattle.request_slots.proofs.SlotsLemmas.{IsSplit, changed-split, find-split, split_of}
use Rattle.request_slots.proofs.TableLemmas.{HasNext, behind-blocks}
use Rattle.device_parts.specs.declared.parts.Parts.{Parts}
use Rattle.device_parts.specs.Answers.{after_read, tag_by, turns_in, turns_left}

-- ---- one request

-- A request of which one block more is served has fewer turns.
by_last : (left more : ℕ) (outcome : Outcome) (b : Bool) → suc more ≤ left
    → (if is_open (if b then Finished else outcome) then suc more else 0) ≤ left
by_last left more outcome true less = omega arith
by_last left more outcome false less = by_open (is_open outcome)
  where
    by_open : (b : Bool) → (if b then suc more else 0) ≤ left
    by_open true = less
    by_open false = omega arith

counted_fewer : (x : Slot) → x.served < count_in x.request
    → turns_in (Some (with_block_counted x)) ≤ count_in x.request - x.served
counted_fewer x under =
    by_last (count_in x.request - x.served) (count_in x.request - suc x.served) x.outcome
    (suc x.served == count_in x.request) (omega (arith, under))

read_fewer : (size : ℕ) (bytes : List ℕ) (x : Slot) → x.served < count_in x.request
    → turns_in (Some (with_block_read size bytes x)) ≤ count_in x.request - x.served
read_fewer size bytes x under =
    let request = with_read_piece (x.served * size) bytes x.request in
    let same : count_in request ≡ count_in x.request = count-read_piece (x.served * size) bytes x.request in
    subst (λ (n : ℕ). turns_in (Some (with_block_read size bytes x)) ≤ n - x.served) same
    (counted_fewer (record x { request = request }) (subst (λ (n : ℕ). x.served < n) (sym same) under))

-- ---- the request of a ticket

module _ (t : ℕ) (flight : Flight) (there : is_in_flight t flight ≡ true) where
  abbrev split : IsSplit t flight.slots
  split = split_of t flight.slots there

  abbrev own : Slot
  own = split.own

  own_there : slot_of t flight ≡ Some own
  own_there =
      ap (find (is_of t)) split.is ∙ find-split t own split.behind split.own_is split.before split.none

  module _ (change : Slot → Slot) (same : (x : Slot) → (change x).ticket ≡ x.ticket) where
    own_changed : slot_of t (with_change t change flight) ≡ Some (change own)
    own_changed =
        ap (find (is_of t)) (ap (changed t change) split.is
        ∙ changed-split t own split.behind split.own_is change split.before split.none)
        ∙ find-split t (change own) split.behind (ap (λ (n : ℕ). n == t) (same own) ∙ split.own_is) split.before
        split.none

    fewer : is_unfinished own ≡ true → turns_in (Some (change own)) ≤ count_in own.request - own.served
        → turns_left t (with_change t change flight) < turns_left t flight
    fewer still less =
        let left = count_in own.request - own.served in
        let was : turns_left t flight ≡ suc left =
        ap turns_in own_there ∙ ap (λ (b : Bool). if b then suc left else 0) still in
        let is : turns_left t (with_change t change flight) ≡ turns_in (Some (change own)) =
        ap turns_in own_changed in
        omega (arith, was, is, less)

  -- Its turn, where it is unfinished or not.
  abbrev turn_by : Bool → Turn
  turn_by b = if b then turn_behind own (holder_of own.ticket (asks_in flight.slots)) else Turns.Finished

  own_turn : turn_of flight t ≡ turn_by (is_unfinished own)
  own_turn = ap (turn_in flight) own_there

  -- Where something is done next for it, it is unfinished,
  still_to_do : (turn_of flight t ≡ Turns.Finished → ⊥) → is_unfinished own ≡ true
  still_to_do not_done = elim (cases_Bool (is_unfinished own)) [
    | inl still ↦ still
    | inr done ↦ absurd (not_done (own_turn ∙ ap turn_by done))
  ]

  -- and where that is a block, not all of them are served.
  blocks_left : FitsFlight t flight → is_unfinished own ≡ true → HasNext (turn_of flight t)
      → own.served < count_in own.request
  blocks_left fits still next =
      let slot = subst
      (λ (o : Option Slot). IfSome o (IsSlotOf flight.blocks flight.block_size flight.submitted)) own_there fits in
      let by = holder_of own.ticket (asks_in flight.slots) in
      slot.left (behind-blocks own by (subst HasNext (own_turn ∙ ap turn_by still) next)) still

  -- ---- for callers

  pub fewer_flushed : turn_of flight t ≡ Turns.Flush
      → turns_left t (with_change t with_finish flight) < turns_left t flight
  fewer_flushed turn =
      fewer with_finish (λ x. refl) (still_to_do (λ done. flush_goes_on (sym turn ∙ done))) (omega arith)
    where
      flush_goes_on : Turns.Flush ≡ Turns.Finished → ⊥
      flush_goes_on e = cc

  pub fewer_written : (block : ℕ) (is_flushed : Bool) → FitsFlight t flight
      → turn_of flight t ≡ Turns.Write block is_flushed
      → turns_left t (with_change t with_block_counted flight) < turns_left t flight
  fewer_written block is_flushed fits turn =
      let still = still_to_do (λ done. write_goes_on (sym turn ∙ done)) in
      fewer with_block_counted (λ x. refl) still
      (counted_fewer own (blocks_left fits still (inr (subst IsWrite (sym turn) tt))))
    where
      write_goes_on : Turns.Write block is_flushed ≡ Turns.Finished → ⊥
      write_goes_on e = cc

  abbrev either : (block : ℕ) → List ℕ → Parts → Bool → Flight → Flight
  either block stored parts b x =
      if b then with_change t (with_block_read x.block_size parts.buffer.items) x
      else with_change t (with_fault block stored (tag_by parts.maker parts.spb block parts.buffer.items)) x

  pub fewer_read : (block : ℕ) (stored : List ℕ) (parts : Parts) → FitsFlight t flight
      → turn_of flight t ≡ Turns.Read block → parts.slots ≡ flight
      → turns_left t (after_read t block stored parts) < turns_left t flight
  fewer_read block stored parts fits turn same =
      let same_tag = bytes_eq stored (tag_by parts.maker parts.spb block parts.buffer.items) in
      subst (λ (x : Flight). turns_left t (either block stored parts same_tag x) < turns_left t flight)
      (sym same) (by same_tag)
    where
      read_goes_on : Turns.Read block ≡ Turns.Finished → ⊥
      read_goes_on e = cc

      still : is_unfinished own ≡ true
      still = still_to_do (λ done. read_goes_on (sym turn ∙ done))

      by : (b : Bool) → turns_left t (either block stored parts b flight) < turns_left t flight
      by true =
          fewer (with_block_read flight.block_size parts.buffer.items) (λ x. refl) still
          (read_fewer flight.block_size parts.buffer.items own
          (blocks_left fits still (inl (subst IsRead (sym turn) tt))))
      by false =
          let computed = tag_by parts.maker parts.spb block parts.buffer.items in
          fewer (with_fault block stored computed) (λ x. refl) still (omega arith)
