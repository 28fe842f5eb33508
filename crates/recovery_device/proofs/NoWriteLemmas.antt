-- No write is in flight: none is done next, and requests come and are served so that it stays.
use Rattle.std.proofs.Common.{◌≡◌, ◌≢◌, inl, inr, ℕ, suc, ◌==◌, Bool, true, false, if◌then◌else◌, List, [], ◌∷◌, ◌++◌, find, Option, None, Some, IfSome, refl, sym, ◌∙◌, ap, subst, ◌*◌}
use Rattle.std.specs.List.{AllByRecursion}
use Rattle.std.proofs.lemmas.Bool.{cases_Bool, eqb-true}
use Rattle.range_lock.specs.Asks.{holder_of}
use Rattle.request_slots.specs.declared.request.Request.{Request}
use Rattle.request_slots.specs.declared.request.Request.TheVariants.{Read, Write, Flush}
use Rattle.request_slots.specs.declared.slot.Slot.{Slot}
use Rattle.request_slots.specs.declared.submit_fault.SubmitFault.{SubmitFault}
use Rattle.request_slots.specs.declared.turn.Turn.TheVariants as Turns
use Rattle.request_slots.specs.Flight.{Flight, IsWrite, asks_in, is_of, is_unfinished, newly_slotted, next_of, slot_of, turn_behind, turn_in, turn_of}
use Rattle.request_slots.specs.Serving.{changed, with_block_read, with_change, with_read_piece}
use Rattle.request_slots.specs.Submitting.{after_submit}
use Rattle.request_slots.specs.Taking.{after_take, without}
use Rattle.recovery_device.specs.Answers.{KeepsOthers}
use Rattle.recovery_device.specs.Device.{HasNoWrite, WritesNothing}

-- ---- what is done next

next_writes : (x : Slot) (r : Request) → WritesNothing r → IsWrite (next_of x r) → ⊥
next_writes x (Read first count buffer) nothing writes = writes
next_writes x (Write first count bytes fua) nothing writes = nothing
next_writes x Flush nothing writes = writes

behind_writes : (x : Slot) (o : Option ℕ) → WritesNothing x.request → IsWrite (turn_behind x o) → ⊥
behind_writes x None nothing writes = next_writes x x.request nothing writes
behind_writes x (Some by) nothing writes = writes

open_writes : (x : Slot) (o : Option ℕ) (b : Bool) → WritesNothing x.request
    → IsWrite (if b then turn_behind x o else Turns.Finished) → ⊥
open_writes x o true nothing writes = behind_writes x o nothing writes
open_writes x o false nothing writes = writes

in_writes : (flight : Flight) (o : Option Slot) → IfSome o (λ x. WritesNothing x.request) → IsWrite (turn_in flight o) → ⊥
in_writes flight None nothing writes = writes
in_writes flight (Some x) nothing writes =
    open_writes x (holder_of x.ticket (asks_in flight.slots)) (is_unfinished x) nothing writes

-- The slots have no write.
abbrev Quiet : List Slot → Type 0
Quiet slots = AllByRecursion (λ (slot : Slot). WritesNothing slot.request) slots

-- The slot that is found has none either, be it the first or one behind it.
either_found : (x : Slot) (o : Option Slot) (b : Bool) → WritesNothing x.request → IfSome o (λ y. WritesNothing y.request)
    → IfSome (if b then Some x else o) (λ y. WritesNothing y.request)
either_found x o true nothing rest = nothing
either_found x o false nothing rest = rest

found : (t : ℕ) (slots : List Slot) → Quiet slots → IfSome (find (is_of t) slots) (λ x. WritesNothing x.request)
found t [] all = tt
found t (x ∷ slots) all = either_found x (find (is_of t) slots) (is_of t x) all.0 (found t slots all.1)

-- ---- a request that is served

-- Whichever of two lists is taken has none.
either_quiet : (xs ys : List Slot) (b : Bool) → Quiet xs → Quiet ys → Quiet (if b then xs else ys)
either_quiet xs ys true all others = all
either_quiet xs ys false all others = others

changed_quiet : (ticket : ℕ) (change : Slot → Slot) → ((x : Slot) → WritesNothing x.request → WritesNothing (change x).request)
    → (slots : List Slot) → Quiet slots → Quiet (changed ticket change slots)
changed_quiet ticket change keeps [] all = tt
changed_quiet ticket change keeps (x ∷ slots) all =
    either_quiet (change x ∷ slots) (x ∷ changed ticket change slots) (is_of ticket x)
    (keeps x all.0, all.1) (all.0, changed_quiet ticket change keeps slots all.1)

piece_quiet : (from : ℕ) (piece : List ℕ) (r : Request) → WritesNothing r → WritesNothing (with_read_piece from piece r)
piece_quiet from piece (Read first count buffer) nothing = tt
piece_quiet from piece (Write first count bytes fua) nothing = nothing
piece_quiet from piece Flush nothing = tt

-- ---- a request that comes

pushed_quiet : (slots : List Slot) (x : Slot) → Quiet slots → WritesNothing x.request → Quiet (slots ++ x ∷ [])
pushed_quiet [] x all nothing = (nothing, tt)
pushed_quiet (y ∷ slots) x all nothing = (all.0, pushed_quiet slots x all.1 nothing)

-- ---- a request that is taken

without_quiet : (ticket : ℕ) (slots : List Slot) → Quiet slots → Quiet (without ticket slots)
without_quiet ticket [] all = tt
without_quiet ticket (x ∷ slots) all =
    either_quiet slots (x ∷ without ticket slots) (is_of ticket x) all.1 (all.0, without_quiet ticket slots all.1)

-- ---- the other requests

-- The slot of this ticket is not that of another one.
not_other : (ticket other : ℕ) → other ≢ ticket → (x : Slot) → is_of ticket x ≡ true → is_of other x ≡ false
not_other ticket other apart x own = elim (cases_Bool (is_of other x)) [
  | inl same ↦ absurd (apart (sym (eqb-true x.ticket other same) ∙ eqb-true x.ticket ticket own))
  | inr unlike ↦ unlike
]

-- Another ticket finds the same where the first slot is the one that changes, and where it is not.
other_one : (other : ℕ) (x y : Slot) → y.ticket ≡ x.ticket → (slots others : List Slot)
    → find (is_of other) others ≡ find (is_of other) slots → (b : Bool) → (b ≡ true → is_of other x ≡ false)
    → find (is_of other) (if b then y ∷ slots else x ∷ others) ≡ find (is_of other) (x ∷ slots)
other_one other x y same slots others rest true apart =
    let unlike = apart refl in
    ap (λ (n : ℕ). if n == other then Some y else find (is_of other) slots) same
    ∙ ap (λ (b : Bool). if b then Some y else find (is_of other) slots) unlike
    ∙ sym (ap (λ (b : Bool). if b then Some x else find (is_of other) slots) unlike)
other_one other x y same slots others rest false apart =
    ap (λ (o : Option Slot). if is_of other x then Some x else o) rest

other_found : (ticket other : ℕ) → other ≢ ticket → (change : Slot → Slot) → ((x : Slot) → (change x).ticket ≡ x.ticket)
    → (slots : List Slot) → find (is_of other) (changed ticket change slots) ≡ find (is_of other) slots
other_found ticket other apart change same [] = refl
other_found ticket other apart change same (x ∷ slots) =
    other_one other x (change x) (same x) slots (changed ticket change slots) (other_found ticket other apart change same slots)
    (is_of ticket x) (not_other ticket other apart x)

-- ---- for callers

pub no_write_next : (flight : Flight) (ticket : ℕ) → HasNoWrite flight → IsWrite (turn_of flight ticket) → ⊥
no_write_next flight ticket all writes = in_writes flight (slot_of ticket flight) (found ticket flight.slots all) writes

pub no_write_read : (ticket size : ℕ) (bytes : List ℕ) (flight : Flight) → HasNoWrite flight
    → HasNoWrite (with_change ticket (with_block_read size bytes) flight)
no_write_read ticket size bytes flight all =
    changed_quiet ticket (with_block_read size bytes) (λ x nothing. piece_quiet (x.served * size) bytes x.request nothing) flight.slots all

pub no_write_same : (ticket : ℕ) (change : Slot → Slot) → ((x : Slot) → (change x).request ≡ x.request) → (flight : Flight)
    → HasNoWrite flight → HasNoWrite (with_change ticket change flight)
no_write_same ticket change same flight all =
    changed_quiet ticket change (λ x nothing. subst WritesNothing (sym (same x)) nothing) flight.slots all

pub no_write_submit : (fault : Option SubmitFault) (request : Request) (flight : Flight) → (fault ≡ None → WritesNothing request)
    → HasNoWrite flight → HasNoWrite (after_submit fault request flight)
no_write_submit None request flight nothing all =
    pushed_quiet flight.slots (newly_slotted (suc flight.submitted) request) all (nothing refl)
no_write_submit (Some fault) request flight nothing all = all

pub no_write_take : (ticket : ℕ) (slot : Option Slot) (flight : Flight) → HasNoWrite flight → HasNoWrite (after_take ticket slot flight)
no_write_take ticket None flight all = all
no_write_take ticket (Some slot) flight all = by (is_unfinished slot)
  where
    by : (b : Bool) → HasNoWrite (if b then flight else record flight { slots = without ticket flight.slots })
    by true = all
    by false = without_quiet ticket flight.slots all

pub others_kept : (ticket : ℕ) (change : Slot → Slot) → ((x : Slot) → (change x).ticket ≡ x.ticket) → (flight : Flight)
    → KeepsOthers ticket flight (with_change ticket change flight)
others_kept ticket change same flight = record {
  each = λ other apart. other_found ticket other apart change same flight.slots;
}

pub others_same : (ticket : ℕ) (flight : Flight) → KeepsOthers ticket flight flight
others_same ticket flight = record { each = λ other apart. refl }
