-- A request against which nothing is: it fits, and there is a slot for it.
use Rattle.std.proofs.Common.{◌≡◌, ◌≢◌, ℕ, ◌+◌, ◌*◌, ◌<◌, ◌≤◌, ◌==◌, ◌||◌, Bool, true, false, List, length, ltb, leb, if◌then◌else◌, Option, None, Some, refl, sym, arith}
use Rattle.std.specs.Option.{option_or}
use Rattle.std.proofs.lemmas.Bool.{false≢true, or_parts, eqb-true, eqb-false, leb-false, ltb-false}
use Rattle.std.proofs.lemmas.Option.{none-some}
use Rattle.request_slots.specs.Flight.{Flight, IsSlotOf, newly_slotted}
use Rattle.request_slots.specs.Submitting.{blocks_fault, fault_of, form_fault, slots_fault}
use Rattle.request_slots.specs.declared.request.Request.{Request}
use Rattle.request_slots.specs.declared.request.Request.TheVariants.{Read, Write, Flush}
use Rattle.request_slots.specs.declared.submit_fault.SubmitFault.{SubmitFault}
use Rattle.request_slots.specs.declared.submit_fault.SubmitFault.TheVariants.{Range, Length, SlotsFull}

both_none : (a b : Option SubmitFault) → option_or a b ≡ None → (a ≡ None) × (b ≡ None)
both_none None b none = (refl, none)
both_none (Some fault) b none = absurd (none-some fault (sym none))

-- an answer of two, where the second is none
not_then : (b : Bool) (fault : SubmitFault) (rest : Option SubmitFault) → (if b then Some fault else rest) ≡ None → (b ≡ false) × (rest ≡ None)
not_then true fault rest none = absurd (none-some fault (sym none))
not_then false fault rest none = (refl, none)

must_be : (b : Bool) (fault : SubmitFault) → (if b then None else Some fault) ≡ None → b ≡ true
must_be true fault none = refl
must_be false fault none = absurd (none-some fault (sym none))

module _ (flight : Flight) (request : Request) (none : fault_of flight request ≡ None) where
  pub slot_is_left : length flight.slots < 16
  slot_is_left =
      let full = not_then (leb 16 (length flight.slots)) (SlotsFull 16) None (both_none (form_fault flight request) (slots_fault flight) none).1 in
      leb-false 16 (length flight.slots) full.0

  pub form_is_right : form_fault flight request ≡ None
  form_is_right = (both_none (form_fault flight request) (slots_fault flight) none).0

-- blocks with some bytes against which nothing is
pub blocks_are_there : (flight : Flight) (first count : ℕ) (bytes : List ℕ) → blocks_fault flight first count bytes ≡ None
    → (count ≢ 0) × (first + count ≤ flight.blocks) × (length bytes ≡ count * flight.block_size)
blocks_are_there flight first count bytes none =
    let range = not_then ((count == 0) || ltb flight.blocks (first + count)) (Range first count flight.blocks) _ none in
    let parts = or_parts (count == 0) (ltb flight.blocks (first + count)) range.0 in
    let size = must_be (length bytes == count * flight.block_size) (Length (length bytes) (count * flight.block_size)) range.1 in
    (eqb-false count 0 parts.0, ltb-false flight.blocks (first + count) parts.1, eqb-true (length bytes) (count * flight.block_size) size)

pub IsSlotOf-new : (flight : Flight) (ticket : ℕ) (request : Request) → form_fault flight request ≡ None
    → IsSlotOf flight.blocks flight.block_size ticket (newly_slotted ticket request)
IsSlotOf-new flight ticket (Read first count buffer) none =
    let is = blocks_are_there flight first count buffer none in
    record { given = omega arith; there = is.1; bytes = is.2; counted = omega arith; left = λ _ _. let some = is.0 in omega (arith, some) }
IsSlotOf-new flight ticket (Write first count bytes fua) none =
    let is = blocks_are_there flight first count bytes none in
    record { given = omega arith; there = is.1; bytes = is.2; counted = omega arith; left = λ _ _. let some = is.0 in omega (arith, some) }
IsSlotOf-new flight ticket Flush none =
    record { given = omega arith; there = omega arith; bytes = omega arith; counted = omega arith; left = λ has _. absurd (false≢true has) }
