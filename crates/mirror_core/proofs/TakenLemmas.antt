-- What a device at rest in journal mode does not refuse.
use Rattle.std.proofs.Common.{◌≡◌, ◌≢◌, ℕ, ◌+◌, ◌*◌, ◌≤◌, ◌==◌, Bool, false, ◌||◌, ltb, leb, if◌then◌else◌, List, [], length, Option, None, Some, refl, ◌∙◌, ap, arith}
use Rattle.std.specs.Option.{option_or}
use Rattle.std.proofs.lemmas.Bool.{eq-eqb, le-ltb, ne_eqb}
use Rattle.device_model.specs.Mode as Modes
use Rattle.request_slots.specs.declared.request.Request.{Request}
use Rattle.request_slots.specs.declared.request.Request.TheVariants.{Read, Write, Flush}
use Rattle.request_slots.specs.declared.slot.Slot.{Slot}
use Rattle.request_slots.specs.declared.submit_fault.SubmitFault.{SubmitFault}
use Rattle.request_slots.specs.declared.submit_fault.SubmitFault.TheVariants.{Range, Length, SlotsFull}
use Rattle.request_slots.specs.Flight.{Flight}
use Rattle.request_slots.specs.Submitting.{blocks_fault, form_fault, most_slots, slots_fault}
use Rattle.device_parts.specs.declared.condition.Condition.{Condition}
use Rattle.device_parts.specs.declared.condition.Condition.TheVariants.{Working}
use Rattle.device_parts.specs.Answers.{submit_fault}
use Rattle.device.specs.declared.mode.DeviceParts.{DeviceParts}
use Rattle.device.specs.Answers.{refusal_in}
use Rattle.device.specs.Calls.{refusal_to}
use Rattle.device.specs.Device.{mode_of}

-- Some blocks that are there, with as many bytes as they have, are not.
blocks_fit : (flight : Flight) (first count : ℕ) (bytes : List ℕ) → 1 ≤ count → first + count ≤ flight.blocks → length bytes ≡ count * flight.block_size
    → blocks_fault flight first count bytes ≡ None
blocks_fit flight first count bytes some there same =
    let other : count ≢ 0 = omega (arith, some) in
    let by = λ (outside fits : Bool). if outside then Some (Range first count flight.blocks) else (if fits then None else Some (Length (length bytes) (count * flight.block_size))) in
    ap (λ (t : Bool). by (t || ltb flight.blocks (first + count)) (length bytes == count * flight.block_size)) (ne_eqb count 0 other)
    ∙ ap (λ (t : Bool). by t (length bytes == count * flight.block_size)) (le-ltb flight.blocks (first + count) there)
    ∙ ap (by false) (eq-eqb (length bytes) (count * flight.block_size) same)

module _ (parts : DeviceParts) (condition : Condition) (mode : mode_of parts.mode ≡ Modes.Journal) (works : condition ≡ Working)
    (none : parts.common.slots.slots ≡ []) where
  -- There is a slot for one.
  room : slots_fault parts.common.slots ≡ None
  room = ap (λ (l : List Slot). if leb most_slots (length l) then Some (SlotsFull most_slots) else None) none

  refused_by : (request : Request) → refusal_to parts condition request ≡ form_fault parts.common.slots request
  refused_by request =
      ap (λ (m : Modes.Mode). refusal_in m condition parts.common.slots request) mode
      ∙ ap (λ (c : Condition). submit_fault c parts.common.slots request) works
      ∙ by (form_fault parts.common.slots request)
    where
      by : (o : Option SubmitFault) → option_or o (slots_fault parts.common.slots) ≡ o
      by None = room
      by (Some fault) = refl

  pub read_taken : (first count : ℕ) (buffer : List ℕ) → 1 ≤ count → first + count ≤ parts.common.slots.blocks
      → length buffer ≡ count * parts.common.slots.block_size → refusal_to parts condition (Read first count buffer) ≡ None
  read_taken first count buffer some there same =
      refused_by (Read first count buffer) ∙ blocks_fit parts.common.slots first count buffer some there same

  pub write_taken : (first count : ℕ) (bytes : List ℕ) (fua : Bool) → 1 ≤ count → first + count ≤ parts.common.slots.blocks
      → length bytes ≡ count * parts.common.slots.block_size → refusal_to parts condition (Write first count bytes fua) ≡ None
  write_taken first count bytes fua some there same =
      refused_by (Write first count bytes fua) ∙ blocks_fit parts.common.slots first count bytes some there same

  pub flush_taken : refusal_to parts condition Flush ≡ None
  flush_taken = refused_by Flush
