-- How often some requests are still served.
use Rattle.std.proofs.Common.{◌≡◌, ◌∷◌, [], refl, true}
use Rattle.request_slots.specs.Flight.{Flight, newly_slotted}
use Rattle.request_slots.specs.Serving.{with_block_counted, with_change, with_finish}
use Rattle.request_slots.specs.declared.request.Request.TheVariants.{Flush, Write}
use Rattle.device_parts.specs.Answers.{turns_left}

-- A write of two blocks from block 5 on has ticket 3, and a flush ticket 4.
abbrev two_requests : Flight
two_requests = record {
  blocks = 80;
  block_size = 512;
  submitted = 4;
  slots = newly_slotted 3 (Write 5 2 [] true) ∷ newly_slotted 4 Flush ∷ [];
}

turns_left-new_write : turns_left 3 two_requests ≡ 3
turns_left-new_write = refl

turns_left-one_block_served : turns_left 3 (with_change 3 with_block_counted two_requests) ≡ 2
turns_left-one_block_served = refl

turns_left-both_blocks_served :
    turns_left 3 (with_change 3 with_block_counted (with_change 3 with_block_counted two_requests)) ≡ 0
turns_left-both_blocks_served = refl

turns_left-flush : turns_left 4 two_requests ≡ 1
turns_left-flush = refl

turns_left-finished_flush : turns_left 4 (with_change 4 with_finish two_requests) ≡ 0
turns_left-finished_flush = refl

turns_left-not_in_flight : turns_left 5 two_requests ≡ 0
turns_left-not_in_flight = refl
