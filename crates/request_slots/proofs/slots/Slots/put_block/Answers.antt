use Rattle.std.proofs.Common.{◌≡◌, inl, ℕ, ◌+◌, ◌*◌, ◌<◌, ◌≤◌, length, sym, ◌∙◌, ap, subst, arith}
use Rattle.request_slots.specs.Flight.{Flight, bytes_in, ask_of, IsSlotOf}
use Rattle.request_slots.specs.Serving.{with_block_read, with_change}
use Rattle.request_slots.specs.declared.slot.Slot.{Slot}
use Rattle.request_slots.proofs.SlotLemmas.{room-next, from-low, served-low, IsSlotOf-read, ask_of-read}
use Rattle.request_slots.proofs.TableLemmas.{at-place, at-low, lent-own, fits-own, still-own, blocks-own, IsTable-changed, flight-changed}
use Rattle.request_slots.proofs.slots.Slots.put_block.Goals as goal

pub index_mut-slot-requires : goal.index_mut-slot-requires
index_mut-slot-requires c =
    let here = at-place c.self.inside _ c.args.ticket.now _ c.self.view_is c.requires.there c.place_of-place.ensures in
    at-low c.self.inside c.args.ticket.now _ c.self.invariant here

pub put_block-requires-clause-room : goal.put_block-requires-clause-room
put_block-requires-clause-room c =
    let here = at-place c.self.inside _ c.args.ticket.now _ c.self.view_is c.requires.there c.place_of-place.ensures in
    let still = still-own c.self.inside _ c.args.ticket.now _ c.self.invariant here c.self.view_is (inl c.requires.reads) in
    let blocks = blocks-own c.self.inside _ c.args.ticket.now _ c.self.invariant here c.self.view_is (inl c.requires.reads) in
    let is = lent-own c.self.inside c.args.ticket.now _ c.self.invariant here _ c.index_mut-slot.ensures.value in
    let size : length c.args.bytes.now ≡ c.self.inside.block_size = c.requires.bytes ∙ sym (ap (λ (f : Flight). f.block_size) c.self.view_is) in
    let room = room-next _ _ _ here.split.own (fits-own c.self.inside c.args.ticket.now _ c.self.invariant here) blocks still in
    subst (λ (x : Slot). x.served * c.self.inside.block_size + length c.args.bytes.now ≤ length (bytes_in x.request)) (sym is)
    (subst (λ (n : ℕ). here.split.own.served * c.self.inside.block_size + n ≤ length (bytes_in here.split.own.request)) (sym size) room)

pub put_block-requires-clause-from : goal.put_block-requires-clause-from
put_block-requires-clause-from c =
    let here = at-place c.self.inside _ c.args.ticket.now _ c.self.view_is c.requires.there c.place_of-place.ensures in
    let still = still-own c.self.inside _ c.args.ticket.now _ c.self.invariant here c.self.view_is (inl c.requires.reads) in
    let blocks = blocks-own c.self.inside _ c.args.ticket.now _ c.self.invariant here c.self.view_is (inl c.requires.reads) in
    let is = lent-own c.self.inside c.args.ticket.now _ c.self.invariant here _ c.index_mut-slot.ensures.value in
    let from = from-low _ _ _ here.split.own (fits-own c.self.inside c.args.ticket.now _ c.self.invariant here) c.self.invariant.few_blocks c.self.invariant.small in
    subst (λ (x : Slot). x.served * c.self.inside.block_size < 18446744073709551616) (sym is) (omega (arith, from))

pub put_block-requires-clause-served : goal.put_block-requires-clause-served
put_block-requires-clause-served c =
    let here = at-place c.self.inside _ c.args.ticket.now _ c.self.view_is c.requires.there c.place_of-place.ensures in
    let still = still-own c.self.inside _ c.args.ticket.now _ c.self.invariant here c.self.view_is (inl c.requires.reads) in
    let blocks = blocks-own c.self.inside _ c.args.ticket.now _ c.self.invariant here c.self.view_is (inl c.requires.reads) in
    let is = lent-own c.self.inside c.args.ticket.now _ c.self.invariant here _ c.index_mut-slot.ensures.value in
    let low = served-low _ _ _ here.split.own (fits-own c.self.inside c.args.ticket.now _ c.self.invariant here) c.self.invariant.few_blocks in
    subst (λ (x : Slot). x.served + 1 < 18446744073709551616) (sym is) (omega (arith, low))

pub invariant_of-self : goal.invariant_of-self
invariant_of-self c =
    let here = at-place c.self.inside _ c.args.ticket.now _ c.self.view_is c.requires.there c.place_of-place.ensures in
    let still = still-own c.self.inside _ c.args.ticket.now _ c.self.invariant here c.self.view_is (inl c.requires.reads) in
    let blocks = blocks-own c.self.inside _ c.args.ticket.now _ c.self.invariant here c.self.view_is (inl c.requires.reads) in
    let is = lent-own c.self.inside c.args.ticket.now _ c.self.invariant here _ c.index_mut-slot.ensures.value in
    let size : length c.args.bytes.now ≡ c.self.inside.block_size = c.requires.bytes ∙ sym (ap (λ (f : Flight). f.block_size) c.self.view_is) in
    let changed : c.put_block.new.self ≡ with_block_read c.self.inside.block_size c.args.bytes.now here.split.own =
    c.put_block.ensures ∙ ap (with_block_read c.self.inside.block_size c.args.bytes.now) is in
    IsTable-changed c.self.inside c.args.ticket.now _ c.self.invariant here c.put_block.new.self c.unlock_finished.new.locks
    (ap (λ (x : Slot). x.ticket) changed)
    (subst (IsSlotOf c.self.inside.blocks c.self.inside.block_size c.self.inside.submitted) (sym changed)
    (IsSlotOf-read _ _ _ c.args.bytes.now here.split.own (fits-own c.self.inside c.args.ticket.now _ c.self.invariant here) blocks still size))
    (ap ask_of changed ∙ ask_of-read c.self.inside.block_size c.args.bytes.now here.split.own)
    (λ _. still) c.unlock_finished.ensures

pub returns : goal.returns
returns c =
    let here = at-place c.self.inside _ c.args.ticket.now _ c.self.view_is c.requires.there c.place_of-place.ensures in
    let is = lent-own c.self.inside c.args.ticket.now _ c.self.invariant here _ c.index_mut-slot.ensures.value in
    let changed : c.put_block.new.self ≡ with_block_read c.self.inside.block_size c.args.bytes.now here.split.own =
    c.put_block.ensures ∙ ap (with_block_read c.self.inside.block_size c.args.bytes.now) is in
    flight-changed c.self.inside c.args.ticket.now _ c.self.invariant here _ c.self.view_is (with_block_read c.self.inside.block_size c.args.bytes.now) c.put_block.new.self changed
    ∙ ap (λ (n : ℕ). with_change c.args.ticket.now (with_block_read n c.args.bytes.now) c.args.self.now) (ap (λ (f : Flight). f.block_size) c.self.view_is)
