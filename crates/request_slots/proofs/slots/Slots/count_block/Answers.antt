use Rattle.std.proofs.Common.{◌≡◌, inr, ◌+◌, ◌<◌, sym, ◌∙◌, ap, subst, arith}
use Rattle.request_slots.specs.Flight.{IsSlotOf, ask_of}
use Rattle.request_slots.specs.Serving.{with_block_counted}
use Rattle.request_slots.specs.declared.slot.Slot.{Slot}
use Rattle.request_slots.proofs.SlotLemmas.{served-low, IsSlotOf-counted}
use Rattle.request_slots.proofs.TableLemmas.{at-place, at-low, lent-own, fits-own, still-own, blocks-own, IsTable-changed, flight-changed}
use Rattle.request_slots.proofs.slots.Slots.count_block.Goals as goal

pub index_mut-slot-requires : goal.index_mut-slot-requires
index_mut-slot-requires c =
    let here = at-place c.self.inside _ c.args.ticket.now _ c.self.view_is c.requires.there c.place_of-place.ensures in
    at-low c.self.inside c.args.ticket.now _ c.self.invariant here

pub count_block-requires : goal.count_block-requires
count_block-requires c =
    let here = at-place c.self.inside _ c.args.ticket.now _ c.self.view_is c.requires.there c.place_of-place.ensures in
    let still = still-own c.self.inside _ c.args.ticket.now _ c.self.invariant here c.self.view_is (inr c.requires.writes) in
    let blocks = blocks-own c.self.inside _ c.args.ticket.now _ c.self.invariant here c.self.view_is (inr c.requires.writes) in
    let is = lent-own c.self.inside c.args.ticket.now _ c.self.invariant here _ c.index_mut-slot.ensures.value in
    let low = served-low _ _ _ here.split.own (fits-own c.self.inside c.args.ticket.now _ c.self.invariant here) c.self.invariant.few_blocks in
    subst (λ (x : Slot). x.served + 1 < 18446744073709551616) (sym is) (omega (arith, low))

pub invariant_of-self : goal.invariant_of-self
invariant_of-self c =
    let here = at-place c.self.inside _ c.args.ticket.now _ c.self.view_is c.requires.there c.place_of-place.ensures in
    let is = lent-own c.self.inside c.args.ticket.now _ c.self.invariant here _ c.index_mut-slot.ensures.value in
    let changed : c.count_block.new.self ≡ with_block_counted here.split.own = c.count_block.ensures ∙ ap (with_block_counted) is in
    let still = still-own c.self.inside _ c.args.ticket.now _ c.self.invariant here c.self.view_is (inr c.requires.writes) in
    let blocks = blocks-own c.self.inside _ c.args.ticket.now _ c.self.invariant here c.self.view_is (inr c.requires.writes) in
    IsTable-changed c.self.inside c.args.ticket.now _ c.self.invariant here c.count_block.new.self c.unlock_finished.new.locks
    (ap (λ (x : Slot). x.ticket) changed)
    (subst (IsSlotOf c.self.inside.blocks c.self.inside.block_size c.self.inside.submitted) (sym changed)
    (IsSlotOf-counted _ _ _ here.split.own (fits-own c.self.inside c.args.ticket.now _ c.self.invariant here) blocks still))
    (ap ask_of changed)
    (λ _. still) c.unlock_finished.ensures

pub returns : goal.returns
returns c =
    let here = at-place c.self.inside _ c.args.ticket.now _ c.self.view_is c.requires.there c.place_of-place.ensures in
    let is = lent-own c.self.inside c.args.ticket.now _ c.self.invariant here _ c.index_mut-slot.ensures.value in
    let changed : c.count_block.new.self ≡ with_block_counted here.split.own = c.count_block.ensures ∙ ap (with_block_counted) is in
    flight-changed c.self.inside c.args.ticket.now _ c.self.invariant here _ c.self.view_is (with_block_counted) c.count_block.new.self changed
