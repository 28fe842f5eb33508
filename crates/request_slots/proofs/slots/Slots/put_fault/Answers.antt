use Rattle.std.proofs.Common.{◌≡◌, inl, ◌+◌, ◌<◌, sym, ◌∙◌, ap, subst, arith}
use Rattle.request_slots.specs.Flight.{IsSlotOf, is_unfinished, ask_of}
use Rattle.request_slots.specs.Serving.{with_fault}
use Rattle.request_slots.specs.declared.slot.Slot.{Slot}
use Rattle.std.proofs.lemmas.Bool.{false≢true}
use Rattle.request_slots.proofs.SlotLemmas.{served-low, IsSlotOf-fault}
use Rattle.request_slots.proofs.TableLemmas.{at-place, at-low, lent-own, fits-own, still-own, blocks-own, IsTable-changed, flight-changed}
use Rattle.request_slots.proofs.slots.Slots.put_fault.Goals as goal

pub index_mut-slot-requires : goal.index_mut-slot-requires
index_mut-slot-requires c =
    let here = at-place c.self.inside _ c.args.ticket.now _ c.self.view_is c.requires.there c.place_of-place.ensures in
    at-low c.self.inside c.args.ticket.now _ c.self.invariant here

pub put_fault-requires : goal.put_fault-requires
put_fault-requires c =
    let here = at-place c.self.inside _ c.args.ticket.now _ c.self.view_is c.requires.there c.place_of-place.ensures in
    let is = lent-own c.self.inside c.args.ticket.now _ c.self.invariant here _ c.index_mut-slot.ensures.value in
    let low = served-low _ _ _ here.split.own (fits-own c.self.inside c.args.ticket.now _ c.self.invariant here) c.self.invariant.few_blocks in
    subst (λ (x : Slot). x.served + 1 < 18446744073709551616) (sym is) (omega (arith, low))

pub invariant_of-self : goal.invariant_of-self
invariant_of-self c =
    let here = at-place c.self.inside _ c.args.ticket.now _ c.self.view_is c.requires.there c.place_of-place.ensures in
    let is = lent-own c.self.inside c.args.ticket.now _ c.self.invariant here _ c.index_mut-slot.ensures.value in
    let changed : c.put_fault.new.self ≡ with_fault c.args.block c.args.stored c.args.computed here.split.own = c.put_fault.ensures ∙ ap (with_fault c.args.block c.args.stored c.args.computed) is in
    IsTable-changed c.self.inside c.args.ticket.now _ c.self.invariant here c.put_fault.new.self c.unlock_finished.new.locks
    (ap (λ (x : Slot). x.ticket) changed)
    (subst (IsSlotOf c.self.inside.blocks c.self.inside.block_size c.self.inside.submitted) (sym changed)
    (IsSlotOf-fault _ _ _ c.args.block c.args.stored c.args.computed here.split.own (fits-own c.self.inside c.args.ticket.now _ c.self.invariant here) (blocks-own c.self.inside _ c.args.ticket.now _ c.self.invariant here c.self.view_is (inl c.requires.reads)) (still-own c.self.inside _ c.args.ticket.now _ c.self.invariant here c.self.view_is (inl c.requires.reads))))
    (ap ask_of changed)
    (λ unfinished. absurd (false≢true (sym (ap is_unfinished changed) ∙ unfinished))) c.unlock_finished.ensures

pub returns : goal.returns
returns c =
    let here = at-place c.self.inside _ c.args.ticket.now _ c.self.view_is c.requires.there c.place_of-place.ensures in
    let is = lent-own c.self.inside c.args.ticket.now _ c.self.invariant here _ c.index_mut-slot.ensures.value in
    let changed : c.put_fault.new.self ≡ with_fault c.args.block c.args.stored c.args.computed here.split.own = c.put_fault.ensures ∙ ap (with_fault c.args.block c.args.stored c.args.computed) is in
    flight-changed c.self.inside c.args.ticket.now _ c.self.invariant here _ c.self.view_is (with_fault c.args.block c.args.stored c.args.computed) c.put_fault.new.self changed
