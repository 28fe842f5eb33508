use Rattle.std.proofs.Common.{◌≡◌, sym, ◌∙◌, ap, subst}
use Rattle.request_slots.specs.Flight.{IsSlotOf, is_unfinished, ask_of}
use Rattle.request_slots.specs.Serving.{with_finish}
use Rattle.request_slots.specs.declared.slot.Slot.{Slot}
use Rattle.std.proofs.lemmas.Bool.{false≢true}
use Rattle.request_slots.proofs.SlotLemmas.{IsSlotOf-finish}
use Rattle.request_slots.proofs.TableLemmas.{at-place, at-low, lent-own, fits-own, IsTable-changed, flight-changed}
use Rattle.request_slots.proofs.slots.Slots.finish.Goals as goal

pub index_mut-slot-requires : goal.index_mut-slot-requires
index_mut-slot-requires c =
    let here = at-place c.self.inside _ c.args.ticket.now _ c.self.view_is c.requires.there c.place_of-place.ensures in
    at-low c.self.inside c.args.ticket.now _ c.self.invariant here

pub invariant_of-self : goal.invariant_of-self
invariant_of-self c =
    let here = at-place c.self.inside _ c.args.ticket.now _ c.self.view_is c.requires.there c.place_of-place.ensures in
    let is = lent-own c.self.inside c.args.ticket.now _ c.self.invariant here _ c.index_mut-slot.ensures.value in
    let changed : c.finish.new.self ≡ with_finish here.split.own = c.finish.ensures ∙ ap (with_finish) is in
    IsTable-changed c.self.inside c.args.ticket.now _ c.self.invariant here c.finish.new.self c.unlock_finished.new.locks
    (ap (λ (x : Slot). x.ticket) changed)
    (subst (IsSlotOf c.self.inside.blocks c.self.inside.block_size c.self.inside.submitted) (sym changed)
    (IsSlotOf-finish _ _ _ here.split.own (fits-own c.self.inside c.args.ticket.now _ c.self.invariant here)))
    (ap ask_of changed)
    (λ unfinished. absurd (false≢true (sym (ap is_unfinished changed) ∙ unfinished))) c.unlock_finished.ensures

pub returns : goal.returns
returns c =
    let here = at-place c.self.inside _ c.args.ticket.now _ c.self.view_is c.requires.there c.place_of-place.ensures in
    let is = lent-own c.self.inside c.args.ticket.now _ c.self.invariant here _ c.index_mut-slot.ensures.value in
    let changed : c.finish.new.self ≡ with_finish here.split.own = c.finish.ensures ∙ ap (with_finish) is in
    flight-changed c.self.inside c.args.ticket.now _ c.self.invariant here _ c.self.view_is (with_finish) c.finish.new.self changed
