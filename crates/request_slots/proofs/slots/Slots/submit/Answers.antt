use Rattle.std.proofs.Common.{ℕ, ◌+◌, ◌<◌, length, [], ◌∷◌, ◌++◌, sym, ◌∙◌, ap, subst, arith}
use Rattle.range_lock.specs.Asks.{Slots, ask_for}
use Rattle.request_slots.specs.Flight.{Flight, first_in}
use Rattle.request_slots.specs.Submitting.{fault_of}
use Rattle.request_slots.specs.Table.{flight_of}
use Rattle.request_slots.specs.declared.slot.Slot.{Slot}
use Rattle.request_slots.proofs.SlotsLemmas.{length-asks_in}
use Rattle.request_slots.proofs.SubmitLemmas.{slot_is_left}
use Rattle.request_slots.proofs.TableLemmas.{IsTable-push}
use Rattle.request_slots.proofs.slots.Slots.submit.Goals as goal

pub ask-requires : goal.ask-requires
ask-requires c =
    let none = ap (λ (f : Flight). fault_of f c.args.request) c.self.view_is ∙ sym c.fault_of.ensures ∙ c.in_default.is in
    let left : length c.self.inside.slots.items < 16 = slot_is_left (flight_of c.self.inside) c.args.request none in
    let asks = length-asks_in c.self.inside.slots.items in
    record { room = subst (λ (locks : Slots). length locks.asks < locks.count) (sym c.self.invariant.locks) (omega (arith, left, asks)) }

pub invariant_of-self : goal.invariant_of-self
invariant_of-self c =
    let none = ap (λ (f : Flight). fault_of f c.args.request) c.self.view_is ∙ sym c.fault_of.ensures ∙ c.in_default.is in
    IsTable-push c.self.inside c.args.request c.push_reserved.new.self c.ask.new.self c.self.invariant none
    (c.push_reserved.ensures.items ∙ ap (λ (x : Slot). c.self.inside.slots.items ++ x ∷ []) c.new.ensures) c.push_reserved.ensures.capacity
    (c.ask.ensures.asked ∙ ap (λ (n : ℕ). record c.self.inside.locks { asks = c.self.inside.locks.asks ++ ask_for (c.self.inside.submitted + 1) n c.count.result ∷ [] }) c.first.ensures
    ∙ ap (λ (n : ℕ). record c.self.inside.locks { asks = c.self.inside.locks.asks ++ ask_for (c.self.inside.submitted + 1) (first_in c.args.request) n ∷ [] }) c.count.ensures)
