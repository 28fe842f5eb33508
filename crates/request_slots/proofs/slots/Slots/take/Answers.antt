use Rattle.std.proofs.Common.{◌≡◌, Bool, true, false, Option, if◌then◌else◌, Ok, Err, sym, ◌∙◌, ap}
use Rattle.request_slots.specs.Flight.{is_unfinished}
use Rattle.request_slots.specs.Taking.{taken_by, after_take, reply_of, without}
use Rattle.request_slots.specs.declared.slot.Slot.{Slot}
use Rattle.request_slots.proofs.TableLemmas.{at-place, at-low, lent-own, slot_of-view, IsTable-without, flight-taken}
use Rattle.request_slots.proofs.slots.Slots.take.Goals as goal

pub index-requires : goal.index-requires
index-requires c =
    let here = at-place c.self.inside _ c.args.ticket _ c.self.view_is c.requires.there c.place_of-place.ensures in
    at-low c.self.inside c.args.ticket _ c.self.invariant here

pub returns-then-is_unfinished-clause-reply : goal.returns-then-is_unfinished-clause-reply
returns-then-is_unfinished-clause-reply c =
    let here = at-place c.self.inside _ c.args.ticket _ c.self.view_is c.requires.there c.place_of-place.ensures in
    let own = here.split.own in
    let slot = slot_of-view c.self.inside c.args.self.now c.args.ticket _ c.self.invariant here c.self.view_is in
    let is = lent-own c.self.inside c.args.ticket _ c.self.invariant here _ c.index.ensures in
    let still : is_unfinished own ≡ true = sym (ap is_unfinished is) ∙ sym c.is_unfinished.ensures ∙ c.if-is_unfinished.true in
    sym (ap (taken_by c.args.ticket) slot ∙ ap (λ (b : Bool). if b then Err c.args.ticket else Ok (reply_of own)) still)

pub returns-then-is_unfinished-clause-taken : goal.returns-then-is_unfinished-clause-taken
returns-then-is_unfinished-clause-taken c =
    let here = at-place c.self.inside _ c.args.ticket _ c.self.view_is c.requires.there c.place_of-place.ensures in
    let own = here.split.own in
    let slot = slot_of-view c.self.inside c.args.self.now c.args.ticket _ c.self.invariant here c.self.view_is in
    let is = lent-own c.self.inside c.args.ticket _ c.self.invariant here _ c.index.ensures in
    let still : is_unfinished own ≡ true = sym (ap is_unfinished is) ∙ sym c.is_unfinished.ensures ∙ c.if-is_unfinished.true in
    let flight = c.args.self.now in
    sym (ap (λ (o : Option Slot). after_take c.args.ticket o flight) slot
    ∙ ap (λ (b : Bool). if b then flight else record flight { slots = without c.args.ticket flight.slots }) still)

pub remove-requires : goal.remove-requires
remove-requires c =
    let here = at-place c.self.inside _ c.args.ticket _ c.self.view_is c.requires.there c.place_of-place.ensures in
    at-low c.self.inside c.args.ticket _ c.self.invariant here

pub invariant_of-self : goal.invariant_of-self
invariant_of-self c =
    let here = at-place c.self.inside _ c.args.ticket _ c.self.view_is c.requires.there c.place_of-place.ensures in
    let own = here.split.own in
    let slot = slot_of-view c.self.inside c.args.self.now c.args.ticket _ c.self.invariant here c.self.view_is in
    let is = lent-own c.self.inside c.args.ticket _ c.self.invariant here _ c.index.ensures in
    let done : is_unfinished own ≡ false = sym (ap is_unfinished is) ∙ sym c.is_unfinished.ensures ∙ c.if-is_unfinished.false in
    IsTable-without c.self.inside c.args.ticket _ c.self.invariant here c.remove.new.self c.remove.ensures.items c.remove.ensures.capacity done

pub returns-clause-reply : goal.returns-clause-reply
returns-clause-reply c =
    let here = at-place c.self.inside _ c.args.ticket _ c.self.view_is c.requires.there c.place_of-place.ensures in
    let own = here.split.own in
    let slot = slot_of-view c.self.inside c.args.self.now c.args.ticket _ c.self.invariant here c.self.view_is in
    let is = lent-own c.self.inside c.args.ticket _ c.self.invariant here _ c.index.ensures in
    let done : is_unfinished own ≡ false = sym (ap is_unfinished is) ∙ sym c.is_unfinished.ensures ∙ c.if-is_unfinished.false in
    let taken = lent-own c.self.inside c.args.ticket _ c.self.invariant here _ c.remove.ensures.value in
    ap Ok (c.into_reply.ensures ∙ ap reply_of taken)
    ∙ sym (ap (taken_by c.args.ticket) slot ∙ ap (λ (b : Bool). if b then Err c.args.ticket else Ok (reply_of own)) done)

pub returns-clause-taken : goal.returns-clause-taken
returns-clause-taken c =
    let here = at-place c.self.inside _ c.args.ticket _ c.self.view_is c.requires.there c.place_of-place.ensures in
    let own = here.split.own in
    let slot = slot_of-view c.self.inside c.args.self.now c.args.ticket _ c.self.invariant here c.self.view_is in
    let is = lent-own c.self.inside c.args.ticket _ c.self.invariant here _ c.index.ensures in
    let done : is_unfinished own ≡ false = sym (ap is_unfinished is) ∙ sym c.is_unfinished.ensures ∙ c.if-is_unfinished.false in
    flight-taken c.self.inside c.args.ticket _ c.self.invariant here c.args.self.now c.self.view_is c.remove.new.self.items c.remove.ensures.items done
