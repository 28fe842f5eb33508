use Rattle.std.proofs.Common.{◌≡◌, ℕ, ◌+◌, ◌<◌, true, false, refl, sym, ◌∙◌, ap, subst, arith}
use Rattle.request_slots.specs.Flight.{Flight, IsTurnWithin, is_unfinished, first_in, next_of}
use Rattle.request_slots.specs.declared.slot.Slot.{Slot}
use Rattle.request_slots.specs.declared.turn.Turn.{Turn}
use Rattle.request_slots.proofs.SlotLemmas.{block-low, next-within, served-low}
use Rattle.request_slots.proofs.TableLemmas.{at-place, at-low, fits-own, fits-view, lent-own, turn_by, turn_of-own, turn_of-asked, turn_asked}
use Rattle.request_slots.proofs.slots.Slots.turn.Goals as goal

pub index-slot-requires : goal.index-slot-requires
index-slot-requires c =
    let here = at-place c.self.inside _ c.args.ticket.now _ c.self.view_is c.requires c.place_of.ensures in
    at-low c.self.inside c.args.ticket.now _ c.self.invariant here

pub returns-then-not-is_unfinished-clause-turn : goal.returns-then-not-is_unfinished-clause-turn
returns-then-not-is_unfinished-clause-turn c =
    let here = at-place c.self.inside _ c.args.ticket.now _ c.self.view_is c.requires c.place_of.ensures in
    let is = lent-own c.self.inside c.args.ticket.now _ c.self.invariant here _ c.index-slot.ensures in
    let done : is_unfinished here.split.own ≡ false = sym (ap is_unfinished is) ∙ sym c.is_unfinished.ensures ∙ c.if-not-is_unfinished.true in
    sym (turn_of-own c.self.inside c.args.self.now c.args.ticket.now _ c.self.invariant here c.self.view_is ∙ ap (turn_by here.split.own c.self.inside.slots.items) done)

pub next-requires-clause-block : goal.next-requires-clause-block
next-requires-clause-block c =
    let here = at-place c.self.inside _ c.args.ticket.now _ c.self.view_is c.requires c.place_of.ensures in
    let is = lent-own c.self.inside c.args.ticket.now _ c.self.invariant here _ c.index-slot.ensures in
    let low = block-low _ _ _ here.split.own (fits-own c.self.inside c.args.ticket.now _ c.self.invariant here) c.self.invariant.few_blocks in
    subst (λ (x : Slot). first_in x.request + x.served < 18446744073709551616) (sym is) (omega (arith, low))

pub next-requires-clause-served : goal.next-requires-clause-served
next-requires-clause-served c =
    let here = at-place c.self.inside _ c.args.ticket.now _ c.self.view_is c.requires c.place_of.ensures in
    let is = lent-own c.self.inside c.args.ticket.now _ c.self.invariant here _ c.index-slot.ensures in
    let low = served-low _ _ _ here.split.own (fits-own c.self.inside c.args.ticket.now _ c.self.invariant here) c.self.invariant.few_blocks in
    subst (λ (x : Slot). x.served + 1 < 18446744073709551616) (sym is) (omega (arith, low))

pub returns-in-Held-clause-turn : goal.returns-in-Held-clause-turn
returns-in-Held-clause-turn c =
    let here = at-place c.self.inside _ c.args.ticket.now _ c.self.view_is c.requires c.place_of.ensures in
    let is = lent-own c.self.inside c.args.ticket.now _ c.self.invariant here _ c.index-slot.ensures in
    let still : is_unfinished here.split.own ≡ true = sym (ap is_unfinished is) ∙ sym c.is_unfinished.ensures ∙ c.if-not-is_unfinished.false in
    sym (turn_of-asked c.self.inside c.args.self.now c.args.ticket.now _ _ c.self.invariant here c.self.view_is still c.ticket.view_is c.check.result c.check.ensures
    ∙ ap (turn_asked here.split.own) c.in-Held.is)

pub returns-in-Granted-clause-turn : goal.returns-in-Granted-clause-turn
returns-in-Granted-clause-turn c =
    let here = at-place c.self.inside _ c.args.ticket.now _ c.self.view_is c.requires c.place_of.ensures in
    let is = lent-own c.self.inside c.args.ticket.now _ c.self.invariant here _ c.index-slot.ensures in
    let still : is_unfinished here.split.own ≡ true = sym (ap is_unfinished is) ∙ sym c.is_unfinished.ensures ∙ c.if-not-is_unfinished.false in
    c.next.ensures ∙ ap (λ (x : Slot). next_of x x.request) is
    ∙ sym (turn_of-asked c.self.inside c.args.self.now c.args.ticket.now _ _ c.self.invariant here c.self.view_is still c.ticket.view_is c.check.result c.check.ensures
    ∙ ap (turn_asked here.split.own) c.in-Granted.is)

pub returns-in-Granted-clause-inside : goal.returns-in-Granted-clause-inside
returns-in-Granted-clause-inside c =
    let here = at-place c.self.inside _ c.args.ticket.now _ c.self.view_is c.requires c.place_of.ensures in
    let is = lent-own c.self.inside c.args.ticket.now _ c.self.invariant here _ c.index-slot.ensures in
    let still : is_unfinished here.split.own ≡ true = sym (ap is_unfinished is) ∙ sym c.is_unfinished.ensures ∙ c.if-not-is_unfinished.false in
    subst (λ (t : Turn). IsTurnWithin c.args.self.now.blocks t) (sym (c.next.ensures ∙ ap (λ (x : Slot). next_of x x.request) is))
    (subst (λ (n : ℕ). IsTurnWithin n (next_of here.split.own here.split.own.request)) (ap (λ (f : Flight). f.blocks) c.self.view_is)
    (next-within _ _ _ here.split.own (fits-own c.self.inside c.args.ticket.now _ c.self.invariant here) still here.split.own.request refl))

pub returns-then-not-is_unfinished-clause-fits : goal.returns-then-not-is_unfinished-clause-fits
returns-then-not-is_unfinished-clause-fits c =
    let here = at-place c.self.inside _ c.args.ticket.now _ c.self.view_is c.requires c.place_of.ensures in
    fits-view c.self.inside c.args.self.now c.args.ticket.now _ c.self.invariant here c.self.view_is

pub returns-in-Held-clause-fits : goal.returns-in-Held-clause-fits
returns-in-Held-clause-fits c =
    let here = at-place c.self.inside _ c.args.ticket.now _ c.self.view_is c.requires c.place_of.ensures in
    fits-view c.self.inside c.args.self.now c.args.ticket.now _ c.self.invariant here c.self.view_is

pub returns-in-Granted-clause-fits : goal.returns-in-Granted-clause-fits
returns-in-Granted-clause-fits c =
    let here = at-place c.self.inside _ c.args.ticket.now _ c.self.view_is c.requires c.place_of.ensures in
    fits-view c.self.inside c.args.self.now c.args.ticket.now _ c.self.invariant here c.self.view_is
