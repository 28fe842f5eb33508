use Rattle.std.proofs.Common.{◌≡◌, inr, ℕ, ◌+◌, ◌*◌, ◌<◌, ◌≤◌, Option, IfSome, List, length, sym, ◌∙◌, ap, subst, arith}
use Rattle.request_slots.specs.Flight.{Flight, bytes_in}
use Rattle.request_slots.specs.Serving.{next_bytes}
use Rattle.request_slots.specs.declared.slot.Slot.{Slot}
use Rattle.request_slots.proofs.SlotLemmas.{room-next, from-low, whole-next}
use Rattle.request_slots.proofs.TableLemmas.{at-place, at-low, fits-own, lent-own, still-own, blocks-own, slot_of-view}
use Rattle.request_slots.proofs.slots.Slots.next_bytes.Goals as goal

pub index-requires : goal.index-requires
index-requires c =
    let here = at-place c.self.inside _ c.args.ticket.now _ c.self.view_is c.requires.there c.place_of.ensures in
    at-low c.self.inside c.args.ticket.now _ c.self.invariant here

pub next_bytes-requires-clause-room : goal.next_bytes-requires-clause-room
next_bytes-requires-clause-room c =
    let here = at-place c.self.inside _ c.args.ticket.now _ c.self.view_is c.requires.there c.place_of.ensures in
    let is = lent-own c.self.inside c.args.ticket.now _ c.self.invariant here _ c.index.ensures in
    let room = room-next _ _ _ here.split.own (fits-own c.self.inside c.args.ticket.now _ c.self.invariant here) (blocks-own c.self.inside _ c.args.ticket.now _ c.self.invariant here c.self.view_is (inr c.requires.writes)) (still-own c.self.inside _ c.args.ticket.now _ c.self.invariant here c.self.view_is (inr c.requires.writes)) in
    subst (λ (x : Slot). x.served * c.self.inside.block_size + c.self.inside.block_size ≤ length (bytes_in x.request)) (sym is) room

pub next_bytes-requires-clause-from : goal.next_bytes-requires-clause-from
next_bytes-requires-clause-from c =
    let here = at-place c.self.inside _ c.args.ticket.now _ c.self.view_is c.requires.there c.place_of.ensures in
    let is = lent-own c.self.inside c.args.ticket.now _ c.self.invariant here _ c.index.ensures in
    let from = from-low _ _ _ here.split.own (fits-own c.self.inside c.args.ticket.now _ c.self.invariant here) c.self.invariant.few_blocks c.self.invariant.small in
    subst (λ (x : Slot). x.served * c.self.inside.block_size + c.self.inside.block_size < 18446744073709551616) (sym is) (omega (arith, from))

pub returns-clause-bytes : goal.returns-clause-bytes
returns-clause-bytes c =
    let here = at-place c.self.inside _ c.args.ticket.now _ c.self.view_is c.requires.there c.place_of.ensures in
    let is = lent-own c.self.inside c.args.ticket.now _ c.self.invariant here _ c.index.ensures in
    let slot = slot_of-view c.self.inside c.args.self.now c.args.ticket.now _ c.self.invariant here c.self.view_is in
    let size : c.self.inside.block_size ≡ c.args.self.now.block_size = ap (λ (f : Flight). f.block_size) c.self.view_is in
    subst (λ (o : Option Slot). IfSome o (λ x. c.next_bytes.result.now ≡ next_bytes c.args.self.now.block_size x)) (sym slot)
    (c.next_bytes.ensures ∙ ap (next_bytes c.self.inside.block_size) is ∙ ap (λ (n : ℕ). next_bytes n here.split.own) size)

pub returns-clause-size : goal.returns-clause-size
returns-clause-size c =
    let here = at-place c.self.inside _ c.args.ticket.now _ c.self.view_is c.requires.there c.place_of.ensures in
    let is = lent-own c.self.inside c.args.ticket.now _ c.self.invariant here _ c.index.ensures in
    let room = room-next _ _ _ here.split.own (fits-own c.self.inside c.args.ticket.now _ c.self.invariant here) (blocks-own c.self.inside _ c.args.ticket.now _ c.self.invariant here c.self.view_is (inr c.requires.writes)) (still-own c.self.inside _ c.args.ticket.now _ c.self.invariant here c.self.view_is (inr c.requires.writes)) in
    ap (λ (xs : List ℕ). length xs) (c.next_bytes.ensures ∙ ap (next_bytes c.self.inside.block_size) is)
    ∙ whole-next c.self.inside.block_size here.split.own room ∙ ap (λ (f : Flight). f.block_size) c.self.view_is
