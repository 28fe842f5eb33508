use Rattle.std.proofs.Common.{◌≡◌, ℕ, get_or, subst, arith}
use Rattle.script_session.proofs.SplitLemmas.{place_is}
use Rattle.script_session.proofs.tickets.Tickets.ticket_of.Goals as goal

pub index-requires : goal.index-requires
index-requires c =
    let place = place_is c.args.number c.args.self.now.waiting.items c.requires in
    let low = place.low in
    let counted = c.args.self.now.waiting.ok.0 in
    let at = c.place_of.ensures in
    omega (arith, low, counted, at)

pub returns : goal.returns
returns c =
    let place = place_is c.args.number c.args.self.now.waiting.items c.requires in
    place.own c.index.result.now (subst (λ (n : ℕ). c.index.result.now ≡ get_or c.args.self.now.waiting.items n c.index.result.now) c.place_of.ensures c.index.ensures)
