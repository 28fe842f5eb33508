use Rattle.std.proofs.Common.{ℕ, Option, length, position, unwrap_or, ◌∙◌, ap}
use Rattle.request_slots.specs.Flight.{Flight, is_of}
use Rattle.request_slots.proofs.TableLemmas.{unwrap_or-position}
use Rattle.request_slots.proofs.slots.Slots.place_of.Goals as goal

pub returns : goal.returns
returns c =
    c.unwrap_or.ensures ∙ ap (λ (o : Option ℕ). unwrap_or o c.len.result) c.find.ensures
    ∙ ap (λ (n : ℕ). unwrap_or (position (is_of c.args.ticket.now) c.args.self.now.slots) n)
    (c.len.ensures ∙ c.self.inside.slots.ok.0 ∙ ap (λ (f : Flight). length f.slots) c.self.view_is)
    ∙ unwrap_or-position (is_of c.args.ticket.now) c.args.self.now.slots
