use Rattle.std.proofs.Common.{ℕ, Option, position, unwrap_or, ◌∙◌, ap}
use Rattle.script_session.specs.Tickets.{is_of}
use Rattle.script_session.proofs.SplitLemmas.{unwrap_or-position}
use Rattle.script_session.proofs.tickets.Tickets.place_of.Goals as goal

pub returns : goal.returns
returns c =
    c.unwrap_or.ensures ∙ ap (λ (o : Option ℕ). unwrap_or o c.len.result) c.find.ensures
    ∙ ap (λ (n : ℕ). unwrap_or (position (is_of c.args.number) c.args.self.now.waiting.items) n) (c.len.ensures ∙ c.args.self.now.waiting.ok.0)
    ∙ unwrap_or-position (is_of c.args.number) c.args.self.now.waiting.items
