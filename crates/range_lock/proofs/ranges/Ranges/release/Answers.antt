use Rattle.std.proofs.Common.{◌≡◌, filter, not, refl, rules}
use Rattle.std.proofs.lemmas.Fn.{filter_same}
use Rattle.range_lock.specs.Asks.{has_ticket}
use Rattle.range_lock.specs.declared.ask.Ask.{Ask}
use Rattle.range_lock.proofs.ranges.Ranges.release.Goals as goal

pub returns : goal.returns
returns c =
    let kept : c.retain.new.self.items ≡ filter {X = Ask} (λ ask. not (has_ticket c.args.ticket ask)) c.self.inside.asks.items =
    filter_same _ (λ ask. not (has_ticket c.args.ticket ask)) _ (λ x b q h. search rules) _ _ c.retain.ensures.filtered in
    rw (kept, ← c.self.view_is) refl
