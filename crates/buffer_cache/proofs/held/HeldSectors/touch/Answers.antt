use Rattle.std.proofs.Common.{sym, ◌∙◌, false, nat_eq, ◌≡◌}
use Rattle.std.specs.Map.{lookup}
use Rattle.std.specs.Option.{is_some}
use Rattle.buffer_cache.proofs.HeldLemmas.{in_front-missed, on_false}
use Rattle.buffer_cache.proofs.held.HeldSectors.touch.Goals as goal

pub returns-else-found-clause-kept : goal.returns-else-found-clause-kept
returns-else-found-clause-kept c =
    let missed : is_some (lookup (nat_eq c.args.at) c.args.self.now.recent.entries) ≡ false = sym c.promote-found.ensures.value ∙ c.if-found.false in
    on_false c.is_some.result (rw c.promote-found.ensures.entries (in_front-missed c.args.at c.args.self.now missed))
