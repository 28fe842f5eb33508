use Rattle.recalculation.proofs.AwaitingLemmas.{nothing_least}
use Rattle.recalculation.proofs.awaiting.Awaiting.next.Goals as goal

pub returns-in-None : goal.returns-in-None
returns-in-None c = nothing_least c.self.inside.places.geometry c.self.inside.places.first c.self.inside.left c.args.self.now c.self.view_is c.in-None.is
