-- Who works in the background, by the code's type.
use Rattle.device_model.specs.Progress as progress
use Rattle.device_model.specs.declared.actor.Actor.{Actor}
use Rattle.device_model.specs.declared.actor.Actor.TheVariants.{Commit, Place, Settle, Clean, Recalc}

abbrev pub actor_of : Actor → progress.Actor
actor_of Commit = progress.Commit
actor_of Place = progress.Place
actor_of Settle = progress.Settle
actor_of Clean = progress.Clean
actor_of Recalc = progress.Recalc
