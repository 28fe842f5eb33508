use Rattle.std.proofs.Common.{ap, refl, ◌∙◌}
use Rattle.std.specs.Option.{is_some}
use Rattle.buffer_cache.proofs.HeldLemmas.{held_in-in_front}
use Rattle.buffer_cache.proofs.CachedLemmas.{IsOfDisk-in_front, Keeps-in_front}
use Rattle.buffer_cache.proofs.HeldLemmas.{HoldsAlso-in_front}
use Rattle.buffer_cache.proofs.bringing.bring.Goals as goal

pub returns-then-touch-clause-found : goal.returns-then-touch-clause-found
returns-then-touch-clause-found g c =
    rw c.touch.ensures.front (ap is_some (held_in-in_front c.args.at c.args.at c.args.held.now) ∙ c.touch.ensures.held.0 c.if-touch.true)

pub returns-then-touch-clause-same : goal.returns-then-touch-clause-same
returns-then-touch-clause-same g c = record {
  cache = rw c.touch.ensures.front (IsOfDisk-in_front _ _ c.args.at c.args.held.now c.requires.over.cache);
  keeps = rw c.touch.ensures.front (Keeps-in_front (g.D.Disk.moments c.args.disk.now) c.args.at c.args.held.now);
  identity = refl;
}

pub returns-then-touch-clause-held : goal.returns-then-touch-clause-held
returns-then-touch-clause-held g c = rw c.touch.ensures.front (HoldsAlso-in_front c.args.at c.args.held.now)
