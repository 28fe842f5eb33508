use Rattle.buffer_cache.proofs.CachedLemmas.{IsOfDisk-written, Keeps-written, IsOfDisk-amid, Keeps-amid}
use Rattle.buffer_cache.specs.HeldSectors.{unmarked}
use Rattle.buffer_cache.proofs.HeldLemmas.{HoldsNoMore-with_change}
use Rattle.buffer_cache.proofs.write_out.write_held.Goals as goal

pub returns-in_err-write_marked-clause-same : goal.returns-in_err-write_marked-clause-same
returns-in_err-write_marked-clause-same g c = record {
  cache = rw c.write_marked.ensures.identity (IsOfDisk-amid _ c.args.held.now c.args.at c.requires.over.cache c.write_marked.ensures.moments);
  keeps = Keeps-amid c.args.held.now c.args.at c.write_marked.ensures.moments;
  identity = c.write_marked.ensures.identity;
}

pub returns-clause-same : goal.returns-clause-same
returns-clause-same g c = record {
  cache = rw (c.write_marked.ensures.identity, c.unmark.ensures) (IsOfDisk-written _ c.args.held.now c.args.at c.requires.over.cache c.in_ok-write_marked.ensures.written);
  keeps = rw c.unmark.ensures (Keeps-written _ c.args.held.now c.args.at c.requires.over.cache c.in_ok-write_marked.ensures.written);
  identity = c.write_marked.ensures.identity;
}

pub returns-clause-held : goal.returns-clause-held
returns-clause-held g c = rw c.unmark.ensures (HoldsNoMore-with_change c.args.at unmarked c.args.held.now)
