use Rattle.buffer_cache.proofs.CachedLemmas.{changes_piece, IsOfDisk-piece}
use Rattle.buffer_cache.specs.HeldSectors.{with_held_piece}
use Rattle.buffer_cache.proofs.HeldLemmas.{HoldsAlso-before, HoldsNoMore-with_change}
use Rattle.buffer_cache.proofs.cache.Cache.write_at.Goals as goal

pub invariant_of-self : goal.invariant_of-self
invariant_of-self g c = record { room = rw c.bring.ensures.same.keeps.slots c.args.self.now.room }

pub invariant_of-self-2 : goal.invariant_of-self-2
invariant_of-self-2 g c = record { room = rw (c.put_piece.ensures, c.bring.ensures.same.keeps.slots) c.args.self.now.room }

pub returns-clause-written : goal.returns-clause-written
returns-clause-written g c =
    rw c.put_piece.ensures (changes_piece c.args.at c.args.from c.args.bytes.now c.args.self.now.sectors c.bring.new.held c.bring.ensures.same.keeps c.in_ok-bring.ensures.found)

pub returns-clause-cache : goal.returns-clause-cache
returns-clause-cache g c =
    rw c.put_piece.ensures (IsOfDisk-piece _ _ c.args.at c.args.from c.args.bytes.now c.bring.new.held c.requires.piece.fits c.in_ok-bring.ensures.found c.bring.ensures.same.cache)

pub returns-clause-held : goal.returns-clause-held
returns-clause-held g c =
    rw c.put_piece.ensures (HoldsAlso-before c.args.at c.args.self.now.sectors c.bring.new.held _ c.bring.ensures.held (HoldsNoMore-with_change c.args.at (with_held_piece c.args.from c.args.bytes.now) c.bring.new.held))
