use Rattle.std.proofs.Common.{ap, refl, rules, false}
use Rattle.std.specs.Option.{is_some}
use Rattle.buffer_cache.specs.declared.held.Held.{Held}
use Rattle.buffer_cache.specs.Cached.{IsRead}
use Rattle.buffer_cache.specs.HeldSectors.{with_recent}
use Rattle.buffer_cache.proofs.CachedLemmas.{Replaces-recent, apart-recent, IsOfDisk-replaced, Keeps-replaced}
use Rattle.buffer_cache.proofs.CachedLemmas.{HoldsAlso-replaced}
use Rattle.buffer_cache.proofs.bringing.hold.Goals as goal

pub returns-in-Ok-clause-found : goal.returns-in-Ok-clause-found
returns-in-Ok-clause-found g c =
    let sector : Held = record { bytes = c.args.bytes; marked = false } in
    let replaces = Replaces-recent c.args.at sector c.args.held.now c.requires.room c.requires.missed c.requires.over.cache.apart in
    rw c.in-Ok.ensures.put (ap is_some replaces.in_)

pub returns-in-Ok-clause-same : goal.returns-in-Ok-clause-same
returns-in-Ok-clause-same g c =
    let sector : Held = record { bytes = c.args.bytes; marked = false } in
    let held = c.args.held.now in
    let is = c.requires.over.cache in
    let read : IsRead c.args.at sector (g.D.Disk.moments c.args.disk.now) = record { whole = search rules; marked = refl; read = c.requires.read } in
    let replaces = Replaces-recent c.args.at sector held c.requires.room c.requires.missed is.apart in
    record {
      cache = rw c.in-Ok.ensures.put (IsOfDisk-replaced _ _ c.args.at sector held (with_recent c.args.at sector held) is c.requires.at c.requires.missed read replaces (apart-recent c.args.at sector held c.requires.missed is.apart));
      keeps = rw c.in-Ok.ensures.put (Keeps-replaced (g.D.Disk.identity c.args.disk.now) (g.D.Disk.moments c.args.disk.now) c.args.at sector held (with_recent c.args.at sector held) is c.requires.missed read replaces);
      identity = refl;
    }

pub returns-in-Ok-clause-held : goal.returns-in-Ok-clause-held
returns-in-Ok-clause-held g c =
    let sector : Held = record { bytes = c.args.bytes; marked = false } in
    let replaces = Replaces-recent c.args.at sector c.args.held.now c.requires.room c.requires.missed c.requires.over.cache.apart in
    rw c.in-Ok.ensures.put (HoldsAlso-replaced c.args.at sector c.args.held.now (with_recent c.args.at sector c.args.held.now) replaces)
