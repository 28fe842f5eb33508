use Rattle.disk_model.specs.Disk.{OnlyAdds}
use Rattle.disk_model.proofs.DiskLemmas.{OnlyAdds-none}
use Rattle.buffer_cache.specs.Cached.{IsScratch}
use Rattle.buffer_cache.proofs.CachedLemmas.{IsRead-later, Replaces-scratch, apart-scratch, IsOfDisk-replaced, Keeps-replaced, Keeps-after}
use Rattle.buffer_cache.proofs.bringing.hold_in_scratch.Goals as goal

pub returns-clause-same : goal.returns-clause-same
returns-clause-same g c =
    let free = c.free_scratch.new.held in
    let step = c.free_scratch.ensures.same in
    let missed = c.free_scratch.ensures.held.each c.args.at c.requires.missed in
    let W = IsScratch c.args.held.now in
    let read = IsRead-later (OnlyAdds W) c.args.at c.args.sector c.args.held.now free (OnlyAdds-none W) c.free_scratch.ensures.moments step.keeps c.requires.missed missed c.requires.read in
    let replaces = Replaces-scratch c.args.at c.args.sector free c.in_ok-free_scratch.ensures.free missed in
    record {
      cache = IsOfDisk-replaced _ _ c.args.at c.args.sector free _ step.cache (rw step.identity c.requires.at) missed read replaces (apart-scratch c.args.at c.args.sector free missed);
      keeps = Keeps-after c.args.held.now free _ step.keeps (Keeps-replaced _ _ c.args.at c.args.sector free _ step.cache missed read replaces);
      identity = step.identity;
    }
