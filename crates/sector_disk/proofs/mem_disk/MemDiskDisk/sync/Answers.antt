use Rattle.sector_disk.proofs.RecordLemmas.{sync_is_recorded, moments_of_sync}
use Rattle.sector_disk.proofs.LatestLemmas.{IsLatest-sync}
use Rattle.sector_disk.proofs.WholeLemmas.{AreWholeEvents-sync}
use Rattle.sector_disk.proofs.mem_disk.MemDiskDisk.sync.Goals as goal

pub invariant_of-self-2-clause-is_latest : goal.invariant_of-self-2-clause-is_latest
invariant_of-self-2-clause-is_latest c =
    let disk = c.args.self.now in
    IsLatest-sync disk.sectors disk.latest.items disk.base.items disk.events.items c.push_reserved.new.self.items disk.is_latest c.push_reserved.ensures.items

pub returns-clause-synced : goal.returns-clause-synced
returns-clause-synced c = rw c.push_reserved.ensures.items (sync_is_recorded c.args.self.now.base.items c.args.self.now.events.items)

pub returns-clause-moments : goal.returns-clause-moments
returns-clause-moments c = rw c.push_reserved.ensures.items (moments_of_sync c.args.self.now.base.items c.args.self.now.events.items)

pub invariant_of-self-2-clause-whole_events : goal.invariant_of-self-2-clause-whole_events
invariant_of-self-2-clause-whole_events c = AreWholeEvents-sync c.args.self.now.events.items c.push_reserved.new.self.items c.push_reserved.ensures.items c.args.self.now.whole_events
