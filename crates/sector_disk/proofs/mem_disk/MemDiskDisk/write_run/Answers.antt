use Rattle.std.proofs.Common.{◌≡◌, ◌/◌, length, arith, sym, ◌∙◌, ap}
use Rattle.std.specs.List.{length_refill}
use Rattle.sector_disk.proofs.RecordLemmas.{write_is_recorded, moments_of_write}
use Rattle.sector_disk.proofs.LatestLemmas.{IsLatest-writes, IsLatest-refilled}
use Rattle.sector_disk.proofs.WholeLemmas.{AreWholeEvents-writes}
use Rattle.sector_disk.proofs.mem_disk.MemDiskDisk.write_run.Goals as goal

pub invariant_of-self-then-size-bytes-clause-is_latest : goal.invariant_of-self-then-size-bytes-clause-is_latest
invariant_of-self-then-size-bytes-clause-is_latest c =
    let disk = c.args.self.now in
    IsLatest-refilled disk.sectors disk.latest.items c.write_latest.new.latest disk.base.items c.append_writes.new.events.items _ (omega (arith, c.write_latest.auto.latest, c.deref_mut.ensures.len))
    (IsLatest-writes disk.sectors disk.latest.items c.write_latest.new.latest disk.base.items disk.events.items c.append_writes.new.events.items c.args.at c.min-count.result c.args.bytes.now disk.is_latest c.append_writes.ensures.events (omega arith)
    (rw c.deref_mut.ensures.value at c.write_latest.ensures))

pub returns-then-size-bytes-clause-moments : goal.returns-then-size-bytes-clause-moments
returns-then-size-bytes-clause-moments c =
    moments_of_write c.args.self.now.base.items c.args.self.now.events.items c.append_writes.new.events.items c.args.at c.args.bytes.now c.min-count.result (omega arith) c.append_writes.ensures.events

pub invariant_of-self-else-size-bytes-clause-is_latest : goal.invariant_of-self-else-size-bytes-clause-is_latest
invariant_of-self-else-size-bytes-clause-is_latest c =
    let disk = c.args.self.now in
    IsLatest-refilled disk.sectors disk.latest.items c.write_latest.new.latest disk.base.items c.append_writes.new.events.items _ (omega (arith, c.write_latest.auto.latest, c.deref_mut.ensures.len))
    (IsLatest-writes disk.sectors disk.latest.items c.write_latest.new.latest disk.base.items disk.events.items c.append_writes.new.events.items c.args.at c.min-count.result c.args.bytes.now disk.is_latest c.append_writes.ensures.events (omega arith)
    (rw c.deref_mut.ensures.value at c.write_latest.ensures))

pub returns-clause-written : goal.returns-clause-written
returns-clause-written c =
    let all : c.min-count.result ≡ length c.args.bytes.now / 512 = omega arith in
    rw (c.append_writes.ensures.events, all) (write_is_recorded c.args.self.now.base.items c.args.self.now.events.items c.args.at c.args.bytes.now)

pub returns-clause-moments : goal.returns-clause-moments
returns-clause-moments c =
    moments_of_write c.args.self.now.base.items c.args.self.now.events.items c.append_writes.new.events.items c.args.at c.args.bytes.now c.min-count.result (omega arith) c.append_writes.ensures.events

pub invariant_of-self-then-size-bytes-clause-latest_size : goal.invariant_of-self-then-size-bytes-clause-latest_size
invariant_of-self-then-size-bytes-clause-latest_size c =
    let disk = c.args.self.now in
    sym (length_refill _ disk.latest.items c.write_latest.new.latest (sym c.deref_mut.ensures.len ∙ ap length c.deref_mut.ensures.value))
    ∙ sym c.deref_mut.ensures.len ∙ ap length c.deref_mut.ensures.value ∙ disk.latest_size

pub invariant_of-self-else-size-bytes-clause-latest_size : goal.invariant_of-self-else-size-bytes-clause-latest_size
invariant_of-self-else-size-bytes-clause-latest_size c =
    let disk = c.args.self.now in
    sym (length_refill _ disk.latest.items c.write_latest.new.latest (sym c.deref_mut.ensures.len ∙ ap length c.deref_mut.ensures.value))
    ∙ sym c.deref_mut.ensures.len ∙ ap length c.deref_mut.ensures.value ∙ disk.latest_size

pub invariant_of-self-then-size-bytes-clause-whole_events : goal.invariant_of-self-then-size-bytes-clause-whole_events
invariant_of-self-then-size-bytes-clause-whole_events c =
    AreWholeEvents-writes c.args.self.now.events.items c.append_writes.new.events.items c.args.at c.args.bytes.now c.min-count.result c.append_writes.ensures.events (omega arith) c.args.self.now.whole_events

pub invariant_of-self-else-size-bytes-clause-whole_events : goal.invariant_of-self-else-size-bytes-clause-whole_events
invariant_of-self-else-size-bytes-clause-whole_events c =
    AreWholeEvents-writes c.args.self.now.events.items c.append_writes.new.events.items c.args.at c.args.bytes.now c.min-count.result c.append_writes.ensures.events (omega arith) c.args.self.now.whole_events
