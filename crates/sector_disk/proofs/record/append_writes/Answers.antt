use Rattle.std.proofs.Common.{rules, arith}
use Rattle.sector_disk.proofs.RecordLemmas.{one_write_more, length_so_far}
use Rattle.sector_disk.proofs.record.append_writes.Goals as goal

pub push_reserved-requires : goal.push_reserved-requires
push_reserved-requires c = omega (arith, length_so_far c.args.events.now.items c.loop-k.events.items c.args.at c.args.bytes.now c.loop-k.k c.loop-k.invariant.events)

pub loop-k-preserved : goal.loop-k-preserved
loop-k-preserved c = record {
  events = one_write_more c.args.events.now.items c.loop-k.events.items c.push_reserved.new.self.items c.args.at c.args.bytes.now c.loop-k.k c.copy_from_slice.new.self c.loop-k.invariant.events (search rules) c.copy_from_slice.ensures.after;
  capacity = search rules;
}
