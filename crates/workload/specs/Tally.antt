-- How a tally grows, request by request and reply by reply.
use Rattle.std.specs.Prelude.{ℕ, suc, ◌+◌, ◌%◌, ◌^◌, sum}
use Rattle.device_model.specs.Reply.{Reply, Bytes, TagFault}
use Rattle.device_model.specs.Script.{Ask, Fill, Flush, Read, Write}
use Rattle.workload_model.specs.Exercise.{Tally}

abbrev pub no_tally : Tally
no_tally = record { fills = 0; reads = 0; flushes = 0; faults = 0; sum_read = 0 }

-- How many requests are counted.
abbrev pub lines_in : Tally → ℕ
lines_in t = t.fills + t.reads + t.flushes

-- A request of the workload is counted. A write of other bytes than those of a fill is none of them.
abbrev pub with_ask : Ask → Tally → Tally
with_ask (Fill first count byte fua) t = record t { fills = suc t.fills }
with_ask (Write first stretches fua) t = t
with_ask (Read first count) t = record t { reads = suc t.reads }
with_ask Flush t = record t { flushes = suc t.flushes }

-- A reply is added.
abbrev pub with_reply : Reply → Tally → Tally
with_reply (Bytes bytes) t = record t { sum_read = (t.sum_read + sum bytes) % 2 ^ 64 }
with_reply (TagFault block stored computed) t = record t { faults = suc t.faults }
