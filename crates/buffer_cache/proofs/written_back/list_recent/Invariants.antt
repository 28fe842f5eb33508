use Rattle.std.proofs.Common.{◌≡◌, ◌+◌, ◌<◌, ◌++◌, length, vec_capacity, vec_len}
use Rattle.buffer_cache.specs.HeldSectors.{marked_keys}
use Rattle.buffer_cache.proofs.written_back.list_recent.Given as goal

abbrev pub invariant-loop-at : goal.invariant-loop-at
invariant-loop-at l = record {
  listed : l.ascending.items ++ marked_keys l.at-iterator ≡ marked_keys l.recent.entries;
  room : vec_len l.ascending + length l.at-iterator < vec_capacity l.ascending;
  capacity : vec_capacity l.ascending ≡ vec_capacity l.fn.ascending;
}
