use Rattle.std.proofs.Common.{◌≡◌, length, take, vec_capacity}
use Rattle.journal_overlay.specs.Index.{IsWhole}
use Rattle.journal_overlay.specs.Nodes.{kept_places}
use Rattle.journal_overlay.proofs.place_log.sweep.Given as goal

abbrev pub invariant-loop-node : goal.invariant-loop-node
invariant-loop-node l = record {
  kept : l.moved.items ≡ kept_places (take l.node-index l.fn.log.nodes.items);
  room : vec_capacity l.moved ≡ vec_capacity l.fn.moved;
}

abbrev pub invariant-loop-added : goal.invariant-loop-added
invariant-loop-added l = record {
  whole : IsWhole l.log;
  kept : kept_places l.log.nodes.items ≡ take l.added-index l.added-items;
  room : l.log.room ≡ l.fn.log.room;
  count : l.log.kept ≡ l.added-index;
  nodes : length l.log.nodes.items ≡ l.added-index;
}
