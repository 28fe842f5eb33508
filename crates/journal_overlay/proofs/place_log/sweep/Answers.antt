use Rattle.std.proofs.Common.{◌≡◌, ◌<◌, ◌≤◌, true, List, length, take, ◌∙◌, ap, subst, arith}
use Rattle.journal_overlay.specs.Nodes.{kept_places, node_at}
use Rattle.journal_overlay.specs.declared.node.Node.{Node}
use Rattle.journal_overlay.proofs.KeptLemmas.{kept_below, kept_le, length-kept_places}
use Rattle.journal_overlay.proofs.place_log.sweep.Goals as goal

pub push_reserved-requires : goal.push_reserved-requires
push_reserved-requires c =
    let nodes = c.args.log.now.nodes.items in let k = c.loop-node.node-index in
    let kept : (node_at nodes k).is_kept ≡ true = subst (λ (l : List Node). (node_at l k).is_kept ≡ true) c.deref-node-items.ensures.value c.if-node.true in
    let below : length (kept_places (take k nodes)) < length (kept_places nodes) = kept_below nodes k kept in
    let long : length c.loop-node.moved.items ≡ length (kept_places (take k nodes)) = ap length c.loop-node.invariant.kept in
    omega (arith, below, long, c.loop-node.moved.ok.0, length-kept_places nodes, c.requires.whole.is_log.counted, c.requires.room, c.loop-node.invariant.room)

pub append-requires-clause-room : goal.append-requires-clause-room
append-requires-clause-room c =
    let nodes = c.args.log.now.nodes.items in let k = c.loop-node.node-index in
    let long : length c.deref-added-items.result.now ≡ length (kept_places (take k nodes)) = ap length (c.deref-added-items.ensures.value ∙ c.loop-node.invariant.kept) in
    let most : length (kept_places (take k nodes)) ≤ length nodes = kept_le nodes k in
    omega (arith, long, most, c.loop-added-test.true, c.loop-added.invariant.nodes, c.loop-added.invariant.room, c.requires.whole.is_log.few)
