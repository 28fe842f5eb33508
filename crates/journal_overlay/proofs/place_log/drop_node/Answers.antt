use Rattle.std.proofs.Common.{◌≡◌, ℕ, ◌<◌, ◌≤◌, ◌==◌, true, false, not, List, length, filter, set, eqb, vec_capacity, Option, None, Some, suc, refl, sym, ◌∙◌, ap, arith, length-set}
use Rattle.std.specs.Option.{option_eq}
use Rattle.std.proofs.lemmas.Bool.{and_parts, eqb-true, eq-eqb}
use Rattle.journal_overlay.specs.Index.{IsIndex, IsWholeBut, OthersStay, section_at}
use Rattle.journal_overlay.specs.Kept.{is_in}
use Rattle.journal_overlay.specs.Nodes.{node_at, dropped, kept_of, kept_in, behind, last_of, IsBack, IsHere}
use Rattle.journal_overlay.specs.Slots.{last_at}
use Rattle.journal_overlay.specs.declared.table.Last.{Last}
use Rattle.journal_overlay.specs.declared.node.Node.{Node}
use Rattle.journal_overlay.specs.declared.place_log.PlaceLog.{PlaceLog}
use Rattle.journal_overlay.proofs.IndexLemmas.{with_last, IsIndex-drop, IsIndex-moved, IsIndex-same}
use Rattle.journal_overlay.proofs.KeptLemmas.{length-kept-drop, kept_places-drop}
use Rattle.journal_overlay.proofs.NodesLemmas.{AreLinked-drop, IsLast-there, IsLast-fellow, IsLast-other_section, IsBack-drop}
use Rattle.journal_overlay.proofs.place_log.drop_node.Goals as goal

true-false : true ≡ false → ⊥
true-false e = cc

-- The last kept node of its section is one of the nodes, and kept.
within : (log : PlaceLog) (at : ℕ) → IsWholeBut (section_at at log) (Some at) log → at < length log.nodes.items
within log at whole = omega (arith, IsLast-there (kept_in (section_at at log)) log.nodes.items (Some at) refl whole.last_is)

is_kept : (log : PlaceLog) (at : ℕ) → IsWholeBut (section_at at log) (Some at) log → (node_at log.nodes.items at).is_kept ≡ true
is_kept log at whole = (and_parts (node_at log.nodes.items at).is_kept ((node_at log.nodes.items at).added.place.section == section_at at log) whole.last_is.here).0

counted : (log : PlaceLog) (at : ℕ) → IsWholeBut (section_at at log) (Some at) log
    → suc (length (filter (λ n. n.is_kept) (set log.nodes.items at (dropped (node_at log.nodes.items at))))) ≡ log.kept
counted log at whole = length-kept-drop log.nodes.items at (is_kept log at whole) ∙ sym whole.is_log.counted

pub mark_dropped-node-requires : goal.mark_dropped-node-requires
mark_dropped-node-requires c = within c.args.log.now c.args.at c.requires

pub overflow_sub-log : goal.overflow_sub-log
overflow_sub-log c = omega (arith, counted c.args.log.now c.args.at c.requires)

-- What is told is this node, or it is not.
same_last : (o : Option ℕ) (k : ℕ) → option_eq eqb o (Some k) ≡ true → o ≡ Some k
same_last None k e = absurd (true-false (sym e))
same_last (Some j) k e = ap (λ (i : ℕ). Some i) (eqb-true j k e)

other_last : (o : Option ℕ) (k : ℕ) → option_eq eqb o (Some k) ≡ false → o ≡ Some k → ⊥
other_last o k e is = true-false (sym (eq-eqb k k refl) ∙ sym (ap (λ (x : Option ℕ). option_eq eqb x (Some k)) is) ∙ e)

abbrev without : PlaceLog → ℕ → List Node
without log at = set log.nodes.items at (dropped (node_at log.nodes.items at))

whole_after : (log new : PlaceLog) (at : ℕ) (fellow : Option ℕ) → IsWholeBut (section_at at log) (Some at) log
    → new.nodes.items ≡ without log at → vec_capacity new.nodes ≡ vec_capacity log.nodes → new.room ≡ log.room → suc new.kept ≡ log.kept
    → new.sections.homes ≡ log.sections.homes → new.sections.slots.items ≡ log.sections.slots.items
    → fellow ≡ (node_at log.nodes.items at).fellow
    → IsIndex log.room new.blocks.homes new.blocks.slots.items log.sections.homes log.sections.slots.items (without log at)
    → IsWholeBut (section_at at log) fellow new
whole_after log new at fellow whole items capacity room kept homes slots fellow_is index =
    let there = within log at whole in
    let same : length new.nodes.items ≡ length log.nodes.items = ap length items ∙ length-set log.nodes.items at (dropped (node_at log.nodes.items at)) in
    record {
      is_log = record {
        few = omega (arith, same, room, whole.is_log.few);
        reserved = omega (arith, capacity, room, whole.is_log.reserved);
        small = omega (arith, room, whole.is_log.small);
        counted =
            let left : length (filter {X = Node} (λ n. n.is_kept) new.nodes.items) ≡ length (filter {X = Node} (λ n. n.is_kept) (without log at)) =
            ap (λ (nodes : List Node). length (filter {X = Node} (λ n. n.is_kept) nodes)) items in
            omega (arith, left, counted log at whole, kept);
        index = rw (room, items, homes, slots) index;
      };
      others = λ i apart. rw (items, homes, slots)
          (IsLast-other_section log.nodes.items at there i (last_at log.sections.homes log.sections.slots.items i) (λ (e : section_at at log ≡ i). apart (sym e)) (whole.others i apart));
      last_is = rw (items, fellow_is) (IsLast-fellow log.nodes.items at there whole.is_log.index.linked (is_kept log at whole) whole.last_is);
    }

others_after : (log new : PlaceLog) (at : ℕ) → new.nodes.items ≡ without log at → new.room ≡ log.room → new.sections ≡ log.sections → OthersStay (section_at at log) log new
others_after log new at items room sections = record {
  places = rw items (kept_places-drop (λ a. not (is_in (section_at at log) a)) log.nodes.items at (ap not (eq-eqb (section_at at log) (section_at at log) refl)));
  room = room;
  nodes = ap length items ∙ length-set log.nodes.items at (dropped (node_at log.nodes.items at));
  table = sections;
}

pub newest_kept-newest-requires-clause-linked : goal.newest_kept-newest-requires-clause-linked
newest_kept-newest-requires-clause-linked c =
    let log = c.args.log.now in let at = c.args.at in
    rw (c.deref.ensures.value, c.mark_dropped-node.ensures.dropped) (AreLinked-drop log.nodes.items at (within log at c.requires) c.requires.is_log.index.linked c.requires.last_is)

pub newest_kept-newest-requires-clause-there : goal.newest_kept-newest-requires-clause-there
newest_kept-newest-requires-clause-there c =
    let log = c.args.log.now in let at = c.args.at in
    let there = within log at c.requires in
    let older : behind c.mark_dropped-node.result.older ≤ at =
    rw c.mark_dropped-node.ensures.node (c.requires.is_log.index.linked.older at there).before in
    let long : length c.deref.result.now ≡ length log.nodes.items =
    ap length c.deref.ensures.value ∙ ap length c.mark_dropped-node.ensures.dropped ∙ length-set log.nodes.items at (dropped (node_at log.nodes.items at)) in
    omega (arith, older, long, there)

pub last_at-told-requires : goal.last_at-told-requires
last_at-told-requires c =
    let log = c.args.log.now in let at = c.args.at in let nodes = log.nodes.items in
    let there = within log at c.requires in let n = node_at nodes at in
    let nodes_are : c.deref.result.now ≡ without log at = c.deref.ensures.value ∙ c.mark_dropped-node.ensures.dropped in
    let back : IsBack n.added.block n.older at (without log at) = IsBack-drop nodes at there n.added.block at n.older (c.requires.is_log.index.linked.older at there) in
    let led = (c.newest_kept-newest.ensures n.added.block at (rw (nodes_are, c.mark_dropped-node.ensures.node) back)).0 in
    let long : length c.deref-then-eq.result.now ≡ length nodes =
    ap length c.deref-then-eq.ensures.value ∙ ap length c.mark_dropped-node.ensures.dropped ∙ length-set nodes at (dropped n) in
    omega (arith, led.before, long, there)

pub returns-then-eq-clause-whole : goal.returns-then-eq-clause-whole
returns-then-eq-clause-whole c =
    let log = c.args.log.now in let at = c.args.at in let nodes = log.nodes.items in let whole = c.requires in
    let bh = log.blocks.homes in let bs = log.blocks.slots.items in
    let there = within log at whole in let n = node_at nodes at in
    let node_is : c.mark_dropped-node.result ≡ n = c.mark_dropped-node.ensures.node in
    let told : last_at bh bs n.added.block ≡ Some at =
    sym (c.last.ensures ∙ ap (λ (x : Node). last_at bh bs x.added.block) node_is) ∙ same_last c.last.result at (sym c.eq.ensures ∙ c.if-eq.true) in
    let nodes_are : c.deref.result.now ≡ without log at = c.deref.ensures.value ∙ c.mark_dropped-node.ensures.dropped in
    let back : IsBack n.added.block n.older at (without log at) = IsBack-drop nodes at there n.added.block at n.older (whole.is_log.index.linked.older at there) in
    let led : IsBack n.added.block c.newest_kept-newest.result at (without log at) × IsHere (kept_of n.added.block) c.newest_kept-newest.result (without log at) =
    rw nodes_are at (c.newest_kept-newest.ensures n.added.block at (rw (nodes_are, node_is) back)) in
    let last_is : c.last_at-told.result ≡ last_of (without log at) c.newest_kept-newest.result =
    c.last_at-told.ensures ∙ ap (λ (l : List Node). last_of l c.newest_kept-newest.result) (c.deref-then-eq.ensures.value ∙ c.mark_dropped-node.ensures.dropped) in
    let slots : c.set_last.new.self.slots.items ≡ with_last bh bs n.added.block (last_of (without log at) c.newest_kept-newest.result) =
    c.set_last.ensures.slots ∙ ap (λ (l : Option Last). with_last bh bs c.mark_dropped-node.result.added.block l) last_is
    ∙ ap (λ (x : Node). with_last bh bs x.added.block (last_of (without log at) c.newest_kept-newest.result)) node_is in
    whole_after log _ at _ whole c.mark_dropped-node.ensures.dropped c.mark_dropped-node.ensures.capacity refl (omega (arith, counted log at whole)) refl refl
    (ap (λ (x : Node). x.fellow) node_is)
    (IsIndex-same log.room bh _ _ _ log.sections.homes _ log.sections.slots.items _ (without log at) _ c.set_last.ensures.homes slots refl refl refl
    (IsIndex-moved log.room bh bs log.sections.homes log.sections.slots.items nodes at there whole.is_log.index whole.last_is c.newest_kept-newest.result told led.0 led.1))

pub returns-then-eq-clause-others : goal.returns-then-eq-clause-others
returns-then-eq-clause-others c = others_after c.args.log.now _ c.args.at c.mark_dropped-node.ensures.dropped refl refl

pub returns-then-eq-clause-kept : goal.returns-then-eq-clause-kept
returns-then-eq-clause-kept c = omega (arith, counted c.args.log.now c.args.at c.requires)

pub returns-else-eq-clause-whole : goal.returns-else-eq-clause-whole
returns-else-eq-clause-whole c =
    let log = c.args.log.now in let at = c.args.at in let nodes = log.nodes.items in let whole = c.requires in
    let there = within log at whole in let n = node_at nodes at in
    let node_is : c.mark_dropped-node.result ≡ n = c.mark_dropped-node.ensures.node in
    let other : last_at log.blocks.homes log.blocks.slots.items n.added.block ≡ Some at → ⊥ =
    λ is. other_last c.last.result at (sym c.eq.ensures ∙ c.if-eq.false)
    (c.last.ensures ∙ ap (λ (x : Node). last_at log.blocks.homes log.blocks.slots.items x.added.block) node_is ∙ is) in
    whole_after log _ at _ whole c.mark_dropped-node.ensures.dropped c.mark_dropped-node.ensures.capacity refl (omega (arith, counted log at whole)) refl refl
    (ap (λ (x : Node). x.fellow) node_is) (IsIndex-drop log.room log.blocks.homes log.blocks.slots.items log.sections.homes log.sections.slots.items nodes at there whole.is_log.index whole.last_is other)

pub returns-else-eq-clause-others : goal.returns-else-eq-clause-others
returns-else-eq-clause-others c = others_after c.args.log.now _ c.args.at c.mark_dropped-node.ensures.dropped refl refl

pub returns-else-eq-clause-kept : goal.returns-else-eq-clause-kept
returns-else-eq-clause-kept c = omega (arith, counted c.args.log.now c.args.at c.requires)
