use Rattle.std.proofs.Common.{◌≡◌, ℕ, ◌≤◌, ◌++◌, ◌∷◌, [], length, filter, Some, suc, refl, sym, ◌∙◌, ap, subst, arith}
use Rattle.std.proofs.lemmas.List.Sums.{length-filter, count_by-le-length}
use Rattle.journal_overlay.specs.declared.node.Node.{Node}
use Rattle.journal_overlay.proofs.SlotsLemmas.{slot_of-room}
use Rattle.journal_overlay.proofs.IndexLemmas.{with_last, new_node, IsIndex-more, TellsLatest-more, IsIndex-same, TellsLatest-same, kept-more}
use Rattle.journal_overlay.proofs.NodesLemmas.{length-more}
use Rattle.journal_overlay.proofs.place_log.append.Goals as goal

pub set_last-requires-clause-room : goal.set_last-requires-clause-room
set_last-requires-clause-room c =
    let log = c.args.log.now in let index = c.requires.whole.is_log.index in
    slot_of-room log.room (length log.nodes.items) log.blocks.homes log.blocks.slots.items c.args.added.block index.block_table c.requires.whole.is_log.few

pub set_last-requires-2-clause-room : goal.set_last-requires-2-clause-room
set_last-requires-2-clause-room c =
    let log = c.args.log.now in let index = c.requires.whole.is_log.index in
    slot_of-room log.room (length log.nodes.items) log.sections.homes log.sections.slots.items c.args.added.place.section index.section_table c.requires.whole.is_log.few

pub overflow_add-log : goal.overflow_add-log
overflow_add-log c =
    let nodes = c.args.log.now.nodes.items in
    let most : c.args.log.now.kept ≤ length nodes =
    omega (arith, c.requires.whole.is_log.counted, length-filter {X = Node} (λ n. n.is_kept) nodes, count_by-le-length {X = Node} (λ n. n.is_kept) nodes) in
    omega (arith, most, c.requires.whole.is_log.small, c.requires.room)

pub returns-clause-whole : goal.returns-clause-whole
returns-clause-whole c =
    let log = c.args.log.now in let a = c.args.added in let nodes = log.nodes.items in
    let bh = log.blocks.homes in let bs = log.blocks.slots.items in let sh = log.sections.homes in let ss = log.sections.slots.items in
    let index = c.requires.whole.is_log.index in let latest = c.requires.whole.latest in
    let items : c.push_reserved.new.self.items ≡ nodes ++ new_node bh bs sh ss a ∷ [] = rw (c.last.ensures, c.last-2.ensures) at c.push_reserved.ensures.items in
    let at_is : c.len-at.result ≡ length nodes = omega (arith, c.len-at.ensures, log.nodes.ok.0) in
    let block_slots : c.set_last.new.self.slots.items ≡ with_last bh bs a.block (Some (record { at = length nodes; place = a.place })) =
    c.set_last.ensures.slots ∙ ap (λ (k : ℕ). with_last bh bs a.block (Some (record { at = k; place = a.place }))) at_is in
    let section_slots : c.set_last-2.new.self.slots.items ≡ with_last sh ss a.place.section (Some (record { at = length nodes; place = a.place })) =
    c.set_last-2.ensures.slots ∙ ap (λ (k : ℕ). with_last sh ss a.place.section (Some (record { at = k; place = a.place }))) at_is in
    record {
      is_log = record {
        few = omega (arith, ap length items, length-more nodes (new_node bh bs sh ss a), c.requires.room);
        reserved = subst (λ (k : ℕ). log.room ≤ k) (sym c.push_reserved.ensures.capacity) c.requires.whole.is_log.reserved;
        small = c.requires.whole.is_log.small;
        counted =
            let kept : length (filter {X = Node} (λ n. n.is_kept) c.push_reserved.new.self.items) ≡ suc (length (filter {X = Node} (λ n. n.is_kept) nodes)) =
            rw items (kept-more nodes (new_node bh bs sh ss a) refl) in
            omega (arith, kept, c.requires.whole.is_log.counted);
        index = IsIndex-same log.room bh _ _ _ sh _ _ _ _ _ c.set_last.ensures.homes block_slots c.set_last-2.ensures.homes section_slots items
            (IsIndex-more log.room bh bs sh ss nodes a c.requires.room index latest);
      };
      latest = TellsLatest-same sh _ _ _ _ _ c.set_last-2.ensures.homes section_slots items (TellsLatest-more log.room bh bs sh ss nodes a c.requires.room index latest);
    }
