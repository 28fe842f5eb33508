use Rattle.std.proofs.Common.{◌≡◌, ℕ, true, is_none, IsSome, Option, None, Some, refl, sym, ◌∙◌, subst, arith, rules}
use Rattle.journal_overlay.specs.Nodes.{kept_in, IsLast}
use Rattle.journal_overlay.specs.Slots.{last_at}
use Rattle.journal_overlay.specs.declared.table.Table.{Table}
use Rattle.journal_overlay.proofs.KeptLemmas.{none_in}
use Rattle.journal_overlay.proofs.place_log.drop_section.Goals as goal

none_of : (o : Option ℕ) → is_none o ≡ true → o ≡ None
none_of None e = refl
none_of (Some k) e = absurd (cc e)

pub returns-then-is_none-clause-kept : goal.returns-then-is_none-clause-kept
returns-then-is_none-clause-kept c =
    let log = c.args.log.now in let section = c.args.section in
    let told : last_at log.sections.homes log.sections.slots.items section ≡ None =
    sym c.last-last.ensures ∙ none_of c.last-last.result (search rules) in
    let none : IsLast (kept_in section) None log.nodes.items = subst (λ (o : Option ℕ). IsLast (kept_in section) o log.nodes.items) told (c.requires.latest section) in
    sym (none_in section log.nodes.items (λ j. none.none_behind j (omega arith)))

pub tell_none-requires-clause-whole : goal.tell_none-requires-clause-whole
tell_none-requires-clause-whole c = rw (← c.in_default.is) c.loop-next.invariant.whole

pub tell_none-requires-clause-told : goal.tell_none-requires-clause-told
tell_none-requires-clause-told c =
    let section = c.args.section in
    let some : IsSome c.last-last.result = search rules in
    let old : IsSome (last_at c.args.log.now.sections.homes c.args.log.now.sections.slots.items section) = rw c.last-last.ensures at some in
    subst (λ (t : Table). IsSome (last_at t.homes t.slots.items section)) (sym c.loop-next.invariant.stay.table) old

pub returns-clause-kept : goal.returns-clause-kept
returns-clause-kept c =
    let log = c.loop-next.log in let section = c.args.section in
    let none : IsLast (kept_in section) None log.nodes.items = subst (λ (o : Option ℕ). IsLast (kept_in section) o log.nodes.items) c.in_default.is c.loop-next.invariant.whole.last_is in
    rw c.tell_none.ensures.nodes (sym (none_in section log.nodes.items (λ j. none.none_behind j (omega arith))) ∙ c.loop-next.invariant.stay.places)
