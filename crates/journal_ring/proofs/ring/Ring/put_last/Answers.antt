use Rattle.std.proofs.Common.{◌≡◌, ◌+◌, ◌-◌, slice_index, arith, refl, sym, ap, ◌∙◌}
use Rattle.image_model.specs.Section.{Entry}
use Rattle.image_model.specs.declared.entry_place.EntryPlace.{EntryPlace}
use Rattle.journal_ring.specs.Ring.{section_of, with_entry}
use Rattle.journal_ring.specs.Places.{next_place}
use Rattle.journal_ring.proofs.RingLemmas.{IsRing-put, view_of-put, PutsLast, puts_from, finds_last, counts_from, next_place-last, entries_few}
use Rattle.journal_ring.proofs.ring.Ring.put_last.Goals as goal

pub put-requires-clause-n : goal.put-requires-clause-n
put-requires-clause-n c =
    let g = c.self.inside.pool.geometry in
    let finds = finds_last g c.self.inside.pool.bytes c.self.inside.counts.items c.self.inside.marks c.args.self.now c.sections-sections.result c.wrap-section.result
    c.index-entry.result.now c.self.invariant c.self.view_is c.requires.open c.sections-sections.ensures c.wrap-section.ensures.section c.wrap-section.ensures.inside c.index-entry.ensures in
    omega (arith, finds.room, finds.count_is)

pub overflow_add-entry : goal.overflow_add-entry
overflow_add-entry c =
    let g = c.self.inside.pool.geometry in
    let finds = finds_last g c.self.inside.pool.bytes c.self.inside.counts.items c.self.inside.marks c.args.self.now c.sections-sections.result c.wrap-section.result
    c.index-entry.result.now c.self.invariant c.self.view_is c.requires.open c.sections-sections.ensures c.wrap-section.ensures.section c.wrap-section.ensures.inside c.index-entry.ensures in
    let few = entries_few g c.self.invariant.geometry in
    omega (arith, finds.room, finds.count_is)

puts : (c : goal.After-self-1) → PutsLast c.self.inside.pool.geometry c.self.inside.pool.bytes c.put.new.self.bytes c.self.inside.counts.items
    c.self.inside.marks (c.self.inside.marks.opened - 1) (record { sector = c.args.sector; bytes = c.args.bytes.now; tag = c.args.tag.now })
puts c =
    let g = c.self.inside.pool.geometry in
    let entry : Entry = record { sector = c.args.sector; bytes = c.args.bytes.now; tag = c.args.tag.now } in
    let finds = finds_last g c.self.inside.pool.bytes c.self.inside.counts.items c.self.inside.marks c.args.self.now c.sections-sections.result c.wrap-section.result
    c.index-entry.result.now c.self.invariant c.self.view_is c.requires.open c.sections-sections.ensures c.wrap-section.ensures.section c.wrap-section.ensures.inside c.index-entry.ensures in
    puts_from g c.self.inside.pool.bytes c.put.new.self.bytes c.self.inside.counts.items c.self.inside.marks (c.self.inside.marks.opened - 1)
    entry entry g.shape c.wrap-section.result c.index-entry.result.now c.self.inside.pool.bytes
    refl finds.section_is finds.count_is refl refl c.put.ensures.put c.put.ensures.others

pub invariant_of-self : goal.invariant_of-self
invariant_of-self c =
    let g = c.self.inside.pool.geometry in
    let m = c.self.inside.marks in
    let counts = c.self.inside.counts.items in
    let entry : Entry = record { sector = c.args.sector; bytes = c.args.bytes.now; tag = c.args.tag.now } in
    let finds = finds_last g c.self.inside.pool.bytes counts m c.args.self.now c.sections-sections.result c.wrap-section.result
    c.index-entry.result.now c.self.invariant c.self.view_is c.requires.open c.sections-sections.ensures c.wrap-section.ensures.section c.wrap-section.ensures.inside c.index-entry.ensures in
    let is = puts c in
    rw c.put.ensures.geometry (counts_from g c.put.new.self.bytes counts m c.wrap-section.result c.index-entry.result.now finds
    (IsRing-put g c.self.inside.pool.bytes c.put.new.self.bytes counts m (m.opened - 1) entry c.self.invariant finds.some finds.room is.changes is.puts))

pub returns-clause-place : goal.returns-clause-place
returns-clause-place c =
    let g = c.self.inside.pool.geometry in
    let m = c.self.inside.marks in
    let counts = c.self.inside.counts.items in
    let finds = finds_last g c.self.inside.pool.bytes counts m c.args.self.now c.sections-sections.result c.wrap-section.result
    c.index-entry.result.now c.self.invariant c.self.view_is c.requires.open c.sections-sections.ensures c.wrap-section.ensures.section c.wrap-section.ensures.inside c.index-entry.ensures in
    let told : EntryPlace = record {
      section = section_of g m (m.committed + (m.opened - 1));
      entry = slice_index counts (section_of g m (m.committed + (m.opened - 1)));
    } in
    let found : EntryPlace = record { section = c.wrap-section.result; entry = c.index-entry.result.now } in
    let same : found ≡ told = λ i. record { section = finds.section_is i; entry = finds.count_is i } in
    same
    ∙ sym (next_place-last g c.self.inside.pool.bytes counts m c.self.invariant (let some = finds.some in omega arith))
    ∙ ap next_place c.self.view_is

pub returns-clause-put : goal.returns-clause-put
returns-clause-put c =
    let g = c.self.inside.pool.geometry in
    let m = c.self.inside.marks in
    let counts = c.self.inside.counts.items in
    let entry : Entry = record { sector = c.args.sector; bytes = c.args.bytes.now; tag = c.args.tag.now } in
    let finds = finds_last g c.self.inside.pool.bytes counts m c.args.self.now c.sections-sections.result c.wrap-section.result
    c.index-entry.result.now c.self.invariant c.self.view_is c.requires.open c.sections-sections.ensures c.wrap-section.ensures.section c.wrap-section.ensures.inside c.index-entry.ensures in
    let is = puts c in
    rw c.put.ensures.geometry
    (view_of-put g c.self.inside.pool.bytes c.put.new.self.bytes counts m (m.opened - 1) entry c.self.invariant finds.some finds.room is.changes is.puts
    ∙ ap (with_entry entry) c.self.view_is)
