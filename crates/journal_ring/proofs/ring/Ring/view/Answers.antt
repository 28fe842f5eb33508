use Rattle.std.proofs.Common.{ℕ, List, arith, sym, ap, ◌∙◌, get_or, None, length}
use Rattle.std.specs.Option.{option_map}
use Rattle.std.proofs.lemmas.Option.{none-some, same_Some}
use Rattle.image_model.specs.Geometry.{section_entries, Shape}
use Rattle.image_model.specs.Entries.{entries_of}
use Rattle.journal_section.specs.View.{view_of}
use Rattle.image_model.specs.Section.{section_bytes}
use Rattle.journal_ring.proofs.PlacesLemmas.{looks_from}
use Rattle.journal_ring.proofs.ring.Ring.view.Goals as goal

pub entry-requires-clause-meta : goal.entry-requires-clause-meta
entry-requires-clause-meta c =
    let looks = looks_from c.self.inside.pool.geometry c.self.inside.pool.bytes c.self.inside.counts.items c.self.inside.marks c.args.self.now c.args.place.section c.args.place.entry
    c.self.invariant c.self.view_is c.requires.section c.requires.entry in
    ap length c.metadata-metadata.ensures ∙ looks.meta_size

pub entry-requires-clause-n : goal.entry-requires-clause-n
entry-requires-clause-n c =
    let looks = looks_from c.self.inside.pool.geometry c.self.inside.pool.bytes c.self.inside.counts.items c.self.inside.marks c.args.self.now c.args.place.section c.args.place.entry
    c.self.invariant c.self.view_is c.requires.section c.requires.entry in
    let low = looks.low in
    let count = c.shape-shape.ensures.is_shape.entries ∙ ap section_entries c.shape-shape.ensures.shape in
    omega (arith, low, count)

pub unreachable-requires : goal.unreachable-requires
unreachable-requires c =
    let looks = looks_from c.self.inside.pool.geometry c.self.inside.pool.bytes c.self.inside.counts.items c.self.inside.marks c.args.self.now c.args.place.section c.args.place.entry
    c.self.invariant c.self.view_is c.requires.section c.requires.entry in
    let bytes : List ℕ = section_bytes c.self.inside.pool.geometry.shape c.self.inside.pool.bytes c.args.place.section in
    none-some (view_of looks.some.0)
    (sym c.in-None.is ∙ c.entry.ensures bytes (sym c.metadata-metadata.ensures)
    ∙ ap (λ (s : Shape). option_map view_of (get_or (entries_of s bytes) c.args.place.entry None)) c.shape-shape.ensures.shape
    ∙ ap (option_map view_of) (looks.there looks.some.0 looks.some.1))

pub returns : goal.returns
returns c entry there =
    let looks = looks_from c.self.inside.pool.geometry c.self.inside.pool.bytes c.self.inside.counts.items c.self.inside.marks c.args.self.now c.args.place.section c.args.place.entry
    c.self.invariant c.self.view_is c.requires.section c.requires.entry in
    let bytes : List ℕ = section_bytes c.self.inside.pool.geometry.shape c.self.inside.pool.bytes c.args.place.section in
    same_Some c.in-Some.view (view_of entry)
    (sym c.in-Some.is ∙ c.entry.ensures bytes (sym c.metadata-metadata.ensures)
    ∙ ap (λ (s : Shape). option_map view_of (get_or (entries_of s bytes) c.args.place.entry None)) c.shape-shape.ensures.shape
    ∙ ap (option_map view_of) (looks.finds entry there))
