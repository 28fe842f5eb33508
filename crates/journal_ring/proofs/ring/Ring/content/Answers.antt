use Rattle.std.proofs.Common.{◌≡◌, ◌*◌, ℕ, List, arith, sym, ap, subst, ◌∙◌, get_or, None, Some, Option, length}
use Rattle.std.specs.Option.{IfSome}
use Rattle.commit_id.specs.Shape.{as_shape}
use Rattle.image_model.specs.Geometry.{section_entries, Shape}
use Rattle.image_model.specs.Section.{Entry, section_bytes}
use Rattle.image_model.specs.Entries.{entries_of}
use Rattle.journal_section.specs.Pieces.{HasPieces}
use Rattle.journal_ring.proofs.PlacesLemmas.{looks_from, parts_long}
use Rattle.journal_ring.proofs.ring.Ring.content.Goals as goal

pub data-parts-requires-clause-n : goal.data-parts-requires-clause-n
data-parts-requires-clause-n c =
    let looks = looks_from c.self.inside.pool.geometry c.self.inside.pool.bytes c.self.inside.counts.items c.self.inside.marks c.args.self.now c.args.place.section c.args.place.entry
    c.self.invariant c.self.view_is c.requires.section c.requires.entry in
    looks.low

pub block_bytes-requires-clause-meta : goal.block_bytes-requires-clause-meta
block_bytes-requires-clause-meta c =
    let looks = looks_from c.self.inside.pool.geometry c.self.inside.pool.bytes c.self.inside.counts.items c.self.inside.marks c.args.self.now c.args.place.section c.args.place.entry
    c.self.invariant c.self.view_is c.requires.section c.requires.entry in
    ap length c.metadata-metadata.ensures ∙ looks.meta_size

pub block_bytes-requires-clause-parts : goal.block_bytes-requires-clause-parts
block_bytes-requires-clause-parts c =
    let looks = looks_from c.self.inside.pool.geometry c.self.inside.pool.bytes c.self.inside.counts.items c.self.inside.marks c.args.self.now c.args.place.section c.args.place.entry
    c.self.invariant c.self.view_is c.requires.section c.requires.entry in
    let g = c.self.inside.pool.geometry in
    ap length c.data-parts.ensures ∙ parts_long g (section_bytes g.shape c.self.inside.pool.bytes c.args.place.section) c.args.place.entry c.self.invariant.geometry looks.size looks.low
    ∙ ap (λ (s : Shape). 512 * s.spb) (sym c.shape-shape.ensures.shape)

pub block_bytes-requires-clause-n : goal.block_bytes-requires-clause-n
block_bytes-requires-clause-n c =
    let looks = looks_from c.self.inside.pool.geometry c.self.inside.pool.bytes c.self.inside.counts.items c.self.inside.marks c.args.self.now c.args.place.section c.args.place.entry
    c.self.invariant c.self.view_is c.requires.section c.requires.entry in
    let low = looks.low in
    let count = c.shape-shape.ensures.is_shape.entries ∙ ap section_entries c.shape-shape.ensures.shape in
    omega (arith, low, count)

pub returns : goal.returns
returns c entry there =
    let looks = looks_from c.self.inside.pool.geometry c.self.inside.pool.bytes c.self.inside.counts.items c.self.inside.marks c.args.self.now c.args.place.section c.args.place.entry
    c.self.invariant c.self.view_is c.requires.section c.requires.entry in
    let g = c.self.inside.pool.geometry in
    let bytes : List ℕ = section_bytes g.shape c.self.inside.pool.bytes c.args.place.section in
    let pieces : HasPieces g.shape c.args.place.entry c.metadata-metadata.result.now c.data-parts.result.now bytes =
    record { size = looks.size; meta_are = sym c.metadata-metadata.ensures; parts_are = sym c.data-parts.ensures } in
    let own = subst (λ (s : Shape). HasPieces s c.args.place.entry c.metadata-metadata.result.now c.data-parts.result.now bytes) (sym c.shape-shape.ensures.shape) pieces in
    let told : get_or (entries_of (as_shape c.shape-shape.result) bytes) c.args.place.entry None ≡ Some entry =
    ap (λ (s : Shape). get_or (entries_of s bytes) c.args.place.entry None) c.shape-shape.ensures.shape ∙ looks.finds entry there in
    let is : IfSome (Some entry) (λ (x : Entry). c.block_bytes.new.out ≡ x.bytes) =
    subst (λ (o : Option Entry). IfSome o (λ (x : Entry). c.block_bytes.new.out ≡ x.bytes)) told (c.block_bytes.ensures.entry bytes own) in
    is
