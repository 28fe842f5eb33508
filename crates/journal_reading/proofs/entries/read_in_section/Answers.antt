use Rattle.std.proofs.Common.{◌≡◌, Option, refl, sym, ap, subst, ◌∙◌, arith}
use Rattle.std.specs.Option.{IfSome, option_map}
use Rattle.commit_id.specs.Shape.{as_shape}
use Rattle.image_model.specs.Geometry.{section_entries, section_sectors}
use Rattle.image_model.specs.Section.{Entry, entry_at}
use Rattle.image_model.proofs.Bounds.{has_entries}
use Rattle.journal_section.specs.View.{view_of}
use Rattle.journal_reading.specs.Entries.{entry_with}
use Rattle.journal_reading.proofs.EntryLemmas.{entry_at-tag, entry_there, entry_told, none_told}
use Rattle.journal_reading.proofs.entries.read_in_section.Goals as goal

pub meta_of-meta-requires : goal.meta_of-meta-requires
meta_of-meta-requires c =
    let geometry = c.requires.geometry in
    let has = has_entries c.args.geometry.now.shape geometry.spb.0 geometry.spb.1 geometry.tag_size.0 geometry.tag_size.1 in
    omega (arith, c.requires.section, has.sectors_low)

pub returns-in_err-view-clause-entry : goal.returns-in_err-view-clause-entry
returns-in_err-view-clause-entry c =
    let g = c.args.geometry.now in
    let n = c.args.n in
    let section = c.args.section.now in
    let own = as_shape c.shape-shape.result in
    let entries = ap section_entries c.shape-shape.ensures.shape in
    let there = entry_there own g.shape section section n (omega (arith, entries, c.requires.n)) c.shape-shape.ensures.shape refl in
    ap (option_map (entry_with c.args.block.now)) c.from_residual.ensures
    ∙ none_told (entry_at g.shape section n)
    (sym c.in_err-view.was ∙ c.entry.ensures section (sym c.meta_of-meta.ensures.meta) ∙ ap (option_map view_of) there)

pub returns-clause-entry : goal.returns-clause-entry
returns-clause-entry c =
    let g = c.args.geometry.now in
    let n = c.args.n in
    let section = c.args.section.now in
    let own = as_shape c.shape-shape.result in
    let entries = ap section_entries c.shape-shape.ensures.shape in
    let sectors = ap section_sectors c.shape-shape.ensures.shape in
    let there = entry_there own g.shape section section n (omega (arith, entries, c.requires.n)) c.shape-shape.ensures.shape refl in
    entry_told (entry_at g.shape section n) c.in_ok-view.view c.block_bytes.new.out
    (sym c.in_ok-view.was ∙ c.entry.ensures section (sym c.meta_of-meta.ensures.meta) ∙ ap (option_map view_of) there)
    (subst (λ (o : Option Entry). IfSome o (λ entry. c.block_bytes.new.out ≡ entry.bytes)) there
    (c.block_bytes.ensures.entry section (record {
      size = omega (arith, c.requires.section, sectors);
      meta_are = sym c.meta_of-meta.ensures.meta;
      parts_are = sym c.parts_of-parts.ensures.parts;
    })))

pub returns-clause-tag : goal.returns-clause-tag
returns-clause-tag c =
    let g = c.args.geometry.now in
    let geometry = c.requires.geometry in
    entry_at-tag g.shape c.args.section.now c.args.n (has_entries g.shape geometry.spb.0 geometry.spb.1 geometry.tag_size.0 geometry.tag_size.1) c.requires.n c.requires.section
    (entry_with c.block_bytes.new.out c.in_ok-view.view) (returns-clause-entry c)
