use Rattle.std.proofs.Common.{◌≡◌, ◌/◌, ℕ, length, ◌∙◌, ap, subst, arith}
use Rattle.std.proofs.lemmas.Result.{on_ok_weaker}
use Rattle.image_model.specs.Geometry.{Geometry, Shape}
use Rattle.journal_section.specs.declared.entries.EntryView.{EntryView}
use Rattle.journal_ring.specs.Places.{entries_at}
use Rattle.journal_ring.proofs.PlacesLemmas.{used_there}
use Rattle.place_writer.proofs.EntryLemmas.{block_inside, gives_entry, next_entry}
use Rattle.place_writer.specs.Placement.{IsWholeEntry}
use Rattle.place_writer.proofs.entry.place_entry.Goals as goal

pub write_entry-requires-clause-block : goal.write_entry-requires-clause-block
write_entry-requires-clause-block g c =
    let ring = c.args.ring.now in
    let found = used_there (entries_at ring c.args.place.section) c.args.place.entry c.requires.entry in
    let inside = block_inside ring.geometry found.0 (c.requires.whole found.0 found.1) in
    let sector = ap (λ (x : EntryView). x.sector) (c.view-sector.ensures found.0 found.1) in
    let spb = ap (λ (x : Shape). x.spb) c.shape-spb.ensures.shape in
    let same : c.view-sector.result.sector / c.shape-spb.result.spb ≡ found.0.sector / ring.geometry.shape.spb =
    ap (λ (n : ℕ). n / c.shape-spb.result.spb) sector ∙ ap (λ (n : ℕ). found.0.sector / n) spb in
    omega (arith, same, inside, ap (λ (x : Geometry). x.blocks) c.requires.geometry)

pub write_entry-requires-clause-tag : goal.write_entry-requires-clause-tag
write_entry-requires-clause-tag g c =
    let ring = c.args.ring.now in
    let found = used_there (entries_at ring c.args.place.section) c.args.place.entry c.requires.entry in
    ap (λ (x : EntryView). length x.tag) (c.view-sector.ensures found.0 found.1)
    ∙ (c.requires.whole found.0 found.1).tag
    ∙ ap (λ (x : Geometry). x.shape.tag_size) c.requires.geometry

pub returns-clause-placed : goal.returns-clause-placed
returns-clause-placed g c = on_ok_weaker c.write_entry.result (λ placed d entry there next has.
    let geometry = c.args.tags.now.geometry in
    placed d (next_entry geometry entry (subst (λ (x : Geometry). IsWholeEntry x entry) c.requires.geometry (c.requires.whole entry there)) d _ _ _
    (ap (λ (n : ℕ). n / c.shape-spb.result.spb) (ap (λ (x : EntryView). x.sector) (c.view-sector.ensures entry there)) ∙ ap (λ (n : ℕ). entry.sector / n) (ap (λ (x : Shape). x.spb) c.shape-spb.ensures.shape ∙ ap (λ (x : Geometry). x.shape.spb) c.requires.geometry))
    (c.content.ensures entry there) (ap (λ (x : EntryView). x.tag) (c.view-sector.ensures entry there)) has.geometry next) has) c.write_entry.ensures.placed

pub returns-clause-tags : goal.returns-clause-tags
returns-clause-tags g c = on_ok_weaker c.write_entry.result (λ gives entry there.
    let geometry = c.args.tags.now.geometry in
    gives_entry geometry entry (subst (λ (x : Geometry). IsWholeEntry x entry) c.requires.geometry (c.requires.whole entry there)) c.args.tags.now c.write_entry.new.tags _ _ (g.D.Disk.moments c.args.disk.now) (g.D.Disk.moments c.write_entry.new.disk)
    (ap (λ (n : ℕ). n / c.shape-spb.result.spb) (ap (λ (x : EntryView). x.sector) (c.view-sector.ensures entry there)) ∙ ap (λ (n : ℕ). entry.sector / n) (ap (λ (x : Shape). x.spb) c.shape-spb.ensures.shape ∙ ap (λ (x : Geometry). x.shape.spb) c.requires.geometry))
    (ap (λ (x : EntryView). x.tag) (c.view-sector.ensures entry there)) gives) c.write_entry.ensures.tags

pub returns-clause-stands : goal.returns-clause-stands
returns-clause-stands g c d entry there next has =
    let geometry = c.args.tags.now.geometry in
    c.write_entry.ensures.stands d (next_entry geometry entry (subst (λ (x : Geometry). IsWholeEntry x entry) c.requires.geometry (c.requires.whole entry there)) d _ _ _
    (ap (λ (n : ℕ). n / c.shape-spb.result.spb) (ap (λ (x : EntryView). x.sector) (c.view-sector.ensures entry there)) ∙ ap (λ (n : ℕ). entry.sector / n) (ap (λ (x : Shape). x.spb) c.shape-spb.ensures.shape ∙ ap (λ (x : Geometry). x.shape.spb) c.requires.geometry))
    (c.content.ensures entry there) (ap (λ (x : EntryView). x.tag) (c.view-sector.ensures entry there)) has.geometry next) has
