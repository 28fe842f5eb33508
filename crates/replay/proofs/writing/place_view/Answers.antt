use Rattle.std.proofs.Common.{◌≡◌, ◌/◌, ℕ, List, inl, inr, ap, subst, sym, ◌∙◌}
use Rattle.std.proofs.lemmas.Result.{on_ok_weaker}
use Rattle.disk_model.proofs.MomentsLemmas.{EachMoment-then, adds_then, adds_wider, write_adds}
use Rattle.image_model.specs.Cells.{Cell}
use Rattle.image_model.specs.Geometry.{Geometry, Shape, data_at}
use Rattle.journal_model.specs.Entries.{cell_of}
use Rattle.journal_reading.specs.Entries.{entry_with}
use Rattle.place_writer.specs.DirectModeCells.{IsOfBlockOrTags}
use Rattle.place_model.specs.Tags.{HoldsTag}
use Rattle.replay.specs.Replaying.{HasAmid, last_cell, without}
use Rattle.replay.specs.ReadPlaces.{ShowsPlaces}
use Rattle.replay.proofs.ReadPlacesLemmas.{shows_others}
use Rattle.replay.proofs.WritesLemmas.{entry_adds}
use Rattle.replay.proofs.writing.place_view.Goals as goal

pub returns-in_err-place_data-clause-stands : goal.returns-in_err-place_data-clause-stands
returns-in_err-place_data-clause-stands g c d data_ahead tag_ahead last has =
    let own = c.args.tags.now.geometry in
    let spb : c.shape-spb.result.spb ≡ own.shape.spb = ap (λ (x : Shape). x.spb) c.shape-spb.ensures.shape ∙ ap (λ (x : Geometry). x.shape.spb) c.requires.geometry in
    let number = c.args.view.now.sector / c.shape-spb.result.spb in
    let same : number ≡ c.args.view.now.sector / own.shape.spb = ap (λ (n : ℕ). c.args.view.now.sector / n) spb in
    let at : last_cell d number ≡ cell_of (entry_with c.args.block.now c.args.view.now) = ap (last_cell d) same ∙ last in
    c.place_data.ensures.stands d data_ahead tag_ahead (ap (λ (cell : Cell). cell.bytes) at) has

pub returns-clause-stands : goal.returns-clause-stands
returns-clause-stands g c d data_ahead tag_ahead last has =
    let own = c.args.tags.now.geometry in
    let spb : c.shape-spb.result.spb ≡ own.shape.spb = ap (λ (x : Shape). x.spb) c.shape-spb.ensures.shape ∙ ap (λ (x : Geometry). x.shape.spb) c.requires.geometry in
    let number = c.args.view.now.sector / c.shape-spb.result.spb in
    let same : number ≡ c.args.view.now.sector / own.shape.spb = ap (λ (n : ℕ). c.args.view.now.sector / n) spb in
    let at : last_cell d number ≡ cell_of (entry_with c.args.block.now c.args.view.now) = ap (last_cell d) same ∙ last in
    EachMoment-then (c.place_data.ensures.stands d data_ahead tag_ahead (ap (λ (cell : Cell). cell.bytes) at) has)
    (c.place_tag.ensures.stands d (without number data_ahead) tag_ahead (ap (λ (cell : Cell). cell.tag) at)
    (c.in_ok-place_data.ensures.placed d data_ahead tag_ahead (ap (λ (cell : Cell). cell.bytes) at) has))

pub returns-clause-placed : goal.returns-clause-placed
returns-clause-placed g c = on_ok_weaker c.place_tag.result (λ put d data_ahead tag_ahead last has.
    let own = c.args.tags.now.geometry in
    let spb : c.shape-spb.result.spb ≡ own.shape.spb = ap (λ (x : Shape). x.spb) c.shape-spb.ensures.shape ∙ ap (λ (x : Geometry). x.shape.spb) c.requires.geometry in
    let number = c.args.view.now.sector / c.shape-spb.result.spb in
    let same : number ≡ c.args.view.now.sector / own.shape.spb = ap (λ (n : ℕ). c.args.view.now.sector / n) spb in
    let at : last_cell d number ≡ cell_of (entry_with c.args.block.now c.args.view.now) = ap (last_cell d) same ∙ last in
    subst (λ (n : ℕ). HasAmid d (without n data_ahead) (without n tag_ahead) c.place_tag.new.tags (g.D.Disk.moments c.place_tag.new.disk)) same
    (put d (without number data_ahead) tag_ahead (ap (λ (cell : Cell). cell.tag) at)
    (c.in_ok-place_data.ensures.placed d data_ahead tag_ahead (ap (λ (cell : Cell). cell.bytes) at) has))) c.place_tag.ensures.placed

pub returns-in_err-place_data-clause-moments : goal.returns-in_err-place_data-clause-moments
returns-in_err-place_data-clause-moments g c =
    let own = c.args.tags.now.geometry in
    let spb : c.shape-spb.result.spb ≡ own.shape.spb = ap (λ (x : Shape). x.spb) c.shape-spb.ensures.shape ∙ ap (λ (x : Geometry). x.shape.spb) c.requires.geometry in
    let number = c.args.view.now.sector / c.shape-spb.result.spb in
    let same : number ≡ c.args.view.now.sector / own.shape.spb = ap (λ (n : ℕ). c.args.view.now.sector / n) spb in
    let W : ℕ → List ℕ → Type 0 = IsOfBlockOrTags own number c.args.block.now in
    entry_adds c.args.geometry.now own (entry_with c.args.block.now c.args.view.now) number c.requires.geometry same
    (write_adds W (data_at own number) c.args.block.now c.place_data.ensures.moments (λ s x of. inl of))

pub returns-clause-moments : goal.returns-clause-moments
returns-clause-moments g c =
    let own = c.args.tags.now.geometry in
    let spb : c.shape-spb.result.spb ≡ own.shape.spb = ap (λ (x : Shape). x.spb) c.shape-spb.ensures.shape ∙ ap (λ (x : Geometry). x.shape.spb) c.requires.geometry in
    let number = c.args.view.now.sector / c.shape-spb.result.spb in
    let same : number ≡ c.args.view.now.sector / own.shape.spb = ap (λ (n : ℕ). c.args.view.now.sector / n) spb in
    let W : ℕ → List ℕ → Type 0 = IsOfBlockOrTags own number c.args.block.now in
    entry_adds c.args.geometry.now own (entry_with c.args.block.now c.args.view.now) number c.requires.geometry same
    (adds_then W (write_adds W (data_at own number) c.args.block.now c.place_data.ensures.moments (λ s x of. inl of))
    (adds_wider (λ s x. HoldsTag own s) W (λ s x tag. inr tag) c.place_tag.ensures.moments))

pub returns-clause-run : goal.returns-clause-run
returns-clause-run g c = on_ok_weaker c.place_tag.result (λ others.
    let own = c.args.tags.now.geometry in
    let run = c.place_data.new.run in
    let after = g.D.Disk.moments c.place_tag.new.disk in
    subst (λ (y : Geometry). ShowsPlaces y run after) (sym c.place_tag.ensures.keeps.geometry)
    (shows_others own run (λ s x. HoldsTag own s) (g.D.Disk.moments c.place_data.new.disk) after c.in_ok-place_data.ensures.run c.place_tag.ensures.moments others)) c.place_tag.ensures.others
