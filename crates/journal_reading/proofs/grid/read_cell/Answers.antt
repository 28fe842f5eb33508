use Rattle.std.proofs.Common.{◌≡◌, ◌+◌, sym, subst, ap, ◌∙◌, arith, ℕ, length, vec_len}
use Rattle.disk_model.specs.Disk.{last_image}
use Rattle.disk_model.specs.Moments.{content_now}
use Rattle.image_model.specs.Geometry.{Shape, section_sectors}
use Rattle.journal_reading.specs.Cells.{AreFirstCells}
use Rattle.journal_reading.specs.Used.{has_used_outside}
use Rattle.journal_reading.proofs.CellsLemmas.{HasCommitNumbers-more, first_cells-next, journal_inside, sector_read, whole-next}
use Rattle.journal_reading.proofs.grid.read_cell.Goals as goal

pub show-requires-clause-inside : goal.show-requires-clause-inside
show-requires-clause-inside g c =
    let inside = journal_inside c.args.geometry.now (g.D.Disk.identity c.args.disk.now).sectors c.requires.geometry in
    omega (arith, inside, c.requires.next.left, c.len-k.ensures)

pub returns-clause-used : goal.returns-clause-used
returns-clause-used g c content told =
    let read = c.run-bytes.ensures.bytes (g.D.Disk.moments c.show.new.disk) c.show.ensures.window content (ap content_now c.show.ensures.kept ∙ told) in
    let k_is : c.len-k.result ≡ vec_len c.args.cells.now = omega (arith, c.len-k.ensures) in
    c.has_used_outside.ensures
    ∙ ap (λ (shape : Shape). has_used_outside c.args.bitmap shape c.len-k.result c.run-bytes.result.now) c.shape-shape.ensures.shape
    ∙ ap (has_used_outside c.args.bitmap c.args.geometry.now.shape c.len-k.result) (sector_read content c.len-k.result c.run-bytes.result.now read)
    ∙ ap (λ (k : ℕ). has_used_outside c.args.bitmap c.args.geometry.now.shape k (last_image content (8 + k))) k_is

pub returns-clause-cells : goal.returns-clause-cells
returns-clause-cells g c =
    let old = c.args.cells.now in
    let cell = c.cell_of.result in
    let k_is : c.len-k.result ≡ length old.items = omega (arith, c.len-k.ensures) in
    subst (AreFirstCells c.args.geometry.now (g.D.Disk.moments c.args.disk.now)) (sym c.push_reserved.ensures.items) (record {
      numbers = HasCommitNumbers-more old.items cell c.requires.cells.numbers c.cell_of.ensures.number;
      read = λ content told.
          first_cells-next c.args.geometry.now content c.shape-shape.result.sectors c.len-k.result c.run-bytes.result.now old.items cell
          k_is (c.shape-shape.ensures.is_shape.sectors ∙ ap section_sectors c.shape-shape.ensures.shape)
          (c.run-bytes.ensures.bytes (g.D.Disk.moments c.show.new.disk) c.show.ensures.window content (ap content_now c.show.ensures.kept ∙ told))
          c.run-bytes.ensures.size c.cell_of.ensures.cell (c.requires.cells.read content told);
      whole = λ content told.
          whole-next content c.len-k.result c.run-bytes.result.now old.items cell k_is
          (c.run-bytes.ensures.bytes (g.D.Disk.moments c.show.new.disk) c.show.ensures.window content (ap content_now c.show.ensures.kept ∙ told))
          c.run-bytes.ensures.size (c.requires.cells.whole content told);
    })
