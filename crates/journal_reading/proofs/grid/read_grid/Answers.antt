use Rattle.std.proofs.Common.{◌≡◌, ℕ, List, length, refl, subst, sym, ap, ◌∙◌, arith}
use Rattle.disk_model.specs.Disk.{Content, last_image}
use Rattle.image_model.specs.Below.{any_below}
use Rattle.image_model.specs.Geometry.{journal_sectors, section_sectors}
use Rattle.commit_id.specs.Grid.{as_grid}
use Rattle.commit_id.specs.declared.grid.Grid.{Grid}
use Rattle.sector_window.proofs.WindowLemmas.{fresh_window}
use Rattle.journal_reading.specs.Cells.{AreFirstCells, HasWholeSectors, first_cells}
use Rattle.journal_reading.specs.Used.{is_used_outside_at}
use Rattle.journal_reading.proofs.CellsLemmas.{first_cells-none, grid_for, grid_on}
use Rattle.journal_reading.proofs.grid.read_grid.Goals as goal

pub loop-init : goal.loop-init
loop-init g c = record {
  cells = first_cells-none c.args.geometry.now (g.D.Disk.moments c.args.disk.now) c.args.room.cells.items c.requires.room.none;
  used = λ content told. refl;
  done = omega (arith, ap length c.requires.room.none);
  capacity = refl;
  window = fresh_window 1 c.args.room.window.room c.args.room.window (g.D.Disk.moments c.args.disk.now) c.requires.room.shows_none c.requires.room.window;
  faults = refl;
  identity = refl;
  kept = refl;
}

pub read_cell-requires-clause-next : goal.read_cell-requires-clause-next
read_cell-requires-clause-next g c = record {
  left = omega (arith, c.loop.invariant.done, c.loop-test.true, c.initial-end.ensures);
  room = omega (arith, c.loop.invariant.done, c.loop.invariant.capacity, c.loop-test.true, c.initial-end.ensures, c.requires.room.cells);
}

pub read_cell-requires-clause-cells : goal.read_cell-requires-clause-cells
read_cell-requires-clause-cells g c = subst (λ (m : List Content). AreFirstCells c.args.geometry.now m c.loop.cells.items) (sym c.loop.invariant.kept) c.loop.invariant.cells

pub returns-clause-fits : goal.returns-clause-fits
returns-clause-fits g c =
    let grid : Grid = record { sections = c.sections.result; sectors = c.shape.result.sectors; cells = c.loop.cells; bitmap = c.blank_bound-bitmap.result; used_outside = c.loop.used_outside } in
    grid_for c.args.geometry.now (g.D.Disk.identity c.args.disk.now).sectors (as_grid grid) c.requires.geometry c.sections.ensures
    (c.shape.ensures.is_shape.sectors ∙ ap section_sectors c.shape.ensures.shape)
    (omega (arith, c.loop.invariant.done, c.loop-test.false, c.loop.auto.counter-end, c.initial-end.ensures)) c.blank_bound-bitmap.ensures c.loop.invariant.cells.numbers

pub returns-clause-grid : goal.returns-clause-grid
returns-clause-grid g c content told =
    let grid : Grid = record { sections = c.sections.result; sectors = c.shape.result.sectors; cells = c.loop.cells; bitmap = c.blank_bound-bitmap.result; used_outside = c.loop.used_outside } in
    let all : length c.loop.cells.items ≡ journal_sectors c.args.geometry.now =
    omega (arith, c.loop.invariant.done, c.loop-test.false, c.loop.auto.counter-end, c.initial-end.ensures) in
    let counted : c.loop.counter ≡ journal_sectors c.args.geometry.now =
    omega (arith, c.loop-test.false, c.loop.auto.counter-end, c.initial-end.ensures) in
    grid_on c.args.geometry.now (g.D.Disk.identity c.args.disk.now).sectors (last_image content) (as_grid grid) c.requires.geometry (returns-clause-fits g c)
    (subst (HasWholeSectors (last_image content)) all (c.loop.invariant.cells.whole content told))
    (c.loop.invariant.cells.read content told ∙ ap (first_cells c.args.geometry.now (last_image content)) all)
    (c.loop.invariant.used content told
    ∙ ap (λ (count : ℕ). any_below count (is_used_outside_at c.blank_bound-bitmap.result c.args.geometry.now (last_image content))) counted)
