use Rattle.std.proofs.Common.{inl, inr, ◌<◌, arith, ◌∙◌, ap, length}
use Rattle.std.proofs.lemmas.Bool.{cases_eq}
use Rattle.image_model.specs.Scan.{cell_number}
use Rattle.image_model.specs.declared.sector_cell.Cell.TheVariants.{Zero}
use Rattle.image_model.specs.declared.sector_cell.Cell.TheVariants.{Number}
use Rattle.commit_id.proofs.GridLemmas.{same_place}
use Rattle.format_tests.proofs.commit_id_tests.is_grid.Goals as goal

pub loop-cell-preserved : goal.loop-cell-preserved
loop-cell-preserved c k number low is = elim (cases_eq k c.loop-cell.cell-index) [
  | inl same ↦
      let read = c.deref-cell-items.ensures.value in
      let here : k < length c.args.grid.now.cells.items = omega (arith, c.loop-cell-test.true, ap length read) in
      c.is_cell.ensures c.if-not-is_cell.false number
      (rw (read, ← same) (ap cell_number (same_place c.args.grid.now.cells.items k (Number 0) Zero here) ∙ is))
  | inr before ↦ c.loop-cell.invariant k number (omega arith) is
]
