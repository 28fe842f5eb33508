use Rattle.std.proofs.Common.{◌≡◌, ℕ, ◌<◌, Some}
use Rattle.image_model.specs.Scan.{cell_at, cell_number}
use Rattle.commit_id.specs.Grid.{as_grid}
use Rattle.format_tests.proofs.commit_id_tests.is_grid.Given as goal

-- The numbers so far are commit numbers.
abbrev pub invariant-loop-cell : goal.invariant-loop-cell
invariant-loop-cell l = (k number : ℕ) → k < l.cell-index → cell_number (cell_at (as_grid l.grid) k) ≡ Some number → number < 4
