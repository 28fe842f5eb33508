use Rattle.std.proofs.Common.{◌+◌, ◌*◌}
use Rattle.commit_id.specs.Grid.{as_grid}
use Rattle.commit_id.specs.Spread.{IsSpread}
use Rattle.commit_id.specs.Tally.{IsTally}
use Rattle.commit_id.proofs.scanning.survey.Given as goal

-- The sectors before this one are tallied.
abbrev pub invariant-loop-sector : goal.invariant-loop-sector
invariant-loop-sector l = IsTally (as_grid l.grid) (l.section * l.grid.sectors + l.sector) l.tally

-- The sectors of the sections before this one are tallied, and so are the sections.
abbrev pub invariant-loop-section : goal.invariant-loop-section
invariant-loop-section l = record {
  tally : IsTally (as_grid l.grid) (l.section * l.grid.sectors) l.tally;
  spread : IsSpread (as_grid l.grid) l.section l.spread;
}
