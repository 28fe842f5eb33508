use Rattle.std.proofs.Common.{◌≡◌, ◌+◌, ◌*◌, arith, subst}
use Rattle.commit_id.specs.Grid.{as_grid}
use Rattle.commit_id.specs.Tally.{IsTally}
use Rattle.commit_id.proofs.SpreadLemmas.{counts_more, section_added}
use Rattle.commit_id.proofs.scanning.survey.Goals as goal

pub loop-section-init : goal.loop-section-init
loop-section-init c =
    let start : 0 ≡ 0 * c.args.grid.now.sectors = omega arith in
    record {
      tally = subst (λ k. IsTally (as_grid c.args.grid.now) k c.new-tally.result) start (c.new-tally.ensures c.args.grid.now);
      spread = c.new-spread.ensures (as_grid c.args.grid.now);
    }

pub add-requires-in-loop-section-clause-more : goal.add-requires-in-loop-section-clause-more
add-requires-in-loop-section-clause-more c =
    let end : c.loop-sector.sector ≡ c.args.grid.now.sectors = omega arith in
    let grid = as_grid c.args.grid.now in
    let section = c.loop-section.section in
    counts_more grid section c.loop-section.tally c.loop-sector.tally c.loop-section.invariant.tally
    (subst (λ sector. IsTally grid (section * c.args.grid.now.sectors + sector) c.loop-sector.tally) end c.loop-sector.invariant)

pub loop-section-preserved : goal.loop-section-preserved
loop-section-preserved c =
    let end : c.loop-sector.sector ≡ c.args.grid.now.sectors = omega arith in
    let next : c.loop-section.section * c.args.grid.now.sectors + c.args.grid.now.sectors ≡ (c.loop-section.section + 1) * c.args.grid.now.sectors = omega arith in
    let grid = as_grid c.args.grid.now in
    let section = c.loop-section.section in
    let tallied = subst (λ sector. IsTally grid (section * c.args.grid.now.sectors + sector) c.loop-sector.tally) end c.loop-sector.invariant in
    record {
      tally = subst (λ k. IsTally grid k c.loop-sector.tally) next tallied;
      spread = section_added grid section c.loop-section.tally c.loop-sector.tally c.loop-section.invariant.tally tallied
          c.loop-section.spread c.add-in-loop-section.new.self c.loop-section.invariant.spread
          c.add-in-loop-section.ensures.reach c.add-in-loop-section.ensures.whole;
    }
