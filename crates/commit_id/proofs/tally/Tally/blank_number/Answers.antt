use Rattle.std.proofs.Common.{◌≡◌, arith, sym, ◌∙◌, length}
use Rattle.commit_id.specs.Grid.{as_grid}
use Rattle.commit_id.proofs.GridLemmas.{sectors_are}
use Rattle.commit_id.proofs.BlankLemmas.{either_low, not_blank-none, not_blank-used, is_blank, not_blank-mixed}
use Rattle.commit_id.proofs.tally.Tally.blank_number.Goals as goal
use Rattle.commit_id.proofs.tally.Tally.blank_number.Goals.{then-self-eq0-via-then-self-eq0, then-self-eq0-via-else-self-eq0+then-grid}

pub returns-then-self-eq0 : goal.returns-then-self-eq0
returns-then-self-eq0 c =
    elim c.then-self-eq0.branch [
      | then-self-eq0-via-then-self-eq0 w ↦ not_blank-none (as_grid c.args.grid.now) c.args.self.now c.requires.grid c.requires.whole w.if-self-eq0.true
      | then-self-eq0-via-else-self-eq0+then-grid w ↦ not_blank-used (as_grid c.args.grid.now) c.args.self.now c.requires.grid c.requires.whole w.if-grid.true
    ]

pub overflow_add-self : goal.overflow_add-self
overflow_add-self c =
    let low = either_low (as_grid c.args.grid.now) c.args.self.now c.requires.grid c.requires.whole c.loop-number.number c.loop-number-test.true in
    omega (arith, sectors_are c.args.grid.now)

pub returns-then-self-number : goal.returns-then-self-number
returns-then-self-number c =
    let all = sectors_are c.args.grid.now in
    let sectors : c.len-sectors.result ≡ length (as_grid c.args.grid.now).cells = omega (arith, all.0, c.len-sectors.ensures) in
    is_blank (as_grid c.args.grid.now) c.args.self.now c.requires.grid c.requires.whole c.loop-number.number c.loop-number-test.true
    c.if-self-eq0.false c.if-grid.false (λ k under same. c.loop-number.invariant k under (same ∙ sym sectors)) (c.if-self-number.true ∙ sectors)

pub returns : goal.returns
returns c =
    let all = sectors_are c.args.grid.now in
    let sectors : c.len-sectors.result ≡ length (as_grid c.args.grid.now).cells = omega (arith, all.0, c.len-sectors.ensures) in
    not_blank-mixed (as_grid c.args.grid.now) c.args.self.now c.requires.grid c.requires.whole
    c.if-self-eq0.false c.if-grid.false (λ k low same. c.loop-number.invariant k (omega arith) (same ∙ sym sectors))
