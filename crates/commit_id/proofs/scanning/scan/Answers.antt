use Rattle.std.proofs.Common.{◌*◌, sym, ◌∙◌, ap, subst, Ok}
use Rattle.commit_id.specs.Grid.{as_grid}
use Rattle.commit_id.specs.Tally.{TellsUnnumbered}
use Rattle.commit_id.proofs.ScanLemmas.{walk_of_grid-blank, walk_of_grid-unnumbered, walk_of_grid-newest, walk_of_grid-four}
use Rattle.commit_id.proofs.scanning.scan.Goals as goal

pub returns-in-Some-clause-plan : goal.returns-in-Some-clause-plan
returns-in-Some-clause-plan c =
    walk_of_grid-blank (as_grid c.args.grid.now) c.in-Some.number (sym c.blank_number.ensures ∙ c.in-Some.is) ∙ ap (λ p. Ok p) (sym c.blank_plan.ensures)

pub returns-in-Some-unnumbered-clause-fault : goal.returns-in-Some-unnumbered-clause-fault
returns-in-Some-unnumbered-clause-fault c =
    let told = subst (TellsUnnumbered (as_grid c.args.grid.now) (c.args.grid.now.sections * c.args.grid.now.sectors)) c.in-Some-unnumbered.is c.survey.ensures.tally.unnumbered in
    walk_of_grid-unnumbered (as_grid c.args.grid.now) c.requires c.in-Some-unnumbered.fault (sym c.blank_number.ensures ∙ c.in_default.is) told.0 told.1

pub returns-in-Some-newest-clause-plan : goal.returns-in-Some-newest-clause-plan
returns-in-Some-newest-clause-plan c =
    let told = subst (TellsUnnumbered (as_grid c.args.grid.now) (c.args.grid.now.sections * c.args.grid.now.sectors)) c.in_default-unnumbered.is c.survey.ensures.tally.unnumbered in
    walk_of_grid-newest (as_grid c.args.grid.now) c.requires c.survey.result.1 c.survey.ensures.spread c.in-Some-newest.newest
    (sym c.blank_number.ensures ∙ c.in_default.is) told (sym c.newest.ensures ∙ c.in-Some-newest.is)
    ∙ ap (λ p. Ok p) (sym c.plan.ensures)

pub returns-in-None-clause-fault : goal.returns-in-None-clause-fault
returns-in-None-clause-fault c =
    let told = subst (TellsUnnumbered (as_grid c.args.grid.now) (c.args.grid.now.sections * c.args.grid.now.sectors)) c.in_default-unnumbered.is c.survey.ensures.tally.unnumbered in
    walk_of_grid-four (as_grid c.args.grid.now) c.requires c.survey.result.1 c.survey.ensures.spread c.survey.result.0 c.survey.ensures.tally
    (sym c.blank_number.ensures ∙ c.in_default.is) told (sym c.newest.ensures ∙ c.in-None.is)
