use Rattle.std.proofs.Common.{subst, sym, ◌+◌}
use Rattle.commit_id.specs.Tally.{TellsUnnumbered}
use Rattle.commit_id.proofs.TallyLemmas.{unnumbered_added}
use Rattle.commit_id.proofs.tally.Tally.add_unnumbered.Goals as goal

pub returns-clause-unnumbered : goal.returns-clause-unnumbered
returns-clause-unnumbered c grid k place is found_is told =
    subst (TellsUnnumbered grid (k + 1)) (sym c.or-self.ensures)
    (unnumbered_added grid k c.args.section c.args.sector c.args.found c.args.self.now.unnumbered place is found_is told)
