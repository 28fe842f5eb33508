use Rattle.std.proofs.Common.{◌≡◌, is_some, rules, ◌∙◌, ap}
use Rattle.journal_mode.specs.Journal.{PlacedRing}
use Rattle.journal_mode.specs.Reads.{newest_in}
use Rattle.journal_mode.proofs.ReadsLemmas.{counts_hold, held_is}
use Rattle.journal_mode.proofs.journal.Journal.is_journaled.Goals as goal

pub returns-clause-newest : goal.returns-clause-newest
returns-clause-newest c =
    let told : c.is_some.result ≡ is_some c.newest.result = search rules in
    told ∙ ap (λ o. is_some o) c.newest.ensures
    ∙ held_is c.self.inside.ring c.self.inside.placer c.self.inside.overlay c.self.invariant c.args.block
    ∙ ap (λ (j : PlacedRing). is_some (newest_in j.ring c.args.block)) c.self.view_is

pub returns-clause-counted : goal.returns-clause-counted
returns-clause-counted c w device = returns-clause-newest c ∙ counts_hold w c.args.self.now.ring c.args.block device
