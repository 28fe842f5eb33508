use Rattle.std.proofs.Common.{subst, sym}
use Rattle.commit_id.specs.Ids.{IsIdOfOne}
use Rattle.commit_id.proofs.IdsLemmas.{commit_id-computed, id_of_one}
use Rattle.commit_id.proofs.ids.id.Goals as goal

pub returns-clause-only : goal.returns-clause-only
returns-clause-only c =
    subst (IsIdOfOne c.args.section c.args.sector c.args.number)
    (sym (commit_id-computed c.args.section c.args.sector c.args.number c.requires.section))
    (id_of_one c.args.section c.args.sector c.args.number c.requires.section c.requires.sector c.requires.number)
