use Rattle.std.proofs.Common.{refl, sym, ◌∙◌}
use Rattle.std.proofs.lemmas.Result.{err_from_is_err_and}
use Rattle.image_model.proofs.SuperblockLemmas.{superblock_faults-accepted, superblock_faults-passed}
use Rattle.superblock.proofs.reading.judge.Goals as goal

pub returns-in_err-accepted-clause-accepted : goal.returns-in_err-accepted-clause-accepted
returns-in_err-accepted-clause-accepted c =
    let p = err_from_is_err_and c.from_residual.result c.from_residual.ensures.1 in
    rw p.1 (
      λ ok. absurd (cc),
      λ h.
          let both = c.in_err-accepted.ensures ∙ superblock_faults-passed c.args.fields.now h in
          absurd (cc),
    )

pub returns-clause-accepted : goal.returns-clause-accepted
returns-clause-accepted c =
    (λ ok. superblock_faults-accepted c.args.fields.now _ (sym c.in_ok-accepted.ensures), λ h. refl)
