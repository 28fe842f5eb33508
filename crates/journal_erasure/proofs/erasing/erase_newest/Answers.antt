use Rattle.std.proofs.Common.{ℕ, arith}
use Rattle.disk_model.proofs.MomentsLemmas.{adds_wider}
use Rattle.journal_erasure.specs.declared.part.Part.TheVariants.{Newest}
use Rattle.journal_erasure.specs.Erasing.{IsOfPart}
use Rattle.journal_erasure.proofs.StepsLemmas.{IsOfPart-wider}
use Rattle.journal_erasure.proofs.erasing.erase_newest.Goals as goal

pub returns-clause-moments : goal.returns-clause-moments
returns-clause-moments g c =
    let geometry = c.args.geometry.now in
    let erasure = c.args.erasure.now in
    let sections : ℕ = c.sections-sections.result in
    adds_wider (IsOfPart geometry erasure Newest 0 sections c.args.empty.now) (IsOfPart geometry erasure Newest 0 geometry.sections c.args.empty.now)
    (IsOfPart-wider geometry erasure c.args.empty.now Newest 0 sections 0 geometry.sections (omega arith) (omega (arith, c.sections-sections.ensures))) c.write_and_sync.ensures.moments
