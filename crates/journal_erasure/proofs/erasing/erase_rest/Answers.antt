use Rattle.std.proofs.Common.{ℕ, ◌+◌, arith}
use Rattle.disk_model.proofs.MomentsLemmas.{adds_then, adds_wider}
use Rattle.journal_erasure.specs.declared.part.Part.TheVariants.{Others}
use Rattle.journal_erasure.specs.Erasing.{IsOfPart}
use Rattle.journal_erasure.proofs.StepsLemmas.{IsErasing-same, IsOfPart-wider}
use Rattle.journal_erasure.proofs.erasing.erase_rest.Goals as goal

pub write_and_sync-requires-clause-erasing : goal.write_and_sync-requires-clause-erasing
write_and_sync-requires-clause-erasing g c = IsErasing-same c.args.geometry.now c.args.erasure.now c.args.empty.now c.write_sections.ensures.identity c.requires.erasing

pub returns-in_err-write_sections-clause-moments : goal.returns-in_err-write_sections-clause-moments
returns-in_err-write_sections-clause-moments g c =
    let geometry = c.args.geometry.now in
    let erasure = c.args.erasure.now in
    let first : ℕ = erasure.first in
    adds_wider (IsOfPart geometry erasure Others 0 first c.args.empty.now) (IsOfPart geometry erasure Others 0 geometry.sections c.args.empty.now)
    (IsOfPart-wider geometry erasure c.args.empty.now Others 0 first 0 geometry.sections (omega arith) (omega (arith, c.requires.erasing.fits.first))) c.write_sections.ensures.moments

pub returns-clause-moments : goal.returns-clause-moments
returns-clause-moments g c =
    let geometry = c.args.geometry.now in
    let erasure = c.args.erasure.now in
    let first : ℕ = erasure.first in
    let sections : ℕ = c.sections-sections.result in
    let W = IsOfPart geometry erasure Others 0 geometry.sections c.args.empty.now in
    adds_then W
    (adds_wider (IsOfPart geometry erasure Others 0 first c.args.empty.now) W
    (IsOfPart-wider geometry erasure c.args.empty.now Others 0 first 0 geometry.sections (omega arith) (omega (arith, c.requires.erasing.fits.first))) c.write_sections.ensures.moments)
    (adds_wider (IsOfPart geometry erasure Others (first + 1) sections c.args.empty.now) W
    (IsOfPart-wider geometry erasure c.args.empty.now Others (first + 1) sections 0 geometry.sections (omega arith) (omega (arith, c.sections-sections.ensures))) c.write_and_sync.ensures.moments)
