use Rattle.std.proofs.Common.{◌≡◌, ℕ, ◌*◌, ◌∙◌, ap, arith}
use Rattle.image_model.specs.Geometry.{section_sectors}
use Rattle.journal_erasure.proofs.StepsLemmas.{journal_fits, part_moments, sectors_in_order}
use Rattle.journal_erasure.proofs.erasing.write_sections.Goals as goal

pub write_part-requires-clause-inside : goal.write_part-requires-clause-inside
write_part-requires-clause-inside g c =
    let geometry = c.args.geometry.now in
    let sectors : ℕ = c.shape-sectors.result.sectors in
    let width : sectors ≡ section_sectors geometry.shape = c.shape-sectors.ensures.is_shape.sectors ∙ ap section_sectors c.shape-sectors.ensures.shape in
    let count : c.args.to * sectors ≡ c.args.to * section_sectors geometry.shape = ap (λ (n : ℕ). c.args.to * n) width in
    let next = sectors_in_order geometry c.args.to geometry.sections c.requires.inside in
    let fits = journal_fits geometry _ c.requires.erasing.geometry in
    omega (arith, c.section_at-at.ensures, count, next, fits)

pub returns-clause-moments : goal.returns-clause-moments
returns-clause-moments g c =
    part_moments c.args.geometry.now c.args.erasure.now c.args.part c.args.from c.args.to c.section_at-at.result c.shape-sectors.result.sectors c.args.empty.now c.section_at-at.ensures
    (c.shape-sectors.ensures.is_shape.sectors ∙ ap section_sectors c.shape-sectors.ensures.shape) c.write_part.ensures.moments
