use Rattle.std.proofs.Common.{◌≡◌, ◌+◌, ◌*◌, ◌-◌, ℕ, take, drop, ap, ◌∙◌, arith}
use Rattle.image_model.specs.Geometry.{section_sectors}
use Rattle.journal_reading.proofs.JournalLemmas.{section_bytes-piece}
use Rattle.journal_reading.proofs.entries.section_in.Goals as goal

pub returns-clause-bytes : goal.returns-clause-bytes
returns-clause-bytes c =
    let g = c.args.geometry.now in
    let bytes = c.args.bytes.now in
    let sectors = c.shape-sectors.result.sectors in
    let i = c.args.section in
    let width : sectors ≡ section_sectors g.shape = c.shape-sectors.ensures.is_shape.sectors ∙ ap section_sectors c.shape-sectors.ensures.shape in
    let from : 512 * sectors * i ≡ 512 * (i * section_sectors g.shape) = ap (λ (n : ℕ). 512 * n * i) width ∙ (let regroup : 512 * section_sectors g.shape * i ≡ 512 * (i * section_sectors g.shape) = omega arith in regroup) in
    let size : 512 * sectors * i + 512 * sectors - 512 * sectors * i ≡ 512 * section_sectors g.shape = omega arith in
    ap (λ (n : ℕ). take n (drop (512 * sectors * i) bytes)) size
    ∙ ap (λ (n : ℕ). take (512 * section_sectors g.shape) (drop n bytes)) from
    ∙ section_bytes-piece g bytes i c.requires.bytes c.requires.section
