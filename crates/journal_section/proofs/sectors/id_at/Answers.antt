use Rattle.std.proofs.Common.{◌+◌, ◌*◌, ◌∙◌, sym, ap, arith}
use Rattle.image_model.specs.Sectors.{number_in}
use Rattle.image_model.proofs.SectorLemmas.{number_in-piece}
use Rattle.journal_section.proofs.SectorsLemmas.{id_in-sector_in}
use Rattle.journal_section.proofs.sectors.id_at.Goals as goal

pub returns : goal.returns
returns c =
    let bytes = c.args.bytes.now in
    let from = 512 * c.args.j + 504 in
    c.read_u64.ensures ∙ number_in-piece bytes 0 8 from _ (omega arith) ∙ ap (λ at. number_in bytes at 8) (omega arith)
    ∙ sym (id_in-sector_in bytes c.args.j)
