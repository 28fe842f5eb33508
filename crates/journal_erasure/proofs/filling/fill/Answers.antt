use Rattle.std.proofs.Common.{arith}
use Rattle.disk_model.proofs.MomentsLemmas.{adds_then, sync_adds}
use Rattle.journal_erasure.specs.Filling.{IsOfLacking}
use Rattle.journal_erasure.proofs.FillingLemmas.{lacking_moments}
use Rattle.journal_erasure.proofs.StepsLemmas.{journal_fits}
use Rattle.journal_erasure.proofs.filling.fill.Goals as goal

pub write_part-requires-clause-inside : goal.write_part-requires-clause-inside
write_part-requires-clause-inside g c =
    let fits = journal_fits c.args.geometry.now _ c.requires.geometry in
    omega (arith, c.section_at-at.ensures, c.initial.ensures, fits)

pub returns-in_err-write_part-clause-moments : goal.returns-in_err-write_part-clause-moments
returns-in_err-write_part-clause-moments g c =
    lacking_moments c.args.geometry.now c.args.cells.now c.args.number c.section_at-at.result _ c.clear_sections.new.bytes c.section_at-at.ensures
    (omega (arith, c.section_at-at.ensures, c.initial.ensures)) c.write_part.ensures.moments

pub returns-clause-moments : goal.returns-clause-moments
returns-clause-moments g c =
    let W = IsOfLacking c.args.geometry.now c.args.cells.now c.args.number c.clear_sections.new.bytes in
    adds_then W
    (lacking_moments c.args.geometry.now c.args.cells.now c.args.number c.section_at-at.result _ c.clear_sections.new.bytes c.section_at-at.ensures
    (omega (arith, c.section_at-at.ensures, c.initial.ensures)) c.write_part.ensures.moments)
    (sync_adds W (g.met.D.Disk.reads_an_image c.write_part.new.disk) c.sync.ensures.moments)
