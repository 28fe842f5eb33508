use Rattle.std.proofs.Common.{◌≡◌, ◌+◌, ◌-◌, arith}
use Rattle.std.proofs.lemmas.Result.{on_ok_weaker}
use Rattle.image_model.specs.Geometry.{journal_sectors, section_sectors}
use Rattle.image_model.specs.Entries.{IsWithin}
use Rattle.formatting_model.specs.Journal.{has_bitmap, regions_set}
use Rattle.formatting_model.proofs.JournalLemmas.{journal_inside, journal_now, taken_fits}
use Rattle.formatting_model.proofs.RunsLemmas.{changes_then, changes_wider}
use Rattle.image_formatting.proofs.filling.fill_journal.Goals as goal

pub write_bits-requires-clause-buffer : goal.write_bits-requires-clause-buffer
write_bits-requires-clause-buffer g c =
    let geometry = c.args.format.now.geometry in
    let inside = journal_inside geometry _ 0 c.requires.format.geometry c.requires.format.geometry.sections in
    record {
      sectors = section_sectors geometry.shape;
      some = omega (arith, inside.3);
      few = omega (arith, inside, c.requires.format.geometry.journal);
      is = c.requires.section;
    }

pub write_bits-requires-clause-run : goal.write_bits-requires-clause-run
write_bits-requires-clause-run g c =
    let geometry = c.args.format.now.geometry in
    let inside = journal_inside geometry _ 0 c.requires.format.geometry c.requires.format.geometry.sections in
    let fits = taken_fits _ c.args.format.now c.requires.format in
    omega (arith, inside, fits, c.bitmap_taken-bitmap.ensures, c.section_at.ensures)

pub empty-requires-clause-bitmap : goal.empty-requires-clause-bitmap
empty-requires-clause-bitmap g c =
    let fits = taken_fits _ c.args.format.now c.requires.format in
    omega (arith, fits, c.bitmap_taken-bitmap.ensures)

pub returns-in_err-write_bits-clause-moments : goal.returns-in_err-write_bits-clause-moments
returns-in_err-write_bits-clause-moments g c =
    let geometry = c.args.format.now.geometry in
    let fits = taken_fits _ c.args.format.now c.requires.format in
    changes_wider (IsWithin c.section_at.result c.bitmap_taken-bitmap.result) (IsWithin 8 (journal_sectors geometry))
    (λ s of. (omega (arith, of.0, c.section_at.ensures), omega (arith, of.1, c.section_at.ensures, fits, c.bitmap_taken-bitmap.ensures))) c.write_bits.ensures.moments

pub returns-clause-moments : goal.returns-clause-moments
returns-clause-moments g c =
    let geometry = c.args.format.now.geometry in
    let fits = taken_fits _ c.args.format.now c.requires.format in
    let taken = c.bitmap_taken-bitmap.result in
    changes_then (IsWithin 8 (journal_sectors geometry))
    (changes_wider (IsWithin c.section_at.result taken) (IsWithin 8 (journal_sectors geometry))
    (λ s of. (omega (arith, of.0, c.section_at.ensures), omega (arith, of.1, c.section_at.ensures, fits, c.bitmap_taken-bitmap.ensures))) c.write_bits.ensures.moments)
    (changes_wider (IsWithin (8 + taken) (journal_sectors geometry - taken)) (IsWithin 8 (journal_sectors geometry))
    (λ s of. (omega (arith, of.0), omega (arith, of.1, fits, c.bitmap_taken-bitmap.ensures))) c.empty.ensures.moments)

pub returns-clause-filled : goal.returns-clause-filled
returns-clause-filled g c =
    let at : c.section_at.result ≡ 8 = omega (arith, c.section_at.ensures) in
    on_ok_weaker c.empty.result (λ emptied.
    journal_now (has_bitmap c.args.format.now) (regions_set c.args.format.now) c.args.format.now.geometry c.bitmap_taken-bitmap.result c.bitmap_taken-bitmap.ensures
    (rw (at, c.regions_set.ensures) at c.in_ok-write_bits.ensures.written) c.empty.ensures.moments emptied) c.empty.ensures.emptied
