use Rattle.std.proofs.Common.{◌≡◌, ◌*◌, length, ◌∙◌, arith}
use Rattle.std.proofs.lemmas.Result.{on_ok_weaker}
use Rattle.image_model.specs.Geometry.{journal_sectors}
use Rattle.image_model.proofs.Regions.{journal_sectors-some}
use Rattle.journal_reading.proofs.CellsLemmas.{journal_inside}
use Rattle.journal_reading.proofs.JournalLemmas.{HasJournal-read}
use Rattle.journal_reading.proofs.reading.read_journal.Goals as goal

pub read_run-requires-clause-run : goal.read_run-requires-clause-run
read_run-requires-clause-run g c =
    let sectors = (g.D.Disk.identity c.args.disk.now).sectors in
    let inside = journal_inside c.args.geometry.now sectors c.requires.geometry in
    let some = journal_sectors-some c.args.geometry.now sectors c.requires.geometry in
    record {
      whole = omega (arith, c.requires.bytes);
      some = omega (arith, c.requires.bytes, some);
      inside = omega (arith, c.requires.bytes, inside);
    }

pub returns-clause-read : goal.returns-clause-read
returns-clause-read g c =
    let size : length c.read_run.new.buffer ≡ 512 * journal_sectors c.args.geometry.now = c.read_run.auto.buffer ∙ c.requires.bytes in
    on_ok_weaker c.read_run.result (λ read content told. HasJournal-read c.args.geometry.now c.read_run.new.buffer content size (read content told)) c.read_run.ensures.read
