use Rattle.std.proofs.Common.{◌∙◌, arith}
use Rattle.std.proofs.lemmas.Result.{on_ok_weaker}
use Rattle.image_model.proofs.GeometryLemmas.{data_at-inside}
use Rattle.formatting_model.proofs.FillingLemmas.{fill_head, fill_journal, fill_all, fill_stays, filled_now}
use Rattle.formatting_model.proofs.WrittenLemmas.{fill_written, head_written, journal_written}
use Rattle.image_formatting.proofs.filling.fill.Goals as goal

pub write_zeros-requires-clause-zeros : goal.write_zeros-requires-clause-zeros
write_zeros-requires-clause-zeros g c = record { sectors = 512; some = omega arith; is = c.deref.ensures.value ∙ c.requires.room.runs.zeros }

pub write_zeros-requires-clause-run : goal.write_zeros-requires-clause-run
write_zeros-requires-clause-run g c =
    let inside = data_at-inside c.args.format.now.geometry _ 0 c.requires.format.geometry c.requires.format.geometry.blocks in
    omega (arith, inside.0, inside.1)

pub returns-in_err-write_zeros-clause-moments : goal.returns-in_err-write_zeros-clause-moments
returns-in_err-write_zeros-clause-moments g c = fill_head c.args.wipe c.args.format.now.geometry _ c.requires.format.geometry c.write_zeros.ensures.moments

pub returns-in_err-fill_journal-clause-moments : goal.returns-in_err-fill_journal-clause-moments
returns-in_err-fill_journal-clause-moments g c = fill_journal c.args.wipe c.args.format.now.geometry _ c.requires.format.geometry c.write_zeros.ensures.moments c.fill_journal.ensures.moments

pub fill_blocks-requires-clause-room : goal.fill_blocks-requires-clause-room
fill_blocks-requires-clause-room g c = record { zeros = c.requires.room.runs.zeros; tags = c.requires.room.runs.tags }

pub returns-clause-moments : goal.returns-clause-moments
returns-clause-moments g c = fill_all c.args.wipe c.args.format.now.geometry _ c.requires.format.geometry c.write_zeros.ensures.moments c.fill_journal.ensures.moments c.fill_blocks.ensures.moments

pub returns-clause-filled : goal.returns-clause-filled
returns-clause-filled g c = on_ok_weaker c.fill_blocks.result (λ blocks.
    filled_now c.args.wipe c.args.maker.now c.args.format.now _ c.requires.format c.in_ok-write_zeros.ensures.written c.fill_journal.ensures.moments c.in_ok-fill_journal.ensures.filled c.fill_blocks.ensures.moments blocks) c.fill_blocks.ensures.filled

pub returns-clause-stays : goal.returns-clause-stays
returns-clause-stays g c = on_ok_weaker c.fill_blocks.result (λ stays.
    fill_stays _ _ _ _ c.args.wipe c.args.format.now.geometry _ c.requires.format.geometry c.write_zeros.ensures.moments c.fill_journal.ensures.moments c.fill_blocks.ensures.moments stays) c.fill_blocks.ensures.stays

pub returns-in_err-write_zeros-clause-writes : goal.returns-in_err-write_zeros-clause-writes
returns-in_err-write_zeros-clause-writes g c = head_written c.args.wipe c.args.format.now c.write_zeros.ensures.writes

pub returns-in_err-fill_journal-clause-writes : goal.returns-in_err-fill_journal-clause-writes
returns-in_err-fill_journal-clause-writes g c = journal_written c.args.wipe c.args.format.now c.write_zeros.ensures.writes c.fill_journal.ensures.moments

pub returns-clause-writes : goal.returns-clause-writes
returns-clause-writes g c =
    fill_written c.args.wipe c.args.format.now _ c.requires.format.geometry c.write_zeros.ensures.moments c.write_zeros.ensures.writes c.fill_journal.ensures.moments c.fill_blocks.ensures.writes
