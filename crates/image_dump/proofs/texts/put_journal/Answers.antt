use Rattle.std.proofs.Common.{◌++◌, codes, ap, sym, ◌∙◌}
use Rattle.std.proofs.lemmas.Result.{on_ok_weaker}
use Rattle.dump_model.specs.Lines.{joined_lines, journal_lines}
use Rattle.dump_model.specs.declared.shown.DumpJournal.{DumpJournal}
use Rattle.dump_model.proofs.LinesLemmas.{number_line}
use Rattle.image_dump.proofs.texts.put_journal.Goals as goal

pub returns-in-Bitmap : goal.returns-in-Bitmap
returns-in-Bitmap c = on_ok_weaker c.put_number.result (λ put.
    number_line c.args.text.now.items c.put_number.new.text.items (codes "journal bitmap set ") c.in-Bitmap.set put
    ∙ ap (λ (j : DumpJournal). c.args.text.now.items ++ joined_lines (journal_lines j)) (sym c.in-Bitmap.is)) c.put_number.ensures
