use Rattle.std.proofs.Common.{Err, sym, ap, ◌∙◌}
use Rattle.disk_model.specs.Disk.{last_image}
use Rattle.image_model.specs.Scan.{walk_of_grid}
use Rattle.image_refusal.specs.declared.dump_fault.DumpFault.TheVariants.{Scan}
use Rattle.image_refusal.proofs.CallLemmas.{TellsCause-refused}
use Rattle.dump_model.specs.Dump.{dump_in}
use Rattle.dump_model.proofs.DumpLemmas.{dump_in-journal}
use Rattle.image_dump.proofs.dumping.show.Goals as goal

pub returns-clause-refused : goal.returns-clause-refused
returns-clause-refused g c =
    TellsCause-refused (dump_in c.args.format) (g.D.Disk.moments c.args.disk.now) (Scan c.in-Err.fault)
    (λ content told. dump_in-journal c.args.format (last_image content) (Err c.in-Err.fault) (sym c.has_bitmap.ensures ∙ c.if-has_bitmap.false)
    (sym c.in-Err.ensures.fault ∙ ap walk_of_grid (c.in_ok-grid.ensures.grid content told)))
