use Rattle.std.proofs.Common.{◌∙◌, ap, List}
use Rattle.std.proofs.lemmas.List.{drop-drop}
use Rattle.image_model.specs.Section.{Entry}
use Rattle.journal_model.specs.Ring.{JournalRing}
use Rattle.journal_ring.specs.Places.{with_free}
use Rattle.place_writer.proofs.freeing.free_sections.Goals as goal

pub loop-freed-preserved : goal.loop-freed-preserved
loop-freed-preserved c =
    c.free_oldest.ensures ∙ ap with_free c.loop-freed.invariant
    ∙ ap (λ (xs : List (List Entry)). let r : JournalRing = record c.args.ring.now { committed = xs } in r) (drop-drop 1 c.loop-freed._freed c.args.ring.now.committed)
