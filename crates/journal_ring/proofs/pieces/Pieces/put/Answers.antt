use Rattle.std.proofs.Common.{ap, subst}
use Rattle.image_model.specs.Section.{Entry, section_bytes}
use Rattle.journal_section.specs.Pieces.{PutsEntry}
use Rattle.journal_ring.specs.Runs.{Sections}
use Rattle.journal_ring.proofs.pieces.Pieces.put.Goals as goal

pub put_here-requires-clause-cut : goal.put_here-requires-clause-cut
put_here-requires-clause-cut c = (c.args.i, ap (λ (x : Sections). x.cut) c.cut.ensures)

pub returns-clause-put : goal.returns-clause-put
returns-clause-put c =
    let entry : Entry = record { sector = c.args.sector; bytes = c.args.block.now; tag = c.args.tag.now } in
    subst (λ (x : Sections). PutsEntry x.geometry.shape c.args.n entry (section_bytes x.geometry.shape x.bytes c.args.i) (section_bytes x.geometry.shape c.put_here.new.self.bytes c.args.i))
    c.cut.ensures (c.put_here.ensures.put c.args.i (ap (λ (x : Sections). x.cut) c.cut.ensures))
