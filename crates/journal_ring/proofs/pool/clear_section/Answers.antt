use Rattle.std.proofs.Common.{arith, sym, subst, replicate, None}
use Rattle.commit_id.specs.Shape.{as_shape}
use Rattle.image_model.specs.Entries.{BearsNumber, HoldsEntries}
use Rattle.journal_ring.proofs.SectionsLemmas.{section-put}
use Rattle.journal_ring.proofs.pool.clear_section.Goals as goal

pub returns-clause-number : goal.returns-clause-number
returns-clause-number c =
    let size = c.clear.auto.bytes in
    let put = section-put (as_shape c.args.shape) c.args.i c.args.shape.sectors c.clear.new.bytes c.args.bytes.now c.requires.shape.sectors c.requires.inside (omega arith) in
    subst (BearsNumber (as_shape c.args.shape) c.args.i c.args.number) (sym put.section) c.clear.ensures.number

pub returns-clause-entries : goal.returns-clause-entries
returns-clause-entries c =
    let size = c.clear.auto.bytes in
    let put = section-put (as_shape c.args.shape) c.args.i c.args.shape.sectors c.clear.new.bytes c.args.bytes.now c.requires.shape.sectors c.requires.inside (omega arith) in
    subst (HoldsEntries (as_shape c.args.shape) (replicate c.args.shape.entries None)) (sym put.section) c.clear.ensures.entries

pub returns-clause-others : goal.returns-clause-others
returns-clause-others c =
    let size = c.clear.auto.bytes in
    (section-put (as_shape c.args.shape) c.args.i c.args.shape.sectors c.clear.new.bytes c.args.bytes.now c.requires.shape.sectors c.requires.inside (omega arith)).others
