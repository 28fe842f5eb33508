use Rattle.std.proofs.Common.{◌∙◌, arith}
use Rattle.commit_id.specs.Shape.{as_shape}
use Rattle.commit_id.proofs.ShapeLemmas.{shape_holds}
use Rattle.journal_section.proofs.ShapeLemmas.{sectors_few}
use Rattle.journal_section.proofs.SectorsLemmas.{ids_more, others_stay, commit_number-written}
use Rattle.journal_section.proofs.EntriesLemmas.{HoldsEntries-sealed}
use Rattle.journal_section.proofs.sealing.seal.Goals as goal

pub id-requires-clause-sector : goal.id-requires-clause-sector
id-requires-clause-sector c =
    let few = sectors_few c.args.shape c.requires.shape in omega arith

pub loop-j-preserved : goal.loop-j-preserved
loop-j-preserved c =
    let few = sectors_few c.args.shape c.requires.shape in
    let old = c.loop-j.bytes in
    let new = c.put_number.new.bytes in
    record {
      ids = ids_more old new c.args.i c.loop-j.j c.args.number c.id.result (omega arith) c.requires.section (omega arith) c.requires.number
          c.id.ensures.id c.put_number.ensures c.loop-j.invariant.ids;
      others = λ at front. others_stay old new c.loop-j.j c.id.result (omega arith) c.put_number.ensures at front ∙ c.loop-j.invariant.others at front;
    }

pub returns-clause-number : goal.returns-clause-number
returns-clause-number c =
    let few = sectors_few c.args.shape c.requires.shape in
    let sectors = c.requires.shape.sectors in
    λ j low. commit_number-written c.loop-j.bytes c.args.i j c.args.number c.requires.section (omega arith) c.requires.number
    (c.loop-j.invariant.ids j (omega arith))

pub returns-clause-entries : goal.returns-clause-entries
returns-clause-entries c =
    λ entries holds. HoldsEntries-sealed (as_shape c.args.shape) c.args.bytes.now c.loop-j.bytes entries
    (shape_holds c.args.shape c.requires.shape).2 (omega arith) c.loop-j.invariant.others holds
