use Rattle.std.proofs.Common.{◌≡◌, ◌+◌, ◌*◌, ◌-◌, [], refl, subst, arith}
use Rattle.image_model.specs.Sectors.{piece}
use Rattle.image_model.proofs.SectorLemmas.{length-piece}
use Rattle.journal_section.specs.Fields.{HasFields}
use Rattle.journal_section.proofs.FieldsLemmas.{HasFields-more, HasFields-tag}
use Rattle.journal_section.proofs.entries.put_fields.Goals as goal

pub loop-k-preserved : goal.loop-k-preserved
loop-k-preserved c =
    let block = c.args.block.now in
    let from = 512 * c.loop-k.k + 504 in
    let size : from + 8 - from ≡ 8 = omega arith in
    let put = rw size at c.put.ensures in
    HasFields-more c.loop-k.k c.args.sector block (piece block from 8) c.loop-k.place c.put.new.bytes (omega arith)
    (length-piece block from 8 (omega arith)) refl put c.loop-k.invariant

pub returns : goal.returns
returns c =
    let block = c.args.block.now in
    let tag = c.args.tag.now in
    let old = c.loop-k.place in
    let all : c.loop-k.k ≡ c.args.shape.spb = omega arith in
    let put = rw (c.tag_from.ensures, c.bytes.ensures.bytes) at c.put-2.ensures in
    HasFields-tag c.args.shape.spb c.args.sector block tag old c.put-2.new.bytes (omega arith) put
    (subst (λ k. HasFields k c.args.sector block [] old) all c.loop-k.invariant)
