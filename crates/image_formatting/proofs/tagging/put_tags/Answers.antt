use Rattle.std.proofs.Common.{◌≡◌, ℕ, ◌+◌, ◌*◌, ◌∙◌, ap, arith, length, List}
use Rattle.image_model.specs.Tag.{tag_of}
use Rattle.image_model.proofs.TagLemmas.{length-tag_of}
use Rattle.formatting_model.proofs.TaggingLemmas.{HoldsTags-next, next_tag_fits}
use Rattle.image_formatting.proofs.tagging.put_tags.Goals as goal

pub put_tag-requires : goal.put_tag-requires
put_tag-requires c =
    let size : length c.tag-tag.result ≡ c.args.shape.tag = ap length c.tag-tag.ensures ∙ length-tag_of _ _ c.args.maker.now.size _ _ (omega (arith, c.requires.size, c.requires.shape.tag)) ∙ c.requires.size in
    let fits = next_tag_fits c.loop-i.i c.args.count c.args.shape.tag c.loop-i-test.true in
    omega (arith, size, fits, c.requires.bytes, c.loop-i.invariant.len)

pub loop-i-preserved : goal.loop-i-preserved
loop-i-preserved c =
    let size : length c.tag-tag.result ≡ c.args.shape.tag = ap length c.tag-tag.ensures ∙ length-tag_of _ _ c.args.maker.now.size _ _ (omega (arith, c.requires.size, c.requires.shape.tag)) ∙ c.requires.size in
    let is = c.tag-tag.ensures ∙ ap (λ (zeros : List ℕ). tag_of c.args.maker.now.key c.args.maker.now.salt c.args.maker.now.size ((c.args.first + c.loop-i.i) * c.args.shape.spb) zeros) c.requires.zeros in
    record {
      tags = HoldsTags-next c.args.maker.now c.args.shape.spb c.args.first c.loop-i.i c.args.shape.tag c.tag-tag.result c.loop-i.bytes c.put_tag.new.bytes c.requires.size size is c.put_tag.ensures.tag c.put_tag.ensures.others c.loop-i.invariant.tags;
      behind = λ p from. c.put_tag.ensures.others p (λ within. omega (arith, within.1, size, from)) ∙ c.loop-i.invariant.behind p (omega (arith, from));
      len = c.put_tag.ensures.len ∙ c.loop-i.invariant.len;
    }
