use Rattle.std.proofs.Common.{◌≡◌, ℕ, ◌+◌, ◌*◌, ◌≤◌, ◌∙◌, ap, arith}
use Rattle.image_model.specs.Geometry.{section_sectors}
use Rattle.journal_ring.proofs.SectionsLemmas.{section-put}
use Rattle.journal_erasure.proofs.EmptyLemmas.{section_cleared, sections_more}
use Rattle.journal_erasure.proofs.StepsLemmas.{section_few, sectors_in_order}
use Rattle.journal_erasure.proofs.clearing.clear_sections.Goals as goal

pub clear-requires-clause-section : goal.clear-requires-clause-section
clear-requires-clause-section c =
    section_few c.args.geometry.now c.requires.geometry.0 c.loop-i.i c.requires.geometry.1 (omega (arith, c.loop-i-test.true, c.sections-i-end.ensures))

pub loop-i-preserved : goal.loop-i-preserved
loop-i-preserved c =
    let geometry = c.args.geometry.now in
    let i : ℕ = c.loop-i.i in
    let sectors : ℕ = c.shape-shape.result.sectors in
    let low : i + 1 ≤ geometry.sections = omega (arith, c.loop-i-test.true, c.sections-i-end.ensures) in
    let width : sectors ≡ section_sectors geometry.shape = c.shape-shape.ensures.is_shape.sectors ∙ ap section_sectors c.shape-shape.ensures.shape in
    let scaled : (i + 1) * sectors ≡ (i + 1) * section_sectors geometry.shape = ap (λ (n : ℕ). (i + 1) * n) width in
    let next = sectors_in_order geometry (i + 1) geometry.sections low in
    let size = c.clear.auto.bytes in
    let put = section-put geometry.shape i sectors c.clear.new.bytes c.loop-i.bytes width (omega (arith, c.loop-i.invariant.size, scaled, next)) (omega (arith, size, c.loop-i.invariant.size, scaled, next)) in
    record {
      size = put.others.size ∙ c.loop-i.invariant.size;
      each = sections_more geometry i c.args.number c.clear.new.bytes c.loop-i.bytes _ c.loop-i.invariant.size (omega (arith, low)) put
          (section_cleared c.shape-shape.result geometry.shape i c.args.number c.clear.new.bytes c.shape-shape.ensures.shape c.shape-shape.ensures.is_shape.entries c.clear.ensures.number c.clear.ensures.entries)
          c.loop-i.invariant.each;
    }
