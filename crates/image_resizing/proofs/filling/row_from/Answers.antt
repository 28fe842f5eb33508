use Rattle.std.proofs.Common.{◌≡◌, ◌-◌, ◌+◌, ◌*◌, ◌^◌, ap, arith}
use Rattle.image_model.specs.Geometry.{Shape, data_at}
use Rattle.image_model.proofs.GeometryLemmas.{data_at-inside}
use Rattle.image_model.proofs.Regions.{blocks-low}
use Rattle.place_model.proofs.TagsLemmas.{order}
use Rattle.image_resizing.proofs.RowLemmas.{row_by_last}
use Rattle.image_resizing.proofs.filling.row_from.Goals.{then-is_row, else-is_row}
use Rattle.image_resizing.proofs.filling.row_from.Goals as goal

pub overflow_mul-count : goal.overflow_mul-count
overflow_mul-count c =
    let low = blocks-low c.args.geometry.now (2 ^ 48) c.blocks-2.ensures.geometry in
    let spb : c.shape-spb.result.spb ≡ c.args.geometry.now.shape.spb = ap (λ (x : Shape). x.spb) c.shape-spb.ensures.shape in
    let most = order c.shape-spb.result.spb c.loop-count.count (2 ^ 48) (omega (arith, low, c.loop-count-test.true, c.min-room.ensures, c.blocks-2.ensures.blocks)) in
    omega (arith, most, spb, c.blocks-2.ensures.geometry.spb.1)

pub overflow_add-at : goal.overflow_add-at
overflow_add-at c =
    let low = blocks-low c.args.geometry.now (2 ^ 48) c.blocks-2.ensures.geometry in
    let spb : c.shape-spb.result.spb ≡ c.args.geometry.now.shape.spb = ap (λ (x : Shape). x.spb) c.shape-spb.ensures.shape in
    let most = order c.shape-spb.result.spb c.loop-count.count (2 ^ 48) (omega (arith, low, c.loop-count-test.true, c.min-room.ensures, c.blocks-2.ensures.blocks)) in
    let end = (data_at-inside c.args.geometry.now (2 ^ 48) c.args.first c.blocks-2.ensures.geometry c.requires.first).1 in
    omega (arith, most, spb, c.blocks-2.ensures.geometry.spb.1, end, c.data_at-at.ensures)

pub overflow_mul-is_row : goal.overflow_mul-is_row
overflow_mul-is_row c =
    let low = blocks-low c.args.geometry.now (2 ^ 48) c.blocks-2.ensures.geometry in
    let spb : c.shape-spb.result.spb ≡ c.args.geometry.now.shape.spb = ap (λ (x : Shape). x.spb) c.shape-spb.ensures.shape in
    let most = order c.shape-spb.result.spb (c.min-room.result - 1) (2 ^ 48) (omega (arith, low, c.min-room.ensures, c.blocks-2.ensures.blocks)) in
    omega (arith, most, spb, c.blocks-2.ensures.geometry.spb.1)

pub overflow_add-is_row : goal.overflow_add-is_row
overflow_add-is_row c =
    let low = blocks-low c.args.geometry.now (2 ^ 48) c.blocks-2.ensures.geometry in
    let spb : c.shape-spb.result.spb ≡ c.args.geometry.now.shape.spb = ap (λ (x : Shape). x.spb) c.shape-spb.ensures.shape in
    let most = order c.shape-spb.result.spb (c.min-room.result - 1) (2 ^ 48) (omega (arith, low, c.min-room.ensures, c.blocks-2.ensures.blocks)) in
    let end = (data_at-inside c.args.geometry.now (2 ^ 48) c.args.first c.blocks-2.ensures.geometry c.requires.first).1 in
    omega (arith, most, spb, c.blocks-2.ensures.geometry.spb.1, end, c.data_at-at.ensures)

pub loop-count-init : goal.loop-count-init
loop-count-init c =
    let g = c.args.geometry.now in
    let last = c.min-room.result - 1 in
    let row = row_by_last g (2 ^ 48) c.blocks-2.ensures.geometry c.args.first in
    let spb : c.shape-spb.result.spb ≡ g.shape.spb = ap (λ (x : Shape). x.spb) c.shape-spb.ensures.shape in
    let far : last * c.shape-spb.result.spb ≡ last * g.shape.spb = ap (λ n. last * n) spb in
    let none : data_at g (c.args.first + 0) ≡ data_at g c.args.first = ap (data_at g) (omega arith) in
    elim c.if-is_row.branch [
      | then-is_row w ↦ record {
        some = omega (arith, w.count-is, c.min-room.ensures, c.requires.most, c.requires.first, c.blocks-2.ensures.blocks);
        low = omega (arith, w.count-is);
        each = λ i less. row last (omega (arith, w.if-is_row, c.data_at.ensures, c.data_at-at.ensures, far)) i (omega (arith, less, w.count-is));
      }
      | else-is_row w ↦ record {
        some = omega (arith, w.count-is);
        low = omega (arith, w.count-is, c.min-room.ensures, c.requires.most, c.requires.first, c.blocks-2.ensures.blocks);
        each = λ i less. row 0 (omega (arith, none)) i (omega (arith, less, w.count-is));
      }
    ]
