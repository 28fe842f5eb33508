use Rattle.std.proofs.Common.{ap, arith, ◌∙◌, ◌%◌, ◌^◌, ◌==◌, length-take, length-drop, take, drop, w8}
use Rattle.std.specs.Simd.Lanes.{mask_l, zip2}
use Rattle.std.proofs.lemmas.Simd.{tops_compared, length-zip2, mask_l-mod}
use Rattle.script_text.proofs.singles.equal_to_next.Goals as goal

pub returns : goal.returns
returns c =
    let bytes = c.args.bytes.now in
    let eight = length-take 8 bytes in
    let next = length-take 8 (drop 1 bytes) in
    let behind = length-drop 1 bytes in
    let more = c.requires.more in
    let size = length-zip2 (λ x y. x == y) (take 8 bytes) (take 8 (drop 1 bytes)) (omega (arith, eight, next, behind, more)) in
    ap (λ ms. mask_l ms % 2 ^ 64) (tops_compared w8 (λ x y. x == y) (take 8 bytes) (take 8 (drop 1 bytes)))
    ∙ mask_l-mod (zip2 (λ x y. x == y) (take 8 bytes) (take 8 (drop 1 bytes))) 64 (omega (arith, size, eight, more))
