use Rattle.std.proofs.Common.{◌≡◌, ℕ, ◌+◌, ◌*◌, ◌-◌, ◌∙◌, ap, take, drop, arith}
use Rattle.image_model.specs.Grid.{is_zero_sector}
use Rattle.journal_section.proofs.sectors.is_zero.Goals as goal

pub returns : goal.returns
returns c =
    let bytes = c.args.bytes.now in
    let from = 512 * c.args.j in
    let size : from + 512 - from ≡ 512 = omega arith in
    c.are_zero.ensures ∙ ap (λ (count : ℕ). is_zero_sector (take count (drop from bytes))) size
