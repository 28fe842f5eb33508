use Rattle.std.proofs.Common.{◌≡◌, ◌<◌, ℕ, length, get_or, sym, ◌∙◌, ap, arith}
use Rattle.std.proofs.lemmas.List.{get_or_default}
use Rattle.journal_overlay.specs.Slots.{bit_of, HasBit, home_of}
use Rattle.journal_overlay.proofs.SlotsLemmas.{free-without_bit}
use Rattle.journal_overlay.proofs.table.Table.found.Goals as goal

pub returns-then-index-bit : goal.returns-then-index-bit
returns-then-index-bit c =
    let table = c.args.self.now in let home = home_of table.homes c.args.key in
    let there : c.home_of.result < length table.bits.items = omega (arith, c.home_of.ensures.below, table.of_homes) in
    let bits : c.index.result.now ≡ get_or table.bits.items home 0 =
    c.index.ensures ∙ get_or_default table.bits.items c.home_of.result c.index.result.now 0 there ∙ ap (λ (h : ℕ). get_or table.bits.items h 0) c.home_of.ensures.home in
    sym (free-without_bit table.homes table.bits.items table.slots.items c.args.key table.has_bits
    (λ (has : HasBit (get_or table.bits.items home 0) (bit_of c.args.key)). c.if-index-bit.true (rw (bits, c.bit_of-bit.ensures) has)))
