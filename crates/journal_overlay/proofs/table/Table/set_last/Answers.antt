use Rattle.std.proofs.Common.{◌≡◌, ◌<◌, ℕ, length, get_or, bit_or, ◌∙◌, ap, arith, length-set}
use Rattle.std.proofs.lemmas.List.{get_or_default}
use Rattle.journal_overlay.specs.Slots.{home_of, slot_of}
use Rattle.journal_overlay.proofs.SlotsLemmas.{HasBits-set, home_of-below}
use Rattle.journal_overlay.proofs.table.Table.set_last.Goals as goal

pub invariant_of-self : goal.invariant_of-self
invariant_of-self c =
    let table = c.args.self.now in let key = c.args.key in let home = home_of table.homes key in
    let there : home < length table.bits.items = omega (arith, home_of-below table.homes key c.requires.homes, table.of_homes) in
    let bits : c.index.result.now ≡ get_or table.bits.items home 0 =
    c.index.ensures ∙ get_or_default table.bits.items c.home_of-home.result c.index.result.now 0 (rw c.home_of-home.ensures.home there) ∙ ap (λ (h : ℕ). get_or table.bits.items h 0) c.home_of-home.ensures.home in
    record {
      has_bits = rw (bits, c.slot_of-slot.ensures, c.with.ensures, c.bit_of.ensures, c.home_of-home.ensures.home)
          (HasBits-set table.homes table.bits.items table.slots.items key (slot_of table.homes table.slots.items key) c.args.last c.requires.room there table.has_bits);
      of_homes = length-set table.bits.items c.home_of-home.result (bit_or c.index.result.now c.bit_of.result) ∙ table.of_homes;
    }
