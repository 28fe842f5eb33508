use Rattle.std.proofs.Common.{◌≡◌, ℕ, ◌<◌, false, get_or}
use Rattle.journal_overlay.specs.Slots.{stops}
use Rattle.journal_overlay.specs.declared.table.Slot.TheVariants.{Free}
use Rattle.journal_overlay.proofs.table.first_stop.Given as goal

abbrev pub invariant-loop-n : goal.invariant-loop-n
invariant-loop-n l = (k : ℕ) → k < l.n → stops l.key (get_or l.slots k Free) ≡ false
