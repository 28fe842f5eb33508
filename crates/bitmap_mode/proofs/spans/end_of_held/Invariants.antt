use Rattle.std.proofs.Common.{◌≡◌, false, take}
use Rattle.bitmap_mode.specs.Cleaning.{is_held}
use Rattle.bitmap_mode.proofs.spans.end_of_held.Given as goal

abbrev pub invariant-loop-span : goal.invariant-loop-span
invariant-loop-span l = is_held (take l.span-index l.held) l.region ≡ false
