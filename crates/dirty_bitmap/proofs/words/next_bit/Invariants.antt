use Rattle.std.proofs.Common.{◌≡◌, ◌*◌, ◌<◌, ◌≤◌, ℕ, false}
use Rattle.image_model.specs.Bitmap.{is_bit_set}
use Rattle.dirty_bitmap.proofs.words.next_bit.Given as goal

-- No bit from `from` up to this word is set.
abbrev pub invariant-loop-at : goal.invariant-loop-at
invariant-loop-at l = (i : ℕ) → l.fn.from ≤ i → i < 64 * l.at → is_bit_set l.bytes i ≡ false
