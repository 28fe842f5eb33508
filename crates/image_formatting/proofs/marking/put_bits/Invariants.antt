use Rattle.std.proofs.Common.{◌≡◌, ℕ, ◌+◌, ◌<◌, length, slice_index}
use Rattle.formatting_model.specs.Bits.{bits_byte}
use Rattle.image_formatting.proofs.marking.put_bits.Given as goal

-- The bytes before this one are put.
abbrev pub invariant-loop-i : goal.invariant-loop-i
invariant-loop-i l = record {
  bits : (k : ℕ) → k < l.i → slice_index l.bytes k ≡ bits_byte l.set (l.from + k);
  len : length l.bytes ≡ length l.fn.bytes;
}
