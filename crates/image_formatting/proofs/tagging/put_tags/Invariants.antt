use Rattle.std.proofs.Common.{◌≡◌, ℕ, ◌*◌, ◌≤◌, length, slice_index}
use Rattle.formatting_model.specs.Blocks.{HoldsTags}
use Rattle.image_formatting.proofs.tagging.put_tags.Given as goal

abbrev pub invariant-loop-i : goal.invariant-loop-i
invariant-loop-i l = record {
  tags : HoldsTags l.maker l.shape.spb l.first (l.i * l.shape.tag) l.bytes;
  behind : (p : ℕ) → l.i * l.shape.tag ≤ p → slice_index l.bytes p ≡ slice_index l.fn.bytes p;
  len : length l.bytes ≡ length l.fn.bytes;
}
