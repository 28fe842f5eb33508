use Rattle.std.proofs.Common.{◌≡◌, ◌*◌, ◌≤◌}
use Rattle.std.specs.List.{count_by, range_with_len}
use Rattle.image_model.specs.Bitmap.{is_bit_set}
use Rattle.dirty_bitmap.proofs.words.count_bits.Given as goal

abbrev pub invariant-loop-at : goal.invariant-loop-at
invariant-loop-at l = record {
  counted : l.count ≡ count_by (is_bit_set l.bytes) (range_with_len 0 (64 * l.at));
  few : l.count ≤ 64 * l.at;
}
