use Rattle.std.proofs.Common.{◌≡◌, ◌+◌, ◌*◌, ◌≤◌, ◌++◌, drop, vec_len, vec_capacity}
use Rattle.hex.specs.Hex.{encode_lower}
use Rattle.script_text.proofs.pieces.put_hex.Given as goal

abbrev pub invariant-loop-byte : goal.invariant-loop-byte
invariant-loop-byte l = record {
  written : l.text.items ++ encode_lower (drop l.byte-index l.bytes) ≡ l.fn.text.items ++ encode_lower l.bytes;
  len : vec_len l.text ≡ vec_len l.fn.text + 2 * l.byte-index;
  capacity : vec_capacity l.fn.text ≤ vec_capacity l.text;
}
