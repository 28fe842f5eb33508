-- How long the texts are.
use Rattle.std.proofs.Common.{◌≡◌, ℕ, ◌+◌, ◌*◌, ◌^◌, ◌<◌, ◌≤◌, List, length, arith, length-append, Option, Some, None}
use Rattle.std.specs.Option.{IfSome, SomeIff}
use Rattle.std.specs.Fmt.{decimal}
use Rattle.hex.specs.Hex.{lower_digits}
use Rattle.hex.proofs.HexLemmas.{length-encode_with}
use Rattle.device_model.specs.Reply.{Bytes, TagFault}
use Rattle.device_model.specs.Transcript.{read_text, write_text}
use Rattle.device_model.proofs.StretchesLemmas.{length-stretches_text-le}
use Rattle.script_text.specs.Told.{mirror_fault_text}

pub length-write_text : (first count : ℕ) → length (write_text first count) ≡ 11 + length (decimal first) + length (decimal count)
length-write_text first count = simp length-append (omega arith)

pub length-read_text : (first count : ℕ) (bytes : List ℕ) → length bytes < 2 ^ 64
    → length (read_text first count (Bytes bytes)) ≤ 11 + length (decimal first) + length (decimal count) + 5 * length bytes
length-read_text first count bytes small =
    let runs = length-stretches_text-le bytes small in
    simp length-append (omega arith)

pub length-fault_text : (block : ℕ) (stored computed : List ℕ)
    → length (read_text 0 0 (TagFault block stored computed)) ≡ 31 + length (decimal block) + 2 * (length stored + length computed)
length-fault_text block stored computed =
    let one = length-encode_with lower_digits stored in
    let other = length-encode_with lower_digits computed in
    simp length-append (omega arith)

pub length-mirror_fault_text : (block : ℕ) (stored computed second_stored second_computed : List ℕ)
    → length (mirror_fault_text block stored computed second_stored second_computed)
    ≡ 56 + length (decimal block) + 2 * ((length stored + length computed) + (length second_stored + length second_computed))
length-mirror_fault_text block stored computed second_stored second_computed =
    let one = length-encode_with lower_digits stored in
    let other = length-encode_with lower_digits computed in
    let third = length-encode_with lower_digits second_stored in
    let last = length-encode_with lower_digits second_computed in
    simp length-append (omega arith)

-- ---- bounds of what was found

pub IfSome-from_iff : (found : Option ℕ) (P : Type 0) (value low : ℕ) → SomeIff found P value → low ≤ value → IfSome found (λ n. low ≤ n)
IfSome-from_iff (Some n) P value low (holds, is) below = omega (arith, is, below)
IfSome-from_iff None P value low none below = tt

pub IfSome-lower : (found : Option ℕ) (low high : ℕ) → IfSome found (λ n. high ≤ n) → low ≤ high → IfSome found (λ n. low ≤ n)
IfSome-lower (Some n) low high some below = omega (arith, some, below)
IfSome-lower None low high some below = tt
