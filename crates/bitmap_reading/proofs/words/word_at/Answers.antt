use Rattle.std.proofs.Common.{◌≡◌, ◌==◌, ◌*◌, ℕ, ap, sym, ◌∙◌, drop}
use Rattle.std.proofs.lemmas.List.{take_rest}
use Rattle.std.proofs.Math.Facts.{Fits-lt-pow}
use Rattle.std.specs.Int.{bit_at}
use Rattle.byteorder.specs.Endian.{little_from}
use Rattle.dirty_bitmap.proofs.WordLemmas.{is_bit_set-word}
use Rattle.bitmap_reading.proofs.words.word_at.Goals as goal

pub returns : goal.returns
returns c i inside =
    let bytes = c.args.bytes.now in
    let word : c.read_u64.result ≡ little_from 0 8 (drop (8 * c.args.at) bytes) = c.read_u64.ensures ∙ ap (little_from 0 8) (take_rest bytes (8 * c.args.at)) in
    is_bit_set-word bytes (λ k. Fits-lt-pow (c.type_inv.bytes k)) c.args.at i inside ∙ ap (λ (x : ℕ). bit_at x i == 1) (sym word)
