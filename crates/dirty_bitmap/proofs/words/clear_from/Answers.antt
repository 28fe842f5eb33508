use Rattle.std.proofs.Common.{◌≡◌, ◌+◌, ◌-◌, ◌/◌, ◌∙◌, ap, arith, sym, ℕ, [], length, drop, replicate, slice_index, slice_set, bit_and, refl, length-drop}
use Rattle.std.proofs.lemmas.List.{drop_all}
use Rattle.dirty_bitmap.proofs.WordLemmas.{is_bit_set-below, is_bit_set-short, slice_index-cleared}
use Rattle.dirty_bitmap.proofs.words.clear_from.Goals as goal

pub returns-then-at-bytes : goal.returns-then-at-bytes
returns-then-at-bytes c = is_bit_set-short c.args.bytes.now c.args.from c.if-at-bytes.true

pub returns : goal.returns
returns c =
    let bytes = c.args.bytes.now in
    let at : ℕ = c.args.from / 8 in
    let y = bit_and (slice_index bytes at) c.low_bits.result in
    let changed = slice_set bytes at y in
    let zeros = c.fill.new.self in
    let are : zeros ≡ replicate (length zeros) 0 = c.fill.ensures.after (λ z e. e) ∙ ap (λ (n : ℕ). replicate n 0) (sym c.fill.ensures.len) in
    let none : drop (length changed - (at + 1)) (drop (at + 1) changed) ≡ [] = drop_all (length changed - (at + 1)) (drop (at + 1) changed) (omega (arith, length-drop (at + 1) changed)) in
    let parts = slice_index-cleared bytes zeros (drop (length changed - (at + 1)) (drop (at + 1) changed)) _ at y c.if-at-bytes.false are none refl in
    is_bit_set-below bytes _ c.args.from parts.0 (parts.1 ∙ ap (bit_and (slice_index bytes at)) c.low_bits.ensures) parts.2
