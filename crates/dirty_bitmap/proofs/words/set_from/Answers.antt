use Rattle.std.proofs.Common.{◌≡◌, ◌+◌, ◌-◌, ◌/◌, ◌∙◌, ap, arith, sym, ℕ, Bool, true, if◌then◌else◌, [], length, drop, replicate, slice_index, slice_set, bit_or, refl, length-set, length-drop, length-take}
use Rattle.std.proofs.lemmas.Bool.{lt-ltb}
use Rattle.std.proofs.lemmas.List.{drop_all}
use Rattle.image_model.specs.Bitmap.{is_bit_set}
use Rattle.dirty_bitmap.proofs.WordLemmas.{is_bit_set-above, slice_index-filled}
use Rattle.dirty_bitmap.proofs.words.set_from.Goals as goal

pub returns-then-at-bytes : goal.returns-then-at-bytes
returns-then-at-bytes c r inside = sym (ap (λ (t : Bool). if t then is_bit_set c.args.bytes.now r else true) (lt-ltb r c.args.from (let short = c.if-at-bytes.true in omega (arith, short, inside))))

pub returns : goal.returns
returns c r inside =
    let bytes = c.args.bytes.now in
    let at : ℕ = c.args.from / 8 in
    let y = bit_or (slice_index bytes at) (255 - c.low_bits.result) in
    let changed = slice_set bytes at y in
    let ones = c.fill.new.self in
    let are : ones ≡ replicate (length ones) 255 = c.fill.ensures.after (λ z e. e) ∙ ap (λ (n : ℕ). replicate n 255) (sym c.fill.ensures.len) in
    let none : drop (length changed - (at + 1)) (drop (at + 1) changed) ≡ [] = drop_all (length changed - (at + 1)) (drop (at + 1) changed) (omega (arith, length-drop (at + 1) changed)) in
    let parts = slice_index-filled bytes ones (drop (length changed - (at + 1)) (drop (at + 1) changed)) _ at y 255 c.if-at-bytes.false are none refl in
    let rest : length ones ≡ length changed - (at + 1) = let long = c.fill.auto.self in omega (arith, long, length-drop (at + 1) changed, length-take (length changed - (at + 1)) (drop (at + 1) changed)) in
    is_bit_set-above bytes _ c.args.from c.low_bits.result c.low_bits.ensures parts.0 parts.1 parts.2 r (omega (arith, inside, parts.3, rest, length-set bytes at y))
