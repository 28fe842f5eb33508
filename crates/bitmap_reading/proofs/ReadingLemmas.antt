-- Bits that are read of one sector, and their count word by word.
use Rattle.std.proofs.Common.{◌≡◌, ℕ, ◌+◌, ◌-◌, ◌*◌, ◌/◌, ◌%◌, ◌^◌, ◌<◌, ◌==◌, min, Bool, sym, ◌∙◌, ap, arith, count_ones, length}
use Rattle.std.specs.Int.{bit_at}
use Rattle.std.specs.List.{count_by, range_with_len}
use Rattle.std.proofs.lemmas.Nat.{mod_below, pow_pos}
use Rattle.std.proofs.lemmas.Nat.Bits.{bit_at_cat_low}
use Rattle.std.proofs.Math.Nat.{div-add-mod'}
use Rattle.disk_model.specs.Disk.{Image}
use Rattle.image_model.specs.Bitmap.{is_bit_set, is_dirty}
use Rattle.image_model.specs.Geometry.{Geometry, regions}
use Rattle.bitmap_model.specs.BitmapDisk.{bit_in, bit_sector}
use Rattle.bitmap_model.proofs.BitLemmas.{is_dirty-at}
use Rattle.dirty_bitmap.proofs.RangeLemmas.{count_add, count_ones-range}
use Rattle.bitmap_reading.specs.Bitmap.{HasBitmap}

-- The lowest bits of a number are those of what is left behind a power of two.
pub bit_at-rest : (word bits i : ℕ) → i < bits → bit_at (word % 2 ^ bits) i ≡ bit_at word i
bit_at-rest word bits i low =
    sym (bit_at_cat_low (word / 2 ^ bits) bits (word % 2 ^ bits) i low)
    ∙ ap (λ (n : ℕ). bit_at n i) (div-add-mod' word (2 ^ bits))

-- Those of one word more are counted, or of a part of it where the numbers end there.
pub counted_more : (p : ℕ → Bool) (size at word count bits : ℕ) → 64 * at < size → bits ≡ min (size - 64 * at) 64
    → ((i : ℕ) → i < bits → p (64 * at + i) ≡ (bit_at word i == 1))
    → count ≡ count_by p (range_with_len 0 (min (64 * at) size))
    → count + count_ones (word % 2 ^ bits) ≡ count_by p (range_with_len 0 (min (64 * (at + 1)) size))
counted_more p size at word count bits low bits_are same counted =
    let before : min (64 * at) size ≡ 64 * at = omega arith in
    let after : min (64 * (at + 1)) size ≡ 64 * at + bits = omega arith in
    let here : count ≡ count_by p (range_with_len 0 (64 * at)) = counted ∙ ap (λ n. count_by p (range_with_len 0 n)) before in
    let begins : 0 + 64 * at ≡ 64 * at = omega arith in
    let ones : count_ones (word % 2 ^ bits) ≡ count_by p (range_with_len (64 * at) bits) =
    count_ones-range p bits (64 * at) (word % 2 ^ bits) (mod_below word (2 ^ bits) (pow_pos bits))
    (λ i inside. same i inside ∙ ap (λ (b : ℕ). b == 1) (sym (bit_at-rest word bits i inside))) in
    let all = count_add p 0 (64 * at) bits in
    let part = ap (λ n. count_by p (range_with_len n bits)) begins in
    let split = ap (λ n. count_by p (range_with_len 0 n)) after in
    omega (arith, here, ones, all, part, split)

-- A bit of a word that was read is that of its region.
pub word_dirty : (g : Geometry) (sectors at word i : ℕ) (image : Image) → HasBitmap g sectors → 64 * at + i < regions g → i < 64
    → ((sector : ℕ) → sector < sectors → length (image sector) ≡ 512)
    → is_bit_set (image (8 + at / 64)) (64 * (at % 64) + i) ≡ (bit_at word i == 1)
    → is_dirty g image (64 * at + i) ≡ (bit_at word i == 1)
word_dirty g sectors at word i image has low inside whole read =
    let sector : bit_sector (64 * at + i) ≡ 8 + at / 64 = omega arith in
    let bit : bit_in (64 * at + i) ≡ 64 * (at % 64) + i = omega arith in
    is_dirty-at g sectors has.geometry has.fits (64 * at + i) low image whole
    ∙ ap (λ (s : ℕ). is_bit_set (image s) (bit_in (64 * at + i))) sector
    ∙ ap (is_bit_set (image (8 + at / 64))) bit
    ∙ read
