-- The bitmap of a new image: what is written of it, and which of its bits are set.
use Rattle.std.proofs.Common.{◌≡◌, inl, inr, ℕ, ◌+◌, ◌-◌, ◌*◌, ◌/◌, ◌%◌, ◌<◌, ◌≤◌, ◌==◌, min, nat_lt, Bool, true, false, if◌then◌else◌, sym, ◌∙◌, ap, subst, arith, List, length, take, slice_index, slice_set}
use Rattle.std.specs.Int.{bit_at}
use Rattle.std.specs.Option.{option_map}
use Rattle.std.proofs.lemmas.Bool.{cases_lt, false_from_ne_true, lt-ltb, ltb-true}
use Rattle.std.proofs.lemmas.List.{get_or-set_other, get_or-set_same, get_or-take, get_or_past, length-take-le}
use Rattle.std.proofs.lemmas.Nat.Bits.{bit_at-zero, bit_at_ones, bit_at_ones_above}
use Rattle.disk_model.specs.Disk.{Content, Image, last_image, sector_in, with_run}
use Rattle.disk_model.specs.Moments.{content_now, HasNow}
use Rattle.disk_model.proofs.DiskLemmas.{last_image-with_run, last_image-with_run_out}
use Rattle.image_model.specs.Bitmap.{is_bit_set, is_dirty}
use Rattle.image_model.specs.Geometry.{Geometry, bitmap_sectors, regions}
use Rattle.image_model.specs.Sectors.{bytes_at}
use Rattle.image_model.proofs.Regions.{regions-le}
use Rattle.image_model.proofs.SectorLemmas.{length-bytes_at, sector_in-bytes_at}
use Rattle.place_model.proofs.TagsLemmas.{length-sector_in}
use Rattle.formatting_model.specs.Bits.{HasBits, HoldsBits, bits_byte}
use Rattle.formatting_model.proofs.RunsLemmas.{changed_now}
use Rattle.formatting_model.proofs.TaggingLemmas.{slice_index-sector_in}

-- ---- on a disk

-- A bitmap stays where its sectors do.
pub HasBits-same : (set at count : ℕ) (one other : Image) → ((k : ℕ) → k < count → other (at + k) ≡ one (at + k)) → HasBits set at count one → HasBits set at count other
HasBits-same set at count one other same h = record {
  size = λ k low. ap length (same k low) ∙ h.size k low;
  each = λ p low. ap (λ (x : List ℕ). slice_index x (p % 512)) (same (p / 512) (omega (arith, low))) ∙ h.each p low;
}

bits_more : (set at done part : ℕ) (bytes : List ℕ) (c : Content) → length bytes ≡ 512 * part → ((i : ℕ) → i < 512 * part → slice_index bytes i ≡ bits_byte set (512 * done + i))
    → HasBits set at done (last_image c) → HasBits set at (done + part) (last_image (with_run (at + done) bytes c))
bits_more set at done part bytes c long holds so_far =
    let count : length bytes / 512 ≡ part = omega (arith, long) in
    let before : (k : ℕ) → k < done → last_image (with_run (at + done) bytes c) (at + k) ≡ last_image c (at + k) = λ k low.
    last_image-with_run_out (at + done) bytes c (at + k) (λ from to. omega (arith, low, from)) in
    let written : (k : ℕ) → k < part → last_image (with_run (at + done) bytes c) (at + (done + k)) ≡ sector_in bytes k = λ k low.
    last_image-with_run (at + done) bytes c (at + (done + k)) (omega arith) (omega (arith, count, low))
    ∙ ap (sector_in bytes) (let e : at + (done + k) - (at + done) ≡ k = omega arith in e) in
    record {
      size = λ k low. elim (cases_lt k done) [
        | inl under ↦ ap length (before k under) ∙ so_far.size k under
        | inr from ↦
            let is : k ≡ done + (k - done) = omega (arith, from) in
            let inside : k - done < part = omega (arith, low, from) in
            ap (λ (n : ℕ). length (last_image (with_run (at + done) bytes c) (at + n))) is
            ∙ ap length (written (k - done) inside) ∙ length-sector_in bytes (k - done) part long inside
      ];
      each = λ p low. elim (cases_lt p (512 * done)) [
        | inl under ↦ ap (λ (x : List ℕ). slice_index x (p % 512)) (before (p / 512) (omega (arith, under))) ∙ so_far.each p under
        | inr from ↦
            let q = p - 512 * done in
            let is : 512 * done + q ≡ p = omega (arith, from) in
            let sector : p / 512 ≡ done + q / 512 = omega (arith, is) in
            let byte : p % 512 ≡ q % 512 = omega (arith, is) in
            let inside : q < 512 * part = omega (arith, low, from) in
            ap (λ (n : ℕ). slice_index (last_image (with_run (at + done) bytes c) (at + n)) (p % 512)) sector
            ∙ ap (λ (n : ℕ). slice_index (last_image (with_run (at + done) bytes c) (at + (done + q / 512))) n) byte
            ∙ ap (λ (x : List ℕ). slice_index x (q % 512)) (written (q / 512) (omega (arith, inside)))
            ∙ slice_index-sector_in bytes q ∙ holds q inside ∙ ap (bits_byte set) is
      ];
    }

-- One more run of it.
pub bits_next : (a b : List Content) (set at done part : ℕ) (bytes : List ℕ) → length bytes ≡ 512 * part → ((i : ℕ) → i < 512 * part → slice_index bytes i ≡ bits_byte set (512 * done + i))
    → HasNow (λ c. HasBits set at done (last_image c)) a → content_now b ≡ option_map (with_run (at + done) bytes) (content_now a) → HasNow (λ c. HasBits set at (done + part) (last_image c)) b
bits_next a b set at done part bytes long holds so_far written d told =
    let was = changed_now (with_run (at + done) bytes) (content_now a) (content_now b) written d told in
    subst (λ (x : Content). HasBits set at (done + part) (last_image x)) (sym was.2) (bits_more set at done part bytes was.0 long holds (so_far was.0 was.1))

-- ---- in a buffer

-- So many sectors are written at once: as many as the buffer has, or as are left.
pub sectors_at_once : (sectors part left : ℕ) (buffer : List ℕ) → length buffer ≡ 512 * sectors → part ≡ min (length buffer / 512) left
    → (part ≤ left) × (part ≤ sectors) × (length (take (512 * part) buffer) ≡ 512 * part) × (length (take (512 * part) buffer) / 512 ≡ part)
sectors_at_once sectors part left buffer long least =
    let few : part ≤ sectors = omega (arith, least, long) in
    let size : length (take (512 * part) buffer) ≡ 512 * part = length-take-le (512 * part) buffer (omega (arith, long, few)) in
    (omega (arith, least), few, size, omega (arith, size))

-- The first of them hold the bits that the buffer does.
pub first_bits : (set from sectors part : ℕ) (buffer : List ℕ) → length buffer ≡ 512 * sectors → part ≤ sectors → HoldsBits set from buffer
    → (i : ℕ) → i < 512 * part → slice_index (take (512 * part) buffer) i ≡ bits_byte set (from + i)
first_bits set from sectors part buffer long few holds i low = get_or-take (512 * part) buffer i 0 low ∙ holds i (omega (arith, long, few, low))

-- One byte more.
pub byte_put : (set from i y : ℕ) (bytes : List ℕ) → i < length bytes → y ≡ bits_byte set (from + i) → ((k : ℕ) → k < i → slice_index bytes k ≡ bits_byte set (from + k))
    → (k : ℕ) → k < i + 1 → slice_index (slice_set bytes i y) k ≡ bits_byte set (from + k)
byte_put set from i y bytes inside is so_far k low = elim (cases_lt k i) [
  | inl under ↦ get_or-set_other bytes i k y 0 (λ e. omega (arith, e, under)) ∙ so_far k under
  | inr past ↦
      let same : i ≡ k = omega (arith, low, past) in
      ap (slice_index (slice_set bytes i y)) (sym same) ∙ get_or-set_same bytes i y 0 inside ∙ is ∙ ap (λ (n : ℕ). bits_byte set (from + n)) same
]

-- ---- which bits are set

pub not_below : (n m : ℕ) → m ≤ n → nat_lt n m ≡ false
not_below n m past = false_from_ne_true (nat_lt n m) (λ e. let under = ltb-true n m e in absurd (omega (arith, past, under)))

-- A bit of a byte is set where it is one of the first.
bit_of_byte : (set p j : ℕ) → j < 8 → (bit_at (bits_byte set p) j == 1) ≡ nat_lt (8 * p + j) set
bit_of_byte set p j low = elim (cases_lt (8 * p + j) set) [
  | inl under ↦ ap (λ (x : ℕ). x == 1) (bit_at_ones (min 8 (set - 8 * p)) j (omega (arith, low, under))) ∙ sym (lt-ltb (8 * p + j) set under)
  | inr past ↦ ap (λ (x : ℕ). x == 1) (bit_at_ones_above (min 8 (set - 8 * p)) j (omega (arith, past))) ∙ sym (not_below (8 * p + j) set past)
]

-- The bits of the first regions are set in an image with such a bitmap, and no other.
pub bits_are : (set : ℕ) (g : Geometry) (image : Image) → set ≤ 4096 * bitmap_sectors g → HasBits set 8 (bitmap_sectors g) image → (region : ℕ) → is_dirty g image region ≡ nat_lt region set
unfolding is_bit_set
bits_are set g image fits h region =
    let count = bitmap_sectors g in
    let bytes = bytes_at image 8 count in
    let p = region / 8 in
    let whole : (sector : ℕ) → 8 ≤ sector → sector < 8 + count → length (image sector) ≡ 512 = λ sector from to.
    let is : 8 + (sector - 8) ≡ sector = omega (arith, from) in
    ap (λ (n : ℕ). length (image n)) (sym is) ∙ h.size (sector - 8) (omega (arith, from, to)) in
    let long : length bytes ≡ 512 * count = length-bytes_at image 8 count whole in
    let place : 8 * p + region % 8 ≡ region = omega arith in
    elim (cases_lt p (512 * count)) [
      | inl inside ↦
          let byte : slice_index bytes p ≡ bits_byte set p =
          sym (slice_index-sector_in bytes p)
          ∙ ap (λ (x : List ℕ). slice_index x (p % 512)) (sector_in-bytes_at image 8 count (p / 512) whole (omega (arith, inside)))
          ∙ h.each p inside in
          ap (λ (x : ℕ). bit_at x (region % 8) == 1) byte ∙ bit_of_byte set p (region % 8) (omega arith) ∙ ap (λ (n : ℕ). nat_lt n set) place
      | inr past ↦
          ap (λ (x : ℕ). bit_at x (region % 8) == 1) (get_or_past bytes p 0 (omega (arith, long, past)))
          ∙ ap (λ (x : ℕ). x == 1) (bit_at-zero (region % 8))
          ∙ sym (not_below region set (omega (arith, fits, past, place)))
    ]

-- All regions, or none, have their bits in a bitmap.
pub set_fits : (all : Bool) (g : Geometry) → (if all then regions g else 0) ≤ 4096 * bitmap_sectors g
set_fits true g = regions-le g
set_fits false g = omega arith
