-- A set of regions by the bytes of its bitmap.
use Rattle.std.proofs.Common.{◌≡◌, ◌∙◌, ℕ, ◌+◌, ◌-◌, ◌*◌, ◌/◌, ◌%◌, ◌^◌, ◌<◌, ◌≤◌, ◌==◌, Bool, sym, ap, subst, arith, List, length, take, drop, slice_index, find}
use Rattle.std.specs.Int.{bit_at}
use Rattle.std.specs.List.{count_by, range_with_len}
use Rattle.std.proofs.lemmas.List.{get_or-drop, get_or-take}
use Rattle.image_model.specs.Bitmap.{is_bit_set}
use Rattle.image_model.proofs.SectorLemmas.{length-piece}
use Rattle.device_model.specs.Regions.{with_region}
use Rattle.bitmap_model.proofs.BitLemmas.{with_region-other}
use Rattle.dirty_bitmap.specs.Regions.{IsBitmap, IsSectorOf, Regions, count_in, next_in, set_sectors}
use Rattle.dirty_bitmap.proofs.RangeLemmas.{count_to, find_to}

-- A region has its bit in the bytes.
pub byte_inside : (size : ℕ) (bytes : List ℕ) → length bytes ≡ 512 * set_sectors size → (region : ℕ) → region < size → region / 8 < length bytes
byte_inside size bytes whole region low = omega arith

-- There are whole words.
pub whole_words : (size : ℕ) (bytes : List ℕ) → IsBitmap size bytes → (length bytes ≡ 8 * (length bytes / 8)) × (length bytes < 2 ^ 60) × (size ≤ 8 * length bytes)
whole_words size bytes is = let whole = is.whole in let few = is.few in (omega arith, omega arith, omega arith)

-- Where one bit is changed that is of a region, it stays a bitmap.
pub IsBitmap-with : (size : ℕ) (old new : List ℕ) (region : ℕ) (value : Bool) → IsBitmap size old → length new ≡ length old → region < size
    → ((r : ℕ) → is_bit_set new r ≡ with_region region value (is_bit_set old) r) → IsBitmap size new
IsBitmap-with size old new region value is long low has = record {
  few = is.few;
  whole = long ∙ is.whole;
  unused = λ r above. has r ∙ with_region-other region r value (is_bit_set old) (λ e. omega (arith, e)) ∙ is.unused r above;
}

-- A sector of the bitmap.
pub IsSectorOf-piece : (s : Regions) → IsBitmap s.size s.bytes → (k : ℕ) → k < set_sectors s.size → IsSectorOf s k (take 512 (drop (512 * k) s.bytes))
unfolding is_bit_set
IsSectorOf-piece s is k inside =
    let whole = is.whole in
    let piece = take 512 (drop (512 * k) s.bytes) in
    let read : (region : ℕ) → 4096 * k ≤ region → region < 4096 * k + 4096 → is_bit_set piece (region - 4096 * k) ≡ is_bit_set s.bytes region = λ region above under.
    let place : 512 * k + (region - 4096 * k) / 8 ≡ region / 8 = omega arith in
    let bit : (region - 4096 * k) % 8 ≡ region % 8 = omega arith in
    ap (λ (x : ℕ). bit_at x ((region - 4096 * k) % 8) == 1)
    (get_or-take 512 (drop (512 * k) s.bytes) ((region - 4096 * k) / 8) 0 (omega arith) ∙ get_or-drop (512 * k) s.bytes ((region - 4096 * k) / 8) 0 ∙ ap (slice_index s.bytes) place)
    ∙ ap (λ (n : ℕ). bit_at (slice_index s.bytes (region / 8)) n == 1) bit in
    record {
      whole = length-piece s.bytes (512 * k) 512 (omega arith);
      each = λ region low above under. read region above under;
      unused = λ region high above under. read region above under ∙ is.unused region high;
    }

-- ---- what contracts see

-- The set, as it is seen.
abbrev Sees : ℕ → List ℕ → Regions → Type 0
Sees size bytes s = let seen : Regions = record { size = size; bytes = bytes } in seen ≡ s

pub sector_shown : (s : Regions) (size : ℕ) (bytes shown : List ℕ) (k : ℕ) → IsBitmap size bytes → Sees size bytes s → shown ≡ bytes → k < set_sectors s.size
    → (part : List ℕ) → part ≡ take 512 (drop (512 * k) shown) → IsSectorOf s k part
sector_shown s size bytes shown k is sees value inside part same =
    let seen : Regions = record { size = size; bytes = bytes } in
    let low : k < set_sectors size = subst (λ (n : ℕ). k < set_sectors n) (sym (ap (λ (r : Regions). r.size) sees)) inside in
    subst (λ (r : Regions). IsSectorOf r k part) sees
    (subst (λ (xs : List ℕ). IsSectorOf seen k xs) (sym (same ∙ ap (λ (xs : List ℕ). take 512 (drop (512 * k) xs)) value)) (IsSectorOf-piece seen is k low))

pub next_shown : (s : Regions) (size : ℕ) (bytes shown : List ℕ) (from : ℕ) → IsBitmap size bytes → Sees size bytes s → shown ≡ bytes
    → find (is_bit_set shown) (range_with_len from (8 * length shown - from)) ≡ next_in s from
next_shown s size bytes shown from is sees value =
    let words = whole_words size bytes is in
    ap (λ (xs : List ℕ). find (is_bit_set xs) (range_with_len from (8 * length xs - from))) value
    ∙ find_to (is_bit_set bytes) from size (8 * length bytes) words.2 is.unused
    ∙ ap (λ (r : Regions). next_in r from) sees

pub count_shown : (s : Regions) (size : ℕ) (bytes shown : List ℕ) → IsBitmap size bytes → Sees size bytes s → shown ≡ bytes
    → count_by (is_bit_set shown) (range_with_len 0 (8 * length shown)) ≡ count_in s
count_shown s size bytes shown is sees value =
    let words = whole_words size bytes is in
    ap (λ (xs : List ℕ). count_by (is_bit_set xs) (range_with_len 0 (8 * length xs))) value
    ∙ count_to (is_bit_set bytes) size (8 * length bytes) words.2 is.unused
    ∙ ap (λ (r : Regions). count_in r) sees
