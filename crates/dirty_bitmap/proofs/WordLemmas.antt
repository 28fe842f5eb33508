-- Bits of bytes, of the words that they make, and of bytes that are changed.
use Rattle.std.proofs.Common.{◌≡◌, ◌≢◌, ◌⊎◌, inl, inr, ℕ, zero, suc, ◌+◌, ◌-◌, ◌*◌, ◌/◌, ◌%◌, ◌^◌, ◌<◌, ◌≤◌, ◌==◌, max, min, Bool, true, false, if◌then◌else◌, nat_lt, sym, ◌∙◌, ap, subst, arith, List, [], ◌++◌, length, take, drop, replicate, slice_index, slice_set, bit_and, bit_or, length-append, length-take, Some, find, count_ones}
use Rattle.std.specs.List.{count_by, range_with_len}
use Rattle.std.specs.Int.{bit_at, w8}
use Rattle.std.proofs.lemmas.Bool.{cases_eq, cases_lt, lt-ltb, ltb-true, false_from_ne_true}
use Rattle.std.proofs.lemmas.List.{get_or-drop, get_or-set_same, get_or-set_other, get_or_append_left, get_or-append-add, get_or-take, get_or-replicate, get_or_past, append-nil, length-set, length-replicate}
use Rattle.std.proofs.lemmas.Nat.{pow_pos}
use Rattle.std.proofs.lemmas.Nat.Bits.{bit_at-lt, bit_at_mask_inside, bit_at_mask_below, ones_shl, bit_at_cat_low, bit_at_cat_high, bit_at_set_same, bit_at_set_other, bit_at_clear_same, bit_at_clear_other, bit_at_and, bit_at_or, bit_at_ones, bit_at_ones_above, bit_at-zero}
use Rattle.byteorder.specs.Endian.{little_from}
use Rattle.image_model.specs.Bitmap.{is_bit_set}
use Rattle.device_model.specs.Regions.{with_region}
use Rattle.dirty_bitmap.proofs.RangeLemmas.{count_add, count_ones-range, find_some_is}
use Rattle.bitmap_model.proofs.BitLemmas.{with_region-here, with_region-other}

-- ---- words

-- A bit of a number that stands in bytes is one of these.
pub bit_at-little_from : (xs : List ℕ) → ((k : ℕ) → slice_index xs k < 256) → (n j i : ℕ) → i < 8 * n → bit_at (little_from j n xs) i ≡ bit_at (slice_index xs (j + i / 8)) (i % 8)
bit_at-little_from xs low zero j i inside = absurd (omega arith)
bit_at-little_from xs low (suc n) j i inside =
    let byte = slice_index xs j in
    let rest = little_from (suc j) n xs in
    let is : byte + 256 * rest ≡ rest * 2 ^ 8 + byte = omega arith in
    let some : byte < 2 ^ 8 = low j in
    ap (λ (x : ℕ). bit_at x i) is ∙ elim (cases_lt i 8) [
      | inl under ↦
          let at : j + i / 8 ≡ j = omega arith in
          let bit : i % 8 ≡ i = omega arith in
          bit_at_cat_low rest 8 byte i under ∙ sym (ap (λ (k : ℕ). bit_at (slice_index xs k) (i % 8)) at ∙ ap (bit_at byte) bit)
      | inr above ↦
          let at : suc j + (i - 8) / 8 ≡ j + i / 8 = omega arith in
          let bit : (i - 8) % 8 ≡ i % 8 = omega arith in
          bit_at_cat_high rest 8 byte i some above ∙ bit_at-little_from xs low n (suc j) (i - 8) (omega arith)
          ∙ ap (λ (k : ℕ). bit_at (slice_index xs k) ((i - 8) % 8)) at ∙ ap (bit_at (slice_index xs (j + i / 8))) bit
    ]

-- A bit of the word in eight bytes.
pub is_bit_set-word : (bytes : List ℕ) → ((k : ℕ) → slice_index bytes k < 256) → (at i : ℕ) → i < 64 → is_bit_set bytes (64 * at + i) ≡ (bit_at (little_from 0 8 (drop (8 * at) bytes)) i == 1)
unfolding is_bit_set
is_bit_set-word bytes low at i inside =
    let place : 8 * at + (0 + i / 8) ≡ (64 * at + i) / 8 = omega arith in
    let bit : i % 8 ≡ (64 * at + i) % 8 = omega arith in
    let moved : (k : ℕ) → slice_index (drop (8 * at) bytes) k ≡ slice_index bytes (8 * at + k) = λ k. get_or-drop (8 * at) bytes k 0 in
    ap (λ (x : ℕ). x == 1) (sym (
    bit_at-little_from (drop (8 * at) bytes) (λ k. subst (λ (x : ℕ). x < 256) (sym (moved k)) (low (8 * at + k))) 8 0 i inside
    ∙ ap (λ (x : ℕ). bit_at x (i % 8)) (moved (0 + i / 8) ∙ ap (slice_index bytes) place)
    ∙ ap (bit_at (slice_index bytes ((64 * at + i) / 8))) bit
    ))

-- ---- the least bit of a word

-- The bits of a word from bit k on.
abbrev pub high_bits : ℕ → ℕ → ℕ
high_bits word k = bit_and word ((2 ^ 64 - 1) * 2 ^ k % 2 ^ 64)

high_bits-above : (word k i : ℕ) → k < 64 → k ≤ i → i < 64 → bit_at (high_bits word k) i ≡ bit_at word i
high_bits-above word k i low above inside =
    let mask = ones_shl 64 k (omega arith) in
    let one : bit_at word i < 2 = bit_at-lt word i in
    ap (λ (m : ℕ). bit_at (bit_and word m) i) mask ∙ bit_at_and word (2 ^ 64 - 2 ^ k) i
    ∙ ap (min (bit_at word i)) (bit_at_mask_inside k 64 i above inside) ∙ omega arith

high_bits-below : (word k i : ℕ) → k < 64 → i < k → bit_at (high_bits word k) i ≡ 0
high_bits-below word k i low under =
    let mask = ones_shl 64 k (omega arith) in
    ap (λ (m : ℕ). bit_at (bit_and word m) i) mask ∙ bit_at_and word (2 ^ 64 - 2 ^ k) i
    ∙ ap (min (bit_at word i)) (bit_at_mask_below k 64 i under) ∙ omega arith

-- The lowest bit that a word has set.
abbrev pub IsLowest : ℕ → ℕ → Type 0
IsLowest word bit = (bit < 64) × (bit_at word bit ≡ 1) × ((i : ℕ) → i < bit → bit_at word i ≡ 0)

module _ (bytes : List ℕ) (at word : ℕ) (is : (i : ℕ) → i < 64 → is_bit_set bytes (64 * at + i) ≡ (bit_at word i == 1)) where
  word_bit : (i b : ℕ) → i < 64 → bit_at word i ≡ b → is_bit_set bytes (64 * at + i) ≡ (b == 1)
  word_bit i b low e = is i low ∙ ap (λ (x : ℕ). x == 1) e

  -- None of the word's bits from one on is set,
  clear_in_word : (i : ℕ) → 64 * at ≤ i → i < 64 * at + 64 → bit_at word (i - 64 * at) ≡ 0 → is_bit_set bytes i ≡ false
  clear_in_word i above under e =
      let place : 64 * at + (i - 64 * at) ≡ i = omega arith in
      ap (is_bit_set bytes) (sym place) ∙ word_bit (i - 64 * at) 0 (omega arith) e

  -- The first word has one, not below `from`,
  pub first_found : (from bit : ℕ) → at ≡ from / 64 → 64 * at + 64 ≤ 8 * length bytes → IsLowest (high_bits word (from % 64)) bit
      → Some (64 * at + bit) ≡ find (is_bit_set bytes) (range_with_len from (8 * length bytes - from))
  first_found from bit place inside lowest =
      let k : ℕ = from % 64 in
      let low : k < 64 = omega arith in
      let above : k ≤ bit = not_below (cases_lt bit k) in
      sym (find_some_is (is_bit_set bytes) from (8 * length bytes - from) (64 * at + bit) (omega arith) (omega (arith, lowest.0))
      (word_bit bit 1 lowest.0 (sym (high_bits-above word k bit low above lowest.0) ∙ lowest.1))
      (λ i begins ends. clear_in_word i (omega arith) (omega (arith, lowest.0))
      (sym (high_bits-above word k (i - 64 * at) low (omega arith) (omega (arith, lowest.0))) ∙ lowest.2 (i - 64 * at) (omega arith))))
    where
      not_below : (bit < from % 64) ⊎ (from % 64 ≤ bit) → from % 64 ≤ bit
      not_below (inl under) = let none = high_bits-below word (from % 64) bit (omega arith) under in absurd (omega (arith, none, lowest.1))
      not_below (inr above) = above

  -- or none from there on.
  pub first_none : (from : ℕ) → at ≡ from / 64 → ((i : ℕ) → bit_at (high_bits word (from % 64)) i ≡ 0)
      → (i : ℕ) → from ≤ i → i < 64 * (at + 1) → is_bit_set bytes i ≡ false
  first_none from place none i begins ends =
      let low : from % 64 < 64 = omega arith in
      clear_in_word i (omega arith) (omega arith) (sym (high_bits-above word (from % 64) (i - 64 * at) low (omega arith) (omega arith)) ∙ none (i - 64 * at))

  -- So has a later one,
  pub later_found : (from bit : ℕ) → from ≤ 64 * at → 64 * at + 64 ≤ 8 * length bytes → ((i : ℕ) → from ≤ i → i < 64 * at → is_bit_set bytes i ≡ false)
      → IsLowest word bit → Some (64 * at + bit) ≡ find (is_bit_set bytes) (range_with_len from (8 * length bytes - from))
  later_found from bit begins inside before lowest =
      sym (find_some_is (is_bit_set bytes) from (8 * length bytes - from) (64 * at + bit) (omega arith) (omega (arith, lowest.0))
      (word_bit bit 1 lowest.0 lowest.1)
      (λ i above under. by_place i above under (cases_lt i (64 * at))))
    where
      by_place : (i : ℕ) → from ≤ i → i < 64 * at + bit → (i < 64 * at) ⊎ (64 * at ≤ i) → is_bit_set bytes i ≡ false
      by_place i above under (inl earlier) = before i above earlier
      by_place i above under (inr here) = clear_in_word i here (omega (arith, lowest.0)) (lowest.2 (i - 64 * at) (omega arith))

  -- or none.
  pub later_none : (from : ℕ) → ((i : ℕ) → from ≤ i → i < 64 * at → is_bit_set bytes i ≡ false) → ((i : ℕ) → bit_at word i ≡ 0)
      → (i : ℕ) → from ≤ i → i < 64 * (at + 1) → is_bit_set bytes i ≡ false
  later_none from before none i above under = by_place (cases_lt i (64 * at))
    where
      by_place : (i < 64 * at) ⊎ (64 * at ≤ i) → is_bit_set bytes i ≡ false
      by_place (inl earlier) = before i above earlier
      by_place (inr here) = clear_in_word i here (omega arith) (none (i - 64 * at))

  -- The bits of one word more are counted.
  pub word_counted : word < 2 ^ 64 → count_by (is_bit_set bytes) (range_with_len 0 (64 * (at + 1))) ≡ count_by (is_bit_set bytes) (range_with_len 0 (64 * at)) + count_ones word
  word_counted low =
      let split : 64 * (at + 1) ≡ 64 * at + 64 = omega arith in
      let begins : 0 + 64 * at ≡ 64 * at = omega arith in
      ap (λ (n : ℕ). count_by (is_bit_set bytes) (range_with_len 0 n)) split ∙ count_add (is_bit_set bytes) 0 (64 * at) 64
      ∙ ap (λ (n : ℕ). count_by (is_bit_set bytes) (range_with_len 0 (64 * at)) + n)
      (ap (λ (n : ℕ). count_by (is_bit_set bytes) (range_with_len n 64)) begins ∙ sym (count_ones-range (is_bit_set bytes) 64 (64 * at) word low is))

-- ---- bytes that are changed

-- A byte is put whose bits are as before but for one, so are the bits.
pub is_bit_set-put : (bytes : List ℕ) (k y : ℕ) (value : Bool) → k / 8 < length bytes → (bit_at y (k % 8) == 1) ≡ value
    → ((i : ℕ) → i < 8 → i ≢ k % 8 → bit_at y i ≡ bit_at (slice_index bytes (k / 8)) i)
    → (r : ℕ) → is_bit_set (slice_set bytes (k / 8) y) r ≡ with_region k value (is_bit_set bytes) r
unfolding is_bit_set
is_bit_set-put bytes k y value inside here others r = elim (cases_eq (r / 8) (k / 8)) [
  | inl same ↦
      let read : slice_index (slice_set bytes (k / 8) y) (r / 8) ≡ y = ap (slice_index (slice_set bytes (k / 8) y)) same ∙ get_or-set_same bytes (k / 8) y 0 inside in
      ap (λ (x : ℕ). bit_at x (r % 8) == 1) read ∙ elim (cases_eq k r) [
        | inl one ↦ ap (λ (n : ℕ). bit_at y (n % 8) == 1) (sym one) ∙ here ∙ sym (with_region-here k r value (is_bit_set bytes) one)
        | inr apart ↦
            let differs : r % 8 ≢ k % 8 = λ e. apart (omega (arith, same, e)) in
            ap (λ (x : ℕ). x == 1) (others (r % 8) (omega arith) differs ∙ ap (λ (n : ℕ). bit_at (slice_index bytes n) (r % 8)) (sym same))
            ∙ sym (with_region-other k r value (is_bit_set bytes) apart)
      ]
  | inr other ↦
      ap (λ (x : ℕ). bit_at x (r % 8) == 1) (get_or-set_other bytes (k / 8) (r / 8) y 0 other)
      ∙ sym (with_region-other k r value (is_bit_set bytes) (λ e. other (ap (λ (n : ℕ). n / 8) (sym e))))
]

-- A bit is set,
pub is_bit_set-set : (bytes : List ℕ) (k b : ℕ) → k / 8 < length bytes → b ≡ slice_index bytes (k / 8)
    → (r : ℕ) → is_bit_set (slice_set bytes (k / 8) (bit_or b (1 * 2 ^ (k % 8) % 256))) r ≡ with_region k true (is_bit_set bytes) r
is_bit_set-set bytes k b inside is =
    is_bit_set-put bytes k (bit_or b (1 * 2 ^ (k % 8) % 256)) true inside
    (ap (λ (x : ℕ). x == 1) (bit_at_set_same w8 b (k % 8) (omega arith)))
    (λ i low differs. bit_at_set_other w8 b (k % 8) (omega arith) i differs ∙ ap (λ (x : ℕ). bit_at x i) is)

-- or cleared.
pub is_bit_set-clear : (bytes : List ℕ) (k b : ℕ) → k / 8 < length bytes → b ≡ slice_index bytes (k / 8)
    → (r : ℕ) → is_bit_set (slice_set bytes (k / 8) (bit_and b (255 - 1 * 2 ^ (k % 8) % 256))) r ≡ with_region k false (is_bit_set bytes) r
is_bit_set-clear bytes k b inside is =
    is_bit_set-put bytes k (bit_and b (255 - 1 * 2 ^ (k % 8) % 256)) false inside
    (ap (λ (x : ℕ). x == 1) (bit_at_clear_same w8 b (k % 8) (omega arith)))
    (λ i low differs. bit_at_clear_other w8 b (k % 8) (omega arith) i low differs ∙ ap (λ (x : ℕ). bit_at x i) is)

-- Bits beyond the bytes are clear.
pub is_bit_set-past : (bytes : List ℕ) (r : ℕ) → length bytes ≤ r / 8 → is_bit_set bytes r ≡ false
unfolding is_bit_set
is_bit_set-past bytes r past = ap (λ (x : ℕ). bit_at x (r % 8) == 1) (get_or_past bytes (r / 8) 0 past) ∙ ap (λ (x : ℕ). x == 1) (bit_at-zero (r % 8))

of_zeros : (count i : ℕ) → slice_index (replicate count 0) i ≡ 0
of_zeros count i = elim (cases_lt i count) [
  | inl under ↦ get_or-replicate count i 0 0 under
  | inr past ↦ get_or_past (replicate count 0) i 0 (omega (arith, length-replicate {A = ℕ} count 0))
]

-- So are those of zeros.
pub is_bit_set-zeros : (count r : ℕ) → is_bit_set (replicate count 0) r ≡ false
unfolding is_bit_set
is_bit_set-zeros count r = ap (λ (x : ℕ). bit_at x (r % 8) == 1) (of_zeros count (r / 8)) ∙ ap (λ (x : ℕ). x == 1) (bit_at-zero (r % 8))

-- Bytes whose bits from `from` on are cleared.
pub is_bit_set-below : (old new : List ℕ) (from : ℕ) → ((i : ℕ) → i < from / 8 → slice_index new i ≡ slice_index old i)
    → slice_index new (from / 8) ≡ bit_and (slice_index old (from / 8)) (2 ^ (from % 8) - 1)
    → ((i : ℕ) → from / 8 < i → slice_index new i ≡ 0)
    → (r : ℕ) → is_bit_set new r ≡ (if nat_lt r from then is_bit_set old r else false)
unfolding is_bit_set
is_bit_set-below old new from before here behind r = elim (cases_lt r from) [
  | inl under ↦
      let low : nat_lt r from ≡ true = lt-ltb r from under in
      elim (cases_eq (r / 8) (from / 8)) [
        | inl same ↦
            let byte = slice_index old (from / 8) in
            let bit : r % 8 < from % 8 = omega arith in
            let one : bit_at byte (r % 8) < 2 = bit_at-lt byte (r % 8) in
            let kept : bit_at (bit_and byte (2 ^ (from % 8) - 1)) (r % 8) ≡ bit_at byte (r % 8) =
            bit_at_and byte (2 ^ (from % 8) - 1) (r % 8) ∙ ap (min (bit_at byte (r % 8))) (bit_at_ones (from % 8) (r % 8) bit) ∙ omega arith in
            ap (λ (x : ℕ). bit_at x (r % 8) == 1) (ap (slice_index new) same ∙ here) ∙ ap (λ (x : ℕ). x == 1) kept
            ∙ ap (λ (n : ℕ). bit_at (slice_index old n) (r % 8) == 1) (sym same) ∙ sym (ap (λ (t : Bool). if t then is_bit_set old r else false) low)
        | inr other ↦
            ap (λ (x : ℕ). bit_at x (r % 8) == 1) (before (r / 8) (omega (arith, other))) ∙ sym (ap (λ (t : Bool). if t then is_bit_set old r else false) low)
      ]
  | inr above ↦
      let high : nat_lt r from ≡ false = false_from_ne_true (nat_lt r from) (λ e. let under = ltb-true r from e in absurd (omega arith)) in
      elim (cases_eq (r / 8) (from / 8)) [
        | inl same ↦
            let byte = slice_index old (from / 8) in
            let bit : from % 8 ≤ r % 8 = omega arith in
            let lost : bit_at (bit_and byte (2 ^ (from % 8) - 1)) (r % 8) ≡ 0 =
            bit_at_and byte (2 ^ (from % 8) - 1) (r % 8) ∙ ap (min (bit_at byte (r % 8))) (bit_at_ones_above (from % 8) (r % 8) bit) ∙ omega arith in
            ap (λ (x : ℕ). bit_at x (r % 8) == 1) (ap (slice_index new) same ∙ here) ∙ ap (λ (x : ℕ). x == 1) lost
            ∙ sym (ap (λ (t : Bool). if t then is_bit_set old r else false) high)
        | inr other ↦
            ap (λ (x : ℕ). bit_at x (r % 8) == 1) (behind (r / 8) (omega (arith, other))) ∙ ap (λ (x : ℕ). x == 1) (bit_at-zero (r % 8))
            ∙ sym (ap (λ (t : Bool). if t then is_bit_set old r else false) high)
      ]
]

-- Bytes of which one is changed, and those behind it are all one byte.
pub slice_index-filled : (bytes same rest new : List ℕ) (at y byte : ℕ) → at < length bytes → same ≡ replicate (length same) byte → rest ≡ []
    → new ≡ take (at + 1) (slice_set bytes at y) ++ (same ++ rest)
    → ((i : ℕ) → i < at → slice_index new i ≡ slice_index bytes i) × (slice_index new at ≡ y) × ((i : ℕ) → at < i → i < length new → slice_index new i ≡ byte)
    × (length new ≡ at + 1 + length same)
slice_index-filled bytes same rest new at y byte inside are none is =
    let changed = slice_set bytes at y in
    let first = take (at + 1) changed in
    let long : length first ≡ at + 1 = omega (arith, length-take (at + 1) changed, length-set bytes at y) in
    let all : new ≡ first ++ same = is ∙ ap (λ (xs : List ℕ). first ++ (same ++ xs)) none ∙ ap (λ (xs : List ℕ). first ++ xs) (append-nil same) in
    let size : length new ≡ length first + length same = ap (λ (xs : List ℕ). length xs) all ∙ length-append first same in
    let head : (i : ℕ) → i < at + 1 → slice_index new i ≡ slice_index changed i = λ i low.
    ap (λ (xs : List ℕ). slice_index xs i) all ∙ get_or_append_left first same 0 i (omega (arith, long, low)) ∙ get_or-take (at + 1) changed i 0 low in (
      λ i low. head i (omega arith) ∙ get_or-set_other bytes at i y 0 (λ e. omega (arith, e)),
      head at (omega arith) ∙ get_or-set_same bytes at y 0 inside,
      λ i above under.
          let place : i ≡ length first + (i - (at + 1)) = omega (arith, long) in
          ap (λ (xs : List ℕ). slice_index xs i) all ∙ ap (slice_index (first ++ same)) place ∙ get_or-append-add first same (i - (at + 1)) 0
          ∙ ap (λ (xs : List ℕ). slice_index xs (i - (at + 1))) are
          ∙ get_or-replicate (length same) (i - (at + 1)) byte 0 (omega (arith, long, size, under)),
      omega (arith, long, size),
    )

-- So where they are zeros, of which there are no end.
pub slice_index-cleared : (bytes zeros rest new : List ℕ) (at y : ℕ) → at < length bytes → zeros ≡ replicate (length zeros) 0 → rest ≡ []
    → new ≡ take (at + 1) (slice_set bytes at y) ++ (zeros ++ rest)
    → ((i : ℕ) → i < at → slice_index new i ≡ slice_index bytes i) × (slice_index new at ≡ y) × ((i : ℕ) → at < i → slice_index new i ≡ 0)
slice_index-cleared bytes zeros rest new at y inside are none is =
    let parts = slice_index-filled bytes zeros rest new at y 0 inside are none is in
    (parts.0, parts.1, λ i above. elim (cases_lt i (length new)) [ inl under ↦ parts.2 i above under | inr past ↦ get_or_past new i 0 past ])

-- Bytes whose bits from `from` on are set.
pub is_bit_set-above : (old new : List ℕ) (from low : ℕ) → low ≡ 2 ^ (from % 8) - 1 → ((i : ℕ) → i < from / 8 → slice_index new i ≡ slice_index old i)
    → slice_index new (from / 8) ≡ bit_or (slice_index old (from / 8)) (255 - low)
    → ((i : ℕ) → from / 8 < i → i < length new → slice_index new i ≡ 255)
    → (r : ℕ) → r < 8 * length new → is_bit_set new r ≡ (if nat_lt r from then is_bit_set old r else true)
unfolding is_bit_set
is_bit_set-above old new from low low_is before here behind r inside =
    let k : ℕ = from % 8 in
    let some : 0 < 2 ^ k = pow_pos k in
    let mask : 255 - low ≡ 2 ^ 8 - 2 ^ k = omega (arith, low_is, some) in
    let byte = slice_index old (from / 8) in
    let read : bit_at (slice_index new (from / 8)) (r % 8) ≡ max (bit_at byte (r % 8)) (bit_at (2 ^ 8 - 2 ^ k) (r % 8)) =
    ap (λ (x : ℕ). bit_at x (r % 8)) (here ∙ ap (bit_or byte) mask) ∙ bit_at_or byte (2 ^ 8 - 2 ^ k) (r % 8) in
    let one : bit_at byte (r % 8) < 2 = bit_at-lt byte (r % 8) in
    elim (cases_lt r from) [
      | inl under ↦
          let is : nat_lt r from ≡ true = lt-ltb r from under in
          elim (cases_eq (r / 8) (from / 8)) [
            | inl same ↦
                let kept : max (bit_at byte (r % 8)) (bit_at (2 ^ 8 - 2 ^ k) (r % 8)) ≡ bit_at byte (r % 8) = ap (max (bit_at byte (r % 8))) (bit_at_mask_below k 8 (r % 8) (omega arith)) ∙ omega arith in
                ap (λ (n : ℕ). bit_at (slice_index new n) (r % 8) == 1) same ∙ ap (λ (x : ℕ). x == 1) (read ∙ kept)
                ∙ ap (λ (n : ℕ). bit_at (slice_index old n) (r % 8) == 1) (sym same) ∙ sym (ap (λ (t : Bool). if t then is_bit_set old r else true) is)
            | inr other ↦
                ap (λ (x : ℕ). bit_at x (r % 8) == 1) (before (r / 8) (omega (arith, other))) ∙ sym (ap (λ (t : Bool). if t then is_bit_set old r else true) is)
          ]
      | inr above ↦
          let is : nat_lt r from ≡ false = false_from_ne_true (nat_lt r from) (λ e. let under = ltb-true r from e in absurd (omega arith)) in
          elim (cases_eq (r / 8) (from / 8)) [
            | inl same ↦
                let set : max (bit_at byte (r % 8)) (bit_at (2 ^ 8 - 2 ^ k) (r % 8)) ≡ 1 = ap (max (bit_at byte (r % 8))) (bit_at_mask_inside k 8 (r % 8) (omega arith) (omega arith)) ∙ omega (arith, one) in
                ap (λ (n : ℕ). bit_at (slice_index new n) (r % 8) == 1) same ∙ ap (λ (x : ℕ). x == 1) (read ∙ set)
                ∙ sym (ap (λ (t : Bool). if t then is_bit_set old r else true) is)
            | inr other ↦
                ap (λ (x : ℕ). bit_at x (r % 8) == 1) (behind (r / 8) (omega (arith, other)) (omega arith)) ∙ ap (λ (x : ℕ). x == 1) (bit_at_ones 8 (r % 8) (omega arith))
                ∙ sym (ap (λ (t : Bool). if t then is_bit_set old r else true) is)
          ]
    ]

-- Where all bytes are before `from` nothing is cleared.
pub is_bit_set-short : (bytes : List ℕ) (from : ℕ) → length bytes ≤ from / 8 → (r : ℕ) → is_bit_set bytes r ≡ (if nat_lt r from then is_bit_set bytes r else false)
is_bit_set-short bytes from short r = elim (cases_lt r from) [
  | inl under ↦ sym (ap (λ (t : Bool). if t then is_bit_set bytes r else false) (lt-ltb r from under))
  | inr above ↦
      let high : nat_lt r from ≡ false = false_from_ne_true (nat_lt r from) (λ e. let under = ltb-true r from e in absurd (omega arith)) in
      is_bit_set-past bytes r (omega arith) ∙ sym (ap (λ (t : Bool). if t then is_bit_set bytes r else false) high)
]
