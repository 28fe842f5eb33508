-- Eight bytes as the lanes of a vector.
use Rattle.std.proofs.Common.{◌≡◌, ◌≢◌, ℕ, zero, suc, ◌+◌, ◌*◌, ◌/◌, ◌^◌, ◌<◌, ◌≤◌, ◌==◌, Bool, true, false, true≢false, List, [], ◌∷◌, ◌++◌, length, take, drop, map, get_or, replicate, refl, sym, ap, subst, ◌∙◌, arith, w8, Fits, bit_and}
use Rattle.std.specs.List.{flat_map}
use Rattle.std.specs.Simd.Lanes.{mask_l, zip2, pick_l, Each1}
use Rattle.std.proofs.Math.ListN.{drop_of_length-le}
use Rattle.std.proofs.Math.Seq.{drop-cons}
use Rattle.std.proofs.lemmas.Bool.{eq-eqb}
use Rattle.std.proofs.lemmas.Nat.{and_mask, and_le_r}
use Rattle.std.proofs.lemmas.Simd.{get_or-zip2, get_or-chunk, length-chunk, swz_l, SwzOk, SwzOk-from_below, get_or-swz_l_below}
use Rattle.hex.specs.Hex.{encode_with, encode_lower, lower_digits}

-- So many bytes from the k-th on.
abbrev pub bytes_from : List ℕ → ℕ → ℕ → List ℕ
bytes_from bytes k zero = []
bytes_from bytes k (suc n) = get_or bytes k 0 ∷ bytes_from bytes (suc k) n

bytes_from-rest : (bytes : List ℕ) (k n : ℕ) → k + n ≡ length bytes → drop k bytes ≡ bytes_from bytes k n
bytes_from-rest bytes k zero all = drop_of_length-le bytes (omega (arith, all))
bytes_from-rest bytes k (suc n) all =
    drop-cons bytes k 0 (omega (arith, all)) ∙ ap (λ (rest : List ℕ). get_or bytes k 0 ∷ rest) (bytes_from-rest bytes (suc k) n (omega (arith, all)))

pub bytes_from-whole : (bytes : List ℕ) (n : ℕ) → length bytes ≡ n → bytes ≡ bytes_from bytes 0 n
bytes_from-whole bytes n all = bytes_from-rest bytes 0 n (omega (arith, all))

-- The halves of a byte, as its digits stand for.
abbrev halves : ℕ → List ℕ
halves byte = byte / 16 ∷ bit_and byte 15 ∷ []

-- The upper halves of the bytes and then the lower ones, each behind the other of its byte.
abbrev joined_halves : List ℕ → List ℕ
joined_halves bytes =
    pick_l 0 (zip2 (λ a b. a / 2 ^ b) bytes (replicate 8 4) ++ zip2 bit_and bytes (replicate 8 15))
    (0 ∷ 8 ∷ 1 ∷ 9 ∷ 2 ∷ 10 ∷ 3 ∷ 11 ∷ 4 ∷ 12 ∷ 5 ∷ 13 ∷ 6 ∷ 14 ∷ 7 ∷ 15 ∷ [])

joined_halves-are : (bytes : List ℕ) → length bytes ≡ 8 → joined_halves bytes ≡ flat_map halves bytes
joined_halves-are bytes eight =
    let all = bytes_from-whole bytes 8 eight in
    ap joined_halves all ∙ sym (ap (flat_map halves) all)

halves_are_small : (bytes : List ℕ) → Each1 (Fits w8) bytes → Each1 (λ j. j < 16) (flat_map halves bytes)
halves_are_small [] fits = tt
halves_are_small (x ∷ xs) fits = (omega (arith, fits.0.fits), (omega (arith, and_le_r x 15), halves_are_small xs fits.1))

length-halves : (bytes : List ℕ) → length (flat_map halves bytes) ≡ 2 * length bytes
length-halves [] = refl
length-halves (x ∷ xs) = omega (arith, length-halves xs)

encode_lower-halves : (bytes : List ℕ) → encode_lower bytes ≡ map (λ j. get_or lower_digits j 0) (flat_map halves bytes)
unfolding encode_with
encode_lower-halves [] = refl
encode_lower-halves (x ∷ xs) =
    let rest = encode_lower-halves xs in
    let low = sym (and_mask x 4) in
    (λ i. get_or lower_digits (x / 16) 0 ∷ get_or lower_digits (low i) 0 ∷ rest i)

-- Sixteen lanes are one block, so that each is looked up in the whole table.
looked_up : (table js : List ℕ) (i : ℕ) → i + length js ≤ 16 → Each1 (λ j. j < 16) js → swz_l w8 16 table i js ≡ map (λ j. get_or table j 0) js
looked_up table [] i few small = refl
looked_up table (j ∷ js) i few small =
    let at : 16 * ((i + 0) / 16) + j ≡ j = omega (arith, few) in
    let first = get_or-swz_l_below w8 16 table i (j ∷ js) 0 (omega arith) small.0 ∙ ap (λ (n : ℕ). get_or table n 0) at in
    let rest = looked_up table js (suc i) (omega (arith, few)) small.1 in
    (λ k. first k ∷ rest k)

-- Where no bit is set no test is met.
none_set : (tests : List Bool) (k : ℕ) → mask_l tests ≡ 0 → get_or tests k false ≡ false
none_set [] k none = refl
none_set (true ∷ tests) k none = absurd (omega (arith, none))
none_set (false ∷ tests) zero none = refl
none_set (false ∷ tests) (suc k) none = none_set tests k (omega (arith, none))

-- ---- for callers

pub halves_of_eight : (bytes : List ℕ) → length bytes ≡ 8 → Each1 (Fits w8) bytes → SwzOk w8 16 16 0 (joined_halves bytes)
halves_of_eight bytes eight fits =
    let size = length-halves bytes in
    let ok = SwzOk-from_below w8 16 1 16 0 (flat_map halves bytes) refl (omega (arith, size, eight)) (halves_are_small bytes fits) in
    subst (SwzOk w8 16 16 0) (sym (joined_halves-are bytes eight)) ok

pub digits_at_halves : (bytes : List ℕ) → length bytes ≡ 8 → Each1 (Fits w8) bytes → swz_l w8 16 lower_digits 0 (joined_halves bytes) ≡ encode_lower bytes
digits_at_halves bytes eight fits =
    let size = length-halves bytes in
    ap (swz_l w8 16 lower_digits 0) (joined_halves-are bytes eight)
    ∙ looked_up lower_digits (flat_map halves bytes) 0 (omega (arith, size, eight)) (halves_are_small bytes fits)
    ∙ sym (encode_lower-halves bytes)

pub differ_where_none_set : (bytes : List ℕ) → 8 < length bytes → mask_l (zip2 (λ x y. x == y) (take 8 bytes) (take 8 (drop 1 bytes))) ≡ 0
    → (k : ℕ) → k < 8 → get_or bytes k 0 ≢ get_or bytes (k + 1) 0
differ_where_none_set bytes more none k below same =
    let tests = zip2 (λ x y. x == y) (take 8 bytes) (take 8 (drop 1 bytes)) in
    let here : get_or (take 8 bytes) k 0 ≡ get_or bytes k 0 = get_or-chunk 0 8 bytes k 0 below ∙ ap (λ (n : ℕ). get_or bytes n 0) (omega arith) in
    let behind : get_or (take 8 (drop 1 bytes)) k 0 ≡ get_or bytes (k + 1) 0 =
    get_or-chunk 1 8 bytes k 0 below ∙ ap (λ (n : ℕ). get_or bytes n 0) (omega arith) in
    let size : length (take 8 bytes) ≡ 8 = length-chunk 0 8 bytes (omega (arith, more)) in
    let size_behind : length (take 8 (drop 1 bytes)) ≡ 8 = length-chunk 1 8 bytes (omega (arith, more)) in
    let test : get_or tests k false ≡ (get_or (take 8 bytes) k 0 == get_or (take 8 (drop 1 bytes)) k 0) =
    get_or-zip2 (λ x y. x == y) (take 8 bytes) (take 8 (drop 1 bytes)) k 0 0 false (omega (arith, size, below)) (omega (arith, size_behind, below)) in
    let set = eq-eqb (get_or (take 8 bytes) k 0) (get_or (take 8 (drop 1 bytes)) k 0) (here ∙ same ∙ sym behind) in
    true≢false (sym set ∙ sym test ∙ none_set tests k none)
