-- The stretches of some bytes, and their text, from the front on.
use Rattle.std.proofs.Common.{◌≡◌, ◌≢◌, ℕ, zero, suc, ◌+◌, ◌*◌, ◌^◌, ◌<◌, ◌≤◌, ◌==◌, List, [], ◌∷◌, ◌++◌, length, drop, map, get_or, refl, sym, ◌∙◌, ap, arith, inl, inr, add-one, append-nil, length-append, length-drop}
use Rattle.std.specs.Fmt.{decimal}
use Rattle.std.specs.List.{prefix_len, join_with_byte}
use Rattle.std.proofs.lemmas.Bool.{eq-eqb}
use Rattle.std.proofs.lemmas.Bool.Decides.{eqb_tells, nat_tests}
use Rattle.std.proofs.lemmas.Fmt.{length-decimal-le, length-decimal-le_succ}
use Rattle.std.proofs.lemmas.List.Sums.{prefix_len-le-length}
use Rattle.hex.specs.Hex.{lower_digits}
use Rattle.hex.proofs.HexLemmas.{length-encode_with}
use Rattle.device_model.specs.Stretches.{Stretch, with_byte, stretches_of, stretch_text, stretches_text}

-- How many bytes at the front are x.
abbrev front_count : ℕ → List ℕ → ℕ
front_count x bytes = prefix_len (λ y. y == x) bytes

abbrev pub run_of : ℕ → ℕ → Stretch
run_of x n = record { byte = x; count = n }

-- The first stretch has n bytes, each equal to x.
pub record IsFirstRun (x n : ℕ) (bytes : List ℕ) : Type 0 where
  pub some : 0 < length bytes
  pub byte : x ≡ get_or bytes 0 0
  pub count : n ≡ prefix_len (λ y. y == x) bytes

-- ---- stretches

with_byte-same : (x y n : ℕ) (stretches : List Stretch) → y ≡ x → with_byte x (run_of y n ∷ stretches) ≡ run_of x (n + 1) ∷ stretches
with_byte-same x y n stretches same = rw same (rw (eq-eqb x x refl) refl)

with_byte-other : (x y n : ℕ) (stretches : List Stretch) → y ≢ x → with_byte x (run_of y n ∷ stretches) ≡ run_of x 1 ∷ run_of y n ∷ stretches
with_byte-other x y n stretches other = grind (arith, nat_tests)

front_count-same : (x y : ℕ) (ys : List ℕ) → y ≡ x → front_count x (y ∷ ys) ≡ front_count x ys + 1
front_count-same x y ys same = grind (arith, nat_tests)

front_count-other : (x y : ℕ) (ys : List ℕ) → y ≢ x → front_count x (y ∷ ys) ≡ 0
front_count-other x y ys other = grind (arith, nat_tests)

drop-cons-one : (n y : ℕ) (ys : List ℕ) → drop (n + 1) (y ∷ ys) ≡ drop n ys
drop-cons-one n y ys = rw add-one refl

-- The first stretch is all that the front has of the first byte.
stretches_of-cons : (x : ℕ) (xs : List ℕ) → stretches_of (x ∷ xs) ≡ run_of x (front_count x xs + 1) ∷ stretches_of (drop (front_count x xs) xs)
stretches_of-cons x [] = refl
stretches_of-cons x (y ∷ ys) =
    let rest = stretches_of-cons y ys in
    elim (eqb_tells y x) [
      | inl same ↦
          rw (rest, with_byte-same x y (front_count y ys + 1) (stretches_of (drop (front_count y ys) ys)) same.1, front_count-same x y ys same.1)
          (rw (drop-cons-one (front_count x ys) y ys, same.1) refl)
      | inr other ↦
          rw (rest, with_byte-other x y (front_count y ys + 1) (stretches_of (drop (front_count y ys) ys)) other.1, front_count-other x y ys other.1)
          (ap (λ (stretches : List Stretch). run_of x 1 ∷ stretches) (sym rest))
    ]

-- ---- their text

-- What stands behind a stretch: a comma and the next stretches, or nothing.
abbrev text_after_stretch : List ℕ → List ℕ
text_after_stretch [] = []
text_after_stretch (x ∷ xs) = 44 ∷ stretches_text (x ∷ xs)

text_after_stretch-some : (rest : List ℕ) → 0 < length rest → text_after_stretch rest ≡ 44 ∷ stretches_text rest
text_after_stretch-some [] some = absurd (omega arith)
text_after_stretch-some (x ∷ xs) some = refl

stretches_text-nil : stretches_text [] ≡ []
unfolding stretches_text
stretches_text-nil = refl

text_after_stretch-none : (rest : List ℕ) → length rest ≡ 0 → text_after_stretch rest ≡ stretches_text rest
text_after_stretch-none [] none = sym stretches_text-nil
text_after_stretch-none (x ∷ xs) none = absurd (omega arith)

join_with_byte-stretches : (stretch : Stretch) (rest : List ℕ) → join_with_byte 44 (map stretch_text (stretch ∷ stretches_of rest)) ≡ stretch_text stretch ++ text_after_stretch rest
unfolding stretches_text
join_with_byte-stretches stretch [] = sym (append-nil (stretch_text stretch))
join_with_byte-stretches stretch (x ∷ xs) = let first = stretches_of-cons x xs in rw first refl

stretches_text-cons : (x : ℕ) (xs : List ℕ) → stretches_text (x ∷ xs) ≡ stretch_text (run_of x (front_count x xs + 1)) ++ text_after_stretch (drop (front_count x xs) xs)
unfolding stretches_text
stretches_text-cons x xs =
    ap (λ (stretches : List Stretch). join_with_byte 44 (map stretch_text stretches)) (stretches_of-cons x xs)
    ∙ join_with_byte-stretches (run_of x (front_count x xs + 1)) (drop (front_count x xs) xs)

stretches_text-first : (x n : ℕ) (bytes : List ℕ) → IsFirstRun x n bytes → stretches_text bytes ≡ stretch_text (run_of x n) ++ text_after_stretch (drop n bytes)
stretches_text-first x n [] stretch = absurd (omega (arith, stretch.some))
stretches_text-first x n (y ∷ ys) stretch =
    let same : x ≡ y = stretch.byte in
    let all : n ≡ front_count y ys + 1 = grind (arith, front_count-same y y ys refl) in
    rw (same, all, drop-cons-one (front_count y ys) y ys) (stretches_text-cons y ys)

-- ---- how long it is

length-text_after_stretch-le : (rest : List ℕ) → length (text_after_stretch rest) ≤ length (stretches_text rest) + 1
length-text_after_stretch-le [] = omega arith
length-text_after_stretch-le (x ∷ xs) = omega arith

pub length-stretch_text : (x n : ℕ) → length (stretch_text (run_of x n)) ≡ 3 + length (decimal n)
length-stretch_text x n =
    let digits = length-encode_with lower_digits (x ∷ []) in simp length-append (omega (arith, digits))

-- A byte takes 5 bytes at most, a comma among them: one that is a stretch of its own does.
length-stretch_text-le : (x n : ℕ) → 0 < n → n < 2 ^ 64 → length (stretch_text (run_of x n)) + 1 ≤ 5 * n
length-stretch_text-le x n some small =
    let text = length-stretch_text x n in
    let one : n ≡ 1 → length (decimal n) ≤ 1 = λ is. length-decimal-le 1 n (omega arith) (omega arith) small in
    let more = length-decimal-le_succ n small in
    grind arith

length-stretches_text-le-below : (k : ℕ) (bytes : List ℕ) → length bytes ≤ k → length bytes < 2 ^ 64 → length (stretches_text bytes) ≤ 5 * length bytes
length-stretches_text-le-below k [] short small = rw stretches_text-nil (omega arith)
length-stretches_text-le-below zero (x ∷ xs) short small = absurd (omega arith)
length-stretches_text-le-below (suc k) (x ∷ xs) short small =
    let n = front_count x xs in
    let within = prefix_len-le-length (λ y. y == x) xs in
    let rest = length-drop n xs in
    let first = length-stretch_text-le x (n + 1) (omega arith) (omega arith) in
    let behind = length-text_after_stretch-le (drop n xs) in
    let others = length-stretches_text-le-below k (drop n xs) (omega arith) (omega arith) in
    rw (stretches_text-cons x xs, length-append) (omega arith)

-- ---- for callers

pub stretches_text-empty : (bytes : List ℕ) → length bytes ≡ 0 → stretches_text bytes ≡ []
stretches_text-empty [] empty = stretches_text-nil
stretches_text-empty (x ∷ xs) empty = absurd (omega arith)

-- Behind the first stretch there is a comma, where more follows.
pub stretches_text-more : (x n : ℕ) (bytes : List ℕ) → IsFirstRun x n bytes → n < length bytes
    → stretches_text bytes ≡ stretch_text (run_of x n) ++ 44 ∷ stretches_text (drop n bytes)
stretches_text-more x n bytes stretch more =
    let rest = length-drop n bytes in
    stretches_text-first x n bytes stretch ∙ ap (λ (text : List ℕ). stretch_text (run_of x n) ++ text) (text_after_stretch-some (drop n bytes) (omega arith))

pub stretches_text-last : (x n : ℕ) (bytes : List ℕ) → IsFirstRun x n bytes → length bytes ≤ n
    → stretches_text bytes ≡ stretch_text (run_of x n) ++ stretches_text (drop n bytes)
stretches_text-last x n bytes stretch last =
    let rest = length-drop n bytes in
    stretches_text-first x n bytes stretch ∙ ap (λ (text : List ℕ). stretch_text (run_of x n) ++ text) (text_after_stretch-none (drop n bytes) (omega arith))

-- The text of the first stretch is a part of the whole, and so is the comma behind it.
pub length-stretch_text-first-le : (x n : ℕ) (bytes : List ℕ) → IsFirstRun x n bytes → length (stretch_text (run_of x n)) ≤ length (stretches_text bytes)
length-stretch_text-first-le x n bytes stretch =
    let parts = length-append (stretch_text (run_of x n)) (text_after_stretch (drop n bytes)) in
    let whole = ap length (stretches_text-first x n bytes stretch) in
    omega (arith, whole, parts)

pub length-stretch_text-more-le : (x n : ℕ) (bytes : List ℕ) → IsFirstRun x n bytes → n < length bytes → length (stretch_text (run_of x n)) + 1 ≤ length (stretches_text bytes)
length-stretch_text-more-le x n bytes stretch more =
    let parts = length-append (stretch_text (run_of x n)) (44 ∷ stretches_text (drop n bytes)) in
    let whole = ap length (stretches_text-more x n bytes stretch more) in
    omega (arith, whole, parts)

-- A byte takes 5 bytes of text at most.
pub length-stretches_text-le : (bytes : List ℕ) → length bytes < 2 ^ 64 → length (stretches_text bytes) ≤ 5 * length bytes
length-stretches_text-le bytes small = length-stretches_text-le-below (length bytes) bytes (omega arith) small
