-- What is found and counted in a range of numbers.
use Rattle.std.proofs.Common.{◌≡◌, inl, inr, ℕ, zero, suc, ◌+◌, ◌-◌, ◌*◌, ◌/◌, ◌%◌, ◌^◌, ◌<◌, ◌≤◌, ◌==◌, Bool, true, false, cond, refl, sym, ◌∙◌, ap, arith, Option, Some, None, find, count_ones, add_assoc}
use Rattle.std.specs.Int.{bit_at}
use Rattle.std.specs.List.{count_by, range_with_len}
use Rattle.std.proofs.lemmas.Bool.{cases_eq}
use Rattle.std.proofs.lemmas.Nat.Bits.{bit_at_lowest, bit_at-suc}
use Rattle.std.proofs.Math.Nat.{pow-suc}
use Rattle.std.proofs.lemmas.List.Sums.{sum_by-cons}
use lib.Count.{ones_step, ones-le}

-- ---- the least that passes

pub find_here : (p : ℕ → Bool) (from count : ℕ) → p from ≡ true → find p (range_with_len from (suc count)) ≡ Some from
find_here p from count is = ap (λ (t : Bool). cond t (Some from) (find p (range_with_len (from + 1) count))) is

pub find_later : (p : ℕ → Bool) (from count : ℕ) → p from ≡ false → find p (range_with_len from (suc count)) ≡ find p (range_with_len (from + 1) count)
find_later p from count is = ap (λ (t : Bool). cond t (Some from) (find p (range_with_len (from + 1) count))) is

-- A number of the range that passes, and before which none does, is found.
pub find_some_is : (p : ℕ → Bool) (from count r : ℕ) → from ≤ r → r < from + count → p r ≡ true → ((i : ℕ) → from ≤ i → i < r → p i ≡ false)
    → find p (range_with_len from count) ≡ Some r
find_some_is p from zero r low high is none = absurd (omega arith)
find_some_is p from (suc count) r low high is none = elim (cases_eq from r) [
  | inl same ↦ find_here p from count (ap p same ∙ is) ∙ ap (λ (n : ℕ). Some n) same
  | inr other ↦
      find_later p from count (none from (omega arith) (omega (arith, other)))
      ∙ find_some_is p (from + 1) count r (omega (arith, other)) (omega arith) is (λ i above under. none i (omega arith) under)
]

-- Where none passes none is found.
pub find_none_is : (p : ℕ → Bool) (from count : ℕ) → ((i : ℕ) → from ≤ i → i < from + count → p i ≡ false) → find p (range_with_len from count) ≡ None
find_none_is p from zero none = refl
find_none_is p from (suc count) none =
    find_later p from count (none from (omega arith) (omega arith)) ∙ find_none_is p (from + 1) count (λ i above under. none i (omega arith) (omega arith))

find_longer : (p : ℕ → Bool) (from count more : ℕ) → ((i : ℕ) → from + count ≤ i → p i ≡ false) → find p (range_with_len from (count + more)) ≡ find p (range_with_len from count)
find_longer p from zero more none =
    let all : 0 + more ≡ more = omega arith in
    ap (λ (n : ℕ). find p (range_with_len from n)) all ∙ find_none_is p from more (λ i above under. none i (omega arith))
find_longer p from (suc count) more none =
    let all : suc count + more ≡ suc (count + more) = omega arith in
    ap (λ (n : ℕ). find p (range_with_len from n)) all
    ∙ ap (λ (o : Option ℕ). cond (p from) (Some from) o) (find_longer p (from + 1) count more (λ i above. none i (omega arith)))

-- Beyond the last that passes nothing is found.
pub find_to : (p : ℕ → Bool) (from size all : ℕ) → size ≤ all → ((i : ℕ) → size ≤ i → p i ≡ false) → find p (range_with_len from (all - from)) ≡ find p (range_with_len from (size - from))
find_to p from size all low none =
    let split : all - from ≡ (size - from) + ((all - from) - (size - from)) = omega arith in
    ap (λ (n : ℕ). find p (range_with_len from n)) split ∙ find_longer p from (size - from) ((all - from) - (size - from)) (λ i above. none i (omega arith))

-- ---- how many pass

one_if : (ℕ → Bool) → ℕ → ℕ
one_if p n = cond (p n) 1 0

count_more : (p : ℕ → Bool) (from count : ℕ) → count_by p (range_with_len from (suc count)) ≡ one_if p from + count_by p (range_with_len (from + 1) count)
unfolding one_if
count_more p from count = sum_by-cons (λ (n : ℕ). cond (p n) 1 0) from (range_with_len (from + 1) count)

-- Those of a range are those of its two parts.
pub count_add : (p : ℕ → Bool) (from first second : ℕ) → count_by p (range_with_len from (first + second)) ≡ count_by p (range_with_len from first) + count_by p (range_with_len (from + first) second)
count_add p from zero second =
    let all : 0 + second ≡ second = omega arith in
    let begins : from + 0 ≡ from = omega arith in
    rw (all, begins) (omega arith)
count_add p from (suc first) second =
    let all : suc first + second ≡ suc (first + second) = omega arith in
    let begins : from + suc first ≡ from + 1 + first = omega arith in
    let rest = count_add p (from + 1) first second in
    ap (λ (n : ℕ). count_by p (range_with_len from n)) all ∙ count_more p from (first + second) ∙ ap (λ (n : ℕ). one_if p from + n) rest
    ∙ sym (ap (λ (n : ℕ). n + count_by p (range_with_len (from + suc first) second)) (count_more p from first)
    ∙ ap (λ (n : ℕ). one_if p from + count_by p (range_with_len (from + 1) first) + count_by p (range_with_len n second)) begins
    ∙ add_assoc (one_if p from) (count_by p (range_with_len (from + 1) first)) (count_by p (range_with_len (from + 1 + first) second)))

pub count_none : (p : ℕ → Bool) (from count : ℕ) → ((i : ℕ) → from ≤ i → i < from + count → p i ≡ false) → count_by p (range_with_len from count) ≡ 0
unfolding one_if
count_none p from zero none = refl
count_none p from (suc count) none =
    let here : one_if p from ≡ 0 = ap (λ (t : Bool). cond {A = ℕ} t 1 0) (none from (omega arith) (omega arith)) in
    let rest = count_none p (from + 1) count (λ i above under. none i (omega arith) (omega arith)) in
    count_more p from count ∙ omega (arith, here, rest)

-- Beyond the last that passes none is counted.
pub count_to : (p : ℕ → Bool) (size all : ℕ) → size ≤ all → ((i : ℕ) → size ≤ i → p i ≡ false) → count_by p (range_with_len 0 all) ≡ count_by p (range_with_len 0 size)
count_to p size all low none =
    let split : all ≡ size + (all - size) = omega arith in
    let rest = count_none p (0 + size) (all - size) (λ i above under. none i (omega arith)) in
    ap (λ (n : ℕ). count_by p (range_with_len 0 n)) split ∙ count_add p 0 size (all - size) ∙ omega (arith, rest)

digit_counted : (n : ℕ) → cond {A = ℕ} (n % 2 == 1) 1 0 ≡ n % 2
digit_counted n = elim (cases_eq (n % 2) 1) [
  | inl one ↦ rw one refl
  | inr other ↦ let none : n % 2 ≡ 0 = omega (arith, other) in rw none refl
]

-- The ones of a number are the places of a range that pass as its bits are set.
pub count_ones-range : (p : ℕ → Bool) (bits from n : ℕ) → n < 2 ^ bits → ((i : ℕ) → i < bits → p (from + i) ≡ (bit_at n i == 1)) → count_ones n ≡ count_by p (range_with_len from bits)
unfolding one_if
count_ones-range p zero from n low same = let none = ones-le 0 n low in omega arith
count_ones-range p (suc bits) from n low same =
    let begins : from + 0 ≡ from = omega arith in
    let here : one_if p from ≡ n % 2 =
    ap (λ (r : ℕ). cond {A = ℕ} (p r) 1 0) (sym begins) ∙ ap (λ (t : Bool). cond {A = ℕ} t 1 0) (same 0 (omega arith) ∙ ap (λ (b : ℕ). b == 1) (bit_at_lowest n)) ∙ digit_counted n in
    let half : n / 2 < 2 ^ bits = half_low n bits low in
    let rest = count_ones-range p bits (from + 1) (n / 2) half (λ i inside.
    let next : from + 1 + i ≡ from + suc i = omega arith in
    ap p next ∙ same (suc i) (omega arith) ∙ ap (λ (b : ℕ). b == 1) (bit_at-suc n i)) in
    ones_step n ∙ ap (λ (d : ℕ). d + count_ones (n / 2)) (sym here) ∙ ap (λ (m : ℕ). one_if p from + m) rest ∙ sym (count_more p from bits)
  where
    half_low : (n bits : ℕ) → n < 2 ^ suc bits → n / 2 < 2 ^ bits
    half_low n bits low = let double : 2 ^ suc bits ≡ 2 ^ bits * 2 = pow-suc 2 bits in omega (arith, double)
