-- Bytes that each are another than the next begin with runs of one byte.
use Rattle.std.proofs.Common.{◌≡◌, ◌≢◌, ℕ, ◌+◌, ◌*◌, ◌<◌, List, [], ◌∷◌, ◌++◌, length, take, drop, get_or, suc, zero, sym, ◌∙◌, ap, arith, refl, append_assoc, length-append}
use Rattle.std.specs.Fmt.{digits}
use Rattle.std.specs.List.{flat_map}
use Rattle.std.proofs.lemmas.Bool.{ne_eqb, eq-eqb}
use Rattle.hex.specs.Hex.{encode_with}
use Rattle.device_model.specs.Stretches.{stretch_text, stretches_text}
use Rattle.device_model.proofs.StretchesLemmas.{IsFirstRun, run_of, stretches_text-more}
use Rattle.script_text.specs.Singles.{single_text}

first_is_single : (x y : ℕ) (ys : List ℕ) → x ≢ y → IsFirstRun x 1 (x ∷ y ∷ ys)
first_is_single x y ys differ =
    let same = eq-eqb x x refl in
    let other = ne_eqb y x (λ is. differ (sym is)) in
    record { some = omega arith; byte = refl; count = sym (rw (same, other) refl) }

single_first : (x y : ℕ) (ys : List ℕ) → x ≢ y → stretches_text (x ∷ y ∷ ys) ≡ single_text x ++ stretches_text (y ∷ ys)
single_first x y ys differ =
    stretches_text-more x 1 (x ∷ y ∷ ys) (first_is_single x y ys differ) (omega arith)
    ∙ sym (append_assoc (stretch_text (run_of x 1)) (44 ∷ []) (stretches_text (y ∷ ys)))

-- ---- for callers

pub length-single_text : (x : ℕ) → length (single_text x) ≡ 5
unfolding digits encode_with
length-single_text x = refl

pub singles_first : (n : ℕ) (bytes : List ℕ) → n < length bytes → ((k : ℕ) → k < n → get_or bytes k 0 ≢ get_or bytes (k + 1) 0)
    → stretches_text bytes ≡ flat_map single_text (take n bytes) ++ stretches_text (drop n bytes)
singles_first zero bytes more differ = refl
singles_first (suc n) [] more differ = absurd (omega arith)
singles_first (suc n) (x ∷ []) more differ = absurd (omega arith)
singles_first (suc n) (x ∷ y ∷ ys) more differ =
    let later : (k : ℕ) → suc k + 1 ≡ suc (k + 1) = λ k. omega arith in
    let others : (k : ℕ) → k < n → get_or (y ∷ ys) k 0 ≢ get_or (y ∷ ys) (k + 1) 0 =
    λ k below is. differ (suc k) (omega (arith, below)) (is ∙ ap (λ (j : ℕ). get_or (x ∷ y ∷ ys) j 0) (sym (later k))) in
    let rest = singles_first n (y ∷ ys) (omega (arith, more)) others in
    single_first x y ys (differ 0 (omega arith)) ∙ ap (λ (text : List ℕ). single_text x ++ text) rest
    ∙ sym (append_assoc (single_text x) (flat_map single_text (take n (y ∷ ys))) (stretches_text (drop n (y ∷ ys))))

pub length-singles : (bytes : List ℕ) → length (flat_map single_text bytes) ≡ 5 * length bytes
length-singles [] = refl
length-singles (x ∷ xs) =
    let rest = length-singles xs in
    let first = length-single_text x in
    length-append (single_text x) (flat_map single_text xs) ∙ omega (arith, rest, first)
