-- The first commit number that passes a test.
use Rattle.std.proofs.Common.{◌≡◌, ℕ, ◌<◌, Bool, true, false, refl, arith, find, Some, None}
use Rattle.image_model.specs.CommitId.{commit_numbers}
use Rattle.image_model.proofs.NumberLemmas.{four_numbers}

-- It passes, and those before it fail.
pub first_number : (p : ℕ → Bool) (number : ℕ) → number < 4 → ((k : ℕ) → k < number → p k ≡ false) → p number ≡ true → Some number ≡ find p commit_numbers
first_number p =
    four_numbers (λ number. ((k : ℕ) → k < number → p k ≡ false) → p number ≡ true → Some number ≡ find p commit_numbers)
    (λ before is. rw is refl)
    (λ before is. rw (before 0 (omega arith), is) refl)
    (λ before is. rw (before 0 (omega arith), before 1 (omega arith), is) refl)
    (λ before is. rw (before 0 (omega arith), before 1 (omega arith), before 2 (omega arith), is) refl)

-- Where all fail there is none.
pub no_number : (p : ℕ → Bool) → ((k : ℕ) → k < 4 → p k ≡ false) → None ≡ find p commit_numbers
no_number p each = rw (each 0 (omega arith), each 1 (omega arith), each 2 (omega arith), each 3 (omega arith)) refl
