-- How many newlines some bytes have.
use Rattle.std.proofs.Common.{◌≡◌, ◌≢◌, ℕ, suc, ◌+◌, ◌≤◌, ◌==◌, Bool, true, false, if◌then◌else◌, ne_eqb, List, [], ◌∷◌}
use Rattle.std.proofs.Common.{◌++◌, length, refl, ap, arith}
use Rattle.std.proofs.lemmas.List.Elements.{All-head, All-tail}
use Rattle.device_model.specs.ScriptBytes.{HasNoNewline, newlines_in}

pub newlines_in-append : (one other : List ℕ) → newlines_in (one ++ other) ≡ newlines_in one + newlines_in other
newlines_in-append [] other = omega arith
newlines_in-append (byte ∷ one) other =
    let rest = newlines_in-append one other in
    omega (arith, ap {B = ℕ} (λ (n : ℕ). (if byte == 10 then 1 else 0) + n) rest)

pub newlines_in-none : (bytes : List ℕ) → HasNoNewline bytes → newlines_in bytes ≡ 0
newlines_in-none [] plain = refl
newlines_in-none (byte ∷ bytes) plain =
    let rest = newlines_in-none bytes (All-tail (λ byte. byte ≢ 10) byte bytes plain) in
    omega (arith, rest, ap {B = ℕ} (λ (b : Bool). if b then 1 else 0) (ne_eqb byte 10 (All-head (λ byte. byte ≢ 10) byte bytes plain)))

pub newlines_in-most : (bytes : List ℕ) → newlines_in bytes ≤ length bytes
newlines_in-most [] = omega arith
newlines_in-most (byte ∷ bytes) =
    let rest = newlines_in-most bytes in by (byte == 10) rest
  where
    by : (is : Bool) → newlines_in bytes ≤ length bytes → (if is then 1 else 0) + newlines_in bytes ≤ suc (length bytes)
    by true rest = omega (arith, rest)
    by false rest = omega (arith, rest)
