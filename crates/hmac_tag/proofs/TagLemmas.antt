-- A tag with zeros behind it.
use Rattle.std.proofs.Common.{ℕ, ◌-◌, ◌≤◌, List, ◌++◌, length, replicate, arith, ap, sym, refl, length-append}
use Rattle.std.proofs.lemmas.List.{length-replicate, take_at}
use Rattle.hmac_tag.specs.Tag.{IsPadded}

-- A tag lies as it should once zeros are behind it.
pub IsPadded-zeros : (bytes : List ℕ) → 1 ≤ length bytes → length bytes ≤ 32
    → IsPadded (length bytes) (bytes ++ replicate (32 - length bytes) 0)
IsPadded-zeros bytes some fits =
    let zeros : List ℕ = replicate (32 - length bytes) 0 in
    record {
      some = some;
      fits = fits;
      whole = omega (arith, length-append bytes zeros, length-replicate {A = ℕ} (32 - length bytes) 0);
      zeros = ap (λ (front : List ℕ). front ++ zeros) (sym (take_at bytes zeros (length bytes) refl));
    }
