-- Lemmas on specs/Numbers.antt.
use Rattle.std.proofs.Common.{◌≡◌, ◌<◌, ◌^◌, ◌&&◌, ℕ, Bool, true, false, refl, sym, List, Some, None}
use Rattle.std.specs.Prelude.{nat_lt}
use Rattle.std.specs.Fmt.{decimal}
use Rattle.std.specs.Str.{bytes_eq}
use Rattle.std.specs.Str.Parse.{digits_value}
use Rattle.std.proofs.lemmas.Fmt.{decimal_is_IsNumeral}
use Rattle.std.proofs.lemmas.Slice.Eq.{bytes_eq-Decides}
use borrow.Author.Tests.{ltb-true, lt-ltb}
use Rattle.clap.proofs.WalkLemmas.{both}
use Rattle.command_words.specs.Numbers.{number_of}

-- A number is read as it is written.
pub number_of-decimal : (n : ℕ) (text : List ℕ) → n < 2 ^ 64 → text ≡ decimal n → number_of text ≡ Some n
number_of-decimal n text fits written =
    let value = (decimal_is_IsNumeral n fits).1 in
    let same : bytes_eq (decimal n) (decimal n) ≡ true = (bytes_eq-Decides (decimal n) (decimal n)).1 refl in
    rw (written, value, same, lt-ltb n (2 ^ 64) fits) refl

-- A text that no number is written as writes none.
pub number_of-none : (text : List ℕ) → ((n : ℕ) → n < 2 ^ 64 → text ≡ decimal n → ⊥) → number_of text ≡ None
number_of-none text none = go (nat_lt (digits_value 10 text) (2 ^ 64) && bytes_eq (decimal
    (digits_value 10 text)) text) refl
  where
    go : (b : Bool)
        → (nat_lt (digits_value 10 text) (2 ^ 64) && bytes_eq (decimal (digits_value 10 text)) text) ≡ b
        → number_of text ≡ None
    go false e = rw e refl
    go true e =
        let parts = both _ _ e in
        absurd (none (digits_value 10 text) (ltb-true _ _ parts.0) (sym ((bytes_eq-Decides (decimal
        (digits_value 10 text)) text).0 parts.1)))
