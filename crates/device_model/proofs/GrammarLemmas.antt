-- How a line of a script is shown to be one, or to have a fault.
use Rattle.std.proofs.Common.{◌≡◌, ◌≢◌, ℕ, zero, suc, ◌+◌, ◌%◌, ◌^◌, ◌<◌, ◌≤◌, Bool, true, false, ◌&&◌, leb, List, [], ◌∷◌, length, get_or, sym, ◌∙◌, ap, subst, arith, All, leb→le, leb-true, bytes_eq, Ok, Err}
use Rattle.std.specs.Fmt.{decimal, digits}
use Rattle.std.specs.List.{list_all}
use Rattle.hex.specs.Hex.{IsBytes, decode_of}
use Rattle.hex.specs.declared.error.FromHexError.{FromHexError}
use Rattle.hex.proofs.HexLemmas.{decode_of-encode_lower}
use Rattle.std.proofs.lemmas.Fmt.{decimal_by_steps, first_decimal}
use Rattle.std.proofs.lemmas.Slice.Eq.{bytes_eq-Decides}
use Rattle.std.proofs.lemmas.List.Elements.{All-nil, All-cons, All-head, All-push}
use Rattle.device_model.specs.Grammar.{words_in, most_line, IsText, IsSkipped, Fits, NumberPlace, BytePlace, Says, IsLine}
use Rattle.device_model.specs.Script.{ScriptLine}

abbrev IsTextByte : ℕ → Type 0
IsTextByte byte = (32 ≤ byte) × (byte ≤ 126)

abbrev is_text_byte : ℕ → Bool
is_text_byte byte = leb 32 byte && leb byte 126

-- Bytes that differ somewhere are not the same.
pub differ : (xs ys : List ℕ) → bytes_eq xs ys ≡ false → xs ≢ ys
differ xs ys unlike same = grind (arith, bytes_eq-Decides xs ys, unlike, same)

-- Bytes are text where each passes.
pub IsText-by : (bytes : List ℕ) → list_all is_text_byte bytes ≡ true → IsText bytes
IsText-by [] all = All-nil IsTextByte
IsText-by (byte ∷ bytes) all = All-cons IsTextByte byte bytes (grind (arith, all, leb→le)) (IsText-by bytes (grind (arith, all)))

-- Few bytes, all of them text, are the line that they say.
pub IsLine-by : (bytes : List ℕ) (line : ScriptLine) → leb (length bytes) most_line ≡ true → list_all is_text_byte bytes ≡ true → Says bytes line → IsLine bytes line
IsLine-by bytes line short text says = record { short = leb-true (length bytes) most_line short; text = IsText-by bytes text; says = says }

-- A line with words whose first byte is no `#` is not skipped.
pub not_skipped : (bytes : List ℕ) → (words_in bytes ≢ []) → ((rest : List ℕ) → bytes ≢ 35 ∷ rest) → ¬ IsSkipped bytes
not_skipped bytes has_words other skipped = grind (arith, skipped, has_words, other)

-- What holds of each digit holds of each byte of a number.
pub All-decimal : (P : ℕ → Type 0) → ((digit : ℕ) → digit < 10 → P (48 + digit)) → (n : ℕ) → n < 2 ^ 64 → All P (decimal n)
All-decimal P holds n fits =
    decimal_by_steps (λ n digits. All P digits) (λ n low. All-cons P (48 + n) [] (holds n low) (All-nil P))
    (λ n digits high all. All-push P digits (48 + n % 10) all (holds (n % 10) (omega arith))) n fits

abbrev pub IsDigit : ℕ → Type 0
IsDigit byte = (48 ≤ byte) × (byte ≤ 57)

-- A word is no number whose first byte is no digit,
pub no_number-first : (byte : ℕ) (word : List ℕ) → ¬ IsDigit byte → ¬ Fits NumberPlace (byte ∷ word)
no_number-first byte word other (n, fits, is) =
    other (All-head IsDigit byte word (subst (All IsDigit) (sym is) (All-decimal IsDigit (λ digit low. (omega arith, omega arith)) n fits)))

-- nor one with a leading zero,
pub no_number-zero : (byte : ℕ) (word : List ℕ) → ¬ Fits NumberPlace (48 ∷ byte ∷ word)
unfolding digits
no_number-zero byte word (zero, fits, is) = absurd (let two : suc (suc (length word)) ≡ 1 = ap length is in omega (arith, two))
no_number-zero byte word (suc n, fits, is) =
    let first : 48 < get_or (decimal (suc n)) 0 0 = first_decimal (suc n) (omega arith) fits in
    let same : 48 ≡ get_or (decimal (suc n)) 0 0 = ap (λ (bytes : List ℕ). get_or bytes 0 0) is in
    omega (arith, first, same)

pub one_byte : (byte : ℕ) → byte < 256 → IsBytes (byte ∷ [])
one_byte byte fits zero = fits
one_byte byte fits (suc i) = omega arith

-- and a word is no byte that no bytes have as their text.
pub no_byte : (word : List ℕ) (e : FromHexError) → decode_of word ≡ Err e → ¬ Fits BytePlace word
no_byte word e refused (byte, fits, is) =
    let good : decode_of word ≡ Ok (byte ∷ []) = ap decode_of is ∙ decode_of-encode_lower (byte ∷ []) (one_byte byte fits) in
    absurd (cc)
