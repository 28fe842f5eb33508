-- The text of one run.
use Rattle.std.proofs.Common.{◌≡◌, ◌≢◌, ℕ, ◌+◌, ◌/◌, ◌%◌, ◌==◌, ◌<◌, ◌≤◌, ◌^◌, false, List, [], ◌∷◌, length, take, drop, get_or, sym, ◌∙◌, ap, subst, arith, refl, All, Ok, Err, Result, slice_index, map, ne_eqb}
use Rattle.std.specs.Fmt.{decimal}
use Rattle.std.specs.Str.Parse.{digits_value}
use Rattle.std.proofs.lemmas.Fmt.{decimal_is_IsNumeral, decimal_injective}
use Rattle.hex.specs.Hex.{encode_with, encode_lower, decode_of, lower_digits, hex_digit_value}
use Rattle.hex.specs.declared.error.FromHexError.{FromHexError}
use Rattle.hex.proofs.HexLemmas.{decode_of-encode_lower, IsDigits-lower_digits}
use Rattle.device_model.specs.Grammar.{AreStretches, stretches_word, Fits, StretchesPlace}
use Rattle.device_model.specs.Stretches.{Stretch, stretch_text}
use Rattle.device_model.proofs.GrammarLemmas.{one_byte, All-decimal}
use Rattle.script_text.specs.Runs.{byte_in, stretch_in, stretches_in, parts_in, IsStretch, IsRunText}
use Rattle.std.specs.List.{join_with_byte, count_by}
use Rattle.std.proofs.lemmas.List.Splits.{slice_split_none, slice_split_at, length-slice_split, join_with_byte-slice_split}
use Rattle.std.proofs.lemmas.List.Elements.{All-nil, All-cons, All-head, All-tail}
use Rattle.std.proofs.lemmas.List.{length-map}

-- Some bytes that are the text of a stretch.
pub record IsTextOf (text : List ℕ) (stretch : Stretch) : Type 0 where
  pub long : 3 ≤ length text
  pub star : get_or text 2 0 ≡ 42
  pub byte : take 2 text ≡ encode_lower (stretch.byte ∷ [])
  pub count : drop 3 text ≡ decimal stretch.count

stretch_text-parts : (stretch : Stretch) → IsTextOf (stretch_text stretch) stretch
unfolding encode_with
stretch_text-parts stretch = record { long = omega arith; star = refl; byte = refl; count = refl }

pub IsTextOf-stretch_text : (text : List ℕ) (stretch : Stretch) → text ≡ stretch_text stretch → IsTextOf text stretch
IsTextOf-stretch_text text stretch is = subst (λ (bytes : List ℕ). IsTextOf bytes stretch) (sym is) (stretch_text-parts stretch)

byte_in-decoded : (digits bytes : List ℕ) → decode_of digits ≡ Ok bytes → byte_in digits ≡ slice_index bytes 0
byte_in-decoded digits bytes is = ap (λ (r : Result (List ℕ) FromHexError). elim r [ Ok bs ↦ slice_index bs 0 | Err e ↦ 0 ]) is

pub byte_in-encode_lower : (byte : ℕ) → byte < 256 → byte_in (encode_lower (byte ∷ [])) ≡ byte
byte_in-encode_lower byte fits = byte_in-decoded (encode_lower (byte ∷ [])) (byte ∷ []) (decode_of-encode_lower (byte ∷ []) (one_byte byte fits))

-- A stretch is read from its text.
pub stretch_in-stretch_text : (stretch : Stretch) → IsStretch stretch → stretch_in (stretch_text stretch) ≡ stretch
unfolding encode_with
stretch_in-stretch_text stretch (byte, some, count) =
    let value : digits_value 10 (decimal stretch.count) ≡ stretch.count = (decimal_is_IsNumeral stretch.count count).1 in
    let digits : byte_in (encode_lower (stretch.byte ∷ [])) ≡ stretch.byte = byte_in-encode_lower stretch.byte byte in
    ap (λ (b : ℕ). record { byte = b; count = digits_value 10 (decimal stretch.count) }) digits
    ∙ ap (λ (n : ℕ). record { byte = stretch.byte; count = n }) value

-- No stretch has this text, since its count is 0.
pub no_run : (text : List ℕ) (count : ℕ) → count < 2 ^ 64 → drop 3 text ≡ decimal count → ¬ (0 < count) → (stretch : Stretch) → IsStretch stretch → text ≢ stretch_text stretch
no_run text count fits is none stretch ok same =
    let counts : count ≡ stretch.count = decimal_injective count stretch.count fits ok.2 (sym is ∙ (IsTextOf-stretch_text text stretch same).count) in
    omega (arith, none, ok.1, counts)

-- A text of a stretch is told by what is read from it, and by no other.
pub IsRunText-from : (text : List ℕ) (stretch : Stretch) → IsStretch stretch → text ≡ stretch_text stretch → IsRunText text
IsRunText-from text stretch ok is =
    let read : stretch_in text ≡ stretch = ap stretch_in is ∙ stretch_in-stretch_text stretch ok in
    record { ok = subst IsStretch (sym read) ok; is = is ∙ ap stretch_text (sym read) }

-- ---- a word of runs

-- Parts that are runs are the texts of what is read from them.
texts_of_parts : (parts : List (List ℕ)) → All IsRunText parts → map stretch_text (map stretch_in parts) ≡ parts
texts_of_parts [] each = refl
texts_of_parts (part ∷ parts) each =
    let first = sym (All-head IsRunText part parts each).is in
    let rest = texts_of_parts parts (All-tail IsRunText part parts each) in
    cc

pub stretches_of_parts : (parts : List (List ℕ)) → All IsRunText parts → All IsStretch (map stretch_in parts)
stretches_of_parts [] each = All-nil IsStretch
stretches_of_parts (part ∷ parts) each =
    All-cons IsStretch (stretch_in part) (map stretch_in parts) (All-head IsRunText part parts each).ok (stretches_of_parts parts (All-tail IsRunText part parts each))

-- A run has bytes.
pub some_bytes : (text : List ℕ) → IsRunText text → 3 ≤ length text
some_bytes text run = (IsTextOf-stretch_text text (stretch_in text) run.is).long

-- A word whose parts are runs has some, and is theirs.
pub runs_of_word : (word : List ℕ) → All IsRunText (parts_in word) → AreStretches (stretches_in word) × (word ≡ stretches_word (stretches_in word))
runs_of_word [] each = let short = some_bytes [] (All-head IsRunText [] [] each) in absurd (omega (arith, short))
runs_of_word (byte ∷ bytes) each =
    let word = byte ∷ bytes in
    let parts = parts_in word in
    let long : length (map stretch_in parts) ≡ count_by (λ b. b == 44) word + 1 = length-map parts stretch_in ∙ length-slice_split (λ b. b == 44) word in (
      ((λ none. absurd (omega (arith, long, ap length none))), stretches_of_parts parts each),
      sym (ap (join_with_byte 44) (texts_of_parts parts each) ∙ join_with_byte-slice_split 44 word),
    )

-- ---- the parts of a word of runs

abbrev NoComma : ℕ → Type 0
NoComma byte = (byte == 44) ≡ false

-- Digits in lower case are no comma.
no_comma-digit : (digit : ℕ) → digit < 16 → slice_index lower_digits digit ≢ 44
no_comma-digit digit low is = let told = sym (IsDigits-lower_digits digit low) ∙ ap hex_digit_value is in absurd (cc)

no_comma : (stretch : Stretch) → stretch.byte < 256 → stretch.count < 2 ^ 64 → All NoComma (stretch_text stretch)
unfolding encode_with
no_comma stretch fits small =
    let hex : (digit : ℕ) → digit < 16 → NoComma (slice_index lower_digits digit) = λ digit low. ne_eqb (slice_index lower_digits digit) 44 (no_comma-digit digit low) in
    All-cons NoComma (slice_index lower_digits (stretch.byte / 16)) (slice_index lower_digits (stretch.byte % 16) ∷ 42 ∷ decimal stretch.count) (hex (stretch.byte / 16) (omega arith))
    (All-cons NoComma (slice_index lower_digits (stretch.byte % 16)) (42 ∷ decimal stretch.count) (hex (stretch.byte % 16) (omega arith))
    (All-cons NoComma 42 (decimal stretch.count) refl (All-decimal NoComma (λ digit low. ne_eqb (48 + digit) 44 (λ is. omega (arith, is))) stretch.count small)))

-- Each part of what is joined from stretches is the text of one.
parts_are_runs : (stretch : Stretch) (stretches : List Stretch) → All IsStretch (stretch ∷ stretches)
    → All IsRunText (parts_in (stretches_word (stretch ∷ stretches)))
parts_are_runs stretch [] each =
    let here = All-head IsStretch stretch [] each in
    let part = slice_split_none (λ b. b == 44) (stretch_text stretch) (no_comma stretch here.0 here.2) in
    subst (All IsRunText) (sym part) (All-cons IsRunText (stretch_text stretch) [] (IsRunText-from (stretch_text stretch) stretch here refl) (All-nil IsRunText))
parts_are_runs stretch (next ∷ stretches) each =
    let here = All-head IsStretch stretch (next ∷ stretches) each in
    let rest = stretches_word (next ∷ stretches) in
    let part = slice_split_at (λ b. b == 44) (stretch_text stretch) 44 rest (no_comma stretch here.0 here.2) refl in
    subst (All IsRunText) (sym part)
    (All-cons IsRunText (stretch_text stretch) (parts_in rest) (IsRunText-from (stretch_text stretch) stretch here refl)
    (parts_are_runs next stretches (All-tail IsStretch stretch (next ∷ stretches) each)))

-- A word of stretches has runs as its parts.
pub word_is_runs : (word : List ℕ) → Fits StretchesPlace word → All IsRunText (parts_in word)
word_is_runs word ([], (some, each), is) = absurd (some refl)
word_is_runs word (stretch ∷ stretches, (some, each), is) = subst (λ (bytes : List ℕ). All IsRunText (parts_in bytes)) (sym is) (parts_are_runs stretch stretches each)
