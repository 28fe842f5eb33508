-- That any bytes are read: as a line, or with a fault.
use Rattle.std.proofs.Common.{◌≡◌, ◌≢◌, ℕ, ◌<◌, ◌≤◌, List, [], ◌∷◌, length, arith, refl, inl, inr}
use Rattle.device_model.specs.Grammar.{ReadLine, Means, Refused, IsReadAs, IsText, most_line, words_in}
use Rattle.device_model.specs.LineFault.{TooLong, NotText}
use Rattle.device_model.specs.Script.{Skip}
use Rattle.script_text.specs.Laws.{TotalLaw, ReadAllLaw}
use Rattle.script_text.proofs.DecideLemmas.{Decided, less_or_not, all_or_not}
use Rattle.script_text.proofs.FitLemmas.{line_or_fault}
use Rattle.script_text.proofs.ReadLemmas.{line_by_words, refused_by_words}

abbrev pub IsTextByte : ℕ → Type 0
IsTextByte byte = (32 ≤ byte) × (byte ≤ 126)

-- A byte is text or it is not.
pub text_byte : (byte : ℕ) → Decided (IsTextByte byte)
text_byte byte = both (less_or_not byte 32) (less_or_not 126 byte)
  where
    both : Decided (byte < 32) → Decided (126 < byte) → Decided (IsTextByte byte)
    both (inl low) high = inr (λ is. omega (arith, low, is.0))
    both (inr low) (inl high) = inr (λ is. omega (arith, high, is.1))
    both (inr low) (inr high) = inl (omega (arith, low), omega (arith, high))

-- A line begins with `#`, or it does not.
abbrev pub IsComment : List ℕ → Type 0
IsComment bytes = (rest : List ℕ) × (bytes ≡ 35 ∷ rest)

pub comment : (bytes : List ℕ) → Decided (IsComment bytes)
comment [] = inr (λ (rest, is). absurd (cc))
comment (byte ∷ bytes) = first (less_or_not byte 35) (less_or_not 35 byte)
  where
    first : Decided (byte < 35) → Decided (35 < byte) → Decided (IsComment (byte ∷ bytes))
    first (inl low) high = inr (λ (rest, is). let same : byte ≡ 35 = (cc) in omega (arith, low, same))
    first (inr low) (inl high) = inr (λ (rest, is). let same : byte ≡ 35 = (cc) in omega (arith, high, same))
    first (inr low) (inr high) = let same : byte ≡ 35 = omega (arith, low, high) in inl (bytes, (cc))

abbrev HasReading : List ℕ → Type 0
HasReading bytes = (read : ReadLine) × IsReadAs bytes read

-- Few bytes, all of them text, are read by their words, unless they are a comment.
by_words : (bytes : List ℕ) → length bytes ≤ most_line → IsText bytes → ((rest : List ℕ) → bytes ≢ 35 ∷ rest)
    → HasReading bytes
by_words bytes short text other = elim (line_or_fault (words_in bytes)) [
  | inl (line, is, writable) ↦ (Means line, line_by_words bytes line short text other is writable)
  | inr (fault, bad) ↦ (Refused fault, refused_by_words bytes fault short text other bad)
]

by_text : (bytes : List ℕ) → length bytes ≤ most_line → Decided (IsText bytes) → Decided (IsComment bytes)
    → HasReading bytes
by_text bytes short (inl text) (inl is) = (Means Skip, record { short = short; text = text; says = inr is })
by_text bytes short (inl text) (inr other) = by_words bytes short text (λ rest is. other (rest, is))
by_text bytes short (inr none) is = (Refused NotText, (short, none))

by_length : (bytes : List ℕ) → Decided (most_line < length bytes) → HasReading bytes
by_length bytes (inl long) = (Refused TooLong, long)
by_length bytes (inr short) =
    by_text bytes (omega (arith, short)) (all_or_not IsTextByte text_byte bytes) (comment bytes)

-- ---- for callers

pub has_reading : TotalLaw
has_reading bytes = by_length bytes (less_or_not most_line (length bytes))

pub has_readings : ReadAllLaw
has_readings [] = ([], tt)
has_readings (bytes ∷ lines) =
    let first = has_reading bytes in
    let rest = has_readings lines in
    (first.0 ∷ rest.0, (first.1, rest.1))
