-- Numbers in words: decimal digits without leading zeros, below 2^64.
-- Own: they are written as in a script.
use Rattle.std.specs.Int.{is_power_of_two, trailing_zeros, w64}
use Rattle.std.specs.Prelude.{◌&&◌, ◌^◌, ℕ, Bool, IsTrue, List, Option, Some, None, if◌then◌else◌, nat_lt, nat_le}
use Rattle.std.specs.Prelude.{option_and_then}
use Rattle.std.specs.Fmt.{decimal}
use Rattle.std.specs.Str.{bytes_eq}
use Rattle.std.specs.Str.Parse.{digits_value}

-- The number below 2^64 that the text writes, if it writes one.
abbrev pub number_of : List ℕ → Option ℕ
number_of text =
    let number = digits_value 10 text in
    if nat_lt number (2 ^ 64) && bytes_eq (decimal number) text then Some number else None

-- The number, if it is in the range.
abbrev pub within : ℕ → ℕ → ℕ → Option ℕ
within least most number = if nat_le least number && nat_le number most then Some number else None

-- The number in the range that the text writes, if it writes one.
abbrev pub number_within : ℕ → ℕ → List ℕ → Option ℕ
number_within least most text = option_and_then (within least most) (number_of text)

-- An area may have so many sectors of data: a power of two from 2^3 to 2^31.
-- Source: integritysetup(8), `--interleave-sectors`; the bounds are those of the format.
abbrev pub is_interleave : ℕ → Bool
is_interleave sectors = nat_le 8 sectors && nat_le sectors (2 ^ 31) && is_power_of_two sectors

abbrev pub IsInterleave : ℕ → Type 0
IsInterleave sectors = IsTrue (is_interleave sectors)

-- The sectors, if an area may have so many.
abbrev pub interleave_of : ℕ → Option ℕ
interleave_of sectors = if is_interleave sectors then Some sectors else None

-- The power of two that they are: the place of their lowest bit.
abbrev pub log2_of : ℕ → ℕ
log2_of sectors = trailing_zeros w64 sectors
