-- Numbers and bytes as words.
use Rattle.std.proofs.Common.{◌≡◌, ℕ, ◌<◌, List, [], ◌∷◌, zero, suc, arith, refl, Ok}
use Rattle.hex.specs.Hex.{IsBytes, encode_lower, decode_sized}
use Rattle.hex.proofs.HexLemmas.{decode_sized-encode_lower}

one_byte : (byte : ℕ) → byte < 256 → IsBytes (byte ∷ [])
one_byte byte fits zero = fits
one_byte byte fits (suc i) = omega arith

-- The two digits of a byte read as it.
pub decode_byte : (text : List ℕ) (byte : ℕ) → byte < 256 → text ≡ encode_lower (byte ∷ []) → decode_sized text 1 ≡ Ok (byte ∷ [])
decode_byte text byte fits is = rw is (decode_sized-encode_lower (byte ∷ []) 1 refl (one_byte byte fits))
