-- The faults of a line's words, place by place.
use Rattle.std.proofs.Common.{◌≡◌, ℕ, ◌<◌, ◌^◌, List, [], ◌∷◌, inl, refl}
use Rattle.std.specs.Fmt.{decimal}
use Rattle.hex.specs.Hex.{encode_lower}
use Rattle.device_model.specs.Grammar.{WordPlace, NumberPlace, BytePlace, StretchesPlace, AreStretches, IsFaultAt, stretches_word}
use Rattle.device_model.specs.LineFault.{WordsFault}
use Rattle.device_model.specs.Stretches.{Stretch}

-- What stands behind a word that fits its place is at fault.
pub fault_behind_number : (n : ℕ) (words later : List (List ℕ)) (places : List WordPlace) (fault : WordsFault) → n < 2 ^ 64
    → words ≡ decimal n ∷ later → IsFaultAt places later fault → IsFaultAt (NumberPlace ∷ places) words fault
fault_behind_number n words later places fault fits is bad = rw is (inl ((n, fits, refl), bad))

pub fault_behind_byte : (byte : ℕ) (words later : List (List ℕ)) (places : List WordPlace) (fault : WordsFault) → byte < 256
    → words ≡ encode_lower (byte ∷ []) ∷ later → IsFaultAt places later fault → IsFaultAt (BytePlace ∷ places) words fault
fault_behind_byte byte words later places fault fits is bad = rw is (inl ((byte, fits, refl), bad))

pub fault_behind_runs : (stretches : List Stretch) (words later : List (List ℕ)) (places : List WordPlace) (fault : WordsFault) → AreStretches stretches
    → words ≡ stretches_word stretches ∷ later → IsFaultAt places later fault → IsFaultAt (StretchesPlace ∷ places) words fault
fault_behind_runs stretches words later places fault are is bad = rw is (inl ((stretches, are, refl), bad))
