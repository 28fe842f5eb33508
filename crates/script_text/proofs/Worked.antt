-- The stretches of a word, as computed elsewhere.
use Rattle.std.specs.Prelude.{◌≡◌, [], ◌∷◌, codes, refl}
use Rattle.hex.specs.Hex.{decode_pairs}
use Rattle.script_text.specs.Runs.{stretches_in}

stretches_in-two : stretches_in (codes "aa*300,bb*212") ≡ record { byte = 170; count = 300 } ∷ record { byte = 187; count = 212 } ∷ []
unfolding decode_pairs
stretches_in-two = refl

stretches_in-none : stretches_in [] ≡ []
stretches_in-none = refl
