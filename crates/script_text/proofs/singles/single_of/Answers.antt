use Rattle.std.proofs.Common.{ℕ, List, [], ◌∷◌, get_or, ap}
use Rattle.std.specs.Fmt.{digits}
use Rattle.hex.specs.Hex.{encode_with}
use Rattle.script_text.proofs.singles.single_of.Goals as goal

pub returns : goal.returns
unfolding digits encode_with
returns c = ap (λ (text : List ℕ). get_or text 0 0 ∷ get_or text 1 0 ∷ 42 ∷ 49 ∷ 44 ∷ []) c.digits_of.ensures
