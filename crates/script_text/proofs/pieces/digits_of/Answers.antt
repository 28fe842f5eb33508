use Rattle.hex.specs.Hex.{encode_with}
use Rattle.std.proofs.Common.{refl}
use Rattle.script_text.proofs.pieces.digits_of.Goals as goal

pub returns : goal.returns
unfolding encode_with
returns c = refl
