use Rattle.place_model.proofs.FormatLemmas.{read_format_law}
use Rattle.place_model.proofs.format_is_told.Goals as goal

pub returns : goal.returns
returns c = read_format_law
