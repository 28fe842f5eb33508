use Rattle.commit_id.specs.Shape.{as_shape}
use Rattle.commit_id.proofs.ShapeLemmas.{shape_holds}
use Rattle.journal_section.proofs.ToldLemmas.{section_told}
use Rattle.journal_section.proofs.section_laws.section_is_told.Goals as goal

pub returns : goal.returns
returns c =
    λ shape i number entries one other is. section_told (as_shape shape) i number entries one other (shape_holds shape is).2
