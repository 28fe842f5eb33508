use Rattle.std.proofs.Common.{List, ℕ, ap, ◌∙◌}
use Rattle.image_model.specs.Section.{entry_at}
use Rattle.journal_reading.proofs.entries.read_entry.Goals as goal

pub returns-clause-entry : goal.returns-clause-entry
returns-clause-entry c =
    c.read_in_section.ensures.entry
    ∙ ap (λ (xs : List ℕ). entry_at c.args.geometry.now.shape xs c.args.place.entry) c.section_in-section.ensures.bytes
