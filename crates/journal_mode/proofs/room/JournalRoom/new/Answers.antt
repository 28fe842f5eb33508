use Rattle.std.proofs.Common.{◌≡◌, ◌*◌, ◌∙◌, ℕ, ap, arith}
use Rattle.image_model.specs.Geometry.{section_entries}
use Rattle.journal_mode.proofs.JournalLemmas.{entries_fit}
use Rattle.journal_mode.proofs.room.JournalRoom.new.Goals as goal

pub overflow_mul-entries : goal.overflow_mul-entries
overflow_mul-entries c =
    let g = c.args.geometry in
    let same : c.sections.result * c.shape.result.entries ≡ g.sections * section_entries g.shape =
    ap (λ (n : ℕ). n * c.shape.result.entries) c.sections.ensures
    ∙ ap (λ (n : ℕ). g.sections * n) (c.shape.ensures.is_shape.entries ∙ ap section_entries c.shape.ensures.shape) in
    omega (arith, same, entries_fit g c.blocks-2.ensures.geometry)
