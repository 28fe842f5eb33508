use Rattle.std.proofs.Common.{◌≡◌, ◌*◌, ◌<◌, ℕ, length}
use Rattle.image_model.specs.Geometry.{journal_sectors}
use Rattle.image_model.specs.Section.{section_bytes}
use Rattle.image_model.specs.EmptySections.{IsEmptySection}
use Rattle.journal_erasure.proofs.clearing.clear_sections.Given as goal

abbrev pub invariant-loop-i : goal.invariant-loop-i
invariant-loop-i l = record {
  size : length l.bytes ≡ 512 * journal_sectors l.geometry;
  each : (j : ℕ) → j < l.i → IsEmptySection l.geometry.shape j l.number (section_bytes l.geometry.shape l.bytes j);
}
