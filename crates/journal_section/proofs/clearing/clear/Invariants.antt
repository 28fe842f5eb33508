use Rattle.std.proofs.Common.{◌≡◌, ℕ, ◌+◌, ◌<◌, slice_index}
use Rattle.commit_id.specs.Shape.{as_shape}
use Rattle.image_model.specs.Section.{entry_from}
use Rattle.image_model.specs.Entries.{IsWithin}
use Rattle.journal_section.proofs.clearing.clear.Given as goal

-- The high words of the entries so far are all ones, and all else is zero.
abbrev pub invariant-loop-n : goal.invariant-loop-n
invariant-loop-n l = record {
  ones : (m : ℕ) → m < l.n → (at : ℕ) → IsWithin (entry_from (as_shape l.shape) m + 4) 4 at → slice_index l.bytes at ≡ 255;
  zeros : (at : ℕ) → ((m : ℕ) → m < l.n → IsWithin (entry_from (as_shape l.shape) m + 4) 4 at → ⊥) → slice_index l.bytes at ≡ 0;
}
