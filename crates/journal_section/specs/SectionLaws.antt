-- What the bytes of a section follow from.
use Rattle.std.specs.Prelude.{◌≡◌, ℕ, ◌<◌, List, slice_index, Option}
use Rattle.commit_id.specs.declared.shape.Shape.{Shape}
use Rattle.commit_id.specs.Shape.{as_shape, IsShape}
use Rattle.image_model.specs.Section.{Entry}
use Rattle.image_model.specs.Entries.{BearsNumber, HoldsEntries}

-- Sections that hold the same entries under the same commit number have the same bytes.
abbrev pub SectionIsTold : Type 0
SectionIsTold = (shape : Shape) (i number : ℕ) (entries : List (Option Entry)) (one other : List ℕ) → IsShape shape
    → ((at : ℕ) → slice_index one at < 256) → ((at : ℕ) → slice_index other at < 256)
    → HoldsEntries (as_shape shape) entries one → HoldsEntries (as_shape shape) entries other
    → BearsNumber (as_shape shape) i number one → BearsNumber (as_shape shape) i number other
    → one ≡ other
