-- What holds of the memory for a ring.
use Rattle.std.specs.Prelude.{◌≡◌, ℕ, ◌+◌, ◌^◌, ◌≤◌, List, [], replicate}
use Rattle.image_model.specs.Geometry.{Geometry, section_entries, IsGeometry}
use Rattle.sector_pool.specs.Run.{Piece}

-- No section has an entry, and there is room for the runs that a section is cut into.
pub record IsRoom (g : Geometry) (counts : List ℕ) (before behind : List Piece) (capacity_before capacity_behind : ℕ)
    : Type 0 where
  pub geometry : IsGeometry g (2 ^ 48)
  pub counts_are : counts ≡ replicate g.sections 0
  pub none_before : before ≡ []
  pub none_behind : behind ≡ []
  pub room_before : 2 ≤ capacity_before
  pub room_behind : section_entries g.shape + 1 ≤ capacity_behind
