-- How far the calls of a recalculation came, as what a cut leaves of a disk in journal mode.
use Rattle.std.proofs.Common.{◌≡◌, ℕ, Bool, refl, sym, subst, Option, Some, None, List}
use Rattle.disk_model.specs.Disk.{Content}
use Rattle.disk_model.proofs.MomentsLemmas.{EachMoment-kept, EachMoment-then}
use Rattle.image_model.specs.Superblock.{Superblock}
use Rattle.direct_mode.specs.Settling.{Back, SettlesIn, Syncing}
use Rattle.journal_model.specs.JournaledDisk.{JournaledDisk}
use Rattle.recalculate_laws.specs.Calls.{IsCutThrough, IsSettledNow}
use Rattle.recalculate_laws.specs.Position.{HasPosition, moved_fields}
use Rattle.recalculate_laws.specs.Taking.{KeepsAwaitingNow}
use Rattle.recalculate_laws.proofs.CallsLemmas.{back_law, back_through_law, head_sync_through_law, head_through_law, settled_law, sync_through_law}
use Rattle.recalculation.specs.declared.recalculating.Recalculation.{Recalculation}
use Rattle.recalculation.specs.Position as Positions
use Rattle.recalculation.specs.Position.{CanBeWritten, MovesIn, WritesFieldsIn}
use Rattle.recalculation.specs.Recalculation.{IsRecalculationOf, Moving, Settling, SettlesPositionIn, to_write}
use Rattle.recalculation.proofs.KeptLemmas.{moved_if_some}

-- Fields that may be written, and whose flag is set, have a position.
pub has_position : (d : JournaledDisk) (awaiting : ℕ → Bool) (r : Recalculation) → IsRecalculationOf d.superblock d.geometry awaiting r → CanBeWritten d.superblock → (t : Superblock) → to_write r ≡ Some t
    → (t ≡ moved_fields d.superblock d.geometry awaiting) × HasPosition d.superblock
has_position d awaiting r is written t some =
    let told = moved_if_some d.format awaiting r is t some in
    (told.0, record { accepted = written.accepted; fits = written.fits; set = told.1 })

-- While tags are written back, and all is synced, the disk is as it was, whatever fields it may get.
settles_cut : (d : JournaledDisk) (awaiting : ℕ → Bool) (fields : Superblock) (tags : Content → ℕ → List ℕ) (a b : List Content) → KeepsAwaitingNow d awaiting tags a → SettlesIn d.geometry tags a b → IsCutThrough d fields a b
settles_cut d awaiting fields tags a b keeps (Back adds) = back_through_law d fields awaiting tags a b keeps adds
settles_cut d awaiting fields tags a b keeps (Syncing back between writes reads image syncs) =
    EachMoment-then (back_through_law d fields awaiting tags a between keeps writes.adds)
    (sync_through_law d fields awaiting back between b (back_law d awaiting tags back a between keeps writes) image syncs)

-- So it is where sector 0 is not written.
pub unmoved_cut : (d : JournaledDisk) (awaiting : ℕ → Bool) (fields : Superblock) (r : Recalculation) (tags : Content → ℕ → List ℕ) (a b : List Content) → KeepsAwaitingNow d awaiting tags a
    → to_write r ≡ None → SettlesPositionIn r d.geometry tags a b → IsCutThrough d fields a b
unmoved_cut d awaiting fields r tags a b keeps none (Settling in_) = settles_cut d awaiting fields tags a b keeps in_
unmoved_cut d awaiting fields r tags a b keeps none (Moving now between settles moves) =
    let still = subst (λ (o : Option Superblock). MovesIn o between b) none moves in
    subst (IsCutThrough d fields a) (sym still) (settled_law d fields awaiting tags now a between keeps settles).0

module _ (d : JournaledDisk) (awaiting : ℕ → Bool) where
  -- The fields that are written where these regions await.
  abbrev fields : Superblock
  fields = moved_fields d.superblock d.geometry awaiting

  -- Sector 0 is written, and synced,
  head_cut : (tags : Content → ℕ → List ℕ) (a b : List Content) → KeepsAwaitingNow d awaiting tags a → IsSettledNow d.geometry tags a → HasPosition d.superblock → WritesFieldsIn fields a b → IsCutThrough d fields a b
  head_cut tags a b keeps settled position (Positions.Unwritten same) = EachMoment-kept _ same
  head_cut tags a b keeps settled position (Positions.Writing head is_head adds) = head_through_law d awaiting tags head a b keeps settled position is_head adds
  head_cut tags a b keeps settled position (Positions.Syncing head between is_head written adds syncs) =
      EachMoment-then (head_through_law d awaiting tags head a between keeps settled position is_head adds)
      (head_sync_through_law d awaiting tags head a between b keeps settled position is_head written syncs)

  -- where there is something to write,
  moves_cut : (o : Option Superblock) (tags : Content → ℕ → List ℕ) (a b : List Content) → KeepsAwaitingNow d awaiting tags a → IsSettledNow d.geometry tags a
      → ((t : Superblock) → o ≡ Some t → (t ≡ fields) × HasPosition d.superblock) → MovesIn o a b → IsCutThrough d fields a b
  moves_cut None tags a b keeps settled may same = EachMoment-kept _ same
  moves_cut (Some t) tags a b keeps settled may moves =
      let told = may t refl in head_cut tags a b keeps settled told.1 (subst (λ (x : Superblock). WritesFieldsIn x a b) told.0 moves)

  -- and so it is of the one, and then the other.
  pub position_cut : (r : Recalculation) → IsRecalculationOf d.superblock d.geometry awaiting r → CanBeWritten d.superblock → (tags : Content → ℕ → List ℕ) (a b : List Content) → KeepsAwaitingNow d awaiting tags a
      → SettlesPositionIn r d.geometry tags a b → IsCutThrough d fields a b
  position_cut r is written tags a b keeps (Settling in_) = settles_cut d awaiting fields tags a b keeps in_
  position_cut r is written tags a b keeps (Moving now between settles moves) =
      let law = settled_law d fields awaiting tags now a between keeps settles in
      EachMoment-then law.0 (moves_cut (to_write r) now between b law.1 law.3 (has_position d awaiting r is written) moves)
