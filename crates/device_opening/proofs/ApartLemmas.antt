-- No recovery writes the first sector.
use Rattle.std.proofs.Common.{◌≡◌, inl, inr, ℕ, ◌/◌, ◌≤◌, arith, List}
use Rattle.disk_model.specs.Disk.{Content, IsImage, last_image}
use Rattle.disk_model.proofs.DiskLemmas.{only_candidate}
use Rattle.image_model.specs.Cells.{replayed_entries}
use Rattle.image_model.specs.Geometry.{Geometry, IsGeometry, data_at, initial, sector_at}
use Rattle.image_model.specs.Section.{Entry}
use Rattle.place_model.proofs.TagsLemmas.{tag_byte-behind}
use Rattle.place_model.specs.RecoveryWrites.{IsOfRecovery, IsOfOpening}

-- The data of a block begin behind the journal, whatever block it is.
data_behind : (g : Geometry) (b : ℕ) → initial g ≤ data_at g b
unfolding data_at sector_at
data_behind g b = omega arith

pub recovery_apart : (g : Geometry) (sectors : ℕ) (entries : List Entry) (x : List ℕ) → IsGeometry g sectors → IsOfRecovery g entries 0 x → ⊥
recovery_apart g sectors entries x geometry (inl (inl entry)) =
    let behind = data_behind g (entry.entry.sector / g.shape.spb) in
    let begins = entry.in_place.begins in
    omega (arith, behind, begins)
recovery_apart g sectors entries x geometry (inl (inr tag)) =
    let behind = tag_byte-behind g sectors tag.block tag.byte geometry tag.block_low in
    let at = tag.is in
    omega (arith, behind, at)
recovery_apart g sectors entries x geometry (inr journal) = let begins = journal.in_place.begins in omega (arith, begins)

-- So reads give it as before.
pub same_head : (g : Geometry) (sectors : ℕ) (start middle : Content) → IsGeometry g sectors → IsOfOpening g start middle → IsImage middle (last_image middle) → last_image middle 0 ≡ last_image start 0
same_head g sectors start middle geometry of is =
    elim (of.among 0 (last_image middle 0) (is 0)) [
      | inl was ↦ only_candidate (last_image start 0) (last_image middle 0) was
      | inr written ↦ absurd (recovery_apart g sectors (replayed_entries g (last_image start)) (last_image middle 0) geometry written)
    ]
