-- What a first sync leaves.
use Rattle.std.proofs.Common.{inl, inr, ℕ, refl, sym, subst, List}
use Rattle.std.proofs.Math.Path.{fun_ext}
use Rattle.std.specs.List.{Contains}
use Rattle.disk_model.specs.Disk.{Content, IsImage, EachImage, last_image, newest_only}
use Rattle.disk_model.proofs.DiskLemmas.{newest_only-image, newest_only-pending}
use Rattle.place_model.specs.Format.{DiskFormat, IsReadAs, HasPlaced, placed_on, OpensAs, HasCells, cells_on}
use Rattle.place_model.specs.FirstSync.{FirstSyncLaw, OpeningLeftLaw, PlacedSyncLaw, PlacedOpeningLeftLaw, IsSettled}

-- ---- for callers

-- The content after a sync is settled,
pub newest_only-settled : (entry : Content) → IsImage entry (last_image entry) → IsSettled entry (newest_only entry)
newest_only-settled entry reads = record {
  settled = newest_only-pending entry;
  among = λ image is sector. subst (λ (x : List ℕ). Contains (entry sector) x) (sym (newest_only-image entry image is sector)) (reads sector);
  as_read = λ image is sector. newest_only-image entry image is sector;
}

-- and its image has the cells that reads give.
pub newest_only-cells : (d : DiskFormat) (entry : Content) → OpensAs d (last_image entry) → EachImage (HasCells d (cells_on d (last_image entry))) (newest_only entry)
newest_only-cells d entry opens image is =
    let read : HasCells d (cells_on d (last_image entry)) (last_image entry) = record { opens = opens; each = λ b low. refl } in
    subst (HasCells d (cells_on d (last_image entry))) (sym (fun_ext (newest_only-image entry image is))) read

-- It has the placed cells that reads give, too.
pub newest_only-placed : (d : DiskFormat) (entry : Content) → IsReadAs d (last_image entry) → EachImage (HasPlaced d (placed_on d (last_image entry))) (newest_only entry)
newest_only-placed d entry reads image is =
    let read : HasPlaced d (placed_on d (last_image entry)) (last_image entry) = record { reads = reads; each = λ b low. refl } in
    subst (HasPlaced d (placed_on d (last_image entry))) (sym (fun_ext (newest_only-image entry image is))) read

pub first_sync_law : FirstSyncLaw
first_sync_law d entry reads opens = (newest_only-settled entry reads, newest_only-cells d entry opens)

pub opening_left_law : OpeningLeftLaw
opening_left_law d base entry c moment image is = elim moment [
  | inl same ↦ inl (subst (λ (x : Content). IsImage x image) same is)
  | inr each ↦ inr (each image is)
]

pub placed_sync_law : PlacedSyncLaw
placed_sync_law d entry image reads = (newest_only-settled entry image, newest_only-placed d entry reads)

pub placed_opening_left_law : PlacedOpeningLeftLaw
placed_opening_left_law d base entry c moment image is = elim moment [
  | inl same ↦ inl (subst (λ (x : Content). IsImage x image) same is)
  | inr each ↦ inr (each image is)
]
