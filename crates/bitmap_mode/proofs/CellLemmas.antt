-- What calls on a block and its tag leave.
use Rattle.std.proofs.Common.{◌≡◌, ℕ, sym, ap, subst, List, slice_index}
use Rattle.disk_model.specs.Disk.{Content, OnlyAdds}
use Rattle.disk_model.specs.Moments.{EachSince}
use Rattle.disk_model.specs.Identity.{DiskIdentity}
use Rattle.disk_model.proofs.MomentsLemmas.{adds_told}
use Rattle.image_model.specs.Geometry.{Geometry}
use Rattle.place_model.specs.Blocks.{IsBlockWrite}
use Rattle.bitmap_model.specs.BitmapDisk.{BitmapDisk}
use Rattle.direct_mode.specs.Cells.{IsBlock, block_write}
use Rattle.direct_mode.proofs.StoreCalls.{ReadsWhole}
use Rattle.recalculation.specs.Rest.{HasRest, KeepsRest}
use Rattle.tag_store.specs.Store.{IsOutForTag, IsStore, KeepsStore, Store}
use Rattle.tag_store.proofs.StoreLawsLemmas.{marked_law}
use Rattle.bitmap_mode.proofs.MarkingLemmas.{given_whole}

-- The write of a block of the layout is one of the disk.
pub is_write : (g : Geometry) (d : BitmapDisk) (ticket block : ℕ) (bytes : List ℕ) → d.geometry ≡ g → IsBlock g block bytes → IsBlockWrite d.geometry (block_write ticket block bytes)
is_write g d ticket block bytes e is = subst (λ (y : Geometry). IsBlockWrite y (block_write ticket block bytes)) (sym e) (record { block = is.low; bytes = is.size })

-- A call that gets a tag keeps every byte that no tag takes.
pub rest_kept : (store new : Store) (disk : DiskIdentity) (block : ℕ) {a b : List Content} → IsStore store disk a → ReadsWhole disk a → KeepsStore store new a b → EachSince (OnlyAdds (IsOutForTag block store)) a b → KeepsRest store new a b
rest_kept store new disk block {a} {b} is whole keeps moments = record {
  geometry = keeps.geometry;
  gives = λ c told d told_d sector. record { each = λ at none. ap (λ (x : List ℕ). slice_index x at) (keeps.sectors.given c told d told_d sector) };
  adds = adds_told (HasRest store) (IsOutForTag block store) (λ start told sector x out. record {
    each = λ at none. ap (λ (y : List ℕ). slice_index y at) (marked_law store disk a start sector x is (given_whole store disk a start is (whole start told)) out.marked).0;
  }) moments;
}
