-- A block that is written, with the bit of its region.
use Rattle.std.proofs.Common.{◌≡◌, inl, inr, ℕ, Bool, true, false, refl, sym, ◌∙◌, ap, subst, List, ◌<◌}
use Rattle.disk_model.specs.Disk.{Content, OnlyAdds}
use Rattle.disk_model.specs.Identity.{DiskIdentity}
use Rattle.disk_model.specs.Moments.{EachSince}
use Rattle.disk_model.proofs.MomentsLemmas.{adds_then, adds_wider}
use Rattle.image_model.specs.Geometry.{Geometry, region_of}
use Rattle.device_model.specs.History.{BlockWrite}
use Rattle.device_model.specs.Regions.{with_region, written_region}
use Rattle.journal_laws.proofs.RegionLemmas.{regions_written}
use Rattle.place_model.specs.Blocks.{IsBlockWrite}
use Rattle.bitmap_model.specs.BitmapDisk.{BitmapDisk}
use Rattle.bitmap_model.specs.Steps.{with_dirty}
use Rattle.bitmap_model.proofs.BitLemmas.{with_region-here}
use Rattle.bitmap_laws.specs.CallLaws.{AreSameBits, IsBitmapSector, KeepsNow, StandsThrough}
use Rattle.bitmap_laws.specs.Device.{with_block}
use Rattle.bitmap_laws.proofs.CallLemmas.{dirty_law}
use Rattle.bitmap_laws.proofs.ServeLemmas.{bit_set_law}
use Rattle.direct_mode.specs.Cells.{IsBlock, IsOfBlock, IsOfBlockOrTags}
use Rattle.direct_mode.proofs.ServingLemmas.{writes_in_place}
use Rattle.dirty_bitmap.specs.Bits.{bits_of}
use Rattle.tag_store.specs.Store.{IsMarkedTags, IsStore, Store, given_tags}
use Rattle.place_model.specs.Tags.{HoldsTag}
use Rattle.bitmap_mode.specs.States.{AreSameCounts, States, counts_of}
use Rattle.bitmap_mode.specs.Standing.{TurnsInto}
use Rattle.bitmap_mode.specs.Writing.{HasWritten, IsOfBit, IsOfMarkedBlock, SetsBit, TakesCell, TakesWrite}
use Rattle.bitmap_mode.proofs.StatesLemmas.{bits_are, regions_same}

module _ (d : BitmapDisk) (marked : ℕ → Bool) (write : BlockWrite) (tag : List ℕ) (s : States) (store : Store) {a : List Content} (takes : TakesWrite d marked write tag s store a)
    (same : store.geometry ≡ s.geometry) (bits_there : s.bits.geometry ≡ s.geometry) (block_ : IsBlock s.geometry write.block write.bytes) (region : ℕ) (region_is : region ≡ region_of s.geometry write.block) where
  there : d.geometry ≡ s.geometry
  there = takes.stands.geometry ∙ same

  in_bits : d.geometry ≡ s.bits.geometry
  in_bits = there ∙ sym bits_there

  write_there : IsBlockWrite d.geometry write
  write_there = subst (λ (y : Geometry). IsBlockWrite y write) (sym there) (record { block = block_.low; bytes = block_.size })

  own_bits : AreSameBits s.bits.geometry (bits_of s.bits) d.bits
  own_bits = bits_are s.bits.geometry d (counts_of s) in_bits takes.stands.regions_

  -- While the bit is set the disk stands for what was there,
  pub dirty_through : {m : List Content} → EachSince (OnlyAdds (IsOfBit s.bits.geometry (bits_of s.bits) region)) a m → StandsThrough d marked a m
  dirty_through {m} adds =
      dirty_law d s.bits.geometry marked (bits_of s.bits) region (given_tags store) a m in_bits own_bits takes.stands.now
      (adds_wider (IsOfBit s.bits.geometry (bits_of s.bits) region) (IsBitmapSector s.bits.geometry (with_region region true (bits_of s.bits))) (λ sector x of. of.sector_) adds)

  -- and then it has the bit.
  pub takes_cell : {m : List Content} → SetsBit s.bits region store a m → TakesCell (with_dirty d (region_of d.geometry write.block)) marked write tag store m
  takes_cell {m} made =
      let own = region_is ∙ ap (λ (y : Geometry). region_of y write.block) (sym bits_there) in
      record {
        geometry = takes.stands.geometry;
        set = with_region-here (region_of d.geometry write.block) (region_of d.geometry write.block) true d.bits refl;
        tag_ = takes.tag_;
        now = (bit_set_law d s.bits.geometry write marked (bits_of s.bits) (given_tags store) (given_tags store) a m in_bits write_there own_bits takes.stands.now
            (subst (λ (r : ℕ). SetsBit s.bits r store a m) own made)).1;
      }

  -- So the block is written.
  pub block_written : {b : List Content} (new : States) (last : Store) → last.geometry ≡ store.geometry → AreSameCounts s.geometry (counts_of new) (written_region region (counts_of s))
      → TurnsInto d (with_block d write) marked a b → KeepsNow (with_block d write) marked (given_tags last) b → HasWritten d marked write false new last a b
  block_written new last kept counts through now =
      let own : region_of s.geometry write.block ≡ region_of d.geometry write.block = ap (λ (y : Geometry). region_of y write.block) (sym there) in
      record {
        through = through;
        stands = record {
          geometry = takes.stands.geometry ∙ sym kept;
          regions_ = regions_same s.geometry (with_block d write) (counts_of new) (written_region (region_of d.geometry write.block) (counts_of s)) there
              (subst (λ (r : ℕ). AreSameCounts s.geometry (counts_of new) (written_region r (counts_of s))) (region_is ∙ own) counts)
              (regions_written (counts_of s) d write takes.stands.regions_);
          now = now;
        };
      }

-- ---- what is written

-- The bit alone, before the block,
pub marked_first : (s : States) (block region : ℕ) (bytes : List ℕ) {a m : List Content} → s.bits.geometry ≡ s.geometry → region ≡ region_of s.geometry block
    → EachSince (OnlyAdds (IsOfBit s.bits.geometry (bits_of s.bits) region)) a m → EachSince (OnlyAdds (IsOfMarkedBlock s block bytes)) a m
marked_first s block region bytes {a} {m} there is adds =
    adds_wider (IsOfBit s.geometry (bits_of s.bits) (region_of s.geometry block)) (IsOfMarkedBlock s block bytes) (λ sector x of. inl of)
    (subst (λ (r : ℕ). EachSince (OnlyAdds (IsOfBit s.geometry (bits_of s.bits) r)) a m) is
    (subst (λ (y : Geometry). EachSince (OnlyAdds (IsOfBit y (bits_of s.bits) region)) a m) there adds))

-- and then that too.
pub marked_then : (s : States) (store : Store) (disk : DiskIdentity) (block : ℕ) (bytes tag : List ℕ) {a m b : List Content} → store.geometry ≡ s.geometry → IsStore store disk m → block < s.geometry.blocks
    → EachSince (OnlyAdds (IsOfMarkedBlock s block bytes)) a m → EachSince (λ start. OnlyAdds (IsOfBlock block bytes tag store start) start) m b → EachSince (OnlyAdds (IsOfMarkedBlock s block bytes)) a b
marked_then s store disk block bytes tag {a} {m} {b} same is low first adds =
    adds_then (IsOfMarkedBlock s block bytes) first
    (adds_wider (IsOfBlockOrTags s.geometry block bytes) (IsOfMarkedBlock s block bytes) (λ sector x of. inr of)
    (subst (λ (y : Geometry). EachSince (OnlyAdds (IsOfBlockOrTags y block bytes)) m b) same
    (writes_in_place store disk block bytes tag is (subst (λ (y : Geometry). block < y.blocks) (sym same) low) adds)))

-- Behind it tags are written back.
pub marked_flushed : (s : States) (store : Store) (block : ℕ) (bytes : List ℕ) {a m b : List Content} → store.geometry ≡ s.geometry
    → EachSince (OnlyAdds (IsOfMarkedBlock s block bytes)) a m → EachSince (OnlyAdds (IsMarkedTags store)) m b → EachSince (OnlyAdds (IsOfMarkedBlock s block bytes)) a b
marked_flushed s store block bytes {a} {m} {b} same first adds =
    adds_then (IsOfMarkedBlock s block bytes) first
    (adds_wider (IsMarkedTags store) (IsOfMarkedBlock s block bytes) (λ sector x marked. inr (inr (subst (λ (y : Geometry). HoldsTag y sector) same marked.tags))) adds)
