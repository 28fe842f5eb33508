-- What awaits, on a small image of 80 blocks in five regions.
-- The values are those of a program of its own that recalculates such an image by the format's description.
use Rattle.std.proofs.Common.{◌≡◌, ℕ, nat_lt, refl, replicate, subst, arith}
use Rattle.std.proofs.lemmas.Bool.{false≢true}
use Rattle.image_model.specs.Geometry.{Geometry, layout_of, regions_for, tag_run_of}
use Rattle.image_model.specs.Superblock.{Superblock}
use Rattle.recalculate_laws.specs.Position.{moved_fields}
use Rattle.place_model.specs.Awaiting.{AwaitsNoMore}
use Rattle.device.proofs.AwaitingLemmas.{no_more_moved}

abbrev small : (flags log2_region recalc_sector : ℕ) → Superblock
small flags log2_region recalc_sector = record {
  version = 4;
  log2_interleave = 3;
  tag_size = 32;
  sections = 1;
  provided = 80;
  flags = flags;
  log2_spb = 0;
  log2_region = log2_region;
  recalc_sector = recalc_sector;
  salt = replicate 16 0;
}

abbrev g : Geometry
g = layout_of (small 0xa 4 0)

-- The position moves on from the first region to the second,
moved_is : moved_fields (small 0xa 4 0) (layout_of (small 0xa 4 0)) (λ region. nat_lt 0 region) ≡ small 0xa 4 16
unfolding regions_for tag_run_of
moved_is = refl

AwaitsNoMore-moved_on : AwaitsNoMore (layout_of (small 0xa 4 0)) (small 0xa 4 0) (small 0xa 4 16)
AwaitsNoMore-moved_on = subst (AwaitsNoMore g (small 0xa 4 0)) moved_is (no_more_moved g g (small 0xa 4 0) (λ region. nat_lt 0 region))

-- but never back,
AwaitsNoMore-moved_back : AwaitsNoMore (layout_of (small 0xa 4 0)) (small 0xa 4 16) (small 0xa 4 0) → ⊥
unfolding tag_run_of
AwaitsNoMore-moved_back wrong = false≢true (wrong.blocks_ 0 (omega arith) refl)

-- and a flag that was cleared is not set again, also where no block is then to be recalculated.
AwaitsNoMore-set_again : AwaitsNoMore (layout_of (small 0xa 4 0)) (small 0x8 4 80) (small 0xa 4 80) → ⊥
AwaitsNoMore-set_again wrong = false≢true (wrong.flag refl)
