-- What a resize writes.
use Rattle.std.proofs.Common.{◌≡◌, ◌≢◌, inl, ⊎_elim, ℕ, ◌+◌, ◌<◌, List, Some, drop, sym, subst, ◌∙◌, ap, length-append, arith}
use Rattle.std.proofs.lemmas.Bool.{true≢false}
use Rattle.std.proofs.lemmas.List.{length-drop}
use Rattle.std.proofs.lemmas.Slice.{drop-append-drop}
use Rattle.std.proofs.lemmas.Option.{same_Some}
use Rattle.disk_model.specs.Disk.{Content, OnlyAdds, last_image}
use Rattle.disk_model.specs.Moments.{content_now, EachMoment, EachSince}
use Rattle.disk_model.proofs.DiskLemmas.{OnlyAdds-wider}
use Rattle.image_model.specs.declared.byte_place.BytePlace.{BytePlace}
use Rattle.image_model.specs.Geometry.{data_at}
use Rattle.image_model.specs.Superblock.{superblock_bytes}
use Rattle.image_model.specs.SuperblockLaws.{FitsBytes}
use Rattle.image_model.proofs.SuperblockLemmas.{superblock_of-superblock_bytes, length-superblock_bytes}
use Rattle.direct_laws.proofs.CallLemmas.{each_from}
use Rattle.place_model.specs.FirstSync.{IsOfOpening}
use Rattle.place_model.specs.Format.{DiskFormat}
use Rattle.place_model.proofs.JournalLemmas.{journal-before}
use Rattle.place_model.proofs.TagsLemmas.{data_once, tag_byte-no_data}
use Rattle.resize_model.specs.CallLaws.{StandsThrough}
use Rattle.resize_model.specs.StepLaws.{resizing}
use Rattle.resize_model.specs.Growth.{Growth, IsFormed, IsOfGrowth, IsOfNewBits, IsOfNewData, IsOfNewTags, geometry_then}
use Rattle.resize_model.specs.Resized.{resized_provided, with_provided}
use Rattle.resize_model.specs.Written.{BesideOldLaw, IsBeforeGrowth, IsBesideOld, IsOfHead, IsToGrow, IsToTell, IsWrittenByResize, head_then, Recovering, Growing, Telling, UngrownWritesLaw, UngrownBitmapLaw, HeadBytesLaw, GrowingLeftLaw, TellingLeftLaw}
use Rattle.resize_model.proofs.GrowthLemmas.{bit-before, data-behind, same_data, same_tag_byte, tags-behind}
use Rattle.resize_model.proofs.StepLemmas.{founding_law, growing_law, old_block, standing_law}

-- ---- beside the old blocks

module _ (w : Growth) (formed : IsFormed w) (sector : ℕ) (x : List ℕ) where
  -- The same place in the new geometry,
  same_place : (b k : ℕ) → data_at w.geometry b + k ≡ data_at (geometry_then w) b + k
  same_place b k = ap (λ (n : ℕ). n + k) (sym (same_data w.geometry (geometry_then w).blocks b))

  beside_data : IsOfNewData w sector x → IsBesideOld w sector x
  beside_data of =
      let late = data-behind w formed of.block of.is_new.low in
      let there = of.is in
      record {
        behind = omega arith;
        journal = λ clear on. let before = journal-before w.geometry sector on in omega arith;
        old = λ b k low k_low at.
            let same = data_once (geometry_then w) w.sectors b of.block k of.place formed.grown.is_grown k_low of.narrow
            (sym (same_place b k) ∙ sym at ∙ of.is ∙ same_place of.block of.place) in
            let new = of.is_new.new in omega (arith, same.0);
        new = λ b k is_new k_low at. of.zeros;
      }

  -- where no byte of a tag is one of data.
  beside_tags : IsOfNewTags w sector x → IsBesideOld w sector x
  beside_tags of =
      let late = tags-behind w formed of.block of.byte of.low in
      let there = of.is in
      let apart : (b k : ℕ) → k < w.geometry.shape.spb → sector ≢ data_at w.geometry b + k = λ b k k_low at.
      tag_byte-no_data (geometry_then w) w.sectors of.block b of.byte k formed.grown.is_grown of.narrow k_low
      (ap (λ (place : BytePlace). place.sector) (same_tag_byte w.geometry (geometry_then w).blocks of.block of.byte) ∙ sym of.is ∙ at ∙ same_place b k) in
      record {
        behind = omega arith;
        journal = λ clear on. let before = journal-before w.geometry sector on in omega arith;
        old = λ b k low k_low. apart b k k_low;
        new = λ b k is_new k_low at. absurd (apart b k k_low at);
      }

  beside_bits : IsOfNewBits w sector x → IsBesideOld w sector x
  beside_bits of =
      let before = bit-before w formed of.has_bitmap of.new of.is_new.low in
      let there = of.is in
      record {
        behind = omega arith;
        journal = λ clear on. true≢false (sym of.has_bitmap ∙ clear);
        old = λ b k low k_low at. let late = data-behind w formed b (old_block w formed sector x b low) in omega arith;
        new = λ b k is_new k_low at. absurd (let late = data-behind w formed b is_new.low in omega arith);
      }

pub beside_old_law : BesideOldLaw
beside_old_law w sector x formed of = ⊎_elim (beside_data w formed sector x) (λ more. ⊎_elim (beside_tags w formed sector x) (beside_bits w formed sector x) more) of

-- ---- what is written

-- Nothing grows where no more is provided.
none_grows : {P : Type 0} (Recovers : (start c : Content) → Type 0) (d : DiskFormat) (start first : Content) → resized_provided d.superblock d.sectors ≡ d.superblock.provided → IsToGrow Recovers d start first → P
none_grows Recovers d start first same grows = absurd (let more = grows.more in omega (arith, same))

-- So it is of whatever recovery.
pub ungrown_writes : (Recovers : (start c : Content) → Type 0) (d : DiskFormat) (start c : Content) → resized_provided d.superblock d.sectors ≡ d.superblock.provided
    → IsWrittenByResize Recovers d start c → IsBeforeGrowth Recovers d start c
ungrown_writes Recovers d start c same (Recovering before) = before
ungrown_writes Recovers d start c same (Growing first grows adds) = none_grows Recovers d start first same grows
ungrown_writes Recovers d start c same (Telling first grown grows tells adds) = none_grows Recovers d start first same grows

pub ungrown_writes_law : UngrownWritesLaw
ungrown_writes_law d base = ungrown_writes (IsOfOpening d base) d

pub ungrown_bitmap_law : UngrownBitmapLaw
ungrown_bitmap_law d base start c same set is = (ungrown_writes (IsOfOpening d base) d start c same is).bitmap set

pub head_bytes_law : HeadBytesLaw
head_bytes_law d provided old grown fits size =
    let s = with_provided provided d.superblock in
    let fits_then : FitsBytes s = record { sections = fits.sections; flags = fits.flags; log2_region = fits.log2_region; recalc_sector = fits.recalc_sector; salt = fits.salt } in
    let first = length-superblock_bytes s fits_then in (
      length-append (superblock_bytes s) (drop 64 old) ∙ (let rest = length-drop 64 old in omega (arith, first, rest, size)),
      superblock_of-superblock_bytes s (drop 64 old) grown.accepted fits_then,
      drop-append-drop 64 old (superblock_bytes s) 64 (omega arith) first,
    )

pub growing_left_law : GrowingLeftLaw
growing_left_law w first c stands adds image is = inl (standing_law w c (growing_law w first c stands adds) image is)

pub telling_left_law : TellingLeftLaw
telling_left_law w head first grown c stands tells size told adds =
    founding_law w head grown c (growing_law w first grown stands tells.written) tells.settled tells.new size told
    (OnlyAdds-wider (IsOfHead head) (λ s x. (s ≡ 0) × (x ≡ head)) (λ s x of. (of.first, of.is)) grown c adds)

-- ---- for callers

-- Calls that fill the new blocks, from the content on to which they are added, write what a resize does.
pub growing_writes : {a b : List Content} (Recovers : (start c : Content) → Type 0) (d : DiskFormat) (start first : Content) → content_now a ≡ Some first → IsToGrow Recovers d start first
    → StandsThrough (resizing d (last_image first)) a b → EachMoment a b (IsWrittenByResize Recovers d start)
growing_writes Recovers d start first told grows through =
    let W = IsOfGrowth (resizing d (last_image first)) in
    each_from (OnlyAdds W) (IsWrittenByResize Recovers d start)
    (λ s s_told c adds. Growing first grows (subst (λ (y : Content). OnlyAdds W y c) (same_Some s first (sym s_told ∙ told)) adds)) through.adds

-- So do calls that write its first sector then, and sync it.
pub telling_writes : {a b : List Content} (Recovers : (start c : Content) → Type 0) (d : DiskFormat) (start first grown : Content) → content_now a ≡ Some grown → IsToGrow Recovers d start first
    → IsToTell (resizing d (last_image first)) first grown → EachSince (OnlyAdds (IsOfHead (head_then d (last_image start 0)))) a b → EachMoment a b (IsWrittenByResize Recovers d start)
telling_writes Recovers d start first grown told grows tells adds =
    let W = IsOfHead (head_then d (last_image start 0)) in
    each_from (OnlyAdds W) (IsWrittenByResize Recovers d start)
    (λ s s_told c adds. Telling first grown grows tells (subst (λ (y : Content). OnlyAdds W y c) (same_Some s grown (sym s_told ∙ told)) adds)) adds
