-- All regions that await are recalculated on a disk with a bitmap, and their tags written back.
use Rattle.std.proofs.Common.{◌≡◌, ◌≢◌, inl, inr, ℕ, ◌<◌, Bool, true, false, ◌||◌, refl, sym, ◌∙◌, ap, subst, arith, Some, List, length, slice_index}
use Rattle.std.proofs.lemmas.Bool.{cases_eq, false_from_ne_true, ne_eqb, or_left, or_right, true≢false}
use Rattle.std.proofs.lemmas.Option.{same_Some}
use Rattle.disk_model.specs.Disk.{Content, Image, OnlyAdds}
use Rattle.disk_model.specs.Moments.{EachMoment, HasNow, content_now}
use Rattle.disk_model.proofs.MomentsLemmas.{EachMoment-then, EachMoment-weaker, content_at_end, no_moment}
use Rattle.image_model.specs.Cells.{Cell}
use Rattle.image_model.specs.Geometry.{Geometry, region_of, regions}
use Rattle.image_model.proofs.Regions.{region_of-lt}
use Rattle.device_model.specs.Regions.{with_region}
use Rattle.place_model.specs.Format.{DiskFormat, tagger_of}
use Rattle.place_model.specs.Tags.{IsOfTags}
use Rattle.bitmap_model.specs.BitmapDisk.{BitmapDisk, IsFormed, MayStand, StandsFor, needs_bit}
use Rattle.bitmap_model.specs.Opening.{opened_disk}
use Rattle.bitmap_model.specs.Steps.{AreTags, KeepsCells, after_recalculation}
use Rattle.bitmap_model.proofs.BitLemmas.{with_region-here, with_region-other}
use Rattle.bitmap_model.proofs.CellLemmas.{cell_at-now}
use Rattle.direct_laws.specs.CallLaws.{AddsTags}
use Rattle.direct_laws.specs.ServeLaws.{WritesBack}
use Rattle.direct_laws.proofs.CallLemmas.{each_from}
use Rattle.bitmap_laws.specs.CallLaws.{AreSameBits, KeepsNow, every_block, region_tags}
use Rattle.bitmap_laws.specs.OwnTags.{HasOwnTags}
use Rattle.bitmap_laws.specs.ServeLaws.{Recalculates}
use Rattle.bitmap_laws.proofs.CallLemmas.{back_done_law}
use Rattle.bitmap_laws.proofs.ServeLemmas.{region_taken_law}
use Rattle.hmac_tag.specs.TagMaker.{TagRule}
use Rattle.change_model.specs.FromBitmap.{IsRecalculating}
use Rattle.change_model.specs.PhaseLaws.{no_region}
use Rattle.change_model.proofs.BeginLemmas.{recalculating_cut, recalculating_tags}
use Rattle.recalculation.specs.AllWithBitmap.{AwaitWithBitmap, BitmapCellsLaw, BitmapRecalculatedLaw, KeepsOpened, KeepsOpenedNow, OpenedWithBitmapLaw, OpensWithBitmap, recalculated_disk}
use Rattle.recalculation.specs.Awaiting.{AwaitingRegions, awaiting_blocks, awaiting_of}
use Rattle.recalculation.specs.Rule.{rule_on, tagger_by}
use Rattle.recalculation.proofs.AwaitingLemmas.{bits_region}
use Rattle.recalculation.proofs.LawsLemmas.{bitmap_blocks_law, same_blocks_law, same_moments_law}

-- ---- what is told of regions

-- Where no region awaits that did not, and the same ones need their bits, a disk that is kept is the same.
module _ (d : BitmapDisk) (awaiting fresh : ℕ → Bool) (same : AreSameBits d.geometry awaiting d.awaiting) (needs : AreSameBits d.geometry (λ r. awaiting r || fresh r) (needs_bit d)) where
  abbrev other : BitmapDisk
  other = record d { awaiting = awaiting; fresh = fresh }

  IsFormed-regions : IsFormed d → IsFormed other
  IsFormed-regions formed = record {
    has_geometry = formed.has_geometry;
    is_geometry = formed.is_geometry;
    has_bitmap = formed.has_bitmap;
    flushed_low = formed.flushed_low;
    bytes = formed.bytes;
    tag = formed.tag;
    computed = λ b low waits. formed.computed b low (sym (same (region_of d.geometry b) (region_of-lt d.geometry b low)) ∙ waits);
    each = formed.each;
    needed = λ r low need. formed.needed r low (sym (needs r low) ∙ need);
  }

  MayStand-regions : (sector : ℕ) (x : List ℕ) → MayStand d sector x → MayStand other sector x
  MayStand-regions sector x may = record {
    whole = may.whole;
    head = may.head;
    bits_are = may.bits_are;
    in_place = record {
      data_ = may.in_place.data_;
      newest = λ b k low k_low rests there. may.in_place.newest b k low k_low (sym (needs (region_of d.geometry b) (region_of-lt d.geometry b low)) ∙ rests) there;
      tags = λ b i low i_low rests there. may.in_place.tags b i low i_low (sym (needs (region_of d.geometry b) (region_of-lt d.geometry b low)) ∙ rests) there;
    };
  }

  KeepsCells-regions : (tags : ℕ → List ℕ) (c : Content) → KeepsCells d tags c → KeepsCells other tags c
  KeepsCells-regions tags c keeps = record {
    stands = record { formed = IsFormed-regions keeps.stands.formed; each = λ sector x has. MayStand-regions sector x (keeps.stands.each sector x has) };
    reads = record { each = keeps.reads.each };
    bits_are = record { each = keeps.bits_are.each };
    tags_are = record { each = λ b low rests. keeps.tags_are.each b low (sym (same (region_of d.geometry b) (region_of-lt d.geometry b low)) ∙ rests) };
  }

-- ---- the tags of regions that need no bit

-- A region that needs no bit does not await.
rests_clean : (d : BitmapDisk) (region : ℕ) → needs_bit d region ≡ false → d.awaiting region ≡ false
rests_clean d region clean = false_from_ne_true (d.awaiting region) (λ waits. true≢false (sym (or_left (d.awaiting region) (d.fresh region) waits) ∙ clean))

-- Their tags are the blocks' own on each disk.
own_tags_of : (d : BitmapDisk) (c : Content) → StandsFor d c → HasOwnTags d (needs_bit d) c
own_tags_of d c stands = record {
  awaited = λ region clean. rests_clean d region clean;
  each = λ sector x has b i low i_low clean there. (
    length d.writes,
    omega arith,
    (stands.each sector x has).in_place.tags b i low i_low clean there ∙ ap (λ (cell : Cell). slice_index cell.tag i) (sym (cell_at-now d b)),
  );
}

keeps_own : (d : BitmapDisk) (tags : Content → ℕ → List ℕ) (m : List Content) → HasNow (λ c. KeepsCells d (tags c) c) m → KeepsNow d (needs_bit d) tags m
keeps_own d tags m keeps c told = let kept = keeps c told in record { cells = kept; own = own_tags_of d c kept.stands }

-- ---- a turn

-- The disk while these of its regions await: each that needed its bit needs it still.
abbrev while_awaiting : BitmapDisk → (ℕ → Bool) → BitmapDisk
while_awaiting d awaiting = record d { awaiting = awaiting; fresh = needs_bit d }

-- No region awaits that did not at the start.
abbrev IsFewer : BitmapDisk → (ℕ → Bool) → Type 0
IsFewer d awaiting = (r : ℕ) → r < regions d.geometry → awaiting r ≡ true → d.awaiting r ≡ true

-- Tags that are right while few regions await are so while more do.
AreTags-fewer : (d : BitmapDisk) (awaiting : ℕ → Bool) (tags : ℕ → List ℕ) → IsFewer d awaiting → AreTags (while_awaiting d awaiting) tags → AreTags d tags
AreTags-fewer d awaiting tags fewer are = record {
  each = λ b low rests. are.each b low (false_from_ne_true (awaiting (region_of d.geometry b)) (λ waits. true≢false (sym (fewer (region_of d.geometry b) (region_of-lt d.geometry b low) waits) ∙ rests)));
}

-- Behind some turns the regions that await in memory are those of the disk, which is kept; and at each moment it stood for
-- the same as at the start.
pub record TurnsKeepBits (d : BitmapDisk) (entry : Image) (rule : TagRule) (a : AwaitingRegions) (tags : Content → ℕ → List ℕ) (start now : List Content) : Type 0 where
  pub geometry : a.geometry ≡ d.geometry
  pub first : a.first ≡ 0
  pub rule_is : rule ≡ rule_on d.format
  pub fewer : IsFewer d (awaiting_of a)
  pub is : HasNow (IsRecalculating d entry) now
  pub keeps : HasNow (λ c. KeepsCells (while_awaiting d (awaiting_of a)) (tags c) c) now
  pub stands : EachMoment start now (IsRecalculating d entry)

module _ (d : BitmapDisk) (entry : Image) (rule : TagRule) where
  pub bitmap_turns_begin : (a : AwaitingRegions) (tags : Content → ℕ → List ℕ) (start : List Content) → AwaitWithBitmap d rule a → KeepsOpenedNow d entry tags start → TurnsKeepBits d entry rule a tags start start
  bitmap_turns_begin a tags start on keeps = record {
    geometry = on.geometry;
    first = on.first;
    rule_is = on.rule_is;
    fewer = λ r low waits. sym (on.regions_ r low) ∙ waits;
    is = λ c told. (keeps c told).is;
    keeps = λ c told. KeepsCells-regions d (awaiting_of a) (needs_bit d) on.regions_
        (λ r low. ap (λ (t : Bool). t || needs_bit d r) (on.regions_ r low) ∙ twice (d.awaiting r) (d.fresh r)) (tags c) c (keeps c told).keeps;
    stands = no_moment start _;
  }
    where
      twice : (x y : Bool) → (x || (x || y)) ≡ (x || y)
      twice true y = refl
      twice false y = refl

  module _ (a : AwaitingRegions) (tags : Content → ℕ → List ℕ) (start m : List Content) (kept : TurnsKeepBits d entry rule a tags start m) (region : ℕ) (low : region < regions a.geometry) (waits : awaiting_of a region ≡ true) (b : List Content)
      (adds : AddsTags a.geometry tags (λ c. region_tags (tagger_by rule a.geometry) a.geometry (awaiting_blocks a) region c (tags c)) m b) where
    abbrev mid : BitmapDisk
    mid = while_awaiting d (awaiting_of a)

    made : (n : ℕ) (bytes : List ℕ) → tagger_by rule d.geometry n bytes ≡ tagger_of d.format n bytes
    made n bytes = ap (λ (r : TagRule). tagger_by r d.geometry n bytes) kept.rule_is

    -- Every block of the region is recalculated.
    every_block_waits : (n : ℕ) → n < a.geometry.blocks → region_of a.geometry n ≡ region → awaiting_blocks a n ≡ every_block n
    every_block_waits n n_low is = bitmap_blocks_law a region n kept.first waits is

    adds_every : AddsTags d.geometry tags (λ c. region_tags (tagger_by rule d.geometry) d.geometry every_block region c (tags c)) m b
    adds_every =
        subst (λ (g : Geometry). AddsTags g tags (λ c. region_tags (tagger_by rule g) g every_block region c (tags c)) m b) kept.geometry
        (same_moments_law (tagger_by rule a.geometry) a.geometry (awaiting_blocks a) every_block region tags m b every_block_waits adds)

    low_on : region < regions d.geometry
    low_on = subst (λ (g : Geometry). region < regions g) kept.geometry low

    awaited : d.awaiting region ≡ true
    awaited = kept.fewer region low_on waits

    -- Its tags may be any, as it awaited at the start.
    tags_then : (first : Content) → AreTags d (tags first) → AreTags d (region_tags (tagger_by rule d.geometry) d.geometry every_block region first (tags first))
    tags_then first are = record {
      each = λ n n_low rests.
          let apart : region_of d.geometry n ≢ region = λ here. true≢false (sym awaited ∙ ap d.awaiting (sym here) ∙ rests) in
          rw (ne_eqb (region_of d.geometry n) region apart) (are.each n n_low rests);
    }

    -- While a region is recalculated the disk stands for the same,
    since_turn : EachMoment m b (IsRecalculating d entry)
    since_turn =
        each_from (λ first. OnlyAdds (IsOfTags d.geometry (tags first) (region_tags (tagger_by rule d.geometry) d.geometry every_block region first (tags first))) first) (IsRecalculating d entry) (λ first told c more.
        let are = AreTags-fewer d (awaiting_of a) (tags first) kept.fewer (kept.keeps first told).tags_are in
        recalculating_tags d entry (tags first) (region_tags (tagger_by rule d.geometry) d.geometry every_block region first (tags first)) first c (kept.is first told) are (tags_then first are) more) adds_every

    pub bitmap_turn_stands : EachMoment start b (IsRecalculating d entry)
    bitmap_turn_stands = EachMoment-then kept.stands since_turn

    -- The region needed its bit, as it awaited.
    needed : needs_bit d region ≡ true
    needed = or_left (d.awaiting region) (d.fresh region) awaited

    module _ (new : AwaitingRegions) (now : Content → ℕ → List ℕ) (takes : Recalculates (tagger_by rule a.geometry) a.geometry (awaiting_blocks a) region tags now m b)
        (bits : AreSameBits a.geometry (awaiting_of new) (with_region region false (awaiting_of a))) where
      bits_on : AreSameBits d.geometry (awaiting_of new) (with_region region false (awaiting_of a))
      bits_on = subst (λ (g : Geometry). AreSameBits g (awaiting_of new) (with_region region false (awaiting_of a))) kept.geometry bits

      needs_then : AreSameBits d.geometry (λ r. awaiting_of new r || needs_bit d r) (needs_bit (after_recalculation mid region))
      needs_then r r_low = elim (cases_eq region r) [
        | inl here ↦
            or_right (awaiting_of new r) (needs_bit d r) (ap (needs_bit d) (sym here) ∙ needed)
            ∙ sym (or_right (with_region region false (awaiting_of a) r) (with_region region true (needs_bit d) r) (with_region-here region r true (needs_bit d) here))
        | inr apart ↦
            ap (λ (t : Bool). t || needs_bit d r) (bits_on r r_low)
            ∙ ap (λ (t : Bool). with_region region false (awaiting_of a) r || t) (sym (with_region-other region r true (needs_bit d) apart))
      ]

      taken_every : Recalculates (tagger_by rule d.geometry) d.geometry every_block region tags now m b
      taken_every =
          subst (λ (g : Geometry). Recalculates (tagger_by rule g) g every_block region tags now m b) kept.geometry
          (same_blocks_law (tagger_by rule a.geometry) a.geometry (awaiting_blocks a) every_block region tags now m b every_block_waits takes)

      taken_keeps : KeepsNow (after_recalculation mid region) (needs_bit mid) now b
      taken_keeps = (region_taken_law mid d.geometry region (tagger_by rule d.geometry) (needs_bit mid) tags now m b refl made waits (keeps_own mid tags m kept.keeps) taken_every).1

      fewer_now : IsFewer d (awaiting_of new)
      fewer_now r r_low still = elim (cases_eq region r) [
        | inl here ↦ absurd (true≢false (sym still ∙ bits_on r r_low ∙ with_region-here region r false (awaiting_of a) here))
        | inr apart ↦ kept.fewer r r_low (sym (with_region-other region r false (awaiting_of a) apart) ∙ sym (bits_on r r_low) ∙ still)
      ]

      -- and then the region awaits no more.
      pub bitmap_turn_keeps : new.geometry ≡ a.geometry → new.first ≡ a.first → TurnsKeepBits d entry rule new now start b
      bitmap_turn_keeps geometry first = record {
        geometry = geometry ∙ kept.geometry;
        first = first ∙ kept.first;
        rule_is = kept.rule_is;
        fewer = fewer_now;
        is = content_at_end since_turn kept.is;
        keeps = λ c told. KeepsCells-regions (after_recalculation mid region) (awaiting_of new) (needs_bit d) bits_on needs_then (now c) c (taken_keeps c told).cells;
        stands = bitmap_turn_stands;
      }

  -- Once none awaits in memory none does of the disk.
  pub bitmap_turns_end : (a : AwaitingRegions) (tags : Content → ℕ → List ℕ) (start now : List Content) → TurnsKeepBits d entry rule a tags start now → AreSameBits a.geometry (awaiting_of a) no_region → KeepsOpenedNow (recalculated_disk d) entry tags now
  bitmap_turns_end a tags start now kept none c told =
      let is = kept.is c told in
      let none_on : AreSameBits d.geometry (awaiting_of a) no_region = subst (λ (g : Geometry). AreSameBits g (awaiting_of a) no_region) kept.geometry none in
      let keeps = KeepsCells-regions (while_awaiting d (awaiting_of a)) no_region (needs_bit d) (λ r low. sym (none_on r low)) (λ r low. ap (λ (t : Bool). t || needs_bit d r) (sym (none_on r low))) (tags c) c (kept.keeps c told) in
      record { is = record { stands = keeps.stands; writes = is.writes; base = is.base; others = is.others }; keeps = keeps }

-- ---- tags that are written back

-- While they are the disk stands for the same,
pub bitmap_back_stands : (d : BitmapDisk) (entry : Image) (g : Geometry) (tags : Content → ℕ → List ℕ) (a b : List Content) → g ≡ d.geometry → HasNow (λ c. AreTags d (tags c)) a → HasNow (IsRecalculating d entry) a → AddsTags g tags tags a b
    → EachMoment a b (IsRecalculating d entry)
bitmap_back_stands d entry g tags a b there are is adds =
    each_from (λ first. OnlyAdds (IsOfTags d.geometry (tags first) (tags first)) first) (IsRecalculating d entry)
    (λ first told c more. recalculating_tags d entry (tags first) (tags first) first c (is first told) (are first told) (are first told) more)
    (subst (λ (x : Geometry). AddsTags x tags tags a b) there adds)

-- also where it was recalculated before,
pub bitmap_recalculated_stands : (d : BitmapDisk) (entry : Image) (g : Geometry) (tags : Content → ℕ → List ℕ) (a b : List Content) → g ≡ d.geometry → KeepsOpenedNow (recalculated_disk d) entry tags a → HasNow (IsRecalculating d entry) a
    → AddsTags g tags tags a b → EachMoment a b (IsRecalculating d entry)
bitmap_recalculated_stands d entry g tags a b there keeps is adds =
    bitmap_back_stands d entry g tags a b there (λ c told. AreTags-fewer d no_region (tags c) (λ r low waits. absurd (true≢false (sym waits))) (keeps c told).keeps.tags_are) is adds

-- and then it is kept.
pub bitmap_back_keeps : (d : BitmapDisk) (entry : Image) (g : Geometry) (tags now : Content → ℕ → List ℕ) (a b : List Content) → g ≡ d.geometry → KeepsOpenedNow d entry tags a → WritesBack g tags now a b → KeepsOpenedNow d entry now b
bitmap_back_keeps d entry g tags now a b there keeps back c told =
    let since = bitmap_back_stands d entry g tags a b there (λ x told_x. (keeps x told_x).keeps.tags_are) (λ x told_x. (keeps x told_x).is) back.adds in
    record {
      is = content_at_end since (λ x told_x. (keeps x told_x).is) c told;
      keeps = (back_done_law d g (needs_bit d) tags now a b (sym there) (keeps_own d tags a (λ x told_x. (keeps x told_x).keeps)) back.adds back.others back.gives c told).cells;
    }

-- ---- on an image that was opened

-- It is kept.
opened_keeps_bits : (f : DiskFormat) (entry : Image) (rule : TagRule) (a : AwaitingRegions) (tags : Content → ℕ → List ℕ) (c : Content) (before : List Content) → content_now before ≡ Some c → OpensWithBitmap f entry rule a (tags c) c
    → KeepsOpenedNow (opened_disk f entry) entry tags before
opened_keeps_bits f entry rule a tags c before told is x told_x =
    subst (λ (y : Content). KeepsOpened (opened_disk f entry) entry (tags y) y) (same_Some c x (sym told ∙ told_x)) is.opened

pub opened_with_bitmap_law : OpenedWithBitmapLaw
opened_with_bitmap_law f entry bits rule a same opening rule_is = record {
  geometry = opening.geometry;
  first = opening.first;
  regions_ = λ r low. opening.regions_ r low ∙ bits_region f.superblock f.geometry bits r low ∙ same r low;
  rule_is = rule_is;
}

pub bitmap_cells_law : BitmapCellsLaw
bitmap_cells_law f entry rule a tags c before after told is stands =
    EachMoment-weaker (λ now at. (at, recalculating_cut (opened_disk f entry) entry now at))
    (stands (opened_disk f entry) entry is.awaiting (opened_keeps_bits f entry rule a tags c before told is))

pub bitmap_recalculated_law : BitmapRecalculatedLaw
bitmap_recalculated_law f entry rule a tags now c before after told is takes reads last told_last =
    let kept = takes (opened_disk f entry) entry is.awaiting (opened_keeps_bits f entry rule a tags c before told is) last told_last in
    record { same_format = refl; is = kept.is; keeps = kept.keeps; none = λ region low. refl; reads = reads last told_last }
