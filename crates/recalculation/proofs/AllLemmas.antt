-- All regions that await are recalculated on a disk in journal mode, and their tags written back.
use Rattle.std.proofs.Common.{◌≡◌, inl, inr, ℕ, ◌<◌, Bool, true, false, refl, sym, ◌∙◌, ap, subst, arith, Option, Some, None, List, [], slice_index, Result, Ok, Err, OnOk}
use Rattle.std.proofs.lemmas.Bool.{cases_eq, true≢false}
use Rattle.std.proofs.lemmas.Option.{same_Some}
use Rattle.disk_model.specs.Disk.{Content, EachImage, Image, OnlyAdds, last_image}
use Rattle.disk_model.specs.Moments.{EachMoment, EachSince, content_now}
use Rattle.disk_model.proofs.DiskLemmas.{OnlyAdds-wider}
use Rattle.disk_model.proofs.MomentsLemmas.{EachMoment-then, EachMoment-weaker, FromStart-weaker, adds_told, adds_wider, no_moment}
use Rattle.image_model.specs.declared.flags.TheConstants.{DIRTY_BITMAP}
use Rattle.image_model.specs.Geometry.{Geometry, regions}
use Rattle.image_model.specs.Superblock.{has_flag}
use Rattle.device_model.specs.Mode.{Journal}
use Rattle.device_model.specs.Regions.{least_region, with_region}
use Rattle.place_model.specs.Format.{DiskFormat, HasCells, cells_on}
use Rattle.place_model.specs.Opened.{awaiting_on}
use Rattle.place_model.specs.Tags.{IsOfTags, ReadsTags}
use Rattle.journal_model.specs.Entries.{cell_after}
use Rattle.journal_model.specs.JournaledDisk.{IsCutOf, JournaledDisk, StandsFor}
use Rattle.journal_model.proofs.CutOfLemmas.{cut_of_standing}
use Rattle.journal_model.proofs.OpeningLemmas.{base_cells_law, opened_cells_law}
use Rattle.journal_model.proofs.StepLemmas.{writing_back_law}
use Rattle.bitmap_model.proofs.BitLemmas.{with_region-here, with_region-other}
use Rattle.direct_laws.specs.CallLaws.{AddsTags}
use Rattle.direct_laws.specs.ServeLaws.{WritesBack}
use Rattle.direct_laws.proofs.CallLemmas.{each_from}
use Rattle.bitmap_laws.specs.CallLaws.{AreSameBits, region_tags}
use Rattle.bitmap_laws.specs.ServeLaws.{Recalculates}
use Rattle.bitmap_laws.proofs.LeastLemmas.{find_none, least_found}
use Rattle.buffer_cache.specs.declared.held.Held.{Held}
use Rattle.buffer_cache.specs.Cached.{IsMarkedSector, held_or}
use Rattle.hmac_tag.specs.TagMaker.{TagRule}
use Rattle.change_model.specs.PhaseLaws.{no_region}
use Rattle.recalculate_laws.specs.Recalculating.{KeepsAwaiting}
use Rattle.recalculate_laws.specs.Taking.{KeepsAwaitingNow}
use Rattle.recalculate_laws.proofs.AwaitsLemmas.{awaiting_same_law}
use Rattle.recalculate_laws.proofs.CallsLemmas.{back_law}
use Rattle.recalculate_laws.proofs.ChangingLemmas.{recovered_changes}
use Rattle.recalculate_laws.proofs.DeviceLemmas.{opened_awaits}
use Rattle.recalculate_laws.proofs.TakingLemmas.{taken_law, taking_law}
use Rattle.tag_store.specs.Store.{IsMarkedTags, KeepsStore, Store}
use Rattle.recalculation.specs.declared.recalculating.Recalculation.{Recalculation}
use Rattle.recalculation.specs.All.{AwaitFewer, AwaitOn, IsOfTagsOnly, RecoveredCellsLaw, RecoveredChangesLaw, RecoversWith}
use Rattle.recalculation.specs.Awaiting.{AwaitingRegions, awaiting_blocks, awaiting_of}
use Rattle.recalculation.specs.Recalculation.{AwaitsBlocksOf, IsRecalculationOf}
use Rattle.recalculation.specs.Rest.{HasRest, KeepsRest}
use Rattle.recalculation.specs.Rule.{rule_on, tagger_by}
use Rattle.recalculation.proofs.KeptLemmas.{recalculation_opened, taken_is, takes_in, takes_region}
use Rattle.recalculation.proofs.LawsLemmas.{opened_position_law}
use Rattle.recalculation.proofs.StepLemmas.{adds_taking, has_taken}

-- ---- a turn

-- What is kept beside a disk, with the disk's own fields.
abbrev beside : JournaledDisk → AwaitingRegions → Recalculation
beside d a = record { awaiting = a; position = d.superblock }

-- The same regions await of the disk by another test.
awaits_by : (d : JournaledDisk) (one other : ℕ → Bool) (rule : TagRule) (a : AwaitingRegions) → AwaitOn d one rule a → AreSameBits d.geometry one other → AwaitOn d other rule a
awaits_by d one other rule a on same = record {
  geometry = on.geometry;
  regions_ = λ r low. on.regions_ r low ∙ same r low;
  blocks_ = on.blocks_;
  rule_is = on.rule_is;
}

-- Behind some turns the regions that await in memory are those of the disk, which is kept, and stood for the same at each
-- moment.
pub record TurnsKeep (d : JournaledDisk) (rule : TagRule) (a : AwaitingRegions) (tags : Content → ℕ → List ℕ) (start now : List Content) : Type 0 where
  pub on : AwaitOn d (awaiting_of a) rule a
  pub keeps : KeepsAwaitingNow d (awaiting_of a) tags now
  pub stands : EachMoment start now (λ c. StandsFor d c × EachImage (IsCutOf d []) c)

module _ (d : JournaledDisk) (rule : TagRule) where
  pub turns_begin : (awaiting : ℕ → Bool) (a : AwaitingRegions) (tags : Content → ℕ → List ℕ) (start : List Content) → AwaitOn d awaiting rule a → KeepsAwaitingNow d awaiting tags start → TurnsKeep d rule a tags start start
  turns_begin awaiting a tags start on keeps =
      let same : AreSameBits d.geometry awaiting (awaiting_of a) = λ r low. sym (on.regions_ r low) in
      let back : AreSameBits d.geometry (awaiting_of a) awaiting = on.regions_ in
      record {
        on = awaits_by d awaiting (awaiting_of a) rule a on same;
        keeps = awaiting_same_law d awaiting (awaiting_of a) tags start same keeps;
        stands = no_moment start _;
      }

  module _ (a : AwaitingRegions) (tags : Content → ℕ → List ℕ) (start m : List Content) (kept : TurnsKeep d rule a tags start m) (region : ℕ) (low : region < regions a.geometry) (waits : awaiting_of a region ≡ true) (b : List Content)
      (adds : AddsTags a.geometry tags (λ c. region_tags (tagger_by rule a.geometry) a.geometry (awaiting_blocks a) region c (tags c)) m b) where
    is_on : IsRecalculationOf d.superblock d.geometry (awaiting_of a) (beside d a)
    is_on = record { geometry = kept.on.geometry; regions_ = kept.on.regions_; blocks_ = kept.on.blocks_; fields = refl }

    low_on : region < regions d.geometry
    low_on = subst (λ (g : Geometry). region < regions g) kept.on.geometry low

    -- While a region is recalculated the disk stands for the same,
    pub turn_stands : EachMoment start b (λ c. StandsFor d c × EachImage (IsCutOf d []) c)
    turn_stands = EachMoment-then kept.stands (taking_law d region (awaiting_of a) tags m b kept.keeps
        (takes_in d.format (awaiting_of a) (beside d a) is_on rule kept.on.rule_is region low_on waits tags m b
        (adds_taking rule region (beside d a) d.geometry (sym kept.on.geometry) tags m b adds)))

    -- and then the region awaits no more.
    pub turn_keeps : (new : AwaitingRegions) (now : Content → ℕ → List ℕ) → Recalculates (tagger_by rule a.geometry) a.geometry (awaiting_blocks a) region tags now m b
        → AreSameBits a.geometry (awaiting_of new) (with_region region false (awaiting_of a)) → new.geometry ≡ a.geometry → new.first ≡ a.first → TurnsKeep d rule new now start b
    turn_keeps new now takes bits geometry first =
        let taken = has_taken rule region (beside d a) d.geometry (sym kept.on.geometry) tags m b new now takes bits geometry first in
        let then_ = taken_is d.format (awaiting_of a) (beside d a) is_on rule region (beside d new) tags now m b taken in
        let same : AreSameBits d.geometry (with_region region false (awaiting_of a)) (awaiting_of new) = λ r r_low. sym (then_.regions_ r r_low) in
        record {
          on = record { geometry = then_.geometry; regions_ = λ r r_low. refl; blocks_ = then_.blocks_; rule_is = kept.on.rule_is };
          keeps = awaiting_same_law d (with_region region false (awaiting_of a)) (awaiting_of new) now b same
              (taken_law d region (awaiting_of a) tags now m b kept.keeps (takes_region d.format (awaiting_of a) (beside d a) is_on rule kept.on.rule_is region low_on waits tags now m b taken.takes));
          stands = turn_stands;
        }

  -- Once none awaits in memory none does of the disk.
  pub turns_end : (a : AwaitingRegions) (tags : Content → ℕ → List ℕ) (start now : List Content) → TurnsKeep d rule a tags start now → AreSameBits a.geometry (awaiting_of a) no_region → KeepsAwaitingNow d no_region tags now
  turns_end a tags start now kept none =
      awaiting_same_law d (awaiting_of a) no_region tags now (subst (λ (g : Geometry). AreSameBits g (awaiting_of a) no_region) kept.on.geometry none) kept.keeps

-- ---- which await

-- The region that is next is one that awaits,
pub next_waits : (a : AwaitingRegions) (region : ℕ) (o : Option ℕ) → o ≡ least_region (regions a.geometry) (awaiting_of a) → o ≡ Some region → (region < regions a.geometry) × (awaiting_of a region ≡ true)
next_waits a region o next is = least_found (regions a.geometry) (awaiting_of a) region (sym next ∙ is)

-- and where there is none, none does.
pub none_waits : (a : AwaitingRegions) (o : Option ℕ) → o ≡ least_region (regions a.geometry) (awaiting_of a) → o ≡ None → AreSameBits a.geometry (awaiting_of a) no_region
none_waits a o next is region low = find_none (awaiting_of a) 0 (regions a.geometry) (sym next ∙ is) region (omega arith) (omega (arith, low))

-- Fewer await once one is taken.
pub fewer_then : (g : Geometry) (old mid new : ℕ → Bool) (region : ℕ) → AwaitFewer g old mid → AreSameBits g new (with_region region false mid) → AwaitFewer g old new
fewer_then g old mid new region fewer bits = record {
  each = λ r low waits. elim (cases_eq region r) [
    | inl here ↦ absurd (true≢false (sym waits ∙ bits r low ∙ with_region-here region r false mid here))
    | inr apart ↦ fewer.each r low (sym (with_region-other region r false mid apart) ∙ sym (bits r low) ∙ waits)
  ];
}

-- ---- what is written

-- Tags that are added are of sectors of tags.
pub only_tags : (g : Geometry) (old new : Content → ℕ → List ℕ) {a b : List Content} → AddsTags g old new a b → EachSince (OnlyAdds (IsOfTagsOnly g)) a b
only_tags g old new {a} m = EachMoment-weaker (FromStart-weaker a (λ start. OnlyAdds (IsOfTags g (old start) (new start)) start) (OnlyAdds (IsOfTagsOnly g))
    (λ start c told adds. OnlyAdds-wider (IsOfTags g (old start) (new start)) (IsOfTagsOnly g) (λ sector x of. record {
      block = of.block;
      byte = of.byte;
      block_low = of.block_low;
      byte_low = of.byte_low;
      is = of.is;
    }) start c adds)) m

-- So are those that are written back,
pub only_marked : (store : Store) {a b : List Content} → EachSince (OnlyAdds (IsMarkedTags store)) a b → EachSince (OnlyAdds (IsOfTagsOnly store.geometry)) a b
only_marked store m = adds_wider (IsMarkedTags store) (IsOfTagsOnly store.geometry) (λ sector x marked. marked.tags) m

-- with which every byte stays that no tag takes.
pub back_rest : (old new : Store) (a b : List Content) → KeepsStore old new a b → EachSince (OnlyAdds (IsMarkedSector old.sectors)) a b → KeepsRest old new a b
back_rest old new a b keeps adds = record {
  geometry = keeps.geometry;
  gives = λ c told d told_d sector. record { each = λ at none. ap (λ (x : List ℕ). slice_index x at) (keeps.sectors.given c told d told_d sector) };
  adds = adds_told (HasRest old) (IsMarkedSector old.sectors) (λ start told sector x of. record {
    each = λ at none. ap (λ (y : List ℕ). slice_index y at) (of.bytes ∙ sym (ap (λ (o : Option Held). held_or o (last_image start sector)) of.is));
  }) adds;
}

-- ---- tags that are written back

module _ (d : JournaledDisk) (awaiting : ℕ → Bool) (g : Geometry) (there : g ≡ d.geometry) (tags : Content → ℕ → List ℕ) (a b : List Content) (keeps : KeepsAwaitingNow d awaiting tags a) where
  pub back_stands : AddsTags g tags tags a b → EachMoment a b (λ c. StandsFor d c × EachImage (IsCutOf d []) c)
  back_stands adds =
      each_from (λ start. OnlyAdds (IsOfTags d.geometry (tags start) (tags start)) start) _ (λ start told c more.
      let kept = (keeps start told).keeps in
      let stands = writing_back_law d (tags start) start c kept.stands kept.tags_are more in
      (stands, cut_of_standing d c stands)) (subst (λ (x : Geometry). AddsTags x tags tags a b) there adds)

  pub back_keeps : (now : Content → ℕ → List ℕ) → WritesBack g tags now a b → KeepsAwaitingNow d awaiting now b
  back_keeps now back = back_law d awaiting tags now a b keeps (subst (λ (x : Geometry). WritesBack x tags now a b) there back)

-- Both hold of a success.
pub on_ok_both : {T E : Type 0} (P Q : Type 0) (r : Result T E) → OnOk r P → OnOk r Q → OnOk r (P × Q)
on_ok_both P Q (Ok x) p q = (p, q)
on_ok_both P Q (Err e) p q = tt

-- ---- on an image that was recovered

module _ (f : DiskFormat) (entry : Image) (next number : ℕ) (rule : TagRule) (a : AwaitingRegions) (tags : Content → ℕ → List ℕ) (c : Content) (is : RecoversWith f entry next number rule a (tags c) c) where
  abbrev now_ : JournaledDisk
  now_ = is.recovered.now

  same : now_.format ≡ f
  same = is.recovered.same_format

  clear : has_flag DIRTY_BITMAP now_.superblock.flags ≡ false
  clear = ap (λ (x : DiskFormat). has_flag DIRTY_BITMAP x.superblock.flags) same ∙ is.no_bitmap

  waits_on : AreSameBits f.geometry (awaiting_of a) (awaiting_on Journal f entry)
  waits_on region low = is.opening.regions_ region low ∙ (opened_position_law f.superblock f.geometry entry is.no_bitmap).0 region low

  -- The regions that await in memory are those of what was recovered.
  pub recovered_awaits : AwaitOn now_ (awaiting_on Journal now_.format entry) rule a
  recovered_awaits =
      let there = recalculation_opened f.superblock f.geometry (awaiting_on Journal f entry) (record { awaiting = a; position = f.superblock }) is.opening refl waits_on in
      record {
        geometry = there.geometry ∙ ap (λ (x : DiskFormat). x.geometry) (sym same);
        regions_ = subst (λ (x : DiskFormat). AreSameBits x.geometry (awaiting_of a) (awaiting_on Journal x entry)) (sym same) there.regions_;
        blocks_ = subst (λ (x : DiskFormat). AwaitsBlocksOf x.superblock a) (sym same) there.blocks_;
        rule_is = is.rule_is ∙ ap rule_on (sym same);
      }

  pub recovered_keeps : (before : List Content) → content_now before ≡ Some c → KeepsAwaitingNow now_ (awaiting_on Journal now_.format entry) tags before
  recovered_keeps before told x told_x =
      subst (λ (y : Content). KeepsAwaiting now_ (awaiting_on Journal now_.format entry) (tags y) y) (same_Some c x (sym told ∙ told_x))
      (opened_awaits now_ entry (tags c) c clear is.recovered.keeps)

  same_cells : (b : ℕ) → b < now_.geometry.blocks → cell_after now_.geometry now_.base now_.entries b ≡ cells_on f entry b
  same_cells b low =
      let there = subst (λ (x : DiskFormat). b < x.geometry.blocks) same low in
      is.recovered.again b there ∙ is.recovered.cells b there ∙ opened_cells_law f entry is.no_bitmap b

  -- What a cut leaves of it has the cells of the image.
  pub cut_cells : (x : Content) → EachImage (IsCutOf now_ []) x → EachImage (HasCells f (cells_on f entry)) x
  cut_cells x cuts = subst (λ (y : DiskFormat). EachImage (HasCells y (cells_on f entry)) x) same (base_cells_law now_ (cells_on f entry) x same_cells cuts)

pub recovered_cells_law : RecoveredCellsLaw
recovered_cells_law f entry next number rule a tags c before after told is stands =
    EachMoment-weaker (λ x both. cut_cells f entry next number rule a tags c is x both.1)
    (stands is.recovered.now (awaiting_on Journal is.recovered.now.format entry) (recovered_awaits f entry next number rule a tags c is) (recovered_keeps f entry next number rule a tags c is before told))

pub recovered_changes_law : RecoveredChangesLaw
recovered_changes_law f entry next number rule a tags now c before after emptied told is low empty takes reads first told_first =
    recovered_changes f entry next number (tags c) c is.recovered emptied no_region (now first) first is.no_bitmap low empty
    (takes is.recovered.now (awaiting_on Journal is.recovered.now.format entry) (recovered_awaits f entry next number rule a tags c is) (recovered_keeps f entry next number rule a tags c is before told) first told_first)
    (λ b b_low. refl)
    (subst (λ (x : DiskFormat). ReadsTags x.geometry (now first) first) (sym is.recovered.same_format) (reads first told_first))
