-- A region that is recalculated: with a bitmap each block of it, if it awaits.
use Rattle.std.proofs.Common.{◌≡◌, ℕ, ◌<◌, Bool, true, if◌then◌else◌, sym, ◌∙◌, subst, List}
use Rattle.disk_model.specs.Disk.{Content}
use Rattle.image_model.specs.Geometry.{Geometry, regions}
use Rattle.device_model.specs.Regions.{recalculated_region}
use Rattle.journal_laws.proofs.RegionLemmas.{regions_recalculated}
use Rattle.bitmap_model.specs.BitmapDisk.{BitmapDisk}
use Rattle.bitmap_model.specs.Steps.{after_recalculation}
use Rattle.direct_laws.specs.CallLaws.{AddsTags}
use Rattle.bitmap_laws.specs.CallLaws.{StandsThrough, every_block, region_tags}
use Rattle.bitmap_laws.specs.ServeLaws.{Recalculates}
use Rattle.bitmap_laws.proofs.CallLemmas.{region_law}
use Rattle.bitmap_laws.proofs.ServeLemmas.{region_taken_law}
use Rattle.hmac_tag.specs.TagMaker.{TagRule}
use Rattle.recalculation.specs.Awaiting.{AwaitingRegions, awaiting_blocks, awaiting_of}
use Rattle.recalculation.specs.Rule.{tagger_by}
use Rattle.recalculation.proofs.LawsLemmas.{bitmap_blocks_law, same_blocks_law, same_moments_law}
use Rattle.tag_store.specs.Store.{Store, given_tags}
use Rattle.bitmap_mode.specs.States.{AreSameCounts, States, counts_of}
use Rattle.bitmap_mode.specs.Standing.{StandsAs, StandsWith}
use Rattle.bitmap_mode.specs.Reading.{AddsToRead, TakesRegion, after_taking, tags_taken}
use Rattle.bitmap_mode.proofs.StatesLemmas.{regions_same}

-- ---- every block of a region that awaits

module _ (rule : TagRule) (w : AwaitingRegions) (g : Geometry) (region : ℕ) (tags : Content → ℕ → List ℕ) {a b : List Content} (there : w.geometry ≡ g) (first : w.first ≡ 0) (waits : awaiting_of w region ≡ true) where
  pub every_taken : (now : Content → ℕ → List ℕ) → Recalculates (tagger_by rule w.geometry) w.geometry (awaiting_blocks w) region tags now a b → Recalculates (tagger_by rule g) g every_block region tags now a b
  every_taken now taken =
      subst (λ (y : Geometry). Recalculates (tagger_by rule y) y every_block region tags now a b) there
      (same_blocks_law (tagger_by rule w.geometry) w.geometry (awaiting_blocks w) every_block region tags now a b (λ n low is. bitmap_blocks_law w region n first waits is) taken)

  pub every_added : AddsTags w.geometry tags (λ c. region_tags (tagger_by rule w.geometry) w.geometry (awaiting_blocks w) region c (tags c)) a b
      → AddsTags g tags (λ c. region_tags (tagger_by rule g) g every_block region c (tags c)) a b
  every_added adds =
      subst (λ (y : Geometry). AddsTags y tags (λ c. region_tags (tagger_by rule y) y every_block region c (tags c)) a b) there
      (same_moments_law (tagger_by rule w.geometry) w.geometry (awaiting_blocks w) every_block region tags a b (λ n low is. bitmap_blocks_law w region n first waits is) adds)

-- ---- what its disk stands for

module _ (d : BitmapDisk) (marked : ℕ → Bool) (rule : TagRule) (s : States) (store : Store) {a : List Content} (stands : StandsWith d marked rule s store a) (same : store.geometry ≡ s.geometry)
    (region : ℕ) (low : region < regions s.geometry) where
  there : d.geometry ≡ s.geometry
  there = stands.stands.geometry ∙ same

  same_awaiting : d.awaiting region ≡ awaiting_of s.awaiting region
  same_awaiting = sym (stands.stands.regions_.awaiting region (subst (λ (y : Geometry). region < regions y) (sym there) low))

  module _ (waits : awaiting_of s.awaiting region ≡ true) where
    pub take_through : {b : List Content} → AddsTags s.geometry (given_tags store) (tags_taken rule s region store) a b → StandsThrough d marked a b
    take_through {b} adds = region_law d s.geometry region (tagger_by rule s.geometry) marked (given_tags store) a b there stands.tagger (same_awaiting ∙ waits) stands.stands.now adds

    pub is_taken : {b : List Content} (new : States) (last : Store) → last.geometry ≡ store.geometry → AreSameCounts s.geometry (counts_of new) (recalculated_region region (counts_of s))
        → TakesRegion rule s region store last a b → StandsAs (after_recalculation d region) marked new last b
    is_taken {b} new last kept counts taken = record {
      geometry = stands.stands.geometry ∙ sym kept;
      regions_ = regions_same s.geometry (after_recalculation d region) (counts_of new) (recalculated_region region (counts_of s)) there counts (regions_recalculated (counts_of s) d region stands.stands.regions_);
      now = (region_taken_law d s.geometry region (tagger_by rule s.geometry) marked (given_tags store) (given_tags last) a b there stands.tagger (same_awaiting ∙ waits) stands.stands.now taken).1;
    }

    pub is_taken_first : {b : List Content} (new : States) (last : Store) → StandsAs (after_recalculation d region) marked new last b → StandsAs (after_taking d region) marked new last b
    is_taken_first {b} new last taken = subst (λ (t : Bool). StandsAs (if t then after_recalculation d region else d) marked new last b) (sym (same_awaiting ∙ waits)) taken

-- What may be added before a read, where the region awaits.
pub added_where : (rule : TagRule) (s : States) (region : ℕ) (store : Store) {a b : List Content} → awaiting_of s.awaiting region ≡ true → AddsTags s.geometry (given_tags store) (tags_taken rule s region store) a b → AddsToRead rule s region store a b
added_where rule s region store {a} {b} waits adds =
    subst (λ (t : Bool). AddsTags s.geometry (given_tags store) (λ c n. if t then tags_taken rule s region store c n else given_tags store c n) a b) (sym waits) adds
