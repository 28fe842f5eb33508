-- A region that is recalculated, block by block.
use Rattle.std.proofs.Common.{◌≡◌, ◌⊎◌, inl, inr, ⊎_elim, refl, nat_lt, if◌then◌else◌, slice_index, ℕ, ◌+◌, ◌*◌, ◌<◌, ◌≤◌, Bool, true, List, length, Some, sym, ◌∙◌, ap, subst, arith}
use Rattle.std.proofs.lemmas.Bool.{cases_Bool, leb-true, le-leb}
use Rattle.std.proofs.lemmas.Option.{same_Some}
use Rattle.disk_model.specs.Disk.{Content, OnlyAdds, last_image}
use Rattle.disk_model.specs.Identity.{DiskIdentity}
use Rattle.disk_model.specs.Moments.{EachSince, HasNow, content_now}
use Rattle.disk_model.proofs.MomentsLemmas.{no_moment}
use Rattle.image_model.specs.Cells.{placed_cells_of}
use Rattle.image_model.specs.Geometry.{Geometry, IsGeometry, region_of}
use Rattle.image_model.specs.Tag.{tag_of}
use Rattle.image_model.proofs.TagLemmas.{length-tag_of}
use Rattle.hmac_tag.specs.TagMaker.{TagRule}
use Rattle.device_model.specs.History.{Tagger}
use Rattle.place_model.specs.Tags.{IsOfTags, tag_byte_at, with_block_tag}
use Rattle.place_model.proofs.PlacedLemmas.{placed_tag-byte}
use Rattle.direct_laws.specs.CallLaws.{AddsTags, ReadsImage}
use Rattle.direct_laws.specs.ServeLaws.{PutsTag}
use Rattle.direct_mode.proofs.StoreCalls.{ReadsWhole, adds_put, puts_tag}
use Rattle.tag_store.specs.StoreLaws.{AreWhole}
use Rattle.tag_store.proofs.PutLemmas.{with_tag-byte}
use Rattle.tag_store.specs.Store.{IsOfPut, IsStore, KeepsButTag, Store, StoresFirst, StoresTag, given, given_tags, tags_in}
use Rattle.bitmap_laws.specs.CallLaws.{region_tags}
use Rattle.bitmap_laws.specs.RecalcLaws.{TakesBelow, tags_below}
use Rattle.bitmap_laws.specs.ServeLaws.{Recalculates}
use Rattle.bitmap_laws.proofs.CallLemmas.{start_told}
use Rattle.bitmap_laws.proofs.RecalcLemmas.{take_begins_law, take_ends_law, take_fails_law, take_turn_law}
use Rattle.recalculation.specs.Places.{IsSpan, awaits_from}
use Rattle.recalculation.specs.declared.block_run.BlockRun.{BlockRun}
use Rattle.recalculation.specs.Rule.{tagger_by}
use Rattle.recalculation.specs.Run.{ShowsDisk}
use Rattle.recalculation.specs.Taking.{AddsPlacedTag, FailsBlock, GivesBetween, IsPlacedTag, TakesBlock}
use Rattle.recalculation.proofs.RestLemmas.{given-whole}
use Rattle.recalculation.proofs.RunLemmas.{shows_after}

-- A put, by the tags that a store would give behind it.
put_still : (g : Geometry) (block : ℕ) (put : List ℕ) (mid : Content → ℕ → List ℕ) (m : List Content) → PutsTag g block put mid (λ x. with_block_tag block put (mid x)) m m
put_still g block put mid m = record {
  adds = no_moment m _;
  others = λ start told c told_c. record { each = λ sector none. ap (λ (x : Content). last_image x sector) (same_Some c start (sym told_c ∙ told)) };
  gives = λ start told c told_c n n_low. ap (λ (x : Content). with_block_tag block put (mid x) n) (same_Some c start (sym told_c ∙ told));
}

module _ (tag : Tagger) (g : Geometry) (sectors first region begin end : ℕ) (geometry : IsGeometry g sectors) (span : IsSpan g first region begin end) (tags : Content → ℕ → List ℕ) (a : List Content) where
  -- Before its first block none is done,
  pub taking_begins : TakesBelow tag g (awaits_from first) region begin tags tags a a
  taking_begins = take_begins_law tag g (awaits_from first) region begin tags a (λ b low is waits. ((span.each b low).0 (is, leb-true first b waits)).0)

  module _ (block : ℕ) (mid : Content → ℕ → List ℕ) (m : List Content) (above : begin ≤ block) (under : block < end) (taken : TakesBelow tag g (awaits_from first) region block tags mid a m) where
    low : block < g.blocks
    low = omega (arith, under, span.inside)

    within : (region_of g block ≡ region) × (first ≤ block)
    within = (span.each block low).1 (above, under)

    -- then one more,
    pub taking_next : (now : Content → ℕ → List ℕ) (b : List Content) → TakesBlock tag g block mid now m b → TakesBelow tag g (awaits_from first) region (block + 1) tags now a b
    taking_next now b takes = take_turn_law tag g (awaits_from first) sectors region block takes.put tags mid now a m b geometry low within.0 (le-leb first block within.1) taken takes.is takes.puts

    -- or it fails within that one,
    pub taking_fails : (b : List Content) → (b ≡ m) ⊎ AddsPlacedTag tag g block mid m b → AddsTags g tags (λ c. region_tags tag g (awaits_from first) region c (tags c)) a b
    taking_fails b adds = ⊎_elim
        (λ same. subst (λ (x : List Content). AddsTags g tags (λ c. region_tags tag g (awaits_from first) region c (tags c)) a x) (sym same) taken.adds)
        (λ some. take_fails_law tag g (awaits_from first) sectors region block some.put tags mid a m b geometry low within.0 (le-leb first block within.1) taken some.is some.adds) adds

    -- where each tag that the store gives is of the old ones or of the region's.
    below_either : (count : ℕ) (start : Content) (n : ℕ) → (tags_below tag g (awaits_from first) region count start (tags start) n ≡ tags start n)
        ⊎ (tags_below tag g (awaits_from first) region count start (tags start) n ≡ region_tags tag g (awaits_from first) region start (tags start) n)
    below_either count start n = elim (cases_Bool (nat_lt n count)) [
      | inl under ↦ inr (ap (λ (t : Bool). if t then region_tags tag g (awaits_from first) region start (tags start) n else tags start n) under)
      | inr above ↦ inl (ap (λ (t : Bool). if t then region_tags tag g (awaits_from first) region start (tags start) n else tags start n) above)
    ]

    of_either : (told x : List ℕ) (count i : ℕ) (start : Content) (n : ℕ) → slice_index x i ≡ slice_index told i → told ≡ tags_below tag g (awaits_from first) region count start (tags start) n
        → (slice_index x i ≡ slice_index (tags start n) i) ⊎ (slice_index x i ≡ slice_index (region_tags tag g (awaits_from first) region start (tags start) n) i)
    of_either told x count i start n e is =
        ⊎_elim (λ f. inl (e ∙ ap (λ (t : List ℕ). slice_index t i) (is ∙ f))) (λ f. inr (e ∙ ap (λ (t : List ℕ). slice_index t i) (is ∙ f))) (below_either count start n)

    before : (b : List Content) → (b ≡ m) ⊎ AddsPlacedTag tag g block mid m b → (c : Content) → content_now b ≡ Some c → (middle : Content) × (content_now m ≡ Some middle)
    before b adds c told = ⊎_elim (λ e. (c, ap content_now (sym e) ∙ told))
        (λ some. start_told (λ x. OnlyAdds (IsOfTags g (mid x) (with_block_tag block some.put (mid x))) x) c some.adds told) adds

    pub taking_left : (now : Content → ℕ → List ℕ) (b : List Content) → (b ≡ m) ⊎ AddsPlacedTag tag g block mid m b → ((b ≡ m) × (now ≡ mid)) ⊎ FailsBlock tag g block mid now m b
        → GivesBetween g tags (λ c. region_tags tag g (awaits_from first) region c (tags c)) now a b
    taking_left now b adds left = record {
      each = λ start told c told_c n i n_low i_low.
          let middle = before b adds c told_c in
          let done = taken.gives start told middle.0 middle.1 n n_low in
          let kept : ((b ≡ m) × (now ≡ mid)) → slice_index (now c n) i ≡ slice_index (mid middle.0 n) i = λ same.
          ap (λ (t : Content → ℕ → List ℕ). slice_index (t c n) i) same.1 ∙ ap (λ (x : Content). slice_index (mid x n) i) (same_Some c middle.0 (sym told_c ∙ ap content_now same.0 ∙ middle.1)) in
          ⊎_elim
          (λ same. of_either (mid middle.0 n) (now c n) block i start n (kept same) done)
          (λ fails.
          let next = take_turn_law tag g (awaits_from first) sectors region block fails.put tags mid (λ x. with_block_tag block fails.put (mid x)) a m m geometry low within.0 (le-leb first block within.1) taken fails.is
          (put_still g block fails.put mid m) in
          ⊎_elim
          (λ e. of_either (mid middle.0 n) (now c n) block i start n e done)
          (λ e. of_either (with_block_tag block fails.put (mid middle.0) n) (now c n) (block + 1) i start n e (next.gives start told middle.0 middle.1 n n_low))
          (fails.gives.each middle.0 middle.1 c told_c n i n_low i_low)) left;
    }

  -- and behind the last one the region is.
  pub taking_ends : (count : ℕ) (now : Content → ℕ → List ℕ) (b : List Content) → end ≤ count → ReadsImage a → TakesBelow tag g (awaits_from first) region count tags now a b → Recalculates tag g (awaits_from first) region tags now a b
  taking_ends count now b all image taken = take_ends_law tag g (awaits_from first) region count tags now a b
      (λ n low is waits. let inside = ((span.each n low).0 (is, leb-true first n waits)).1 in omega (arith, inside, all)) image taken

-- ---- a block

-- A call that adds tags tells its start.
pub came : (g : Geometry) (old new : Content → ℕ → List ℕ) (a b : List Content) → AddsTags g old new a b → (c : Content) → content_now b ≡ Some c → (start : Content) × (content_now a ≡ Some start)
came g old new a b adds c told = start_told (λ start. OnlyAdds (IsOfTags g (old start) (new start)) start) c adds told

-- A recalculation of no block changes nothing.
pub nothing_taken : (tag : Tagger) (g : Geometry) (awaits : ℕ → Bool) (region : ℕ) (tags : Content → ℕ → List ℕ) (a : List Content) → ((b : ℕ) → b < g.blocks → region_of g b ≡ region → awaits b ≡ true → ⊥) → ReadsImage a
    → Recalculates tag g awaits region tags tags a a
nothing_taken tag g awaits region tags a none image =
    take_ends_law tag g awaits region 0 tags tags a a (λ n low is waits. absurd (none n low is waits)) image
    (take_begins_law tag g awaits region 0 tags a (λ b low is waits. omega arith))

module _ (rule : TagRule) (g : Geometry) (old new : Store) (disk now : DiskIdentity) (block spb : ℕ) (bytes put : List ℕ) (a m b : List Content) (same : old.geometry ≡ g) (kept : m ≡ a)
    (is : IsStore old disk a) (is_new : IsStore new now b) (whole : ReadsWhole disk a) (low : block < g.blocks) (size : length put ≡ g.shape.tag_size)
    (put_is : IsPlacedTag (tagger_by rule g) g block put m) (moments : EachSince (λ start. OnlyAdds (IsOfPut block put old start) start) m b) where
  low_ : block < old.geometry.blocks
  low_ = subst (λ (x : Geometry). block < x.blocks) (sym same) low

  size_ : length put ≡ old.geometry.shape.tag_size
  size_ = size ∙ ap (λ (x : Geometry). x.shape.tag_size) (sym same)

  is_ : IsPlacedTag (tagger_by rule g) g block put a
  is_ = subst (λ (x : List Content). IsPlacedTag (tagger_by rule g) g block put x) kept put_is

  moments_ : EachSince (λ start. OnlyAdds (IsOfPut block put old start) start) a b
  moments_ = subst (λ (x : List Content). EachSince (λ start. OnlyAdds (IsOfPut block put old start) start) x b) kept moments

  -- While its tag is put sectors of tags are added,
  pub block_adds : AddsPlacedTag (tagger_by rule g) g block (given_tags old) a b
  block_adds = record {
    put = put;
    is = is_;
    adds = subst (λ (x : Geometry). AddsTags x (given_tags old) (λ c. with_block_tag block put (given_tags old c)) a b) same
        (adds_put old new disk now is is_new whole block put low_ size_ moments_);
  }

  -- and then it is put.
  pub block_taken : StoresTag block put old new m b → KeepsButTag block old new → TakesBlock (tagger_by rule g) g block (given_tags old) (given_tags new) a b
  block_taken stored keeps = record {
    put = put;
    is = is_;
    puts = subst (λ (x : Geometry). PutsTag x block put (given_tags old) (given_tags new) a b) same
        (puts_tag old new disk now is is_new whole block put low_ size_ (subst (λ (x : List Content). StoresTag block put old new x b) kept stored) keeps moments_);
  }

  -- Where that fails, each byte of a tag that the store gives is an old one or of that tag.
  byte_given : (store : Store) (sectors : ℕ) (d : Content) (n i : ℕ) → IsGeometry old.geometry sectors → AreWhole sectors (given store d) → store.geometry ≡ old.geometry → n < old.geometry.blocks → i < old.geometry.shape.tag_size
      → slice_index (given_tags store d n) i ≡ slice_index (given store d (tag_byte_at old.geometry n i).sector) (tag_byte_at old.geometry n i).byte
  byte_given store sectors d n i geometry all same_ n_low i_low =
      ap (λ (x : Geometry). slice_index (tags_in x (given store d) n) i) same_
      ∙ placed_tag-byte old.geometry sectors geometry (given store d) all n n_low (placed_cells_of old.geometry (given store d) n) i i_low

  pub block_fails : ReadsWhole now b → new.geometry ≡ old.geometry → StoresFirst block put old new m b → FailsBlock (tagger_by rule g) g block (given_tags old) (given_tags new) a b
  block_fails whole_new same_new first = record {
    put = put;
    is = is_;
    gives = subst (λ (x : Geometry). GivesBetween x (given_tags old) (λ c. with_block_tag block put (given_tags old c)) (given_tags new) a b) same (record {
      each = λ start told c told_c n i n_low i_low.
          let at = tag_byte_at old.geometry n i in
          let all = given-whole old disk a start is (whole start told) in
          let now_fits : IsGeometry old.geometry now.sectors = subst (λ (x : Geometry). IsGeometry x now.sectors) same_new is_new.geometry in
          let byte = byte_given new now.sectors c n i now_fits (given-whole new now b c is_new (whole_new c told_c)) same_new n_low i_low in
          ⊎_elim
          (λ e. inl (byte ∙ ap (λ (xs : List ℕ). slice_index xs at.byte) e ∙ sym (byte_given old disk.sectors start n i is.geometry all refl n_low i_low)))
          (λ two. inr (byte ∙ ap (λ (xs : List ℕ). slice_index xs at.byte) two.1 ∙ with_tag-byte old.geometry disk.sectors block put (given old start) is.geometry all low_ size_ n i n_low i_low))
          (first_.given_ start told c told_c at.sector);
    });
  }
    where
      first_ : StoresFirst block put old new a b
      first_ = subst (λ (x : List Content). StoresFirst block put old new x b) kept first

  -- The run shows what it did.
  pub block_shows : (run : BlockRun) → ShowsDisk g run m → StoresTag block put old new m b → KeepsButTag block old new → ShowsDisk g run b
  unfolding block_taken
  block_shows run shows stored keeps =
      let puts = (block_taken stored keeps).puts in
      shows_after g disk.sectors run a (subst (λ (x : Geometry). IsGeometry x disk.sectors) same is.geometry) (subst (λ (x : List Content). ShowsDisk g run x) kept shows) b puts.others
      (came g (given_tags old) (λ c. with_block_tag block put (given_tags old c)) a b puts.adds)

-- The tag that is made is that of the bytes in place.
pub placed_tag_is : (rule : TagRule) (g : Geometry) (block spb : ℕ) (bytes put : List ℕ) (m : List Content) → spb ≡ g.shape.spb → put ≡ tag_of rule.key rule.salt rule.size (block * spb) bytes
    → HasNow (λ c. bytes ≡ (placed_cells_of g (last_image c) block).bytes) m → IsPlacedTag (tagger_by rule g) g block put m
placed_tag_is rule g block spb bytes put m spb_is made has c told =
    made ∙ ap (λ (n : ℕ). tag_of rule.key rule.salt rule.size (block * n) bytes) spb_is ∙ ap (tag_of rule.key rule.salt rule.size (block * g.shape.spb)) (has c told)

pub tag_length : (rule : TagRule) (g : Geometry) (sectors sector : ℕ) (bytes put : List ℕ) → IsGeometry g sectors → rule.size ≡ g.shape.tag_size → put ≡ tag_of rule.key rule.salt rule.size sector bytes → length put ≡ g.shape.tag_size
tag_length rule g sectors sector bytes put geometry size made =
    let most = geometry.tag_size.1 in
    ap length made ∙ length-tag_of rule.key rule.salt rule.size sector bytes (omega (arith, size, most)) ∙ size
