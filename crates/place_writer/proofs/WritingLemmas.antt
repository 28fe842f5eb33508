-- What the calls below leave while an entry is placed, and while the tags are written back, as what the disk stands
-- for.
use Rattle.std.proofs.Common.{◌≡◌, inl, inr, ℕ, ◌<◌, ◌==◌, if◌then◌else◌, refl, sym, ◌∙◌, ap, subst, arith, Some, List, [], ◌∷◌}
use Rattle.std.specs.List.{Contains}
use Rattle.std.specs.Option.{ForSome}
use Rattle.std.proofs.lemmas.Option.{same_Some, slice_get_within}
use Rattle.disk_model.specs.Disk.{AddsSome, Content, IsOfRun, OnlyAdds, last_image, newest_only, with_run}
use Rattle.disk_model.specs.Moments.{EachMoment, EachSince, FromStart, HasNow, IsChangedBy, content_now}
use Rattle.disk_model.proofs.DiskLemmas.{AddsSome-adds, AddsSome-all, OnlyAdds-join, OnlyAdds-none, OnlyAdds-wider, only_candidate}
use Rattle.disk_model.proofs.MomentsLemmas.{EachMoment-weaker}
use Rattle.image_model.specs.Geometry.{Geometry, data_at}
use Rattle.image_model.specs.Section.{Entry}
use Rattle.place_model.specs.Tags.{IsOfCell, IsOfTags, KeepsOthers, with_block_tag}
use Rattle.buffer_cache.proofs.CachedLemmas.{changed_now, told_at_end}
use Rattle.direct_mode.specs.CallLaws.{AddsTags, GivesTags, KeepsOthersNow, ReadsImage, ReadsTagsNow}
use Rattle.direct_mode.specs.ServeLaws.{PutsTag, WritesBack}
use Rattle.journal_model.specs.Entries.{cell_of}
use Rattle.journal_model.specs.JournaledDisk.{JournaledDisk, IsSound, StandsFor}
use Rattle.journal_model.specs.Steps.{KeepsCells, IsNextEntry, after_place, after_settle}
use Rattle.journal_model.proofs.KeepsLemmas.{keeps_back, keeps_placed, keeps_settled}
use Rattle.journal_model.proofs.StepLemmas.{placing_law, writing_back_law}
use Rattle.journal_ring.specs.Places.{entry_of}
use Rattle.tag_store.specs.Store.{Store, given_tags}
use Rattle.place_writer.specs.Cells.{HasCells}

-- ---- moments

-- What each later content has, by the one at the start, where that is told.
pub each_from : {a b : List Content} (P : Content → Content → Type 0) (Q : Content → Type 0) → ForSome (content_now a) (λ start. (c : Content) → P start c → Q c) → EachMoment a b (FromStart a P) → EachMoment a b Q
each_from {a} P Q f m = EachMoment-weaker (λ c. at_once a f c) m
  where
    at_once : (h : List Content) → ForSome (content_now h) (λ start. (c : Content) → P start c → Q c) → (c : Content) → FromStart h P c → Q c
    at_once [] f c p = absurd p
    at_once (start ∷ h) f c p = f start refl c p

-- The disk with some tags has its cells now.
abbrev KeepsNow : JournaledDisk → (Content → ℕ → List ℕ) → List Content → Type 0
KeepsNow d tags moments = HasNow (λ c. KeepsCells d (tags c) c) moments

-- Tags that are told alike are as good.
pub keeps_same : (d : JournaledDisk) (tags now : ℕ → List ℕ) (c : Content) → ((b : ℕ) → b < d.geometry.blocks → now b ≡ tags b) → KeepsCells d tags c → KeepsCells d now c
keeps_same d tags now c same keeps = record {
  stands = keeps.stands;
  reads = keeps.reads;
  tags_are = record { each = λ b low rests. same b low ∙ keeps.tags_are.each b low rests };
}

-- ---- an entry is placed

placed_sound : (d : JournaledDisk) (entry : Entry) (b : ℕ) → IsNextEntry d b entry → IsSound d → IsSound (after_place d)
placed_sound d entry b next sound = record {
  formed = record {
    has_geometry = sound.formed.has_geometry;
    is_geometry = sound.formed.is_geometry;
    no_bitmap = sound.formed.no_bitmap;
    settled_low = omega (arith, sound.formed.settled_low);
    placed_low = let low = slice_get_within d.entries d.placed entry next.next in omega (arith, low);
    base = sound.formed.base;
    each = sound.formed.each;
  };
  has_walk = sound.has_walk;
  held = sound.held;
  start_low = sound.start_low;
}

module _ (d : JournaledDisk) (block : ℕ) (bytes tag : List ℕ) (next : IsNextEntry d block (entry_of d.geometry block bytes tag)) where
  abbrev entry : Entry
  entry = entry_of d.geometry block bytes tag

  -- Some sectors of its block are written.
  data_stands : (tags : ℕ → List ℕ) (start c : Content) → KeepsCells d tags start → AddsSome (data_at d.geometry block) bytes start c → StandsFor (after_place d) c
  data_stands tags start c keeps some =
      placing_law d block entry tags start c keeps.stands next keeps.tags_are
      (OnlyAdds-wider (IsOfRun (data_at d.geometry block) bytes) (IsOfCell d.geometry block (cell_of entry) tags) (λ s x of. inl of) start c
      (AddsSome-adds (data_at d.geometry block) bytes start c some))

  -- All of them are, and its tag is put.
  put_stands : (tags : ℕ → List ℕ) (start c : Content) → KeepsCells d tags start → OnlyAdds (IsOfTags d.geometry tags (with_block_tag block tag tags)) (with_run (data_at d.geometry block) bytes start) c
      → StandsFor (after_place d) c
  put_stands tags start c keeps adds =
      let W : ℕ → List ℕ → Type 0 = IsOfCell d.geometry block (cell_of entry) tags in
      let written = with_run (data_at d.geometry block) bytes start in
      placing_law d block entry tags start c keeps.stands next keeps.tags_are
      (OnlyAdds-join W start written c
      (OnlyAdds-wider (IsOfRun (data_at d.geometry block) bytes) W (λ s x of. inl of) start written (AddsSome-adds (data_at d.geometry block) bytes start written (AddsSome-all (data_at d.geometry block) bytes start)))
      (OnlyAdds-wider (IsOfTags d.geometry tags (with_block_tag block tag tags)) W (λ s x of. inr of) written c adds))

  data_moments : (tags : Content → ℕ → List ℕ) {a b : List Content} → KeepsNow d tags a → EachSince (AddsSome (data_at d.geometry block) bytes) a b → EachMoment a b (StandsFor (after_place d))
  data_moments tags keeps m = each_from (AddsSome (data_at d.geometry block) bytes) (StandsFor (after_place d)) (λ start told c some. data_stands (tags start) start c (keeps start told) some) m

  -- What stands before the put.
  before_put : (tags : Content → ℕ → List ℕ) (a m : List Content) → KeepsNow d tags a → IsChangedBy (with_run (data_at d.geometry block) bytes) a m → GivesTags d.geometry tags tags a m
      → (middle : Content) → content_now m ≡ Some middle → (start : Content) × KeepsCells d (tags middle) start × (middle ≡ with_run (data_at d.geometry block) bytes start)
  before_put tags a m keeps written gives middle told =
      let first = changed_now (with_run (data_at d.geometry block) bytes) (content_now a) (content_now m) written middle told in
      (first.0, keeps_same d (tags first.0) (tags middle) first.0 (gives first.0 first.1 middle told) (keeps first.0 first.1), first.2)

  put_moments : (tags : Content → ℕ → List ℕ) (a m b : List Content) → KeepsNow d tags a → IsChangedBy (with_run (data_at d.geometry block) bytes) a m → GivesTags d.geometry tags tags a m
      → AddsTags d.geometry tags (λ c. with_block_tag block tag (tags c)) m b → EachMoment m b (StandsFor (after_place d))
  put_moments tags a m b keeps written gives adds =
      each_from (λ middle. OnlyAdds (IsOfTags d.geometry (tags middle) (with_block_tag block tag (tags middle))) middle) (StandsFor (after_place d))
      (λ middle told c added.
      let first = before_put tags a m keeps written gives middle told in
      put_stands (tags middle) first.0 c first.1
      (subst (λ (x : Content). OnlyAdds (IsOfTags d.geometry (tags middle) (with_block_tag block tag (tags middle))) x c) first.2 added)) adds

  put_keeps : (tags now : Content → ℕ → List ℕ) (a m b : List Content) → KeepsNow d tags a → IsChangedBy (with_run (data_at d.geometry block) bytes) a m → GivesTags d.geometry tags tags a m
      → AddsTags d.geometry tags (λ c. with_block_tag block tag (tags c)) m b → KeepsOthersNow d.geometry m b → GivesTags d.geometry (λ c. with_block_tag block tag (tags c)) now m b
      → KeepsNow (after_place d) now b
  put_keeps tags now a m b keeps written gives adds others put c told =
      let P : Content → Content → Type 0 = λ middle. OnlyAdds (IsOfTags d.geometry (tags middle) (with_block_tag block tag (tags middle))) middle in
      let end = (told_at_end P (λ x. OnlyAdds-none (IsOfTags d.geometry (tags x) (with_block_tag block tag (tags x))) x) adds).each c told in
      let middle = end.0 in
      let first = before_put tags a m keeps written gives middle end.1 in
      keeps_same (after_place d) (with_block_tag block tag (tags middle)) (now c) c (put middle end.1 c told)
      (keeps_placed d block entry (tags middle) first.0 c first.1 next
      (subst (λ (x : Content). OnlyAdds (IsOfTags d.geometry (tags middle) (with_block_tag block tag (tags middle))) x c) first.2 end.2)
      (subst (λ (x : Content). KeepsOthers d.geometry x c) first.2 (others middle end.1 c told)))

-- ---- the tags are written back, and all is synced

module _ (d : JournaledDisk) (tags : Content → ℕ → List ℕ) where
  back_moments : {a b : List Content} → KeepsNow d tags a → AddsTags d.geometry tags tags a b → EachMoment a b (StandsFor d)
  back_moments keeps adds =
      each_from (λ start. OnlyAdds (IsOfTags d.geometry (tags start) (tags start)) start) (StandsFor d)
      (λ start told c added. writing_back_law d (tags start) start c (keeps start told).stands (keeps start told).tags_are added) adds

  back_keeps : (now : Content → ℕ → List ℕ) {a b : List Content} → KeepsNow d tags a → AddsTags d.geometry tags tags a b → KeepsOthersNow d.geometry a b → GivesTags d.geometry tags now a b → KeepsNow d now b
  back_keeps now keeps adds others gives c told =
      let P : Content → Content → Type 0 = λ start. OnlyAdds (IsOfTags d.geometry (tags start) (tags start)) start in
      let end = (told_at_end P (λ x. OnlyAdds-none (IsOfTags d.geometry (tags x) (tags x)) x) adds).each c told in
      keeps_same d (tags end.0) (now c) c (gives end.0 end.1 c told)
      (keeps_back d (tags end.0) end.0 c (keeps end.0 end.1) end.2 (others end.0 end.1 c told))

  sync_moments : {a b : List Content} → KeepsNow d tags a → ReadsImage a → EachSince (λ start c. c ≡ newest_only start) a b → EachMoment a b (StandsFor d)
  sync_moments keeps image m =
      each_from (λ start c. c ≡ newest_only start) (StandsFor d)
      (λ start told c is. subst (StandsFor d) (sym is) (record {
        sound = (keeps start told).stands.sound;
        each = λ sector x has. (keeps start told).stands.each sector x (subst (Contains (start sector)) (sym (only_candidate (last_image start sector) x has)) (image start told sector));
      })) m

  sync_keeps : (now : Content → ℕ → List ℕ) (a b : List Content) → KeepsNow d tags a → ReadsImage a → ReadsTagsNow d.geometry tags a → IsChangedBy newest_only a b → GivesTags d.geometry tags now a b
      → KeepsNow (after_settle d) now b
  sync_keeps now a b keeps image reads synced gives c told =
      let first = changed_now newest_only (content_now a) (content_now b) synced c told in
      let start = first.0 in
      subst (KeepsCells (after_settle d) (now c)) (sym first.2)
      (keeps_same (after_settle d) (tags start) (now c) (newest_only start) (gives start first.1 c told)
      (keeps_settled d (tags start) start (keeps start first.1) (image start first.1) (reads start first.1)))

-- ---- the tags that a store gives

-- It gives the same where nothing is done.
pub gives_still : (g : Geometry) (tags : Content → ℕ → List ℕ) (a : List Content) → GivesTags g tags tags a a
gives_still g tags a start told_start c told_c n low = ap (λ (x : Content). tags x n) (same_Some c start (sym told_c ∙ told_start))

-- The bytes of a block are written, and then a tag is put.
pub gives_put : (g : Geometry) (block : ℕ) (tag : List ℕ) (tags now : Content → ℕ → List ℕ) (a m b : List Content) → GivesTags g tags tags a m → PutsTag g block tag tags now m b
    → GivesTags g (λ c. with_block_tag block tag (tags c)) now a b
gives_put g block tag tags now a m b first puts start told_start c told_c n low =
    let P : Content → Content → Type 0 = λ x. OnlyAdds (IsOfTags g (tags x) (with_block_tag block tag (tags x))) x in
    let middle = (told_at_end P (λ x. OnlyAdds-none (IsOfTags g (tags x) (with_block_tag block tag (tags x))) x) puts.adds).each c told_c in
    puts.gives middle.0 middle.1 c told_c n low
    ∙ ap (λ (old : List ℕ). if block == n then tag else old) (first start told_start middle.0 middle.1 n low)

-- Tags are written back, and all is synced.
pub gives_flushed : (g : Geometry) (tags mid : Content → ℕ → List ℕ) (a m b : List Content) → GivesTags g tags mid a m → IsChangedBy newest_only m b → GivesTags g mid mid m b → GivesTags g tags mid a b
gives_flushed g tags mid a m b first synced second start told_start c told_c n low =
    let middle = changed_now newest_only (content_now m) (content_now b) synced c told_c in
    second middle.0 middle.1 c told_c n low ∙ first start told_start middle.0 middle.1 n low

-- ---- the same with a store

-- After all that is placed is settled.
settled_sound : (d : JournaledDisk) → IsSound d → IsSound (after_settle d)
settled_sound d sound = record {
  formed = record {
    has_geometry = sound.formed.has_geometry;
    is_geometry = sound.formed.is_geometry;
    no_bitmap = sound.formed.no_bitmap;
    settled_low = omega arith;
    placed_low = sound.formed.placed_low;
    base = sound.formed.base;
    each = sound.formed.each;
  };
  has_walk = sound.has_walk;
  held = sound.held;
  start_low = omega (arith, sound.start_low, sound.formed.settled_low);
}

module _ (d : JournaledDisk) (store : Store) where
  -- While tags are written back,
  pub back_in : {a b : List Content} → HasCells d store a → AddsTags store.geometry (given_tags store) (given_tags store) a b → EachMoment a b (StandsFor d)
  back_in {a} {b} has adds =
      back_moments d (given_tags store) has.now
      (subst (λ (y : Geometry). AddsTags y (given_tags store) (given_tags store) a b) (sym has.geometry) adds)

  -- and after it,
  pub written_in : (new : Store) {a b : List Content} → HasCells d store a → WritesBack store.geometry (given_tags store) (given_tags new) a b → new.geometry ≡ store.geometry → HasCells d new b
  written_in new {a} {b} has writes same = record {
    sound = has.sound;
    geometry = has.geometry ∙ sym same;
    now =
        let there = subst (λ (y : Geometry). WritesBack y (given_tags store) (given_tags new) a b) (sym has.geometry) writes in
        back_keeps d (given_tags store) (given_tags new) has.now there.adds there.others there.gives;
  }

  -- while all is synced,
  pub sync_in : {a b : List Content} → HasCells d store a → ReadsImage a → EachSince (λ start c. c ≡ newest_only start) a b → EachMoment a b (StandsFor d)
  sync_in has image m = sync_moments d (given_tags store) has.now image m

  -- and after it.
  pub settled_in : {a b : List Content} → HasCells d store a → ReadsImage a → ReadsTagsNow store.geometry (given_tags store) a → IsChangedBy newest_only a b
      → GivesTags store.geometry (given_tags store) (given_tags store) a b → HasCells (after_settle d) store b
  settled_in {a} {b} has image reads synced gives = record {
    sound = settled_sound d has.sound;
    geometry = has.geometry;
    now =
        sync_keeps d (given_tags store) (given_tags store) a b has.now image
        (subst (λ (y : Geometry). ReadsTagsNow y (given_tags store) a) (sym has.geometry) reads) synced
        (subst (λ (y : Geometry). GivesTags y (given_tags store) (given_tags store) a b) (sym has.geometry) gives);
  }

  module _ (block : ℕ) (bytes tag : List ℕ) (next : IsNextEntry d block (entry_of store.geometry block bytes tag)) where
    next_in : d.geometry ≡ store.geometry → IsNextEntry d block (entry_of d.geometry block bytes tag)
    next_in e = subst (λ (y : Geometry). IsNextEntry d block (entry_of y block bytes tag)) (sym e) next

    -- While the bytes of an entry are written,
    pub data_in : {a b : List Content} → HasCells d store a → EachSince (AddsSome (data_at store.geometry block) bytes) a b → EachMoment a b (StandsFor (after_place d))
    data_in {a} {b} has m =
        data_moments d block bytes tag (next_in has.geometry) (given_tags store) has.now
        (subst (λ (y : Geometry). EachSince (AddsSome (data_at y block) bytes) a b) (sym has.geometry) m)

    -- while its tag is put,
    pub put_in : {a m b : List Content} → HasCells d store a → IsChangedBy (with_run (data_at store.geometry block) bytes) a m → GivesTags store.geometry (given_tags store) (given_tags store) a m
        → AddsTags store.geometry (given_tags store) (λ c. with_block_tag block tag (given_tags store c)) m b → EachMoment m b (StandsFor (after_place d))
    put_in {a} {m} {b} has written gives adds =
        put_moments d block bytes tag (next_in has.geometry) (given_tags store) a m b has.now
        (subst (λ (y : Geometry). IsChangedBy (with_run (data_at y block) bytes) a m) (sym has.geometry) written)
        (subst (λ (y : Geometry). GivesTags y (given_tags store) (given_tags store) a m) (sym has.geometry) gives)
        (subst (λ (y : Geometry). AddsTags y (given_tags store) (λ c. with_block_tag block tag (given_tags store c)) m b) (sym has.geometry) adds)

    -- and after it.
    pub placed_by : (new : Store) {a m b : List Content} → HasCells d store a → IsChangedBy (with_run (data_at store.geometry block) bytes) a m → GivesTags store.geometry (given_tags store) (given_tags store) a m
        → PutsTag store.geometry block tag (given_tags store) (given_tags new) m b → new.geometry ≡ store.geometry → HasCells (after_place d) new b
    placed_by new {a} {m} {b} has written gives puts same = record {
      sound = placed_sound d (entry_of store.geometry block bytes tag) block next has.sound;
      geometry = has.geometry ∙ sym same;
      now =
          let there = subst (λ (y : Geometry). PutsTag y block tag (given_tags store) (given_tags new) m b) (sym has.geometry) puts in
          put_keeps d block bytes tag (next_in has.geometry) (given_tags store) (given_tags new) a m b has.now
          (subst (λ (y : Geometry). IsChangedBy (with_run (data_at y block) bytes) a m) (sym has.geometry) written)
          (subst (λ (y : Geometry). GivesTags y (given_tags store) (given_tags store) a m) (sym has.geometry) gives)
          there.adds there.others there.gives;
    }
