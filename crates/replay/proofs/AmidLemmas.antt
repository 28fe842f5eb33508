-- A disk while data and tags of blocks come to their places, one after the other.
use Rattle.std.proofs.Common.{◌≡◌, inl, inr, ⊎_elim, ℕ, ◌+◌, ◌-◌, ◌*◌, ◌<◌, Bool, false, refl, sym, ◌∙◌, ap, subst, arith, List, length}
use Rattle.std.proofs.lemmas.Bool.{cases_eq, eq-eqb, ne_eqb}
use Rattle.disk_model.specs.Disk.{AddsSome, Content, IsOfRun, OnlyAdds, Reads, last_image, sector_in, with_run}
use Rattle.disk_model.specs.Moments.{EachMoment, EachSince, HasNow, IsChangedBy, content_now}
use Rattle.disk_model.proofs.DiskLemmas.{AddsSome-adds, AddsSome-all, OnlyAdds-none, last_image-with_run, last_image-with_run_out}
use Rattle.disk_model.proofs.MomentsLemmas.{EachMoment-then}
use Rattle.image_model.specs.Bitmap.{is_to_recalculate}
use Rattle.image_model.specs.Geometry.{Geometry, data_at}
use Rattle.place_model.specs.Tags.{IsOfTags, KeepsOthers, with_block_tag}
use Rattle.place_model.proofs.BlocksLemmas.{KeepsOthers-data}
use Rattle.place_model.proofs.TagsLemmas.{data_once}
use Rattle.buffer_cache.proofs.CachedLemmas.{changed_now, told_at_end}
use Rattle.direct_laws.specs.CallLaws.{AddsTags, GivesTags}
use Rattle.direct_laws.specs.ServeLaws.{PutsTag, WritesBack}
use Rattle.journal_model.specs.JournaledDisk.{ForSomePlaced, JournaledDisk, StandsFor, cell_at}
use Rattle.journal_model.proofs.StepLemmas.{MayStand-data, MayStand-tags}
use Rattle.place_writer.proofs.WritingLemmas.{each_from}
use Rattle.tag_store.specs.Store.{Store, given_tags}
use Rattle.replay.specs.Replaying.{HasAmid, IsAmid, all_placed, last_cell, without}

-- Of the blocks without one the others are as they were.
without-here : (block b : ℕ) (ahead : ℕ → Bool) → block ≡ b → without block ahead b ≡ false
without-here block b ahead same = rw (eq-eqb block b same) refl

without-other : (block b : ℕ) (ahead : ℕ → Bool) → (block ≡ b → ⊥) → without block ahead b ≡ ahead b
without-other block b ahead other = rw (ne_eqb block b other) refl

module _ (d : JournaledDisk) (data_ahead tag_ahead : ℕ → Bool) where
  -- Tags that are told alike are as good.
  pub amid_same : (tags now : ℕ → List ℕ) (c : Content) → ((b : ℕ) → b < d.geometry.blocks → now b ≡ tags b) → IsAmid d data_ahead tag_ahead tags c → IsAmid d data_ahead tag_ahead now c
  amid_same tags now c same is = record {
    stands = is.stands;
    reads = is.reads;
    tags_are = λ b low rests. let p = is.tags_are b low rests in (p.0, p.1, p.2, same b low ∙ p.3);
    tags_last = λ b low rests clear. same b low ∙ is.tags_last b low rests clear;
  }

  -- ---- the data of a block

  module _ (block : ℕ) (bytes : List ℕ) (low : block < d.geometry.blocks) (size : length bytes ≡ 512 * d.geometry.shape.spb) (last : (last_cell d block).bytes ≡ bytes) where
    data_stands : (tags : ℕ → List ℕ) (start c : Content) → IsAmid d data_ahead tag_ahead tags start → OnlyAdds (IsOfRun (data_at d.geometry block) bytes) start c → StandsFor (all_placed d) c
    data_stands tags start c is adds =
        let settled = is.stands.sound.formed.settled_low in
        record {
          sound = is.stands.sound;
          each = λ sector x has. ⊎_elim (is.stands.each sector x)
              (MayStand-data (all_placed d) block bytes sector x is.stands.sound.formed low size (length d.entries, settled, omega arith, sym last))
              (adds.among sector x has);
        }

    -- Where they are read already they are in place,
    pub data_read : (tags : ℕ → List ℕ) (c : Content) → IsAmid d data_ahead tag_ahead tags c → Reads (data_at d.geometry block) bytes c → IsAmid d (without block data_ahead) tag_ahead tags c
    data_read tags c is reads = record {
      stands = is.stands;
      reads = λ b k b_low k_low clear. elim (cases_eq block b) [
        | inl same ↦
            ap (λ (n : ℕ). last_image c (data_at d.geometry n + k)) (sym same)
            ∙ sym (reads k (omega (arith, size)))
            ∙ ap (λ (xs : List ℕ). sector_in xs k) (sym last)
            ∙ ap (λ (n : ℕ). sector_in (last_cell d n).bytes k) same
        | inr other ↦ is.reads b k b_low k_low (sym (without-other block b data_ahead other) ∙ clear)
      ];
      tags_are = is.tags_are;
      tags_last = is.tags_last;
    }

    -- and so they are once they are written.
    pub data_written : (tags : ℕ → List ℕ) (start : Content) → IsAmid d data_ahead tag_ahead tags start → IsAmid d (without block data_ahead) tag_ahead tags (with_run (data_at d.geometry block) bytes start)
    data_written tags start is =
        let g = d.geometry in
        let written = with_run (data_at g block) bytes start in
        record {
          stands = data_stands tags start written is (AddsSome-adds (data_at g block) bytes start written (AddsSome-all (data_at g block) bytes start));
          reads = λ b k b_low k_low clear. elim (cases_eq block b) [
            | inl same ↦
                let there : data_at g block ≡ data_at g b = ap (data_at g) same in
                let place : data_at g b + k - data_at g block ≡ k = omega arith in
                last_image-with_run (data_at g block) bytes start (data_at g b + k) (omega arith) (omega (arith, size))
                ∙ ap (sector_in bytes) place
                ∙ ap (λ (xs : List ℕ). sector_in xs k) (sym last)
                ∙ ap (λ (n : ℕ). sector_in (last_cell d n).bytes k) same
            | inr other ↦
                last_image-with_run_out (data_at g block) bytes start (data_at g b + k) (λ above under.
                let place : data_at g block + (data_at g b + k - data_at g block) ≡ data_at g b + k = omega arith in
                other (data_once g d.sectors block b (data_at g b + k - data_at g block) k is.stands.sound.formed.is_geometry (omega (arith, size)) k_low place).0)
                ∙ is.reads b k b_low k_low (sym (without-other block b data_ahead other) ∙ clear)
          ];
          tags_are = is.tags_are;
          tags_last = is.tags_last;
        }

    -- The same with a store: at each moment,
    pub data_moments : (store : Store) {a b : List Content} → HasAmid d data_ahead tag_ahead store a → EachSince (AddsSome (data_at d.geometry block) bytes) a b → EachMoment a b (StandsFor (all_placed d))
    data_moments store has m =
        each_from (AddsSome (data_at d.geometry block) bytes) (StandsFor (all_placed d))
        (λ start told c some. data_stands (given_tags store start) start c (has.now start told) (AddsSome-adds (data_at d.geometry block) bytes start c some)) m

    -- where they are read,
    pub data_there : (store : Store) (moments : List Content) → HasAmid d data_ahead tag_ahead store moments → HasNow (Reads (data_at d.geometry block) bytes) moments → HasAmid d (without block data_ahead) tag_ahead store moments
    data_there store moments has reads = record {
      sound = has.sound;
      geometry = has.geometry;
      now = λ c told. data_read (given_tags store c) c (has.now c told) (reads c told);
    }

    -- and where they are written.
    pub data_done : (store : Store) (a b : List Content) → HasAmid d data_ahead tag_ahead store a → IsChangedBy (with_run (data_at d.geometry block) bytes) a b
        → GivesTags d.geometry (given_tags store) (given_tags store) a b → HasAmid d (without block data_ahead) tag_ahead store b
    data_done store a b has written gives = record {
      sound = has.sound;
      geometry = has.geometry;
      now = λ c told.
          let first = changed_now (with_run (data_at d.geometry block) bytes) (content_now a) (content_now b) written c told in
          let done = data_written (given_tags store first.0) first.0 (has.now first.0 first.1) in
          let there = subst (IsAmid d (without block data_ahead) tag_ahead (given_tags store first.0)) (sym first.2) done in
          record {
            stands = there.stands;
            reads = there.reads;
            tags_are = λ e e_low rests. let p = there.tags_are e e_low rests in (p.0, p.1, p.2, gives first.0 first.1 c told e e_low ∙ p.3);
            tags_last = λ e e_low rests clear. gives first.0 first.1 c told e e_low ∙ there.tags_last e e_low rests clear;
          };
    }

  -- ---- tags

  -- New tags, of which each is one after some number of entries.
  abbrev AreSome : (ℕ → List ℕ) → Type 0
  AreSome tags = (b : ℕ) → b < d.geometry.blocks → is_to_recalculate d.superblock d.geometry b ≡ false → ForSomePlaced (all_placed d) (λ count. tags b ≡ (cell_at d count b).tag)

  tags_stand : (tags new : ℕ → List ℕ) (start c : Content) → IsAmid d data_ahead tag_ahead tags start → AreSome new → OnlyAdds (IsOfTags d.geometry tags new) start c → StandsFor (all_placed d) c
  tags_stand tags new start c is some adds = record {
    sound = is.stands.sound;
    each = λ sector x has. ⊎_elim (is.stands.each sector x)
        (MayStand-tags (all_placed d) tags new sector x is.stands.sound.formed is.tags_are some)
        (adds.among sector x has);
  }

  tags_done : (tags new now : ℕ → List ℕ) (ahead : ℕ → Bool) (start c : Content) → IsAmid d data_ahead tag_ahead tags start → AreSome new
      → ((b : ℕ) → b < d.geometry.blocks → is_to_recalculate d.superblock d.geometry b ≡ false → ahead b ≡ false → new b ≡ (last_cell d b).tag)
      → OnlyAdds (IsOfTags d.geometry tags new) start c → KeepsOthers d.geometry start c → ((b : ℕ) → b < d.geometry.blocks → now b ≡ new b) → IsAmid d data_ahead ahead now c
  tags_done tags new now ahead start c is some last adds others gives = record {
    stands = tags_stand tags new start c is some adds;
    reads = λ b k b_low k_low clear.
        KeepsOthers-data d.geometry d.sectors start c is.stands.sound.formed.is_geometry others b k b_low k_low ∙ is.reads b k b_low k_low clear;
    tags_are = λ b b_low rests. let p = some b b_low rests in (p.0, p.1, p.2, gives b b_low ∙ p.3);
    tags_last = λ b b_low rests clear. gives b b_low ∙ last b b_low rests clear;
  }

  -- A tag is got: at each moment,
  pub got_moments : (store : Store) {a b : List Content} → HasAmid d data_ahead tag_ahead store a → AddsTags d.geometry (given_tags store) (given_tags store) a b → EachMoment a b (StandsFor (all_placed d))
  got_moments store has adds =
      each_from (λ start. OnlyAdds (IsOfTags d.geometry (given_tags store start) (given_tags store start)) start) (StandsFor (all_placed d))
      (λ start told c added. tags_stand (given_tags store start) (given_tags store start) start c (has.now start told) (has.now start told).tags_are added) adds

  -- and then.
  pub got_done : (store new : Store) (a b : List Content) → HasAmid d data_ahead tag_ahead store a → WritesBack d.geometry (given_tags store) (given_tags new) a b → new.geometry ≡ store.geometry
      → HasAmid d data_ahead tag_ahead new b
  got_done store new a b has got same = record {
    sound = has.sound;
    geometry = has.geometry ∙ sym same;
    now = λ c told.
        let P : Content → Content → Type 0 = λ start. OnlyAdds (IsOfTags d.geometry (given_tags store start) (given_tags store start)) start in
        let first = (told_at_end P (λ x. OnlyAdds-none (IsOfTags d.geometry (given_tags store x) (given_tags store x)) x) got.adds).each c told in
        let is = has.now first.0 first.1 in
        tags_done (given_tags store first.0) (given_tags store first.0) (given_tags new c) tag_ahead first.0 c is is.tags_are is.tags_last first.2
        (got.others first.0 first.1 c told) (got.gives first.0 first.1 c told);
  }

  module _ (block : ℕ) (tag : List ℕ) (last : (last_cell d block).tag ≡ tag) where
    put_some : (tags : ℕ → List ℕ) (c : Content) → IsAmid d data_ahead tag_ahead tags c → AreSome (with_block_tag block tag tags)
    put_some tags c is b b_low rests = elim (cases_eq block b) [
      | inl same ↦
          let settled = is.stands.sound.formed.settled_low in (
            length d.entries,
            settled,
            omega arith,
            rw (eq-eqb block b same) (sym last ∙ ap (λ (n : ℕ). (last_cell d n).tag) same),
          )
      | inr other ↦ let p = is.tags_are b b_low rests in (p.0, p.1, p.2, rw (ne_eqb block b other) p.3)
    ]

    put_last : (tags : ℕ → List ℕ) (c : Content) → IsAmid d data_ahead tag_ahead tags c → (b : ℕ) → b < d.geometry.blocks → is_to_recalculate d.superblock d.geometry b ≡ false
        → without block tag_ahead b ≡ false → with_block_tag block tag tags b ≡ (last_cell d b).tag
    put_last tags c is b b_low rests clear = elim (cases_eq block b) [
      | inl same ↦ rw (eq-eqb block b same) (sym last ∙ ap (λ (n : ℕ). (last_cell d n).tag) same)
      | inr other ↦ rw (ne_eqb block b other) (is.tags_last b b_low rests (sym (without-other block b tag_ahead other) ∙ clear))
    ]

    -- A block's tag is put: at each moment,
    pub put_moments : (store : Store) {a b : List Content} → HasAmid d data_ahead tag_ahead store a → AddsTags d.geometry (given_tags store) (λ c. with_block_tag block tag (given_tags store c)) a b
        → EachMoment a b (StandsFor (all_placed d))
    put_moments store has adds =
        each_from (λ start. OnlyAdds (IsOfTags d.geometry (given_tags store start) (with_block_tag block tag (given_tags store start))) start) (StandsFor (all_placed d))
        (λ start told c added.
        tags_stand (given_tags store start) (with_block_tag block tag (given_tags store start)) start c (has.now start told) (put_some (given_tags store start) start (has.now start told)) added) adds

    -- and then.
    pub put_done : (store new : Store) (a b : List Content) → HasAmid d data_ahead tag_ahead store a → PutsTag d.geometry block tag (given_tags store) (given_tags new) a b → new.geometry ≡ store.geometry
        → HasAmid d data_ahead (without block tag_ahead) new b
    put_done store new a b has put same = record {
      sound = has.sound;
      geometry = has.geometry ∙ sym same;
      now = λ c told.
          let P : Content → Content → Type 0 = λ start. OnlyAdds (IsOfTags d.geometry (given_tags store start) (with_block_tag block tag (given_tags store start))) start in
          let first = (told_at_end P (λ x. OnlyAdds-none (IsOfTags d.geometry (given_tags store x) (with_block_tag block tag (given_tags store x))) x) put.adds).each c told in
          let is = has.now first.0 first.1 in
          tags_done (given_tags store first.0) (with_block_tag block tag (given_tags store first.0)) (given_tags new c) (without block tag_ahead) first.0 c is
          (put_some (given_tags store first.0) first.0 is) (put_last (given_tags store first.0) first.0 is) first.2
          (put.others first.0 first.1 c told) (put.gives first.0 first.1 c told);
    }

    -- Where the store gives it already it is put.
    pub tag_there : (store : Store) (moments : List Content) → HasAmid d data_ahead tag_ahead store moments → HasNow (λ c. given_tags store c block ≡ tag) moments → HasAmid d data_ahead (without block tag_ahead) store moments
    tag_there store moments has given = record {
      sound = has.sound;
      geometry = has.geometry;
      now = λ c told.
          let is = has.now c told in
          record {
            stands = is.stands;
            reads = is.reads;
            tags_are = is.tags_are;
            tags_last = λ b b_low rests clear. elim (cases_eq block b) [
              | inl same ↦
                  ap (given_tags store c) (sym same) ∙ given c told ∙ sym last ∙ ap (λ (n : ℕ). (last_cell d n).tag) same
              | inr other ↦ is.tags_last b b_low rests (sym (without-other block b tag_ahead other) ∙ clear)
            ];
          };
    }

-- ---- by what a call of a store says

module _ (d : JournaledDisk) (data_ahead tag_ahead : ℕ → Bool) (store : Store) (block : ℕ) where
  low_in : d.geometry ≡ store.geometry → block < store.geometry.blocks → block < d.geometry.blocks
  low_in same low = subst (λ (g : Geometry). block < g.blocks) (sym same) low

  module _ (bytes : List ℕ) (low : block < store.geometry.blocks) (size : length bytes ≡ 512 * store.geometry.shape.spb) (last : (last_cell d block).bytes ≡ bytes) where
    size_in : d.geometry ≡ store.geometry → length bytes ≡ 512 * d.geometry.shape.spb
    size_in same = subst (λ (g : Geometry). length bytes ≡ 512 * g.shape.spb) (sym same) size

    -- The data are written,
    pub block_moments : {a b : List Content} → HasAmid d data_ahead tag_ahead store a → EachSince (AddsSome (data_at store.geometry block) bytes) a b → EachMoment a b (StandsFor (all_placed d))
    block_moments {a} {b} has m =
        data_moments d data_ahead tag_ahead block bytes (low_in has.geometry low) (size_in has.geometry) last store has
        (subst (λ (g : Geometry). EachSince (AddsSome (data_at g block) bytes) a b) (sym has.geometry) m)

    pub block_done : (a b : List Content) → HasAmid d data_ahead tag_ahead store a → IsChangedBy (with_run (data_at store.geometry block) bytes) a b
        → GivesTags store.geometry (given_tags store) (given_tags store) a b → HasAmid d (without block data_ahead) tag_ahead store b
    block_done a b has written gives =
        data_done d data_ahead tag_ahead block bytes (low_in has.geometry low) (size_in has.geometry) last store a b has
        (subst (λ (g : Geometry). IsChangedBy (with_run (data_at g block) bytes) a b) (sym has.geometry) written)
        (subst (λ (g : Geometry). GivesTags g (given_tags store) (given_tags store) a b) (sym has.geometry) gives)

    -- or read.
    pub block_there : (a b : List Content) → b ≡ a → HasAmid d data_ahead tag_ahead store a → HasNow (Reads (data_at store.geometry block) bytes) a → HasAmid d (without block data_ahead) tag_ahead store b
    block_there a b kept has reads =
        subst (HasAmid d (without block data_ahead) tag_ahead store) (sym kept)
        (data_there d data_ahead tag_ahead block bytes (low_in has.geometry low) (size_in has.geometry) last store a has
        (subst (λ (g : Geometry). HasNow (Reads (data_at g block) bytes) a) (sym has.geometry) reads))

  module _ (tag : List ℕ) (last : (last_cell d block).tag ≡ tag) (middle : Store) (a m : List Content) (has : HasAmid d data_ahead tag_ahead store a)
      (got : WritesBack store.geometry (given_tags store) (given_tags middle) a m) (same : middle.geometry ≡ store.geometry) where
    got_own : WritesBack d.geometry (given_tags store) (given_tags middle) a m
    got_own = subst (λ (g : Geometry). WritesBack g (given_tags store) (given_tags middle) a m) (sym has.geometry) got

    has_middle : HasAmid d data_ahead tag_ahead middle m
    has_middle = got_done d data_ahead tag_ahead store middle a m has got_own same

    -- The tag is got,
    pub tag_got : EachMoment a m (StandsFor (all_placed d))
    tag_got = got_moments d data_ahead tag_ahead store has got_own.adds

    -- and is the block's already,
    pub tag_same : HasNow (λ c. tag ≡ given_tags store c block) a → block < store.geometry.blocks → HasAmid d data_ahead (without block tag_ahead) middle m
    tag_same given low = tag_there d data_ahead tag_ahead block tag last middle m has_middle (λ c told.
        let P : Content → Content → Type 0 = λ start. OnlyAdds (IsOfTags store.geometry (given_tags store start) (given_tags store start)) start in
        let first = (told_at_end P (λ x. OnlyAdds-none (IsOfTags store.geometry (given_tags store x) (given_tags store x)) x) got.adds).each c told in
        got.gives first.0 first.1 c told block low ∙ sym (given first.0 first.1))

    -- or is put.
    pub tag_moments : {b : List Content} → AddsTags middle.geometry (given_tags middle) (λ c. with_block_tag block tag (given_tags middle c)) m b → EachMoment a b (StandsFor (all_placed d))
    tag_moments {b} adds =
        EachMoment-then tag_got
        (put_moments d data_ahead tag_ahead block tag last middle has_middle
        (subst (λ (g : Geometry). AddsTags g (given_tags middle) (λ c. with_block_tag block tag (given_tags middle c)) m b) (sym has_middle.geometry) adds))

    pub tag_done : (new : Store) (b : List Content) → PutsTag middle.geometry block tag (given_tags middle) (given_tags new) m b → new.geometry ≡ middle.geometry → HasAmid d data_ahead (without block tag_ahead) new b
    tag_done new b put kept =
        put_done d data_ahead tag_ahead block tag last middle new m b has_middle
        (subst (λ (g : Geometry). PutsTag g block tag (given_tags middle) (given_tags new) m b) (sym has_middle.geometry) put) kept
