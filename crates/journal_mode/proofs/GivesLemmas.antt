-- Which tags a store gives after a call of the journal, as those of the cells that are placed.
use Rattle.std.proofs.Common.{◌≡◌, inl, ℕ, ◌*◌, ◌/◌, ◌<◌, refl, sym, ◌∙◌, ap, subst, arith, Option, Some, None, List, length, slice_get}
use Rattle.std.proofs.lemmas.Nat.{div-add-mod'}
use Rattle.std.proofs.lemmas.Option.{same_Some, slice_get_past}
use Rattle.disk_model.specs.Disk.{Content, OnlyAdds, newest_only, with_run}
use Rattle.disk_model.specs.Moments.{EachSince, IsChangedBy, content_now}
use Rattle.disk_model.proofs.DiskLemmas.{OnlyAdds-none}
use Rattle.image_model.specs.Cells.{salt_of}
use Rattle.image_model.specs.Geometry.{Geometry, section_at}
use Rattle.image_model.specs.Section.{Entry}
use Rattle.place_model.specs.Tags.{with_block_tag}
use Rattle.place_model.proofs.EachLemmas.{all_get}
use Rattle.buffer_cache.proofs.CachedLemmas.{changed_now, told_at_end}
use Rattle.journal_laws.specs.Device.{block_of}
use Rattle.direct_laws.specs.CallLaws.{GivesTags}
use Rattle.journal_model.specs.Entries.{IsBlockEntry}
use Rattle.journal_model.specs.JournaledDisk.{IsFormed, JournaledDisk, cell_at}
use Rattle.journal_model.specs.Ring.{JournalRing, entries_of, next_batch}
use Rattle.journal_model.specs.Steps.{IsNextEntry, after_commit, after_place, after_settle}
use Rattle.journal_ring.proofs.PlacesLemmas.{used_there}
use Rattle.recalculate_laws.proofs.PlacingLemmas.{places_none_law, places_one_law, places_then_law, same_cells_law}
use Rattle.replay.specs.Moves.{GivesEntry, GivesNext, IsPlacedOn, WritesEntry, WritesNext}
use Rattle.replay.specs.Placement.{placed_in}
use Rattle.replay.specs.DeclaredPlacement.{Placement}
use Rattle.replay.proofs.PlacedOnLemmas.{next_on}
use Rattle.tag_store.specs.Store.{Store, given_tags}
use Rattle.journal_mode.specs.Standing.{TagsPlaced}

-- ---- what is told

-- A disk that tells its content at the end of a call told it at the start.
abbrev pub IsTold : (before after : List Content) → Type 0
IsTold before after = (c : Content) → content_now after ≡ Some c → (start : Content) × (content_now before ≡ Some start)

pub told_adds : (W : ℕ → List ℕ → Type 0) (a b : List Content) → EachSince (OnlyAdds W) a b → IsTold a b
told_adds W a b adds c told = let first = (told_at_end (OnlyAdds W) (λ x. OnlyAdds-none W x) adds).each c told in (first.0, first.1)

pub told_changed : (f : Content → Content) (a b : List Content) → IsChangedBy f a b → IsTold a b
told_changed f a b changed c told = let first = changed_now f (content_now a) (content_now b) changed c told in (first.0, first.1)

pub told_same : (a b : List Content) → b ≡ a → IsTold a b
told_same a b same c told = (c, ap content_now (sym same) ∙ told)

pub told_next : (p : Placement) (ring : JournalRing) (a b : List Content) → WritesNext p ring a b → IsTold a b
told_next p ring a b = by (slice_get (entries_of ring.committed) (placed_in p ring))
  where
    by : (next : Option Entry) → WritesEntry ring.geometry next a b → IsTold a b
    by (Some entry) adds = told_adds _ a b adds
    by None same = told_same a b same

-- ---- call by call

module _ (d : JournaledDisk) where
  -- Nothing is done,
  pub tags_same : (store : Store) (a : List Content) → TagsPlaced d d store store a a
  tags_same store a = record {
    each = λ start told_start c told_c n low. inl (ap (λ (x : Content). given_tags store x n) (same_Some c start (sym told_c ∙ told_start)), refl);
    told = λ c told. (c, told);
  }

  -- or what is placed stays, as in a read and a settle,
  pub tags_kept : (then_ : JournaledDisk) (old new : Store) (a b : List Content) → d.geometry ≡ old.geometry → ((n : ℕ) → n < d.geometry.blocks → cell_at then_ then_.placed n ≡ cell_at d d.placed n)
      → IsTold a b → GivesTags old.geometry (given_tags old) (given_tags new) a b → TagsPlaced d then_ old new a b
  tags_kept then_ old new a b same cells told gives =
      places_none_law d then_ (given_tags old) (given_tags new) a b cells told
      (subst (λ (g : Geometry). GivesTags g (given_tags old) (given_tags new) a b) (sym same) gives)

  pub tags_settled : (old new : Store) (a b : List Content) → d.geometry ≡ old.geometry → IsTold a b → GivesTags old.geometry (given_tags old) (given_tags new) a b
      → TagsPlaced d (after_settle d) old new a b
  tags_settled old new a b same told gives = tags_kept (after_settle d) old new a b same (λ n low. refl) told gives

  -- and so it does in a commit.
  pub tags_committed : (batch : ℕ) (bytes : List ℕ) (store : Store) (a b : List Content) → IsFormed d → d.geometry ≡ store.geometry → IsTold a b
      → GivesTags store.geometry (given_tags store) (given_tags store) a b → TagsPlaced d (after_commit d batch bytes) store store a b
  tags_committed batch bytes store a b formed same told gives =
      tags_kept (after_commit d batch bytes) store store a b same (λ n low. (same_cells_law d batch bytes n formed).0) told gives

  -- The next entry of the ring is that of the disk, with its tag.
  module _ (p : Placement) (ring : JournalRing) (old new : Store) (a b : List Content) (on : IsPlacedOn d p ring old a) where
    is_next : (entry : Entry) → slice_get (entries_of ring.committed) (placed_in p ring) ≡ Some entry → IsNextEntry d (block_of d.geometry entry) entry
    is_next entry told =
        let there = next_on d p ring old on entry told in
        let formed = on.cells.sound.formed in
        let whole = (all_get (IsBlockEntry d.key (salt_of d.superblock) d.geometry) d.entries d.placed entry formed.each there).replayable.whole in
        record { next = there; sector = omega (arith, div-add-mod' entry.sector d.geometry.shape.spb, whole) }

    pub tags_placed : ring.geometry ≡ old.geometry → placed_in p ring < length (entries_of ring.committed) → IsTold a b → GivesNext p ring old new a b → TagsPlaced d (after_place d) old new a b
    tags_placed same more told gives =
        let found = used_there (entries_of ring.committed) (placed_in p ring) more in
        let entry = found.0 in
        let of_entry : GivesEntry ring.geometry (Some entry) old new a b = subst (λ (next : Option Entry). GivesEntry ring.geometry next old new a b) found.1 gives in
        places_one_law d (block_of d.geometry entry) entry (given_tags old) (given_tags new) a b on.cells.sound.formed (is_next entry found.1) told
        (subst (λ (g : Geometry). GivesTags g (λ c. with_block_tag (block_of g entry) entry.tag (given_tags old c)) (given_tags new) a b) (same ∙ sym on.cells.geometry) of_entry)

    pub tags_idle : ring.geometry ≡ old.geometry → placed_in p ring ≡ length (entries_of ring.committed) → IsTold a b → GivesNext p ring old new a b → TagsPlaced d d old new a b
    tags_idle same all told gives =
        tags_kept d old new a b on.cells.geometry (λ n low. refl) told
        (subst (λ (g : Geometry). GivesTags g (given_tags old) (given_tags new) a b) same
        (subst (λ (next : Option Entry). GivesEntry ring.geometry next old new a b) (slice_get_past (entries_of ring.committed) (placed_in p ring) (omega (arith, all))) gives))

-- Calls in a row.
pub tags_then : (d mid then_ : JournaledDisk) (old put new : Store) (a m b : List Content) → mid.format ≡ d.format → TagsPlaced d mid old put a m → TagsPlaced mid then_ put new m b → TagsPlaced d then_ old new a b
tags_then d mid then_ old put new a m b same first second = places_then_law d mid then_ (given_tags old) (given_tags put) (given_tags new) a m b same first second
