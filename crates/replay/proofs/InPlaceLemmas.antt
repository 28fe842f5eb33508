-- Entries that are in their places already.
use Rattle.std.proofs.Common.{◌≡◌, ℕ, ◌+◌, ◌*◌, ◌<◌, refl, sym, ◌∙◌, ap, subst, Some, List, length}
use Rattle.disk_model.specs.Disk.{Content, Image, last_image, sector_in}
use Rattle.disk_model.specs.Identity.{DiskIdentity}
use Rattle.disk_model.specs.Moments.{content_now}
use Rattle.image_model.specs.Cells.{Cell, placed_cells_of, replayed_entries}
use Rattle.image_model.specs.Geometry.{Geometry, data_at, tag_at}
use Rattle.image_model.specs.Section.{Entry}
use Rattle.image_model.specs.Sectors.{bytes_at, piece}
use Rattle.image_model.proofs.SectorLemmas.{bytes_at-same, bytes_at_read}
use Rattle.buffer_cache.specs.Cached.{HasNoMark}
use Rattle.buffer_cache.proofs.CachedLemmas.{HasNoMark-kept}
use Rattle.place_model.proofs.PlacedLemmas.{placed_cells_of-bytes}
use Rattle.tag_store.specs.Store.{IsStore, KeepsStore, Store, given, given_tags}
use Rattle.tag_store.proofs.CallerLemmas.{keeps_gives_tags}
use Rattle.replay.specs.Emptied.{IsInPlaceAlready}
use Rattle.replay.specs.Replaying.{AreInPlace, IsStill}

-- ---- what is still

-- Nothing is done,
pub still_none : (store : Store) (moments : List Content) → HasNoMark store.sectors → IsStill store store moments moments
still_none store moments none = record { kept = refl; unmarked = none; same = λ c told b. refl }

-- a call of the store that keeps it,
pub still_kept : (store new : Store) (disk now : DiskIdentity) (a b : List Content) → IsStore store disk a → IsStore new now b → KeepsStore store new a b → b ≡ a → HasNoMark store.sectors → IsStill store new a b
still_kept store new disk now a b is is_new keeps kept none = record {
  kept = kept;
  unmarked = HasNoMark-kept store.sectors new.sectors keeps.sectors none;
  same = λ c told n. keeps_gives_tags store new disk now is is_new keeps c c told (ap content_now kept ∙ told) n;
}

-- another call,
pub still_after : (store new : Store) (a m b : List Content) → m ≡ a → IsStill store new m b → IsStill store new a b
still_after store new a m b kept still = subst (λ (x : List Content). IsStill store new x b) kept still

-- and two in a row.
pub still_then : (store middle new : Store) (a m b : List Content) → IsStill store middle a m → IsStill middle new m b → IsStill store new a b
still_then store middle new a m b first second = record {
  kept = second.kept ∙ first.kept;
  unmarked = second.unmarked;
  same = λ c told n. second.same c (ap content_now first.kept ∙ told) n ∙ first.same c told n;
}

-- ---- what is in place

-- What is read of a block that has these bytes are these.
pub read_there : (g : Geometry) (block : ℕ) (bytes found : List ℕ) (c : Content) → length found ≡ 512 * g.shape.spb → bytes_at (last_image c) (data_at g block) g.shape.spb ≡ bytes
    → ((k : ℕ) → k < g.shape.spb → sector_in found k ≡ last_image c (data_at g block + k)) → found ≡ bytes
read_there g block bytes found c size is reads = bytes_at_read (last_image c) (data_at g block) g.shape.spb found size reads ∙ is

-- Entries in their places are there with tags that are told alike.
pub in_place_still : (g : Geometry) (entries : List Entry) (tags now : ℕ → List ℕ) (c : Content) → ((b : ℕ) → now b ≡ tags b) → AreInPlace g entries tags c → AreInPlace g entries now c
in_place_still g entries tags now c same are = record {
  data_ = are.data_;
  tag_ = λ b entry is. same b ∙ are.tag_ b entry is;
}

-- A tag that no store holds otherwise is that of the disk.
placed_tag-same : (g : Geometry) (one other : Image) (b : ℕ) → ((sector : ℕ) → one sector ≡ other sector) → (placed_cells_of g one b).tag ≡ (placed_cells_of g other b).tag
unfolding placed_cells_of
placed_tag-same g one other b same =
    ap (λ (xs : List ℕ). piece xs (tag_at g b).byte g.shape.tag_size) (bytes_at-same one other (tag_at g b).sector 2 (λ sector low high. same sector))

-- So are those of an image of which this is told.
pub in_place_there : (g : Geometry) (store : Store) (disk : DiskIdentity) (moments : List Content) (start : Content) (entries : List Entry) → g ≡ store.geometry → IsStore store disk moments
    → content_now moments ≡ Some start → HasNoMark store.sectors → replayed_entries g (last_image start) ≡ entries → IsInPlaceAlready g (last_image start) → AreInPlace g entries (given_tags store start) start
in_place_there g store disk moments start entries same is told none entries_are already =
    let agrees = is.cache.agrees start told in
    subst (λ (es : List Entry). AreInPlace g es (given_tags store start) start) entries_are (record {
      data_ = λ b entry last. sym (placed_cells_of-bytes g (last_image start) b) ∙ ap (λ (cell : Cell). cell.bytes) (already.each b entry last);
      tag_ = λ b entry last.
          ap (λ (x : Geometry). (placed_cells_of x (given store start) b).tag) (sym same)
          ∙ placed_tag-same g (given store start) (last_image start) b (λ sector. agrees.each sector (none.none sector))
          ∙ ap (λ (cell : Cell). cell.tag) (already.each b entry last);
    })
