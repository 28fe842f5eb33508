-- One block of a region that is recalculated, and what that is given.
use Rattle.std.specs.Prelude.{◌≡◌, ◌⊎◌, ℕ, ◌<◌, List, slice_index}
use Rattle.disk_model.specs.Disk.{Content, last_image}
use Rattle.disk_model.specs.Identity.{DiskIdentity}
use Rattle.disk_model.specs.Moments.{HasNow}
use Rattle.image_model.specs.Cells.{placed_cells_of}
use Rattle.image_model.specs.Geometry.{Geometry}
use Rattle.device_model.specs.History.{Tagger}
use Rattle.place_model.specs.Tags.{with_block_tag}
use Rattle.direct_laws.specs.CallLaws.{AddsTags}
use Rattle.direct_laws.specs.ServeLaws.{PutsTag}
use Rattle.hmac_tag.specs.TagMaker.{TagRule}
use Rattle.tag_store.specs.Store.{IsStore, Store}
use Rattle.recalculation.specs.declared.places.Places.{Places}
use Rattle.recalculation.specs.Places.{IsPlaces}

-- The store is of the disk, it has the places of the blocks, and the rule makes tags of their size.
pub record FitsPlaces (rule : TagRule) (places : Places) (store : Store) (disk : DiskIdentity) (moments : List Content)
    : Type 0 where
  pub numbers : IsPlaces places
  pub same : store.geometry ≡ places.geometry
  pub size : rule.size ≡ places.geometry.shape.tag_size
  pub store_ : IsStore store disk moments

-- The tag is that of the bytes that are placed in the block.
abbrev pub IsPlacedTag : Tagger → Geometry → ℕ → List ℕ → List Content → Type 0
IsPlacedTag tag g block put moments =
    HasNow (λ c. put ≡ tag block (placed_cells_of g (last_image c) block).bytes) moments

-- The tag of its placed bytes was put.
pub record TakesBlock (tag : Tagger) (g : Geometry) (block : ℕ) (tags now : Content → ℕ → List ℕ)
    (before after : List Content) : Type 0 where
  pub put : List ℕ
  pub is : IsPlacedTag tag g block put before
  pub puts : PutsTag g block put tags now before after

-- While it is put sectors of tags alone are added, with bytes of the old tags and of that one.
pub record AddsPlacedTag (tag : Tagger) (g : Geometry) (block : ℕ) (tags : Content → ℕ → List ℕ)
    (before after : List Content) : Type 0 where
  pub put : List ℕ
  pub is : IsPlacedTag tag g block put before
  pub adds : AddsTags g tags (λ c. with_block_tag block put (tags c)) before after

-- Each byte of a tag that the store gives is of the old tag, or of the new one.
pub record GivesBetween (g : Geometry) (old new now : Content → ℕ → List ℕ) (before after : List Content)
    : Type 0 where
  pub each : HasNow (λ start. HasNow (λ c. (b i : ℕ) → b < g.blocks → i < g.shape.tag_size
      → (slice_index (now c b) i ≡ slice_index (old start b) i)
      ⊎ (slice_index (now c b) i ≡ slice_index (new start b) i)) after) before

-- The tag of its placed bytes may have been put in part.
pub record FailsBlock (tag : Tagger) (g : Geometry) (block : ℕ) (tags now : Content → ℕ → List ℕ)
    (before after : List Content) : Type 0 where
  pub put : List ℕ
  pub is : IsPlacedTag tag g block put before
  pub gives : GivesBetween g tags (λ c. with_block_tag block put (tags c)) now before after
