-- What a store of tags gives over a disk: each sector as the disk reads it, or as it stands in memory.
use Rattle.std.specs.Prelude.{◌≡◌, ◌⊎◌, ℕ, ◌+◌, ◌<◌, true, List, Some, None}
use Rattle.disk_model.specs.Disk.{Content, Image}
use Rattle.disk_model.specs.Identity.{DiskIdentity, IsBound}
use Rattle.disk_model.specs.Moments.{HasNow}
use Rattle.image_model.specs.Cells.{placed_cells_of}
use Rattle.image_model.specs.Geometry.{Geometry, IsGeometry, tag_at}
use Rattle.place_model.specs.Tags.{HoldsTag}
use Rattle.buffer_cache.specs.declared.held.Held.{Held}
use Rattle.buffer_cache.specs.declared.held.HeldSectors.{HeldSectors}
use Rattle.buffer_cache.specs.Cached.{IsMarkedSector, IsOfDisk, Keeps, cached, is_marked}
use Rattle.buffer_cache.specs.HeldSectors.{held_in}
use Rattle.tag_store.specs.Spans.{IsFirstOfTwo, IsInSpan, with_span}

-- Where blocks and tags lie, and the sectors that are held.
pub record Store : Type 0 where
  pub geometry : Geometry
  pub sectors : HeldSectors

-- What the store gives of each sector, over a disk of this content.
abbrev pub given : Store → Content → Image
given store content = cached store.sectors content

-- The tag of each block, where the layout puts it in an image.
abbrev pub tags_in : Geometry → Image → ℕ → List ℕ
tags_in g image b = (placed_cells_of g image b).tag

-- The tag that the store gives of each block.
abbrev pub given_tags : Store → Content → ℕ → List ℕ
given_tags store content = tags_in store.geometry (given store content)

-- The store is of this disk, which is bound: its places lie on it, and what is held are sectors of tags, as the disk
-- has them where they are not marked.
pub record IsStore (store : Store) (disk : DiskIdentity) (moments : List Content) : Type 0 where
  pub bound : IsBound disk.name
  pub geometry : IsGeometry store.geometry disk.sectors
  pub cache : IsOfDisk store.sectors disk moments
  pub tags_only : (sector : ℕ) (held : Held) → held_in store.sectors sector ≡ Some held
      → HoldsTag store.geometry sector

-- The store gives what it gave before, and what is still to be written was so before.
pub record KeepsStore (old new : Store) (before after : List Content) : Type 0 where
  pub geometry : new.geometry ≡ old.geometry
  pub sectors : Keeps old.sectors new.sectors before after

-- The bytes may be written to the sector: they are those of a sector of tags that was changed, and not written since.
pub record IsMarkedTags (store : Store) (sector : ℕ) (x : List ℕ) : Type 0 where
  pub tags : HoldsTag store.geometry sector
  pub marked : IsMarkedSector store.sectors sector x

-- They may go out for a use of a block's tag: where the sector of the tag is not held, or the tag stands in two.
pub record IsOutForTag (block : ℕ) (store : Store) (sector : ℕ) (x : List ℕ) : Type 0 where
  pub marked : IsMarkedTags store sector x
  pub used : (held_in store.sectors (tag_at store.geometry block).sector ≡ None)
      ⊎ (512 < (tag_at store.geometry block).byte + store.geometry.shape.tag_size)

-- ---- a tag that is put

-- The image with a tag in the place of a block's.
abbrev pub with_tag : Geometry → ℕ → List ℕ → Image → Image
with_tag g block tag = with_span (tag_at g block).sector (tag_at g block).byte tag

-- Some byte of the block's tag stands in the sector.
abbrev pub HoldsTagOf : Geometry → ℕ → ℕ → Type 0
HoldsTagOf g block = IsInSpan (tag_at g block).sector (tag_at g block).byte g.shape.tag_size

-- The sector is the first of two in which the block's tag stands.
abbrev pub IsFirstOfTag : Geometry → ℕ → ℕ → Type 0
IsFirstOfTag g block = IsFirstOfTwo (tag_at g block).sector (tag_at g block).byte g.shape.tag_size

-- The store gives what it gave before, with the tag in the place of the block's.
pub record StoresTag (block : ℕ) (tag : List ℕ) (old new : Store) (before after : List Content) : Type 0 where
  pub given_ : HasNow (λ c. HasNow (λ d. (sector : ℕ)
      → given new d sector ≡ with_tag old.geometry block tag (given old c) sector) after) before

-- It gives what it gave before, but that the first sector of two may have its part of the tag.
pub record StoresFirst (block : ℕ) (tag : List ℕ) (old new : Store) (before after : List Content) : Type 0 where
  pub given_ : HasNow (λ c. HasNow (λ d. (sector : ℕ) → (given new d sector ≡ given old c sector)
      ⊎ (IsFirstOfTag old.geometry block sector
      × (given new d sector ≡ with_tag old.geometry block tag (given old c) sector))) after) before

-- The places are as before, and no sector is more to be written but those of the block's tag.
pub record KeepsButTag (block : ℕ) (old new : Store) : Type 0 where
  pub geometry : new.geometry ≡ old.geometry
  pub marked : (sector : ℕ) → is_marked new.sectors sector ≡ true
      → (held_in new.sectors sector ≡ held_in old.sectors sector) ⊎ HoldsTagOf old.geometry block sector
  pub slots : new.sectors.recent.cap ≡ old.sectors.recent.cap

-- The bytes may be written to the sector while the tag is put: what goes out for it, and the first sector of two with
-- its part of the tag.
abbrev pub IsOfPut : ℕ → List ℕ → Store → Content → ℕ → List ℕ → Type 0
IsOfPut block tag store start sector x = IsOutForTag block store sector x
    ⊎ (IsFirstOfTag store.geometry block sector × (x ≡ with_tag store.geometry block tag (given store start) sector))

-- ---- a block that is written

-- The store gives the tags that it gave before.
pub record KeepsTags (store : Store) (before after : List Content) : Type 0 where
  pub each : HasNow (λ c. HasNow (λ d. (b : ℕ) → b < store.geometry.blocks
      → given_tags store d b ≡ given_tags store c b) after) before
