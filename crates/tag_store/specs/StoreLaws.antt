-- What the words of a store's contracts say of tags, and of each byte of a sector: for the layers of every mode.
use Rattle.std.specs.Prelude.{◌≡◌, ◌≢◌, ℕ, ◌<◌, List, length, slice_index, Some}
use Rattle.disk_model.specs.Disk.{Content, Image, last_image, newest_only}
use Rattle.disk_model.specs.Identity.{DiskIdentity, IsBound}
use Rattle.disk_model.specs.Moments.{IsChangedBy, content_now}
use Rattle.image_model.specs.Geometry.{Geometry, IsGeometry, byte_place}
use Rattle.place_model.specs.Tags.{IsOfTags, KeepsOthers, ReadsTags, tag_byte_at, with_block_tag, HoldsTag}
use Rattle.buffer_cache.specs.HeldSectors.{no_sectors}
use Rattle.tag_store.specs.Store.{IsOfPut, IsMarkedTags, IsStore, Store, given, given_tags, tags_in, with_tag}

-- Each sector of a disk of so many has 512 bytes.
abbrev pub AreWhole : ℕ → Image → Type 0
AreWhole sectors image = (sector : ℕ) → sector < sectors → length (image sector) ≡ 512

-- This byte of the sector is none of the block's tag.
abbrev pub IsNoByteOf : Geometry → ℕ → (sector at : ℕ) → Type 0
IsNoByteOf g block sector at = (i : ℕ) → i < g.shape.tag_size → tag_byte_at g block i ≢ byte_place sector at

-- ---- a tag that is put

-- In an image with a tag put, the tags are those before, with this one,
abbrev pub PutTagsLaw : Type 0
PutTagsLaw = (g : Geometry) (sectors block : ℕ) (tag : List ℕ) (image : Image) → IsGeometry g sectors
    → AreWhole sectors image → block < g.blocks → length tag ≡ g.shape.tag_size → (b : ℕ) → b < g.blocks
    → tags_in g (with_tag g block tag image) b ≡ with_block_tag block tag (tags_in g image) b

-- each byte that is none of it is as before, be it of another tag, behind the tags or data,
abbrev pub PutBytesLaw : Type 0
PutBytesLaw = (g : Geometry) (sectors block : ℕ) (tag : List ℕ) (image : Image) (sector at : ℕ)
    → IsGeometry g sectors → AreWhole sectors image → block < g.blocks → length tag ≡ g.shape.tag_size → IsNoByteOf g block sector at
    → slice_index (with_tag g block tag image sector) at ≡ slice_index (image sector) at

-- and each sector is whole.
abbrev pub PutWholeLaw : Type 0
PutWholeLaw = (g : Geometry) (sectors block : ℕ) (tag : List ℕ) (image : Image) → IsGeometry g sectors
    → AreWhole sectors image → block < g.blocks → length tag ≡ g.shape.tag_size
    → AreWhole sectors (with_tag g block tag image)

-- ---- what may be written

-- What is marked of a sector is what the store gives of it: in each place the tag that it gives,
abbrev pub MarkedLaw : Type 0
MarkedLaw = (store : Store) (disk : DiskIdentity) (moments : List Content) (start : Content) (sector : ℕ) (x : List ℕ)
    → IsStore store disk moments → AreWhole disk.sectors (given store start) → IsMarkedTags store sector x
    → (x ≡ given store start sector)
    × IsOfTags store.geometry (given_tags store start) (given_tags store start) sector x

-- and while a tag is put, in each place a tag that it gave before, or the one that is put,
abbrev pub PutLaw : Type 0
PutLaw = (store : Store) (disk : DiskIdentity) (moments : List Content) (start : Content) (block : ℕ) (tag : List ℕ)
    (sector : ℕ) (x : List ℕ) → IsStore store disk moments → AreWhole disk.sectors (given store start)
    → block < store.geometry.blocks → length tag ≡ store.geometry.shape.tag_size
    → IsOfPut block tag store start sector x → IsOfTags store.geometry (given_tags store start) (with_block_tag block tag (given_tags store start)) sector x

-- and each byte that is none of that tag as it was given.
abbrev pub RestLaw : Type 0
RestLaw = (store : Store) (disk : DiskIdentity) (moments : List Content) (start : Content) (block : ℕ) (tag : List ℕ)
    (sector : ℕ) (x : List ℕ) (at : ℕ) → IsStore store disk moments → AreWhole disk.sectors (given store start)
    → block < store.geometry.blocks → length tag ≡ store.geometry.shape.tag_size
    → IsOfPut block tag store start sector x → IsNoByteOf store.geometry block sector at
    → slice_index x at ≡ slice_index (given store start sector) at

-- ---- what reads of the disk give

-- Where the store gives what the disk reads, reads of the tags give those of the store.
abbrev pub ReadsTagsLaw : Type 0
ReadsTagsLaw = (store : Store) (disk : DiskIdentity) (moments : List Content) (c d : Content)
    → IsStore store disk moments → AreWhole disk.sectors (given store c)
    → ((sector : ℕ) → last_image d sector ≡ given store c sector) → ReadsTags store.geometry (given_tags store c) d

-- A sector without a tag is read as the store gives it,
abbrev pub DirectLaw : Type 0
DirectLaw = (store : Store) (disk : DiskIdentity) (moments : List Content) (c : Content) (sector : ℕ)
    → IsStore store disk moments
    → ((b i : ℕ) → b < store.geometry.blocks → i < store.geometry.shape.tag_size
    → sector ≢ (tag_byte_at store.geometry b i).sector)
    → given store c sector ≡ last_image c sector

-- and what is put, is put in no sector of these.
abbrev pub OthersLaw : Type 0
OthersLaw = (g : Geometry) (sectors block : ℕ) (tag : List ℕ) (image : Image) (sector : ℕ) → IsGeometry g sectors
    → block < g.blocks → length tag ≡ g.shape.tag_size
    → ((b i : ℕ) → b < g.blocks → i < g.shape.tag_size → sector ≢ (tag_byte_at g b i).sector)
    → with_tag g block tag image sector ≡ image sector

-- So these are read as before, where the store gives the same of them before a call and behind it.
abbrev pub KeepsOthersLaw : Type 0
KeepsOthersLaw = (old new : Store) (disk now : DiskIdentity) (before after : List Content) (c d : Content)
    → IsStore old disk before → IsStore new now after → new.geometry ≡ old.geometry
    → ((sector : ℕ) → ((b i : ℕ) → b < old.geometry.blocks → i < old.geometry.shape.tag_size
    → sector ≢ (tag_byte_at old.geometry b i).sector) → given new d sector ≡ given old c sector)
    → KeepsOthers old.geometry c d

-- A store over a cache that holds none is of any disk on which its places lie, and gives what reads give.
abbrev pub FreshLaw : Type 0
FreshLaw = (g : Geometry) (disk : DiskIdentity) (moments : List Content) (slots : ℕ) → IsBound disk.name
    → IsGeometry g disk.sectors
    → let store : Store = record { geometry = g; sectors = no_sectors slots } in
    IsStore store disk moments × ((c : Content) → given store c ≡ last_image c)

-- ---- other calls of the disk

-- Two contents read the same at each sector of tags.
abbrev pub ReadTagsAlike : Geometry → (c d : Content) → Type 0
ReadTagsAlike g c d = (sector : ℕ) → HoldsTag g sector → last_image d sector ≡ last_image c sector

-- The store is one of the disk after a call that left what reads give of the sectors of tags,
abbrev pub ElsewhereLaw : Type 0
ElsewhereLaw = (store : Store) (disk : DiskIdentity) (before after : List Content) → IsStore store disk before
    → ((d : Content) → content_now after ≡ Some d
    → (c : Content) × (content_now before ≡ Some c) × ReadTagsAlike store.geometry c d)
    → IsStore store disk after

-- so after a sync,
abbrev pub SyncedLaw : Type 0
SyncedLaw = (store : Store) (disk : DiskIdentity) (before after : List Content) → IsStore store disk before
    → IsChangedBy newest_only before after → IsStore store disk after

-- and gives the same tags.
abbrev pub SameTagsLaw : Type 0
SameTagsLaw = (store : Store) (disk : DiskIdentity) (moments : List Content) (c d : Content)
    → IsStore store disk moments → AreWhole disk.sectors (given store c) → AreWhole disk.sectors (given store d) → ReadTagsAlike store.geometry c d
    → (b : ℕ) → b < store.geometry.blocks → given_tags store d b ≡ given_tags store c b

-- ---- other regions

-- The same store of a disk whose regions are others.
abbrev pub under_regions : Store → (log2_region : ℕ) → Store
under_regions store log2_region = record store { geometry = record store.geometry { log2_region = log2_region } }

-- It gives the same tags, and is of the disk.
abbrev pub OtherRegionsLaw : Type 0
OtherRegionsLaw = (store : Store) (disk : DiskIdentity) (moments : List Content) (log2_region : ℕ)
    → IsStore store disk moments → IsGeometry (under_regions store log2_region).geometry disk.sectors
    → IsStore (under_regions store log2_region) disk moments
    × ((c : Content) (b : ℕ) → given_tags (under_regions store log2_region) c b ≡ given_tags store c b)
