-- What is kept beside a disk whose regions are recalculated without a bitmap, in journal mode and in direct mode, and
-- the calls by which its position moves.
-- Own: the position moves behind tags that are synced.
use Rattle.std.specs.Prelude.{◌≡◌, ◌⊎◌, ℕ, ◌<◌, Bool, true, false, List, Option, Some, None, Ok}
use Rattle.std.specs.List.{count_by, range_with_len}
use Rattle.disk_model.specs.Disk.{Content, EachImage, OnlyAdds}
use Rattle.disk_model.specs.Identity.{DiskIdentity}
use Rattle.disk_model.specs.Moments.{EachMoment, EachSince, HasNow}
use Rattle.image_model.specs.Bitmap.{is_to_recalculate}
use Rattle.image_model.specs.Geometry.{Geometry, region_of, regions}
use Rattle.image_model.specs.Superblock.{Superblock, superblock_of}
use Rattle.device_model.specs.Regions.{least_region, with_region}
use Rattle.place_model.specs.Format.{DiskFormat, IsReadAs}
use Rattle.direct_laws.specs.CallLaws.{AddsTags}
use Rattle.bitmap_laws.specs.CallLaws.{AreSameBits, region_tags}
use Rattle.bitmap_laws.specs.ServeLaws.{Recalculates}
use Rattle.recalculate_laws.specs.Calls.{SettlesBy}
use Rattle.recalculate_laws.specs.Formats.{under_fields}
use Rattle.recalculate_laws.specs.Position.{moved_fields}
use Rattle.hmac_tag.specs.TagMaker.{TagRule}
use Rattle.direct_mode.specs.Settling.{SettlesIn}
use Rattle.tag_store.specs.Store.{IsStore, Store}
use Rattle.place_model.specs.Tags.{HoldsTag}
use Rattle.recalculation.specs.declared.recalculating.Recalculation.{Recalculation}
use Rattle.recalculation.specs.Awaiting.{AwaitingRegions, awaiting_blocks, awaiting_of}
use Rattle.recalculation.specs.Position.{HasMoved, MovesIn, fields_to_write}
use Rattle.recalculation.specs.Rule.{tagger_by}

-- The fields that are to be written as the regions await now.
abbrev pub to_write : Recalculation → Option Superblock
to_write r = fields_to_write r.position r.awaiting.geometry (awaiting_of r.awaiting)

-- The first fields, if there are any, and else the others.
abbrev pub fields_or : Option Superblock → Superblock → Superblock
fields_or None s = s
fields_or (Some fields) s = fields

-- The fields of sector 0 once the position has moved: as they were, where none are to be written;
abbrev pub fields_left : Recalculation → Superblock
fields_left r = fields_or (to_write r) r.position

-- so once it has moved to the regions that await in another one.
abbrev pub fields_then : (old new : Recalculation) → Superblock
fields_then old new =
    fields_or (fields_to_write old.position old.awaiting.geometry (awaiting_of new.awaiting)) old.position

-- Each image has these fields in sector 0.
abbrev pub HasFields : Superblock → List Content → Type 0
HasFields s moments = HasNow (EachImage (λ image. superblock_of (image 0) ≡ Ok s)) moments

-- The least region that awaits.
abbrev pub next_of : Recalculation → Option ℕ
next_of r = least_region (regions r.awaiting.geometry) (awaiting_of r.awaiting)

-- How many regions await.
abbrev pub count_of : Recalculation → ℕ
count_of r = count_by (awaiting_of r.awaiting) (range_with_len 0 (regions r.awaiting.geometry))

-- ---- over a disk

-- Of each region that awaits those blocks do that are to be recalculated by these fields.
abbrev pub AwaitsBlocksOf : Superblock → AwaitingRegions → Type 0
AwaitsBlocksOf s a = (b : ℕ) → b < a.geometry.blocks → awaiting_of a (region_of a.geometry b) ≡ true
    → awaiting_blocks a b ≡ is_to_recalculate s a.geometry b

-- It is that of a disk with these fields and this geometry, of which these regions await.
pub record IsRecalculationOf (s : Superblock) (g : Geometry) (awaiting : ℕ → Bool) (r : Recalculation) : Type 0 where
  pub geometry : r.awaiting.geometry ≡ g
  pub regions_ : AreSameBits g (awaiting_of r.awaiting) awaiting
  pub blocks_ : AwaitsBlocksOf s r.awaiting
  pub fields : r.position ≡ s

-- ---- the position moves

-- Bytes may be written to the sector while tags are recalculated: it is one of tags, or sector 0.
abbrev pub IsOfTagsOrHead : Geometry → (sector : ℕ) → List ℕ → Type 0
IsOfTagsOrHead g sector x = HoldsTag g sector ⊎ (sector ≡ 0)

-- After a call the store is one of the same disk, and all lies in the same places.
pub record StaysOnDisk (old new : Recalculation) (store last : Store) (disk now : DiskIdentity)
    (after : List Content) : Type 0 where
  pub store_ : IsStore last now after
  pub geometry : new.awaiting.geometry ≡ old.awaiting.geometry
  pub places : last.geometry ≡ store.geometry
  pub identity : now ≡ disk

-- All tags were written back and synced, and then the position moved.
pub record SettlesPosition (old new : Recalculation) (g : Geometry) (tags now : Content → ℕ → List ℕ)
    (before after : List Content) : Type 0 where
  pub between : List Content
  pub settles : SettlesBy g tags now before between
  pub moves : HasMoved (to_write old) g now old.position new.position between after
  pub awaiting : new.awaiting ≡ old.awaiting

-- So far that came, whether it failed or not.
pub data SettlesPositionIn (old : Recalculation) (g : Geometry) (tags : Content → ℕ → List ℕ)
    (before after : List Content) : Type 0 where
  Settling : SettlesIn g tags before after → SettlesPositionIn old g tags before after
  Moving : (now : Content → ℕ → List ℕ) (between : List Content) → SettlesBy g tags now before between
      → MovesIn (to_write old) between after → SettlesPositionIn old g tags before after

-- ---- a step

-- The region is recalculated: each of its blocks that awaits gets its tag, and it awaits no more.
pub record TakesAwaiting (rule : TagRule) (region : ℕ) (old new : Recalculation) (g : Geometry)
    (tags now : Content → ℕ → List ℕ) (before after : List Content) : Type 0 where
  pub takes : Recalculates (tagger_by rule g) g (awaiting_blocks old.awaiting) region tags now before after
  pub regions_ : AreSameBits g (awaiting_of new.awaiting) (with_region region false (awaiting_of old.awaiting))
  pub geometry : new.awaiting.geometry ≡ old.awaiting.geometry
  pub first : new.awaiting.first ≡ old.awaiting.first
  pub position : new.position ≡ old.position

-- While it is, tags of its blocks are added.
abbrev pub TakesAwaitingIn : TagRule → (region : ℕ) → Recalculation → Geometry → (tags : Content → ℕ → List ℕ)
    → (before after : List Content) → Type 0
TakesAwaitingIn rule region old g tags before after = AddsTags g tags
    (λ c. region_tags (tagger_by rule g) g (awaiting_blocks old.awaiting) region c (tags c)) before after

-- A region was recalculated, and then the position moved.
pub record StepsPosition (rule : TagRule) (region : ℕ) (old new : Recalculation) (g : Geometry)
    (tags now : Content → ℕ → List ℕ) (before after : List Content) : Type 0 where
  pub mid : Recalculation
  pub made : Content → ℕ → List ℕ
  pub between : List Content
  pub takes : TakesAwaiting rule region old mid g tags made before between
  pub settles : SettlesPosition mid new g made now between after

-- So far that came, whether it failed or not.
pub data StepsPositionIn (rule : TagRule) (region : ℕ) (old : Recalculation) (g : Geometry)
    (tags : Content → ℕ → List ℕ) (before after : List Content) : Type 0 where
  Taking : TakesAwaitingIn rule region old g tags before after
      → StepsPositionIn rule region old g tags before after
  Taken : (mid : Recalculation) (made : Content → ℕ → List ℕ) (between : List Content)
      → TakesAwaiting rule region old mid g tags made before between → SettlesPositionIn mid g made between after
      → StepsPositionIn rule region old g tags before after

-- ---- what a step writes, and which fields it leaves

-- What is written where this region is recalculated: sectors of tags, and sector 0; and nothing where there is none.
abbrev pub WritesRegion : Option ℕ → Geometry → (before after : List Content) → Type 0
WritesRegion None g before after = after ≡ before
WritesRegion (Some region) g before after = EachSince (OnlyAdds (IsOfTagsOrHead g)) before after

-- The fields once this region is taken out of those that await, and the position has moved: as they are, where there is
-- none.
abbrev pub fields_behind : Option ℕ → Recalculation → Superblock
fields_behind None r = r.position
fields_behind (Some region) r =
    moved_fields r.position r.awaiting.geometry (with_region region false (awaiting_of r.awaiting))

-- Those that a step leaves.
abbrev pub fields_next : Recalculation → Superblock
fields_next r = fields_behind (next_of r) r

-- At each moment of a call each image can be read in this format, under these fields or under those.
abbrev pub HasFieldsThrough : DiskFormat → (old new : Superblock) → (before after : List Content) → Type 0
HasFieldsThrough d old new before after = EachMoment before after
    (EachImage (λ image. IsReadAs (under_fields d old) image ⊎ IsReadAs (under_fields d new) image))
