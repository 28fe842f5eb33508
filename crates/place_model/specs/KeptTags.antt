-- Which tags a run of events leaves as they were, and the disk of a run in recovery mode.
-- Own: in bitmap mode what is in place of a block, whose region's bit was clear in the image that was opened, is never
-- recalculated; its own writes alone change its tag. In journal and in direct mode no block is that was not to be, by
-- the fields of that image.
use Rattle.std.specs.Prelude.{◌≡◌, ℕ, ◌<◌, false, List}
use Rattle.std.specs.List.{Any}
use Rattle.disk_model.specs.Disk.{Content, EachImage, Image}
use Rattle.image_model.specs.Bitmap.{is_dirty}
use Rattle.image_model.specs.Cells.{placed_cells_of}
use Rattle.image_model.specs.Geometry.{Geometry, region_of}
use Rattle.device_model.specs.History.{Begun, Change, Flushed, Written}
use Rattle.device_model.specs.Mode as Model
use Rattle.place_model.specs.Awaiting.{HasNoMore}

-- The change is one of a write of this block.
abbrev pub IsOfBlock : (block : ℕ) → Change → Type 0
IsOfBlock block (Begun write) = write.block ≡ block
IsOfBlock block (Written write) = write.block ≡ block
IsOfBlock block Flushed = ⊥

-- The changes are of writes of other blocks.
abbrev pub AreOfOthers : List Change → (block : ℕ) → Type 0
AreOfOthers changes block = Any (IsOfBlock block) changes → ⊥

-- The tag of each of these blocks stands in its place as in the image that was opened, where its region's bit was clear
-- in that.
pub record HasTagsOf (Concerns : ℕ → Type 0) (g : Geometry) (entry image : Image) : Type 0 where
  pub each : (b : ℕ) → b < g.blocks → is_dirty g entry (region_of g b) ≡ false → Concerns b
      → (placed_cells_of g image b).tag ≡ (placed_cells_of g entry b).tag

-- In bitmap mode it does so in each image. In journal and in direct mode no block awaits its tag by the fields of an
-- image that did not by those of the image that was opened.
abbrev pub KeepsTagsOf : Model.Mode → (Concerns : ℕ → Type 0) → Geometry → (entry : Image) → Content → Type 0
KeepsTagsOf Model.Bitmap Concerns g entry c = EachImage (HasTagsOf Concerns g entry) c
KeepsTagsOf Model.Journal Concerns g entry c = HasNoMore g entry c
KeepsTagsOf Model.Direct Concerns g entry c = HasNoMore g entry c
KeepsTagsOf Model.Recovery Concerns g entry c = Unit {0}

-- In recovery mode the disk is as it was: nothing is written, and it is not synced.
abbrev pub KeepsStill : Model.Mode → (before after : List Content) → Type 0
KeepsStill Model.Recovery before after = after ≡ before
KeepsStill mode before after = Unit {0}
