-- All that was written is flushed: tags are written back, and the disk is synced.
use Rattle.std.specs.Prelude.{◌≡◌, ℕ, Bool, List}
use Rattle.disk_model.specs.Disk.{Content}
use Rattle.bitmap_model.specs.BitmapDisk.{BitmapDisk}
use Rattle.bitmap_model.specs.Steps.{after_flush}
use Rattle.bitmap_laws.specs.CallLaws.{KeepsNow, StandsThrough}
use Rattle.tag_store.specs.Store.{Store, given_tags}

-- So is each disk of the store,
abbrev pub FlushesCells : (store last : Store) → (before after : List Content) → Type 0
FlushesCells store last before after = (d : BitmapDisk) (marked : ℕ → Bool) → d.geometry ≡ store.geometry
    → KeepsNow d marked (given_tags store) before → KeepsNow (after_flush d) marked (given_tags last) after

-- which stands for what was there at each moment, also where that fails.
abbrev pub FlushesInCells : Store → (before after : List Content) → Type 0
FlushesInCells store before after = (d : BitmapDisk) (marked : ℕ → Bool) → d.geometry ≡ store.geometry
    → KeepsNow d marked (given_tags store) before → StandsThrough d marked before after
