-- What was read of the places of blocks, and when that is what reads of the disk give.
use Rattle.std.specs.Prelude.{◌≡◌, ◌≢◌, ℕ, ◌+◌, ◌*◌, ◌/◌, ◌^◌, ◌<◌, ◌≤◌, Bool, true, false, List, length}
use Rattle.disk_model.specs.Disk.{Content, Reads, last_image, sector_in}
use Rattle.disk_model.specs.Moments.{HasNow}
use Rattle.image_model.specs.Geometry.{Geometry, data_at}
use Rattle.image_model.specs.Sectors.{bytes_at}
use Rattle.place_model.specs.Tags.{HoldsTag}

-- Sectors of a disk in a row that were read, from the first one on. Those below `behind` may have been written since.
pub record ReadPlaces : Type 0 where
  pub first : ℕ
  pub behind : ℕ
  pub bytes : List ℕ

-- In memory the buffer begins with the sectors that are held, which are on a disk.
pub record IsPlaceRun (first held : ℕ) (buffer : List ℕ) : Type 0 where
  pub whole : length buffer ≡ 512 * 128
  pub fits : held ≤ 128
  pub device : first + held ≤ 2 ^ 48

-- The `count` sectors from `at` on were read, and are not behind.
pub record ShowsRun (places : ReadPlaces) (at count : ℕ) : Type 0 where
  pub begins : places.first ≤ at
  pub since : places.behind ≤ at
  pub ends : 512 * (at + count) ≤ 512 * places.first + length places.bytes

-- What was read of such a sector is what reads of the disk give, where it holds no tag.
pub record ShowsPlaces (g : Geometry) (places : ReadPlaces) (moments : List Content) : Type 0 where
  pub reads : HasNow (λ c. (k : ℕ) → k < length places.bytes / 512 → places.behind ≤ places.first + k
      → (HoldsTag g (places.first + k) → ⊥) → sector_in places.bytes k ≡ last_image c (places.first + k)) moments

-- Whether a block's place has these bytes is told: reads of the disk give them, or others.
pub record TellsPlace (g : Geometry) (block : ℕ) (bytes : List ℕ) (moments : List Content) (is : Bool) : Type 0 where
  pub there : is ≡ true → HasNow (Reads (data_at g block) bytes) moments
  pub elsewhere : is ≡ false → HasNow (λ c. bytes_at (last_image c) (data_at g block) g.shape.spb ≢ bytes) moments
