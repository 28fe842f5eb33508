-- What a contract sees of a window: a run of sectors in memory.
use Rattle.std.specs.Prelude.{ℕ, ◌+◌, ◌*◌, ◌≤◌, List, length}
use Rattle.disk_model.specs.Disk.{Content, Reads}
use Rattle.disk_model.specs.Moments.{HasNow}

-- How many sectors it has room for, the first that it shows, and the bytes from there on.
pub record Window : Type 0 where
  pub room : ℕ
  pub first : ℕ
  pub bytes : List ℕ

-- It shows the `count` sectors from `at` on.
pub record Shows (w : Window) (at count : ℕ) : Type 0 where
  pub begins : w.first ≤ at
  pub ends : 512 * (at + count) ≤ 512 * w.first + length w.bytes

-- What it shows is what reads of the disk give.
pub record ShowsDisk (w : Window) (moments : List Content) : Type 0 where
  pub reads : HasNow (Reads w.first w.bytes) moments

-- It has room for so many sectors or more, and shows the disk.
pub record HasRoom (sectors : ℕ) (w : Window) (moments : List Content) : Type 0 where
  pub room : sectors ≤ w.room
  pub window : ShowsDisk w moments
