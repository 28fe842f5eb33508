-- What a run of blocks in memory shows of a disk.
use Rattle.std.specs.Prelude.{◌≡◌, ℕ, ◌+◌, ◌*◌, ◌<◌, ◌≤◌, List, length, take}
use Rattle.disk_model.specs.Disk.{Content, Reads}
use Rattle.disk_model.specs.Moments.{HasNow}
use Rattle.image_model.specs.Geometry.{Geometry, data_at}
use Rattle.recalculation.specs.declared.block_run.BlockRun.{BlockRun}
use Rattle.recalculation.specs.Places.{IsSideBySide}

-- The bytes that are read by one call at most: 64 KiB.
abbrev pub run_size : ℕ
run_size = 65536

-- It has its buffer.
pub record HasBuffer (run : BlockRun) : Type 0 where
  pub whole : length run.bytes.items ≡ run_size

-- It has the block.
pub record ShowsBlock (run : BlockRun) (block : ℕ) : Type 0 where
  pub begins : run.first ≤ block
  pub ends : block < run.first + run.count

-- What it shows are blocks that lie side by side, as reads of the disk give them.
pub record ShowsDisk (g : Geometry) (run : BlockRun) (moments : List Content) : Type 0 where
  pub buffer : HasBuffer run
  pub fits : run.count * g.shape.spb ≤ 128
  pub inside : run.first + run.count ≤ g.blocks
  pub side_by_side : IsSideBySide g run.first run.count
  pub reads : HasNow (Reads (data_at g run.first) (take (512 * (run.count * g.shape.spb)) run.bytes.items)) moments
