-- A write that a device in direct mode serves, block by block.
use Rattle.std.specs.Prelude.{◌≡◌, ℕ, suc, ◌+◌, Bool, List, [], get_or}
use Rattle.disk_model.specs.Disk.{Content, Image}
use Rattle.device_model.specs.History.{BlockWrite}
use Rattle.device_model.specs.Mode.{DeviceFormat}
use Rattle.device_model.specs.Progress.{DeviceState, FailedServe, Serve, is_flushed_by}
use Rattle.device_model.specs.Request.{Asked, Write}
use Rattle.place_model.specs.Format.{tagger_of}
use Rattle.direct_laws.specs.JournalLawsEventLaws.{IsServed, next_write}
use Rattle.direct_model.specs.DirectDisk.{DirectDisk}
use Rattle.direct_model.specs.Steps.{with_write}
use Rattle.direct_laws.specs.Device.{IsDirectDevice}
use Rattle.direct_laws.specs.EventLaws.{after_block}
use Rattle.direct_laws.specs.MomentLaws.{HasBlocksOf}
use Rattle.direct_laws.specs.ServeLaws.{KeepsDevice}
use Rattle.direct_mode.specs.Cells.{HasCells}
use Rattle.tag_store.specs.Store.{Store}

-- The device with its disk, the image that it was opened on, and the request with its place.
pub record ServedWrite : Type 0 where
  pub format : DeviceFormat
  pub state : DeviceState
  pub disk : DirectDisk
  pub entry : Image
  pub place : ℕ
  pub asked : Asked
  pub first : ℕ
  pub blocks : List (List ℕ)
  pub fua : Bool

-- The write of its next block.
abbrev pub next_of : ServedWrite → BlockWrite
next_of w = next_write w.place w.first w.blocks w.asked.served

-- These are its next block with its tag, and all is flushed where it is the last one of a write with a flush.
pub record WritesNext (w : ServedWrite) (block : ℕ) (bytes tag : List ℕ) (flushes : Bool) (store : Store)
    (moments : List Content) : Type 0 where
  pub device : IsDirectDevice w.format w.state w.disk
  pub opened : HasBlocksOf w.entry w.disk
  pub served : IsServed w.state w.place w.asked
  pub request : w.asked.request ≡ Write w.first w.blocks w.fua
  pub cells : HasCells w.disk w.state.progress.regions.awaiting store moments
  pub block_ : block ≡ w.first + w.asked.served
  pub bytes_ : bytes ≡ get_or w.blocks w.asked.served []
  pub tag_ : tag ≡ tagger_of w.disk.format block bytes
  pub flushes_ : flushes ≡ is_flushed_by w.asked w.blocks w.fua

-- The device is the one after the serve, at each moment within it, and its disk has the cells then.
pub record HasServed (w : ServedWrite) (flushes : Bool) (store : Store) (before after : List Content)
    : Type 0 where
  pub device : KeepsDevice w.format w.state (Serve (suc w.place)) w.entry w.disk
      (after_block flushes (next_of w) w.disk) before after
  pub cells : HasCells (after_block flushes (next_of w) w.disk) w.state.progress.regions.awaiting store after

-- It is the one after a serve in which the disk failed, with the write under way, at each moment within it.
abbrev pub HasFailed : ServedWrite → (before after : List Content) → Type 0
HasFailed w before after = KeepsDevice w.format w.state (FailedServe (suc w.place)) w.entry w.disk
    (with_write w.disk (next_of w)) before after
