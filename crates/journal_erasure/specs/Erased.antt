-- What a disk stands for after the erasure.
-- Own: as the erasure, and as direct mode.
use Rattle.std.specs.Prelude.{ℕ}
use Rattle.disk_model.specs.Disk.{Content, HasNothingPending, Image}
use Rattle.place_model.specs.Journal.{HasNothingToReplay}
use Rattle.direct_model.specs.DirectDisk
use Rattle.journal_laws.specs.Emptied.{as_direct}
use Rattle.journal_model.specs.Erasing.{after_erasure}
use Rattle.journal_model.specs.JournaledDisk.{JournaledDisk, Rests, StandsFor}

-- It stands for the same cells, with nothing pending and an empty journal at rest, in direct mode too.
pub record IsErased (d : JournaledDisk) (number : ℕ) (empty : Image) (c : Content) : Type 0 where
  pub stands : StandsFor (after_erasure d number empty) c
  pub rests : Rests (after_erasure d number empty)
  pub settled : HasNothingPending c
  pub direct : DirectDisk.StandsFor (as_direct (after_erasure d number empty)) c
  pub replays_nothing : HasNothingToReplay d.geometry empty
