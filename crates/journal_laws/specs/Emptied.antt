-- From journal mode to direct mode: a disk whose journal has no entry left.
-- Own: direct mode begins once the journal is emptied.
use Rattle.std.specs.Prelude.{◌≡◌, ℕ, true, []}
use Rattle.disk_model.specs.Disk.{Content, Image, IsImage, last_image, newest_only}
use Rattle.image_model.specs.Cells.{replayed_entries}
use Rattle.place_model.specs.Journal.{HasNothingToReplay}
use Rattle.journal_model.specs.Entries.{cell_after}
use Rattle.journal_model.specs.Erasing.{IsErasable, StandsErasing, ReadsErased, after_erasure}
use Rattle.journal_model.specs.JournaledDisk.{JournaledDisk, StandsFor}
use Rattle.direct_model.specs.DirectDisk
use Rattle.direct_model.specs.DirectDisk.{DirectDisk}

-- What a disk stands for in direct mode: the cells after all entries, and no write since.
abbrev pub as_direct : JournaledDisk → DirectDisk
as_direct d = record {
  format = d.format;
  journal = d.journal;
  base = cell_after d.geometry d.base d.entries;
  writes = [];
  flushed = 0;
}

-- A disk of whose journal no entry is replayed stands for that, and its journal has nothing to replay,
abbrev pub EmptiedLaw : Type 0
EmptiedLaw = (d : JournaledDisk) (c : Content) → StandsFor d c → replayed_entries d.geometry d.journal ≡ []
    → DirectDisk.StandsFor (as_direct d) c × HasNothingToReplay d.geometry d.journal

-- and so does one whose journal has just been erased.
abbrev pub ErasedLaw : Type 0
ErasedLaw = (d : JournaledDisk) (number : ℕ) (empty : Image) (first : Content) → IsErasable d number empty
    → StandsErasing d number empty true first → IsImage first (last_image first)
    → ReadsErased d number empty true first → let erased = after_erasure d number empty in
    DirectDisk.StandsFor (as_direct erased) (newest_only first)
    × HasNothingToReplay erased.geometry erased.journal
