-- What is placed of a ring as it goes on, and what is in place once it is settled.
use Rattle.std.specs.Prelude.{◌≡◌, ℕ}
use Rattle.disk_model.specs.Disk.{Content, EachImage}
use Rattle.image_model.specs.Geometry.{Geometry}
use Rattle.image_model.specs.Section.{Entry}
use Rattle.journal_laws.specs.Device.{IsJournalRing}
use Rattle.journal_model.specs.JournaledDisk.{JournaledDisk, IsSound, StandsFor}
use Rattle.journal_model.specs.Ring.{JournalRing, empty_ring, with_commit, with_put}
use Rattle.place_writer.specs.Moves.{HasPlacedCells}
use Rattle.place_writer.specs.Placement.{IsPlacementOf, IsWholeEntry, IsWholeRing, placed_in}
use Rattle.place_writer.specs.declared.placement.Placement.{Placement}

-- Of an empty ring none is placed,
abbrev pub BeginsLaw : Type 0
BeginsLaw = (g : Geometry) (next number : ℕ)
    → IsPlacementOf (record { sections = 0; entries = 0 }) (empty_ring g next number)

-- and as many are placed once an entry is put,
abbrev pub PutLaw : Type 0
PutLaw = (p : Placement) (ring : JournalRing) (entry : Entry) → IsPlacementOf p ring
    → IsWholeEntry ring.geometry entry
    → IsPlacementOf p (with_put entry ring) × (placed_in p (with_put entry ring) ≡ placed_in p ring)

-- and once a batch is committed.
abbrev pub CommitLaw : Type 0
CommitLaw = (p : Placement) (ring : JournalRing) → IsPlacementOf p ring
    → IsPlacementOf p (with_commit ring) × (placed_in p (with_commit ring) ≡ placed_in p ring)

-- The ring of a disk is such.
abbrev pub DiskRingLaw : Type 0
DiskRingLaw = (d : JournaledDisk) (ring : JournalRing) → IsSound d → IsJournalRing d ring → IsWholeRing ring

-- Once all that is placed is settled, each image has it in its place.
abbrev pub SettledCellsLaw : Type 0
SettledCellsLaw = (d : JournaledDisk) (c : Content) → StandsFor d c → d.settled ≡ d.placed
    → EachImage (HasPlacedCells d) c
