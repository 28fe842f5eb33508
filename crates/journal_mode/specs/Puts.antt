-- A block that is put into the journal, as a write of the device.
use Rattle.std.specs.Prelude.{◌≡◌, ℕ, List, Option, Some, None}
use Rattle.disk_model.specs.Disk.{Content}
use Rattle.device_model.specs.History.{BlockWrite, Change, Begun, Written, with_change}
use Rattle.device_model.specs.Journal.{SectionCounts, put}
use Rattle.place_model.specs.Format.{tagger_of}
use Rattle.tag_store.specs.Store.{Store}
use Rattle.journal_mode.specs.Journal.{PlacedRing}
use Rattle.journal_mode.specs.Standing.{JournalStanding, StandsAs}

-- The counts of the sections with one entry more, and none where there is no room.
abbrev pub sections_with : JournalStanding → (block : ℕ) → Option (List SectionCounts)
sections_with w block = put w.format.sections w.format.entries block w.counts.sections

-- What the device stands for once these are its sections, and this has happened to its history.
abbrev pub after_change : Change → List SectionCounts → JournalStanding → JournalStanding
after_change change sections w = record w {
  history = with_change w.history change;
  counts = record w.counts { sections = sections };
}

-- No write is under way, and the tag is the one of the block's bytes.
pub record TakesWrite (w : JournalStanding) (write : BlockWrite) (tag : List ℕ) (journal : PlacedRing)
    (store : Store) (moments : List Content) : Type 0 where
  pub stands : StandsAs w journal store moments
  pub idle : w.history.pending ≡ None
  pub tag_ : tag ≡ tagger_of w.disk.format write.block write.bytes

-- The device has the block in its counts, and the write is the one under way, or one of its writes once that is
-- done.
pub record HasPut (w : JournalStanding) (write : BlockWrite) (journal : PlacedRing) (store : Store)
    (moments : List Content) : Type 0 where
  pub sections : List SectionCounts
  pub put_ : sections_with w write.block ≡ Some sections
  pub begun : StandsAs (after_change (Begun write) sections w) journal store moments
  pub written : StandsAs (after_change (Written write) sections w) journal store moments
