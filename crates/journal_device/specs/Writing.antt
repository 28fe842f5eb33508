-- A flush behind a write, where that is asked.
use Rattle.std.specs.Prelude.{◌≡◌, Bool, true, false, List}
use Rattle.disk_model.specs.Disk.{Content}
use Rattle.tag_store.specs.Store.{Store}
use Rattle.journal_mode.specs.Commits.{HasFlushed, WritesBatches}
use Rattle.journal_mode.specs.Journal.{PlacedRing}
use Rattle.journal_mode.specs.Standing.{JournalStanding, StandsAs}

-- All is flushed where that is asked, and else nothing is done.
abbrev pub HasFlushedIf : Bool → JournalStanding → PlacedRing → Store → (before after : List Content) → Type 0
HasFlushedIf true w journal store before after = HasFlushed w journal store before after
HasFlushedIf false w journal store before after = StandsAs w journal store after

-- What the journal stands for is flushed so.
abbrev pub FlushesIf : Bool → Store → (old new : PlacedRing) → (before after : List Content) → Type 0
FlushesIf is_flushed store old new before after = (w : JournalStanding) → StandsAs w old store before
    → HasFlushedIf is_flushed w new store before after

-- So batches of the journal are written, or nothing.
abbrev pub WritesIf : Bool → PlacedRing → (before after : List Content) → Type 0
WritesIf true journal before after = WritesBatches journal before after
WritesIf false journal before after = after ≡ before
