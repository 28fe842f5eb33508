use Rattle.std.proofs.Common.{◌≡◌, ℕ, ◌+◌, ◌<◌}
use Rattle.journal_model.specs.Ring.{JournalRing}
use Rattle.journal_ring.specs.Places.{oldest_at}
use Rattle.journal_ring.specs.Sections.{wrap}
use Rattle.journal_mode.specs.Freeing.{HasFreed}
use Rattle.journal_mode.specs.Journal.{places_of}
use Rattle.journal_mode.proofs.FreeingLemmas.{Dropped}
use Rattle.journal_mode.proofs.freeing.drop_from.Given as goal

abbrev pub invariant-loop-k : goal.invariant-loop-k
invariant-loop-k l = record {
  section : l.section ≡ wrap l.ring.geometry.sections (l.fn.from + l._k);
  inside : l.section < l.ring.geometry.sections;
  capacity : l.overlay.capacity ≡ l.fn.overlay.capacity;
  dropped : (old : JournalRing) (count : ℕ) (freed : HasFreed old count l.ring) → l.fn.from ≡ oldest_at old → l.fn.overlay.kept ≡ places_of old → Dropped old l.ring count freed l._k l.overlay.kept;
}
