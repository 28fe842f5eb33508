-- A commit, on the disk that the ring is one of.
use Rattle.std.proofs.Common.{◌≡◌, ◌≢◌, ℕ, ◌*◌, ◌/◌, ◌≤◌, List, [], length, map, refl, sym, ◌∙◌, ap, subst, arith, Option, Some, None}
use Rattle.std.specs.List.{range_with_len}
use Rattle.std.specs.Option.{option_map}
use Rattle.std.proofs.lemmas.Option.{none-some, same_Some}
use Rattle.std.proofs.Math.Nat.{mul-le-mul_right}
use Rattle.disk_model.specs.Disk.{Content, IsImage, IsOfRun, IsRun, OnlyAdds, EachImage, last_image, newest_only, with_run}
use Rattle.disk_model.specs.Moments.{content_now, EachMoment, HasNow}
use Rattle.disk_model.proofs.MomentsLemmas.{each_content}
use Rattle.image_model.specs.Geometry.{Geometry, initial, section_at, section_sectors}
use Rattle.image_model.specs.Section.{Entry}
use Rattle.image_model.proofs.Bounds.{has_entries}
use Rattle.journal_model.specs.Batch.{AreSections}
use Rattle.journal_model.specs.JournaledDisk.{JournaledDisk, IsCutOf, IsSound, StandsFor}
use Rattle.journal_model.specs.Ring.{JournalRing, entries_of, next_batch, opened_at, IsNextBatch, IsRingOf, with_commit}
use Rattle.journal_model.specs.Steps.{IsBatch, batch_entries, after_commit}
use Rattle.journal_model.proofs.BatchLemmas.{batch_law}
use Rattle.journal_model.proofs.CommittedLemmas.{committed_law}
use Rattle.journal_model.proofs.JournalRingLemmas.{entries_of-map, next_batch-of_disk, ring_law}
use Rattle.journal_model.proofs.StepLemmas.{committing_law}
use Rattle.journal_laws.proofs.RingLemmas.{run_of}
use Rattle.journal_ring.specs.declared.marks.Marks.{Marks}
use Rattle.journal_ring.specs.Batch.{next_of, batch_of, next_entries, HasWritten, HasCommitted, WritesBatch}
use Rattle.journal_ring.specs.Ring.{view_of, IsRing}
use Rattle.journal_ring.proofs.BatchLemmas.{batch_inside, batch_low, next_batch-is, next_inside}

-- ---- the batch

module _ (r : JournalRing) (d : JournaledDisk) (bytes : List ℕ) (is : IsRingOf r d) (next : IsNextBatch r bytes) where
  are : AreSections d.geometry.shape d.next d.number (next_batch r) (opened_at r) bytes
  are = next_batch-of_disk r d bytes is next

  -- Its entries are those of the ring's opened sections.
  pub batch-told : batch_entries d (next_batch r) bytes ≡ next_entries r
  batch-told =
      (batch_law d (next_batch r) (opened_at r) bytes are).entries_are
      ∙ sym (entries_of-map (opened_at r) (range_with_len d.next (next_batch r)))
      ∙ ap entries_of (ap (λ (n : ℕ). map (opened_at r) (range_with_len n (next_batch r))) (sym is.next) ∙ run_of r.next (next_batch r) r.opened (omega arith))

  pub batch_law_ : IsSound d → IsBatch d (next_batch r) bytes × IsRingOf (with_commit r) (after_commit d (next_batch r) bytes)
  batch_law_ sound = ring_law r d (opened_at r) bytes sound is are batch-told

  pub place-is : section_at r.geometry r.next ≡ section_at d.geometry d.next
  place-is = ap (λ (g : Geometry). section_at g r.next) is.geometry ∙ ap (section_at d.geometry) is.next

-- ---- at each moment, and at the end

-- Each image is a cut of the batch.
pub cuts_of : {before after : List Content} (r : JournalRing) → WritesBatch r before after → (d : JournaledDisk) → IsRingOf r d
    → HasNow (StandsFor d) before → EachMoment before after (EachImage (IsCutOf d (next_entries r)))
cuts_of r writes d is stands =
    let bytes = writes.bytes in
    each_content (IsOfRun (section_at r.geometry r.next) bytes) (EachImage (IsCutOf d (next_entries r)))
    (λ start told c adds image of.
    subst (λ (more : List Entry). IsCutOf d more image) (batch-told r d bytes is writes.batch)
    (committing_law d (next_batch r) bytes start c (stands start told) is.rests (batch_law_ r d bytes is writes.batch (stands start told).sound).0
    (subst (λ (n : ℕ). OnlyAdds (IsOfRun n bytes) start c) (place-is r d bytes is writes.batch) adds) image of))
    writes.adds

came_from : (o : Option Content) (f : Content → Content) (y : Content) → option_map f o ≡ Some y → (x : Content) × (o ≡ Some x) × (f x ≡ y)
came_from None f y e = absurd (none-some y e)
came_from (Some x) f y e = (x, refl, same_Some _ _ e)

-- The disk has the batch.
pub committed_of : {before after : List Content} (r : JournalRing) → HasWritten r before after
    → ((c : Content) → content_now before ≡ Some c → IsImage c (last_image c)) → (d : JournaledDisk) → IsSound d → IsRingOf r d
    → HasNow (StandsFor d) before → HasCommitted d r (with_commit r) after
committed_of {before} {after} r has reads d sound is stands =
    let bytes = has.bytes in
    let both = batch_law_ r d bytes is has.batch sound in record {
      bytes = bytes;
      batch = both.0;
      ring = both.1;
      stands = λ c told.
          let first = came_from (content_now before) (λ c. newest_only (with_run (section_at r.geometry r.next) bytes c)) c (sym has.written ∙ told) in
          let law = (committed_law d (next_batch r) bytes first.0 (stands first.0 first.1) is.rests both.0 (reads first.0 first.1)).0 in
          subst (StandsFor (after_commit d (next_batch r) bytes))
          (ap (λ (n : ℕ). newest_only (with_run n bytes first.0)) (sym (place-is r d bytes is has.batch)) ∙ first.2) law;
    }

-- ---- nothing is opened

pub none-batch : (r : JournalRing) → r.opened ≡ [] → IsNextBatch r []
none-batch r none =
    let count : next_batch r ≡ 0 = let e : length r.opened ≡ 0 = ap length none in omega arith in
    subst (λ (n : ℕ). AreSections r.geometry.shape r.next r.number n (opened_at r) []) (sym count)
    (record { size = omega arith; each = λ k low. absurd (omega arith) })

pub none-writes : {before : List Content} (r : JournalRing) → r.opened ≡ [] → WritesBatch r before before
none-writes r none = record { bytes = []; batch = none-batch r none; adds = record { since = []; grows = refl; each = tt } }

-- ---- the run

-- A batch of some sections is a run of the disk.
pub batch-run : (g : Geometry) (pool counts : List ℕ) (m : Marks) (bytes : List ℕ) (sectors : ℕ) → IsRing g pool counts m → m.opened ≢ 0
    → IsNextBatch (view_of g pool m) bytes → initial g ≤ sectors → IsRun (section_at g (next_of g.sections m)) (length bytes) sectors
batch-run g pool counts m bytes sectors is some next disk =
    let holds = has_entries g.shape is.geometry.spb.0 is.geometry.spb.1 is.geometry.tag_size.0 is.geometry.tag_size.1 in
    let least = holds.sectors_low in
    let low = batch_low g pool counts m is in
    let inside = next_inside g pool counts m is in
    let end = batch_inside g pool counts m is in
    let more : 1 * section_sectors g.shape ≤ batch_of g.sections m * section_sectors g.shape = mul-le-mul_right (section_sectors g.shape) (let le : 1 ≤ batch_of g.sections m = omega arith in le) in
    let size : length bytes ≡ 512 * (batch_of g.sections m * section_sectors g.shape) =
    next.size ∙ ap (λ (n : ℕ). 512 * (n * section_sectors g.shape)) (next_batch-is g pool counts m is) in
    let count : length bytes / 512 ≡ batch_of g.sections m * section_sectors g.shape = omega arith in
    record { whole = omega arith; some = omega arith; inside = omega arith }
