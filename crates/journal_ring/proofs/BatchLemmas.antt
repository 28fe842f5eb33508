-- The next batch of the ring that the sections in memory are.
use Rattle.std.proofs.Common.{◌≡◌, inl, inr, ℕ, ◌+◌, ◌-◌, ◌*◌, ◌<◌, ◌≤◌, min, Bool, true, if◌then◌else◌, List, [], ◌++◌, map, take, drop, filter_map, sym, ◌∙◌, ap, subst, arith, Option}
use Rattle.std.specs.List.{range_with_len}
use Rattle.std.proofs.lemmas.Bool.{cases_eq, lt-ltb, le-ltb, eq-eqb, ne_eqb}
use Rattle.std.proofs.lemmas.List.{map-append, drop-map}
use Rattle.std.proofs.lemmas.List.FromFn.{length-map-range_with_len, get_or-map-range_with_len, take-map-range_with_len}
use Rattle.std.proofs.Math.Nat.{mul-le-mul_right}
use Rattle.image_model.specs.Geometry.{Geometry, section_entries, section_sectors}
use Rattle.image_model.specs.Section.{Entry, section_bytes}
use Rattle.image_model.specs.Sectors.{piece}
use Rattle.image_model.specs.Walk.{later}
use Rattle.image_model.proofs.SectorLemmas.{length-piece, piece-piece}
use Rattle.image_model.specs.Entries.{BearsNumber}
use Rattle.journal_model.specs.Batch.{AreSections, IsSection}
use Rattle.journal_model.specs.Cuts.{next_after, number_after}
use Rattle.journal_model.specs.Ring.{next_batch, opened_at, IsNextBatch, JournalRing, with_commit}
use Rattle.journal_model.proofs.Runs.{run_joins, run_drop}
use Rattle.journal_laws.proofs.StepLemmas.{sealed_law}
use Rattle.journal_ring.specs.declared.marks.Marks.{Marks}
use Rattle.journal_ring.specs.Batch.{next_of, batch_of, committed_marks}
use Rattle.journal_ring.specs.RoomLaws.{HasBounds}
use Rattle.journal_ring.specs.Sections.{wrap, used_in, filled}
use Rattle.journal_ring.specs.Ring.{section_of, entries_held, view_of, number_at, IsRing}
use Rattle.journal_ring.proofs.SectionsLemmas.{used-filled}
use Rattle.journal_ring.proofs.WrapLemmas.{wrap-below, wrap-above, wrap-inside, wrap-wrap}

module _ (g : Geometry) (bytes counts : List ℕ) (m : Marks) (is : IsRing g bytes counts m) where
  abbrev next : ℕ
  next = next_of g.sections m

  abbrev batch : ℕ
  batch = batch_of g.sections m

  abbrev width : ℕ
  width = section_sectors g.shape

  pub next_inside : next_of g.sections m < g.sections
  next_inside = let first = is.first in let fits = is.fits in wrap-inside g.sections (m.first + m.committed) (omega arith)

  pub batch_low : (batch_of g.sections m ≤ m.opened) × (next_of g.sections m + batch_of g.sections m ≤ g.sections)
  batch_low = let inside = next_inside in (omega arith, omega arith)

  -- The ring lies in its journal.
  pub bounds_of : HasBounds (view_of g bytes m)
  bounds_of = record {
    inside = next_inside;
    fits = omega (arith, is.fits, length-map-range_with_len (entries_held g bytes m.first) 0 m.committed, length-map-range_with_len (entries_held g bytes m.first) m.committed m.opened);
  }

  -- How many sections it has, by the ring.
  pub next_batch-is : next_batch (view_of g bytes m) ≡ batch_of g.sections m
  next_batch-is = ap (λ (n : ℕ). min n (g.sections - next)) (length-map-range_with_len (entries_held g bytes m.first) m.committed m.opened)

  -- Section k of the batch lies k sections behind the first.
  place : (k : ℕ) → k < batch → section_of g m (m.committed + k) ≡ next + k
  place k low =
      let first = is.first in
      let fits = is.fits in
      let most = batch_low in
      ap (wrap g.sections) (let e : m.first + (m.committed + k) ≡ m.first + m.committed + k = omega arith in e)
      ∙ sym (wrap-wrap g.sections (m.first + m.committed) k (omega arith) (omega arith))
      ∙ wrap-below g.sections (next + k) (omega arith)

  pub batch_inside : (next_of g.sections m + batch_of g.sections m) * section_sectors g.shape ≤ g.sections * section_sectors g.shape
  batch_inside = mul-le-mul_right width (batch_low.1)

  abbrev batch_bytes : List ℕ
  batch_bytes = piece bytes (512 * (next_of g.sections m * section_sectors g.shape)) (512 * (batch_of g.sections m * section_sectors g.shape))

  part : (k : ℕ) → k < batch → piece batch_bytes (512 * (k * width)) (512 * width) ≡ section_bytes g.shape bytes (next + k)
  part k low =
      let inside : (k + 1) * width ≤ batch * width = mul-le-mul_right width (let le : k + 1 ≤ batch = omega arith in le) in
      piece-piece bytes (512 * (next * width)) (512 * (batch * width)) (512 * (k * width)) (512 * width) (omega arith)
      ∙ ap (λ (n : ℕ). piece bytes n (512 * width)) (let e : 512 * (next * width) + 512 * (k * width) ≡ 512 * ((next + k) * width) = omega arith in e)

  section : (k : ℕ) → k < batch → IsSection g.shape (next + k) m.number (opened_at (view_of g bytes m) (next + k)) (piece batch_bytes (512 * (k * width)) (512 * width))
  section k low =
      let most = batch_low in
      let here = place k low in
      let under : number_at g.sections (section_of g m m.committed) m.number k ≡ m.number =
      ap (λ (b : Bool). if b then m.number else later 1 m.number) (lt-ltb (next + k) g.sections (omega arith)) in
      let held = is.held (m.committed + k) (omega arith) in
      let own : List ℕ = section_bytes g.shape bytes (section_of g m (m.committed + k)) in
      let bears = subst (λ (n : ℕ). BearsNumber g.shape (section_of g m (m.committed + k)) n own) under (is.sealed k (omega arith)) in
      let sealed = sealed_law g.shape (section_of g m (m.committed + k)) m.number (filled (section_entries g.shape) (used_in g.shape own)) own held.holds bears in
      let entries : filter_map (λ (entry : Option Entry). entry) (filled (section_entries g.shape) (used_in g.shape own)) ≡ opened_at (view_of g bytes m) (next + k) =
      used-filled (section_entries g.shape) (used_in g.shape own)
      ∙ sym (get_or-map-range_with_len (entries_held g bytes m.first) m.committed m.opened (next + k - next) (m.committed + k) [] (omega arith) (omega arith)) in
      subst (IsSection g.shape (next + k) m.number (opened_at (view_of g bytes m) (next + k))) (sym (part k low))
      (subst (λ (i : ℕ). IsSection g.shape i m.number (opened_at (view_of g bytes m) (next + k)) (section_bytes g.shape bytes i)) here
      (subst (λ (xs : List Entry). IsSection g.shape (section_of g m (m.committed + k)) m.number xs own) entries sealed))

  -- Its bytes are those of the next batch.
  pub batch-is : IsNextBatch (view_of g bytes m) batch_bytes
  batch-is =
      let inside = batch_inside in
      let size = is.size in
      subst (λ (n : ℕ). AreSections g.shape next m.number n (opened_at (view_of g bytes m)) batch_bytes) (sym next_batch-is)
      (record { size = length-piece bytes (512 * (next * width)) (512 * (batch * width)) (omega arith); each = section })

  -- ---- once it is committed

  abbrev marks_now : Marks
  marks_now = committed_marks g.sections m

  -- Where the next batch begins.
  next_now : wrap g.sections (m.first + (m.committed + batch)) ≡ next_after g.sections next batch
  next_now =
      let first = is.first in
      let fits = is.fits in
      let most = batch_low in
      ap (wrap g.sections) (let e : m.first + (m.committed + batch) ≡ m.first + m.committed + batch = omega arith in e)
      ∙ sym (wrap-wrap g.sections (m.first + m.committed) batch (omega arith) (omega arith))
      ∙ elim (cases_eq (next + batch) g.sections) [
        | inl end ↦
            wrap-above g.sections (next + batch) (omega arith)
            ∙ (let none : next + batch - g.sections ≡ 0 = omega arith in none)
            ∙ ap (λ (b : Bool). if b then 0 else next + batch) (sym (eq-eqb (next + batch) g.sections end))
        | inr before ↦
            wrap-below g.sections (next + batch) (let high = most.1 in omega arith)
            ∙ ap (λ (b : Bool). if b then 0 else next + batch) (sym (ne_eqb (next + batch) g.sections before))
      ]

  committed_now : map (entries_held g bytes m.first) (range_with_len 0 (m.committed + batch))
      ≡ map (entries_held g bytes m.first) (range_with_len 0 m.committed) ++ take batch (map (entries_held g bytes m.first) (range_with_len m.committed m.opened))
  committed_now =
      ap (map (entries_held g bytes m.first)) (sym (run_joins 0 m.committed batch))
      ∙ map-append (entries_held g bytes m.first) (range_with_len 0 m.committed) (range_with_len (0 + m.committed) batch)
      ∙ ap (λ (n : ℕ). map (entries_held g bytes m.first) (range_with_len 0 m.committed) ++ map (entries_held g bytes m.first) (range_with_len n batch)) (let e : 0 + m.committed ≡ m.committed = omega arith in e)
      ∙ ap (λ (xs : List (List Entry)). map (entries_held g bytes m.first) (range_with_len 0 m.committed) ++ xs)
      (sym (take-map-range_with_len (entries_held g bytes m.first) m.committed m.opened batch batch_low.0))

  opened_now : map (entries_held g bytes m.first) (range_with_len (m.committed + batch) (m.opened - batch))
      ≡ drop batch (map (entries_held g bytes m.first) (range_with_len m.committed m.opened))
  opened_now =
      ap (map (entries_held g bytes m.first)) (sym (run_drop m.committed m.opened batch))
      ∙ sym (drop-map (entries_held g bytes m.first) batch (range_with_len m.committed m.opened))

  pub view_of-committed : view_of g bytes (committed_marks g.sections m) ≡ with_commit (view_of g bytes m)
  view_of-committed =
      subst (λ (n : ℕ). view_of g bytes (committed_marks g.sections m) ≡ record (view_of g bytes m) {
        next = next_after g.sections (next_of g.sections m) n;
        number = number_after g.sections (next_of g.sections m) n m.number;
        committed = (view_of g bytes m).committed ++ take n (view_of g bytes m).opened;
        opened = drop n (view_of g bytes m).opened;
        closed = true;
      }) (sym next_batch-is) (λ i. record {
        geometry = g;
        next = next_now i;
        number = number_after g.sections next batch m.number;
        committed = committed_now i;
        opened = opened_now i;
        closed = true;
      })

  -- The number of a section that is left open stays.
  number_now : (k : ℕ) → k < m.opened - batch
      → number_at g.sections next m.number (batch + k) ≡ number_at g.sections (wrap g.sections (m.first + (m.committed + batch))) (number_after g.sections next batch m.number) k
  number_now k low =
      let fits = is.fits in
      let inside = next_inside in
      let end : next + batch ≡ g.sections = omega arith in
      let zero_ : wrap g.sections (m.first + (m.committed + batch)) ≡ 0 = next_now ∙ ap (λ (b : Bool). if b then 0 else next + batch) (eq-eqb (next + batch) g.sections end) in
      let number : number_after g.sections next batch m.number ≡ later 1 m.number = ap (λ (b : Bool). if b then later 1 m.number else m.number) (eq-eqb (next + batch) g.sections end) in
      ap (λ (b : Bool). if b then m.number else later 1 m.number) (le-ltb (next + (batch + k)) g.sections (omega arith))
      ∙ sym (ap (λ (n : ℕ). number_at g.sections (wrap g.sections (m.first + (m.committed + batch))) n k) number
      ∙ ap (λ (n : ℕ). number_at g.sections n (later 1 m.number) k) zero_
      ∙ ap (λ (b : Bool). if b then later 1 m.number else later 1 (later 1 m.number)) (lt-ltb (0 + k) g.sections (omega arith)))

  pub IsRing-committed : IsRing g bytes counts (committed_marks g.sections m)
  IsRing-committed =
      let most = batch_low in
      let fits = is.fits in record {
        geometry = is.geometry;
        size = is.size;
        counts_are = is.counts_are;
        first = is.first;
        number = later_low;
        fits = omega arith;
        held = λ k low. is.held k (omega arith);
        free = λ k low high. is.free k (omega arith) high;
        sealed = λ k low.
            let at : m.committed + (batch + k) ≡ m.committed + batch + k = omega arith in
            subst (λ (n : ℕ). BearsNumber g.shape (section_of g m n) (number_at g.sections (wrap g.sections (m.first + (m.committed + batch))) (number_after g.sections next batch m.number) k)
            (section_bytes g.shape bytes (section_of g m n))) at
            (subst (λ (n : ℕ). BearsNumber g.shape (section_of g m (m.committed + (batch + k))) n (section_bytes g.shape bytes (section_of g m (m.committed + (batch + k)))))
            (number_now k low) (is.sealed (batch + k) (omega arith)));
      }
    where
      later_low : number_after g.sections next batch m.number < 4
      later_low = elim (cases_eq (next + batch) g.sections) [
        | inl end ↦
            let e : number_after g.sections next batch m.number ≡ later 1 m.number = ap (λ (b : Bool). if b then later 1 m.number else m.number) (eq-eqb (next + batch) g.sections end) in omega arith
        | inr before ↦
            let e : number_after g.sections next batch m.number ≡ m.number = ap (λ (b : Bool). if b then later 1 m.number else m.number) (ne_eqb (next + batch) g.sections before) in
            let low = is.number in omega arith
      ]

-- The sections of the next batch have its bytes.
pub batch_told : (g : Geometry) (pool counts : List ℕ) (m : Marks) (ring : JournalRing) (total from count : ℕ) → IsRing g pool counts m
    → view_of g pool m ≡ ring → total ≡ g.sections → from ≡ next_of total m → count ≡ batch_of total m
    → IsNextBatch ring (piece pool (512 * (from * section_sectors g.shape)) (512 * (count * section_sectors g.shape)))
batch_told g pool counts m ring total from count is told total_is from_is count_is =
    let place : from ≡ next_of g.sections m = from_is ∙ ap (λ (n : ℕ). next_of n m) total_is in
    let many : count ≡ batch_of g.sections m = count_is ∙ ap (λ (n : ℕ). batch_of n m) total_is in
    let bytes : piece pool (512 * (from * section_sectors g.shape)) (512 * (count * section_sectors g.shape))
    ≡ piece pool (512 * (next_of g.sections m * section_sectors g.shape)) (512 * (batch_of g.sections m * section_sectors g.shape)) =
    ap (λ (n : ℕ). piece pool (512 * (n * section_sectors g.shape)) (512 * (count * section_sectors g.shape))) place
    ∙ ap (λ (n : ℕ). piece pool (512 * (next_of g.sections m * section_sectors g.shape)) (512 * (n * section_sectors g.shape))) many in
    subst (λ (r : JournalRing). IsNextBatch r (piece pool (512 * (from * section_sectors g.shape)) (512 * (count * section_sectors g.shape)))) told
    (subst (IsNextBatch (view_of g pool m)) (sym bytes) (batch-is g pool counts m is))
