-- A commit, on the counts, the disk and the ring.
use Rattle.std.proofs.Common.{◌≡◌, inl, inr, ℕ, zero, suc, ◌+◌, ◌-◌, ◌%◌, ◌<◌, ◌≤◌, min, Bool, true, false, if◌then◌else◌, sym, ◌∙◌, ap, subst, arith, Option, Some, None, List, [], ◌∷◌, ◌++◌, length, take, drop, map, length-append, length-drop, append_assoc}
use Rattle.std.specs.List.{AllByRecursion, list_any, range_with_len}
use Rattle.std.proofs.lemmas.Bool.{cases_Bool, false≢true}
use Rattle.std.proofs.lemmas.List.{map-append, drop-drop, drop-append-le}
use Rattle.std.proofs.lemmas.List.FromFn.{length-range_with_len}
use Rattle.std.proofs.lemmas.Option.{none-some, same_Some}
use Rattle.image_model.specs.Section.{Entry}
use Rattle.image_model.specs.Walk.{ring}
use Rattle.device_model.specs.History.{History}
use Rattle.device_model.specs.Journal.{SectionCounts, JournalCounts, is_uncommitted, closed_end, committed_batch, commit}
use Rattle.device_model.specs.Mode.{DeviceFormat}
use Rattle.place_model.specs.Journal.{entries_in}
use Rattle.place_model.proofs.JournalLemmas.{entries_in-same}
use Rattle.place_model.proofs.EachLemmas.{all_append, all_take, all_drop}
use Rattle.journal_model.specs.Batch.{AreSections}
use Rattle.journal_model.specs.Cuts.{next_after}
use Rattle.journal_model.specs.HistoryOf.{IsHistoryOf}
use Rattle.journal_model.specs.JournaledDisk.{JournaledDisk}
use Rattle.journal_model.specs.Steps.{IsBatch, batch_image, with_batch, batch_entries, after_commit}
use Rattle.journal_model.proofs.BatchLemmas.{batch_law, section_is}
use Rattle.journal_model.proofs.CommittedLemmas.{ring_after, new_in, old_below, old_behind, sound_after}
use Rattle.journal_model.proofs.HistoryLemmas.{history_committed}
use Rattle.journal_model.proofs.RingLemmas.{ring_rest}
use Rattle.journal_model.specs.Ring.{JournalRing, entries_of, uncommitted_entries, next_batch, opened_at, IsNextBatch, with_commit, IsRingOf}
use Rattle.journal_model.proofs.JournalRingLemmas.{kept_size, next_batch-of_disk, ring_law, entries_of-append, entries_of-take, entries_of-drop, entries_of-map}
use Rattle.journal_laws.specs.CountLaws.{IdleCommitLaw, CommitLaw}
use Rattle.journal_laws.specs.Device.{freed_count, placed_count, committed_counts, AreCounts, IsJournalRing, IsJournalOf}
use Rattle.journal_laws.proofs.FormatLemmas.{sections-is}
use Rattle.journal_laws.proofs.CountLemmas.{AreDone, done-front, closed_end-front, any-front, batch-front, some_opened, closed_end-opened, IsBatchCounts, batch-opened, counts-append}
use Rattle.journal_laws.proofs.RingLemmas.{map_run-same, map-same, run_of, length-counts, next_mod, placed_part}

all_run : (P : ℕ → Type 0) (from count : ℕ) → ((i : ℕ) → from ≤ i → i < from + count → P i) → AllByRecursion P (range_with_len from count)
all_run P from zero f = tt
all_run P from (suc count) f = (f from (omega arith) (omega arith), all_run P (from + 1) count (λ i low high. f i (omega arith) (omega arith)))

-- ---- the counts

module _ (j : JournalCounts) (d : JournaledDisk) (r : JournalRing) (is : AreCounts j d r) where
  abbrev part : ℕ
  part = placed_count d r

  -- The sections that are free or committed.
  pub front : List SectionCounts
  front = is.free ++ committed_counts d.geometry (placed_count d r) r.committed

  pub sections_are : j.sections ≡ front ++ is.opened
  unfolding front
  sections_are = is.sections ∙ sym (append_assoc is.free (committed_counts d.geometry part r.committed) is.opened)

  pub front-done : AreDone front
  unfolding front
  front-done = done-front d.geometry part is.free r.committed is.all_free

  pub length-front : length front ≡ length is.free + length r.committed
  unfolding front
  length-front = length-append is.free (committed_counts d.geometry part r.committed) ∙ ap (λ (n : ℕ). length is.free + n) (length-counts d.geometry part r.committed)

  pub front-then : (op : List SectionCounts) → front ++ op ≡ is.free ++ (committed_counts d.geometry (placed_count d r) r.committed ++ op)
  unfolding front
  front-then op = append_assoc is.free (committed_counts d.geometry part r.committed) op

  pub any-is : list_any (λ (s : SectionCounts). is_uncommitted s.state) j.sections ≡ list_any (λ (s : SectionCounts). is_uncommitted s.state) is.opened
  any-is = ap (list_any (λ (s : SectionCounts). is_uncommitted s.state)) sections_are ∙ any-front front is.opened front-done

commit_by : (ring : ℕ) (j : JournalCounts) → Bool → Option JournalCounts
commit_by ring j t = if t then Some (record j { sections = committed_batch ring j.next (closed_end j.sections) }) else None

commit-is : (ring : ℕ) (j : JournalCounts) (t : Bool) → list_any (λ (s : SectionCounts). is_uncommitted s.state) j.sections ≡ t → commit ring j ≡ commit_by ring j t
unfolding commit_by
commit-is ring j t e = ap (λ (u : Bool). if u then Some (let k : JournalCounts = record j { sections = committed_batch ring j.next (closed_end j.sections) } in k) else None) e

pub commit-some : (ring : ℕ) (j j' : JournalCounts) → commit ring j ≡ Some j'
    → (list_any (λ (s : SectionCounts). is_uncommitted s.state) j.sections ≡ true) × ((let k : JournalCounts = record j { sections = committed_batch ring j.next (closed_end j.sections) } in k) ≡ j')
unfolding commit_by
commit-some ring j j' is = elim (cases_Bool (list_any (λ (s : SectionCounts). is_uncommitted s.state) j.sections)) [
  | inl some ↦ (some, same_Some _ j' (sym (commit-is ring j true some) ∙ is))
  | inr none ↦ absurd (none-some j' (sym (commit-is ring j false none) ∙ is))
]

commit-none : (ring : ℕ) (j : JournalCounts) → (list_any (λ (s : SectionCounts). is_uncommitted s.state) j.sections ≡ false → commit ring j ≡ None)
    × (commit ring j ≡ None → list_any (λ (s : SectionCounts). is_uncommitted s.state) j.sections ≡ false)
unfolding commit_by
commit-none ring j = (
  commit-is ring j false,
  λ none. elim (cases_Bool (list_any (λ (s : SectionCounts). is_uncommitted s.state) j.sections)) [
    | inl some ↦ absurd (none-some _ (sym none ∙ commit-is ring j true some))
    | inr other ↦ other
  ],
)

pub idle_commit_law : IdleCommitLaw
idle_commit_law f h j d r is =
    let c = is.counts in
    let tells = some_opened d.geometry r.closed r.opened c.opened c.are_opened in (
      λ none. (commit-none f.sections j).0 (any-is j d r c ∙ ap (list_any (λ (s : SectionCounts). is_uncommitted s.state)) (tells.1 none)),
      λ idle. tells.0 (sym (any-is j d r c) ∙ (commit-none f.sections j).1 idle),
    )

closed_end-some : (fr op : List SectionCounts) → list_any (λ (s : SectionCounts). is_uncommitted s.state) op ≡ true → closed_end (fr ++ op) ≡ fr ++ closed_end op
closed_end-some fr [] some = absurd (false≢true some)
closed_end-some fr (o ∷ op) some = closed_end-front fr o op

module _ (f : DeviceFormat) (h : History) (j : JournalCounts) (d : JournaledDisk) (r : JournalRing) (bytes : List ℕ) (is : IsJournalOf f h j d r)
    (some : list_any (λ (s : SectionCounts). is_uncommitted s.state) j.sections ≡ true) (next : IsNextBatch r bytes) where
  abbrev n : ℕ
  n = d.geometry.sections

  abbrev k : ℕ
  k = next_batch r

  inside : d.next < d.geometry.sections
  inside = is.is_ring.rests.at.inside

  are : AreSections d.geometry.shape d.next d.number (next_batch r) (opened_at r) bytes
  are = next_batch-of_disk r d bytes is.is_ring.of_disk next

  k_low : next_batch r ≤ length r.opened
  k_low = omega arith

  k_is : next_batch r ≡ min (length r.opened) (d.geometry.sections - d.next)
  k_is = omega (arith, ap (λ g. g.sections) is.is_ring.geometry, is.is_ring.next)

  -- The entries of the batch's sections are those of the opened ones.
  opened_run : map (opened_at r) (range_with_len d.next (next_batch r)) ≡ take (next_batch r) r.opened
  opened_run = ap (λ (m : ℕ). map (opened_at r) (range_with_len m k)) (sym is.is_ring.next) ∙ run_of r.next k r.opened k_low

  pub told : batch_entries d (next_batch r) bytes ≡ entries_of (take (next_batch r) r.opened)
  told = (batch_law d k (opened_at r) bytes are).entries_are ∙ sym (entries_of-map (opened_at r) (range_with_len d.next k)) ∙ ap entries_of opened_run

  both : IsBatch d (next_batch r) bytes × IsRingOf (with_commit r) (after_commit d (next_batch r) bytes)
  both = ring_law r d (opened_at r) bytes is.sound is.is_ring.of_disk are told

  pub batch : IsBatch d (next_batch r) bytes
  batch = both.0

  fits : next_batch r + length r.committed ≤ d.geometry.sections
  fits = omega (arith, is.is_ring.fits, k_low)

  -- ---- the ring

  old_ : ℕ → List Entry
  old_ = entries_in d.geometry d.journal

  now_ : ℕ → List Entry
  now_ = entries_in d.geometry (with_batch d (next_batch r) bytes)

  length-behind : length (drop (next_batch r) (ring d.geometry.sections d.next)) ≡ d.geometry.sections - next_batch r
  length-behind =
      let whole = length-append (range_with_len d.next (n - d.next)) (range_with_len 0 d.next) in
      omega (arith, length-drop k (ring n d.next), whole, length-range_with_len d.next (n - d.next), length-range_with_len 0 d.next, inside)

  all_old : AllByRecursion (λ i. now_ i ≡ old_ i) (drop (next_batch r) (ring d.geometry.sections d.next))
  unfolding old_ now_
  all_old =
      subst (AllByRecursion (λ i. now_ i ≡ old_ i)) (sym (ring_rest n d.next k batch.fits)) (all_append (λ i. now_ i ≡ old_ i) (range_with_len (d.next + k) (n - (d.next + k))) (range_with_len 0 d.next)
      (all_run (λ i. now_ i ≡ old_ i) (d.next + k) (n - (d.next + k)) (λ i past low. entries_in-same d.geometry (with_batch d k bytes) d.journal i (λ s narrow. old_behind d k bytes is.sound is.is_ring.rests batch i s past narrow)))
      (all_run (λ i. now_ i ≡ old_ i) 0 d.next (λ i _ under. entries_in-same d.geometry (with_batch d k bytes) d.journal i (λ s narrow. old_below d k bytes is.sound is.is_ring.rests batch i s (omega arith) narrow))))

  kept_after : map (entries_in d.geometry (with_batch d (next_batch r) bytes)) (drop (d.geometry.sections - length (r.committed ++ take (next_batch r) r.opened)) (ring d.geometry.sections (next_after d.geometry.sections d.next (next_batch r))))
      ≡ r.committed ++ take (next_batch r) r.opened
  unfolding old_ now_
  kept_after =
      let count = n - (length r.committed + k) in
      let behind = drop k (ring n d.next) in
      let same : k + count ≡ n - length r.committed = omega (arith, fits) in
      ap (λ (m : ℕ). map now_ (drop (n - m) (ring n (next_after n d.next k)))) (sym (kept_size r))
      ∙ ap (λ (xs : List ℕ). map now_ (drop count xs)) (ring_after n d.next k batch.fits)
      ∙ ap (map now_) (drop-append-le count behind (range_with_len d.next k) (omega (arith, length-behind)))
      ∙ map-append now_ (drop count behind) (range_with_len d.next k)
      ∙ ap (λ (xs : List (List Entry)). xs ++ map now_ (range_with_len d.next k))
      (map-same now_ old_ (drop count behind) (all_drop (λ i. now_ i ≡ old_ i) count behind all_old)
      ∙ ap (map old_) (drop-drop count k (ring n d.next) ∙ ap (λ (m : ℕ). drop m (ring n d.next)) same)
      ∙ is.is_ring.kept)
      ∙ ap (λ (xs : List (List Entry)). r.committed ++ xs)
      (map_run-same d.next k now_ (opened_at r) (λ i above under.
      entries_in-same d.geometry (with_batch d k bytes) (batch_image d bytes) i (λ s narrow. new_in d k bytes is.sound is.is_ring.rests batch i s above under narrow)
      ∙ section_is d k (opened_at r) bytes are i above under)
      ∙ opened_run)

  ring_is : IsJournalRing (after_commit d (next_batch r) bytes) (with_commit r)
  ring_is = record {
    of_disk = both.1;
    kept = kept_after;
    some_committed = all_append _ r.committed (take k r.opened) is.is_ring.some_committed (all_take _ k r.opened is.is_ring.some_opened);
    some_opened = all_drop _ k r.opened is.is_ring.some_opened;
  }

  -- ---- the counts

  at_is : (j.next + length (front j d r is.counts)) % d.geometry.sections ≡ d.next
  at_is = ap (λ (m : ℕ). (j.next + m) % n) (length-front j d r is.counts) ∙ sym is.counts.next

  some_left : list_any (λ (s : SectionCounts). is_uncommitted s.state) is.counts.opened ≡ true
  some_left = sym (any-is j d r is.counts) ∙ some

  batched : IsBatchCounts d.geometry true (next_batch r) r.opened (committed_batch d.geometry.sections (j.next + length (front j d r is.counts)) (closed_end is.counts.opened))
  batched = batch-opened d.geometry true n (j.next + length (front j d r is.counts)) k r.opened (closed_end is.counts.opened) (omega (arith, inside)) (closed_end-opened d.geometry r.closed r.opened is.counts.opened is.counts.are_opened)
      k_low (omega (arith, at_is, k_is)) (λ less. omega (arith, at_is, less, k_is)) (omega (arith, at_is, inside))

  freed_same : freed_count (after_commit d (next_batch r) bytes) (with_commit r) ≡ freed_count d r
  freed_same = omega (arith, length-append d.entries (batch_entries d k bytes), ap length told, ap length (entries_of-append r.committed (take k r.opened)), length-append (entries_of r.committed) (entries_of (take k r.opened)))

  sections_then : committed_batch f.sections j.next (closed_end j.sections)
      ≡ is.counts.free ++ (committed_counts d.geometry (placed_count (after_commit d (next_batch r) bytes) (with_commit r)) (r.committed ++ take (next_batch r) r.opened) ++ batched.rest)
  sections_then =
      let c = is.counts in
      let p = placed_count d r in
      let none : p - length (entries_of r.committed) ≡ 0 = omega (arith, placed_part d r is.sound is.is_ring) in
      ap (λ (m : ℕ). committed_batch m j.next (closed_end j.sections)) (sections-is f d.format is.format)
      ∙ ap (λ (xs : List SectionCounts). committed_batch n j.next (closed_end xs)) (sections_are j d r c)
      ∙ ap (committed_batch n j.next) (closed_end-some (front j d r c) c.opened some_left)
      ∙ batch-front n j.next (front j d r c) (closed_end c.opened) (front-done j d r c)
      ∙ ap (λ (xs : List SectionCounts). front j d r c ++ xs) batched.is
      ∙ front-then j d r c (committed_counts d.geometry 0 (take k r.opened) ++ batched.rest)
      ∙ ap (λ (xs : List SectionCounts). c.free ++ xs) (sym (append_assoc (committed_counts d.geometry p r.committed) (committed_counts d.geometry 0 (take k r.opened)) batched.rest))
      ∙ ap (λ (m : ℕ). c.free ++ ((committed_counts d.geometry p r.committed ++ committed_counts d.geometry m (take k r.opened)) ++ batched.rest)) (sym none)
      ∙ ap (λ (xs : List SectionCounts). c.free ++ (xs ++ batched.rest)) (sym (counts-append d.geometry p r.committed (take k r.opened)))
      ∙ ap (λ (m : ℕ). c.free ++ (committed_counts d.geometry (d.placed - m) (r.committed ++ take k r.opened) ++ batched.rest)) (sym freed_same)

  next_then : next_after d.geometry.sections d.next (next_batch r) ≡ (j.next + (length is.counts.free + length (r.committed ++ take (next_batch r) r.opened))) % d.geometry.sections
  next_then =
      let at = j.next + (length is.counts.free + length r.committed) in
      let e : at + k ≡ j.next + (length is.counts.free + length (r.committed ++ take k r.opened)) = omega (arith, kept_size r) in
      ap (λ (m : ℕ). next_after n m k) is.counts.next
      ∙ next_mod n at k (omega (arith, inside)) (omega (arith, is.counts.next, k_is))
      ∙ ap (λ (m : ℕ). m % n) e

  counts_are : AreCounts (record j { sections = committed_batch f.sections j.next (closed_end j.sections) }) (after_commit d (next_batch r) bytes) (with_commit r)
  counts_are = record {
    free = is.counts.free;
    opened = batched.rest;
    sections = sections_then;
    all_free = is.counts.all_free;
    are_opened = batched.are;
    next = next_then;
  }

  pub after : IsJournalOf f h (record j { sections = committed_batch f.sections j.next (closed_end j.sections) }) (after_commit d (next_batch r) bytes) (with_commit r)
  after = record {
    format = is.format;
    sound = sound_after d k bytes is.sound is.is_ring.rests batch;
    is_ring = ring_is;
    counts = counts_are;
    history =
        let count = length (entries_of (take k r.opened)) in
        let past = history_committed d k bytes (uncommitted_entries r) count h (told ∙ sym (entries_of-take k r.opened)) is.history in
        subst (λ (xs : List Entry). IsHistoryOf (after_commit d (next_batch r) bytes) xs h) (entries_of-drop k r.opened) past;
  }

pub commit_law : CommitLaw
commit_law f h j j' d r bytes is told are =
    let tells = commit-some f.sections j j' told in (
      batch f h j d r bytes is tells.0 are,
      subst (λ (k : JournalCounts). IsJournalOf f h k (after_commit d (next_batch r) bytes) (with_commit r)) tells.1 (after f h j d r bytes is tells.0 are),
    )
