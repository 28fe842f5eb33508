-- The ring of the sections of a journal: the entries of its sections, and a commit.
use Rattle.std.proofs.Common.{◌≡◌, inl, inr, ℕ, suc, ◌+◌, ◌≤◌, ltb, Bool, true, refl, sym, ◌∙◌, ap, subst, arith, List, [], ◌∷◌, ◌++◌, length, take, drop, map, length-append, length-take, length-drop, append_assoc, append-nil}
use Rattle.std.specs.List.{AllByRecursion, flat_map}
use Rattle.std.proofs.Math.Seq.{drop-append_seam, take-append_seam}
use Rattle.std.proofs.lemmas.Bool.{false≢true, or_cases, or_left, or_right, ltb-true, lt-ltb}
use Rattle.std.proofs.lemmas.List.{take-append-drop}
use Rattle.std.proofs.lemmas.List.Concat.{flat_map-append}
use Rattle.image_model.specs.Cells.{salt_of}
use Rattle.image_model.specs.Geometry.{Geometry}
use Rattle.image_model.specs.Section.{Entry}
use Rattle.place_model.proofs.EachLemmas.{all_flat, all_append, all_take, all_drop}
use Rattle.journal_model.specs.Batch.{AreSections}
use Rattle.journal_model.specs.Cuts.{next_after, number_after}
use Rattle.journal_model.specs.Entries.{IsBlockEntry}
use Rattle.journal_model.specs.JournaledDisk.{JournaledDisk, IsSound}
use Rattle.journal_model.specs.Ring.{JournalRing, entries_of, takes_more, has_open_section, put_last, FreeSectionLaw, next_batch, opened_at, IsNextBatch, with_commit, IsRingOf, RingLaw}
use Rattle.journal_model.specs.Steps.{IsBatch, IsFreeBut, batch_entries, after_commit}
use Rattle.journal_model.proofs.BatchLemmas.{has_sections}
use Rattle.journal_model.proofs.CommittedLemmas.{rests_after}
use Rattle.journal_model.proofs.FreeLemmas.{room_law, kept_law}

-- ---- joined sections

pub entries_of-append : (xs ys : List (List Entry)) → entries_of (xs ++ ys) ≡ entries_of xs ++ entries_of ys
entries_of-append xs ys = flat_map-append (λ entries. entries) xs ys

pub split : (k : ℕ) (xs : List (List Entry)) → entries_of xs ≡ entries_of (take k xs) ++ entries_of (drop k xs)
split k xs = ap entries_of (sym (take-append-drop k xs)) ∙ entries_of-append (take k xs) (drop k xs)

pub entries_of-take : (k : ℕ) (xs : List (List Entry)) → take (length (entries_of (take k xs))) (entries_of xs) ≡ entries_of (take k xs)
entries_of-take k xs = ap (take (length (entries_of (take k xs)))) (split k xs) ∙ take-append_seam (entries_of (take k xs)) (entries_of (drop k xs))

pub entries_of-drop : (k : ℕ) (xs : List (List Entry)) → drop (length (entries_of (take k xs))) (entries_of xs) ≡ entries_of (drop k xs)
entries_of-drop k xs = ap (drop (length (entries_of (take k xs)))) (split k xs) ∙ drop-append_seam (entries_of (take k xs)) (entries_of (drop k xs))

pub entries_of-size : (k : ℕ) (xs : List (List Entry)) → length (entries_of xs) ≡ length (entries_of (take k xs)) + length (entries_of (drop k xs))
entries_of-size k xs = ap length (split k xs) ∙ length-append (entries_of (take k xs)) (entries_of (drop k xs))

pub entries_of-map : (f : ℕ → List Entry) (ns : List ℕ) → entries_of (map f ns) ≡ flat_map f ns
entries_of-map f [] = refl
entries_of-map f (n ∷ ns) = ap (λ (xs : List Entry). f n ++ xs) (entries_of-map f ns)

pub entries_of-push : (entry : Entry) (xs : List (List Entry)) → entries_of (xs ++ (entry ∷ []) ∷ []) ≡ entries_of xs ++ entry ∷ []
entries_of-push entry xs = entries_of-append xs ((entry ∷ []) ∷ [])

pub entries_of-put_last : (entry : Entry) (entries : ℕ) (closed : Bool) (xs : List (List Entry)) → takes_more entries closed xs ≡ true → entries_of (put_last entry xs) ≡ entries_of xs ++ entry ∷ []
entries_of-put_last entry entries closed [] room = absurd (false≢true room)
entries_of-put_last entry entries closed (x ∷ []) room = append-nil (x ++ entry ∷ []) ∙ ap (λ (xs : List Entry). xs ++ entry ∷ []) (sym (append-nil x))
entries_of-put_last entry entries closed (x ∷ y ∷ xs) room =
    ap (λ (ys : List Entry). x ++ ys) (entries_of-put_last entry entries closed (y ∷ xs) room) ∙ sym (append_assoc x (entries_of (y ∷ xs)) (entry ∷ []))

pub length-put_last : (entry : Entry) (xs : List (List Entry)) → length (put_last entry xs) ≡ length xs
length-put_last entry [] = refl
length-put_last entry (x ∷ []) = refl
length-put_last entry (x ∷ y ∷ xs) = ap suc (length-put_last entry (y ∷ xs))

pub all-put_last : (P : Entry → Type 0) (entry : Entry) (xs : List (List Entry)) → P entry → AllByRecursion (AllByRecursion P) xs → AllByRecursion (AllByRecursion P) (put_last entry xs)
all-put_last P entry [] is all = tt
all-put_last P entry (x ∷ []) is all = (all_append P x (entry ∷ []) all.0 (is, tt), tt)
all-put_last P entry (x ∷ y ∷ xs) is all = (all.0, all-put_last P entry (y ∷ xs) is all.1)

pub some-put_last : (entry : Entry) (xs : List (List Entry)) → AllByRecursion (λ (x : List Entry). 1 ≤ length x) xs → AllByRecursion (λ (x : List Entry). 1 ≤ length x) (put_last entry xs)
some-put_last entry [] all = tt
some-put_last entry (x ∷ []) all = (omega (arith, length-append x (entry ∷ [])), tt)
some-put_last entry (x ∷ y ∷ xs) all = (all.0, some-put_last entry (y ∷ xs) all.1)

-- ---- a commit

-- The committed sections after it.
pub kept_size : (r : JournalRing) → length r.committed + next_batch r ≡ length (with_commit r).committed
kept_size r = omega (arith, length-append r.committed (take (next_batch r) r.opened), length-take (next_batch r) r.opened)

-- On its disk the next batch is one of sections from where writing goes on there.
pub next_batch-of_disk : (r : JournalRing) (d : JournaledDisk) (bytes : List ℕ) → IsRingOf r d → IsNextBatch r bytes → AreSections d.geometry.shape d.next d.number (next_batch r) (opened_at r) bytes
next_batch-of_disk r d bytes is are =
    subst (λ (n : ℕ). AreSections d.geometry.shape d.next n (next_batch r) (opened_at r) bytes) is.number
    (subst (λ (n : ℕ). AreSections d.geometry.shape n r.number (next_batch r) (opened_at r) bytes) is.next
    (subst (λ (g : Geometry). AreSections g.shape r.next r.number (next_batch r) (opened_at r) bytes) is.geometry are))

module _ (r : JournalRing) (d : JournaledDisk) (entries : ℕ → List Entry) (bytes : List ℕ) (sound : IsSound d) (is : IsRingOf r d)
    (are : AreSections d.geometry.shape d.next d.number (next_batch r) entries bytes) (told : batch_entries d (next_batch r) bytes ≡ entries_of (take (next_batch r) r.opened)) where
  abbrev k : ℕ
  k = next_batch r

  sections_are : r.geometry.sections ≡ d.geometry.sections
  sections_are = ap (λ g. g.sections) is.geometry

  batch_fits : next_batch r + length r.committed ≤ d.geometry.sections
  batch_fits = omega (arith, is.fits)

  batch : IsBatch d (next_batch r) bytes
  batch = record {
    fits = omega (arith, is.rests.at.inside, sections_are, is.next);
    size = are.size;
    numbers = (has_sections d k entries bytes are).numbers;
    each = subst (AllByRecursion (IsBlockEntry d.key (salt_of d.superblock) d.geometry)) (sym told)
        (all_flat (IsBlockEntry d.key (salt_of d.superblock) d.geometry) (take k r.opened) (all_take _ k r.opened is.each));
    room = room_law d (length r.committed) k is.free batch_fits;
  }

  after : IsRingOf (with_commit r) (after_commit d (next_batch r) bytes)
  after = record {
    geometry = is.geometry;
    next = ap (λ (n : ℕ). next_after n r.next k) sections_are ∙ ap (λ (n : ℕ). next_after d.geometry.sections n k) is.next;
    number = ap (λ (n : ℕ). number_after n r.next k r.number) sections_are
        ∙ ap (λ (n : ℕ). number_after d.geometry.sections n k r.number) is.next
        ∙ ap (number_after d.geometry.sections d.next k) is.number;
    rests = rests_after d k bytes sound is.rests batch;
    free =
        let size : k + length r.committed ≡ length (with_commit r).committed = omega (arith, kept_size r) in
        subst (λ (m : ℕ). IsFreeBut (after_commit d k bytes) m) size (kept_law d (length r.committed) k bytes sound is.rests batch is.free batch_fits);
    fits = omega (arith, is.fits, kept_size r, length-drop k r.opened);
    each = all_drop _ k r.opened is.each;
  }

-- ---- for callers

pub ring_law : RingLaw
ring_law r d entries bytes sound is are told = (batch r d entries bytes sound is are told, after r d entries bytes sound is are told)

pub free_section_law : FreeSectionLaw
free_section_law r =
    let free = ltb (length r.opened + length r.committed) r.geometry.sections in (
      λ room. elim (or_cases (has_open_section r) free room) [
        | inl more ↦ inl more
        | inr next ↦ inr (ltb-true (length r.opened + length r.committed) r.geometry.sections next)
      ],
      λ either. elim either [
        | inl more ↦ or_left (has_open_section r) free more
        | inr has ↦ or_right (has_open_section r) free (lt-ltb (length r.opened + length r.committed) r.geometry.sections has)
      ],
    )
