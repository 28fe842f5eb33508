-- What a close writes: batches, and then the entries that are not placed.
use Rattle.std.proofs.Common.{◌≡◌, ℕ, zero, suc, ◌+◌, ◌-◌, ◌<◌, ◌≤◌, refl, sym, ◌∙◌, ap, subst, arith, Option, Some, None, List, [], ◌∷◌, ◌++◌, length, drop, take, get_or, slice_get, length-append, length-drop, append_assoc}
use Rattle.std.specs.List.{Contains}
use Rattle.std.proofs.lemmas.List.{get_or-drop, get_or_append_left, take-append-drop}
use Rattle.std.proofs.lemmas.Option.{get_or_from_slice_get, slice_get_within}
use Rattle.disk_model.specs.Disk.{Content, OnlyAdds}
use Rattle.disk_model.specs.Moments.{EachSince}
use Rattle.disk_model.proofs.MomentsLemmas.{EachMoment-kept, adds_then, no_moment}
use Rattle.image_model.specs.Geometry.{Geometry}
use Rattle.image_model.specs.Section.{Entry}
use Rattle.journal_laws.specs.Device.{block_of}
use Rattle.journal_model.specs.Ring.{JournalRing, entries_of, next_batch, with_commit}
use Rattle.journal_model.proofs.JournalRingLemmas.{entries_of-append}
use Rattle.journal_ring.specs.declared.ring.Moved.{Moved}
use Rattle.journal_ring.specs.declared.ring.Moved.TheVariants.{Did, Idle}
use Rattle.replay.specs.Moves.{HasPlaced, WritesEntry, WritesNext}
use Rattle.replay.specs.Placement.{placed_in}
use Rattle.place_model.specs.RecoveryWrites.{IsOfPlacing}
use Rattle.replay.proofs.WritesLemmas.{among_more, entry_adds, tags_add}
use Rattle.tag_store.specs.Store.{IsMarkedTags, Store}
use Rattle.journal_mode.specs.Closing.{WritesAll, WritesEntries, committed_to_place, entries_to_place}
use Rattle.journal_mode.specs.Commits.{WritesBatches, after_batch, after_batch_of, after_flush, after_one}
use Rattle.journal_mode.specs.Journal.{PlacedRing, sections_of}

-- ---- what is behind the first entries

drop_told : (n k : ℕ) (xs : List Entry) (x : Entry) → slice_get xs k ≡ Some x → n ≤ k → Contains (drop n xs) x
drop_told n k xs x told low =
    let within = slice_get_within xs k x told in
    let at : n + (k - n) ≡ k = omega (arith, low) in
    (k - n, omega (arith, length-drop n xs, within, low), get_or-drop n xs (k - n) x ∙ ap (λ (i : ℕ). get_or xs i x) at ∙ get_or_from_slice_get xs k x x told)

drop_fewer : (n m : ℕ) (xs : List Entry) (x : Entry) → n ≤ m → Contains (drop m xs) x → Contains (drop n xs) x
drop_fewer n m xs x low has =
    let at : n + (m - n + has.0) ≡ m + has.0 = omega (arith, low) in (
      m - n + has.0,
      omega (arith, length-drop n xs, length-drop m xs, has.1, low),
      get_or-drop n xs (m - n + has.0) x ∙ ap (λ (i : ℕ). get_or xs i x) at ∙ sym (get_or-drop m xs has.0 x) ∙ has.2,
    )

drop_longer : (n : ℕ) (xs ys : List Entry) (x : Entry) → Contains (drop n xs) x → Contains (drop n (xs ++ ys)) x
drop_longer n xs ys x has =
    let inside : n + has.0 < length xs = omega (arith, length-drop n xs, has.1) in (
      has.0,
      omega (arith, length-drop n (xs ++ ys), length-append xs ys, inside),
      get_or-drop n (xs ++ ys) has.0 x ∙ get_or_append_left xs ys x (n + has.0) inside ∙ sym (get_or-drop n xs has.0 x) ∙ has.2,
    )

-- ---- entries are placed

-- What is written of the next entry is so of the committed ones that were to be placed.
pub next_adds : (old journal : PlacedRing) {a b : List Content} → journal.ring ≡ old.ring → placed_in old.placement old.ring ≤ placed_in journal.placement journal.ring
    → WritesNext journal.placement journal.ring a b → WritesEntries old.ring.geometry (committed_to_place old) a b
next_adds old journal {a} {b} same more writes =
    by (slice_get (entries_of old.ring.committed) (placed_in journal.placement old.ring)) refl (subst (λ (r : JournalRing). WritesNext journal.placement r a b) same writes)
  where
    by : (next : Option Entry) → slice_get (entries_of old.ring.committed) (placed_in journal.placement old.ring) ≡ next → WritesEntry old.ring.geometry next a b
        → WritesEntries old.ring.geometry (committed_to_place old) a b
    by (Some entry) told m =
        let g = old.ring.geometry in
        let low : placed_in old.placement old.ring ≤ placed_in journal.placement old.ring = omega (arith, more, ap (placed_in journal.placement) same) in
        among_more g (λ (e : Entry). e ≡ entry) (Contains (committed_to_place old))
        (λ e is. subst (Contains (committed_to_place old)) (sym is) (drop_told (placed_in old.placement old.ring) (placed_in journal.placement old.ring) (entries_of old.ring.committed) entry told low))
        (entry_adds g g entry (block_of g entry) refl refl m)
    by None told m = EachMoment-kept _ m

-- As many are placed then, or more.
pub more_placed : {A : Type 0} (old journal new : PlacedRing) (before after : Store) (moved : Moved) (first last : A) → HasPlaced moved journal.placement new.placement journal.ring before after first last → new.ring ≡ journal.ring
    → placed_in old.placement old.ring ≤ placed_in journal.placement journal.ring → placed_in old.placement old.ring ≤ placed_in new.placement new.ring
more_placed old journal new before after Did first last has same low = omega (arith, low, has.next, ap (placed_in new.placement) same)
more_placed old journal new before after Idle first last has same low = omega (arith, low, ap (λ p. placed_in p journal.ring) has.placement, ap (placed_in new.placement) same)

-- ---- all is committed

more_taken : (k : ℕ) (xs ys : List (List Entry)) → length (entries_of (take k xs)) ≤ length (entries_of (take k (xs ++ ys)))
more_taken zero xs ys = omega arith
more_taken (suc k) [] ys = omega arith
more_taken (suc k) (x ∷ xs) ys = omega (arith, length-append x (entries_of (take k xs)), length-append x (entries_of (take k (xs ++ ys))), more_taken k xs ys)

-- What is to be placed once a batch is committed was so before.
batch_to_place : (journal : PlacedRing) (x : Entry) → Contains (entries_to_place (after_batch journal)) x → Contains (entries_to_place journal) x
batch_to_place journal x has =
    let ring = journal.ring in
    let k = next_batch ring in
    let all : sections_of (with_commit ring) ≡ sections_of ring = append_assoc ring.committed (take k ring.opened) (drop k ring.opened) ∙ ap (λ (xs : List (List Entry)). ring.committed ++ xs) (take-append-drop k ring.opened) in
    let more : placed_in journal.placement ring ≤ placed_in journal.placement (with_commit ring) = omega (arith, more_taken journal.placement.sections ring.committed (take k ring.opened)) in
    drop_fewer (placed_in journal.placement ring) (placed_in journal.placement (with_commit ring)) (entries_of (sections_of ring)) x more
    (subst (λ (xs : List (List Entry)). Contains (drop (placed_in journal.placement (with_commit ring)) (entries_of xs)) x) all has)

one_to_place : (journal : PlacedRing) (opened : List (List Entry)) (x : Entry) → Contains (entries_to_place (after_batch_of opened journal)) x → Contains (entries_to_place journal) x
one_to_place journal [] x has = has
one_to_place journal (section ∷ opened) x has = batch_to_place journal x has

-- ---- for callers

-- What is to be placed of a journal of which all is committed was to be placed before.
pub flushed_adds : (journal flushed : PlacedRing) {a b : List Content} → flushed ≡ after_flush journal → flushed.ring.geometry ≡ journal.ring.geometry
    → WritesEntries flushed.ring.geometry (committed_to_place flushed) a b → WritesEntries journal.ring.geometry (entries_to_place journal) a b
flushed_adds journal flushed {a} {b} is same m =
    let g = journal.ring.geometry in
    among_more g (Contains (committed_to_place flushed)) (Contains (entries_to_place journal))
    (λ x has. one_to_place journal journal.ring.opened x (one_to_place (after_one journal) (after_one journal).ring.opened x
    (subst (λ (j : PlacedRing). Contains (entries_to_place j) x) is
    (subst (λ (xs : List Entry). Contains (drop (placed_in flushed.placement flushed.ring) xs) x) (sym (entries_of-append flushed.ring.committed flushed.ring.opened))
    (drop_longer (placed_in flushed.placement flushed.ring) (entries_of flushed.ring.committed) (entries_of flushed.ring.opened) x has)))))
    (subst (λ (y : Geometry). WritesEntries y (committed_to_place flushed) a b) same m)

-- Batches alone are a part of a close,
pub batches_only : (journal : PlacedRing) {a b : List Content} → WritesBatches journal a b → WritesAll journal a b
batches_only journal {a} {b} batches = record { middle = b; batches = batches; places = no_moment b _ }

-- then come entries,
pub then_entries : (journal : PlacedRing) {a b c : List Content} → WritesBatches journal a b → WritesEntries journal.ring.geometry (entries_to_place journal) b c → WritesAll journal a c
then_entries journal {a} {b} {c} batches places = record { middle = b; batches = batches; places = places }

-- and then sectors of tags.
pub then_tags : (journal : PlacedRing) (store : Store) {a b c : List Content} → journal.ring.geometry ≡ store.geometry → WritesAll journal a b → EachSince (OnlyAdds (IsMarkedTags store)) b c → WritesAll journal a c
then_tags journal store same all tags = record {
  middle = all.middle;
  batches = all.batches;
  places = adds_then (IsOfPlacing journal.ring.geometry (Contains (entries_to_place journal))) all.places (tags_add journal.ring.geometry store (Contains (entries_to_place journal)) same tags);
}
