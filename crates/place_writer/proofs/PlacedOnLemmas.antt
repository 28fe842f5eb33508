-- The disk and the ring together, after an entry is placed and after what is placed is settled.
use Rattle.std.proofs.Common.{◌≡◌, ℕ, zero, suc, ◌+◌, ◌-◌, ◌≤◌, sym, ◌∙◌, ap, arith, Some, List, [], ◌∷◌, ◌++◌, length, map, take, drop, slice_get, length-append, length-drop}
use Rattle.std.specs.List.{flat_map}
use Rattle.std.proofs.Math.Seq.{take-add}
use Rattle.std.proofs.lemmas.List.{drop-drop, take-map}
use Rattle.std.proofs.lemmas.List.Concat.{flat_map-append}
use Rattle.std.proofs.lemmas.Option.{slice_get_past}
use Rattle.disk_model.specs.Disk.{Content, Image}
use Rattle.disk_model.specs.Moments.{EachMoment}
use Rattle.disk_model.proofs.MomentsLemmas.{EachMoment-weaker}
use Rattle.image_model.specs.Section.{Entry}
use Rattle.image_model.specs.Walk.{ring as ring_at}
use Rattle.place_model.specs.Journal.{entries_in}
use Rattle.place_model.proofs.EachLemmas.{all_drop}
use Rattle.journal_laws.specs.Device.{IsJournalRing, freed_count, placed_count}
use Rattle.journal_laws.proofs.RingLemmas.{committed_low, drop-map, freed_is, freed_settled, held_at}
use Rattle.journal_model.specs.JournaledDisk.{JournaledDisk, IsCutOf, IsSound, StandsFor}
use Rattle.journal_model.specs.Ring.{JournalRing, entries_of}
use Rattle.journal_model.specs.Steps.{after_place, after_settle, oldest_entries}
use Rattle.journal_model.proofs.JournalRingLemmas.{entries_of-map, entries_of-size}
use Rattle.journal_model.proofs.StepLemmas.{standing_law}
use Rattle.tag_store.specs.Store.{Store}
use Rattle.place_writer.specs.Cells.{HasCells}
use Rattle.place_writer.specs.Moves.{IsPlacedOn, StandsThrough}
use Rattle.place_writer.specs.Placement.{placed_in, without}
use Rattle.place_writer.specs.declared.placement.Placement.{Placement}

get_in_drop : (n : ℕ) (xs : List Entry) (k : ℕ) → slice_get (drop n xs) k ≡ slice_get xs (n + k)
get_in_drop zero xs k = ap (slice_get xs) (let e : k ≡ 0 + k = omega arith in e)
get_in_drop (suc n) [] k = slice_get_past [] k (omega arith) ∙ sym (slice_get_past [] (suc n + k) (omega arith))
get_in_drop (suc n) (x ∷ xs) k = get_in_drop n xs k ∙ ap (slice_get (x ∷ xs)) (let e : suc (n + k) ≡ suc n + k = omega arith in e)

-- ---- cuts

-- An image that is a cut of the disk with one placed more is a cut of the disk,
pub cuts_placed : (d : JournaledDisk) {a b : List Content} → EachMoment a b (StandsFor (after_place d)) → StandsThrough (after_place d) d a b
cuts_placed d moments = record {
  stands = moments;
  cuts = EachMoment-weaker (λ c stands image of. same image (standing_law (after_place d) c stands image of)) moments;
}
  where
    same : (image : Image) → IsCutOf (after_place d) [] image → IsCutOf d [] image
    same image is = record { opens = is.opens; joined = is.joined; joined_low = is.joined_low; cells = is.cells }

-- and so is each of a disk that stands for it.
pub cuts_kept : (d : JournaledDisk) {a b : List Content} → EachMoment a b (StandsFor d) → StandsThrough d d a b
cuts_kept d moments = record { stands = moments; cuts = EachMoment-weaker (λ c stands image of. standing_law d c stands image of) moments }

module _ (d : JournaledDisk) (p : Placement) (ring : JournalRing) (store : Store) {a : List Content} (on : IsPlacedOn d p ring store a) where
  sound : IsSound d
  sound = on.cells.sound

  -- ---- an entry is placed

  pub next_on : (entry : Entry) → slice_get (entries_of ring.committed) (placed_in p ring) ≡ Some entry → slice_get d.entries d.placed ≡ Some entry
  next_on entry e =
      let at : freed_count d ring + placed_in p ring ≡ d.placed = omega (arith, on.placed, freed_settled d ring sound on.ring_, sound.formed.settled_low) in
      ap (slice_get d.entries) (sym at)
      ∙ sym (get_in_drop (freed_count d ring) d.entries (placed_in p ring))
      ∙ ap (λ (xs : List Entry). slice_get xs (placed_in p ring)) (held_at d ring sound on.ring_)
      ∙ e

  pub placed_on : (new : Placement) (now : Store) {b : List Content} → placed_in new ring ≡ placed_in p ring + 1 → HasCells (after_place d) now b → IsPlacedOn (after_place d) new ring now b
  placed_on new now next cells = record {
    ring_ = record {
      of_disk = record {
        geometry = on.ring_.geometry;
        next = on.ring_.next;
        number = on.ring_.number;
        rests = record { at = on.ring_.rests.at };
        free = record { some = on.ring_.free.some; free = on.ring_.free.free };
        fits = on.ring_.fits;
        each = on.ring_.each;
      };
      kept = on.ring_.kept;
      some_committed = on.ring_.some_committed;
      some_opened = on.ring_.some_opened;
    };
    placed = omega (arith, next, on.placed, freed_settled d ring sound on.ring_, sound.formed.settled_low);
    cells = cells;
  }

  -- ---- what is placed is settled

  module _ (count : ℕ) (low : count ≤ length ring.committed) (within : length (entries_of (take count ring.committed)) ≤ placed_count d ring) where
    abbrev n : ℕ
    n = d.geometry.sections

    abbrev k : ℕ
    k = length ring.committed

    abbrev old_ : ℕ → List Entry
    old_ = entries_in d.geometry d.journal

    left_size : length (drop count ring.committed) ≡ length ring.committed - count
    left_size = length-drop count ring.committed

    at_is : d.geometry.sections - length (drop count ring.committed) ≡ d.geometry.sections - length ring.committed + count
    at_is = omega (arith, left_size, low, on.ring_.free.some)

    kept_then : map (entries_in d.geometry d.journal) (drop (d.geometry.sections - length (drop count ring.committed)) (ring_at d.geometry.sections d.next)) ≡ drop count ring.committed
    kept_then =
        ap (λ (m : ℕ). map old_ (drop m (ring_at n d.next))) at_is
        ∙ ap (map old_) (sym (drop-drop count (n - k) (ring_at n d.next)))
        ∙ sym (drop-map old_ count (drop (n - k) (ring_at n d.next)))
        ∙ ap (drop count) on.ring_.kept

    oldest_then : length (oldest_entries d (d.geometry.sections - length (drop count ring.committed))) ≡ length (oldest_entries d (d.geometry.sections - length ring.committed)) + length (entries_of (take count ring.committed))
    oldest_then =
        let front = flat_map old_ (take (n - k) (ring_at n d.next)) in
        let more = take count (drop (n - k) (ring_at n d.next)) in
        let last : flat_map old_ more ≡ entries_of (take count ring.committed) = sym (entries_of-map old_ more) ∙ ap entries_of (sym (take-map old_ count (drop (n - k) (ring_at n d.next)))) ∙ ap (λ (xs : List (List Entry)). entries_of (take count xs)) on.ring_.kept in
        ap (λ (m : ℕ). length (oldest_entries d m)) at_is
        ∙ ap (λ (xs : List ℕ). length (flat_map old_ xs)) (take-add (n - k) count (ring_at n d.next))
        ∙ ap length (flat_map-append old_ (take (n - k) (ring_at n d.next)) more ∙ ap (λ (xs : List Entry). front ++ xs) last)
        ∙ length-append front (entries_of (take count ring.committed))

    ring_then : IsJournalRing (after_settle d) (without count ring)
    ring_then = record {
      of_disk = record {
        geometry = on.ring_.geometry;
        next = on.ring_.next;
        number = on.ring_.number;
        rests = record { at = on.ring_.rests.at };
        free = record {
          some = omega (arith, left_size, on.ring_.free.some);
          free = omega (arith, oldest_then, freed_is d ring sound on.ring_, within, freed_settled d ring sound on.ring_, sound.formed.settled_low);
        };
        fits = omega (arith, left_size, on.ring_.fits);
        each = on.ring_.each;
      };
      kept = kept_then;
      some_committed = all_drop (λ (x : List Entry). 1 ≤ length x) count ring.committed on.ring_.some_committed;
      some_opened = on.ring_.some_opened;
    }

  pub settled_on : (now : Store) {b : List Content} → p.sections ≤ length ring.committed → HasCells (after_settle d) now b
      → IsPlacedOn (after_settle d) (record { sections = 0; entries = p.entries }) (without p.sections ring) now b
  settled_on now low cells =
      let within : length (entries_of (take p.sections ring.committed)) ≤ placed_count d ring = omega (arith, on.placed) in
      record {
        ring_ = ring_then p.sections low within;
        placed = omega (arith, on.placed, entries_of-size p.sections ring.committed, committed_low d ring sound on.ring_, freed_settled d ring sound on.ring_, sound.formed.settled_low);
        cells = cells;
      }
