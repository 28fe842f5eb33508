-- The other steps: sealing, flushing, placing, settling, opening.
use Rattle.std.proofs.Common.{◌≡◌, ◌⊎◌, inl, inr, ℕ, suc, ◌+◌, ◌-◌, ◌*◌, ◌%◌, ◌<◌, ◌≤◌, Bool, false, if◌then◌else◌, refl, sym, ◌∙◌, ap, subst, arith, Option, Some, None, option_map, List, [], ◌∷◌, ◌++◌, length, take, drop, map, filter_map, length-append, length-drop, append_assoc, append-nil}
use Rattle.std.specs.List.{AllByRecursion, list_any, flat_map, range_with_len}
use Rattle.std.proofs.Math.Seq.{take-add}
use Rattle.std.proofs.lemmas.Bool.{cases_Bool, cases_lt, cases_eq, eq-eqb, ne_eqb}
use Rattle.std.proofs.lemmas.List.{drop-drop, drop_all, take_all, take-map}
use Rattle.std.proofs.lemmas.List.Concat.{flat_map-append}
use Rattle.std.proofs.lemmas.List.FromFn.{length-range_with_len}
use Rattle.std.proofs.lemmas.Nat.{mod-mul-add}
use Rattle.std.proofs.lemmas.Option.{none-some, same_Some}
use Rattle.image_model.specs.Geometry.{Geometry, section_entries}
use Rattle.image_model.specs.Section.{Entry, entry_at}
use Rattle.image_model.specs.Walk.{ring}
use Rattle.device_model.specs.History.{BlockWrite, History, Written, Flushed, with_change, Begun}
use Rattle.device_model.specs.Journal.{SectionCounts, JournalCounts, Free, place_oldest, place, is_all_placed, as_settled, settle}
use Rattle.device_model.specs.Mode.{DeviceFormat, Journal}
use Rattle.device_model.specs.Progress.{opened_device}
use Rattle.device_model.specs.RoomLaws.{commits}
use Rattle.device_model.proofs.CommitAllLemmas.{commit_all_law}
use Rattle.place_model.specs.Format.{DiskFormat}
use Rattle.place_model.specs.Opened.{device_format, next_on, base_on, set_bits_on, awaiting_on, next_by, next_after_walk}
use Rattle.journal_model.proofs.OpeningLemmas.{opened_cells_law, state_law}
use Rattle.place_model.specs.Journal.{entries_in}
use Rattle.place_model.proofs.EachLemmas.{all_append, all_drop}
use Rattle.journal_model.specs.HistoryOf.{entry_of_write, IsHistoryOf}
use Rattle.journal_model.specs.JournaledDisk.{JournaledDisk, IsSound, Rests}
use Rattle.journal_model.specs.Steps.{IsFreeBut, oldest_entries, after_place, after_settle}
use Rattle.journal_model.proofs.CutOfLemmas.{ring_held}
use Rattle.journal_model.proofs.HistoryLemmas.{history_begins, history_flushed, history_placed}
use Rattle.journal_model.specs.Ring.{JournalRing, entries_of, uncommitted_entries, next_batch, with_commit, unplaced_from, with_settle, empty_ring}
use Rattle.journal_model.proofs.JournalRingLemmas.{entries_of-size, entries_of-map}
use Rattle.journal_laws.specs.CountLaws.{SealedLaw, FlushLaw, FlushWriteLaw, CommitsLaw, PlaceLaw, IdlePlaceLaw, SettleLaw, IdleSettleLaw, TwoCommitsLaw}
use Rattle.journal_laws.specs.Device.{freed_count, placed_count, committed_counts, AreCounts, IsJournalRing, IsJournalOf, IsJournalDevice}
use Rattle.journal_laws.specs.OpeningLaws.{OpeningLaw, RecoveredLaw, NextLaw}
use Rattle.journal_laws.proofs.CommitLemmas.{idle_commit_law}
use Rattle.journal_laws.proofs.CountLemmas.{place-next, place-all, IsSettled, settle-counts, settle-none, settle-all}
use Rattle.journal_laws.proofs.RingLemmas.{drop-map, freed_is, freed_settled, committed_low}

-- ---- a sealed section

filter_map-map : {A B : Type 0} (f : A → Option B) (xs : List A) → filter_map f xs ≡ filter_map (λ (o : Option B). o) (map f xs)
filter_map-map f [] = refl
filter_map-map f (x ∷ xs) = rw (filter_map-map f xs) refl

pub sealed_law : SealedLaw
sealed_law shape section number entries bytes holds bears = record {
  numbers = bears;
  entries_are = filter_map-map (entry_at shape bytes) (range_with_len 0 (section_entries shape)) ∙ ap (filter_map (λ (o : Option Entry). o)) holds.entries_are;
}

-- ---- flush

-- The same device with another history.
with_history : (f : DeviceFormat) (h other : History) (j : JournalCounts) (d : JournaledDisk) (r : JournalRing) → IsJournalOf f h j d r
    → IsHistoryOf d (uncommitted_entries r) other → IsJournalOf f other j d r
with_history f h other j d r is history = record { format = is.format; sound = is.sound; is_ring = is.is_ring; counts = is.counts; history = history }

flushed_history : (d : JournaledDisk) (r : JournalRing) (h : History) → r.opened ≡ [] → h.pending ≡ None → IsHistoryOf d (uncommitted_entries r) h → IsHistoryOf d (uncommitted_entries r) (with_change h Flushed)
flushed_history d r h none idle is =
    let same : uncommitted_entries r ≡ [] = ap entries_of none in
    subst (λ (xs : List Entry). IsHistoryOf d xs (with_change h Flushed)) (sym same) (history_flushed d h idle (subst (λ (xs : List Entry). IsHistoryOf d xs h) same is))

written_history : (d : JournaledDisk) (xs : List Entry) (h : History) (write : BlockWrite) → IsHistoryOf d xs (with_change h (Begun write)) → IsHistoryOf d xs (with_change h (Written write))
written_history d xs h write is = record {
  opened = is.opened;
  opened_low = is.opened_low;
  base = is.base;
  again = is.again;
  writes = is.writes ∙ ap (map (entry_of_write d)) (sym (append-nil (h.writes ++ write ∷ [])));
  flushed = is.flushed;
}

pub flush_law : FlushLaw
flush_law f h j d r is none idle = with_history f h (with_change h Flushed) j d r is (flushed_history d r h none idle is.history)

pub flush_write_law : FlushWriteLaw
flush_write_law f h j d r write is none =
    with_history f (with_change h (Begun write)) (with_change (with_change h (Written write)) Flushed) j d r is
    (flushed_history d r (with_change h (Written write)) none refl (written_history d (uncommitted_entries r) h write is.history))

pub commits_law : CommitsLaw
commits_law f h j n d r is none = commit_all_law f.sections n j ((idle_commit_law f h (commits f.sections n j) d r is).0 none)

-- ---- place

module _ (f : DeviceFormat) (h : History) (j : JournalCounts) (d : JournaledDisk) (r : JournalRing) (is : IsJournalOf f h j d r) where
  abbrev p : ℕ
  p = placed_count d r

  low : freed_count d r ≤ d.placed
  low = omega (arith, freed_settled d r is.sound is.is_ring, is.sound.formed.settled_low)

  placing : d.placed < length d.entries → place j ≡ Some (record j { sections = is.counts.free ++ (committed_counts d.geometry (suc (placed_count d r)) r.committed ++ is.counts.opened) })
  placing less =
      let more : p < length (entries_of r.committed) = omega (arith, less, low, committed_low d r is.sound is.is_ring) in
      ap (option_map (λ (sections : List SectionCounts). let k : JournalCounts = record j { sections = sections } in k))
      (ap place_oldest is.counts.sections ∙ place-next d.geometry p r.closed is.counts.free r.committed r.opened is.counts.opened is.counts.all_free is.counts.are_opened more)

  pub resting : d.placed ≡ length d.entries → place j ≡ None
  resting all =
      let none : length (entries_of r.committed) ≤ p = omega (arith, all, low, committed_low d r is.sound is.is_ring) in
      ap (option_map (λ (sections : List SectionCounts). let k : JournalCounts = record j { sections = sections } in k))
      (ap place_oldest is.counts.sections ∙ place-all d.geometry p r.closed is.counts.free r.committed r.opened is.counts.opened is.counts.all_free is.counts.are_opened none)

  pub all_or_less : (d.placed < length d.entries) × (place j ≡ None → ⊥) ⊎ (d.placed ≡ length d.entries)
  all_or_less = elim (cases_lt d.placed (length d.entries)) [
    | inl less ↦ inl (less, λ none. none-some _ (sym none ∙ placing less))
    | inr all ↦ inr (omega (arith, all, is.sound.formed.placed_low))
  ]

  placed_sound : d.placed < length d.entries → IsSound (after_place d)
  placed_sound less = record {
    formed = record {
      has_geometry = is.sound.formed.has_geometry;
      is_geometry = is.sound.formed.is_geometry;
      no_bitmap = is.sound.formed.no_bitmap;
      settled_low = omega (arith, is.sound.formed.settled_low);
      placed_low = omega (arith, less);
      base = is.sound.formed.base;
      each = is.sound.formed.each;
    };
    has_walk = is.sound.has_walk;
    held = is.sound.held;
    start_low = is.sound.start_low;
  }

  pub placed_is : d.placed < length d.entries → IsJournalOf f h (record j { sections = is.counts.free ++ (committed_counts d.geometry (suc (placed_count d r)) r.committed ++ is.counts.opened) }) (after_place d) r
  placed_is less = record {
    format = is.format;
    sound = placed_sound less;
    is_ring = record {
      of_disk = record {
        geometry = is.is_ring.geometry;
        next = is.is_ring.next;
        number = is.is_ring.number;
        rests = record { at = is.is_ring.rests.at };
        free = record { some = is.is_ring.free.some; free = is.is_ring.free.free };
        fits = is.is_ring.fits;
        each = is.is_ring.each;
      };
      kept = is.is_ring.kept;
      some_committed = is.is_ring.some_committed;
      some_opened = is.is_ring.some_opened;
    };
    counts =
        let e : suc (placed_count d r) ≡ d.placed + 1 - freed_count d r = omega (arith, low) in
        record {
          free = is.counts.free;
          opened = is.counts.opened;
          sections = ap (λ (m : ℕ). is.counts.free ++ (committed_counts d.geometry m r.committed ++ is.counts.opened)) e;
          all_free = is.counts.all_free;
          are_opened = is.counts.are_opened;
          next = is.counts.next;
        };
    history = (history_placed d (uncommitted_entries r) h is.history).0;
  }

  pub place_law-at : (j' : JournalCounts) → place j ≡ Some j' → d.placed < length d.entries × IsJournalOf f h j' (after_place d) r
  place_law-at j' told = elim (cases_lt d.placed (length d.entries)) [
    | inl less ↦ (less, subst (λ (k : JournalCounts). IsJournalOf f h k (after_place d) r) (same_Some _ j' (sym (placing less) ∙ told)) (placed_is less))
    | inr all ↦ absurd (none-some j' (sym (resting (omega (arith, all, is.sound.formed.placed_low))) ∙ told))
  ]

pub place_law : PlaceLaw
place_law f h j j' d r is told = place_law-at f h j d r is j' told

pub idle_place_law : IdlePlaceLaw
idle_place_law f h j d r is = (resting f h j d r is, λ none. elim (all_or_less f h j d r is) [ inl less ↦ absurd (less.1 none) | inr all ↦ all ])

-- ---- settle

settle-some : (j j' : JournalCounts) → settle j ≡ Some j' → (let k : JournalCounts = record j { sections = map as_settled j.sections } in k) ≡ j'
settle-some j j' told =
    let by = λ (t : Bool). if t then Some (let k : JournalCounts = record j { sections = map as_settled j.sections } in k) else None in
    elim (cases_Bool (list_any is_all_placed j.sections)) [
      | inl some ↦ same_Some _ j' (sym (ap by some) ∙ told)
      | inr none ↦ absurd (none-some j' (sym (ap by none) ∙ told))
    ]

settle-idle : (j : JournalCounts) → settle j ≡ None → list_any is_all_placed j.sections ≡ false
settle-idle j told =
    let by = λ (t : Bool). if t then Some (let k : JournalCounts = record j { sections = map as_settled j.sections } in k) else None in
    elim (cases_Bool (list_any is_all_placed j.sections)) [
      | inl some ↦ absurd (none-some _ (sym told ∙ ap by some))
      | inr none ↦ none
    ]

module _ (f : DeviceFormat) (h : History) (j : JournalCounts) (d : JournaledDisk) (r : JournalRing) (is : IsJournalOf f h j d r) where
  abbrev n : ℕ
  n = d.geometry.sections

  abbrev q : ℕ
  q = placed_count d r

  abbrev k : ℕ
  k = length r.committed

  abbrev old_ : ℕ → List Entry
  old_ = entries_in d.geometry d.journal

  done : IsSettled d.geometry (placed_count d r) r.committed
  done = settle-counts d.geometry q r.committed is.is_ring.some_committed

  t_low : length done.gone ≤ length r.committed
  t_low = done.low

  left_size : length (unplaced_from (placed_count d r) r.committed) ≡ length r.committed - length done.gone
  left_size = ap length done.left ∙ length-drop (length done.gone) r.committed

  left_entries : length (entries_of r.committed) ≡ length (entries_of (take (length done.gone) r.committed)) + length (entries_of (unplaced_from (placed_count d r) r.committed))
  left_entries = omega (arith, entries_of-size (length done.gone) r.committed, ap (λ (xs : List (List Entry)). length (entries_of xs)) done.left)

  at_is : d.geometry.sections - length (unplaced_from (placed_count d r) r.committed) ≡ d.geometry.sections - length r.committed + length done.gone
  at_is = omega (arith, left_size, t_low, is.is_ring.free.some)

  kept_then : map (entries_in d.geometry d.journal) (drop (d.geometry.sections - length (unplaced_from (placed_count d r) r.committed)) (ring d.geometry.sections d.next)) ≡ unplaced_from (placed_count d r) r.committed
  kept_then =
      let t = length done.gone in
      ap (λ (m : ℕ). map old_ (drop m (ring n d.next))) at_is
      ∙ ap (map old_) (sym (drop-drop t (n - k) (ring n d.next)))
      ∙ sym (drop-map old_ t (drop (n - k) (ring n d.next)))
      ∙ ap (drop t) is.is_ring.kept
      ∙ sym done.left

  oldest_then : length (oldest_entries d (d.geometry.sections - length (unplaced_from (placed_count d r) r.committed))) ≡ length (oldest_entries d (d.geometry.sections - length r.committed)) + length (entries_of (take (length done.gone) r.committed))
  oldest_then =
      let t = length done.gone in
      let front = flat_map old_ (take (n - k) (ring n d.next)) in
      let more = take t (drop (n - k) (ring n d.next)) in
      let last : flat_map old_ more ≡ entries_of (take t r.committed) = sym (entries_of-map old_ more) ∙ ap entries_of (sym (take-map old_ t (drop (n - k) (ring n d.next)))) ∙ ap (λ (xs : List (List Entry)). entries_of (take t xs)) is.is_ring.kept in
      ap (λ (m : ℕ). length (oldest_entries d m)) at_is
      ∙ ap (λ (xs : List ℕ). length (flat_map old_ xs)) (take-add (n - k) t (ring n d.next))
      ∙ ap length (flat_map-append old_ (take (n - k) (ring n d.next)) more ∙ ap (λ (xs : List Entry). front ++ xs) last)
      ∙ length-append front (entries_of (take t r.committed))

  ring_then : IsJournalRing (after_settle d) (with_settle (placed_count d r) r)
  ring_then = record {
    of_disk = record {
      geometry = is.is_ring.geometry;
      next = is.is_ring.next;
      number = is.is_ring.number;
      rests = record { at = is.is_ring.rests.at };
      free = record {
        some = omega (arith, left_size, is.is_ring.free.some);
        free = omega (arith, oldest_then, freed_is d r is.sound is.is_ring, done.placed, freed_settled d r is.sound is.is_ring, is.sound.formed.settled_low);
      };
      fits = omega (arith, left_size, is.is_ring.fits);
      each = is.is_ring.each;
    };
    kept = kept_then;
    some_committed = subst (AllByRecursion (λ (x : List Entry). 1 ≤ length x)) (sym done.left) (all_drop _ (length done.gone) r.committed is.is_ring.some_committed);
    some_opened = is.is_ring.some_opened;
  }

  part_then : placed_count d r - length (entries_of (take (length done.gone) r.committed)) ≡ placed_count (after_settle d) (with_settle (placed_count d r) r)
  part_then = omega (arith, left_entries, committed_low d r is.sound is.is_ring)

  sections_then : map as_settled j.sections ≡ (is.counts.free ++ done.gone) ++ (committed_counts d.geometry (placed_count (after_settle d) (with_settle (placed_count d r) r)) (unplaced_from (placed_count d r) r.committed) ++ is.counts.opened)
  sections_then =
      let c = is.counts in
      let xs = unplaced_from q r.committed in
      let m = q - length (entries_of (take (length done.gone) r.committed)) in
      ap (map as_settled) c.sections
      ∙ settle-all d.geometry q r.closed c.free r.committed r.opened c.opened c.all_free c.are_opened
      ∙ ap (λ (ys : List SectionCounts). c.free ++ (ys ++ c.opened)) done.is
      ∙ ap (λ (ys : List SectionCounts). c.free ++ ys) (append_assoc done.gone (committed_counts d.geometry m xs) c.opened)
      ∙ sym (append_assoc c.free done.gone (committed_counts d.geometry m xs ++ c.opened))
      ∙ ap (λ (i : ℕ). (c.free ++ done.gone) ++ (committed_counts d.geometry i xs ++ c.opened)) part_then

  counts_then : AreCounts (record j { sections = map as_settled j.sections }) (after_settle d) (with_settle (placed_count d r) r)
  counts_then =
      let at : j.next + (length is.counts.free + k) ≡ j.next + (length (is.counts.free ++ done.gone) + length (unplaced_from q r.committed)) = omega (arith, length-append is.counts.free done.gone, left_size, t_low) in
      record {
        free = is.counts.free ++ done.gone;
        opened = is.counts.opened;
        sections = sections_then;
        all_free = all_append (λ (s : SectionCounts). s.state ≡ Free) is.counts.free done.gone is.counts.all_free done.all_free;
        are_opened = is.counts.are_opened;
        next = is.counts.next ∙ ap (λ (i : ℕ). i % n) at;
      }

  pub settled_is : IsJournalOf f h (record j { sections = map as_settled j.sections }) (after_settle d) (with_settle (placed_count d r) r)
  settled_is = record {
    format = is.format;
    sound = record {
      formed = record {
        has_geometry = is.sound.formed.has_geometry;
        is_geometry = is.sound.formed.is_geometry;
        no_bitmap = is.sound.formed.no_bitmap;
        settled_low = omega arith;
        placed_low = is.sound.formed.placed_low;
        base = is.sound.formed.base;
        each = is.sound.formed.each;
      };
      has_walk = is.sound.has_walk;
      held = is.sound.held;
      start_low = omega (arith, is.sound.start_low, is.sound.formed.settled_low);
    };
    is_ring = ring_then;
    counts = counts_then;
    history = (history_placed d (uncommitted_entries r) h is.history).1;
  }

  pub idle_settle_law-at : settle j ≡ None → with_settle (placed_count d r) r ≡ r
  idle_settle_law-at told =
      let same = settle-none d.geometry q is.counts.free r.committed is.counts.opened is.counts.all_free (ap (list_any is_all_placed) (sym is.counts.sections) ∙ settle-idle j told) in
      ap (λ (xs : List (List Entry)). let one : JournalRing = record r { committed = xs } in one) same

pub settle_law : SettleLaw
settle_law f h j j' d r is told = subst (λ (k : JournalCounts). IsJournalOf f h k (after_settle d) (with_settle (placed_count d r) r)) (settle-some j j' told) (settled_is f h j d r is)

pub idle_settle_law : IdleSettleLaw
idle_settle_law f h j d r is told = idle_settle_law-at f h j d r is told

-- ---- opening

module _ (d : JournaledDisk) (sound : IsSound d) (rests : Rests d) (settled : d.settled ≡ length d.entries) where
  length-ring : length (ring d.geometry.sections d.next) ≡ d.geometry.sections
  length-ring = omega (arith, length-append (range_with_len d.next (d.geometry.sections - d.next)) (range_with_len 0 d.next), length-range_with_len d.next (d.geometry.sections - d.next), length-range_with_len 0 d.next, rests.at.inside)

  none_kept : IsFreeBut d 0
  none_kept =
      let all : d.geometry.sections - 0 ≡ d.geometry.sections = omega arith in
      let whole : oldest_entries d (d.geometry.sections - 0) ≡ drop d.start d.entries =
      ap (oldest_entries d) all ∙ ap (flat_map (entries_in d.geometry d.journal)) (take_all d.geometry.sections (ring d.geometry.sections d.next) (omega (arith, length-ring))) ∙ ring_held d sound rests in
      record {
        some = omega arith;
        free = omega (arith, ap length whole, length-drop d.start d.entries, settled, sound.start_low);
      }

  pub opening_ring : IsJournalRing d (empty_ring d.geometry d.next d.number)
  opening_ring = record {
    of_disk = record {
      geometry = refl;
      next = refl;
      number = refl;
      rests = rests;
      free = none_kept;
      fits = omega arith;
      each = tt;
    };
    kept = ap (map (entries_in d.geometry d.journal)) (drop_all (d.geometry.sections - 0) (ring d.geometry.sections d.next) (omega (arith, length-ring)));
    some_committed = tt;
    some_opened = tt;
  }

  pub opening_counts : AreCounts (record { next = d.next; sections = [] }) d (empty_ring d.geometry d.next d.number)
  opening_counts =
      let at : 0 * d.geometry.sections + d.next ≡ d.next + (0 + 0) = omega arith in
      record {
        free = [];
        opened = [];
        sections = refl;
        all_free = tt;
        are_opened = tt;
        next = sym (mod-mul-add 0 d.geometry.sections d.next rests.at.inside) ∙ ap (λ (m : ℕ). m % d.geometry.sections) at;
      }

pub opening_law : OpeningLaw
opening_law f d base set_bits awaiting format sound rests settled again same =
    let begins = history_begins d again in
    record {
      format = format;
      sound = sound;
      is_ring = opening_ring d sound rests settled;
      counts = opening_counts d sound rests settled;
      history = record {
        opened = begins.opened;
        opened_low = begins.opened_low;
        base = same;
        again = begins.again;
        writes = begins.writes;
        flushed = begins.flushed;
      };
    }

pub recovered_law : RecoveredLaw
recovered_law d image number tags c clear is =
    let blocks : is.now.geometry.blocks ≡ d.geometry.blocks = ap (λ (x : DiskFormat). x.geometry.blocks) is.same_format in
    let base : (b : ℕ) → b < is.now.geometry.blocks → is.now.base b ≡ base_on Journal d image b = λ b low.
    is.cells b (omega (arith, low, blocks)) ∙ opened_cells_law d image clear b in
    subst (λ (n : ℕ). IsJournalDevice (device_format Journal d) (opened_device (base_on Journal d image) n (set_bits_on Journal d image) (awaiting_on Journal d image)) is.now (empty_ring is.now.geometry is.now.next is.now.number)) is.next_is
    (opening_law (device_format Journal d) is.now (base_on Journal d image) (set_bits_on Journal d image) (awaiting_on Journal d image)
    (ap (device_format Journal) (sym is.same_format)) is.keeps.stands.sound is.rests is.settled
    (λ b low. is.again b (omega (arith, low, blocks))) base)

pub next_law : NextLaw
next_law d image plan geometry e =
    let told : next_on Journal d image ≡ next_by plan.state = ap next_after_walk e in
    record {
      rest = λ next number state. (told ∙ ap next_by state, record { at = (state_law d.geometry d.sectors image plan geometry e).rest next number state });
      mixed = λ number state. told ∙ ap next_by state;
      erasing = λ number state. told ∙ ap next_by state;
      blank = λ number state. told ∙ ap next_by state;
    }

-- ---- two commits

pub two_commits_law : TwoCommitsLaw
two_commits_law d r is =
    let n = r.geometry.sections in
    let k = next_batch r in
    let left = length-drop k r.opened in
    let one = with_commit r in
    let same = ap (λ (g : Geometry). g.sections) is.geometry in
    let inside : r.next < n = omega (arith, is.rests.at.inside, is.next, same) in
    let next : (n ≡ one.next + (n - one.next)) × (length (drop k r.opened) ≤ n - one.next) = elim (cases_eq (r.next + k) n) [
      | inl end ↦
          let zero_ : one.next ≡ 0 = rw (eq-eqb (r.next + k) n end) refl in
          (omega (arith, zero_), omega (arith, zero_, left, is.fits, same))
      | inr other ↦
          let next_ : one.next ≡ r.next + k = rw (ne_eqb (r.next + k) n other) refl in
          (omega (arith, next_, inside, other), omega (arith, next_, left, is.fits, same, inside, other))
    ] in
    drop_all (next_batch one) (drop k r.opened) (omega (arith, next.1))
