-- An entry that is put.
use Rattle.std.proofs.Common.{◌≡◌, inl, inr, ℕ, ◌+◌, ◌*◌, ◌/◌, ◌%◌, ◌<◌, ◌≤◌, ltb, Bool, true, false, ◌||◌, if◌then◌else◌, refl, sym, ◌∙◌, ap, subst, arith, Option, Some, None, List, [], ◌∷◌, ◌++◌, length, count_by, length-append, append_assoc}
use Rattle.std.specs.Option.{is_some}
use Rattle.std.specs.List.{AllByRecursion}
use Rattle.std.proofs.Math.Nat.{mul-le-mul_right}
use Rattle.std.proofs.lemmas.Bool.{cases_Bool, false≢true, ltb-true}
use Rattle.std.proofs.lemmas.Nat.{div-mul-add, mod-mul-add}
use Rattle.std.proofs.lemmas.Option.{none-some, same_Some}
use Rattle.image_model.specs.Cells.{salt_of}
use Rattle.image_model.specs.Geometry.{Geometry, section_entries}
use Rattle.image_model.specs.Section.{Entry}
use Rattle.device_model.specs.History.{BlockWrite, History, Written, with_change, Begun}
use Rattle.device_model.specs.Journal.{SectionCounts, JournalCounts, is_unfreed, has_open_end, with_entry, opened_with, put}
use Rattle.device_model.specs.Mode.{DeviceFormat}
use Rattle.place_model.proofs.EachLemmas.{all_append}
use Rattle.journal_model.specs.Entries.{IsBlockEntry}
use Rattle.journal_model.specs.HistoryOf.{IsHistoryOf, entry_of_write}
use Rattle.journal_model.specs.JournaledDisk.{JournaledDisk}
use Rattle.journal_model.proofs.HistoryLemmas.{history_put}
use Rattle.journal_model.specs.Ring.{JournalRing, uncommitted_entries, takes_more, has_open_section, put_last, has_room, with_put, HasFreeSection}
use Rattle.journal_model.proofs.JournalRingLemmas.{entries_of-push, entries_of-put_last, length-put_last, all-put_last, some-put_last}
use Rattle.journal_laws.specs.CountLaws.{HasRoomLaw, PutLaw}
use Rattle.journal_laws.specs.Device.{placed_count, block_of, committed_counts, AreOpened, AreCounts, IsJournalRing, IsJournalOf}
use Rattle.journal_laws.proofs.FormatLemmas.{block_size-is, blocks-is, sections-is, entries-is}
use Rattle.journal_laws.proofs.CommitLemmas.{front, sections_are, front-done, front-then}
use Rattle.journal_laws.proofs.CountLemmas.{has_open_end-front, has_open_end-opened, with_entry-front, count-all, opened-put_last, opened-push}

-- What `put` gives, by its two tests.
put_by : ℕ → List SectionCounts → Bool → Bool → Option (List SectionCounts)
put_by b sections open_ free = if open_ then Some (with_entry b sections) else (if free then Some (sections ++ opened_with b ∷ []) else None)

put-is : (ring entries b : ℕ) (sections : List SectionCounts) (open_ free : Bool) → has_open_end entries sections ≡ open_ → ltb (count_by is_unfreed sections) ring ≡ free
    → put ring entries b sections ≡ put_by b sections open_ free
unfolding put_by
put-is ring entries b sections open_ free e e' =
    ap (λ (t : Bool). if t then Some (with_entry b sections) else (if ltb (count_by is_unfreed sections) ring then Some (sections ++ opened_with b ∷ []) else None)) e
    ∙ ap (λ (t : Bool). if open_ then Some (with_entry b sections) else (if t then Some (sections ++ opened_with b ∷ []) else None)) e'

module _ (f : DeviceFormat) (h : History) (j : JournalCounts) (d : JournaledDisk) (r : JournalRing) (is : IsJournalOf f h j d r) where
  entries_are : f.entries ≡ section_entries r.geometry.shape
  entries_are = entries-is f d.format is.format ∙ ap (λ (g : Geometry). section_entries g.shape) (sym is.is_ring.geometry)

  ring_size : f.sections ≡ r.geometry.sections
  ring_size = sections-is f d.format is.format ∙ ap (λ (g : Geometry). g.sections) (sym is.is_ring.geometry)

  open_is : has_open_end f.entries j.sections ≡ has_open_section r
  open_is =
      ap (has_open_end f.entries) (sections_are j d r is.counts)
      ∙ has_open_end-front f.entries (front j d r is.counts) is.counts.opened (front-done j d r is.counts)
      ∙ has_open_end-opened d.geometry r.closed f.entries r.opened is.counts.opened is.counts.are_opened
      ∙ ap (λ (m : ℕ). takes_more m r.closed r.opened) entries_are

  count_is : count_by is_unfreed j.sections ≡ length r.opened + length r.committed
  count_is = ap (count_by is_unfreed) is.counts.sections
      ∙ count-all d.geometry (placed_count d r) r.closed is.counts.free r.committed r.opened is.counts.opened is.counts.all_free is.counts.are_opened

  free_is : ltb (count_by is_unfreed j.sections) f.sections ≡ ltb (length r.opened + length r.committed) r.geometry.sections
  free_is = ap (λ (m : ℕ). ltb m f.sections) count_is ∙ ap (ltb (length r.opened + length r.committed)) ring_size

  pub room_is : (b : ℕ) → is_some (put f.sections f.entries b j.sections) ≡ has_room r
  unfolding put_by
  room_is b =
      ap (λ (o : Option (List SectionCounts)). is_some o) (put-is f.sections f.entries b j.sections (has_open_section r) (ltb (length r.opened + length r.committed) r.geometry.sections) open_is free_is)
      ∙ both (has_open_section r) (ltb (length r.opened + length r.committed) r.geometry.sections)
    where
      both : (x y : Bool) → is_some (put_by b j.sections x y) ≡ (x || y)
      both true y = refl
      both false true = refl
      both false false = refl

pub has_room_law : HasRoomLaw
has_room_law f h j d r b is = room_is f h j d r is b

-- ---- the entry

module _ (f : DeviceFormat) (h : History) (j : JournalCounts) (d : JournaledDisk) (r : JournalRing) (write : BlockWrite) (is : IsJournalOf f h j d r)
    (low : write.block < f.blocks.blocks) (size : length write.bytes ≡ f.blocks.block_size) where
  abbrev entry : Entry
  entry = entry_of_write d write

  some_sector : 1 ≤ d.geometry.shape.spb
  some_sector = is.sound.formed.is_geometry.spb.0

  block_is : block_of d.geometry (entry_of_write d write) ≡ write.block
  block_is =
      let spb = d.geometry.shape.spb in
      let e : write.block * spb ≡ write.block * spb + 0 = omega arith in
      ap (λ (m : ℕ). m / spb) e ∙ div-mul-add write.block spb 0 some_sector

  block_entry : IsBlockEntry d.key (salt_of d.superblock) d.geometry (entry_of_write d write)
  block_entry =
      let spb = d.geometry.shape.spb in
      let e : write.block * spb ≡ write.block * spb + 0 = omega arith in
      let under : write.block + 1 ≤ d.geometry.blocks = omega (arith, low, (blocks-is f d.format is.format)) in
      let product = mul-le-mul_right spb under in
      record {
        replayable = record {
          whole = ap (λ (m : ℕ). m % spb) e ∙ mod-mul-add write.block spb 0 some_sector;
          inside = omega (arith, product, some_sector);
          tag = refl;
        };
        bytes = size ∙ (block_size-is f d.format is.format);
      }

  -- ---- into the last section, or the next one

  abbrev put_there : JournalRing
  put_there = record r { opened = put_last (entry_of_write d write) r.opened }

  abbrev put_next : JournalRing
  put_next = record r { opened = r.opened ++ (entry_of_write d write ∷ []) ∷ []; closed = false }

  ring_there : IsJournalRing d put_there
  ring_there = record {
    of_disk = record {
      geometry = is.is_ring.geometry;
      next = is.is_ring.next;
      number = is.is_ring.number;
      rests = is.is_ring.rests;
      free = is.is_ring.free;
      fits = omega (arith, is.is_ring.fits, length-put_last entry r.opened);
      each = all-put_last (IsBlockEntry d.key (salt_of d.superblock) d.geometry) entry r.opened block_entry is.is_ring.each;
    };
    kept = is.is_ring.kept;
    some_committed = is.is_ring.some_committed;
    some_opened = some-put_last entry r.opened is.is_ring.some_opened;
  }

  ring_next : HasFreeSection r → IsJournalRing d put_next
  ring_next room = record {
    of_disk = record {
      geometry = is.is_ring.geometry;
      next = is.is_ring.next;
      number = is.is_ring.number;
      rests = is.is_ring.rests;
      free = is.is_ring.free;
      fits = omega (arith, room, length-append r.opened ((entry ∷ []) ∷ []), ap (λ (g : Geometry). g.sections) is.is_ring.geometry);
      each = all_append (AllByRecursion (IsBlockEntry d.key (salt_of d.superblock) d.geometry)) r.opened ((entry ∷ []) ∷ []) is.is_ring.each ((block_entry, tt), tt);
    };
    kept = is.is_ring.kept;
    some_committed = is.is_ring.some_committed;
    some_opened = all_append (λ (x : List Entry). 1 ≤ length x) r.opened ((entry ∷ []) ∷ []) is.is_ring.some_opened (omega arith, tt);
  }

  counts_there : has_open_section r ≡ true → AreCounts (record j { sections = with_entry write.block j.sections }) d put_there
  counts_there room = record {
    free = is.counts.free;
    opened = with_entry write.block is.counts.opened;
    sections = ap (with_entry write.block) (sections_are j d r is.counts) ∙ into is.counts.opened is.counts.are_opened ∙ front-then j d r is.counts (with_entry write.block is.counts.opened);
    all_free = is.counts.all_free;
    are_opened = opened-put_last d.geometry r.closed entry write.block block_is r.opened is.counts.opened is.counts.are_opened;
    next = is.counts.next;
  }
    where
      none : (opened : List (List Entry)) → AreOpened d.geometry r.closed opened [] → takes_more (section_entries r.geometry.shape) r.closed opened ≡ true → ⊥
      none [] are e = false≢true e
      none (x ∷ opened) are e = absurd are

      into : (op : List SectionCounts) → AreOpened d.geometry r.closed r.opened op → with_entry write.block (front j d r is.counts ++ op) ≡ front j d r is.counts ++ with_entry write.block op
      into [] are = absurd (none r.opened are room)
      into (o ∷ op) are = with_entry-front write.block (front j d r is.counts) o op

  counts_next : AreCounts (record j { sections = j.sections ++ opened_with write.block ∷ [] }) d put_next
  counts_next =
      let p = committed_counts d.geometry (placed_count d r) r.committed in
      let new = opened_with write.block ∷ [] in
      record {
        free = is.counts.free;
        opened = is.counts.opened ++ opened_with write.block ∷ [];
        sections = ap (λ (xs : List SectionCounts). xs ++ new) is.counts.sections ∙ append_assoc is.counts.free (p ++ is.counts.opened) new ∙ ap (λ (xs : List SectionCounts). is.counts.free ++ xs) (append_assoc p is.counts.opened new);
        all_free = is.counts.all_free;
        are_opened = opened-push d.geometry r.closed entry write.block block_is r.opened is.counts.opened is.counts.are_opened;
        next = is.counts.next;
      }

  -- ---- both histories

  abbrev Both : List SectionCounts → JournalRing → Type 0
  Both sections after = IsJournalOf f (with_change h (Begun write)) (record j { sections = sections }) d after × IsJournalOf f (with_change h (Written write)) (record j { sections = sections }) d after

  both_of : (sections : List SectionCounts) (after : JournalRing) → IsJournalRing d after → AreCounts (record j { sections = sections }) d after
      → uncommitted_entries after ≡ uncommitted_entries r ++ entry_of_write d write ∷ [] → h.pending ≡ None → Both sections after
  both_of sections after ring_is counts_are entries_are idle =
      let histories = history_put d (uncommitted_entries r) h write idle is.history in
      (one (with_change h (Begun write)) histories.0, one (with_change h (Written write)) histories.1)
    where
      one : (other : History) → IsHistoryOf d (uncommitted_entries r ++ entry_of_write d write ∷ []) other → IsJournalOf f other (record j { sections = sections }) d after
      one other history = record {
        format = is.format;
        sound = is.sound;
        is_ring = ring_is;
        counts = counts_are;
        history = subst (λ (xs : List Entry). IsHistoryOf d xs other) (sym entries_are) history;
      }

  abbrev put_ring : Bool → JournalRing
  put_ring t = record r {
    opened = if t then put_last (entry_of_write d write) r.opened else r.opened ++ (entry_of_write d write ∷ []) ∷ [];
    closed = if t then r.closed else false;
  }

  pub put_law-at : (sections : List SectionCounts) → h.pending ≡ None → put f.sections f.entries write.block j.sections ≡ Some sections → Both sections (with_put (entry_of_write d write) r)
  unfolding put_by
  put_law-at sections idle told = elim (cases_Bool (has_open_section r)) [
    | inl room ↦
        let same = same_Some (with_entry write.block j.sections) sections (sym (put-is f.sections f.entries write.block j.sections true _ (open_is f h j d r is ∙ room) refl) ∙ told) in
        subst (Both sections) (sym (ap put_ring room))
        (subst (λ (xs : List SectionCounts). Both xs put_there) same
        (both_of (with_entry write.block j.sections) put_there ring_there (counts_there room) (entries_of-put_last entry (section_entries r.geometry.shape) r.closed r.opened room) idle))
    | inr full ↦ elim (cases_Bool (ltb (length r.opened + length r.committed) r.geometry.sections)) [
      | inr none ↦ absurd (none-some sections (sym (put-is f.sections f.entries write.block j.sections false false (open_is f h j d r is ∙ full) (free_is f h j d r is ∙ none)) ∙ told))
      | inl free ↦
          let same = same_Some (j.sections ++ opened_with write.block ∷ []) sections (sym (put-is f.sections f.entries write.block j.sections false true (open_is f h j d r is ∙ full) (free_is f h j d r is ∙ free)) ∙ told) in
          subst (Both sections) (sym (ap put_ring full))
          (subst (λ (xs : List SectionCounts). Both xs put_next) same
          (both_of (j.sections ++ opened_with write.block ∷ []) put_next (ring_next (ltb-true (length r.opened + length r.committed) r.geometry.sections free)) counts_next (entries_of-push entry r.opened) idle))
    ]
  ]

pub put_law : PutLaw
put_law f h j sections d r write is idle low size told = put_law-at f h j d r write is low size sections idle told
