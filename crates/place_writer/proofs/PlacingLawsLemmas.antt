-- What is placed of a ring as it goes on, and what is in place once it is settled.
use Rattle.std.proofs.Common.{◌≡◌, inl, inr, ⊎_elim, ℕ, ◌+◌, ◌≤◌, Bool, true, false, refl, sym, ◌∙◌, ap, subst, arith, Option, None, List, [], ◌∷◌, ◌++◌, length, take, drop, get_or, length-append, append-nil, slice_index}
use Rattle.std.specs.List.{AllByRecursion}
use Rattle.std.proofs.lemmas.Bool.{cases_lt}
use Rattle.std.proofs.lemmas.List.{drop_all, get_or_append_left, get_or_past, length-take-le, take-append-le, take_all}
use Rattle.disk_model.specs.Disk.{sector_in}
use Rattle.image_model.specs.Cells.{Cell, last_entry, salt_of}
use Rattle.image_model.specs.Geometry.{Geometry, IsGeometry}
use Rattle.image_model.specs.Section.{Entry}
use Rattle.image_model.proofs.TagLemmas.{length-tag_of}
use Rattle.place_model.proofs.EachLemmas.{all_append, all_drop, all_take}
use Rattle.journal_laws.specs.Device.{IsJournalRing, freed_count}
use Rattle.journal_laws.proofs.RingLemmas.{held_at}
use Rattle.journal_model.specs.Entries.{IsBlockEntry, cell_after}
use Rattle.journal_model.specs.JournaledDisk.{JournaledDisk, IsFormed, IsSound, MayStandOutside, cell_at}
use Rattle.journal_model.specs.Ring.{JournalRing, entries_of, has_open_section, next_batch, with_commit, with_put}
use Rattle.journal_model.proofs.JournalRingLemmas.{all-put_last, some-put_last}
use Rattle.journal_model.proofs.PlaceLemmas.{placed_is}
use Rattle.place_writer.specs.Placement.{IsPlacementOf, IsWholeEntry, IsWholeRing, placed_in}
use Rattle.place_writer.specs.PlacingLaws.{BeginsLaw, CommitLaw, DiskRingLaw, PutLaw, SettledCellsLaw}
use Rattle.place_writer.specs.declared.placement.Placement.{Placement}

-- ---- the entries of a disk's ring are whole

all_weaker : {A : Type 0} (P Q : A → Type 0) → ((x : A) → P x → Q x) → (xs : List A) → AllByRecursion P xs → AllByRecursion Q xs
all_weaker P Q f [] all = tt
all_weaker P Q f (x ∷ xs) all = (f x all.0, all_weaker P Q f xs all.1)

all_front : {A : Type 0} (P : A → Type 0) (xs ys : List A) → AllByRecursion P (xs ++ ys) → AllByRecursion P xs
all_front P [] ys all = tt
all_front P (x ∷ xs) ys all = (all.0, all_front P xs ys all.1)

all_back : {A : Type 0} (P : A → Type 0) (xs ys : List A) → AllByRecursion P (xs ++ ys) → AllByRecursion P ys
all_back P [] ys all = all
all_back P (x ∷ xs) ys all = all_back P xs ys all.1

all_parts : (P : Entry → Type 0) (xs : List (List Entry)) → AllByRecursion P (entries_of xs) → AllByRecursion (AllByRecursion P) xs
all_parts P [] all = tt
all_parts P (x ∷ xs) all = (all_front P x (entries_of xs) all, all_parts P xs (all_back P x (entries_of xs) all))

whole_entry : (key salt : Option (List ℕ)) (g : Geometry) (sectors : ℕ) → IsGeometry g sectors → (entry : Entry) → IsBlockEntry key salt g entry → IsWholeEntry g entry
whole_entry key salt g sectors geometry entry is = record {
  begins = is.replayable.whole;
  inside = is.replayable.inside;
  bytes = is.bytes;
  tag = ap length is.replayable.tag ∙ length-tag_of key salt g.shape.tag_size entry.sector entry.bytes geometry.tag_size.1;
}

module _ (d : JournaledDisk) (ring : JournalRing) (sound : IsSound d) (is : IsJournalRing d ring) where
  whole_entries : AllByRecursion (AllByRecursion (IsWholeEntry ring.geometry)) ring.committed
  whole_entries =
      let P : Entry → Type 0 = IsBlockEntry d.key (salt_of d.superblock) d.geometry in
      let held = subst (AllByRecursion P) (held_at d ring sound is) (all_drop P (freed_count d ring) d.entries sound.formed.each) in
      all_parts (IsWholeEntry ring.geometry) ring.committed
      (all_weaker P (IsWholeEntry ring.geometry)
      (λ entry of. subst (λ (y : Geometry). IsWholeEntry y entry) (sym is.geometry) (whole_entry d.key (salt_of d.superblock) d.geometry d.sectors sound.formed.is_geometry entry of))
      (entries_of ring.committed) held)

  whole_opened : AllByRecursion (AllByRecursion (IsWholeEntry ring.geometry)) ring.opened
  whole_opened =
      let P : Entry → Type 0 = IsBlockEntry d.key (salt_of d.superblock) d.geometry in
      let Q : Entry → Type 0 = IsWholeEntry ring.geometry in
      all_weaker (AllByRecursion P) (AllByRecursion Q)
      (all_weaker P Q (λ entry of. subst (λ (y : Geometry). IsWholeEntry y entry) (sym is.geometry) (whole_entry d.key (salt_of d.superblock) d.geometry d.sectors sound.formed.is_geometry entry of)))
      ring.opened is.each

pub disk_ring_law : DiskRingLaw
disk_ring_law d ring sound is =
    record {
      some = is.some_committed;
      whole = whole_entries d ring sound is;
      some_opened = is.some_opened;
      whole_opened = whole_opened d ring sound is;
    }

-- ---- what is placed as the ring goes on

pub begins_law : BeginsLaw
begins_law g next number = record {
  ring_ = record { some = tt; whole = tt; some_opened = tt; whole_opened = tt };
  sections = omega arith;
  entries = inl refl;
}

-- More sections are committed behind those that are placed.
goes_on : (p : Placement) (ring new : JournalRing) (more : List (List Entry)) → IsPlacementOf p ring → new.committed ≡ ring.committed ++ more → IsWholeRing new
    → IsPlacementOf p new × (placed_in p new ≡ placed_in p ring)
goes_on p ring new more is same whole = (
  record {
    ring_ = whole;
    sections = omega (arith, is.sections, ap length same, length-append ring.committed more);
    entries = ⊎_elim inl (λ less. elim (cases_lt p.sections (length ring.committed)) [
      | inl inside ↦ inr (omega (arith, less, ap (λ (xs : List (List Entry)). length (get_or xs p.sections [])) same, ap length (get_or_append_left ring.committed more [] p.sections inside)))
      | inr past ↦ absurd (omega (arith, less, ap length (get_or_past ring.committed p.sections [] past)))
    ]) is.entries;
  },
  ap (λ (xs : List (List Entry)). length (entries_of (take p.sections xs)) + p.entries) same
      ∙ ap (λ (xs : List (List Entry)). length (entries_of xs) + p.entries) (take-append-le p.sections ring.committed more is.sections),
)

module _ (ring : JournalRing) (is : IsWholeRing ring) where
  abbrev batch : ℕ
  batch = next_batch ring

  committed_whole : IsWholeRing (with_commit ring)
  committed_whole =
      record {
        some = all_append (λ (entries : List Entry). 1 ≤ length entries) ring.committed (take batch ring.opened) is.some (all_take (λ (entries : List Entry). 1 ≤ length entries) batch ring.opened is.some_opened);
        whole = all_append (AllByRecursion (IsWholeEntry ring.geometry)) ring.committed (take batch ring.opened) is.whole (all_take (AllByRecursion (IsWholeEntry ring.geometry)) batch ring.opened is.whole_opened);
        some_opened = all_drop (λ (entries : List Entry). 1 ≤ length entries) batch ring.opened is.some_opened;
        whole_opened = all_drop (AllByRecursion (IsWholeEntry ring.geometry)) batch ring.opened is.whole_opened;
      }

  module _ (entry : Entry) (whole : IsWholeEntry ring.geometry entry) where
    put_whole : IsWholeRing (with_put entry ring)
    put_whole = by (has_open_section ring) refl
      where
        by : (t : Bool) → has_open_section ring ≡ t → IsWholeRing (with_put entry ring)
        by true open_ = rw open_ (record {
          some = is.some;
          whole = is.whole;
          some_opened = some-put_last entry ring.opened is.some_opened;
          whole_opened = all-put_last (IsWholeEntry ring.geometry) entry ring.opened whole is.whole_opened;
        })
        by false open_ = rw open_ (record {
          some = is.some;
          whole = is.whole;
          some_opened = all_append (λ (entries : List Entry). 1 ≤ length entries) ring.opened ((entry ∷ []) ∷ []) is.some_opened (omega arith, tt);
          whole_opened = all_append (AllByRecursion (IsWholeEntry ring.geometry)) ring.opened ((entry ∷ []) ∷ []) is.whole_opened ((whole, tt), tt);
        })

pub commit_law : CommitLaw
commit_law p ring is = goes_on p ring (with_commit ring) (take (next_batch ring) ring.opened) is refl (committed_whole ring is.ring_)

pub put_law : PutLaw
put_law p ring entry is whole = goes_on p ring (with_put entry ring) [] is (sym (append-nil ring.committed)) (put_whole ring is.ring_ entry whole)

-- ---- what is settled is in place

-- The disk as if no entry more were committed than those that are placed.
abbrev placed_only : JournaledDisk → JournaledDisk
placed_only d = record d { entries = take d.placed d.entries }

module _ (d : JournaledDisk) (formed : IsFormed d) (all : d.settled ≡ d.placed) where
  only_formed : IsFormed (placed_only d)
  only_formed = record {
    has_geometry = formed.has_geometry;
    is_geometry = formed.is_geometry;
    no_bitmap = formed.no_bitmap;
    settled_low = formed.settled_low;
    placed_low = omega (arith, length-take-le d.placed d.entries formed.placed_low);
    base = formed.base;
    each = all_take (IsBlockEntry d.key (salt_of d.superblock) d.geometry) d.placed d.entries formed.each;
  }

  -- Its cells are the same.
  cell-same : (count : ℕ) → d.settled ≤ count → count ≤ d.placed → (b : ℕ) → cell_at d count b ≡ cell_at (placed_only d) count b
  cell-same count low high b =
      let is : count ≡ d.placed = omega (arith, low, high, all) in
      ap (λ (n : ℕ). cell_after d.geometry d.base (take n d.entries) b) is
      ∙ ap (λ (ws : List Entry). cell_after d.geometry d.base ws b) (sym (take_all d.placed (take d.placed d.entries) (omega (arith, length-take-le d.placed d.entries formed.placed_low))))
      ∙ ap (λ (n : ℕ). cell_after d.geometry d.base (take n (take d.placed d.entries)) b) (sym is)

  only_outside : (sector : ℕ) (x : List ℕ) → MayStandOutside d sector x → MayStandOutside (placed_only d) sector x
  only_outside sector x may = record {
    whole = may.whole;
    head = may.head;
    in_place = record {
      data_ = λ b k low k_low there.
          let p = may.in_place.data_ b k low k_low there in
          (p.0, p.1, p.2, p.3 ∙ ap (λ (cell : Cell). sector_in cell.bytes k) (cell-same p.0 p.1 p.2 b));
      tags = λ b i low i_low rests there.
          let p = may.in_place.tags b i low i_low rests there in
          (p.0, p.1, p.2, p.3 ∙ ap (λ (cell : Cell). slice_index cell.tag i) (cell-same p.0 p.1 p.2 b));
    };
  }

pub settled_cells_law : SettledCellsLaw
settled_cells_law d c stands all image is_image b low =
    let formed = stands.sound.formed in
    let long = length-take-le d.placed d.entries formed.placed_low in
    let none : last_entry d.geometry (drop d.placed (take d.placed d.entries)) b ≡ None = ap (λ (ws : List Entry). last_entry d.geometry ws b) (drop_all d.placed (take d.placed d.entries) (omega (arith, long))) in
    placed_is (placed_only d) (only_formed d formed all) image (λ sector. only_outside d formed all sector (image sector) (stands.each sector (image sector) (is_image sector)).outside)
    d.placed (omega (arith, all)) b low none
    ∙ ap (λ (ws : List Entry). cell_after d.geometry d.base ws b) (take_all d.placed (take d.placed d.entries) (omega (arith, long)))
