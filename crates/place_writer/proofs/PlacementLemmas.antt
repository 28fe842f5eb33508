-- The oldest committed entry that is not placed, and the sections of which each entry is.
use Rattle.std.proofs.Common.{◌≡◌, ◌⊎◌, inl, inr, ⊎_elim, ℕ, zero, suc, ◌+◌, ◌-◌, ◌^◌, ◌<◌, ◌≤◌, Bool, if◌then◌else◌, refl, sym, ◌∙◌, ap, subst, arith, Option, Some, None, List, [], ◌∷◌, ◌++◌, length, take, drop, get_or, slice_get, length-append, length-drop}
use Rattle.std.specs.List.{AllByRecursion}
use Rattle.std.proofs.lemmas.Bool.{cases_lt, cases_eq, eq-eqb, ne_eqb, lt-ltb, le-ltb, le-leb, lt-leb}
use Rattle.std.proofs.lemmas.List.{get_or-drop, get_or_append_left, get_or_past, take_all, take_more}
use Rattle.std.proofs.lemmas.List.Concat.{get_or-flat_map}
use Rattle.std.proofs.lemmas.Option.{get_or_from_slice_get, none-some, same_Some, slice_get-get_or, slice_get_past}
use Rattle.std.proofs.Math.Nat.{mul-le-mul_left}
use Rattle.disk_model.specs.Disk.{Content, OnlyAdds}
use Rattle.disk_model.specs.Moments.{EachSince}
use Rattle.image_model.specs.Geometry.{Geometry, IsGeometry}
use Rattle.image_model.proofs.Bounds.{has_entries}
use Rattle.image_model.specs.Section.{Entry}
use Rattle.journal_laws.specs.Device.{block_of}
use Rattle.direct_mode.specs.Cells.{IsOfBlockOrTags}
use Rattle.place_model.proofs.EachLemmas.{all_drop, all_get}
use Rattle.journal_model.specs.Ring.{JournalRing, entries_of, unplaced_from, with_settle}
use Rattle.journal_model.proofs.JournalRingLemmas.{entries_of-append, entries_of-size}
use Rattle.image_model.specs.declared.entry_place.EntryPlace.{EntryPlace}
use Rattle.journal_ring.specs.Places.{entries_at, oldest_at}
use Rattle.journal_ring.specs.RoomLaws.{HasBounds}
use Rattle.journal_ring.specs.Sections.{wrap}
use Rattle.journal_ring.proofs.PlacesLemmas.{used_there}
use Rattle.journal_ring.proofs.WrapLemmas.{wrap-above, wrap-below, wrap-inside}
use Rattle.tag_store.specs.Store.{Store, given_tags}
use Rattle.place_writer.specs.Moves.{FreesPlaced, GivesEntry, GivesNext, PlacesOne, WritesEntry, WritesNext}
use Rattle.place_writer.specs.Placement.{IsPlacementOf, IsWholeEntry, after_next, next_place, placed_in, without}
use Rattle.place_writer.specs.declared.placement.Placement.{Placement}
use Rattle.place_writer.proofs.WritingLemmas.{gives_still}

-- ---- where sections lie

oldest_inside : (ring : JournalRing) → HasBounds ring → oldest_at ring < ring.geometry.sections
oldest_inside ring is =
    let n = ring.geometry.sections in
    wrap-inside n (ring.next + (n - length ring.committed)) (omega (arith, is.inside))

position-behind : (n o k : ℕ) → o < n → k < n → wrap n (wrap n (o + k) + (n - o)) ≡ k
position-behind n o k low k_low = elim (cases_lt (o + k) n) [
  | inl below ↦
      ap (λ (x : ℕ). wrap n (x + (n - o))) (wrap-below n (o + k) below) ∙ wrap-above n (o + k + (n - o)) (omega arith)
      ∙ (let e : o + k + (n - o) - n ≡ k = omega arith in e)
  | inr above ↦
      ap (λ (x : ℕ). wrap n (x + (n - o))) (wrap-above n (o + k) above)
      ∙ ap (wrap n) (let e : o + k - n + (n - o) ≡ k = omega arith in e) ∙ wrap-below n k k_low
]

-- ---- the next entry

abbrev place_of : Placement → JournalRing → EntryPlace
place_of p ring = record { section = wrap ring.geometry.sections (oldest_at ring + p.sections); entry = p.entries }

-- There is one exactly where some section is not wholly placed.
pub next_more : (p : Placement) (ring : JournalRing) (place : EntryPlace) → next_place p ring ≡ Some place → p.sections < length ring.committed
next_more p ring place there = elim (cases_lt p.sections (length ring.committed)) [
  | inl more ↦ more
  | inr none ↦ absurd (none-some place (sym (ap (λ (t : Bool). if t then Some (place_of p ring) else None) (le-ltb p.sections (length ring.committed) none)) ∙ there))
]

pub next_there : (p : Placement) (ring : JournalRing) (place : EntryPlace) → next_place p ring ≡ Some place → place ≡ record { section = wrap ring.geometry.sections (oldest_at ring + p.sections); entry = p.entries }
next_there p ring place there =
    same_Some place (place_of p ring)
    (sym there ∙ ap (λ (t : Bool). if t then Some (place_of p ring) else None) (lt-ltb p.sections (length ring.committed) (next_more p ring place there)))

pub none_left : (p : Placement) (ring : JournalRing) → next_place p ring ≡ None → length ring.committed ≤ p.sections
none_left p ring none = elim (cases_lt p.sections (length ring.committed)) [
  | inl more ↦ absurd (none-some (place_of p ring) (sym none ∙ ap (λ (t : Bool). if t then Some (place_of p ring) else None) (lt-ltb p.sections (length ring.committed) more)))
  | inr all ↦ all
]

module _ (p : Placement) (ring : JournalRing) (is : IsPlacementOf p ring) where
  -- Where none is left all are placed.
  pub all_placed : length ring.committed ≤ p.sections → placed_in p ring ≡ length (entries_of ring.committed)
  all_placed all =
      let k = p.sections in
      let low = is.sections in
      let past : length (get_or ring.committed k []) ≡ 0 = ap length (get_or_past ring.committed k [] all) in
      let none : p.entries ≡ 0 = ⊎_elim (λ e. e) (λ less. absurd (omega (arith, less, past))) is.entries in
      let whole : take k ring.committed ≡ ring.committed = take_all k ring.committed all in
      omega (arith, none, ap (λ (xs : List (List Entry)). length (entries_of xs)) whole)

  module _ (more : p.sections < length ring.committed) where
    abbrev here : List Entry
    here = get_or ring.committed p.sections []

    abbrev section : ℕ
    section = wrap ring.geometry.sections (oldest_at ring + p.sections)

    there : slice_get ring.committed p.sections ≡ Some (get_or ring.committed p.sections [])
    there = slice_get-get_or ring.committed p.sections [] more

    pub section_inside : HasBounds ring → wrap ring.geometry.sections (oldest_at ring + p.sections) < ring.geometry.sections
    section_inside bounds =
        let oldest = oldest_inside ring bounds in
        wrap-inside ring.geometry.sections (oldest_at ring + p.sections) (omega (arith, oldest, bounds.fits, more))

    pub entries_here : HasBounds ring → entries_at ring (wrap ring.geometry.sections (oldest_at ring + p.sections)) ≡ get_or ring.committed p.sections []
    entries_here bounds =
        ap (λ (k : ℕ). get_or (ring.committed ++ ring.opened) k [])
        (position-behind ring.geometry.sections (oldest_at ring) p.sections (oldest_inside ring bounds) (omega (arith, bounds.fits, more)))
        ∙ get_or_append_left ring.committed ring.opened [] p.sections more

    some_here : 1 ≤ length (get_or ring.committed p.sections [])
    some_here = all_get (λ (entries : List Entry). 1 ≤ length entries) ring.committed p.sections here is.some there

    pub entry_low : p.entries < length (get_or ring.committed p.sections [])
    entry_low = ⊎_elim (λ none. omega (arith, none, some_here)) (λ low. low) is.entries

    pub entry_whole : (entry : Entry) → slice_get (get_or ring.committed p.sections []) p.entries ≡ Some entry → IsWholeEntry ring.geometry entry
    entry_whole entry e =
        all_get (IsWholeEntry ring.geometry) here p.entries entry
        (all_get (AllByRecursion (IsWholeEntry ring.geometry)) ring.committed p.sections here is.whole there) e

    taken : length (entries_of (take (p.sections + 1) ring.committed)) ≡ length (entries_of (take p.sections ring.committed)) + length (get_or ring.committed p.sections [])
    taken =
        let before = entries_of (take p.sections ring.committed) in
        ap (λ (xs : List (List Entry)). length (entries_of xs)) (take_more ring.committed p.sections [] more)
        ∙ ap length (entries_of-append (take p.sections ring.committed) (here ∷ []))
        ∙ length-append before (here ++ [])
        ∙ ap (λ (n : ℕ). length before + n) (let e : length (here ++ []) ≡ length here = omega (arith, length-append here []) in e)

    pub placed_less : placed_in p ring < length (entries_of ring.committed)
    placed_less = omega (arith, taken, entries_of-size (p.sections + 1) ring.committed, entry_low)

    -- It is the next one of all.
    same : (entry : Entry) → get_or (entries_of ring.committed) (placed_in p ring) entry ≡ get_or (get_or ring.committed p.sections []) p.entries entry
    same entry = get_or-flat_map (λ (x : List Entry). x) ring.committed p.sections p.entries [] entry more entry_low

    pub entry_told : (entry : Entry) → slice_get (get_or ring.committed p.sections []) p.entries ≡ Some entry → slice_get (entries_of ring.committed) (placed_in p ring) ≡ Some entry
    entry_told entry e =
        slice_get-get_or (entries_of ring.committed) (placed_in p ring) entry placed_less
        ∙ ap (λ (x : Entry). Some x) (same entry ∙ get_or_from_slice_get here p.entries entry entry e)

    pub told_entry : (entry : Entry) → slice_get (entries_of ring.committed) (placed_in p ring) ≡ Some entry → slice_get (get_or ring.committed p.sections []) p.entries ≡ Some entry
    told_entry entry e =
        slice_get-get_or here p.entries entry entry_low
        ∙ ap (λ (x : Entry). Some x) (sym (same entry) ∙ get_or_from_slice_get (entries_of ring.committed) (placed_in p ring) entry entry e)

    -- ---- after it

    abbrev by : Bool → Placement
    by t = if t then (record { sections = p.sections + 1; entries = 0 }) else (record { sections = p.sections; entries = p.entries + 1 })

    pub places_one : PlacesOne p (after_next p (length (get_or ring.committed p.sections []))) ring
    places_one = record {
      more = placed_less;
      next = elim (cases_eq (p.entries + 1) (length here)) [
        | inl last ↦ ap (λ (t : Bool). placed_in (by t) ring) (eq-eqb (p.entries + 1) (length here) last) ∙ (let e : length (entries_of (take (p.sections + 1) ring.committed)) + 0 ≡ placed_in p ring + 1 = omega (arith, taken, last) in e)
        | inr other ↦ ap (λ (t : Bool). placed_in (by t) ring) (ne_eqb (p.entries + 1) (length here) other) ∙ (let e : length (entries_of (take p.sections ring.committed)) + (p.entries + 1) ≡ placed_in p ring + 1 = omega arith in e)
      ];
    }

    pub after_is : IsPlacementOf (after_next p (length (get_or ring.committed p.sections []))) ring
    after_is = elim (cases_eq (p.entries + 1) (length here)) [
      | inl last ↦ subst (λ (t : Bool). IsPlacementOf (by t) ring) (sym (eq-eqb (p.entries + 1) (length here) last)) (record {
        ring_ = is.ring_;
        sections = omega (arith, more);
        entries = inl refl;
      })
      | inr other ↦ subst (λ (t : Bool). IsPlacementOf (by t) ring) (sym (ne_eqb (p.entries + 1) (length here) other)) (record {
        ring_ = is.ring_;
        sections = is.sections;
        entries = inr (omega (arith, entry_low, other));
      })
    ]

-- ---- a settle

-- The sections that are left are those behind the ones that are wholly placed.
unplaced_from-sections : (k e : ℕ) (xs : List (List Entry)) → AllByRecursion (λ (x : List Entry). 1 ≤ length x) xs → k ≤ length xs → (e ≡ 0) ⊎ (e < length (get_or xs k []))
    → unplaced_from (length (entries_of (take k xs)) + e) xs ≡ drop k xs
unplaced_from-sections zero e [] some low less = refl
unplaced_from-sections zero e (x ∷ xs) some low less =
    let under : e < length x = ⊎_elim (λ none. omega (arith, none, some.0)) (λ l. l) less in
    ap (λ (n : ℕ). unplaced_from n (x ∷ xs)) (let same : 0 + e ≡ e = omega arith in same)
    ∙ ap (λ (t : Bool). if t then unplaced_from (e - length x) xs else x ∷ xs) (lt-leb (length x) e under)
unplaced_from-sections (suc k) e [] some low less = absurd (omega (arith, low))
unplaced_from-sections (suc k) e (x ∷ xs) some low less =
    let rest = entries_of (take k xs) in
    let all : length (x ++ rest) ≡ length x + length rest = length-append x rest in
    let left : length (x ++ rest) + e - length x ≡ length rest + e = omega (arith, all) in
    ap (λ (t : Bool). if t then unplaced_from (length (x ++ rest) + e - length x) xs else x ∷ xs) (le-leb (length x) (length (x ++ rest) + e) (omega (arith, all)))
    ∙ ap (λ (n : ℕ). unplaced_from n xs) left
    ∙ unplaced_from-sections k e xs some.1 (omega (arith, low)) less

module _ (p : Placement) (ring : JournalRing) (is : IsPlacementOf p ring) where
  abbrev rest_of : Placement
  rest_of = record { sections = 0; entries = p.entries }

  pub settle-without : with_settle (placed_in p ring) ring ≡ without p.sections ring
  settle-without = λ i. record ring { committed = unplaced_from-sections p.sections p.entries ring.committed is.some is.sections is.entries i }

  pub without_is : IsPlacementOf (record { sections = 0; entries = p.entries }) (without p.sections ring)
  without_is =
      let left = length-drop p.sections ring.committed in
      record {
        ring_ = record {
          some = all_drop (λ (entries : List Entry). 1 ≤ length entries) p.sections ring.committed is.some;
          whole = all_drop (AllByRecursion (IsWholeEntry ring.geometry)) p.sections ring.committed is.whole;
          some_opened = is.some_opened;
          whole_opened = is.whole_opened;
        };
        sections = omega arith;
        entries = ⊎_elim inl (λ less. inr (subst (λ (xs : List Entry). p.entries < length xs)
            (ap (λ (n : ℕ). get_or ring.committed n []) (let e : p.sections ≡ p.sections + 0 = omega arith in e) ∙ sym (get_or-drop p.sections ring.committed 0 [])) less)) is.entries;
      }

  pub frees : 1 ≤ p.sections → FreesPlaced p (record { sections = 0; entries = p.entries }) ring (without p.sections ring)
  frees some_ = record {
    some = λ none.
        let size : length (drop p.sections ring.committed) ≡ length ring.committed = ap (λ (r : JournalRing). length r.committed) (sym settle-without ∙ none) in
        absurd (omega (arith, size, length-drop p.sections ring.committed, is.sections, some_));
    left_is = sym settle-without;
    rest = omega (arith, entries_of-size p.sections ring.committed);
  }

  pub none_to_free : p.sections ≡ 0 → with_settle (placed_in p ring) ring ≡ ring
  none_to_free none = settle-without ∙ ap (λ (n : ℕ). without n ring) none

-- ---- for callers

-- The journal has no more sections than it has sectors.
pub sections_few : (g : Geometry) (sectors : ℕ) → IsGeometry g sectors → g.sections < 2 ^ 20
sections_few g sectors is =
    let holds = has_entries g.shape is.spb.0 is.spb.1 is.tag_size.0 is.tag_size.1 in
    let least = mul-le-mul_left g.sections holds.sectors_low in
    let most = is.journal in
    omega arith

-- The place is that of the next entry, which is known by its number among all.
pub record IsNextPlace (p : Placement) (ring : JournalRing) (place : EntryPlace) : Type 0 where
  pub more : p.sections < length ring.committed
  pub inside : place.section < ring.geometry.sections
  pub here : entries_at ring place.section ≡ get_or ring.committed p.sections []
  pub low : place.entry < length (entries_at ring place.section)
  pub entry : Entry
  pub is : slice_get (entries_at ring place.section) place.entry ≡ Some entry
  pub told : slice_get (entries_of ring.committed) (placed_in p ring) ≡ Some entry
  pub whole : IsWholeEntry ring.geometry entry

pub next_found : (p : Placement) (ring : JournalRing) (place : EntryPlace) → IsPlacementOf p ring → HasBounds ring → next_place p ring ≡ Some place → IsNextPlace p ring place
next_found p ring place is bounds found =
    let more = next_more p ring place found in
    let at = next_there p ring place found in
    let section : place.section ≡ wrap ring.geometry.sections (oldest_at ring + p.sections) = ap (λ (x : EntryPlace). x.section) at in
    let number : place.entry ≡ p.entries = ap (λ (x : EntryPlace). x.entry) at in
    let here : entries_at ring place.section ≡ get_or ring.committed p.sections [] = ap (entries_at ring) section ∙ entries_here p ring is more bounds in
    let low = entry_low p ring is more in
    let entry = used_there (get_or ring.committed p.sections []) p.entries low in
    record {
      more = more;
      inside = omega (arith, section, section_inside p ring is more bounds);
      here = here;
      low = omega (arith, number, low, ap length here);
      entry = entry.0;
      is = ap (slice_get (entries_at ring place.section)) number ∙ ap (λ (xs : List Entry). slice_get xs p.entries) here ∙ entry.1;
      told = entry_told p ring is more entry.0 entry.1;
      whole = entry_whole p ring is more entry.0 entry.1;
    }

-- ---- what is written

-- What is written of the next entry is so of the one that is told,
pub writes_next : (p : Placement) (ring : JournalRing) (entry : Entry) {a b : List Content} → slice_get (entries_of ring.committed) (placed_in p ring) ≡ Some entry
    → EachSince (OnlyAdds (IsOfBlockOrTags ring.geometry (block_of ring.geometry entry) entry.bytes)) a b → WritesNext p ring a b
writes_next p ring entry {a} {b} told m = subst (λ (next : Option Entry). WritesEntry ring.geometry next a b) (sym told) m

-- and where all are placed nothing is.
pub writes_none : (p : Placement) (ring : JournalRing) (a : List Content) → placed_in p ring ≡ length (entries_of ring.committed) → WritesNext p ring a a
writes_none p ring a all =
    subst (λ (next : Option Entry). WritesEntry ring.geometry next a a) (sym (slice_get_past (entries_of ring.committed) (placed_in p ring) (omega (arith, all)))) refl

-- ---- the tags that the store gives

-- The store gives the tag of the next entry then,
pub gives_next : (p : Placement) (ring : JournalRing) (entry : Entry) (old new : Store) (a b : List Content) → slice_get (entries_of ring.committed) (placed_in p ring) ≡ Some entry
    → GivesEntry ring.geometry (Some entry) old new a b → GivesNext p ring old new a b
gives_next p ring entry old new a b told gives = subst (λ (next : Option Entry). GivesEntry ring.geometry next old new a b) (sym told) gives

-- and where all are placed what it gave.
pub gives_none : (p : Placement) (ring : JournalRing) (store : Store) (a : List Content) → placed_in p ring ≡ length (entries_of ring.committed) → GivesNext p ring store store a a
gives_none p ring store a all =
    subst (λ (next : Option Entry). GivesEntry ring.geometry next store store a a) (sym (slice_get_past (entries_of ring.committed) (placed_in p ring) (omega (arith, all))))
    (gives_still ring.geometry (given_tags store) a)
