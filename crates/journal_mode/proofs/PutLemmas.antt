-- What holds of a journal once an entry is put.
use Rattle.std.proofs.Common.{◌≡◌, inl, inr, ℕ, ◌+◌, ◌*◌, ◌^◌, ◌<◌, ◌≤◌, Bool, true, false, refl, sym, ◌∙◌, ap, arith, List, [], ◌∷◌, ◌++◌, length, length-append, append_assoc}
use Rattle.std.specs.List.{AllByRecursion}
use Rattle.std.proofs.Math.Nat.{mul-le-mul_right}
use Rattle.std.proofs.lemmas.Bool.{false≢true, ltb-true}
use Rattle.image_model.specs.Geometry.{Geometry, IsGeometry, section_entries}
use Rattle.image_model.specs.Section.{Entry}
use Rattle.place_model.proofs.EachLemmas.{all_append}
use Rattle.journal_laws.specs.Device.{block_of}
use Rattle.journal_model.specs.Ring.{HasFreeSection, JournalRing, entries_of, has_open_section, has_room, put_last, takes_more, with_put}
use Rattle.journal_model.proofs.JournalRingLemmas.{entries_of-append, free_section_law, length-put_last}
use Rattle.journal_overlay.specs.Kept.{Places, added}
use Rattle.journal_overlay.specs.declared.place.Added.{Added}
use Rattle.image_model.specs.declared.entry_place.EntryPlace.{EntryPlace}
use Rattle.journal_ring.specs.Places.{next_place, oldest_at}
use Rattle.journal_ring.specs.Ring.{with_open, with_section}
use Rattle.journal_ring.specs.RoomLaws.{HasBounds}
use Rattle.journal_ring.proofs.RingLemmas.{entries_some, put-steps}
use Rattle.replay.specs.Placement.{IsWholeEntry}
use Rattle.replay.specs.DeclaredPlacement.{Placement}
use Rattle.replay.proofs.PlacingLawsLemmas.{put_law}
use Rattle.journal_mode.specs.Journal.{IsJournal, entries_held, places_from, places_of, sections_of}
use Rattle.journal_mode.proofs.PlacesLemmas.{length-places_from, places_from-empty, places_of-entry}

-- Each of some sections has so many entries at most.
abbrev pub AreFew : ℕ → List (List Entry) → Type 0
AreFew size sections = AllByRecursion (λ (entries : List Entry). length entries ≤ size) sections

-- ---- how many entries there are

entries_few : (size : ℕ) (xs : List (List Entry)) → AreFew size xs → length (entries_of xs) ≤ length xs * size
entries_few size [] few = omega arith
entries_few size (x ∷ xs) few = omega (arith, length-append x (entries_of xs), entries_few size xs few.1, few.0)

more_fits : (size : ℕ) (closed : Bool) (xs : List (List Entry)) → takes_more size closed xs ≡ true → AreFew size xs → length (entries_of xs) + 1 ≤ length xs * size
more_fits size closed [] takes few = absurd (false≢true takes)
more_fits size true (x ∷ []) takes few = absurd (false≢true takes)
more_fits size false (x ∷ []) takes few = omega (arith, length-append x [], ltb-true (length x) size takes)
more_fits size closed (x ∷ y ∷ xs) takes few = omega (arith, length-append x (entries_of (y ∷ xs)), more_fits size closed (y ∷ xs) takes few.1, few.0)

few_front : (size : ℕ) (xs ys : List (List Entry)) → AreFew size (xs ++ ys) → AreFew size xs
few_front size [] ys few = tt
few_front size (x ∷ xs) ys few = (few.0, few_front size xs ys few.1)

few_back : (size : ℕ) (xs ys : List (List Entry)) → AreFew size (xs ++ ys) → AreFew size ys
few_back size [] ys few = few
few_back size (x ∷ xs) ys few = few_back size xs ys few.1

few_put_last : (size : ℕ) (closed : Bool) (entry : Entry) (xs : List (List Entry)) → takes_more size closed xs ≡ true → AreFew size xs → AreFew size (put_last entry xs)
few_put_last size closed entry [] takes few = tt
few_put_last size true entry (x ∷ []) takes few = absurd (false≢true takes)
few_put_last size false entry (x ∷ []) takes few = (omega (arith, length-append x (entry ∷ []), ltb-true (length x) size takes), tt)
few_put_last size closed entry (x ∷ y ∷ xs) takes few = (few.0, few_put_last size closed entry (y ∷ xs) takes few.1)

takes_some : (size : ℕ) (closed : Bool) (xs : List (List Entry)) → takes_more size closed xs ≡ true → 1 ≤ length xs
takes_some size closed [] takes = absurd (false≢true takes)
takes_some size closed (x ∷ xs) takes = omega arith

-- ---- where there is room

module _ (ring : JournalRing) (geometry : IsGeometry ring.geometry (2 ^ 48)) (bounds : HasBounds ring) (few : AreFew (section_entries ring.geometry.shape) (sections_of ring)) where
  abbrev size : ℕ
  size = section_entries ring.geometry.shape

  -- Another place is kept then.
  pub spare : has_room ring ≡ true → length (places_of ring) < entries_held ring.geometry
  spare room =
      let all = length-places_from ring.geometry (oldest_at ring) (sections_of ring) ∙ ap length (entries_of-append ring.committed ring.opened) ∙ length-append (entries_of ring.committed) (entries_of ring.opened) in
      let some = entries_some ring.geometry geometry in
      let first = entries_few size ring.committed (few_front size ring.committed ring.opened few) in
      let fits = bounds.fits in
      elim ((free_section_law ring).0 room) [
        | inl open_ ↦
            let last = more_fits size ring.closed ring.opened open_ (few_back size ring.committed ring.opened few) in
            let most : (length ring.opened + length ring.committed) * size ≤ ring.geometry.sections * size = mul-le-mul_right size fits in
            omega (arith, all, first, last, most)
        | inr free ↦
            let last = entries_few size ring.opened (few_back size ring.committed ring.opened few) in
            let most : (length ring.opened + length ring.committed + 1) * size ≤ ring.geometry.sections * size = mul-le-mul_right size (let low : length ring.opened + length ring.committed + 1 ≤ ring.geometry.sections = omega (arith, free) in low) in
            omega (arith, all, first, last, most, some)
      ]

  by_open : (P : JournalRing → Type 0) → (has_open_section ring ≡ true → P ring) → (has_open_section ring ≡ false → P (with_section ring)) → P (with_open ring)
  by_open P f h = by (has_open_section ring) refl
    where
      by : (t : Bool) → has_open_section ring ≡ t → P (with_open ring)
      by true e = rw e (f e)
      by false e = rw e (h e)

  free_where : has_room ring ≡ true → has_open_section ring ≡ false → HasFreeSection ring
  free_where room shut = elim ((free_section_law ring).0 room) [
    | inl open_ ↦ absurd (false≢true (sym shut ∙ open_))
    | inr free ↦ free
  ]

  open_bounds : has_room ring ≡ true → HasBounds (with_open ring) × (1 ≤ length (with_open ring).opened)
  open_bounds room =
      by_open (λ (r : JournalRing). HasBounds r × (1 ≤ length r.opened)) (λ open_. (bounds, takes_some size ring.closed ring.opened open_)) (λ shut.
      let free = free_where room shut in
      let more = length-append ring.opened ([] ∷ []) in
      (record { inside = bounds.inside; fits = omega (arith, free, more) }, omega (arith, more)))

  open_places : places_of (with_open ring) ≡ places_of ring
  open_places =
      by_open (λ (r : JournalRing). places_of r ≡ places_of ring) (λ open_. refl) (λ shut.
      ap (places_from ring.geometry (oldest_at ring)) (sym (append_assoc ring.committed ring.opened ([] ∷ []))) ∙ places_from-empty ring.geometry (oldest_at ring) (sections_of ring))

  open_geometry : (with_open ring).geometry ≡ ring.geometry
  open_geometry = by_open (λ (r : JournalRing). r.geometry ≡ ring.geometry) (λ open_. refl) (λ shut. refl)

  pub places_of-put : (entry : Entry) → has_room ring ≡ true
      → places_of (with_put entry ring) ≡ places_of ring ++ added (block_of ring.geometry entry) (next_place (with_open ring)) ∷ []
  places_of-put entry room =
      let open_ = open_bounds room in
      ap places_of (sym (put-steps entry ring))
      ∙ places_of-entry entry (with_open ring) open_.0 open_.1
      ∙ ap (λ (xs : List Added). xs ++ added (block_of (with_open ring).geometry entry) (next_place (with_open ring)) ∷ []) open_places
      ∙ ap (λ (g : Geometry). places_of ring ++ added (block_of g entry) (next_place (with_open ring)) ∷ []) open_geometry

  put_bounds : (entry : Entry) → has_room ring ≡ true → HasBounds (with_put entry ring)
  put_bounds entry room = by (has_open_section ring) refl
    where
      by : (t : Bool) → has_open_section ring ≡ t → HasBounds (with_put entry ring)
      by true e = rw e (record { inside = bounds.inside; fits = let fits = bounds.fits in omega (arith, length-put_last entry ring.opened) })
      by false e = rw e (record { inside = bounds.inside; fits = let free = free_where room e in omega (arith, free, length-append ring.opened ((entry ∷ []) ∷ [])) })

  put_few : (entry : Entry) → AreFew (section_entries ring.geometry.shape) (sections_of (with_put entry ring))
  put_few entry = by (has_open_section ring) refl
    where
      P : List Entry → Type 0
      P entries = length entries ≤ section_entries ring.geometry.shape

      front : AreFew (section_entries ring.geometry.shape) ring.committed
      front = few_front size ring.committed ring.opened few

      back : AreFew (section_entries ring.geometry.shape) ring.opened
      back = few_back size ring.committed ring.opened few

      by : (t : Bool) → has_open_section ring ≡ t → AreFew (section_entries ring.geometry.shape) (sections_of (with_put entry ring))
      by true e = rw e (all_append (λ (entries : List Entry). length entries ≤ size) ring.committed (put_last entry ring.opened) front (few_put_last size ring.closed entry ring.opened e back))
      by false e = rw e (all_append (λ (entries : List Entry). length entries ≤ size) ring.committed (ring.opened ++ (entry ∷ []) ∷ []) front
          (all_append (λ (entries : List Entry). length entries ≤ size) ring.opened ((entry ∷ []) ∷ []) back (entries_some ring.geometry geometry, tt)))

-- ---- for callers

-- The journal with an entry more, and its place.
pub put_is : (ring : JournalRing) (p : Placement) (overlay : Places) (entry : Entry) (block : ℕ) (place : EntryPlace) → IsJournal ring p overlay → has_room ring ≡ true → IsWholeEntry ring.geometry entry
    → block ≡ block_of ring.geometry entry → place ≡ next_place (with_open ring)
    → IsJournal (with_put entry ring) p (record overlay { kept = overlay.kept ++ added block place ∷ [] })
put_is ring p overlay entry block place is room whole block_is place_is = record {
  geometry = is.geometry;
  bounds = put_bounds ring is.geometry is.bounds is.few entry room;
  few = put_few ring is.geometry is.bounds is.few entry;
  placement = (put_law p ring entry is.placement whole).0;
  room = is.room;
  kept =
      ap (λ (xs : List Added). xs ++ added block place ∷ []) is.kept
      ∙ ap (λ (b : ℕ). places_of ring ++ added b place ∷ []) block_is
      ∙ ap (λ (x : EntryPlace). places_of ring ++ added (block_of ring.geometry entry) x ∷ []) place_is
      ∙ sym (places_of-put ring is.geometry is.bounds is.few entry room);
}

-- Its overlay has room for the place.
pub has_spare : (ring : JournalRing) (p : Placement) (overlay : Places) → IsJournal ring p overlay → has_room ring ≡ true → length overlay.kept < overlay.capacity
has_spare ring p overlay is room = omega (arith, ap length is.kept, is.room, spare ring is.geometry is.bounds is.few room)
