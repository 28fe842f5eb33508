-- The places that are kept once sections are freed.
use Rattle.std.proofs.Common.{◌≡◌, ◌≢◌, ◌⊎◌, inl, inr, ⊎_elim, ℕ, zero, suc, ◌+◌, ◌-◌, ◌^◌, ◌<◌, ◌≤◌, true, false, not, refl, sym, ◌∙◌, ap, subst, arith, List, [], ◌∷◌, ◌++◌, length, drop, length-append, length-drop, filter}
use Rattle.std.specs.List.{AllByRecursion}
use Rattle.std.proofs.lemmas.Bool.{cases_lt, eq-eqb, ne_eqb, le-leb, leb-true, false≢true}
use Rattle.std.proofs.lemmas.List.{drop-append-le, drop_all}
use Rattle.std.proofs.lemmas.List.Elements.{filter-append}
use Rattle.image_model.specs.Geometry.{Geometry, IsGeometry, section_entries}
use Rattle.image_model.specs.Section.{Entry}
use Rattle.place_model.proofs.EachLemmas.{all_drop}
use Rattle.journal_model.specs.Ring.{JournalRing}
use Rattle.journal_overlay.specs.Kept.{Places, is_in}
use Rattle.journal_overlay.specs.declared.place.Added.{Added}
use Rattle.journal_ring.specs.Places.{is_free, oldest_at, position}
use Rattle.journal_ring.specs.RoomLaws.{HasBounds}
use Rattle.journal_ring.specs.Sections.{wrap}
use Rattle.journal_ring.proofs.WrapLemmas.{wrap-above, wrap-below, wrap-differs, wrap-inside, wrap-wrap}
use Rattle.journal_ring.specs.declared.ring.Moved.{Moved}
use Rattle.journal_ring.specs.declared.ring.Moved.TheVariants.{Did, Idle}
use Rattle.replay.specs.Moves.{HasSettled}
use Rattle.replay.specs.Placement.{IsPlacementOf}
use Rattle.replay.specs.DeclaredPlacement.{Placement}
use Rattle.replay.proofs.PlacementLemmas.{settle-without}
use Rattle.tag_store.specs.Store.{Store}
use Rattle.journal_mode.specs.Freeing.{HasFreed}
use Rattle.journal_mode.specs.Journal.{IsJournal, entries_held, places_from, places_in, places_of, sections_of}
use Rattle.journal_mode.proofs.NewestLemmas.{position-behind}
use Rattle.journal_mode.proofs.PlacesLemmas.{oldest_inside}

-- ---- a section is dropped

-- Without the places of a section.
abbrev pub without_section : ℕ → List Added → List Added
without_section section places = filter (λ a. not (is_in section a)) places

gone : (g : Geometry) (section n : ℕ) (xs : List Entry) → without_section section (places_in g section n xs) ≡ []
gone g section n [] = refl
gone g section n (x ∷ xs) = rw (eq-eqb section section refl) (gone g section (n + 1) xs)

stays : (g : Geometry) (section at n : ℕ) (xs : List Entry) → at ≢ section → without_section section (places_in g at n xs) ≡ places_in g at n xs
stays g section at n [] other = refl
stays g section at n (x ∷ xs) other = rw (ne_eqb at section other, stays g section at (n + 1) xs other) refl

all_stay : (g : Geometry) (section at : ℕ) (xs : List (List Entry)) → at < g.sections → length xs ≤ g.sections → ((j : ℕ) → j < length xs → wrap g.sections (at + j) ≢ section)
    → without_section section (places_from g at xs) ≡ places_from g at xs
all_stay g section at [] low fits others = refl
all_stay g section at (x ∷ xs) low fits others =
    let n = g.sections in
    let next = wrap n (at + 1) in
    let here : at ≢ section = subst (λ (s : ℕ). s ≢ section) (ap (wrap n) (let e : at + 0 ≡ at = omega arith in e) ∙ wrap-below n at low) (others 0 (omega arith)) in
    filter-append (λ a. not (is_in section a)) (places_in g at 0 x) (places_from g next xs)
    ∙ ap (λ (ys : List Added). ys ++ without_section section (places_from g next xs)) (stays g section at 0 x here)
    ∙ ap (λ (ys : List Added). places_in g at 0 x ++ ys)
    (all_stay g section next xs (wrap-inside n (at + 1) (omega arith)) (omega arith) (λ j j_low same.
    others (j + 1) (omega arith)
    (ap (wrap n) (let e : at + (j + 1) ≡ at + 1 + j = omega arith in e) ∙ sym (wrap-wrap n (at + 1) j (omega arith) (omega arith)) ∙ same)))

-- The first of some sections in a row is dropped.
first_gone : (g : Geometry) (at : ℕ) (x : List Entry) (xs : List (List Entry)) → at < g.sections → length (x ∷ xs) ≤ g.sections
    → without_section at (places_from g at (x ∷ xs)) ≡ places_from g (wrap g.sections (at + 1)) xs
first_gone g at x xs low fits =
    let n = g.sections in
    let next = wrap n (at + 1) in
    filter-append (λ a. not (is_in at a)) (places_in g at 0 x) (places_from g next xs)
    ∙ ap (λ (ys : List Added). ys ++ without_section at (places_from g next xs)) (gone g at 0 x)
    ∙ all_stay g at next xs (wrap-inside n (at + 1) (omega arith)) (omega arith) (λ j j_low same.
    wrap-differs n at (j + 1) 0 low (omega arith) (omega arith) (λ none. absurd (omega (arith, none)))
    (ap (wrap n) (let e : at + (j + 1) ≡ at + 1 + j = omega arith in e) ∙ sym (wrap-wrap n (at + 1) j (omega arith) (omega arith)) ∙ same
    ∙ sym (wrap-below n at low) ∙ ap (wrap n) (let e : at ≡ at + 0 = omega arith in e)))

split_drop : {A : Type 0} (k : ℕ) (xs : List A) → k < length xs → (x : A) × (drop k xs ≡ x ∷ drop (k + 1) xs)
split_drop k [] low = absurd (omega arith)
split_drop zero (x ∷ xs) low = (x, refl)
split_drop (suc k) (x ∷ xs) low =
    let rest = split_drop k xs (omega arith) in
    (rest.0, rest.1 ∙ ap (λ (m : ℕ). rest.0 ∷ drop m (x ∷ xs)) (let e : suc (k + 1) ≡ suc k + 1 = omega arith in e))

-- ---- the sections of a ring that was freed

module _ (old new : JournalRing) (count : ℕ) (freed : HasFreed old count new) where
  abbrev n : ℕ
  n = old.geometry.sections

  abbrev olds : List (List Entry)
  olds = old.committed ++ old.opened

  pub same_geometry : new.geometry ≡ old.geometry
  same_geometry = ap (λ (r : JournalRing). r.geometry) freed.left

  olds_size : length (sections_of old) ≡ length old.committed + length old.opened
  olds_size = length-append old.committed old.opened

  news_size : length new.committed + length new.opened ≡ length (sections_of old) - count
  news_size =
      let low = freed.low in
      omega (arith, olds_size, ap (λ (r : JournalRing). length r.committed) freed.left, ap (λ (r : JournalRing). length r.opened) freed.left, length-drop count old.committed)

  fits : length (sections_of old) ≤ old.geometry.sections
  fits = let f = freed.bounds.fits in omega (arith, olds_size)

  from_low : oldest_at old < old.geometry.sections
  from_low = oldest_inside old freed.bounds

  -- The oldest section lies so far behind the one that was.
  oldest_then : oldest_at new ≡ wrap old.geometry.sections (oldest_at old + count)
  oldest_then =
      let inside = freed.bounds.inside in
      let f = freed.bounds.fits in
      let low = freed.low in
      let a : ℕ = old.next + (n - length old.committed) in
      ap oldest_at freed.left
      ∙ ap (λ (m : ℕ). wrap n (old.next + (n - m))) (length-drop count old.committed)
      ∙ ap (wrap n) (let e : old.next + (n - (length old.committed - count)) ≡ old.next + (n - length old.committed) + count = omega arith in e)
      ∙ sym (wrap-wrap n (old.next + (n - length old.committed)) count (omega arith) (omega arith))

  position_of : (section : ℕ) → position new section ≡ wrap old.geometry.sections (section + (old.geometry.sections - wrap old.geometry.sections (oldest_at old + count)))
  position_of section =
      ap (λ (g : Geometry). wrap g.sections (section + (g.sections - oldest_at new))) same_geometry
      ∙ ap (λ (o : ℕ). wrap n (section + (n - o))) oldest_then

  -- A section behind it has its place,
  position_left : (k : ℕ) → count ≤ k → k < old.geometry.sections → position new (wrap old.geometry.sections (oldest_at old + k)) ≡ k - count
  position_left k past low =
      let from = from_low in
      let first : ℕ = wrap n (oldest_at old + count) in
      position_of (wrap n (oldest_at old + k))
      ∙ ap (λ (s : ℕ). wrap n (s + (n - wrap n (oldest_at old + count))))
      (ap (wrap n) (let e : oldest_at old + k ≡ oldest_at old + count + (k - count) = omega arith in e) ∙ sym (wrap-wrap n (oldest_at old + count) (k - count) (omega arith) (omega arith)))
      ∙ position-behind n (wrap n (oldest_at old + count)) (k - count) (wrap-inside n (oldest_at old + count) (omega arith)) (omega arith)

  -- and one before it comes behind all others.
  position_gone : (k : ℕ) → k < count → position new (wrap old.geometry.sections (oldest_at old + k)) ≡ old.geometry.sections - (count - k)
  position_gone k before =
      let from = from_low in
      let low = freed.low in
      let f = freed.bounds.fits in
      let s : ℕ = wrap n (oldest_at old + k) in
      let s_low : wrap n (oldest_at old + k) < n = wrap-inside n (oldest_at old + k) (omega arith) in
      position_of (wrap n (oldest_at old + k))
      ∙ ap (λ (o : ℕ). wrap n (wrap n (oldest_at old + k) + (n - o)))
      (ap (wrap n) (let e : oldest_at old + count ≡ oldest_at old + k + (count - k) = omega arith in e) ∙ sym (wrap-wrap n (oldest_at old + k) (count - k) (omega arith) (omega arith)))
      ∙ elim (cases_lt (wrap n (oldest_at old + k) + (count - k)) n) [
        | inl below ↦
            ap (λ (o : ℕ). wrap n (wrap n (oldest_at old + k) + (n - o))) (wrap-below n (wrap n (oldest_at old + k) + (count - k)) below)
            ∙ wrap-below n (wrap n (oldest_at old + k) + (n - (wrap n (oldest_at old + k) + (count - k)))) (omega arith)
            ∙ (let e : wrap n (oldest_at old + k) + (n - (wrap n (oldest_at old + k) + (count - k))) ≡ n - (count - k) = omega arith in e)
        | inr above ↦
            ap (λ (o : ℕ). wrap n (wrap n (oldest_at old + k) + (n - o))) (wrap-above n (wrap n (oldest_at old + k) + (count - k)) above)
            ∙ wrap-above n (wrap n (oldest_at old + k) + (n - (wrap n (oldest_at old + k) + (count - k) - n))) (omega arith)
            ∙ (let e : wrap n (oldest_at old + k) + (n - (wrap n (oldest_at old + k) + (count - k) - n)) - n ≡ n - (count - k) = omega arith in e)
      ]

  -- ---- turn by turn

  -- After k turns that many sections are dropped, each of them free.
  abbrev pub Dropped : ℕ → List Added → Type 0
  Dropped k kept = (kept ≡ places_from old.geometry (wrap old.geometry.sections (oldest_at old + k)) (drop k (sections_of old))) × ((k ≤ count) ⊎ (length (sections_of old) ≤ count))

  pub none_dropped : (kept : List Added) → kept ≡ places_of old → Dropped 0 kept
  none_dropped kept is = (
    is ∙ ap (λ (at : ℕ). places_from old.geometry at (sections_of old)) (sym (ap (wrap n) (let e : oldest_at old + 0 ≡ oldest_at old = omega arith in e) ∙ wrap-below n (oldest_at old) from_low)),
    inl (omega arith),
  )

  free_tells : (k : ℕ) → k < old.geometry.sections → is_free new (wrap old.geometry.sections (oldest_at old + k)) ≡ true → count ≤ k → length (sections_of old) - count ≤ k - count
  free_tells k low free past = omega (arith, leb-true (length new.committed + length new.opened) (position new (wrap n (oldest_at old + k))) free, news_size, position_left k past low)

  free_gone : (k : ℕ) → k < count → is_free new (wrap old.geometry.sections (oldest_at old + k)) ≡ true
  free_gone k before =
      let low = freed.low in
      let f = fits in
      le-leb (length new.committed + length new.opened) (position new (wrap n (oldest_at old + k))) (omega (arith, news_size, position_gone k before, olds_size))

  pub one_dropped : (k : ℕ) (kept : List Added) → k < old.geometry.sections → is_free new (wrap old.geometry.sections (oldest_at old + k)) ≡ true → Dropped k kept
      → Dropped (k + 1) (without_section (wrap old.geometry.sections (oldest_at old + k)) kept)
  one_dropped k kept low free dropped = elim (cases_lt k (length (sections_of old))) [
    | inl more ↦
        let before : k < count = elim (cases_lt k count) [
          | inl less ↦ less
          | inr past ↦ ⊎_elim (λ least. absurd (omega (arith, free_tells k low free past, least, past, more))) (λ all. absurd (omega (arith, all, past, more))) dropped.1
        ] in
        let from = from_low in
        let at : ℕ = wrap n (oldest_at old + k) in
        let at_low : wrap n (oldest_at old + k) < n = wrap-inside n (oldest_at old + k) (omega arith) in
        let parts = split_drop k (sections_of old) more in
        let size = length-drop k (sections_of old) in
        let most = fits in (
          ap (without_section (wrap n (oldest_at old + k))) (dropped.0 ∙ ap (places_from old.geometry (wrap n (oldest_at old + k))) parts.1)
              ∙ first_gone old.geometry (wrap n (oldest_at old + k)) parts.0 (drop (k + 1) (sections_of old)) at_low (omega (arith, ap length parts.1, size))
              ∙ ap (λ (s : ℕ). places_from old.geometry s (drop (k + 1) (sections_of old)))
              (wrap-wrap n (oldest_at old + k) 1 (omega arith) (omega arith) ∙ ap (wrap n) (let e : oldest_at old + k + 1 ≡ oldest_at old + (k + 1) = omega arith in e)),
          inl (omega (arith, before)),
        )
    | inr none ↦
        let now = drop_all k (sections_of old) none in
        let then_ = drop_all (k + 1) (sections_of old) (omega (arith, none)) in (
          ap (without_section (wrap n (oldest_at old + k))) (dropped.0 ∙ ap (places_from old.geometry (wrap n (oldest_at old + k))) now)
              ∙ ap (places_from old.geometry (wrap n (oldest_at old + (k + 1)))) (sym then_),
          elim (cases_lt k count) [
            | inl less ↦ inl (omega (arith, less))
            | inr past ↦ ⊎_elim (λ least. inr (omega (arith, least, past, none))) inr dropped.1
          ],
        )
  ]

  sections_left : sections_of new ≡ drop count (sections_of old)
  sections_left = ap sections_of freed.left ∙ sym (drop-append-le count old.committed old.opened freed.low)

  left_places : places_from old.geometry (wrap old.geometry.sections (oldest_at old + count)) (drop count (sections_of old)) ≡ places_of new
  left_places =
      ap (λ (at : ℕ). places_from old.geometry at (drop count (sections_of old))) (sym oldest_then)
      ∙ ap (places_from old.geometry (oldest_at new)) (sym sections_left)
      ∙ ap (λ (g : Geometry). places_from g (oldest_at new) (sections_of new)) (sym same_geometry)

  none_of_all : (k : ℕ) (kept : List Added) → length (sections_of old) ≤ k → length (sections_of old) ≤ count
      → kept ≡ places_from old.geometry (wrap old.geometry.sections (oldest_at old + k)) (drop k (sections_of old)) → kept ≡ places_of new
  none_of_all k kept all most is =
      is ∙ ap (places_from old.geometry (wrap n (oldest_at old + k))) (drop_all k (sections_of old) all)
      ∙ ap (places_from old.geometry (wrap n (oldest_at old + count))) (sym (drop_all count (sections_of old) most))
      ∙ left_places

  -- Where a section is not free all that were freed are dropped,
  pub stops : (k : ℕ) (kept : List Added) → k < old.geometry.sections → is_free new (wrap old.geometry.sections (oldest_at old + k)) ≡ false → Dropped k kept → kept ≡ places_of new
  stops k kept low held dropped =
      let past : count ≤ k = elim (cases_lt k count) [
        | inl before ↦ absurd (false≢true (sym held ∙ free_gone k before))
        | inr past ↦ past
      ] in
      ⊎_elim (λ least.
      let same : k ≡ count = omega (arith, least, past) in
      dropped.0 ∙ ap (λ (m : ℕ). places_from old.geometry (wrap n (oldest_at old + m)) (drop m (sections_of old))) same ∙ left_places)
      (λ most. none_of_all k kept (omega (arith, most, past)) most dropped.0) dropped.1

  -- and so they are once there was a turn for each section.
  pub ends : (kept : List Added) → Dropped old.geometry.sections kept → kept ≡ places_of new
  ends kept dropped =
      let low = freed.low in
      let f = fits in
      none_of_all n kept f (⊎_elim (λ least. omega (arith, least)) (λ most. most) dropped.1) dropped.0

-- ---- for callers

-- A settle frees some sections, or none.
pub freed_by : {A : Type 0} (old new : Placement) (ring left : JournalRing) (before after : Store) (moved : Moved) (first last : A) → IsPlacementOf old ring → HasBounds ring → HasSettled moved old new ring left before after first last
    → (count : ℕ) × HasFreed ring count left
freed_by old new ring left before after Did first last is bounds has = (old.sections, record { bounds = bounds; low = is.sections; left = has.left_is ∙ settle-without old ring is })
freed_by old new ring left before after Idle first last is bounds has = (0, record { bounds = bounds; low = omega arith; left = has.ring_ })

-- The journal with the places that are left.
pub freed_is : (old new : JournalRing) (p q : Placement) (overlay left : Places) (count : ℕ) → HasFreed old count new → IsJournal old p overlay → IsPlacementOf q new → left.capacity ≡ overlay.capacity → left.kept ≡ places_of new
    → IsJournal new q left
freed_is old new p q overlay left count freed is placement capacity kept =
    let same = same_geometry old new count freed in record {
      geometry = subst (λ (g : Geometry). IsGeometry g (2 ^ 48)) (sym same) is.geometry;
      bounds = record {
        inside = omega (arith, ap (λ (r : JournalRing). r.next) freed.left, ap (λ (g : Geometry). g.sections) same, is.bounds.inside);
        fits = omega (arith, news_size old new count freed, olds_size old new count freed, ap (λ (g : Geometry). g.sections) same, is.bounds.fits);
      };
      few =
          subst (λ (g : Geometry). AllByRecursion (λ (entries : List Entry). length entries ≤ section_entries g.shape) (sections_of new)) (sym same)
          (subst (AllByRecursion (λ (entries : List Entry). length entries ≤ section_entries old.geometry.shape)) (sym (sections_left old new count freed))
          (all_drop (λ (entries : List Entry). length entries ≤ section_entries old.geometry.shape) count (sections_of old) is.few));
      placement = placement;
      room = capacity ∙ is.room ∙ ap entries_held (sym same);
      kept = kept;
    }
