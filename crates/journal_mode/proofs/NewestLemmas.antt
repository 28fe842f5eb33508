-- The newest place of a block, and the entry that stands there.
use Rattle.std.proofs.Common.{◌≡◌, inl, inr, ℕ, suc, ◌+◌, ◌-◌, ◌*◌, ◌/◌, ◌<◌, ◌≤◌, ◌==◌, if◌then◌else◌, Bool, true, false, refl, sym, ◌∙◌, ap, subst, arith, Option, Some, None, List, [], ◌∷◌, ◌++◌, length, length-append, get_or, slice_get}
use Rattle.std.specs.List.{AllByRecursion}
use Rattle.std.specs.Option.{option_or}
use Rattle.std.proofs.Math.Nat.{mul-div_cancel}
use Rattle.std.proofs.lemmas.Bool.{cases_eq, cases_lt, eq-eqb, ne_eqb}
use Rattle.std.proofs.lemmas.Nat.{div-add-mod'}
use Rattle.image_model.specs.Cells.{last_entry}
use Rattle.image_model.specs.Geometry.{Geometry}
use Rattle.image_model.specs.Section.{Entry}
use Rattle.place_model.proofs.EachLemmas.{all_append}
use Rattle.journal_laws.specs.Device.{block_of}
use Rattle.journal_laws.proofs.PromiseLemmas.{last_entry-here}
use Rattle.journal_model.specs.Ring.{JournalRing, entries_of}
use Rattle.journal_model.proofs.EntriesLemmas.{last_entry-append, last_entry-some}
use Rattle.journal_overlay.specs.Kept.{added, newest_of, place_for}
use Rattle.journal_overlay.specs.declared.place.Added.{Added}
use Rattle.image_model.specs.declared.entry_place.EntryPlace.{EntryPlace}
use Rattle.journal_ring.specs.Places.{entries_at, oldest_at}
use Rattle.journal_ring.specs.RoomLaws.{HasBounds}
use Rattle.journal_ring.specs.Sections.{wrap}
use Rattle.journal_ring.proofs.WrapLemmas.{wrap-above, wrap-below, wrap-inside, wrap-wrap}
use Rattle.replay.specs.Placement.{IsWholeEntry, IsWholeRing}
use Rattle.journal_mode.specs.Journal.{places_from, places_in, places_of, sections_of}
use Rattle.journal_mode.specs.Reads.{newest_in}
use Rattle.journal_mode.proofs.PlacesLemmas.{oldest_inside}

-- ---- the newest of some places

or_none : {A : Type 0} (o : Option A) → option_or o None ≡ o
or_none None = refl
or_none (Some x) = refl

or_or : {A : Type 0} (o p q : Option A) → option_or (option_or o p) q ≡ option_or o (option_or p q)
or_or None p q = refl
or_or (Some x) p q = refl

newest_of-append : (b : ℕ) (xs ys : List Added) → newest_of b (xs ++ ys) ≡ option_or (newest_of b ys) (newest_of b xs)
newest_of-append b [] ys = sym (or_none (newest_of b ys))
newest_of-append b (x ∷ xs) ys = ap (λ (o : Option EntryPlace). option_or o (place_for b x)) (newest_of-append b xs ys) ∙ or_or (newest_of b ys) (newest_of b xs) (place_for b x)

-- ---- the block of an entry

block-is : (g : Geometry) (entry : Entry) (b : ℕ) → IsWholeEntry g entry → block_of g entry ≡ b → entry.sector ≡ b * g.shape.spb
block-is g entry b whole is = omega (arith, div-add-mod' entry.sector g.shape.spb, whole.begins, ap (λ (x : ℕ). x * g.shape.spb) is)

is_block : (g : Geometry) (entry : Entry) (b : ℕ) → 1 ≤ g.shape.spb → entry.sector ≡ b * g.shape.spb → block_of g entry ≡ b
is_block g entry b some is = ap (λ (x : ℕ). x / g.shape.spb) is ∙ mul-div_cancel b some

-- ---- in one section

-- The place is one of the section's, and the entry there is the block's last.
record IsIn (g : Geometry) (section n : ℕ) (xs : List Entry) (b : ℕ) (place : EntryPlace) : Type 0 where
  k : ℕ
  section_is : place.section ≡ section
  entry_is : place.entry ≡ n + k
  entry : Entry
  there : slice_get xs k ≡ Some entry
  last : last_entry g xs b ≡ Some entry

abbrev TellsIn : Geometry → (section n : ℕ) → List Entry → ℕ → Option EntryPlace → Type 0
TellsIn g section n xs b None = last_entry g xs b ≡ None
TellsIn g section n xs b (Some place) = IsIn g section n xs b place

tells_in : (g : Geometry) (section n : ℕ) (xs : List Entry) (b : ℕ) → 1 ≤ g.shape.spb → AllByRecursion (IsWholeEntry g) xs → TellsIn g section n xs b (newest_of b (places_in g section n xs))
tells_in g section n [] b some whole = refl
tells_in g section n (x ∷ xs) b some whole = by (newest_of b (places_in g section (n + 1) xs)) (tells_in g section (n + 1) xs b some whole.1)
  where
    here : EntryPlace
    here = record { section = section; entry = n }

    first : (t : Bool) → (block_of g x == b) ≡ t → last_entry g xs b ≡ None → TellsIn g section n (x ∷ xs) b (if t then Some here else None)
    first true e none = record {
      k = 0;
      section_is = refl;
      entry_is = omega arith;
      entry = x;
      there = refl;
      last = elim (cases_eq (block_of g x) b) [
        | inl is ↦ last_entry-here g x xs b (block-is g x b whole.0 is) none
        | inr other ↦ absurd (let no = ne_eqb (block_of g x) b other in cc)
      ];
    }
    first false e none = elim (cases_eq x.sector (b * g.shape.spb)) [
      | inl is ↦ absurd (let yes = eq-eqb (block_of g x) b (is_block g x b some is) in cc)
      | inr other ↦
          last_entry-append g (x ∷ []) xs b ∙ ap (λ (o : Option Entry). option_or o (last_entry g (x ∷ []) b)) none
          ∙ (let alone : last_entry g (x ∷ []) b ≡ None = rw (ne_eqb x.sector (b * g.shape.spb) other) refl in alone)
    ]

    by : (o : Option EntryPlace) → TellsIn g section (n + 1) xs b o → TellsIn g section n (x ∷ xs) b (option_or o (place_for b (added (block_of g x) here)))
    by None none = first (block_of g x == b) refl none
    by (Some place) is = record {
      k = suc is.k;
      section_is = is.section_is;
      entry_is = omega (arith, is.entry_is);
      entry = is.entry;
      there = is.there;
      last = last_entry-some g (x ∷ []) xs b is.entry is.last;
    }

-- ---- in sections in a row

-- The place is one of these sections', and the entry there is the block's last.
pub record IsAmong (g : Geometry) (at : ℕ) (xs : List (List Entry)) (b : ℕ) (place : EntryPlace) : Type 0 where
  pub k : ℕ
  pub low : k < length xs
  pub section_is : place.section ≡ wrap g.sections (at + k)
  pub entry : Entry
  pub there : slice_get (get_or xs k []) place.entry ≡ Some entry
  pub last : last_entry g (entries_of xs) b ≡ Some entry

abbrev TellsAmong : Geometry → (at : ℕ) → List (List Entry) → ℕ → Option EntryPlace → Type 0
TellsAmong g at xs b None = last_entry g (entries_of xs) b ≡ None
TellsAmong g at xs b (Some place) = IsAmong g at xs b place

tells_among : (g : Geometry) (at : ℕ) (xs : List (List Entry)) (b : ℕ) → 1 ≤ g.shape.spb → at < g.sections → length xs ≤ g.sections → AllByRecursion (AllByRecursion (IsWholeEntry g)) xs
    → TellsAmong g at xs b (newest_of b (places_from g at xs))
tells_among g at [] b some low fits whole = refl
tells_among g at (x ∷ xs) b some low fits whole =
    subst (TellsAmong g at (x ∷ xs) b) (sym (newest_of-append b (places_in g at 0 x) (places_from g (wrap g.sections (at + 1)) xs)))
    (by (newest_of b (places_from g (wrap g.sections (at + 1)) xs)) (tells_among g (wrap g.sections (at + 1)) xs b some (wrap-inside g.sections (at + 1) (omega arith)) (omega arith) whole.1))
  where
    joined : last_entry g (entries_of (x ∷ xs)) b ≡ option_or (last_entry g (entries_of xs) b) (last_entry g x b)
    joined = last_entry-append g x (entries_of xs) b

    within : (o : Option EntryPlace) → last_entry g (entries_of xs) b ≡ None → TellsIn g at 0 x b o → TellsAmong g at (x ∷ xs) b o
    within None none absent = joined ∙ ap (λ (o : Option Entry). option_or o (last_entry g x b)) none ∙ absent
    within (Some place) none is = record {
      k = 0;
      low = omega arith;
      section_is = is.section_is ∙ sym (wrap-below g.sections at low) ∙ ap (wrap g.sections) (let e : at ≡ at + 0 = omega arith in e);
      entry = is.entry;
      there = ap (slice_get x) (let e : place.entry ≡ is.k = omega (arith, is.entry_is) in e) ∙ is.there;
      last = joined ∙ ap (λ (o : Option Entry). option_or o (last_entry g x b)) none ∙ is.last;
    }

    by : (o : Option EntryPlace) → TellsAmong g (wrap g.sections (at + 1)) xs b o → TellsAmong g at (x ∷ xs) b (option_or o (newest_of b (places_in g at 0 x)))
    by None none = within (newest_of b (places_in g at 0 x)) none (tells_in g at 0 x b some whole.0)
    by (Some place) is = let within_ = is.low in record {
      k = suc is.k;
      low = omega arith;
      section_is = is.section_is ∙ wrap-wrap g.sections (at + 1) is.k (omega arith) (omega arith) ∙ ap (wrap g.sections) (let e : at + 1 + is.k ≡ at + suc is.k = omega arith in e);
      entry = is.entry;
      there = is.there;
      last = last_entry-some g x (entries_of xs) b is.entry is.last;
    }

-- ---- of a ring

-- A section that is so far behind the oldest one has that position.
pub position-behind : (n first k : ℕ) → first < n → k < n → wrap n (wrap n (first + k) + (n - first)) ≡ k
position-behind n first k low inside = elim (cases_lt (first + k) n) [
  | inl below ↦
      ap (λ (x : ℕ). wrap n (x + (n - first))) (wrap-below n (first + k) below)
      ∙ wrap-above n (first + k + (n - first)) (omega arith)
      ∙ (let e : first + k + (n - first) - n ≡ k = omega arith in e)
  | inr above ↦
      ap (λ (x : ℕ). wrap n (x + (n - first))) (wrap-above n (first + k) above)
      ∙ ap (wrap n) (let e : first + k - n + (n - first) ≡ k = omega arith in e)
      ∙ wrap-below n k inside
]

-- The place is one of the ring's, and the entry there is the block's newest.
pub record IsNewest (ring : JournalRing) (b : ℕ) (place : EntryPlace) : Type 0 where
  pub section_low : place.section < ring.geometry.sections
  pub entry : Entry
  pub there : slice_get (entries_at ring place.section) place.entry ≡ Some entry
  pub newest : newest_in ring b ≡ Some entry

-- What the places of a ring tell of a block.
abbrev pub TellsNewest : JournalRing → ℕ → Option EntryPlace → Type 0
TellsNewest ring b None = newest_in ring b ≡ None
TellsNewest ring b (Some place) = IsNewest ring b place

pub tells_newest : (ring : JournalRing) (b : ℕ) → 1 ≤ ring.geometry.shape.spb → HasBounds ring → IsWholeRing ring → TellsNewest ring b (newest_of b (places_of ring))
tells_newest ring b some bounds whole = by (newest_of b (places_of ring)) (tells_among g at (sections_of ring) b some (oldest_inside ring bounds) fits all)
  where
    g : Geometry
    g = ring.geometry

    at : ℕ
    at = oldest_at ring

    fits : length (sections_of ring) ≤ ring.geometry.sections
    fits = let low = bounds.fits in omega (arith, length-append ring.committed ring.opened)

    all : AllByRecursion (AllByRecursion (IsWholeEntry ring.geometry)) (sections_of ring)
    all = all_append (AllByRecursion (IsWholeEntry ring.geometry)) ring.committed ring.opened whole.whole whole.whole_opened

    by : (o : Option EntryPlace) → TellsAmong ring.geometry (oldest_at ring) (sections_of ring) b o → TellsNewest ring b o
    by None none = none
    by (Some place) is =
        let n = ring.geometry.sections in
        let inside = oldest_inside ring bounds in
        let low = is.low in
        let lower = fits in record {
          section_low = let e = wrap-inside n (oldest_at ring + is.k) (omega arith) in omega (arith, is.section_is);
          entry = is.entry;
          there =
              ap (λ (s : ℕ). slice_get (entries_at ring s) place.entry) is.section_is
              ∙ ap (λ (k : ℕ). slice_get (get_or (sections_of ring) k []) place.entry) (position-behind n (oldest_at ring) is.k inside (omega arith))
              ∙ is.there;
          newest = is.last;
        }
