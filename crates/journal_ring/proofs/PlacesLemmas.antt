-- Where the sections of a ring lie, and what stands in them.
use Rattle.std.proofs.Common.{◌≡◌, ◌≢◌, inl, inr, ℕ, zero, suc, ◌+◌, ◌-◌, ◌*◌, ◌<◌, ◌≤◌, ltb, leb, Bool, if◌then◌else◌, List, [], ◌∷◌, ◌++◌, length, map, take, drop, get_or, set, slice_index, slice_get, refl, sym, ◌∙◌, ap, subst, arith, Option, Some, None, length-append, replicate}
use Rattle.std.specs.List.{range_with_len}
use Rattle.std.proofs.lemmas.Bool.{cases_lt, cases_eq, eq-eqb, ne_eqb}
use Rattle.std.proofs.lemmas.List.{map-append, drop-map, get_or_past, get_or-set_same, get_or-set_other, length-set, length-map}
use Rattle.std.proofs.lemmas.List.FromFn.{length-map-range_with_len, get_or-map-range_with_len}
use Rattle.std.proofs.lemmas.Option.{none-some}
use Rattle.image_model.specs.Geometry.{section_sectors, Geometry, Shape, section_entries}
use Rattle.journal_section.proofs.EntriesLemmas.{length-entries_of}
use Rattle.image_model.specs.Section.{Entry, section_bytes}
use Rattle.image_model.specs.Entries.{entries_of, BearsNumber, HoldsEntries}
use Rattle.commit_id.specs.declared.shape.Shape.{Shape as RustShape}
use Rattle.commit_id.specs.Shape.{IsShape}
use Rattle.commit_id.proofs.ShapeLemmas.{shape_holds}
use Rattle.journal_model.specs.Ring.{JournalRing}
use Rattle.journal_model.proofs.Runs.{run_joins, run_drop}
use Rattle.std.proofs.Common.{◌^◌, length-drop}
use Rattle.std.proofs.Math.Nat.{mul-le-mul_right}
use Rattle.std.proofs.lemmas.List.{length-take-le}
use Rattle.image_model.specs.Geometry.{IsGeometry}
use Rattle.image_model.proofs.Bounds.{has_entries}
use Rattle.journal_ring.specs.declared.marks.Marks.{Marks}
use Rattle.journal_ring.specs.Sections.{wrap, used_in, filled, IsHeld}
use Rattle.journal_ring.specs.Ring.{section_of, entries_held, view_of, number_at, IsRing}
use Rattle.journal_ring.specs.Places.{oldest_at, oldest_of, position, entries_at, is_committed, is_free, with_free}
use Rattle.journal_ring.proofs.WrapLemmas.{wrap-below, wrap-above, wrap-inside, wrap-differs, wrap-wrap}

-- ---- used entries

-- A used entry stands where it was put.
pub filled-at : (used : List Entry) (rest : List (Option Entry)) (n : ℕ) (entry : Entry) → slice_get used n ≡ Some entry
    → get_or (map (λ (x : Entry). Some x) used ++ rest) n None ≡ Some entry
filled-at [] rest n entry is = absurd (none-some entry is)
filled-at (x ∷ used) rest zero entry is = is
filled-at (x ∷ used) rest (suc n) entry is = filled-at used rest n entry is

-- There is one at each number below how many they are.
pub used_there : (used : List Entry) (n : ℕ) → n < length used → (entry : Entry) × (slice_get used n ≡ Some entry)
used_there [] n low = absurd (omega arith)
used_there (x ∷ used) zero low = (x, refl)
used_there (x ∷ used) (suc n) low = used_there used n (omega arith)

-- ---- places

-- A place behind the oldest one, and back.
wrap-back : (n first i : ℕ) → first < n → i < n → wrap n (first + wrap n (i + (n - first))) ≡ i
wrap-back n first i low inside = elim (cases_lt i first) [
  | inl before ↦
      let one = wrap-below n (i + (n - first)) (omega arith) in
      ap (λ (x : ℕ). wrap n (first + x)) one ∙ wrap-above n (first + (i + (n - first))) (omega arith) ∙ (let e : first + (i + (n - first)) - n ≡ i = omega arith in e)
  | inr behind ↦
      let one = wrap-above n (i + (n - first)) (omega arith) in
      ap (λ (x : ℕ). wrap n (first + x)) one ∙ ap (wrap n) (let e : first + (i + (n - first) - n) ≡ i = omega arith in e) ∙ wrap-below n i inside
]

module _ (g : Geometry) (bytes counts : List ℕ) (m : Marks) (is : IsRing g bytes counts m) where
  abbrev f : ℕ → List Entry
  f k = entries_held g bytes m.first k

  pub committed_long : length (view_of g bytes m).committed ≡ m.committed
  committed_long = length-map-range_with_len (entries_held g bytes m.first) 0 m.committed

  opened_long : length (view_of g bytes m).opened ≡ m.opened
  opened_long = length-map-range_with_len (entries_held g bytes m.first) m.committed m.opened

  -- The oldest section is the first of the marks.
  pub oldest_at-is : oldest_at (view_of g bytes m) ≡ m.first
  oldest_at-is =
      let low = is.first in
      let fits = is.fits in
      ap (λ (n : ℕ). wrap g.sections (wrap g.sections (m.first + m.committed) + (g.sections - n))) committed_long
      ∙ elim (cases_lt (m.first + m.committed) g.sections) [
        | inl below ↦
            ap (λ (x : ℕ). wrap g.sections (x + (g.sections - m.committed))) (wrap-below g.sections (m.first + m.committed) below)
            ∙ wrap-above g.sections (m.first + m.committed + (g.sections - m.committed)) (omega arith)
            ∙ (let e : m.first + m.committed + (g.sections - m.committed) - g.sections ≡ m.first = omega arith in e)
        | inr above ↦
            ap (λ (x : ℕ). wrap g.sections (x + (g.sections - m.committed))) (wrap-above g.sections (m.first + m.committed) above)
            ∙ ap (wrap g.sections) (let e : m.first + m.committed - g.sections + (g.sections - m.committed) ≡ m.first = omega arith in e)
            ∙ wrap-below g.sections m.first low
      ]

  pub position-is : (i : ℕ) → position (view_of g bytes m) i ≡ wrap g.sections (i + (g.sections - m.first))
  position-is i = ap (λ (x : ℕ). wrap g.sections (i + (g.sections - x))) oldest_at-is

  position_inside : (i : ℕ) → i < g.sections → wrap g.sections (i + (g.sections - m.first)) < g.sections
  position_inside i low = let first = is.first in wrap-below-or i low
    where
      wrap-below-or : (i : ℕ) → i < g.sections → wrap g.sections (i + (g.sections - m.first)) < g.sections
      wrap-below-or i low = let first = is.first in elim (cases_lt i m.first) [
        | inl before ↦ let e = wrap-below g.sections (i + (g.sections - m.first)) (omega arith) in omega arith
        | inr behind ↦ let e = wrap-above g.sections (i + (g.sections - m.first)) (omega arith) in omega arith
      ]

  -- All sections in their order.
  all_sections : (view_of g bytes m).committed ++ (view_of g bytes m).opened ≡ map (entries_held g bytes m.first) (range_with_len 0 (m.committed + m.opened))
  all_sections =
      ap (λ (n : ℕ). map (entries_held g bytes m.first) (range_with_len 0 m.committed) ++ map (entries_held g bytes m.first) (range_with_len n m.opened)) (let e : m.committed ≡ 0 + m.committed = omega arith in e)
      ∙ sym (map-append (entries_held g bytes m.first) (range_with_len 0 m.committed) (range_with_len (0 + m.committed) m.opened))
      ∙ ap (map (entries_held g bytes m.first)) (run_joins 0 m.committed m.opened)

  -- The entries of a section that is not free are those of its bytes,
  pub entries-held : (i : ℕ) → i < g.sections → wrap g.sections (i + (g.sections - m.first)) < m.committed + m.opened
      → entries_at (view_of g bytes m) i ≡ used_in g.shape (section_bytes g.shape bytes i)
  entries-held i low held =
      let k : ℕ = wrap g.sections (i + (g.sections - m.first)) in
      ap (λ (n : ℕ). get_or ((view_of g bytes m).committed ++ (view_of g bytes m).opened) n []) (position-is i)
      ∙ ap (λ (xs : List (List Entry)). get_or xs k []) all_sections
      ∙ get_or-map-range_with_len (entries_held g bytes m.first) 0 (m.committed + m.opened) k k [] held (omega arith)
      ∙ ap (λ (n : ℕ). used_in g.shape (section_bytes g.shape bytes n)) (wrap-back g.sections m.first i is.first low)

  -- and a free one has none.
  pub entries-free : (i : ℕ) → m.committed + m.opened ≤ wrap g.sections (i + (g.sections - m.first)) → entries_at (view_of g bytes m) i ≡ []
  entries-free i free =
      let k : ℕ = wrap g.sections (i + (g.sections - m.first)) in
      let long = length-map-range_with_len (entries_held g bytes m.first) 0 (m.committed + m.opened) in
      ap (λ (n : ℕ). get_or ((view_of g bytes m).committed ++ (view_of g bytes m).opened) n []) (position-is i)
      ∙ ap (λ (xs : List (List Entry)). get_or xs k []) all_sections
      ∙ get_or_past (map (entries_held g bytes m.first) (range_with_len 0 (m.committed + m.opened))) k [] (omega arith)

  -- Its count tells how many.
  pub entries-count : (i : ℕ) → i < g.sections → slice_index counts i ≡ length (entries_at (view_of g bytes m) i)
  entries-count i low =
      let k : ℕ = wrap g.sections (i + (g.sections - m.first)) in
      let back = wrap-back g.sections m.first i is.first low in
      elim (cases_lt k (m.committed + m.opened)) [
        | inl held ↦
            ap (slice_index counts) (sym back) ∙ sym (is.held k held).count_is
            ∙ ap (λ (n : ℕ). length (used_in g.shape (section_bytes g.shape bytes n))) back
            ∙ ap length (sym (entries-held i low held))
        | inr free ↦
            ap (slice_index counts) (sym back) ∙ is.free k free (position_inside i low) ∙ ap length (sym (entries-free i free))
      ]

  -- A section with an entry is not free, and holds it.
  pub entry_held : (i n : ℕ) → i < g.sections → n < length (entries_at (view_of g bytes m) i) → IsHeld g.shape (slice_index counts i) (section_bytes g.shape bytes i)
      × (entries_at (view_of g bytes m) i ≡ used_in g.shape (section_bytes g.shape bytes i))
  entry_held i n low some =
      let k : ℕ = wrap g.sections (i + (g.sections - m.first)) in
      let back = wrap-back g.sections m.first i is.first low in
      elim (cases_lt k (m.committed + m.opened)) [
        | inl held ↦ (subst (λ (j : ℕ). IsHeld g.shape (slice_index counts j) (section_bytes g.shape bytes j)) back (is.held k held), entries-held i low held)
        | inr free ↦ let none = ap length (entries-free i free) in absurd (omega arith)
      ]

  pub committed-is : (i : ℕ) → is_committed (view_of g bytes m) i ≡ ltb (wrap g.sections (i + (g.sections - m.first))) m.committed
  committed-is i = ap (λ (n : ℕ). ltb n (length (view_of g bytes m).committed)) (position-is i) ∙ ap (ltb (wrap g.sections (i + (g.sections - m.first)))) committed_long

  pub free-is : (i : ℕ) → is_free (view_of g bytes m) i ≡ leb (m.committed + m.opened) (wrap g.sections (i + (g.sections - m.first)))
  free-is i =
      ap (leb (length (view_of g bytes m).committed + length (view_of g bytes m).opened)) (position-is i)
      ∙ ap (λ (n : ℕ). leb (n + length (view_of g bytes m).opened) (wrap g.sections (i + (g.sections - m.first)))) committed_long
      ∙ ap (λ (n : ℕ). leb (m.committed + n) (wrap g.sections (i + (g.sections - m.first)))) opened_long

  pub oldest-none : m.committed + m.opened ≡ 0 → oldest_of (view_of g bytes m) ≡ None
  oldest-none none =
      let no = eq-eqb (length (view_of g bytes m).committed + length (view_of g bytes m).opened) 0 (omega (arith, committed_long, opened_long)) in
      ap (λ (b : Bool). if b then None else Some (oldest_at (view_of g bytes m))) no

  pub oldest-some : m.committed + m.opened ≢ 0 → oldest_of (view_of g bytes m) ≡ Some m.first
  oldest-some some =
      let yes = ne_eqb (length (view_of g bytes m).committed + length (view_of g bytes m).opened) 0 (λ none. some (omega (arith, committed_long, opened_long))) in
      ap (λ (b : Bool). if b then None else Some (oldest_at (view_of g bytes m))) yes
      ∙ ap (λ (n : ℕ). Some n) oldest_at-is

  -- ---- a section is freed

  abbrev freed : Marks
  freed = record m { first = wrap g.sections (m.first + 1); committed = m.committed - 1 }

  moved : (k : ℕ) → k < g.sections → 1 ≤ g.sections → wrap g.sections (wrap g.sections (m.first + 1) + k) ≡ wrap g.sections (m.first + (k + 1))
  moved k low some = let first = is.first in
      wrap-wrap g.sections (m.first + 1) k (omega arith) (omega arith) ∙ ap (wrap g.sections) (let e : m.first + 1 + k ≡ m.first + (k + 1) = omega arith in e)

  moved_list : (from count : ℕ) → from + count ≤ g.sections → 1 ≤ g.sections
      → map (entries_held g bytes (wrap g.sections (m.first + 1))) (range_with_len from count) ≡ map (entries_held g bytes m.first) (range_with_len (from + 1) count)
  moved_list from zero fits some = refl
  moved_list from (suc count) fits some =
      ap (λ (x : List Entry). x ∷ map (entries_held g bytes (wrap g.sections (m.first + 1))) (range_with_len (from + 1) count))
      (ap (λ (n : ℕ). used_in g.shape (section_bytes g.shape bytes n)) (moved from (omega arith) some))
      ∙ ap (λ (xs : List (List Entry)). entries_held g bytes m.first (from + 1) ∷ xs) (moved_list (from + 1) count (omega arith) some)

  pub view_of-freed : 1 ≤ m.committed → view_of g bytes (record m { first = wrap g.sections (m.first + 1); committed = m.committed - 1 }) ≡ with_free (view_of g bytes m)
  view_of-freed some = λ i. record {
    geometry = g;
    next = next i;
    number = m.number;
    committed = committed i;
    opened = opened i;
    closed = m.closed;
  }
    where
      next : wrap g.sections (wrap g.sections (m.first + 1) + (m.committed - 1)) ≡ wrap g.sections (m.first + m.committed)
      next = let fits = is.fits in moved (m.committed - 1) (omega arith) (omega arith) ∙ ap (λ (n : ℕ). wrap g.sections (m.first + n)) (let e : m.committed - 1 + 1 ≡ m.committed = omega arith in e)

      committed : map (entries_held g bytes (wrap g.sections (m.first + 1))) (range_with_len 0 (m.committed - 1)) ≡ drop 1 (map (entries_held g bytes m.first) (range_with_len 0 m.committed))
      committed = let fits = is.fits in
          moved_list 0 (m.committed - 1) (omega arith) (omega arith)
          ∙ ap (map (entries_held g bytes m.first)) (sym (run_drop 0 m.committed 1))
          ∙ sym (drop-map (entries_held g bytes m.first) 1 (range_with_len 0 m.committed))

      opened : map (entries_held g bytes (wrap g.sections (m.first + 1))) (range_with_len (m.committed - 1) m.opened) ≡ map (entries_held g bytes m.first) (range_with_len m.committed m.opened)
      opened = let fits = is.fits in
          moved_list (m.committed - 1) m.opened (omega arith) (omega arith)
          ∙ ap (λ (n : ℕ). map (entries_held g bytes m.first) (range_with_len n m.opened)) (let e : m.committed - 1 + 1 ≡ m.committed = omega arith in e)

  pub IsRing-freed : 1 ≤ m.committed → IsRing g bytes (set counts m.first 0) (record m { first = wrap g.sections (m.first + 1); committed = m.committed - 1 })
  IsRing-freed some = let fits = is.fits in let first = is.first in record {
    geometry = is.geometry;
    size = is.size;
    counts_are = length-set counts m.first 0 ∙ is.counts_are;
    first = wrap-inside g.sections (m.first + 1) (omega arith);
    number = is.number;
    fits = omega arith;
    held = λ k low.
        let e = moved k (omega arith) (omega arith) in
        subst (λ (j : ℕ). IsHeld g.shape (slice_index (set counts m.first 0) j) (section_bytes g.shape bytes j)) (sym e)
        (subst (λ (n : ℕ). IsHeld g.shape n (section_bytes g.shape bytes (section_of g m (k + 1)))) (sym (other (k + 1) (omega arith) (omega arith))) (is.held (k + 1) (omega arith)));
    free = λ k low high.
        let e = moved k high (omega arith) in
        ap (slice_index (set counts m.first 0)) e
        ∙ elim (cases_eq (k + 1) g.sections) [
          | inl last ↦
              let round = ap (λ (n : ℕ). wrap g.sections (m.first + n)) last ∙ wrap-above g.sections (m.first + g.sections) (omega arith) ∙ (let r : m.first + g.sections - g.sections ≡ m.first = omega arith in r) in
              ap (slice_index (set counts m.first 0)) round ∙ get_or-set_same counts m.first 0 0 (let long = is.counts_are in omega arith)
          | inr before ↦ other (k + 1) (omega arith) (omega arith) ∙ is.free (k + 1) (omega arith) (omega arith)
        ];
    sealed = λ k low.
        let e = moved (m.committed - 1 + k) (omega arith) (omega arith) in
        let at : m.committed - 1 + k + 1 ≡ m.committed + k = omega arith in
        let next = moved (m.committed - 1) (omega arith) (omega arith) ∙ ap (λ (n : ℕ). wrap g.sections (m.first + n)) (let r : m.committed - 1 + 1 ≡ m.committed = omega arith in r) in
        let whole = e ∙ ap (λ (n : ℕ). wrap g.sections (m.first + n)) at in
        subst (λ (j : ℕ). BearsNumber g.shape j (number_at g.sections (wrap g.sections (wrap g.sections (m.first + 1) + (m.committed - 1))) m.number k) (section_bytes g.shape bytes j)) (sym whole)
        (subst (λ (x : ℕ). BearsNumber g.shape (section_of g m (m.committed + k)) (number_at g.sections x m.number k) (section_bytes g.shape bytes (section_of g m (m.committed + k)))) (sym next) (is.sealed k low));
  }
    where
      other : (k : ℕ) → 1 ≤ k → k < g.sections → slice_index (set counts m.first 0) (section_of g m k) ≡ slice_index counts (section_of g m k)
      other k more low = let first = is.first in
          get_or-set_other counts m.first (section_of g m k) 0 0 (λ same.
          wrap-differs g.sections m.first k 0 is.first low (omega arith) (λ zero_. absurd (omega arith))
          (same ∙ sym (ap (wrap g.sections) (let r : m.first + 0 ≡ m.first = omega arith in r) ∙ wrap-below g.sections m.first is.first)))

-- ---- for callers

-- The bytes are those of a section that has an entry n.
pub record Shows (s : Shape) (ring : JournalRing) (section n : ℕ) (bytes : List ℕ) : Type 0 where
  pub holds : HoldsEntries s (filled (section_entries s) (used_in s bytes)) bytes
  pub used : n < length (used_in s bytes)
  pub same : entries_at ring section ≡ used_in s bytes

pub shows_from : (g : Geometry) (pool counts : List ℕ) (m : Marks) (ring : JournalRing) (s : Shape) (i n : ℕ) (bytes all : List ℕ) → IsRing g pool counts m
    → view_of g pool m ≡ ring → s ≡ g.shape → i < ring.geometry.sections → n < length (entries_at ring i)
    → bytes ≡ section_bytes s all i → all ≡ pool → Shows s ring i n bytes
shows_from g pool counts m ring s i n bytes all is view shape_is low some bytes_are all_is =
    let inside = subst (λ (r : JournalRing). i < r.geometry.sections) (sym view) low in
    let more = subst (λ (r : JournalRing). n < length (entries_at r i)) (sym view) some in
    let both = entry_held g pool counts m is i n inside more in
    let here : bytes ≡ section_bytes g.shape pool i =
    bytes_are ∙ ap (λ (xs : List ℕ). section_bytes s xs i) all_is ∙ ap (λ (t : Shape). section_bytes t pool i) shape_is in
    let same : entries_at ring i ≡ used_in s bytes =
    sym (ap (λ (r : JournalRing). entries_at r i) view) ∙ both.1 ∙ ap (used_in g.shape) (sym here) ∙ ap (λ (t : Shape). used_in t bytes) (sym shape_is) in
    record {
      holds = subst (λ (t : Shape). HoldsEntries t (filled (section_entries t) (used_in t bytes)) bytes) (sym shape_is)
          (subst (λ (xs : List ℕ). HoldsEntries g.shape (filled (section_entries g.shape) (used_in g.shape xs)) xs) (sym here) both.0.holds);
      used = subst (λ (xs : List Entry). n < length xs) same some;
      same = same;
    }

-- A section has at most as many entries as there is room for.
pub used_low : (s : Shape) (bytes : List ℕ) → HoldsEntries s (filled (section_entries s) (used_in s bytes)) bytes → length (used_in s bytes) ≤ section_entries s
used_low s bytes holds =
    let used : List Entry = used_in s bytes in
    let rest : ℕ = section_entries s - length used in
    let all = ap length holds.entries_are in
    omega (arith, all, length-entries_of s bytes, length-append (map (λ (x : Entry). Some x) used) (replicate rest None), length-map used (λ (x : Entry). Some x))

-- Entry n of the section is the used one.
pub entry_told : (s : Shape) (bytes : List ℕ) (n : ℕ) (entry : Entry) → HoldsEntries s (filled (section_entries s) (used_in s bytes)) bytes
    → slice_get (used_in s bytes) n ≡ Some entry → get_or (entries_of s bytes) n None ≡ Some entry
entry_told s bytes n entry holds there =
    ap (λ (xs : List (Option Entry)). get_or xs n None) holds.entries_are
    ∙ filled-at (used_in s bytes) (replicate (section_entries s - length (used_in s bytes)) None) n entry there

-- The metadata sectors of a section.
pub meta_fits : (shape : RustShape) (bytes : List ℕ) → IsShape shape → length bytes ≡ 512 * shape.sectors → 4096 ≤ length bytes
meta_fits shape bytes is size =
    let least = (shape_holds shape is).2.sectors_low in
    let sectors = is.sectors in
    omega arith

-- What a look at entry n of a section needs, and what it finds.
pub record Looks (g : Geometry) (pool : List ℕ) (ring : JournalRing) (i n : ℕ) : Type 0 where
  pub low : n < section_entries g.shape
  pub meta_size : length (take 4096 (section_bytes g.shape pool i)) ≡ 4096
  pub size : length (section_bytes g.shape pool i) ≡ 512 * section_sectors g.shape
  pub some : (entry : Entry) × (slice_get (used_in g.shape (section_bytes g.shape pool i)) n ≡ Some entry)
  pub finds : (entry : Entry) → slice_get (entries_at ring i) n ≡ Some entry → get_or (entries_of g.shape (section_bytes g.shape pool i)) n None ≡ Some entry
  pub there : (entry : Entry) → slice_get (used_in g.shape (section_bytes g.shape pool i)) n ≡ Some entry
      → get_or (entries_of g.shape (section_bytes g.shape pool i)) n None ≡ Some entry

pub looks_from : (g : Geometry) (pool counts : List ℕ) (m : Marks) (ring : JournalRing) (i n : ℕ) → IsRing g pool counts m → view_of g pool m ≡ ring
    → i < ring.geometry.sections → n < length (entries_at ring i) → Looks g pool ring i n
looks_from g pool counts m ring i n is view low some =
    let bytes : List ℕ = section_bytes g.shape pool i in
    let shows : Shows g.shape ring i n bytes = shows_from g pool counts m ring g.shape i n bytes pool is view refl low some refl refl in
    let most = used_low g.shape bytes shows.holds in
    let used = shows.used in
    let size = shows.holds.size in
    let least = (has_entries g.shape is.geometry.spb.0 is.geometry.spb.1 is.geometry.tag_size.0 is.geometry.tag_size.1).sectors_low in
    record {
      low = omega arith;
      meta_size = length-take-le 4096 bytes (let e : 4096 ≤ length bytes = omega arith in e);
      size = size;
      some = used_there (used_in g.shape bytes) n shows.used;
      finds = λ entry told. entry_told g.shape bytes n entry shows.holds (subst (λ (xs : List Entry). slice_get xs n ≡ Some entry) shows.same told);
      there = λ entry told. entry_told g.shape bytes n entry shows.holds told;
    }

-- The data sectors of an entry.
pub parts_long : (g : Geometry) (bytes : List ℕ) (n : ℕ) → IsGeometry g (2 ^ 48) → length bytes ≡ 512 * section_sectors g.shape → n < section_entries g.shape
    → length (take (512 * g.shape.spb) (drop (512 * (8 + n * g.shape.spb)) bytes)) ≡ 512 * g.shape.spb
parts_long g bytes n is size low =
    let rows : (n + 1) * g.shape.spb ≤ section_entries g.shape * g.shape.spb = mul-le-mul_right g.shape.spb (let e : n + 1 ≤ section_entries g.shape = omega arith in e) in
    let width = (has_entries g.shape is.spb.0 is.spb.1 is.tag_size.0 is.tag_size.1).sectors_is in
    length-take-le (512 * g.shape.spb) (drop (512 * (8 + n * g.shape.spb)) bytes)
    (let rest = length-drop (512 * (8 + n * g.shape.spb)) bytes in let e : 512 * g.shape.spb ≤ length (drop (512 * (8 + n * g.shape.spb)) bytes) = omega arith in e)
