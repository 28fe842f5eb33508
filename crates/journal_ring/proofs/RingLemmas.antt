-- The ring that the sections in memory are.
use Rattle.std.proofs.Common.{◌≡◌, ◌≢◌, inl, inr, ℕ, zero, suc, ◌+◌, ◌-◌, ◌*◌, ◌^◌, ◌<◌, ◌≤◌, Bool, true, false, not, ◌&&◌, ltb, if◌then◌else◌, List, [], ◌∷◌, ◌++◌, length, map, set, slice_index, get_or, refl, sym, ◌∙◌, ap, subst, arith, None, replicate}
use Rattle.std.specs.List.{range_with_len}
use Rattle.std.proofs.lemmas.Bool.{cases_lt, cases_eq, false≢true, ltb-true, lt-ltb, and_parts}
use Rattle.std.proofs.lemmas.List.FromFn.{length-map-range_with_len, map-range_with_len_more}
use Rattle.std.proofs.lemmas.List.{get_or_default, get_or-set_same, get_or-set_other, length-set}
use Rattle.std.proofs.Math.Nat.{mul-le-mul_left, mul-le-mul_right}
use Rattle.image_model.proofs.Bounds.{has_entries}
use Rattle.image_model.specs.Geometry.{Geometry, Shape, section_entries, section_sectors, IsGeometry}
use Rattle.image_model.specs.Section.{Entry, section_bytes}
use Rattle.image_model.specs.Entries.{BearsNumber, HoldsEntries}
use Rattle.journal_section.specs.Pieces.{PutsEntry}
use Rattle.journal_model.specs.Ring.{JournalRing, takes_more, has_open_section, put_last, with_put, HasFreeSection}
use Rattle.journal_ring.specs.declared.marks.Marks.{Marks}
use Rattle.journal_ring.specs.Sections.{wrap, used_in, IsHeld, ChangesSection}
use Rattle.journal_ring.specs.Ring.{section_of, entries_held, view_of, number_at, IsRing, with_section, with_open, with_entry}
use Rattle.journal_ring.proofs.SectionsLemmas.{used-put, used-cleared, IsHeld-put, IsHeld-cleared, BearsNumber-put}
use Rattle.journal_ring.proofs.WrapLemmas.{wrap-inside, wrap-differs, wrap-wrap}
use Rattle.journal_ring.specs.Places.{last_of, next_place}

-- ---- lists of sections

-- Sections in a row that have the same entries.
pub map-same : {X : Type 0} (f h : ℕ → X) (from count : ℕ) → ((k : ℕ) → from ≤ k → k < from + count → f k ≡ h k)
    → map f (range_with_len from count) ≡ map h (range_with_len from count)
map-same f h from zero same = refl
map-same f h from (suc count) same =
    ap (λ x. x ∷ map f (range_with_len (from + 1) count)) (same from (omega arith) (omega arith))
    ∙ ap (λ xs. h from ∷ xs) (map-same f h (from + 1) count (λ k low high. same k (omega arith) (omega arith)))

-- The last of some sections.
pub put_last-push : (entry : Entry) (xs : List (List Entry)) (x : List Entry) → put_last entry (xs ++ x ∷ []) ≡ xs ++ (x ++ entry ∷ []) ∷ []
put_last-push entry [] x = refl
put_last-push entry (y ∷ []) x = refl
put_last-push entry (y ∷ z ∷ xs) x = ap (λ (ys : List (List Entry)). y ∷ ys) (put_last-push entry (z ∷ xs) x)

pub takes_more-push : (size : ℕ) (closed : Bool) (xs : List (List Entry)) (x : List Entry)
    → takes_more size closed (xs ++ x ∷ []) ≡ (not closed && ltb (length x) size)
takes_more-push size closed [] x = refl
takes_more-push size closed (y ∷ []) x = refl
takes_more-push size closed (y ∷ z ∷ xs) x = takes_more-push size closed (z ∷ xs) x

-- ---- places

-- A section of the ring lies in the pool,
pub section_inside : (g : Geometry) (bytes counts : List ℕ) (m : Marks) (i : ℕ) → IsRing g bytes counts m → i < g.sections
    → 512 * ((i + 1) * section_sectors g.shape) ≤ length bytes
section_inside g bytes counts m i is low =
    let o : (i + 1) * section_sectors g.shape ≤ g.sections * section_sectors g.shape = mul-le-mul_right (section_sectors g.shape) (let le : i + 1 ≤ g.sections = omega arith in le) in
    let size = is.size in
    omega arith

-- Another section than that which was changed has the same bytes.
kept : (g : Geometry) (old new counts : List ℕ) (m : Marks) (i k : ℕ) → IsRing g old counts m → ChangesSection g.shape i old new
    → k < g.sections → section_of g m k ≢ i → section_bytes g.shape new (section_of g m k) ≡ section_bytes g.shape old (section_of g m k)
kept g old new counts m i k is changes low other =
    let first = is.first in
    changes.others (section_of g m k) other (section_inside g old counts m (section_of g m k) is (wrap-inside g.sections (m.first + k) (omega arith)))

-- The opened sections, the last one apart.
pub opened-last : (g : Geometry) (bytes : List ℕ) (m : Marks) (k : ℕ) → m.opened ≡ k + 1
    → (view_of g bytes m).opened ≡ map (entries_held g bytes m.first) (range_with_len m.committed k) ++ entries_held g bytes m.first (m.committed + k) ∷ []
opened-last g bytes m k is =
    ap (λ (n : ℕ). map (entries_held g bytes m.first) (range_with_len m.committed n)) is
    ∙ map-range_with_len_more (entries_held g bytes m.first) m.committed k (m.committed + k) refl

-- ---- a section is opened

module _ (g : Geometry) (old new counts : List ℕ) (m : Marks) (is : IsRing g old counts m) (more : m.committed + m.opened < g.sections)
    (changes : ChangesSection g.shape (section_of g m (m.committed + m.opened)) old new)
    (bears : BearsNumber g.shape (section_of g m (m.committed + m.opened))
    (number_at g.sections (section_of g m m.committed) m.number m.opened)
    (section_bytes g.shape new (section_of g m (m.committed + m.opened))))
    (clear : HoldsEntries g.shape (replicate (section_entries g.shape) None)
    (section_bytes g.shape new (section_of g m (m.committed + m.opened)))) where
  abbrev opened_marks : Marks
  opened_marks = record m { opened = m.opened + 1; closed = false }

  open-kept : (k : ℕ) → k < m.committed + m.opened → section_bytes g.shape new (section_of g m k) ≡ section_bytes g.shape old (section_of g m k)
  open-kept k low = kept g old new counts m (section_of g m (m.committed + m.opened)) k is changes (omega arith)
      (wrap-differs g.sections m.first k (m.committed + m.opened) is.first (omega arith) more (λ same. absurd (omega arith)))

  open-held : (k : ℕ) → k < m.committed + (m.opened + 1)
      → IsHeld g.shape (slice_index counts (section_of g m k)) (section_bytes g.shape new (section_of g m k))
  open-held k low = elim (cases_lt k (m.committed + m.opened)) [
    | inl before ↦ subst (λ (xs : List ℕ). IsHeld g.shape (slice_index counts (section_of g m k)) xs) (sym (open-kept k before)) (is.held k before)
    | inr last ↦
        let here : m.committed + m.opened ≡ k = omega arith in
        let none = is.free (m.committed + m.opened) (omega arith) more in
        subst (λ (n : ℕ). IsHeld g.shape (slice_index counts (section_of g m n)) (section_bytes g.shape new (section_of g m n))) here
        (subst (λ (n : ℕ). IsHeld g.shape n (section_bytes g.shape new (section_of g m (m.committed + m.opened)))) (sym none)
        (IsHeld-cleared g.shape (section_bytes g.shape new (section_of g m (m.committed + m.opened))) clear))
  ]

  open-sealed : (k : ℕ) → k < m.opened + 1 → BearsNumber g.shape (section_of g m (m.committed + k))
      (number_at g.sections (section_of g m m.committed) m.number k) (section_bytes g.shape new (section_of g m (m.committed + k)))
  open-sealed k low = elim (cases_lt k m.opened) [
    | inl before ↦ subst (λ (xs : List ℕ). BearsNumber g.shape (section_of g m (m.committed + k)) (number_at g.sections (section_of g m m.committed) m.number k) xs)
        (sym (open-kept (m.committed + k) (omega arith))) (is.sealed k before)
    | inr last ↦
        let here : m.opened ≡ k = omega arith in
        subst (λ (n : ℕ). BearsNumber g.shape (section_of g m (m.committed + n)) (number_at g.sections (section_of g m m.committed) m.number n) (section_bytes g.shape new (section_of g m (m.committed + n)))) here bears
  ]

  pub IsRing-open : IsRing g new counts opened_marks
  IsRing-open = record {
    geometry = is.geometry;
    size = changes.size ∙ is.size;
    counts_are = is.counts_are;
    first = is.first;
    number = is.number;
    fits = omega arith;
    held = open-held;
    free = λ k low high. is.free k (omega arith) high;
    sealed = open-sealed;
  }

  same_entries : (k : ℕ) → k < m.committed + m.opened → entries_held g new m.first k ≡ entries_held g old m.first k
  same_entries k low = ap (used_in g.shape) (open-kept k low)

  pub view_of-open : view_of g new opened_marks ≡ with_section (view_of g old m)
  view_of-open i = record {
    geometry = g;
    next = wrap g.sections (m.first + m.committed);
    number = m.number;
    committed = map-same (entries_held g new m.first) (entries_held g old m.first) 0 m.committed (λ k low high. same_entries k (omega arith)) i;
    opened = lists i;
    closed = false;
  }
    where
      lists : map (entries_held g new m.first) (range_with_len m.committed (m.opened + 1)) ≡ map (entries_held g old m.first) (range_with_len m.committed m.opened) ++ [] ∷ []
      lists =
          map-range_with_len_more (entries_held g new m.first) m.committed m.opened (m.committed + m.opened) refl
          ∙ ap (λ (xs : List (List Entry)). xs ++ entries_held g new m.first (m.committed + m.opened) ∷ [])
          (map-same (entries_held g new m.first) (entries_held g old m.first) m.committed m.opened (λ k low high. same_entries k high))
          ∙ ap (λ (x : List Entry). map (entries_held g old m.first) (range_with_len m.committed m.opened) ++ x ∷ [])
          (used-cleared g.shape (section_bytes g.shape new (section_of g m (m.committed + m.opened))) clear)

-- ---- an entry is put into the last section

-- The list with one item changed has the others.
counts_other : (counts : List ℕ) (i j value : ℕ) → j ≢ i → slice_index (set counts i value) j ≡ slice_index counts j
counts_other counts i j value other = get_or-set_other counts i j value 0 other

counts_same : (counts : List ℕ) (i value : ℕ) → i < length counts → slice_index (set counts i value) i ≡ value
counts_same counts i value low = get_or-set_same counts i value 0 low

module _ (g : Geometry) (old new counts : List ℕ) (m : Marks) (last : ℕ) (entry : Entry) (is : IsRing g old counts m)
    (some : m.opened ≡ last + 1)
    (room : slice_index counts (section_of g m (m.committed + last)) < section_entries g.shape)
    (changes : ChangesSection g.shape (section_of g m (m.committed + last)) old new)
    (puts : PutsEntry g.shape (slice_index counts (section_of g m (m.committed + last))) entry
    (section_bytes g.shape old (section_of g m (m.committed + last)))
    (section_bytes g.shape new (section_of g m (m.committed + last)))) where
  abbrev here : ℕ
  here = section_of g m (m.committed + last)

  abbrev counts_now : List ℕ
  counts_now = set counts here (slice_index counts here + 1)

  here_low : here < g.sections
  here_low = let first = is.first in let fits = is.fits in wrap-inside g.sections (m.first + (m.committed + last)) (omega arith)

  other_section : (k : ℕ) → k < g.sections → k ≢ m.committed + last → section_of g m k ≢ here
  other_section k low other = let fits = is.fits in wrap-differs g.sections m.first k (m.committed + last) is.first low (omega arith) other

  put-kept : (k : ℕ) → k < g.sections → k ≢ m.committed + last → section_bytes g.shape new (section_of g m k) ≡ section_bytes g.shape old (section_of g m k)
  put-kept k low other = kept g old new counts m here k is changes low (other_section k low other)

  put-held : (k : ℕ) → k < m.committed + m.opened
      → IsHeld g.shape (slice_index counts_now (section_of g m k)) (section_bytes g.shape new (section_of g m k))
  put-held k low = let fits = is.fits in elim (cases_eq k (m.committed + last)) [
    | inl same ↦
        let count : slice_index counts_now here ≡ slice_index counts here + 1 = counts_same counts here (slice_index counts here + 1) (let long = is.counts_are in let low = here_low in omega arith) in
        subst (λ (n : ℕ). IsHeld g.shape (slice_index counts_now (section_of g m n)) (section_bytes g.shape new (section_of g m n))) (sym same)
        (subst (λ (n : ℕ). IsHeld g.shape n (section_bytes g.shape new here)) (sym count)
        (IsHeld-put g.shape (slice_index counts here) entry (section_bytes g.shape old here) (section_bytes g.shape new here)
        (is.held (m.committed + last) (omega arith)) room puts))
    | inr other ↦
        subst (λ (n : ℕ). IsHeld g.shape n (section_bytes g.shape new (section_of g m k))) (sym (counts_other counts here (section_of g m k) (slice_index counts here + 1) (other_section k (omega arith) other)))
        (subst (λ (xs : List ℕ). IsHeld g.shape (slice_index counts (section_of g m k)) xs) (sym (put-kept k (omega arith) other)) (is.held k low))
  ]

  put-sealed : (k : ℕ) → k < m.opened → BearsNumber g.shape (section_of g m (m.committed + k))
      (number_at g.sections (section_of g m m.committed) m.number k) (section_bytes g.shape new (section_of g m (m.committed + k)))
  put-sealed k low = let fits = is.fits in elim (cases_eq k last) [
    | inl same ↦
        subst (λ (n : ℕ). BearsNumber g.shape (section_of g m (m.committed + n)) (number_at g.sections (section_of g m m.committed) m.number n) (section_bytes g.shape new (section_of g m (m.committed + n)))) (sym same)
        (BearsNumber-put g.shape here (number_at g.sections (section_of g m m.committed) m.number last) (slice_index counts here) entry
        (section_bytes g.shape old here) (section_bytes g.shape new here) (is.sealed last (omega arith)) puts)
    | inr other ↦
        subst (λ (xs : List ℕ). BearsNumber g.shape (section_of g m (m.committed + k)) (number_at g.sections (section_of g m m.committed) m.number k) xs)
        (sym (put-kept (m.committed + k) (omega arith) (λ same. other (omega arith)))) (is.sealed k low)
  ]

  pub IsRing-put : IsRing g new counts_now m
  IsRing-put = record {
    geometry = is.geometry;
    size = changes.size ∙ is.size;
    counts_are = length-set counts here (slice_index counts here + 1) ∙ is.counts_are;
    first = is.first;
    number = is.number;
    fits = is.fits;
    held = put-held;
    free = λ k low high. counts_other counts here (section_of g m k) (slice_index counts here + 1) (other_section k high (λ same. absurd (omega arith))) ∙ is.free k low high;
    sealed = put-sealed;
  }

  put-entries : (k : ℕ) → k < m.committed + last → entries_held g new m.first k ≡ entries_held g old m.first k
  put-entries k low = let fits = is.fits in ap (used_in g.shape) (put-kept k (omega arith) (λ same. absurd (omega arith)))

  pub view_of-put : view_of g new m ≡ with_entry entry (view_of g old m)
  view_of-put i = record {
    geometry = g;
    next = wrap g.sections (m.first + m.committed);
    number = m.number;
    committed = map-same (entries_held g new m.first) (entries_held g old m.first) 0 m.committed (λ k low high. put-entries k (omega arith)) i;
    opened = lists i;
    closed = m.closed;
  }
    where
      lists : (view_of g new m).opened ≡ put_last entry (view_of g old m).opened
      lists =
          opened-last g new m last some
          ∙ ap (λ (xs : List (List Entry)). xs ++ entries_held g new m.first (m.committed + last) ∷ [])
          (map-same (entries_held g new m.first) (entries_held g old m.first) m.committed last (λ k low high. put-entries k high))
          ∙ ap (λ (x : List Entry). map (entries_held g old m.first) (range_with_len m.committed last) ++ x ∷ [])
          (used-put g.shape (slice_index counts here) entry (section_bytes g.shape old here) (section_bytes g.shape new here)
          (is.held (m.committed + last) (let fits = is.fits in omega arith)) room puts)
          ∙ sym (put_last-push entry (map (entries_held g old m.first) (range_with_len m.committed last)) (entries_held g old m.first (m.committed + last)))
          ∙ ap (put_last entry) (sym (opened-last g old m last some))

-- ---- what is told of the last section

-- None is open where none is opened,
pub open-none : (g : Geometry) (bytes : List ℕ) (m : Marks) → m.opened ≡ 0 → has_open_section (view_of g bytes m) ≡ false
open-none g bytes m none = ap (λ (n : ℕ). takes_more (section_entries g.shape) m.closed (map (entries_held g bytes m.first) (range_with_len m.committed n))) none

-- or the last one is closed,
pub open-shut : (g : Geometry) (bytes : List ℕ) (m : Marks) → m.closed ≡ true → has_open_section (view_of g bytes m) ≡ false
open-shut g bytes m closed =
    ap (λ (b : Bool). takes_more (section_entries g.shape) b (view_of g bytes m).opened) closed
    ∙ shut (section_entries g.shape) (view_of g bytes m).opened
  where
    shut : (size : ℕ) (xs : List (List Entry)) → takes_more size true xs ≡ false
    shut size [] = refl
    shut size (x ∷ []) = refl
    shut size (x ∷ y ∷ xs) = shut size (y ∷ xs)

-- and else where its count says so.
pub open-last : (g : Geometry) (bytes counts : List ℕ) (m : Marks) (last : ℕ) → IsRing g bytes counts m → m.opened ≡ last + 1 → m.closed ≡ false
    → has_open_section (view_of g bytes m) ≡ ltb (slice_index counts (section_of g m (m.committed + last))) (section_entries g.shape)
open-last g bytes counts m last is some open_ =
    ap (takes_more (section_entries g.shape) m.closed) (opened-last g bytes m last some)
    ∙ takes_more-push (section_entries g.shape) m.closed (map (entries_held g bytes m.first) (range_with_len m.committed last)) (entries_held g bytes m.first (m.committed + last))
    ∙ ap (λ (b : Bool). not b && ltb (length (entries_held g bytes m.first (m.committed + last))) (section_entries g.shape)) open_
    ∙ ap (λ (n : ℕ). ltb n (section_entries g.shape)) (is.held (m.committed + last) (omega arith)).count_is

-- ---- for callers

-- The journal has no more sections than it has sectors.
pub sections_few : (g : Geometry) → IsGeometry g (2 ^ 48) → g.sections < 2 ^ 20
sections_few g is =
    let holds = has_entries g.shape is.spb.0 is.spb.1 is.tag_size.0 is.tag_size.1 in
    let least = mul-le-mul_left g.sections holds.sectors_low in
    let most = is.journal in
    omega arith

-- How many sections there are, by the lists of them.
pub free_more : (g : Geometry) (bytes : List ℕ) (m : Marks) → HasFreeSection (view_of g bytes m) → m.committed + m.opened < g.sections
free_more g bytes m more =
    omega (arith, length-map-range_with_len (entries_held g bytes m.first) 0 m.committed, length-map-range_with_len (entries_held g bytes m.first) m.committed m.opened)

-- A section was cleared behind the last one that is not free.
pub record Clears (g : Geometry) (old new : List ℕ) (m : Marks) : Type 0 where
  pub changes : ChangesSection g.shape (section_of g m (m.committed + m.opened)) old new
  pub bears : BearsNumber g.shape (section_of g m (m.committed + m.opened))
      (number_at g.sections (section_of g m m.committed) m.number m.opened)
      (section_bytes g.shape new (section_of g m (m.committed + m.opened)))
  pub clear : HoldsEntries g.shape (replicate (section_entries g.shape) None)
      (section_bytes g.shape new (section_of g m (m.committed + m.opened)))

pub clears_from : (g : Geometry) (old new : List ℕ) (m : Marks) (s : Shape) (i number size : ℕ) (bytes : List ℕ) → s ≡ g.shape
    → i ≡ section_of g m (m.committed + m.opened) → number ≡ number_at g.sections (section_of g m m.committed) m.number m.opened
    → bytes ≡ old → size ≡ section_entries s → BearsNumber s i number (section_bytes s new i)
    → HoldsEntries s (replicate size None) (section_bytes s new i) → ChangesSection s i bytes new → Clears g old new m
clears_from g old new m s i number size bytes shape_is i_is number_is bytes_are size_is bears holds changes =
    let here : ℕ = section_of g m (m.committed + m.opened) in
    let under : ℕ = number_at g.sections (section_of g m m.committed) m.number m.opened in
    record {
      changes = subst (λ (t : Shape). ChangesSection t here old new) shape_is
          (subst (λ (k : ℕ). ChangesSection s k old new) i_is (subst (λ (xs : List ℕ). ChangesSection s i xs new) bytes_are changes));
      bears = subst (λ (t : Shape). BearsNumber t here under (section_bytes t new here)) shape_is
          (subst (λ (k : ℕ). BearsNumber s k under (section_bytes s new k)) i_is
          (subst (λ (n : ℕ). BearsNumber s i n (section_bytes s new i)) number_is bears));
      clear = subst (λ (t : Shape). HoldsEntries t (replicate (section_entries t) None) (section_bytes t new here)) shape_is
          (subst (λ (k : ℕ). HoldsEntries s (replicate (section_entries s) None) (section_bytes s new k)) i_is
          (subst (λ (n : ℕ). HoldsEntries s (replicate n None) (section_bytes s new i)) size_is holds));
    }

-- An entry was put behind those of the last section.
pub record PutsLast (g : Geometry) (old new counts : List ℕ) (m : Marks) (last : ℕ) (entry : Entry) : Type 0 where
  pub changes : ChangesSection g.shape (section_of g m (m.committed + last)) old new
  pub puts : PutsEntry g.shape (slice_index counts (section_of g m (m.committed + last))) entry
      (section_bytes g.shape old (section_of g m (m.committed + last)))
      (section_bytes g.shape new (section_of g m (m.committed + last)))

pub puts_from : (g : Geometry) (old new counts : List ℕ) (m : Marks) (last : ℕ) (entry put : Entry) (s : Shape) (i count : ℕ) (bytes : List ℕ)
    → s ≡ g.shape → i ≡ section_of g m (m.committed + last) → count ≡ slice_index counts (section_of g m (m.committed + last)) → bytes ≡ old → put ≡ entry
    → PutsEntry s count put (section_bytes s bytes i) (section_bytes s new i) → ChangesSection s i bytes new → PutsLast g old new counts m last entry
puts_from g old new counts m last entry put s i count bytes shape_is i_is count_is bytes_are put_is puts changes =
    let here : ℕ = section_of g m (m.committed + last) in
    let held : ℕ = slice_index counts here in
    record {
      changes = subst (λ (t : Shape). ChangesSection t here old new) shape_is
          (subst (λ (k : ℕ). ChangesSection s k old new) i_is (subst (λ (xs : List ℕ). ChangesSection s i xs new) bytes_are changes));
      puts = subst (λ (t : Shape). PutsEntry t held entry (section_bytes t old here) (section_bytes t new here)) shape_is
          (subst (λ (k : ℕ). PutsEntry s held entry (section_bytes s old k) (section_bytes s new k)) i_is
          (subst (λ (n : ℕ). PutsEntry s n entry (section_bytes s old i) (section_bytes s new i)) count_is
          (subst (λ (xs : List ℕ). PutsEntry s count entry (section_bytes s xs i) (section_bytes s new i)) bytes_are
          (subst (λ (e : Entry). PutsEntry s count e (section_bytes s bytes i) (section_bytes s new i)) put_is puts))));
    }

last_of-push : (xs : List (List Entry)) (x : List Entry) → last_of (xs ++ x ∷ []) ≡ x
last_of-push [] x = refl
last_of-push (y ∷ []) x = refl
last_of-push (y ∷ z ∷ xs) x = last_of-push (z ∷ xs) x

-- Where a section is open there is a last one, which is not full.
pub record HasLast (g : Geometry) (counts : List ℕ) (m : Marks) : Type 0 where
  pub some : 1 ≤ m.opened
  pub room : slice_index counts (section_of g m (m.committed + (m.opened - 1))) < section_entries g.shape

pub open_has_last : (g : Geometry) (bytes counts : List ℕ) (m : Marks) → IsRing g bytes counts m → has_open_section (view_of g bytes m) ≡ true → HasLast g counts m
open_has_last g bytes counts m is open_ = elim (cases_eq m.opened 0) [
  | inl none ↦ absurd (false≢true (sym (open-none g bytes m none) ∙ open_))
  | inr more ↦
      let last : ℕ = m.opened - 1 in
      let some : m.opened ≡ last + 1 = omega arith in
      let size : ℕ = section_entries g.shape in
      let x : List Entry = entries_held g bytes m.first (m.committed + last) in
      let all : (not m.closed && ltb (length x) size) ≡ true =
      sym (takes_more-push size m.closed (map (entries_held g bytes m.first) (range_with_len m.committed last)) x)
      ∙ sym (ap (takes_more size m.closed) (opened-last g bytes m last some)) ∙ open_ in
      let low = ltb-true (length x) size (and_parts (not m.closed) (ltb (length x) size) all).1 in
      let count = (is.held (m.committed + last) (omega arith)).count_is in
      record { some = omega arith; room = omega arith }
]

-- The place of the next entry there.
pub next_place-last : (g : Geometry) (bytes counts : List ℕ) (m : Marks) → IsRing g bytes counts m → 1 ≤ m.opened
    → next_place (view_of g bytes m) ≡ record {
      section = section_of g m (m.committed + (m.opened - 1));
      entry = slice_index counts (section_of g m (m.committed + (m.opened - 1)));
    }
next_place-last g bytes counts m is more i = record { section = section i; entry = entry i }
  where
    last : ℕ
    last = m.opened - 1

    section : wrap g.sections (wrap g.sections (m.first + m.committed) + (length (view_of g bytes m).opened - 1)) ≡ section_of g m (m.committed + (m.opened - 1))
    section =
        let first = is.first in
        let fits = is.fits in
        let long : length (view_of g bytes m).opened ≡ m.opened = length-map-range_with_len (entries_held g bytes m.first) m.committed m.opened in
        ap (λ (n : ℕ). wrap g.sections (wrap g.sections (m.first + m.committed) + (n - 1))) long
        ∙ wrap-wrap g.sections (m.first + m.committed) (m.opened - 1) (omega arith) (omega arith)
        ∙ ap (wrap g.sections) (let e : m.first + m.committed + (m.opened - 1) ≡ m.first + (m.committed + (m.opened - 1)) = omega arith in e)

    entry : length (last_of (view_of g bytes m).opened) ≡ slice_index counts (section_of g m (m.committed + (m.opened - 1)))
    entry =
        ap (λ (xs : List (List Entry)). length (last_of xs)) (opened-last g bytes m (m.opened - 1) (omega arith))
        ∙ ap length (last_of-push (map (entries_held g bytes m.first) (range_with_len m.committed (m.opened - 1))) (entries_held g bytes m.first (m.committed + (m.opened - 1))))
        ∙ (is.held (m.committed + (m.opened - 1)) (omega arith)).count_is

-- A section with no entry is open.
pub with_section-open : (ring : JournalRing) → 0 < section_entries ring.geometry.shape → has_open_section (with_section ring) ≡ true
with_section-open ring some =
    takes_more-push (section_entries ring.geometry.shape) false ring.opened []
    ∙ lt-ltb 0 (section_entries ring.geometry.shape) some

pub entries_some : (g : Geometry) → IsGeometry g (2 ^ 48) → 0 < section_entries g.shape
entries_some g is =
    let holds = has_entries g.shape is.spb.0 is.spb.1 is.tag_size.0 is.tag_size.1 in
    let least = holds.per_sector_low in
    let all = holds.entries_is in
    omega arith

pub free_tells : (g : Geometry) (bytes : List ℕ) (m : Marks) → m.committed + m.opened < g.sections → HasFreeSection (view_of g bytes m)
free_tells g bytes m more =
    omega (arith, length-map-range_with_len (entries_held g bytes m.first) 0 m.committed, length-map-range_with_len (entries_held g bytes m.first) m.committed m.opened)

-- The last section, as it is found.
pub record Finds (g : Geometry) (counts : List ℕ) (m : Marks) (section count : ℕ) : Type 0 where
  pub some : m.opened ≡ m.opened - 1 + 1
  pub section_is : section ≡ section_of g m (m.committed + (m.opened - 1))
  pub count_is : count ≡ slice_index counts (section_of g m (m.committed + (m.opened - 1)))
  pub room : slice_index counts (section_of g m (m.committed + (m.opened - 1))) < section_entries g.shape

pub finds_last : (g : Geometry) (bytes counts : List ℕ) (m : Marks) (ring : JournalRing) (sections section count : ℕ) → IsRing g bytes counts m
    → view_of g bytes m ≡ ring → has_open_section ring ≡ true → sections ≡ g.sections
    → section ≡ wrap sections (m.first + (m.committed + m.opened - 1)) → section < sections → count ≡ get_or counts section count
    → Finds g counts m section count
finds_last g bytes counts m ring sections section count is view open_ sections_are at inside read =
    let has = open_has_last g bytes counts m is (ap has_open_section view ∙ open_) in
    let some = has.some in
    let place : m.committed + m.opened - 1 ≡ m.committed + (m.opened - 1) = omega arith in
    let here : section ≡ section_of g m (m.committed + (m.opened - 1)) =
    at ∙ ap (λ (n : ℕ). wrap n (m.first + (m.committed + m.opened - 1))) sections_are ∙ ap (λ (k : ℕ). wrap g.sections (m.first + k)) place in
    let long = is.counts_are in
    record {
      some = omega arith;
      section_is = here;
      count_is = read ∙ get_or_default counts section count 0 (omega arith) ∙ ap (slice_index counts) here;
      room = has.room;
    }

-- Its count is one more.
pub counts_from : (g : Geometry) (bytes counts : List ℕ) (m : Marks) (section count : ℕ) → Finds g counts m section count
    → IsRing g bytes (set counts (section_of g m (m.committed + (m.opened - 1))) (slice_index counts (section_of g m (m.committed + (m.opened - 1))) + 1)) m
    → IsRing g bytes (set counts section (count + 1)) m
counts_from g bytes counts m section count finds is =
    subst (λ (i : ℕ). IsRing g bytes (set counts i (count + 1)) m) (sym finds.section_is)
    (subst (λ (n : ℕ). IsRing g bytes (set counts (section_of g m (m.committed + (m.opened - 1))) (n + 1)) m) (sym finds.count_is) is)

pub entries_few : (g : Geometry) → IsGeometry g (2 ^ 48) → section_entries g.shape ≤ 168
entries_few g is =
    let holds = has_entries g.shape is.spb.0 is.spb.1 is.tag_size.0 is.tag_size.1 in
    let most = holds.per_sector_high in
    let all = holds.entries_is in
    omega arith

-- The two steps of a put.
pub put-steps : (entry : Entry) (ring : JournalRing) → with_entry entry (with_open ring) ≡ with_put entry ring
put-steps entry ring = steps (has_open_section ring)
  where
    steps : (b : Bool) → with_entry entry (if b then ring else with_section ring)
        ≡ record ring { opened = if b then put_last entry ring.opened else ring.opened ++ (entry ∷ []) ∷ []; closed = if b then ring.closed else false }
    steps true = refl
    steps false = λ i. record ring { opened = put_last-push entry ring.opened [] i; closed = false }
