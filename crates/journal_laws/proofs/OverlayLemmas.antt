-- The overlay of a device in journal mode.
use Rattle.std.proofs.Common.{◌≡◌, ◌⊎◌, inl, inr, ℕ, zero, suc, ◌+◌, ◌-◌, ◌*◌, ◌<◌, ◌≤◌, ◌==◌, ltb, leb, Bool, true, false, if◌then◌else◌, refl, sym, ◌∙◌, ap, subst, arith, Option, Some, None, List, [], ◌∷◌, ◌++◌, length, take, drop, slice_get, length-append, append_assoc}
use Rattle.std.specs.Option.{option_or}
use Rattle.std.proofs.lemmas.Bool.{cases_Bool, eqb-true, eqb-false, ltb-true, ltb-false, ne_eqb}
use Rattle.std.proofs.lemmas.List.{take-append-drop, drop-append-le, drop-drop, drop_all, drop_at, length-take-le}
use Rattle.std.proofs.lemmas.Option.{none-some, same_Some, slice_get_within}
use Rattle.image_model.specs.Cells.{last_entry}
use Rattle.image_model.specs.Geometry.{Geometry, section_entries}
use Rattle.image_model.specs.Section.{Entry}
use Rattle.place_model.proofs.TagsLemmas.{same_product}
use Rattle.journal_model.specs.JournaledDisk.{JournaledDisk, IsSound}
use Rattle.journal_model.specs.Steps.{batch_entries, after_commit}
use Rattle.journal_model.proofs.EntriesLemmas.{last_entry-append, last_entry-none, last_entry-some, cell_after-some}
use Rattle.journal_model.specs.Ring.{JournalRing, entries_of, uncommitted_entries, empty_ring, with_put, next_batch, with_commit, with_settle, unplaced_from, has_open_section, put_last}
use Rattle.journal_model.proofs.JournalRingLemmas.{entries_of-append, entries_of-push, entries_of-put_last, split}
use Rattle.journal_laws.specs.Device.{freed_count, placed_count, IsJournalRing}
use Rattle.journal_laws.specs.OverlayLaws.{all_entries, IsNewestAt, IsOverlayOf, with_newest, kept_from, OverlayBegins, OverlayPut, OverlayCommitted, OverlaySettled, OverlayReadLaw, PlaceNumberLaw}
use Rattle.journal_laws.proofs.PromiseLemmas.{cell_is, last_entry-here, split_at}
use Rattle.journal_laws.proofs.RingLemmas.{held_at}

-- ---- lists

slice_get-behind : {A : Type 0} (xs ys : List A) (n : ℕ) → slice_get (xs ++ ys) (length xs + n) ≡ slice_get ys n
slice_get-behind [] ys n = let e : 0 + n ≡ n = omega arith in ap (slice_get ys) e
slice_get-behind (x ∷ xs) ys n = let e : suc (length xs) + n ≡ suc (length xs + n) = omega arith in ap (slice_get (x ∷ (xs ++ ys))) e ∙ slice_get-behind xs ys n

slice_get-before : {A : Type 0} (xs ys : List A) (n : ℕ) (x : A) → slice_get xs n ≡ Some x → slice_get (xs ++ ys) n ≡ Some x
slice_get-before [] ys zero x e = absurd (none-some x e)
slice_get-before [] ys (suc n) x e = absurd (none-some x e)
slice_get-before (y ∷ xs) ys zero x e = e
slice_get-before (y ∷ xs) ys (suc n) x e = slice_get-before xs ys n x e

slice_get-next : {A : Type 0} (xs : List A) (x : A) → slice_get (xs ++ x ∷ []) (length xs) ≡ Some x
slice_get-next [] x = refl
slice_get-next (y ∷ xs) x = slice_get-next xs x

last_entry-drop : (g : Geometry) (m n : ℕ) (xs : List Entry) (b : ℕ) → m ≤ n → last_entry g (drop m xs) b ≡ None → last_entry g (drop n xs) b ≡ None
last_entry-drop g m n xs b low none =
    let count : m + (n - m) ≡ n = omega (arith, low) in
    let rest : drop (n - m) (drop m xs) ≡ drop n xs = drop-drop (n - m) m xs ∙ ap (λ (k : ℕ). drop k xs) count in
    let whole = ap (λ (ws : List Entry). last_entry g ws b) (take-append-drop (n - m) (drop m xs)) ∙ none in
    ap (λ (ws : List Entry). last_entry g ws b) (sym rest) ∙ (last_entry-none g (take (n - m) (drop m xs)) (drop (n - m) (drop m xs)) b whole).1

last_entry-other : (g : Geometry) (entry : Entry) (xs : List Entry) (b c : ℕ) → entry.sector ≡ b * g.shape.spb → 1 ≤ g.shape.spb → (b ≡ c → ⊥) → last_entry g xs c ≡ None → last_entry g (xs ++ entry ∷ []) c ≡ None
last_entry-other g entry xs b c is some other none =
    let test : (entry.sector == c * g.shape.spb) ≡ false = ne_eqb entry.sector (c * g.shape.spb) (λ e. other (same_product b c g.shape.spb some (sym is ∙ e))) in
    let one : last_entry g (entry ∷ []) c ≡ None = rw test refl in
    last_entry-append g xs (entry ∷ []) c ∙ ap (λ (o : Option Entry). option_or o (last_entry g xs c)) one ∙ none

-- ---- an overlay of a list of entries

record IsOverlay (g : Geometry) (n : ℕ) (xs : List Entry) (newest : ℕ → Option ℕ) : Type 0 where
  there : (b m : ℕ) → newest b ≡ Some m → IsNewestAt g xs b m
  kept : (b m : ℕ) → newest b ≡ Some m → n ≤ m
  none : (b : ℕ) → newest b ≡ None → last_entry g (drop n xs) b ≡ None

told_of : (d : JournaledDisk) (r : JournalRing) (newest : ℕ → Option ℕ) → IsOverlayOf d r newest → IsOverlay d.geometry (freed_count d r) (all_entries d r) newest
told_of d r newest is = record { there = is.there; kept = is.kept; none = is.none }

tells : (d : JournaledDisk) (r : JournalRing) (newest : ℕ → Option ℕ) (n : ℕ) (xs : List Entry) → n ≡ freed_count d r → xs ≡ all_entries d r → IsOverlay d.geometry n xs newest → IsOverlayOf d r newest
tells d r newest n xs e e' is =
    let now = subst (λ (ys : List Entry). IsOverlay d.geometry (freed_count d r) ys newest) e' (subst (λ (m : ℕ). IsOverlay d.geometry m xs newest) e is) in
    record { there = now.there; kept = now.kept; none = now.none }

pub overlay_begins : OverlayBegins
overlay_begins d g next number = record {
  there = λ b m e. absurd (none-some m e);
  kept = λ b m e. absurd (none-some m e);
  none = λ b e. ap (λ (xs : List Entry). last_entry d.geometry xs b) (drop_all (freed_count d (empty_ring g next number)) (all_entries d (empty_ring g next number)) (omega (arith, length-append d.entries [])));
}

-- ---- put

put_entries : (d : JournaledDisk) (r : JournalRing) (entry : Entry) → all_entries d r ++ entry ∷ [] ≡ all_entries d (with_put entry r)
put_entries d r entry =
    append_assoc d.entries (uncommitted_entries r) (entry ∷ []) ∙ ap (λ (xs : List Entry). d.entries ++ xs) (by_test (has_open_section r) refl)
  where
    by_test : (t : Bool) → has_open_section r ≡ t → uncommitted_entries r ++ entry ∷ [] ≡ entries_of (if t then put_last entry r.opened else r.opened ++ (entry ∷ []) ∷ [])
    by_test true room = sym (entries_of-put_last entry (section_entries r.geometry.shape) r.closed r.opened room)
    by_test false full = sym (entries_of-push entry r.opened)

put_overlay : (g : Geometry) (n : ℕ) (xs : List Entry) (newest : ℕ → Option ℕ) (b : ℕ) (entry : Entry) → entry.sector ≡ b * g.shape.spb → 1 ≤ g.shape.spb → n ≤ length xs → IsOverlay g n xs newest
    → IsOverlay g n (xs ++ entry ∷ []) (with_newest b (length xs) newest)
put_overlay g n xs newest b entry at some low is =
    let by = λ (c : ℕ) (t : Bool). if t then Some (length xs) else newest c in
    record {
      there = λ c m e. elim (cases_Bool (b == c)) [
        | inl same ↦
            let here : length xs ≡ m = same_Some (length xs) m (sym (ap (by c) same) ∙ e) in
            let block : b ≡ c = eqb-true b c same in
            subst (λ (k : ℕ). IsNewestAt g (xs ++ entry ∷ []) c k) here
            (subst (λ (k : ℕ). IsNewestAt g (xs ++ entry ∷ []) k (length xs)) block (record {
              entry = entry;
              there = slice_get-next xs entry;
              block = at;
              none_behind = ap (λ (ys : List Entry). last_entry g ys b) (drop_all (suc (length xs)) (xs ++ entry ∷ []) (omega (arith, length-append xs (entry ∷ []))));
            }))
        | inr other ↦
            let old = is.there c m (sym (ap (by c) other) ∙ e) in
            let inside : m < length xs = slice_get_within xs m old.entry old.there in
            record {
              entry = old.entry;
              there = slice_get-before xs (entry ∷ []) m old.entry old.there;
              block = old.block;
              none_behind = ap (λ (ys : List Entry). last_entry g ys c) (drop-append-le (suc m) xs (entry ∷ []) (omega (arith, inside))) ∙ last_entry-other g entry (drop (suc m) xs) b c at some (eqb-false b c other) old.none_behind;
            }
      ];
      kept = λ c m e. elim (cases_Bool (b == c)) [
        | inl same ↦ omega (arith, low, same_Some (length xs) m (sym (ap (by c) same) ∙ e))
        | inr other ↦ is.kept c m (sym (ap (by c) other) ∙ e)
      ];
      none = λ c e. elim (cases_Bool (b == c)) [
        | inl same ↦ absurd (none-some (length xs) (sym e ∙ ap (by c) same))
        | inr other ↦ ap (λ (ys : List Entry). last_entry g ys c) (drop-append-le n xs (entry ∷ []) low) ∙ last_entry-other g entry (drop n xs) b c at some (eqb-false b c other) (is.none c (sym (ap (by c) other) ∙ e))
      ];
    }

pub overlay_put : OverlayPut
overlay_put d r newest b entry at some is =
    tells d (with_put entry r) (with_newest b (length (all_entries d r)) newest) (freed_count d r) (all_entries d r ++ entry ∷ []) refl (put_entries d r entry)
    (put_overlay d.geometry (freed_count d r) (all_entries d r) newest b entry at some (omega (arith, length-append d.entries (uncommitted_entries r))) (told_of d r newest is))

-- ---- commit, place and settle

pub overlay_committed : OverlayCommitted
overlay_committed d r newest bytes told is =
    let k = next_batch r in
    let more = batch_entries d k bytes in
    let size : freed_count d r ≡ freed_count (after_commit d k bytes) (with_commit r) =
    omega (arith, length-append d.entries more, ap length told, ap length (entries_of-append r.committed (take k r.opened)), length-append (entries_of r.committed) (entries_of (take k r.opened))) in
    let all : all_entries d r ≡ all_entries (after_commit d k bytes) (with_commit r) =
    ap (λ (xs : List Entry). d.entries ++ xs) (split k r.opened ∙ ap (λ (xs : List Entry). xs ++ entries_of (drop k r.opened)) (sym told)) ∙ sym (append_assoc d.entries more (entries_of (drop k r.opened))) in (
      tells (after_commit d k bytes) (with_commit r) newest (freed_count d r) (all_entries d r) size all (told_of d r newest is),
      record { there = is.there; kept = is.kept; none = is.none },
    )

fewer : (p : ℕ) (xs : List (List Entry)) → length (entries_of (unplaced_from p xs)) ≤ length (entries_of xs)
fewer p [] = omega arith
fewer p (x ∷ xs) =
    let by = λ (t : Bool). length (entries_of (if t then unplaced_from (p - length x) xs else x ∷ xs)) in
    let sum = length-append x (entries_of xs) in
    elim (cases_Bool (leb (length x) p)) [
      | inl gone ↦ omega (arith, ap by gone, fewer (p - length x) xs, sum)
      | inr left ↦ omega (arith, ap by left)
    ]

kept_is : (n m : ℕ) (o : Option ℕ) → kept_from n o ≡ Some m → (o ≡ Some m) × (n ≤ m)
kept_is n m None e = absurd (none-some m e)
kept_is n m (Some k) e =
    let by = λ (t : Bool). if t then None else Some k in
    elim (cases_Bool (ltb k n)) [
      | inl less ↦ absurd (none-some m (sym (ap by less) ∙ e))
      | inr past ↦
          let same = same_Some k m (sym (ap by past) ∙ e) in
          (ap Some same, omega (arith, same, ltb-false k n past))
    ]

kept_none : (n : ℕ) (o : Option ℕ) → kept_from n o ≡ None → (o ≡ None) ⊎ ((k : ℕ) × (o ≡ Some k) × (k < n))
kept_none n None e = inl refl
kept_none n (Some k) e =
    let by = λ (t : Bool). if t then None else Some k in
    elim (cases_Bool (ltb k n)) [
      | inl less ↦ inr (k, refl, ltb-true k n less)
      | inr past ↦ absurd (none-some k (sym e ∙ ap by past))
    ]

pub overlay_settled : OverlaySettled
overlay_settled d r newest is =
    let n = freed_count d (with_settle (placed_count d r) r) in
    let low : freed_count d r ≤ n = omega (arith, fewer (placed_count d r) r.committed) in
    record {
      there = λ b m e. is.there b m (kept_is n m (newest b) e).0;
      kept = λ b m e. (kept_is n m (newest b) e).1;
      none = λ b e. elim (kept_none n (newest b) e) [
        | inl none ↦ last_entry-drop d.geometry (freed_count d r) n (all_entries d r) b low (is.none b none)
        | inr gone ↦ last_entry-drop d.geometry (suc gone.0) n (all_entries d r) b (omega (arith, gone.2)) (is.there b gone.0 gone.1).none_behind
      ];
    }

-- ---- reads

module _ (d : JournaledDisk) (r : JournalRing) (sound : IsSound d) (is : IsJournalRing d r) where
  low : freed_count d r ≤ length d.entries
  low = omega arith

  ends_with : all_entries d r ≡ take (freed_count d r) d.entries ++ entries_of (r.committed ++ r.opened)
  ends_with =
      ap (λ (xs : List Entry). xs ++ uncommitted_entries r) (sym (take-append-drop (freed_count d r) d.entries) ∙ ap (λ (xs : List Entry). take (freed_count d r) d.entries ++ xs) (held_at d r sound is))
      ∙ append_assoc (take (freed_count d r) d.entries) (entries_of r.committed) (uncommitted_entries r)
      ∙ ap (λ (xs : List Entry). take (freed_count d r) d.entries ++ xs) (sym (entries_of-append r.committed r.opened))

  pub kept_entries : drop (freed_count d r) (all_entries d r) ≡ entries_of (r.committed ++ r.opened)
  kept_entries = ap (drop (freed_count d r)) ends_with ∙ drop_at (take (freed_count d r) d.entries) (entries_of (r.committed ++ r.opened)) (freed_count d r) (length-take-le (freed_count d r) d.entries low)

  pub place_number : (i n : ℕ) (entries : List Entry) (entry : Entry) → slice_get (r.committed ++ r.opened) i ≡ Some entries → slice_get entries n ≡ Some entry
      → slice_get (all_entries d r) (freed_count d r + (length (entries_of (take i (r.committed ++ r.opened))) + n)) ≡ Some entry
  place_number i n entries entry section there =
      let sections = r.committed ++ r.opened in
      let front = take (freed_count d r) d.entries in
      let before = entries_of (take i sections) in
      let behind = entries_of (drop (suc i) sections) in
      let whole : entries_of sections ≡ before ++ (entries ++ behind) = ap entries_of (split_at sections i entries section) ∙ entries_of-append (take i sections) (entries ∷ drop (suc i) sections) in
      ap (λ (xs : List Entry). slice_get xs (freed_count d r + (length before + n))) ends_with
      ∙ ap (λ (m : ℕ). slice_get (front ++ entries_of sections) (m + (length before + n))) (sym (length-take-le (freed_count d r) d.entries low))
      ∙ slice_get-behind front (entries_of sections) (length before + n)
      ∙ ap (λ (xs : List Entry). slice_get xs (length before + n)) whole
      ∙ slice_get-behind before (entries ++ behind) n
      ∙ slice_get-before entries behind n entry there

pub overlay_read_law : OverlayReadLaw
overlay_read_law f h j d r newest b is idle below overlay = (
  λ m e.
      let at = overlay.there b m e in
      let xs = all_entries d r in
      let last : last_entry d.geometry xs b ≡ Some at.entry =
      ap (λ (ys : List Entry). last_entry d.geometry ys b) (split_at xs m at.entry at.there)
      ∙ last_entry-some d.geometry (take m xs) (at.entry ∷ drop (suc m) xs) b at.entry (last_entry-here d.geometry at.entry (drop (suc m) xs) b at.block at.none_behind) in
      (at.entry, at.there, cell_is f h j d r b is idle below ∙ cell_after-some d.geometry d.base xs b at.entry last),
  λ e. ap (λ (ys : List Entry). last_entry d.geometry ys b) (sym (kept_entries d r is.sound is.is_ring)) ∙ overlay.none b e,
)

pub place_number_law : PlaceNumberLaw
place_number_law d r i n entries entry sound is section there = place_number d r sound is i n entries entry section there
