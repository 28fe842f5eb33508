-- The places of the entries of sections in a row.
use Rattle.std.proofs.Common.{◌≡◌, inl, inr, ℕ, suc, ◌+◌, ◌-◌, ◌<◌, ◌≤◌, refl, sym, ◌∙◌, ap, arith, List, [], ◌∷◌, ◌++◌, length, length-append, append_assoc, append-nil}
use Rattle.std.proofs.lemmas.Bool.{cases_lt}
use Rattle.image_model.specs.Geometry.{Geometry}
use Rattle.image_model.specs.Section.{Entry}
use Rattle.journal_laws.specs.Device.{block_of}
use Rattle.journal_model.specs.Ring.{JournalRing, entries_of, put_last}
use Rattle.journal_overlay.specs.Kept.{added}
use Rattle.journal_overlay.specs.declared.place.Added.{Added}
use Rattle.journal_ring.specs.Places.{last_of, next_place, oldest_at}
use Rattle.journal_ring.specs.Ring.{with_entry}
use Rattle.journal_ring.specs.RoomLaws.{HasBounds}
use Rattle.journal_ring.specs.Sections.{wrap}
use Rattle.journal_ring.proofs.WrapLemmas.{wrap-above, wrap-below, wrap-inside, wrap-wrap}
use Rattle.journal_mode.specs.Journal.{places_from, places_in, places_of, sections_of}

-- ---- of a section

pub places_in-append : (g : Geometry) (section n : ℕ) (xs ys : List Entry)
    → places_in g section n (xs ++ ys) ≡ places_in g section n xs ++ places_in g section (n + length xs) ys
places_in-append g section n [] ys = ap (λ (m : ℕ). places_in g section m ys) (omega arith)
places_in-append g section n (x ∷ xs) ys =
    let place : Added = added (block_of g x) (record { section = section; entry = n }) in
    ap (λ (zs : List Added). place ∷ zs)
    (places_in-append g section (n + 1) xs ys
    ∙ ap (λ (m : ℕ). places_in g section (n + 1) xs ++ places_in g section m ys) (let e : n + 1 + length xs ≡ n + length (x ∷ xs) = omega arith in e))

pub length-places_in : (g : Geometry) (section n : ℕ) (xs : List Entry) → length (places_in g section n xs) ≡ length xs
length-places_in g section n [] = refl
length-places_in g section n (x ∷ xs) = ap suc (length-places_in g section (n + 1) xs)

-- ---- of sections in a row

pub length-places_from : (g : Geometry) (at : ℕ) (xs : List (List Entry)) → length (places_from g at xs) ≡ length (entries_of xs)
length-places_from g at [] = refl
length-places_from g at (x ∷ xs) =
    length-append (places_in g at 0 x) (places_from g (wrap g.sections (at + 1)) xs)
    ∙ ap (λ (m : ℕ). m + length (places_from g (wrap g.sections (at + 1)) xs)) (length-places_in g at 0 x)
    ∙ ap (λ (m : ℕ). length x + m) (length-places_from g (wrap g.sections (at + 1)) xs)
    ∙ sym (length-append x (entries_of xs))

-- An empty section has none.
pub places_from-empty : (g : Geometry) (at : ℕ) (xs : List (List Entry)) → places_from g at (xs ++ [] ∷ []) ≡ places_from g at xs
places_from-empty g at [] = refl
places_from-empty g at (x ∷ xs) = ap (λ (zs : List Added). places_in g at 0 x ++ zs) (places_from-empty g (wrap g.sections (at + 1)) xs)

-- An entry that is put into the last section has the place behind all others.
pub places_from-put_last : (g : Geometry) (at : ℕ) (entry : Entry) (xs : List (List Entry)) → at < g.sections → 1 ≤ length xs → length xs ≤ g.sections
    → places_from g at (put_last entry xs)
    ≡ places_from g at xs ++ added (block_of g entry) (record { section = wrap g.sections (at + (length xs - 1)); entry = length (last_of xs) }) ∷ []
places_from-put_last g at entry [] low some fits = absurd (omega arith)
places_from-put_last g at entry (x ∷ []) low some fits =
    let place : ℕ → Added = λ s. added (block_of g entry) (record { section = s; entry = length x }) in
    append-nil (places_in g at 0 (x ++ entry ∷ []))
    ∙ places_in-append g at 0 x (entry ∷ [])
    ∙ ap (λ (n : ℕ). places_in g at 0 x ++ added (block_of g entry) (record { section = at; entry = n }) ∷ []) (let e : 0 + length x ≡ length x = omega arith in e)
    ∙ ap (λ (s : ℕ). places_in g at 0 x ++ place s ∷ []) (sym (wrap-below g.sections at low) ∙ ap (wrap g.sections) (let e : at ≡ at + (length (x ∷ []) - 1) = omega arith in e))
    ∙ ap (λ (zs : List Added). zs ++ place (wrap g.sections (at + (length (x ∷ []) - 1))) ∷ []) (sym (append-nil (places_in g at 0 x)))
places_from-put_last g at entry (x ∷ y ∷ xs) low some fits =
    let n = g.sections in
    let next = wrap n (at + 1) in
    let place : ℕ → Added = λ s. added (block_of g entry) (record { section = s; entry = length (last_of (y ∷ xs)) }) in
    let one : wrap n (next + (length (y ∷ xs) - 1)) ≡ wrap n (at + (length (x ∷ y ∷ xs) - 1)) =
    wrap-wrap n (at + 1) (length (y ∷ xs) - 1) (omega arith) (omega arith)
    ∙ ap (wrap n) (let e : at + 1 + (length (y ∷ xs) - 1) ≡ at + (length (x ∷ y ∷ xs) - 1) = omega arith in e) in
    ap (λ (zs : List Added). places_in g at 0 x ++ zs)
    (places_from-put_last g next entry (y ∷ xs) (wrap-inside n (at + 1) (omega arith)) (omega arith) (omega arith)
    ∙ ap (λ (s : ℕ). places_from g next (y ∷ xs) ++ place s ∷ []) one)
    ∙ sym (append_assoc (places_in g at 0 x) (places_from g next (y ∷ xs)) (place (wrap n (at + (length (x ∷ y ∷ xs) - 1))) ∷ []))

-- ---- of a ring

pub put_last-behind : (entry : Entry) (xs ys : List (List Entry)) → 1 ≤ length ys → put_last entry (xs ++ ys) ≡ xs ++ put_last entry ys
put_last-behind entry [] ys some = refl
put_last-behind entry (x ∷ []) [] some = absurd (omega arith)
put_last-behind entry (x ∷ []) (y ∷ ys) some = refl
put_last-behind entry (x ∷ z ∷ xs) ys some = ap (λ (zs : List (List Entry)). x ∷ zs) (put_last-behind entry (z ∷ xs) ys some)

pub last_of-behind : (xs ys : List (List Entry)) → 1 ≤ length ys → last_of (xs ++ ys) ≡ last_of ys
last_of-behind [] ys some = refl
last_of-behind (x ∷ []) [] some = absurd (omega arith)
last_of-behind (x ∷ []) (y ∷ ys) some = refl
last_of-behind (x ∷ z ∷ xs) ys some = last_of-behind (z ∷ xs) ys some

pub oldest_inside : (ring : JournalRing) → HasBounds ring → oldest_at ring < ring.geometry.sections
oldest_inside ring bounds =
    let n = ring.geometry.sections in
    let inside = bounds.inside in
    let fits = bounds.fits in
    elim (cases_lt (ring.next + (n - length ring.committed)) n) [
      | inl below ↦ let e = wrap-below n (ring.next + (n - length ring.committed)) below in omega arith
      | inr above ↦ let e = wrap-above n (ring.next + (n - length ring.committed)) above in omega arith
    ]

-- So far behind the oldest section lies the one that is so far behind the next one to be committed.
pub behind_next : (n next committed k : ℕ) → next < n → committed + k < n + 1 → committed ≤ n → 1 ≤ k → wrap n (wrap n (next + (n - committed)) + (committed + k - 1)) ≡ wrap n (next + (k - 1))
behind_next n next committed k inside fits low some = elim (cases_lt (next + (n - committed)) n) [
  | inl below ↦
      ap (λ (x : ℕ). wrap n (x + (committed + k - 1))) (wrap-below n (next + (n - committed)) below)
      ∙ wrap-above n (next + (n - committed) + (committed + k - 1)) (omega arith)
      ∙ (let e : next + (n - committed) + (committed + k - 1) - n ≡ next + (k - 1) = omega arith in e)
      ∙ sym (wrap-below n (next + (k - 1)) (omega arith))
  | inr above ↦
      ap (λ (x : ℕ). wrap n (x + (committed + k - 1))) (wrap-above n (next + (n - committed)) above)
      ∙ ap (wrap n) (let e : next + (n - committed) - n + (committed + k - 1) ≡ next + (k - 1) = omega arith in e)
]

-- An entry that is put into the last opened section has the place that is next.
pub places_of-entry : (entry : Entry) (ring : JournalRing) → HasBounds ring → 1 ≤ length ring.opened
    → places_of (with_entry entry ring) ≡ places_of ring ++ added (block_of ring.geometry entry) (next_place ring) ∷ []
places_of-entry entry ring bounds some =
    let g = ring.geometry in
    let at = oldest_at ring in
    let fits = bounds.fits in
    let size = length-append ring.committed ring.opened in
    let place : ℕ → ℕ → Added = λ s n. added (block_of g entry) (record { section = s; entry = n }) in
    let here : wrap g.sections (at + (length (sections_of ring) - 1)) ≡ wrap g.sections (ring.next + (length ring.opened - 1)) =
    ap (λ (m : ℕ). wrap g.sections (at + (m - 1))) size
    ∙ behind_next g.sections ring.next (length ring.committed) (length ring.opened) bounds.inside (omega arith) (omega arith) some in
    ap (places_from g at) (sym (put_last-behind entry ring.committed ring.opened some))
    ∙ places_from-put_last g at entry (sections_of ring) (oldest_inside ring bounds) (omega arith) (omega arith)
    ∙ ap (λ (s : ℕ). places_of ring ++ place s (length (last_of (sections_of ring))) ∷ []) here
    ∙ ap (λ (xs : List Entry). places_of ring ++ place (wrap g.sections (ring.next + (length ring.opened - 1))) (length xs) ∷ []) (last_of-behind ring.committed ring.opened some)
