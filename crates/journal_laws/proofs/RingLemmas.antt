-- The entries of a ring, and where its sections lie.
use Rattle.std.proofs.Common.{◌≡◌, inl, inr, ℕ, zero, suc, ◌+◌, ◌-◌, ◌*◌, ◌/◌, ◌%◌, ◌<◌, ◌≤◌, refl, sym, ◌∙◌, ap, arith, List, [], ◌∷◌, length, take, drop, map, get_or, length-drop}
use Rattle.std.specs.List.{AllByRecursion, range_with_len}
use Rattle.std.proofs.lemmas.Bool.{cases_eq, eq-eqb, ne_eqb}
use Rattle.std.proofs.lemmas.Nat.{div-add-mod', mod-mul-add, mod_below}
use Rattle.image_model.specs.Geometry.{Geometry}
use Rattle.image_model.specs.Section.{Entry}
use Rattle.image_model.specs.Walk.{ring}
use Rattle.place_model.specs.Journal.{entries_in}
use Rattle.journal_model.specs.Cuts.{next_after}
use Rattle.journal_model.specs.JournaledDisk.{JournaledDisk, IsSound}
use Rattle.journal_model.specs.Steps.{oldest_entries}
use Rattle.journal_model.proofs.FreeLemmas.{kept_entries_law}
use Rattle.journal_model.specs.Ring.{JournalRing, entries_of}
use Rattle.journal_model.proofs.JournalRingLemmas.{entries_of-map}
use Rattle.journal_laws.specs.Device.{freed_count, placed_count, committed_counts, IsJournalRing}

-- ---- lists

pub drop-map : {A B : Type 0} (f : A → B) (k : ℕ) (xs : List A) → drop k (map f xs) ≡ map f (drop k xs)
drop-map f zero xs = refl
drop-map f (suc k) [] = refl
drop-map f (suc k) (x ∷ xs) = drop-map f k xs

pub map_run-same : (a k : ℕ) (f h : ℕ → List Entry) → ((i : ℕ) → a ≤ i → i < a + k → f i ≡ h i) → map f (range_with_len a k) ≡ map h (range_with_len a k)
map_run-same a zero f h e = refl
map_run-same a (suc k) f h e = rw (e a (omega arith) (omega arith), map_run-same (a + 1) k f h (λ i low high. e i (omega arith) (omega arith))) refl

pub map-same : (f h : ℕ → List Entry) (xs : List ℕ) → AllByRecursion (λ i. f i ≡ h i) xs → map f xs ≡ map h xs
map-same f h [] all = refl
map-same f h (x ∷ xs) all = rw (all.0, map-same f h xs all.1) refl

-- The sections of a run, by their number in it.
pub run_of : (a k : ℕ) (xs : List (List Entry)) → k ≤ length xs → map (λ (i : ℕ). get_or xs (i - a) []) (range_with_len a k) ≡ take k xs
run_of a zero xs low = refl
run_of a (suc k) [] low = absurd (omega (arith, low))
run_of a (suc k) (x ∷ xs) low =
    let first : a - a ≡ 0 = omega arith in
    let rest = map_run-same (a + 1) k (λ (i : ℕ). get_or (x ∷ xs) (i - a) []) (λ (i : ℕ). get_or xs (i - (a + 1)) [])
    (λ i above under. let e : i - a ≡ suc (i - (a + 1)) = omega (arith, above) in ap (λ (m : ℕ). get_or (x ∷ xs) m []) e) in
    ap (λ (m : ℕ). get_or (x ∷ xs) m [] ∷ map (λ (i : ℕ). get_or (x ∷ xs) (i - a) []) (range_with_len (a + 1) k)) first
    ∙ ap (λ (ys : List (List Entry)). x ∷ ys) (rest ∙ run_of (a + 1) k xs (omega (arith, low)))

pub length-counts : (g : Geometry) (p : ℕ) (xs : List (List Entry)) → length (committed_counts g p xs) ≡ length xs
length-counts g p [] = refl
length-counts g p (x ∷ xs) = ap suc (length-counts g (p - length x) xs)

-- ---- the place of the next section

pub next_mod : (n at k : ℕ) → 0 < n → k ≤ n - at % n → next_after n (at % n) k ≡ (at + k) % n
next_mod n at k some fits =
    let q = at / n in
    let a = at % n in
    let below : a < n = mod_below at n some in
    let split_ : q * n + a ≡ at = div-add-mod' at n in
    elim (cases_eq (a + k) n) [
      | inl end ↦
          let whole : at + k ≡ suc q * n + 0 = over q n a k at split_ end in
          rw (eq-eqb (a + k) n end) (sym (ap (λ (m : ℕ). m % n) whole ∙ mod-mul-add (suc q) n 0 some))
      | inr inside ↦
          let whole : at + k ≡ q * n + (a + k) = omega (arith, split_) in
          rw (ne_eqb (a + k) n inside) (sym (ap (λ (m : ℕ). m % n) whole ∙ mod-mul-add q n (a + k) (omega (arith, below, fits, inside))))
    ]
  where
    over : (q n a k at : ℕ) → q * n + a ≡ at → a + k ≡ n → at + k ≡ suc q * n + 0
    over q n a k at e end =
        let more : suc q * n ≡ q * n + n = grow q n in
        omega (arith, e, end, more)
      where
        grow : (q n : ℕ) → suc q * n ≡ q * n + n
        grow q n = omega arith

-- ---- what a ring of a disk holds

module _ (d : JournaledDisk) (r : JournalRing) (sound : IsSound d) (is : IsJournalRing d r) where
  abbrev before : ℕ
  before = d.start + length (oldest_entries d (d.geometry.sections - length r.committed))

  held : entries_of r.committed ≡ drop before d.entries
  held =
      ap entries_of (sym is.kept)
      ∙ entries_of-map (entries_in d.geometry d.journal) (drop (d.geometry.sections - length r.committed) (ring d.geometry.sections d.next))
      ∙ kept_entries_law d (length r.committed) sound is.rests

  pub freed_is : freed_count d r ≡ d.start + length (oldest_entries d (d.geometry.sections - length r.committed))
  freed_is = omega (arith, ap length held, length-drop before d.entries, is.free.free, sound.formed.settled_low, sound.formed.placed_low)

  pub freed_settled : freed_count d r ≤ d.settled
  freed_settled = omega (arith, freed_is, is.free.free)

  -- The entries behind the freed ones are those of the committed sections.
  pub held_at : drop (freed_count d r) d.entries ≡ entries_of r.committed
  held_at = ap (λ (m : ℕ). drop m d.entries) freed_is ∙ sym held

  pub committed_low : length (entries_of r.committed) ≤ length d.entries
  committed_low = omega (arith, ap length held, length-drop before d.entries)

  pub placed_part : placed_count d r ≤ length (entries_of r.committed)
  placed_part = omega (arith, committed_low, sound.formed.placed_low)
