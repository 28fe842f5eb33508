-- Which entry is the newest of each block, as entries are added in the order of the replay.
use Rattle.std.proofs.Common.{◌≡◌, ◌⊎◌, inl, inr, ℕ, ◌+◌, ◌*◌, ◌/◌, ◌%◌, ◌≤◌, refl, sym, ◌∙◌, ap, subst, arith, Option, Some, None, is_some, List, [], ◌∷◌, ◌++◌, length, take, filter_map, slice_get, length-append, Ok, option_and_then}
use Rattle.std.specs.Option.{option_map}
use Rattle.std.proofs.Math.Nat.{mul-div_cancel}
use Rattle.std.proofs.lemmas.Bool.{cases_eq, eq-eqb, ne_eqb}
use Rattle.std.proofs.lemmas.List.{take_more, take_all, append-nil}
use Rattle.std.proofs.lemmas.List.Elements.{filter_map-append}
use Rattle.std.proofs.lemmas.Nat.{div-add-mod'}
use Rattle.std.proofs.lemmas.Option.{none-some, slice_get_within, get_or_from_slice_get}
use Rattle.disk_model.specs.Disk.{Image}
use Rattle.image_model.specs.declared.entry_place.EntryPlace.{EntryPlace}
use Rattle.image_model.specs.declared.journal_plan.Plan.{Plan}
use Rattle.image_model.specs.Cells.{entry_of, last_entry, replayed_entries}
use Rattle.image_model.specs.Geometry.{Geometry}
use Rattle.image_model.specs.Grid.{walk_of}
use Rattle.image_model.specs.Section.{Entry}
use Rattle.image_model.proofs.NumberLemmas.{cases_option}
use Rattle.journal_model.proofs.EntriesLemmas.{last_entry-append}
use Rattle.journal_reading.specs.Index.{AddsEntry, IsIndexOf, counted_places, numbered_entry}
use Rattle.journal_reading.specs.Places.{places_of}

-- ---- what is kept of the front of a list

module _ {X Y : Type 0} (f : X → Option Y) (xs : List X) (k : ℕ) (x : X) (there : slice_get xs k ≡ Some x) where
  kept_more : filter_map f (take (k + 1) xs) ≡ filter_map f (take k xs) ++ filter_map f (x ∷ [])
  kept_more =
      let low = slice_get_within xs k x there in
      ap (filter_map f) (take_more xs k x low ∙ ap (λ (y : X). take k xs ++ y ∷ []) (get_or_from_slice_get xs k x x there))
      ∙ filter_map-append f (take k xs) (x ∷ [])

  -- With an element of which nothing is kept it is the same,
  pub kept_same : f x ≡ None → filter_map f (take (k + 1) xs) ≡ filter_map f (take k xs)
  kept_same none = kept_more ∙ rw none (append-nil (filter_map f (take k xs)))

  -- and with another it has one more.
  pub kept_next : (y : Y) → f x ≡ Some y → filter_map f (take (k + 1) xs) ≡ filter_map f (take k xs) ++ y ∷ []
  kept_next y some = kept_more ∙ rw some refl

-- ---- one entry more

module _ (g : Geometry) (entry_at : EntryPlace → Option Entry) (xs : List EntryPlace) where
  -- The entry at the place with this number.
  abbrev entry_nr : ℕ → Option Entry
  entry_nr k = option_and_then entry_at (slice_get xs k)

  -- The newest entries are those of the first places, so many of them, and so are the counted ones.
  pub record IsIndexUpTo (k : ℕ) (newest : ℕ → Option ℕ) (count : ℕ) : Type 0 where
    pub each : (b : ℕ) → option_map entry_nr (newest b) ≡ option_map (λ (e : Entry). Some e) (last_entry g (filter_map entry_at (take k xs)) b)
    pub count_ : count ≡ length (filter_map entry_at (take k xs))

  -- At first there are none.
  pub index-none : (newest : ℕ → Option ℕ) → ((b : ℕ) → newest b ≡ None) → IsIndexUpTo 0 newest 0
  index-none newest none = record { each = λ b. ap (option_map entry_nr) (none b); count_ = refl }

  module _ (k : ℕ) (x : EntryPlace) (old new : ℕ → Option ℕ) (count used : ℕ) (there : slice_get xs k ≡ Some x) (before : IsIndexUpTo k old count) where
    -- A place without an entry changes nothing,
    index-skip : entry_at x ≡ None → AddsEntry g k None old new used → IsIndexUpTo (k + 1) new (count + used)
    index-skip none adds =
        let same = kept_same entry_at xs k x there none in
        record {
          each = λ b.
              ap (option_map entry_nr) (adds.each b)
              ∙ before.each b
              ∙ ap (λ (es : List Entry). option_map (λ (e : Entry). Some e) (last_entry g es b)) (sym same);
          count_ = let use_ = adds.used_is in omega (arith, before.count_, ap length same, use_);
        }

    -- and an entry is the newest of its block.
    index-add : (entry : Entry) → entry_at x ≡ Some entry → 1 ≤ g.shape.spb → entry.sector % g.shape.spb ≡ 0 → AddsEntry g k (Some entry) old new used → IsIndexUpTo (k + 1) new (count + used)
    index-add entry some wide whole adds =
        let more = kept_next entry_at xs k x there entry some in
        let front = filter_map entry_at (take k xs) in
        let here : entry_nr k ≡ Some entry = ap (option_and_then entry_at) there ∙ some in
        let begins : entry.sector ≡ entry.sector / g.shape.spb * g.shape.spb = omega (arith, div-add-mod' entry.sector g.shape.spb, whole) in
        record {
          each = λ b. by_block here begins b (cases_eq b (entry.sector / g.shape.spb)) ∙ ap (λ (es : List Entry). option_map (λ (e : Entry). Some e) (last_entry g es b)) (sym more);
          count_ = let use_ = adds.used_is in omega (arith, before.count_, ap length more, length-append front (entry ∷ []), use_);
        }
      where
        by_block : entry_nr k ≡ Some entry → entry.sector ≡ entry.sector / g.shape.spb * g.shape.spb → (b : ℕ)
            → (b ≡ entry.sector / g.shape.spb) ⊎ (b ≡ entry.sector / g.shape.spb → ⊥)
            → option_map entry_nr (new b) ≡ option_map (λ (e : Entry). Some e) (last_entry g (filter_map entry_at (take k xs) ++ entry ∷ []) b)
        by_block here begins b (inl is) =
            let front = filter_map entry_at (take k xs) in
            let at : entry.sector ≡ b * g.shape.spb = begins ∙ ap (λ (n : ℕ). n * g.shape.spb) (sym is) in
            let told : new b ≡ Some k = adds.each b ∙ rw (eq-eqb b (entry.sector / g.shape.spb) is) refl in
            let last : last_entry g (front ++ entry ∷ []) b ≡ Some entry = last_entry-append g front (entry ∷ []) b ∙ rw (eq-eqb entry.sector (b * g.shape.spb) at) refl in
            ap (option_map entry_nr) told ∙ ap (λ (o : Option Entry). Some o) here ∙ sym (ap (option_map (λ (e : Entry). Some e)) last)
        by_block here begins b (inr other) =
            let front = filter_map entry_at (take k xs) in
            let apart : entry.sector ≡ b * g.shape.spb → ⊥ = λ at. other (sym (ap (λ (n : ℕ). n / g.shape.spb) at ∙ mul-div_cancel b wide)) in
            let told : new b ≡ old b = adds.each b ∙ rw (ne_eqb b (entry.sector / g.shape.spb) other) refl in
            let last : last_entry g (front ++ entry ∷ []) b ≡ last_entry g front b = last_entry-append g front (entry ∷ []) b ∙ rw (ne_eqb entry.sector (b * g.shape.spb) apart) refl in
            ap (option_map entry_nr) told ∙ before.each b ∙ sym (ap (option_map (λ (e : Entry). Some e)) last)

  -- One place more.
  pub index-next : (k : ℕ) (x : EntryPlace) (old new : ℕ → Option ℕ) (count used : ℕ) → slice_get xs k ≡ Some x → 1 ≤ g.shape.spb
      → ((entry : Entry) → entry_at x ≡ Some entry → entry.sector % g.shape.spb ≡ 0) → AddsEntry g k (entry_nr k) old new used → IsIndexUpTo k old count → IsIndexUpTo (k + 1) new (count + used)
  index-next k x old new count used there wide whole adds before = elim (cases_option (entry_at x)) [
    | inl none ↦ index-skip k x old new count used there before none (subst (λ (o : Option Entry). AddsEntry g k o old new used) (ap (option_and_then entry_at) there ∙ none) adds)
    | inr some ↦ index-add k x old new count used there before some.0 some.1 wide (whole some.0 some.1) (subst (λ (o : Option Entry). AddsEntry g k o old new used) (ap (option_and_then entry_at) there ∙ some.1) adds)
  ]

-- ---- all places

-- The replayed entries are those at the places of the walk.
pub replayed-places : (g : Geometry) (image : Image) (plan : Plan) → walk_of g image ≡ Ok plan → replayed_entries g image ≡ filter_map (entry_of g image) (places_of g plan.walk)
unfolding replayed_entries
replayed-places g image plan told = rw told refl

pub counted_places-walk : (g : Geometry) (image : Image) (plan : Plan) → walk_of g image ≡ Ok plan → counted_places g image ≡ places_of g plan.walk
counted_places-walk g image plan told = rw told refl

-- Behind the last place all are there.
module _ (g : Geometry) (image : Image) (plan : Plan) (told : walk_of g image ≡ Ok plan) (k : ℕ) (newest : ℕ → Option ℕ) (count : ℕ) (all : k ≡ length (places_of g plan.walk))
    (is : IsIndexUpTo g (entry_of g image) (places_of g plan.walk) k newest count) where
  all_kept : filter_map (entry_of g image) (take k (places_of g plan.walk)) ≡ replayed_entries g image
  all_kept =
      ap (filter_map (entry_of g image)) (take_all k (places_of g plan.walk) (omega (arith, all)))
      ∙ sym (replayed-places g image plan told)

  pub index_all : IsIndexOf g image newest
  index_all = record {
    each = λ b.
        ap (λ (xs : List EntryPlace). option_map (λ (k : ℕ). option_and_then (entry_of g image) (slice_get xs k)) (newest b)) (counted_places-walk g image plan told)
        ∙ is.each b
        ∙ ap (λ (es : List Entry). option_map (λ (e : Entry). Some e) (last_entry g es b)) all_kept;
  }

  pub index_count : count ≡ length (replayed_entries g image)
  index_count = is.count_ ∙ ap length all_kept

-- ---- for callers

-- A number is told for exactly the blocks that have an entry.
pub index-some : (g : Geometry) (image : Image) (newest : ℕ → Option ℕ) → IsIndexOf g image newest → (b : ℕ) → is_some (newest b) ≡ is_some (last_entry g (replayed_entries g image) b)
index-some g image newest is b = by (newest b) (last_entry g (replayed_entries g image) b) (is.each b)
  where
    by : (o : Option ℕ) (r : Option Entry) → option_map (numbered_entry g image) o ≡ option_map (λ (e : Entry). Some e) r → is_some o ≡ is_some r
    by None None e = refl
    by None (Some r) e = absurd (none-some (Some r) e)
    by (Some k) None e = absurd (none-some (numbered_entry g image k) (sym e))
    by (Some k) (Some r) e = refl
