-- The journal of an image that was recovered and emptied is an empty one.
use Rattle.std.proofs.Common.{◌≡◌, inl, inr, ℕ, zero, suc, ◌+◌, ◌-◌, ◌<◌, ◌≤◌, refl, sym, ◌∙◌, ap, arith, List, [], ◌∷◌, ◌++◌, length}
use Rattle.std.specs.List.{flat_map, range_with_len}
use Rattle.std.proofs.lemmas.Bool.{cases_eq}
use Rattle.std.proofs.lemmas.Grind.{flat_map-append}
use Rattle.std.proofs.lemmas.List.Concat.{flat_map-cons}
use Rattle.disk_model.specs.Disk.{Content, IsImage, last_image}
use Rattle.image_model.specs.Cells.{replayed_entries}
use Rattle.image_model.specs.Geometry.{Geometry, IsGeometry, section_at}
use Rattle.image_model.specs.Walk.{later, ring}
use Rattle.image_model.proofs.GeometryLemmas.{data_at-inside, section_at-lt}
use Rattle.place_model.specs.Journal.{IsOfJournal, entries_in}
use Rattle.journal_model.specs.Erasing.{IsEmptyJournal}
use Rattle.journal_model.specs.JournaledDisk.{JournaledDisk, Rests, StandsFor}
use Rattle.journal_model.proofs.CutOfLemmas.{ring_walk}

-- Two lists that give none together are empty.
both_none : {A : Type 0} (xs ys : List A) → xs ++ ys ≡ [] → (xs ≡ []) × (ys ≡ [])
both_none [] ys e = (refl, e)
both_none (x ∷ xs) ys e = absurd (cc)

-- Where none of a run of numbers gives an element, each of them gives none.
none_at : {A : Type 0} (f : ℕ → List A) (from count i : ℕ) → flat_map f (range_with_len from count) ≡ [] → from ≤ i → i < from + count → f i ≡ []
none_at f from zero i e above under = absurd (omega arith)
none_at f from (suc count) i e above under =
    let both = both_none (f from) (flat_map f (range_with_len (from + 1) count)) (sym (flat_map-cons f from (range_with_len (from + 1) count)) ∙ e) in
    elim (cases_eq i from) [
      | inl same ↦ ap f same ∙ both.0
      | inr other ↦ none_at f (from + 1) count i both.1 (omega (arith, other)) (omega arith)
    ]

module _ (d : JournaledDisk) (c : Content) (stands : StandsFor d c) (image : IsImage c (last_image c)) (rests : Rests d) (start : d.next ≡ 0) (none : replayed_entries d.geometry d.journal ≡ []) where
  abbrev g : Geometry
  g = d.geometry

  all_none : flat_map (entries_in g d.journal) (range_with_len 0 (g.sections - 0)) ≡ []
  all_none =
      let walk = (ring_walk d stands.sound.formed rests).1 in
      let whole : flat_map (entries_in g d.journal) (ring g.sections 0) ≡ [] = ap (λ (next : ℕ). flat_map (entries_in g d.journal) (ring g.sections next)) (sym start) ∙ sym walk ∙ none in
      (both_none (flat_map (entries_in g d.journal) (range_with_len 0 (g.sections - 0))) (flat_map (entries_in g d.journal) (range_with_len 0 0))
      (sym (flat_map-append (entries_in g d.journal) (range_with_len 0 (g.sections - 0)) (range_with_len 0 0)) ∙ whole)).0

  -- Its sectors have one number and no used entry.
  pub emptied_journal : IsEmptyJournal g (later 3 d.number) d.journal
  emptied_journal = record {
    numbers = λ i low. rests.at.old i (omega (arith, start)) low;
    unused = λ section low. none_at (entries_in g d.journal) 0 (g.sections - 0) section all_none (omega arith) (omega arith);
    whole = λ section sector low narrow.
        let at = section_at g section + sector in
        let of : IsOfJournal g at = record { section = section; place = sector; inside = low; narrow = narrow; is = refl } in
        let may = stands.each at (last_image c at) (image at) in
        let geometry : IsGeometry g d.sectors = stands.sound.formed.is_geometry in
        let before = section_at-lt g section g.sections low in
        let first = data_at-inside g d.sectors 0 geometry geometry.blocks in
        sym (ap length (may.journal of)) ∙ may.outside.whole (omega arith);
  }
