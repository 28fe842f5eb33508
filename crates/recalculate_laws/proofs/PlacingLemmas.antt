-- What awaits in journal mode while entries are placed.
use Rattle.std.proofs.Common.{◌≡◌, ◌≢◌, inl, inr, ⊎_elim, ℕ, ◌*◌, ◌<◌, true, false, refl, sym, ◌∙◌, ap, subst, List}
use Rattle.std.proofs.lemmas.Bool.{cases_eq, eq-eqb, ne_eqb}
use Rattle.std.proofs.lemmas.List.{take-append-le}
use Rattle.image_model.specs.Bitmap.{is_to_recalculate}
use Rattle.image_model.specs.Cells.{Cell}
use Rattle.image_model.specs.Geometry.{region_of}
use Rattle.image_model.specs.Section.{Entry}
use Rattle.place_model.specs.Format.{DiskFormat}
use Rattle.place_model.proofs.TagsLemmas.{same_product}
use Rattle.journal_model.specs.Entries.{cell_after}
use Rattle.journal_model.specs.Steps.{batch_entries}
use Rattle.journal_model.proofs.StepLemmas.{one_more-here, one_more-other}
use Rattle.recalculate_laws.specs.Placing.{PlacesNoneLaw, PlacesOneLaw, PlacesThenLaw, PlacingLaw, SameCellsLaw}

pub placing_law : PlacingLaw
placing_law d then_ awaiting tags now a b same keeps gives cells c told =
    let start = gives.told c told in
    let before = keeps start.0 start.1 in record {
      keeps = cells c told;
      made = λ n low waits rested.
          let low_first : n < d.geometry.blocks = subst (λ (x : DiskFormat). n < x.geometry.blocks) same low in
          ⊎_elim
          (λ kept. kept.0
          ∙ before.made n low_first (subst (λ (x : DiskFormat). is_to_recalculate x.superblock x.geometry n ≡ true) same waits)
          (subst (λ (x : DiskFormat). awaiting (region_of x.geometry n) ≡ false) same rested)
          ∙ ap (λ (cell : Cell). cell.tag) (sym kept.1))
          (λ placed. placed)
          (gives.each start.0 start.1 c told n low_first);
    }

pub places_then_law : PlacesThenLaw
places_then_law d mid then_ tags put now a m b same first second = record {
  each = λ start told_start c told n low.
      let between = second.told c told in
      let low_mid : n < mid.geometry.blocks = subst (λ (x : DiskFormat). n < x.geometry.blocks) (sym same) low in
      ⊎_elim
      (λ kept. ⊎_elim
      (λ was. inl (kept.0 ∙ was.0, kept.1 ∙ was.1))
      (λ placed. inr (kept.0 ∙ placed ∙ ap (λ (cell : Cell). cell.tag) (sym kept.1)))
      (first.each start told_start between.0 between.1 n low))
      inr
      (second.each between.0 between.1 c told n low_mid);
  told = λ c told. let between = second.told c told in first.told between.0 between.1;
}

pub places_none_law : PlacesNoneLaw
places_none_law d then_ tags now a b same told gives = record {
  each = λ start told_start c told_c n low. inl (gives start told_start c told_c n low, same n low);
  told = told;
}

pub same_cells_law : SameCellsLaw
same_cells_law d batch bytes b formed = (
  ap (λ (ws : List Entry). cell_after d.geometry d.base ws b) (take-append-le d.placed d.entries (batch_entries d batch bytes) formed.placed_low),
  refl,
)

pub places_one_law : PlacesOneLaw
places_one_law d block entry tags now a b formed is told gives = record {
  each = λ start told_start c told_c n low. elim (cases_eq block n) [
    | inl same ↦
        let here : entry.sector ≡ n * d.geometry.shape.spb = is.sector ∙ ap (λ (m : ℕ). m * d.geometry.shape.spb) same in
        inr (gives start told_start c told_c n low
        ∙ rw (eq-eqb block n same) (sym (ap (λ (cell : Cell). cell.tag) (one_more-here d.geometry d.base d.entries d.placed entry is.next n here))))
    | inr other ↦
        let away : entry.sector ≢ n * d.geometry.shape.spb = λ f. other (same_product block n d.geometry.shape.spb formed.is_geometry.spb.0 (sym is.sector ∙ f)) in
        inl (gives start told_start c told_c n low ∙ rw (ne_eqb block n other) refl, one_more-other d.geometry d.base d.entries d.placed entry is.next n away)
  ];
  told = told;
}
