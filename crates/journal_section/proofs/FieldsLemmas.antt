-- Lemmas on the words of specs/Fields.antt.
use Rattle.std.proofs.Common.{◌≡◌, inl, inr, ℕ, ◌+◌, ◌*◌, ◌≤◌, List, [], length, slice_index, refl, sym, ap, ◌∙◌, arith}
use Rattle.std.proofs.lemmas.Bool.{cases_eq}
use Rattle.image_model.specs.Sectors.{piece, number_in}
use Rattle.journal_section.specs.Fields.{HasFields}
use Rattle.journal_section.specs.Pieces.{with_piece}
use Rattle.journal_section.proofs.PiecesLemmas.{with_piece-outside, piece-with_piece, number_in-elsewhere, piece-elsewhere}

-- The last bytes of one more sector.
pub HasFields-more : (k sector : ℕ) (block last old new : List ℕ) → 8 + 8 * k + 8 ≤ length old → length last ≡ 8
    → last ≡ piece block (512 * k + 504) 8 → new ≡ with_piece (8 * (k + 1)) last old
    → HasFields k sector block [] old → HasFields (k + 1) sector block [] new
HasFields-more k sector block last old new fits size is put has = record {
  sector_is = ap (λ bytes. number_in bytes 0 8) put ∙ number_in-elsewhere (8 * (k + 1)) last old 0 8 (omega arith) (inl (omega arith)) ∙ has.sector_is;
  lasts = λ m low. ap (λ bytes. piece bytes (8 + 8 * m) 8) put ∙ elim (cases_eq m k) [
    | inl same ↦
        let place : 8 + 8 * m ≡ 8 * (k + 1) = omega arith in
        let eight : 8 ≡ length last = sym size in
        ap (λ at. piece (with_piece (8 * (k + 1)) last old) at 8) place
        ∙ ap (λ count. piece (with_piece (8 * (k + 1)) last old) (8 * (k + 1)) count) eight
        ∙ piece-with_piece (8 * (k + 1)) last old (omega arith)
        ∙ is ∙ ap (λ a. piece block (512 * a + 504) 8) (sym same)
    | inr other ↦ piece-elsewhere (8 * (k + 1)) last old (8 + 8 * m) 8 (omega arith) (omega arith) (inl (omega arith)) ∙ has.lasts m (omega arith)
  ];
  tag_is = refl;
  zeros = λ at behind. ap (λ bytes. slice_index bytes at) put ∙ with_piece-outside (8 * (k + 1)) last old at (omega arith) (inr (omega arith)) ∙ has.zeros at (omega arith);
}

-- The tag behind them.
pub HasFields-tag : (spb sector : ℕ) (block tag old new : List ℕ) → 8 + 8 * spb + length tag ≤ length old
    → new ≡ with_piece (8 + 8 * spb) tag old
    → HasFields spb sector block [] old → HasFields spb sector block tag new
HasFields-tag spb sector block tag old new fits put has = record {
  sector_is = ap (λ bytes. number_in bytes 0 8) put ∙ number_in-elsewhere (8 + 8 * spb) tag old 0 8 (omega arith) (inl (omega arith)) ∙ has.sector_is;
  lasts = λ k low. ap (λ bytes. piece bytes (8 + 8 * k) 8) put
      ∙ piece-elsewhere (8 + 8 * spb) tag old (8 + 8 * k) 8 (omega arith) (omega arith) (inl (omega arith)) ∙ has.lasts k low;
  tag_is = ap (λ bytes. piece bytes (8 + 8 * spb) (length tag)) put ∙ piece-with_piece (8 + 8 * spb) tag old fits;
  zeros = λ at behind. ap (λ bytes. slice_index bytes at) put ∙ with_piece-outside (8 + 8 * spb) tag old at (omega arith) (inr behind) ∙ has.zeros at (omega arith);
}
