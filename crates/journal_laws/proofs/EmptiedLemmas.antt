-- A disk in journal mode with an empty journal is one in direct mode.
use Rattle.std.proofs.Common.{◌≡◌, ℕ, ◌≤◌, sym, ◌∙◌, ap, arith, List, [], length, slice_index, length-drop}
use Rattle.std.proofs.lemmas.List.{take_all, drop_all}
use Rattle.disk_model.specs.Disk.{Content, sector_in}
use Rattle.image_model.specs.Cells.{Cell, replayed_entries}
use Rattle.image_model.specs.Section.{Entry}
use Rattle.journal_model.specs.Entries.{cell_after}
use Rattle.journal_model.specs.Erasing.{after_erasure}
use Rattle.journal_model.specs.JournaledDisk.{JournaledDisk, cell_at, StandsFor}
use Rattle.journal_model.proofs.ErasingLemmas.{erasure_ends}
use Rattle.journal_model.proofs.PlaceLemmas.{cell_after-cells}
use Rattle.journal_laws.specs.Emptied.{EmptiedLaw, ErasedLaw}

module _ (d : JournaledDisk) (c : Content) (stands : StandsFor d c) (none : replayed_entries d.geometry d.journal ≡ []) where
  -- All entries are settled.
  all_settled : length d.entries ≤ d.settled
  all_settled = omega (arith, stands.sound.start_low, length-drop d.start d.entries, ap length (sym none ∙ stands.sound.held))

  -- So what is placed is as after all of them.
  all_placed : (count b : ℕ) → d.settled ≤ count → cell_at d count b ≡ cell_after d.geometry d.base d.entries b
  all_placed count b low = ap (λ (ws : List Entry). cell_after d.geometry d.base ws b) (take_all count d.entries (omega (arith, all_settled)))

pub emptied_law : EmptiedLaw
emptied_law d c stands none =
    let formed = stands.sound.formed in (
      record {
        formed = record {
          has_geometry = formed.has_geometry;
          is_geometry = formed.is_geometry;
          no_bitmap = formed.no_bitmap;
          flushed_low = omega arith;
          base = cell_after-cells d.format d.base d.entries formed.is_geometry formed.base formed.each;
          each = tt;
        };
        each = λ sector x has.
            let may = stands.each sector x has in
            record {
              whole = may.outside.whole;
              head = may.outside.head;
              journal = may.journal;
              data_ = λ b k low k_low kept there.
                  let p = may.outside.in_place.data_ b k low k_low there in
                  p.3 ∙ ap (λ (cell : Cell). sector_in cell.bytes k) (all_placed d c stands none p.0 b p.1);
              tags = λ b i low i_low rests kept there.
                  let p = may.outside.in_place.tags b i low i_low rests there in
                  p.3 ∙ ap (λ (cell : Cell). slice_index cell.tag i) (all_placed d c stands none p.0 b p.1);
            };
      },
      record { has_walk = stands.sound.has_walk; none = none },
    )

pub erased_law : ErasedLaw
erased_law d number empty first erasable stands reads erased =
    let ends = erasure_ends d number empty first erasable stands reads erased in
    emptied_law (after_erasure d number empty) _ ends.0 (ends.0.sound.held ∙ drop_all (length d.entries) d.entries (omega arith))
