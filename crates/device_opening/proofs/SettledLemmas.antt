-- A disk in journal mode all of whose entries are settled is one in direct mode.
use Rattle.std.proofs.Common.{◌≡◌, inl, inr, ℕ, ◌<◌, ◌≤◌, Bool, true, false, sym, ◌∙◌, ap, arith, List, [], length, slice_index}
use Rattle.std.proofs.lemmas.Bool.{and_from, cases_Bool, true≢false}
use Rattle.std.proofs.lemmas.List.{take_all}
use Rattle.disk_model.specs.Disk.{Content, Image, sector_in}
use Rattle.image_model.specs.Bitmap.{is_to_recalculate}
use Rattle.image_model.specs.Cells.{Cell}
use Rattle.image_model.specs.Geometry.{region_of}
use Rattle.image_model.specs.Section.{Entry}
use Rattle.place_model.specs.Format.{DiskFormat}
use Rattle.direct_model.specs.DirectDisk as InDirect
use Rattle.direct_model.specs.DirectDisk.{DirectDisk}
use Rattle.direct_laws.specs.ReadLaws as DirectReads
use Rattle.journal_model.specs.Entries.{cell_after}
use Rattle.journal_model.specs.JournaledDisk.{JournaledDisk, StandsFor, cell_at}
use Rattle.journal_model.specs.Steps.{KeepsCells}

-- The disk in direct mode with these cells and this journal, without a write.
abbrev pub without_writes : DiskFormat → Image → (ℕ → Cell) → DirectDisk
without_writes f journal base = record { format = f; journal = journal; base = base; writes = []; flushed = 0 }

module _ (d : JournaledDisk) (settled : d.settled ≡ length d.entries) (again : (b : ℕ) → b < d.geometry.blocks → cell_after d.geometry d.base d.entries b ≡ d.base b) where
  -- All entries are placed, and they change no cell.
  all_cells : (count b : ℕ) → length d.entries ≤ count → b < d.geometry.blocks → cell_at d count b ≡ d.base b
  all_cells count b all low =
      ap (λ (entries : List Entry). cell_after d.geometry d.base entries b) (take_all count d.entries all) ∙ again b low

  pub settled_stands : (c : Content) → StandsFor d c → InDirect.StandsFor (without_writes d.format d.journal d.base) c
  settled_stands c stands = record {
    formed = record {
      has_geometry = stands.sound.formed.has_geometry;
      is_geometry = stands.sound.formed.is_geometry;
      no_bitmap = stands.sound.formed.no_bitmap;
      flushed_low = omega arith;
      base = stands.sound.formed.base;
      each = tt;
    };
    each = λ sector x has.
        let may = stands.each sector x has in
        record {
          whole = may.outside.whole;
          head = may.outside.head;
          journal = may.journal;
          data_ = λ b k low k_low kept is.
              let some = may.outside.in_place.data_ b k low k_low is in
              some.3 ∙ ap (λ (cell : Cell). sector_in cell.bytes k) (all_cells some.0 b (omega (arith, some.1, settled)) low);
          tags = λ b i low i_low rests kept is.
              let some = may.outside.in_place.tags b i low i_low rests is in
              some.3 ∙ ap (λ (cell : Cell). slice_index cell.tag i) (all_cells some.0 b (omega (arith, some.1, settled)) low);
        };
  }

  -- So it has its cells, where the region of each block that is to be recalculated awaits.
  pub settled_keeps : (awaiting : ℕ → Bool) (tags : ℕ → List ℕ) (c : Content)
      → ((b : ℕ) → b < d.geometry.blocks → is_to_recalculate d.superblock d.geometry b ≡ true → awaiting (region_of d.geometry b) ≡ true) → KeepsCells d tags c
      → DirectReads.KeepsCells (without_writes d.format d.journal d.base) awaiting tags c
  settled_keeps awaiting tags c waits keeps =
      let all : length d.entries ≤ d.placed = omega (arith, keeps.stands.sound.formed.settled_low, settled) in
      record {
        stands = settled_stands c keeps.stands;
        reads = record { each = λ b k low k_low. keeps.reads.each b k low k_low ∙ ap (λ (cell : Cell). sector_in cell.bytes k) (all_cells d.placed b all low) };
        tags_are = λ b low rests. keeps.tags_are.each b low (own b low rests) ∙ ap (λ (cell : Cell). cell.tag) (all_cells d.placed b all low);
      }
    where
      own : (b : ℕ) → b < d.geometry.blocks → DirectReads.awaits_tag (without_writes d.format d.journal d.base) awaiting b ≡ false → is_to_recalculate d.superblock d.geometry b ≡ false
      own b low rests = elim (cases_Bool (is_to_recalculate d.superblock d.geometry b)) [
        | inl set ↦ absurd (true≢false (sym (and_from (awaiting (region_of d.geometry b)) (is_to_recalculate d.superblock d.geometry b) (waits b low set) set) ∙ rests))
        | inr clear ↦ clear
      ]
