-- What a recovery leaves of the worked disk, and what its journal and old blocks say under the new fields: no law speaks of nothing.
use Rattle.std.proofs.Common.{◌≡◌, ◌⊎◌, ℕ, ◌*◌, ◌/◌, ◌<◌, ◌≤◌, Ok, Err, None, List, [], length, refl, sym, ap, ◌∙◌, subst, arith}
use Rattle.disk_model.specs.Disk.{EachImage, sector_in}
use Rattle.disk_model.proofs.DiskLemmas.{newest_only-last}
use Rattle.image_model.specs.declared.geom_fault.GeomFault.TheVariants.{BitmapTooLarge}
use Rattle.image_model.specs.Bitmap.{awaits}
use Rattle.image_model.specs.Cells.{replayed_entries, salt_of}
use Rattle.image_model.specs.Geometry.{best_provided, best_provided_of, bitmap_sectors_for, entries_per_sector, entry_size, geometry_of, journal_sectors, layout_of, regions_for, section_entries, section_sectors, sector_at, tag_run_of}
use Rattle.image_model.specs.GeometryLaws.{DataOf, TagOf, end_byte, first_byte}
use Rattle.image_model.specs.Grid.{walk_of}
use Rattle.image_model.specs.Openable.{journal_fault_of}
use Rattle.image_model.specs.Superblock.{Superblock, IsAccepted}
use Rattle.image_model.proofs.OpenableLemmas.{IsReadable-accepted}
use Rattle.journal_model.specs.Entries.{cell_after}
use Rattle.journal_model.specs.JournaledDisk.{JournaledDisk, StandsFor}
use Rattle.journal_model.specs.Opening.{opened_disk}
use Rattle.journal_model.specs.Recovery.{IsRecovered}
use Rattle.journal_model.specs.Steps.{KeepsCells}
use Rattle.journal_model.proofs.OpeningLemmas.{opened_law, state_law}
use Rattle.place_model.specs.Format.{cells_on}
use Rattle.place_model.proofs.FormatLemmas.{opens_tells}
use Rattle.place_model.proofs.PlacedLemmas.{placed_sector, recalculated-bytes}
use Rattle.place_model.proofs.WorkedDisk.{fresh_journal, replayed_entries-fresh, walk_of-fresh}
use Rattle.resize_model.specs.Growth.{cells_before}
use Rattle.resize_model.specs.PlacesLaws.{IsGrown, IsNewPart, IsResizedProvided}
use Rattle.resize_model.specs.Recovered.{IsRecoveredImage}
use Rattle.resize_model.specs.Resized.{grown_format, resized_fields, resized_provided, with_provided}
use Rattle.resize_model.proofs.ImageLemmas.{same_awaiting_law, same_cells_law, same_judgement_law, same_walk_law}
use Rattle.resize_model.proofs.PlacesLemmas.{new_apart_law, resized_fault_law, resized_provided_law}
use Rattle.resize_model.proofs.RecoveredLemmas.{recovered_begins_law, recovered_law}
use Rattle.resize_model.proofs.WorkedGrowth.{longer, content, fits, settled, geometry_of-longer, HasWholeSectors-longer, IsNumbered-fresh, OpensAs-longer, StandsFor-fresh}
use Rattle.resize_model.proofs.WorkedFilled.{w, low_new}

-- ---- what is provided

IsAccepted-longer : IsAccepted longer.superblock
IsAccepted-longer = subst (λ (s : Superblock). IsAccepted s) OpensAs-longer.superblock (IsReadable-accepted 128 fresh_journal OpensAs-longer.openable.readable)

provided-longer : IsResizedProvided longer.superblock 128 (resized_provided longer.superblock 128)
provided-longer = resized_provided_law longer.superblock 128 longer.geometry IsAccepted-longer geometry_of-longer

-- With a bitmap of a bit for each block, on 721008 sectors the bitmap would have more sectors than the journal.
abbrev dotted : Superblock
dotted = record longer.superblock { flags = 0xc; log2_region = 0 }

IsAccepted-dotted : IsAccepted dotted
IsAccepted-dotted =
    let layout = IsAccepted-longer.layout in
    record {
      layout = record { version = layout.version; flags = refl; log2_interleave = layout.log2_interleave; log2_spb = layout.log2_spb; tag_size = layout.tag_size; sections = layout.sections };
      provided = IsAccepted-longer.provided;
      whole_blocks = IsAccepted-longer.whole_blocks;
    }

geometry_of-dotted : geometry_of dotted 721008 ≡ Ok (layout_of dotted)
unfolding geometry_of sector_at tag_run_of bitmap_sectors_for regions_for entry_size entries_per_sector section_entries section_sectors
geometry_of-dotted = refl

too-large : journal_sectors (layout_of dotted) < bitmap_sectors_for (resized_provided dotted 721008 / (layout_of dotted).shape.spb) 0
unfolding best_provided_of best_provided sector_at tag_run_of bitmap_sectors_for regions_for entry_size entries_per_sector section_entries section_sectors
too-large = omega arith

fault-dotted : geometry_of (resized_fields dotted 721008) 721008
    ≡ Err (BitmapTooLarge (bitmap_sectors_for (resized_provided dotted 721008 / (layout_of dotted).shape.spb) 0) (journal_sectors (layout_of dotted)))
fault-dotted = resized_fault_law dotted 721008 (layout_of dotted) IsAccepted-dotted geometry_of-dotted refl too-large

-- ---- places

grown : IsGrown longer w.provided
grown = StandsFor-fresh.formed.grown

-- The data of block 8 come, and lie apart from the tag of block 0.
IsNewPart-eight : IsNewPart longer.geometry (grown_format w.provided longer).geometry.blocks (DataOf 8)
IsNewPart-eight = record { there = (low_new 8 (omega arith) (omega arith)).low; was_not = λ low. omega arith }

apart-eight : (end_byte longer.geometry (DataOf 8) ≤ 512 * 128)
    × ((end_byte longer.geometry (DataOf 8) ≤ first_byte longer.geometry (TagOf 0)) ⊎ (end_byte longer.geometry (TagOf 0) ≤ first_byte longer.geometry (DataOf 8)))
apart-eight = new_apart_law longer w.provided grown (DataOf 8) (TagOf 0) IsNewPart-eight (omega arith)

-- ---- under the new fields

walk-then : let g = (grown_format w.provided longer).geometry in
    (walk_of g fresh_journal ≡ walk_of longer.geometry fresh_journal) × (replayed_entries g fresh_journal ≡ replayed_entries longer.geometry fresh_journal)
walk-then = same_walk_law longer w.provided fresh_journal grown IsNumbered-fresh

judgement-then : journal_fault_of None (salt_of (with_provided w.provided longer.superblock)) (grown_format w.provided longer).geometry fresh_journal
    ≡ journal_fault_of None (salt_of longer.superblock) longer.geometry fresh_journal
judgement-then = same_judgement_law longer w.provided fresh_journal grown IsNumbered-fresh refl OpensAs-longer

awaiting-then : awaits (with_provided w.provided longer.superblock) (grown_format w.provided longer).geometry fresh_journal 3 ≡ awaits longer.superblock longer.geometry fresh_journal 3
awaiting-then = same_awaiting_law longer w.provided fresh_journal 3 grown HasWholeSectors-longer (omega arith)

cells-then : cells_on (grown_format w.provided longer) fresh_journal 3 ≡ cells_on longer fresh_journal 3
cells-then = same_cells_law longer w.provided fresh_journal 3 grown HasWholeSectors-longer (λ clear. IsNumbered-fresh) (omega arith)

-- ---- a recovery

-- The disk as it is opened, and as it goes on: no entry stands in its journal.
abbrev opened : JournaledDisk
opened = opened_disk longer fresh_journal

abbrev now : JournaledDisk
now = record (opened_disk longer fresh_journal) { next = 0; number = 1 }

StandsFor-now : StandsFor now content
StandsFor-now =
    let stands = opened_law longer content OpensAs-longer refl settled HasWholeSectors-longer in
    let formed = stands.sound.formed in
    record {
      sound = record {
        formed = record {
          has_geometry = formed.has_geometry;
          is_geometry = formed.is_geometry;
          no_bitmap = formed.no_bitmap;
          settled_low = formed.settled_low;
          placed_low = formed.placed_low;
          base = formed.base;
          each = formed.each;
        };
        has_walk = stands.sound.has_walk;
        held = stands.sound.held;
        start_low = stands.sound.start_low;
      };
      each = λ sector x has.
          let may = stands.each sector x has in
          record {
            outside = record {
              whole = may.outside.whole;
              head = may.outside.head;
              in_place = record { data_ = may.outside.in_place.data_; tags = may.outside.in_place.tags };
            };
            journal = may.journal;
          };
    }

abbrev tags : ℕ → List ℕ
tags b = (opened.base b).tag

KeepsCells-now : KeepsCells now tags content
unfolding cell_after
KeepsCells-now = record {
  stands = StandsFor-now;
  reads = record {
    each = λ b k low k_low.
        sym (ap (λ (bytes : List ℕ). sector_in bytes k) (recalculated-bytes None longer.superblock longer.geometry fresh_journal b)
        ∙ placed_sector longer.geometry 128 fresh_journal b k StandsFor-fresh.formed.grown.is_geometry HasWholeSectors-longer low k_low);
  };
  tags_are = record { each = λ b low rests. refl };
}

no-entries : now.entries ≡ []
no-entries = replayed_entries-fresh

IsRecovered-fresh : IsRecovered opened 0 1 tags content
unfolding cell_after
IsRecovered-fresh =
    let told = opens_tells longer fresh_journal OpensAs-longer in
    record {
      now = now;
      keeps = KeepsCells-now;
      rests = record { at = (state_law longer.geometry 128 fresh_journal _ told.is_geometry walk_of-fresh).rest 0 1 refl };
      next_is = refl;
      number_is = refl;
      settled = sym (ap length no-entries);
      same_format = refl;
      cells = λ b low. rw no-entries refl;
      again = λ b low. rw no-entries refl;
    }

-- So each image is a recovered one, and it begins to grow.
recovered : EachImage (IsRecoveredImage longer (cells_on longer fresh_journal)) content
recovered = recovered_law longer fresh_journal 0 1 tags content refl IsRecovered-fresh

begins : (b : ℕ) → b < 8 → cells_before w b ≡ cells_on longer fresh_journal b
begins = (recovered_begins_law longer fresh_journal 0 1 tags content refl fits IsRecovered-fresh settled (newest_only-last content)).1
