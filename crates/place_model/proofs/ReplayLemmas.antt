-- An image whose journal has nothing to replay: its placed cells are its cells.
use Rattle.std.proofs.Common.{◌≡◌, false, refl, sym, ◌∙◌, ap, subst, ℕ, ◌+◌, ◌<◌, Result, IsOk, List, []}
use Rattle.std.specs.List.{AllByRecursion}
use Rattle.std.proofs.Math.Path.{fun_ext}
use Rattle.disk_model.specs.Disk.{Image}
use Rattle.image_model.specs.declared.flags.TheConstants.{DIRTY_BITMAP}
use Rattle.image_model.specs.declared.journal_plan.Plan.{Plan}
use Rattle.image_model.specs.declared.scan_fault.ScanFault.{ScanFault}
use Rattle.image_model.specs.Cells.{Cell, salt_of, replayed_entries, counted_entries, last_entry}
use Rattle.image_model.specs.Geometry.{section_at, section_sectors}
use Rattle.image_model.specs.Openable.{IsReplayable}
use Rattle.image_model.specs.Section.{Entry}
use Rattle.image_model.specs.Superblock.{has_flag}
use Rattle.image_model.proofs.CellsLemmas.{counted_entries-journal}
use Rattle.device_model.specs.Mode.{Direct}
use Rattle.device_model.specs.Progress.{opened_device}
use Rattle.place_model.specs.Format.{DiskFormat, placed_on, cells_on, format_on}
use Rattle.place_model.specs.Opened.{next_on, set_bits_on, awaiting_on}
use Rattle.place_model.specs.Placed.{PlacedCellsLaw, PlacedOpensLaw, PlacedLeftLaw, SameJournalLaw, SameOpeningLaw, SameLeftLaw}
use Rattle.place_model.proofs.FormatLemmas.{reads_tells, reads_on, opens_from}
use Rattle.place_model.proofs.JournalLemmas.{walk_of-same, replayed_entries-same}
use Rattle.place_model.proofs.PlacedLemmas.{cells_of-none}

module _ (d : DiskFormat) (image : Image) (clear : has_flag DIRTY_BITMAP d.superblock.flags ≡ false) (none : replayed_entries d.geometry image ≡ []) where
  -- No entry counts,
  pub no_entry : counted_entries d.superblock d.geometry image ≡ []
  no_entry = counted_entries-journal d.key d.superblock d.geometry image clear ∙ none

  -- so each block has its placed cell.
  pub cells_on-placed : (b : ℕ) → cells_on d image b ≡ placed_on d image b
  cells_on-placed b = cells_of-none d.key d.superblock d.geometry image b (ap (λ (entries : List Entry). last_entry d.geometry entries b) no_entry)

-- ---- for callers

pub placed_cells_law : PlacedCellsLaw
placed_cells_law d image b clear none = sym (cells_on-placed d image clear none b)

pub placed_opens_law : PlacedOpensLaw
placed_opens_law d image clear rests reads =
    let told = reads_tells d image reads in
    opens_from d image (record {
      head = told.head;
      has_geometry = told.has_geometry;
      is_geometry = told.is_geometry;
      walk = λ _. rests.has_walk;
      entries = subst (AllByRecursion (IsReplayable d.key (salt_of d.superblock) d.geometry)) (sym (no_entry d image clear rests.none)) tt;
    })

pub placed_left_law : PlacedLeftLaw
placed_left_law d h image clear rests left = record {
  opens = placed_opens_law d image clear rests left.reads;
  left = record { flushed = λ b low flushed. cells_on-placed d image clear rests.none b ∙ left.left.flushed b low flushed };
}

pub same_journal_law : SameJournalLaw
same_journal_law g sectors one other geometry journal rests =
    let same : (i j : ℕ) → i < g.sections → j < section_sectors g.shape → one (section_at g i + j) ≡ other (section_at g i + j) =
    λ i j low narrow. journal (section_at g i + j) (record { section = i; place = j; inside = low; narrow = narrow; is = refl }) in
    record {
      has_walk = subst (λ (r : Result Plan ScanFault). IsOk r) (sym (walk_of-same g sectors one other geometry same)) rests.has_walk;
      none = replayed_entries-same g sectors one other geometry same rests.has_walk ∙ rests.none;
    }

pub same_opening_law : SameOpeningLaw
same_opening_law key sectors image rests can =
    let d = format_on key sectors image in
    let opens = placed_opens_law d image can.1 rests (reads_on key sectors image can.0) in (
      opens.openable,
      ap (λ (base : ℕ → Cell). opened_device base (next_on Direct d image) (set_bits_on Direct d image) (awaiting_on Direct d image))
          (fun_ext (λ b. placed_cells_law d image b can.1 rests.none)),
    )

pub same_left_law : SameLeftLaw
same_left_law key sectors entry h left rests can may = record {
  blocks = may.blocks;
  left_is = placed_left_law (format_on key sectors left) h left can.1 rests may.left_is;
}
