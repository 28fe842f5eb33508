-- A disk in direct mode at opening.
use Rattle.std.proofs.Common.{◌≡◌, inl, inr, ℕ, ◌*◌, true, false, refl, sym, ◌∙◌, ap, subst, arith, List, [], length, slice_index}
use Rattle.std.proofs.Math.Path.{fun_ext}
use Rattle.std.proofs.lemmas.Bool.{cases_Bool}
use Rattle.disk_model.specs.Disk.{Image, last_image, newest_only, sector_in}
use Rattle.disk_model.proofs.DiskLemmas.{newest_only-pending}
use Rattle.image_model.specs.declared.flags.TheConstants.{DIRTY_BITMAP}
use Rattle.image_model.specs.Bitmap.{is_to_recalculate}
use Rattle.image_model.specs.Cells.{Cell, salt_of, placed_cells_of}
use Rattle.image_model.specs.Geometry.{data_at}
use Rattle.image_model.specs.Superblock.{has_flag, superblock_of}
use Rattle.image_model.proofs.BitmapLemmas.{awaits-journal}
use Rattle.image_model.proofs.GeometryLemmas.{data_at-inside}
use Rattle.image_model.proofs.SectorLemmas.{length-bytes_at}
use Rattle.image_model.proofs.TagLemmas.{length-tag_of}
use Rattle.place_model.specs.Format.{DiskFormat, tagger_of, placed_on, HasWholeSectors}
use Rattle.place_model.specs.Blocks.{AreCells}
use Rattle.place_model.specs.Tags.{tag_byte_at}
use Rattle.place_model.proofs.FirstSyncLemmas.{newest_only-settled, newest_only-placed, newest_only-cells}
use Rattle.place_model.proofs.FormatLemmas.{TellsFields, reads_tells, opens_tells, opens_reads}
use Rattle.place_model.proofs.PlacedLemmas.{placed_cells_of-bytes, placed_sector, placed_tag-byte, placed_tag-length, recalculated-bytes, recalculated-tag, recalculated-computed}
use Rattle.place_model.proofs.ReplayLemmas.{placed_cells_law}
use Rattle.direct_model.specs.DirectDisk.{DirectDisk, MayStand, StandsFor}
use Rattle.direct_model.specs.Opening.{placed_disk, PlacedOpenedLaw, PlacedSyncLaw, SameDiskLaw, OpenedLaw, FirstSyncLaw}

module _ (d : DiskFormat) (image : Image) (told : TellsFields d image) (clear : has_flag DIRTY_BITMAP d.superblock.flags ≡ false) (whole : HasWholeSectors d image) where
  -- A block has what is placed, or the tag of its bytes where it is to be recalculated.
  tag-rests : (b : ℕ) → is_to_recalculate d.superblock d.geometry b ≡ false → (placed_on d image b).tag ≡ (placed_cells_of d.geometry image b).tag
  tag-rests b rests = recalculated-tag d.key d.superblock d.geometry image b (awaits-journal d.superblock d.geometry image b clear ∙ rests)

  tag-waits : (b : ℕ) → is_to_recalculate d.superblock d.geometry b ≡ true → (placed_on d image b).tag ≡ tagger_of d b (placed_cells_of d.geometry image b).bytes
  tag-waits b waits = recalculated-computed d.key d.superblock d.geometry image b (awaits-journal d.superblock d.geometry image b clear ∙ waits)

  bytes-is : (b : ℕ) → (placed_on d image b).bytes ≡ (placed_cells_of d.geometry image b).bytes
  bytes-is b = recalculated-bytes d.key d.superblock d.geometry image b

  cells : AreCells d (placed_on d image)
  cells =
      let g = d.geometry in
      record {
        bytes = λ b low.
            let inside = data_at-inside g d.sectors b told.is_geometry low in
            ap length (bytes-is b ∙ placed_cells_of-bytes g image b)
            ∙ length-bytes_at image (data_at g b) g.shape.spb (λ sector above under. whole sector (omega arith));
        tag = λ b low. elim (cases_Bool (is_to_recalculate d.superblock g b)) [
          | inl waits ↦
              ap length (tag-waits b waits)
              ∙ length-tag_of d.key (salt_of d.superblock) g.shape.tag_size (b * g.shape.spb) (placed_cells_of g image b).bytes told.is_geometry.tag_size.1
          | inr rests ↦
              ap length (tag-rests b rests)
              ∙ placed_tag-length g d.sectors told.is_geometry image whole b low (placed_cells_of g image b)
        ];
        recalculated = λ b low waits. tag-waits b waits ∙ ap (tagger_of d b) (sym (bytes-is b));
      }

  pub placed_stands : (sector : ℕ) → MayStand (placed_disk d image) sector (image sector)
  placed_stands sector =
      let g = d.geometry in
      record {
        whole = whole sector;
        head = λ zero. ap superblock_of (ap image zero) ∙ told.head;
        journal = λ on. refl;
        data_ = λ b k low k_low kept there.
            ap image there ∙ sym (placed_sector g d.sectors image b k told.is_geometry whole low k_low)
            ∙ ap (λ (bytes : List ℕ). sector_in bytes k) (sym (bytes-is b));
        tags = λ b i low i_low rests kept there.
            ap (λ (n : ℕ). slice_index (image n) (tag_byte_at g b i).byte) there
            ∙ sym (placed_tag-byte g d.sectors told.is_geometry image whole b low (placed_cells_of g image b) i i_low)
            ∙ ap (λ (tag : List ℕ). slice_index tag i) (sym (tag-rests b rests));
      }

-- ---- placed cells

pub placed_opened_law : PlacedOpenedLaw
placed_opened_law d c reads clear settled whole =
    let image = last_image c in
    let told = reads_tells d image reads in
    record {
      formed = record {
        has_geometry = told.has_geometry;
        is_geometry = told.is_geometry;
        no_bitmap = clear;
        flushed_low = omega arith;
        base = cells d image told clear whole;
        each = tt;
      };
      each = λ sector x has. subst (MayStand (placed_disk d image) sector) (sym (settled.only sector x has)) (placed_stands d image told clear whole sector);
    }

pub placed_sync_law : PlacedSyncLaw
placed_sync_law d entry image reads clear whole = (
  newest_only-settled entry image,
  placed_opened_law d (newest_only entry) reads clear (newest_only-pending entry) whole,
  newest_only-placed d entry reads,
)

-- ---- cells, where nothing is replayed

pub same_disk_law : SameDiskLaw
same_disk_law d image clear none =
    ap (λ (base : ℕ → Cell). let disk : DirectDisk = record { format = d; journal = image; base = base; writes = []; flushed = 0 } in disk)
    (fun_ext (λ b. placed_cells_law d image b clear none))

pub opened_law : OpenedLaw
opened_law d c opens clear none settled whole =
    let image = last_image c in (
      subst (λ (disk : DirectDisk). StandsFor disk c) (same_disk_law d image clear none) (placed_opened_law d c (opens_reads d image opens) clear settled whole),
      record { has_walk = (opens_tells d image opens).walk clear; none = none },
    )

pub first_sync_law : FirstSyncLaw
first_sync_law d entry image opens clear none whole =
    let opened = opened_law d (newest_only entry) opens clear none (newest_only-pending entry) whole in (
      newest_only-settled entry image,
      opened.0,
      newest_only-cells d entry opens,
      opened.1,
    )
