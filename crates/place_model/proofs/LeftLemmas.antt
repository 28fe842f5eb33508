-- What may be left before a write may be left while it is under way.
use Rattle.std.proofs.Common.{◌≡◌, ℕ, ◌≤◌, true, refl, sym, ◌∙◌, ap, arith, Option, None, Some, List, [], ◌∷◌, ◌++◌, length, take, append-nil, length-append}
use Rattle.std.specs.Option.{option_to_list}
use Rattle.std.proofs.lemmas.List.{take-append-le}
use Rattle.std.proofs.lemmas.Bool.{and_parts}
use Rattle.disk_model.specs.Disk.{Image, sector_in}
use Rattle.image_model.specs.declared.flags.TheConstants.{DIRTY_BITMAP}
use Rattle.image_model.specs.Bitmap.{awaits, is_dirty}
use Rattle.image_model.specs.Cells.{Cell, cells_of}
use Rattle.image_model.specs.Geometry.{region_of}
use Rattle.image_model.specs.Superblock.{has_flag}
use Rattle.device_model.specs.Cut.{all_writes}
use Rattle.device_model.specs.History.{BlockWrite, History, Begun, opened, with_change, cells_after}
use Rattle.device_model.proofs.CutLemmas.{IsUnflushed-begun}
use Rattle.place_model.specs.Format.{DiskFormat, HasCells, cells_on, tagger_of}
use Rattle.place_model.specs.Left.{IsLeftInBitmap, DirectPendingLaw, PlacedPendingLaw, JournalPendingLaw, BitmapPendingLaw}

module _ (h : History) (write : BlockWrite) (idle : h.pending ≡ None) where
  all-before : all_writes h ≡ h.writes
  all-before = ap (λ (o : Option BlockWrite). h.writes ++ option_to_list o) idle ∙ append-nil h.writes

  fits : (kept : ℕ) → kept ≤ length (all_writes h) → kept ≤ length h.writes
  fits kept low = omega (arith, low, ap length all-before)

  -- So many of the first writes are the same ones,
  kept-before : (kept : ℕ) → kept ≤ length (all_writes h) → take kept (all_writes h) ≡ take kept (all_writes (with_change h (Begun write)))
  kept-before kept low = ap (take kept) all-before ∙ sym (take-append-le kept h.writes (write ∷ []) (fits kept low))

  -- and there are more of them then.
  no_more : (kept : ℕ) → kept ≤ length (all_writes h) → kept ≤ length (all_writes (with_change h (Begun write)))
  no_more kept low = omega (arith, fits kept low, length-append h.writes (write ∷ []))

-- ---- for callers

pub direct_pending_law : DirectPendingLaw
direct_pending_law d h write image idle is = record {
  opens = is.opens;
  left = record { flushed = λ b below flushed. is.left.flushed b below (λ any. flushed (IsUnflushed-begun h (Some write) b idle any)) };
}

pub placed_pending_law : PlacedPendingLaw
placed_pending_law d h write image idle is = record {
  reads = is.reads;
  left = record { flushed = λ b below flushed. is.left.flushed b below (λ any. flushed (IsUnflushed-begun h (Some write) b idle any)) };
}

pub journal_pending_law : JournalPendingLaw
journal_pending_law d h write image idle is = record {
  opens = is.opens;
  left = record {
    kept = is.left.kept;
    has_flushed = is.left.has_flushed;
    has_no_more = no_more h write idle is.left.kept is.left.has_no_more;
    each = λ b below. is.left.each b below ∙ ap (λ (ws : List BlockWrite). cells_after (tagger_of d) h.base ws b) (kept-before h write idle is.left.kept is.left.has_no_more);
  };
}

pub bitmap_pending_law : BitmapPendingLaw
bitmap_pending_law d h write image idle is = record {
  opens = is.opens;
  left = record {
    sectors = λ b k low k_low.
        let one = is.left.sectors b k low k_low in
        record {
          kept = one.kept;
          has_flushed = one.has_flushed;
          has_no_more = no_more h write idle one.kept one.has_no_more;
          is = one.is ∙ ap (λ (ws : List BlockWrite). sector_in (cells_after (tagger_of d) h.base ws b).bytes k) (kept-before h write idle one.kept one.has_no_more);
        };
    dirty = is.left.dirty;
    clean = is.left.clean;
  };
}

-- ---- without a write

-- With a bitmap a dirty block has the tag of its bytes,
dirty_tag : (d : DiskFormat) (image : Image) (b : ℕ) → has_flag DIRTY_BITMAP d.superblock.flags ≡ true → is_dirty d.geometry image (region_of d.geometry b) ≡ true
    → (cells_on d image b).tag ≡ tagger_of d b (cells_on d image b).bytes
unfolding cells_of awaits
dirty_tag d image b set dirty = rw (set, dirty) refl

-- so an image with the cells at opening may be left before any write.
pub unwritten_left : (d : DiskFormat) (base : ℕ → Cell) (image : Image) → HasCells d base image → IsLeftInBitmap d (opened base) image
unwritten_left d base image has = record {
  opens = has.opens;
  left = record {
    sectors = λ b k low k_low. record {
      kept = 0;
      has_flushed = omega arith;
      has_no_more = omega arith;
      is = ap (λ (cell : Cell). sector_in cell.bytes k) (has.each b low);
    };
    dirty = λ b low is.
        let both = and_parts (has_flag DIRTY_BITMAP d.superblock.flags) (is_dirty d.geometry image (region_of d.geometry b)) is in
        dirty_tag d image b both.0 both.1;
    clean = λ b low is. has.each b low;
  };
}
