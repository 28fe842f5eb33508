-- The calls that add the blocks to the worked disk, and what they leave: it is resized, and can be opened.
-- The tags are told by what is to be in place: a store holds them in memory until they are written back.
use Rattle.std.proofs.Common.{◌≡◌, inr, ℕ, ◌+◌, ◌<◌, ◌≤◌, true, false, None, Ok, List, [], ◌∷◌, drop, length, refl, sym, ap, ◌∙◌, arith}
use Rattle.std.proofs.lemmas.Option.{same_Some}
use Rattle.disk_model.specs.Disk.{Content, EachImage, HasNothingPending, Image, IsImage, last_image, newest_only, with_run}
use Rattle.disk_model.specs.Moments.{HasNow}
use Rattle.disk_model.proofs.DiskLemmas.{AddsSome-all, newest_only-last}
use Rattle.image_model.specs.Cells.{Cell, placed_cells_of}
use Rattle.image_model.specs.Geometry.{best_provided, best_provided_of, data_at, entries_per_sector, entry_size, section_entries, regions_for, section_sectors, sector_at, tag_at, tag_offset, tag_run_of}
use Rattle.image_model.specs.SuperblockLaws.{FitsBytes}
use Rattle.image_model.specs.Superblock.{superblock_of}
use Rattle.journal_model.proofs.OpeningLemmas.{state_law}
use Rattle.place_model.specs.Format.{cells_on, format_on}
use Rattle.place_model.specs.Tags.{ReadsTags, with_block_tag}
use Rattle.place_model.proofs.FormatLemmas.{opens_tells, reads_from}
use Rattle.place_model.proofs.PlacedLemmas.{placed_tag-byte}
use Rattle.place_model.proofs.ReplayLemmas.{placed_cells_law}
use Rattle.place_model.proofs.WorkedDisk.{fresh_journal, replayed_entries-fresh, walk_of-fresh}
use Rattle.direct_laws.specs.CallLaws.{ReadsImage, ReadsTagsNow}
use Rattle.direct_laws.specs.ServeLaws.{PutsTag, Syncs, WritesData}
use Rattle.resize_model.specs.AllPlaced.{IsAllPlaced, KeepsStored}
use Rattle.resize_model.specs.CallLaws.{HasFilled, HasFilledNow, IsFounded, IsToBeFounded, StandsThrough, new_tag, new_write}
use Rattle.resize_model.specs.Growth.{HasNewBlocks, IsNewRegion, MayStand, cells_before, geometry_then}
use Rattle.resize_model.specs.Left.{IsResizedContent}
use Rattle.resize_model.specs.Resized.{grown_cells, resized_format, resized_head, with_provided}
use Rattle.resize_model.proofs.GrowthLemmas.{placed_kept}
use Rattle.resize_model.proofs.CallLemmas.{back_done_law, block_filled_law, filling_law, head_done_law, ready_law, sync_done_law}
use Rattle.resize_model.proofs.LeftLemmas.{growth_done_law, reopens_law, resized_reopens_law, stored_law}
use Rattle.resize_model.proofs.WrittenLemmas.{head_bytes_law}
use Rattle.resize_model.proofs.WorkedGrowth.{longer, content, now_is, OpensAs-longer, StandsFor-fresh}
use Rattle.resize_model.proofs.WorkedFilled.{w, filled, filled_journal, HasNewBlocks-filled, HasWholeSectors-filled, StandsFor-filled, low_new, new_low, tag_is}

-- ---- the first new block

-- The tags in place at the start.
abbrev old_tags : Content → ℕ → List ℕ
old_tags c b = (placed_cells_of longer.geometry fresh_journal b).tag

abbrev start : List Content
start = content ∷ []

HasFilled-none : HasFilledNow w 0 0 0 old_tags start
HasFilled-none = filling_law w 0 old_tags start (now_is _ content [] StandsFor-fresh) (λ region is_new. omega arith) (now_is _ content [] (λ b low. refl))

-- Its zeros are written,
abbrev zeroed : List Content
zeroed = with_run (data_at (geometry_then w) (new_write w 0).block) (new_write w 0).bytes content ∷ start

WritesData-first : WritesData (geometry_then w) (new_write w 0) old_tags old_tags start zeroed
WritesData-first = record {
  written = refl;
  adds = record { since = _ ∷ []; grows = refl; each = (AddsSome-all (data_at (geometry_then w) (new_write w 0).block) (new_write w 0).bytes content, tt) };
  gives = λ first told c told_now b low. refl;
}

-- and its tag is put.
abbrev put_tags : Content → ℕ → List ℕ
put_tags c = with_block_tag 8 (new_tag w 0) (old_tags c)

PutsTag-first : PutsTag (geometry_then w) 8 (new_tag w 0) old_tags put_tags zeroed zeroed
PutsTag-first = record {
  adds = record { since = []; grows = refl; each = tt };
  others = λ first told c told_now. record { each = λ sector apart. ap (λ (x : Content). last_image x sector) (same_Some c first (sym told_now ∙ told)) };
  gives = λ first told c told_now b low. refl;
}

filled-first : StandsThrough w start zeroed × HasFilledNow w 1 1 0 put_tags zeroed
filled-first = block_filled_law w 0 0 old_tags old_tags put_tags start zeroed zeroed (low_new 8 (omega arith) (omega arith)).low HasFilled-none WritesData-first PutsTag-first

-- ---- all of them

-- All tags are in place, and the others those at the start.
abbrev tags : Content → ℕ → List ℕ
tags c b = (placed_cells_of longer.geometry filled_journal b).tag

ReadsTags-filled : ReadsTags (geometry_then w) (tags filled) filled
unfolding placed_cells_of data_at sector_at tag_at tag_offset
ReadsTags-filled = record {
  each = λ b i low i_low. sym (placed_tag-byte (geometry_then w) 128 StandsFor-fresh.formed.grown.is_grown filled_journal HasWholeSectors-filled b low (placed_cells_of longer.geometry filled_journal b) i i_low);
}

filled_sector : (sector : ℕ) → MayStand w sector (filled_journal sector)
filled_sector sector = StandsFor-filled.each sector (filled_journal sector) (newest_only-last filled sector)

HasFilled-filled : HasFilled w 8 8 0 (tags filled) filled
HasFilled-filled = record {
  stands = StandsFor-filled;
  tagged_low = (let last = (low_new 15 (omega arith) (omega arith)).low in omega arith);
  zeros = λ b k above low k_low. HasNewBlocks-filled.zeros b k (low_new b above (omega arith)) k_low;
  new_tags = λ b above low. tag_is b above (omega arith);
  old_tags = λ b low. ap (λ (cell : Cell). cell.tag) (placed_kept w StandsFor-fresh.formed filled_journal (λ sector other. filled_sector sector) refl b low);
  later_tags = λ b above low. absurd (let less = new_low b (record { new = omega arith; low = low }) in omega arith);
  bits = λ set region is_new low. absurd (let wrong : false ≡ true = set in cc);
}

-- They are written back, and the disk is synced.
abbrev written : List Content
written = filled ∷ []

HasFilled-written : HasFilledNow w 8 8 0 tags written
HasFilled-written = back_done_law w 8 8 0 tags tags written written (now_is _ filled [] HasFilled-filled) (record {
  adds = record { since = []; grows = refl; each = tt };
  others = λ first told c told_now. record { each = λ sector apart. ap (λ (x : Content). last_image x sector) (same_Some c first (sym told_now ∙ told)) };
  gives = λ first told c told_now b low. refl;
})

abbrev synced : List Content
synced = newest_only filled ∷ written

Syncs-filled : Syncs (geometry_then w) tags tags written synced
Syncs-filled = record {
  image = now_is (λ c. IsImage c (last_image c)) filled [] (newest_only-last filled);
  synced = refl;
  adds = record { since = newest_only filled ∷ []; grows = refl; each = (refl, tt) };
  gives = λ first told c told_now b low. refl;
}

filled-synced : HasFilledNow w 8 8 0 tags synced × ReadsTagsNow (geometry_then w) tags synced × HasNow HasNothingPending synced × ReadsImage synced
filled-synced = sync_done_law w 8 8 0 tags tags written synced HasFilled-written (now_is (λ c. ReadsTags (geometry_then w) (tags c) c) filled [] ReadsTags-filled) Syncs-filled

-- There is one region before and then.
regions_low : (region : ℕ) → IsNewRegion w region → region < 0
unfolding best_provided_of best_provided tag_run_of entry_size entries_per_sector section_entries section_sectors regions_for
regions_low region is_new = let new = is_new.new in let low = is_new.low in omega arith

blocks_most : (geometry_then w).blocks ≤ 8 + 8
unfolding best_provided_of best_provided tag_run_of entry_size entries_per_sector section_entries section_sectors
blocks_most = omega arith

-- So all is there.
new-synced : HasNow (λ c. HasNewBlocks w (last_image c)) synced
new-synced = ready_law w 8 0 tags synced blocks_most
    (λ region is_new. absurd (let low = regions_low region is_new in omega arith)) filled-synced.0 filled-synced.1

-- ---- the first sector

FitsBytes-longer : FitsBytes longer.superblock
FitsBytes-longer = record { sections = omega arith; flags = omega arith; log2_region = omega arith; recalc_sector = omega arith; salt = refl }

abbrev pub head : List ℕ
head = resized_head (with_provided w.provided longer.superblock) (fresh_journal 0)

pub head-tells : (length head ≡ 512) × (superblock_of head ≡ Ok (with_provided w.provided longer.superblock)) × (drop 64 head ≡ drop 64 (fresh_journal 0))
head-tells = head_bytes_law longer w.provided (fresh_journal 0) StandsFor-fresh.formed.grown FitsBytes-longer refl

ready : IsToBeFounded w head synced
ready = record {
  stands = λ c told. (filled-synced.0 c told).stands;
  settled = filled-synced.2;
  reads = filled-synced.3;
  new = new-synced;
  size = head-tells.0;
  told = head-tells.1;
}

-- It is written and synced.
abbrev headed : Content
headed = with_run 0 head (newest_only filled)

founded : IsFounded w (newest_only headed)
founded = head_done_law w head synced (headed ∷ synced) (newest_only headed ∷ headed ∷ synced) ready refl refl (newest_only headed) refl

-- ---- what is left

-- The image at the start has an empty journal at rest, so all is in its place.
all-placed : IsAllPlaced longer (cells_before w) fresh_journal
all-placed =
    let told = opens_tells longer fresh_journal OpensAs-longer in
    record {
      placed = record {
        reads = reads_from longer fresh_journal (record { head = told.head; has_geometry = told.has_geometry; is_geometry = told.is_geometry });
        each = λ b low. placed_cells_law longer fresh_journal b refl replayed_entries-fresh;
      };
      rests = record { next = 0; number = 1; at = (state_law longer.geometry 128 fresh_journal _ told.is_geometry walk_of-fresh).rest 0 1 refl };
    }

-- The disk is resized.
resized : IsResizedContent longer (cells_before w) (newest_only headed)
resized = growth_done_law longer (cells_before w) fresh_journal (newest_only headed) (λ b low. refl) (λ clear. all-placed) founded

-- What stood there besides the cells is kept.
stored : EachImage (KeepsStored longer fresh_journal) (newest_only headed)
stored = stored_law longer fresh_journal fresh_journal (newest_only headed) (record { rest = λ clear rests sector on. refl; awaiting = λ set b low waits. refl }) founded

-- Its image opens by its own fields, which are the resized ones, with sixteen blocks.
abbrev image : Image
image = last_image (newest_only headed)

own-fields : format_on None 128 image ≡ resized_format longer
own-fields = resized_reopens_law longer (cells_before w) image (resized.cells image (newest_only-last headed))

own-cells : let own = format_on None 128 image in (b : ℕ) → b < own.geometry.blocks → cells_on own image b ≡ grown_cells longer (cells_before w) b
own-cells = (reopens_law longer (cells_before w) image StandsFor-fresh.formed.grown (inr (resized.cells image (newest_only-last headed)))).2
