-- What reads give of a disk in direct mode after each step, and the reply of a block.
use Rattle.std.proofs.Common.{◌≡◌, ◌≢◌, inl, inr, ⊎_elim, ℕ, ◌+◌, ◌-◌, ◌*◌, ◌/◌, ◌<◌, ◌==◌, Bool, true, false, ◌&&◌, if◌then◌else◌, refl, sym, ◌∙◌, ap, subst, arith, Option, List, ◌++◌, length, append-nil}
use Rattle.std.specs.List.{Any, Contains}
use Rattle.std.specs.Option.{option_to_list}
use Rattle.std.proofs.lemmas.Bool.{cases_Bool, cases_eq, eq-eqb, ne_eqb, true≢false, false_from_ne_true, and_parts}
use Rattle.std.proofs.lemmas.List.{drop_all}
use Rattle.disk_model.specs.Disk.{Content, Image, OnlyAdds, sector_in, last_image, with_run, newest_only}
use Rattle.disk_model.proofs.DiskLemmas.{AddsSome-adds, AddsSome-all, last_image-with_run, last_image-with_run_out, newest_only-last, newest_only-pending, only_candidate, last_image-with_other}
use Rattle.image_model.specs.declared.flags.TheConstants.{DIRTY_BITMAP}
use Rattle.image_model.specs.Bitmap.{is_to_recalculate}
use Rattle.image_model.specs.Cells.{Cell, placed_cells_of, block_tag}
use Rattle.image_model.specs.Geometry.{data_at, region_of}
use Rattle.image_model.specs.Sectors.{bytes_at}
use Rattle.image_model.specs.Superblock.{has_flag}
use Rattle.image_model.proofs.BitmapLemmas.{awaits-journal, region_awaits-block}
use Rattle.image_model.proofs.GeometryLemmas.{data_at-inside}
use Rattle.image_model.proofs.SectorLemmas.{bytes_at_read}
use Rattle.device_model.specs.History.{Tagger, BlockWrite, cells_after, cells_now}
use Rattle.device_model.specs.Mode.{Mode, DeviceFormat, Direct, is_recovery}
use Rattle.device_model.specs.Progress.{Working, DeviceState}
use Rattle.device_model.specs.Regions.{with_region}
use Rattle.device_model.specs.Reply.{block_reply}
use Rattle.device_model.specs.Serial.{readable_cells}
use Rattle.device_model.proofs.HistoryLemmas.{IsOfBlock, Any-nil, cells_after-push_same, cells_after-push_other}
use Rattle.place_model.specs.Blocks.{IsBlockWrite, ReadsData}
use Rattle.place_model.specs.Format.{DiskFormat, tagger_of}
use Rattle.place_model.specs.Opened.{awaiting_on}
use Rattle.place_model.specs.Tags.{tag_byte_at, KeepsOthers}
use Rattle.place_model.proofs.BlocksLemmas.{ReadsData-same, KeepsOthers-data, cells_after-base}
use Rattle.place_model.proofs.PlacedLemmas.{same_cell, placed_cells_of-bytes, placed_tag}
use Rattle.place_model.proofs.TagsLemmas.{data_once}
use Rattle.direct_model.specs.DirectDisk.{DirectDisk, IsFormed, IsKept, cell_now}
use Rattle.direct_model.specs.Opening.{placed_disk, opened_disk}
use Rattle.direct_model.specs.Steps.{with_write, with_fields, AreTags, AreNewTags, IsOfWrite, HasTagsOf}
use Rattle.direct_model.proofs.DirectLemmas.{now_cells, writing_law, tags_written_law, flushed_law, moved_law}
use Rattle.direct_model.proofs.OpeningLemmas.{placed_opened_law, opened_law}
use Rattle.direct_laws.specs.Device.{IsDirectDevice}
use Rattle.direct_laws.specs.ReadLaws.{awaits_tag, KeepsCells, ReadLaw, KeepsBegun, KeepsPlaced, KeepsOpened, KeepsWrite, KeepsSynced, KeepsBack, KeepsFlushed, KeepsSame, recalculated_tags, KeepsRecalculated, KeepsMoved}
use Rattle.direct_laws.proofs.DeviceLemmas.{mode-is, blocks-is, block_size-is, idle-works}

-- ---- what awaits

neither : (p q : Bool) → q ≡ false → p && q ≡ false
neither true q e = e
neither false q e = refl

other : (p q : Bool) → p ≡ true → p && q ≡ false → q ≡ false
other true q holds e = e
other false q holds e = absurd (true≢false (sym holds))

-- A block that is not to be recalculated does not await its tag.
pub rests : (d : DirectDisk) (awaiting : ℕ → Bool) (b : ℕ) → is_to_recalculate d.superblock d.geometry b ≡ false → awaits_tag d awaiting b ≡ false
rests d awaiting b e = neither (awaiting (region_of d.geometry b)) (is_to_recalculate d.superblock d.geometry b) e

module _ (d : DirectDisk) (awaiting : ℕ → Bool) (tags : ℕ → List ℕ) (c : Content) (keeps : KeepsCells d awaiting tags c) where
  pub are_tags : AreTags d tags
  are_tags = record { each = λ b low e kept. keeps.tags_are b low (rests d awaiting b e) }

  are_new_tags : AreNewTags d tags
  are_new_tags = record { each = λ b low e. keeps.tags_are b low (rests d awaiting b e) }

  -- The bytes of a block are those that reads give.
  pub bytes_are : (b : ℕ) → b < d.geometry.blocks → (cell_now d b).bytes ≡ bytes_at (last_image c) (data_at d.geometry b) d.geometry.shape.spb
  bytes_are b low =
      bytes_at_read (last_image c) (data_at d.geometry b) d.geometry.shape.spb (cell_now d b).bytes ((now_cells d keeps.stands.formed).bytes b low)
      (λ k inside. sym (keeps.reads.each b k low inside))

  -- Calls that write tags alone leave the data as they read.
  same_data : (after : Content) → KeepsOthers d.geometry c after → ReadsData d.geometry (cell_now d) after
  same_data after others =
      ReadsData-same d.geometry (cell_now d) c after (λ b k low k_low. KeepsOthers-data d.geometry d.sectors c after keeps.stands.formed.is_geometry others b k low k_low) keeps.reads

-- ---- a read

module _ (f : DeviceFormat) (s : DeviceState) (d : DirectDisk) (is : IsDirectDevice f s d) (works : s.condition ≡ Working) where
  -- What a block holds by the history is what the disk says.
  pub cells_are : (b : ℕ) → b < f.blocks.blocks → readable_cells f (cells_now f.blocks.tag s.history) b ≡ cell_now d b
  cells_are b low =
      let h = s.history in
      let tag : f.blocks.tag ≡ tagger_of d.format = ap (λ (x : DeviceFormat). x.blocks.tag) is.format in
      let all : h.writes ≡ d.writes =
      sym (append-nil h.writes) ∙ sym (ap (λ (o : Option BlockWrite). h.writes ++ option_to_list o) (idle-works f s is.reached works)) ∙ sym is.history.writes in
      ap (λ (m : Mode). if is_recovery m then (let cell : Cell = record { bytes = (cells_now f.blocks.tag h b).bytes; tag = f.blocks.tag b (cells_now f.blocks.tag h b).bytes } in cell) else cells_now f.blocks.tag h b) (mode-is f d.format is.format)
      ∙ ap (λ (t : Tagger). cells_after t h.base h.writes b) tag
      ∙ ap (λ (ws : List BlockWrite). cells_after (tagger_of d.format) h.base ws b) all
      ∙ cells_after-base (tagger_of d.format) h.base d.base d.writes b (sym (is.history.base b (omega (arith, low, blocks-is f d.format is.format))))

pub read_law : ReadLaw
read_law f s d awaiting tags c b bytes is works keeps low awaits size reads =
    let cell : Cell = record { bytes = bytes; tag = tags b } in
    let inside : b < d.geometry.blocks = omega (arith, low, blocks-is f d.format is.format) in
    let whole : length bytes ≡ 512 * d.geometry.shape.spb = size ∙ block_size-is f d.format is.format in
    let same : bytes ≡ (cell_now d b).bytes =
    bytes_at_read (last_image c) (data_at d.geometry b) d.geometry.shape.spb bytes whole (λ k k_low. reads k (omega (arith, k_low, whole)))
    ∙ sym (bytes_are d awaiting tags c keeps b inside) in
    let told : readable_cells f (cells_now f.blocks.tag s.history) b ≡ cell = cells_are f s d is works b low ∙ sym (same_cell cell (cell_now d b) same (keeps.tags_are b inside awaits)) in
    (told, ap (block_reply f.blocks.tag b) told ∙ ap (λ (x : DeviceFormat). block_reply x.blocks.tag b cell) is.format)

-- ---- opening

pub keeps_begun : KeepsBegun
keeps_begun d awaiting tags c stands image flushed waits placed =
    let kept : (b : ℕ) → IsKept d b = λ b any. Any-nil (IsOfBlock b) (subst (Any (IsOfBlock b)) (drop_all d.flushed d.writes (omega (arith, flushed))) any) in
    let whole : (sector : ℕ) → sector < d.sectors → length (last_image c sector) ≡ 512 = λ sector inside. (stands.each sector (last_image c sector) (image sector)).whole inside in
    record {
      stands = stands;
      reads = record { each = λ b k low k_low. (stands.each (data_at d.geometry b + k) (last_image c (data_at d.geometry b + k)) (image (data_at d.geometry b + k))).data_ b k low k_low (kept b) refl };
      tags_are = λ b low awaits.
          let still : is_to_recalculate d.superblock d.geometry b ≡ false = false_from_ne_true (is_to_recalculate d.superblock d.geometry b) (λ is.
          true≢false (sym is ∙ other (awaiting (region_of d.geometry b)) (is_to_recalculate d.superblock d.geometry b) (waits b low is) awaits)) in
          placed b low
          ∙ placed_tag d.geometry d.sectors stands.formed.is_geometry (last_image c) whole b low (cell_now d b) ((now_cells d stands.formed).tag b low)
          (λ i i_low. (stands.each (tag_byte_at d.geometry b i).sector (last_image c (tag_byte_at d.geometry b i).sector) (image (tag_byte_at d.geometry b i).sector)).tags b i low i_low still (kept b) refl);
    }

-- A block that is to be recalculated awaits at opening, where there is no bitmap.
waits-opened : (d : DiskFormat) (image : Image) → has_flag DIRTY_BITMAP d.superblock.flags ≡ false → (b : ℕ) → b < d.geometry.blocks
    → is_to_recalculate d.superblock d.geometry b ≡ true → awaiting_on Direct d image (region_of d.geometry b) ≡ true
waits-opened d image clear b low waits = region_awaits-block d.superblock d.geometry image b low (awaits-journal d.superblock d.geometry image b clear ∙ waits)

pub keeps_placed : KeepsPlaced
keeps_placed d entry tags image_is reads clear whole placed =
    let image = last_image entry in
    keeps_begun (placed_disk d image) (awaiting_on Direct d image) tags (newest_only entry)
    (placed_opened_law d (newest_only entry) reads clear (newest_only-pending entry) whole) (newest_only-last entry) refl
    (waits-opened d image clear)
    placed

pub keeps_opened : KeepsOpened
keeps_opened d entry tags image_is opens clear none whole placed =
    let image = last_image entry in
    let opened = opened_law d (newest_only entry) opens clear none (newest_only-pending entry) whole in (
      keeps_begun (opened_disk d image) (awaiting_on Direct d image) tags (newest_only entry)
          opened.0 (newest_only-last entry) refl
          (waits-opened d image clear)
          placed,
      opened.1,
    )

-- ---- a write

module _ (d : DirectDisk) (write : BlockWrite) (first : Content) (formed : IsFormed d) (is : IsBlockWrite d.geometry write) where
  pub own : (b : ℕ) → write.block ≡ b → (cell_now (with_write d write) b) ≡ record { bytes = write.bytes; tag = tagger_of d.format write.block write.bytes }
  own b same = cells_after-push_same (tagger_of d.format) d.base d.writes write b same

  pub kept : (b : ℕ) → write.block ≢ b → cell_now (with_write d write) b ≡ cell_now d b
  kept b apart = cells_after-push_other (tagger_of d.format) d.base d.writes write b apart

  run : length write.bytes / 512 ≡ d.geometry.shape.spb
  run = let size = is.bytes in omega arith

  pub written_data : ReadsData d.geometry (cell_now d) first → ReadsData d.geometry (cell_now (with_write d write)) (with_run (data_at d.geometry write.block) write.bytes first)
  written_data reads = record {
    each = λ b k low k_low.
        let g = d.geometry in
        let at = data_at g write.block in
        elim (cases_eq write.block b) [
          | inl same ↦
              let there : data_at g b ≡ at = ap (data_at g) (sym same) in
              let place : data_at g b + k - at ≡ k = omega arith in
              last_image-with_run at write.bytes first (data_at g b + k) (omega arith) (omega (arith, run))
              ∙ ap (sector_in write.bytes) place
              ∙ ap (λ (cell : Cell). sector_in cell.bytes k) (sym (own b same))
          | inr apart ↦
              last_image-with_run_out at write.bytes first (data_at g b + k) (λ above under.
              let place : at + (data_at g b + k - at) ≡ data_at g b + k = omega arith in
              apart (data_once g d.sectors write.block b (data_at g b + k - at) k formed.is_geometry (omega (arith, run)) k_low place).0)
              ∙ reads.each b k low k_low
              ∙ ap (λ (cell : Cell). sector_in cell.bytes k) (sym (kept b apart))
        ];
  }

pub keeps_write : KeepsWrite
keeps_write d write awaiting tags first c keeps is adds others =
    let formed = keeps.stands.formed in
    let g = d.geometry in
    let mid = with_run (data_at g write.block) write.bytes first in
    let all : OnlyAdds (IsOfWrite d write tags) first c = record {
      among = λ s x has. ⊎_elim
          (λ was. ⊎_elim inl (λ run. inr (inl run)) ((AddsSome-adds (data_at g write.block) write.bytes first mid (AddsSome-all (data_at g write.block) write.bytes first)).among s x was))
          (λ of. inr (inr of))
          (adds.among s x has);
    } in
    let written = written_data d write first formed is keeps.reads in
    record {
      stands = writing_law d write tags first c keeps.stands is (are_tags d awaiting tags first keeps) all;
      reads = ReadsData-same g (cell_now (with_write d write)) mid c (λ b k low k_low. KeepsOthers-data g d.sectors mid c formed.is_geometry others b k low k_low) written;
      tags_are = λ b low awaits. elim (cases_eq write.block b) [
        | inl same ↦ rw (eq-eqb write.block b same) (ap (λ (cell : Cell). cell.tag) (sym (own d write first formed is b same)))
        | inr apart ↦ rw (ne_eqb write.block b apart) (keeps.tags_are b low awaits ∙ ap (λ (cell : Cell). cell.tag) (sym (kept d write first formed is b apart)))
      ];
    }

-- ---- tags, and a sync

pub keeps_synced : KeepsSynced
keeps_synced d awaiting tags first keeps image = record {
  stands = record {
    formed = keeps.stands.formed;
    each = λ sector x has. keeps.stands.each sector x (subst (Contains (first sector)) (sym (only_candidate (last_image first sector) x has)) (image sector));
  };
  reads = record { each = keeps.reads.each };
  tags_are = keeps.tags_are;
}

pub keeps_back : KeepsBack
keeps_back d awaiting tags first c keeps adds others =
    let are = are_tags d awaiting tags first keeps in
    record {
      stands = tags_written_law d tags tags first c keeps.stands are are adds;
      reads = same_data d awaiting tags first keeps c others;
      tags_are = keeps.tags_are;
    }

pub keeps_flushed : KeepsFlushed
keeps_flushed d awaiting tags first keeps image reads = record {
  stands = flushed_law d tags first keeps.stands image keeps.reads (are_new_tags d awaiting tags first keeps) reads;
  reads = record { each = keeps.reads.each };
  tags_are = keeps.tags_are;
}

pub keeps_same : KeepsSame
keeps_same d awaiting now tags others c same rested keeps = record {
  stands = keeps.stands;
  reads = keeps.reads;
  tags_are = λ b low awaits. same b low ∙ keeps.tags_are b low (rested b low awaits);
}

-- ---- a recalculation

module _ (d : DirectDisk) (region : ℕ) (first : Content) (tags : ℕ → List ℕ) (b : ℕ) where
  abbrev new : List ℕ
  new = recalculated_tags d region first tags b

  abbrev made : List ℕ
  made = tagger_of d.format b (placed_cells_of d.geometry (last_image first) b).bytes

  tags-rest : is_to_recalculate d.superblock d.geometry b ≡ false → recalculated_tags d region first tags b ≡ tags b
  tags-rest e = ap (λ (t : Bool). if t then made else tags b) (neither (region_of d.geometry b == region) (is_to_recalculate d.superblock d.geometry b) e)

  tags-apart : region_of d.geometry b ≢ region → recalculated_tags d region first tags b ≡ tags b
  tags-apart apart = rw (ne_eqb (region_of d.geometry b) region apart) refl

  tags-made : region_of d.geometry b ≡ region → is_to_recalculate d.superblock d.geometry b ≡ true → recalculated_tags d region first tags b ≡ tagger_of d.format b (placed_cells_of d.geometry (last_image first) b).bytes
  tags-made same waits = ap (λ (t : Bool). if t && is_to_recalculate d.superblock d.geometry b then made else tags b) (eq-eqb (region_of d.geometry b) region same)
      ∙ ap (λ (t : Bool). if t then made else tags b) waits

-- They are right where the old ones are.
pub are_recalculated : (d : DirectDisk) (region : ℕ) (awaiting : ℕ → Bool) (tags : ℕ → List ℕ) (first : Content) → KeepsCells d awaiting tags first → AreTags d (recalculated_tags d region first tags)
are_recalculated d region awaiting tags first keeps = record { each = λ b low e kept. tags-rest d region first tags b e ∙ keeps.tags_are b low (rests d awaiting b e) }

pub keeps_recalculated : KeepsRecalculated
keeps_recalculated d region awaiting tags first c keeps adds others =
    let g = d.geometry in
    let formed = keeps.stands.formed in
    let new = recalculated_tags d region first tags in
    record {
      stands = tags_written_law d tags new first c keeps.stands (are_tags d awaiting tags first keeps) (are_recalculated d region awaiting tags first keeps) adds;
      reads = same_data d awaiting tags first keeps c others;
      tags_are = λ b low awaits. elim (cases_Bool (is_to_recalculate d.superblock g b)) [
        | inr e ↦ tags-rest d region first tags b e ∙ keeps.tags_are b low (rests d awaiting b e)
        | inl waits ↦ elim (cases_eq (region_of g b) region) [
          | inl same ↦
              tags-made d region first tags b same waits
              ∙ ap (tagger_of d.format b) (placed_cells_of-bytes g (last_image first) b ∙ sym (bytes_are d awaiting tags first keeps b low))
              ∙ sym ((now_cells d formed).recalculated b low waits)
          | inr apart ↦
              let before : with_region region false awaiting (region_of g b) ≡ awaiting (region_of g b) = rw (ne_eqb (region_of g b) region apart) refl in
              tags-apart d region first tags b apart
              ∙ keeps.tags_are b low (ap (λ (t : Bool). t && is_to_recalculate d.superblock g b) (sym before) ∙ awaits)
        ]
      ];
    }

-- ---- the position

pub keeps_moved : KeepsMoved
keeps_moved d fields awaiting tags bytes first keeps image settled in_place moved passes size head =
    let g = d.geometry in
    -- A block that is passed does not await, so it has its tag.
    let has : HasTagsOf d fields tags = λ b low before now. keeps.tags_are b low (ap (λ (t : Bool). t && is_to_recalculate d.superblock g b)
    (false_from_ne_true (awaiting (region_of g b)) (λ waits. true≢false (sym before ∙ sym (passes b low waits) ∙ now)))) in
    let stands = moved_law d fields tags bytes first keeps.stands image settled moved in_place has size head in
    let same : (b : ℕ) → cell_now (with_fields d fields) b ≡ cell_now d b = λ b.
    ap (λ (salt : Option (List ℕ)). cells_after (λ (n : ℕ) (x : List ℕ). block_tag d.key salt g (n * g.shape.spb) x) d.base d.writes b) moved.same_salt in
    record {
      stands = stands;
      reads = record {
        each = λ b k low k_low.
            let inside = data_at-inside g d.sectors b keeps.stands.formed.is_geometry low in
            last_image-with_other 0 bytes first (data_at g b + k) size (λ same_sector. omega (arith, same_sector))
            ∙ keeps.reads.each b k low k_low ∙ ap (λ (cell : Cell). sector_in cell.bytes k) (sym (same b));
      };
      tags_are = λ b low awaits. elim (cases_Bool (awaits_tag d awaiting b)) [
        | inr rested ↦ keeps.tags_are b low rested ∙ ap (λ (cell : Cell). cell.tag) (sym (same b))
        | inl waits ↦
            let both = and_parts (awaiting (region_of g b)) (is_to_recalculate d.superblock g b) waits in
            let still : is_to_recalculate fields g b ≡ false = other (awaiting (region_of g b)) (is_to_recalculate fields g b) both.0 awaits in
            absurd (true≢false (sym both.1 ∙ sym (passes b low both.0) ∙ still))
      ];
    }
