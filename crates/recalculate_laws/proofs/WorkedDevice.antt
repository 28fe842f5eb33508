-- A fresh disk of eight blocks in two regions, whose tags are to be recalculated from block 5 on: in journal mode and in direct
-- mode a step may begin on it, once the flag that says so is one of the known ones. So no law of a step speaks of nothing.
use Rattle.std.proofs.Common.{◌≡◌, ℕ, zero, suc, ◌<◌, ◌==◌, ◌&&◌, Bool, true, false, if◌then◌else◌, refl, sym, ◌∙◌, ap, subst, arith, Ok, Some, List, [], ◌∷◌, length, slice_index, replicate}
use Rattle.sha2.specs.Sha256.{sha256, first_words, schedule, rounds, compress, hash_after, digest_bytes}
use Rattle.disk_model.specs.Disk.{Content, EachImage, Image, IsImage, last_image, newest_only, with_run}
use Rattle.disk_model.proofs.DiskLemmas.{OnlyAdds-none, newest_only-last, only_candidate}
use Rattle.image_model.specs.Bitmap.{awaits, is_to_recalculate, region_awaits}
use Rattle.image_model.specs.Cells.{last_entry, placed_cells_of, replayed_entries}
use Rattle.image_model.specs.CommitId.{number_of, id_in}
use Rattle.image_model.specs.Geometry.{data_at, tag_at, tag_offset, bitmap_sectors_for, entries_per_sector, entry_size, fitting_log2_region, geometry_of, layout_of, region_of, regions, regions_for, section_entries, section_sectors, sector_at, tag_run_of}
use Rattle.image_model.specs.Grid.{blank_bound, grid_with, walk_of}
use Rattle.image_model.specs.Scan.{walk_of_grid}
use Rattle.image_model.specs.Section.{Entry, entry_at, is_used}
use Rattle.image_model.specs.Superblock.{Superblock, superblock_of, IsAccepted}
use Rattle.image_model.specs.Tag.{tag_message, tag_of}
use Rattle.image_model.specs.Walk.{plan_of}
use Rattle.image_model.specs.declared.journal_plan.State.TheVariants.{Rest}
use Rattle.image_model.proofs.OpenableLemmas.{IsReadable-accepted}
use Rattle.device_model.specs.Mode.{Direct, Journal}
use Rattle.device_model.specs.Progress.{DeviceState, Step, Recalc, opened_device, after_event}
use Rattle.device_model.specs.Regions.{least_region}
use Rattle.place_model.specs.Format.{DiskFormat, HasWholeSectors, OpensAs, tagger_of}
use Rattle.place_model.specs.Journal.{entries_in}
use Rattle.place_model.specs.Kind.{CanOpenIn, MayBeLeftIn}
use Rattle.place_model.specs.Opened.{awaiting_on, blocks_of, device_format, opened_on}
use Rattle.place_model.proofs.FormatLemmas.{format_on-is, opens_tells}
use Rattle.place_model.specs.Tags.{ReadsTags, tag_byte_at}
use Rattle.place_model.proofs.JournalLemmas.{replayed_entries-plan}
use Rattle.place_model.proofs.PlacedLemmas.{placed_tag-byte}
use Rattle.place_model.proofs.WorkedDisk.{fresh_journal, journal_format, HasWholeSectors-journal}
use Rattle.journal_model.specs.JournaledDisk.{JournaledDisk, StandsFor}
use Rattle.journal_model.specs.Opening.{opened_disk}
use Rattle.journal_model.specs.Ring.{empty_ring}
use Rattle.journal_model.specs.Steps.{KeepsCells}
use Rattle.journal_model.proofs.EntriesLemmas.{cell_after-none}
use Rattle.journal_model.proofs.OpeningLemmas.{opened_law, state_law}
use Rattle.journal_laws.specs.Device.{IsJournalDevice}
use Rattle.journal_laws.proofs.StepLemmas as Begins
use Rattle.direct_model.specs.Opening
use Rattle.direct_model.specs.Steps.{with_fields}
use Rattle.direct_laws.specs.Device.{IsDirectDevice}
use Rattle.direct_laws.specs.ReadLaws
use Rattle.direct_laws.proofs.DeviceLemmas.{opening_law}
use Rattle.direct_laws.proofs.ReadLemmas.{keeps_opened}
use Rattle.change_model.specs.Fields.{with_head}
use Rattle.change_model.proofs.BeginLemmas.{opened_keeps_law}
use Rattle.recalculate_laws.specs.DirectStep.{EntersDirect}
use Rattle.recalculate_laws.specs.Moments.{Making, HasRegionTags, awaiting_then, fields_then, head_then, tags_then}
use Rattle.recalculate_laws.specs.JournalDisk
use Rattle.recalculate_laws.specs.Recalculating.{KeepsAwaiting}
use Rattle.recalculate_laws.specs.Position.{HasPosition, IsSamePosition, moved_fields}
use Rattle.recalculate_laws.specs.Step.{EntersRecalc}
use Rattle.recalculate_laws.proofs.DeviceLemmas.{opened_awaits}
use Rattle.recalculate_laws.proofs.RecalculatingLemmas.{awaiting_begins}
use Rattle.recalculate_laws.proofs.DirectStepLemmas.{direct_moments_law, direct_done_law, direct_moves_law, direct_closing_law}
use Rattle.recalculate_laws.proofs.StepLemmas.{recalc_moments_law, recalc_done_law, recalc_stays_law, closing_moves_law}

-- ---- the disk

-- The flag is set, and the position is sector 5, in the second region.
abbrev pub fields : Superblock
fields = record journal_format.superblock { flags = 0xa; log2_region = 2; recalc_sector = 5 }

abbrev pub format : DiskFormat
format = record journal_format { superblock = fields; geometry = layout_of fields }

abbrev pub head : List ℕ
head =
    0x69 ∷ 0x6e ∷ 0x74 ∷ 0x65 ∷ 0x67 ∷ 0x72 ∷ 0x74 ∷ 0x00 ∷ 0x04 ∷ 0x03 ∷ 0x20 ∷ 0x00 ∷ 0x01 ∷ 0x00 ∷ 0x00 ∷ 0x00
    ∷ 0x08 ∷ 0x00 ∷ 0x00 ∷ 0x00 ∷ 0x00 ∷ 0x00 ∷ 0x00 ∷ 0x00 ∷ 0x0a ∷ 0x00 ∷ 0x00 ∷ 0x00 ∷ 0x00 ∷ 0x02 ∷ 0x00 ∷ 0x00
    ∷ 0x05 ∷ replicate 479 0

abbrev pub image : Image
image sector = if sector == 0 then head else fresh_journal sector

pub HasWholeSectors-image : HasWholeSectors format image
HasWholeSectors-image sector low = by_bool (sector == 0) (fresh_journal sector) (HasWholeSectors-journal sector low)
  where
    by_bool : (t : Bool) (x : List ℕ) → length x ≡ 512 → length (if t then head else x) ≡ 512
    by_bool true x size = refl
    by_bool false x size = size

geometry_of-fields : geometry_of fields 112 ≡ Ok format.geometry
unfolding geometry_of sector_at tag_run_of bitmap_sectors_for regions_for entry_size entries_per_sector section_entries section_sectors
geometry_of-fields = refl

walk_of-image : walk_of format.geometry image ≡ Ok (record { state = Rest 0 1; walk = (0, 0) ∷ (0, 1) ∷ [] })
unfolding walk_of_grid plan_of grid_with blank_bound bitmap_sectors_for regions_for fitting_log2_region is_used number_of id_in entry_size entries_per_sector section_entries section_sectors
walk_of-image = refl

pub replayed_entries-image : replayed_entries format.geometry image ≡ []
unfolding entries_in entry_at is_used entry_size entries_per_sector section_entries section_sectors
replayed_entries-image = replayed_entries-plan format.geometry image (record { state = Rest 0 1; walk = (0, 0) ∷ (0, 1) ∷ [] }) walk_of-image

abbrev pub content : Content
content sector = image sector ∷ []

abbrev pub tags : ℕ → List ℕ
tags b = (placed_cells_of format.geometry image b).tag

-- Its second region awaits, and behind that the flag goes and the position is the end.
pub least-direct : least_region (regions format.geometry) (awaiting_on Direct format image) ≡ Some 1
unfolding region_awaits awaits regions_for
least-direct = refl

pub least-journal : least_region (regions format.geometry) (awaiting_on Journal format image) ≡ Some 1
unfolding region_awaits awaits regions_for
least-journal = refl

fields_then-direct : fields_then format 1 (awaiting_on Direct format image) ≡ record fields { flags = 0x8; recalc_sector = 8 }
unfolding region_awaits awaits regions_for
fields_then-direct = refl

-- Where the first region awaits too, that is taken, and the position stays.
abbrev all_regions : ℕ → Bool
all_regions region = true

least-all : least_region (regions format.geometry) all_regions ≡ Some 0
unfolding regions_for
least-all = refl

IsSamePosition-all : IsSamePosition fields (fields_then format 0 all_regions)
unfolding regions_for
IsSamePosition-all = record { position = refl; flags = refl }

-- The tags that are in place are those of the bytes.
tag-same : (b : ℕ) → b < 8 → tagger_of format b (placed_cells_of format.geometry image b).bytes ≡ tags b
unfolding first_words schedule rounds compress hash_after digest_bytes sha256 tag_message tag_of placed_cells_of data_at tag_at tag_offset sector_at section_sectors section_entries entries_per_sector entry_size tag_run_of
tag-same zero low = refl
tag-same (suc zero) low = refl
tag-same (suc (suc zero)) low = refl
tag-same (suc (suc (suc zero))) low = refl
tag-same (suc (suc (suc (suc zero)))) low = refl
tag-same (suc (suc (suc (suc (suc zero))))) low = refl
tag-same (suc (suc (suc (suc (suc (suc zero)))))) low = refl
tag-same (suc (suc (suc (suc (suc (suc (suc zero))))))) low = refl
tag-same (suc (suc (suc (suc (suc (suc (suc (suc b)))))))) low = absurd (omega arith)

-- So the recalculated tags are those, whatever is read of the same image.
module _ (region : ℕ) (c : Content) (same : last_image c ≡ image) where
  then_same : (b : ℕ) → b < 8 → tags_then format region c tags b ≡ tags b
  then_same b low =
      ap (λ (read : Image). if region_of format.geometry b == region && is_to_recalculate fields format.geometry b then tagger_of format b (placed_cells_of format.geometry read b).bytes else tags b) same
      ∙ by_bool (region_of format.geometry b == region && is_to_recalculate fields format.geometry b)
    where
      by_bool : (t : Bool) → (if t then tagger_of format b (placed_cells_of format.geometry image b).bytes else tags b) ≡ tags b
      by_bool true = tag-same b low
      by_bool false = refl

-- ---- once the flag is known

module _ (known : superblock_of head ≡ Ok fields) where
  pub opens : OpensAs format image
  opens = record {
    openable = record {
      readable = record { superblock = fields; geometry = format.geometry; has_superblock = known; has_geometry = geometry_of-fields };
      walk = λ clear. rw walk_of-image refl;
      entries = rw replayed_entries-image tt;
    };
    superblock = refl;
    geometry = refl;
  }

  pub position : HasPosition fields
  position = record {
    accepted = subst IsAccepted opens.superblock (IsReadable-accepted 112 image opens.openable.readable);
    fits = record { sections = omega arith; flags = omega arith; log2_region = omega arith; recalc_sector = omega arith; salt = refl };
    set = refl;
  }

  -- Reads of the image give the tags in place,
  pub ReadsTags-image : (c : Content) → last_image c ≡ image → ReadsTags format.geometry tags c
  ReadsTags-image c same = record {
    each = λ b i low i_low.
        ap (λ (read : Image). slice_index (read (tag_byte_at format.geometry b i).sector) (tag_byte_at format.geometry b i).byte) same
        ∙ sym (placed_tag-byte format.geometry 112 (opens_tells format image opens).is_geometry image HasWholeSectors-image b low (placed_cells_of format.geometry image b) i i_low);
  }

  -- so those of a region are written back as they are.
  pub HasRegionTags-image : (region : ℕ) (c : Content) → last_image c ≡ image → IsImage c (last_image c) → HasRegionTags format region tags c c
  HasRegionTags-image region c same reads = record {
    adds = OnlyAdds-none _ c;
    others = record { each = λ sector none. refl };
    reads = reads;
    back = record { each = λ b i low i_low. (ReadsTags-image c same).each b i low i_low ∙ ap (λ (tag : List ℕ). slice_index tag i) (sym (then_same region c same b low)) };
  }

  -- In direct mode,
  pub EntersDirect-image : EntersDirect (device_format Direct format) (opened_on Direct format image) (Opening.opened_disk format image) 1 tags (newest_only content)
  EntersDirect-image =
      let keeps = keeps_opened format content tags (newest_only-last content) opens refl replayed_entries-image HasWholeSectors-image (λ b low. refl) in
      record {
        device = opening_law format image refl;
        works = refl;
        least = least-direct;
        keeps = keeps.0;
        image = newest_only-last content;
        replayed = keeps.1;
        position = position;
      }

  -- so before the first tag is written each image may be left.
  pub left-direct : EachImage (λ left. CanOpenIn Direct format.key format.sectors left × MayBeLeftIn Direct format.key format.sectors image (opened_on Direct format image).history left) (newest_only content)
  left-direct = (direct_moments_law (device_format Direct format) (opened_on Direct format image) (Opening.opened_disk format image) 1 tags image (newest_only content) (newest_only content) EntersDirect-image
      (ap blocks_of (sym (format_on-is format image opens))) (Making (OnlyAdds-none _ (newest_only content)))).0

  -- Its region had a block to be recalculated, so the position moves,
  pub moves-direct : ¬ IsSamePosition fields (fields_then format 1 (awaiting_on Direct format image))
  moves-direct = direct_moves_law (device_format Direct format) (opened_on Direct format image) (Opening.opened_disk format image) 1 tags (newest_only content) EntersDirect-image

  -- and at the end the device is one under the moved fields.
  pub done-direct : IsDirectDevice (device_format Direct format) (after_event (device_format Direct format) (opened_on Direct format image) (Step Recalc))
      (with_fields (Opening.opened_disk format image) (fields_then format 1 (awaiting_on Direct format image)))
  done-direct = (direct_done_law (device_format Direct format) (opened_on Direct format image) (Opening.opened_disk format image) 1 tags (newest_only content) (newest_only content) EntersDirect-image
      (HasRegionTags-image 1 (newest_only content) refl (newest_only-last content))).0

  -- A close moves the position as far as no region awaits, which is not at all here.
  abbrev direct_fields : Superblock
  direct_fields = moved_fields fields format.geometry (awaiting_on Direct format image)

  pub closed-direct : ReadLaws.KeepsCells (with_fields (Opening.opened_disk format image) direct_fields) (awaiting_on Direct format image) tags
      (newest_only (with_run 0 (with_head direct_fields head) (newest_only (newest_only content))))
  closed-direct = (direct_closing_law (Opening.opened_disk format image) (opened_on Direct format image).history (awaiting_on Direct format image) tags image (newest_only content) (newest_only (newest_only content))
      EntersDirect-image.device.history EntersDirect-image.keeps EntersDirect-image.image (ReadsTags-image (newest_only content) refl) EntersDirect-image.replayed position
      (ap blocks_of (sym (format_on-is format image opens))) (OnlyAdds-none _ (newest_only (newest_only content)))).2

  -- In journal mode, as writing goes on in its journal,
  abbrev pub journaled : JournaledDisk
  journaled = record (opened_disk format image) { number = 1 }

  StandsFor-journaled : StandsFor journaled content
  StandsFor-journaled =
      let opened = opened_law format content opens refl (record { only = λ sector x has. only_candidate (image sector) x has }) HasWholeSectors-image in
      let formed = opened.sound.formed in
      record {
        sound = record {
          formed = record {
            has_geometry = formed.has_geometry;
            is_geometry = formed.is_geometry;
            no_bitmap = formed.no_bitmap;
            settled_low = formed.settled_low;
            placed_low = formed.placed_low;
            base = formed.base;
            each = formed.each;
          };
          has_walk = opened.sound.has_walk;
          held = opened.sound.held;
          start_low = opened.sound.start_low;
        };
        each = λ sector x has.
            let may = opened.each sector x has in
            record {
              outside = record { whole = may.outside.whole; head = may.outside.head; in_place = record { data_ = may.outside.in_place.data_; tags = may.outside.in_place.tags } };
              journal = may.journal;
            };
      }

  KeepsCells-journaled : KeepsCells journaled tags content
  KeepsCells-journaled =
      let opened = opened_keeps_law format content tags opens refl (record { only = λ sector x has. only_candidate (image sector) x has }) HasWholeSectors-image (λ b low. refl) in
      record { stands = StandsFor-journaled; reads = record { each = opened.reads.each }; tags_are = record { each = opened.tags_are.each } }

  abbrev opened_with : (awaiting : ℕ → Bool) → DeviceState
  opened_with awaiting = opened_device journaled.base 0 (λ region. false) awaiting

  enters : (awaiting : ℕ → Bool) (region : ℕ) → least_region (regions format.geometry) awaiting ≡ Some region → KeepsAwaiting journaled awaiting tags content
      → EntersRecalc (device_format Journal format) (opened_with awaiting) journaled (empty_ring format.geometry 0 1) region tags content
  enters awaiting region least keeps = record {
    device = Begins.opening_law (device_format Journal format) journaled journaled.base (λ region. false) awaiting refl StandsFor-journaled.sound
        (record { at = (state_law format.geometry 112 image _ (opens_tells format image opens).is_geometry walk_of-image).rest 0 1 refl })
        (sym (ap length replayed_entries-image))
        (λ b low. cell_after-none format.geometry journaled.base journaled.entries b (ap (λ (entries : List Entry). last_entry format.geometry entries b) replayed_entries-image))
        (λ b low. refl);
    works = refl;
    least = least;
    keeps = keeps;
    image = newest_only-last content;
    position = position;
  }

  abbrev pub at_start : DeviceState
  at_start = opened_with (awaiting_on Journal format image)

  pub EntersRecalc-image : EntersRecalc (device_format Journal format) at_start journaled (empty_ring format.geometry 0 1) 1 tags content
  EntersRecalc-image = enters (awaiting_on Journal format image) 1 least-journal (opened_awaits journaled image tags content refl KeepsCells-journaled)

  -- so it is there too.
  pub left-journal : EachImage (λ left. CanOpenIn Journal format.key format.sectors left × MayBeLeftIn Journal format.key format.sectors image at_start.history left) content
  left-journal = (recalc_moments_law (device_format Journal format) at_start journaled (empty_ring format.geometry 0 1) 1 tags image content content EntersRecalc-image
      (ap blocks_of (sym (format_on-is format image opens))) (Making (OnlyAdds-none _ content))).0

  -- At its end no block awaits, and each tag is that of its placed cell.
  pub done-journal : KeepsAwaiting (JournalDisk.with_fields journaled (fields_then format 1 (awaiting_on Journal format image))) (awaiting_then 1 (awaiting_on Journal format image)) (tags_then format 1 content tags)
      (newest_only (with_run 0 (head_then format 1 (awaiting_on Journal format image) content) (newest_only content)))
  done-journal = (recalc_done_law (device_format Journal format) at_start journaled (empty_ring format.geometry 0 1) 1 tags content content EntersRecalc-image
      (HasRegionTags-image 1 content refl (newest_only-last content))).1

  -- Where the first region awaits too, its step writes no position.
  pub stays-journal : IsJournalDevice (device_format Journal format) (after_event (device_format Journal format) (opened_with all_regions) (Step Recalc)) journaled (empty_ring format.geometry 0 1)
      × KeepsAwaiting journaled (awaiting_then 0 all_regions) (tags_then format 0 content tags) (newest_only content)
  stays-journal = recalc_stays_law (device_format Journal format) (opened_with all_regions) journaled (empty_ring format.geometry 0 1) 0 tags content content
      (enters all_regions 0 least-all (awaiting_begins journaled all_regions tags content KeepsCells-journaled (λ b low is. refl)))
      (HasRegionTags-image 0 content refl (newest_only-last content)) IsSamePosition-all

  -- So does a close in journal mode.
  abbrev journal_fields : Superblock
  journal_fields = moved_fields fields format.geometry (awaiting_on Journal format image)

  pub closed-journal : KeepsAwaiting (JournalDisk.with_fields journaled journal_fields) (awaiting_on Journal format image) tags (newest_only (with_run 0 (with_head journal_fields head) (newest_only content)))
  closed-journal = (closing_moves_law (device_format Journal format) at_start.history at_start.progress.journal journaled (empty_ring format.geometry 0 1) (awaiting_on Journal format image) tags image content (newest_only content)
      EntersRecalc-image.device EntersRecalc-image.keeps EntersRecalc-image.image (ReadsTags-image content refl) position (ap blocks_of (sym (format_on-is format image opens)))
      (OnlyAdds-none _ (newest_only content))).3
