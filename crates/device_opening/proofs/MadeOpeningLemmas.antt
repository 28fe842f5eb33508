-- An opening that makes a journal of a bitmap, from the image that was judged to the device that is open.
use Rattle.std.proofs.Common.{◌≡◌, ℕ, ◌*◌, false, true, refl, sym, ◌∙◌, ap, subst, Option, Some, List}
use Rattle.disk_model.specs.Disk.{Content, EachImage, HasNothingPending, last_image}
use Rattle.disk_model.specs.Identity.{DiskIdentity}
use Rattle.disk_model.specs.Moments.{EachSince, content_now}
use Rattle.image_model.specs.declared.flags.TheConstants.{DIRTY_BITMAP}
use Rattle.image_model.specs.Cells.{block_tag, salt_of}
use Rattle.image_model.specs.Geometry.{Geometry}
use Rattle.image_model.specs.Superblock.{has_flag}
use Rattle.image_model.specs.SuperblockLaws.{FitsBytes}
use Rattle.change_model.specs.Fields.{journal_fields}
use Rattle.device_model.specs.Mode.{Direct, Journal}
use Rattle.device_model.specs.Transcript.{BlockFormat}
use Rattle.place_model.specs.Changed.{changed_device, opened_format}
use Rattle.place_model.specs.Changed as Changed
use Rattle.place_model.specs.Format.{DiskFormat, format_on}
use Rattle.place_model.specs.Opened.{blocks_of}
use Rattle.place_model.proofs.FormatLemmas.{format_on-is}
use Rattle.place_model.proofs.KindLemmas.{opened_format-changed}
use Rattle.hmac_tag.specs.TagMaker.{TagRule}
use Rattle.mode_change.specs.ToJournal.{journal_format}
use Rattle.mode_change.proofs.FormatLemmas.{direct_format, unmarked_format}
use Rattle.place_model.specs.EmptyJournal.{HasEmptyJournal}
use Rattle.journal_mode.specs.Journal.{PlacedRing, empty_journal}
use Rattle.request_slots.specs.Flight.{Flight, no_requests}
use Rattle.device_parts.specs.declared.condition.Condition.TheVariants.{Working}
use Rattle.device_parts.specs.declared.parts.Parts.{Parts}
use Rattle.device_parts.specs.Device as Devices
use Rattle.device_parts.specs.Device.{CanOpenRead, HasOpened, IsOfSameBlocks, Standing, rule_on}
use Rattle.direct_device.specs.Device.{IsDirect, in_direct, kept}
use Rattle.journal_device.specs.declared.parts.JournalParts.{JournalParts}
use Rattle.journal_device.specs.Device.{IsJournaled, in_journal}
use Rattle.device_opening.specs.declared.bitmap_judging.JudgedBitmap.{JudgedBitmap}
use Rattle.device_opening.specs.declared.recovering.RecoveredImage.{RecoveredImage}
use Rattle.device_opening.specs.declared.room.RecoveryRoom.{RecoveryRoom}
use Rattle.device_opening.specs.BitmapOpening.{HasJudgedBitmap}
use Rattle.device_opening.specs.DirectOpening.{LeavesEmpty}
use Rattle.device_opening.specs.JournalMaking.{HasMadeJournal, IsMadeOf, bitmap_judged}
use Rattle.change_model.specs.OpeningWrites.{IsOfMadeJournal}
use Rattle.device_opening.specs.Opening.{IsRecoveryRoomFor}
use Rattle.device_opening.proofs.JudgedLemmas.{parts_of}
use Rattle.device_opening.proofs.MadeJournalLemmas.{direct_made, journaled_made, made_empty}
use Rattle.device_opening.proofs.MomentsLemmas.{settled_by}
use Rattle.device_opening.proofs.StandingLemmas.{changed_blocks, standing_at, standing_changed}

module _ (disk : DiskIdentity) (image : JudgedBitmap) (a b : List Content) (judged : HasJudgedBitmap disk.sectors image a) (recovered : RecoveredImage)
    (made : HasMadeJournal (bitmap_judged disk.sectors image) a b recovered) (is : IsMadeOf image recovered disk b)
    (room : RecoveryRoom) (has : IsRecoveryRoomFor (journal_format image.format) room) (spb : ℕ) (spb_is : spb ≡ image.format.geometry.shape.spb) (fits : FitsBytes image.format.fields) where
  abbrev key : Option (List ℕ)
  key = image.maker.key

  abbrev before : DiskFormat
  before = bitmap_judged disk.sectors image

  -- ---- the image

  own : (c : Content) → content_now a ≡ Some c → format_on key disk.sectors (last_image c) ≡ before
  own c told = (judged.now c told).read.own

  set_now : (c : Content) → content_now a ≡ Some c → has_flag DIRTY_BITMAP (format_on key disk.sectors (last_image c)).superblock.flags ≡ true
  set_now c told = ap (λ (x : DiskFormat). has_flag DIRTY_BITMAP x.superblock.flags) (own c told) ∙ judged.format.bitmap

  clear_after : has_flag DIRTY_BITMAP (journal_format image.format).fields.flags ≡ false
  clear_after = (direct_format disk.sectors image.format fits judged.format).no_bitmap

  same_salt : salt_of (journal_fields image.format.fields) ≡ salt_of image.format.fields
  same_salt = (unmarked_format disk.sectors image.format fits judged.format).replaces.salt

  same_blocks : blocks_of (Changed.journal_format before) ≡ blocks_of before
  same_blocks =
      ap (λ (x : Option (List ℕ)). let s : BlockFormat = record { blocks = image.format.geometry.blocks; block_size = 512 * image.format.geometry.shape.spb; tag = λ n bytes. block_tag key x image.format.geometry (n * image.format.geometry.shape.spb) bytes } in s) same_salt

  start_is : recovered.at.next ≡ 0
  start_is = ap (λ at. at.next) is.at

  -- ---- what is kept

  abbrev parts : Parts
  parts = parts_of recovered room.device spb

  slots_are : room.device.slots ≡ no_requests image.format.geometry.blocks (512 * image.format.geometry.shape.spb)
  slots_are = has.device.slots

  maker_is : recovered.maker ≡ rule_on (Changed.journal_format before)
  maker_is = is.maker ∙ judged.maker ∙ ap (λ (x : Option (List ℕ)). let r : TagRule = record { key = key; salt = x; size = image.format.geometry.shape.tag_size } in r) (sym same_salt)

  ready : Devices.IsReady parts disk b
  ready = record {
    store = is.store;
    blocks = ap (λ (x : Flight). x.blocks) slots_are ∙ ap (λ (x : Geometry). x.blocks) (sym is.geometry);
    block_size = ap (λ (x : Flight). x.block_size) slots_are ∙ ap (λ (x : Geometry). 512 * x.shape.spb) (sym is.geometry);
    spb = spb_is ∙ ap (λ (x : Geometry). x.shape.spb) (sym is.geometry);
    tag_size = ap (λ (r : TagRule). r.size) (is.maker ∙ judged.maker) ∙ ap (λ (x : Geometry). x.shape.tag_size) (sym is.geometry);
    buffer = has.device.buffer ∙ sym (ap (λ (x : Flight). x.block_size) slots_are);
  }

  regions_are : room.recalculation.awaiting.geometry ≡ parts.tags.geometry
  regions_are = has.recalculation_.awaiting.geometry ∙ sym is.geometry

  requests_are : parts.slots ≡ no_requests parts.tags.geometry.blocks (512 * parts.tags.geometry.shape.spb)
  requests_are = slots_are ∙ ap (λ (x : Geometry). no_requests x.blocks (512 * x.shape.spb)) (sym is.geometry)

  can : CanOpenRead Journal key disk.sectors a
  can c told = (judged.now c told).opens

  made_format : (start last : Content) → content_now a ≡ Some start → content_now b ≡ Some last → format_on key disk.sectors (last_image last) ≡ Changed.journal_format before
  made_format start last told told_last = format_on-is (Changed.journal_format before) (last_image last) (made start told last told_last).cells.opens

  made_blocks : (start last : Content) → content_now a ≡ Some start → content_now b ≡ Some last → blocks_of (format_on key disk.sectors (last_image last)) ≡ blocks_of (format_on key disk.sectors (last_image start))
  made_blocks start last told told_last = ap blocks_of (made_format start last told told_last) ∙ same_blocks ∙ ap blocks_of (sym (own start told))

  own_format : (start last : Content) → content_now a ≡ Some start → content_now b ≡ Some last → format_on key disk.sectors (last_image last) ≡ Changed.journal_format (format_on key disk.sectors (last_image start))
  own_format start last told told_last = made_format start last told told_last ∙ ap Changed.journal_format (sym (own start told))

  -- ---- journal mode

  module _ (journal : PlacedRing) (journal_is : journal ≡ empty_journal image.format.geometry recovered.at.next recovered.at.number) where
    abbrev device : JournalParts
    device = record { parts = parts; state = record { journal = journal; recalculation = room.recalculation } }

    pub journal_opened : HasOpened in_journal Journal image.maker.key disk (record { parts = parts_of recovered room.device spb; state = record { journal = journal; recalculation = room.recalculation } }) a b
    journal_opened = record {
      device = λ start told last told_last.
          let entry = last_image start in
          subst (λ (w : Standing). IsJournaled w Working device b)
          (ap (λ (x : DiskFormat). standing_at Journal (Changed.journal_format x) (changed_device x entry) (last_image last)) (sym (own start told))
          ∙ sym (standing_changed Journal key disk.sectors entry (last_image last) (set_now start told)))
          (journaled_made before entry recovered b last told_last clear_after (made start told last told_last) start_is room.recalculation has.recalculation_ parts refl is.geometry slots_are maker_is
          device refl refl journal_is);
      blocks = λ start told last told_last. changed_blocks Journal key disk.sectors (last_image start) (last_image last) (set_now start told) (made_blocks start last told told_last) (own_format start last told told_last);
      ready = record { parts_ = λ _. ready; geometry = ap (λ (j : PlacedRing). j.ring.geometry) journal_is ∙ sym is.geometry; regions_ = regions_are };
      asked_ = refl;
      requests = requests_are;
      can = can;
    }

    pub journal_empty : journal ≡ empty_journal parts.tags.geometry journal.ring.next journal.ring.number
    journal_empty =
        let there : journal ≡ empty_journal parts.tags.geometry recovered.at.next recovered.at.number = journal_is ∙ ap (λ (x : Geometry). empty_journal x recovered.at.next recovered.at.number) (sym is.geometry) in
        there ∙ ap (λ (n : ℕ). empty_journal parts.tags.geometry n recovered.at.number) (sym (ap (λ (j : PlacedRing). j.ring.next) there))
        ∙ ap (λ (n : ℕ). empty_journal parts.tags.geometry journal.ring.next n) (sym (ap (λ (j : PlacedRing). j.ring.number) there))

  -- ---- direct mode

  pub direct_opened : HasOpened in_direct Direct image.maker.key disk (kept (parts_of recovered room.device spb) room.recalculation) a b
  direct_opened = record {
    device = λ start told last told_last.
        let entry = last_image start in
        subst (λ (w : Standing). IsDirect w Working (kept parts room.recalculation) b)
        (ap (λ (x : DiskFormat). standing_at Direct (Changed.journal_format x) (changed_device x entry) (last_image last)) (sym (own start told))
        ∙ sym (standing_changed Direct key disk.sectors entry (last_image last) (set_now start told)))
        (direct_made before entry recovered b last told_last clear_after (made start told last told_last) start_is room.recalculation has.recalculation_ parts refl is.geometry slots_are maker_is);
    blocks = λ start told last told_last. changed_blocks Direct key disk.sectors (last_image start) (last_image last) (set_now start told) (made_blocks start last told told_last) (own_format start last told told_last);
    ready = record { parts_ = ready; geometry = regions_are };
    asked_ = refl;
    requests = requests_are;
    can = can;
  }

  pub direct_empty : EachSince (IsOfMadeJournal image.format.fields image.format.geometry) a b → LeavesEmpty image.maker.key disk.sectors a b
  direct_empty writes = record {
    emptied = λ start told last told_last.
        let empty = made_empty before (last_image start) recovered b last told_last clear_after (made start told last told_last) start_is room.recalculation has.recalculation_ parts refl is.geometry slots_are maker_is
        (ap (λ at. at.used) is.at) in
        subst (λ (x : DiskFormat). EachImage (HasEmptyJournal x) last)
        (ap Changed.journal_format (sym (own start told)) ∙ sym (opened_format-changed Direct (format_on key disk.sectors (last_image start)) (set_now start told)))
        (empty last told_last);
    settled = settled_by a (IsOfMadeJournal image.format.fields image.format.geometry) HasNothingPending writes
        (λ start told last told_last. (made start told last told_last).left.pending);
  }
