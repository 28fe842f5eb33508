-- From what is left of an image that was recovered and emptied to the device in direct mode that is open.
use Rattle.std.proofs.Common.{◌≡◌, ℕ, ◌*◌, ◌<◌, true, false, refl, sym, ◌∙◌, ap, subst, Option, Some, List}
use Rattle.std.proofs.lemmas.Option.{none-some, same_Some}
use Rattle.disk_model.specs.Disk.{Content, EachImage, HasNothingPending, Image, last_image}
use Rattle.disk_model.specs.Identity.{DiskIdentity}
use Rattle.disk_model.specs.Moments.{HasNow, content_now}
use Rattle.image_model.specs.declared.flags.TheConstants.{DIRTY_BITMAP}
use Rattle.image_model.specs.Bitmap.{is_to_recalculate}
use Rattle.image_model.specs.Geometry.{region_of}
use Rattle.image_model.specs.Superblock.{has_flag}
use Rattle.device_model.specs.Mode.{Direct}
use Rattle.device_model.specs.Progress.{DeviceState}
use Rattle.place_model.specs.Format.{DiskFormat, HasCells, cells_on, format_on}
use Rattle.place_model.specs.Kind.{CanOpenIn, kind_in}
use Rattle.place_model.specs.Left.{IsLeftInDirect}
use Rattle.place_model.specs.Opened.{awaiting_on, base_on, blocks_of, device_format, next_on, opened_on, set_bits_on}
use Rattle.place_model.proofs.KindLemmas.{direct_kind_law, opened_format-same, opened_in-same}
use Rattle.direct_model.specs.DirectDisk as InDirect
use Rattle.direct_model.specs.DirectDisk.{DirectDisk}
use Rattle.direct_model.proofs.DirectLemmas.{placed_standing_law}
use Rattle.direct_laws.specs.Device.{IsDirectDevice}
use Rattle.direct_laws.specs.ReadLaws as DirectReads
use Rattle.direct_laws.proofs.DeviceLemmas.{beginning_law}
use Rattle.direct_laws.proofs.MomentLemmas.{left_now_law}
use Rattle.journal_model.specs.Opening.{opened_disk}
use Rattle.journal_model.proofs.OpeningLemmas.{opened_cells_law}
use Rattle.recalculate_laws.specs.Formats.{IsFormatOf}
use Rattle.recalculate_laws.proofs.FormatsLemmas.{own_format_law, work_opened_law}
use Rattle.recalculation.specs.declared.recalculating.Recalculation.{Recalculation}
use Rattle.tag_store.specs.Store.{given_tags}
use Rattle.replay.specs.declared.recovered.Recovered.{Recovered}
use Rattle.place_model.specs.EmptyJournal.{HasEmptyJournal, IsEmptyJournal}
use Rattle.replay.specs.Recovery.{LeavesRecovered}
use Rattle.request_slots.specs.Flight.{Flight, no_requests}
use Rattle.device_parts.specs.declared.condition.Condition.TheVariants.{Working}
use Rattle.device_parts.specs.declared.parts.Parts.{Parts}
use Rattle.device_parts.specs.Device.{CanOpenRead, HasOpened, Standing, rule_on}
use Rattle.direct_device.specs.declared.parts.DirectParts.{DirectParts}
use Rattle.direct_device.specs.Device.{IsDirect, IsOverDisk as IsDevice, in_direct, kept}
use Rattle.device_opening.specs.declared.judging.JudgedImage.{JudgedImage}
use Rattle.device_opening.specs.Judged.{HasJudged, judged_format}
use Rattle.device_opening.specs.DirectOpening.{HasOpenOn, IsOpenOn, LeavesEmpty, opened_standing}
use Rattle.device_opening.specs.Opening.{IsLeftOpening, IsRecalculationFor, IsUnasked, LeavesImage}
use Rattle.place_model.specs.RecoveryWrites.{IsOfOpening}
use Rattle.device_opening.proofs.EmptiedLemmas.{empty_same}
use Rattle.device_opening.proofs.EmptyingLemmas.{left_empty}
use Rattle.device_opening.proofs.JudgedLemmas.{format_now, left_by, opens_now, own_format, reads_now}
use Rattle.device_opening.proofs.MomentsLemmas.{settled_by}
use Rattle.device_opening.proofs.OpenedRegions.{direct_regions, region_opened, work_awaits}
use Rattle.device_opening.proofs.SettledLemmas.{settled_keeps, without_writes}
use Rattle.device_opening.proofs.StandingLemmas.{same_blocks, standing_same}

-- ---- what is open

module _ (f : DiskFormat) (image : Image) (at : Recovered) (parts : Parts) (after : List Content) (c : Content) (told : content_now after ≡ Some c)
    (clear : has_flag DIRTY_BITMAP f.superblock.flags ≡ false) (own : format_on f.key f.sectors image ≡ f)
    (geometry : parts.tags.geometry ≡ f.geometry) (slots : parts.slots ≡ no_requests f.geometry.blocks (512 * f.geometry.shape.spb)) (maker : parts.maker ≡ rule_on f)
    (left : LeavesRecovered (opened_disk f image) at (given_tags parts.tags c) c) (unused : at.used ≡ false)
    (recalculation : Recalculation) (begins : IsRecalculationFor f.superblock f.geometry recalculation) where
  -- The disk has the cells of the image, without a write.
  abbrev disk : DirectDisk
  disk = without_writes f left.recovered.now.journal left.recovered.now.base

  keeps : DirectReads.KeepsCells disk (awaiting_on Direct f image) (given_tags parts.tags c) c
  keeps =
      let is = left.recovered in
      subst (λ (x : DiskFormat). DirectReads.KeepsCells (without_writes x is.now.journal is.now.base) (awaiting_on Direct f image) (given_tags parts.tags c) c) is.same_format
      (settled_keeps is.now is.settled (λ b low. is.again b (subst (λ (x : DiskFormat). b < x.geometry.blocks) is.same_format low)) (awaiting_on Direct f image) (given_tags parts.tags c) c
      (subst (λ (x : DiskFormat). (b : ℕ) → b < x.geometry.blocks → is_to_recalculate x.superblock x.geometry b ≡ true → awaiting_on Direct f image (region_of x.geometry b) ≡ true)
      (sym is.same_format) (region_opened f image clear)) is.keeps)

  now_is : (x : Content) → content_now after ≡ Some x → c ≡ x
  now_is x at_x = same_Some c x (sym told ∙ at_x)

  device : IsDirectDevice (device_format Direct f) (opened_on Direct f image) disk
  device =
      beginning_law (device_format Direct f) disk (base_on Direct f image) (next_on Direct f image) (set_bits_on Direct f image) (awaiting_on Direct f image) refl refl refl
      (λ b low. left.recovered.cells b low ∙ opened_cells_law f image clear b)
      (λ region waits. work_awaits disk region ((work_opened_law f image clear).1 region waits))

  is_device : IsDevice (opened_standing f image disk) Working parts recalculation after
  is_device = record {
    device = device;
    opened = ap blocks_of (sym own);
    flight = record {
      blocks = ap (λ (x : Flight). x.blocks) slots;
      block_size = ap (λ (x : Flight). x.block_size) slots;
      most = refl;
      submitted = ap (λ (x : Flight). x.submitted) slots;
      slots = ap (λ (x : Flight). x.slots) slots;
      each = λ k r there. absurd (none-some r there);
    };
    rule = maker;
    condition_ = refl;
    told = c;
    is_told = told;
    works = λ _. record {
      cells = record {
        geometry = sym geometry;
        now = λ x at_x. subst (λ (y : Content). DirectReads.KeepsCells disk (awaiting_on Direct f image) (given_tags parts.tags y) y) (now_is x at_x) keeps;
      };
      recalculation_ = direct_regions f image clear recalculation begins;
    };
    left = left_now_law (device_format Direct f) (opened_on Direct f image) disk image after device (ap blocks_of (sym own))
        (λ x at_x. subst (InDirect.StandsFor disk) (now_is x at_x) keeps.stands);
  }

  -- Each image of it has an empty journal.
  each_empty : EachImage (HasEmptyJournal f) c
  each_empty one is_image =
      let cut = placed_standing_law disk c keeps.stands one is_image in
      let empty = subst (λ (x : DiskFormat). IsEmptyJournal x.geometry left.recovered.now.journal) left.recovered.same_format (left_empty (opened_disk f image) at (given_tags parts.tags c) c left unused) in
      record {
        reads = cut.reads;
        empty = empty_same f.geometry f.sectors one left.recovered.now.journal keeps.stands.formed.is_geometry cut.journal empty;
      }

  pub open_on : IsOpenOn f image (kept parts recalculation) after
  open_on = record {
    disk = disk;
    format = refl;
    device = is_device;
    emptied = λ x at_x. subst (EachImage (HasEmptyJournal f)) (now_is x at_x) each_empty;
    settled = λ x at_x. subst HasNothingPending (now_is x at_x) left.pending;
  }

-- ---- what a cut leaves

module _ (f : DiskFormat) (image left : Image) (clear : has_flag DIRTY_BITMAP f.superblock.flags ≡ false) (has : HasCells f (cells_on f image) left) where
  -- An image with the cells at opening can be opened,
  pub cells_open : CanOpenIn Direct f.key f.sectors left
  cells_open = has.opens.openable

  cells_left : IsLeftInDirect f (opened_on Direct f image).history left
  cells_left = record { opens = has.opens; left = record { flushed = λ b low kept. has.each b low } }

  -- and may be left of the device before its first request.
  pub cells_may_be_left : format_on f.key f.sectors image ≡ f → (kind_in Direct f.key f.sectors).MayBeLeft image ((kind_in Direct f.key f.sectors).opened image).history left
  cells_may_be_left own =
      subst (λ (s : DeviceState). (kind_in Direct f.key f.sectors).MayBeLeft image s.history left)
      (sym (opened_in-same Direct (format_on f.key f.sectors image) (ap (λ (x : DiskFormat). has_flag DIRTY_BITMAP x.superblock.flags) own ∙ clear) image))
      (subst (λ (x : DiskFormat). (kind_in Direct f.key f.sectors).MayBeLeft image (opened_on Direct x image).history left) (sym own)
      (direct_kind_law f image (opened_on Direct f image).history left own cells_left))

-- ---- behind the judging

module _ (key : Option (List ℕ)) (disk : DiskIdentity) (image : JudgedImage) (a : List Content) (judged : HasJudged disk.sectors image a) (same : image.maker.key ≡ key) where
  can_read : CanOpenRead Direct key disk.sectors a
  can_read c told = (opens_now key disk image a judged same c told).openable

  clear_now : HasNow (λ c. has_flag DIRTY_BITMAP (format_on key disk.sectors (last_image c)).superblock.flags ≡ false) a
  clear_now c told = ap (λ (d : DiskFormat). has_flag DIRTY_BITMAP d.superblock.flags) (reads_now key disk image a judged same c told).own ∙ judged.format.no_bitmap

  own_open : {b : List Content} (device : DirectParts) → HasOpenOn (judged_format disk.sectors image) device a b
      → HasNow (λ start. IsOpenOn (format_on key disk.sectors (last_image start)) (last_image start) device b) a
  own_open {b} device opened start at = subst (λ (f : DiskFormat). IsOpenOn f (last_image start) device b) (format_now key disk image a judged same start at) (opened start at)

  -- What was judged is open,
  pub has_opened : {b : List Content} (device : DirectParts) → HasOpenOn (judged_format disk.sectors image) device a b → IsUnasked device.parts device.recalculation disk b
      → HasOpened in_direct Direct key disk device a b
  has_opened {b} device opened is = record {
    device = λ start told made told_made.
        let on = own_open device opened start told in
        let f = format_on key disk.sectors (last_image start) in
        subst (λ (w : Standing). IsDirect w Working device b) (sym (standing_same Direct key disk.sectors (last_image start) (last_image made) (clear_now start told))) (record {
          disk = on.disk;
          format = subst (IsFormatOf f) (sym on.format) (own_format_law f (clear_now start told));
          over = on.device;
        });
    ready = record { parts_ = is.ready; geometry = is.regions_ };
    blocks = λ start told made told_made. same_blocks Direct key disk.sectors (last_image start) (last_image made) (clear_now start told);
    asked_ = refl;
    requests = is.requests;
    can = can_read;
  }

  -- over an empty journal,
  pub leaves_empty : {b : List Content} (device : DirectParts) → HasOpenOn (judged_format disk.sectors image) device a b → LeavesImage (own_format key disk image a judged same) a b
      → LeavesEmpty key disk.sectors a b
  leaves_empty {b} device opened leaves = record {
    emptied = λ start told.
        let f = format_on key disk.sectors (last_image start) in
        subst (λ (x : DiskFormat). HasNow (EachImage (HasEmptyJournal x)) b) (sym (opened_format-same Direct f (clear_now start told))) (own_open device opened start told).emptied;
    settled = settled_by a (IsOfOpening image.format.geometry) HasNothingPending leaves.writes (λ start told. (opened start told).settled);
  }

  -- each image that is left may be left of it,
  pub opening_left : {b : List Content} → LeavesImage (own_format key disk image a judged same) a b → IsLeftOpening Direct key disk.sectors a b
  opening_left leaves =
      left_by key disk image a judged same Direct
      (λ entry left has. cells_open (own_format key disk image a judged same) entry left judged.format.no_bitmap has)
      (λ entry left has own. cells_may_be_left (own_format key disk image a judged same) entry left judged.format.no_bitmap has own) leaves
