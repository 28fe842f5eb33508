-- From what a recovery leaves to the device in journal mode that is open, and from its cells to what a cut may leave of that.
use Rattle.std.proofs.Common.{◌≡◌, ℕ, ◌*◌, false, refl, sym, ◌∙◌, ap, subst, arith, Option, Some, List}
use Rattle.std.proofs.lemmas.Option.{none-some, same_Some}
use Rattle.disk_model.specs.Disk.{Content, EachImage, Image, last_image}
use Rattle.disk_model.specs.Identity.{DiskIdentity}
use Rattle.disk_model.specs.Moments.{EachMoment, HasNow, content_now}
use Rattle.image_model.specs.declared.flags.TheConstants.{DIRTY_BITMAP}
use Rattle.image_model.specs.Geometry.{Geometry}
use Rattle.image_model.specs.Superblock.{has_flag}
use Rattle.device_model.specs.Mode.{Journal}
use Rattle.device_model.specs.Progress.{DeviceState}
use Rattle.device_model.proofs.ReachedLemmas.{IsReached-opened}
use Rattle.place_model.specs.Format.{DiskFormat, HasCells, cells_on, format_on}
use Rattle.place_model.specs.Kind.{CanOpenIn, kind_in}
use Rattle.place_model.specs.Left.{IsLeftInJournal}
use Rattle.place_model.specs.Opened.{awaiting_on, blocks_of, device_format, next_on, opened_on}
use Rattle.place_model.proofs.KindLemmas.{journal_kind_law, opened_in-same}
use Rattle.direct_laws.specs.MomentLaws.{IsLeftNow}
use Rattle.journal_model.specs.Opening.{opened_disk}
use Rattle.journal_model.specs.Recovery.{IsRecovered}
use Rattle.recalculate_laws.specs.Formats.{AwaitsWork, IsFormatOf}
use Rattle.recalculate_laws.specs.Recalculating.{KeepsAwaiting}
use Rattle.recalculate_laws.proofs.DeviceLemmas.{opened_awaits}
use Rattle.recalculate_laws.proofs.FormatsLemmas.{own_format_law, work_opened_law}
use Rattle.recalculation.specs.Position.{CanBeWritten}
use Rattle.recalculation.specs.Recalculation.{IsRecalculationOf}
use Rattle.journal_mode.specs.Journal.{PlacedRing, empty_journal}
use Rattle.journal_mode.specs.Opening.{opened_standing}
use Rattle.journal_mode.specs.Standing.{StandsAs}
use Rattle.journal_mode.proofs.OpeningLemmas.{recovered_stands_law}
use Rattle.tag_store.specs.Store.{given_tags}
use Rattle.replay.specs.declared.recovered.Recovered.{Recovered}
use Rattle.replay.specs.Recovery.{LeavesRecovered}
use Rattle.request_slots.specs.Flight.{Flight, no_requests}
use Rattle.device_parts.specs.declared.condition.Condition.TheVariants.{Working}
use Rattle.device_parts.specs.Device.{CanOpenRead, HasOpened, Standing, rule_on}
use Rattle.journal_device.specs.declared.parts.JournalParts.{JournalParts}
use Rattle.journal_device.specs.Device.{IsJournaled, IsOverDisk, IsWorking, in_journal, kind_on, standing_on}
use Rattle.journal_device.proofs.DoneLemmas.{told_then}
use Rattle.journal_device.proofs.KindLemmas.{left_now, standing_now}
use Rattle.device_opening.specs.declared.judging.JudgedImage.{JudgedImage}
use Rattle.device_opening.specs.Judged.{HasJudged, judged_format}
use Rattle.device_opening.specs.JournalOpening.{HasEmptyRing, HasOpenOn, IsOpenOn}
use Rattle.device_opening.specs.Opening.{IsLeftOpening, IsRecalculationFor, IsUnasked, LeavesImage}
use Rattle.device_opening.proofs.JudgedLemmas.{format_now, left_by, opens_now, own_format, reads_now}
use Rattle.device_opening.proofs.OpenedRegions.{journal_regions}
use Rattle.device_opening.proofs.StandingLemmas.{same_blocks, standing_at, standing_same}

-- ---- what is open

-- What a recovery leaves is open, with a journal that goes on where that told, as the image's walk says.
module _ (f : DiskFormat) (image : Image) (at : Recovered) (device : JournalParts) (after : List Content) (c : Content) (told : content_now after ≡ Some c)
    (clear : has_flag DIRTY_BITMAP f.superblock.flags ≡ false) (geometry : f.geometry ≡ device.parts.tags.geometry) (next : at.next ≡ next_on Journal f image)
    (left : LeavesRecovered (opened_disk f image) at (given_tags device.parts.tags c) c) (journal : device.state.journal ≡ empty_journal f.geometry at.next at.number)
    (maker : device.parts.maker ≡ rule_on f) (begins : IsRecalculationFor f.superblock f.geometry device.state.recalculation) where
  is_recovered : IsRecovered (opened_disk f image) (next_on Journal f image) at.number (given_tags device.parts.tags c) c
  is_recovered = subst (λ (n : ℕ). IsRecovered (opened_disk f image) n at.number (given_tags device.parts.tags c) c) next left.recovered

  stands : StandsAs (opened_standing f image is_recovered.now) device.state.journal device.parts.tags after
  stands =
      let same : device.state.journal ≡ empty_journal f.geometry (next_on Journal f image) at.number = journal ∙ ap (λ (n : ℕ). empty_journal f.geometry n at.number) next in
      subst (λ (j : PlacedRing). StandsAs (opened_standing f image is_recovered.now) j device.parts.tags after) (sym same)
      (recovered_stands_law f image at.number device.parts.tags after c clear geometry told is_recovered)

  keeps : KeepsAwaiting is_recovered.now (awaiting_on Journal f image) (given_tags device.parts.tags c) c
  keeps =
      let is = is_recovered in
      subst (λ (x : DiskFormat). KeepsAwaiting is.now (awaiting_on Journal x image) (given_tags device.parts.tags c) c) is.same_format
      (opened_awaits is.now image (given_tags device.parts.tags c) c (subst (λ (x : DiskFormat). has_flag DIRTY_BITMAP x.superblock.flags ≡ false) (sym is.same_format) clear) is.keeps)

  works : IsWorking (opened_standing f image is_recovered.now) (awaiting_on Journal f image) device.state.journal device.state.recalculation device.parts.tags after
  works =
      let same = sym is_recovered.same_format in
      record {
        stands = stands;
        keeps = λ x at_x. subst (λ (y : Content). KeepsAwaiting is_recovered.now (awaiting_on Journal f image) (given_tags device.parts.tags y) y) (same_Some c x (sym told ∙ at_x)) keeps;
        work = subst (λ (x : DiskFormat). AwaitsWork x (awaiting_on Journal f image)) same (work_opened_law f image clear).0;
        recalc_ = subst (λ (x : DiskFormat). IsRecalculationOf x.superblock x.geometry (awaiting_on Journal f image) device.state.recalculation) same (journal_regions f image clear device.state.recalculation begins);
        written = subst (λ (x : DiskFormat). CanBeWritten x.superblock) same begins.written;
      }

  pub open_on : IsOpenOn f image device after
  open_on = record {
    disk = is_recovered.now;
    format = is_recovered.same_format;
    works = works;
    geometry = geometry;
    rule = maker;
  }

module _ (key : Option (List ℕ)) (disk : DiskIdentity) (device : JournalParts) (a b : List Content) (can : CanOpenRead Journal key disk.sectors a)
    (clear : HasNow (λ c. has_flag DIRTY_BITMAP (format_on key disk.sectors (last_image c)).superblock.flags ≡ false) a) (is : IsUnasked device.parts device.state.recalculation disk b) where
  -- It is the device of the image,
  over_disk : {P : Content → Type 0} → EachMoment a b P → (start : Content) → content_now a ≡ Some start
      → (on : IsOpenOn (format_on key disk.sectors (last_image start)) (last_image start) device b)
      → let f = format_on key disk.sectors (last_image start) in
      IsOverDisk (standing_on (standing_at Journal f (opened_on Journal f (last_image start)) (last_image start)) on.disk) Working device.parts device.state.journal device.state.recalculation b
  over_disk moments start told on =
      let image = last_image start in
      let f = format_on key disk.sectors image in
      let none : has_flag DIRTY_BITMAP f.superblock.flags ≡ false = clear start told in
      let now = told_then a b start told moments in
      let slots : device.parts.slots ≡ no_requests f.geometry.blocks (512 * f.geometry.shape.spb) = is.requests ∙ ap (λ (g : Geometry). no_requests g.blocks (512 * g.shape.spb)) (sym on.geometry) in
      record {
        reached = IsReached-opened (device_format Journal f) _ _ _ _;
        format = ap (device_format Journal) (sym on.format);
        no_bitmap = subst (λ (x : DiskFormat). has_flag DIRTY_BITMAP x.superblock.flags ≡ false) (sym on.format) none;
        opened = subst (λ (x : DiskFormat). blocks_of x ≡ blocks_of (format_on x.key x.sectors image)) (sym on.format) refl;
        flight = record {
          blocks = ap (λ (x : Flight). x.blocks) slots;
          block_size = ap (λ (x : Flight). x.block_size) slots;
          most = refl;
          submitted = ap (λ (x : Flight). x.submitted) slots;
          slots = ap (λ (x : Flight). x.slots) slots;
          each = λ k r there. absurd (none-some r there);
        };
        rule = on.rule ∙ ap rule_on (sym on.format);
        condition_ = refl;
        told = now.content;
        is_told = now.is;
        works = λ _. on.works;
        left = subst (λ (x : DiskFormat). IsLeftNow (kind_on x) image (opened_on Journal f image).history b) (sym on.format)
            (left_now f image refl none (opened_on Journal f image).history b
            (subst (λ (x : DiskFormat). HasNow (EachImage (IsLeftInJournal x (opened_on Journal f image).history)) b) on.format
            (standing_now (opened_standing f image on.disk) device.state.journal device.parts.tags b on.works.stands)));
      }

  -- and it was opened.
  opened_by : {P : Content → Type 0} → EachMoment a b P → HasEmptyRing device
      → HasNow (λ start. IsOpenOn (format_on key disk.sectors (last_image start)) (last_image start) device b) a → HasOpened in_journal Journal key disk device a b
  opened_by moments empty opened = record {
    device = λ start told made told_made.
        let on = opened start told in
        let f = format_on key disk.sectors (last_image start) in
        subst (λ (w : Standing). IsJournaled w Working device b) (sym (standing_same Journal key disk.sectors (last_image start) (last_image made) (clear start told))) (record {
          disk = on.disk;
          format = subst (IsFormatOf f) (sym on.format) (own_format_law f (clear start told));
          over = over_disk moments start told on;
        });
    ready = record { parts_ = λ _. is.ready; geometry = ap (λ (j : PlacedRing). j.ring.geometry) empty; regions_ = is.regions_ };
    blocks = λ start told made told_made. same_blocks Journal key disk.sectors (last_image start) (last_image made) (clear start told);
    asked_ = refl;
    requests = is.requests;
    can = can;
  }

-- ---- what a cut leaves

module _ (f : DiskFormat) (image left : Image) (clear : has_flag DIRTY_BITMAP f.superblock.flags ≡ false) (has : HasCells f (cells_on f image) left) where
  -- An image with the cells at opening can be opened,
  pub cells_open : CanOpenIn Journal f.key f.sectors left
  cells_open = has.opens.openable

  cells_left : IsLeftInJournal f (opened_on Journal f image).history left
  cells_left = record {
    opens = has.opens;
    left = record {
      kept = 0;
      has_flushed = omega arith;
      has_no_more = omega arith;
      each = λ b low. has.each b low;
    };
  }

  -- and may be left of the device before its first request.
  pub cells_may_be_left : format_on f.key f.sectors image ≡ f → (kind_in Journal f.key f.sectors).MayBeLeft image ((kind_in Journal f.key f.sectors).opened image).history left
  cells_may_be_left own =
      subst (λ (s : DeviceState). (kind_in Journal f.key f.sectors).MayBeLeft image s.history left)
      (sym (opened_in-same Journal (format_on f.key f.sectors image) (ap (λ (x : DiskFormat). has_flag DIRTY_BITMAP x.superblock.flags) own ∙ clear) image))
      (subst (λ (x : DiskFormat). (kind_in Journal f.key f.sectors).MayBeLeft image (opened_on Journal x image).history left) (sym own)
      (journal_kind_law f image (opened_on Journal f image).history left own cells_left))

-- ---- behind the judging

module _ (key : Option (List ℕ)) (disk : DiskIdentity) (image : JudgedImage) (a : List Content) (judged : HasJudged disk.sectors image a) (same : image.maker.key ≡ key) where
  can_read : CanOpenRead Journal key disk.sectors a
  can_read c told = (opens_now key disk image a judged same c told).openable

  clear_now : HasNow (λ c. has_flag DIRTY_BITMAP (format_on key disk.sectors (last_image c)).superblock.flags ≡ false) a
  clear_now c told = ap (λ (d : DiskFormat). has_flag DIRTY_BITMAP d.superblock.flags) (reads_now key disk image a judged same c told).own ∙ judged.format.no_bitmap

  -- What was judged is open,
  pub has_opened : {b : List Content} {P : Content → Type 0} (device : JournalParts) → EachMoment a b P → HasOpenOn (judged_format disk.sectors image) device a b → IsUnasked device.parts device.state.recalculation disk b
      → HasEmptyRing device → HasOpened in_journal Journal key disk device a b
  has_opened {b} device moments opened is empty =
      opened_by key disk device a b can_read clear_now is moments empty
      (λ start at. subst (λ (f : DiskFormat). IsOpenOn f (last_image start) device b) (format_now key disk image a judged same start at) (opened start at))

  -- each image that is left may be left of it,
  pub opening_left : {b : List Content} → LeavesImage (own_format key disk image a judged same) a b → IsLeftOpening Journal key disk.sectors a b
  opening_left leaves =
      left_by key disk image a judged same Journal
      (λ entry left has. cells_open (own_format key disk image a judged same) entry left judged.format.no_bitmap has)
      (λ entry left has own. cells_may_be_left (own_format key disk image a judged same) entry left judged.format.no_bitmap has own) leaves
