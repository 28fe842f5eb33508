-- The device that is open on a journal that was made of a bitmap, in journal mode and in direct mode.
use Rattle.std.proofs.Common.{◌≡◌, ℕ, ◌*◌, ◌<◌, Bool, true, false, refl, sym, ◌∙◌, ap, subst, arith, Some, List, []}
use Rattle.std.proofs.lemmas.Bool.{true≢false}
use Rattle.std.proofs.lemmas.Option.{none-some, same_Some}
use Rattle.disk_model.specs.Disk.{Content, EachImage, Image, last_image}
use Rattle.disk_model.specs.Moments.{HasNow, content_now}
use Rattle.image_model.specs.declared.flags.TheConstants.{DIRTY_BITMAP}
use Rattle.image_model.specs.Bitmap.{is_to_recalculate}
use Rattle.image_model.specs.Geometry.{region_of}
use Rattle.image_model.specs.Superblock.{has_flag}
use Rattle.device_model.specs.Mode.{Direct, Journal}
use Rattle.device_model.proofs.ReachedLemmas.{IsReached-opened}
use Rattle.place_model.specs.Changed.{changed_device, journal_format}
use Rattle.place_model.specs.Format.{DiskFormat, cells_on, format_on}
use Rattle.place_model.specs.Left.{IsLeftInJournal}
use Rattle.place_model.specs.Opened.{blocks_of, device_format}
use Rattle.place_model.proofs.FormatLemmas.{format_on-is}
use Rattle.image_model.proofs.Regions.{region_of-lt}
use Rattle.direct_model.specs.DirectDisk as InDirect
use Rattle.direct_model.specs.DirectDisk.{DirectDisk}
use Rattle.direct_model.proofs.DirectLemmas.{placed_standing_law}
use Rattle.direct_laws.specs.Device.{IsDirectDevice}
use Rattle.direct_laws.specs.MomentLaws.{IsLeftNow}
use Rattle.direct_laws.specs.ReadLaws as DirectReads
use Rattle.direct_laws.proofs.DeviceLemmas.{beginning_law}
use Rattle.direct_laws.proofs.MomentLemmas.{left_now_law}
use Rattle.journal_laws.specs.Device.{IsJournalOf}
use Rattle.journal_laws.proofs.StepLemmas.{opening_law}
use Rattle.journal_model.specs.JournaledDisk.{JournaledDisk}
use Rattle.journal_model.specs.Opening.{opened_disk}
use Rattle.journal_model.specs.Ring.{JournalRing, empty_ring}
use Rattle.journal_model.specs.Steps.{KeepsCells}
use Rattle.journal_model.proofs.OpeningLemmas.{opened_cells_law}
use Rattle.recalculate_laws.specs.Formats.{IsFormatOf}
use Rattle.recalculate_laws.specs.Recalculating.{KeepsAwaiting}
use Rattle.recalculate_laws.proofs.FormatsLemmas.{own_format_law}
use Rattle.recalculate_laws.proofs.RecalculatingLemmas.{awaiting_begins}
use Rattle.recalculation.specs.declared.recalculating.Recalculation.{Recalculation}
use Rattle.recalculation.specs.Position.{CanBeWritten}
use Rattle.recalculation.specs.Recalculation.{IsRecalculationOf}
use Rattle.recalculation.proofs.KeptLemmas.{recalculation_opened}
use Rattle.recalculation.proofs.LawsLemmas.{opened_position_law}
use Rattle.journal_mode.specs.Journal.{PlacedRing, empty_journal}
use Rattle.journal_mode.specs.Standing.{JournalStanding, StandsAs}
use Rattle.tag_store.specs.Store.{given_tags}
use Rattle.place_model.specs.EmptyJournal.{HasEmptyJournal, IsEmptyJournal}
use Rattle.request_slots.specs.Flight.{Flight, no_requests}
use Rattle.device_parts.specs.declared.condition.Condition.TheVariants.{Working}
use Rattle.device_parts.specs.declared.parts.Parts.{Parts}
use Rattle.device_parts.specs.Device.{rule_on}
use Rattle.direct_device.specs.Device as Directs
use Rattle.journal_device.specs.declared.parts.JournalParts.{JournalParts}
use Rattle.journal_device.specs.Device.{IsJournaled, IsOverDisk, IsWorking, kind_on}
use Rattle.journal_device.proofs.KindLemmas.{left_now, standing_now}
use Rattle.device_opening.specs.declared.recovering.RecoveredImage.{RecoveredImage}
use Rattle.device_opening.specs.JournalMaking.{IsMadeOn}
use Rattle.device_opening.specs.Opening.{IsRecalculationFor}
use Rattle.device_opening.proofs.EmptiedLemmas.{empty_same}
use Rattle.device_opening.proofs.EmptyingLemmas.{left_empty}
use Rattle.device_opening.proofs.OpenedRegions.{region_opened}
use Rattle.device_opening.proofs.SettledLemmas.{settled_keeps, without_writes}
use Rattle.device_opening.proofs.StandingLemmas.{standing_at}

-- No region awaits.
abbrev no_region : ℕ → Bool
no_region region = false

module _ (before : DiskFormat) (entry : Image) (recovered : RecoveredImage) (moments : List Content) (last : Content) (told : content_now moments ≡ Some last)
    (clear : has_flag DIRTY_BITMAP (journal_format before).superblock.flags ≡ false) (is : IsMadeOn before entry recovered last) (start : recovered.at.next ≡ 0)
    (recalculation : Recalculation) (begins : IsRecalculationFor (journal_format before).superblock (journal_format before).geometry recalculation)
    (parts : Parts) (tags : parts.tags ≡ recovered.tags) (geometry : parts.tags.geometry ≡ before.geometry)
    (slots : parts.slots ≡ no_requests before.geometry.blocks (512 * before.geometry.shape.spb)) (maker : parts.maker ≡ rule_on (journal_format before)) where
  abbrev after : DiskFormat
  after = journal_format before

  abbrev made : Image
  made = last_image last

  -- ---- the disk

  abbrev now : JournaledDisk
  now = is.left.recovered.now

  same_format : now.format ≡ after
  same_format = is.left.recovered.same_format

  gives : (x : Content) → given_tags recovered.tags x ≡ given_tags parts.tags x
  gives x = ap (λ s. given_tags s x) (sym tags)

  keeps_cells : KeepsCells now (given_tags parts.tags last) last
  keeps_cells = subst (λ (t : ℕ → List ℕ). KeepsCells now t last) (gives last) is.left.recovered.keeps

  blocks_same : now.geometry.blocks ≡ before.geometry.blocks
  blocks_same = ap (λ (x : DiskFormat). x.geometry.blocks) same_format

  -- Its base are the cells at entry,
  base : (b : ℕ) → b < before.geometry.blocks → now.base b ≡ cells_on before entry b
  base b low = is.left.recovered.cells b low ∙ opened_cells_law after made clear b ∙ is.cells.each b low

  -- and no block of it is to be recalculated.
  none_of : (b : ℕ) → b < before.geometry.blocks → is_to_recalculate after.superblock after.geometry b ≡ true → ⊥
  none_of b low waits = true≢false (sym (region_opened after made clear b low waits) ∙ is.none_awaits (region_of after.geometry b) (region_of-lt after.geometry b low))

  none_now : (b : ℕ) → b < now.geometry.blocks → is_to_recalculate now.superblock now.geometry b ≡ true → no_region (region_of now.geometry b) ≡ true
  none_now b low waits = absurd (none_of b (subst (λ (n : ℕ). b < n) blocks_same low) (subst (λ (x : DiskFormat). is_to_recalculate x.superblock x.geometry b ≡ true) same_format waits))

  regions_are : IsRecalculationOf after.superblock after.geometry no_region recalculation
  regions_are =
      recalculation_opened after.superblock after.geometry no_region recalculation begins.awaiting begins.position
      (λ region low. begins.awaiting.regions_ region low ∙ (opened_position_law after.superblock after.geometry made clear).0 region low ∙ is.none_awaits region low)

  own : format_on after.key after.sectors made ≡ after
  own = format_on-is after made is.cells.opens

  now_is : (x : Content) → content_now moments ≡ Some x → last ≡ x
  now_is x at_x = same_Some last x (sym told ∙ at_x)

  -- ---- journal mode

  module _ (device : JournalParts) (is_parts : device.parts ≡ parts) (is_waits : device.state.recalculation ≡ recalculation) (journal : device.state.journal ≡ empty_journal before.geometry recovered.at.next recovered.at.number) where
    abbrev standing : JournalStanding
    standing = record {
      format = device_format Journal after;
      history = (changed_device before entry).history;
      counts = (changed_device before entry).progress.journal;
      disk = now;
    }

    ring : empty_ring now.geometry now.next now.number ≡ empty_ring before.geometry recovered.at.next recovered.at.number
    ring =
        ap (λ (x : DiskFormat). empty_ring x.geometry now.next now.number) same_format
        ∙ ap (λ (n : ℕ). empty_ring before.geometry n now.number) is.left.recovered.next_is
        ∙ ap (empty_ring before.geometry recovered.at.next) is.left.recovered.number_is

    journal_of : IsJournalOf standing.format standing.history standing.counts now (empty_ring before.geometry recovered.at.next recovered.at.number)
    journal_of =
        let r = is.left.recovered in
        let opened = opening_law (device_format Journal after) now (cells_on before entry) no_region no_region (ap (device_format Journal) (sym same_format)) r.keeps.stands.sound r.rests r.settled
        (λ b low. r.again b (subst (λ (n : ℕ). b < n) blocks_same low)) (λ b low. base b (subst (λ (n : ℕ). b < n) blocks_same low)) in
        subst (λ (x : JournalRing). IsJournalOf standing.format standing.history standing.counts now x) ring
        (subst (λ (n : ℕ). IsJournalOf standing.format standing.history (record { next = n; sections = [] }) now (empty_ring now.geometry now.next now.number)) (r.next_is ∙ start) opened)

    stands : StandsAs standing device.state.journal parts.tags moments
    stands = subst (λ (j : PlacedRing). StandsAs standing j parts.tags moments) (sym journal) (record {
      device = journal_of;
      placed = record {
        ring_ = journal_of.is_ring;
        placed = omega (arith, journal_of.sound.formed.placed_low);
        cells = record {
          sound = journal_of.sound;
          geometry = ap (λ (x : DiskFormat). x.geometry) same_format ∙ sym geometry;
          now = λ x there. subst (λ (y : Content). KeepsCells now (given_tags parts.tags y) y) (now_is x there) keeps_cells;
        };
      };
    })

    works : IsWorking standing no_region device.state.journal recalculation parts.tags moments
    works = record {
      stands = stands;
      keeps = λ x there. subst (λ (y : Content). KeepsAwaiting now no_region (given_tags parts.tags y) y) (now_is x there) (awaiting_begins now no_region (given_tags parts.tags last) last keeps_cells none_now);
      work = λ region e. absurd (true≢false (sym e));
      recalc_ = subst (λ (x : DiskFormat). IsRecalculationOf x.superblock x.geometry no_region recalculation) (sym same_format) regions_are;
      written = subst (λ (x : DiskFormat). CanBeWritten x.superblock) (sym same_format) begins.written;
    }

    -- What is open is the device.
    pub journaled_made : IsJournaled (standing_at Journal (journal_format before) (changed_device before entry) (last_image last)) Working device moments
    journaled_made = record {
      disk = now;
      format = subst (IsFormatOf after) (sym same_format) (own_format_law after clear);
      over = subst (λ (p : Parts). IsOverDisk (record { format = device_format Journal after; state = changed_device before entry; disk = now; entry = made }) Working p device.state.journal device.state.recalculation moments) (sym is_parts)
          (subst (λ (r : Recalculation). IsOverDisk (record { format = device_format Journal after; state = changed_device before entry; disk = now; entry = made }) Working parts device.state.journal r moments) (sym is_waits) (record {
            reached = IsReached-opened (device_format Journal after) _ _ _ _;
            format = ap (device_format Journal) (sym same_format);
            no_bitmap = subst (λ (x : DiskFormat). has_flag DIRTY_BITMAP x.superblock.flags ≡ false) (sym same_format) clear;
            opened = subst (λ (x : DiskFormat). blocks_of x ≡ blocks_of (format_on x.key x.sectors made)) (sym same_format) (ap blocks_of (sym own));
            flight = record {
              blocks = ap (λ (x : Flight). x.blocks) slots;
              block_size = ap (λ (x : Flight). x.block_size) slots;
              most = refl;
              submitted = ap (λ (x : Flight). x.submitted) slots;
              slots = ap (λ (x : Flight). x.slots) slots;
              each = λ k r there. absurd (none-some r there);
            };
            rule = maker ∙ ap rule_on (sym same_format);
            condition_ = refl;
            told = last;
            is_told = told;
            works = λ _. works;
            left = subst (λ (x : DiskFormat). IsLeftNow (kind_on x) made (changed_device before entry).history moments) (sym same_format)
                (left_now after made (ap blocks_of (sym own)) clear (changed_device before entry).history moments
                (subst (λ (x : DiskFormat). HasNow (EachImage (IsLeftInJournal x (changed_device before entry).history)) moments) same_format
                (standing_now standing device.state.journal parts.tags moments stands)));
          }));
    }

  -- ---- direct mode

  -- The disk has the cells at entry, without a write.
  abbrev direct_disk : DirectDisk
  direct_disk = without_writes after now.journal now.base

  direct_keeps : DirectReads.KeepsCells direct_disk no_region (given_tags parts.tags last) last
  direct_keeps =
      subst (λ (x : DiskFormat). DirectReads.KeepsCells (without_writes x now.journal now.base) no_region (given_tags parts.tags last) last) same_format
      (settled_keeps now is.left.recovered.settled (λ b low. is.left.recovered.again b (subst (λ (n : ℕ). b < n) blocks_same low)) no_region (given_tags parts.tags last) last none_now keeps_cells)

  direct_device : IsDirectDevice (device_format Direct after) (changed_device before entry) direct_disk
  direct_device = beginning_law (device_format Direct after) direct_disk (cells_on before entry) 0 no_region no_region refl refl refl base (λ region waits. absurd (true≢false (sym waits)))

  pub direct_made : Directs.IsDirect (standing_at Direct (journal_format before) (changed_device before entry) (last_image last)) Working (Directs.kept parts recalculation) moments
  direct_made = record {
    disk = direct_disk;
    format = own_format_law after clear;
    over = record {
      device = direct_device;
      opened = ap blocks_of (sym own);
      flight = record {
        blocks = ap (λ (x : Flight). x.blocks) slots;
        block_size = ap (λ (x : Flight). x.block_size) slots;
        most = refl;
        submitted = ap (λ (x : Flight). x.submitted) slots;
        slots = ap (λ (x : Flight). x.slots) slots;
        each = λ k r there. absurd (none-some r there);
      };
      rule = maker;
      condition_ = refl;
      told = last;
      is_told = told;
      works = λ _. record {
        cells = record {
          geometry = sym geometry;
          now = λ x there. subst (λ (y : Content). DirectReads.KeepsCells direct_disk no_region (given_tags parts.tags y) y) (now_is x there) direct_keeps;
        };
        recalculation_ = regions_are;
      };
      left = left_now_law (device_format Direct after) (changed_device before entry) direct_disk made moments direct_device (ap blocks_of (sym own))
          (λ x there. subst (InDirect.StandsFor direct_disk) (now_is x there) direct_keeps.stands);
    };
  }

  -- Each image of it has an empty journal, and nothing is pending.
  pub made_empty : recovered.at.used ≡ false → HasNow (EachImage (HasEmptyJournal (journal_format before))) moments
  made_empty unused x there =
      subst (EachImage (HasEmptyJournal after)) (now_is x there) (λ one is_image.
      let cut = placed_standing_law direct_disk last direct_keeps.stands one is_image in
      let empty = subst (λ (y : DiskFormat). IsEmptyJournal y.geometry now.journal) same_format (left_empty (opened_disk after made) recovered.at (given_tags recovered.tags last) last is.left unused) in
      record {
        reads = cut.reads;
        empty = empty_same after.geometry after.sectors one now.journal direct_keeps.stands.formed.is_geometry cut.journal empty;
      })
