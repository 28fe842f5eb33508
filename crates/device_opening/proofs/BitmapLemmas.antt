-- An image with a bitmap that is judged, and the device that is open on it once its disk is synced.
use Rattle.std.proofs.Common.{◌≡◌, ℕ, ◌*◌, ◌<◌, ◌≤◌, Bool, true, if◌then◌else◌, is_some, refl, sym, ◌∙◌, ap, subst, Option, None, Some, Ok, List}
use Rattle.std.proofs.lemmas.Option.{none-some}
use Rattle.disk_model.specs.Disk.{Content, Image, last_image, newest_only}
use Rattle.disk_model.specs.Identity.{DiskIdentity}
use Rattle.disk_model.specs.Moments.{EachMoment, EachSince, HasNow, IsChangedBy, content_now}
use Rattle.image_model.specs.declared.flags.TheConstants.{DIRTY_BITMAP}
use Rattle.image_model.specs.Bitmap.{is_dirty}
use Rattle.image_model.specs.Cells.{placed_cells_of}
use Rattle.image_model.specs.Geometry.{Geometry, bitmap_sectors, journal_sectors, regions}
use Rattle.image_model.specs.GeometryLaws.{FitsDisk}
use Rattle.image_model.specs.Superblock.{has_flag}
use Rattle.image_model.proofs.GeometryOf.{geometry_given}
use Rattle.device_model.specs.Mode.{Bitmap}
use Rattle.device_model.specs.Regions.{least_region}
use Rattle.place_model.specs.Format.{DiskFormat, HasWholeSectors, format_on}
use Rattle.place_model.specs.Opened.{device_format, opened_on}
use Rattle.place_model.proofs.FormatLemmas.{reads_on}
use Rattle.place_model.proofs.KindLemmas.{in_bitmap_mode}
use Rattle.direct_laws.specs.CallLaws.{ReadsImage}
use Rattle.bitmap_model.specs.Opening.{opened_disk}
use Rattle.bitmap_laws.specs.Device.{IsBitmapDevice}
use Rattle.bitmap_laws.specs.MomentLaws.{CanOpenNow, IsOpenedOn}
use Rattle.bitmap_laws.proofs.DeviceLemmas.{opening_law}
use Rattle.bitmap_laws.proofs.LeastLemmas.{least_law}
use Rattle.bitmap_laws.proofs.MomentLemmas.{left_now_law, opening_done_law, opening_sync_law}
use Rattle.buffer_cache.proofs.CachedLemmas.{changed_now}
use Rattle.hmac_tag.specs.TagMaker.{TagRule}
use Rattle.image_format.specs.declared.reading.ImageFormat.{ImageFormat}
use Rattle.image_format.specs.Format.{IsBitmapFormat, disk_format, format_of}
use Rattle.judging_model.specs.declared.consent.Consent.{Consent}
use Rattle.judging_model.specs.Faults.{ByConsent, dirty_fault, fault_by_format, fault_of, has_dirty_region, lacks_consent}
use Rattle.recalculation.specs.Awaiting.{awaiting_of}
use Rattle.tag_store.specs.Store.{IsStore, Store, given_tags}
use Rattle.request_slots.specs.Flight.{Flight, no_requests}
use Rattle.device_parts.specs.declared.condition.Condition.TheVariants.{Working}
use Rattle.device_parts.specs.declared.parts.Parts.{Parts}
use Rattle.device_parts.specs.Device as Devices
use Rattle.device_parts.specs.Device.{HasOpened, Standing, opened_standing, rule_on}
use Rattle.bitmap_mode.specs.States.{States, least_awaiting}
use Rattle.bitmap_device.specs.Device.{IsBitmapped, IsOverDisk, in_bitmap, kept, standing_on}
use Rattle.journal_device.proofs.DoneLemmas.{told_then}
use Rattle.device_opening.specs.declared.bitmap_judging.JudgedBitmap.{JudgedBitmap}
use Rattle.device_opening.specs.declared.room.DeviceRoom.{DeviceRoom}
use Rattle.device_opening.specs.BitmapOpening.{AreRegionsOf, HasJudgedBitmap}
use Rattle.device_opening.specs.Opening.{IsRoomFor, LeavesOpenable}
use Rattle.device_opening.proofs.StandingLemmas.{same_blocks, standing_at, standing_same}
use Rattle.device_opening.proofs.JudgedLemmas.{own_layout}

-- ---- what is judged

-- The bitmap fits the journal's sectors.
pub bitmap_fits : (sectors : ℕ) (format : ImageFormat) → IsBitmapFormat sectors format → bitmap_sectors format.geometry ≤ journal_sectors format.geometry
bitmap_fits sectors format is =
    let fits : FitsDisk format.fields sectors = ((geometry_given format.fields sectors format.geometry).0 is.accepted.told).1 in
    subst (λ (g : Geometry). bitmap_sectors g ≤ journal_sectors g) (sym (own_layout sectors format is.accepted)) (fits.bitmap is.bitmap)

-- Of an image with a bitmap it is want of consent.
dirty_fault-bitmap : (key : Option (List ℕ)) (consent : Consent) (image : Image) (format : ImageFormat) → has_flag DIRTY_BITMAP format.fields.flags ≡ true
    → dirty_fault key consent image format ≡ fault_by_format key consent image (Ok format)
dirty_fault-bitmap key consent image format set = rw set refl

module _ (key : Option (List ℕ)) (consent : Consent) (sectors : ℕ) (format : ImageFormat) (s : States) (a : List Content)
    (told : HasNow (λ c. Ok format ≡ format_of sectors (last_image c)) a) (set : has_flag DIRTY_BITMAP format.fields.flags ≡ true) (are : AreRegionsOf format s a) where
  -- A region awaits in memory exactly where a bit is set in the image.
  some_dirty : (c : Content) → content_now a ≡ Some c → is_some (least_awaiting s) ≡ has_dirty_region format.geometry (last_image c)
  some_dirty c now =
      let counts = are.opened (disk_format None sectors format) refl c now in
      ap is_some (
      least_law (regions s.geometry) (awaiting_of s.awaiting) (is_dirty format.geometry (last_image c))
      (λ r low. counts.awaiting r (subst (λ (g : Geometry). r < regions g) are.geometry low))
      ∙ ap (λ (g : Geometry). least_region (regions g) (is_dirty format.geometry (last_image c))) are.geometry)

  -- The fault of the image is want of consent, or it has none.
  pub consent_fault : (lacks : Bool) → lacks ≡ lacks_consent key consent (is_some (least_awaiting s))
      → HasNow (λ c. (if lacks then Some (ByConsent format.fields.flags) else None) ≡ fault_of key consent sectors (last_image c)) a
  consent_fault lacks is c now =
      ap (λ (b : Bool). if b then Some (ByConsent format.fields.flags) else None) (is ∙ ap (lacks_consent key consent) (some_dirty c now))
      ∙ dirty_fault-bitmap key consent (last_image c) format set
      ∙ ap (fault_by_format key consent (last_image c)) (told c now)

-- ---- what is open

module _ (disk : DiskIdentity) (image : JudgedBitmap) (a b : List Content) (judged : HasJudgedBitmap disk.sectors image a) (reads : ReadsImage a) where
  abbrev key : Option (List ℕ)
  key = image.maker.key

  set_on : (c : Content) → content_now a ≡ Some c → has_flag DIRTY_BITMAP (format_on key disk.sectors (last_image c)).superblock.flags ≡ true
  set_on c now = ap (λ (f : DiskFormat). has_flag DIRTY_BITMAP f.superblock.flags) (judged.now c now).read.own ∙ judged.format.bitmap

  can : CanOpenNow key disk.sectors a
  can c now =
      let read = judged.now c now in
      record {
        opens = read.opens;
        set = set_on c now;
        whole = subst (λ (f : DiskFormat). HasWholeSectors f (last_image c)) (sym read.read.own) read.read.whole;
      }

  -- While the disk is synced each image may be left of the device.
  pub bitmap_left : EachSince (λ start c. c ≡ newest_only start) a b → LeavesOpenable Bitmap key disk.sectors a b
  bitmap_left newest can_read =
      let law = opening_sync_law key disk.sectors a b reads can newest in
      record { opens = law.1; left = law.0 }

  module _ (room : DeviceRoom) (has : IsRoomFor image.format.geometry room) (tags : Store) (spb : ℕ) (spb_is : spb ≡ image.format.geometry.shape.spb)
      (same : tags.geometry ≡ image.format.geometry) (synced : IsChangedBy newest_only a b) (store : IsStore tags disk b)
      (placed : (c : Content) (n : ℕ) → given_tags tags c n ≡ (placed_cells_of tags.geometry (last_image c) n).tag) where
    -- What is kept of the device.
    abbrev pub parts_of : Parts
    parts_of = record { tags = tags; maker = image.maker; slots = room.slots; spb = spb; buffer = room.buffer }

    slots_are : room.slots ≡ no_requests tags.geometry.blocks (512 * tags.geometry.shape.spb)
    slots_are = has.slots ∙ ap (λ (g : Geometry). no_requests g.blocks (512 * g.shape.spb)) (sym same)

    ready : Devices.IsReady parts_of disk b
    ready = record {
      store = store;
      blocks = ap (λ (x : Flight). x.blocks) slots_are;
      block_size = ap (λ (x : Flight). x.block_size) slots_are;
      spb = spb_is ∙ ap (λ (g : Geometry). g.shape.spb) (sym same);
      tag_size = ap (λ (r : TagRule). r.size) judged.maker ∙ ap (λ (g : Geometry). g.shape.tag_size) (sym same);
      buffer = has.buffer ∙ sym (ap (λ (x : Flight). x.block_size) has.slots);
    }

    -- The places of the image are those of the store.
    own_geometry : (start : Content) → content_now a ≡ Some start → (format_on key disk.sectors (last_image start)).geometry ≡ image.format.geometry
    own_geometry start now = ap (λ (f : DiskFormat). f.geometry) (judged.now start now).read.own

    opened : HasNow (λ start. IsOpenedOn key disk.sectors (last_image start) (given_tags tags) b) a
    opened =
        opening_done_law key disk.sectors (given_tags tags) a b reads can synced
        (λ c now n low. placed c n ∙ ap (λ (g : Geometry). (placed_cells_of g (last_image c) n).tag) (same ∙ sym (geometry_then c now)))
      where
        geometry_then : (c : Content) → content_now b ≡ Some c → (format_on key disk.sectors (last_image c)).geometry ≡ image.format.geometry
        geometry_then c now =
            let first = changed_now newest_only (content_now a) (content_now b) synced c now in
            ap (λ (y : Content). (format_on key disk.sectors (last_image y)).geometry) first.2 ∙ own_geometry first.0 first.1

    -- The device on a bitmap that was found,
    abbrev found_standing : Content → Standing
    found_standing start =
        let f = format_on key disk.sectors (last_image start) in
        standing_at Bitmap f (opened_on Bitmap f (last_image start)) (last_image start)

    -- is the one that was opened.
    standing_is : (start : Content) → content_now a ≡ Some start → (made : Image) → found_standing start ≡ opened_standing Bitmap key disk.sectors (last_image start) made
    standing_is start now made =
        sym (standing_same Bitmap key disk.sectors (last_image start) made (in_bitmap_mode (format_on key disk.sectors (last_image start)) (set_on start now)))

    device_found : (start : Content) → content_now a ≡ Some start → let w = found_standing start in IsBitmapDevice w.format w.state (opened_disk w.on w.entry)
    device_found start now = opening_law (format_on key disk.sectors (last_image start)) (last_image start) (set_on start now)

    over_disk : {P : Content → Type 0} → EachMoment a b P → (start : Content) → (now : content_now a ≡ Some start)
        → let f = format_on key disk.sectors (last_image start) in
        IsOverDisk (standing_on (found_standing start) (opened_disk f (last_image start))) Working parts_of image.regions b
    over_disk moments start now =
        let entry = last_image start in
        let f = format_on key disk.sectors entry in
        let on = opened start now in
        let then_ = told_then a b start now moments in
        let slots : room.slots ≡ no_requests f.geometry.blocks (512 * f.geometry.shape.spb) =
        has.slots ∙ ap (λ (g : Geometry). no_requests g.blocks (512 * g.shape.spb)) (sym (own_geometry start now)) in
        record {
          device = device_found start now;
          reads = reads_on key disk.sectors entry (can start now).opens.readable;
          opened = refl;
          base = λ n low. refl;
          flight = record {
            blocks = ap (λ (x : Flight). x.blocks) slots;
            block_size = ap (λ (x : Flight). x.block_size) slots;
            most = refl;
            submitted = ap (λ (x : Flight). x.submitted) slots;
            slots = ap (λ (x : Flight). x.slots) slots;
            each = λ k r there. absurd (none-some r there);
          };
          rule = judged.maker ∙ ap rule_on (sym (judged.now start now).read.own);
          condition_ = refl;
          told = then_.content;
          is_told = then_.is;
          stands = λ _. record {
            geometry = own_geometry start now ∙ sym same;
            regions_ = judged.regions_.opened f (own_geometry start now) start now;
            now = on.keeps;
          };
          left =
              left_now_law (device_format Bitmap f) (opened_on Bitmap f entry) (opened_disk f entry) entry b (device_found start now) refl
              (λ c at. (on.keeps c at).cells.stands);
        }

    -- The device is open.
    pub bitmap_opened : {P : Content → Type 0} → EachMoment a b P → HasOpened in_bitmap Bitmap key disk (kept parts_of image.regions) a b
    bitmap_opened moments = record {
      device = λ start now made now_made.
          subst (λ (w : Standing). IsBitmapped w Working (kept parts_of image.regions) b) (standing_is start now (last_image made)) (record {
            disk = opened_disk (format_on key disk.sectors (last_image start)) (last_image start);
            format = refl;
            over = over_disk moments start now;
          });
      blocks = λ start now made now_made. same_blocks Bitmap key disk.sectors (last_image start) (last_image made) (in_bitmap_mode (format_on key disk.sectors (last_image start)) (set_on start now));
      ready = record { parts_ = ready; geometry = judged.regions_.geometry ∙ sym same };
      asked_ = refl;
      requests = slots_are;
      can = λ c now. (can c now).opens;
    }
