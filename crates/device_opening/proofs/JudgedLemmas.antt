-- What an opening is, by an image that was judged, which leaves the disk as it was.
use Rattle.std.proofs.Common.{◌≡◌, ℕ, ◌*◌, true, false, sym, ◌∙◌, ap, subst, Option, None, Some, Ok, Result, List}
use Rattle.std.specs.List.{AllByRecursion}
use Rattle.std.specs.Option.{option_map}
use Rattle.disk_model.specs.Causes.{HasCause}
use Rattle.disk_model.specs.Disk.{Content, EachImage, Image, last_image}
use Rattle.disk_model.specs.Identity.{DiskIdentity}
use Rattle.disk_model.specs.Moments.{EachMoment, EachSince, HasNow, content_now}
use Rattle.disk_model.proofs.MomentsLemmas.{EachMoment-weaker, FromStart-weaker}
use Rattle.image_model.specs.declared.flags.TheConstants.{DIRTY_BITMAP}
use Rattle.image_model.specs.Bitmap.{some_await}
use Rattle.image_model.specs.Cells.{salt_of}
use Rattle.image_model.specs.Geometry.{Geometry, layout_of}
use Rattle.image_model.specs.Openable as model
use Rattle.image_model.specs.Openable.{IsReplayable, journal_fault_of}
use Rattle.image_model.specs.Superblock.{has_flag}
use Rattle.image_model.proofs.CellsLemmas.{counted_entries-journal}
use Rattle.image_model.proofs.GeometryOf.{geometry_given}
use Rattle.image_model.proofs.OpenableLemmas.{journal_fault_law}
use Rattle.hmac_tag.specs.TagMaker.{TagRule}
use Rattle.device_model.specs.Mode.{Mode}
use Rattle.place_model.specs.Format.{DiskFormat, HasCells, OpensAs, cells_on, format_on}
use Rattle.place_model.specs.Kind.{kind_in}
use Rattle.place_model.proofs.FormatLemmas.{opens_from, reads_tells}
use Rattle.image_format.specs.declared.reading.ImageFormat.{ImageFormat}
use Rattle.image_format.specs.Format.{IsFormat, IsReadNow, disk_format, format_of}
use Rattle.judging_model.specs.declared.consent.Consent.{Consent}
use Rattle.image_refusal.specs.declared.call_fault.CallFault.{CallFault}
use Rattle.image_refusal.specs.declared.open_fault.OpenFault.{OpenFault}
use Rattle.image_refusal.specs.Calls.{HasCallCause}
use Rattle.judging_model.specs.Faults.{ByConsent, ByJournal, fault_of, lacks_consent}
use Rattle.judging_model.proofs.FaultsLemmas.{fault_of-format, fault_of-lacking}
use Rattle.recalculation.specs.declared.recalculating.Recalculation.{Recalculation}
use Rattle.request_slots.specs.Flight.{Flight, no_requests}
use Rattle.device_parts.specs.declared.parts.Parts.{Parts}
use Rattle.device_opening.specs.declared.judging.JudgedImage.{JudgedImage}
use Rattle.device_opening.specs.declared.recovering.RecoveredImage.{RecoveredImage}
use Rattle.device_opening.specs.declared.room.DeviceRoom.{DeviceRoom}
use Rattle.device_opening.specs.Judged.{HasJudged, judged_format, rule_of}
use Rattle.device_opening.specs.Opening.{IsLeftOpening, IsOfImage, IsRecalculationFor, IsRoomFor, IsUnasked, LeavesImage}
use Rattle.place_model.specs.RecoveryWrites.{IsOfOpening}
use Rattle.device_opening.proofs.MomentsLemmas.{since_from}

-- What is known of the disk behind a read is known of it before.
pub shift : (P : DiskIdentity → List Content → Type 0) {mid old : DiskIdentity} {m a : List Content} → mid ≡ old → m ≡ a → P mid m → P old a
shift P {mid} {old} {m} {a} is same p = subst (λ (i : DiskIdentity). P i a) is (subst (P mid) same p)

-- ---- an image is judged

-- The geometry is that of the fields.
pub own_layout : (sectors : ℕ) (format : ImageFormat) → IsFormat sectors format → format.geometry ≡ layout_of format.fields
own_layout sectors format is = ((geometry_given format.fields sectors format.geometry).0 is.told).0

module _ (key : Option (List ℕ)) (consent : Consent) (disk : DiskIdentity) (format : ImageFormat) (a : List Content) (told : HasNow (λ c. Ok format ≡ format_of disk.sectors (last_image c)) a)
    (clear : has_flag DIRTY_BITMAP format.fields.flags ≡ false) where
  -- Where consent is lacking that is the fault of the image,
  pub consent_now : lacks_consent key consent (some_await format.fields) ≡ true → HasNow (λ c. Some (ByConsent format.fields.flags) ≡ fault_of key consent disk.sectors (last_image c)) a
  consent_now lacks c at = sym (fault_of-lacking key consent disk.sectors format (last_image c) (told c at) clear lacks)

  -- and else it has the fault that its journal has.
  pub fault_now : (rule : TagRule) → rule ≡ rule_of key format → lacks_consent key consent (some_await format.fields) ≡ false → (fault : Option model.JournalFault)
      → HasNow (λ c. fault ≡ journal_fault_of rule.key rule.salt format.geometry (last_image c)) a → HasNow (λ c. option_map ByJournal fault ≡ fault_of key consent disk.sectors (last_image c)) a
  fault_now rule rule_is given fault has c at =
      ap (option_map ByJournal) (has c at ∙ ap (λ (r : TagRule). journal_fault_of r.key r.salt format.geometry (last_image c)) rule_is)
      ∙ sym (fault_of-format key consent disk.sectors format (last_image c) (told c at) clear given)

-- One whose journal has none can be opened.
pub judged_opens : (key : Option (List ℕ)) (sectors : ℕ) (format : ImageFormat) (rule : TagRule) (c : Content) → rule ≡ rule_of key format → has_flag DIRTY_BITMAP format.fields.flags ≡ false
    → IsReadNow key sectors format c → journal_fault_of rule.key rule.salt format.geometry (last_image c) ≡ None → OpensAs (disk_format key sectors format) (last_image c)
judged_opens key sectors format rule c rule_is clear read none =
    let f = disk_format key sectors format in
    let right : journal_fault_of key (salt_of format.fields) format.geometry (last_image c) ≡ None =
    sym (ap (λ (r : TagRule). journal_fault_of r.key r.salt format.geometry (last_image c)) rule_is) ∙ none in
    let told = reads_tells f (last_image c) read.reads in
    let law = (journal_fault_law key (salt_of format.fields) format.geometry (last_image c)).0 right in
    opens_from f (last_image c) (record {
      head = told.head;
      has_geometry = told.has_geometry;
      is_geometry = told.is_geometry;
      walk = λ _. law.0;
      entries = subst (AllByRecursion (IsReplayable key (salt_of format.fields) format.geometry)) (sym (counted_entries-journal key format.fields format.geometry (last_image c) clear)) law.1;
    })

-- ---- behind the judging

module _ (key : Option (List ℕ)) (disk : DiskIdentity) (image : JudgedImage) (a : List Content) (judged : HasJudged disk.sectors image a) (same : image.maker.key ≡ key) where
  -- The format of the image under the key,
  abbrev pub own_format : DiskFormat
  own_format = disk_format key disk.sectors image.format

  -- is the one that reads give,
  pub reads_now : HasNow (IsReadNow key disk.sectors image.format) a
  reads_now c told = subst (λ (k : Option (List ℕ)). IsReadNow k disk.sectors image.format c) same (judged.now c told).read

  pub format_now : (c : Content) → content_now a ≡ Some c → judged_format disk.sectors image ≡ format_on key disk.sectors (last_image c)
  format_now c told = ap (λ (k : Option (List ℕ)). disk_format k disk.sectors image.format) same ∙ sym (reads_now c told).own

  -- and the image can be opened with it.
  pub opens_now : HasNow (λ c. OpensAs own_format (last_image c)) a
  opens_now c told = subst (λ (k : Option (List ℕ)). OpensAs (disk_format k disk.sectors image.format) (last_image c)) same (judged.now c told).opens

  -- What is left of an image that was judged is left by that format.
  pub own_leaves : {mid : DiskIdentity} {m b : List Content} → mid ≡ disk → m ≡ a → LeavesImage (judged_format mid.sectors image) m b → LeavesImage own_format a b
  own_leaves {mid} {m} {b} identity kept leaves =
      subst (λ (k : Option (List ℕ)). LeavesImage (disk_format k disk.sectors image.format) a b) same
      (shift (λ i x. LeavesImage (judged_format i.sectors image) x b) identity kept leaves)

  -- What is known by the format that was judged is known by the image's own.
  pub own_since : {b : List Content} (P : Geometry → Content → Content → Type 0) → EachSince (P image.format.geometry) a b
      → EachSince (λ start. P (format_on key disk.sectors (last_image start)).geometry start) a b
  own_since P m = EachMoment-weaker (FromStart-weaker a (P image.format.geometry) (λ start. P (format_on key disk.sectors (last_image start)).geometry start)
      (λ start c told adds. subst (λ (g : Geometry). P g start c) (ap (λ (d : DiskFormat). d.geometry) (sym (reads_now start told).own)) adds)) m

  -- In a mode that opens each image with these cells, and that may be left so, each image that is left is one of these.
  pub left_by : (mode : Mode) {b : List Content} → ((entry left : Image) → HasCells own_format (cells_on own_format entry) left → (kind_in mode key disk.sectors).CanOpen left)
      → ((entry left : Image) → HasCells own_format (cells_on own_format entry) left → format_on key disk.sectors entry ≡ own_format
      → (kind_in mode key disk.sectors).MayBeLeft entry ((kind_in mode key disk.sectors).opened entry).history left)
      → LeavesImage own_format a b → IsLeftOpening mode key disk.sectors a b
  left_by mode {b} opens may leaves =
      let cells : (start : Content) → content_now a ≡ Some start → EachMoment a b (EachImage (HasCells own_format (cells_on own_format (last_image start)))) = λ start told.
      leaves.cells start told (opens_now start told) in
      record {
        opens = since_from a b (λ start. EachImage (kind_in mode key disk.sectors).CanOpen) (IsOfOpening image.format.geometry) leaves.writes
            (λ start told. EachMoment-weaker (λ c each left is. opens (last_image start) left (each left is)) (cells start told));
        left = since_from a b (λ start. EachImage ((kind_in mode key disk.sectors).MayBeLeft (last_image start) ((kind_in mode key disk.sectors).opened (last_image start)).history))
            (IsOfOpening image.format.geometry) leaves.writes
            (λ start told. EachMoment-weaker (λ c each left is. may (last_image start) left (each left is) (reads_now start told).own) (cells start told));
      }

-- The cause of a call behind the judging is that of the opening.
pub done_cause : {A B C E : Type 0} (before mid after : ℕ) (image : A) (made : B) (opened : C) → HasCallCause before mid (let r : Result A (CallFault OpenFault) = Ok image in r)
    → HasCause mid after (let r : Result B E = Ok made in r) → HasCallCause before after (let r : Result C (CallFault OpenFault) = Ok opened in r)
done_cause {A} {B} {C} {E} before mid after image made opened judged is =
    subst (λ (n : ℕ). HasCallCause n after (let r : Result C (CallFault OpenFault) = Ok opened in r)) (judged.passed (λ e. cc))
    (record { later = is.later; failed = λ e. absurd (cc); passed = λ _. is.passed })

-- ---- what is kept

-- What is kept of an image that was recovered, and the memory that was taken for it.
abbrev pub parts_of : RecoveredImage → DeviceRoom → ℕ → Parts
parts_of recovered room spb = record { tags = recovered.tags; maker = recovered.maker; slots = room.slots; spb = spb; buffer = room.buffer }

pub unasked : (image : JudgedImage) (recovered : RecoveredImage) (room : DeviceRoom) (recalculation : Recalculation) (spb sectors : ℕ) (disk : DiskIdentity) {m moments : List Content} → HasJudged sectors image m
    → IsRoomFor image.format.geometry room → IsRecalculationFor image.format.fields image.format.geometry recalculation → IsOfImage image recovered disk moments → spb ≡ image.format.geometry.shape.spb
    → IsUnasked (parts_of recovered room spb) recalculation disk moments
unasked image recovered room recalculation spb sectors disk judged has begins made spb_is = record {
  ready = record {
    store = made.store;
    blocks = ap (λ (x : Flight). x.blocks) has.slots ∙ ap (λ (x : Geometry). x.blocks) (sym made.geometry);
    block_size = ap (λ (x : Flight). x.block_size) has.slots ∙ ap (λ (x : Geometry). 512 * x.shape.spb) (sym made.geometry);
    spb = spb_is ∙ ap (λ (x : Geometry). x.shape.spb) (sym made.geometry);
    tag_size = ap (λ (r : TagRule). r.size) (made.maker ∙ judged.maker) ∙ ap (λ (x : Geometry). x.shape.tag_size) (sym made.geometry);
    buffer = has.buffer ∙ sym (ap (λ (x : Flight). x.block_size) has.slots);
  };
  regions_ = begins.awaiting.geometry ∙ sym made.geometry;
  requests = has.slots ∙ ap (λ (x : Geometry). no_requests x.blocks (512 * x.shape.spb)) (sym made.geometry);
}
