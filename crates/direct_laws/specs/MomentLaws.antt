-- What may be left at each moment of a call of a device in direct mode that was opened by superblock and geometry alone.
-- Own: a cut meets any moment, also of a call in which the disk fails.
use Rattle.std.specs.Prelude.{◌≡◌, ℕ, suc, ◌<◌, Bool, List, Option}
use Rattle.disk_model.specs.Disk.{Content, Image, EachImage, last_image, newest_only}
use Rattle.disk_model.specs.Moments.{EachMoment, EachSince, HasNow, IsChangedBy}
use Rattle.image_model.specs.Cells.{placed_cells_of}
use Rattle.device_model.specs.Device.{DeviceKind}
use Rattle.device_model.specs.History.{History}
use Rattle.device_model.specs.Mode.{DeviceFormat}
use Rattle.device_model.specs.Progress.{DeviceState, Event, Serve, FailedServe, after_event}
use Rattle.device_model.specs.Request.{Write, Asked}
use Rattle.place_model.specs.Format.{HasWholeSectors, format_on}
use Rattle.place_model.specs.Kind.{CanOpenPlaced, placed_kind}
use Rattle.place_model.specs.Opened.{blocks_of}
use Rattle.journal_laws.specs.EventLaws.{IsServed, next_write}
use Rattle.direct_model.specs.DirectDisk.{DirectDisk, StandsFor}
use Rattle.direct_model.specs.Opening.{placed_disk}
use Rattle.direct_model.specs.Steps.{with_write}
use Rattle.direct_laws.specs.CallLaws.{KeepsNow, ReadsImage, StandsThrough}
use Rattle.direct_laws.specs.Device.{IsDirectDevice}
use Rattle.direct_laws.specs.Within.{IsWithin}

-- At each moment of a call each image can be opened, and may be left of the device that was opened on the one at entry, by a
-- history within the event.
pub record IsLeftThrough (kind : DeviceKind) (entry : Image) (f : DeviceFormat) (s : DeviceState)
    (event : Event) (before after : List Content) : Type 0 where
  pub opens : EachMoment before after (EachImage kind.CanOpen)
  pub left : EachMoment before after (IsWithin (kind.MayBeLeft entry) f s event)

-- Each image of the content now can be opened, and may be left by this history.
pub record IsLeftNow (kind : DeviceKind) (entry : Image) (h : History) (moments : List Content) : Type 0 where
  pub opens : HasNow (EachImage kind.CanOpen) moments
  pub left : HasNow (EachImage (kind.MayBeLeft entry h)) moments

-- The kind of device that a disk is opened by.
abbrev pub kind_of : DirectDisk → DeviceKind
kind_of d = placed_kind d.key d.sectors

-- The disk has the blocks of the image, with the same tags.
abbrev pub HasBlocksOf : Image → DirectDisk → Type 0
HasBlocksOf entry d = blocks_of d.format ≡ blocks_of (format_on d.key d.sectors entry)

-- The device that has just been opened on an image, by superblock and geometry alone, whose store gives the tags that are
-- in place.
pub record IsOpenedOn (key : Option (List ℕ)) (sectors : ℕ) (image : Image) (tags : Content → ℕ → List ℕ)
    (moments : List Content) : Type 0 where
  pub device : IsDirectDevice ((placed_kind key sectors).format image)
      ((placed_kind key sectors).opened image) (placed_disk (format_on key sectors image) image)
  pub keeps : KeepsNow (placed_disk (format_on key sectors image) image)
      ((placed_kind key sectors).opened image).progress.regions.awaiting tags moments

-- The image that reads give can be opened so, and its sectors are whole.
abbrev pub CanOpenNow : Option (List ℕ) → (sectors : ℕ) → List Content → Type 0
CanOpenNow key sectors moments = HasNow (λ c. CanOpenPlaced key sectors (last_image c)
    × HasWholeSectors (format_on key sectors (last_image c)) (last_image c)) moments

-- ---- laws

-- While an opening syncs each image may be left of the device, before its first request, and can be opened,
abbrev pub OpeningSyncLaw : Type 0
OpeningSyncLaw = (key : Option (List ℕ)) (sectors : ℕ) (a b : List Content) → ReadsImage a
    → CanOpenNow key sectors a → EachSince (λ start c. c ≡ newest_only start) a b
    → let kind = placed_kind key sectors in
    EachSince (λ start. let image = last_image start in
    EachImage (kind.MayBeLeft image (kind.opened image).history)) a b
    × EachSince (λ start. EachImage kind.CanOpen) a b

-- and then the device is open.
abbrev pub OpeningDoneLaw : Type 0
OpeningDoneLaw = (key : Option (List ℕ)) (sectors : ℕ) (tags : Content → ℕ → List ℕ) (a b : List Content)
    → ReadsImage a → CanOpenNow key sectors a → IsChangedBy newest_only a b
    → HasNow (λ c. let g = (format_on key sectors (last_image c)).geometry in
    (n : ℕ) → n < g.blocks → tags c n ≡ (placed_cells_of g (last_image c) n).tag) b
    → HasNow (λ start. IsOpenedOn key sectors (last_image start) tags b) a

-- Between calls each image may be left by the history.
abbrev pub LeftNowLaw : Type 0
LeftNowLaw = (f : DeviceFormat) (s : DeviceState) (d : DirectDisk) (entry : Image) (a : List Content)
    → IsDirectDevice f s d → HasBlocksOf entry d → HasNow (StandsFor d) a
    → IsLeftNow (kind_of d) entry s.history a

-- In a call that leaves what the disk stands for each image may be left at each moment, by the history as it was, also
-- after the disk failed in a serve.
abbrev pub KeptThroughLaw : Type 0
KeptThroughLaw = (f : DeviceFormat) (s : DeviceState) (event : Event) (d : DirectDisk) (entry : Image)
    (a b : List Content) → IsDirectDevice f s d → HasBlocksOf entry d → StandsThrough d a b
    → IsLeftThrough (kind_of d) entry f s event a b × IsLeftNow (kind_of d) entry s.history b
    × ((ticket : ℕ) → IsLeftNow (kind_of d) entry (after_event f s (FailedServe ticket)).history b)

-- In a serve of a write each image may be left while the disk stands for the one with its next block, whether the serve
-- then fails or not,
abbrev pub WrittenThroughLaw : Type 0
WrittenThroughLaw = (f : DeviceFormat) (s : DeviceState) (d : DirectDisk) (k : ℕ) (r : Asked) (first : ℕ)
    (blocks : List (List ℕ)) (fua : Bool) (entry : Image) (a b : List Content) → IsDirectDevice f s d
    → HasBlocksOf entry d → IsServed s k r → r.request ≡ Write first blocks fua
    → StandsThrough (with_write d (next_write k first blocks r.served)) a b
    → IsLeftThrough (kind_of d) entry f s (Serve (suc k)) a b
    × IsLeftThrough (kind_of d) entry f s (FailedServe (suc k)) a b

-- and each that a failed one leaves may be left then.
abbrev pub FailedNowLaw : Type 0
FailedNowLaw = (f : DeviceFormat) (s : DeviceState) (d : DirectDisk) (k : ℕ) (r : Asked) (first : ℕ)
    (blocks : List (List ℕ)) (fua : Bool) (entry : Image) (a : List Content) → IsDirectDevice f s d
    → HasBlocksOf entry d → IsServed s k r → r.request ≡ Write first blocks fua
    → HasNow (StandsFor (with_write d (next_write k first blocks r.served))) a
    → IsLeftNow (kind_of d) entry (after_event f s (FailedServe (suc k))).history a
