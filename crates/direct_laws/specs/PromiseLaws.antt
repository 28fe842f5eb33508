-- What a cut leaves of a device in direct mode whose journal has nothing to replay, between its calls and within them.
use Rattle.std.specs.Prelude.{◌≡◌, ◌⊎◌, ℕ, suc, Bool, Ok, List, length, take}
use Rattle.disk_model.specs.Disk.{Content, Image, EachImage, HasNothingPending, OnlyAdds}
use Rattle.image_model.specs.Superblock.{Superblock, superblock_of}
use Rattle.device_model.specs.History.{History}
use Rattle.device_model.specs.Mode.{DeviceFormat, Direct}
use Rattle.device_model.specs.Progress.{DeviceState, Event, Serve, FailedServe, event_result, after_event}
use Rattle.device_model.specs.Request.{Write, Asked}
use Rattle.place_model.specs.Format.{DiskFormat, format_on, HasCells}
use Rattle.place_model.specs.Kind.{CanOpenIn, MayBeLeftIn}
use Rattle.place_model.specs.Journal.{HasNothingToReplay}
use Rattle.place_model.specs.Left.{IsLeftInDirect, IsLeftPlaced}
use Rattle.place_model.specs.Opened.{blocks_of}
use Rattle.place_model.specs.Tags.{IsOfTags, ReadsTags}
use Rattle.journal_laws.specs.EventLaws.{IsServed, next_write}
use Rattle.direct_model.specs.DirectDisk.{DirectDisk, StandsFor, cell_now}
use Rattle.direct_model.specs.Steps.{after_flush, with_fields, IsOfWrite, IsMoved, HasTagsOf, IsHistoryOf}
use Rattle.direct_laws.specs.Device.{IsDirectDevice, after_changes}
use Rattle.direct_laws.specs.ReadLaws.{KeepsCells, recalculated_tags}
use Rattle.direct_laws.specs.Within.{IsLeftWithin}

-- ---- what joins the two

-- What may be left with its placed cells may be left with its cells, where the journal, which stays, has nothing to replay.
abbrev pub PlacedIsLeftLaw : Type 0
PlacedIsLeftLaw = (d : DirectDisk) (h : History) (c : Content) → StandsFor d c
    → HasNothingToReplay d.geometry d.journal → EachImage (IsLeftPlaced d.format h) c
    → EachImage (IsLeftInDirect d.format h) c

-- ---- between calls

-- Each image may be left by the history,
abbrev pub StandingLeftLaw : Type 0
StandingLeftLaw = (f : DeviceFormat) (s : DeviceState) (d : DirectDisk) (c : Content)
    → IsDirectDevice f s d → StandsFor d c → HasNothingToReplay d.geometry d.journal
    → EachImage (IsLeftInDirect d.format s.history) c

-- and a device can be opened on it.
abbrev pub ReopensLaw : Type 0
ReopensLaw = (d : DirectDisk) (c : Content) → StandsFor d c → HasNothingToReplay d.geometry d.journal
    → EachImage (CanOpenIn Direct d.key d.sectors) c

-- Once all is flushed each image has all cells.
abbrev pub FlushedLeftLaw : Type 0
FlushedLeftLaw = (d : DirectDisk) (c : Content) → StandsFor (after_flush d) c
    → HasNothingToReplay d.geometry d.journal → EachImage (HasCells d.format (cell_now d)) c

-- What may be left of the disk may be left of the device that was opened on an image with the same blocks.
abbrev pub KindLeftLaw : Type 0
KindLeftLaw = (d : DiskFormat) (entry : Image) (h : History) (left : Image)
    → blocks_of d ≡ blocks_of (format_on d.key d.sectors entry) → IsLeftInDirect d h left
    → MayBeLeftIn Direct d.key d.sectors entry h left

-- ---- within a call

-- A disk that stands for what some of the changes of an event give is left within it.
abbrev pub WithinLaw : Type 0
WithinLaw = (f : DeviceFormat) (s : DeviceState) (event : Event) (d : DirectDisk) (kept : ℕ) (c : Content)
    → IsDirectDevice f s d → StandsFor (after_changes (take kept (event_result f s event).changes) d) c
    → HasNothingToReplay d.geometry d.journal → IsLeftWithin f s event d.format c

-- So it is while the data and the tag of a block are written, whether the call then fails or not,
abbrev pub WritingLeftLaw : Type 0
WritingLeftLaw = (f : DeviceFormat) (s : DeviceState) (d : DirectDisk) (k : ℕ) (a : Asked) (first : ℕ)
    (blocks : List (List ℕ)) (fua : Bool) (awaiting : ℕ → Bool) (tags : ℕ → List ℕ) (old c : Content)
    → IsDirectDevice f s d → IsServed s k a → a.request ≡ Write first blocks fua
    → KeepsCells d awaiting tags old → OnlyAdds (IsOfWrite d (next_write k first blocks a.served) tags) old c
    → HasNothingToReplay d.geometry d.journal
    → IsLeftWithin f s (Serve (suc k)) d.format c × IsLeftWithin f s (FailedServe (suc k)) d.format c

-- and while tags are written back, after some of the changes,
abbrev pub BackLeftLaw : Type 0
BackLeftLaw = (f : DeviceFormat) (s : DeviceState) (event : Event) (d : DirectDisk) (kept : ℕ)
    (awaiting : ℕ → Bool) (tags : ℕ → List ℕ) (old c : Content) → IsDirectDevice f s d
    → KeepsCells (after_changes (take kept (event_result f s event).changes) d) awaiting tags old
    → OnlyAdds (IsOfTags d.geometry tags tags) old c → HasNothingToReplay d.geometry d.journal
    → IsLeftWithin f s event d.format c

-- or a region is recalculated.
abbrev pub RecalculatingLeftLaw : Type 0
RecalculatingLeftLaw = (f : DeviceFormat) (s : DeviceState) (event : Event) (d : DirectDisk) (region : ℕ)
    (awaiting : ℕ → Bool) (tags : ℕ → List ℕ) (old c : Content) → IsDirectDevice f s d
    → KeepsCells d awaiting tags old → OnlyAdds (IsOfTags d.geometry tags
    (recalculated_tags d region old tags)) old c → HasNothingToReplay d.geometry d.journal
    → IsLeftWithin f s event d.format c

-- While the position moves each image may be left, under the old fields or the new.
abbrev pub MovingLeftLaw : Type 0
MovingLeftLaw = (d : DirectDisk) (fields : Superblock) (h : History) (tags : ℕ → List ℕ) (bytes : List ℕ)
    (first c : Content) → IsHistoryOf d h → StandsFor d first → HasNothingToReplay d.geometry d.journal
    → HasNothingPending first → IsMoved d fields
    → ReadsTags d.geometry tags first → HasTagsOf d fields tags → length bytes ≡ 512
    → superblock_of bytes ≡ Ok fields → OnlyAdds (λ sector x. (sector ≡ 0) × (x ≡ bytes)) first c
    → EachImage (λ image. IsLeftInDirect d.format h image
    ⊎ IsLeftInDirect (with_fields d fields).format h image) c

-- ---- a disk that fails

-- What was left before a serve may be left after it fails.
abbrev pub FailedLeftLaw : Type 0
FailedLeftLaw = (f : DeviceFormat) (s : DeviceState) (ticket : ℕ) (d : DirectDisk) (c : Content)
    → IsDirectDevice f s d → StandsFor d c → HasNothingToReplay d.geometry d.journal
    → EachImage (IsLeftInDirect d.format (after_event f s (FailedServe ticket)).history) c
