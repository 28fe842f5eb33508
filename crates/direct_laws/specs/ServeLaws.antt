-- The work of a device in direct mode, as chains of calls: a block is written or read, all is flushed, and a call fails.
-- Own: data before their tag, and tags before a sync.
use Rattle.std.specs.Prelude.{◌≡◌, ℕ, suc, Bool, List}
use Rattle.disk_model.specs.Disk.{Content, Image, AddsSome, newest_only, with_run}
use Rattle.disk_model.specs.Moments.{EachSince, IsChangedBy}
use Rattle.image_model.specs.Geometry.{Geometry, data_at}
use Rattle.device_model.specs.History.{BlockWrite}
use Rattle.device_model.specs.Mode.{DeviceFormat}
use Rattle.device_model.specs.Progress.{Working, DeviceState, Event, Serve, Close, FailedServe, is_flushed_by, after_event}
use Rattle.device_model.specs.Request.{Read, Write, Flush, Asked}
use Rattle.place_model.specs.Blocks.{IsBlockWrite}
use Rattle.place_model.specs.Format.{tagger_of}
use Rattle.place_model.specs.Tags.{with_block_tag}
use Rattle.journal_laws.specs.EventLaws.{IsServed, next_write}
use Rattle.direct_model.specs.DirectDisk.{DirectDisk}
use Rattle.direct_model.specs.Steps.{with_write, after_flush}
use Rattle.direct_laws.specs.CallLaws.{AddsTags, GivesTags, KeepsNow, ReadsImage, KeepsOthersNow, ReadsTagsNow, StandsThrough}
use Rattle.direct_laws.specs.Device.{IsDirectDevice}
use Rattle.direct_laws.specs.EventLaws.{after_block}
use Rattle.direct_laws.specs.MomentLaws.{HasBlocksOf, IsLeftNow, IsLeftThrough, kind_of}

-- ---- what calls say that succeed

-- The bytes of a block were written.
pub record WritesData (g : Geometry) (write : BlockWrite) (tags now : Content → ℕ → List ℕ)
    (before after : List Content) : Type 0 where
  pub written : IsChangedBy (with_run (data_at g write.block) write.bytes) before after
  pub adds : EachSince (AddsSome (data_at g write.block) write.bytes) before after
  pub gives : GivesTags g tags now before after

-- The tag of a block was put, and others may have been written back.
pub record PutsTag (g : Geometry) (block : ℕ) (tag : List ℕ) (tags now : Content → ℕ → List ℕ)
    (before after : List Content) : Type 0 where
  pub adds : AddsTags g tags (λ c. with_block_tag block tag (tags c)) before after
  pub others : KeepsOthersNow g before after
  pub gives : GivesTags g (λ c. with_block_tag block tag (tags c)) now before after

-- Tags may have been written back, and nothing else was: so does a call that gets one.
pub record WritesBack (g : Geometry) (tags now : Content → ℕ → List ℕ)
    (before after : List Content) : Type 0 where
  pub adds : AddsTags g tags tags before after
  pub others : KeepsOthersNow g before after
  pub gives : GivesTags g tags now before after

-- The disk was synced.
pub record Syncs (g : Geometry) (tags now : Content → ℕ → List ℕ) (before after : List Content) : Type 0 where
  pub image : ReadsImage before
  pub synced : IsChangedBy newest_only before after
  pub adds : EachSince (λ start c. c ≡ newest_only start) before after
  pub gives : GivesTags g tags now before after

-- ---- chains of calls

-- A block is written: its bytes, and then its tag.
abbrev pub BlockWrittenLaw : Type 0
BlockWrittenLaw = (d : DirectDisk) (g : Geometry) (write : BlockWrite) (tag : List ℕ) (awaiting : ℕ → Bool)
    (tags mid now : Content → ℕ → List ℕ) (a m b : List Content) → d.geometry ≡ g
    → IsBlockWrite d.geometry write → tag ≡ tagger_of d.format write.block write.bytes
    → KeepsNow d awaiting tags a → WritesData g write tags mid a m → PutsTag g write.block tag mid now m b
    → StandsThrough (with_write d write) a b × KeepsNow (with_write d write) awaiting now b

-- So it stands where the tag could not be put.
abbrev pub PutFailedLaw : Type 0
PutFailedLaw = (d : DirectDisk) (g : Geometry) (write : BlockWrite) (tag : List ℕ) (awaiting : ℕ → Bool)
    (tags mid : Content → ℕ → List ℕ) (a m b : List Content) → d.geometry ≡ g
    → IsBlockWrite d.geometry write → KeepsNow d awaiting tags a → WritesData g write tags mid a m
    → AddsTags g mid (λ c. with_block_tag write.block tag (mid c)) m b
    → StandsThrough (with_write d write) a b

-- A tag is got, or tags are written back.
abbrev pub TagsKeptLaw : Type 0
TagsKeptLaw = (d : DirectDisk) (g : Geometry) (awaiting : ℕ → Bool) (tags now : Content → ℕ → List ℕ)
    (a b : List Content) → d.geometry ≡ g → KeepsNow d awaiting tags a → WritesBack g tags now a b
    → StandsThrough d a b × KeepsNow d awaiting now b

-- All is flushed: tags are written back, and the disk is synced.
abbrev pub AllFlushedLaw : Type 0
AllFlushedLaw = (d : DirectDisk) (g : Geometry) (awaiting : ℕ → Bool) (tags mid now : Content → ℕ → List ℕ)
    (a m b : List Content) → d.geometry ≡ g → KeepsNow d awaiting tags a → WritesBack g tags mid a m
    → ReadsTagsNow g mid m → Syncs g mid now m b
    → StandsThrough d a b × KeepsNow (after_flush d) awaiting now b

-- So it stands where the sync failed.
abbrev pub SyncFailedLaw : Type 0
SyncFailedLaw = (d : DirectDisk) (g : Geometry) (awaiting : ℕ → Bool) (tags mid : Content → ℕ → List ℕ)
    (a m b : List Content) → d.geometry ≡ g → KeepsNow d awaiting tags a → WritesBack g tags mid a m
    → ReadsImage m → EachSince (λ start c. c ≡ newest_only start) m b → StandsThrough d a b

-- ---- serves, and a close

-- After an event the device is one with this disk. At each moment of the call each image can be opened, and may be left
-- within the event; and at its end by the history then.
pub record KeepsDevice (f : DeviceFormat) (s : DeviceState) (event : Event) (entry : Image)
    (d then_ : DirectDisk) (before after : List Content) : Type 0 where
  pub device : IsDirectDevice f (after_event f s event) then_
  pub through : IsLeftThrough (kind_of d) entry f s event before after
  pub now : IsLeftNow (kind_of d) entry (after_event f s event).history after

-- A block of a write is served, with a flush where that is asked for its last one.
abbrev pub ServedBlockLaw : Type 0
ServedBlockLaw = (f : DeviceFormat) (s : DeviceState) (d : DirectDisk) (k : ℕ) (r : Asked) (first : ℕ)
    (blocks : List (List ℕ)) (fua : Bool) (entry : Image) (awaiting : ℕ → Bool)
    (tags : Content → ℕ → List ℕ) (a b : List Content) → IsDirectDevice f s d → HasBlocksOf entry d
    → IsServed s k r → r.request ≡ Write first blocks fua → let write = next_write k first blocks r.served in
    let then_ = after_block (is_flushed_by r blocks fua) write d in
    StandsThrough (with_write d write) a b → KeepsNow then_ awaiting tags b
    → KeepsDevice f s (Serve (suc k)) entry d then_ a b

-- Where the disk fails in it the write is under way.
abbrev pub FailedBlockLaw : Type 0
FailedBlockLaw = (f : DeviceFormat) (s : DeviceState) (d : DirectDisk) (k : ℕ) (r : Asked) (first : ℕ)
    (blocks : List (List ℕ)) (fua : Bool) (entry : Image) (a b : List Content) → IsDirectDevice f s d
    → HasBlocksOf entry d → IsServed s k r → r.request ≡ Write first blocks fua
    → let write = next_write k first blocks r.served in
    StandsThrough (with_write d write) a b
    → KeepsDevice f s (FailedServe (suc k)) entry d (with_write d write) a b

-- A flush is served,
abbrev pub ServedFlushLaw : Type 0
ServedFlushLaw = (f : DeviceFormat) (s : DeviceState) (d : DirectDisk) (k : ℕ) (r : Asked) (entry : Image)
    (awaiting : ℕ → Bool) (tags : Content → ℕ → List ℕ) (a b : List Content) → IsDirectDevice f s d
    → HasBlocksOf entry d → IsServed s k r → r.request ≡ Flush → StandsThrough d a b
    → KeepsNow (after_flush d) awaiting tags b → KeepsDevice f s (Serve (suc k)) entry d (after_flush d) a b

-- and a device that works is closed,
abbrev pub ServedCloseLaw : Type 0
ServedCloseLaw = (f : DeviceFormat) (s : DeviceState) (d : DirectDisk) (entry : Image) (awaiting : ℕ → Bool)
    (tags : Content → ℕ → List ℕ) (a b : List Content) → IsDirectDevice f s d → HasBlocksOf entry d
    → s.condition ≡ Working → StandsThrough d a b → KeepsNow (after_flush d) awaiting tags b
    → KeepsDevice f s Close entry d (after_flush d) a b

-- and every event that leaves the device on its disk is one of these: a read, one that is quiet, and one in which the disk
-- fails, unless a write is served.
abbrev pub ServedKeptLaw : Type 0
ServedKeptLaw = (f : DeviceFormat) (s : DeviceState) (event : Event) (d : DirectDisk) (entry : Image)
    (a b : List Content) → IsDirectDevice f s d → HasBlocksOf entry d
    → IsDirectDevice f (after_event f s event) d → StandsThrough d a b → KeepsDevice f s event entry d d a b

-- So is a read in which the disk fails,
abbrev pub FailedReadLaw : Type 0
FailedReadLaw = (f : DeviceFormat) (s : DeviceState) (d : DirectDisk) (k : ℕ) (r : Asked) (first count : ℕ)
    → IsDirectDevice f s d → IsServed s k r → r.request ≡ Read first count
    → IsDirectDevice f (after_event f s (FailedServe (suc k))) d

-- and a flush.
abbrev pub FailedFlushLaw : Type 0
FailedFlushLaw = (f : DeviceFormat) (s : DeviceState) (d : DirectDisk) (k : ℕ) (r : Asked)
    → IsDirectDevice f s d → IsServed s k r → r.request ≡ Flush
    → IsDirectDevice f (after_event f s (FailedServe (suc k))) d
