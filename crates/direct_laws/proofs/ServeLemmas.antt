-- The chains of calls that a device in direct mode makes.
use Rattle.std.proofs.Common.{◌≡◌, ℕ, suc, Bool, true, false, refl, sym, subst, List}
use Rattle.disk_model.specs.Disk.{Content, Image}
use Rattle.device_model.specs.Mode.{DeviceFormat}
use Rattle.device_model.specs.Progress.{DeviceState, Event, Serve, Close, FailedServe, is_flushed_by, after_event}
use Rattle.device_model.specs.Request.{Read, Flush}
use Rattle.place_model.specs.Format.{DiskFormat}
use Rattle.device_model.specs.History.{BlockWrite}
use Rattle.journal_laws.specs.EventLaws.{next_write}
use Rattle.direct_model.specs.DirectDisk.{DirectDisk}
use Rattle.direct_model.specs.Steps.{with_write, after_flush}
use Rattle.direct_laws.specs.CallLaws.{KeepsNow}
use Rattle.direct_laws.specs.Device.{IsDirectDevice}
use Rattle.direct_laws.specs.EventLaws.{after_block}
use Rattle.direct_laws.specs.MomentLaws.{HasBlocksOf, IsLeftNow, kind_of}
use Rattle.direct_laws.specs.ServeLaws.{BlockWrittenLaw, PutFailedLaw, TagsKeptLaw, AllFlushedLaw, SyncFailedLaw, ServedBlockLaw, FailedBlockLaw, ServedFlushLaw, ServedCloseLaw, ServedKeptLaw, FailedReadLaw, FailedFlushLaw}
use Rattle.direct_laws.proofs.CallLemmas.{through_law, data_law, data_done_law, put_law, put_done_law, back_law, back_done_law, sync_law, sync_done_law}
use Rattle.direct_laws.proofs.EventLemmas.{quiet_law, failed-changes, serve_write_law, failed_write_law, serve_flush_law, close_law}
use Rattle.direct_laws.proofs.MomentLemmas.{left_now_law, kept_through_law, written_through_law, failed_now_law}

-- ---- chains of calls

pub put_failed_law : PutFailedLaw
put_failed_law d g write tag awaiting tags mid a m b e is keeps data_ put =
    through_law (with_write d write) a m b (data_law d g write awaiting tags a m e is keeps data_.adds)
    (put_law d g write tag awaiting mid m b e is (data_done_law d g write awaiting tags mid a m e is keeps data_.written data_.gives) put)

pub block_written_law : BlockWrittenLaw
block_written_law d g write tag awaiting tags mid now a m b e is is_tag keeps data_ put = (
  put_failed_law d g write tag awaiting tags mid a m b e is keeps data_ put.adds,
  put_done_law d g write tag awaiting mid now m b e is is_tag (data_done_law d g write awaiting tags mid a m e is keeps data_.written data_.gives) put.adds put.others put.gives,
)

pub tags_kept_law : TagsKeptLaw
tags_kept_law d g awaiting tags now a b e keeps back =
    (back_law d g awaiting tags a b e keeps back.adds, back_done_law d g awaiting tags now a b e keeps back.adds back.others back.gives)

pub sync_failed_law : SyncFailedLaw
sync_failed_law d g awaiting tags mid a m b e keeps back image synced =
    let first = back_law d g awaiting tags a m e keeps back.adds in
    through_law d a m b first (sync_law d m b first.now image synced)

pub all_flushed_law : AllFlushedLaw
all_flushed_law d g awaiting tags mid now a m b e keeps back reads sync = (
  sync_failed_law d g awaiting tags mid a m b e keeps back sync.image sync.adds,
  sync_done_law d g awaiting mid now m b e (back_done_law d g awaiting tags mid a m e keeps back.adds back.others back.gives) sync.image reads sync.synced sync.gives,
)

-- ---- serves, and a close

-- At the end the images are those of the disk then, whose format is the same.
left_then : (f : DeviceFormat) (s : DeviceState) (event : Event) (d then_ : DirectDisk) (entry : Image) (awaiting : ℕ → Bool) (tags : Content → ℕ → List ℕ) (b : List Content) → then_.format ≡ d.format → HasBlocksOf entry d
    → IsDirectDevice f (after_event f s event) then_ → KeepsNow then_ awaiting tags b → IsLeftNow (kind_of d) entry (after_event f s event).history b
left_then f s event d then_ entry awaiting tags b format same is keeps =
    subst (λ (x : DiskFormat). IsLeftNow (kind_of (record d { format = x })) entry (after_event f s event).history b) format
    (left_now_law f (after_event f s event) then_ entry b is (subst (λ (x : DiskFormat). HasBlocksOf entry (record d { format = x })) (sym format) same) (λ c told. (keeps c told).stands))

after_block-format : (t : Bool) (write : BlockWrite) (d : DirectDisk) → (after_block t write d).format ≡ d.format
after_block-format true write d = refl
after_block-format false write d = refl

pub served_block_law : ServedBlockLaw
served_block_law f s d k r first blocks fua entry awaiting tags a b is same served e through keeps =
    let write = next_write k first blocks r.served in
    let t = is_flushed_by r blocks fua in
    let device = (serve_write_law f s d k r first blocks fua is served e).1 in
    record {
      device = device;
      through = (written_through_law f s d k r first blocks fua entry a b is same served e through).0;
      now = left_then f s (Serve (suc k)) d (after_block t write d) entry awaiting tags b (after_block-format t write d) same device keeps;
    }

pub failed_block_law : FailedBlockLaw
failed_block_law f s d k r first blocks fua entry a b is same served e through = record {
  device = (failed_write_law f s d k r first blocks fua is served e).1;
  through = (written_through_law f s d k r first blocks fua entry a b is same served e through).1;
  now = failed_now_law f s d k r first blocks fua entry b is same served e through.now;
}

pub served_flush_law : ServedFlushLaw
served_flush_law f s d k r entry awaiting tags a b is same served e through keeps =
    let device = serve_flush_law f s d k r is served e in
    record {
      device = device;
      through = (kept_through_law f s (Serve (suc k)) d entry a b is same through).0;
      now = left_then f s (Serve (suc k)) d (after_flush d) entry awaiting tags b refl same device keeps;
    }

pub served_close_law : ServedCloseLaw
served_close_law f s d entry awaiting tags a b is same works through keeps =
    let device = close_law f s d is works in
    record {
      device = device;
      through = (kept_through_law f s Close d entry a b is same through).0;
      now = left_then f s Close d (after_flush d) entry awaiting tags b refl same device keeps;
    }

pub served_kept_law : ServedKeptLaw
served_kept_law f s event d entry a b is same device through = record {
  device = device;
  through = (kept_through_law f s event d entry a b is same through).0;
  now = left_now_law f (after_event f s event) d entry b device same through.now;
}

pub failed_read_law : FailedReadLaw
failed_read_law f s d k r first count is served e = quiet_law f s (FailedServe (suc k)) d is (failed-changes f s d k r is served (Read first count) e)

pub failed_flush_law : FailedFlushLaw
failed_flush_law f s d k r is served e = quiet_law f s (FailedServe (suc k)) d is (failed-changes f s d k r is served Flush e)
