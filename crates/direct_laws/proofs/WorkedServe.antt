-- How the laws join in one call: the last block of a write that is to be flushed, call by call as code makes it, where each of
-- them succeeds or fails; and a block that is read.
use Rattle.std.proofs.Common.{◌≡◌, ℕ, suc, ◌<◌, true, false, refl, sym, ◌∙◌, ap, subst, Bool, List, [], ◌∷◌, length, replicate}
use Rattle.std.proofs.lemmas.Option.{same_Some}
use Rattle.disk_model.specs.Disk.{Content, Image, AddsSome, Reads, last_image, newest_only, with_run}
use Rattle.disk_model.specs.Moments.{EachSince, HasNow}
use Rattle.disk_model.proofs.DiskLemmas.{AddsSome-all}
use Rattle.disk_model.proofs.MomentsLemmas.{no_moment}
use Rattle.image_model.specs.Cells.{Cell, placed_cells_of}
use Rattle.image_model.specs.Geometry.{data_at}
use Rattle.device_model.specs.History.{BlockWrite, cells_now}
use Rattle.device_model.specs.Mode.{Direct, DeviceFormat}
use Rattle.device_model.specs.Progress.{DeviceState, Submit, Serve, FailedServe, is_flushed_by, after_event}
use Rattle.device_model.specs.Reply.{block_reply}
use Rattle.device_model.specs.Request.{Request, Read, Write, Asked, newly_asked}
use Rattle.device_model.specs.Serial.{readable_cells}
use Rattle.device_model.specs.Submission.{Submission}
use Rattle.place_model.specs.Blocks.{IsBlockWrite}
use Rattle.place_model.specs.Format.{tagger_of}
use Rattle.place_model.specs.Opened.{awaiting_on, blocks_of, opened_placed}
use Rattle.place_model.specs.Tags.{with_block_tag}
use Rattle.place_model.proofs.FormatLemmas.{format_on-read}
use Rattle.place_model.proofs.WorkedDisk.{journal_format, zeros_journal, IsReadAs-zeros}
use Rattle.journal_laws.specs.EventLaws.{IsServed, next_write}
use Rattle.direct_model.specs.DirectDisk.{DirectDisk}
use Rattle.direct_model.specs.Steps.{with_write, after_flush}
use Rattle.direct_model.proofs.WorkedDisk.{zeros, zeros_content}
use Rattle.direct_laws.specs.CallLaws.{AddsTags, KeepsNow, ReadsImage, ReadsTagsNow, StandsThrough}
use Rattle.direct_laws.specs.Device.{IsDirectDevice}
use Rattle.direct_laws.specs.EventLaws.{after_block}
use Rattle.direct_laws.specs.MomentLaws.{HasBlocksOf}
use Rattle.direct_laws.specs.ReadLaws.{KeepsCells, awaits_tag}
use Rattle.direct_laws.specs.ServeLaws.{WritesData, PutsTag, WritesBack, Syncs, KeepsDevice}
use Rattle.direct_laws.proofs.CallLemmas.{through_law, data_law, back_law, block_read_law}
use Rattle.direct_laws.proofs.EventLemmas.{quiet_events_law, serve_write_law, serve_read_law}
use Rattle.direct_laws.proofs.ServeLemmas.{put_failed_law, block_written_law, tags_kept_law, sync_failed_law, all_flushed_law, served_block_law, failed_block_law, served_kept_law}
use Rattle.direct_laws.proofs.Worked.{format, IsDirectDevice-zeros, KeepsCells-zeros}

-- ---- a write that is to be flushed

-- The moments are those at the start, and after each of four calls; the tags are those that the store gives then.
module _ (f : DeviceFormat) (s : DeviceState) (d : DirectDisk) (k : ℕ) (r : Asked) (first : ℕ) (blocks : List (List ℕ)) (entry : Image) (at_start tags_data tags_put tags_back tags_synced : Content → ℕ → List ℕ)
    (start data_ put back synced : List Content) (is : IsDirectDevice f s d) (same : HasBlocksOf entry d) (served : IsServed s k r) (request : r.request ≡ Write first blocks true)
    (last : is_flushed_by r blocks true ≡ true) (keeps : KeepsNow d s.progress.regions.awaiting at_start start) where
  abbrev write : BlockWrite
  write = next_write k first blocks r.served

  abbrev tag : List ℕ
  tag = tagger_of d.format write.block write.bytes

  abbrev awaiting : ℕ → Bool
  awaiting = s.progress.regions.awaiting

  is_write : IsBlockWrite d.geometry write
  is_write = (serve_write_law f s d k r first blocks true is served request).0

  -- Where a call fails the write is under way, if the disk stands for the one with it at each moment up to then.
  fails : (after : List Content) → StandsThrough (with_write d write) start after → KeepsDevice f s (FailedServe (suc k)) entry d (with_write d write) start after
  fails after through = failed_block_law f s d k r first blocks true entry start after is same served request through

  -- The bytes cannot be written.
  data_fails : EachSince (AddsSome (data_at d.geometry write.block) write.bytes) start data_ → KeepsDevice f s (FailedServe (suc k)) entry d (with_write d write) start data_
  data_fails adds = fails data_ (data_law d d.geometry write awaiting at_start start data_ refl is_write keeps adds)

  module _ (writes : WritesData d.geometry write at_start tags_data start data_) where
    -- They are, and the tag cannot be put.
    put_fails : AddsTags d.geometry tags_data (λ c. with_block_tag write.block tag (tags_data c)) data_ put → KeepsDevice f s (FailedServe (suc k)) entry d (with_write d write) start put
    put_fails adds = fails put (put_failed_law d d.geometry write tag awaiting at_start tags_data start data_ put refl is_write keeps writes adds)

    module _ (puts : PutsTag d.geometry write.block tag tags_data tags_put data_ put) where
      -- It is, so the block is written.
      written : StandsThrough (with_write d write) start put × KeepsNow (with_write d write) awaiting tags_put put
      written = block_written_law d d.geometry write tag awaiting at_start tags_data tags_put start data_ put refl is_write refl keeps writes puts

      -- Tags cannot be written back.
      back_fails : AddsTags d.geometry tags_put tags_put put back → KeepsDevice f s (FailedServe (suc k)) entry d (with_write d write) start back
      back_fails adds = fails back (through_law (with_write d write) start put back written.0 (back_law (with_write d write) d.geometry awaiting tags_put put back refl written.1 adds))

      module _ (kept : WritesBack d.geometry tags_put tags_back put back) (in_place : ReadsTagsNow d.geometry tags_back back) where
        -- They are, and the sync fails.
        sync_fails : ReadsImage back → EachSince (λ before c. c ≡ newest_only before) back synced → KeepsDevice f s (FailedServe (suc k)) entry d (with_write d write) start synced
        sync_fails image adds =
            fails synced
            (through_law (with_write d write) start put synced written.0
            (sync_failed_law (with_write d write) d.geometry awaiting tags_put tags_back put back synced refl written.1 kept image adds))

        -- All is flushed, and the call is done.
        module _ (syncs : Syncs d.geometry tags_back tags_synced back synced) where
          flushed : StandsThrough (with_write d write) put synced × KeepsNow (after_flush (with_write d write)) awaiting tags_synced synced
          flushed = all_flushed_law (with_write d write) d.geometry awaiting tags_put tags_back tags_synced put back synced refl written.1 kept in_place syncs

          at_end : KeepsNow (after_block (is_flushed_by r blocks true) write d) awaiting tags_synced synced
          at_end = subst (λ (t : Bool). KeepsNow (after_block t write d) awaiting tags_synced synced) (sym last) flushed.1

          is_done : KeepsDevice f s (Serve (suc k)) entry d (after_block (is_flushed_by r blocks true) write d) start synced
          is_done = served_block_law f s d k r first blocks true entry awaiting tags_synced start synced is same served request (through_law (with_write d write) start put synced written.0 flushed.0) at_end

-- ---- a block that is read

-- Its bytes are read first, which is no moment, and then its tag is got.
module _ (f : DeviceFormat) (s : DeviceState) (d : DirectDisk) (k : ℕ) (r : Asked) (first count : ℕ) (entry : Image) (tags tags_got : Content → ℕ → List ℕ) (start got : List Content)
    (b : ℕ) (bytes tag : List ℕ) (is : IsDirectDevice f s d) (same : HasBlocksOf entry d) (served : IsServed s k r) (request : r.request ≡ Read first count)
    (keeps : KeepsNow d s.progress.regions.awaiting tags start) (low : b < f.blocks.blocks) (rests : awaits_tag d s.progress.regions.awaiting b ≡ false) (size : length bytes ≡ f.blocks.block_size)
    (reads : HasNow (Reads (data_at d.geometry b) bytes) start) (is_tag : HasNow (λ c. tag ≡ tags c b) start) (kept : WritesBack d.geometry tags tags_got start got) where
  abbrev cell : Cell
  cell = record { bytes = bytes; tag = tag }

  abbrev told : Cell
  told = readable_cells f (cells_now f.blocks.tag s.history) b

  is_cell : HasNow (λ c. (told ≡ cell) × (block_reply f.blocks.tag b told ≡ block_reply (tagger_of d.format) b cell)) start
  is_cell = block_read_law f s d s.progress.regions.awaiting tags start b bytes tag is served.works keeps low rests size reads is_tag

  read_is_done : KeepsDevice f s (Serve (suc k)) entry d d start got
  read_is_done =
      served_kept_law f s (Serve (suc k)) d entry start got is same (serve_read_law f s d k r first count is served request)
      (tags_kept_law d d.geometry s.progress.regions.awaiting tags tags_got start got refl keeps kept).0

-- ---- on the disk whose journal is zeros

-- A write of block 5, not to be flushed, by a store that keeps all tags in memory.
abbrev submitted : DeviceState
submitted = after_event format (opened_placed journal_format zeros_journal) (Submit (Submission.Write 5 1 (replicate 512 0xaa) false))

IsDirectDevice-submitted : IsDirectDevice format submitted zeros
IsDirectDevice-submitted =
    quiet_events_law format (opened_placed journal_format zeros_journal) (Submit (Submission.Write 5 1 (replicate 512 0xaa) false)) zeros IsDirectDevice-zeros tt

abbrev asked : Asked
asked = newly_asked (Request.Write 5 (replicate 512 0xaa ∷ []) false) (replicate 512 0xaa)

IsServed-block : IsServed submitted 0 asked
IsServed-block = record { works = refl; there = refl; unfinished = refl; unheld = refl }

abbrev block : BlockWrite
block = next_write 0 5 (replicate 512 0xaa ∷ []) 0

abbrev block_tag : List ℕ
block_tag = tagger_of journal_format block.block block.bytes

abbrev zeros_tags : Content → ℕ → List ℕ
zeros_tags c b = (placed_cells_of journal_format.geometry zeros_journal b).tag

abbrev put_tags : Content → ℕ → List ℕ
put_tags c = with_block_tag 5 block_tag (zeros_tags c)

-- Its bytes are written by one call, which makes one moment.
abbrev before : List Content
before = zeros_content ∷ []

abbrev after : List Content
after = with_run (data_at journal_format.geometry 5) block.bytes zeros_content ∷ before

KeepsNow-before : KeepsNow zeros (awaiting_on Direct journal_format zeros_journal) zeros_tags before
KeepsNow-before c told = subst (λ (x : Content). KeepsCells zeros (awaiting_on Direct journal_format zeros_journal) (zeros_tags x) x) (same_Some zeros_content c told) KeepsCells-zeros

WritesData-block : WritesData journal_format.geometry block zeros_tags zeros_tags before after
WritesData-block = record {
  written = refl;
  adds = record { since = with_run (data_at journal_format.geometry 5) block.bytes zeros_content ∷ []; grows = refl; each = (AddsSome-all (data_at journal_format.geometry 5) block.bytes zeros_content, tt) };
  gives = λ start told c told_c b low. refl;
}

PutsTag-block : PutsTag journal_format.geometry 5 block_tag zeros_tags put_tags after after
PutsTag-block = record {
  adds = no_moment after _;
  others = λ start told c told_c. record { each = λ sector none. ap (λ (x : Content). last_image x sector) (same_Some c start (sym told_c ∙ told)) };
  gives = λ start told c told_c b low. refl;
}

HasBlocksOf-zeros : HasBlocksOf zeros_journal zeros
HasBlocksOf-zeros = ap blocks_of (sym (format_on-read journal_format zeros_journal IsReadAs-zeros))

-- The device is one on the disk with the write, and each image at each moment may be left, and can be opened.
pub KeepsDevice-block : KeepsDevice format submitted (Serve 1) zeros_journal zeros (with_write zeros block) before after
KeepsDevice-block =
    let written =
    block_written_law zeros journal_format.geometry block block_tag (awaiting_on Direct journal_format zeros_journal) zeros_tags zeros_tags put_tags before after after refl
    (serve_write_law format submitted zeros 0 asked 5 (replicate 512 0xaa ∷ []) false IsDirectDevice-submitted IsServed-block refl).0 refl KeepsNow-before WritesData-block PutsTag-block in
    served_block_law format submitted zeros 0 asked 5 (replicate 512 0xaa ∷ []) false zeros_journal (awaiting_on Direct journal_format zeros_journal) put_tags before after IsDirectDevice-submitted HasBlocksOf-zeros
    IsServed-block refl written.0 written.1
