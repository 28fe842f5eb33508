-- A device in direct mode at opening, through each event, and while its position moves.
use Rattle.std.proofs.Common.{◌≡◌, ℕ, zero, suc, ◌*◌, Bool, true, false, if◌then◌else◌, refl, sym, ◌∙◌, ap, subst, arith, Option, Some, None, List, [], ◌∷◌, ◌++◌, length, take, append-nil, length-append}
use Rattle.std.specs.Option.{option_to_list}
use Rattle.std.proofs.lemmas.List.{take_all}
use Rattle.disk_model.specs.Disk.{Image}
use Rattle.image_model.specs.declared.flags.TheConstants.{DIRTY_BITMAP}
use Rattle.image_model.specs.Cells.{Cell, block_tag}
use Rattle.image_model.specs.Superblock.{has_flag}
use Rattle.image_model.proofs.BitmapLemmas.{awaits-journal, region_awaits_found}
use Rattle.device_model.specs.History.{Tagger, BlockWrite, History, Change, Begun, Written, Flushed, with_change, with_changes}
use Rattle.device_model.specs.Mode.{DeviceFormat, Direct}
use Rattle.device_model.specs.Progress.{Condition, Working, Broken, Closed, DeviceState, Event, working_result, result_in, event_result, after_event}
use Rattle.device_model.specs.RequestLaws.{IsReached}
use Rattle.device_model.proofs.EventLemmas.{Serves, IsServing-reached}
use Rattle.device_model.proofs.MomentLemmas.{EventChanges, Nothing, AFlush, AWrite, ABegun, working-changes, broken-changes, pending_law}
use Rattle.device_model.proofs.ReachedLemmas.{IsReached-opened, IsReached-event}
use Rattle.place_model.specs.Format.{DiskFormat, placed_on, cells_on}
use Rattle.place_model.specs.Opened.{device_format, awaiting_on}
use Rattle.direct_model.specs.DirectDisk.{DirectDisk}
use Rattle.direct_model.specs.Opening.{placed_disk, opened_disk}
use Rattle.direct_model.specs.Steps.{with_write, after_flush, IsHistoryOf}
use Rattle.direct_laws.specs.Device.{MayAwait, IsDirectDevice, after_changes, BeginningLaw, PlacedOpeningLaw, OpeningLaw, MovedDeviceLaw}
use Rattle.direct_laws.specs.EventLaws.{EventLaw}
use Rattle.direct_laws.proofs.CountLemmas.{KeepsCounts, counts_kept}

-- ---- the format

module _ (f : DeviceFormat) (d : DiskFormat) (is : f ≡ device_format Direct d) where
  pub mode-is : f.mode ≡ Direct
  mode-is = ap (λ (x : DeviceFormat). x.mode) is

  pub blocks-is : f.blocks.blocks ≡ d.geometry.blocks
  blocks-is = ap (λ (x : DeviceFormat). x.blocks.blocks) is

  pub block_size-is : f.blocks.block_size ≡ 512 * d.geometry.shape.spb
  block_size-is = ap (λ (x : DeviceFormat). x.blocks.block_size) is

-- ---- changes

-- They leave the format.
pub after_changes-format : (changes : List Change) (d : DirectDisk) → (after_changes changes d).format ≡ d.format
after_changes-format [] d = refl
after_changes-format (Begun write ∷ changes) d = after_changes-format changes (with_write d write)
after_changes-format (Written write ∷ changes) d = after_changes-format changes d
after_changes-format (Flushed ∷ changes) d = after_changes-format changes (after_flush d)

-- So is the journal.
pub after_changes-journal : (changes : List Change) (d : DirectDisk) → (after_changes changes d).journal ≡ d.journal
after_changes-journal [] d = refl
after_changes-journal (Begun write ∷ changes) d = after_changes-journal changes (with_write d write)
after_changes-journal (Written write ∷ changes) d = after_changes-journal changes d
after_changes-journal (Flushed ∷ changes) d = after_changes-journal changes (after_flush d)

MayAwait-changes : (changes : List Change) (d : DirectDisk) (region : ℕ) → MayAwait d region → MayAwait (after_changes changes d) region
MayAwait-changes [] d region may = may
MayAwait-changes (Begun write ∷ changes) d region may = MayAwait-changes changes (with_write d write) region (record { block = may.block; inside = may.inside; is = may.is; to_recalculate = may.to_recalculate })
MayAwait-changes (Written write ∷ changes) d region may = MayAwait-changes changes d region may
MayAwait-changes (Flushed ∷ changes) d region may = MayAwait-changes changes (after_flush d) region (record { block = may.block; inside = may.inside; is = may.is; to_recalculate = may.to_recalculate })

-- ---- the history

pub history-begun : (d : DirectDisk) (h : History) (write : BlockWrite) → h.pending ≡ None → IsHistoryOf d h → IsHistoryOf (with_write d write) (with_change h (Begun write))
history-begun d h write idle is = record {
  base = is.base;
  writes = ap (λ (ws : List BlockWrite). ws ++ write ∷ []) (is.writes ∙ ap (λ (o : Option BlockWrite). h.writes ++ option_to_list o) idle ∙ append-nil h.writes);
  flushed = is.flushed;
  flushed_low = is.flushed_low;
}

history-written : (d : DirectDisk) (h : History) (write : BlockWrite) → h.pending ≡ Some write → IsHistoryOf d h → IsHistoryOf d (with_change h (Written write))
history-written d h write pending is = record {
  base = is.base;
  writes = is.writes ∙ ap (λ (o : Option BlockWrite). h.writes ++ option_to_list o) pending ∙ sym (append-nil (h.writes ++ write ∷ []));
  flushed = is.flushed;
  flushed_low = let low = is.flushed_low in omega (arith, low, length-append h.writes (write ∷ []));
}

history-flushed : (d : DirectDisk) (h : History) → h.pending ≡ None → IsHistoryOf d h → IsHistoryOf (after_flush d) (with_change h Flushed)
history-flushed d h idle is = record {
  base = is.base;
  writes = is.writes;
  flushed = ap length (is.writes ∙ ap (λ (o : Option BlockWrite). h.writes ++ option_to_list o) idle ∙ append-nil h.writes);
  flushed_low = omega arith;
}

-- After the first changes of an event the history is that of the disk then.
module _ (d : DirectDisk) (h : History) (is : IsHistoryOf d h) where
  abbrev IsAfter : List Change → Type 0
  IsAfter changes = IsHistoryOf (after_changes changes d) (with_changes changes h)

  after_none : (kept : ℕ) → IsAfter (take kept [])
  after_none zero = is
  after_none (suc kept) = is

  after_write : (write : BlockWrite) (fua : Bool) → h.pending ≡ None → (kept : ℕ) → IsAfter (take kept (Begun write ∷ Written write ∷ (if fua then Flushed ∷ [] else [])))
  after_write write fua idle zero = is
  after_write write fua idle (suc zero) = history-begun d h write idle is
  after_write write false idle (suc (suc zero)) = history-written (with_write d write) (with_change h (Begun write)) write refl (history-begun d h write idle is)
  after_write write false idle (suc (suc (suc kept))) = history-written (with_write d write) (with_change h (Begun write)) write refl (history-begun d h write idle is)
  after_write write true idle (suc (suc zero)) = history-written (with_write d write) (with_change h (Begun write)) write refl (history-begun d h write idle is)
  after_write write true idle (suc (suc (suc zero))) =
      history-flushed (with_write d write) (with_change (with_change h (Begun write)) (Written write)) refl
      (history-written (with_write d write) (with_change h (Begun write)) write refl (history-begun d h write idle is))
  after_write write true idle (suc (suc (suc (suc kept)))) =
      history-flushed (with_write d write) (with_change (with_change h (Begun write)) (Written write)) refl
      (history-written (with_write d write) (with_change h (Begun write)) write refl (history-begun d h write idle is))

  after_one_flush : h.pending ≡ None → (kept : ℕ) → IsAfter (take kept (Flushed ∷ []))
  after_one_flush idle zero = is
  after_one_flush idle (suc zero) = history-flushed d h idle is
  after_one_flush idle (suc (suc kept)) = history-flushed d h idle is

  after_begun : (write : BlockWrite) → h.pending ≡ None → (kept : ℕ) → IsAfter (take kept (Begun write ∷ []))
  after_begun write idle zero = is
  after_begun write idle (suc zero) = history-begun d h write idle is
  after_begun write idle (suc (suc kept)) = history-begun d h write idle is

  after_event_changes : (s : DeviceState) (event : Event) (changes : List Change) → EventChanges s event changes → h.pending ≡ None → (kept : ℕ) → IsAfter (take kept changes)
  after_event_changes s event changes (Nothing e) idle kept = subst (λ (xs : List Change). IsAfter (take kept xs)) (sym e) (after_none kept)
  after_event_changes s event changes (AFlush e) idle kept = subst (λ (xs : List Change). IsAfter (take kept xs)) (sym e) (after_one_flush idle kept)
  after_event_changes s event changes (AWrite write fua next e) idle kept = subst (λ (xs : List Change). IsAfter (take kept xs)) (sym e) (after_write write fua idle kept)
  after_event_changes s event changes (ABegun write next breaks e) idle kept = subst (λ (xs : List Change). IsAfter (take kept xs)) (sym e) (after_begun write idle kept)

-- ---- events

pub serving-works : (f : DeviceFormat) (s : DeviceState) → IsReached f s → s.condition ≡ Working → Serves f s.history.base Working s.history s.progress
serving-works f s reached works = subst (λ (c : Condition). Serves f s.history.base c s.history s.progress) works (IsServing-reached f s reached)

pub idle-works : (f : DeviceFormat) (s : DeviceState) → IsReached f s → s.condition ≡ Working → s.history.pending ≡ None
idle-works f s reached works = pending_law f s reached (λ broken. let wrong : Working ≡ Broken = sym works ∙ broken in cc)

module _ (f : DeviceFormat) (s : DeviceState) (event : Event) (d : DirectDisk) (is : IsDirectDevice f s d) where
  abbrev IsThen : List Change → Type 0
  IsThen changes = IsHistoryOf (after_changes changes d) (with_changes changes s.history)

  history-in : (c : Condition) → s.condition ≡ c → (kept : ℕ) → IsThen (take kept (result_in f s c event).changes)
  history-in Working e kept =
      after_event_changes d s.history is.history s event (working_result f s event).changes (working-changes f s.history.base s event (serving-works f s is.reached e)) (idle-works f s is.reached e) kept
  history-in Broken e kept = subst (λ (xs : List Change). IsThen (take kept xs)) (sym (broken-changes s.progress event)) (after_none d s.history is.history kept)
  history-in Closed e kept = after_none d s.history is.history kept

  pub history-within : (kept : ℕ) → IsHistoryOf (after_changes (take kept (event_result f s event).changes) d) (with_changes (take kept (event_result f s event).changes) s.history)
  history-within kept = history-in s.condition refl kept

  history-after : IsHistoryOf (after_changes (event_result f s event).changes d) (with_changes (event_result f s event).changes s.history)
  history-after =
      let changes = (event_result f s event).changes in
      subst IsThen (take_all (length changes) changes (omega arith)) (history-within (length changes))

  counts : KeepsCounts s.progress (event_result f s event)
  counts = subst (λ (x : DeviceFormat). KeepsCounts s.progress (event_result x s event)) (sym is.format) (counts_kept d.format s is.unused event)

  pub event_keeps : IsDirectDevice f (after_event f s event) (after_changes (event_result f s event).changes d)
  event_keeps =
      let changes = (event_result f s event).changes in
      record {
        reached = IsReached-event f s event is.reached;
        format = is.format ∙ ap (device_format Direct) (sym (after_changes-format changes d));
        history = history-after;
        unused = counts.unused;
        awaiting = λ region waits. MayAwait-changes changes d region (is.awaiting region (counts.awaiting region waits));
      }

pub event_law : EventLaw
event_law f s event d is = event_keeps f s event d is

-- ---- opening, and the position

pub beginning_law : BeginningLaw
beginning_law f d base next set_bits awaiting format none unflushed same may = record {
  reached = IsReached-opened f base next set_bits awaiting;
  format = format;
  history = record { base = same; writes = none; flushed = unflushed; flushed_low = omega arith };
  unused = refl;
  awaiting = may;
}

-- A region that awaits at opening has a block to be recalculated, where there is no bitmap.
may_await : (d : DiskFormat) (image : Image) (base : ℕ → Cell) → has_flag DIRTY_BITMAP d.superblock.flags ≡ false
    → (region : ℕ) → awaiting_on Direct d image region ≡ true → MayAwait (record { format = d; journal = image; base = base; writes = []; flushed = 0 }) region
may_await d image base clear region waits =
    let found = region_awaits_found d.superblock d.geometry image region waits in
    record {
      block = found.0;
      inside = found.1;
      is = found.2;
      to_recalculate = sym (awaits-journal d.superblock d.geometry image found.0 clear) ∙ found.3;
    }

pub placed_opening_law : PlacedOpeningLaw
placed_opening_law d image clear =
    beginning_law (device_format Direct d) (placed_disk d image) _ _ _ _ refl refl refl (λ b low. refl) (may_await d image (placed_on d image) clear)

pub opening_law : OpeningLaw
opening_law d image clear =
    beginning_law (device_format Direct d) (opened_disk d image) _ _ _ _ refl refl refl (λ b low. refl) (may_await d image (cells_on d image) clear)

pub moved_device_law : MovedDeviceLaw
moved_device_law f s d fields is moved passes = record {
  reached = is.reached;
  format = is.format ∙ ap (λ (tag : Tagger). let g : DeviceFormat = record (device_format Direct d.format) { blocks = record (device_format Direct d.format).blocks { tag = tag } } in g)
      (ap (λ (salt : Option (List ℕ)). let tag : Tagger = λ (b : ℕ) (bytes : List ℕ). block_tag d.key salt d.geometry (b * d.geometry.shape.spb) bytes in tag) (sym moved.same_salt));
  history = record { base = is.history.base; writes = is.history.writes; flushed = is.history.flushed; flushed_low = is.history.flushed_low };
  unused = is.unused;
  awaiting = λ region waits.
      let may = is.awaiting region waits in
      record {
        block = may.block;
        inside = may.inside;
        is = may.is;
        to_recalculate = passes may.block may.inside (ap s.progress.regions.awaiting may.is ∙ waits) ∙ may.to_recalculate;
      };
}
