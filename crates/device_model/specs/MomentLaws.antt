-- What holds at each moment: which write is under way; and what recovery mode, a close and a failed disk leave.
use Rattle.std.specs.Prelude.{◌≡◌, ◌≢◌, ◌⊎◌, ℕ, suc, true, false, ◌&&◌, [], ◌∷◌, ◌++◌, length, Some, None, slice_get}
use Rattle.device_model.specs.History.{BlockWrite, History, opened}
use Rattle.device_model.specs.Journal.{SectionCounts, Free}
use Rattle.device_model.specs.Mode.{DeviceFormat, is_journal, is_bitmap, is_recovery}
use Rattle.device_model.specs.Progress.{DeviceState, Working, Broken, Closed, Event, Serve, Take, Close, FailedServe, IsBroken, only_answers, event_result, after_event, IsHistoryWithin}
use Rattle.device_model.specs.Request.{Asked, is_unfinished, writes_of, front_of}
use Rattle.device_model.specs.RequestLaws.{IsReached}

-- The write is that of the next block of an unfinished request that the event serves.
pub record IsNextWrite (s : DeviceState) (event : Event) (write : BlockWrite) : Type 0 where
  pub place : ℕ
  pub serves : (event ≡ Serve (suc place)) ⊎ (event ≡ FailedServe (suc place))
  pub asked : Asked
  pub there : slice_get s.progress.requests place ≡ Some asked
  pub unfinished : is_unfinished asked.state ≡ true
  pub is : writes_of (suc place) (front_of (suc asked.served) asked.request)
      ≡ writes_of (suc place) (front_of asked.served asked.request) ++ write ∷ []

-- Between events nothing is under way, unless the device is broken.
abbrev pub PendingLaw : Type 0
PendingLaw = (f : DeviceFormat) (s : DeviceState) → IsReached f s → s.condition ≢ Broken → s.history.pending ≡ None

-- At a moment of an event the next write of the request that it serves is under way, or nothing.
abbrev pub WithinLaw : Type 0
WithinLaw = (f : DeviceFormat) (s : DeviceState) (event : Event) (h : History) → IsReached f s → s.condition ≢ Broken
    → IsHistoryWithin f s event h
    → (h.pending ≡ None) ⊎ ((write : BlockWrite) × (h.pending ≡ Some write) × IsNextWrite s event write)

-- Only a serve writes.
abbrev pub QuietLaw : Type 0
QuietLaw = (f : DeviceFormat) (s : DeviceState) (event : Event) → ((ticket : ℕ) → event ≢ Serve ticket)
    → (after_event f s event).history.writes ≡ s.history.writes

-- In recovery mode the history stays that of a device that has just been opened.
abbrev pub RecoveryLaw : Type 0
RecoveryLaw = (f : DeviceFormat) (s : DeviceState) → IsReached f s → is_recovery f.mode ≡ true → s.history ≡ opened s.history.base

-- After a close no request is left to serve and all is flushed. With a journal every section is free, all its entries
-- placed. With a bitmap the bits of the regions that await stay set, and no others.
pub record IsClosedDown (f : DeviceFormat) (before after : DeviceState) : Type 0 where
  pub condition : after.condition ≡ Closed
  pub dropped : (k : ℕ) (a : Asked) → slice_get after.progress.requests k ≡ Some a → is_unfinished a.state ≡ false
  pub flushed : after.history.flushed ≡ length after.history.writes
  pub freed : is_journal f.mode ≡ true → (i : ℕ) (s : SectionCounts) → slice_get after.progress.journal.sections i ≡ Some s
      → (s.state ≡ Free) × (s.placed ≡ length s.blocks)
  pub cleaned : is_bitmap f.mode ≡ true → (r : ℕ) → after.progress.regions.set_bits r
      ≡ (before.progress.regions.set_bits r && before.progress.regions.awaiting r)

abbrev pub CloseLaw : Type 0
CloseLaw = (f : DeviceFormat) (s : DeviceState) → IsReached f s → s.condition ≡ Working → IsClosedDown f s (after_event f s Close)

-- A broken device stays so and does nothing. It gives the replies that are done, and answers all other calls with `IsBroken`.
pub record StaysBroken (f : DeviceFormat) (s : DeviceState) (event : Event) : Type 0 where
  pub condition : (after_event f s event).condition ≡ Broken
  pub changes : (event_result f s event).changes ≡ []
  pub takes : (ticket : ℕ) → event ≡ Take ticket → event_result f s event ≡ event_result f (record s { condition = Working }) event
  pub others : ((ticket : ℕ) → event ≢ Take ticket) → event_result f s event ≡ only_answers s.progress IsBroken

abbrev pub BrokenLaw : Type 0
BrokenLaw = (f : DeviceFormat) (s : DeviceState) (event : Event) → s.condition ≡ Broken → StaysBroken f s event
