-- Recovery mode, and what a close leaves.
use Rattle.std.proofs.Common.{◌≡◌, ℕ, zero, suc, Bool, true, false, ◌&&◌, List, [], ◌∷◌, ◌++◌, length, map, if◌then◌else◌, Some, slice_get, refl, sym, ◌∙◌, ap, subst}
use Rattle.std.proofs.lemmas.Bool.{both_ways, false≢true}
use Rattle.std.proofs.lemmas.Option.{none-some, same_Some}
use Rattle.device_model.specs.History.{BlockWrite, History, Change, Flushed, opened, with_change, with_changes}
use Rattle.device_model.specs.Journal.{SectionCounts, Free, as_freed}
use Rattle.device_model.specs.Mode.{Mode, Journal, Bitmap, Direct, Recovery, DeviceFormat, is_journal, is_bitmap, is_recovery}
use Rattle.device_model.specs.MomentLaws.{IsNextWrite, RecoveryLaw, CloseLaw}
use Rattle.device_model.specs.Progress.{Progress, Condition, Working, Broken, Closed, DeviceState, Event, Close, EventResult, with_dropped, with_finished, close, working_result, result_in, event_result, condition_after}
use Rattle.device_model.specs.Request.{Request, Read, Write, Flush, Asked, RequestState, Unfinished, Finished, Taken, Dropped, is_unfinished, as_dropped, writes_of, front_of}
use Rattle.device_model.specs.RequestLaws.{IsReached}
use Rattle.device_model.specs.Submission.{Submission, request_in}
use Rattle.device_model.specs.SubmissionLaws.{IsFitting}
use Rattle.device_model.proofs.EventLemmas.{Serves, IsServing-reached, requests-finished}
use Rattle.device_model.proofs.KeptLemmas.{accepted_law}
use Rattle.device_model.proofs.MomentLemmas.{EventChanges, Nothing, AFlush, AWrite, ABegun, working-changes, broken-changes}
use Rattle.device_model.proofs.ReachedLemmas.{reached-all}
use Rattle.device_model.proofs.SubmissionLemmas.{result-working}

-- ---- recovery mode

one_more : (writes : List BlockWrite) (write : BlockWrite) → [] ≡ writes ++ write ∷ [] → ⊥
one_more [] write same = cc
one_more (w ∷ writes) write same = cc

-- A request that writes is not one of recovery mode.
writes_nothing : (f : DeviceFormat) (submission : Submission) (r : Request) (k n : ℕ) (write : BlockWrite) → is_recovery f.mode ≡ true → IsFitting f submission
    → r ≡ request_in f.blocks.block_size submission
    → writes_of (suc k) (front_of (suc n) r) ≡ writes_of (suc k) (front_of n r) ++ write ∷ [] → ⊥
writes_nothing f submission (Read first count) k n write recovery fits is more = one_more [] write more
writes_nothing f submission Flush k n write recovery fits is more = one_more [] write more
writes_nothing f (Submission.Read first count buffer) (Write from blocks fua) k n write recovery fits is more = cc
writes_nothing f Submission.Flush (Write from blocks fua) k n write recovery fits is more = cc
writes_nothing f (Submission.Write first count bytes fua) (Write from blocks fua') k n write recovery fits is more = both_ways (is_recovery f.mode) fits.0 recovery

module _ (f : DeviceFormat) (recovery : is_recovery f.mode ≡ true) where
  nothing_next : (s : DeviceState) → IsReached f s → (event : Event) (write : BlockWrite) → IsNextWrite s event write → ⊥
  nothing_next s reached event write next =
      let accepted = (accepted_law f s reached next.place next.asked next.there).0 in
      writes_nothing f accepted.submission next.asked.request next.place next.asked.served write recovery accepted.fitting accepted.request next.is

  IsFresh : History → Type 0
  IsFresh h = h ≡ opened h.base

  fresh-changes : (s : DeviceState) → IsReached f s → (event : Event) (changes : List Change) → EventChanges s event changes → IsFresh s.history → IsFresh (with_changes changes s.history)
  unfolding IsFresh
  fresh-changes s reached event changes (Nothing is) fresh = subst (λ (l : List Change). with_changes l s.history ≡ opened (with_changes l s.history).base) (sym is) fresh
  fresh-changes s reached event changes (AFlush is) fresh =
      subst (λ (l : List Change). with_changes l s.history ≡ opened (with_changes l s.history).base) (sym is) (ap (λ (h : History). with_change h Flushed) fresh)
  fresh-changes s reached event changes (AWrite write fua next is) fresh = absurd (nothing_next s reached event write next)
  fresh-changes s reached event changes (ABegun write next breaks is) fresh = absurd (nothing_next s reached event write next)

  fresh-in : (c : Condition) (s : DeviceState) → IsReached f s → Serves f s.history.base c s.history s.progress → (event : Event) → IsFresh s.history
      → IsFresh (with_changes (result_in f s c event).changes s.history)
  unfolding IsFresh
  fresh-in Working s reached serving event fresh =
      fresh-changes s reached event (working_result f s event).changes (working-changes f s.history.base s event serving) fresh
  fresh-in Broken s reached serving event fresh =
      subst (λ (l : List Change). with_changes l s.history ≡ opened (with_changes l s.history).base) (sym (broken-changes s.progress event)) fresh
  fresh-in Closed s reached serving event fresh = fresh

  pub IsFresh-reached : (s : DeviceState) → IsReached f s → s.history ≡ opened s.history.base
  unfolding IsFresh
  IsFresh-reached s reached =
      reached-all f (λ t. IsFresh t.history) (λ base next set_bits awaiting. refl)
      (λ t event t_reached fresh. fresh-in t.condition t t_reached (IsServing-reached f t t_reached) event fresh) s reached

pub recovery_law : RecoveryLaw
recovery_law f s reached recovery = IsFresh-reached f recovery s reached

-- ---- close

as_dropped-over : (a : Asked) (state : RequestState) → is_unfinished (as_dropped (record a { state = state })).state ≡ false
as_dropped-over a Unfinished = refl
as_dropped-over a Finished = refl
as_dropped-over a Taken = refl
as_dropped-over a Dropped = refl

dropped-over : (requests : List Asked) (k : ℕ) (a : Asked) → slice_get (map as_dropped requests) k ≡ Some a → is_unfinished a.state ≡ false
dropped-over [] k a is = absurd (none-some a is)
dropped-over (x ∷ requests) zero a is = ap (λ (y : Asked). is_unfinished y.state) (sym (same_Some (as_dropped x) a is)) ∙ as_dropped-over x x.state
dropped-over (x ∷ requests) (suc k) a is = dropped-over requests k a is

all_freed : (sections : List SectionCounts) (i : ℕ) (s : SectionCounts) → slice_get (map as_freed sections) i ≡ Some s → (s.state ≡ Free) × (s.placed ≡ length s.blocks)
all_freed [] i s is = absurd (none-some s is)
all_freed (x ∷ sections) zero s is =
    let it : as_freed x ≡ s = same_Some (as_freed x) s is in
    subst (λ (y : SectionCounts). (y.state ≡ Free) × (y.placed ≡ length y.blocks)) it (refl, refl)
all_freed (x ∷ sections) (suc i) s is = all_freed sections i s is

closed_freed : (m : Mode) (p : Progress) → is_journal m ≡ true → (i : ℕ) (s : SectionCounts) → slice_get (with_finished m p).journal.sections i ≡ Some s → (s.state ≡ Free) × (s.placed ≡ length s.blocks)
closed_freed Journal p journal i s is = all_freed p.journal.sections i s is
closed_freed Bitmap p journal i s is = absurd (false≢true journal)
closed_freed Direct p journal i s is = absurd (false≢true journal)
closed_freed Recovery p journal i s is = absurd (false≢true journal)

closed_cleaned : (m : Mode) (p : Progress) → is_bitmap m ≡ true → (r : ℕ) → (with_finished m p).regions.set_bits r ≡ (p.regions.set_bits r && p.regions.awaiting r)
closed_cleaned Journal p bitmap r = absurd (false≢true bitmap)
closed_cleaned Bitmap p bitmap r = refl
closed_cleaned Direct p bitmap r = absurd (false≢true bitmap)
closed_cleaned Recovery p bitmap r = absurd (false≢true bitmap)

-- In recovery mode there is nothing to flush.
closed_flushed : (h : History) (t : Bool) → (t ≡ true → h ≡ opened h.base) → let after = with_changes (if t then [] else Flushed ∷ []) h in after.flushed ≡ length after.writes
closed_flushed h false fresh = refl
closed_flushed h true fresh = subst (λ (g : History). g.flushed ≡ length g.writes) (sym (fresh refl)) refl

pub close_law : CloseLaw
close_law f s reached works =
    let p = s.progress in
    let is : event_result f s Close ≡ close f p = result-working f s Close works in
    record {
      condition = ap (λ (c : Condition). condition_after c Close) works;
      dropped = λ k a there.
          dropped-over p.requests k a (sym (ap (λ (l : List Asked). slice_get l k) (ap (λ (r : EventResult). r.progress.requests) is ∙ requests-finished f.mode (with_dropped p))) ∙ there);
      flushed =
          subst (λ (r : EventResult). (with_changes r.changes s.history).flushed ≡ length (with_changes r.changes s.history).writes) (sym is)
          (closed_flushed s.history (is_recovery f.mode) (recovery_law f s reached));
      freed = λ journal i section there.
          closed_freed f.mode (with_dropped p) journal i section (sym (ap (λ (r : EventResult). slice_get r.progress.journal.sections i) is) ∙ there);
      cleaned = λ bitmap r. ap (λ (x : EventResult). x.progress.regions.set_bits r) is ∙ closed_cleaned f.mode (with_dropped p) bitmap r;
    }
