-- What was flushed when it was replied to stays so, wherever a session ends.
use Rattle.std.proofs.Common.{◌≡◌, ℕ, zero, suc, ◌≤◌, true, List, [], ◌∷◌, ◌++◌, length, take, Some, slice_get, refl, sym, ◌∙◌, ap, subst, arith, length-append, append_assoc}
use Rattle.std.specs.Prelude.{flat_map}
use Rattle.std.proofs.lemmas.Bool.{false≢true}
use Rattle.std.proofs.lemmas.Option.{none-some, same_Some}
use Rattle.device_model.specs.History.{Change, Begun, Written, Flushed, History, with_change, with_changes}
use Rattle.device_model.specs.Mode.{DeviceFormat}
use Rattle.device_model.specs.Progress.{DeviceState, opened_device, event_result, after_event, after_events}
use Rattle.device_model.proofs.ScriptLemmas.{history-after}
use Rattle.nbd_model.specs.Stream.{Message, StreamEnd, Disconnected, Ended, WrongMagic, TooLong}
use Rattle.nbd_model.specs.Judged.{submission_of}
use Rattle.nbd_model.specs.Session.{Deed, Does, Replies, last_deeds, opened_session, take_pieces}
use Rattle.nbd_model.specs.Deeds.{changes_by, events_in}
use Rattle.nbd_model.specs.SessionLaws.{IsReply, Refuses, Answers, AreReplies, asks_flush, is_flushing, FlushedLaw}
use Rattle.nbd_model.proofs.DeedLemmas.{AreReplies-append}
use Rattle.nbd_model.proofs.SessionLemmas.{session_law}

-- ---- a history

changes-append : (xs ys : List Change) (h : History) → with_changes (xs ++ ys) h ≡ with_changes ys (with_changes xs h)
changes-append [] ys h = refl
changes-append (x ∷ xs) ys h = changes-append xs ys (with_change h x)

-- What is flushed stays so.
flushed-stays : (changes : List Change) (h : History) (n : ℕ) → n ≤ h.flushed → n ≤ length h.writes → n ≤ (with_changes changes h).flushed
flushed-stays [] h n flushed written = flushed
flushed-stays (Begun write ∷ changes) h n flushed written = flushed-stays changes (with_change h (Begun write)) n flushed written
flushed-stays (Written write ∷ changes) h n flushed written =
    flushed-stays changes (with_change h (Written write)) n flushed (omega (arith, written, length-append h.writes (write ∷ [])))
flushed-stays (Flushed ∷ changes) h n flushed written = flushed-stays changes (with_change h Flushed) n written written

-- ---- deeds

-- The changes of some first deeds come first.
record ChangesFirst (f : DeviceFormat) (s : DeviceState) (deeds : List Deed) (k whole : ℕ) : Type 0 where
  pub rest : List Change
  pub is : changes_by f s (take whole deeds) ≡ changes_by f s (take k deeds) ++ rest

changes-first : (f : DeviceFormat) (s : DeviceState) (deeds : List Deed) (k whole : ℕ) → k ≤ whole → ChangesFirst f s deeds k whole
changes-first f s deeds zero whole low = record { rest = changes_by f s (take whole deeds); is = refl }
changes-first f s [] (suc k) zero low = absurd (omega (arith, low))
changes-first f s [] (suc k) (suc whole) low = record { rest = []; is = refl }
changes-first f s (x ∷ deeds) (suc k) zero low = absurd (omega (arith, low))
changes-first f s (Does event ∷ deeds) (suc k) (suc whole) low =
    let later = changes-first f (after_event f s event) deeds k whole (omega (arith, low)) in
    let own = (event_result f s event).changes in
    record {
      rest = later.rest;
      is = ap (λ (l : List Change). own ++ l) later.is ∙ sym (append_assoc own (changes_by f (after_event f s event) (take k deeds)) later.rest);
    }
changes-first f s (Replies number bytes ∷ deeds) (suc k) (suc whole) low =
    let later = changes-first f s deeds k whole (omega (arith, low)) in
    record { rest = later.rest; is = later.is }

abbrev IsReplyOf : DeviceFormat → List Message → DeviceState → Deed → Type 0
IsReplyOf f all s (Does event) = Unit {0}
IsReplyOf f all s (Replies number bytes) = IsReply f all s number bytes

-- A reply of some deeds, in the state at its moment.
reply-at : (f : DeviceFormat) (all : List Message) (s : DeviceState) (deeds : List Deed) (k number : ℕ) (bytes : List ℕ) → AreReplies f all s deeds
    → slice_get deeds k ≡ Some (Replies number bytes) → IsReply f all (after_events f s (events_in (take k deeds))) number bytes
reply-at f all s [] k number bytes replies there = absurd (none-some (Replies number bytes) there)
reply-at f all s (Does event ∷ deeds) zero number bytes replies there = absurd (let same = same_Some (Does event) (Replies number bytes) there in cc)
reply-at f all s (Does event ∷ deeds) (suc k) number bytes replies there = reply-at f all (after_event f s event) deeds k number bytes replies there
reply-at f all s (Replies n b ∷ deeds) zero number bytes replies there =
    subst (λ (d : Deed). IsReplyOf f all s d) (same_Some (Replies n b) (Replies number bytes) there) replies.0
reply-at f all s (Replies n b ∷ deeds) (suc k) number bytes replies there = reply-at f all s deeds k number bytes replies.1 there

-- Where a message that asks for a flush is replied to, all is flushed.
flushed-at : (f : DeviceFormat) (all : List Message) (s : DeviceState) (number : ℕ) (bytes : List ℕ) (m : Message) → slice_get all number ≡ Some m
    → asks_flush f (submission_of f.blocks m) ≡ true → IsReply f all s number bytes → s.history.flushed ≡ length s.history.writes
flushed-at f all s number bytes m there asks (Refuses n at none is) =
    let same : n ≡ m = same_Some n m (sym at ∙ there) in
    absurd (false≢true (sym (ap (asks_flush f) none) ∙ ap (λ (x : Message). asks_flush f (submission_of f.blocks x)) same ∙ asks))
flushed-at f all s number bytes m there asks (Answers n at submission handed place a on request before over flushes is) =
    let same : n ≡ m = same_Some n m (sym at ∙ there) in
    flushes (ap is_flushing request ∙ sym (ap (asks_flush f) handed) ∙ ap (λ (x : Message). asks_flush f (submission_of f.blocks x)) same ∙ asks)

-- ---- for callers

closing : (f : DeviceFormat) (all : List Message) (s : DeviceState) (ending : StreamEnd) → AreReplies f all s (last_deeds ending)
closing f all s Disconnected = tt
closing f all s Ended = tt
closing f all s (WrongMagic magic) = tt
closing f all s TooLong = tt

pub flushed_law : FlushedLaw
flushed_law f base next set_bits awaiting pieces ending text changes came =
    let s = opened_device base next set_bits awaiting in
    let all = flat_map (λ (piece : List Message). piece) pieces in
    let front = (take_pieces f (opened_session s) pieces).deeds in
    let deeds = front ++ last_deeds ending in
    let replies = AreReplies-append f all s front (last_deeds ending) (session_law f base next set_bits awaiting pieces).replies
    (closing f all (after_events f s (events_in front)) ending) in
    record {
      each = λ k number bytes m before there at asks.
          let moment = after_events f s (events_in (take k deeds)) in
          let flushed = flushed-at f all moment number bytes m at asks (reply-at f all s deeds k number bytes replies there) in
          let parts = changes-first f s deeds k came.whole (omega (arith, before)) in
          let rest = parts.rest ++ came.begun_changes in
          let all_changes : changes ≡ changes_by f s (take k deeds) ++ rest =
          came.is_changes ∙ ap (λ (l : List Change). l ++ came.begun_changes) parts.is ∙ append_assoc (changes_by f s (take k deeds)) parts.rest came.begun_changes in
          let later : with_changes changes s.history ≡ with_changes rest moment.history =
          ap (λ (l : List Change). with_changes l s.history) all_changes ∙ changes-append (changes_by f s (take k deeds)) rest s.history
          ∙ ap (λ (h : History). with_changes rest h) (sym (history-after f s (events_in (take k deeds)))) in
          subst (λ (h : History). length moment.history.writes ≤ h.flushed) (sym later)
          (flushed-stays rest moment.history (length moment.history.writes) (omega (arith, flushed)) (omega arith));
    }
