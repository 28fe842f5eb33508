-- What ended a session, how far it came, and what it leaves.
use Rattle.std.proofs.Common.{◌≡◌, ◌⊎◌, inl, inr, ℕ, ◌<◌, ◌≤◌, Bool, false, ◌||◌, List, [], ◌∷◌, ◌++◌, length, take, drop, flat_map, slice_get, Option, None, Some, Result, Ok, Err, refl, sym, ◌∙◌, ap, subst, arith, append-nil, append_assoc, take-append-drop}
use Rattle.std.proofs.lemmas.List.{take_all}
use Rattle.std.proofs.lemmas.List.Sums.{fold-append}
use Rattle.std.proofs.lemmas.Option.{none-some, same_Some}
use Rattle.disk_model.specs.Disk.{Content, EachImage}
use Rattle.disk_model.specs.Moments.{content_now, EachMoment, HasNow}
use Rattle.disk_model.proofs.MomentsLemmas.{EachMoment-weaker}
use Rattle.device_model.specs.Device.{DeviceKind, IsLeftWithin}
use Rattle.device_model.specs.History.{Change, History, with_change, with_changes}
use Rattle.device_model.specs.Mode.{DeviceFormat}
use Rattle.device_model.specs.Progress as Model
use Rattle.device_model.specs.Progress.{Close, DeviceState, Event, FailedClose, after_event, after_events, changes_of, event_result, opened_device, result_in}
use Rattle.device_model.proofs.IdleLemmas.{after_events-append}
use Rattle.device_model.proofs.ScriptLemmas.{history-after}
use Rattle.direct_laws.specs.MomentLaws.{IsLeftNow, IsLeftThrough}
use Rattle.direct_laws.specs.Within.{IsWithin}
use Rattle.device_opening.proofs.MomentsLemmas.{EachMoment-both}
use Rattle.device_parts.specs.declared.condition.Condition.TheVariants.{Working}
use Rattle.device_parts.specs.Device.{Standing}
use Rattle.device.specs.declared.mode.DeviceParts.{DeviceParts}
use Rattle.device.specs.Answers.{IsAtRest}
use Rattle.device.specs.Device.{IsDevice, kind_of}
use Rattle.device.specs.Run.{HasRun, IsCutOff, standing_behind}
use Rattle.device.specs.Tags.{Leaves, LeavesIn}
use Rattle.device.proofs.ModeLemmas.{left_now}
use Rattle.device.proofs.RunLemmas.{cut_run, cut_then, cut_wider, left-wider}
use Rattle.nbd_model.specs.Stream as streams
use Rattle.nbd_model.specs.Stream.{Message, StreamEnd, requests_in, stream_of}
use Rattle.nbd_model.specs.Session.{Deed, Does, Replies, ending_in, last_deeds, opened_session, take_pieces}
use Rattle.nbd_model.specs.Session as sessions
use Rattle.nbd_model.specs.Deeds.{changes_by, events_in, tells_eio, text_in}
use Rattle.nbd_model.specs.SessionLaws.{AreReplies, IsSession}
use Rattle.nbd_model.proofs.DeedLemmas.{AreReplies-append, events_in-append, events_in-does}
use Rattle.nbd_model.proofs.SessionLemmas.{session_law}
use Rattle.nbd_command.specs.ServedRun.{Complete, DiskFailed, NoMemory, RefusedStream, SessionEnd, SinkFailed, SourceFailed, IsClosing, IsRefusing}
use Rattle.nbd_flight.specs.declared.stop.Stop.TheVariants as stops
use Rattle.nbd_flight.specs.Deeds.{HasDone, IsStoppedBetween, IsStoppedByDisk, IsStoppedBySink, Scene, behind, calls_of, held_with}
use Rattle.nbd_flight.proofs.DeedLemmas.{held_none, text_in-append}
use Rattle.nbd_flight.proofs.ServiceLemmas.{or_false, tells_eio-append}
use Rattle.stream_io.proofs.StreamLemmas.{with_bytes-with_bytes}
use Rattle.nbd_session.specs.declared.ended.Ended.{Ended}
use Rattle.nbd_session.specs.declared.ended.Ended.TheVariants.{Closed, Wrong, Long}
use Rattle.nbd_session.specs.declared.ended.SessionFault.{SessionFault}
use Rattle.nbd_session.specs.declared.ended.SessionFault.TheVariants as faults
use Rattle.nbd_session.specs.Session.{Course, HasClosed, HasFailedClose, HasLostSource, HasRefused, HasStoppedIn, IsNew, Outside, ServesSession, StopsSession, deeds_over, ending_of, joined}
use Rattle.nbd_session.specs.Ending.{HasComeTo, all_changes, all_deeds, end_of}
use Rattle.nbd_session.proofs.CutLemmas.{HasBytes, changes_by-append, cut_at_call, cut_between, cut_in_calls, cut_in_reply, next_bytes, replies_last, whole_between}

-- ---- the last deeds

close_last : (ending : StreamEnd) → IsClosing ending → last_deeds ending ≡ Does Close ∷ []
close_last streams.Disconnected closes = refl
close_last streams.Ended closes = refl
close_last (streams.WrongMagic magic) closes = absurd closes
close_last streams.TooLong closes = absurd closes

none_last : (ending : StreamEnd) → IsRefusing ending → last_deeds ending ≡ []
none_last streams.Disconnected refuses = absurd refuses
none_last streams.Ended refuses = absurd refuses
none_last (streams.WrongMagic magic) refuses = refl
none_last streams.TooLong refuses = refl

some_more : (deeds : List Deed) → 0 < length (deeds ++ Does Close ∷ [])
some_more [] = omega arith
some_more (deed ∷ deeds) = omega arith

some_last : (ending : StreamEnd) → IsClosing ending → (deeds : List Deed) → 0 < length (deeds ++ last_deeds ending)
some_last ending closes deeds = subst (λ (l : List Deed). 0 < length (deeds ++ l)) (sym (close_last ending closes)) (some_more deeds)

-- ---- the requests of the first pieces

deeds-append : (f : DeviceFormat) (m : sessions.Moment) (a b : List (List Message))
    → (take_pieces f m (a ++ b)).deeds ≡ (take_pieces f m a).deeds ++ (take_pieces f (take_pieces f m a).behind b).deeds
deeds-append f m [] b = refl
deeds-append f m (group ∷ a) b =
    let first = sessions.take_piece f m group in
    ap (λ (l : List Deed). first.deeds ++ l) (deeds-append f first.behind a b)
    ∙ sym (append_assoc first.deeds (take_pieces f first.behind a).deeds (take_pieces f (take_pieces f first.behind a).behind b).deeds)

record EndsFirst (before : List ℕ) (asked : ℕ) (a b : List (List ℕ)) : Type 0 where
  pub rest : List (List Message)
  pub is : ending_in before asked (a ++ b) ≡ ending_in before asked a ++ rest

ends_first : (before : List ℕ) (asked : ℕ) (a b : List (List ℕ)) → EndsFirst before asked a b
ends_first before asked [] b = record { rest = ending_in before asked b; is = refl }
ends_first before asked (piece ∷ a) b =
    let s = stream_of (before ++ piece) in
    let all = (requests_in false s.wrong s.messages).asked in
    let more = ends_first (before ++ piece) (length all) a b in
    record { rest = more.rest; is = ap (λ (l : List (List Message)). drop asked all ∷ l) more.is }

record DeedsFirst (w : Standing) (count : ℕ) (pieces : List (List ℕ)) : Type 0 where
  pub rest : List Deed
  pub is : deeds_over w pieces ≡ deeds_over w (take count pieces) ++ rest

deeds_first : (w : Standing) (count : ℕ) (pieces : List (List ℕ)) → DeedsFirst w count pieces
deeds_first w count pieces =
    let first = take count pieces in
    let ends = ends_first [] 0 first (drop count pieces) in
    let m = opened_session w.state in
    record {
      rest = (take_pieces w.format (take_pieces w.format m (ending_in [] 0 first)).behind ends.rest).deeds;
      is = ap (deeds_over w) (sym (take-append-drop count pieces))
          ∙ ap (λ (l : List (List Message)). (take_pieces w.format m l).deeds) ends.is
          ∙ deeds-append w.format m (ending_in [] 0 first) ends.rest;
    }

-- ---- replies

-- Each reply of a session on a device that had just been opened has bytes, whichever deed it is.
module _ (w : Standing) (new : IsNew w) {left : Option (List ℕ)} (course : Course left) where
  session_is : IsSession w.format w.state (flat_map (λ group. group) (ending_in [] 0 course.pieces))
      (take_pieces w.format (opened_session w.state) (ending_in [] 0 course.pieces))
  session_is =
      subst (λ (s : DeviceState). IsSession w.format s (flat_map (λ group. group) (ending_in [] 0 course.pieces))
      (take_pieces w.format (opened_session s) (ending_in [] 0 course.pieces))) (sym new.is)
      (session_law w.format new.base new.next new.set_bits new.awaiting (ending_in [] 0 course.pieces))

  next_in : (made rest : List Deed) → all_deeds w course ≡ made ++ rest → HasBytes (slice_get rest 0)
  next_in made rest all =
      let messages = flat_map (λ (group : List Message). group) (ending_in [] 0 course.pieces) in
      next_bytes w.format messages w.state made rest
      (subst (AreReplies w.format messages w.state) all
      (AreReplies-append w.format messages w.state (deeds_over w course.pieces) (last_deeds (ending_of course)) session_is.replies
      (replies_last w.format messages (after_events w.format w.state (events_in (deeds_over w course.pieces))) (ending_of course))))

  -- The state behind all that is asked is that of the device.
  pub served_state : (take_pieces w.format (opened_session w.state) (ending_in [] 0 course.pieces)).behind.state
      ≡ (behind w (deeds_over w course.pieces)).state
  served_state = session_is.state

-- ---- a close

-- At each moment of an event some of its first changes are made.
pub since_event : (kind : DeviceKind) (w : Standing) (event : Event) (a b : List Content)
    → IsLeftThrough kind w.entry w.format w.state event a b
    → EachMoment a b (IsLeftWithin kind w.entry w.state.history (event_result w.format w.state event).changes)
since_event kind w event a b through = EachMoment-weaker
    (λ (c : Content) (both : EachImage kind.CanOpen c × IsWithin (kind.MayBeLeft w.entry) w.format w.state event c). record {
      made = both.1.within.kept;
      opens = both.0;
      left = subst (λ (h : History). EachImage (kind.MayBeLeft w.entry h) c) both.1.within.is both.1.each;
    })
    (EachMoment-both through.opens through.left)

failed_close_in : (f : DeviceFormat) (s : DeviceState) (c : Model.Condition) → (result_in f s c FailedClose).changes ≡ []
failed_close_in f s Model.Working = refl
failed_close_in f s Model.Broken = refl
failed_close_in f s Model.Closed = refl

-- A close in which the disk fails does nothing to the history.
failed_close : (f : DeviceFormat) (s : DeviceState) → changes_of f s (FailedClose ∷ []) ≡ []
failed_close f s = append-nil (event_result f s FailedClose).changes ∙ failed_close_in f s s.condition

module _ (w : Standing) (a b : List Content) (leaves : LeavesIn w (Close ∷ []) a b) where
  abbrev closing : List Change
  closing = (event_result w.format w.state Close).changes

  closing_is : changes_of w.format w.state (Close ∷ []) ≡ closing
  closing_is = append-nil closing

  -- A close that did not fail is cut off at its end,
  cut_closed : IsLeftThrough (kind_of w) w.entry w.format w.state Close a b
      → IsLeftNow (kind_of w) w.entry (after_event w.format w.state Close).history b → IsCutOff w (Close ∷ []) a b
  cut_closed through now = record {
    since = subst (λ (l : List Change). EachMoment a b (IsLeftWithin (kind_of w) w.entry w.state.history l)) (sym closing_is)
        (since_event (kind_of w) w Close a b through);
    now = λ x told. record {
      made = length closing;
      opens = now.opens x told;
      left = subst (λ (l : List Change). EachImage ((kind_of w).MayBeLeft w.entry (with_changes l w.state.history)) x)
          (sym (take_all (length closing) closing (omega arith)) ∙ ap (take (length closing)) (sym closing_is)) (now.left x told);
    };
    others = leaves;
  }

  -- and one that did before it did anything.
  cut_unclosed : IsLeftThrough (kind_of w) w.entry w.format w.state FailedClose a b
      → IsLeftNow (kind_of w) w.entry (after_event w.format w.state FailedClose).history b → IsCutOff w (Close ∷ []) a b
  cut_unclosed through now = record {
    since = EachMoment-weaker (λ (c : Content) left. left-wider (kind_of w) w.entry w.state.history [] (changes_of w.format w.state (Close ∷ [])) c
        (subst (λ (l : List Change). IsLeftWithin (kind_of w) w.entry w.state.history l c) (none_failed) left))
        (since_event (kind_of w) w FailedClose a b through);
    now = λ x told. left-wider (kind_of w) w.entry w.state.history [] (changes_of w.format w.state (Close ∷ [])) x (record {
      made = 0;
      opens = now.opens x told;
      left = subst (λ (l : List Change). EachImage ((kind_of w).MayBeLeft w.entry (with_changes l w.state.history)) x) none_failed (now.left x told);
    });
    others = leaves;
  }
    where
      none_failed : (event_result w.format w.state FailedClose).changes ≡ []
      none_failed = failed_close_in w.format w.state w.state.condition

-- ---- over all deeds of a session

module _ (w : Standing) {left : Option (List ℕ)} (course : Course left) (old : Scene) (new : Outside) where
  abbrev f : DeviceFormat
  f = w.format

  abbrev s : DeviceState
  s = w.state

  abbrev deeds : List Deed
  deeds = all_deeds w course

  -- What is left of some of them is left of all.
  module _ (made rest : List Deed) (all : deeds ≡ made ++ rest) where
    all_events : events_in deeds ≡ events_in made ++ events_in rest
    all_events = ap events_in all ∙ events_in-append made rest

    cut_all : IsCutOff w (events_in made) old.moments new.moments → IsCutOff w (events_in deeds) old.moments new.moments
    cut_all cut = subst (λ (l : List Event). IsCutOff w l old.moments new.moments) (sym all_events)
        (cut_wider w (events_in made) (events_in rest) old.moments new.moments cut)

  cut_done : (made rest : List Deed) → deeds ≡ made ++ rest → (parts : DeviceParts) → HasRun w (events_in made) parts old.moments new.moments
      → IsCutOff w (events_in deeds) old.moments new.moments
  cut_done made rest all parts run = subst (λ (l : List Event). IsCutOff w l old.moments new.moments) (sym (all_events made rest all))
      (cut_run w (events_in made) (events_in rest) parts old.moments new.moments run)

  -- Where some of them are done, they leave it so.
  now_done : (made : List Deed) (parts : DeviceParts) → HasRun w (events_in made) parts old.moments new.moments
      → IsLeftNow (kind_of w) w.entry (with_changes (changes_by f s made) s.history) new.moments
  now_done made parts run = subst (λ (h : History). IsLeftNow (kind_of w) w.entry h new.moments) (history-after f s (events_in made))
      (left_now (standing_behind w (events_in made)) Working parts.mode parts.common new.moments run.device)

  no_more : (changes : List Change) → IsLeftNow (kind_of w) w.entry (with_changes changes s.history) new.moments
      → IsLeftNow (kind_of w) w.entry (with_changes (changes ++ []) s.history) new.moments
  no_more changes now = subst (λ (l : List Change). IsLeftNow (kind_of w) w.entry (with_changes l s.history) new.moments) (sym (append-nil changes)) now

  held_text : (text : List ℕ) → new.held ≡ held_with text old.held → new.held ≡ held_with (text ++ []) old.held
  held_text text told = told ∙ ap (λ (l : List ℕ). held_with l old.held) (sym (append-nil text))

-- ---- what ended it

module _ (w : Standing) (is_new : IsNew w) (left : Option (List ℕ)) (old : Scene) (new : Outside) where
  -- A wrong magic, or the bound,
  come_refused : (ending : StreamEnd) → IsRefusing ending → HasRefused w left ending old new → HasComeTo w left RefusedStream old new
  come_refused ending refuses refused =
      let course = refused.course in
      let deeds = deeds_over w course.pieces in
      let refusing = subst IsRefusing (sym refused.ends) refuses in
      let same : all_deeds w course ≡ deeds = ap (λ (l : List Deed). deeds ++ l) (none_last (ending_of course) refusing) ∙ append-nil deeds in
      let run = refused.served.done.run in
      let cut = cut_done w course old new deeds (last_deeds (ending_of course)) refl refused.served.parts run in
      record {
        course = course;
        text = text_in (all_deeds w course);
        changes = all_changes w course;
        came = (refusing, record { is_text = refl; is_changes = refl });
        since = cut.since;
        others = cut.others;
        now = subst (λ (l : List Deed). IsLeftNow (kind_of w) w.entry (with_changes (changes_by w.format w.state l) w.state.history) new.moments) (sym same)
            (now_done w course old new deeds refused.served.parts run);
        told = refused.served.done.told ∙ ap (λ (l : List Deed). held_with (text_in l) old.held) (sym same);
      }

  -- its end, and the device is closed,
  come_closed : (eio : Bool) → HasClosed w left eio old new → HasComeTo w left (Complete eio) old new
  come_closed eio closed =
      let course = closed.course in
      let deeds = deeds_over w course.pieces in
      let here = behind w deeds in
      let last = close_last (ending_of course) closed.closes in
      let same : all_deeds w course ≡ deeds ++ Does Close ∷ [] = ap (λ (l : List Deed). deeds ++ l) last in
      let events : events_in (all_deeds w course) ≡ events_in deeds ++ Close ∷ [] = ap events_in same ∙ events_in-append deeds (Does Close ∷ []) in
      let run = closed.served.done.run in
      let cut = subst (λ (l : List Event). IsCutOff w l old.moments new.moments) (sym events)
      (cut_then w (events_in deeds) (Close ∷ []) closed.served.parts old.moments closed.between new.moments run
      (cut_closed here closed.between new.moments closed.leaves closed.closed.through closed.closed.left)) in
      let after : after_events w.format w.state (events_in (all_deeds w course)) ≡ after_event w.format here.state Close =
      ap (after_events w.format w.state) events ∙ after_events-append w.format w.state (events_in deeds) (Close ∷ []) in
      record {
        course = course;
        text = text_in (all_deeds w course);
        changes = all_changes w course;
        came = (
          closed.closes,
          record { is_text = refl; is_changes = refl },
          closed.damage ∙ sym (or_false (tells_eio deeds)) ∙ sym (tells_eio-append deeds (Does Close ∷ [])) ∙ ap tells_eio (sym same),
        );
        since = cut.since;
        others = cut.others;
        now = subst (λ (h : History). IsLeftNow (kind_of w) w.entry h new.moments)
            (sym (ap (λ (s : DeviceState). s.history) after) ∙ history-after w.format w.state (events_in (all_deeds w course))) closed.closed.left;
        told = closed.served.done.told
            ∙ ap (λ (l : List ℕ). held_with l old.held) (sym (ap text_in same ∙ text_in-append deeds (Does Close ∷ []) ∙ append-nil (text_in deeds)));
      }

  -- or the disk in the close;
  come_unclosed : HasFailedClose w left old new → HasComeTo w left DiskFailed old new
  come_unclosed failed =
      let course = failed.course in
      let deeds = deeds_over w course.pieces in
      let here = behind w deeds in
      let last = close_last (ending_of course) failed.closes in
      let same : all_deeds w course ≡ deeds ++ Does Close ∷ [] = ap (λ (l : List Deed). deeds ++ l) last in
      let events : events_in (all_deeds w course) ≡ events_in deeds ++ Close ∷ [] = ap events_in same ∙ events_in-append deeds (Does Close ∷ []) in
      let run = failed.served.done.run in
      let cut = subst (λ (l : List Event). IsCutOff w l old.moments new.moments) (sym events)
      (cut_then w (events_in deeds) (Close ∷ []) failed.served.parts old.moments failed.between new.moments run
      (cut_unclosed here failed.between new.moments failed.leaves failed.failed.through failed.failed.left)) in
      record {
        course = course;
        text = text_in deeds ++ [];
        changes = changes_by w.format w.state deeds ++ [];
        came = cut_at_call w.format w.state (ending_of course) (all_deeds w course) deeds (Does Close ∷ []) same (λ closes. omega arith) Close refl tt;
        since = cut.since;
        others = cut.others;
        now = no_more w course old new (changes_by w.format w.state deeds)
            (subst (λ (h : History). IsLeftNow (kind_of w) w.entry h new.moments)
            (ap (λ (l : List Change). with_changes l here.state.history) (failed_close_in w.format here.state here.state.condition)
            ∙ history-after w.format w.state (events_in deeds)) failed.failed.left);
        told = held_text w course old new (text_in deeds) failed.served.done.told;
      }

  -- want of memory;
  come_between : HasStoppedIn w left stops.Memory old new → HasComeTo w left NoMemory old new
  come_between stopped =
      let course = stopped.course in
      let made = stopped.stopped.made in
      let rest = stopped.stopped.rest ++ last_deeds (ending_of course) in
      let all : all_deeds w course ≡ made ++ rest =
      ap (λ (l : List Deed). l ++ last_deeds (ending_of course)) stopped.stopped.all ∙ append_assoc made stopped.stopped.rest (last_deeds (ending_of course)) in
      let run = stopped.stopped.done.run in
      let cut = cut_done w course old new made rest all stopped.parts run in
      record {
        course = course;
        text = text_in made ++ [];
        changes = changes_by w.format w.state made ++ [];
        came = cut_between w.format w.state (ending_of course) (all_deeds w course) made rest all
            (λ closes. some_last (ending_of course) closes stopped.stopped.rest) (next_in w is_new course made rest all);
        since = cut.since;
        others = cut.others;
        now = no_more w course old new (changes_by w.format w.state made) (now_done w course old new made stopped.parts run);
        told = held_text w course old new (text_in made) stopped.stopped.done.told;
      }

  -- the sink;
  come_torn : HasStoppedIn w left stops.Sink old new → HasComeTo w left SinkFailed old new
  come_torn stopped =
      let course = stopped.course in
      let torn = stopped.stopped in
      let rest = Replies torn.number torn.bytes ∷ (torn.rest ++ last_deeds (ending_of course)) in
      let all : all_deeds w course ≡ torn.made ++ rest =
      ap (λ (l : List Deed). l ++ last_deeds (ending_of course)) torn.all ∙ append_assoc torn.made (Replies torn.number torn.bytes ∷ torn.rest) (last_deeds (ending_of course)) in
      let cut = cut_done w course old new torn.made rest all stopped.parts torn.run in
      record {
        course = course;
        text = text_in torn.made ++ take torn.told.count torn.bytes;
        changes = changes_by w.format w.state torn.made ++ [];
        came = cut_in_reply w.format w.state (ending_of course) (all_deeds w course) torn.made rest all (λ closes. omega arith)
            torn.number torn.bytes refl torn.told.count torn.told.short;
        since = cut.since;
        others = cut.others;
        now = no_more w course old new (changes_by w.format w.state torn.made) (now_done w course old new torn.made stopped.parts torn.run);
        told = torn.told.held ∙ with_bytes-with_bytes (text_in torn.made) (take torn.told.count torn.bytes) old.held;
      }

  -- the source;
  come_lost : HasLostSource w left old new → HasComeTo w left SourceFailed old new
  come_lost lost =
      let course = lost.course in
      let made = deeds_over w (take lost.count course.pieces) in
      let first = deeds_first w lost.count course.pieces in
      let rest = first.rest ++ last_deeds (ending_of course) in
      let all : all_deeds w course ≡ made ++ rest =
      ap (λ (l : List Deed). l ++ last_deeds (ending_of course)) first.is ∙ append_assoc made first.rest (last_deeds (ending_of course)) in
      let closing = λ (closes : IsClosing (ending_of course)). some_last (ending_of course) closes first.rest in
      let has = next_in w is_new course made rest all in
      let run = lost.served.done.run in
      let cut = cut_done w course old new made rest all lost.served.parts run in
      record {
        course = course;
        text = text_in made ++ [];
        changes = changes_by w.format w.state made ++ [];
        came = record {
          between = cut_between w.format w.state (ending_of course) (all_deeds w course) made rest all closing has;
          count = lost.count;
          done = whole_between w.format w.state (ending_of course) (all_deeds w course) made rest all closing has;
          unended = lost.unended;
        };
        since = cut.since;
        others = cut.others;
        now = no_more w course old new (changes_by w.format w.state made) (now_done w course old new made lost.served.parts run);
        told = held_text w course old new (text_in made) lost.served.done.told;
      }

  -- or the disk among the requests: of the calls in which it failed some of the first changes are made.
  module _ (stopped : HasStoppedIn w left stops.Disk old new) where
    abbrev course : Course left
    course = stopped.course

    abbrev torn : IsStoppedByDisk w (deeds_over w course.pieces) old (record { parts = stopped.parts; moments = new.moments; held = new.held })
    torn = stopped.stopped

    abbrev here : Standing
    here = behind w torn.made

    abbrev changed : List Change
    changed = changes_of w.format here.state torn.calls

    record IsCutTo : Type 0 where
      pub made : ℕ
      pub now : IsLeftNow (kind_of w) w.entry (with_changes (take made changed) here.state.history) new.moments

    cut_to : (now : Option Content) → content_now new.moments ≡ now → IsCutTo
    cut_to None none = record {
      made = 0;
      now = record { opens = λ c told. absurd (none-some c (sym none ∙ told)); left = λ c told. absurd (none-some c (sym none ∙ told)) };
    }
    cut_to (Some later) told =
        let left = torn.failed.cut.now later told in
        record {
          made = left.made;
          now = record {
            opens = λ c is. subst (EachImage (kind_of w).CanOpen) (same_Some later c (sym told ∙ is)) left.opens;
            left = λ c is. subst (EachImage ((kind_of w).MayBeLeft w.entry (with_changes (take left.made changed) here.state.history)))
                (same_Some later c (sym told ∙ is)) left.left;
          };
        }

    come_cut : HasComeTo w left DiskFailed old new
    come_cut =
        let to = cut_to (content_now new.moments) refl in
        let last = last_deeds (ending_of course) in
        let rest = torn.rest ++ last in
        let calls = calls_of torn.calls in
        let all : all_deeds w course ≡ torn.made ++ (calls ++ rest) =
        ap (λ (l : List Deed). l ++ last) torn.all ∙ append_assoc torn.made (calls ++ torn.rest) last
        ∙ ap (λ (l : List Deed). torn.made ++ l) (append_assoc calls torn.rest last) in
        let first : all_deeds w course ≡ (torn.made ++ calls) ++ rest = all ∙ sym (append_assoc torn.made calls rest) in
        let events : events_in torn.made ++ torn.calls ≡ events_in (torn.made ++ calls) =
        ap (λ (l : List Event). events_in torn.made ++ l) (sym (events_in-does torn.calls)) ∙ sym (events_in-append torn.made calls) in
        let cut = cut_all w course old new (torn.made ++ calls) rest first
        (subst (λ (l : List Event). IsCutOff w l old.moments new.moments) events
        (cut_then w (events_in torn.made) torn.calls torn.between.parts old.moments torn.between.moments new.moments torn.done.run torn.failed.cut)) in
        record {
          course = course;
          text = text_in torn.made ++ [];
          changes = changes_by w.format w.state torn.made ++ take to.made changed;
          came = cut_in_calls w.format w.state (ending_of course) (all_deeds w course) torn.made torn.calls rest all torn.some torn.of_disk to.made;
          since = cut.since;
          others = cut.others;
          now = subst (λ (h : History). IsLeftNow (kind_of w) w.entry h new.moments)
              (ap (with_changes (take to.made changed)) (history-after w.format w.state (events_in torn.made))
              ∙ sym (fold-append with_change w.state.history (changes_by w.format w.state torn.made) (take to.made changed))) to.now;
          told = torn.told ∙ torn.done.told ∙ ap (λ (l : List ℕ). held_with l old.held) (sym (append-nil (text_in torn.made)));
        }

  -- ---- for callers

  -- What ended a session on a device that had just been opened, how far it came, and what it leaves.
  pub session_came : (result : Result Ended SessionFault) → IsDevice w Working old.parts old.moments → ServesSession result left old new
      → StopsSession result left old new → HasComeTo w left (end_of result) old new
  session_came (Ok (Closed eio)) is served stopped = come_closed eio (served w is is_new)
  session_came (Ok (Wrong magic)) is served stopped = come_refused (streams.WrongMagic magic) tt (served w is is_new)
  session_came (Ok Long) is served stopped = come_refused streams.TooLong tt (served w is is_new)
  session_came (Err faults.Memory) is served stopped = come_between (stopped w is is_new)
  session_came (Err faults.Disk) is served stopped = elim (stopped w is is_new) [
    | inl among ↦ come_cut among
    | inr closing ↦ come_unclosed closing
  ]
  session_came (Err faults.Source) is served stopped = come_lost (stopped w is is_new)
  session_came (Err faults.Sink) is served stopped = come_torn (stopped w is is_new)
