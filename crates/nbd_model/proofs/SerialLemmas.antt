-- Each reply is the one that its request has where the requests of the stream run one after the other.
use Rattle.std.proofs.Common.{◌≡◌, ℕ, zero, suc, Bool, List, [], ◌∷◌, ◌++◌, take, Some, slice_get, refl, sym, ◌∙◌, ap, subst}
use Rattle.std.specs.Prelude.{flat_map}
use Rattle.std.proofs.lemmas.Option.{none-some, same_Some}
use Rattle.image_model.specs.Cells.{Cell}
use Rattle.device_model.specs.History.{cells_after}
use Rattle.device_model.specs.Mode.{DeviceFormat}
use Rattle.device_model.specs.Progress.{DeviceState, opened_device, Event, after_events}
use Rattle.device_model.specs.Reply.{Reply, Bytes, TagFault, bytes_of}
use Rattle.device_model.specs.Request.{Request, Read, Write, Flush, Asked, returned_by, writes_of}
use Rattle.device_model.specs.RequestLaws.{requests_of}
use Rattle.device_model.specs.Serial.{serial_cells, serial_replies_from, whole_reply}
use Rattle.device_model.proofs.EventLemmas.{serial_law}
use Rattle.nbd_model.specs.Message.{reply_head}
use Rattle.nbd_model.specs.Stream.{Message}
use Rattle.nbd_model.specs.Judged.{error_of, bytes_behind_reply, reply_bytes}
use Rattle.nbd_model.specs.Session.{Deed, Does, Replies, opened_session, take_pieces}
use Rattle.nbd_model.specs.SessionLaws.{IsReply, Refuses, Answers, AreReplies, ServesAll, AreWhole, asked_by, submission_bytes, IsSerialAnswer, AreSerial, SerialAnswerLaw}
use Rattle.nbd_model.proofs.DeedLemmas.{after_events-append}
use Rattle.nbd_model.proofs.SessionLemmas.{session_law}

-- What stands behind the head is what was read, whatever the buffer held.
behind-read : (request : Request) (reply : Reply) (good given : List ℕ)
    → bytes_behind_reply request reply (returned_by request reply good given) ≡ bytes_behind_reply request reply (bytes_of reply)
behind-read (Read first count) (Bytes bytes) good given = refl
behind-read (Read first count) (TagFault block stored computed) good given = refl
behind-read (Write first blocks fua) reply good given = refl
behind-read Flush reply good given = refl

request-at : (requests : List Asked) (k : ℕ) (a : Asked) → slice_get requests k ≡ Some a → slice_get (requests_of requests) k ≡ Some a.request
request-at [] k a there = absurd (none-some a there)
request-at (x ∷ requests) zero a there = ap (λ (y : Asked). Some y.request) (same_Some x a there)
request-at (x ∷ requests) (suc k) a there = request-at requests k a there

serial_replies-at : (f : DeviceFormat) (t : ℕ) (cells : ℕ → Cell) (requests : List Request) (k : ℕ) (r : Request) → slice_get requests k ≡ Some r
    → slice_get (serial_replies_from f t cells requests) k ≡ Some (whole_reply f (serial_cells f t cells (take k requests)) r)
serial_replies-at f t cells [] k r there = absurd (none-some r there)
serial_replies-at f t cells (q ∷ requests) zero r there = ap (λ (x : Request). Some (whole_reply f cells x)) (same_Some q r there)
serial_replies-at f t cells (q ∷ requests) (suc k) r there = serial_replies-at f (suc t) (cells_after f.blocks.tag cells (writes_of t q)) requests k r there

module _ (f : DeviceFormat) (base : ℕ → Cell) (next : ℕ) (set_bits awaiting : ℕ → Bool) (all : List Message) (serves : ServesAll f) (whole : AreWhole all) where
  abbrev opened : DeviceState
  opened = opened_device base next set_bits awaiting

  -- One reply, in the state at its moment.
  serial_at : (events : List Event) (number : ℕ) (bytes : List ℕ) → IsReply f all (after_events f opened events) number bytes → IsSerialAnswer f base all number bytes
  serial_at events number bytes (Refuses m there none is) =
      let cells = serial_cells f 1 base (asked_by f (take number all)) in
      record { message = m; there = there; is = is ∙ sym (ap (submission_bytes f cells m.request.cookie) none) }
  serial_at events number bytes (Answers m there submission asks place a at request before over flushes is) =
      let requests = requests_of (after_events f opened events).progress.requests in
      let cookie = m.request.cookie in
      let earlier = asked_by f (take number all) in
      let cells = serial_cells f 1 base earlier in
      let told = (serial_law f base next set_bits awaiting events).replies place a at over in
      let found = serial_replies-at f 1 base requests place a.request (request-at (after_events f opened events).progress.requests place a at) in
      let same : a.reply ≡ whole_reply f (serial_cells f 1 base (take place requests)) a.request = same_Some a.reply (whole_reply f (serial_cells f 1 base (take place requests)) a.request) (sym told ∙ found) in
      record {
        message = m;
        there = there;
        is =
            is ∙ ap (λ (x : List ℕ). reply_head (error_of a.request a.reply) cookie ++ x) (behind-read a.request a.reply a.got a.given)
            ∙ ap (λ (r : Reply). reply_bytes cookie a.request r (bytes_of r)) same
            ∙ ap (λ (l : List Request). reply_bytes cookie a.request (whole_reply f (serial_cells f 1 base l) a.request) (bytes_of (whole_reply f (serial_cells f 1 base l) a.request))) (before serves whole)
            ∙ ap (λ (r : Request). reply_bytes cookie r (whole_reply f cells r) (bytes_of (whole_reply f cells r))) request
            ∙ sym (ap (submission_bytes f cells cookie) asks);
      }

  serial_deeds : (deeds : List Deed) (events : List Event) → AreReplies f all (after_events f opened events) deeds → AreSerial f base all deeds
  serial_deeds [] events replies = tt
  serial_deeds (Does event ∷ deeds) events replies =
      serial_deeds deeds (events ++ event ∷ []) (subst (λ (s : DeviceState). AreReplies f all s deeds) (sym (after_events-append f opened events (event ∷ []))) replies)
  serial_deeds (Replies number bytes ∷ deeds) events replies = (serial_at events number bytes replies.0, serial_deeds deeds events replies.1)

-- ---- for callers

pub serial_answer_law : SerialAnswerLaw
serial_answer_law f base next set_bits awaiting pieces serves whole =
    let all = flat_map (λ (piece : List Message). piece) pieces in
    serial_deeds f base next set_bits awaiting all serves whole (take_pieces f (opened_session (opened_device base next set_bits awaiting)) pieces).deeds []
    (session_law f base next set_bits awaiting pieces).replies
