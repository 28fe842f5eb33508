-- What is given back with the reply of a request that is run on a device of which all others are taken.
use Rattle.std.proofs.Common.{◌≡◌, ℕ, zero, suc, ◌≤◌, if◌then◌else◌, List, [], ◌∷◌, ◌++◌, length, take, None, Some, slice_get, refl, sym, ◌∙◌, ap, arith}
use Rattle.std.proofs.lemmas.Option.{none-some, same_Some}
use Rattle.image_model.specs.Cells.{Cell}
use Rattle.device_model.specs.History.{History, cells_now}
use Rattle.device_model.specs.Mode.{DeviceFormat, is_recovery}
use Rattle.device_model.specs.Progress.{DeviceState, Event, EventResult, Submit, Take, Replied, Ticket, Working, after_event, after_events, changes_of, event_result, submit_by}
use Rattle.device_model.specs.Reply.{Reply, good_bytes, read_back, read_reply}
use Rattle.device_model.specs.Request.{Asked, Request, Read, Write, Flush, newly_asked}
use Rattle.device_model.specs.RequestLaws.{IsReached, IsSerialReply, requests_of}
use Rattle.device_model.specs.Script.{whole_events, whole_finish}
use Rattle.device_model.specs.ScriptLaws.{IsAtRest}
use Rattle.device_model.specs.Serial.{readable_cells, serial_cells, serial_returned, whole_reply, whole_returned}
use Rattle.device_model.specs.Submission.{Submission, bytes_in, request_in}
use Rattle.device_model.specs.SubmissionLaws.{IsFitting}
use Rattle.device_model.proofs.HistoryLemmas.{with_changes-base}
use Rattle.device_model.proofs.KeptLemmas.{kept_law}
use Rattle.device_model.proofs.LoopLemmas.{answer-whole}
use Rattle.device_model.proofs.ReplyLemmas.{read_reply-same}
use Rattle.device_model.proofs.RequestLemmas.{slice_get-push_last}
use Rattle.device_model.proofs.ScriptLemmas.{history-after}
use Rattle.device_model.proofs.SubmissionLemmas.{fits-refusal, result-working, submit-ticket, ticket_law}
use Rattle.mirror_laws.specs.WholeLaws.{RunsWhole}
use Rattle.mirror_laws.proofs.WholeLemmas.{whole_law}
use Rattle.mirror_core.proofs.ReadLemmas.{good_bytes-same}
use Rattle.mirror_core.proofs.RestLemmas.{rest_cells}

-- ---- lists of requests

-- An item stays where it is in a longer list.
stays_at : (xs ys : List Asked) (i : ℕ) (x : Asked) → slice_get xs i ≡ Some x → slice_get (xs ++ ys) i ≡ Some x
stays_at [] ys i x is = absurd (none-some x is)
stays_at (z ∷ xs) ys zero x is = is
stays_at (z ∷ xs) ys (suc i) x is = stays_at xs ys i x is

-- There is one of the same request.
pub record IsKept (ys : List Asked) (i : ℕ) (x : Asked) : Type 0 where
  pub asked : Asked
  pub there : slice_get ys i ≡ Some asked
  pub request_is : asked.request ≡ x.request

-- Where each stays what it asks, the first requests are those that were there.
front_kept : (xs ys : List Asked) → ((i : ℕ) (x : Asked) → slice_get xs i ≡ Some x → IsKept ys i x)
    → take (length xs) (requests_of ys) ≡ requests_of xs
front_kept [] ys kept = refl
front_kept (x ∷ xs) [] kept = let one = kept 0 x refl in absurd (none-some one.asked one.there)
front_kept (x ∷ xs) (y ∷ ys) kept =
    let one = kept 0 x refl in
    let here : y ≡ one.asked = same_Some y one.asked one.there in
    ap (λ (r : Request). r ∷ take (length xs) (requests_of ys)) (ap (λ (a : Asked). a.request) here ∙ one.request_is)
    ∙ ap (λ (l : List Request). x.request ∷ l) (front_kept xs ys (λ i z is. let later = kept (suc i) z is in record { asked = later.asked; there = later.there; request_is = later.request_is }))

-- ---- the same cells

module _ (f : DeviceFormat) (cells others : ℕ → Cell) (same : (b : ℕ) → cells b ≡ others b) where
  readable_same : (b : ℕ) → readable_cells f cells b ≡ readable_cells f others b
  readable_same b =
      ap (λ (cell : Cell). if is_recovery f.mode then record { bytes = cell.bytes; tag = f.blocks.tag b cell.bytes } else cell) (same b)

  returned_same : (r : Request) (given : List ℕ) → whole_returned f cells r given ≡ whole_returned f others r given
  returned_same (Read first count) given =
      ap (λ (q : Reply). read_back q (good_bytes f.blocks.tag (readable_cells f cells) first count) given)
      (read_reply-same f.blocks.tag (readable_cells f cells) (readable_cells f others) first count (λ b from below. readable_same b))
      ∙ ap (λ (l : List ℕ). read_back (read_reply f.blocks.tag (readable_cells f others) first count) l given)
      (good_bytes-same f.blocks.tag (readable_cells f cells) (readable_cells f others) 0 readable_same first count)
  returned_same (Write first blocks fua) given = refl
  returned_same Flush given = refl

-- ---- a request that is run whole

module _ (f : DeviceFormat) (s : DeviceState) (reached : IsReached f s) (works : s.condition ≡ Working) (rests : IsAtRest s) (sub : Submission)
    (given : (event_result f s (Submit sub)).answer ≡ Ticket (suc (length s.progress.requests))) where
  abbrev pub k : ℕ
  k = length s.progress.requests

  abbrev pub request : Request
  request = request_in f.blocks.block_size sub

  abbrev pub next : DeviceState
  next = after_event f s (Submit sub)

  abbrev pub finished : List Event
  finished = whole_finish f (suc k) next

  abbrev pub done : DeviceState
  done = after_events f next finished

  pub fitting : IsFitting f sub
  fitting = ((ticket_law f s sub works).0 given).0

  submitted : event_result f s (Submit sub) ≡ submit_by f s.progress sub None
  submitted =
      let both = (ticket_law f s sub works).0 given in
      result-working f s (Submit sub) works ∙ submit-ticket f s.progress sub (fits-refusal f s.progress sub both.0 both.1)

  requests_next : next.progress.requests ≡ s.progress.requests ++ newly_asked request (bytes_in sub) ∷ []
  requests_next = ap (λ (x : EventResult). x.progress.requests) submitted

  base_done : done.history.base ≡ s.history.base
  base_done =
      ap (λ (h : History). h.base) (history-after f next finished) ∙ with_changes-base (changes_of f next finished) next.history
      ∙ with_changes-base (event_result f s (Submit sub)).changes s.history

  kept : (i : ℕ) (x : Asked) → slice_get s.progress.requests i ≡ Some x → IsKept done.progress.requests i x
  kept i x is =
      let there : slice_get next.progress.requests i ≡ Some x =
      ap (λ (l : List Asked). slice_get l i) requests_next ∙ stays_at s.progress.requests (newly_asked request (bytes_in sub) ∷ []) i x is in
      let one = kept_law f next finished i x there in
      record { asked = one.0; there = one.1; request_is = one.2 }

  before : take k (requests_of done.progress.requests) ≡ requests_of s.progress.requests
  before = front_kept s.progress.requests done.progress.requests kept

  -- Its own stays what it was.
  record IsOwn (asked : Asked) : Type 0 where
    own_request : asked.request ≡ request
    own_given : asked.given ≡ bytes_in sub

  own : (asked : Asked) → slice_get done.progress.requests k ≡ Some asked → IsOwn asked
  own asked is =
      let new = newly_asked request (bytes_in sub) in
      let there : slice_get next.progress.requests k ≡ Some new =
      ap (λ (l : List Asked). slice_get l k) requests_next ∙ slice_get-push_last s.progress.requests new in
      let one = kept_law f next finished k new there in
      let it : one.0 ≡ asked = same_Some one.0 asked (sym one.1 ∙ is) in
      record {
        own_request = ap (λ (a : Asked). a.request) (sym it) ∙ one.2;
        own_given = ap (λ (a : Asked). a.given) (sym it) ∙ one.3;
      }

  -- The bytes that are given back are those that the request gives on what the blocks hold.
  pub returned_now : (place : ℕ) (asked_for : Request) (reply : Reply) (returned : List ℕ) → suc k ≡ suc place
      → IsSerialReply f done.history.base done.progress.requests place asked_for reply returned
      → returned ≡ whole_returned f (cells_now f.blocks.tag s.history) request (bytes_in sub)
  returned_now place asked_for reply returned same serial =
      let here : place ≡ k = omega (arith, same) in
      let mine = own serial.asked (ap (slice_get done.progress.requests) (sym here) ∙ serial.there) in
      sym serial.returned_is
      ∙ ap (λ (i : ℕ). serial_returned f done.history.base (requests_of done.progress.requests) i asked_for serial.asked.given) here
      ∙ ap (λ (r : Request). serial_returned f done.history.base (requests_of done.progress.requests) k r serial.asked.given) (sym serial.request_is ∙ mine.own_request)
      ∙ ap (λ (l : List ℕ). serial_returned f done.history.base (requests_of done.progress.requests) k request l) mine.own_given
      ∙ ap (λ (l : List Request). whole_returned f (serial_cells f 1 done.history.base l) request (bytes_in sub)) before
      ∙ ap (λ (base : ℕ → Cell). whole_returned f (serial_cells f 1 base (requests_of s.progress.requests)) request (bytes_in sub)) base_done
      ∙ returned_same f (serial_cells f 1 s.history.base (requests_of s.progress.requests)) (cells_now f.blocks.tag s.history) (rest_cells f s reached rests) request (bytes_in sub)

  module _ (slots : 1 ≤ f.slots) (some : 1 ≤ f.sections) where
    pub whole : RunsWhole f s request (whole_events f sub s)
    whole = whole_law f s sub slots some works rests fitting

    -- The reply is taken, and is what the request answers on that.
    pub taken_is : Some (event_result f done (Take (suc k))).answer
        ≡ Some (Replied request (whole_reply f (cells_now f.blocks.tag s.history) request) whole.returned)
    taken_is = sym (answer-whole f s sub (suc k) (sym given)) ∙ whole.answer
