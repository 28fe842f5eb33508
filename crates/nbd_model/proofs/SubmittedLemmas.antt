-- What a session hands in to a device: which submissions are accepted, and what they are then.
use Rattle.std.proofs.Common.{◌≡◌, ◌≢◌, inl, inr, ℕ, zero, suc, ◌+◌, ◌≤◌, nat_eq, if◌then◌else◌, ltb, Bool, true, false, List, [], ◌∷◌, ◌++◌, length, take, Option, None, Some, slice_get, refl, sym, ◌∙◌, ap, subst, arith, append_assoc, append-nil, set}
use Rattle.std.specs.Prelude.{leb, ◌==◌, ◌||◌, ◌*◌, not, ◌/◌, ◌%◌}
use Rattle.std.specs.Option.{option_or, option_map, option_to_list}
use Rattle.std.proofs.lemmas.Bool.{cases_Bool, false≢true, cases_eq, eq-eqb, ne_eqb, lt-ltb, le-ltb, cases_lt, or_parts, eqb-true, eqb-false, not-false, ltb-false}
use Rattle.std.proofs.lemmas.Option.{none-some, same_Some}
use Rattle.device_model.specs.Mode.{DeviceFormat, is_recovery}
use Rattle.device_model.specs.Progress.{Progress, Working, DeviceState, Submit, Answer, Ticket, ReadOnly, Range, Length, SlotsFull, in_flight, EventResult, blocks_refusal, form_refusal, slots_refusal, submit_by, event_result, after_event}
use Rattle.device_model.specs.Request.{Asked, RequestState, Unfinished, Finished, Taken, Dropped, newly_asked, is_unfinished, is_over, Request}
use Rattle.device_model.specs.RequestLaws.{requests_of}
use Rattle.device_model.specs.Script.{most_blocks}
use Rattle.device_model.specs.Submission as submission
use Rattle.device_model.specs.Submission.{Submission, request_in, bytes_in}
use Rattle.device_model.specs.Transcript.{BlockFormat}
use Rattle.device_model.proofs.SubmissionLemmas.{refusal, result-working}
use Rattle.std.proofs.lemmas.List.{length-replicate}
use Rattle.std.proofs.Math.Nat.{div-add-mod', zero-mul}
use Rattle.device_model.specs.SubmissionLaws.{IsFitting}
use Rattle.nbd_model.specs.Message.{Kind, Read, Write, Disconnect, Flush, Unknown, kind_of, bytes_behind}
use Rattle.nbd_model.specs.declared.nbd_request.NbdRequest.{NbdRequest}
use Rattle.nbd_model.specs.Stream.{Message, is_whole}
use Rattle.nbd_model.specs.Judged.{submission_of, is_bad_range, is_refused, is_refused_kind, submission_for}
use Rattle.nbd_model.specs.Session.{Flying, Moment, flying_with}
use Rattle.nbd_model.specs.SessionLaws.{numbers_of, ServesAll, AreWhole, asked_by}

-- ---- the numbers of requests that were taken

-- How often a request is counted that was taken.
abbrev pub fresh : ℕ → ℕ → ℕ
fresh taken n = if ltb n taken then 1 else 0

-- One request more is taken,
pub fresh-suc : (taken n : ℕ) → fresh (suc taken) n ≡ fresh taken n + (if nat_eq taken n then 1 else 0)
fresh-suc taken n = elim (cases_lt n taken) [
  | inl low ↦ rw (lt-ltb n taken low, lt-ltb n (suc taken) (omega arith), ne_eqb taken n (omega arith)) refl
  | inr high ↦ elim (cases_eq taken n) [
    | inl same ↦ rw (le-ltb n taken high, lt-ltb n (suc taken) (omega arith), eq-eqb taken n same) refl
    | inr other ↦ rw (le-ltb n taken high, le-ltb n (suc taken) (omega arith), ne_eqb taken n other) refl
  ]
]

-- and none at the start.
pub fresh-zero : (n : ℕ) → fresh 0 n ≡ 0
fresh-zero n = rw (le-ltb n 0 (omega arith)) refl

-- A request that is unfinished is in flight.
pub unfinished_not_over : (state : RequestState) → is_unfinished state ≡ true → is_over state ≡ false
unfinished_not_over Unfinished more = refl
unfinished_not_over Finished more = refl
unfinished_not_over Taken more = absurd (false≢true more)
unfinished_not_over Dropped more = absurd (false≢true more)

-- What is served of a request changes no request.
pub requests_of-set : (l : List Asked) (k : ℕ) (a b : Asked) → slice_get l k ≡ Some a → b.request ≡ a.request → requests_of (set l k b) ≡ requests_of l
requests_of-set [] k a b there same = absurd (none-some a there)
requests_of-set (x ∷ l) zero a b there same = ap (λ (r : Request). r ∷ requests_of l) (same ∙ ap (λ (y : Asked). y.request) (sym (same_Some x a there)))
requests_of-set (x ∷ l) (suc k) a b there same = ap (λ (rest : List Request). x.request ∷ rest) (requests_of-set l k a b there same)

-- ---- a submission that is refused

-- The answer gives no ticket.
abbrev pub IsNoTicket : Answer → Type 0
IsNoTicket (Ticket ticket) = ⊥
IsNoTicket answer = Unit {0}

-- Nor does a refusal, if there is one.
abbrev pub NoTicket : Option Answer → Type 0
NoTicket None = Unit {0}
NoTicket (Some answer) = IsNoTicket answer

if-no_ticket : (t : Bool) (x y : Option Answer) → NoTicket x → NoTicket y → NoTicket (if t then x else y)
if-no_ticket true x y one other = one
if-no_ticket false x y one other = other

blocks-no_ticket : (b : BlockFormat) (first count : ℕ) (bytes : List ℕ) → NoTicket (blocks_refusal b first count bytes)
blocks-no_ticket b first count bytes =
    let length_ : Option Answer = Some (Length (length bytes) (count * b.block_size)) in
    let fits = length bytes == count * b.block_size in
    if-no_ticket ((count == 0) || ltb b.blocks (first + count)) (Some (Range first count b.blocks)) (if fits then None else length_) tt
    (if-no_ticket fits None length_ tt tt)

form-no_ticket : (f : DeviceFormat) (s : Submission) → NoTicket (form_refusal f s)
form-no_ticket f (submission.Read first count buffer) = blocks-no_ticket f.blocks first count buffer
form-no_ticket f (submission.Write first count bytes fua) =
    if-no_ticket (is_recovery f.mode) (Some ReadOnly) (blocks_refusal f.blocks first count bytes) tt (blocks-no_ticket f.blocks first count bytes)
form-no_ticket f submission.Flush = tt

or-no_ticket : (x y : Option Answer) → NoTicket x → NoTicket y → NoTicket (option_or x y)
or-no_ticket None y one other = other
or-no_ticket (Some answer) y one other = one

-- A submission that is refused gets no ticket,
pub refusal-no_ticket : (f : DeviceFormat) (p : Progress) (s : Submission) → NoTicket (refusal f p s)
refusal-no_ticket f p s =
    or-no_ticket (form_refusal f s) (slots_refusal f p.requests) (form-no_ticket f s) (if-no_ticket (leb f.slots (in_flight p.requests)) (Some SlotsFull) None tt tt)

-- and is not in flight.
pub flying-same : (m : Moment) (number cookie : ℕ) (answer : Answer) → IsNoTicket answer → flying_with m number cookie answer ≡ m.flying
flying-same m number cookie (Ticket ticket) refused = absurd refused
flying-same m number cookie answer refused = refl

-- ---- a submission that is accepted

-- Messages are whole that are some of whole ones: the first,
pub whole_left : (a b : List Message) → AreWhole (a ++ b) → AreWhole a
whole_left [] b whole i m there = absurd (none-some m there)
whole_left (x ∷ a) b whole zero m there = whole zero m there
whole_left (x ∷ a) b whole (suc i) m there = whole_left a b (λ j n is. whole (suc j) n is) i m there

-- and the last.
pub whole_right : (a b : List Message) → AreWhole (a ++ b) → AreWhole b
whole_right [] b whole = whole
whole_right (x ∷ a) b whole = whole_right a b (λ j n is. whole (suc j) n is)

-- One that gets a ticket stands last on the device's list.
pub accepted : (f : DeviceFormat) (s : DeviceState) (submission : Submission) → s.condition ≡ Working
    → (event_result f s (Submit submission)).answer ≡ Ticket (suc (length s.progress.requests))
    → (after_event f s (Submit submission)).progress.requests ≡ s.progress.requests ++ newly_asked (request_in f.blocks.block_size submission) (bytes_in submission) ∷ []
accepted f s submission works told = by (refusal f s.progress submission) refl (refusal-no_ticket f s.progress submission)
  where
    by : (why : Option Answer) → refusal f s.progress submission ≡ why → NoTicket why
        → (after_event f s (Submit submission)).progress.requests ≡ s.progress.requests ++ newly_asked (request_in f.blocks.block_size submission) (bytes_in submission) ∷ []
    by (Some answer) why none =
        let result = result-working f s (Submit submission) works ∙ ap (submit_by f s.progress submission) why in
        absurd (subst IsNoTicket (sym (ap (λ (x : EventResult). x.answer) result) ∙ told) none)
    by None why none =
        ap (λ (x : EventResult). x.progress.requests) (result-working f s (Submit submission) works ∙ ap (submit_by f s.progress submission) why)

kind_is_write : (a b c d : Bool) → (if a then Read else if b then Write else if c then Disconnect else if d then Flush else Unknown) ≡ Write → b ≡ true
kind_is_write true b c d is = absurd (cc)
kind_is_write false true c d is = refl
kind_is_write false false true d is = absurd (cc)
kind_is_write false false false true is = absurd (cc)
kind_is_write false false false false is = absurd (cc)

-- What a range that is not refused is.
pub record Range_is (b : BlockFormat) (r : NbdRequest) : Type 0 where
  pub some : 1 ≤ r.length / b.block_size
  pub whole : r.length / b.block_size * b.block_size ≡ r.length
  pub there : r.offset / b.block_size + r.length / b.block_size ≤ b.blocks

range_is : (b : BlockFormat) (r : NbdRequest) → is_bad_range b r ≡ false → Range_is b r
range_is b r good =
    let size = b.block_size in
    let five = or_parts _ (ltb b.blocks (r.offset / size + r.length / size)) good in
    let four = or_parts _ (ltb most_blocks (r.length / size)) five.0 in
    let three = or_parts _ (not (r.offset % size == 0)) four.0 in
    let two = or_parts (r.length == 0) (not (r.length % size == 0)) three.0 in
    let even : r.length % size ≡ 0 = eqb-true (r.length % size) 0 (not-false (r.length % size == 0) two.1) in
    let split = div-add-mod' r.length size in
    let whole : r.length / size * size ≡ r.length = omega (arith, even, split) in
    let nonzero : r.length ≢ 0 = eqb-false r.length 0 two.0 in
    record {
      some = elim (cases_eq (r.length / size) 0) [
        | inl none ↦ absurd (nonzero (sym whole ∙ ap (λ (k : ℕ). k * size) none ∙ zero-mul size))
        | inr other ↦ omega (arith, other)
      ];
      whole = whole;
      there = ltb-false b.blocks (r.offset / size + r.length / size) five.1;
    }

-- What a whole message asks fits the device, where it is not refused.
pub fitting : (f : DeviceFormat) → ServesAll f → (m : Message) (s : Submission) → is_whole m ≡ true → submission_of f.blocks m ≡ Some s → IsFitting f s
fitting f serves m s whole asks = elim (cases_Bool (is_refused f.blocks m.request)) [
  | inl refused ↦ absurd (none-some s (sym (ap (λ (b : Bool). if b then None else submission_for f.blocks m (kind_of m.request)) refused) ∙ asks))
  | inr fits ↦ by (kind_of m.request) refl fits (sym (ap (λ (b : Bool). if b then None else submission_for f.blocks m (kind_of m.request)) fits) ∙ asks)
]
  where
    by : (kind : Kind) → kind_of m.request ≡ kind → is_refused_kind f.blocks m.request kind ≡ false → submission_for f.blocks m kind ≡ Some s → IsFitting f s
    by Read is fits handed =
        let range = range_is f.blocks m.request fits in
        let size = f.blocks.block_size in
        subst (IsFitting f) (same_Some _ s handed) (record {
          some = range.some;
          there = range.there;
          size = length-replicate m.request.length 0 ∙ sym range.whole;
        })
    by Write is fits handed =
        let range = range_is f.blocks m.request fits in
        let write = kind_is_write (m.request.kind == 0) (m.request.kind == 1) (m.request.kind == 2) (m.request.kind == 3) is in
        let came = eqb-true (length m.bytes) (bytes_behind m.request) whole ∙ ap (λ (b : Bool). if b then m.request.length else 0) write in
        subst (IsFitting f) (same_Some _ s handed) (
          serves.writes,
          record {
            some = range.some;
            there = range.there;
            size = came ∙ sym range.whole;
          },
        )
    by Disconnect is fits handed = absurd (none-some s handed)
    by Flush is fits handed = subst (IsFitting f) (same_Some submission.Flush s handed) tt
    by Unknown is fits handed = absurd (none-some s handed)

-- One request more is in flight.
pub numbers_of-push : (flying : List Flying) (r : Flying) (n : ℕ) → numbers_of (flying ++ r ∷ []) n ≡ numbers_of flying n + (if nat_eq r.number n then 1 else 0)
numbers_of-push [] r n = omega arith
numbers_of-push (q ∷ flying) r n = let rest = numbers_of-push flying r n in omega (arith, rest)

-- ---- what some of the messages ask

-- What messages ask stands in their order.
pub asked_by-append : (f : DeviceFormat) (a b : List Message) → asked_by f (a ++ b) ≡ asked_by f a ++ asked_by f b
asked_by-append f [] b = refl
asked_by-append f (x ∷ a) b =
    let one = option_to_list (option_map (request_in f.blocks.block_size) (submission_of f.blocks x)) in
    ap (λ (l : List Request). one ++ l) (asked_by-append f a b) ∙ sym (append_assoc one (asked_by f a) (asked_by f b))

-- One message more.
pub asked_by-next : (f : DeviceFormat) (all : List Message) (k : ℕ) (m : Message) → slice_get all k ≡ Some m → (o : Option Submission) → submission_of f.blocks m ≡ o
    → asked_by f (take (suc k) all) ≡ asked_by f (take k all) ++ option_to_list (option_map (request_in f.blocks.block_size) o)
asked_by-next f [] k m there o is = absurd (none-some m there)
asked_by-next f (x ∷ all) zero m there o is =
    let one = option_to_list (option_map (request_in f.blocks.block_size) (submission_of f.blocks x)) in
    append-nil one ∙ ap (λ (y : Option Submission). option_to_list (option_map (request_in f.blocks.block_size) y)) (ap (λ (y : Message). submission_of f.blocks y) (same_Some x m there) ∙ is)
asked_by-next f (x ∷ all) (suc k) m there o is =
    let one = option_to_list (option_map (request_in f.blocks.block_size) (submission_of f.blocks x)) in
    ap (λ (l : List Request). one ++ l) (asked_by-next f all k m there o is)
    ∙ sym (append_assoc one (asked_by f (take k all)) (option_to_list (option_map (request_in f.blocks.block_size) o)))

-- ---- one request more on the device's list

-- The requests before it are those before,
pub take-push : (l : List Asked) (y : Asked) (k : ℕ) → k ≤ length l → take k (requests_of (l ++ y ∷ [])) ≡ take k (requests_of l)
take-push l y zero low = refl
take-push [] y (suc k) low = absurd (omega (arith, low))
take-push (x ∷ l) y (suc k) low = ap (λ (rest : List Request). x.request ∷ rest) (take-push l y k (omega (arith, low)))

-- and all before the last are all that were there.
pub take-listed : (l : List Asked) → take (length l) (requests_of l) ≡ requests_of l
take-listed [] = refl
take-listed (x ∷ l) = ap (λ (rest : List Request). x.request ∷ rest) (take-listed l)
