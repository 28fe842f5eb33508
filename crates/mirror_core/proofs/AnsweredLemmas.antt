-- A request that is alone in flight is done behind its serves, and its reply is one of its kind, whatever the disk tells.
use Rattle.std.proofs.Common.{◌≡◌, ℕ, suc, ◌+◌, ◌<◌, ◌≤◌, ◌==◌, Bool, true, false, if◌then◌else◌, List, [], ◌∷◌, ◌++◌, find, length, map, Option, None, Some, IfSome, Ok, Err, Result, refl, sym, ◌∙◌, ap, subst, arith}
use Rattle.std.specs.List.{list_any}
use Rattle.std.proofs.lemmas.Bool.{eq-eqb}
use Rattle.std.proofs.lemmas.List.{length-map}
use Rattle.request_slots.specs.declared.reply.Reply.{Reply}
use Rattle.request_slots.specs.declared.request.Request.{Request}
use Rattle.request_slots.specs.declared.request.Request.TheVariants.{Flush, Read, Write}
use Rattle.request_slots.specs.declared.slot.Outcome.{Outcome}
use Rattle.request_slots.specs.declared.slot.Outcome.TheVariants.{Fault, Finished, Unfinished}
use Rattle.request_slots.specs.declared.slot.Slot.{Slot}
use Rattle.request_slots.specs.declared.submit_fault.SubmitFault.{SubmitFault}
use Rattle.request_slots.specs.declared.turn.Turn.{Turn}
use Rattle.request_slots.specs.declared.turn.Turn.TheVariants as Turns
use Rattle.request_slots.specs.Flight.{Flight, ask_of, bytes_in, is_in_flight, is_of, is_unfinished, newly_slotted, next_of, slot_of, turn_behind, turn_in, turn_of}
use Rattle.request_slots.specs.Submitting.{after_submit}
use Rattle.request_slots.specs.Taking.{after_take, reply_by, reply_of, taken_by, without}
use Rattle.request_slots.proofs.SlotsLemmas.{IsSplit, any-split, find-split, length-without, split_of, without-split}
use Rattle.device_parts.specs.declared.condition.Condition.{Condition}
use Rattle.device_parts.specs.Device.{KeepsFlight}
use Rattle.device_parts.proofs.ReadyLemmas.{HasSameBlocks, submit-same, take-same}
use Rattle.journal_device.specs.Telling.{IsFaultAmong, IsSlotFor, IsTicketOf, KeepsRequest, with_buffer}
use Rattle.device.specs.declared.mode.DeviceParts.{DeviceParts}
use Rattle.device.specs.Calls.{refusal_to, with_submitted}
use Rattle.device.specs.Device.{mode_of, with_slots}
use Rattle.mirror_calls.specs.declared.leg.BlocksRead.{BlocksRead}
use Rattle.mirror_calls.specs.Leg.{IsAmong, buffer_in}
use Rattle.mirror_core.specs.Answered.{IsOfRead, IsOfWrite, IsReadAs, IsReplyTo, IsReplyToRead, IsReplyToWrite}
use Rattle.request_slots.specs.declared.reply.Reply.TheVariants as Replies

-- ---- it comes in

own_buffer : (r : Request) → r ≡ with_buffer (bytes_in r) r
own_buffer (Read first count buffer) = refl
own_buffer (Write first count bytes fua) = refl
own_buffer Flush = refl

-- Once it is submitted where none is in flight, it is alone, and its ticket is that of it.
pub alone_by : (request : Request) (fault : Option SubmitFault) (flight : Flight) → fault ≡ None → flight.slots ≡ []
    → (after_submit fault request flight).slots ≡ newly_slotted (suc flight.submitted) request ∷ []
alone_by request fault flight none empty =
    ap (λ (o : Option SubmitFault). (after_submit o request flight).slots) none
    ∙ ap (λ (l : List Slot). l ++ newly_slotted (suc flight.submitted) request ∷ []) empty

find_one : (t : ℕ) (x : Slot) → is_of t x ≡ true → find (is_of t) (x ∷ []) ≡ Some x
find_one t x own = find-split t x [] own [] tt

any_one : (t : ℕ) (x : Slot) → is_of t x ≡ true → list_any (is_of t) (x ∷ []) ≡ true
any_one t x own = any-split t x [] own []

pub submitted_is : (request : Request) (t n : ℕ) (flight : Flight) → flight.slots ≡ newly_slotted n request ∷ [] → t ≡ n → IsTicketOf request t flight
submitted_is request t n flight alone is =
    subst (λ (o : Option Slot). IfSome o (IsSlotFor request))
    (sym (ap (find (is_of t)) alone ∙ find_one t (newly_slotted n request) (eq-eqb n t (sym is)))) (record {
      buffer = bytes_in request;
      is = own_buffer request;
      size = refl;
      fault = tt;
    })

-- ---- it is done

next_open : (x : Slot) (r : Request) → next_of x r ≡ Turns.Finished → ⊥
next_open x (Read first count buffer) done = cc
next_open x (Write first count bytes fua) done = cc
next_open x Flush done = cc

behind_open : (x : Slot) (by : Option ℕ) → turn_behind x by ≡ Turns.Finished → ⊥
behind_open x (Some by) done = cc
behind_open x None done = next_open x x.request done

done_if : (x : Slot) (by : Option ℕ) (b : Bool) → (if b then turn_behind x by else Turns.Finished) ≡ Turns.Finished → b ≡ false
done_if x by true done = absurd (behind_open x by done)
done_if x by false done = refl

-- The slot of a request that is done.
pub record IsDoneSlot (request : Request) (t : ℕ) (flight : Flight) : Type 0 where
  pub slot : Slot
  pub there : slot_of t flight ≡ Some slot
  pub done : is_unfinished slot ≡ false
  pub is_for : IsSlotFor request slot
  pub left : length flight.slots ≡ 1 → without t flight.slots ≡ []

no_length : (slots : List Slot) → length slots ≡ 0 → slots ≡ []
no_length [] none = refl
no_length (x ∷ slots) none = absurd (omega (arith, none))

pub done_slot : (request : Request) (t : ℕ) (flight : Flight) → is_in_flight t flight ≡ true → IsTicketOf request t flight
    → turn_of flight t ≡ Turns.Finished → IsDoneSlot request t flight
done_slot request t flight there is turn =
    let split : IsSplit t flight.slots = split_of t flight.slots there in
    let own : Slot = split.own in
    let found : slot_of t flight ≡ Some own =
    ap (find (is_of t)) split.is ∙ find-split t own split.behind split.own_is split.before split.none in
    let rest : without t flight.slots ≡ split.before ++ split.behind =
    ap (without t) split.is ∙ without-split t own split.behind split.own_is split.before split.none in
    record {
      slot = own;
      there = found;
      done = done_if own _ (is_unfinished own) (sym (ap (turn_in flight) found) ∙ turn);
      is_for = subst (λ (o : Option Slot). IfSome o (IsSlotFor request)) found is;
      left = λ one.
          let all : length flight.slots ≡ length (split.before ++ own ∷ split.behind) = ap (λ (l : List Slot). length l) split.is in
          let less = length-without split.before split.behind own in
          rest ∙ no_length (split.before ++ split.behind) (omega (arith, all, less, one));
    }

-- As many are in flight as were.
pub still_one : (old new : Flight) → KeepsFlight old new → length old.slots ≡ 1 → length new.slots ≡ 1
still_one old new keeps one =
    sym (length-map new.slots ask_of) ∙ ap length keeps.asks ∙ length-map old.slots ask_of ∙ one

-- ---- its reply is taken

pub taken_is : (request : Request) (t : ℕ) (flight : Flight) (is : IsDoneSlot request t flight) → taken_by t (slot_of t flight) ≡ Ok (reply_of is.slot)
taken_is request t flight is =
    ap (taken_by t) is.there ∙ ap (λ (b : Bool). if b then Err t else Ok (reply_of is.slot)) is.done

pub none_left : (request : Request) (t : ℕ) (flight : Flight) (is : IsDoneSlot request t flight) → length flight.slots ≡ 1
    → (after_take t (slot_of t flight) flight).slots ≡ []
none_left request t flight is one =
    ap (λ (o : Option Slot). (after_take t o flight).slots) is.there
    ∙ ap (λ (b : Bool). (if b then flight else record flight { slots = without t flight.slots }).slots) is.done ∙ is.left one

read_answer : (first count : ℕ) (given buffer : List ℕ) (outcome : Outcome) → length buffer ≡ length given
    → IsFaultAmong (Read first count given) outcome → IsReplyToRead first count given (reply_by (Read first count buffer) outcome)
read_answer first count given buffer Unfinished size fault = size
read_answer first count given buffer Finished size fault = size
read_answer first count given buffer (Fault block stored computed) size fault = (size, fault)

by_request : (request : Request) (buffer : List ℕ) (outcome : Outcome) → length buffer ≡ length (bytes_in request) → IsFaultAmong request outcome
    → IsReplyTo request (reply_by (with_buffer buffer request) outcome)
by_request (Read first count given) buffer outcome size fault = read_answer first count given buffer outcome size fault
by_request (Write first count bytes fua) buffer outcome size fault = refl
by_request Flush buffer outcome size fault = tt

-- It is one of its kind.
pub answers_it : (request : Request) (slot : Slot) → IsSlotFor request slot → IsReplyTo request (reply_of slot)
answers_it request slot is =
    subst (λ (r : Request). IsReplyTo request (reply_by r slot.outcome)) (sym is.is)
    (by_request request is.buffer slot.outcome is.size is.fault)

-- ---- what a leg gives by it

pub of_read : (first count : ℕ) (buffer : List ℕ) (reply : Reply) → IsReplyToRead first count buffer reply → IsOfRead reply
of_read first count buffer (Replies.Read out) is = tt
of_read first count buffer (Replies.TagFault block stored computed out) is = tt
of_read first count buffer (Replies.Written out) is = is
of_read first count buffer Replies.Flushed is = is

pub read_among : (first count : ℕ) (buffer : List ℕ) (reply : Reply) → IsReplyToRead first count buffer reply → (read : BlocksRead)
    → IsReadAs reply read → IsAmong first count read
read_among first count buffer (Replies.Read out) is read given = subst (λ (x : BlocksRead). IsAmong first count x) (sym given) tt
read_among first count buffer (Replies.TagFault block stored computed out) is read given =
    subst (λ (x : BlocksRead). IsAmong first count x) (sym given) is.1
read_among first count buffer (Replies.Written out) is read given = absurd is
read_among first count buffer Replies.Flushed is read given = absurd is

pub read_as_long : (first count : ℕ) (buffer : List ℕ) (reply : Reply) → IsReplyToRead first count buffer reply → (read : BlocksRead)
    → IsReadAs reply read → length (buffer_in read) ≡ length buffer
read_as_long first count buffer (Replies.Read out) is read given = ap (λ (x : BlocksRead). length (buffer_in x)) given ∙ is
read_as_long first count buffer (Replies.TagFault block stored computed out) is read given =
    ap (λ (x : BlocksRead). length (buffer_in x)) given ∙ is.0
read_as_long first count buffer (Replies.Written out) is read given = absurd is
read_as_long first count buffer Replies.Flushed is read given = absurd is

pub of_write : (bytes : List ℕ) (reply : Reply) → IsReplyToWrite bytes reply → IsOfWrite reply
of_write bytes (Replies.Read out) is = is
of_write bytes (Replies.TagFault block stored computed out) is = is
of_write bytes (Replies.Written out) is = tt
of_write bytes Replies.Flushed is = is

pub bytes_back : (bytes out : List ℕ) (reply : Reply) → IsReplyToWrite bytes reply → reply ≡ Replies.Written out → out ≡ bytes
bytes_back bytes out reply is written = subst (IsReplyToWrite bytes) written is

-- ---- a request that is run whole

-- Behind its submission it is alone, in the mode that it was in.
pub begun_alone : (request : Request) (condition : Condition) (old begun : DeviceParts) → old.common.slots.slots ≡ [] → refusal_to old condition request ≡ None
    → begun ≡ with_submitted old condition request
    → begun.common.slots.slots ≡ newly_slotted (suc old.common.slots.submitted) request ∷ []
begun_alone request condition old begun empty none is =
    ap (λ (p : DeviceParts). p.common.slots.slots) is ∙ alone_by request (refusal_to old condition request) old.common.slots none empty

pub same_mode : (request : Request) (condition : Condition) (old begun : DeviceParts) → begun ≡ with_submitted old condition request
    → mode_of begun.mode ≡ mode_of old.mode
same_mode request condition old begun is = ap (λ (p : DeviceParts). mode_of p.mode) is

-- Served to its end it is done.
pub served_slot : (request : Request) (t : ℕ) (begun served : Flight) (n : ℕ) → begun.slots ≡ newly_slotted n request ∷ [] → t ≡ n
    → KeepsFlight begun served → KeepsRequest t begun served → (length begun.slots ≡ 1 → turn_of served t ≡ Turns.Finished)
    → IsDoneSlot request t served
served_slot request t begun served n alone counted keeps stays done =
    done_slot request t served (keeps.same t ∙ there) (stays request (submitted_is request t n begun alone counted))
    (done (ap (λ (l : List Slot). length l) alone))
  where
    there : is_in_flight t begun ≡ true
    there = ap (list_any (is_of t)) alone ∙ any_one t (newly_slotted n request) (eq-eqb n t (sym counted))

-- It has the blocks that it had.
pub kept_blocks : (request : Request) (condition : Condition) (old begun served taken : DeviceParts) (t : ℕ) → begun ≡ with_submitted old condition request
    → KeepsFlight begun.common.slots served.common.slots
    → taken ≡ with_slots served (after_take t (slot_of t served.common.slots) served.common.slots)
    → HasSameBlocks old.common.slots taken.common.slots
kept_blocks request condition old begun served taken t is keeps rest =
    let first = submit-same (refusal_to old condition request) request old.common.slots in
    let last = take-same t (slot_of t served.common.slots) served.common.slots in
    record {
      blocks = ap (λ (p : DeviceParts). p.common.slots.blocks) rest ∙ last.blocks ∙ keeps.blocks ∙ ap (λ (p : DeviceParts). p.common.slots.blocks) is ∙ first.blocks;
      block_size =
          ap (λ (p : DeviceParts). p.common.slots.block_size) rest ∙ last.block_size ∙ keeps.block_size
          ∙ ap (λ (p : DeviceParts). p.common.slots.block_size) is ∙ first.block_size;
    }

pub not_back : (reply : Reply) (t : ℕ) → ◌≡◌ {A = Result Reply ℕ} (Ok reply) (Err t) → ⊥
not_back reply t same = cc

pub same_reply : (a b : Reply) → ◌≡◌ {A = Result Reply ℕ} (Ok a) (Ok b) → a ≡ b
same_reply a b same = cc
