-- What is served and taken is the event of `device_model`.
use Rattle.std.proofs.Common.{◌≡◌, inl, inr, ℕ, zero, suc, ◌+◌, ◌*◌, ◌<◌, ◌≤◌, ◌==◌, ◌||◌, Bool, true, false, List, [], ◌∷◌, ◌++◌, length, drop, set, slice_get, if◌then◌else◌, Some, refl, sym, ◌∙◌, ap, subst, arith, length-append}
use Rattle.std.proofs.lemmas.Bool.{cases_Bool, eqb-true, false≢true}
use Rattle.std.proofs.Math.Nat.{suc-mul}
use Rattle.std.proofs.lemmas.List.{append-nil}
use Rattle.std.proofs.lemmas.Option.{none-some, same_Some}
use Rattle.image_model.specs.Cells.{Cell}
use Rattle.device_model.specs.Mode.{DeviceFormat}
use Rattle.device_model.specs.Progress.{next_block, with_block}
use Rattle.device_model.specs.Reply as ModelReply
use Rattle.device_model.specs.Request as Asks
use Rattle.device_model.specs.Serial.{readable_cells}
use Rattle.device_model.specs.Submission as Submissions
use Rattle.device_model.specs.SubmissionLaws.{IsFitting, IsOfSubmission}
use Rattle.device_model.specs.Transcript.{is_fault}
use Rattle.request_slots.specs.Flight.{Flight}
use Rattle.request_slots.specs.InFlight.{as_reply, blocks_read, bytes_now, outcome_by, outcome_in, request_with, returned_in, slot_for, HasRead, IsFlightOf, IsNoFault, IsWhole}
use Rattle.request_slots.specs.Taking.{read_reply_of, reply_by, reply_of, without}
use Rattle.request_slots.specs.declared.reply.Reply.TheVariants as Replies
use Rattle.request_slots.specs.declared.slot.Outcome.{Outcome}
use Rattle.request_slots.specs.Serving.{changed, with_change, with_block_counted, with_block_read, with_fault, with_finish}
use Rattle.request_slots.specs.declared.slot.Slot.{Slot}
use Rattle.request_slots.proofs.InFlightLemmas.{changed-request, without-request, slot_for-fault, slot_for-flushed, slot_for-read, slot_for-written, unfinished_asked, unfinished_is}

-- ---- one request in place of another

each-set : (P : Asks.Asked → Type 0) (requests : List Asks.Asked) (k : ℕ) (b : Asks.Asked) → P b
    → ((i : ℕ) (x : Asks.Asked) → slice_get requests i ≡ Some x → P x)
    → (i : ℕ) (x : Asks.Asked) → slice_get (set requests k b) i ≡ Some x → P x
each-set P [] k b is each i x there = each i x there
each-set P (y ∷ requests) zero b is each zero x there = subst P (same_Some b x there) is
each-set P (y ∷ requests) zero b is each (suc i) x there = each (suc i) x there
each-set P (y ∷ requests) (suc k) b is each zero x there = each zero x there
each-set P (y ∷ requests) (suc k) b is each (suc i) x there = each-set P requests k b is (λ j z at. each (suc j) z at) i x there

length-set_asked : (requests : List Asks.Asked) (k : ℕ) (b : Asks.Asked) → length (set requests k b) ≡ length requests
length-set_asked [] k b = refl
length-set_asked (y ∷ requests) zero b = refl
length-set_asked (y ∷ requests) (suc k) b = ap suc (length-set_asked requests k b)

low-there : (requests : List Asks.Asked) (k : ℕ) (a : Asks.Asked) → slice_get requests k ≡ Some a → k < length requests
low-there [] k a there = absurd (none-some a there)
low-there (y ∷ requests) zero a there = omega arith
low-there (y ∷ requests) (suc k) a there = let rest = low-there requests k a there in omega (arith, rest)

-- where a change of its slot is one of a request that is not over, the flight is of the requests with it
pub IsFlightOf-changed : (f : DeviceFormat) (flight : Flight) (requests : List Asks.Asked) (k : ℕ) (a b : Asks.Asked) (change : Slot → Slot)
    → IsFlightOf f flight requests → slice_get requests k ≡ Some a → Asks.is_over a.state ≡ false → Asks.is_over b.state ≡ false
    → change (slot_for (1 + k) a) ≡ slot_for (1 + k) b → HasRead f.blocks.block_size b → IsOfSubmission f b
    → IsFlightOf f (with_change (suc k) change flight) (set requests k b)
IsFlightOf-changed f flight requests k a b change is there open_ open_b same read sub = record {
  blocks = is.blocks;
  block_size = is.block_size;
  most = is.most;
  submitted = is.submitted ∙ sym (length-set_asked requests k b);
  slots = ap (changed (suc k) change) is.slots ∙ changed-request requests k a there open_ change b (low-there requests k a there) open_b same;
  each = each-set (λ x. HasRead f.blocks.block_size x × IsOfSubmission f x) requests k b (read, sub) is.each;
}

-- it was submitted as before
pub IsOfSubmission-same : (f : DeviceFormat) (a b : Asks.Asked) → b.request ≡ a.request → b.given ≡ a.given → IsOfSubmission f a → IsOfSubmission f b
IsOfSubmission-same f a b request given is = record {
  submission = is.submission;
  fitting = is.fitting;
  request = request ∙ is.request;
  given = given ∙ is.given;
}

-- ---- one block more

module _ (f : DeviceFormat) (cells : ℕ → Cell) (flight : Flight) (requests : List Asks.Asked) (k : ℕ) (a : Asks.Asked)
    (is : IsFlightOf f flight requests) (there : slice_get requests k ≡ Some a) (still : a.state ≡ Asks.Unfinished) where
  open_ : Asks.is_over a.state ≡ false
  open_ = ap Asks.is_over still

  has_read : HasRead f.blocks.block_size a
  has_read = (is.each k a there).0

  submitted : IsOfSubmission f a
  submitted = (is.each k a there).1

  reply_is : a.reply ≡ ModelReply.Bytes a.got
  reply_is = has_read.reply (has_read.open_ (ap Asks.is_unfinished still))

  given_as : (r : Asks.Request) → a.request ≡ r → a ≡ unfinished_asked r a.given a.served a.got
  given_as r request = unfinished_is a r request still reply_is

  size_is : length a.got ≡ blocks_read a a.request * f.blocks.block_size
  size_is = has_read.size (has_read.open_ (ap Asks.is_unfinished still))

  -- a block of a write
  pub flight_written : (first : ℕ) (blocks : List (List ℕ)) (fua : Bool) → a.request ≡ Asks.Write first blocks fua
      → IsFlightOf f (with_change (suc k) with_block_counted flight) (set requests k (with_block f cells a))
  flight_written first blocks fua request =
      let same = given_as (Asks.Write first blocks fua) request in
      let asked = unfinished_asked (Asks.Write first blocks fua) a.given a.served a.got in
      subst (λ (x : Asks.Asked). IsFlightOf f (with_change (suc k) with_block_counted flight) (set requests k (with_block f cells x))) (sym same)
      (IsFlightOf-changed f flight requests k asked (with_block f cells asked) with_block_counted is (there ∙ ap Some same) refl
      (not_over (suc a.served == length blocks)) (slot_for-written f cells (1 + k) first blocks fua a.given a.served a.got)
      (record {
        reply = λ _. refl;
        size = λ _. size_is ∙ ap (λ (r : Asks.Request). blocks_read a r * f.blocks.block_size) request;
        open_ = λ _. refl;
        whole = λ _. tt;
        no_fault = refl;
      })
      (IsOfSubmission-same f asked (with_block f cells asked) refl refl (subst (IsOfSubmission f) same submitted)))
    where
      not_over : (b : Bool) → Asks.is_over (if b then Asks.Finished else Asks.Unfinished) ≡ false
      not_over true = refl
      not_over false = refl

  -- a flush
  pub flight_flushed : a.request ≡ Asks.Flush → IsFlightOf f (with_change (suc k) with_finish flight) (set requests k (with_block f cells a))
  flight_flushed request =
      let same = given_as Asks.Flush request in
      let asked = unfinished_asked Asks.Flush a.given a.served a.got in
      subst (λ (x : Asks.Asked). IsFlightOf f (with_change (suc k) with_finish flight) (set requests k (with_block f cells x))) (sym same)
      (IsFlightOf-changed f flight requests k asked (with_block f cells asked) with_finish is (there ∙ ap Some same) refl refl
      (slot_for-flushed f cells (1 + k) a.given a.served a.got)
      (record {
        reply = λ _. refl;
        size = λ _. size_is ∙ ap (λ (r : Asks.Request). blocks_read a r * f.blocks.block_size) request;
        open_ = λ unfinished. absurd (false≢true unfinished);
        whole = λ _. tt;
        no_fault = refl;
      })
      (IsOfSubmission-same f asked (with_block f cells asked) refl refl (subst (IsOfSubmission f) same submitted)))

  -- what has been read with it
  read_more : (first count : ℕ) (bytes : List ℕ) → length bytes ≡ f.blocks.block_size → length a.got ≡ a.served * f.blocks.block_size
      → let asked = unfinished_asked (Asks.Read first count) a.given a.served a.got in
      ModelReply.block_reply f.blocks.tag (next_block asked) (readable_cells f cells (next_block asked)) ≡ ModelReply.Bytes bytes
      → HasRead f.blocks.block_size (with_block f cells asked)
  read_more first count bytes whole from told = elim (cases_Bool (suc a.served == count)) [
    | inl last ↦ simp (told, last) (record {
      reply = λ _. refl;
      size = λ _. more;
      open_ = λ unfinished. absurd (false≢true unfinished);
      whole = λ _ _. eqb-true (suc a.served) count last;
      no_fault = tt;
    })
    | inr not_last ↦ simp (told, not_last) (record {
      reply = λ _. refl;
      size = λ _. more;
      open_ = λ _. refl;
      whole = λ _ done. absurd (still_not done);
      no_fault = tt;
    })
  ]
    where
      more : length (a.got ++ bytes) ≡ suc a.served * f.blocks.block_size
      more = length-append a.got bytes ∙ ap (λ (n : ℕ). n + length bytes) from ∙ ap (λ (n : ℕ). a.served * f.blocks.block_size + n) whole ∙ sym (suc-mul a.served f.blocks.block_size)

      still_not : Asks.Unfinished ≡ Asks.Finished → ⊥
      still_not same = false≢true (sym (ap Asks.is_unfinished same))

  -- a block of a read whose tag is that of its bytes
  pub flight_read : (first count : ℕ) (bytes : List ℕ) → a.request ≡ Asks.Read first count → length bytes ≡ f.blocks.block_size
      → ModelReply.block_reply f.blocks.tag (next_block a) (readable_cells f cells (next_block a)) ≡ ModelReply.Bytes bytes
      → IsFlightOf f (with_change (suc k) (with_block_read flight.block_size bytes) flight) (set requests k (with_block f cells a))
  flight_read first count bytes request whole told =
      let same = given_as (Asks.Read first count) request in
      let asked = unfinished_asked (Asks.Read first count) a.given a.served a.got in
      let from : length a.got ≡ a.served * f.blocks.block_size = size_is ∙ ap (λ (r : Asks.Request). blocks_read a r * f.blocks.block_size) request in
      let told_same : ModelReply.block_reply f.blocks.tag (next_block asked) (readable_cells f cells (next_block asked)) ≡ ModelReply.Bytes bytes =
      ap (λ (x : Asks.Asked). ModelReply.block_reply f.blocks.tag (next_block x) (readable_cells f cells (next_block x))) (sym same) ∙ told in
      subst (λ (n : ℕ). IsFlightOf f (with_change (suc k) (with_block_read n bytes) flight) (set requests k (with_block f cells a))) (sym is.block_size)
      (subst (λ (x : Asks.Asked). IsFlightOf f (with_change (suc k) (with_block_read f.blocks.block_size bytes) flight) (set requests k (with_block f cells x))) (sym same)
      (IsFlightOf-changed f flight requests k asked (with_block f cells asked) (with_block_read f.blocks.block_size bytes) is (there ∙ ap Some same) refl
      (not_over told_same (suc a.served == count))
      (slot_for-read f cells (1 + k) f.blocks.block_size first count a.given a.served a.got bytes from told_same)
      (read_more first count bytes whole from told_same)
      (IsOfSubmission-same f asked (with_block f cells asked) refl refl (subst (IsOfSubmission f) same submitted))))
    where
      not_over : ModelReply.block_reply f.blocks.tag (first + a.served) (readable_cells f cells (first + a.served)) ≡ ModelReply.Bytes bytes → (b : Bool)
          → Asks.is_over (if is_fault (ModelReply.join_replies (ModelReply.Bytes a.got) (ModelReply.block_reply f.blocks.tag (first + a.served) (readable_cells f cells (first + a.served)))) || b then Asks.Finished else Asks.Unfinished) ≡ false
      not_over t b = either (is_fault (ModelReply.join_replies (ModelReply.Bytes a.got) (ModelReply.block_reply f.blocks.tag (first + a.served) (readable_cells f cells (first + a.served)))) || b)
        where
          either : (c : Bool) → Asks.is_over (if c then Asks.Finished else Asks.Unfinished) ≡ false
          either true = refl
          either false = refl

  -- a block of a read whose tag is another one
  pub flight_fault : (first count block : ℕ) (stored computed : List ℕ) → a.request ≡ Asks.Read first count
      → ModelReply.block_reply f.blocks.tag (next_block a) (readable_cells f cells (next_block a)) ≡ ModelReply.TagFault block stored computed
      → IsFlightOf f (with_change (suc k) (with_fault block stored computed) flight) (set requests k (with_block f cells a))
  flight_fault first count block stored computed request told =
      let same = given_as (Asks.Read first count) request in
      let asked = unfinished_asked (Asks.Read first count) a.given a.served a.got in
      let told_same : ModelReply.block_reply f.blocks.tag (next_block asked) (readable_cells f cells (next_block asked)) ≡ ModelReply.TagFault block stored computed =
      ap (λ (x : Asks.Asked). ModelReply.block_reply f.blocks.tag (next_block x) (readable_cells f cells (next_block x))) (sym same) ∙ told in
      subst (λ (x : Asks.Asked). IsFlightOf f (with_change (suc k) (with_fault block stored computed) flight) (set requests k (with_block f cells x))) (sym same)
      (IsFlightOf-changed f flight requests k asked (with_block f cells asked) (with_fault block stored computed) is (there ∙ ap Some same) refl
      (simp told_same refl)
      (slot_for-fault f cells (1 + k) first count a.given a.served a.got block stored computed told_same)
      (fault_read first count block stored computed told_same)
      (IsOfSubmission-same f asked (with_block f cells asked) refl refl (subst (IsOfSubmission f) same submitted)))
    where
      fault_read : (first count block : ℕ) (stored computed : List ℕ)
          → let asked = unfinished_asked (Asks.Read first count) a.given a.served a.got in
          ModelReply.block_reply f.blocks.tag (next_block asked) (readable_cells f cells (next_block asked)) ≡ ModelReply.TagFault block stored computed
          → HasRead f.blocks.block_size (with_block f cells asked)
      fault_read first count block stored computed t = simp t (record {
        reply = λ right. absurd (false≢true (sym right));
        size = λ right. absurd (false≢true (sym right));
        open_ = λ unfinished. absurd (false≢true unfinished);
        whole = λ right. absurd (false≢true (sym right));
        no_fault = tt;
      })

-- ---- a reply that is taken

-- the whole buffer is read
read_whole : (got given : List ℕ) → length got ≡ length given → got ++ drop (length got) given ≡ got
read_whole got given same = ap (λ (n : ℕ). got ++ drop n given) same ∙ ap (λ (xs : List ℕ). got ++ xs) (drop-all given) ∙ append-nil got
  where
    drop-all : (xs : List ℕ) → drop (length xs) xs ≡ []
    drop-all [] = refl
    drop-all (x ∷ xs) = drop-all xs

-- What a read that is done gives, and what it gives back.
read_taken : (block_size first count t : ℕ) (a : Asks.Asked) → a.request ≡ Asks.Read first count → a.state ≡ Asks.Finished → length a.given ≡ count * block_size
    → HasRead block_size a → (w : ModelReply.Reply) → a.reply ≡ w
    → (as_reply (reply_of (slot_for t a)) ≡ a.reply) × (returned_in (reply_of (slot_for t a)) ≡ Asks.returned_by a.request a.reply a.got a.given)
read_taken block_size first count t a request done size read (ModelReply.Bytes bytes) reply =
    let right : is_fault a.reply ≡ false = ap is_fault reply in
    let is_got : a.reply ≡ ModelReply.Bytes a.got = read.reply right in
    let blocks : blocks_read a a.request ≡ a.served = ap (blocks_read a) request in
    let all : a.served ≡ count = subst (IsWhole a) request (read.whole right) done in
    let long : length a.got ≡ length a.given = read.size right ∙ ap (λ (n : ℕ). n * block_size) (blocks ∙ all) ∙ sym size in
    let buffer = read_whole a.got a.given long in
    let slot : reply_of (slot_for t a) ≡ Replies.Read (bytes_now a) =
    ap (λ (r : Asks.Request). reply_by (request_with r (bytes_now a)) (outcome_in a.state a.reply)) request
    ∙ ap (λ (o : Outcome). read_reply_of (bytes_now a) o) (ap (λ (s : Asks.RequestState). outcome_in s a.reply) done ∙ ap outcome_by reply) in (
      ap as_reply slot ∙ ap ModelReply.Bytes buffer ∙ sym is_got,
      ap returned_in slot ∙ buffer
          ∙ sym (ap (λ (r : Asks.Request). Asks.returned_by r a.reply a.got a.given) request ∙ ap (λ (w : ModelReply.Reply). ModelReply.read_back w a.got a.given) is_got),
    )
read_taken block_size first count t a request done size read (ModelReply.TagFault block stored computed) reply =
    let slot : reply_of (slot_for t a) ≡ Replies.TagFault block stored computed (bytes_now a) =
    ap (λ (r : Asks.Request). reply_by (request_with r (bytes_now a)) (outcome_in a.state a.reply)) request
    ∙ ap (λ (o : Outcome). read_reply_of (bytes_now a) o) (ap (λ (s : Asks.RequestState). outcome_in s a.reply) done ∙ ap outcome_by reply) in (
      ap as_reply slot ∙ sym reply,
      ap returned_in slot
          ∙ sym (ap (λ (r : Asks.Request). Asks.returned_by r a.reply a.got a.given) request ∙ ap (λ (w : ModelReply.Reply). ModelReply.read_back w a.got a.given) reply),
    )

-- A write and a flush read nothing.
pub got_none : (block_size : ℕ) (a : Asks.Asked) → HasRead block_size a → is_fault a.reply ≡ false → blocks_read a a.request ≡ 0 → a.got ≡ []
got_none block_size a read right none = no_length a.got (read.size right ∙ ap (λ (n : ℕ). n * block_size) none)
  where
    no_length : (xs : List ℕ) → length xs ≡ 0 * block_size → xs ≡ []
    no_length [] same = refl
    no_length (x ∷ xs) same = absurd (not_none (omega (arith, same)))
      where
        not_none : suc (length xs) ≤ 0 → ⊥
        not_none low = omega (arith, low)

-- So do what they give, and what they give back.
write_taken : (block_size t first : ℕ) (blocks : List (List ℕ)) (fua : Bool) (a : Asks.Asked) → a.request ≡ Asks.Write first blocks fua → HasRead block_size a
    → (as_reply (reply_of (slot_for t a)) ≡ a.reply) × (returned_in (reply_of (slot_for t a)) ≡ Asks.returned_by a.request a.reply a.got a.given)
write_taken block_size t first blocks fua a request read =
    let right : is_fault a.reply ≡ false = subst (IsNoFault a) request read.no_fault in
    let none = got_none block_size a read right (ap (blocks_read a) request) in
    let slot : reply_of (slot_for t a) ≡ Replies.Written (bytes_now a) =
    ap (λ (r : Asks.Request). reply_by (request_with r (bytes_now a)) (outcome_in a.state a.reply)) request in (
      ap as_reply slot ∙ ap ModelReply.Bytes (sym none) ∙ sym (read.reply right),
      ap returned_in slot ∙ ap (λ (g : List ℕ). g ++ drop (length g) a.given) none
          ∙ sym (ap (λ (r : Asks.Request). Asks.returned_by r a.reply a.got a.given) request),
    )

flush_taken : (block_size t : ℕ) (a : Asks.Asked) → a.request ≡ Asks.Flush → HasRead block_size a
    → (as_reply (reply_of (slot_for t a)) ≡ a.reply) × (returned_in (reply_of (slot_for t a)) ≡ Asks.returned_by a.request a.reply a.got a.given)
flush_taken block_size t a request read =
    let right : is_fault a.reply ≡ false = subst (IsNoFault a) request read.no_fault in
    let none = got_none block_size a read right (ap (blocks_read a) request) in
    let slot : reply_of (slot_for t a) ≡ Replies.Flushed =
    ap (λ (r : Asks.Request). reply_by (request_with r (bytes_now a)) (outcome_in a.state a.reply)) request in (
      ap as_reply slot ∙ ap ModelReply.Bytes (sym none) ∙ sym (read.reply right),
      ap returned_in slot ∙ sym (ap (λ (r : Asks.Request). Asks.returned_by r a.reply a.got a.given) request),
    )

abbrev is_write : Asks.Request → Bool
is_write (Asks.Read first count) = false
is_write (Asks.Write first blocks fua) = true
is_write Asks.Flush = false

abbrev is_flush : Asks.Request → Bool
is_flush (Asks.Read first count) = false
is_flush (Asks.Write first blocks fua) = false
is_flush Asks.Flush = true

-- A read came with as many bytes as its blocks have.
given_size : (f : DeviceFormat) (a : Asks.Asked) (first count : ℕ) → a.request ≡ Asks.Read first count → IsOfSubmission f a
    → length a.given ≡ count * f.blocks.block_size
given_size f a first count request is = by is.submission is.fitting (sym request ∙ is.request) is.given
  where
    by : (sub : Submissions.Submission) → IsFitting f sub → Asks.Read first count ≡ Submissions.request_in f.blocks.block_size sub → a.given ≡ Submissions.bytes_in sub
        → length a.given ≡ count * f.blocks.block_size
    by (Submissions.Submission.Read one many buffer) fits same given =
        ap (λ (xs : List ℕ). length xs) given ∙ fits.size ∙ ap (λ (n : ℕ). n * f.blocks.block_size) (sym (ap Asks.count_of same))
    by (Submissions.Submission.Write one many bytes fua) fits same given = absurd (not_write same)
      where
        not_write : Asks.Read first count ≡ Asks.Write one (Submissions.blocks_in f.blocks.block_size many bytes) fua → ⊥
        not_write s = false≢true (ap is_write s)
    by Submissions.Submission.Flush fits same given = absurd (false≢true (ap is_flush same))

-- A request that is done has this reply in its slot.
pub reply_is_told : (f : DeviceFormat) (t : ℕ) (a : Asks.Asked) → a.state ≡ Asks.Finished → HasRead f.blocks.block_size a → IsOfSubmission f a
    → (as_reply (reply_of (slot_for t a)) ≡ a.reply) × (returned_in (reply_of (slot_for t a)) ≡ Asks.returned_by a.request a.reply a.got a.given)
reply_is_told f t a done read sub = by a.request refl
  where
    by : (r : Asks.Request) → a.request ≡ r
        → (as_reply (reply_of (slot_for t a)) ≡ a.reply) × (returned_in (reply_of (slot_for t a)) ≡ Asks.returned_by a.request a.reply a.got a.given)
    by (Asks.Read first count) request = read_taken f.blocks.block_size first count t a request done (given_size f a first count request sub) read a.reply refl
    by (Asks.Write first blocks fua) request = write_taken f.blocks.block_size t first blocks fua a request read
    by Asks.Flush request = flush_taken f.blocks.block_size t a request read

-- Once it is taken, the flight is of the requests with it taken.
pub flight_taken : (f : DeviceFormat) (flight : Flight) (requests : List Asks.Asked) (k : ℕ) (a : Asks.Asked) → IsFlightOf f flight requests
    → slice_get requests k ≡ Some a → a.state ≡ Asks.Finished
    → IsFlightOf f (record flight { slots = without (suc k) flight.slots }) (set requests k (record a { state = Asks.Taken }))
flight_taken f flight requests k a is there done =
    let b : Asks.Asked = record a { state = Asks.Taken } in
    let read = (is.each k a there).0 in
    record {
      blocks = is.blocks;
      block_size = is.block_size;
      most = is.most;
      submitted = is.submitted ∙ sym (length-set_asked requests k b);
      slots = ap (without (suc k)) is.slots ∙ without-request requests k a there (ap Asks.is_over done) b (low-there requests k a there) refl;
      each = each-set (λ x. HasRead f.blocks.block_size x × IsOfSubmission f x) requests k b (
        record { reply = read.reply; size = λ right. read.size right ∙ ap (λ (n : ℕ). n * f.blocks.block_size) (sym (same_blocks a.request)); open_ = λ unfinished. absurd (false≢true unfinished); whole = λ right. never_whole a.request; no_fault = no_fault_of a.request read.no_fault },
        IsOfSubmission-same f a b refl refl (is.each k a there).1,
      ) is.each;
    }
  where
    taken : Asks.Asked
    taken = record a { state = Asks.Taken }

    never : Asks.Taken ≡ Asks.Finished → ⊥
    never same = false≢true (sym (ap Asks.is_over same))

    never_whole : (r : Asks.Request) → IsWhole taken r
    never_whole (Asks.Read first count) = λ finished. absurd (never finished)
    never_whole (Asks.Write first blocks fua) = tt
    never_whole Asks.Flush = tt

    same_blocks : (r : Asks.Request) → blocks_read taken r ≡ blocks_read a r
    same_blocks (Asks.Read first count) = refl
    same_blocks (Asks.Write first blocks fua) = refl
    same_blocks Asks.Flush = refl

    no_fault_of : (r : Asks.Request) → IsNoFault a r → IsNoFault taken r
    no_fault_of (Asks.Read first count) right = tt
    no_fault_of (Asks.Write first blocks fua) right = right
    no_fault_of Asks.Flush right = right
