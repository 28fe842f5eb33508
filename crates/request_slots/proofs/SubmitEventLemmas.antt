-- A request that is submitted is the event of `device_model`: refused alike, and in flight alike.
use Rattle.std.proofs.Common.{◌≡◌, inl, inr, ℕ, zero, suc, ◌+◌, ◌*◌, ◌≤◌, ◌==◌, ◌||◌, not, Bool, true, false, List, [], ◌∷◌, ◌++◌, length, drop, ltb, leb, filter, slice_get, if◌then◌else◌, Option, None, Some, option_map, refl, sym, ◌∙◌, ap, subst, arith}
use Rattle.std.specs.Option.{option_or}
use Rattle.std.proofs.lemmas.Bool.{cases_Bool}
use Rattle.std.proofs.lemmas.List.Sums.{length-filter}
use Rattle.std.proofs.lemmas.Option.{none-some, same_Some}
use Rattle.device_model.specs.Mode.{DeviceFormat, is_recovery}
use Rattle.device_model.specs.Progress as Model
use Rattle.device_model.specs.Request as Asks
use Rattle.device_model.specs.Submission as Submissions
use Rattle.device_model.specs.SubmissionLaws.{AreBlocks, IsFitting, IsOfSubmission}
use Rattle.request_slots.specs.Flight.{Flight, newly_slotted}
use Rattle.request_slots.specs.InFlight.{as_answer, as_submission, slot_for, slots_of, submit_answer, HasRead, IsFlightOf}
use Rattle.request_slots.specs.Submitting.{after_submit, blocks_fault, fault_of, form_fault, slots_fault}
use Rattle.request_slots.specs.declared.request.Request.{Request}
use Rattle.request_slots.specs.declared.request.Request.TheVariants.{Read, Write, Flush}
use Rattle.request_slots.specs.declared.slot.Outcome.TheVariants.{Unfinished}
use Rattle.request_slots.specs.declared.slot.Slot.{Slot}
use Rattle.request_slots.specs.declared.submit_fault.SubmitFault.{SubmitFault}
use Rattle.request_slots.specs.declared.submit_fault.SubmitFault.TheVariants as Faults
use Rattle.request_slots.proofs.InFlightLemmas.{slots_of-append}
use Rattle.request_slots.proofs.SubmitLemmas.{blocks_are_there, form_is_right}

-- ---- how many are in flight

length-kept : (t : ℕ) (requests : List Asks.Asked) → length (slots_of t requests) ≡ length (filter (λ a. not (Asks.is_over a.state)) requests)
length-kept t [] = refl
length-kept t (a ∷ requests) =
    let rest = length-kept (suc t) requests in
    elim (cases_Bool (Asks.is_over a.state)) [
      | inl over ↦ simp over rest
      | inr there ↦ simp there (ap suc rest)
    ]

pub length-slots_of : (t : ℕ) (requests : List Asks.Asked) → length (slots_of t requests) ≡ Model.in_flight requests
length-slots_of t requests = length-kept t requests ∙ length-filter (λ a. not (Asks.is_over a.state)) requests

-- ---- the same refusals

as_told : (b c : Bool) (first count blocks have need : ℕ)
    → (if b then Some (Model.Range first count blocks) else if c then None else Some (Model.Length have need))
    ≡ option_map as_answer (if b then Some (Faults.Range first count blocks) else if c then None else Some (Faults.Length have need))
as_told true c first count blocks have need = refl
as_told false true first count blocks have need = refl
as_told false false first count blocks have need = refl

full_told : (b : Bool) → (if b then Some Model.SlotsFull else None) ≡ option_map as_answer (if b then Some (Faults.SlotsFull 16) else None)
full_told true = refl
full_told false = refl

or_told : (a b : Option SubmitFault) → option_or (option_map as_answer a) (option_map as_answer b) ≡ option_map as_answer (option_or a b)
or_told None b = refl
or_told (Some fault) b = refl

module _ (f : DeviceFormat) (flight : Flight) (requests : List Asks.Asked) (is : IsFlightOf f flight requests) where
  blocks_told : (first count : ℕ) (bytes : List ℕ) → Model.blocks_refusal f.blocks first count bytes ≡ option_map as_answer (blocks_fault flight first count bytes)
  blocks_told first count bytes =
      as_told ((count == 0) || ltb f.blocks.blocks (first + count)) (length bytes == count * f.blocks.block_size) first count f.blocks.blocks (length bytes) (count * f.blocks.block_size)
      ∙ ap (λ (n : ℕ). option_map as_answer (if (count == 0) || ltb n (first + count) then Some (Faults.Range first count n)
      else if length bytes == count * f.blocks.block_size then None else Some (Faults.Length (length bytes) (count * f.blocks.block_size)))) (sym is.blocks)
      ∙ ap (λ (n : ℕ). option_map as_answer (if (count == 0) || ltb flight.blocks (first + count) then Some (Faults.Range first count flight.blocks)
      else if length bytes == count * n then None else Some (Faults.Length (length bytes) (count * n)))) (sym is.block_size)

  form_told : is_recovery f.mode ≡ false → (request : Request) → Model.form_refusal f (as_submission request) ≡ option_map as_answer (form_fault flight request)
  form_told writes (Read first count buffer) = blocks_told first count buffer
  form_told writes (Write first count bytes fua) =
      ap (λ (b : Bool). if b then Some Model.ReadOnly else Model.blocks_refusal f.blocks first count bytes) writes ∙ blocks_told first count bytes
  form_told writes Flush = refl

  slots_told : Model.slots_refusal f requests ≡ option_map as_answer (slots_fault flight)
  slots_told =
      ap (λ (n : ℕ). if leb n (Model.in_flight requests) then Some Model.SlotsFull else None) is.most
      ∙ ap (λ (n : ℕ). if leb 16 n then Some Model.SlotsFull else None) (sym (length-slots_of 1 requests) ∙ ap (λ (xs : List Slot). length xs) (sym is.slots))
      ∙ full_told (leb 16 (length flight.slots))

  pub refusal_told : is_recovery f.mode ≡ false → (request : Request)
      → option_or (Model.form_refusal f (as_submission request)) (Model.slots_refusal f requests) ≡ option_map as_answer (fault_of flight request)
  refusal_told writes request =
      ap (λ (o : Option Model.Answer). option_or o (Model.slots_refusal f requests)) (form_told writes request)
      ∙ ap (λ (o : Option Model.Answer). option_or (option_map as_answer (form_fault flight request)) o) slots_told
      ∙ or_told (form_fault flight request) (slots_fault flight)

-- ---- a new request

length-blocks_in : (size count : ℕ) (bytes : List ℕ) → length (Submissions.blocks_in size count bytes) ≡ count
length-blocks_in size zero bytes = refl
length-blocks_in size (suc count) bytes = ap suc (length-blocks_in size count (drop size bytes))

-- The request as it is submitted.
abbrev pub asked_by : ℕ → Request → Asks.Asked
asked_by size request = Asks.newly_asked (Submissions.request_in size (as_submission request)) (Submissions.bytes_in (as_submission request))

slot_for-new : (t size : ℕ) (request : Request) → slot_for t (asked_by size request) ≡ newly_slotted t request
slot_for-new t size (Read first count buffer) = refl
slot_for-new t size (Write first count bytes fua) =
    ap (λ (n : ℕ). record { ticket = t; request = Write first n bytes fua; served = 0; outcome = Unfinished }) (length-blocks_in size count bytes)
slot_for-new t size Flush = refl

read_none : (size : ℕ) (request : Request) → HasRead size (asked_by size request)
read_none size (Read first count buffer) = record { reply = λ _. refl; size = λ _. omega arith; open_ = λ _. refl; whole = λ _ done. absurd (still done); no_fault = tt }
  where
    still : Asks.Unfinished ≡ Asks.Finished → ⊥
    still same = subst (λ (state : Asks.RequestState). elim state as (λ _. Type 0) [ Asks.Unfinished ↦ Unit {0} | Asks.Finished ↦ ⊥ | Asks.Taken ↦ ⊥ | Asks.Dropped ↦ ⊥ ]) same tt
read_none size (Write first count bytes fua) = record { reply = λ _. refl; size = λ _. omega arith; open_ = λ _. refl; whole = λ _. tt; no_fault = refl }
read_none size Flush = record { reply = λ _. refl; size = λ _. omega arith; open_ = λ _. refl; whole = λ _. tt; no_fault = refl }

module _ (f : DeviceFormat) (flight : Flight) (requests : List Asks.Asked) (is : IsFlightOf f flight requests) (writes : is_recovery f.mode ≡ false) where
  there_in : (first count : ℕ) (bytes : List ℕ) → blocks_fault flight first count bytes ≡ None → AreBlocks f first count bytes
  there_in first count bytes none =
      let are = blocks_are_there flight first count bytes none in
      record {
        some = let some = are.0 in omega (arith, some);
        there = subst (λ (n : ℕ). first + count ≤ n) is.blocks are.1;
        size = are.2 ∙ ap (λ (n : ℕ). count * n) is.block_size;
      }

  fits : (request : Request) → form_fault flight request ≡ None → IsFitting f (as_submission request)
  fits (Read first count buffer) none = there_in first count buffer none
  fits (Write first count bytes fua) none = (writes, there_in first count bytes none)
  fits Flush none = tt

  new_is : (request : Request) → fault_of flight request ≡ None
      → HasRead f.blocks.block_size (asked_by f.blocks.block_size request) × IsOfSubmission f (asked_by f.blocks.block_size request)
  new_is request none = (
    read_none f.blocks.block_size request,
    record { submission = as_submission request; fitting = fits request (form_is_right flight request none); request = refl; given = refl },
  )

  each-new : (request : Request) → fault_of flight request ≡ None → (k : ℕ) (a : Asks.Asked)
      → slice_get (requests ++ asked_by f.blocks.block_size request ∷ []) k ≡ Some a → HasRead f.blocks.block_size a × IsOfSubmission f a
  each-new request none k a there = each_push requests k a is.each there
    where
      each_push : (xs : List Asks.Asked) (k : ℕ) (a : Asks.Asked)
          → ((i : ℕ) (x : Asks.Asked) → slice_get xs i ≡ Some x → HasRead f.blocks.block_size x × IsOfSubmission f x)
          → slice_get (xs ++ asked_by f.blocks.block_size request ∷ []) k ≡ Some a → HasRead f.blocks.block_size a × IsOfSubmission f a
      each_push [] zero a each there = subst (λ (x : Asks.Asked). HasRead f.blocks.block_size x × IsOfSubmission f x) (same_Some _ a there) (new_is request none)
      each_push [] (suc k) a each there = absurd (none-some a there)
      each_push (x ∷ xs) zero a each there = each zero a there
      each_push (x ∷ xs) (suc k) a each there = each_push xs k a (λ i y at. each (suc i) y at) there

  IsFlightOf-new : (request : Request) → fault_of flight request ≡ None
      → IsFlightOf f (after_submit None request flight) (requests ++ asked_by f.blocks.block_size request ∷ [])
  IsFlightOf-new request none = record {
    blocks = is.blocks;
    block_size = is.block_size;
    most = is.most;
    submitted = ap suc is.submitted ∙ sym (length-push requests);
    slots =
        ap (λ (xs : List Slot). xs ++ newly_slotted (suc flight.submitted) request ∷ []) is.slots
        ∙ ap (λ (n : ℕ). slots_of 1 requests ++ newly_slotted (suc n) request ∷ []) is.submitted
        ∙ ap (λ (x : Slot). slots_of 1 requests ++ x ∷ []) (sym (slot_for-new (suc (length requests)) f.blocks.block_size request))
        ∙ ap (λ (n : ℕ). slots_of 1 requests ++ slots_of n (asked_by f.blocks.block_size request ∷ [])) (let same : suc (length requests) ≡ 1 + length requests = omega arith in same)
        ∙ sym (slots_of-append 1 requests (asked_by f.blocks.block_size request ∷ []));
    each = each-new request none;
  }
    where
      length-push : (xs : List Asks.Asked) → length (xs ++ asked_by f.blocks.block_size request ∷ []) ≡ suc (length xs)
      length-push [] = refl
      length-push (x ∷ xs) = ap suc (length-push xs)

-- ---- the event

-- by the refusal, if there is one
by_fault : (f : DeviceFormat) (p : Model.Progress) (flight : Flight) (request : Request) → IsFlightOf f flight p.requests → is_recovery f.mode ≡ false
    → (fault : Option SubmitFault) → fault_of flight request ≡ fault
    → let result = Model.submit_by f p (as_submission request) (option_map as_answer fault) in
    (result.answer ≡ submit_answer fault (suc flight.submitted)) × IsFlightOf f (after_submit fault request flight) result.progress.requests
by_fault f p flight request is writes None none = (ap (λ (n : ℕ). Model.Ticket (suc n)) (sym is.submitted), IsFlightOf-new f flight p.requests is writes request none)
by_fault f p flight request is writes (Some fault) told = (refl, is)

-- A submission is answered and taken as the slots say.
pub submit_is_told : (f : DeviceFormat) (p : Model.Progress) (flight : Flight) (request : Request) → IsFlightOf f flight p.requests → is_recovery f.mode ≡ false
    → let result = Model.submit f p (as_submission request) in
    (result.answer ≡ submit_answer (fault_of flight request) (suc flight.submitted))
    × IsFlightOf f (after_submit (fault_of flight request) request flight) result.progress.requests
submit_is_told f p flight request is writes =
    subst (λ (o : Option Model.Answer). let result = Model.submit_by f p (as_submission request) o in
    (result.answer ≡ submit_answer (fault_of flight request) (suc flight.submitted)) × IsFlightOf f (after_submit (fault_of flight request) request flight) result.progress.requests)
    (sym (refusal_told f flight p.requests is writes request)) (by_fault f p flight request is writes (fault_of flight request) refl)
