-- What may be submitted, and what a submission makes.
use Rattle.std.proofs.Common.{◌≡◌, ◌≢◌, ◌⊎◌, inl, inr, ℕ, zero, suc, ◌+◌, ◌*◌, ◌<◌, ◌≤◌, ◌==◌, Bool, true, false, ◌||◌, ltb, leb, List, [], length, take, drop, drop-drop, get_or, if◌then◌else◌, Option, None, Some, slice_get, refl, sym, ◌∙◌, ap, subst, arith}
use Rattle.std.specs.Option.{option_or}
use Rattle.std.proofs.lemmas.Bool.{cases_Bool, true≢false, or_parts, eqb-true, eqb-false, eq-eqb, ne_eqb, ltb-false, le-ltb, leb-false, lt-leb}
use Rattle.std.proofs.lemmas.List.{length-take, length-drop}
use Rattle.std.proofs.lemmas.Option.{none-some, same_Some}
use Rattle.device_model.specs.History.{Change, with_changes}
use Rattle.device_model.specs.Mode.{DeviceFormat, is_recovery}
use Rattle.device_model.specs.Progress.{Progress, Condition, Working, Broken, Closed, DeviceState, Event, Submit, Answer, Ticket, ReadOnly, Range, Length, SlotsFull, EventResult, in_flight, blocks_refusal, form_refusal, slots_refusal, submit_by, submit, working_result, result_in, event_result}
use Rattle.device_model.specs.Request.{Asked}
use Rattle.device_model.specs.SubmissionLaws.{IsFitting, IsInRange, TicketLaw, RefusedLaw}
use Rattle.device_model.specs.Submission.{Submission, blocks_in, request_in}
use Rattle.device_model.specs.Transcript.{BlockFormat}

-- ---- some bytes as blocks

pub length-blocks_in : (size count : ℕ) (bytes : List ℕ) → length (blocks_in size count bytes) ≡ count
length-blocks_in size zero bytes = refl
length-blocks_in size (suc count) bytes =
    let rest : length (blocks_in size count (drop size bytes)) ≡ count = length-blocks_in size count (drop size bytes) in
    omega (arith, rest)

-- Each of them is whole, where the bytes are enough.
pub blocks_in-size : (size count : ℕ) (bytes : List ℕ) → length bytes ≡ count * size → (k : ℕ) (block : List ℕ)
    → slice_get (blocks_in size count bytes) k ≡ Some block → length block ≡ size
blocks_in-size size zero bytes enough k block is = absurd (none-some block is)
blocks_in-size size (suc count) bytes enough zero block is =
    let all : suc count * size ≡ size + count * size = omega arith in
    ap length (sym (same_Some (take size bytes) block is)) ∙ whole size count bytes (enough ∙ all)
  where
    whole : (size count : ℕ) (bytes : List ℕ) → length bytes ≡ size + count * size → length (take size bytes) ≡ size
    whole size count bytes enough = length-take size bytes ∙ omega (arith, enough)
blocks_in-size size (suc count) bytes enough (suc k) block is =
    let all : suc count * size ≡ size + count * size = omega arith in
    let rest : length (drop size bytes) ≡ count * size = length-drop size bytes ∙ omega (arith, enough, all) in
    blocks_in-size size count (drop size bytes) rest k block is

-- The k-th of them is where it is among the bytes.
pub get_or-blocks_in : (size count : ℕ) (bytes : List ℕ) (k : ℕ) → k < count → get_or (blocks_in size count bytes) k [] ≡ take size (drop (k * size) bytes)
get_or-blocks_in size zero bytes k below = absurd (omega (arith, below))
get_or-blocks_in size (suc count) bytes zero below =
    let here : 0 ≡ 0 * size = omega arith in
    ap (λ (n : ℕ). take size (drop n bytes)) here
get_or-blocks_in size (suc count) bytes (suc k) below =
    let place : size + k * size ≡ suc k * size = omega arith in
    get_or-blocks_in size count (drop size bytes) k (omega (arith, below))
    ∙ ap (take size) (drop-drop (k * size) size bytes)
    ∙ ap (λ (n : ℕ). take size (drop n bytes)) place

-- ---- why blocks are refused

module _ (b : BlockFormat) (first count : ℕ) (bytes : List ℕ) where
  is_outside : Bool
  is_outside = (count == 0) || ltb b.blocks (first + count)

  refusal_by : (outside fits : Bool) → Option Answer
  refusal_by outside fits = if outside then Some (Range first count b.blocks) else (if fits then None else Some (Length (length bytes) (count * b.block_size)))

  -- They are not, exactly where there are some, all there, with as many bytes.
  pub blocks_refusal-none : blocks_refusal b first count bytes ≡ None → (1 ≤ count) × (first + count ≤ b.blocks) × (length bytes ≡ count * b.block_size)
  unfolding is_outside refusal_by
  blocks_refusal-none none = elim (cases_Bool is_outside) [
    | inl outside ↦ absurd (none-some _ (sym none ∙ ap (λ (t : Bool). refusal_by t (length bytes == count * b.block_size)) outside))
    | inr inside ↦ elim (cases_Bool (length bytes == count * b.block_size)) [
      | inr other ↦ absurd (none-some _ (sym none ∙ ap (λ (t : Bool). refusal_by t (length bytes == count * b.block_size)) inside ∙ ap (refusal_by false) other))
      | inl same ↦
          let parts = or_parts (count == 0) (ltb b.blocks (first + count)) inside in
          let some : count ≢ 0 = eqb-false count 0 parts.0 in
          let there : first + count ≤ b.blocks = ltb-false b.blocks (first + count) parts.1 in
          (omega (arith, some), there, eqb-true (length bytes) (count * b.block_size) same)
    ]
  ]

  pub blocks_refusal-fits : 1 ≤ count → first + count ≤ b.blocks → length bytes ≡ count * b.block_size → blocks_refusal b first count bytes ≡ None
  unfolding is_outside refusal_by
  blocks_refusal-fits some there same =
      let other : count ≢ 0 = omega (arith, some) in
      let inside : is_outside ≡ false = ap (λ (t : Bool). t || ltb b.blocks (first + count)) (ne_eqb count 0 other) ∙ le-ltb b.blocks (first + count) there in
      ap (λ (t : Bool). refusal_by t (length bytes == count * b.block_size)) inside
      ∙ ap (refusal_by false) (eq-eqb (length bytes) (count * b.block_size) same)

-- ---- why a submission is

module _ (f : DeviceFormat) where
  pub form_refusal-none : (submission : Submission) → form_refusal f submission ≡ None → IsFitting f submission
  form_refusal-none (Submission.Read first count buffer) none =
      let parts = blocks_refusal-none f.blocks first count buffer none in
      record { some = parts.0; there = parts.1; size = parts.2 }
  form_refusal-none (Submission.Write first count bytes fua) none = elim (cases_Bool (is_recovery f.mode)) [
    | inl recovery ↦ absurd (none-some _ (sym none ∙ ap (λ (t : Bool). if t then Some ReadOnly else blocks_refusal f.blocks first count bytes) recovery))
    | inr other ↦
        let parts = blocks_refusal-none f.blocks first count bytes (sym (ap (λ (t : Bool). if t then Some ReadOnly else blocks_refusal f.blocks first count bytes) other) ∙ none) in
        (other, record { some = parts.0; there = parts.1; size = parts.2 })
  ]
  form_refusal-none Submission.Flush none = tt

  pub form_refusal-fits : (submission : Submission) → IsFitting f submission → form_refusal f submission ≡ None
  form_refusal-fits (Submission.Read first count buffer) fits = blocks_refusal-fits f.blocks first count buffer fits.some fits.there fits.size
  form_refusal-fits (Submission.Write first count bytes fua) fits =
      ap (λ (t : Bool). if t then Some ReadOnly else blocks_refusal f.blocks first count bytes) fits.0
      ∙ blocks_refusal-fits f.blocks first count bytes fits.1.some fits.1.there fits.1.size
  form_refusal-fits Submission.Flush fits = refl

  pub slots_refusal-none : (requests : List Asked) → slots_refusal f requests ≡ None → in_flight requests < f.slots
  slots_refusal-none requests none = elim (cases_Bool (leb f.slots (in_flight requests))) [
    | inl full ↦ absurd (none-some _ (sym none ∙ ap (λ (t : Bool). if t then Some SlotsFull else None) full))
    | inr room ↦ leb-false f.slots (in_flight requests) room
  ]

  pub slots_refusal-room : (requests : List Asked) → in_flight requests < f.slots → slots_refusal f requests ≡ None
  slots_refusal-room requests room = ap (λ (t : Bool). if t then Some SlotsFull else None) (lt-leb f.slots (in_flight requests) room)

  -- The request that it makes is in range.
  pub IsInRange-fits : (submission : Submission) → IsFitting f submission → IsInRange f (request_in f.blocks.block_size submission)
  IsInRange-fits (Submission.Read first count buffer) fits = (fits.some, fits.there)
  IsInRange-fits (Submission.Write first count bytes fua) fits =
      let many : length (blocks_in f.blocks.block_size count bytes) ≡ count = length-blocks_in f.blocks.block_size count bytes in (
        subst (λ (n : ℕ). 1 ≤ n) (sym many) fits.1.some,
        subst (λ (n : ℕ). first + n ≤ f.blocks.blocks) (sym many) fits.1.there,
        blocks_in-size f.blocks.block_size count bytes fits.1.size,
      )
  IsInRange-fits Submission.Flush fits = tt

-- ---- tickets

abbrev pub refusal : DeviceFormat → Progress → Submission → Option Answer
refusal f p submission = option_or (form_refusal f submission) (slots_refusal f p.requests)

pub refusal-parts : (x y : Option Answer) → option_or x y ≡ None → (x ≡ None) × (y ≡ None)
refusal-parts None y none = (refl, none)
refusal-parts (Some answer) y none = absurd (none-some answer (sym none))

is_ticket : Option Answer → Bool
is_ticket None = false
is_ticket (Some answer) = elim answer [ Ticket ticket ↦ true | _ ↦ false ]

-- No refusal is a ticket.
module _ (f : DeviceFormat) where
  blocks_ticket : (first count blocks have need : ℕ) (t u : Bool) → is_ticket (if t then Some (Range first count blocks) else (if u then None else Some (Length have need))) ≡ false
  unfolding is_ticket
  blocks_ticket first count blocks have need true u = refl
  blocks_ticket first count blocks have need false true = refl
  blocks_ticket first count blocks have need false false = refl

  write_ticket : (t : Bool) (x : Option Answer) → is_ticket x ≡ false → is_ticket (if t then Some ReadOnly else x) ≡ false
  unfolding is_ticket
  write_ticket true x none = refl
  write_ticket false x none = none

  form_ticket : (submission : Submission) → is_ticket (form_refusal f submission) ≡ false
  unfolding is_ticket
  form_ticket (Submission.Read first count buffer) =
      blocks_ticket first count f.blocks.blocks (length buffer) (count * f.blocks.block_size) ((count == 0) || ltb f.blocks.blocks (first + count)) (length buffer == count * f.blocks.block_size)
  form_ticket (Submission.Write first count bytes fua) =
      write_ticket (is_recovery f.mode) (blocks_refusal f.blocks first count bytes)
      (blocks_ticket first count f.blocks.blocks (length bytes) (count * f.blocks.block_size) ((count == 0) || ltb f.blocks.blocks (first + count)) (length bytes == count * f.blocks.block_size))
  form_ticket Submission.Flush = refl

  slots_ticket : (t : Bool) → is_ticket (if t then Some SlotsFull else None) ≡ false
  unfolding is_ticket
  slots_ticket true = refl
  slots_ticket false = refl

  or_ticket : (x y : Option Answer) → is_ticket x ≡ false → is_ticket y ≡ false → is_ticket (option_or x y) ≡ false
  unfolding is_ticket
  or_ticket None y no_x no_y = no_y
  or_ticket (Some answer) y no_x no_y = no_x

  refusal_ticket : (p : Progress) (submission : Submission) → is_ticket (refusal f p submission) ≡ false
  refusal_ticket p submission = or_ticket (form_refusal f submission) (slots_refusal f p.requests) (form_ticket submission) (slots_ticket (leb f.slots (in_flight p.requests)))

  ticket_by : (p : Progress) (submission : Submission) (ticket : ℕ) (refused : Option Answer) → is_ticket refused ≡ false → (submit_by f p submission refused).answer ≡ Ticket ticket → refused ≡ None
  unfolding is_ticket
  ticket_by p submission ticket None none is = refl
  ticket_by p submission ticket (Some answer) none is =
      absurd (true≢false (sym (ap (λ (a : Answer). is_ticket (Some a)) is) ∙ none))

  -- A submission that is not refused gets the next ticket.
  pub submit-ticket : (p : Progress) (submission : Submission) → refusal f p submission ≡ None → submit f p submission ≡ submit_by f p submission None
  submit-ticket p submission none = ap (submit_by f p submission) none

  pub fits-refusal : (p : Progress) (submission : Submission) → IsFitting f submission → in_flight p.requests < f.slots → refusal f p submission ≡ None
  fits-refusal p submission fits room =
      ap (λ (x : Option Answer). option_or x (slots_refusal f p.requests)) (form_refusal-fits f submission fits) ∙ slots_refusal-room f p.requests room

-- On a device that works the result is as of one.
pub result-working : (f : DeviceFormat) (s : DeviceState) (event : Event) → s.condition ≡ Working → event_result f s event ≡ working_result f s event
result-working f s event works = ap (λ (c : Condition). result_in f s c event) works

pub ticket_law : TicketLaw
ticket_law f s submission works =
    let p = s.progress in
    let is = result-working f s (Submit submission) works in (
      λ given.
          let none = ticket_by f p submission (suc (length p.requests)) (refusal f p submission) (refusal_ticket f p submission) (sym (ap (λ (r : EventResult). r.answer) is) ∙ given) in
          let parts = refusal-parts (form_refusal f submission) (slots_refusal f p.requests) none in
          (form_refusal-none f submission parts.0, slots_refusal-none f p.requests parts.1),
      λ both. ap (λ (r : EventResult). r.answer) (is ∙ submit-ticket f p submission (fits-refusal f p submission both.0 both.1)),
    )

pub refused_law : RefusedLaw
refused_law f s submission = by s.condition
  where
    state_of : List Change → Progress → DeviceState
    state_of changes p = record { history = with_changes changes s.history; progress = p; condition = s.condition }

    working : (refused : Option Answer) → ((submit_by f s.progress submission refused).answer ≡ Ticket (suc (length s.progress.requests)))
        ⊎ (((submit_by f s.progress submission refused).progress ≡ s.progress) × ((submit_by f s.progress submission refused).changes ≡ []))
    working None = inl refl
    working (Some answer) = inr (refl, refl)

    by : (c : Condition) → ((result_in f s c (Submit submission)).answer ≡ Ticket (suc (length s.progress.requests)))
        ⊎ (state_of (result_in f s c (Submit submission)).changes (result_in f s c (Submit submission)).progress ≡ s)
    by Broken = inr refl
    by Closed = inr refl
    by Working = elim (working (refusal f s.progress submission)) [
      | inl given ↦ inl given
      | inr same ↦ inr (ap (state_of (submit f s.progress submission).changes) same.0 ∙ ap (λ (changes : List Change). state_of changes s.progress) same.1)
    ]
