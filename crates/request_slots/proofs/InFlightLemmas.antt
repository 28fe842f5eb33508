-- The requests in flight are those of `device_model`, through each call.
use Rattle.std.proofs.Common.{◌≡◌, inl, inr, ℕ, zero, suc, ◌+◌, ◌*◌, ◌<◌, ◌==◌, Bool, true, false, List, [], ◌∷◌, ◌++◌, length, take, drop, set, find, slice_get, Some, refl, sym, ◌∙◌, ap, subst, arith, length-append}
use Rattle.std.proofs.lemmas.Bool.{cases_Bool, false≢true, eq-eqb, ne_eqb}
use Rattle.std.proofs.lemmas.List.{append-nil}
use Rattle.std.proofs.lemmas.Option.{none-some, same_Some}
use Rattle.image_model.specs.Cells.{Cell}
use Rattle.device_model.specs.Mode.{DeviceFormat}
use Rattle.device_model.specs.Progress.{next_block, with_block}
use Rattle.device_model.specs.Serial.{readable_cells}
use Rattle.device_model.specs.Request as Asks
use Rattle.device_model.specs.Reply as ModelReply
use Rattle.range_lock.specs.Asks.{ask_for, holder_of}
use Rattle.range_lock.specs.InFlight.{asks_of}
use Rattle.range_lock.specs.declared.ask.Ask.{Ask}
use Rattle.range_lock.proofs.InFlightLemmas.{holder_of-asks_of}
use Rattle.request_slots.specs.Flight.{first_in, count_in, is_of, is_open, ask_of, asks_in}
use Rattle.request_slots.specs.InFlight.{outcome_by, outcome_in, request_with, bytes_now, slot_for, slots_of}
use Rattle.request_slots.specs.Serving.{changed, with_piece, with_block_counted, with_block_read, with_fault, with_finish}
use Rattle.request_slots.specs.Taking.{without}
use Rattle.request_slots.specs.declared.request.Request.TheVariants.{Read}
use Rattle.request_slots.specs.declared.slot.Outcome.TheVariants.{Unfinished, Finished, Fault}
use Rattle.request_slots.specs.declared.slot.Slot.{Slot}
use Rattle.request_slots.proofs.SlotsLemmas.{HasNone, find-split, changed-split, without-split}

-- ---- one slot

is_open-outcome_by : (reply : ModelReply.Reply) → is_open (outcome_by reply) ≡ false
is_open-outcome_by (ModelReply.Bytes bytes) = refl
is_open-outcome_by (ModelReply.TagFault block stored computed) = refl

-- a slot is unfinished where its request is
pub is_open-outcome_in : (state : Asks.RequestState) (reply : ModelReply.Reply) → is_open (outcome_in state reply) ≡ Asks.is_unfinished state
is_open-outcome_in Asks.Unfinished reply = refl
is_open-outcome_in Asks.Finished reply = is_open-outcome_by reply
is_open-outcome_in Asks.Taken reply = is_open-outcome_by reply
is_open-outcome_in Asks.Dropped reply = is_open-outcome_by reply

first_in-request_with : (r : Asks.Request) (bytes : List ℕ) → first_in (request_with r bytes) ≡ Asks.first_of r
first_in-request_with (Asks.Read first count) bytes = refl
first_in-request_with (Asks.Write first blocks fua) bytes = refl
first_in-request_with Asks.Flush bytes = refl

count_in-request_with : (r : Asks.Request) (bytes : List ℕ) → count_in (request_with r bytes) ≡ Asks.count_of r
count_in-request_with (Asks.Read first count) bytes = refl
count_in-request_with (Asks.Write first blocks fua) bytes = refl
count_in-request_with Asks.Flush bytes = refl

-- it asks for the request's blocks
ask_of-slot_for : (t : ℕ) (a : Asks.Asked) → ask_of (slot_for t a) ≡ ask_for t (Asks.first_of a.request) (Asks.count_of a.request)
ask_of-slot_for t a =
    ap (λ (n : ℕ). ask_for t n (count_in (request_with a.request (bytes_now a)))) (first_in-request_with a.request (bytes_now a))
    ∙ ap (λ (n : ℕ). ask_for t (Asks.first_of a.request) n) (count_in-request_with a.request (bytes_now a))

-- what is over is not unfinished
over-done : (state : Asks.RequestState) → Asks.is_over state ≡ true → Asks.is_unfinished state ≡ false
over-done Asks.Unfinished over = absurd (false≢true over)
over-done Asks.Finished over = refl
over-done Asks.Taken over = refl
over-done Asks.Dropped over = refl

-- ---- all slots

-- what they ask for is what the requests ask for
pub asks_in-slots_of : (t : ℕ) (requests : List Asks.Asked) → asks_in (slots_of t requests) ≡ asks_of t requests
asks_in-slots_of t [] = refl
asks_in-slots_of t (a ∷ requests) =
    let rest = asks_in-slots_of (suc t) requests in
    let open_ = is_open-outcome_in a.state a.reply in
    elim (cases_Bool (Asks.is_over a.state)) [
      | inl over ↦ simp (over, over-done a.state over) rest
      | inr there ↦ simp there (elim (cases_Bool (Asks.is_unfinished a.state)) [
        | inl still ↦ simp (open_, still) (ap (λ (ask : Ask). ask ∷ asks_in (slots_of (suc t) requests)) (ask_of-slot_for t a)
            ∙ ap (λ (asks : List Ask). ask_for t (Asks.first_of a.request) (Asks.count_of a.request) ∷ asks) rest)
        | inr done ↦ simp (open_, done) rest
      ])
    ]

pub slots_of-append : (t : ℕ) (requests others : List Asks.Asked) → slots_of t (requests ++ others) ≡ slots_of t requests ++ slots_of (t + length requests) others
slots_of-append t [] others = ap (λ (n : ℕ). slots_of n others) (omega arith)
slots_of-append t (a ∷ requests) others =
    let rest : slots_of (suc t) (requests ++ others) ≡ slots_of (suc t) requests ++ slots_of (t + suc (length requests)) others =
    slots_of-append (suc t) requests others ∙ ap (λ (n : ℕ). slots_of (suc t) requests ++ slots_of n others) (omega arith) in
    elim (cases_Bool (Asks.is_over a.state)) [
      | inl over ↦ simp over rest
      | inr there ↦ simp there (ap (λ (slots : List Slot). slot_for t a ∷ slots) rest)
    ]

-- none of later requests has an earlier ticket
none-later : (n t : ℕ) (requests : List Asks.Asked) → n < t → HasNone n (slots_of t requests)
none-later n t [] low = tt
none-later n t (a ∷ requests) low =
    let rest = none-later n (suc t) requests (omega (arith, low)) in
    elim (cases_Bool (Asks.is_over a.state)) [
      | inl over ↦ simp over rest
      | inr there ↦ simp there (ne_eqb t n (λ same. omega (arith, same, low)), rest)
    ]

-- nor has one before place k that of place k
pub none-before : (t k : ℕ) (requests : List Asks.Asked) → HasNone (t + k) (slots_of t (take k requests))
none-before t zero [] = tt
none-before t (suc k) [] = tt
none-before t zero (a ∷ requests) = tt
none-before t (suc k) (a ∷ requests) =
    let rest = subst (λ (n : ℕ). HasNone n (slots_of (suc t) (take k requests))) (omega arith) (none-before (suc t) k requests) in
    elim (cases_Bool (Asks.is_over a.state)) [
      | inl over ↦ simp over rest
      | inr there ↦ simp there (ne_eqb t (t + suc k) (λ same. omega (arith, same)), rest)
    ]

-- the slots before and behind the request at place k
abbrev pub before_of : ℕ → ℕ → List Asks.Asked → List Slot
before_of t k requests = slots_of t (take k requests)

abbrev pub behind_of : ℕ → ℕ → List Asks.Asked → List Slot
behind_of t k requests = slots_of (t + suc k) (drop (suc k) requests)

pub slots_of-around : (t k : ℕ) (requests : List Asks.Asked) (a : Asks.Asked) → slice_get requests k ≡ Some a → Asks.is_over a.state ≡ false
    → slots_of t requests ≡ before_of t k requests ++ slot_for (t + k) a ∷ behind_of t k requests
slots_of-around t k [] a there open_ = absurd (none-some a there)
slots_of-around t zero (x ∷ requests) a there open_ =
    let same : x ≡ a = same_Some x a there in
    let is : Asks.is_over x.state ≡ false = ap (λ (y : Asks.Asked). Asks.is_over y.state) same ∙ open_ in
    simp is (ap (λ (y : Asks.Asked). slot_for t y ∷ slots_of (suc t) requests) same
    ∙ ap (λ (n : ℕ). slot_for n a ∷ slots_of (suc t) requests) (omega arith) ∙ ap (λ (n : ℕ). slot_for (t + 0) a ∷ slots_of n requests) (omega arith))
slots_of-around t (suc k) (x ∷ requests) a there open_ =
    let rest = slots_of-around (suc t) k requests a there open_
    ∙ ap (λ (n : ℕ). before_of (suc t) k requests ++ slot_for n a ∷ behind_of (suc t) k requests) (omega arith)
    ∙ ap (λ (n : ℕ). before_of (suc t) k requests ++ slot_for (t + suc k) a ∷ slots_of n (drop (suc k) requests)) (omega arith) in
    elim (cases_Bool (Asks.is_over x.state)) [
      | inl over ↦ simp over rest
      | inr there_too ↦ simp there_too (ap (λ (slots : List Slot). slot_for t x ∷ slots) rest)
    ]

-- with another one in its place
pub slots_of-set : (t k : ℕ) (requests : List Asks.Asked) (b : Asks.Asked) → k < length requests → Asks.is_over b.state ≡ false
    → slots_of t (set requests k b) ≡ before_of t k requests ++ slot_for (t + k) b ∷ behind_of t k requests
slots_of-set t k [] b low open_ = absurd (no_less low)
  where
    no_less : k < 0 → ⊥
    no_less l = omega (arith, l)
slots_of-set t zero (x ∷ requests) b low open_ =
    simp open_ (ap (λ (n : ℕ). slot_for n b ∷ slots_of (suc t) requests) (omega arith) ∙ ap (λ (n : ℕ). slot_for (t + 0) b ∷ slots_of n requests) (omega arith))
slots_of-set t (suc k) (x ∷ requests) b low open_ =
    let rest = slots_of-set (suc t) k requests b (omega (arith, low)) open_
    ∙ ap (λ (n : ℕ). before_of (suc t) k requests ++ slot_for n b ∷ behind_of (suc t) k requests) (omega arith)
    ∙ ap (λ (n : ℕ). before_of (suc t) k requests ++ slot_for (t + suc k) b ∷ slots_of n (drop (suc k) requests)) (omega arith) in
    elim (cases_Bool (Asks.is_over x.state)) [
      | inl over ↦ simp over rest
      | inr there_too ↦ simp there_too (ap (λ (slots : List Slot). slot_for t x ∷ slots) rest)
    ]

-- and with one that is over
pub slots_of-over : (t k : ℕ) (requests : List Asks.Asked) (b : Asks.Asked) → k < length requests → Asks.is_over b.state ≡ true
    → slots_of t (set requests k b) ≡ before_of t k requests ++ behind_of t k requests
slots_of-over t k [] b low over = absurd (no_less low)
  where
    no_less : k < 0 → ⊥
    no_less l = omega (arith, l)
slots_of-over t zero (x ∷ requests) b low over = simp over (ap (λ (n : ℕ). slots_of n requests) (omega arith))
slots_of-over t (suc k) (x ∷ requests) b low over =
    let rest = slots_of-over (suc t) k requests b (omega (arith, low)) over
    ∙ ap (λ (n : ℕ). before_of (suc t) k requests ++ slots_of n (drop (suc k) requests)) (omega arith) in
    elim (cases_Bool (Asks.is_over x.state)) [
      | inl over_too ↦ simp over_too rest
      | inr there_too ↦ simp there_too (ap (λ (slots : List Slot). slot_for t x ∷ slots) rest)
    ]

-- ---- the request at place k, which is not over

module _ (requests : List Asks.Asked) (k : ℕ) (a : Asks.Asked) (there : slice_get requests k ≡ Some a) (open_ : Asks.is_over a.state ≡ false) where
  own_is : is_of (suc k) (slot_for (1 + k) a) ≡ true
  own_is = eq-eqb (1 + k) (suc k) (omega arith)

  none : HasNone (suc k) (before_of 1 k requests)
  none = subst (λ (n : ℕ). HasNone n (before_of 1 k requests)) (omega arith) (none-before 1 k requests)

  -- its slot is in flight
  pub slot_of-request : find (is_of (suc k)) (slots_of 1 requests) ≡ Some (slot_for (1 + k) a)
  slot_of-request =
      ap (find (is_of (suc k))) (slots_of-around 1 k requests a there open_)
      ∙ find-split (suc k) (slot_for (1 + k) a) (behind_of 1 k requests) own_is (before_of 1 k requests) none

  -- a change of its slot is one of the request
  pub changed-request : (change : Slot → Slot) (b : Asks.Asked) → k < length requests → Asks.is_over b.state ≡ false
      → change (slot_for (1 + k) a) ≡ slot_for (1 + k) b → changed (suc k) change (slots_of 1 requests) ≡ slots_of 1 (set requests k b)
  changed-request change b low open_b same =
      ap (changed (suc k) change) (slots_of-around 1 k requests a there open_)
      ∙ changed-split (suc k) (slot_for (1 + k) a) (behind_of 1 k requests) own_is change (before_of 1 k requests) none
      ∙ ap (λ (x : Slot). before_of 1 k requests ++ x ∷ behind_of 1 k requests) same
      ∙ sym (slots_of-set 1 k requests b low open_b)

  -- once it is over it has no slot
  pub without-request : (b : Asks.Asked) → k < length requests → Asks.is_over b.state ≡ true
      → without (suc k) (slots_of 1 requests) ≡ slots_of 1 (set requests k b)
  without-request b low over =
      ap (without (suc k)) (slots_of-around 1 k requests a there open_)
      ∙ without-split (suc k) (slot_for (1 + k) a) (behind_of 1 k requests) own_is (before_of 1 k requests) none
      ∙ sym (slots_of-over 1 k requests b low over)

  -- what holds it is what holds the request
  pub holder_of-request : Asks.is_unfinished a.state ≡ true → holder_of (suc k) (asks_in (slots_of 1 requests)) ≡ Asks.held_by requests k a.request
  holder_of-request still = ap (holder_of (suc k)) (asks_in-slots_of 1 requests) ∙ holder_of-asks_of requests k a there still

-- ---- the bytes of a read

take-front : (xs ys : List ℕ) → take (length xs) (xs ++ ys) ≡ xs
take-front [] ys = refl
take-front (x ∷ xs) ys = ap (λ (zs : List ℕ). x ∷ zs) (take-front xs ys)

drop-behind : (xs ys : List ℕ) (n : ℕ) → drop (length xs + n) (xs ++ ys) ≡ drop n ys
drop-behind [] ys n = let same : 0 + n ≡ n = omega arith in ap (λ (m : ℕ). drop m ys) same
drop-behind (x ∷ xs) ys n =
    let moved : suc (length xs) + n ≡ suc (length xs + n) = omega arith in
    ap (λ (m : ℕ). drop m (x ∷ (xs ++ ys))) moved ∙ drop-behind xs ys n

drop-none : (n : ℕ) (none : List ℕ) → none ≡ [] → drop n none ≡ none
drop-none zero none is = refl
drop-none (suc n) [] is = refl
drop-none (suc n) (x ∷ xs) is = absurd (not_none is)
  where
    not_none : x ∷ xs ≡ [] → ⊥
    not_none same = let size : suc (length xs) ≡ 0 = ap length same in omega (arith, size)

drop-drop : (m n : ℕ) (xs : List ℕ) → drop n (drop m xs) ≡ drop (m + n) xs
drop-drop zero n xs = let same : n ≡ 0 + n = omega arith in ap (λ (k : ℕ). drop k xs) same
drop-drop (suc m) n [] = ap (drop n) (drop-none (suc m) [] refl) ∙ drop-none n [] refl ∙ sym (drop-none (suc m + n) [] refl)
drop-drop (suc m) n (x ∷ xs) =
    let moved : suc (m + n) ≡ suc m + n = omega arith in
    drop-drop m n xs ∙ ap (λ (k : ℕ). drop k (x ∷ xs)) moved

-- a block behind what was read
piece-behind : (got bytes given : List ℕ)
    → with_piece (length got) bytes (got ++ drop (length got) given) ≡ (got ++ bytes) ++ drop (length (got ++ bytes)) given
piece-behind got bytes given =
    ap (λ (xs : List ℕ). (xs ++ bytes) ++ drop (length got + length bytes) (got ++ drop (length got) given)) (take-front got (drop (length got) given))
    ∙ ap (λ (xs : List ℕ). (got ++ bytes) ++ xs) (drop-behind got (drop (length got) given) (length bytes) ∙ drop-drop (length got) (length bytes) given
    ∙ ap (λ (n : ℕ). drop n given) (sym (length-append got bytes)))

-- ---- one block more

-- A request that is unfinished has read what its reply says.
abbrev pub unfinished_asked : Asks.Request → (given : List ℕ) → (served : ℕ) → (got : List ℕ) → Asks.Asked
unfinished_asked r given served got = record {
  request = r;
  given = given;
  served = served;
  reply = ModelReply.Bytes got;
  got = got;
  state = Asks.Unfinished;
}

pub unfinished_is : (a : Asks.Asked) (r : Asks.Request) → a.request ≡ r → a.state ≡ Asks.Unfinished → a.reply ≡ ModelReply.Bytes a.got
    → a ≡ unfinished_asked r a.given a.served a.got
unfinished_is a r request state reply =
    ap (λ (q : Asks.Request). record a { request = q }) request
    ∙ ap (λ (s : Asks.RequestState). record a { request = r; state = s }) state
    ∙ ap (λ (w : ModelReply.Reply). record a { request = r; state = Asks.Unfinished; reply = w }) reply

module _ (f : DeviceFormat) (cells : ℕ → Cell) (t : ℕ) where
  -- a block is written
  pub slot_for-written : (first : ℕ) (blocks : List (List ℕ)) (fua : Bool) (given : List ℕ) (served : ℕ) (got : List ℕ)
      → let a = unfinished_asked (Asks.Write first blocks fua) given served got in
      with_block_counted (slot_for t a) ≡ slot_for t (with_block f cells a)
  slot_for-written first blocks fua given served got = elim (cases_Bool (suc served == length blocks)) [
    | inl last ↦ simp last refl
    | inr more ↦ simp more refl
  ]

  -- all is flushed
  pub slot_for-flushed : (given : List ℕ) (served : ℕ) (got : List ℕ) → let a = unfinished_asked Asks.Flush given served got in
      with_finish (slot_for t a) ≡ slot_for t (with_block f cells a)
  slot_for-flushed given served got = refl

  -- a block is read whose tag is right
  pub slot_for-read : (size first count : ℕ) (given : List ℕ) (served : ℕ) (got bytes : List ℕ) → length got ≡ served * size
      → let a = unfinished_asked (Asks.Read first count) given served got in
      ModelReply.block_reply f.blocks.tag (next_block a) (readable_cells f cells (next_block a)) ≡ ModelReply.Bytes bytes
      → with_block_read size bytes (slot_for t a) ≡ slot_for t (with_block f cells a)
  slot_for-read size first count given served got bytes from told =
      let buffer : with_piece (served * size) bytes (got ++ drop (length got) given) ≡ (got ++ bytes) ++ drop (length (got ++ bytes)) given =
      ap (λ (n : ℕ). with_piece n bytes (got ++ drop (length got) given)) (sym from) ∙ piece-behind got bytes given in
      elim (cases_Bool (suc served == count)) [
        | inl last ↦ simp (told, last) (ap (λ (b : List ℕ). record { ticket = t; request = Read first count b; served = suc served; outcome = Finished }) buffer)
        | inr more ↦ simp (told, more) (ap (λ (b : List ℕ). record { ticket = t; request = Read first count b; served = suc served; outcome = Unfinished }) buffer)
      ]

  -- or one that is at fault
  pub slot_for-fault : (first count : ℕ) (given : List ℕ) (served : ℕ) (got : List ℕ) (block : ℕ) (stored computed : List ℕ)
      → let a = unfinished_asked (Asks.Read first count) given served got in
      ModelReply.block_reply f.blocks.tag (next_block a) (readable_cells f cells (next_block a)) ≡ ModelReply.TagFault block stored computed
      → with_fault block stored computed (slot_for t a) ≡ slot_for t (with_block f cells a)
  slot_for-fault first count given served got block stored computed told =
      simp told (ap (λ (g : List ℕ). record { ticket = t; request = Read first count (g ++ drop (length g) given); served = suc served; outcome = Fault block stored computed }) (sym (append-nil got)))
