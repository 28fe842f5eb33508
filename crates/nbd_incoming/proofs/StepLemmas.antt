-- What a take of a piece comes to.
use Rattle.std.proofs.Common.{◌≡◌, ◌≢◌, inl, inr, ℕ, zero, suc, ◌+◌, ◌-◌, ◌<◌, ◌≤◌, min, nat_eq, Bool, true, false, List, [], ◌∷◌, ◌++◌, length, take, drop, refl, sym, ap, subst, ◌∙◌, arith, append_assoc, append-nil, length-append, length-take, Option, None, Some}
use Rattle.std.specs.Option.{option_to_list}
use Rattle.std.proofs.lemmas.Bool.{cases_Bool, eqb-true, eqb-false, ne_eqb}
use Rattle.std.proofs.lemmas.List.{take_all, take_min}
use Rattle.nbd_model.specs.declared.nbd_request.NbdRequest.{NbdRequest}
use Rattle.nbd_model.specs.Message.{bytes_behind, is_disconnect}
use Rattle.nbd_model.specs.Stream.{Front, Short, Bad, Head, front_of, Message, Stream, is_whole}
use Rattle.nbd_model.proofs.FrontLemmas.{front_of-few, short_is_open, head_is_whole}
use Rattle.nbd_wire.specs.declared.event.Event.{Event}
use Rattle.nbd_wire.specs.declared.event.Event.TheVariants.{More, Ask, Bytes}
use Rattle.nbd_wire.specs.declared.event.Event.TheVariants as events
use Rattle.nbd_wire.specs.Splitting.{Place, InHead, InBytes, AtWrong, Taken, taken_by, take_from, place_before, told_of}
use Rattle.nbd_wire.specs.Standing.{IsOpenHead}
use Rattle.nbd_wire.specs.CuttingLaws.{with_more, and_event}
use Rattle.nbd_wire.proofs.TakingLemmas.{Joins, bad_ends_here, open_now}
use Rattle.nbd_incoming.specs.Taking.{Outcome, Part, Whole, Disconnected, Wrong, Fits, IsOpenWrite, asked_now, more_of, outcome_by, outcome_of}

-- ---- what is left

-- A request to disconnect stands behind these messages.
pub record IsCut (done : List Message) (s : Stream) : Type 0 where
  pub last : Message
  pub more : List Message
  pub is : s.messages ≡ done ++ last ∷ more
  pub ends : is_disconnect last.request ≡ true

-- Behind these messages an outcome has come in the stream as it was told so far.
abbrev pub Adds : List Message → Outcome → Stream → Type 0
Adds done (Part coming) s = (s.messages ≡ done ++ option_to_list coming) × (s.wrong ≡ None)
Adds done (Whole m) s = (s.messages ≡ done ++ m ∷ []) × (s.wrong ≡ None)
Adds done Disconnected s = IsCut done s
Adds done (Wrong magic) s = (s.messages ≡ done) × (s.wrong ≡ Some magic)

-- And the splitter stands there.
abbrev pub Leaves : Outcome → Place → Type 0
Leaves (Part coming) place = Fits place coming
Leaves (Whole m) place = Fits place None × (is_disconnect m.request ≡ false) × (is_whole m ≡ true)
Leaves Disconnected place = Unit {0}
Leaves (Wrong magic) place = place ≡ AtWrong magic

-- The take goes on: it took the whole piece, or a byte at least.
abbrev pub Goes : Event → (count : ℕ) → List ℕ → Type 0
Goes More count piece = count ≡ length piece
Goes (Ask r) count piece = (1 ≤ count) × (count ≤ length piece)
Goes (Bytes n) count piece = (1 ≤ count) × (count ≤ length piece)
Goes (events.Wrong magic) count piece = (1 ≤ count) × (count ≤ length piece)

pub record Steps (coming : Option Message) (piece : List ℕ) (t : Taken) : Type 0 where
  pub leaves : Leaves (outcome_of coming t.event (take t.count piece)) t.place
  pub goes : Goes t.event t.count piece
  pub adds : (s : Stream) (done : List Message) → s.messages ≡ done ++ option_to_list coming → s.wrong ≡ None
      → Adds done (outcome_of coming t.event (take t.count piece)) (and_event s (take t.count piece) t.event)

-- ---- by where it stands

between : Fits (InHead []) None
between = record { room = omega arith; short = front_of-few [] (omega arith) }

before-some : (left : ℕ) → left ≢ 0 → place_before left ≡ InBytes left
before-some left some = rw (ne_eqb left 0 some) refl

with_more-last : (b : List ℕ) (messages : List Message) (m : Message)
    → with_more b (messages ++ m ∷ []) ≡ messages ++ record m { bytes = m.bytes ++ b } ∷ []
with_more-last b [] m = refl
with_more-last b (n ∷ []) m = refl
with_more-last b (n ∷ o ∷ messages) m = ap (λ (x : List Message). n ∷ x) (with_more-last b (o ∷ messages) m)

-- A message that so many bytes are left of.
module _ (m : Message) (left : ℕ) (sum : left + length m.bytes ≡ bytes_behind m.request) (goes : is_disconnect m.request ≡ false) where
  abbrev by_size : Bool → Outcome
  by_size whole = elim whole as (λ x. Outcome) [ true ↦ Whole m | false ↦ Part (Some m) ]

  size-is : (whole : Bool) → is_whole m ≡ whole → outcome_by m ≡ by_size whole
  size-is true is = rw is refl
  size-is false is = rw is refl

  leaves-by : (whole : Bool) → is_whole m ≡ whole → Leaves (by_size whole) (place_before left)
  leaves-by true is =
      let same = eqb-true (length m.bytes) (bytes_behind m.request) is in
      let none : left ≡ 0 = omega (arith, same, sum) in
      (subst (λ (k : ℕ). Fits (place_before k) None) (sym none) between, goes, is)
  leaves-by false is =
      let other = eqb-false (length m.bytes) (bytes_behind m.request) is in
      let some : left ≢ 0 = λ zero_. other (omega (arith, zero_, sum)) in
      subst (λ (p : Place). Fits p (Some m)) (sym (before-some left some)) (record { some = omega (arith, some); left_ = sum; goes = goes })

  adds-by : (whole : Bool) (s : Stream) (done : List Message) → s.messages ≡ done ++ m ∷ [] → s.wrong ≡ None → Adds done (by_size whole) s
  adds-by true s done is none = (is, none)
  adds-by false s done is none = (is, none)

  pub leaves-size : Leaves (outcome_by m) (place_before left)
  leaves-size = subst (λ (o : Outcome). Leaves o (place_before left)) (sym (size-is (is_whole m) refl)) (leaves-by (is_whole m) refl)

  pub adds-size : (s : Stream) (done : List Message) → s.messages ≡ done ++ m ∷ [] → s.wrong ≡ None → Adds done (outcome_by m) s
  adds-size s done is none = subst (λ (o : Outcome). Adds done o s) (sym (size-is (is_whole m) refl)) (adds-by (is_whole m) s done is none)

module _ (r : NbdRequest) where
  abbrev first : Message
  first = record { request = r; bytes = [] }

  abbrev by_kind : Bool → Outcome
  by_kind ends = elim ends as (λ x. Outcome) [ true ↦ Disconnected | false ↦ outcome_by first ]

  kind-is : (ends : Bool) → is_disconnect r ≡ ends → asked_now r ≡ by_kind ends
  kind-is true is = rw is refl
  kind-is false is = rw is refl

  sum_first : bytes_behind r + length first.bytes ≡ bytes_behind r
  sum_first = omega arith

  leaves-kind : (ends : Bool) → is_disconnect r ≡ ends → Leaves (by_kind ends) (place_before (bytes_behind r))
  leaves-kind true is = tt
  leaves-kind false is = leaves-size first (bytes_behind r) sum_first is

  adds-kind : (ends : Bool) → is_disconnect r ≡ ends → (s : Stream) (done : List Message) → s.messages ≡ done ++ first ∷ [] → s.wrong ≡ None → Adds done (by_kind ends) s
  adds-kind true is s done messages none = record { last = first; more = []; is = messages; ends = is }
  adds-kind false is s done messages none = adds-size first (bytes_behind r) sum_first is s done messages none

steps-head : (head piece : List ℕ) (front : Front) → IsOpenHead head → front_of (head ++ take (28 - length head) piece) ≡ front
    → Steps None piece (taken_by head piece front)
steps-head head piece Short open_ is =
    let few = short_is_open (head ++ take (28 - length head) piece) is in
    let size = length-append head (take (28 - length head) piece) in
    let part = length-take (28 - length head) piece in
    let low : length piece ≤ 28 - length head = omega (arith, few, size, part, open_.room) in
    let all = take_all (28 - length head) piece low in
    record {
      leaves = open_now (head ++ piece) (ap (λ (x : List ℕ). front_of (head ++ x)) (sym all) ∙ is);
      goes = refl;
      adds = λ s done messages none. (messages, none);
    }
steps-head head piece (Bad magic) open_ is =
    let want = 28 - length head in
    let joins : Joins head piece (head ++ take want piece) (min want (length piece)) = record {
      room = open_.room;
      least = refl;
      joined = ap (λ (x : List ℕ). head ++ x) (sym (take_min want piece));
    } in
    let ends = bad_ends_here head piece (head ++ take want piece) (min want (length piece)) magic joins open_.short is in
    record {
      leaves = refl;
      goes = (let few = ends.0 in omega (arith, few), ends.1);
      adds = λ s done messages none. (messages ∙ append-nil done, refl);
    }
steps-head head piece (Head r) open_ is =
    let w = head ++ take (28 - length head) piece in
    let long = head_is_whole w r is in
    let size = length-append head (take (28 - length head) piece) in
    let part = length-take (28 - length head) piece in
    record {
      leaves = subst (λ (o : Outcome). Leaves o (place_before (bytes_behind r))) (sym (kind-is r (is_disconnect r) refl)) (leaves-kind r (is_disconnect r) refl);
      goes = (omega (arith, open_.room), omega (arith, long, size, part));
      adds = λ s done messages none.
          let now : Stream = record s { messages = s.messages ++ first r ∷ [] } in
          subst (λ (o : Outcome). Adds done o now) (sym (kind-is r (is_disconnect r) refl))
          (adds-kind r (is_disconnect r) refl now done (ap (λ (l : List Message). l ++ first r ∷ []) (messages ∙ append-nil done)) none);
    }

steps-bytes : (left : ℕ) (m : Message) (piece : List ℕ) (none_there : Bool) → IsOpenWrite left m → nat_eq (min (length piece) left) 0 ≡ none_there
    → Steps (Some m) piece (take_from (InBytes left) piece)
steps-bytes left m piece true open_ is =
    let zero_ : min (length piece) left ≡ 0 = eqb-true (min (length piece) left) 0 is in
    let some = open_.some in
    let empty : 0 ≡ length piece = omega (arith, zero_, some) in
    rw is (record { leaves = open_; goes = empty; adds = λ s done messages none. (messages, none) })
steps-bytes left m piece false open_ is =
    let n = min (length piece) left in
    let some_ : n ≢ 0 = eqb-false n 0 is in
    let within : n ≤ length piece = omega arith in
    let below : n ≤ left = omega arith in
    let now : Message = record m { bytes = m.bytes ++ take n piece } in
    let left_ = open_.left_ in
    let sum : left - n + length now.bytes ≡ bytes_behind m.request = omega (arith, left_, below, within, length-append m.bytes (take n piece), length-take n piece) in
    rw is (record {
      leaves = leaves-size now (left - n) sum open_.goes;
      goes = (omega (arith, some_), within);
      adds = λ s done messages none.
          adds-size now (left - n) sum open_.goes (record s { messages = with_more (take n piece) s.messages }) done
          (ap (with_more (take n piece)) messages ∙ with_more-last (take n piece) done m) none;
    })

-- ---- for callers

pub steps : (place : Place) (coming : Option Message) (piece : List ℕ) → Fits place coming → Steps coming piece (take_from place piece)
steps (InHead head) None piece fits = steps-head head piece _ fits refl
steps (InHead head) (Some m) piece fits = absurd fits
steps (InBytes left) None piece fits = absurd fits
steps (InBytes left) (Some m) piece fits = steps-bytes left m piece _ fits refl
steps (AtWrong magic) coming piece fits = absurd fits
