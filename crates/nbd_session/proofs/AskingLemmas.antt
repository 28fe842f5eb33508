-- What is asked in a piece, turn by turn.
use Rattle.std.proofs.Common.{◌≡◌, ℕ, zero, suc, ◌-◌, min, nat_eq, Bool, true, false, List, [], ◌++◌, length, take, drop, refl, sym, ap, subst, ◌∙◌, arith, append-nil, Option, None, Some}
use Rattle.std.proofs.lemmas.Bool.{eqb-false}
use Rattle.std.proofs.lemmas.List.{drop_all, take_all}
use Rattle.nbd_model.specs.Stream as streams
use Rattle.nbd_model.specs.Stream.{Front, Message, Short, front_of}
use Rattle.nbd_wire.specs.declared.event.Event.{Event}
use Rattle.nbd_wire.specs.declared.event.Event.TheVariants.{More, Ask, Bytes}
use Rattle.nbd_wire.specs.declared.event.Event.TheVariants as events
use Rattle.nbd_wire.specs.Splitting.{Place, InHead, InBytes, AtWrong, Taken, taken_by, take_from, told_of}
use Rattle.nbd_wire.specs.CuttingLaws.{Told, Telling, with_told, tell_piece}
use Rattle.nbd_incoming.specs.declared.incoming.Coming.{Coming}
use Rattle.nbd_incoming.specs.declared.taken.Taken.TheVariants as takens
use Rattle.nbd_incoming.specs.Incoming.{IsOutcome, KeepsComing}
use Rattle.nbd_incoming.specs.Taking as taking
use Rattle.nbd_incoming.specs.Taking.{Asking, Disconnected, Fits, Outcome, Part, Whole, Wrong, asks_by, asks_none, outcome_of}
use Rattle.nbd_incoming.proofs.StepLemmas.{Goes, Leaves, steps}
use Rattle.nbd_flight.specs.declared.whole.Whole as flights
use Rattle.nbd_flight.specs.Asking.{IsWhole}

-- With some asked before.
abbrev pub with_front : List Message → Asking → Asking
with_front front a = record a { asked = front ++ a.asked }

-- ---- no bytes are left

empty_bytes : (left : ℕ) (none_there : Bool) → nat_eq (min 0 left) 0 ≡ none_there → take_from (InBytes left) [] ≡ told_of 0 More (InBytes left)
empty_bytes left true is = rw is refl
empty_bytes left false is = absurd (eqb-false (min 0 left) 0 is (omega arith))

empty_take : (place : Place) (coming : Option Message) → Fits place coming → take_from place [] ≡ told_of 0 More place
empty_take (InHead head) None fits =
    let nothing : take (28 - length head) [] ≡ [] = take_all (28 - length head) [] (omega arith) in
    ap (taken_by head []) (ap (λ (x : List ℕ). front_of (head ++ x)) nothing ∙ ap front_of (append-nil head) ∙ fits.short)
    ∙ ap (λ (x : List ℕ). told_of 0 More (InHead x)) (append-nil head)
empty_take (InHead head) (Some m) fits = absurd fits
empty_take (InBytes left) coming fits = empty_bytes left _ refl
empty_take (AtWrong magic) coming fits = absurd fits

-- The turns behind the first one.
abbrev rest_of : ℕ → Taken → List ℕ → Event → Telling
rest_of n t rest event = elim event as (λ x. Telling) [
  | More ↦ record { told = []; place = t.place }
  | Ask r ↦ tell_piece n t.place rest
  | Bytes m ↦ tell_piece n t.place rest
  | events.Wrong magic ↦ record { told = []; place = t.place }
]

abbrev turn_of : ℕ → Taken → List ℕ → Telling
turn_of n t piece = with_told (record { event = t.event; bytes = take t.count piece }) (rest_of n t (drop t.count piece) t.event)

-- What is asked by some turns, and where they end.
pub record AsksSo (coming : Option Message) (r : Telling) (a : Asking) (place : Place) : Type 0 where
  pub asks : asks_by coming r.told ≡ a
  pub ends : r.place ≡ place

pub quiet : (n : ℕ) (place : Place) (coming : Option Message) → Fits place coming → AsksSo coming (tell_piece n place []) (asks_none None coming) place
quiet zero place coming fits = record { asks = refl; ends = refl }
quiet (suc n) place coming fits =
    subst (λ (t : Taken). AsksSo coming (turn_of n t []) (asks_none None coming) place) (sym (empty_take place coming fits)) (record { asks = refl; ends = refl })

-- ---- one turn

module _ (n : ℕ) (place : Place) (coming : Option Message) (piece : List ℕ) (fits : Fits place coming) where
  abbrev t : Taken
  t = take_from place piece

  abbrev outcome : Outcome
  outcome = outcome_of coming t.event (take t.count piece)

  abbrev later : Telling
  later = tell_piece n t.place (drop t.count piece)

  -- The turns behind one that goes on are those of the rest.
  rest_is : (next : Option Message) → Fits t.place next → (e : Event) → Goes e t.count piece → ((magic : ℕ) → ◌≡◌ {A = Event} e (events.Wrong magic) → ⊥)
      → AsksSo next (rest_of n t (drop t.count piece) e) (asks_by next later.told) later.place
  rest_is next fits_next More goes other =
      let nothing : drop t.count piece ≡ [] = drop_all t.count piece (omega (arith, goes)) in
      let silent = quiet n t.place next fits_next in
      let same = ap (tell_piece n t.place) nothing in
      record {
        asks = sym (ap (λ (r : Telling). asks_by next r.told) same ∙ silent.asks);
        ends = sym (ap (λ (r : Telling). r.place) same ∙ silent.ends);
      }
  rest_is next fits_next (Ask r) goes other = record { asks = refl; ends = refl }
  rest_is next fits_next (Bytes m) goes other = record { asks = refl; ends = refl }
  rest_is next fits_next (events.Wrong magic) goes other = absurd (other magic refl)

  abbrev rest_told : List Told
  rest_told = (rest_of n t (drop t.count piece) t.event).told

  abbrev asks_of : Outcome → Asking
  asks_of o = elim o as (λ x. Asking) [
    | Part next ↦ asks_by next rest_told
    | Whole m ↦ taking.with_asked m (asks_by None rest_told)
    | Disconnected ↦ asks_none (Some streams.Disconnected) None
    | Wrong magic ↦ asks_none (Some (streams.WrongMagic magic)) None
  ]

  not_wrong : (o : Outcome) → ((magic : ℕ) → ◌≡◌ {A = Outcome} o (Wrong magic) → ⊥) → outcome ≡ o → (magic : ℕ) → ◌≡◌ {A = Event} t.event (events.Wrong magic) → ⊥
  not_wrong o other is magic same = other magic (sym is ∙ ap (λ (e : Event). outcome_of coming e (take t.count piece)) same)

  leaves-is : (o : Outcome) → outcome ≡ o → Leaves o t.place
  leaves-is o is = subst (λ (x : Outcome). Leaves x t.place) is (steps place coming piece fits).leaves

  -- No request ends with it,
  pub turn_part : (next : Option Message) → outcome ≡ Part next → AsksSo coming (tell_piece (suc n) place piece) (asks_by next later.told) later.place × Fits t.place next
  turn_part next is =
      let leaves = leaves-is (Part next) is in
      let rest = rest_is next leaves t.event (steps place coming piece fits).goes (not_wrong (Part next) (λ magic same. cc) is) in
      (record { asks = ap asks_of is ∙ rest.asks; ends = rest.ends }, leaves)

  -- or this one does;
  pub turn_whole : (m : Message) → outcome ≡ Whole m
      → AsksSo coming (tell_piece (suc n) place piece) (taking.with_asked m (asks_by None later.told)) later.place × Fits t.place None
  turn_whole m is =
      let leaves = leaves-is (Whole m) is in
      let rest = rest_is None leaves.0 t.event (steps place coming piece fits).goes (not_wrong (Whole m) (λ magic same. cc) is) in
      (record { asks = ap asks_of is ∙ ap (taking.with_asked m) rest.asks; ends = rest.ends }, leaves.0)

  -- or the requests end with it.
  pub turn_disconnects : outcome ≡ Disconnected → asks_by coming (tell_piece (suc n) place piece).told ≡ asks_none (Some streams.Disconnected) None
  turn_disconnects is = ap asks_of is

  pub turn_wrong : (magic : ℕ) → outcome ≡ Wrong magic → asks_by coming (tell_piece (suc n) place piece).told ≡ asks_none (Some (streams.WrongMagic magic)) None
  turn_wrong magic is = ap asks_of is

-- ---- what is told is the outcome

pub record IsPart (blocks block_size : ℕ) (now : Option Coming) (o : Outcome) : Type 0 where
  pub next : Option Message
  pub is : o ≡ Part next
  pub keeps : KeepsComing blocks block_size now next

pub is_part : (blocks block_size : ℕ) (now : Option Coming) (o : Outcome) → IsOutcome blocks block_size now takens.Part o → IsPart blocks block_size now o
is_part blocks block_size now (Part next) so = record { next = next; is = refl; keeps = so }
is_part blocks block_size now (Whole m) so = absurd so
is_part blocks block_size now Disconnected so = absurd so
is_part blocks block_size now (Wrong magic) so = absurd so

pub record IsRequest (blocks block_size : ℕ) (now : Option Coming) (whole : flights.Whole) (o : Outcome) : Type 0 where
  pub m : Message
  pub is : o ≡ Whole m
  pub whole_ : IsWhole blocks block_size whole m
  pub none : now ≡ None

pub is_request : (blocks block_size : ℕ) (now : Option Coming) (whole : flights.Whole) (o : Outcome) → IsOutcome blocks block_size now (takens.Whole whole) o
    → IsRequest blocks block_size now whole o
is_request blocks block_size now whole (Part next) so = absurd so
is_request blocks block_size now whole (Whole m) so = record { m = m; is = refl; whole_ = so.0; none = so.2 }
is_request blocks block_size now whole Disconnected so = absurd so
is_request blocks block_size now whole (Wrong magic) so = absurd so

pub is_disconnect : (blocks block_size : ℕ) (now : Option Coming) (o : Outcome) → IsOutcome blocks block_size now takens.Disconnected o → o ≡ Disconnected
is_disconnect blocks block_size now (Part next) so = absurd so
is_disconnect blocks block_size now (Whole m) so = absurd so
is_disconnect blocks block_size now Disconnected so = refl
is_disconnect blocks block_size now (Wrong magic) so = absurd so

pub is_wrong : (blocks block_size : ℕ) (now : Option Coming) (magic : ℕ) (o : Outcome) → IsOutcome blocks block_size now (takens.Wrong magic) o → o ≡ Wrong magic
is_wrong blocks block_size now magic (Part next) so = absurd so
is_wrong blocks block_size now magic (Whole m) so = absurd so
is_wrong blocks block_size now magic Disconnected so = absurd so
is_wrong blocks block_size now magic (Wrong other) so = ap Wrong (sym so)
