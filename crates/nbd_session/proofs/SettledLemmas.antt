-- Rounds until some are in flight, and then until fewer are, are rounds until fewer are.
use Rattle.std.proofs.Common.{◌≡◌, inl, inr, ℕ, zero, suc, ◌+◌, ◌<◌, ◌≤◌, Bool, true, false, List, [], ◌∷◌, ◌++◌, length, refl, sym, ◌∙◌, ap, subst, arith, append_assoc}
use Rattle.std.specs.Prelude.{leb}
use Rattle.std.proofs.lemmas.Bool.{cases_Bool, leb-true, leb-false}
use Rattle.device_model.specs.Mode.{DeviceFormat}
use Rattle.nbd_model.specs.Stream.{Message}
use Rattle.nbd_model.specs.Judged.{submission_of}
use Rattle.nbd_model.specs.Session.{Deed, Moment, Part, ask_all, ask_one, most_waiting, no_deeds, round, rounds, submit_to, take_piece, turns_of, until, with_deeds}
use Rattle.nbd_flight.proofs.UntilLemmas.{rounds-settled}
use Rattle.nbd_session.specs.UnderWay.{IsUnderWay}
use Rattle.nbd_session.proofs.UnderWayLemmas.{until-few, way-rounds}

leb-few : (a b : ℕ) → a ≤ b → leb a b ≡ true
leb-few a b low = elim (cases_Bool (leb a b)) [
  | inl few ↦ few
  | inr many ↦ absurd (omega (arith, low, leb-false a b many))
]

leb-many : (a b : ℕ) → b < a → leb a b ≡ false
leb-many a b high = elim (cases_Bool (leb a b)) [
  | inl low ↦ absurd (omega (arith, high, leb-true a b low))
  | inr above ↦ above
]

module _ (f : DeviceFormat) where
  abbrev by_size : (most n : ℕ) → Moment → Bool → Part
  by_size most n m few = elim few as (λ x. Part) [
    | true ↦ no_deeds m
    | false ↦ with_deeds (round f m).deeds (rounds f most n (round f m).behind)
  ]

  -- With few in flight none is made.
  rounds-few : (most n : ℕ) (m : Moment) → length m.flying ≤ most → rounds f most n m ≡ no_deeds m
  rounds-few most zero m few = refl
  rounds-few most (suc n) m few = ap (by_size most n m) (leb-few (length m.flying) most few)

  pub until-none : (most : ℕ) (m : Moment) → length m.flying ≤ most → until f most m ≡ no_deeds m
  until-none most m few = rounds-few most (turns_of m) m few

  with-again : (a b : List Deed) (p : Part) → with_deeds a (with_deeds b p) ≡ with_deeds (a ++ b) p
  with-again a b p = ap (λ (l : List Deed). record p { deeds = l }) (sym (append_assoc a b p.deeds))

  -- As many rounds more as are asked for are made behind the first ones.
  record Splits (fewer most n : ℕ) (m : Moment) : Type 0 where
    pub made : ℕ
    pub is : (k : ℕ) → rounds f fewer (made + k) m ≡ with_deeds (rounds f most n m).deeds (rounds f fewer k (rounds f most n m).behind)

  splits : (fewer most : ℕ) → fewer ≤ most → (n : ℕ) (m : Moment) → Splits fewer most n m
  splits fewer most low zero m = record { made = 0; is = λ k. ap (λ (i : ℕ). rounds f fewer i m) (none k) }
    where
      none : (k : ℕ) → 0 + k ≡ k
      none k = omega arith
  splits fewer most low (suc n) m = by (splits fewer most low n (round f m).behind) (leb (length m.flying) most) refl
    where
      none : (k : ℕ) → 0 + k ≡ k
      none k = omega arith

      shift : (a b : ℕ) → suc a + b ≡ suc (a + b)
      shift a b = omega arith

      by : Splits fewer most n (round f m).behind → (b : Bool) → leb (length m.flying) most ≡ b → Splits fewer most (suc n) m
      by rest true few = record {
        made = 0;
        is = λ k. ap (λ (i : ℕ). rounds f fewer i m) (none k)
            ∙ ap (λ (p : Part). with_deeds p.deeds (rounds f fewer k p.behind)) (sym (ap (by_size most n m) few));
      }
      by rest false many =
          let first = round f m in
          let next = rounds f most n first.behind in
          record {
            made = suc rest.made;
            is = λ k.
                ap (λ (i : ℕ). rounds f fewer i m) (shift rest.made k)
                ∙ ap (by_size fewer (rest.made + k) m) (leb-many (length m.flying) fewer (omega (arith, leb-false (length m.flying) most many, low)))
                ∙ ap (with_deeds first.deeds) (rest.is k)
                ∙ with-again first.deeds next.deeds (rounds f fewer k next.behind)
                ∙ ap (λ (p : Part). with_deeds p.deeds (rounds f fewer k p.behind)) (sym (ap (by_size most n m) many));
          }

  rounds-same : (most a b : ℕ) (m : Moment) → length (rounds f most a m).behind.flying ≤ most → length (rounds f most b m).behind.flying ≤ most
      → rounds f most a m ≡ rounds f most b m
  rounds-same most a b m first second =
      sym (rounds-settled f most a b m first) ∙ ap (λ (i : ℕ). rounds f most i m) (swap a b) ∙ rounds-settled f most b a m second
    where
      swap : (i j : ℕ) → i + j ≡ j + i
      swap i j = omega arith

  module _ (m : Moment) (way : IsUnderWay f m) where
    pub until-then : (fewer most : ℕ) → fewer ≤ most → until f fewer m ≡ with_deeds (until f most m).deeds (until f fewer (until f most m).behind)
    until-then fewer most low =
        let first = until f most m in
        let next = first.behind in
        let split = splits fewer most low (turns_of m) m in
        let few = until-few f next (way-rounds f m most way) fewer in
        let same = split.is (turns_of next) in
        rounds-same fewer (turns_of m) (split.made + turns_of next) m (until-few f m way fewer)
        (subst (λ (p : Part). length p.behind.flying ≤ fewer) (sym same) few)
        ∙ same

    -- Before a piece is taken, or the rest of one, rounds may be made until one more can be in flight.
    pub piece-settles : (rest : List Message)
        → take_piece f m rest ≡ with_deeds (until f most_waiting m).deeds (take_piece f (until f most_waiting m).behind rest)
    piece-settles [] = until-then 0 most_waiting (omega arith)
    piece-settles (message ∷ rest) =
        let room = until f most_waiting m in
        let none = until-none most_waiting room.behind (until-few f m way most_waiting) in
        let handed = λ (p : Part). submit_to f p.behind message.request.cookie (submission_of f.blocks message) in
        let own = handed room in
        let all = ask_all f own.behind rest in
        let last = until f 0 all.behind in
        sym (ap (λ (p : Part).
        let one = with_deeds p.deeds (handed p) in
        with_deeds room.deeds (with_deeds (with_deeds one.deeds (ask_all f one.behind rest)).deeds (until f 0 (ask_all f one.behind rest).behind))) none
        ∙ ap (λ (l : List Deed). record last { deeds = l }) (sym (regroup room.deeds own.deeds all.deeds last.deeds)))
      where
        regroup : (a b c d : List Deed) → ((a ++ b) ++ c) ++ d ≡ a ++ ((b ++ c) ++ d)
        regroup a b c d = ap (λ (l : List Deed). l ++ d) (append_assoc a b c) ∙ append_assoc a (b ++ c) d

  -- Where there is room for one more, the next one is handed in at once.
  pub ask-at_once : (m : Moment) (message : Message) → length m.flying ≤ most_waiting
      → ask_one f m message ≡ submit_to f m message.request.cookie (submission_of f.blocks message)
  ask-at_once m message few =
      ap (λ (p : Part). with_deeds p.deeds (submit_to f p.behind message.request.cookie (submission_of f.blocks message))) (until-none most_waiting m few)

  -- It comes first in what is done of a piece.
  pub piece-next : (m : Moment) (message : Message) (rest : List Message)
      → take_piece f m (message ∷ rest) ≡ with_deeds (ask_one f m message).deeds (take_piece f (ask_one f m message).behind rest)
  piece-next m message rest =
      let one = ask_one f m message in
      let all = ask_all f one.behind rest in
      let last = until f 0 all.behind in
      ap (λ (l : List Deed). record last { deeds = l }) (append_assoc one.deeds all.deeds last.deeds)
