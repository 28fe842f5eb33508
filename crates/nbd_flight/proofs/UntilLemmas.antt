-- Rounds that are made until few are in flight are those of the model.
use Rattle.std.proofs.Common.{◌≡◌, ◌⊎◌, inl, inr, ℕ, zero, suc, ◌+◌, ◌-◌, ◌^◌, ◌≤◌, Bool, true, false, List, [], ◌++◌, length, refl, sym, ◌∙◌, ap, subst, arith, append-nil, append_assoc}
use Rattle.std.specs.Prelude.{leb}
use Rattle.std.proofs.lemmas.Bool.{cases_Bool, leb-false}
use Rattle.image_model.specs.Cells.{Cell}
use Rattle.device_model.specs.Mode.{DeviceFormat}
use Rattle.device_parts.specs.Device.{Standing}
use Rattle.nbd_model.specs.Stream.{Message}
use Rattle.nbd_model.specs.Session.{Deed, Moment, Part, no_deeds, round, rounds, turns_of, until, with_deeds}
use Rattle.nbd_model.proofs.RoundLemmas.{Stands, until-ends}
use Rattle.nbd_flight.specs.declared.stop.Stop.{Stop}
use Rattle.nbd_flight.specs.declared.flight.Flight.{Flight}
use Rattle.nbd_flight.specs.Deeds.{HasStopped, Scene}
use Rattle.nbd_flight.specs.Rounds.{HasMade, HasMadeRounds, HasStoppedRounds}
use Rattle.nbd_flight.proofs.DeedLemmas.{stopped_wider}
use Rattle.nbd_flight.proofs.RoundLemmas.{those-length}

module _ (f : DeviceFormat) (most : ℕ) where
  abbrev by_size : ℕ → Moment → Bool → Part
  by_size n m few = elim few [
    | true ↦ no_deeds m
    | false ↦ with_deeds (round f m).deeds (rounds f most n (round f m).behind)
  ]

  -- With few in flight none is made.
  rounds-few : (n : ℕ) (m : Moment) → leb (length m.flying) most ≡ true → rounds f most n m ≡ no_deeds m
  rounds-few zero m few = refl
  rounds-few (suc n) m few = ap (by_size n m) few

  -- Some rounds, and then more.
  pub rounds-more : (n k : ℕ) (m : Moment) → rounds f most (n + k) m ≡ with_deeds (rounds f most n m).deeds (rounds f most k (rounds f most n m).behind)
  rounds-more zero k m = ap (λ (i : ℕ). rounds f most i m) (none k)
    where
      none : (i : ℕ) → 0 + i ≡ i
      none i = omega arith
  rounds-more (suc n) k m = ap (λ (i : ℕ). rounds f most i m) (shift n k) ∙ by (rounds-more n k (round f m).behind) (leb (length m.flying) most) refl
    where
      shift : (a b : ℕ) → suc a + b ≡ suc (a + b)
      shift a b = omega arith

      by : rounds f most (n + k) (round f m).behind ≡ with_deeds (rounds f most n (round f m).behind).deeds (rounds f most k (rounds f most n (round f m).behind).behind)
          → (b : Bool) → leb (length m.flying) most ≡ b → by_size (n + k) m b ≡ with_deeds (by_size n m b).deeds (rounds f most k (by_size n m b).behind)
      by rest true few = sym (ap (λ (p : Part). with_deeds [] p) (rounds-few k m few))
      by rest false many =
          let first = round f m in
          let next = rounds f most n first.behind in
          ap (with_deeds first.deeds) rest
          ∙ ap (λ (l : List Deed). record (rounds f most k next.behind) { deeds = l }) (sym (append_assoc first.deeds next.deeds (rounds f most k next.behind).deeds))

  few-leb : (a : ℕ) → a ≤ most → leb a most ≡ true
  few-leb a low = elim (cases_Bool (leb a most)) [
    | inl few ↦ few
    | inr many ↦ absurd (omega (arith, low, leb-false a most many))
  ]

  -- Once few are in flight no more are made.
  pub rounds-settled : (n k : ℕ) (m : Moment) → length (rounds f most n m).behind.flying ≤ most → rounds f most (n + k) m ≡ rounds f most n m
  rounds-settled n k m low =
      let part = rounds f most n m in
      rounds-more n k m ∙ ap (λ (p : Part). with_deeds part.deeds p) (rounds-few k part.behind (few-leb (length part.behind.flying) low))
      ∙ ap (λ (l : List Deed). record part { deeds = l }) (append-nil part.deeds)

  rounds-same : (a b : ℕ) (m : Moment) → length (rounds f most a m).behind.flying ≤ most → length (rounds f most b m).behind.flying ≤ most
      → rounds f most a m ≡ rounds f most b m
  rounds-same a b m first second =
      sym (rounds-settled a b m first) ∙ ap (λ (i : ℕ). rounds f most i m) (swap a b) ∙ rounds-settled b a m second
    where
      swap : (i j : ℕ) → i + j ≡ j + i
      swap i j = omega arith

  module _ (base : ℕ → Cell) (all : List Message) (some : 1 ≤ f.sections) (m : Moment) (st : Stands f base all m) (bound : turns_of m ≤ 2 ^ 64 - 1) where
    -- As many as leave few in flight, or as any session needs, are those of the model.
    pub rounds-until : (count : ℕ) → (length (rounds f most count m).behind.flying ≤ most) ⊎ (count ≡ 2 ^ 64 - 1) → rounds f most count m ≡ until f most m
    rounds-until count (inl few) = rounds-same count (turns_of m) m few (until-ends f base all some most m st)
    rounds-until count (inr all_) =
        ap (λ (i : ℕ). rounds f most i m) (split (turns_of m) count (omega (arith, all_, bound))) ∙ rounds-settled (turns_of m) (count - turns_of m) m (until-ends f base all some most m st)
      where
        split : (a b : ℕ) → a ≤ b → b ≡ a + (b - a)
        split a b low = omega (arith, low)

    -- The deeds of fewer come first.
    pub rounds-first : (count : ℕ) → (rest : List Deed) × ((until f most m).deeds ≡ (rounds f most count m).deeds ++ rest)
    rounds-first count =
        let turns = turns_of m in
        let ends = until-ends f base all some most m st in (
          (rounds f most turns (rounds f most count m).behind).deeds,
          ap (λ (p : Part). p.deeds) (sym (rounds-settled turns count m ends) ∙ ap (λ (i : ℕ). rounds f most i m) (swap turns count) ∙ rounds-more count turns m),
        )
      where
        swap : (i j : ℕ) → i + j ≡ j + i
        swap i j = omega arith

-- ---- for callers

module _ (w : Standing) (base : ℕ → Cell) (all : List Message) (some : 1 ≤ w.format.sections) (most : ℕ) (m : Moment) (st : Stands w.format base all m)
    (bound : turns_of m ≤ 2 ^ 64 - 1) where
  pub made_until : (x y : Flight) (old new : Scene) → HasMadeRounds w most m x y old new → HasMade w (until w.format most m) x y old new
  made_until x y old new is =
      let size = those-length y.waiting.items (rounds w.format most is.count m).behind.flying is.made.flying in
      subst (λ (p : Part). HasMade w p x y old new)
      (rounds-until w.format most base all some m st bound is.count (elim is.ends [
        | inl few ↦ inl (omega (arith, few, size))
        | inr all_ ↦ inr all_
      ])) is.made

  pub stopped_until : (fault : Stop) (old new : Scene) → HasStoppedRounds w most m fault old new → HasStopped w (until w.format most m).deeds fault old new
  stopped_until fault old new is =
      let rest = rounds-first w.format most base all some m st bound is.count in
      subst (λ (l : List Deed). HasStopped w l fault old new) (sym rest.1)
      (stopped_wider w (rounds w.format most is.count m).deeds rest.0 fault old new is.stopped)
