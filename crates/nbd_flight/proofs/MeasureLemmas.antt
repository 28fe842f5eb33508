-- A round comes to its end.
use Rattle.std.proofs.Common.{◌≡◌, ℕ, ◌+◌, ◌-◌, ◌<◌, List, ◌∷◌, ◌++◌, length, sym, ◌∙◌, ap, arith, length-append}
use Rattle.std.specs.List.{remove}
use Rattle.nbd_flight.specs.declared.flight.Waiting.{Waiting}
use Rattle.nbd_flight.specs.declared.rounds.Turn.{Turn}
use Rattle.nbd_flight.specs.declared.rounds.Turn.TheVariants.{Waits, Over}
use Rattle.nbd_flight.specs.Rounds.{places_behind, waiting_after}
use Rattle.nbd_flight.proofs.FlightLemmas.{remove-split, split_at}

length-removed : (waiting : List Waiting) (at : ℕ) → at < length waiting → length (remove waiting at) + 1 ≡ length waiting
length-removed waiting at low =
    let split = split_at waiting at low in
    let removed : remove waiting at ≡ split.before ++ split.rest =
    ap (λ (l : List Waiting). remove l at) split.is ∙ ap (remove (split.before ++ split.own ∷ split.rest)) (sym split.place) ∙ remove-split split.before split.own split.rest in
    let size = ap length removed in
    let whole = ap length split.is in
    omega (arith, size, whole, length-append split.before split.rest, length-append split.before (split.own ∷ split.rest))

-- With each service fewer are ahead.
pub fewer_ahead : (turn : Turn) (waiting : List Waiting) (at : ℕ) → at < length waiting
    → length (waiting_after turn at waiting) - (at + places_behind turn) < length waiting - at
fewer_ahead Waits waiting at low = omega (arith, low)
fewer_ahead Over waiting at low = let size = length-removed waiting at low in omega (arith, low, size)
