-- Three asks: blocks 0 to 7, 8 to 9, and 4 to 11.
use Rattle.std.proofs.Common.{◌≡◌, List, [], ◌∷◌, None, Some, refl}
use Rattle.range_lock.specs.Asks.{ask_for, holder_of}
use Rattle.range_lock.specs.declared.ask.Ask.{Ask}

abbrev three_asks : List Ask
three_asks = ask_for 1 0 8 ∷ ask_for 2 8 2 ∷ ask_for 3 4 8 ∷ []

-- The ranges touch, and have no block in common.
holder_of-touching : holder_of 2 three_asks ≡ None
holder_of-touching = refl

-- The first of two that overlap holds.
holder_of-earliest : holder_of 3 three_asks ≡ Some 1
holder_of-earliest = refl

-- Nothing holds the first, and a later ask holds none.
holder_of-first : holder_of 1 three_asks ≡ None
holder_of-first = refl

-- One that has not asked is held by nothing.
holder_of-not_asked : holder_of 4 three_asks ≡ None
holder_of-not_asked = refl
