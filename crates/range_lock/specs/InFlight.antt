-- What the requests in flight of `device_model` ask for.
use Rattle.std.specs.Prelude.{ℕ, suc, List, [], ◌∷◌, if◌then◌else◌}
use Rattle.device_model.specs.Request.{Asked, first_of, count_of, is_unfinished}
use Rattle.range_lock.specs.Asks.{ask_for}
use Rattle.range_lock.specs.declared.ask.Ask.{Ask}

-- Each request that is unfinished asks for its blocks, in order of tickets. The first request has ticket t. A flush
-- asks for no block.
abbrev pub asks_of : ℕ → List Asked → List Ask
asks_of t [] = []
asks_of t (a ∷ requests) =
    if is_unfinished a.state
    then ask_for t (first_of a.request) (count_of a.request) ∷ asks_of (suc t) requests
    else asks_of (suc t) requests
