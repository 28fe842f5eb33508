use Rattle.std.proofs.Common.{◌≡◌, ℕ, ◌<◌, false, ◌&&◌, not}
use Rattle.image_model.specs.Walk.{later}
use Rattle.commit_id.specs.Spread.{has_reached}
use Rattle.commit_id.proofs.spread.Spread.newest.Given as goal

-- Each number so far does not occur, or the next one does.
abbrev pub invariant-loop-number : goal.invariant-loop-number
invariant-loop-number l = (k : ℕ) → k < l.number → (has_reached l.self k && not (has_reached l.self (later 1 k))) ≡ false
