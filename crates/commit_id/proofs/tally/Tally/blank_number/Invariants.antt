use Rattle.std.proofs.Common.{◌≢◌, ℕ, ◌+◌, ◌<◌, get_or}
use Rattle.commit_id.proofs.tally.Tally.blank_number.Given as goal

-- No number so far makes up all with the blank sectors.
abbrev pub invariant-loop-number : goal.invariant-loop-number
invariant-loop-number l = (k : ℕ) → k < l.number → l.self.blanks + get_or l.self.counts k 0 ≢ l.sectors
