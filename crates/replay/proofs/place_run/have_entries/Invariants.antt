use Rattle.std.proofs.Common.{ℕ, ◌<◌, ◌≤◌, IsSome}
use Rattle.journal_reading.specs.Newest.{newest_in}
use Rattle.replay.proofs.place_run.have_entries.Given as goal

-- Those so far have one.
abbrev pub invariant-loop-block : goal.invariant-loop-block
invariant-loop-block l = record {
  each : (b : ℕ) → l.first ≤ b → b < l.block → IsSome (newest_in l.newest b);
}
