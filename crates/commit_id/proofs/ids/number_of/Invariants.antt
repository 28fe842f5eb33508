use Rattle.std.proofs.Common.{◌≢◌, ℕ, ◌<◌}
use Rattle.image_model.specs.CommitId.{commit_id}
use Rattle.commit_id.proofs.ids.number_of.Given as goal

-- No number so far has the id.
abbrev pub invariant-loop-number : goal.invariant-loop-number
invariant-loop-number l = (k : ℕ) → k < l.number → commit_id l.section l.sector k ≢ l.found
