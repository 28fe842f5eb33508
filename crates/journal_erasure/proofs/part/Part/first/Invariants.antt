use Rattle.std.proofs.Common.{◌≡◌, ◌≤◌, ◌<◌, ℕ, false}
use Rattle.journal_erasure.specs.Parts.{is_of_part}
use Rattle.journal_erasure.proofs.part.Part.first.Given as goal

abbrev pub invariant-loop-k : goal.invariant-loop-k
invariant-loop-k l = (j : ℕ) → l.from ≤ j → j < l.k → is_of_part l.newest l.self j ≡ false
