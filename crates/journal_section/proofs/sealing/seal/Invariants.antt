use Rattle.std.proofs.Common.{◌≡◌, ℕ, ◌+◌, ◌*◌, ◌%◌, ◌<◌, slice_index}
use Rattle.image_model.specs.CommitId.{commit_id}
use Rattle.image_model.specs.Sectors.{number_in}
use Rattle.journal_section.proofs.sealing.seal.Given as goal

-- The sectors so far have their ids, and all else is as it was.
abbrev pub invariant-loop-j : goal.invariant-loop-j
invariant-loop-j l = record {
  ids : (k : ℕ) → k < l.j → number_in l.bytes (512 * k + 504) 8 ≡ commit_id l.i k l.number;
  others : (at : ℕ) → at % 512 < 504 → slice_index l.bytes at ≡ slice_index l.initial.bytes at;
}
