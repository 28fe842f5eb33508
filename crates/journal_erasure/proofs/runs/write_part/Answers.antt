use Rattle.std.proofs.Common.{rules, ◌≡◌, ℕ, ◌-◌, ◌*◌, ◌≤◌, List, length, take, drop, ap, arith}
use Rattle.image_model.specs.Sectors.{piece}
use Rattle.disk_model.proofs.MomentsLemmas.{adds_then, write_adds}
use Rattle.journal_erasure.specs.Parts.{is_of_part, IsOfChosen}
use Rattle.journal_erasure.proofs.PartsLemmas.{chosen_next, run_is_chosen, runs_of_part}
use Rattle.journal_erasure.proofs.runs.write_part.Goals as goal

pub returns-in_err-write_run-clause-moments : goal.returns-in_err-write_run-clause-moments
returns-in_err-write_run-clause-moments g c =
    let empty : List ℕ = c.args.empty.now in
    let begin : ℕ = c.loop-begin.begin in
    let end : ℕ = c.first-end.result in
    let count : 512 * end - 512 * begin ≡ 512 * (end - begin) = omega arith in
    let all = runs_of_part c.args.newest.now c.args.part begin end c.other.result c.other.ensures c.first-end.ensures.before in
    let W = IsOfChosen (is_of_part c.args.newest.now c.args.part) c.args.at c.args.from c.args.to empty in
    adds_then W c.loop-begin.invariant.moments
    (write_adds W _ _ c.write_run.ensures.moments
    (run_is_chosen (is_of_part c.args.newest.now c.args.part) c.args.at c.args.from c.args.to begin end empty _ c.loop-begin.invariant.low c.first-end.ensures.low c.first-end.ensures.high
    (ap (λ (n : ℕ). take n (drop (512 * begin) empty)) count) (omega (arith, c.requires.empty, c.first-end.ensures.high)) all))

pub loop-begin-preserved : goal.loop-begin-preserved
loop-begin-preserved g c =
    let empty : List ℕ = c.args.empty.now in
    let begin : ℕ = c.loop-begin.begin in
    let end : ℕ = c.first-end.result in
    let next : ℕ = c.first-begin-in-loop-begin.result in
    let count : 512 * end - 512 * begin ≡ 512 * (end - begin) = omega arith in
    let part : take (512 * end - 512 * begin) (drop (512 * begin) empty) ≡ piece empty (512 * begin) (512 * (end - begin)) = ap (λ (n : ℕ). take n (drop (512 * begin) empty)) count in
    let fits : 512 * end ≤ length empty = omega (arith, c.requires.empty, c.first-end.ensures.high) in
    let all = runs_of_part c.args.newest.now c.args.part begin end c.other.result c.other.ensures c.first-end.ensures.before in
    let W = IsOfChosen (is_of_part c.args.newest.now c.args.part) c.args.at c.args.from c.args.to empty in
    record {
      low = omega (arith, c.loop-begin.invariant.low, c.first-end.ensures.low, c.first-begin-in-loop-begin.ensures.low);
      high = c.first-begin-in-loop-begin.ensures.high;
      next = c.first-begin-in-loop-begin.ensures.found;
      written = chosen_next (is_of_part c.args.newest.now c.args.part) c.args.at c.args.from begin end next empty _ _ _ _ c.loop-begin.invariant.low c.first-end.ensures.low
          c.first-begin-in-loop-begin.ensures.low part fits all c.first-begin-in-loop-begin.ensures.before c.loop-begin.invariant.written c.in_ok-write_run.ensures.written;
      identity = search rules;
      faults = search rules;
      moments = adds_then W c.loop-begin.invariant.moments
          (write_adds W _ _ c.write_run.ensures.moments
          (run_is_chosen (is_of_part c.args.newest.now c.args.part) c.args.at c.args.from c.args.to begin end empty _ c.loop-begin.invariant.low c.first-end.ensures.low c.first-end.ensures.high part fits all));
    }
