use Rattle.replay.proofs.CountedLemmas.{counted_first, counted_second}
use Rattle.replay.proofs.finishing.first_counted.Goals as goal

pub returns-then-first-first_end-clause-first : goal.returns-then-first-first_end-clause-first
returns-then-first-first_end-clause-first c = counted_first c.args.walk.now c.if-first-first_end.true

pub returns-then-second-second_end-clause-first : goal.returns-then-second-second_end-clause-first
returns-then-second-second_end-clause-first c = counted_second c.args.walk.now c.if-first-first_end.false c.if-second-second_end.true
