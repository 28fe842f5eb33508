use Rattle.std.proofs.Common.{rules}
use Rattle.std.proofs.lemmas.Result.{on_ok_weaker}
use Rattle.formatting_model.proofs.TaggingLemmas.{before_is, behind_is}
use Rattle.image_formatting.proofs.tagging.read_behind.Goals as goal

pub returns-clause-behind : goal.returns-clause-behind
returns-clause-behind g c = on_ok_weaker c.read_run.result (λ read p from low content told.
    behind_is c.args.at c.args.size p c.args.run.now c.read_run.new.buffer content c.requires.run (search rules) (read content told) from low) c.read_run.ensures.read

pub returns-clause-before : goal.returns-clause-before
returns-clause-before g c p low = before_is c.args.size p c.args.run.now c.read_run.new.buffer c.requires.run low
