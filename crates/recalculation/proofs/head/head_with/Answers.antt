use Rattle.std.proofs.Common.{rules, ◌≡◌, length}
use Rattle.recalculation.proofs.HeadLemmas.{head_of}
use Rattle.recalculation.proofs.head.head_with.Goals as goal

pub returns-clause-head : goal.returns-clause-head
returns-clause-head g c =
    let old_size : length c.read_run.new.buffer ≡ 512 = search rules in
    λ x told. head_of c.args.fields.now c.read_run.new.buffer c.write.new.bytes x (c.in_ok-read_run.ensures.read x told) old_size c.write.ensures.written
