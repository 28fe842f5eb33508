use Rattle.std.proofs.Common.{rules, arith, ap, ◌∙◌}
use Rattle.disk_model.specs.Moments.{content_now}
use Rattle.file_disk.proofs.TransferLemmas.{read_more}
use Rattle.file_disk.proofs.transfer.read_all.Goals as goal

pub loop-done-preserved : goal.loop-done-preserved
loop-done-preserved g c =
    let before = c.loop-done.invariant in
    record {
      whole = omega (arith, before.whole, c.in_ok-done.ensures.whole);
      within = search rules;
      read = λ content told. read_more c.args.from c.loop-done.done c.in_ok-done.field-0 _ c.loop-done.buffer c.read_some.new.buffer content c.requires.begins before.whole before.within c.in_ok-done.ensures.whole c.in_ok-done.ensures.within
          (before.read content told) (c.in_ok-done.ensures.read content (ap content_now before.kept ∙ told));
      identity = search rules;
      access = search rules;
      kept = search rules;
      no_fault = search rules;
    }
