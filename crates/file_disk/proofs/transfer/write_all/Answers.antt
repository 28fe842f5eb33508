use Rattle.std.proofs.Common.{◌/◌, rules, arith, ap, take}
use Rattle.std.proofs.lemmas.List.{take_rest}
use Rattle.disk_model.proofs.SectorLemmas.{written_next}
use Rattle.file_disk.proofs.TransferLemmas.{moments_more}
use Rattle.file_disk.proofs.transfer.write_all.Goals as goal

pub returns-in_err-done-clause-moments : goal.returns-in_err-done-clause-moments
returns-in_err-done-clause-moments g c =
    let before = c.loop-done.invariant in
    moments_more (c.args.from / 512) _ c.loop-done.done c.args.bytes.now _ before.whole c.requires.run.whole before.within (omega (arith, c.requires.begins, before.whole)) (take_rest c.args.bytes.now c.loop-done.done) before.written before.moments c.write_some.ensures.moments

pub loop-done-preserved : goal.loop-done-preserved
loop-done-preserved g c =
    let before = c.loop-done.invariant in
    let n = c.in_ok-done.field-0 in
    record {
      whole = omega (arith, before.whole, c.in_ok-done.ensures.whole);
      within = search rules;
      written = written_next (c.args.from / 512) _ c.loop-done.done n c.args.bytes.now _ _ _ _ before.whole c.in_ok-done.ensures.whole (search rules) (omega (arith, c.requires.begins, before.whole)) (ap (take n) (take_rest c.args.bytes.now c.loop-done.done)) before.written c.in_ok-done.ensures.written;
      moments = moments_more (c.args.from / 512) _ c.loop-done.done c.args.bytes.now _ before.whole c.requires.run.whole before.within (omega (arith, c.requires.begins, before.whole)) (take_rest c.args.bytes.now c.loop-done.done) before.written before.moments c.write_some.ensures.moments;
      identity = search rules;
      access = search rules;
      no_fault = search rules;
    }
