use Rattle.std.proofs.Common.{rules, ◌-◌, arith}
use Rattle.disk_model.proofs.MomentsLemmas.{adds_then, write_adds}
use Rattle.image_model.specs.Entries.{IsWithin}
use Rattle.formatting_model.specs.Written.{IsZeroWithin}
use Rattle.formatting_model.proofs.RunsLemmas.{changes_then, part_of_zeros, sectors_of_zeros, write_changes, zeros_next}
use Rattle.formatting_model.proofs.WrittenLemmas.{zero_written}
use Rattle.image_formatting.proofs.zeroing.write_zeros.Goals as goal

pub returns-in_err-write_run-clause-moments : goal.returns-in_err-write_run-clause-moments
returns-in_err-write_run-clause-moments g c =
    let few = sectors_of_zeros c.requires.zeros.sectors c.min-part.result _ (c.args.count - c.loop-done.done) c.requires.zeros.is c.min-part.ensures in
    changes_then (IsWithin c.args.at c.args.count) c.loop-done.invariant.moments
    (write_changes (IsWithin c.args.at c.args.count) _ _ (λ s low high. (omega (arith, low), omega (arith, high, few, c.loop-done-test.true))) c.write_run.ensures.moments)

pub returns-in_err-write_run-clause-writes : goal.returns-in_err-write_run-clause-writes
returns-in_err-write_run-clause-writes g c =
    let few = sectors_of_zeros c.requires.zeros.sectors c.min-part.result _ (c.args.count - c.loop-done.done) c.requires.zeros.is c.min-part.ensures in
    adds_then (IsZeroWithin c.args.at c.args.count) c.loop-done.invariant.writes
    (write_adds (IsZeroWithin c.args.at c.args.count) _ _ c.write_run.ensures.moments
    (zero_written c.args.at c.args.count c.loop-done.done c.min-part.result _ (part_of_zeros c.requires.zeros.sectors c.min-part.result _ c.requires.zeros.is few.1) (omega (arith, few, c.loop-done-test.true))))

pub loop-done-preserved : goal.loop-done-preserved
loop-done-preserved g c =
    let few = sectors_of_zeros c.requires.zeros.sectors c.min-part.result _ (c.args.count - c.loop-done.done) c.requires.zeros.is c.min-part.ensures in
    record {
      low = omega (arith, few, c.loop-done-test.true);
      written = zeros_next _ _ c.args.at c.loop-done.done c.min-part.result _ (part_of_zeros c.requires.zeros.sectors c.min-part.result _ c.requires.zeros.is few.1) c.loop-done.invariant.written c.in_ok-write_run.ensures.written;
      identity = search rules;
      faults = search rules;
      moments = changes_then (IsWithin c.args.at c.args.count) c.loop-done.invariant.moments
          (write_changes (IsWithin c.args.at c.args.count) _ _ (λ s low high. (omega (arith, low), omega (arith, high, few, c.loop-done-test.true))) c.write_run.ensures.moments);
      writes = adds_then (IsZeroWithin c.args.at c.args.count) c.loop-done.invariant.writes
          (write_adds (IsZeroWithin c.args.at c.args.count) _ _ c.write_run.ensures.moments
          (zero_written c.args.at c.args.count c.loop-done.done c.min-part.result _ (part_of_zeros c.requires.zeros.sectors c.min-part.result _ c.requires.zeros.is few.1) (omega (arith, few, c.loop-done-test.true))));
    }
