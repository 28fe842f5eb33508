use Rattle.std.proofs.Common.{rules, ◌≡◌, ℕ, ◌-◌, ◌*◌, ◌∙◌, subst, arith}
use Rattle.disk_model.specs.Disk.{last_image}
use Rattle.image_model.specs.Entries.{IsWithin}
use Rattle.formatting_model.specs.Bits.{HasBits}
use Rattle.formatting_model.proofs.BitsLemmas.{bits_next, first_bits, sectors_at_once}
use Rattle.formatting_model.proofs.RunsLemmas.{changes_then, write_changes}
use Rattle.image_formatting.proofs.marking.write_bits.Goals as goal

pub put_bits-requires : goal.put_bits-requires
put_bits-requires g c =
    omega (arith, c.loop-done.invariant.long, c.requires.buffer.is, c.requires.buffer.few, c.requires.run, c.requires.device, c.loop-done-test.true)

pub returns-in_err-write_run-clause-moments : goal.returns-in_err-write_run-clause-moments
returns-in_err-write_run-clause-moments g c =
    let long = c.put_bits.ensures.len ∙ c.loop-done.invariant.long ∙ c.requires.buffer.is in
    let few = sectors_at_once c.requires.buffer.sectors c.min-part.result (c.args.count - c.loop-done.done) c.put_bits.new.bytes long (omega (arith, c.min-part.ensures, c.requires.buffer.is)) in
    changes_then (IsWithin c.args.at c.args.count) c.loop-done.invariant.moments
    (write_changes (IsWithin c.args.at c.args.count) _ _ (λ s low high. (omega (arith, low), omega (arith, high, few, c.loop-done-test.true))) c.write_run.ensures.moments)

pub loop-done-preserved : goal.loop-done-preserved
loop-done-preserved g c =
    let long = c.put_bits.ensures.len ∙ c.loop-done.invariant.long ∙ c.requires.buffer.is in
    let few = sectors_at_once c.requires.buffer.sectors c.min-part.result (c.args.count - c.loop-done.done) c.put_bits.new.bytes long (omega (arith, c.min-part.ensures, c.requires.buffer.is)) in
    record {
      low = omega (arith, few, c.loop-done-test.true);
      written = bits_next _ _ c.args.set c.args.at c.loop-done.done c.min-part.result _ few.2
          (first_bits c.args.set (512 * c.loop-done.done) c.requires.buffer.sectors c.min-part.result c.put_bits.new.bytes long few.1 c.put_bits.ensures.bits)
          c.loop-done.invariant.written c.in_ok-write_run.ensures.written;
      long = c.put_bits.ensures.len ∙ c.loop-done.invariant.long;
      identity = search rules;
      faults = search rules;
      moments = changes_then (IsWithin c.args.at c.args.count) c.loop-done.invariant.moments
          (write_changes (IsWithin c.args.at c.args.count) _ _ (λ s low high. (omega (arith, low), omega (arith, high, few, c.loop-done-test.true))) c.write_run.ensures.moments);
    }

pub returns-clause-written : goal.returns-clause-written
returns-clause-written g c x told =
    let all : c.loop-done.done ≡ c.args.count = omega (arith, c.loop-done-test.false, c.loop-done.invariant.low) in
    subst (λ (n : ℕ). HasBits c.args.set c.args.at n (last_image x)) all (c.loop-done.invariant.written x told)
