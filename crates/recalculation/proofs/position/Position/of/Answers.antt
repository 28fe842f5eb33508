use Rattle.std.proofs.Common.{rules, arith}
use Rattle.recalculation.proofs.position.Position.of.Goals as goal

pub invariant_of-result : goal.invariant_of-result
invariant_of-result c =
    record {
      accepted = c.requires;
      fits = record {
        sections = omega arith;
        flags = omega arith;
        log2_region = omega arith;
        recalc_sector = omega arith;
        salt = search rules;
      };
    }
