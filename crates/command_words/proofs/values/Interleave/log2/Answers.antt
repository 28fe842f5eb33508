use Rattle.std.proofs.Common.{◌∙◌}
use Rattle.command_words.proofs.InterleaveLemmas.{in_range, power_of}
use Rattle.command_words.proofs.values.Interleave.log2.Goals as goal

pub returns-clause-power : goal.returns-clause-power
returns-clause-power c = power_of c.self.inside.sectors c.self.invariant ∙ c.self.view_is

pub returns-clause-range : goal.returns-clause-range
returns-clause-range c = in_range c.self.inside.sectors c.self.invariant
