use Rattle.std.proofs.Common.{◌≡◌}
use Rattle.place_writer.specs.Placement.{without}
use Rattle.place_writer.proofs.freeing.free_sections.Given as goal

abbrev pub invariant-loop-freed : goal.invariant-loop-freed
invariant-loop-freed l = l.ring ≡ without l._freed l.fn.ring
