use Rattle.std.proofs.Common.{◌≡◌, ◌-◌, ◌≤◌}
use Rattle.device_model.specs.ScriptBytes.{most_script}
use Rattle.script_reader.specs.Reading.{IsSettled}
use Rattle.script_reader.proofs.RunLemmas.{IsInLine}
use Rattle.script_reader.proofs.line_reader.LineReader.next_line.Given as goal

abbrev pub invariant-loop-self : goal.invariant-loop-self
invariant-loop-self g l = record {
  inside : IsInLine l.fn.self (g.S.Source.left l.fn.script) l.self (g.S.Source.left l.script);
  faults : g.S.Counted.faults l.script ≡ g.S.Counted.faults l.fn.script;
  unasked : IsSettled l.fn.self → (l.script ≡ l.fn.script) × IsSettled l.self;
}

abbrev pub decreases-loop-self : goal.decreases-loop-self
decreases-loop-self g l = most_script - l.self.taken
