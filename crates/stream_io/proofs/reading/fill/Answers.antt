use Rattle.std.proofs.Common.{rules, ◌∙◌, ap, drop}
use Rattle.std.specs.Option.{option_map}
use Rattle.stream_io.proofs.ReadingLemmas.{filled_more, filled_all, left_all}
use Rattle.stream_io.proofs.StreamLemmas.{left_more}
use Rattle.stream_io.proofs.reading.fill.Goals as goal

pub loop-done-preserved : goal.loop-done-preserved
loop-done-preserved g c =
    let before = c.loop-done.invariant in
    let read = c.in_ok-count.ensures in
    record {
      within = search rules;
      read = λ left told. filled_more c.loop-done.done c.in_ok-count.count _ c.loop-done.buffer c.read.new.buffer left before.within read.count (before.read left told) (read.read (drop c.loop-done.done left) (before.rest ∙ ap (option_map (drop c.loop-done.done)) told));
      rest = left_more c.loop-done.done c.in_ok-count.count _ _ _ before.rest read.left;
      binding = search rules;
      faults = search rules;
    }

pub returns-then-count-eq0-clause-read : goal.returns-then-count-eq0-clause-read
returns-then-count-eq0-clause-read g c =
    let before = c.loop-done.invariant in
    λ left told. filled_all c.loop-done.done c.in_ok-count.count _ _ c.loop-done.buffer c.read.new.buffer left before.within (search rules) (before.read left told) (search rules) (search rules)
    (c.in_ok-count.ensures.read (drop c.loop-done.done left) (before.rest ∙ ap (option_map (drop c.loop-done.done)) told))

pub returns-then-count-eq0-clause-rest : goal.returns-then-count-eq0-clause-rest
returns-then-count-eq0-clause-rest g c =
    left_all c.loop-done.done c.in_ok-count.count _ c.read.new.buffer _ _ _ (search rules) c.loop-done.invariant.rest c.in_ok-count.ensures.left (search rules) (search rules) c.in_ok-count.ensures.read
