use Rattle.std.proofs.Common.{◌≡◌, ◌-◌, ◌<◌, ◌≤◌, true}
use Rattle.std.specs.Option.{option_map}
use Rattle.disk_model.specs.Disk.{OnlyAdds}
use Rattle.disk_model.specs.Moments.{content_now, EachMoment, FromStart}
use Rattle.journal_erasure.specs.Parts.{is_of_part, with_chosen, IsOfChosen}
use Rattle.journal_erasure.proofs.runs.write_part.Given as goal

abbrev pub invariant-loop-begin : goal.invariant-loop-begin
invariant-loop-begin g l =
    let moments_of = g.D.Disk.moments in
    let chosen = is_of_part l.newest l.part in
    record {
      low : l.from ≤ l.begin;
      high : l.begin ≤ l.to;
      next : l.begin < l.to → is_of_part l.newest l.part l.begin ≡ true;
      written : content_now (moments_of l.disk) ≡ option_map (with_chosen (is_of_part l.newest l.part) l.at l.from l.begin l.empty) (content_now (moments_of l.fn.disk));
      identity : g.D.Disk.identity l.disk ≡ g.D.Disk.identity l.fn.disk;
      faults : g.D.Counted.faults l.disk ≡ g.D.Counted.faults l.fn.disk;
      moments : EachMoment (moments_of l.fn.disk) (moments_of l.disk) (FromStart (moments_of l.fn.disk) (OnlyAdds (IsOfChosen (is_of_part l.newest l.part) l.at l.from l.to l.empty)));
    }

abbrev pub decreases-loop-begin : goal.decreases-loop-begin
decreases-loop-begin g l = l.to - l.begin
