use Rattle.std.proofs.Common.{◌≡◌, ◌-◌, ◌≤◌, length}
use Rattle.disk_model.specs.Disk.{last_image}
use Rattle.disk_model.specs.Moments.{EachMoment, FromStart, HasNow}
use Rattle.image_model.specs.Entries.{IsWithin}
use Rattle.formatting_model.specs.Bits.{HasBits}
use Rattle.formatting_model.specs.Runs.{ChangesOnly}
use Rattle.image_formatting.proofs.marking.write_bits.Given as goal

-- The first sectors are written, and the buffer is as large as it was.
abbrev pub invariant-loop-done : goal.invariant-loop-done
invariant-loop-done g l =
    let moments_of = g.D.Disk.moments in
    record {
      low : l.done ≤ l.count;
      written : HasNow (λ c. HasBits l.set l.at l.done (last_image c)) (moments_of l.disk);
      long : length l.buffer ≡ length l.fn.buffer;
      identity : g.D.Disk.identity l.disk ≡ g.D.Disk.identity l.fn.disk;
      faults : g.D.Counted.faults l.disk ≡ g.D.Counted.faults l.fn.disk;
      moments : EachMoment (moments_of l.fn.disk) (moments_of l.disk) (FromStart (moments_of l.fn.disk) (ChangesOnly (IsWithin l.at l.count)));
    }

abbrev pub decreases-loop-done : goal.decreases-loop-done
decreases-loop-done g l = l.count - l.done
