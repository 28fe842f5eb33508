use Rattle.std.proofs.Common.{◌≡◌, ◌-◌, ◌≤◌}
use Rattle.disk_model.specs.Disk.{OnlyAdds, last_image}
use Rattle.disk_model.specs.Moments.{EachMoment, FromStart, HasNow}
use Rattle.image_model.specs.Entries.{IsWithin}
use Rattle.formatting_model.specs.Runs.{ChangesOnly, HasZeros}
use Rattle.formatting_model.specs.Written.{IsZeroWithin}
use Rattle.image_formatting.proofs.zeroing.write_zeros.Given as goal

abbrev pub invariant-loop-done : goal.invariant-loop-done
invariant-loop-done g l =
    let moments_of = g.D.Disk.moments in
    record {
      low : l.done ≤ l.count;
      written : HasNow (λ c. HasZeros l.at l.done (last_image c)) (moments_of l.disk);
      identity : g.D.Disk.identity l.disk ≡ g.D.Disk.identity l.fn.disk;
      faults : g.D.Counted.faults l.disk ≡ g.D.Counted.faults l.fn.disk;
      moments : EachMoment (moments_of l.fn.disk) (moments_of l.disk) (FromStart (moments_of l.fn.disk) (ChangesOnly (IsWithin l.at l.count)));
      writes : EachMoment (moments_of l.fn.disk) (moments_of l.disk) (FromStart (moments_of l.fn.disk) (OnlyAdds (IsZeroWithin l.at l.count)));
    }

abbrev pub decreases-loop-done : goal.decreases-loop-done
decreases-loop-done g l = l.count - l.done
