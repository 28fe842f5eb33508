use Rattle.std.proofs.Common.{◌≡◌, ◌⊎◌, ◌-◌, ◌*◌, ◌%◌, ◌≤◌, length}
use Rattle.disk_model.specs.Disk.{OnlyAdds, last_image}
use Rattle.disk_model.specs.Moments.{EachMoment, FromStart, HasNow}
use Rattle.image_model.specs.Geometry.{quotient_up}
use Rattle.image_model.specs.Entries.{IsWithin}
use Rattle.formatting_model.specs.Blocks.{HasTagRun}
use Rattle.formatting_model.specs.Runs.{ChangesOnly}
use Rattle.formatting_model.specs.Stays.{IsRunByte, ReadsKeep}
use Rattle.formatting_model.specs.Written.{IsOfTagRun}
use Rattle.image_formatting.specs.Room.{tags_at_once}
use Rattle.image_formatting.proofs.tagging.write_tags.Given as goal

abbrev pub invariant-loop-done : goal.invariant-loop-done
invariant-loop-done g l =
    let moments_of = g.D.Disk.moments in
    record {
      low : l.done ≤ l.count;
      whole : (l.done % 512 ≡ 0) ⊎ (l.done ≡ l.count);
      tags : HasNow (λ c. HasTagRun l.maker l.shape.spb l.first l.done l.at (last_image c)) (moments_of l.disk);
      stays : ReadsKeep (IsRunByte l.at (l.done * l.shape.tag)) (moments_of l.fn.disk) (moments_of l.disk);
      room : length l.tags ≡ tags_at_once l.shape.tag;
      identity : g.D.Disk.identity l.disk ≡ g.D.Disk.identity l.fn.disk;
      faults : g.D.Counted.faults l.disk ≡ g.D.Counted.faults l.fn.disk;
      moments : EachMoment (moments_of l.fn.disk) (moments_of l.disk) (FromStart (moments_of l.fn.disk) (ChangesOnly (IsWithin l.at (quotient_up (l.count * l.shape.tag) 512))));
      writes : EachMoment (moments_of l.fn.disk) (moments_of l.disk) (FromStart (moments_of l.fn.disk) (λ start. OnlyAdds (IsOfTagRun l.at (l.count * l.shape.tag) start) start));
    }

abbrev pub decreases-loop-done : goal.decreases-loop-done
decreases-loop-done g l = l.count - l.done
