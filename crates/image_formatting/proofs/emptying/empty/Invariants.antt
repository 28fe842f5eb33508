use Rattle.std.proofs.Common.{◌≡◌, ◌+◌, ◌-◌, ◌*◌, ◌<◌, length}
use Rattle.disk_model.specs.Disk.{last_image}
use Rattle.disk_model.specs.Moments.{EachMoment, FromStart, HasNow}
use Rattle.image_model.specs.Geometry.{journal_sectors, section_sectors}
use Rattle.image_model.specs.Entries.{IsWithin}
use Rattle.formatting_model.specs.Journal.{HasEmptyRests}
use Rattle.formatting_model.specs.Runs.{ChangesOnly}
use Rattle.image_formatting.proofs.emptying.empty.Given as goal

abbrev pub invariant-loop-i : goal.invariant-loop-i
invariant-loop-i g l =
    let moments_of = g.D.Disk.moments in
    let width = section_sectors l.geometry.shape in
    let behind = IsWithin (8 + l.bitmap) (journal_sectors l.geometry - l.bitmap) in
    record {
      begun : l.bitmap < l.i * width + width;
      emptied : HasNow (λ c. HasEmptyRests l.geometry l.bitmap l.i (last_image c)) (moments_of l.disk);
      section : length l.section ≡ 512 * section_sectors l.geometry.shape;
      identity : g.D.Disk.identity l.disk ≡ g.D.Disk.identity l.fn.disk;
      faults : g.D.Counted.faults l.disk ≡ g.D.Counted.faults l.fn.disk;
      moments : EachMoment (moments_of l.fn.disk) (moments_of l.disk) (FromStart (moments_of l.fn.disk) (ChangesOnly behind));
    }
