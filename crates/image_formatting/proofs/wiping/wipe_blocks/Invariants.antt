use Rattle.std.proofs.Common.{◌≡◌, ◌⊎◌, ◌-◌, ◌/◌, ◌%◌, ◌≤◌, length}
use Rattle.disk_model.specs.Disk.{OnlyAdds, last_image}
use Rattle.disk_model.specs.Moments.{EachMoment, FromStart, HasNow}
use Rattle.formatting_model.specs.Blocks.{HasZeroBlocks, IsSectorOf}
use Rattle.formatting_model.specs.Runs.{ChangesOnly}
use Rattle.formatting_model.specs.Stays.{IsBlockByte, ReadsKeep}
use Rattle.formatting_model.specs.Written.{IsOfBlocks}
use Rattle.image_formatting.specs.Room.{tags_at_once}
use Rattle.image_formatting.proofs.wiping.wipe_blocks.Given as goal

abbrev pub invariant-loop-first : goal.invariant-loop-first
invariant-loop-first g l =
    let moments_of = g.D.Disk.moments in
    let geometry = l.format.geometry in
    record {
      low : l.first ≤ geometry.blocks;
      whole : (l.first % (geometry.interleave / geometry.shape.spb) ≡ 0) ⊎ (l.first ≡ geometry.blocks);
      wiped : HasNow (λ c. HasZeroBlocks l.maker geometry 0 l.first (last_image c)) (moments_of l.disk);
      stays : ReadsKeep (IsBlockByte geometry 0 l.first) (moments_of l.fn.disk) (moments_of l.disk);
      room : length l.tags ≡ tags_at_once l.maker.size;
      identity : g.D.Disk.identity l.disk ≡ g.D.Disk.identity l.fn.disk;
      faults : g.D.Counted.faults l.disk ≡ g.D.Counted.faults l.fn.disk;
      moments : EachMoment (moments_of l.fn.disk) (moments_of l.disk) (FromStart (moments_of l.fn.disk) (ChangesOnly (IsSectorOf geometry 0 geometry.blocks)));
      writes : EachMoment (moments_of l.fn.disk) (moments_of l.disk) (FromStart (moments_of l.fn.disk) (λ start. OnlyAdds (IsOfBlocks geometry 0 geometry.blocks start) start));
    }

abbrev pub decreases-loop-first : goal.decreases-loop-first
decreases-loop-first g l = l.format.geometry.blocks - l.first
