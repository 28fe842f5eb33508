use Rattle.std.proofs.Common.{◌/◌}
use Rattle.disk_model.specs.Disk.{IsOfRun}
use Rattle.disk_model.proofs.MomentsLemmas.{adds_then, sync_adds}
use Rattle.bitmap_model.specs.BitmapDisk.{bit_sector}
use Rattle.dirty_bitmap.specs.Regions.{sector_of}
use Rattle.dirty_bitmap.proofs.BitsLemmas.{sync_keeps}
use Rattle.dirty_bitmap.proofs.writing.write_bit_and_sync.Goals as goal

pub returns-clause-others : goal.returns-clause-others
returns-clause-others g c = sync_keeps (bit_sector c.args.region) c.write_bit.ensures.others c.sync.ensures.moments

pub returns-clause-moments : goal.returns-clause-moments
returns-clause-moments g c =
    let W = IsOfRun (bit_sector c.args.region) (sector_of c.args.set.now (c.args.region / 4096)) in
    adds_then W c.write_bit.ensures.moments (sync_adds W (g.met.D.Disk.reads_an_image c.write_bit.new.disk) c.sync.ensures.moments)
