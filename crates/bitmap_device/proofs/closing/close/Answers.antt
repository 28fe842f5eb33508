use Rattle.bitmap_device.proofs.EndLemmas.{bitmap_left, close_tags, ends_bitmapped}
use Rattle.bitmap_device.proofs.closing.close.Goals as goal

pub returns-clause-ends : goal.returns-clause-ends
returns-clause-ends g c =
    ends_bitmapped c.args.parts.now c.args.regions.now (g.D.Disk.moments c.args.disk.now) (g.D.Disk.moments c.close.new.disk)
    c.close.result c.close.new.self c.close.new.tags c.close.ensures.through c.close.ensures.closed

pub returns-clause-bitmap : goal.returns-clause-bitmap
returns-clause-bitmap g c =
    bitmap_left c.args.parts.now c.args.regions.now (g.D.Disk.moments c.args.disk.now) (g.D.Disk.moments c.close.new.disk)
    c.close.result c.close.new.self c.close.new.tags c.close.ensures.closed

pub returns-clause-tags : goal.returns-clause-tags
returns-clause-tags g c =
    close_tags c.args.parts.now c.args.regions.now (g.D.Disk.moments c.args.disk.now) (g.D.Disk.moments c.close.new.disk) c.close.ensures.through
