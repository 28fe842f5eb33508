use Rattle.std.proofs.Common.{subst, List, ℕ, ◌/◌}
use Rattle.disk_model.specs.Disk.{IsOfRun}
use Rattle.disk_model.proofs.MomentsLemmas.{write_adds}
use Rattle.bitmap_model.specs.BitmapDisk.{bit_sector}
use Rattle.dirty_bitmap.specs.Regions.{sector_of}
use Rattle.dirty_bitmap.proofs.BitsLemmas.{write_keeps}
use Rattle.dirty_bitmap.proofs.writing.write_bit.Goals as goal

pub returns-clause-others : goal.returns-clause-others
returns-clause-others g c = write_keeps (bit_sector c.args.region) c.sector.result.now c.sector.ensures.told.whole c.write_run.ensures.moments

pub returns-clause-moments : goal.returns-clause-moments
returns-clause-moments g c =
    let at = bit_sector c.args.region in
    let x = sector_of c.args.set.now (c.args.region / 4096) in
    write_adds (IsOfRun at x) at c.sector.result.now c.write_run.ensures.moments (λ s y of. subst (λ (z : List ℕ). IsOfRun at z s y) c.sector.ensures.bytes of)
