use Rattle.disk_model.specs.Disk.{last_image}
use Rattle.dirty_bitmap.specs.Bits.{bits_of}
use Rattle.bitmap_mode.specs.States.{counts_of}
use Rattle.bitmap_mode.proofs.OpeningLemmas.{counted_regions}
use Rattle.bitmap_mode.proofs.states.RegionStates.load.Goals as goal

pub returns-clause-opened : goal.returns-clause-opened
returns-clause-opened g c d there x told =
    counted_regions c.args.geometry (bits_of c.in_ok-bits.bits) (counts_of c.in_ok-states.states) d (last_image x) c.in_ok-states.ensures.counts there (c.in_ok-bits.ensures.loaded x told)
