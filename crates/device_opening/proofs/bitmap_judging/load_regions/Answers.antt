use Rattle.device_opening.proofs.BitmapLemmas.{bitmap_fits}
use Rattle.device_opening.proofs.JudgedLemmas.{own_layout}
use Rattle.device_opening.proofs.bitmap_judging.load_regions.Goals as goal

pub load-requires-clause-fits : goal.load-requires-clause-fits
load-requires-clause-fits g c = bitmap_fits _ c.args.format.now c.requires.format

pub load-requires-clause-layout : goal.load-requires-clause-layout
load-requires-clause-layout g c = own_layout _ c.args.format.now c.requires.format.accepted
