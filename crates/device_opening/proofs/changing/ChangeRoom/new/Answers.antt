use Rattle.std.proofs.Common.{subst}
use Rattle.image_format.specs.declared.reading.ImageFormat.{ImageFormat}
use Rattle.device_opening.specs.Changing.{HasNoRegions}
use Rattle.device_opening.proofs.JudgedLemmas.{own_layout}
use Rattle.device_opening.proofs.changing.ChangeRoom.new.Goals as goal

pub none-requires-clause-layout : goal.none-requires-clause-layout
none-requires-clause-layout c = own_layout c.args.disk_sectors c.bitmap_format-after.result c.bitmap_format-after.ensures.bitmap.accepted

pub returns-clause-regions : goal.returns-clause-regions
returns-clause-regions c =
    subst (λ (f : ImageFormat). HasNoRegions f.geometry c.in_ok-regions.regions) c.bitmap_format-after.ensures.format
    (record { geometry = c.in_ok-regions.ensures.geometry; opened = c.in_ok-regions.ensures.opened })
