use Rattle.std.proofs.Common.{◌∙◌, ap}
use Rattle.disk_model.specs.Disk.{last_image}
use Rattle.image_model.specs.Geometry.{Geometry, Shape}
use Rattle.device_opening.specs.Judged.{judged_format}
use Rattle.device_opening.proofs.DirectLemmas.{open_on}
use Rattle.device_opening.proofs.JudgedLemmas.{parts_of, unasked}
use Rattle.device_opening.proofs.MomentsLemmas.{now_told}
use Rattle.device_opening.proofs.direct.open_judged.Goals as goal

pub returns-clause-opened : goal.returns-clause-opened
returns-clause-opened g c start told =
    let old = c.args.disk.now in
    let new = c.recover_emptied.new.disk in
    let f = judged_format (g.D.Disk.identity old).sectors c.args.image in
    let image = c.in_ok-recovered.recovered in
    let done = c.in_ok-recovered.ensures in
    let own = (c.requires.judged.now start told).read.own in
    let now = now_told c.recover_emptied.ensures.leaves.writes start told in
    open_on f (last_image start) image.at (parts_of image c.args.room.device c.shape-spb.result.spb) (g.D.Disk.moments new) now.0 now.1 c.requires.judged.format.no_bitmap own done.made.geometry c.requires.room.device.slots
    (done.made.maker ∙ c.requires.judged.maker) (done.emptied.left start told now.0 now.1) done.emptied.unused
    c.args.room.recalculation c.requires.room.recalculation_

pub returns-clause-unasked : goal.returns-clause-unasked
returns-clause-unasked g c =
    unasked c.args.image c.in_ok-recovered.recovered c.args.room.device c.args.room.recalculation c.shape-spb.result.spb (g.D.Disk.identity c.args.disk.now).sectors (g.D.Disk.identity c.recover_emptied.new.disk)
    c.requires.judged c.requires.room.device c.requires.room.recalculation_
    c.in_ok-recovered.ensures.made (ap (λ (x : Shape). x.spb) c.shape-spb.ensures.shape ∙ ap (λ (x : Geometry). x.shape.spb) c.geometry.ensures)
