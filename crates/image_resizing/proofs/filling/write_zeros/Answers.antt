use Rattle.std.proofs.Common.{ℕ, ◌+◌, ◌*◌, ◌∙◌, ap, subst, arith}
use Rattle.disk_model.specs.Identity.{DiskIdentity}
use Rattle.std.proofs.lemmas.Result.{on_ok_weaker}
use Rattle.image_model.specs.Geometry.{Shape, data_at}
use Rattle.image_model.proofs.Regions.{blocks-low}
use Rattle.image_resizing.proofs.FilledLemmas.{IsRead, row_fills, row_is_run, row_no_tag, row_stands, run_gives, take-zeros}
use Rattle.image_resizing.proofs.filling.write_zeros.Goals as goal

pub overflow_add-first : goal.overflow_add-first
overflow_add-first g c =
    let low = blocks-low c.args.plan.now.grown.geometry _ c.requires.plan.grown.geometry in
    omega (arith, low, c.requires.row.inside, c.blocks-2.ensures.blocks)

pub write_run-requires-clause-run : goal.write_run-requires-clause-run
write_run-requires-clause-run g c =
    let plan = c.args.plan.now in
    let at = c.data_at.ensures ∙ ap (λ (n : ℕ). data_at plan.grown.geometry (n + c.args.done)) c.blocks-2.ensures.blocks in
    let zeros = take-zeros c.args.zeros.now (c.args.count * plan.grown.geometry.shape.spb) (512 * (c.args.count * c.shape.result.spb)) c.requires.zeros c.requires.most (ap (λ (x : Shape). 512 * (c.args.count * x.spb)) c.shape.ensures.shape) in
    row_is_run (g.D.Disk.identity c.args.disk.now).sectors plan c.requires.plan c.args.done c.args.count c.requires.row c.data_at.result _ at zeros c.requires.some

pub returns-clause-filled : goal.returns-clause-filled
returns-clause-filled g c =
    let disk = c.args.disk.now in
    let plan = c.args.plan.now in
    let sectors = (g.D.Disk.identity disk).sectors in
    let at = c.data_at.ensures ∙ ap (λ (n : ℕ). data_at plan.grown.geometry (n + c.args.done)) c.blocks-2.ensures.blocks in
    let zeros = take-zeros c.args.zeros.now (c.args.count * plan.grown.geometry.shape.spb) (512 * (c.args.count * c.shape.result.spb)) c.requires.zeros c.requires.most (ap (λ (x : Shape). 512 * (c.args.count * x.spb)) c.shape.ensures.shape) in
    let read : IsRead sectors (g.D.Disk.moments disk) = record { image = g.met.D.Disk.reads_an_image disk; whole = g.met.D.Disk.whole_sectors disk } in
    let read_now : IsRead sectors (g.D.Disk.moments c.write_run.new.self) =
    subst (λ (i : DiskIdentity). IsRead i.sectors (g.D.Disk.moments c.write_run.new.self)) c.write_run.ensures.identity
    (record { image = g.met.D.Disk.reads_an_image c.write_run.new.self; whole = g.met.D.Disk.whole_sectors c.write_run.new.self }) in
    on_ok_weaker c.write_run.result
    (λ written image groups has.
    row_fills sectors plan c.requires.plan c.args.done c.args.count c.requires.row image groups c.data_at.result _ _ _ at zeros has written
    (run_gives plan.grown.geometry sectors c.data_at.result _ (g.D.Disk.moments disk) (g.D.Disk.moments c.write_run.new.self) c.requires.plan.grown.geometry
    (row_no_tag sectors plan c.requires.plan c.args.done c.args.count c.requires.row c.data_at.result _ at zeros) written read read_now))
    c.write_run.ensures.written

pub returns-clause-stands : goal.returns-clause-stands
returns-clause-stands g c image groups has =
    let disk = c.args.disk.now in
    let plan = c.args.plan.now in
    let sectors = (g.D.Disk.identity disk).sectors in
    let at = c.data_at.ensures ∙ ap (λ (n : ℕ). data_at plan.grown.geometry (n + c.args.done)) c.blocks-2.ensures.blocks in
    let zeros = take-zeros c.args.zeros.now (c.args.count * plan.grown.geometry.shape.spb) (512 * (c.args.count * c.shape.result.spb)) c.requires.zeros c.requires.most (ap (λ (x : Shape). 512 * (c.args.count * x.spb)) c.shape.ensures.shape) in
    row_stands sectors plan c.requires.plan c.args.done c.args.count c.requires.row image groups c.data_at.result _ _ _ at zeros has c.write_run.ensures.moments
