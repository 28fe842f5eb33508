use Rattle.std.proofs.Common.{ℕ, ◌+◌, ◌*◌, ◌∙◌, sym, ap, subst, arith, refl, length}
use Rattle.disk_model.specs.Identity.{DiskIdentity}
use Rattle.std.proofs.lemmas.List.{length-replicate}
use Rattle.std.proofs.lemmas.Result.{on_ok_weaker}
use Rattle.image_resizing.proofs.ClearedLemmas.{bits_fill, bits_stand, group_inside, group_is_run, group_no_tag, zeros_new}
use Rattle.image_resizing.proofs.FilledLemmas.{IsRead, run_gives, take-zeros}
use Rattle.image_resizing.proofs.clearing.clear_run.Goals as goal

pub overflow_add-next : goal.overflow_add-next
overflow_add-next g c =
    let at = group_inside (g.D.Disk.identity c.args.disk.now).sectors c.args.plan.now c.requires.plan c.requires.bitmap c.args.next (omega (arith, c.requires.run.some, c.requires.run.inside)) in
    omega (arith, at.0, at.1, c.requires.plan.grown.geometry.device)

pub slice_bounds-write_run-end : goal.slice_bounds-write_run-end
slice_bounds-write_run-end g c =
    let zeros = take-zeros c.args.zeros.now c.args.count (512 * c.args.count) c.requires.zeros c.requires.run.most refl in
    sym (ap length zeros ∙ length-replicate {A = ℕ} (512 * c.args.count) 0)

pub write_run-requires-clause-run : goal.write_run-requires-clause-run
write_run-requires-clause-run g c =
    let zeros = take-zeros c.args.zeros.now c.args.count (512 * c.args.count) c.requires.zeros c.requires.run.most refl in
    group_is_run (g.D.Disk.identity c.args.disk.now).sectors c.args.plan.now c.requires.plan c.requires.bitmap c.args.next c.args.count _ (ap length zeros ∙ length-replicate {A = ℕ} (512 * c.args.count) 0) c.requires.run.some c.requires.run.inside

pub returns-clause-cleared : goal.returns-clause-cleared
returns-clause-cleared g c =
    let disk = c.args.disk.now in
    let plan = c.args.plan.now in
    let sectors = (g.D.Disk.identity disk).sectors in
    let zeros = take-zeros c.args.zeros.now c.args.count (512 * c.args.count) c.requires.zeros c.requires.run.most refl in
    let size = ap length zeros ∙ length-replicate {A = ℕ} (512 * c.args.count) 0 in
    let read : IsRead sectors (g.D.Disk.moments disk) = record { image = g.met.D.Disk.reads_an_image disk; whole = g.met.D.Disk.whole_sectors disk } in
    let read_now : IsRead sectors (g.D.Disk.moments c.write_run.new.self) =
    subst (λ (i : DiskIdentity). IsRead i.sectors (g.D.Disk.moments c.write_run.new.self)) c.write_run.ensures.identity
    (record { image = g.met.D.Disk.reads_an_image c.write_run.new.self; whole = g.met.D.Disk.whole_sectors c.write_run.new.self }) in
    on_ok_weaker c.write_run.result
    (λ written image done has.
    bits_fill sectors plan c.requires.plan c.requires.bitmap image c.args.next c.args.count done _ (g.D.Disk.moments disk) (g.D.Disk.moments c.write_run.new.self)
    (zeros_new sectors plan c.requires.plan c.requires.bitmap image c.args.next c.args.count _ c.requires.run.behind c.requires.run.inside zeros) has written
    (run_gives plan.grown.geometry sectors (8 + c.args.next) _ (g.D.Disk.moments disk) (g.D.Disk.moments c.write_run.new.self) c.requires.plan.grown.geometry
    (group_no_tag sectors plan c.requires.plan c.requires.bitmap c.args.next c.args.count _ size c.requires.run.inside) written read read_now))
    c.write_run.ensures.written

pub returns-clause-stands : goal.returns-clause-stands
returns-clause-stands g c image done has =
    let disk = c.args.disk.now in
    let plan = c.args.plan.now in
    let sectors = (g.D.Disk.identity disk).sectors in
    let zeros = take-zeros c.args.zeros.now c.args.count (512 * c.args.count) c.requires.zeros c.requires.run.most refl in
    bits_stand sectors plan c.requires.plan c.requires.bitmap image c.args.next c.args.count done _ (g.D.Disk.moments disk) (g.D.Disk.moments c.write_run.new.self)
    (zeros_new sectors plan c.requires.plan c.requires.bitmap image c.args.next c.args.count _ c.requires.run.behind c.requires.run.inside zeros) has c.write_run.ensures.moments
