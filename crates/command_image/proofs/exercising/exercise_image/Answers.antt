use Rattle.std.proofs.Common.{[], ℕ, ◌≡◌, ◌↔◌, ◌<◌, None, Err, sym, ap, subst}
use Rattle.disk_model.specs.Disk.{last_image}
use Rattle.disk_model.specs.Identity.{DiskIdentity}
use Rattle.image_model.specs.declared.geom_fault.GeomFault.{GeomFault}
use Rattle.image_refusal.specs.declared.call_fault.CallFault.TheVariants as CallFaults
use Rattle.formatting_model.specs.declared.new_image.NewImage.{NewImage}
use Rattle.formatting_model.specs.Formatted.{HasMade}
use Rattle.formatting_model.specs.NewImage.{provided_of}
use Rattle.direct_mode.proofs.StoreCalls.{reads_whole}
use Rattle.command_ending.specs.Ended.{ending_of}
use Rattle.command_ending.specs.declared.ended.Ended.{Ended}
use Rattle.command_image.specs.Exercised.{HasJournalToOpen, IsExercisedTo}
use Rattle.command_model.specs.Exercising.{exercise_outset}
use Rattle.command_model.specs.Making.{IsMadeInOrder}
use Rattle.command_task.specs.Opening.{HasRunOn}
use Rattle.command_image.proofs.ExercisingLemmas.{exercise_whole, not_made_for, ok_each, unmade_moments}
use Rattle.command_image.proofs.exercising.exercise_image.Goals as goal

pub returns-in-Err-clause-runs : goal.returns-in-Err-clause-runs
returns-in-Err-clause-runs g c script start told =
    let sectors = (g.D.Disk.identity c.args.disk.now).sectors in
    let order = subst (λ (n : NewImage). IsMadeInOrder None sectors n (g.D.Disk.moments c.args.disk.now) (g.D.Disk.moments c.format.new.disk)) c.image.ensures (record { order = c.format.ensures.moments; writes = c.format.ensures.writes }) in
    let geom = subst (λ (n : NewImage). (f : GeomFault) → (c.format.result ≡ Err (CallFaults.Refused f)) ↔ (provided_of n sectors ≡ Err f)) c.image.ensures c.format.ensures.geom in
    let held = g.O.Sink.held c.args.out.now in
    subst (λ (e : Ended). HasRunOn (exercise_outset sectors c.args.count c.args.seed) start script (ending_of e) (g.D.Disk.moments c.format.new.disk) held held)
    (sym c.ended_by_format.ensures)
    (not_made_for sectors c.args.count c.args.seed start script told order c.in-Err.fault held
    (λ f. (λ is. (geom f).0 (cc (c.in-Err.is, is)), λ is. cc (c.in-Err.is, (geom f).1 is)))
    c.in-Err.ensures.untouched).0

pub returns-in-Err-clause-moments : goal.returns-in-Err-clause-moments
returns-in-Err-clause-moments g c script start told =
    let sectors = (g.D.Disk.identity c.args.disk.now).sectors in
    let order = subst (λ (n : NewImage). IsMadeInOrder None sectors n (g.D.Disk.moments c.args.disk.now) (g.D.Disk.moments c.format.new.disk)) c.image.ensures (record { order = c.format.ensures.moments; writes = c.format.ensures.writes }) in
    let geom = subst (λ (n : NewImage). (f : GeomFault) → (c.format.result ≡ Err (CallFaults.Refused f)) ↔ (provided_of n sectors ≡ Err f)) c.image.ensures c.format.ensures.geom in
    unmade_moments sectors c.args.count c.args.seed start script told order
    (not_made_for sectors c.args.count c.args.seed start script told order c.in-Err.fault (g.O.Sink.held c.args.out.now)
    (λ f. (λ is. (geom f).0 (cc (c.in-Err.is, is)), λ is. cc (c.in-Err.is, (geom f).1 is)))
    c.in-Err.ensures.untouched).1

pub returns-in-Ok-clause-runs : goal.returns-in-Ok-clause-runs
returns-in-Ok-clause-runs g c script start told =
    let sectors = (g.D.Disk.identity c.args.disk.now).sectors in
    let before = g.D.Disk.moments c.args.disk.now in
    let after = g.D.Disk.moments c.format.new.disk in
    let same = ap (λ (d : DiskIdentity). d.sectors) c.format.ensures.identity in
    let order = subst (λ (n : NewImage). IsMadeInOrder None sectors n before after) c.image.ensures (record { order = c.format.ensures.moments; writes = c.format.ensures.writes }) in
    let made = subst (λ (n : NewImage). HasMade None sectors n c.in-Ok.field-0 before after) c.image.ensures c.in-Ok.ensures.made in
    (exercise_whole c.new_image_opens.ensures.opens sectors c.args.count c.args.seed start script told
    order c.in-Ok.field-0 made
    (λ x at sector less. reads_whole (g.D.Disk.identity c.format.new.disk) after (g.met.D.Disk.reads_an_image c.format.new.disk)
    (g.met.D.Disk.whole_sectors c.format.new.disk) x at sector (subst (λ (n : ℕ). sector < n) (sym same) less))
    c.exercise_made.result (g.D.Disk.moments c.exercise_made.new.disk) _ _
    (λ x at can. subst (λ (n : ℕ). IsExercisedTo n c.args.count c.args.seed x c.exercise_made.result after (g.D.Disk.moments c.exercise_made.new.disk)
    (g.O.Sink.held c.args.out.now) (g.O.Sink.held c.exercise_made.new.out)) same
    (c.exercise_made.ensures.exercised x at (subst (λ (n : ℕ). HasJournalToOpen n (last_image x)) (sym same) can)))).0

pub returns-in-Ok-clause-moments : goal.returns-in-Ok-clause-moments
returns-in-Ok-clause-moments g c script start told =
    let sectors = (g.D.Disk.identity c.args.disk.now).sectors in
    let before = g.D.Disk.moments c.args.disk.now in
    let after = g.D.Disk.moments c.format.new.disk in
    let same = ap (λ (d : DiskIdentity). d.sectors) c.format.ensures.identity in
    let order = subst (λ (n : NewImage). IsMadeInOrder None sectors n before after) c.image.ensures (record { order = c.format.ensures.moments; writes = c.format.ensures.writes }) in
    let made = subst (λ (n : NewImage). HasMade None sectors n c.in-Ok.field-0 before after) c.image.ensures c.in-Ok.ensures.made in
    (exercise_whole c.new_image_opens.ensures.opens sectors c.args.count c.args.seed start script told
    order c.in-Ok.field-0 made
    (λ x at sector less. reads_whole (g.D.Disk.identity c.format.new.disk) after (g.met.D.Disk.reads_an_image c.format.new.disk)
    (g.met.D.Disk.whole_sectors c.format.new.disk) x at sector (subst (λ (n : ℕ). sector < n) (sym same) less))
    c.exercise_made.result (g.D.Disk.moments c.exercise_made.new.disk) _ _
    (λ x at can. subst (λ (n : ℕ). IsExercisedTo n c.args.count c.args.seed x c.exercise_made.result after (g.D.Disk.moments c.exercise_made.new.disk)
    (g.O.Sink.held c.args.out.now) (g.O.Sink.held c.exercise_made.new.out)) same
    (c.exercise_made.ensures.exercised x at (subst (λ (n : ℕ). HasJournalToOpen n (last_image x)) (sym same) can)))).1

pub returns-in-Err-clause-closed : goal.returns-in-Err-clause-closed
returns-in-Err-clause-closed g c = tt

pub returns-in-Ok-clause-closed : goal.returns-in-Ok-clause-closed
returns-in-Ok-clause-closed g c = ok_each _ _ c.exercise_made.result (λ start told.
    let sectors = (g.D.Disk.identity c.args.disk.now).sectors in
    let before = g.D.Disk.moments c.args.disk.now in
    let after = g.D.Disk.moments c.format.new.disk in
    let same = ap (λ (d : DiskIdentity). d.sectors) c.format.ensures.identity in
    let order = subst (λ (n : NewImage). IsMadeInOrder None sectors n before after) c.image.ensures (record { order = c.format.ensures.moments; writes = c.format.ensures.writes }) in
    let made = subst (λ (n : NewImage). HasMade None sectors n c.in-Ok.field-0 before after) c.image.ensures c.in-Ok.ensures.made in
    (exercise_whole c.new_image_opens.ensures.opens sectors c.args.count c.args.seed start [] told
    order c.in-Ok.field-0 made
    (λ x at sector less. reads_whole (g.D.Disk.identity c.format.new.disk) after (g.met.D.Disk.reads_an_image c.format.new.disk)
    (g.met.D.Disk.whole_sectors c.format.new.disk) x at sector (subst (λ (n : ℕ). sector < n) (sym same) less))
    c.exercise_made.result (g.D.Disk.moments c.exercise_made.new.disk) _ _
    (λ x at can. subst (λ (n : ℕ). IsExercisedTo n c.args.count c.args.seed x c.exercise_made.result after (g.D.Disk.moments c.exercise_made.new.disk)
    (g.O.Sink.held c.args.out.now) (g.O.Sink.held c.exercise_made.new.out)) same
    (c.exercise_made.ensures.exercised x at (subst (λ (n : ℕ). HasJournalToOpen n (last_image x)) (sym same) can)))).2)
