use Rattle.std.proofs.Common.{◌≡◌, ◌⊎◌, ◌^◌, ℕ, subst, sym, arith}
use Rattle.std.proofs.lemmas.Result.{IfOk-weaker}
use Rattle.commit_id.specs.Grid.{as_grid}
use Rattle.image_model.specs.declared.journal_plan.State.TheVariants.{Mixed, Erasing}
use Rattle.journal_erasure.specs.Newest.{IsScanned}
use Rattle.journal_reading.proofs.PlacesLemmas.{IsWalk-fits, tells_walk}
use Rattle.replay.proofs.FinishingLemmas.{erasure_fits, erasure_there}
use Rattle.replay.proofs.ReplayingLemmas.{geometry_of}
use Rattle.replay.proofs.finishing.erase_scanned.Goals as goal

pub first_counted-first-requires-clause-first : goal.first_counted-first-requires-clause-first
first_counted-first-requires-clause-first g c =
    let told = tells_walk c.args.geometry.now c.args.journal.now.plan.walk (IsWalk-fits c.args.geometry.now (as_grid c.args.journal.now.grid) c.args.journal.now.plan c.requires.replaying.fits.grid_ c.requires.replaying.fits.plan_) in
    omega (arith, told.first_end, c.sections.ensures)

pub first_counted-first-requires-clause-second : goal.first_counted-first-requires-clause-second
first_counted-first-requires-clause-second g c =
    let told = tells_walk c.args.geometry.now c.args.journal.now.plan.walk (IsWalk-fits c.args.geometry.now (as_grid c.args.journal.now.grid) c.args.journal.now.plan c.requires.replaying.fits.grid_ c.requires.replaying.fits.plan_) in
    omega (arith, told.second_end, c.sections.ensures)

pub first_counted-first-requires-clause-some : goal.first_counted-first-requires-clause-some
first_counted-first-requires-clause-some g c =
    let geometry = geometry_of c.args.geometry.now c.args.tags.now (g.D.Disk.identity c.args.disk.now) (g.D.Disk.moments c.args.disk.now) c.requires.replaying.geometry c.requires.replaying.store_is in
    omega (arith, geometry.sections, c.sections.ensures)

pub erase_journal-requires-clause-erasure : goal.erase_journal-requires-clause-erasure
erase_journal-requires-clause-erasure g c =
    let plan = c.args.journal.now.plan in
    let erasure = c.scanned-erasure.result in
    let geometry = geometry_of c.args.geometry.now c.args.tags.now (g.D.Disk.identity c.args.disk.now) (g.D.Disk.moments c.args.disk.now) c.requires.replaying.geometry c.requires.replaying.store_is in
    let number = c.scanned-erasure.ensures.number in
    erasure_fits c.args.geometry.now c.args.journal.now erasure c.requires.replaying.fits
    (omega (arith, c.scanned-erasure.ensures.first, c.first_counted-first.ensures.inside, c.sections.ensures))
    (subst (λ (n : ℕ). (plan.state ≡ Mixed n) ⊎ (plan.state ≡ Erasing n)) (sym number) c.requires.newest)
    (subst (λ (n : ℕ). IsScanned erasure.newest (as_grid c.args.journal.now.grid).cells n) (sym number) c.scanned-erasure.ensures.newest)

pub returns-clause-left : goal.returns-clause-left
returns-clause-left g c =
    let plan = c.args.journal.now.plan in
    let erasure = c.scanned-erasure.result in
    let geometry = geometry_of c.args.geometry.now c.args.tags.now (g.D.Disk.identity c.args.disk.now) (g.D.Disk.moments c.args.disk.now) c.requires.replaying.geometry c.requires.replaying.store_is in
    let number = c.scanned-erasure.ensures.number in
    IfOk-weaker c.erase_journal.result _ _ (λ at left d replayed has.
    left d (erasure_there d c.args.geometry.now (2 ^ 48) c.args.journal.now geometry replayed erasure
    (omega (arith, c.scanned-erasure.ensures.first, c.first_counted-first.ensures.inside, c.sections.ensures))
    (subst (λ (n : ℕ). (plan.state ≡ Mixed n) ⊎ (plan.state ≡ Erasing n)) (sym number) c.requires.newest)
    (subst (λ (n : ℕ). IsScanned erasure.newest (as_grid c.args.journal.now.grid).cells n) (sym number) c.scanned-erasure.ensures.newest)) replayed.placed has) c.erase_journal.ensures.left

pub returns-clause-cuts : goal.returns-clause-cuts
returns-clause-cuts g c d replayed has =
    let plan = c.args.journal.now.plan in
    let erasure = c.scanned-erasure.result in
    let geometry = geometry_of c.args.geometry.now c.args.tags.now (g.D.Disk.identity c.args.disk.now) (g.D.Disk.moments c.args.disk.now) c.requires.replaying.geometry c.requires.replaying.store_is in
    let number = c.scanned-erasure.ensures.number in
    c.erase_journal.ensures.cuts d (erasure_there d c.args.geometry.now (2 ^ 48) c.args.journal.now geometry replayed erasure
    (omega (arith, c.scanned-erasure.ensures.first, c.first_counted-first.ensures.inside, c.sections.ensures))
    (subst (λ (n : ℕ). (plan.state ≡ Mixed n) ⊎ (plan.state ≡ Erasing n)) (sym number) c.requires.newest)
    (subst (λ (n : ℕ). IsScanned erasure.newest (as_grid c.args.journal.now.grid).cells n) (sym number) c.scanned-erasure.ensures.newest)) has
