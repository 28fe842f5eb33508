use Rattle.std.proofs.Common.{refl, ◌≡◌, ℕ, sym, ◌∙◌, ap, subst, Some}
use Rattle.std.specs.Option.{option_map}
use Rattle.std.proofs.lemmas.Result.{on_ok_weaker}
use Rattle.disk_model.specs.Disk.{last_image, newest_only}
use Rattle.disk_model.specs.Identity.{DiskIdentity}
use Rattle.disk_model.specs.Moments.{content_now}
use Rattle.disk_model.proofs.MomentsLemmas.{no_moment}
use Rattle.image_resizing.specs.Grown.{GrowsSettled, LeavesResizing}
use Rattle.image_resizing.specs.Settled.{SettlesInOrder}
use Rattle.image_resizing.proofs.OrderLemmas.{grown_order, settled_order}
use Rattle.image_resizing.proofs.SettledLemmas.{synced_settled}
use Rattle.std.proofs.lemmas.Bool.{true≢false}
use Rattle.disk_model.proofs.MomentsLemmas.{EachMoment-then}
use Rattle.image_resizing.specs.Writing.{IsSettledBy, WritesSettled}
use Rattle.image_resizing.proofs.WritingLemmas.{synced_resize}
use Rattle.image_resizing.proofs.resizing.sync_and_grow.Goals as goal

pub returns-in_err-sync-clause-moments : goal.returns-in_err-sync-clause-moments
returns-in_err-sync-clause-moments g c start told =
    let sectors = (g.D.Disk.identity c.args.disk.now).sectors in
    let plan = c.args.plan.now in
    let same = ap (λ (d : DiskIdentity). d.sectors) c.sync.ensures.identity in
    let order : SettlesInOrder sectors plan (g.D.Disk.moments c.args.disk.now) (g.D.Disk.moments c.sync.new.self) = record { synced = (g.D.Disk.moments c.sync.new.self); earlier = c.sync.ensures.moments; later = no_moment (g.D.Disk.moments c.sync.new.self) _ } in
    settled_order sectors plan (g.D.Disk.moments c.args.disk.now) (g.D.Disk.moments c.sync.new.self) order

pub returns-clause-moments : goal.returns-clause-moments
returns-clause-moments g c start told =
    let sectors = (g.D.Disk.identity c.args.disk.now).sectors in
    let plan = c.args.plan.now in
    let same = ap (λ (d : DiskIdentity). d.sectors) c.sync.ensures.identity in
    let order : SettlesInOrder sectors plan (g.D.Disk.moments c.args.disk.now) (g.D.Disk.moments c.sync.new.self) = record { synced = (g.D.Disk.moments c.sync.new.self); earlier = c.sync.ensures.moments; later = no_moment (g.D.Disk.moments c.sync.new.self) _ } in
    let told_mid : content_now (g.D.Disk.moments c.sync.new.self) ≡ Some (newest_only start) = c.in_ok-sync.ensures.synced ∙ ap (option_map newest_only) told in
    let settled = synced_settled sectors plan c.requires.plan start (c.requires.opens start told)
    (λ sector low. g.met.D.Disk.whole_sectors c.args.disk.now start sector (last_image start sector) told low (g.met.D.Disk.reads_an_image c.args.disk.now start told sector)) c.requires.bitmap in
    grown_order sectors plan (g.D.Disk.moments c.args.disk.now) (g.D.Disk.moments c.sync.new.self) order (g.D.Disk.moments c.grow_settled.new.disk) start told
    (subst (λ (n : ℕ). LeavesResizing n plan (g.D.Disk.moments c.sync.new.self) (g.D.Disk.moments c.grow_settled.new.disk)) same c.grow_settled.ensures.moments (last_image start) (newest_only start) told_mid settled)

pub returns-clause-resized : goal.returns-clause-resized
returns-clause-resized g c = on_ok_weaker c.grow_settled.result
    (λ grown start told.
    let sectors = (g.D.Disk.identity c.args.disk.now).sectors in
    let plan = c.args.plan.now in
    let same = ap (λ (d : DiskIdentity). d.sectors) c.sync.ensures.identity in
    let told_mid : content_now (g.D.Disk.moments c.sync.new.self) ≡ Some (newest_only start) = c.in_ok-sync.ensures.synced ∙ ap (option_map newest_only) told in
    let settled = synced_settled sectors plan c.requires.plan start (c.requires.opens start told)
    (λ sector low. g.met.D.Disk.whole_sectors c.args.disk.now start sector (last_image start sector) told low (g.met.D.Disk.reads_an_image c.args.disk.now start told sector)) c.requires.bitmap in
    subst (λ (n : ℕ). GrowsSettled n plan (g.D.Disk.moments c.sync.new.self) (g.D.Disk.moments c.grow_settled.new.disk)) same grown (last_image start) (newest_only start) told_mid settled)
    c.grow_settled.ensures.resized

pub returns-in_err-sync-clause-writes : goal.returns-in_err-sync-clause-writes
returns-in_err-sync-clause-writes g c start told =
    synced_resize (g.D.Disk.identity c.args.disk.now).sectors c.args.plan.now c.requires.plan start c.requires.bitmap (g.D.Disk.moments c.args.disk.now) (g.D.Disk.moments c.sync.new.self) told c.sync.ensures.moments

pub returns-clause-writes : goal.returns-clause-writes
returns-clause-writes g c start told =
    let sectors = (g.D.Disk.identity c.args.disk.now).sectors in
    let plan = c.args.plan.now in
    let same = ap (λ (d : DiskIdentity). d.sectors) c.sync.ensures.identity in
    let told_mid : content_now (g.D.Disk.moments c.sync.new.self) ≡ Some (newest_only start) = c.in_ok-sync.ensures.synced ∙ ap (option_map newest_only) told in
    let settled = synced_settled sectors plan c.requires.plan start (c.requires.opens start told)
    (λ sector low. g.met.D.Disk.whole_sectors c.args.disk.now start sector (last_image start sector) told low (g.met.D.Disk.reads_an_image c.args.disk.now start told sector)) c.requires.bitmap in
    let by : IsSettledBy sectors plan start (newest_only start) = record { from = settled; synced = λ set. refl; recovered = λ clear. absurd (true≢false (sym c.requires.bitmap ∙ clear)) } in
    EachMoment-then (synced_resize sectors plan c.requires.plan start c.requires.bitmap (g.D.Disk.moments c.args.disk.now) (g.D.Disk.moments c.sync.new.self) told c.sync.ensures.moments)
    (subst (λ (n : ℕ). WritesSettled n plan (g.D.Disk.moments c.sync.new.self) (g.D.Disk.moments c.grow_settled.new.disk)) same c.grow_settled.ensures.writes start (newest_only start) told_mid by)
