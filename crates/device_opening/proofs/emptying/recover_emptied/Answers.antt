use Rattle.std.proofs.Common.{◌*◌, sym, ap, ◌∙◌, subst}
use Rattle.disk_model.specs.Disk.{OnlyAdds, last_image}
use Rattle.disk_model.specs.Moments.{EachSince}
use Rattle.image_model.specs.Geometry.{Geometry, journal_sectors}
use Rattle.replay.specs.Recovery.{GoesOnIn}
use Rattle.place_model.specs.RecoveryWrites.{IsOfEmptyJournal}
use Rattle.disk_model.proofs.MomentsLemmas.{EachMoment-then}
use Rattle.device_opening.specs.Judged.{judged_format}
use Rattle.journal_model.specs.Opening.{opened_disk}
use Rattle.tag_store.specs.Store.{given_tags}
use Rattle.device_opening.proofs.MomentsLemmas.{now_told}
use Rattle.device_opening.proofs.EmptyingLemmas.{at_rest, cells_while_emptied, emptying_adds, emptying_keeps, leaves_then, resting_keeps, stays_unused}
use Rattle.device_opening.proofs.emptying.recover_emptied.Goals as goal

pub empty-requires-clause-scratch : goal.empty-requires-clause-scratch
empty-requires-clause-scratch g c = record {
  geometry = c.geometry-geometry.ensures ∙ sym c.in_ok-recovered.ensures.made.geometry;
  size = c.recover_image.ensures.pool ∙ c.requires.pool ∙ ap (λ (x : Geometry). 512 * journal_sectors x) (sym c.geometry-geometry.ensures);
  store_is = c.in_ok-recovered.ensures.made.store;
}

pub empty-requires-clause-place : goal.empty-requires-clause-place
empty-requires-clause-place g c =
    subst (λ (x : Geometry). GoesOnIn x c.in_ok-recovered.recovered.at) (sym c.geometry-geometry.ensures) c.in_ok-recovered.ensures.place

pub returns-clause-emptied : goal.returns-clause-emptied
returns-clause-emptied g c =
    let old = c.args.disk.now in
    let mid = c.recover_image.new.disk in
    let f = judged_format (g.D.Disk.identity old).sectors c.args.image in
    let image = c.in_ok-recovered.recovered in
    let done = c.in_ok-recovered.ensures in
    record {
      left = λ start told e told_e.
          let now = now_told c.recover_image.ensures.leaves.writes start told in
          let before = done.recovered.left start told now.0 now.1 in
          leaves_then (opened_disk f (last_image start)) image.at (given_tags image.tags now.0) now.0 before c.in_ok-at.at (given_tags image.tags e) e
          (c.in_ok-at.ensures.left before.recovered.now (at_rest (opened_disk f (last_image start)) image.at image.tags (g.D.Disk.moments mid) now.0 now.1 (sym done.made.geometry) before) e told_e);
      unused = c.in_ok-at.ensures.emptied;
    }

pub returns-clause-leaves : goal.returns-clause-leaves
returns-clause-leaves g c =
    let old = c.args.disk.now in
    let mid = c.recover_image.new.disk in
    let f = judged_format (g.D.Disk.identity old).sectors c.args.image in
    let image = c.in_ok-recovered.recovered in
    let done = c.in_ok-recovered.ensures in
    record {
      cells = λ start told opens.
          let now = now_told c.recover_image.ensures.leaves.writes start told in
          let before = done.recovered.left start told now.0 now.1 in
          EachMoment-then (c.recover_image.ensures.leaves.cells start told opens)
          (cells_while_emptied f (last_image start) image.at (given_tags image.tags now.0) now.0 c.requires.judged.format.no_bitmap before
          (c.empty.ensures.cuts before.recovered.now (at_rest (opened_disk f (last_image start)) image.at image.tags (g.D.Disk.moments mid) now.0 now.1 (sym done.made.geometry) before)));
      writes =
          emptying_adds c.args.image.format.geometry c.recover_image.ensures.leaves.writes
          (λ start middle told told_middle. (done.recovered.left start told middle told_middle).pending)
          (subst (λ (x : Geometry). EachSince (OnlyAdds (IsOfEmptyJournal x)) (g.D.Disk.moments c.recover_image.new.disk) (g.D.Disk.moments c.empty.new.disk)) c.geometry-geometry.ensures c.empty.ensures.moments);
    }

pub returns-clause-keeps : goal.returns-clause-keeps
returns-clause-keeps g c =
    let old = c.args.disk.now in
    let mid = c.recover_image.new.disk in
    let f = judged_format (g.D.Disk.identity old).sectors c.args.image in
    let image = c.in_ok-recovered.recovered in
    let done = c.in_ok-recovered.ensures in
    let keeps = resting_keeps f.geometry f.sectors c.requires.judged.format.accepted.geometry c.recover_image.ensures.rest.rest in
    emptying_keeps f.geometry image.at.used keeps (λ none. ap g.D.Disk.moments (c.empty.ensures.idle none).1)
    (λ start told empty.
    let now = now_told c.recover_image.ensures.leaves.writes start told in
    stays_unused f image.at (given_tags image.tags now.0) start now.0 told now.1 (g.met.D.Disk.reads_an_image mid now.0 now.1) keeps
    (done.recovered.left start told now.0 now.1) (done.recovered.next start told) empty) (subst (λ (x : Geometry). EachSince (OnlyAdds (IsOfEmptyJournal x)) (g.D.Disk.moments c.recover_image.new.disk) (g.D.Disk.moments c.empty.new.disk)) c.geometry-geometry.ensures c.empty.ensures.moments)

pub returns-in_err-at-clause-leaves : goal.returns-in_err-at-clause-leaves
returns-in_err-at-clause-leaves g c =
    let old = c.args.disk.now in
    let mid = c.recover_image.new.disk in
    let f = judged_format (g.D.Disk.identity old).sectors c.args.image in
    let image = c.in_ok-recovered.recovered in
    let done = c.in_ok-recovered.ensures in
    record {
      cells = λ start told opens.
          let now = now_told c.recover_image.ensures.leaves.writes start told in
          let before = done.recovered.left start told now.0 now.1 in
          EachMoment-then (c.recover_image.ensures.leaves.cells start told opens)
          (cells_while_emptied f (last_image start) image.at (given_tags image.tags now.0) now.0 c.requires.judged.format.no_bitmap before
          (c.empty.ensures.cuts before.recovered.now (at_rest (opened_disk f (last_image start)) image.at image.tags (g.D.Disk.moments mid) now.0 now.1 (sym done.made.geometry) before)));
      writes =
          emptying_adds c.args.image.format.geometry c.recover_image.ensures.leaves.writes
          (λ start middle told told_middle. (done.recovered.left start told middle told_middle).pending)
          (subst (λ (x : Geometry). EachSince (OnlyAdds (IsOfEmptyJournal x)) (g.D.Disk.moments c.recover_image.new.disk) (g.D.Disk.moments c.empty.new.disk)) c.geometry-geometry.ensures c.empty.ensures.moments);
    }

pub returns-in_err-at-clause-keeps : goal.returns-in_err-at-clause-keeps
returns-in_err-at-clause-keeps g c =
    let old = c.args.disk.now in
    let mid = c.recover_image.new.disk in
    let f = judged_format (g.D.Disk.identity old).sectors c.args.image in
    let image = c.in_ok-recovered.recovered in
    let done = c.in_ok-recovered.ensures in
    let keeps = resting_keeps f.geometry f.sectors c.requires.judged.format.accepted.geometry c.recover_image.ensures.rest.rest in
    emptying_keeps f.geometry image.at.used keeps (λ none. ap g.D.Disk.moments (c.empty.ensures.idle none).1)
    (λ start told empty.
    let now = now_told c.recover_image.ensures.leaves.writes start told in
    stays_unused f image.at (given_tags image.tags now.0) start now.0 told now.1 (g.met.D.Disk.reads_an_image mid now.0 now.1) keeps
    (done.recovered.left start told now.0 now.1) (done.recovered.next start told) empty) (subst (λ (x : Geometry). EachSince (OnlyAdds (IsOfEmptyJournal x)) (g.D.Disk.moments c.recover_image.new.disk) (g.D.Disk.moments c.empty.new.disk)) c.geometry-geometry.ensures c.empty.ensures.moments)

pub returns-in_err-recovered-clause-keeps : goal.returns-in_err-recovered-clause-keeps
returns-in_err-recovered-clause-keeps g c =
    resting_keeps c.args.image.format.geometry (g.D.Disk.identity c.args.disk.now).sectors c.requires.judged.format.accepted.geometry c.recover_image.ensures.rest.rest
