use Rattle.std.proofs.Common.{◌∙◌, ap, refl}
use Rattle.disk_model.specs.Disk.{Image, newest_only}
use Rattle.disk_model.specs.Moments.{content_now}
use Rattle.disk_model.proofs.MomentsLemmas.{EachMoment-then}
use Rattle.image_model.specs.Cells.{replayed_entries}
use Rattle.buffer_cache.specs.declared.held.HeldSectors.{HeldSectors}
use Rattle.tag_store.specs.Store.{Store}
use Rattle.place_model.specs.RecoveryWrites.{IsOfRecovery}
use Rattle.journal_reading.specs.Journal.{IsJournalOn}
use Rattle.device_opening.specs.Judged.{judged_format}
use Rattle.device_opening.proofs.MomentsLemmas.{now_synced, rests_then, settles_then, sync_rests, sync_settles, syncs_then, told_synced}
use Rattle.device_opening.proofs.RecoveringLemmas.{enters, fresh_unmarked, sync_cells}
use Rattle.device_opening.proofs.recovering.recover_image.Goals as goal

pub recover-requires-clause-journal : goal.recover-requires-clause-journal
recover-requires-clause-journal g c =
    now_synced (λ (found : Image). IsJournalOn c.args.image.format.geometry found c.args.image.journal) (g.D.Disk.moments c.args.disk.now) (g.D.Disk.moments c.first_sync.new.disk) c.in_ok-tags.ensures.synced (λ start told. (c.requires.judged.now start told).journal)

pub returns-clause-recovered : goal.returns-clause-recovered
returns-clause-recovered g c =
    let old = c.args.disk.now in
    let mid = c.first_sync.new.disk in
    let image = c.args.image in
    let told_mid = told_synced (content_now (g.D.Disk.moments old)) (content_now (g.D.Disk.moments mid)) in
    let synced = c.in_ok-tags.ensures.synced in
    record {
      left = λ start told.
          c.in_ok-at.ensures.left (judged_format (g.D.Disk.identity old).sectors image) (newest_only start) (told_mid start synced told)
          (enters image (g.D.Disk.identity old) (g.D.Disk.identity mid) c.first_sync.ensures.identity c.in_ok-tags.tags c.requires.cache.0
          (c.in_ok-tags.ensures.made ∙ ap (λ (held : HeldSectors). let s : Store = record { geometry = image.format.geometry; sectors = held } in s) c.requires.cache.1)
          c.requires.judged.format.no_bitmap start (c.requires.judged.now start told).opens);
      next = λ start told. c.in_ok-at.ensures.place.next (newest_only start) (told_mid start synced told);
    }

pub returns-clause-leaves : goal.returns-clause-leaves
returns-clause-leaves g c =
    let old = c.args.disk.now in
    let mid = c.first_sync.new.disk in
    let image = c.args.image in
    let f = judged_format (g.D.Disk.identity old).sectors image in
    record {
      cells = λ start told opens.
          EachMoment-then (sync_cells f start told opens c.first_sync.ensures.newest)
          (c.recover.ensures.cuts f (newest_only start) (told_synced (content_now (g.D.Disk.moments old)) (content_now (g.D.Disk.moments mid)) start c.in_ok-tags.ensures.synced told)
          (enters image (g.D.Disk.identity old) (g.D.Disk.identity mid) c.first_sync.ensures.identity c.in_ok-tags.tags c.requires.cache.0
          (c.in_ok-tags.ensures.made ∙ ap (λ (held : HeldSectors). let s : Store = record { geometry = image.format.geometry; sectors = held } in s) c.requires.cache.1)
          c.requires.judged.format.no_bitmap start (c.requires.judged.now start told).opens));
      writes = settles_then (λ image. IsOfRecovery c.args.image.format.geometry (replayed_entries c.args.image.format.geometry image)) c.first_sync.ensures.newest c.in_ok-tags.ensures.synced c.recover.ensures.moments;
    }

pub returns-clause-rest : goal.returns-clause-rest
returns-clause-rest g c =
    let old = c.args.disk.now in
    let mid = c.first_sync.new.disk in
    let image = c.args.image in
    record {
      rest = rests_then image.format.geometry c.first_sync.ensures.newest c.in_ok-tags.ensures.synced c.recover.ensures.rest;
      in_place = λ start told already.
          syncs_then c.first_sync.ensures.newest c.in_ok-tags.ensures.synced
          (c.recover.ensures.in_place
          (fresh_unmarked image.format c.in_ok-tags.tags c.requires.cache.0
          (c.in_ok-tags.ensures.made ∙ ap (λ (held : HeldSectors). let s : Store = record { geometry = image.format.geometry; sectors = held } in s) c.requires.cache.1))
          (newest_only start) (told_synced (content_now (g.D.Disk.moments old)) (content_now (g.D.Disk.moments mid)) start c.in_ok-tags.ensures.synced told) already);
    }

pub returns-in_err-at-clause-leaves : goal.returns-in_err-at-clause-leaves
returns-in_err-at-clause-leaves g c =
    let old = c.args.disk.now in
    let mid = c.first_sync.new.disk in
    let image = c.args.image in
    let f = judged_format (g.D.Disk.identity old).sectors image in
    record {
      cells = λ start told opens.
          EachMoment-then (sync_cells f start told opens c.first_sync.ensures.newest)
          (c.recover.ensures.cuts f (newest_only start) (told_synced (content_now (g.D.Disk.moments old)) (content_now (g.D.Disk.moments mid)) start c.in_ok-tags.ensures.synced told)
          (enters image (g.D.Disk.identity old) (g.D.Disk.identity mid) c.first_sync.ensures.identity c.in_ok-tags.tags c.requires.cache.0
          (c.in_ok-tags.ensures.made ∙ ap (λ (held : HeldSectors). let s : Store = record { geometry = image.format.geometry; sectors = held } in s) c.requires.cache.1)
          c.requires.judged.format.no_bitmap start (c.requires.judged.now start told).opens));
      writes = settles_then (λ image. IsOfRecovery c.args.image.format.geometry (replayed_entries c.args.image.format.geometry image)) c.first_sync.ensures.newest c.in_ok-tags.ensures.synced c.recover.ensures.moments;
    }

pub returns-in_err-at-clause-rest : goal.returns-in_err-at-clause-rest
returns-in_err-at-clause-rest g c =
    let old = c.args.disk.now in
    let mid = c.first_sync.new.disk in
    let image = c.args.image in
    record {
      rest = rests_then image.format.geometry c.first_sync.ensures.newest c.in_ok-tags.ensures.synced c.recover.ensures.rest;
      in_place = λ start told already.
          syncs_then c.first_sync.ensures.newest c.in_ok-tags.ensures.synced
          (c.recover.ensures.in_place
          (fresh_unmarked image.format c.in_ok-tags.tags c.requires.cache.0
          (c.in_ok-tags.ensures.made ∙ ap (λ (held : HeldSectors). let s : Store = record { geometry = image.format.geometry; sectors = held } in s) c.requires.cache.1))
          (newest_only start) (told_synced (content_now (g.D.Disk.moments old)) (content_now (g.D.Disk.moments mid)) start c.in_ok-tags.ensures.synced told) already);
    }

pub returns-in_err-tags-clause-leaves : goal.returns-in_err-tags-clause-leaves
returns-in_err-tags-clause-leaves g c = record {
  cells = λ start told opens. sync_cells (judged_format (g.D.Disk.identity c.args.disk.now).sectors c.args.image) start told opens c.first_sync.ensures.newest;
  writes = sync_settles (λ image. IsOfRecovery c.args.image.format.geometry (replayed_entries c.args.image.format.geometry image)) c.first_sync.ensures.newest;
}

pub returns-in_err-tags-clause-rest : goal.returns-in_err-tags-clause-rest
returns-in_err-tags-clause-rest g c = record {
  rest = sync_rests c.args.image.format.geometry c.first_sync.ensures.newest;
  in_place = λ start told already. c.first_sync.ensures.newest;
}

pub returns-clause-made : goal.returns-clause-made
returns-clause-made g c = record {
  store = c.in_ok-at.ensures.store;
  geometry = c.recover.ensures.keeps.geometry ∙ ap (λ (s : Store). s.geometry) c.in_ok-tags.ensures.made;
  maker = refl;
}
