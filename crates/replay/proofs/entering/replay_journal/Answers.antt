use Rattle.std.proofs.Common.{List, refl, sym, ◌∙◌, subst}
use Rattle.std.proofs.lemmas.Result.{on_ok_weaker}
use Rattle.disk_model.specs.Disk.{Content, last_image}
use Rattle.disk_model.proofs.MomentsLemmas.{EachMoment-kept, EachMoment-then}
use Rattle.image_model.specs.Cells.{replayed_entries}
use Rattle.journal_model.specs.Opening.{opened_disk}
use Rattle.place_writer.proofs.StoreCalls.{reads_whole}
use Rattle.replay.specs.Replaying.{all_placed}
use Rattle.replay.specs.Writes.{OnlySyncs}
use Rattle.replay.proofs.InPlaceLemmas.{in_place_there}
use Rattle.replay.proofs.RecoveryLemmas.{cells_before, cells_through, entries_before}
use Rattle.replay.proofs.WritesLemmas.{placing_then}
use Rattle.replay.proofs.entering.replay_journal.Goals as goal

pub returns-clause-settled : goal.returns-clause-settled
returns-clause-settled g c = on_ok_weaker c.flush.result (λ settled f start told enters.
    settled (all_placed (opened_disk f (last_image start)))
    (c.in_ok-place_journal.ensures.placed start told (opened_disk f (last_image start))
    (entries_before f c.args.geometry.now (g.D.Disk.identity c.args.disk.now) c.args.tags.now (g.D.Disk.moments c.args.disk.now) start c.requires.replaying.geometry told
    (reads_whole (g.D.Disk.identity c.args.disk.now) (g.D.Disk.moments c.args.disk.now) (g.met.D.Disk.reads_an_image c.args.disk.now) (g.met.D.Disk.whole_sectors c.args.disk.now) start told) enters)
    (cells_before f c.args.geometry.now (g.D.Disk.identity c.args.disk.now) c.args.tags.now (g.D.Disk.moments c.args.disk.now) start c.requires.replaying.geometry told
    (reads_whole (g.D.Disk.identity c.args.disk.now) (g.D.Disk.moments c.args.disk.now) (g.met.D.Disk.reads_an_image c.args.disk.now) (g.met.D.Disk.whole_sectors c.args.disk.now) start told) enters))) c.flush.ensures.settled

pub returns-in_err-place_journal-clause-cuts : goal.returns-in_err-place_journal-clause-cuts
returns-in_err-place_journal-clause-cuts g c f start told enters =
    cells_through f c.args.geometry.now (g.D.Disk.identity c.args.disk.now) c.args.tags.now (g.D.Disk.moments c.args.disk.now) start c.requires.replaying.geometry told
    (reads_whole (g.D.Disk.identity c.args.disk.now) (g.D.Disk.moments c.args.disk.now) (g.met.D.Disk.reads_an_image c.args.disk.now) (g.met.D.Disk.whole_sectors c.args.disk.now) start told) enters
    (c.place_journal.ensures.stands start told (opened_disk f (last_image start))
    (entries_before f c.args.geometry.now (g.D.Disk.identity c.args.disk.now) c.args.tags.now (g.D.Disk.moments c.args.disk.now) start c.requires.replaying.geometry told
    (reads_whole (g.D.Disk.identity c.args.disk.now) (g.D.Disk.moments c.args.disk.now) (g.met.D.Disk.reads_an_image c.args.disk.now) (g.met.D.Disk.whole_sectors c.args.disk.now) start told) enters)
    (cells_before f c.args.geometry.now (g.D.Disk.identity c.args.disk.now) c.args.tags.now (g.D.Disk.moments c.args.disk.now) start c.requires.replaying.geometry told
    (reads_whole (g.D.Disk.identity c.args.disk.now) (g.D.Disk.moments c.args.disk.now) (g.met.D.Disk.reads_an_image c.args.disk.now) (g.met.D.Disk.whole_sectors c.args.disk.now) start told) enters))

pub returns-clause-cuts : goal.returns-clause-cuts
returns-clause-cuts g c f start told enters =
    cells_through f c.args.geometry.now (g.D.Disk.identity c.args.disk.now) c.args.tags.now (g.D.Disk.moments c.args.disk.now) start c.requires.replaying.geometry told
    (reads_whole (g.D.Disk.identity c.args.disk.now) (g.D.Disk.moments c.args.disk.now) (g.met.D.Disk.reads_an_image c.args.disk.now) (g.met.D.Disk.whole_sectors c.args.disk.now) start told) enters
    (EachMoment-then
    (c.place_journal.ensures.stands start told (opened_disk f (last_image start))
    (entries_before f c.args.geometry.now (g.D.Disk.identity c.args.disk.now) c.args.tags.now (g.D.Disk.moments c.args.disk.now) start c.requires.replaying.geometry told
    (reads_whole (g.D.Disk.identity c.args.disk.now) (g.D.Disk.moments c.args.disk.now) (g.met.D.Disk.reads_an_image c.args.disk.now) (g.met.D.Disk.whole_sectors c.args.disk.now) start told) enters)
    (cells_before f c.args.geometry.now (g.D.Disk.identity c.args.disk.now) c.args.tags.now (g.D.Disk.moments c.args.disk.now) start c.requires.replaying.geometry told
    (reads_whole (g.D.Disk.identity c.args.disk.now) (g.D.Disk.moments c.args.disk.now) (g.met.D.Disk.reads_an_image c.args.disk.now) (g.met.D.Disk.whole_sectors c.args.disk.now) start told) enters))
    (c.flush.ensures.stands (all_placed (opened_disk f (last_image start)))
    (c.in_ok-place_journal.ensures.placed start told (opened_disk f (last_image start))
    (entries_before f c.args.geometry.now (g.D.Disk.identity c.args.disk.now) c.args.tags.now (g.D.Disk.moments c.args.disk.now) start c.requires.replaying.geometry told
    (reads_whole (g.D.Disk.identity c.args.disk.now) (g.D.Disk.moments c.args.disk.now) (g.met.D.Disk.reads_an_image c.args.disk.now) (g.met.D.Disk.whole_sectors c.args.disk.now) start told) enters)
    (cells_before f c.args.geometry.now (g.D.Disk.identity c.args.disk.now) c.args.tags.now (g.D.Disk.moments c.args.disk.now) start c.requires.replaying.geometry told
    (reads_whole (g.D.Disk.identity c.args.disk.now) (g.D.Disk.moments c.args.disk.now) (g.met.D.Disk.reads_an_image c.args.disk.now) (g.met.D.Disk.whole_sectors c.args.disk.now) start told) enters))))

pub returns-clause-moments : goal.returns-clause-moments
returns-clause-moments g c =
    placing_then c.args.geometry.now c.place_journal.new.tags (c.requires.replaying.geometry ∙ sym c.place_journal.ensures.keeps.geometry) c.place_journal.ensures.moments c.flush.ensures.moments

pub returns-in_err-place_journal-clause-in_place : goal.returns-in_err-place_journal-clause-in_place
returns-in_err-place_journal-clause-in_place g c none start told already =
    let G = c.args.geometry.now in
    EachMoment-kept _ (c.place_journal.ensures.still none start told
    (in_place_there G c.args.tags.now (g.D.Disk.identity c.args.disk.now) (g.D.Disk.moments c.args.disk.now) start (replayed_entries G (last_image start)) c.requires.replaying.geometry c.requires.replaying.store_is told none refl already)).kept

pub returns-clause-in_place : goal.returns-clause-in_place
returns-clause-in_place g c none start told already =
    let G = c.args.geometry.now in
    let still = c.place_journal.ensures.still none start told
    (in_place_there G c.args.tags.now (g.D.Disk.identity c.args.disk.now) (g.D.Disk.moments c.args.disk.now) start (replayed_entries G (last_image start)) c.requires.replaying.geometry c.requires.replaying.store_is told none refl already) in
    subst (λ (m : List Content). OnlySyncs m (g.D.Disk.moments c.flush.new.disk)) still.kept (c.flush.ensures.synced still.unmarked)
