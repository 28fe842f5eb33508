use Rattle.std.proofs.Common.{◌^◌, List, sym, ap, ◌∙◌, subst, length}
use Rattle.std.specs.List.{Contains}
use Rattle.std.proofs.lemmas.Result.{on_ok_weaker}
use Rattle.disk_model.specs.Disk.{Content, OnlyAdds}
use Rattle.disk_model.specs.Moments.{EachMoment, EachSince}
use Rattle.journal_model.specs.JournaledDisk.{StandsFor}
use Rattle.journal_reading.specs.Journal.{journal_image}
use Rattle.place_writer.specs.Cells.{HasCells}
use Rattle.replay.specs.Replaying.{IsReadOn, IsToReplay, all_placed, entries_on}
use Rattle.place_model.specs.RecoveryWrites.{IsOfPlacing}
use Rattle.replay.proofs.RecoveryLemmas.{none_placed}
use Rattle.replay.proofs.ReplayingLemmas.{geometry_of}
use Rattle.replay.proofs.WritesLemmas.{replay_adds}
use Rattle.replay.proofs.entering.place_journal.Goals as goal

pub returns-then-journal-eq0-clause-placed : goal.returns-then-journal-eq0-clause-placed
returns-then-journal-eq0-clause-placed g c start told d to has =
    let on = c.requires.journal start told in
    none_placed d c.args.tags.now (g.D.Disk.moments c.args.disk.now) to.none (ap length to.entries ∙ sym on.count_ ∙ c.if-journal-eq0.true) has

pub returns-clause-placed : goal.returns-clause-placed
returns-clause-placed g c = on_ok_weaker c.place_all.result (λ placed start told d to has.
    placed d (subst (IsToReplay d c.args.geometry.now) (sym to.journal) to)
    (subst (IsReadOn c.args.geometry.now c.read_journal.new.bytes c.args.journal.now) (sym to.journal) (record { on = c.requires.journal start told; read = c.in_ok-read_journal.ensures.read start told }))
    (subst (λ (m : List Content). HasCells d c.args.tags.now m) (sym c.read_journal.ensures.kept) has)) c.place_all.ensures.placed

pub returns-clause-stands : goal.returns-clause-stands
returns-clause-stands g c start told d to has =
    subst (λ (m : List Content). EachMoment m (g.D.Disk.moments c.place_all.new.disk) (StandsFor (all_placed d))) c.read_journal.ensures.kept
    (c.place_all.ensures.stands d (subst (IsToReplay d c.args.geometry.now) (sym to.journal) to)
    (subst (IsReadOn c.args.geometry.now c.read_journal.new.bytes c.args.journal.now) (sym to.journal) (record { on = c.requires.journal start told; read = c.in_ok-read_journal.ensures.read start told }))
    (subst (λ (m : List Content). HasCells d c.args.tags.now m) (sym c.read_journal.ensures.kept) has))

pub returns-clause-moments : goal.returns-clause-moments
returns-clause-moments g c =
    replay_adds c.args.geometry.now (2 ^ 48) c.read_journal.new.bytes c.args.journal.now
    (geometry_of c.args.geometry.now c.args.tags.now (g.D.Disk.identity c.args.disk.now) (g.D.Disk.moments c.args.disk.now) c.requires.replaying.geometry c.requires.replaying.store_is)
    (λ start told. record { on = c.requires.journal start told; read = c.in_ok-read_journal.ensures.read start told })
    (subst (λ (m : List Content). EachSince (OnlyAdds (IsOfPlacing c.args.geometry.now (Contains (entries_on c.args.geometry.now (journal_image c.read_journal.new.bytes) c.args.journal.now.plan.walk)))) m (g.D.Disk.moments c.place_all.new.disk))
    c.read_journal.ensures.kept c.place_all.ensures.moments)
