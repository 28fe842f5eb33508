use Rattle.std.proofs.Common.{◌+◌, ◌%◌, List, false, refl, sym, subst, arith}
use Rattle.disk_model.specs.Disk.{OnlyAdds, newest_only}
use Rattle.disk_model.specs.Identity.{DiskIdentity}
use Rattle.disk_model.specs.Moments.{EachSince, IsChangedBy}
use Rattle.image_model.specs.Geometry.{Geometry}
use Rattle.image_model.specs.Scan.{SectorCell}
use Rattle.image_model.specs.EmptySections.{AreEmptySections}
use Rattle.journal_erasure.specs.Filling.{IsOfLacking, with_lacking}
use Rattle.place_writer.proofs.StoreCalls.{ReadsWhole, reads_whole}
use Rattle.tag_store.specs.Store.{IsStore}
use Rattle.replay.specs.Recovery.{IsReplayed}
use Rattle.replay.specs.Writes.{IsOfUnnumbered}
use Rattle.replay.proofs.FillingLemmas.{blank_low, fill_adds, fill_cuts, fill_unnumbered, filled_recovered, store_filled}
use Rattle.replay.proofs.filling.fill_journal.Goals as goal

pub fill-requires-clause-number : goal.fill-requires-clause-number
fill-requires-clause-number g c = blank_low c.args.geometry.now c.args.journal.now c.args.number c.requires.replaying.fits c.requires.blank

pub overflow_add-result : goal.overflow_add-result
overflow_add-result g c =
    let low = blank_low c.args.geometry.now c.args.journal.now c.args.number c.requires.replaying.fits c.requires.blank in
    omega (arith, low)

pub returns-in_err-fill-clause-cuts : goal.returns-in_err-fill-clause-cuts
returns-in_err-fill-clause-cuts g c d replayed has =
    fill_cuts c.args.geometry.now c.args.number c.fill.new.scratch c.args.journal.now d replayed c.requires.blank c.fill.ensures.empty (λ x told. (has.now x told).stands)
    (subst (λ (cells : List SectorCell). EachSince (OnlyAdds (IsOfLacking c.args.geometry.now cells c.args.number c.fill.new.scratch)) (g.D.Disk.moments c.args.disk.now) (g.D.Disk.moments c.fill.new.disk)) c.deref.ensures.value c.fill.ensures.moments)

pub returns-in_err-fill-clause-moments : goal.returns-in_err-fill-clause-moments
returns-in_err-fill-clause-moments g c = fill_adds c.args.geometry.now c.deref.result.now c.args.number c.fill.new.scratch c.fill.ensures.empty c.fill.ensures.moments

pub returns-clause-left : goal.returns-clause-left
returns-clause-left g c d replayed has =
    let store = c.args.tags.now in
    let disk = g.D.Disk.identity c.args.disk.now in
    let before = g.D.Disk.moments c.args.disk.now in
    let after = g.D.Disk.moments c.fill.new.disk in
    let same = c.requires.replaying.geometry in
    let written = subst (λ (y : Geometry). IsChangedBy (λ x. newest_only (with_lacking y c.args.journal.now.grid.cells.items c.args.number c.fill.new.scratch x)) before after) same
    (subst (λ (cells : List SectorCell). IsChangedBy (λ x. newest_only (with_lacking c.args.geometry.now cells c.args.number c.fill.new.scratch x)) before after) c.deref.ensures.value c.in_ok-fill.ensures.written) in
    let whole = reads_whole disk before (g.met.D.Disk.reads_an_image c.args.disk.now) (g.met.D.Disk.whole_sectors c.args.disk.now) in
    let whole_now = subst (λ (i : DiskIdentity). ReadsWhole i after) c.fill.ensures.identity
    (reads_whole (g.D.Disk.identity c.fill.new.disk) after (g.met.D.Disk.reads_an_image c.fill.new.disk) (g.met.D.Disk.whole_sectors c.fill.new.disk)) in
    filled_recovered store disk before after c.requires.replaying.store_is c.args.journal.now c.args.number c.fill.new.scratch written d (record { next = 0; number = (c.args.number + 1) % 4; used = false })
    (subst (λ (y : Geometry). IsReplayed d y c.args.journal.now) same replayed) c.requires.blank
    (subst (λ (y : Geometry). AreEmptySections y c.args.number c.fill.new.scratch) same c.fill.ensures.empty)
    (g.met.D.Disk.reads_an_image c.args.disk.now) whole whole_now has refl refl refl

pub returns-clause-store : goal.returns-clause-store
returns-clause-store g c =
    let store = c.args.tags.now in
    let before = g.D.Disk.moments c.args.disk.now in
    let after = g.D.Disk.moments c.fill.new.disk in
    let written = subst (λ (y : Geometry). IsChangedBy (λ x. newest_only (with_lacking y c.args.journal.now.grid.cells.items c.args.number c.fill.new.scratch x)) before after) c.requires.replaying.geometry
    (subst (λ (cells : List SectorCell). IsChangedBy (λ x. newest_only (with_lacking c.args.geometry.now cells c.args.number c.fill.new.scratch x)) before after) c.deref.ensures.value c.in_ok-fill.ensures.written) in
    subst (λ (i : DiskIdentity). IsStore store i after) (sym c.fill.ensures.identity)
    (store_filled store (g.D.Disk.identity c.args.disk.now) before after c.requires.replaying.store_is c.args.journal.now c.args.number c.fill.new.scratch written)

pub returns-clause-cuts : goal.returns-clause-cuts
returns-clause-cuts g c d replayed has =
    fill_cuts c.args.geometry.now c.args.number c.fill.new.scratch c.args.journal.now d replayed c.requires.blank c.fill.ensures.empty (λ x told. (has.now x told).stands)
    (subst (λ (cells : List SectorCell). EachSince (OnlyAdds (IsOfLacking c.args.geometry.now cells c.args.number c.fill.new.scratch)) (g.D.Disk.moments c.args.disk.now) (g.D.Disk.moments c.fill.new.disk)) c.deref.ensures.value c.fill.ensures.moments)

pub returns-clause-moments : goal.returns-clause-moments
returns-clause-moments g c = fill_adds c.args.geometry.now c.deref.result.now c.args.number c.fill.new.scratch c.fill.ensures.empty c.fill.ensures.moments

pub returns-in_err-fill-clause-blank : goal.returns-in_err-fill-clause-blank
returns-in_err-fill-clause-blank g c =
    subst (λ (cells : List SectorCell). EachSince (OnlyAdds (IsOfUnnumbered c.args.geometry.now cells c.args.number)) (g.D.Disk.moments c.args.disk.now) (g.D.Disk.moments c.fill.new.disk)) c.deref.ensures.value
    (fill_unnumbered c.args.geometry.now c.deref.result.now c.args.number c.fill.new.scratch c.fill.ensures.empty c.fill.ensures.moments)

pub returns-clause-blank : goal.returns-clause-blank
returns-clause-blank g c =
    subst (λ (cells : List SectorCell). EachSince (OnlyAdds (IsOfUnnumbered c.args.geometry.now cells c.args.number)) (g.D.Disk.moments c.args.disk.now) (g.D.Disk.moments c.fill.new.disk)) c.deref.ensures.value
    (fill_unnumbered c.args.geometry.now c.deref.result.now c.args.number c.fill.new.scratch c.fill.ensures.empty c.fill.ensures.moments)
