use Rattle.std.proofs.Common.{sym, ◌∙◌, ap, subst}
use Rattle.disk_model.specs.Identity.{DiskIdentity}
use Rattle.replay.proofs.StoreCalls.{reads_whole}
use Rattle.journal_model.specs.Ring.{JournalRing}
use Rattle.replay.specs.CommitLaws.{ReadsWhole}
use Rattle.tag_store.specs.Store.{IsStore}
use Rattle.journal_mode.specs.Commits.{CommitsAs}
use Rattle.journal_mode.specs.Journal.{IsJournal, PlacedRing}
use Rattle.journal_mode.specs.Standing.{StandsAs}
use Rattle.journal_mode.proofs.CommitLemmas.{commits_as, journal_there, left_by, moved_is, store_moved}
use Rattle.journal_mode.proofs.journal.Journal.commit.Goals as goal

pub commit-requires : goal.commit-requires
commit-requires g c = record {
  disk = journal_there c.args.tags.now (g.D.Disk.identity c.args.disk.now) (g.D.Disk.moments c.args.disk.now) c.self.inside.ring.geometry c.requires.store
      (ap (λ (j : PlacedRing). j.ring.geometry) c.self.view_is ∙ c.requires.geometry);
}

pub invariant_of-self : goal.invariant_of-self
invariant_of-self g c = subst (λ (r : JournalRing). IsJournal r c.self.inside.placer c.self.inside.overlay) (sym c.in_err-moved.ensures.err) c.self.invariant

pub returns-in_err-moved-clause-left : goal.returns-in_err-moved-clause-left
returns-in_err-moved-clause-left g c w stands =
    let view : PlacedRing = record { ring = c.self.inside.ring; placement = c.self.inside.placer } in
    left_by w view c.args.tags.now (subst (λ (j : PlacedRing). StandsAs w j c.args.tags.now (g.D.Disk.moments c.args.disk.now)) (sym c.self.view_is) stands) c.commit.ensures.cuts

pub invariant_of-self-2 : goal.invariant_of-self-2
invariant_of-self-2 g c =
    subst (λ (r : JournalRing). IsJournal r c.self.inside.placer c.self.inside.overlay) (sym c.in_ok-moved.ensures.ring)
    (moved_is c.self.inside.ring c.self.inside.placer c.self.inside.overlay c.in_ok-moved.moved c.self.invariant)

pub returns-clause-committed : goal.returns-clause-committed
returns-clause-committed g c w stands =
    let view : PlacedRing = record { ring = c.self.inside.ring; placement = c.self.inside.placer } in
    let store = c.args.tags.now in
    let disk = g.D.Disk.identity c.args.disk.now in
    let before = g.D.Disk.moments c.args.disk.now in
    let after = g.D.Disk.moments c.commit.new.disk in
    let moved = c.in_ok-moved.moved in
    let whole_after : ReadsWhole disk after =
    subst (λ (i : DiskIdentity). ReadsWhole i after) c.commit.ensures.identity
    (reads_whole (g.D.Disk.identity c.commit.new.disk) after (g.met.D.Disk.reads_an_image c.commit.new.disk) (g.met.D.Disk.whole_sectors c.commit.new.disk)) in
    subst (λ (j : PlacedRing). CommitsAs moved w j (let new : PlacedRing = record { ring = c.commit.new.self; placement = c.self.inside.placer } in new) store before after) c.self.view_is
    (subst (λ (r : JournalRing). CommitsAs moved w view (let new : PlacedRing = record { ring = r; placement = c.self.inside.placer } in new) store before after) (sym c.in_ok-moved.ensures.ring)
    (commits_as w view store disk moved before after
    (subst (λ (j : PlacedRing). StandsAs w j store before) (sym c.self.view_is) stands)
    c.in_ok-moved.ensures.moved c.in_ok-moved.ensures.written c.self.invariant.placement c.requires.store
    (g.met.D.Disk.reads_an_image c.args.disk.now)
    (reads_whole disk before (g.met.D.Disk.reads_an_image c.args.disk.now) (g.met.D.Disk.whole_sectors c.args.disk.now)) whole_after))

pub returns-clause-store : goal.returns-clause-store
returns-clause-store g c =
    subst (λ (i : DiskIdentity). IsStore c.args.tags.now i (g.D.Disk.moments c.commit.new.disk)) (sym c.commit.ensures.identity)
    (store_moved c.args.tags.now (g.D.Disk.identity c.args.disk.now) (g.D.Disk.moments c.args.disk.now) (g.D.Disk.moments c.commit.new.disk) c.self.inside.ring c.in_ok-moved.moved c.self.invariant.bounds
    (ap (λ (j : PlacedRing). j.ring.geometry) c.self.view_is ∙ c.requires.geometry) c.requires.store c.in_ok-moved.ensures.written)

pub returns-clause-left : goal.returns-clause-left
returns-clause-left g c w stands =
    let view : PlacedRing = record { ring = c.self.inside.ring; placement = c.self.inside.placer } in
    left_by w view c.args.tags.now (subst (λ (j : PlacedRing). StandsAs w j c.args.tags.now (g.D.Disk.moments c.args.disk.now)) (sym c.self.view_is) stands) c.commit.ensures.cuts
