use Rattle.std.proofs.Common.{inr, ◌∙◌, ap, subst}
use Rattle.disk_model.proofs.MomentsLemmas.{EachMoment-then}
use Rattle.journal_ring.specs.Batch.{WritesBatch}
use Rattle.journal_mode.specs.Commits.{after_one}
use Rattle.journal_mode.specs.Journal.{PlacedRing}
use Rattle.journal_mode.proofs.FlushLemmas.{flushed_is, left_again, none_left, none_yet, one_is, one_more}
use Rattle.journal_mode.proofs.journal.Journal.flush.Goals as goal

pub returns-in_err-second-clause-left : goal.returns-in_err-second-clause-left
returns-in_err-second-clause-left g c w stands =
    let store = c.args.tags.now in
    let before = g.D.Disk.moments c.args.disk.now in
    let middle = g.D.Disk.moments c.commit.new.disk in
    EachMoment-then (c.commit.ensures.left w stands)
    (left_again w c.commit.new.self store
    (one_more w c.args.self.now c.commit.new.self store c.in_ok-first.first before before middle (none_yet w c.args.self.now store before stands) c.in_ok-first.ensures.committed)
    c.commit-2.ensures.left)

pub returns-clause-all : goal.returns-clause-all
returns-clause-all g c =
    let one = one_is c.args.self.now c.commit.new.self c.in_ok-first.first c.args.disk.now c.commit.new.disk _ _ c.in_ok-first.ensures.moved in
    let two = one_is c.commit.new.self c.commit-2.new.self c.in_ok-second.second c.commit.new.disk c.commit-2.new.disk _ _ c.in_ok-second.ensures.moved in
    ap (λ (j : PlacedRing). j.ring.opened) (two ∙ ap after_one one) ∙ none_left c.args.self.now c.commit.ensures.bounds

pub returns-clause-flushed : goal.returns-clause-flushed
returns-clause-flushed g c w stands =
    let store = c.args.tags.now in
    let before = g.D.Disk.moments c.args.disk.now in
    let middle = g.D.Disk.moments c.commit.new.disk in
    let after = g.D.Disk.moments c.commit-2.new.disk in
    let first = one_more w c.args.self.now c.commit.new.self store c.in_ok-first.first before before middle (none_yet w c.args.self.now store before stands) c.in_ok-first.ensures.committed in
    let second = one_more w c.commit.new.self c.commit-2.new.self store c.in_ok-second.second before middle after first c.in_ok-second.ensures.committed in
    flushed_is w c.commit-2.new.self store before after second (returns-clause-all g c)

pub returns-clause-left : goal.returns-clause-left
returns-clause-left g c w stands =
    let store = c.args.tags.now in
    let before = g.D.Disk.moments c.args.disk.now in
    let middle = g.D.Disk.moments c.commit.new.disk in
    EachMoment-then (c.commit.ensures.left w stands)
    (left_again w c.commit.new.self store
    (one_more w c.args.self.now c.commit.new.self store c.in_ok-first.first before before middle (none_yet w c.args.self.now store before stands) c.in_ok-first.ensures.committed)
    c.commit-2.ensures.left)

pub returns-clause-moments : goal.returns-clause-moments
returns-clause-moments g c = inr (record {
  middle = g.D.Disk.moments c.commit.new.disk;
  first = c.commit.ensures.moments;
  second =
      subst (λ (j : PlacedRing). WritesBatch j.ring (g.D.Disk.moments c.commit.new.disk) (g.D.Disk.moments c.commit-2.new.disk))
      (one_is c.args.self.now c.commit.new.self c.in_ok-first.first c.args.disk.now c.commit.new.disk _ _ c.in_ok-first.ensures.moved) c.commit-2.ensures.moments;
})
