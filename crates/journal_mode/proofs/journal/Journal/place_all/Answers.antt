use Rattle.std.proofs.Common.{refl, ◌∙◌, arith}
use Rattle.disk_model.proofs.MomentsLemmas.{EachMoment-then, adds_then, no_moment}
use Rattle.journal_mode.proofs.GivesLemmas.{tags_same}
use Rattle.journal_mode.proofs.ClosingLemmas.{fewer_left, left_placed, placed_one}
use Rattle.journal_mode.proofs.WritingLemmas.{more_placed, next_adds}
use Rattle.journal_mode.proofs.journal.Journal.place_all.Goals as goal

pub entries-init : goal.entries-init
entries-init g c = record {
  ring = refl;
  placed = λ w stands. record { counts = w.counts; count = w.disk.placed; stands = stands; gives = tags_same w.disk c.args.tags.now (g.D.Disk.moments c.args.disk.now) };
  faults = refl;
  store = c.requires.store;
  geometry = refl;
  identity = refl;
  left = λ w stands. no_moment (g.D.Disk.moments c.args.disk.now) _;
  more = omega arith;
  moments = no_moment (g.D.Disk.moments c.args.disk.now) _;
}

pub entries-preserved : goal.entries-preserved
entries-preserved g c = record {
  ring = c.place.ensures.ring ∙ c.entries.invariant.ring;
  placed = λ w stands.
      placed_one w c.entries.self c.place.new.self c.args.tags.now c.entries.tags c.place.new.tags (g.D.Disk.moments c.args.disk.now) (g.D.Disk.moments c.entries.disk) (g.D.Disk.moments c.place.new.disk) c.in_ok-moved.moved
      (c.entries.invariant.placed w stands) c.in_ok-moved.ensures.placed;
  faults = c.in_ok-moved.ensures.cause.passed ∙ c.entries.invariant.faults;
  store = c.place.ensures.stays.store;
  geometry = c.place.ensures.stays.geometry ∙ c.entries.invariant.geometry;
  identity = c.place.ensures.stays.identity ∙ c.entries.invariant.identity;
  left = λ w stands.
      EachMoment-then (c.entries.invariant.left w stands)
      (left_placed w c.entries.self c.args.tags.now c.entries.tags (c.entries.invariant.placed w stands) c.place.ensures.left);
  more =
      more_placed c.args.self.now c.entries.self c.place.new.self c.entries.tags c.place.new.tags c.in_ok-moved.moved c.entries.disk c.place.new.disk c.in_ok-moved.ensures.moved c.place.ensures.ring
      c.entries.invariant.more;
  moments = adds_then _ c.entries.invariant.moments (next_adds c.args.self.now c.entries.self c.entries.invariant.ring c.entries.invariant.more c.place.ensures.moments);
}

pub entries-smaller : goal.entries-smaller
entries-smaller g c =
    fewer_left c.entries.self c.place.new.self c.entries.tags c.place.new.tags c.in_ok-moved.moved c.entries.disk c.place.new.disk c.in_ok-moved.ensures.moved c.place.ensures.ring c.in-Did.is

pub returns-in_err-moved-clause-left : goal.returns-in_err-moved-clause-left
returns-in_err-moved-clause-left g c w stands =
    EachMoment-then (c.entries.invariant.left w stands) (left_placed w c.entries.self c.args.tags.now c.entries.tags (c.entries.invariant.placed w stands) c.place.ensures.left)

pub returns-in-Idle-clause-placed : goal.returns-in-Idle-clause-placed
returns-in-Idle-clause-placed g c w stands =
    placed_one w c.entries.self c.place.new.self c.args.tags.now c.entries.tags c.place.new.tags (g.D.Disk.moments c.args.disk.now) (g.D.Disk.moments c.entries.disk) (g.D.Disk.moments c.place.new.disk) c.in_ok-moved.moved
    (c.entries.invariant.placed w stands) c.in_ok-moved.ensures.placed

pub returns-in-Idle-clause-left : goal.returns-in-Idle-clause-left
returns-in-Idle-clause-left g c w stands =
    EachMoment-then (c.entries.invariant.left w stands) (left_placed w c.entries.self c.args.tags.now c.entries.tags (c.entries.invariant.placed w stands) c.place.ensures.left)

pub returns-in_err-moved-clause-moments : goal.returns-in_err-moved-clause-moments
returns-in_err-moved-clause-moments g c =
    adds_then _ c.entries.invariant.moments (next_adds c.args.self.now c.entries.self c.entries.invariant.ring c.entries.invariant.more c.place.ensures.moments)

pub returns-in-Idle-clause-moments : goal.returns-in-Idle-clause-moments
returns-in-Idle-clause-moments g c =
    adds_then _ c.entries.invariant.moments (next_adds c.args.self.now c.entries.self c.entries.invariant.ring c.entries.invariant.more c.place.ensures.moments)
