use Rattle.std.proofs.Common.{◌≡◌, ◌<◌, ◌∙◌, ℕ, false, arith, rules, length, get_or, below_more}
use Rattle.std.specs.List.Sorted.{IsNonDecreasing}
use Rattle.std.proofs.lemmas.List.Sorted.{IsNonDecreasingBy-from_sort}
use Rattle.disk_model.proofs.MomentsLemmas.{EachMoment-join}
use Rattle.buffer_cache.specs.Cached.{IsAmidMarked, IsAmidWriteBack, is_marked, written_back}
use Rattle.buffer_cache.specs.HeldSectors.{held_in}
use Rattle.buffer_cache.proofs.CachedLemmas.{HasNoMark-kept, amid_same, none_is_marked, stays_unmarked, written_unmarked}
use Rattle.buffer_cache.proofs.HeldLemmas.{HoldsNoMore-then}
use Rattle.buffer_cache.proofs.StepsLemmas.{GivesSame-then, IsOverDisk-later}
use Rattle.buffer_cache.proofs.WriteBackLemmas.{above_waits, all_written, amid_write_back, below_is_clear, changed_from, each_contained, gone_more, write_back_none, written_more}
use Rattle.buffer_cache.proofs.written_back.write_each.Goals as goal

pub write_held-requires-clause-over : goal.write_held-requires-clause-over
write_held-requires-clause-over g c = IsOverDisk-later c.args.held.now c.loop-at.held c.requires.over c.loop-at.invariant.same

pub returns-in_err-write_held-clause-same : goal.returns-in_err-write_held-clause-same
returns-in_err-write_held-clause-same g c =
    let x = get_or c.args.sectors.now c.loop-at.at-index 0 in
    GivesSame-then (IsAmidMarked x (held_in c.loop-at.held x)) c.args.held.now c.loop-at.held c.write_held.new.held (amid_same x (held_in c.loop-at.held x)) c.write_held.ensures.moments c.loop-at.invariant.same c.write_held.ensures.same

pub returns-in_err-write_held-clause-moments : goal.returns-in_err-write_held-clause-moments
returns-in_err-write_held-clause-moments g c =
    let xs = c.args.sectors.now in
    let i = c.loop-at.at-index in
    let x = get_or xs i 0 in
    let start = c.args.held.now in
    let now = c.loop-at.held in
    let low : i < length xs = omega arith in
    let rises : IsNonDecreasing xs = IsNonDecreasingBy-from_sort (λ (k : ℕ). k) xs c.requires.sorted in
    EachMoment-join (IsAmidWriteBack start) (IsAmidMarked x (held_in now x)) c.loop-at.invariant.moments c.write_held.ensures.moments
    (λ at_start middle later told told_middle _ amid.
    amid_write_back start now x at_start middle later c.loop-at.invariant.same.keeps.marked (c.loop-at.invariant.written at_start told middle told_middle)
    (below_is_clear start now xs i c.loop-at.invariant.same.keeps.marked rises low c.requires.each c.loop-at.invariant.unmarked)
    (above_waits start now xs i c.loop-at.invariant.same.keeps.marked rises low c.loop-at.invariant.gone) amid)

pub loop-at-preserved : goal.loop-at-preserved
loop-at-preserved g c =
    let xs = c.args.sectors.now in
    let i = c.loop-at.at-index in
    let x = get_or xs i 0 in
    let start = c.args.held.now in
    let now = c.loop-at.held in
    let low : i < length xs = omega arith in
    let rises : IsNonDecreasing xs = IsNonDecreasingBy-from_sort (λ (k : ℕ). k) xs c.requires.sorted in
    record {
      faults = search rules;
      unread = search rules;
      same = GivesSame-then (IsAmidMarked x (held_in now x)) start now c.write_held.new.held (amid_same x (held_in now x)) c.write_held.ensures.moments c.loop-at.invariant.same c.write_held.ensures.same;
      unmarked = below_more (λ (k : ℕ). is_marked c.write_held.new.held (get_or xs k 0) ≡ false) i
          (λ k below. stays_unmarked now c.write_held.new.held (get_or xs k 0) c.write_held.ensures.same.keeps (c.loop-at.invariant.unmarked k below))
          (rw c.in_ok-write_held.ensures.written (written_unmarked now x));
      gone = rw c.in_ok-write_held.ensures.written (gone_more start now xs i c.loop-at.invariant.gone);
      written = rw c.in_ok-write_held.ensures.written (written_more (g.D.Disk.moments c.args.disk.now) (g.D.Disk.moments c.loop-at.disk) (g.D.Disk.moments c.write_held.new.disk) start now x c.loop-at.invariant.same.keeps.marked (c.loop-at.invariant.same.cache.whole x) c.loop-at.invariant.written c.in_ok-write_held.ensures.changed);
      unwritten = λ none. c.write_held.ensures.unwritten ((HasNoMark-kept start now c.loop-at.invariant.same.keeps none).none x) ∙ c.loop-at.invariant.unwritten none;
      held = HoldsNoMore-then start now c.write_held.new.held c.loop-at.invariant.held c.write_held.ensures.held;
      moments = EachMoment-join (IsAmidWriteBack start) (IsAmidMarked x (held_in now x)) c.loop-at.invariant.moments c.write_held.ensures.moments
          (λ at_start middle later told told_middle _ amid.
          amid_write_back start now x at_start middle later c.loop-at.invariant.same.keeps.marked (c.loop-at.invariant.written at_start told middle told_middle)
          (below_is_clear start now xs i c.loop-at.invariant.same.keeps.marked rises low c.requires.each c.loop-at.invariant.unmarked)
          (above_waits start now xs i c.loop-at.invariant.same.keeps.marked rises low c.loop-at.invariant.gone) amid);
    }

pub returns-clause-unmarked : goal.returns-clause-unmarked
returns-clause-unmarked g c =
    record {
      none = none_is_marked c.args.held.now c.loop-at.held c.args.sectors.now c.args.sectors.now c.loop-at.invariant.same.keeps c.requires.each (λ i. c.args.sectors.now)
          (λ s has. each_contained (λ (k : ℕ). is_marked c.loop-at.held k ≡ false) c.args.sectors.now s (λ k low. c.loop-at.invariant.unmarked k (omega arith)) has);
    }

pub returns-clause-written : goal.returns-clause-written
returns-clause-written g c =
    changed_from (IsAmidWriteBack c.args.held.now) (written_back c.args.held.now) (write_back_none c.args.held.now) c.loop-at.invariant.moments
    (λ start told end told_end. all_written c.args.held.now c.loop-at.held start end (returns-clause-unmarked g c).none (c.loop-at.invariant.written start told end told_end))

pub returns-in_err-write_held-clause-unwritten : goal.returns-in_err-write_held-clause-unwritten
returns-in_err-write_held-clause-unwritten g c none =
    let x = get_or c.args.sectors.now c.loop-at.at-index 0 in
    c.write_held.ensures.unwritten ((HasNoMark-kept c.args.held.now c.loop-at.held c.loop-at.invariant.same.keeps none).none x) ∙ c.loop-at.invariant.unwritten none
