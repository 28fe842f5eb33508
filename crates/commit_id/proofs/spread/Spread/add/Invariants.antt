use Rattle.std.proofs.Common.{◌≡◌, ℕ, ◌+◌, ◌-◌, ◌<◌, ◌≤◌, ◌==◌, ◌&&◌, nat_lt, if◌then◌else◌, length, get_or}
use Rattle.commit_id.proofs.spread.Spread.add.Given as goal

-- The numbers so far are noted, and the others are as they were.
abbrev pub invariant-loop-number : goal.invariant-loop-number
invariant-loop-number l = record {
  four : (length l.self.reach ≡ 4) × (length l.self.whole ≡ 4);
  reached : (k : ℕ) → k < l.number → get_or l.self.reach k 0 ≡ (if nat_lt 0 (get_or l.with k 0 - get_or l.before k 0) then l.section + 1 else get_or l.fn.self.reach k 0);
  wholly : (k : ℕ) → k < l.number → get_or l.self.whole k 0 ≡ (if (get_or l.with k 0 - get_or l.before k 0 == l.sectors) && (get_or l.fn.self.whole k 0 == l.section) then l.section + 1 else get_or l.fn.self.whole k 0);
  reach_to_come : (k : ℕ) → l.number ≤ k → get_or l.self.reach k 0 ≡ get_or l.fn.self.reach k 0;
  whole_to_come : (k : ℕ) → l.number ≤ k → get_or l.self.whole k 0 ≡ get_or l.fn.self.whole k 0;
}
