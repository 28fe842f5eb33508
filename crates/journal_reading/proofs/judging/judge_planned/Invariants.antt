use Rattle.std.proofs.Common.{◌≡◌, ◌<◌, ◌≤◌, ℕ, Some}
use Rattle.disk_model.specs.Disk.{last_image}
use Rattle.disk_model.specs.Moments.{HasNow}
use Rattle.image_model.specs.Geometry.{section_sectors}
use Rattle.sector_window.specs.Window.{HasRoom}
use Rattle.journal_reading.specs.Newest.{newest_in}
use Rattle.journal_reading.proofs.JudgingLemmas.{IsJudgedUpTo}
use Rattle.journal_reading.proofs.judging.judge_planned.Given as goal

-- The first entries are judged and kept.
abbrev pub invariant-loop-k : goal.invariant-loop-k
invariant-loop-k g l = record {
  few : l.count ≤ l.k;
  inside : (b number : ℕ) → newest_in l.newest b ≡ Some number → b < l.geometry.blocks;
  judged : HasNow (λ c. IsJudgedUpTo l.maker l.geometry (last_image c) l.plan l.k (newest_in l.newest) l.count) (g.D.Disk.moments l.fn.disk);
  window : HasRoom (section_sectors l.geometry.shape) l.window (g.D.Disk.moments l.disk);
  faults : g.D.Counted.faults l.disk ≡ g.D.Counted.faults l.fn.disk;
  identity : g.D.Disk.identity l.disk ≡ g.D.Disk.identity l.fn.disk;
  kept : g.D.Disk.moments l.disk ≡ g.D.Disk.moments l.fn.disk;
}
