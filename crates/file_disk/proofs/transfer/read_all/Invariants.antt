use Rattle.std.proofs.Common.{◌≡◌, ◌≤◌, ◌<◌, ◌+◌, ◌-◌, ◌*◌, ◌/◌, ℕ, length}
use Rattle.std.specs.Option.{ForSome}
use Rattle.disk_model.specs.Disk.{last_image, sector_in}
use Rattle.disk_model.specs.Moments.{content_now}
use Rattle.file_disk.proofs.transfer.read_all.Given as goal

abbrev pub invariant-loop-done : goal.invariant-loop-done
invariant-loop-done g l = record {
  whole : l.done ≡ 512 * (l.done / 512);
  within : l.done ≤ length l.buffer;
  read : ForSome (content_now (g.F.SectorFile.moments l.fn.file)) (λ c.
      (k : ℕ) → k < l.done / 512 → sector_in l.buffer k ≡ last_image c (l.fn.from / 512 + k));
  identity : g.F.SectorFile.identity l.file ≡ g.F.SectorFile.identity l.fn.file;
  access : g.F.SectorFile.access l.file ≡ g.F.SectorFile.access l.fn.file;
  kept : g.F.SectorFile.moments l.file ≡ g.F.SectorFile.moments l.fn.file;
  no_fault : g.F.SectorFile.faults l.file ≡ g.F.SectorFile.faults l.fn.file;
}

abbrev pub decreases-loop-done : goal.decreases-loop-done
decreases-loop-done g l = length l.buffer - l.done + g.F.SectorFile.interruptions l.file
