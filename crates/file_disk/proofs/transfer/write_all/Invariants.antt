use Rattle.std.proofs.Common.{◌≡◌, ◌≤◌, ◌+◌, ◌-◌, ◌*◌, ◌/◌, length}
use Rattle.std.specs.Option.{option_map}
use Rattle.disk_model.specs.Disk.{AddsSome, with_sectors}
use Rattle.disk_model.specs.Moments.{content_now, EachMoment, FromStart}
use Rattle.file_disk.proofs.transfer.write_all.Given as goal

abbrev pub invariant-loop-done : goal.invariant-loop-done
invariant-loop-done g l = record {
  whole : l.done ≡ 512 * (l.done / 512);
  within : l.done ≤ length l.bytes;
  written : content_now (g.F.SectorFile.moments l.file)
      ≡ option_map (with_sectors (l.done / 512) (l.fn.from / 512) l.bytes) (content_now (g.F.SectorFile.moments l.fn.file));
  moments : EachMoment (g.F.SectorFile.moments l.fn.file) (g.F.SectorFile.moments l.file)
      (FromStart (g.F.SectorFile.moments l.fn.file) (AddsSome (l.fn.from / 512) l.bytes));
  identity : g.F.SectorFile.identity l.file ≡ g.F.SectorFile.identity l.fn.file;
  access : g.F.SectorFile.access l.file ≡ g.F.SectorFile.access l.fn.file;
  no_fault : g.F.SectorFile.faults l.file ≡ g.F.SectorFile.faults l.fn.file;
}

abbrev pub decreases-loop-done : goal.decreases-loop-done
decreases-loop-done g l = length l.bytes - l.done + g.F.SectorFile.interruptions l.file
