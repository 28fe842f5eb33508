use Rattle.std.proofs.Common.{◌≡◌, ◌-◌, ◌≤◌, length}
use Rattle.disk_model.specs.Disk.{last_image}
use Rattle.disk_model.specs.Moments.{HasNow}
use Rattle.image_salvage.specs.Salvaged.{IsSalvageOf, IsSameSalvage, block_size, blocks_of, salvaged_format}
use Rattle.command_image.specs.Listing.{IsToldTo}
use Rattle.command_image.proofs.salvaging.print_blocks.Given as goal

-- The blocks before the next one are told, and all that is kept is of the disk, which is as it was.
abbrev pub invariant-lines : goal.invariant-lines
invariant-lines g l = record {
  image : IsSalvageOf l.salvage.image (g.D.Disk.identity l.salvage.disk.now) (g.D.Disk.moments l.salvage.disk.now);
  same : IsSameSalvage l.initial.salvage.image l.salvage.image;
  bytes : length l.bytes ≡ block_size l.initial.salvage.image;
  few : l.bad ≤ l.salvage.image.told;
  identity : g.D.Disk.identity l.salvage.disk.now ≡ g.D.Disk.identity l.initial.salvage.disk.now;
  moments : g.D.Disk.moments l.salvage.disk.now ≡ g.D.Disk.moments l.initial.salvage.disk.now;
  same_disk : l.salvage.disk.ghost_name ≡ l.initial.salvage.disk.ghost_name;
  disk_faults : g.D.Counted.faults l.salvage.disk.now ≡ g.D.Counted.faults l.initial.salvage.disk.now;
  sink_faults : g.O.Counted.faults l.out ≡ g.O.Counted.faults l.initial.out;
  told : HasNow (λ c. IsToldTo (salvaged_format l.initial.salvage.image (g.D.Disk.identity l.initial.salvage.disk.now).sectors (last_image c)) (last_image c)
      l.salvage.image.told l.bad (g.O.Sink.held l.initial.out) (g.O.Sink.held l.out)) (g.D.Disk.moments l.initial.salvage.disk.now);
}

abbrev pub decreases-lines : goal.decreases-lines
decreases-lines g l = blocks_of l.initial.salvage.image - l.salvage.image.told
