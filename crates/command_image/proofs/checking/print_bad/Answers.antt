use Rattle.std.proofs.Common.{◌<◌, refl, ap, ◌∙◌, arith}
use Rattle.image_format.specs.declared.reading.ImageFormat.{ImageFormat}
use Rattle.image_check.proofs.CheckedLemmas.{IsSameCheck-refl, IsSameCheck-then}
use Rattle.command_image.proofs.CheckingLemmas.{cut_by_disk, cut_by_sink, listed_all, listed_next, listed_none}
use Rattle.command_image.proofs.checking.print_bad.Goals as goal

pub judge-requires-clause-block : goal.judge-requires-clause-block
judge-requires-clause-block g c =
    omega (arith, c.loop-block-test.true, c.blocks-block-end.ensures, ap (λ (f : ImageFormat). f.geometry.blocks) c.loop-block.invariant.same.format)

pub loop-block-init : goal.loop-block-init
loop-block-init g c = record {
  image = c.requires;
  same = IsSameCheck-refl c.args.image.now;
  identity = refl;
  moments = refl;
  disk_faults = refl;
  sink_faults = refl;
  listed = listed_none c.args.image.now (g.D.Disk.identity c.args.disk.now).sectors (g.D.Disk.moments c.args.disk.now) (g.O.Sink.held c.args.out.now);
}

pub loop-block-preserved : goal.loop-block-preserved
loop-block-preserved g c =
    let inv = c.loop-block.invariant in
    let low : c.loop-block.block < c.args.image.now.format.geometry.blocks = omega (arith, c.loop-block-test.true, c.blocks-block-end.ensures) in
    record {
      image = c.judge.ensures.image;
      same = IsSameCheck-then c.args.image.now c.loop-block.image c.judge.new.self inv.same c.judge.ensures.same;
      identity = c.judge.ensures.identity ∙ inv.identity;
      moments = c.judge.ensures.kept ∙ inv.moments;
      disk_faults = c.in-Ok.ensures.cause.passed ∙ inv.disk_faults;
      sink_faults = c.in-Ok-put_found.ensures.cause.passed ∙ inv.sink_faults;
      listed = listed_next c.args.image.now c.loop-block.image (g.D.Disk.identity c.args.disk.now) (g.D.Disk.identity c.loop-block.disk) (g.D.Disk.moments c.args.disk.now) (g.D.Disk.moments c.loop-block.disk)
          c.requires inv.same inv.identity inv.moments (g.O.Sink.held c.args.out.now) (g.O.Sink.held c.loop-block.out)
          c.loop-block.block c.loop-block.bad c.in-Ok-put_found.more c.in-Ok.found (g.O.Sink.held c.put_found.new.out) low
          c.in-Ok.ensures.bad inv.listed c.in-Ok-put_found.ensures.listed;
    }

pub returns-in_default-clause-cut : goal.returns-in_default-clause-cut
returns-in_default-clause-cut g c =
    let inv = c.loop-block.invariant in
    cut_by_disk c.args.image.now c.loop-block.image (g.D.Disk.identity c.args.disk.now) (g.D.Disk.identity c.loop-block.disk) (g.D.Disk.moments c.args.disk.now) (g.D.Disk.moments c.loop-block.disk)
    c.requires inv.same inv.identity inv.moments (g.O.Sink.held c.args.out.now) (g.O.Sink.held c.loop-block.out)
    c.loop-block.block c.loop-block.bad inv.listed

pub returns-in_default-put_found-clause-cut : goal.returns-in_default-put_found-clause-cut
returns-in_default-put_found-clause-cut g c =
    let inv = c.loop-block.invariant in
    let low : c.loop-block.block < c.args.image.now.format.geometry.blocks = omega (arith, c.loop-block-test.true, c.blocks-block-end.ensures) in
    cut_by_sink c.args.image.now c.loop-block.image (g.D.Disk.identity c.args.disk.now) (g.D.Disk.identity c.loop-block.disk) (g.D.Disk.moments c.args.disk.now) (g.D.Disk.moments c.loop-block.disk)
    c.requires inv.same inv.identity inv.moments (g.O.Sink.held c.args.out.now) (g.O.Sink.held c.loop-block.out)
    c.loop-block.block c.loop-block.bad c.in-Ok.found (g.O.Sink.held c.put_found.new.out) low
    c.in-Ok.ensures.bad inv.listed c.in_default-put_found.ensures.err

pub returns-clause-listed : goal.returns-clause-listed
returns-clause-listed g c =
    let inv = c.loop-block.invariant in
    listed_all c.args.image.now c.loop-block.image (g.D.Disk.identity c.args.disk.now) (g.D.Disk.identity c.loop-block.disk) (g.D.Disk.moments c.args.disk.now) (g.D.Disk.moments c.loop-block.disk)
    c.requires inv.same inv.identity inv.moments (g.O.Sink.held c.args.out.now) (g.O.Sink.held c.loop-block.out)
    c.loop-block.block c.loop-block.bad (omega (arith, c.loop-block-test.false, c.blocks-block-end.ensures)) inv.listed
