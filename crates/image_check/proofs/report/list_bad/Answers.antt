use Rattle.std.proofs.Common.{refl, ap, ◌∙◌, arith, rules}
use Rattle.image_format.specs.declared.reading.ImageFormat.{ImageFormat}
use Rattle.image_check.proofs.CheckedLemmas.{lists-all, lists-next, IsSameCheck-refl, IsSameCheck-then}
use Rattle.image_check.proofs.report.list_bad.Goals as goal

pub judge-requires-clause-block : goal.judge-requires-clause-block
judge-requires-clause-block g c =
    omega (arith, c.loop-block-test.true, c.blocks-block-end.ensures, ap (λ (f : ImageFormat). f.geometry.blocks) c.loop-block.invariant.same.format)

pub loop-block-init : goal.loop-block-init
loop-block-init g c = record {
  image = c.requires.image;
  same = IsSameCheck-refl c.args.image.now;
  identity = refl;
  moments = refl;
  faults = refl;
  lists = λ x told. search rules;
}

pub loop-block-preserved : goal.loop-block-preserved
loop-block-preserved g c =
    let inv = c.loop-block.invariant in
    record {
      image = c.judge.ensures.image;
      same = IsSameCheck-then c.args.image.now c.loop-block.image c.judge.new.self inv.same c.judge.ensures.same;
      identity = c.judge.ensures.identity ∙ inv.identity;
      moments = c.judge.ensures.kept ∙ inv.moments;
      faults = c.in_ok-found.ensures.cause.passed ∙ inv.faults;
      lists = λ x told.
          c.in_ok-add_found.ensures
          ∙ lists-next c.args.image.now c.loop-block.image (g.D.Disk.identity c.args.disk.now) (g.D.Disk.identity c.loop-block.disk) (g.D.Disk.moments c.args.disk.now) (g.D.Disk.moments c.loop-block.disk)
          c.requires.image inv.same inv.identity inv.moments c.loop-block.block c.in_ok-found.found c.loop-block.list.items c.in_ok-found.ensures.bad inv.lists x told;
    }

pub returns-clause-bad : goal.returns-clause-bad
returns-clause-bad g c =
    let inv = c.loop-block.invariant in
    lists-all c.args.image.now c.loop-block.image (g.D.Disk.identity c.args.disk.now) (g.D.Disk.identity c.loop-block.disk) (g.D.Disk.moments c.args.disk.now) (g.D.Disk.moments c.loop-block.disk)
    c.requires.image inv.same inv.identity inv.moments c.loop-block.block c.loop-block.list.items (omega (arith, c.loop-block-test.false, c.loop-block.auto.block-end, c.blocks-block-end.ensures)) inv.lists
