use Rattle.std.proofs.Common.{◌<◌, refl, sym, ap, ◌∙◌, arith}
use Rattle.image_format.specs.declared.reading.ImageFormat.{ImageFormat}
use Rattle.image_check.proofs.CheckedLemmas.{first-end, first-none, first-some, IsSameCheck-refl, IsSameCheck-then}
use Rattle.image_check.proofs.checked_image.CheckedImage.next_bad.Goals as goal

pub judge-requires-clause-block : goal.judge-requires-clause-block
judge-requires-clause-block g c =
    omega (arith, c.loop-block-test.true, c.blocks-block-end.ensures, ap (λ (f : ImageFormat). f.geometry.blocks) c.loop-block.invariant.same.format)

pub loop-block-init : goal.loop-block-init
loop-block-init g c = record {
  image = c.requires.image;
  same = IsSameCheck-refl c.args.self.now;
  identity = refl;
  moments = refl;
  faults = refl;
  none = λ x told. refl;
}

pub loop-block-preserved : goal.loop-block-preserved
loop-block-preserved g c =
    let inv = c.loop-block.invariant in
    let low : c.loop-block.block < c.args.self.now.format.geometry.blocks = omega (arith, c.loop-block-test.true, c.blocks-block-end.ensures) in
    record {
      image = c.judge.ensures.image;
      same = IsSameCheck-then c.args.self.now c.loop-block.self c.judge.new.self inv.same c.judge.ensures.same;
      identity = c.judge.ensures.identity ∙ inv.identity;
      moments = c.judge.ensures.kept ∙ inv.moments;
      faults = c.in_ok-bad.ensures.cause.passed ∙ inv.faults;
      none = first-none c.args.self.now c.loop-block.self (g.D.Disk.identity c.args.disk.now) (g.D.Disk.identity c.loop-block.disk) (g.D.Disk.moments c.args.disk.now) (g.D.Disk.moments c.loop-block.disk)
          c.requires.image inv.same inv.identity inv.moments c.args.from c.loop-block.block low (λ x told. sym c.in_default.is ∙ c.in_ok-bad.ensures.bad x told) inv.none;
    }

pub returns-in-Some-clause-bad : goal.returns-in-Some-clause-bad
returns-in-Some-clause-bad g c =
    let inv = c.loop-block.invariant in
    let low : c.loop-block.block < c.args.self.now.format.geometry.blocks = omega (arith, c.loop-block-test.true, c.blocks-block-end.ensures) in
    first-some c.args.self.now c.loop-block.self (g.D.Disk.identity c.args.disk.now) (g.D.Disk.identity c.loop-block.disk) (g.D.Disk.moments c.args.disk.now) (g.D.Disk.moments c.loop-block.disk)
    c.requires.image inv.same inv.identity inv.moments c.args.from c.loop-block.block c.in-Some.bad low (λ x told. sym c.in-Some.is ∙ c.in_ok-bad.ensures.bad x told) inv.none

pub returns-clause-bad : goal.returns-clause-bad
returns-clause-bad g c =
    let inv = c.loop-block.invariant in
    first-end c.args.self.now c.loop-block.self (g.D.Disk.identity c.args.disk.now) (g.D.Disk.identity c.loop-block.disk) (g.D.Disk.moments c.args.disk.now) (g.D.Disk.moments c.loop-block.disk)
    c.requires.image inv.same inv.identity inv.moments c.args.from c.loop-block.block (omega (arith, c.loop-block-test.false, c.blocks-block-end.ensures)) inv.none
