use Rattle.std.proofs.Common.{ap, ◌∙◌, arith}
use Rattle.disk_model.specs.Disk.{last_image}
use Rattle.disk_model.specs.Moments.{content_now}
use Rattle.image_model.specs.Bitmap.{awaits}
use Rattle.image_model.proofs.Regions.{blocks-low}
use Rattle.image_check.proofs.CheckedLemmas.{count_next, one_few}
use Rattle.image_check.proofs.passing.count_awaiting.Goals as goal

pub count_with-count-requires : goal.count_with-count-requires
count_with-count-requires g c =
    let few = blocks-low c.args.format.now.geometry (g.D.Disk.identity c.args.disk.now).sectors c.requires.format.geometry in
    omega (arith, few, c.loop-block.invariant.few, c.loop-block-test.true, c.blocks-block-end.ensures.blocks)

pub loop-block-preserved : goal.loop-block-preserved
loop-block-preserved g c =
    let inv = c.loop-block.invariant in
    let format = c.args.format.now in
    record {
      bits = c.is_awaiting.ensures.bits;
      identity = c.is_awaiting.ensures.identity ∙ inv.identity;
      moments = c.is_awaiting.ensures.kept ∙ inv.moments;
      faults = c.in_ok-awaiting.ensures.cause.passed ∙ inv.faults;
      few = omega (arith, c.count_with-count.ensures, one_few c.in_ok-awaiting.awaiting, inv.few);
      counted = λ x told.
          c.count_with-count.ensures
          ∙ count_next (awaits format.fields format.geometry (last_image x)) c.loop-block.block c.loop-block.count c.in_ok-awaiting.awaiting
          (inv.counted x told) (c.in_ok-awaiting.ensures.awaiting x (ap content_now inv.moments ∙ told));
    }
