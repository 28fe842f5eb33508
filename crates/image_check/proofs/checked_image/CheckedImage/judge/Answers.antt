use Rattle.std.proofs.Common.{sym, ◌∙◌}
use Rattle.image_check.proofs.CheckedLemmas.{passed_told, placed_told}
use Rattle.image_check.proofs.checked_image.CheckedImage.judge.Goals as goal

pub returns-then-passed-clause-bad : goal.returns-then-passed-clause-bad
returns-then-passed-clause-bad g c =
    passed_told _ c.args.self.now (g.D.Disk.identity c.args.disk.now) (g.D.Disk.moments c.args.disk.now) c.args.block c.self.view_is c.requires.image
    (λ x told. sym c.if-passed.true ∙ c.in_ok-passed.ensures.passed x told)

pub returns-clause-bad : goal.returns-clause-bad
returns-clause-bad g c =
    placed_told _ c.args.self.now (g.D.Disk.identity c.args.disk.now) (g.D.Disk.moments c.args.disk.now) c.args.block c.self.view_is c.requires.image
    c.judge_placed.result (g.D.Disk.moments c.is_passed.new.disk) c.is_passed.ensures.kept (λ x told. sym c.if-passed.false ∙ c.in_ok-passed.ensures.passed x told)
    c.judge_placed.ensures.bad
