use Rattle.image_check.proofs.CheckedLemmas.{awaiting_told}
use Rattle.image_check.proofs.checked_image.CheckedImage.count_awaiting.Goals as goal

pub returns-clause-awaiting : goal.returns-clause-awaiting
returns-clause-awaiting g c =
    awaiting_told _ c.args.self.now (g.D.Disk.identity c.args.disk.now) (g.D.Disk.moments c.args.disk.now) c.count_awaiting.result c.self.view_is c.requires.image c.count_awaiting.ensures.awaiting
