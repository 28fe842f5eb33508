use Rattle.hmac_tag.specs.TagMaker.{key_of}
use Rattle.command_mirror.proofs.ReadLemmas.{none_taken, read_none}
use Rattle.command_mirror.proofs.RefusedLemmas.{nothing_begun}
use Rattle.command_mirror.proofs.mirroring.mirror_images.Goals as goal

pub returns-in_default-clause-runs : goal.returns-in_default-clause-runs
returns-in_default-clause-runs g c script told start told_start second_start told_second =
    nothing_begun c.args.consent (key_of c.args.hash) (g.D.Disk.identity c.args.disk.now).sectors
    (g.E.Disk.identity c.args.second.now).sectors (g.D.Disk.moments c.args.disk.now)
    (g.E.Disk.moments c.args.second.now) start second_start told_start told_second script
    (g.O.Sink.held c.args.out.now)

pub returns-in_default-clause-read : goal.returns-in_default-clause-read
returns-in_default-clause-read g c = (
  none_taken _ _,
  λ script told start told_start second_start told_second. read_none _ script _ _ _ told,
)

pub returns-in_default-new-clause-runs : goal.returns-in_default-new-clause-runs
returns-in_default-new-clause-runs g c script told start told_start second_start told_second =
    nothing_begun c.args.consent (key_of c.args.hash) (g.D.Disk.identity c.args.disk.now).sectors
    (g.E.Disk.identity c.args.second.now).sectors (g.D.Disk.moments c.args.disk.now)
    (g.E.Disk.moments c.args.second.now) start second_start told_start told_second script
    (g.O.Sink.held c.args.out.now)

pub returns-in_default-new-clause-read : goal.returns-in_default-new-clause-read
returns-in_default-new-clause-read g c = (
  none_taken _ _,
  λ script told start told_start second_start told_second. read_none _ script _ _ _ told,
)
