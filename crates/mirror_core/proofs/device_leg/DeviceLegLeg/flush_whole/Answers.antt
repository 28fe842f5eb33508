use Rattle.std.proofs.Common.{suc}
use Rattle.device_model.specs.Submission.{Submission}
use Rattle.mirror_core.proofs.LegLemmas.{stands_leaves, stands_more}
use Rattle.mirror_core.proofs.TakenLemmas.{flush_taken}
use Rattle.mirror_core.proofs.device_leg.DeviceLegLeg.flush_whole.Goals as goal

pub run_whole-requires-clause-taken : goal.run_whole-requires-clause-taken
run_whole-requires-clause-taken g c =
    let leg = c.requires.ready in
    flush_taken c.args.self.now.device.parts c.args.self.now.device.condition leg.mode leg.works.is leg.none

pub returns-in_err-_reply-clause-moments : goal.returns-in_err-_reply-clause-moments
returns-in_err-_reply-clause-moments g c on s stands =
    stands_leaves c.args.self.now.device.parts (g.D.Disk.moments c.args.self.now.device.disk.now) on s.history stands
    Submission.Flush (suc s.submitted)
    (g.D.Disk.moments c.run_whole.new.device.disk.now) (c.run_whole.ensures.left stands.w stands.rests)

pub returns-clause-stands : goal.returns-clause-stands
returns-clause-stands g c on s stands =
    stands_more c.args.self.now.device.parts (g.D.Disk.moments c.args.self.now.device.disk.now) on s.history stands
    Submission.Flush (suc s.submitted) c.in_ok-_reply._reply
    c.run_whole.new.device.parts (g.D.Disk.moments c.run_whole.new.device.disk.now) (c.in_ok-_reply.ensures.ran stands.w stands.rests)

pub returns-clause-moments : goal.returns-clause-moments
returns-clause-moments g c on s stands =
    stands_leaves c.args.self.now.device.parts (g.D.Disk.moments c.args.self.now.device.disk.now) on s.history stands
    Submission.Flush (suc s.submitted)
    (g.D.Disk.moments c.run_whole.new.device.disk.now) (c.run_whole.ensures.left stands.w stands.rests)
