use Rattle.std.proofs.Common.{suc}
use Rattle.device_model.specs.Submission.{Submission}
use Rattle.mirror_core.proofs.LegLemmas.{stands_leaves, stands_more}
use Rattle.mirror_core.proofs.AnsweredLemmas.{of_read, read_among, read_as_long}
use Rattle.mirror_core.proofs.LegReadLemmas.{read_gives}
use Rattle.mirror_core.proofs.TakenLemmas.{read_taken}
use Rattle.mirror_core.proofs.device_leg.DeviceLegLeg.read_whole.Goals as goal

pub run_whole-requires-clause-taken : goal.run_whole-requires-clause-taken
run_whole-requires-clause-taken g c =
    let leg = c.requires.ready in
    read_taken c.args.self.now.device.parts c.args.self.now.device.condition leg.mode leg.works.is leg.none
    c.args.first c.args.count c.args.buffer c.requires.blocks.some c.requires.blocks.there c.requires.blocks.bytes_

pub returns-in_err-reply-clause-moments : goal.returns-in_err-reply-clause-moments
returns-in_err-reply-clause-moments g c on s stands =
    stands_leaves c.args.self.now.device.parts (g.D.Disk.moments c.args.self.now.device.disk.now) on s.history stands
    (Submission.Read c.args.first c.args.count c.args.buffer) (suc s.submitted)
    (g.D.Disk.moments c.run_whole.new.device.disk.now) (c.run_whole.ensures.left stands.w stands.rests)

pub read_in-requires : goal.read_in-requires
read_in-requires g c = of_read c.args.first c.args.count c.args.buffer c.in_ok-reply.reply c.in_ok-reply.ensures.answered

pub returns-clause-read : goal.returns-clause-read
returns-clause-read g c on s stands =
    let run = c.in_ok-reply.ensures.ran stands.w stands.rests in
    read_gives c.args.self.now.device.parts (g.D.Disk.moments c.args.self.now.device.disk.now) on s.history stands
    c.args.first c.args.count c.args.buffer c.requires.blocks.there c.requires.blocks.bytes_
    c.in_ok-reply.reply c.run_whole.new.device.parts (g.D.Disk.moments c.run_whole.new.device.disk.now) run c.read_in.result c.read_in.ensures

pub returns-clause-among : goal.returns-clause-among
returns-clause-among g c =
    read_among c.args.first c.args.count c.args.buffer c.in_ok-reply.reply c.in_ok-reply.ensures.answered c.read_in.result c.read_in.ensures

pub returns-clause-buffer : goal.returns-clause-buffer
returns-clause-buffer g c =
    read_as_long c.args.first c.args.count c.args.buffer c.in_ok-reply.reply c.in_ok-reply.ensures.answered c.read_in.result c.read_in.ensures

pub returns-clause-stands : goal.returns-clause-stands
returns-clause-stands g c on s stands =
    stands_more c.args.self.now.device.parts (g.D.Disk.moments c.args.self.now.device.disk.now) on s.history stands
    (Submission.Read c.args.first c.args.count c.args.buffer) (suc s.submitted) c.in_ok-reply.reply
    c.run_whole.new.device.parts (g.D.Disk.moments c.run_whole.new.device.disk.now) (c.in_ok-reply.ensures.ran stands.w stands.rests)

pub returns-clause-moments : goal.returns-clause-moments
returns-clause-moments g c on s stands =
    stands_leaves c.args.self.now.device.parts (g.D.Disk.moments c.args.self.now.device.disk.now) on s.history stands
    (Submission.Read c.args.first c.args.count c.args.buffer) (suc s.submitted)
    (g.D.Disk.moments c.run_whole.new.device.disk.now) (c.run_whole.ensures.left stands.w stands.rests)
