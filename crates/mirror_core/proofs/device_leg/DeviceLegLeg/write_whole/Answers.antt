use Rattle.std.proofs.Common.{suc}
use Rattle.mirror_core.proofs.LegLemmas.{write_leaves, write_more}
use Rattle.mirror_core.proofs.AnsweredLemmas.{bytes_back, of_write}
use Rattle.mirror_core.proofs.TakenLemmas.{write_taken}
use Rattle.mirror_core.proofs.device_leg.DeviceLegLeg.write_whole.Goals as goal

pub run_whole-requires-clause-taken : goal.run_whole-requires-clause-taken
run_whole-requires-clause-taken g c =
    let leg = c.requires.ready in
    write_taken c.args.self.now.device.parts c.args.self.now.device.condition leg.mode leg.works.is leg.none
    c.args.first c.args.count c.args.bytes c.args.fua c.requires.blocks.some c.requires.blocks.there c.requires.blocks.bytes_

pub returns-in_err-reply-clause-moments : goal.returns-in_err-reply-clause-moments
returns-in_err-reply-clause-moments g c on s stands =
    write_leaves c.args.self.now.device.parts (g.D.Disk.moments c.args.self.now.device.disk.now) on s.history stands
    (suc s.submitted) c.args.first c.args.count c.args.bytes c.args.fua
    (g.D.Disk.moments c.run_whole.new.device.disk.now) (c.run_whole.ensures.left stands.w stands.rests)

pub written_in-requires : goal.written_in-requires
written_in-requires g c = of_write c.args.bytes c.in_ok-reply.reply c.in_ok-reply.ensures.answered

pub returns-clause-back : goal.returns-clause-back
returns-clause-back g c = bytes_back c.args.bytes c.written_in.result c.in_ok-reply.reply c.in_ok-reply.ensures.answered c.written_in.ensures

pub returns-clause-stands : goal.returns-clause-stands
returns-clause-stands g c on s stands =
    write_more c.args.self.now.device.parts (g.D.Disk.moments c.args.self.now.device.disk.now) on s.history stands
    (suc s.submitted) c.args.first c.args.count c.args.bytes c.args.fua c.in_ok-reply.reply
    c.run_whole.new.device.parts (g.D.Disk.moments c.run_whole.new.device.disk.now) (c.in_ok-reply.ensures.ran stands.w stands.rests)

pub returns-clause-moments : goal.returns-clause-moments
returns-clause-moments g c on s stands =
    write_leaves c.args.self.now.device.parts (g.D.Disk.moments c.args.self.now.device.disk.now) on s.history stands
    (suc s.submitted) c.args.first c.args.count c.args.bytes c.args.fua
    (g.D.Disk.moments c.run_whole.new.device.disk.now) (c.run_whole.ensures.left stands.w stands.rests)
