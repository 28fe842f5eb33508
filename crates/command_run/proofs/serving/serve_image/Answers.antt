use Rattle.std.proofs.Common.{List, sym, subst, rules}
use Rattle.disk_model.specs.Disk.{Content, last_image}
use Rattle.hmac_tag.specs.TagMaker.{key_of}
use Rattle.command_task.specs.declared.asked.Task.TheVariants as Tasks
use Rattle.command_task.specs.Opening.{HasRunIn}
use Rattle.command_task.specs.Order.{HasMomentsAt}
use Rattle.command_task.specs.Outset.{task_outset}
use Rattle.command_task.specs.Running.{ending_by}
use Rattle.command_task.proofs.ClosedLemmas.{closes_kept}
use Rattle.command_run.proofs.serving.serve_image.Goals as goal

pub returns-clause-runs : goal.returns-clause-runs
returns-clause-runs g c left told start told_start =
    let key = key_of c.args.hash in
    let sectors = (g.D.Disk.identity c.args.disk.now).sectors in
    let before = g.D.Disk.moments c.args.disk.now in
    subst (λ (m : List Content). HasRunIn (task_outset (Tasks.Serve c.args.mode) key sectors (last_image start)) c.serve_device.new.telling start left
    (ending_by c.serve_device.new.ended) m (g.O.Sink.held c.args.out.now) (g.O.Sink.held c.serve_device.new.out)
    × HasMomentsAt (Tasks.Serve c.args.mode) key sectors start left before m) (search rules) (c.serve_device.ensures.runs left told start told_start)

pub returns-clause-closed : goal.returns-clause-closed
returns-clause-closed g c =
    closes_kept g.D.Disk.identity g.D.Disk.moments g.S.Source.left (Tasks.Serve c.args.mode) (key_of c.args.hash) c.serve_device.new.ended
    c.args.disk.now _ _ c.args.script.now c.serve_device.ensures.closed (search rules)

pub returns-clause-unread : goal.returns-clause-unread
returns-clause-unread g c = record {
  before = c.serve_device.ensures.unread.before;
  none = c.serve_device.ensures.unread.none;
  unopened = λ memory left told same. tt;
}

pub returns-clause-taken : goal.returns-clause-taken
returns-clause-taken g c = c.serve_device.ensures.taken

pub returns-clause-ahead : goal.returns-clause-ahead
returns-clause-ahead g c = c.serve_device.ensures.ahead
