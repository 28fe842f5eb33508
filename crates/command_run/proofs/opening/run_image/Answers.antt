use Rattle.std.proofs.Common.{refl, rules}
use Rattle.disk_model.specs.Disk.{last_image}
use Rattle.disk_model.proofs.MomentsLemmas.{no_moment}
use Rattle.run_model.specs.Ending.{NoMemory}
use Rattle.hmac_tag.specs.TagMaker.{key_of}
use Rattle.device.specs.Opening.{asked_mode}
use Rattle.device.proofs.TagsLemmas.{still_kept}
use Rattle.command_task.specs.declared.asked.Task.TheVariants as Tasks
use Rattle.command_task.specs.Opening.{IsMomentOn}
use Rattle.command_task.specs.Outset.{run_outset}
use Rattle.command_task.specs.Running.{ending_by}
use Rattle.command_task.proofs.ClosedLemmas.{closes_kept}
use Rattle.command_run.proofs.OpeningLemmas.{given_back, unread_kept}
use Rattle.command_task.proofs.OutsetLemmas.{fine_on}
use Rattle.command_task.proofs.UnbegunLemmas.{before_kept, nothing_run, read_none}
use Rattle.command_run.proofs.TakenLemmas.{none_taken}
use Rattle.command_run.proofs.opening.run_image.Goals as goal

pub returns-in_default-clause-runs : goal.returns-in_default-clause-runs
returns-in_default-clause-runs g c left told start told_start =
    let mode = c.args.mode in
    let key = key_of c.args.hash in
    let disk = g.D.Disk.identity c.args.disk.now in
    let outset = run_outset mode key disk.sectors (last_image start) in
    let before = g.D.Disk.moments c.args.disk.now in (
      nothing_run outset (fine_on mode key disk.sectors (last_image start)) start left NoMemory tt before
          (before_kept outset start told_start refl) _ _ refl,
      no_moment before (IsMomentOn mode key disk.sectors start left),
      still_kept (asked_mode mode) refl,
    )

pub returns-in_default-clause-taken : goal.returns-in_default-clause-taken
returns-in_default-clause-taken g c = none_taken _ _ _ refl

pub returns-in_default-clause-ahead : goal.returns-in_default-clause-ahead
returns-in_default-clause-ahead g c left told start told_start = read_none _ left _ _ told

pub returns-clause-runs : goal.returns-clause-runs
returns-clause-runs g c left told start told_start =
    given_back c.args.mode (key_of c.args.hash) (g.D.Disk.identity c.args.disk.now).sectors start left
    (ending_by c.run_device.new.ended) (g.D.Disk.moments c.args.disk.now) _ _
    (c.run_device.ensures.runs left told start told_start) (search rules)

pub returns-clause-taken : goal.returns-clause-taken
returns-clause-taken g c = c.run_device.ensures.taken

pub returns-clause-ahead : goal.returns-clause-ahead
returns-clause-ahead g c = c.run_device.ensures.ahead

pub returns-in_default-clause-closed : goal.returns-in_default-clause-closed
returns-in_default-clause-closed g c = tt

pub returns-clause-closed : goal.returns-clause-closed
returns-clause-closed g c =
    closes_kept g.D.Disk.identity g.D.Disk.moments g.S.Source.left (Tasks.Run c.args.mode) (key_of c.args.hash) c.run_device.new.ended
    c.args.disk.now _ _ c.args.script.now c.run_device.ensures.closed (search rules)

pub returns-in_default-clause-unread : goal.returns-in_default-clause-unread
returns-in_default-clause-unread g c =
    record { before = λ before. refl; none = λ none. refl; unopened = λ memory left told same. refl }

pub returns-clause-unread : goal.returns-clause-unread
returns-clause-unread g c = unread_kept c.run_device.ensures.unread (search rules)
