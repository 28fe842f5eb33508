use Rattle.std.proofs.Common.{◌≡◌, ℕ, List, Option, Some, Result, IfErr, OnOk, refl, sym, ap, subst, ◌∙◌}
use Rattle.disk_model.specs.Causes.{Rose}
use Rattle.disk_model.specs.Disk.{Content, last_image}
use Rattle.disk_model.specs.Moments.{HasNow}
use Rattle.run_model.specs.Ending.{Ending}
use Rattle.hmac_tag.specs.TagMaker.{key_of}
use Rattle.device.specs.Opening.{asked_mode}
use Rattle.device_parts.specs.Device.{opened_standing}
use Rattle.nbd_flight.specs.Deeds.{Scene, scene_of}
use Rattle.nbd_session.specs.Ending.{end_of}
use Rattle.nbd_session.specs.Session.{Outside, most_read, outside_of}
use Rattle.nbd_session.proofs.EndingLemmas.{session_came}
use Rattle.script_text.specs.declared.tags_found.TagsFound.{TagsFound}
use Rattle.command_ending.specs.Ended.{ending_of}
use Rattle.command_ending.specs.declared.ended.Ended.{Ended}
use Rattle.command_ending.specs.declared.ended.Ended.TheVariants as Endings
use Rattle.command_task.specs.declared.asked.Task.TheVariants as Tasks
use Rattle.command_task.specs.declared.telling.Telling.TheVariants.{Lines, Replies}
use Rattle.command_task.specs.Closed.{IsClosedAt}
use Rattle.command_task.specs.Running.{IsBeforeScript}
use Rattle.script_lines.specs.Ends.{HasEndCause, IsCounted}
use Rattle.command_task.specs.Opening.{EndsImage, HasRunIn}
use Rattle.command_task.specs.Order.{HasMomentsAt}
use Rattle.command_task.specs.Outset.{task_outset}
use Rattle.command_task.specs.Refusing.{ended_by_opening}
use Rattle.command_run.specs.Serving.{ended_by_session}
use Rattle.command_task.proofs.WritingLemmas.{still_opened}
use Rattle.command_run.proofs.ServingLemmas.{cause_by_session, closed_by_session, counted_by_session, ends_by_session, read_by_session, serving_content, serving_moments, serving_new, serving_refused, session_closed, session_end, session_moments, session_ran, session_read}
use Rattle.command_task.proofs.UnbegunLemmas.{read_none}
use Rattle.command_run.proofs.TakenLemmas.{none_taken, taken_at_most}
use Rattle.command_run.proofs.serving.serve_device.Goals as goal
use Rattle.run_model.specs.declared.outer.Outer.TheVariants as outers

pub returns-in-Err-clause-runs : goal.returns-in-Err-clause-runs
returns-in-Err-clause-runs g c left told start told_start =
    let mode = c.args.mode in
    let key = key_of c.args.hash in
    let disk = g.D.Disk.identity c.args.disk.now in
    let before = g.D.Disk.moments c.args.disk.now in
    let refused = g.D.Disk.moments c.in-Err.refused.disk.now in
    let held = g.O.Sink.held c.args.out.now in
    let leaves = c.in-Err.ensures.err in
    let law = c.images_that_open_have_no_fault.ensures in
    let outset = task_outset (Tasks.Serve mode) key disk.sectors (last_image start) in
    subst (λ (m : List Content). HasRunIn outset Lines start left (ending_of c.ended_by_opening.result) m held held
    × HasMomentsAt (Tasks.Serve mode) key disk.sectors start left before m) (sym (ap g.D.Disk.moments c.handed_back-fault.ensures.disk)) (
      subst (λ (e : Ended). HasRunIn outset Lines start left (ending_of e) refused held held)
          (sym (c.ended_by_opening.ensures ∙ ap ended_by_opening c.handed_back-fault.ensures.fault))
          (serving_refused law mode c.requires.writes key disk _ before refused start told_start left leaves held c.in-Err.refused.fault c.in-Err.ensures.refused),
      record {
        each = serving_moments law mode c.requires.writes key disk _ before refused start told_start left leaves;
        order = still_opened mode key disk.sectors before refused leaves.writes;
      },
    )

pub returns-in-Ok-clause-runs : goal.returns-in-Ok-clause-runs
returns-in-Ok-clause-runs g c left told start told_start =
    let mode = c.args.mode in
    let key = key_of c.args.hash in
    let disk = g.D.Disk.identity c.args.disk.now in
    let law = c.images_that_open_have_no_fault.ensures in
    let leaves = c.in-Ok.ensures.leaves in
    let made = serving_content law mode c.requires.writes key disk _ _ _ start told_start left leaves in
    let w = opened_standing (asked_mode mode) key disk.sectors (last_image start) (last_image made.0) in
    let opened = c.in-Ok.ensures.opened in
    let device = opened.device start told_start made.0 made.1 in
    let blocks = opened.blocks start told_start made.0 made.1 in
    let none = c.in-Ok.ensures.accepted start told_start in
    let new_device = serving_new law mode c.requires.writes key disk _ _ _ start told_start left leaves none (last_image made.0) in
    let reads = g.met.D.Disk.reads_an_image c.in-Ok.device.disk.now made.0 made.1 in
    let after = g.D.Disk.moments c.session-served.result.1.now in
    let held_before = g.O.Sink.held c.args.out.now in
    let held = g.O.Sink.held c.session-served.new.sink in
    let source = g.S.Source.left c.args.script.now in
    let old : Scene = scene_of g.D.Disk.moments g.O.Sink.held c.in-Ok.device.parts c.in-Ok.device.disk.now c.args.out.now in
    let new : Outside = outside_of g.D.Disk.moments g.O.Sink.held c.session-served.result.1.now c.session-served.new.sink in
    let end = end_of c.session-served.result.0 in
    let came = session_came w new_device source old new c.session-served.result.0 device c.session-served.ensures.served c.session-served.ensures.stopped in (
      subst (λ (e : Ending). HasRunIn (task_outset (Tasks.Serve mode) key disk.sectors (last_image start)) Replies start left e after held_before held)
          (session_end c.session-served.result.0 _ c.ended_by_session.ensures)
          (session_ran law mode c.requires.writes key disk _ _ _ start told_start left leaves none made.0 made.1 reads c.in-Ok.device.parts opened.asked_ device blocks
          source told end after held_before held came),
      session_moments law mode c.requires.writes key disk _ _ _ start told_start left leaves none made.0 made.1 reads c.in-Ok.device.parts opened.asked_ device blocks
          source told end after held_before held came,
    )

pub returns-in-Err-clause-closed : goal.returns-in-Err-clause-closed
returns-in-Err-clause-closed g c = tt

pub returns-in-Ok-clause-closed : goal.returns-in-Ok-clause-closed
returns-in-Ok-clause-closed g c =
    let mode = c.args.mode in
    let key = key_of c.args.hash in
    let disk = g.D.Disk.identity c.args.disk.now in
    let before = g.D.Disk.moments c.args.disk.now in
    let after = g.D.Disk.moments c.session-served.result.1.now in
    let source = g.S.Source.left c.args.script.now in
    let old : Scene = scene_of g.D.Disk.moments g.O.Sink.held c.in-Ok.device.parts c.in-Ok.device.disk.now c.args.out.now in
    let new : Outside = outside_of g.D.Disk.moments g.O.Sink.held c.session-served.result.1.now c.session-served.new.sink in
    let Closes = (bytes : List ℕ) → source ≡ Some bytes → HasNow (λ x. HasNow (IsClosedAt (Tasks.Serve mode) key disk.sectors x bytes) after) before in
    subst (λ (r : Result TagsFound Ended). OnOk r Closes) (sym c.ended_by_session.ensures)
    (closed_by_session c.session-served.result.0 source old new Closes c.session-served.ensures.served (λ eio closes left told start told_start.
    let law = c.images_that_open_have_no_fault.ensures in
    let leaves = c.in-Ok.ensures.leaves in
    let made = serving_content law mode c.requires.writes key disk _ _ _ start told_start left leaves in
    let w = opened_standing (asked_mode mode) key disk.sectors (last_image start) (last_image made.0) in
    let opened = c.in-Ok.ensures.opened in
    let device = opened.device start told_start made.0 made.1 in
    let none = c.in-Ok.ensures.accepted start told_start in
    let new_device = serving_new law mode c.requires.writes key disk _ _ _ start told_start left leaves none (last_image made.0) in
    session_closed law mode c.requires.writes key disk _ _ _ start told_start left leaves none made.0 made.1
    (g.met.D.Disk.reads_an_image c.in-Ok.device.disk.now made.0 made.1) c.in-Ok.device.parts opened.asked_ device
    (opened.blocks start told_start made.0 made.1) source told eio old new (closes w device new_device)))

pub returns-in-Ok-clause-ahead : goal.returns-in-Ok-clause-ahead
returns-in-Ok-clause-ahead g c left told start told_start =
    let mode = c.args.mode in
    let key = key_of c.args.hash in
    let disk = g.D.Disk.identity c.args.disk.now in
    let law = c.images_that_open_have_no_fault.ensures in
    let leaves = c.in-Ok.ensures.leaves in
    let made = serving_content law mode c.requires.writes key disk _ _ _ start told_start left leaves in
    let w = opened_standing (asked_mode mode) key disk.sectors (last_image start) (last_image made.0) in
    let opened = c.in-Ok.ensures.opened in
    let device = opened.device start told_start made.0 made.1 in
    let none = c.in-Ok.ensures.accepted start told_start in
    let new_device = serving_new law mode c.requires.writes key disk _ _ _ start told_start left leaves none (last_image made.0) in
    session_read law mode c.requires.writes key disk _ _ _ start told_start left leaves none made.0 made.1
    (g.met.D.Disk.reads_an_image c.in-Ok.device.disk.now made.0 made.1) c.in-Ok.device.parts opened.asked_ device
    (opened.blocks start told_start made.0 made.1) (g.S.Source.left c.args.script.now) told _ _ _ (c.session-served.ensures.read.pieces w device new_device)

pub returns-in-Ok-clause-cause : goal.returns-in-Ok-clause-cause
returns-in-Ok-clause-cause g c =
    subst (λ (r : Result TagsFound Ended). IfErr r (HasEndCause (Rose (g.D.Counted.faults c.args.disk.now) (g.D.Counted.faults c.session-served.result.1.now))
    (Rose (g.S.Counted.faults c.args.script.now) (g.S.Counted.faults c.session-served.new.source))
    (Rose (g.O.Counted.faults c.args.out.now) (g.O.Counted.faults c.session-served.new.sink)))) (sym c.ended_by_session.ensures)
    (cause_by_session _ _ _ _ _ _ _ c.in-Ok.ensures.passed c.session-served.result.0 c.session-served.ensures.cause)

pub returns-in-Ok-clause-counted : goal.returns-in-Ok-clause-counted
returns-in-Ok-clause-counted g c =
    subst (λ (r : Result TagsFound Ended). IsCounted outers.Disk (g.D.Counted.faults c.args.disk.now) (g.D.Counted.faults c.session-served.result.1.now) r
    × IsCounted outers.Script (g.S.Counted.faults c.args.script.now) (g.S.Counted.faults c.session-served.new.source) r
    × IsCounted outers.Sink (g.O.Counted.faults c.args.out.now) (g.O.Counted.faults c.session-served.new.sink) r) (sym c.ended_by_session.ensures)
    (counted_by_session _ _ _ _ _ _ _ c.in-Ok.ensures.passed c.session-served.result.0 c.session-served.ensures.cause)

pub returns-in-Err-clause-unread : goal.returns-in-Err-clause-unread
returns-in-Err-clause-unread g c = record { before = λ before. refl; none = λ none. refl; unopened = λ memory left told same. tt }

pub returns-in-Ok-clause-unread : goal.returns-in-Ok-clause-unread
returns-in-Ok-clause-unread g c = record {
  before = subst (λ (r : Result TagsFound Ended). IfErr r (λ ended. IsBeforeScript ended → c.session-served.new.source ≡ c.args.script.now))
      (sym c.ended_by_session.ensures) (read_by_session _ c.session-served.result.0);
  none = λ none. absurd none;
  unopened = λ memory left told same. tt;
}

pub returns-in-Ok-clause-ends : goal.returns-in-Ok-clause-ends
returns-in-Ok-clause-ends g c =
    subst (λ (r : Result TagsFound Ended). IfErr r EndsImage) (sym c.ended_by_session.ensures) (ends_by_session c.session-served.result.0)

pub returns-in-Err-clause-ahead : goal.returns-in-Err-clause-ahead
returns-in-Err-clause-ahead g c left told start told_start = read_none _ left _ _ told

pub returns-in-Err-clause-taken : goal.returns-in-Err-clause-taken
returns-in-Err-clause-taken g c = none_taken _ _ _ refl

pub returns-in-Ok-clause-taken : goal.returns-in-Ok-clause-taken
returns-in-Ok-clause-taken g c = taken_at_most most_read _ _ c.session-served.ensures.read.most
