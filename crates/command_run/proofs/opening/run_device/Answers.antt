use Rattle.std.proofs.Common.{Result, IfErr, sym, subst, refl, ap, ◌∙◌}
use Rattle.disk_model.specs.Disk.{last_image}
use Rattle.run_model.specs.Ending.{Ending}
use Rattle.hmac_tag.specs.TagMaker.{key_of}
use Rattle.device.specs.Opening.{asked_mode}
use Rattle.place_model.specs.Changed.{opened_format}
use Rattle.place_model.specs.Format.{format_on}
use Rattle.place_model.specs.Kind.{kind_in}
use Rattle.device_parts.specs.Device.{opened_standing}
use Rattle.run_laws.proofs.ReadingLemmas.{has_run}
use Rattle.command_ending.specs.Ended.{ending_of}
use Rattle.command_run.specs.Closing.{close_ending}
use Rattle.command_task.specs.Opening.{EndsImage, HasRunOn}
use Rattle.command_task.specs.Outset.{run_outset}
use Rattle.command_task.specs.Refusing.{ended_by_opening}
use Rattle.command_task.specs.Running.{ending_by}
use Rattle.command_run.proofs.OpeningLemmas.{given_back, no_memory_at_close, opened_content, opening_moments, ran_on, read_at_close, read_at_lines, read_on_image, refused_by_memory, refused_by_opening, script_ends_image, taken_is_less}
use Rattle.command_task.proofs.WritingLemmas.{still_opened}
use Rattle.command_task.proofs.UnbegunLemmas.{read_further, read_none}
use Rattle.command_run.proofs.TakenLemmas.{none_taken}
use Rattle.command_run.proofs.ClosingLemmas.{closed_as, counted_by_close, ending_at_close, ends_at_close}
use Rattle.command_task.proofs.ClosedLemmas.{closed_behind}
use Rattle.command_task.proofs.EndedLemmas.{not_ended, same_ended}
use Rattle.script_text.specs.declared.tags_found.TagsFound.{TagsFound}
use Rattle.command_ending.specs.declared.ended.Ended.{Ended}
use Rattle.command_run.proofs.opening.run_device.Goals as goal

pub returns-in-Err-clause-runs : goal.returns-in-Err-clause-runs
returns-in-Err-clause-runs g c left told start told_start =
    let mode = c.args.mode in
    let key = key_of c.args.hash in
    let disk = g.D.Disk.identity c.args.disk.now in
    let before = g.D.Disk.moments c.args.disk.now in
    let refused = g.D.Disk.moments c.in-Err.refused.disk.now in
    let held = g.O.Sink.held c.args.out.now in
    let leaves = c.in-Err.ensures.err in
    let law = c.images_that_open_have_no_fault.ensures in
    let fault_is = c.handed_back-fault.ensures.fault in
    let ending = ending_of c.ended_by_opening.result in
    given_back mode key disk.sectors start left ending before held held (
      subst (λ (e : Ended). HasRunOn (run_outset mode key disk.sectors (last_image start)) start left (ending_of e) refused held held)
          (sym (c.ended_by_opening.ensures ∙ ap ended_by_opening fault_is))
          (refused_by_opening law mode key disk _ before refused start told_start left leaves held c.in-Err.refused.fault
          c.in-Err.ensures.refused),
      opening_moments law mode key disk _ before refused start told_start left leaves,
      still_opened mode key disk.sectors before refused leaves.writes,
    ) (ap g.D.Disk.moments c.handed_back-fault.ensures.disk)

pub returns-in-Ok-run_lines-clause-runs : goal.returns-in-Ok-run_lines-clause-runs
returns-in-Ok-run_lines-clause-runs g c left told start told_start =
    let mode = c.args.mode in
    let key = key_of c.args.hash in
    let disk = g.D.Disk.identity c.args.disk.now in
    let made = opened_content c.images_that_open_have_no_fault.ensures mode key disk _ _ _ start told_start left c.in-Ok.ensures.leaves in
    let w = opened_standing (asked_mode mode) key disk.sectors (last_image start) (last_image made.0) in
    let opened = c.in-Ok.ensures.opened in
    let run = has_run w.format w.state left in
    let at = c.in-Ok-run_lines.ensures.lines w left run.0 (opened.device start told_start made.0 made.1) told run.1 in
    let after = g.D.Disk.moments c.close-closed.result.1.now in
    let all = ran_on c.images_that_open_have_no_fault.ensures mode key disk _ _ _ start told_start left c.in-Ok.ensures.leaves (c.in-Ok.ensures.accepted start told_start)
    run.0 (close_ending c.close-closed.result.0) after _ _ run.1 made.0 made.1
    (g.met.D.Disk.reads_an_image c.in-Ok.device.disk.now made.0 made.1) c.in-Ok.device.parts opened.asked_ (opened.device start told_start made.0 made.1)
    (opened.blocks start told_start made.0 made.1)
    (at.leads _ _ _ (c.close-closed.ensures.stopped at.here at.device)) in (
      subst (λ (e : Ending). HasRunOn (run_outset mode key disk.sectors (last_image start)) start left e after
          (g.O.Sink.held c.args.out.now) (g.O.Sink.held c.close-closed.new.out))
          (sym (ap ending_by c.ended_by_close.ensures ∙ ending_at_close c.close-closed.result.0)) all.0,
      all.1,
      all.2,
    )

pub returns-in-Err-run_lines-clause-runs : goal.returns-in-Err-run_lines-clause-runs
returns-in-Err-run_lines-clause-runs g c left told start told_start =
    let mode = c.args.mode in
    let key = key_of c.args.hash in
    let disk = g.D.Disk.identity c.args.disk.now in
    let made = opened_content c.images_that_open_have_no_fault.ensures mode key disk _ _ _ start told_start left c.in-Ok.ensures.leaves in
    let w = opened_standing (asked_mode mode) key disk.sectors (last_image start) (last_image made.0) in
    let opened = c.in-Ok.ensures.opened in
    let run = has_run w.format w.state left in
    let ending = ending_of c.in-Err-run_lines.fault in
    given_back mode key disk.sectors start left ending (g.D.Disk.moments c.args.disk.now) _ _
    (ran_on c.images_that_open_have_no_fault.ensures mode key disk _ _ _ start told_start left c.in-Ok.ensures.leaves (c.in-Ok.ensures.accepted start told_start)
    run.0 ending (g.D.Disk.moments c.run_lines.new.device.disk.now) _ _ run.1 made.0 made.1
    (g.met.D.Disk.reads_an_image c.in-Ok.device.disk.now made.0 made.1) c.in-Ok.device.parts opened.asked_ (opened.device start told_start made.0 made.1)
    (opened.blocks start told_start made.0 made.1)
    (c.in-Err-run_lines.ensures.stopped w left run.0 (opened.device start told_start made.0 made.1) told run.1)) (ap g.D.Disk.moments c.give_back.ensures.disk)

pub returns-in-Err-clause-taken : goal.returns-in-Err-clause-taken
returns-in-Err-clause-taken g c = none_taken _ _ _ refl

pub returns-in-Err-clause-ahead : goal.returns-in-Err-clause-ahead
returns-in-Err-clause-ahead g c left told start told_start = read_none _ left _ _ told

pub returns-in-Ok-run_lines-clause-ahead : goal.returns-in-Ok-run_lines-clause-ahead
returns-in-Ok-run_lines-clause-ahead g c left told start told_start =
    let mode = c.args.mode in
    let key = key_of c.args.hash in
    let disk = g.D.Disk.identity c.args.disk.now in
    let made = opened_content c.images_that_open_have_no_fault.ensures mode key disk _ _ _ start told_start left c.in-Ok.ensures.leaves in
    let w = opened_standing (asked_mode mode) key disk.sectors (last_image start) (last_image made.0) in
    let opened = c.in-Ok.ensures.opened in
    let run = has_run w.format w.state left in
    let at = c.in-Ok-run_lines.ensures.lines w left run.0 (opened.device start told_start made.0 made.1) told run.1 in
    let stopped = c.close-closed.ensures.stopped at.here at.device in
    read_on_image mode key disk.sectors (last_image start) left (c.in-Ok.ensures.accepted start told_start) run.0 _ _ _ run.1
    (read_further run.0 left _ _ _
    (c.run_lines.ensures.taken.1 w left run.0 (opened.device start told_start made.0 made.1) told run.1)
    (record { more = stopped.text; is = stopped.told }))

pub returns-in-Err-run_lines-clause-ahead : goal.returns-in-Err-run_lines-clause-ahead
returns-in-Err-run_lines-clause-ahead g c left told start told_start =
    let mode = c.args.mode in
    let key = key_of c.args.hash in
    let disk = g.D.Disk.identity c.args.disk.now in
    let made = opened_content c.images_that_open_have_no_fault.ensures mode key disk _ _ _ start told_start left c.in-Ok.ensures.leaves in
    let w = opened_standing (asked_mode mode) key disk.sectors (last_image start) (last_image made.0) in
    let opened = c.in-Ok.ensures.opened in
    let run = has_run w.format w.state left in
    read_on_image mode key disk.sectors (last_image start) left (c.in-Ok.ensures.accepted start told_start) run.0 _ _ _ run.1
    (c.run_lines.ensures.taken.1 w left run.0 (opened.device start told_start made.0 made.1) told run.1)

pub returns-in-Ok-run_lines-clause-taken : goal.returns-in-Ok-run_lines-clause-taken
returns-in-Ok-run_lines-clause-taken g c = c.run_lines.ensures.taken.0

pub returns-in-Err-run_lines-clause-taken : goal.returns-in-Err-run_lines-clause-taken
returns-in-Err-run_lines-clause-taken g c = c.run_lines.ensures.taken.0

pub returns-in-Ok-run_lines-clause-ends : goal.returns-in-Ok-run_lines-clause-ends
returns-in-Ok-run_lines-clause-ends g c =
    subst (λ (r : Result TagsFound Ended). IfErr r EndsImage) (sym c.ended_by_close.ensures)
    (ends_at_close c.close-closed.result.0)

pub returns-in-Err-run_lines-clause-ends : goal.returns-in-Err-run_lines-clause-ends
returns-in-Err-run_lines-clause-ends g c = script_ends_image c.in-Err-run_lines.fault c.in-Err-run_lines.ensures.ends

pub returns-in-Ok-run_lines-clause-counted : goal.returns-in-Ok-run_lines-clause-counted
returns-in-Ok-run_lines-clause-counted g c =
    let told = c.in-Ok-run_lines.is in
    let disk = g.D.Counted.faults c.args.disk.now in
    let at = g.D.Counted.faults c.run_lines.new.device.disk.now in
    let last = g.D.Counted.faults c.close-closed.result.1.now in
    let counted = c.run_lines.ensures.counted in
    counted_by_close disk at last
    (g.S.Counted.faults c.args.script.now) (g.S.Counted.faults c.run_lines.new.script)
    (g.O.Counted.faults c.args.out.now) (g.O.Counted.faults c.run_lines.new.out)
    (g.O.Counted.faults c.close-closed.new.out)
    (counted.0.passed (not_ended _ _ told) ∙ c.in-Ok.ensures.passed)
    (counted.1.passed (not_ended _ _ told)) (counted.2.passed (not_ended _ _ told)) c.close-closed.result.0
    c.ended_by_close.result c.ended_by_close.ensures c.close-closed.ensures.counts

pub returns-in-Err-clause-closed : goal.returns-in-Err-clause-closed
returns-in-Err-clause-closed g c = tt

pub returns-in-Ok-run_lines-clause-closed : goal.returns-in-Ok-run_lines-clause-closed
returns-in-Ok-run_lines-clause-closed g c =
    let mode = c.args.mode in
    let key = key_of c.args.hash in
    let disk = g.D.Disk.identity c.args.disk.now in
    let kind = kind_in (asked_mode mode) key disk.sectors in
    let opened = c.in-Ok.ensures.opened in
    closed_as c.close-closed.result.0 c.ended_by_close.result c.ended_by_close.ensures _ (λ rests left told start told_start.
    let made = opened_content c.images_that_open_have_no_fault.ensures mode key disk _ _ _ start told_start left c.in-Ok.ensures.leaves in
    let w = opened_standing (asked_mode mode) key disk.sectors (last_image start) (last_image made.0) in
    let run = has_run w.format w.state left in
    let at = c.in-Ok-run_lines.ensures.lines w left run.0 (opened.device start told_start made.0 made.1) told run.1 in
    closed_behind kind (last_image start) (opened_format (asked_mode mode) (format_on key disk.sectors (last_image start))) left w at.here _ _ _ refl refl refl
    at.device (rests at.here at.device) at.comes) c.close-closed.ensures.rests

pub returns-in-Err-clause-unread : goal.returns-in-Err-clause-unread
returns-in-Err-clause-unread g c = record {
  before = λ before. refl;
  none = λ none. refl;
  unopened = λ memory left told same.
      ap g.D.Disk.moments c.handed_back-fault.ensures.disk
      ∙ c.in-Err.ensures.refused.untouched (refused_by_memory _ _ c.ended_by_opening.result c.ended_by_opening.ensures c.handed_back-fault.ensures.fault
      (same_ended _ _ _ refl memory));
}

pub returns-in-Ok-run_lines-clause-unread : goal.returns-in-Ok-run_lines-clause-unread
returns-in-Ok-run_lines-clause-unread g c = record {
  before = read_at_close _ c.close-closed.result.0 c.ended_by_close.result c.ended_by_close.ensures;
  none = λ none. absurd none;
  unopened = λ memory. absurd (no_memory_at_close c.close-closed.result.0 c.ended_by_close.result c.ended_by_close.ensures memory);
}

pub returns-in-Err-run_lines-clause-unread : goal.returns-in-Err-run_lines-clause-unread
returns-in-Err-run_lines-clause-unread g c = record {
  before = λ before. absurd (read_at_lines c.in-Err-run_lines.fault c.in-Err-run_lines.ensures.ends before);
  none = λ none. absurd none;
  unopened = λ memory left told same.
      absurd (taken_is_less left _ same (c.run_lines.ensures.taken.2 (c.in-Err-run_lines.is ∙ memory) left told));
}
