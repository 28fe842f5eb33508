use Rattle.std.proofs.Common.{◌≡◌, ◌<◌, Result, IfErr, refl, sym, ap, ◌∙◌, subst}
use Rattle.std.proofs.lemmas.Result.{on_ok_weaker}
use Rattle.disk_model.specs.Causes.{Rose}
use Rattle.disk_model.specs.Disk.{last_image}
use Rattle.disk_model.proofs.MomentsLemmas.{EachMoment-kept}
use Rattle.run_model.specs.Ending.{Ending}
use Rattle.hmac_tag.specs.TagMaker.{key_of}
use Rattle.script_text.specs.declared.tags_found.TagsFound.{TagsFound}
use Rattle.command_ending.specs.declared.ended.Ended.{Ended}
use Rattle.command_task.specs.declared.asked.Task.{Task}
use Rattle.command_task.specs.declared.asked.Task.TheVariants as Tasks
use Rattle.command_task.specs.Opening.{EndsImage, HasRunOn, IsMomentAt}
use Rattle.command_model.specs.Opening.{HasReadIn}
use Rattle.command_task.specs.Order.{HasMomentsAt}
use Rattle.command_task.specs.Outset.{task_outset}
use Rattle.command_task.specs.Running.{ending_by, IsBeforeScript}
use Rattle.script_lines.specs.Ends.{HasEndCause, IsCounted}
use Rattle.command_task.proofs.ClosedLemmas.{ok_holds}
use Rattle.command_task.proofs.OutsetLemmas.{IsFine, fine_check, fine_dump, fine_exercise, fine_format, fine_on, fine_resize, fine_salvage}
use Rattle.command_run.proofs.TakenLemmas.{none_taken}
use Rattle.integrity_tool.proofs.TaskLemmas.{cause_found, causes_wider, counted_found, ending_found, ends_found, ends_wider, read_no_script, runs_told, uncounted, whatever_ended}
use Rattle.integrity_tool.proofs.carrying_out.carry_out.Goals as goal
use Rattle.run_model.specs.declared.outer.Outer.TheVariants as outers

pub returns-in-Run-clause-runs : goal.returns-in-Run-clause-runs
returns-in-Run-clause-runs g c left told start told_start =
    let key = key_of c.args.hash in
    let sectors = (g.D.Disk.identity c.args.disk.now).sectors in
    let before = g.D.Disk.moments c.args.disk.now in
    let after = g.D.Disk.moments c.run_image.new.disk in
    let runs = c.run_image.ensures.runs left told start told_start in
    runs_told c.args.task c.args.telling.now key sectors start left (ending_by c.run_image.result) before after (g.O.Sink.held c.args.out.now) (g.O.Sink.held c.run_image.new.out) c.requires.lines
    (subst (λ (t : Task). IsFine (task_outset t key sectors (last_image start))) (sym c.in-Run.is) (fine_on c.in-Run.mode key sectors (last_image start)))
    (subst (λ (t : Task). HasRunOn (task_outset t key sectors (last_image start)) start left (ending_by c.run_image.result) after (g.O.Sink.held c.args.out.now) (g.O.Sink.held c.run_image.new.out)
    × HasMomentsAt t key sectors start left before after) (sym c.in-Run.is) (runs.0, record { each = runs.1; order = runs.2 }))

pub returns-in-Run-clause-closed : goal.returns-in-Run-clause-closed
returns-in-Run-clause-closed g c = rw c.in-Run.is c.run_image.ensures.closed

pub returns-in-Run-clause-unread : goal.returns-in-Run-clause-unread
returns-in-Run-clause-unread g c = rw c.in-Run.is c.run_image.ensures.unread

pub returns-in-Run-clause-ahead : goal.returns-in-Run-clause-ahead
returns-in-Run-clause-ahead g c = rw c.in-Run.is c.run_image.ensures.ahead

pub returns-in-Dump-clause-runs : goal.returns-in-Dump-clause-runs
returns-in-Dump-clause-runs g c left told start told_start =
    let key = key_of c.args.hash in
    let sectors = (g.D.Disk.identity c.args.disk.now).sectors in
    let before = g.D.Disk.moments c.args.disk.now in
    let after = g.D.Disk.moments c.print_image.new.disk in
    runs_told c.args.task c.args.telling.now key sectors start left (ending_by c.done.result) before after (g.O.Sink.held c.args.out.now) (g.O.Sink.held c.print_image.new.out) c.requires.lines
    (subst (λ (t : Task). IsFine (task_outset t key sectors (last_image start))) (sym c.in-Dump.is) (fine_dump sectors (last_image start)))
    (subst (λ (t : Task). HasRunOn (task_outset t key sectors (last_image start)) start left (ending_by c.done.result) after (g.O.Sink.held c.args.out.now) (g.O.Sink.held c.print_image.new.out)
    × HasMomentsAt t key sectors start left before after) (sym c.in-Dump.is) (
      subst (λ (e : Ending). HasRunOn (task_outset Tasks.Dump key sectors (last_image start)) start left e after (g.O.Sink.held c.args.out.now) (g.O.Sink.held c.print_image.new.out))
          (sym (ap ending_by c.done.ensures ∙ ending_found c.print_image.result)) (c.print_image.ensures.runs left start told_start),
      record { each = EachMoment-kept (IsMomentAt Tasks.Dump key sectors start left) c.print_image.ensures.kept; order = c.print_image.ensures.kept },
    ))

pub returns-in-Dump-clause-closed : goal.returns-in-Dump-clause-closed
returns-in-Dump-clause-closed g c = rw c.in-Dump.is (ok_holds _ (λ bytes told start told_start later told_later. tt) c.done.result)

pub returns-in-Dump-clause-ends : goal.returns-in-Dump-clause-ends
returns-in-Dump-clause-ends g c =
    subst (λ (r : Result TagsFound Ended). IfErr r EndsImage) (sym c.done.ensures) (ends_found c.print_image.result c.print_image.ensures.ends)

pub returns-in-Dump-clause-cause : goal.returns-in-Dump-clause-cause
returns-in-Dump-clause-cause g c =
    subst (λ (r : Result TagsFound Ended). IfErr r (HasEndCause (Rose (g.D.Counted.faults c.args.disk.now) (g.D.Counted.faults c.print_image.new.disk))
    (Rose (g.S.Counted.faults c.args.script.now) (g.S.Counted.faults c.args.script.now))
    (Rose (g.O.Counted.faults c.args.out.now) (g.O.Counted.faults c.print_image.new.out)))) (sym c.done.ensures)
    (cause_found _ _ _ c.print_image.result c.print_image.ensures.cause)

pub returns-in-Dump-clause-counted : goal.returns-in-Dump-clause-counted
returns-in-Dump-clause-counted g c = (
  subst (λ (r : Result TagsFound Ended). IsCounted outers.Disk (g.D.Counted.faults c.args.disk.now) (g.D.Counted.faults c.print_image.new.disk) r)
      (sym c.done.ensures) (counted_found outers.Disk _ _ c.print_image.result c.print_image.ensures.counted.0),
  uncounted outers.Script _ c.done.result,
  subst (λ (r : Result TagsFound Ended). IsCounted outers.Sink (g.O.Counted.faults c.args.out.now) (g.O.Counted.faults c.print_image.new.out) r)
      (sym c.done.ensures) (counted_found outers.Sink _ _ c.print_image.result c.print_image.ensures.counted.1),
)

pub returns-in-Dump-clause-unread : goal.returns-in-Dump-clause-unread
returns-in-Dump-clause-unread g c =
    rw c.in-Dump.is (record {
      before = whatever_ended (λ ended. IsBeforeScript ended → c.args.script.now ≡ c.args.script.now) (λ ended before. refl) c.done.result;
      none = λ none. refl;
      unopened = λ memory left told same. tt;
    })

pub returns-in-Dump-clause-taken : goal.returns-in-Dump-clause-taken
returns-in-Dump-clause-taken g c = none_taken _ _ _ refl

pub returns-in-Dump-clause-ahead : goal.returns-in-Dump-clause-ahead
returns-in-Dump-clause-ahead g c left told start told_start =
    let key = key_of c.args.hash in
    let sectors = (g.D.Disk.identity c.args.disk.now).sectors in
    subst (λ (t : Task). HasReadIn (task_outset t key sectors (last_image start)) left (g.S.Source.left c.args.script.now) (g.O.Sink.held c.args.out.now) (g.O.Sink.held c.print_image.new.out)
    (g.S.Counted.faults c.args.script.now < g.S.Counted.faults c.args.script.now))
    (sym c.in-Dump.is)
    (read_no_script (task_outset Tasks.Dump key sectors (last_image start)) start left _ _ _ _ _ _ told (c.print_image.ensures.runs left start told_start))

pub returns-in-Check-clause-runs : goal.returns-in-Check-clause-runs
returns-in-Check-clause-runs g c left told start told_start =
    let key = key_of c.args.hash in
    let sectors = (g.D.Disk.identity c.args.disk.now).sectors in
    let before = g.D.Disk.moments c.args.disk.now in
    let after = g.D.Disk.moments c.print_check.new.disk in
    let what = c.in-Check.what in
    runs_told c.args.task c.args.telling.now key sectors start left (ending_by c.print_check.result) before after (g.O.Sink.held c.args.out.now) (g.O.Sink.held c.print_check.new.out) c.requires.lines
    (subst (λ (t : Task). IsFine (task_outset t key sectors (last_image start))) (sym c.in-Check.is) (fine_check c.in-Check.what key sectors (last_image start)))
    (subst (λ (t : Task). HasRunOn (task_outset t key sectors (last_image start)) start left (ending_by c.print_check.result) after (g.O.Sink.held c.args.out.now) (g.O.Sink.held c.print_check.new.out)
    × HasMomentsAt t key sectors start left before after) (sym c.in-Check.is) (
      c.print_check.ensures.runs left start told_start,
      record { each = EachMoment-kept (IsMomentAt (Tasks.Check what) key sectors start left) c.print_check.ensures.kept; order = c.print_check.ensures.kept },
    ))

pub returns-in-Check-clause-closed : goal.returns-in-Check-clause-closed
returns-in-Check-clause-closed g c = rw c.in-Check.is (ok_holds _ (λ bytes told start told_start later told_later. tt) c.print_check.result)

pub returns-in-Check-clause-ends : goal.returns-in-Check-clause-ends
returns-in-Check-clause-ends g c = ends_wider c.print_check.result c.print_check.ensures.ends

pub returns-in-Check-clause-cause : goal.returns-in-Check-clause-cause
returns-in-Check-clause-cause g c = causes_wider _ _ _ c.print_check.result c.print_check.ensures.cause

pub returns-in-Check-clause-counted : goal.returns-in-Check-clause-counted
returns-in-Check-clause-counted g c =
    (c.print_check.ensures.counted.0, uncounted outers.Script _ c.print_check.result, c.print_check.ensures.counted.1)

pub returns-in-Check-clause-unread : goal.returns-in-Check-clause-unread
returns-in-Check-clause-unread g c =
    rw c.in-Check.is (record {
      before = whatever_ended (λ ended. IsBeforeScript ended → c.args.script.now ≡ c.args.script.now) (λ ended before. refl) c.print_check.result;
      none = λ none. refl;
      unopened = λ memory left told same. tt;
    })

pub returns-in-Check-clause-taken : goal.returns-in-Check-clause-taken
returns-in-Check-clause-taken g c = none_taken _ _ _ refl

pub returns-in-Check-clause-ahead : goal.returns-in-Check-clause-ahead
returns-in-Check-clause-ahead g c left told start told_start =
    let key = key_of c.args.hash in
    let sectors = (g.D.Disk.identity c.args.disk.now).sectors in
    subst (λ (t : Task). HasReadIn (task_outset t key sectors (last_image start)) left (g.S.Source.left c.args.script.now) (g.O.Sink.held c.args.out.now) (g.O.Sink.held c.print_check.new.out)
    (g.S.Counted.faults c.args.script.now < g.S.Counted.faults c.args.script.now))
    (sym c.in-Check.is)
    (read_no_script (task_outset (Tasks.Check c.in-Check.what) key sectors (last_image start)) start left _ _ _ _ _ _ told (c.print_check.ensures.runs left start told_start))

pub returns-in-Salvage-clause-runs : goal.returns-in-Salvage-clause-runs
returns-in-Salvage-clause-runs g c left told start told_start =
    let key = key_of c.args.hash in
    let sectors = (g.D.Disk.identity c.args.disk.now).sectors in
    let before = g.D.Disk.moments c.args.disk.now in
    let after = g.D.Disk.moments c.print_salvage.new.disk in
    runs_told c.args.task c.args.telling.now key sectors start left (ending_by c.print_salvage.result) before after (g.O.Sink.held c.args.out.now) (g.O.Sink.held c.print_salvage.new.out) c.requires.lines
    (subst (λ (t : Task). IsFine (task_outset t key sectors (last_image start))) (sym c.in-Salvage.is) (fine_salvage key sectors (last_image start)))
    (subst (λ (t : Task). HasRunOn (task_outset t key sectors (last_image start)) start left (ending_by c.print_salvage.result) after (g.O.Sink.held c.args.out.now) (g.O.Sink.held c.print_salvage.new.out)
    × HasMomentsAt t key sectors start left before after) (sym c.in-Salvage.is) (
      c.print_salvage.ensures.runs left start told_start,
      record { each = EachMoment-kept (IsMomentAt Tasks.Salvage key sectors start left) c.print_salvage.ensures.kept; order = c.print_salvage.ensures.kept },
    ))

pub returns-in-Salvage-clause-closed : goal.returns-in-Salvage-clause-closed
returns-in-Salvage-clause-closed g c = rw c.in-Salvage.is (ok_holds _ (λ bytes told start told_start later told_later. tt) c.print_salvage.result)

pub returns-in-Salvage-clause-ends : goal.returns-in-Salvage-clause-ends
returns-in-Salvage-clause-ends g c = ends_wider c.print_salvage.result c.print_salvage.ensures.ends

pub returns-in-Salvage-clause-cause : goal.returns-in-Salvage-clause-cause
returns-in-Salvage-clause-cause g c = causes_wider _ _ _ c.print_salvage.result c.print_salvage.ensures.cause

pub returns-in-Salvage-clause-counted : goal.returns-in-Salvage-clause-counted
returns-in-Salvage-clause-counted g c =
    (c.print_salvage.ensures.counted.0, uncounted outers.Script _ c.print_salvage.result, c.print_salvage.ensures.counted.1)

pub returns-in-Salvage-clause-unread : goal.returns-in-Salvage-clause-unread
returns-in-Salvage-clause-unread g c =
    rw c.in-Salvage.is (record {
      before = whatever_ended (λ ended. IsBeforeScript ended → c.args.script.now ≡ c.args.script.now) (λ ended before. refl) c.print_salvage.result;
      none = λ none. refl;
      unopened = λ memory left told same. tt;
    })

pub returns-in-Salvage-clause-taken : goal.returns-in-Salvage-clause-taken
returns-in-Salvage-clause-taken g c = none_taken _ _ _ refl

pub returns-in-Salvage-clause-ahead : goal.returns-in-Salvage-clause-ahead
returns-in-Salvage-clause-ahead g c left told start told_start =
    let key = key_of c.args.hash in
    let sectors = (g.D.Disk.identity c.args.disk.now).sectors in
    subst (λ (t : Task). HasReadIn (task_outset t key sectors (last_image start)) left (g.S.Source.left c.args.script.now) (g.O.Sink.held c.args.out.now) (g.O.Sink.held c.print_salvage.new.out)
    (g.S.Counted.faults c.args.script.now < g.S.Counted.faults c.args.script.now))
    (sym c.in-Salvage.is)
    (read_no_script (task_outset Tasks.Salvage key sectors (last_image start)) start left _ _ _ _ _ _ told (c.print_salvage.ensures.runs left start told_start))

pub returns-in-Resize-clause-runs : goal.returns-in-Resize-clause-runs
returns-in-Resize-clause-runs g c left told start told_start =
    let key = key_of c.args.hash in
    let sectors = (g.D.Disk.identity c.args.disk.now).sectors in
    let before = g.D.Disk.moments c.args.disk.now in
    let after = g.D.Disk.moments c.resize_image.new.disk in
    runs_told c.args.task c.args.telling.now key sectors start left (ending_by c.done-in-Resize.result) before after (g.O.Sink.held c.args.out.now) (g.O.Sink.held c.resize_image.new.out) c.requires.lines
    (subst (λ (t : Task). IsFine (task_outset t key sectors (last_image start))) (sym c.in-Resize.is) (fine_resize key sectors (last_image start)))
    (subst (λ (t : Task). HasRunOn (task_outset t key sectors (last_image start)) start left (ending_by c.done-in-Resize.result) after (g.O.Sink.held c.args.out.now) (g.O.Sink.held c.resize_image.new.out)
    × HasMomentsAt t key sectors start left before after) (sym c.in-Resize.is) (
      subst (λ (e : Ending). HasRunOn (task_outset Tasks.Resize key sectors (last_image start)) start left e after (g.O.Sink.held c.args.out.now) (g.O.Sink.held c.resize_image.new.out))
          (sym (ap ending_by c.done-in-Resize.ensures ∙ ending_found c.resize_image.result)) (c.resize_image.ensures.runs left start told_start),
      c.resize_image.ensures.moments left start told_start,
    ))

pub returns-in-Resize-clause-closed : goal.returns-in-Resize-clause-closed
returns-in-Resize-clause-closed g c = rw c.in-Resize.is (ok_holds _ (λ bytes told start told_start later told_later. tt) c.done-in-Resize.result)

pub returns-in-Resize-clause-ends : goal.returns-in-Resize-clause-ends
returns-in-Resize-clause-ends g c =
    subst (λ (r : Result TagsFound Ended). IfErr r EndsImage) (sym c.done-in-Resize.ensures) (ends_found c.resize_image.result c.resize_image.ensures.ends)

pub returns-in-Resize-clause-cause : goal.returns-in-Resize-clause-cause
returns-in-Resize-clause-cause g c =
    subst (λ (r : Result TagsFound Ended). IfErr r (HasEndCause (Rose (g.D.Counted.faults c.args.disk.now) (g.D.Counted.faults c.resize_image.new.disk))
    (Rose (g.S.Counted.faults c.args.script.now) (g.S.Counted.faults c.args.script.now))
    (Rose (g.O.Counted.faults c.args.out.now) (g.O.Counted.faults c.resize_image.new.out)))) (sym c.done-in-Resize.ensures)
    (cause_found _ _ _ c.resize_image.result c.resize_image.ensures.cause)

pub returns-in-Resize-clause-counted : goal.returns-in-Resize-clause-counted
returns-in-Resize-clause-counted g c = (
  subst (λ (r : Result TagsFound Ended). IsCounted outers.Disk (g.D.Counted.faults c.args.disk.now) (g.D.Counted.faults c.resize_image.new.disk) r)
      (sym c.done-in-Resize.ensures) (counted_found outers.Disk _ _ c.resize_image.result c.resize_image.ensures.counted.0),
  uncounted outers.Script _ c.done-in-Resize.result,
  subst (λ (r : Result TagsFound Ended). IsCounted outers.Sink (g.O.Counted.faults c.args.out.now) (g.O.Counted.faults c.resize_image.new.out) r)
      (sym c.done-in-Resize.ensures) (counted_found outers.Sink _ _ c.resize_image.result c.resize_image.ensures.counted.1),
)

pub returns-in-Resize-clause-unread : goal.returns-in-Resize-clause-unread
returns-in-Resize-clause-unread g c =
    rw c.in-Resize.is (record {
      before = whatever_ended (λ ended. IsBeforeScript ended → c.args.script.now ≡ c.args.script.now) (λ ended before. refl) c.done-in-Resize.result;
      none = λ none. refl;
      unopened = λ memory left told same. tt;
    })

pub returns-in-Resize-clause-taken : goal.returns-in-Resize-clause-taken
returns-in-Resize-clause-taken g c = none_taken _ _ _ refl

pub returns-in-Resize-clause-ahead : goal.returns-in-Resize-clause-ahead
returns-in-Resize-clause-ahead g c left told start told_start =
    let key = key_of c.args.hash in
    let sectors = (g.D.Disk.identity c.args.disk.now).sectors in
    subst (λ (t : Task). HasReadIn (task_outset t key sectors (last_image start)) left (g.S.Source.left c.args.script.now) (g.O.Sink.held c.args.out.now) (g.O.Sink.held c.resize_image.new.out)
    (g.S.Counted.faults c.args.script.now < g.S.Counted.faults c.args.script.now))
    (sym c.in-Resize.is)
    (read_no_script (task_outset Tasks.Resize key sectors (last_image start)) start left _ _ _ _ _ _ told (c.resize_image.ensures.runs left start told_start))

pub returns-in-Format-clause-runs : goal.returns-in-Format-clause-runs
returns-in-Format-clause-runs g c left told start told_start =
    let key = key_of c.args.hash in
    let sectors = (g.D.Disk.identity c.args.disk.now).sectors in
    let before = g.D.Disk.moments c.args.disk.now in
    let after = g.D.Disk.moments c.make_image.new.disk in
    let new = c.in-Format.new in
    runs_told c.args.task c.args.telling.now key sectors start left (ending_by c.done-in-Format.result) before after (g.O.Sink.held c.args.out.now) (g.O.Sink.held c.make_image.new.out) c.requires.lines
    (subst (λ (t : Task). IsFine (task_outset t key sectors (last_image start))) (sym c.in-Format.is) (fine_format key sectors c.in-Format.new))
    (subst (λ (t : Task). HasRunOn (task_outset t key sectors (last_image start)) start left (ending_by c.done-in-Format.result) after (g.O.Sink.held c.args.out.now) (g.O.Sink.held c.make_image.new.out)
    × HasMomentsAt t key sectors start left before after) (sym c.in-Format.is) (
      subst (λ (e : Ending). HasRunOn (task_outset (Tasks.Format new) key sectors (last_image start)) start left e after (g.O.Sink.held c.args.out.now) (g.O.Sink.held c.make_image.new.out))
          (sym (ap ending_by c.done-in-Format.ensures ∙ ending_found c.make_image.result)) (c.make_image.ensures.runs left start told_start),
      c.make_image.ensures.moments left start told_start,
    ))

pub returns-in-Format-clause-closed : goal.returns-in-Format-clause-closed
returns-in-Format-clause-closed g c = rw c.in-Format.is (ok_holds _ (λ bytes told start told_start later told_later. tt) c.done-in-Format.result)

pub returns-in-Format-clause-ends : goal.returns-in-Format-clause-ends
returns-in-Format-clause-ends g c =
    subst (λ (r : Result TagsFound Ended). IfErr r EndsImage) (sym c.done-in-Format.ensures) (ends_found c.make_image.result c.make_image.ensures.ends)

pub returns-in-Format-clause-cause : goal.returns-in-Format-clause-cause
returns-in-Format-clause-cause g c =
    subst (λ (r : Result TagsFound Ended). IfErr r (HasEndCause (Rose (g.D.Counted.faults c.args.disk.now) (g.D.Counted.faults c.make_image.new.disk))
    (Rose (g.S.Counted.faults c.args.script.now) (g.S.Counted.faults c.args.script.now))
    (Rose (g.O.Counted.faults c.args.out.now) (g.O.Counted.faults c.make_image.new.out)))) (sym c.done-in-Format.ensures)
    (cause_found _ _ _ c.make_image.result c.make_image.ensures.cause)

pub returns-in-Format-clause-counted : goal.returns-in-Format-clause-counted
returns-in-Format-clause-counted g c = (
  subst (λ (r : Result TagsFound Ended). IsCounted outers.Disk (g.D.Counted.faults c.args.disk.now) (g.D.Counted.faults c.make_image.new.disk) r)
      (sym c.done-in-Format.ensures) (counted_found outers.Disk _ _ c.make_image.result c.make_image.ensures.counted.0),
  uncounted outers.Script _ c.done-in-Format.result,
  subst (λ (r : Result TagsFound Ended). IsCounted outers.Sink (g.O.Counted.faults c.args.out.now) (g.O.Counted.faults c.make_image.new.out) r)
      (sym c.done-in-Format.ensures) (counted_found outers.Sink _ _ c.make_image.result c.make_image.ensures.counted.1),
)

pub returns-in-Format-clause-unread : goal.returns-in-Format-clause-unread
returns-in-Format-clause-unread g c =
    rw c.in-Format.is (record {
      before = whatever_ended (λ ended. IsBeforeScript ended → c.args.script.now ≡ c.args.script.now) (λ ended before. refl) c.done-in-Format.result;
      none = λ none. refl;
      unopened = λ memory left told same. tt;
    })

pub returns-in-Format-clause-taken : goal.returns-in-Format-clause-taken
returns-in-Format-clause-taken g c = none_taken _ _ _ refl

pub returns-in-Format-clause-ahead : goal.returns-in-Format-clause-ahead
returns-in-Format-clause-ahead g c left told start told_start =
    let key = key_of c.args.hash in
    let sectors = (g.D.Disk.identity c.args.disk.now).sectors in
    subst (λ (t : Task). HasReadIn (task_outset t key sectors (last_image start)) left (g.S.Source.left c.args.script.now) (g.O.Sink.held c.args.out.now) (g.O.Sink.held c.make_image.new.out)
    (g.S.Counted.faults c.args.script.now < g.S.Counted.faults c.args.script.now))
    (sym c.in-Format.is)
    (read_no_script (task_outset (Tasks.Format c.in-Format.new) key sectors (last_image start)) start left _ _ _ _ _ _ told (c.make_image.ensures.runs left start told_start))

pub returns-in-Exercise-clause-runs : goal.returns-in-Exercise-clause-runs
returns-in-Exercise-clause-runs g c left told start told_start =
    let key = key_of c.args.hash in
    let sectors = (g.D.Disk.identity c.args.disk.now).sectors in
    let before = g.D.Disk.moments c.args.disk.now in
    let after = g.D.Disk.moments c.exercise_image.new.disk in
    let moments = c.exercise_image.ensures.moments left start told_start in
    runs_told c.args.task c.args.telling.now key sectors start left (ending_by c.exercise_image.result) before after (g.O.Sink.held c.args.out.now) (g.O.Sink.held c.exercise_image.new.out) c.requires.lines
    (subst (λ (t : Task). IsFine (task_outset t key sectors (last_image start))) (sym c.in-Exercise.is) (fine_exercise sectors c.in-Exercise.count c.in-Exercise.seed))
    (subst (λ (t : Task). HasRunOn (task_outset t key sectors (last_image start)) start left (ending_by c.exercise_image.result) after (g.O.Sink.held c.args.out.now) (g.O.Sink.held c.exercise_image.new.out)
    × HasMomentsAt t key sectors start left before after) (sym c.in-Exercise.is) (
      c.exercise_image.ensures.runs left start told_start,
      record { each = moments.each; order = moments.order },
    ))

pub returns-in-Exercise-clause-closed : goal.returns-in-Exercise-clause-closed
returns-in-Exercise-clause-closed g c = rw c.in-Exercise.is (on_ok_weaker c.exercise_image.result (λ closes bytes told. closes) c.exercise_image.ensures.closed)

pub returns-in-Exercise-clause-ends : goal.returns-in-Exercise-clause-ends
returns-in-Exercise-clause-ends g c = ends_wider c.exercise_image.result c.exercise_image.ensures.ends

pub returns-in-Exercise-clause-cause : goal.returns-in-Exercise-clause-cause
returns-in-Exercise-clause-cause g c = causes_wider _ _ _ c.exercise_image.result c.exercise_image.ensures.cause

pub returns-in-Exercise-clause-counted : goal.returns-in-Exercise-clause-counted
returns-in-Exercise-clause-counted g c =
    (c.exercise_image.ensures.counted.0, uncounted outers.Script _ c.exercise_image.result, c.exercise_image.ensures.counted.1)

pub returns-in-Exercise-clause-unread : goal.returns-in-Exercise-clause-unread
returns-in-Exercise-clause-unread g c =
    rw c.in-Exercise.is (record {
      before = whatever_ended (λ ended. IsBeforeScript ended → c.args.script.now ≡ c.args.script.now) (λ ended before. refl) c.exercise_image.result;
      none = λ none. refl;
      unopened = λ memory left told same. tt;
    })

pub returns-in-Exercise-clause-taken : goal.returns-in-Exercise-clause-taken
returns-in-Exercise-clause-taken g c = none_taken _ _ _ refl

pub returns-in-Exercise-clause-ahead : goal.returns-in-Exercise-clause-ahead
returns-in-Exercise-clause-ahead g c left told start told_start =
    let key = key_of c.args.hash in
    let sectors = (g.D.Disk.identity c.args.disk.now).sectors in
    subst (λ (t : Task). HasReadIn (task_outset t key sectors (last_image start)) left (g.S.Source.left c.args.script.now) (g.O.Sink.held c.args.out.now) (g.O.Sink.held c.exercise_image.new.out)
    (g.S.Counted.faults c.args.script.now < g.S.Counted.faults c.args.script.now))
    (sym c.in-Exercise.is)
    (read_no_script (task_outset (Tasks.Exercise c.in-Exercise.seed c.in-Exercise.count) key sectors (last_image start)) start left _ _ _ _ _ _ told (c.exercise_image.ensures.runs left start told_start))

pub returns-in-Run-clause-taken : goal.returns-in-Run-clause-taken
returns-in-Run-clause-taken g c = rw c.in-Run.is c.run_image.ensures.taken

pub returns-in-Serve-clause-runs : goal.returns-in-Serve-clause-runs
returns-in-Serve-clause-runs g c = rw c.in-Serve.is c.serve_image.ensures.runs

pub returns-in-Serve-clause-closed : goal.returns-in-Serve-clause-closed
returns-in-Serve-clause-closed g c = rw c.in-Serve.is c.serve_image.ensures.closed

pub returns-in-Serve-clause-unread : goal.returns-in-Serve-clause-unread
returns-in-Serve-clause-unread g c = rw c.in-Serve.is c.serve_image.ensures.unread

pub returns-in-Serve-clause-taken : goal.returns-in-Serve-clause-taken
returns-in-Serve-clause-taken g c = rw c.in-Serve.is c.serve_image.ensures.taken

pub returns-in-Serve-clause-ahead : goal.returns-in-Serve-clause-ahead
returns-in-Serve-clause-ahead g c = rw c.in-Serve.is c.serve_image.ensures.ahead
