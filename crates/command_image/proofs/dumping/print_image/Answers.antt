use Rattle.std.proofs.Common.{◌≡◌, inl, refl, List, ℕ, sym, ◌∙◌, subst}
use Rattle.std.specs.Option.{option_map}
use Rattle.stream_io.specs.Stream.{with_bytes, AddsPrefix}
use Rattle.command_ending.specs.Ended.{ending_of}
use Rattle.command_ending.specs.declared.ended.Ended.{Ended}
use Rattle.disk_model.specs.Disk.{last_image}
use Rattle.run_model.specs.Ending.{NoMemory}
use Rattle.command_model.specs.Dumping.{dump_outset}
use Rattle.command_task.specs.Opening.{HasRunOn}
use Rattle.command_image.proofs.PrintingLemmas.{not_shown, printed, printed_part, unshown}
use Rattle.command_image.proofs.dumping.print_image.Goals as goal

pub returns-in-Err-clause-runs : goal.returns-in-Err-clause-runs
returns-in-Err-clause-runs g c script start told =
    let sectors = (g.D.Disk.identity c.args.disk.now).sectors in
    let held = g.O.Sink.held c.args.out.now in
    subst (λ (e : Ended). HasRunOn (dump_outset sectors (last_image start)) start script (ending_of e) (g.D.Disk.moments c.dump.new.disk) held held)
    (sym c.ended_by.ensures)
    (not_shown sectors start script told c.dump.ensures.kept c.in-Err.fault held
    (λ cause is. sym (c.in-Err.ensures.refused cause is start told)))

pub returns-in_default-clause-runs : goal.returns-in_default-clause-runs
returns-in_default-clause-runs g c script start told =
    unshown (g.D.Disk.identity c.args.disk.now).sectors start script told c.dump.ensures.kept NoMemory (g.O.Sink.held c.args.out.now) (inl refl)

pub returns-in-Ok-put_all-clause-runs : goal.returns-in-Ok-put_all-clause-runs
returns-in-Ok-put_all-clause-runs g c script start told =
    let before = g.O.Sink.held c.args.out.now in
    printed (g.D.Disk.identity c.args.disk.now).sectors start script told c.dump.ensures.kept c.in-Ok.shown before (g.O.Sink.held c.put_all.new.sink)
    (sym (c.in-Ok.ensures.told start told))
    (subst (λ (t : List ℕ). g.O.Sink.held c.put_all.new.sink ≡ option_map (with_bytes t) before)
    (c.deref.ensures.value ∙ c.in-Ok-dump_text.ensures.text) c.in-Ok-put_all.ensures.written)

pub returns-clause-runs : goal.returns-clause-runs
returns-clause-runs g c script start told =
    let before = g.O.Sink.held c.args.out.now in
    printed_part (g.D.Disk.identity c.args.disk.now).sectors start script told c.dump.ensures.kept c.in-Ok.shown before (g.O.Sink.held c.put_all.new.sink)
    (sym (c.in-Ok.ensures.told start told))
    (subst (λ (t : List ℕ). AddsPrefix t before (g.O.Sink.held c.put_all.new.sink))
    (c.deref.ensures.value ∙ c.in-Ok-dump_text.ensures.text) c.in-Err-put_all.ensures.err)
