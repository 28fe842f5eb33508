use Rattle.std.proofs.Common.{refl, sym, subst}
use Rattle.disk_model.specs.Disk.{last_image}
use Rattle.hmac_tag.specs.TagMaker.{key_of}
use Rattle.command_ending.specs.Ended.{ending_of}
use Rattle.command_ending.specs.declared.ended.Ended.{Ended}
use Rattle.command_task.specs.Opening.{HasRunOn}
use Rattle.command_model.specs.Outset.{geometry_on}
use Rattle.command_model.specs.Resizing.{resizing_outset}
use Rattle.command_image.proofs.ResizingLemmas.{IsResizing, in_order, moments, not_resized, refused_as, told_resized, unrefused, untold_resized}
use Rattle.command_image.proofs.resizing.resize_image.Goals as goal

pub returns-in-Ok-put_resized-clause-runs : goal.returns-in-Ok-put_resized-clause-runs
returns-in-Ok-put_resized-clause-runs g c script start told =
    let key = key_of c.args.hash in
    let sectors = (g.D.Disk.identity c.args.disk.now).sectors in
    let all : IsResizing (key_of c.args.hash) (g.D.Disk.identity c.args.disk.now).sectors (g.D.Disk.moments c.args.disk.now) (g.D.Disk.moments c.resize.new.disk) =
    record { kept = c.resize.ensures.judged; order = c.resize.ensures.moments; written = c.resize.ensures.writes } in
    let fields = c.in-Ok.ensures.told start told in
    told_resized key sectors start script told all c.in-Ok.provided c.in-Ok.resized
    (unrefused key sectors start script told all c.resize.result c.resize.ensures.refused _ c.in-Ok.is) fields.0 fields.1
    (g.O.Sink.held c.args.out.now) (g.O.Sink.held c.put_resized.new.out) (c.in-Ok.ensures.resized start told) c.in-Ok-put_resized.ensures.line.written

pub returns-in-Err-put_resized-clause-runs : goal.returns-in-Err-put_resized-clause-runs
returns-in-Err-put_resized-clause-runs g c script start told =
    let key = key_of c.args.hash in
    let sectors = (g.D.Disk.identity c.args.disk.now).sectors in
    let all : IsResizing (key_of c.args.hash) (g.D.Disk.identity c.args.disk.now).sectors (g.D.Disk.moments c.args.disk.now) (g.D.Disk.moments c.resize.new.disk) =
    record { kept = c.resize.ensures.judged; order = c.resize.ensures.moments; written = c.resize.ensures.writes } in
    let fields = c.in-Ok.ensures.told start told in
    untold_resized key sectors start script told all c.in-Ok.provided c.in-Ok.resized
    (unrefused key sectors start script told all c.resize.result c.resize.ensures.refused _ c.in-Ok.is) fields.0 fields.1
    (g.O.Sink.held c.args.out.now) (g.O.Sink.held c.put_resized.new.out) (c.in-Ok.ensures.resized start told) c.in-Err-put_resized.ensures.line.err

pub returns-in-Err-clause-runs : goal.returns-in-Err-clause-runs
returns-in-Err-clause-runs g c script start told =
    let key = key_of c.args.hash in
    let sectors = (g.D.Disk.identity c.args.disk.now).sectors in
    let held = g.O.Sink.held c.args.out.now in
    let all : IsResizing (key_of c.args.hash) (g.D.Disk.identity c.args.disk.now).sectors (g.D.Disk.moments c.args.disk.now) (g.D.Disk.moments c.resize.new.disk) =
    record { kept = c.resize.ensures.judged; order = c.resize.ensures.moments; written = c.resize.ensures.writes } in
    subst (λ (e : Ended). HasRunOn (resizing_outset key sectors (last_image start)) start script (ending_of e) (g.D.Disk.moments c.resize.new.disk) held held)
    (sym c.ended_by_resize.ensures)
    (not_resized key sectors start script told all held c.in-Err.fault
    (refused_as key sectors start script told all c.resize.result c.resize.ensures.refused c.in-Err.fault c.in-Err.is)
    (λ other. c.resize.ensures.untouched (rw c.in-Err.is refl) (λ is. other (cc (c.in-Err.is, is)))))

pub returns-in-Ok-put_resized-clause-moments : goal.returns-in-Ok-put_resized-clause-moments
returns-in-Ok-put_resized-clause-moments g c script start told =
    let all : IsResizing (key_of c.args.hash) (g.D.Disk.identity c.args.disk.now).sectors (g.D.Disk.moments c.args.disk.now) (g.D.Disk.moments c.resize.new.disk) =
    record { kept = c.resize.ensures.judged; order = c.resize.ensures.moments; written = c.resize.ensures.writes } in
    let sectors = (g.D.Disk.identity c.args.disk.now).sectors in
    record {
      each = moments (key_of c.args.hash) sectors start script told all (geometry_on sectors (last_image start));
      order = in_order (key_of c.args.hash) sectors start script told all;
    }

pub returns-in-Err-put_resized-clause-moments : goal.returns-in-Err-put_resized-clause-moments
returns-in-Err-put_resized-clause-moments g c script start told =
    let all : IsResizing (key_of c.args.hash) (g.D.Disk.identity c.args.disk.now).sectors (g.D.Disk.moments c.args.disk.now) (g.D.Disk.moments c.resize.new.disk) =
    record { kept = c.resize.ensures.judged; order = c.resize.ensures.moments; written = c.resize.ensures.writes } in
    let sectors = (g.D.Disk.identity c.args.disk.now).sectors in
    record {
      each = moments (key_of c.args.hash) sectors start script told all (geometry_on sectors (last_image start));
      order = in_order (key_of c.args.hash) sectors start script told all;
    }

pub returns-in-Err-clause-moments : goal.returns-in-Err-clause-moments
returns-in-Err-clause-moments g c script start told =
    let all : IsResizing (key_of c.args.hash) (g.D.Disk.identity c.args.disk.now).sectors (g.D.Disk.moments c.args.disk.now) (g.D.Disk.moments c.resize.new.disk) =
    record { kept = c.resize.ensures.judged; order = c.resize.ensures.moments; written = c.resize.ensures.writes } in
    let sectors = (g.D.Disk.identity c.args.disk.now).sectors in
    record {
      each = moments (key_of c.args.hash) sectors start script told all (geometry_on sectors (last_image start));
      order = in_order (key_of c.args.hash) sectors start script told all;
    }
