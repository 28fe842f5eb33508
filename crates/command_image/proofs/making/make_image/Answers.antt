use Rattle.std.proofs.Common.{sym, subst}
use Rattle.disk_model.specs.Disk.{last_image}
use Rattle.hmac_tag.specs.TagMaker.{key_of}
use Rattle.command_ending.specs.Ended.{ending_of}
use Rattle.command_ending.specs.declared.ended.Ended.{Ended}
use Rattle.command_model.specs.Making.{IsMadeInOrder, format_outset}
use Rattle.command_task.specs.Opening.{HasRunOn}
use Rattle.command_model.specs.Outset.{geometry_on}
use Rattle.command_image.proofs.MakingLemmas.{made, made_through, made_untold, not_made}
use Rattle.command_image.proofs.making.make_image.Goals as goal

pub returns-in-Ok-put_provided-clause-runs : goal.returns-in-Ok-put_provided-clause-runs
returns-in-Ok-put_provided-clause-runs g c script start told =
    made (key_of c.args.hash) (g.D.Disk.identity c.args.disk.now).sectors c.args.new start script told c.in-Ok.provided
    (g.O.Sink.held c.args.out.now) (g.O.Sink.held c.put_provided.new.out) c.in-Ok.ensures.made c.in-Ok-put_provided.ensures.line.written

pub returns-in-Err-put_provided-clause-runs : goal.returns-in-Err-put_provided-clause-runs
returns-in-Err-put_provided-clause-runs g c script start told =
    made_untold (key_of c.args.hash) (g.D.Disk.identity c.args.disk.now).sectors c.args.new start script told c.in-Ok.provided
    (g.O.Sink.held c.args.out.now) (g.O.Sink.held c.put_provided.new.out) c.in-Ok.ensures.made c.in-Err-put_provided.ensures.line.err

pub returns-in-Err-clause-runs : goal.returns-in-Err-clause-runs
returns-in-Err-clause-runs g c script start told =
    let key = key_of c.args.hash in
    let sectors = (g.D.Disk.identity c.args.disk.now).sectors in
    let held = g.O.Sink.held c.args.out.now in
    let order : IsMadeInOrder key sectors c.args.new (g.D.Disk.moments c.args.disk.now) (g.D.Disk.moments c.format.new.disk) = record { order = c.format.ensures.moments; writes = c.format.ensures.writes } in
    subst (λ (e : Ended). HasRunOn (format_outset key sectors c.args.new) start script (ending_of e) (g.D.Disk.moments c.format.new.disk) held held)
    (sym c.ended_by_format.ensures)
    (not_made key sectors c.args.new start script told (geometry_on sectors (last_image start)) order c.in-Err.fault held
    (λ f. (λ is. (c.format.ensures.geom f).0 (cc (c.in-Err.is, is)), λ is. cc (c.in-Err.is, (c.format.ensures.geom f).1 is)))
    c.in-Err.ensures.untouched).0

pub returns-in-Ok-put_provided-clause-moments : goal.returns-in-Ok-put_provided-clause-moments
returns-in-Ok-put_provided-clause-moments g c script start told =
    let key = key_of c.args.hash in
    let sectors = (g.D.Disk.identity c.args.disk.now).sectors in
    let order : IsMadeInOrder key sectors c.args.new (g.D.Disk.moments c.args.disk.now) (g.D.Disk.moments c.format.new.disk) = record { order = c.format.ensures.moments; writes = c.format.ensures.writes } in
    record {
      each = made_through key sectors c.args.new start script told (geometry_on sectors (last_image start)) order c.in-Ok.provided c.in-Ok.ensures.made;
      order = order;
    }

pub returns-in-Err-put_provided-clause-moments : goal.returns-in-Err-put_provided-clause-moments
returns-in-Err-put_provided-clause-moments g c script start told =
    let key = key_of c.args.hash in
    let sectors = (g.D.Disk.identity c.args.disk.now).sectors in
    let order : IsMadeInOrder key sectors c.args.new (g.D.Disk.moments c.args.disk.now) (g.D.Disk.moments c.format.new.disk) = record { order = c.format.ensures.moments; writes = c.format.ensures.writes } in
    record {
      each = made_through key sectors c.args.new start script told (geometry_on sectors (last_image start)) order c.in-Ok.provided c.in-Ok.ensures.made;
      order = order;
    }

pub returns-in-Err-clause-moments : goal.returns-in-Err-clause-moments
returns-in-Err-clause-moments g c script start told =
    let key = key_of c.args.hash in
    let sectors = (g.D.Disk.identity c.args.disk.now).sectors in
    let order : IsMadeInOrder key sectors c.args.new (g.D.Disk.moments c.args.disk.now) (g.D.Disk.moments c.format.new.disk) = record { order = c.format.ensures.moments; writes = c.format.ensures.writes } in
    record {
      each = (not_made key sectors c.args.new start script told (geometry_on sectors (last_image start)) order c.in-Err.fault (g.O.Sink.held c.args.out.now)
          (λ f. (λ is. (c.format.ensures.geom f).0 (cc (c.in-Err.is, is)), λ is. cc (c.in-Err.is, (c.format.ensures.geom f).1 is)))
          c.in-Err.ensures.untouched).1;
      order = order;
    }
