use Rattle.std.proofs.Common.{rules, ◌≡◌, ℕ, List, length, refl, sym, ap, ◌∙◌, subst}
use Rattle.std.specs.Vec.{with_items}
use Rattle.std.proofs.lemmas.Bool.{true≢false}
use Rattle.std.proofs.lemmas.List.{with_items_is}
use Rattle.device_model.specs.Progress.{FailedServe, Serve}
use Rattle.direct_mode.proofs.ServingLemmas.{on_err_always}
use Rattle.device_parts.specs.declared.answers.Served.{Served}
use Rattle.device_parts.specs.declared.condition.Condition.TheVariants.{Broken, Working}
use Rattle.device_parts.specs.declared.parts.Parts.{Parts}
use Rattle.device_parts.specs.Answers.{served_answer, waits}
use Rattle.device_parts.specs.Device.{KeepsFlight}
use Rattle.device_parts.proofs.ReadyLemmas.{keeps_read, same_flight, sector-low}
use Rattle.device_parts.proofs.TurnLemmas.{served-goes_on}
use Rattle.bitmap_mode.specs.Reading.{ReadsBlock}
use Rattle.bitmap_device.specs.Device.{standing_on}
use Rattle.bitmap_device.proofs.OverDisk.{IsServedAs, done_on, is_done_on}
use Rattle.bitmap_device.proofs.ServeLemmas.{read_tags, serve_read_done, serve_read_failed}
use Rattle.bitmap_device.proofs.serving.serve_read.Goals as goal

pub returns-in_err-stored-clause-next : goal.returns-in_err-stored-clause-next
returns-in_err-stored-clause-next g c =
    let parts = c.args.parts.now in
    let ticket = c.args.ticket.now in
    let a = g.D.Disk.moments c.args.disk.now in
    let b = g.D.Disk.moments c.read_block.new.disk in
    record {
      does = record {
        done = search rules;
        err = on_err_always c.from_residual.result (λ w is.
            done_on w is.disk is.format (FailedServe ticket) a b Broken _ c.read_block.new.self
            (serve_read_failed (standing_on w is.disk) parts c.args.regions.now a is.over ticket c.requires.there (g.D.Disk.identity c.args.disk.now) c.requires.ready
            c.args.block c.requires.turn b _ c.read_block.new.self refl refl c.read_block.ensures.through));
      };
      goes_on = search rules;
      waiting = search rules;
      flight = same_flight parts.slots;
    }

pub returns-in_err-stored-clause-tags : goal.returns-in_err-stored-clause-tags
returns-in_err-stored-clause-tags g c = λ w is.
    let disk = c.args.disk.now in
    read_tags w c.args.parts.now c.args.regions.now (g.D.Disk.moments disk) is c.args.ticket.now c.requires.there (g.D.Disk.moments c.read_block.new.disk)
    (g.D.Disk.identity disk) c.requires.ready c.args.block c.requires.turn c.read_block.ensures.through

pub serve_read-requires-clause-sector : goal.serve_read-requires-clause-sector
serve_read-requires-clause-sector g c =
    sector-low c.args.parts.now (g.D.Disk.identity c.args.disk.now) (g.D.Disk.moments c.args.disk.now) c.requires.ready.parts_ c.args.block c.requires.within

pub returns-clause-next : goal.returns-clause-next
returns-clause-next g c =
    let parts = c.args.parts.now in
    let regions = c.args.regions.now in
    let ticket = c.args.ticket.now in
    let block = c.args.block in
    let stored = c.in_ok-stored.stored in
    let a = g.D.Disk.moments c.args.disk.now in
    let b = g.D.Disk.moments c.read_block.new.disk in
    let states = c.read_block.new.self in
    let mid : Parts = record parts { tags = c.read_block.new.tags; buffer = with_items parts.buffer c.read_block.new.out } in
    let new = c.serve_read.new.self in
    let out : length c.read_block.new.out ≡ parts.buffer.len = search rules in
    let whole : length mid.buffer.items ≡ parts.slots.block_size = search rules in
    record {
      does = record {
        done = λ w is.
            let v = standing_on w is.disk in
            is_done_on w is.disk is.format (Serve ticket) a b (served_answer c.serve_read.result) Working new states
            (subst (λ (x : Served). IsServedAs v ticket x new states a b) (sym c.serve_read.ensures.answer)
            (serve_read_done v parts regions a is.over ticket c.requires.there (g.D.Disk.identity c.args.disk.now) c.requires.ready block c.requires.turn b
            mid new states stored refl refl refl whole c.serve_read.ensures.slots
            (subst (λ (xs : List ℕ). ReadsBlock parts.maker block xs stored regions states parts.tags c.read_block.new.tags a b)
            (sym (with_items_is parts.buffer c.read_block.new.out out)) c.in_ok-stored.ensures.cell)));
        err = tt;
      };
      goes_on = λ did. c.serve_read.ensures.fewer;
      waiting = λ same. absurd (true≢false (sym same ∙ ap waits c.serve_read.ensures.answer ∙ served-goes_on _));
      flight = subst (λ (p : Parts). KeepsFlight parts.slots p.slots) (sym c.serve_read.ensures.slots) (keeps_read ticket block stored mid);
    }

pub returns-clause-tags : goal.returns-clause-tags
returns-clause-tags g c = λ w is.
    let disk = c.args.disk.now in
    read_tags w c.args.parts.now c.args.regions.now (g.D.Disk.moments disk) is c.args.ticket.now c.requires.there (g.D.Disk.moments c.read_block.new.disk)
    (g.D.Disk.identity disk) c.requires.ready c.args.block c.requires.turn c.read_block.ensures.through
