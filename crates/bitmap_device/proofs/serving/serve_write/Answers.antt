use Rattle.std.proofs.Common.{rules, refl, sym, ap, ◌∙◌, ◌<◌, subst, arith, List, ℕ}
use Rattle.std.proofs.lemmas.Bool.{true≢false}
use Rattle.direct_mode.proofs.ServingLemmas.{on_err_always}
use Rattle.direct_mode.specs.Cells.{IsTaggedBlock}
use Rattle.device_model.specs.Progress.{FailedServe, Serve}
use Rattle.request_slots.specs.Flight.{Flight}
use Rattle.request_slots.specs.Serving.{with_block_counted}
use Rattle.device_parts.specs.declared.answers.Served.{Served}
use Rattle.device_parts.specs.declared.condition.Condition.TheVariants.{Broken, Working}
use Rattle.device_parts.specs.declared.parts.Parts.{Parts}
use Rattle.device_parts.specs.Answers.{served_answer, turns_left, waits}
use Rattle.device_parts.specs.Device.{KeepsFlight}
use Rattle.device_parts.proofs.LeftLemmas.{fewer_written}
use Rattle.device_parts.proofs.ReadyLemmas.{keeps_flight, same_flight, sector-low}
use Rattle.device_parts.proofs.TurnLemmas.{served-goes_on}
use Rattle.bitmap_device.specs.Device.{standing_on}
use Rattle.bitmap_device.proofs.OverDisk.{IsServedAs, done_on, is_done_on}
use Rattle.bitmap_device.proofs.ServeLemmas.{serve_write_done, serve_write_failed, tagged-is, write_tags}
use Rattle.bitmap_device.proofs.serving.serve_write.Goals as goal

pub overflow_mul-block : goal.overflow_mul-block
overflow_mul-block g c =
    let low = sector-low c.args.parts.now (g.D.Disk.identity c.args.disk.now) (g.D.Disk.moments c.args.disk.now) c.requires.ready.parts_ c.args.block c.requires.within in
    omega (arith, low)

pub write_block-requires-clause-block : goal.write_block-requires-clause-block
write_block-requires-clause-block g c =
    let regions = c.args.regions.now in
    subst (λ (x : List ℕ). IsTaggedBlock regions.geometry c.args.block c.next_bytes-bytes.result.now x) (sym c.tag-tag.ensures)
    (tagged-is c.args.parts.now regions (g.D.Disk.identity c.args.disk.now) (g.D.Disk.moments c.args.disk.now) c.requires.ready c.args.block
    c.next_bytes-bytes.result.now c.requires.within c.next_bytes-bytes.ensures.size)

pub returns-in_err-write_block-clause-next : goal.returns-in_err-write_block-clause-next
returns-in_err-write_block-clause-next g c =
    let parts = c.args.parts.now in
    let regions = c.args.regions.now in
    let ticket = c.args.ticket.now in
    let a = g.D.Disk.moments c.args.disk.now in
    let b = g.D.Disk.moments c.write_block.new.disk in
    let new : Parts = record parts { tags = c.write_block.new.tags } in
    record {
      does = record {
        done = search rules;
        err = on_err_always c.from_residual.result (λ w is.
            done_on w is.disk is.format (FailedServe ticket) a b Broken new c.write_block.new.self
            (serve_write_failed (standing_on w is.disk) parts regions a is.over ticket c.requires.there (g.D.Disk.identity c.args.disk.now) c.requires.ready
            c.args.block c.args.is_flushed c.requires.turn c.next_bytes-bytes.result.now c.next_bytes-bytes.ensures.bytes c.tag-tag.result c.tag-tag.ensures b
            new c.write_block.new.self c.write_block.ensures.through refl refl));
      };
      goes_on = search rules;
      waiting = search rules;
      flight = same_flight parts.slots;
    }

pub returns-in_err-write_block-clause-tags : goal.returns-in_err-write_block-clause-tags
returns-in_err-write_block-clause-tags g c = λ w is.
    let disk = c.args.disk.now in
    write_tags w c.args.parts.now c.args.regions.now (g.D.Disk.moments disk) is c.args.ticket.now c.requires.there (g.D.Disk.moments c.write_block.new.disk)
    (g.D.Disk.identity disk) c.requires.ready c.args.block c.args.is_flushed c.requires.turn c.next_bytes-bytes.result.now c.next_bytes-bytes.ensures.bytes
    c.tag-tag.result c.tag-tag.ensures c.write_block.ensures.through

pub served-requires : goal.served-requires
served-requires g c =
    let kept = subst (KeepsFlight c.args.parts.now.slots) (sym c.count_block.ensures) (keeps_flight c.args.ticket.now with_block_counted (λ x. refl) c.args.parts.now.slots) in
    kept.same c.args.ticket.now ∙ c.requires.there

pub returns-clause-next : goal.returns-clause-next
returns-clause-next g c =
    let parts = c.args.parts.now in
    let regions = c.args.regions.now in
    let ticket = c.args.ticket.now in
    let a = g.D.Disk.moments c.args.disk.now in
    let b = g.D.Disk.moments c.write_block.new.disk in
    let states = c.write_block.new.self in
    let new : Parts = record parts { tags = c.write_block.new.tags; slots = c.count_block.new.self } in
    record {
      does = record {
        done = λ w is.
            let v = standing_on w is.disk in
            is_done_on w is.disk is.format (Serve ticket) a b (served_answer c.served.result) Working new states
            (subst (λ (x : Served). IsServedAs v ticket x new states a b) (sym c.served.ensures)
            (serve_write_done v parts regions a is.over ticket c.requires.there (g.D.Disk.identity c.args.disk.now) c.requires.ready
            c.args.block c.args.is_flushed c.requires.turn c.next_bytes-bytes.result.now c.next_bytes-bytes.ensures.bytes c.tag-tag.result c.tag-tag.ensures b
            new states c.in_ok-write_block.ensures.written c.count_block.ensures refl));
        err = tt;
      };
      goes_on = λ did.
          subst (λ (x : Flight). turns_left ticket x < turns_left ticket parts.slots) (sym c.count_block.ensures)
          (fewer_written ticket parts.slots c.requires.there c.args.block c.args.is_flushed c.requires.fits c.requires.turn);
      waiting = λ same. absurd (true≢false (sym same ∙ ap waits c.served.ensures ∙ served-goes_on _));
      flight = rw c.count_block.ensures (keeps_flight ticket with_block_counted (λ x. refl) parts.slots);
    }

pub returns-clause-tags : goal.returns-clause-tags
returns-clause-tags g c = λ w is.
    let disk = c.args.disk.now in
    write_tags w c.args.parts.now c.args.regions.now (g.D.Disk.moments disk) is c.args.ticket.now c.requires.there (g.D.Disk.moments c.write_block.new.disk)
    (g.D.Disk.identity disk) c.requires.ready c.args.block c.args.is_flushed c.requires.turn c.next_bytes-bytes.result.now c.next_bytes-bytes.ensures.bytes
    c.tag-tag.result c.tag-tag.ensures c.write_block.ensures.through

pub returns-in_err-write_block-clause-writes : goal.returns-in_err-write_block-clause-writes
returns-in_err-write_block-clause-writes g c =
    let is = tagged-is c.args.parts.now c.args.regions.now (g.D.Disk.identity c.args.disk.now) (g.D.Disk.moments c.args.disk.now) c.requires.ready c.args.block
    c.next_bytes-bytes.result.now c.requires.within c.next_bytes-bytes.ensures.size in
    record { low = is.block_.low; bytes = c.next_bytes-bytes.result.now; size = is.block_.size; next = c.next_bytes-bytes.ensures.bytes; adds = c.write_block.ensures.moments }

pub returns-clause-writes : goal.returns-clause-writes
returns-clause-writes g c =
    let is = tagged-is c.args.parts.now c.args.regions.now (g.D.Disk.identity c.args.disk.now) (g.D.Disk.moments c.args.disk.now) c.requires.ready c.args.block
    c.next_bytes-bytes.result.now c.requires.within c.next_bytes-bytes.ensures.size in
    record { low = is.block_.low; bytes = c.next_bytes-bytes.result.now; size = is.block_.size; next = c.next_bytes-bytes.ensures.bytes; adds = c.write_block.ensures.moments }
