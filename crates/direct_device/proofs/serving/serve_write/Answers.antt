use Rattle.std.proofs.Common.{rules, refl, sym, ap, ◌∙◌, ◌<◌, subst, arith, List, ℕ}
use Rattle.std.proofs.lemmas.Bool.{true≢false}
use Rattle.direct_mode.proofs.PlacesLemmas.{block_places}
use Rattle.direct_mode.proofs.ServingLemmas.{on_err_always}
use Rattle.direct_mode.specs.Cells.{IsTaggedBlock}
use Rattle.device_model.specs.Progress.{FailedServe}
use Rattle.request_slots.specs.Flight.{Flight}
use Rattle.request_slots.specs.Serving.{with_block_counted}
use Rattle.device_parts.specs.declared.answers.Served.{Served}
use Rattle.device_parts.specs.declared.condition.Condition.TheVariants.{Broken}
use Rattle.device_parts.specs.declared.parts.Parts.{Parts}
use Rattle.device_parts.specs.Answers.{turns_left, waits}
use Rattle.device_parts.specs.Device.{KeepsFlight}
use Rattle.device_parts.proofs.LeftLemmas.{fewer_written}
use Rattle.device_parts.proofs.ReadyLemmas.{keeps_flight, same_flight, sector-low}
use Rattle.device_parts.proofs.TurnLemmas.{served-goes_on}
use Rattle.direct_device.specs.Answers.{IsWrittenNext}
use Rattle.direct_device.specs.Device.{standing_on}
use Rattle.direct_device.proofs.OverDisk.{IsServedAs, done_on, served_on}
use Rattle.direct_device.proofs.ServeLemmas.{block-is, serve_write_done, serve_write_failed, tagged-is}
use Rattle.direct_device.proofs.serving.serve_write.Goals as goal

pub overflow_mul-block : goal.overflow_mul-block
overflow_mul-block g c = let low = sector-low c.args.parts.now (g.D.Disk.identity c.args.disk.now) (g.D.Disk.moments c.args.disk.now) c.requires.ready.parts_ c.args.block c.requires.within in omega (arith, low)

pub serve_block-requires-clause-block : goal.serve_block-requires-clause-block
serve_block-requires-clause-block g c =
    subst (λ (x : List ℕ). IsTaggedBlock c.args.parts.now.tags.geometry c.args.block c.next_bytes-bytes.result.now x) (sym c.tag-tag.ensures)
    (tagged-is c.args.parts.now (g.D.Disk.identity c.args.disk.now) (g.D.Disk.moments c.args.disk.now) c.requires.ready.parts_ c.args.block c.next_bytes-bytes.result.now c.requires.within c.next_bytes-bytes.ensures.size)

pub returns-in_err-serve_block-clause-next : goal.returns-in_err-serve_block-clause-next
returns-in_err-serve_block-clause-next g c =
    let parts = c.args.parts.now in
    let ticket = c.args.ticket.now in
    let a = g.D.Disk.moments c.args.disk.now in
    let b = g.D.Disk.moments c.serve_block.new.disk in
    let new : Parts = record parts { tags = c.serve_block.new.tags } in
    record {
      does = record {
        done = search rules;
        err = on_err_always c.from_residual.result (λ w is.
            done_on w is.disk is.format (FailedServe ticket) a b Broken new c.args.recalculation.now
            (serve_write_failed (standing_on w is.disk) parts c.args.recalculation.now a is.over ticket c.requires.there c.args.block c.args.is_flushed c.requires.turn
            (g.D.Disk.identity c.args.disk.now) c.requires.ready.parts_ c.next_bytes-bytes.result.now c.next_bytes-bytes.ensures.bytes c.tag-tag.result c.tag-tag.ensures
            new b c.in_err-serve_block.ensures.err refl refl));
      };
      goes_on = search rules;
      waiting = search rules;
      flight = same_flight parts.slots;
    }

pub served-requires : goal.served-requires
served-requires g c =
    let kept = subst (KeepsFlight c.args.parts.now.slots) (sym c.count_block.ensures) (keeps_flight c.args.ticket.now with_block_counted (λ x. refl) c.args.parts.now.slots) in
    kept.same c.args.ticket.now ∙ c.requires.there

pub returns-clause-next : goal.returns-clause-next
returns-clause-next g c =
    let parts = c.args.parts.now in
    let ticket = c.args.ticket.now in
    let a = g.D.Disk.moments c.args.disk.now in
    let b = g.D.Disk.moments c.serve_block.new.disk in
    let new : Parts = record parts { tags = c.serve_block.new.tags; slots = c.count_block.new.self } in
    record {
      does = record {
        done = λ w is.
            let v = standing_on w is.disk in
            served_on w is.disk is.format ticket c.served.result new c.args.recalculation.now a b
            (subst (λ (x : Served). IsServedAs v ticket x new c.args.recalculation.now a b) (sym c.served.ensures)
            (serve_write_done v parts c.args.recalculation.now a is.over ticket c.requires.there c.args.block c.args.is_flushed c.requires.turn
            (g.D.Disk.identity c.args.disk.now) c.requires.ready.parts_ c.next_bytes-bytes.result.now c.next_bytes-bytes.ensures.bytes c.tag-tag.result c.tag-tag.ensures
            new b c.in_ok-serve_block.ensures.done c.count_block.ensures refl));
        err = tt;
      };
      goes_on = λ did.
          subst (λ (x : Flight). turns_left ticket x < turns_left ticket parts.slots) (sym c.count_block.ensures)
          (fewer_written ticket parts.slots c.requires.there c.args.block c.args.is_flushed c.requires.fits c.requires.turn);
      waiting = λ same. absurd (true≢false (sym same ∙ ap waits c.served.ensures ∙ served-goes_on _));
      flight = rw c.count_block.ensures (keeps_flight ticket with_block_counted (λ x. refl) parts.slots);
    }

pub returns-in_err-serve_block-clause-writes : goal.returns-in_err-serve_block-clause-writes
returns-in_err-serve_block-clause-writes g c =
    let parts = c.args.parts.now in
    let disk = c.args.disk.now in
    let bytes = c.next_bytes-bytes.result.now in
    block_places (IsWrittenNext parts.slots c.args.ticket.now) parts.tags c.serve_block.new.tags
    c.serve_block.ensures.geometry c.args.block bytes
    (block-is parts (g.D.Disk.identity disk) (g.D.Disk.moments disk) c.requires.ready.parts_ c.args.block bytes
    c.requires.within c.next_bytes-bytes.ensures.size)
    (record { is_flushed = c.args.is_flushed; turn = c.requires.turn }) c.serve_block.ensures.moments

pub returns-clause-writes : goal.returns-clause-writes
returns-clause-writes g c =
    let parts = c.args.parts.now in
    let disk = c.args.disk.now in
    let bytes = c.next_bytes-bytes.result.now in
    block_places (IsWrittenNext parts.slots c.args.ticket.now) parts.tags c.serve_block.new.tags
    c.serve_block.ensures.geometry c.args.block bytes
    (block-is parts (g.D.Disk.identity disk) (g.D.Disk.moments disk) c.requires.ready.parts_ c.args.block bytes
    c.requires.within c.next_bytes-bytes.ensures.size)
    (record { is_flushed = c.args.is_flushed; turn = c.requires.turn }) c.serve_block.ensures.moments
