use Rattle.std.proofs.Common.{rules, ◌≡◌, ◌<◌, ℕ, List, length, refl, sym, ap, ◌∙◌, subst}
use Rattle.std.specs.Vec.{with_items}
use Rattle.std.proofs.lemmas.Bool.{true≢false}
use Rattle.std.proofs.lemmas.List.{with_items_is}
use Rattle.disk_model.specs.Disk.{Reads}
use Rattle.disk_model.specs.Moments.{HasNow}
use Rattle.image_model.specs.Geometry.{data_at}
use Rattle.request_slots.specs.Flight.{Flight, IsRead}
use Rattle.request_slots.specs.Serving.{with_block_read, with_change}
use Rattle.request_slots.proofs.SlotLemmas.{ask_of-read}
use Rattle.device_parts.specs.declared.answers.Served.{Served}
use Rattle.device_parts.specs.Answers.{turns_left, waits}
use Rattle.device_parts.specs.Device.{KeepsFlight}
use Rattle.device_parts.proofs.ReadyLemmas.{keeps_flight, same_flight}
use Rattle.device_parts.proofs.TurnLemmas.{served-goes_on}
use Rattle.device_parts.specs.declared.parts.Parts.{Parts}
use Rattle.recovery_device.specs.Answers.{KeepsOthers}
use Rattle.recovery_device.specs.Device.{HasNoWrite}
use Rattle.recovery_device.proofs.DoneLemmas.{IsServedAs, failed}
use Rattle.recovery_device.proofs.NoWriteLemmas.{no_write_read, others_kept, others_same}
use Rattle.recovery_device.proofs.ReadyLemmas.{ready_then}
use Rattle.recovery_device.proofs.ServeLemmas.{fewer_turns, on_err, serve_read}
use Rattle.recovery_device.proofs.serving.serve_read.Goals as goal

pub returns-in_err-read_block-clause-next : goal.returns-in_err-read_block-clause-next
returns-in_err-read_block-clause-next g c =
    let parts = c.args.parts.now in
    record {
      does = record {
        done = search rules;
        err = on_err c.from_residual.result (λ w is.
            failed w parts (g.D.Disk.moments c.args.disk.now) is c.args.ticket.now _ (g.D.Disk.moments c.read_block.new.disk)
            c.read_block.ensures.kept refl refl);
      };
      goes_on = search rules;
      waiting = search rules;
      flight = same_flight parts.slots;
    }

pub put_block-requires-clause-reads : goal.put_block-requires-clause-reads
put_block-requires-clause-reads g c = subst IsRead (sym c.requires.turn) tt

pub served-requires : goal.served-requires
served-requires g c =
    let parts = c.args.parts.now in
    let ticket = c.args.ticket.now in
    let bytes = c.deref.result.now in
    let kept = subst (KeepsFlight parts.slots) (sym c.put_block.ensures)
    (keeps_flight ticket (with_block_read parts.slots.block_size bytes) (λ x. ask_of-read parts.slots.block_size bytes x) parts.slots) in
    kept.same ticket ∙ c.requires.there

pub returns-clause-next : goal.returns-clause-next
returns-clause-next g c =
    let parts = c.args.parts.now in
    let ticket = c.args.ticket.now in
    let block = c.args.block in
    let a = g.D.Disk.moments c.args.disk.now in
    let b = g.D.Disk.moments c.read_block.new.disk in
    let read : Parts = record parts { buffer = with_items parts.buffer c.read_block.new.out } in
    let new : Parts = record read { slots = c.put_block.new.self } in
    let bytes = read.buffer.items in
    let slots : c.put_block.new.self ≡ with_change ticket (with_block_read parts.slots.block_size bytes) parts.slots =
    c.put_block.ensures ∙ ap (λ (xs : List ℕ). with_change ticket (with_block_read parts.slots.block_size xs) parts.slots) c.deref.ensures.value in
    let out : length c.read_block.new.out ≡ parts.buffer.len = search rules in
    let whole : length bytes ≡ parts.slots.block_size = search rules in
    let reads : HasNow (Reads (data_at parts.tags.geometry block) bytes) a =
    subst (λ (xs : List ℕ). HasNow (Reads (data_at parts.tags.geometry block) xs) a) (sym (with_items_is parts.buffer c.read_block.new.out out))
    c.in_ok-read_block.ensures.read in
    record {
      does = record {
        done = λ w is.
            subst (λ (x : Served). IsServedAs w parts a is ticket x new b) (sym c.served.ensures)
            (serve_read w parts a is ticket c.requires.there block bytes new b c.requires.turn whole reads c.read_block.ensures.kept refl slots);
        err = tt;
      };
      goes_on = λ did.
          subst (λ (x : Flight). turns_left ticket x < turns_left ticket parts.slots) (sym slots)
          (fewer_turns ticket block parts read refl c.requires.there c.requires.fits c.requires.turn);
      waiting = λ same. absurd (true≢false (sym same ∙ ap waits c.served.ensures ∙ served-goes_on _));
      flight = subst (KeepsFlight parts.slots) (sym slots)
          (keeps_flight ticket (with_block_read parts.slots.block_size bytes) (λ x. ask_of-read parts.slots.block_size bytes x) parts.slots);
    }

pub returns-in_err-read_block-clause-ready : goal.returns-in_err-read_block-clause-ready
returns-in_err-read_block-clause-ready g c =
    let parts = c.args.parts.now in
    let read : Parts = record parts { buffer = with_items parts.buffer c.read_block.new.out } in
    let whole : length read.buffer.items ≡ parts.slots.block_size = search rules in
    ready_then parts read _ _ _ _ c.requires.ready c.read_block.ensures.store refl (same_flight parts.slots) refl refl whole c.requires.ready.no_write

pub returns-clause-ready : goal.returns-clause-ready
returns-clause-ready g c =
    let parts = c.args.parts.now in
    let ticket = c.args.ticket.now in
    let read : Parts = record parts { buffer = with_items parts.buffer c.read_block.new.out } in
    let whole : length read.buffer.items ≡ parts.slots.block_size = search rules in
    let bytes = c.deref.result.now in
    let flight : KeepsFlight parts.slots c.put_block.new.self = subst (KeepsFlight parts.slots) (sym c.put_block.ensures)
    (keeps_flight ticket (with_block_read parts.slots.block_size bytes) (λ x. ask_of-read parts.slots.block_size bytes x) parts.slots) in
    ready_then parts (record read { slots = c.put_block.new.self }) _ _ _ _ c.requires.ready c.read_block.ensures.store refl flight refl refl whole
    (subst HasNoWrite (sym c.put_block.ensures) (no_write_read ticket parts.slots.block_size bytes parts.slots c.requires.ready.no_write))

pub returns-in_err-read_block-clause-others : goal.returns-in_err-read_block-clause-others
returns-in_err-read_block-clause-others g c = others_same c.args.ticket.now c.args.parts.now.slots

pub returns-clause-others : goal.returns-clause-others
returns-clause-others g c =
    let parts = c.args.parts.now in
    let bytes = c.deref.result.now in
    subst (KeepsOthers c.args.ticket.now parts.slots) (sym c.put_block.ensures)
    (others_kept c.args.ticket.now (with_block_read parts.slots.block_size bytes) (λ x. refl) parts.slots)
