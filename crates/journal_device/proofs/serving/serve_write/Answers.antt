use Rattle.std.proofs.Common.{rules, ◌≡◌, ◌<◌, false, refl, sym, ◌∙◌, ap, subst, arith, List, ℕ}
use Rattle.std.proofs.lemmas.Bool.{true≢false}
use Rattle.device_model.specs.Progress.{FailedServe, Serve}
use Rattle.direct_mode.specs.Cells.{IsTaggedBlock}
use Rattle.direct_mode.proofs.ServingLemmas.{on_err_always}
use Rattle.image_model.specs.Geometry.{Geometry}
use Rattle.request_slots.specs.Flight.{Flight}
use Rattle.request_slots.specs.Serving.{with_block_counted}
use Rattle.request_slots.specs.declared.turn.Turn.{Turn}
use Rattle.device_parts.specs.declared.answers.Served.{Served}
use Rattle.device_parts.specs.declared.answers.Served.TheVariants as Serves
use Rattle.device_parts.specs.declared.condition.Condition.TheVariants.{Broken, Working}
use Rattle.device_parts.specs.declared.parts.Parts.{Parts}
use Rattle.device_parts.specs.Answers.{served_answer, turns_left, waits}
use Rattle.device_parts.specs.Device.{KeepsFlight}
use Rattle.device_parts.proofs.LeftLemmas.{fewer_written}
use Rattle.device_parts.proofs.ReadyLemmas.{block-low, keeps_flight, length-tag_by, ready_read, same_flight, sector-low}
use Rattle.device_parts.proofs.TurnLemmas.{served-goes_on}
use Rattle.journal_model.specs.Ring.{has_room}
use Rattle.journal_mode.specs.Journal.{PlacedRing}
use Rattle.journal_device.specs.Answers.{WritesFor}
use Rattle.journal_device.specs.Device.{standing_of, standing_on}
use Rattle.journal_device.specs.Telling.{IsToldOf, KeepsRequest}
use Rattle.journal_device.proofs.IdleLemmas.{same_kept}
use Rattle.journal_device.proofs.OverDisk.{IsServedAs, done_on, is_done_on}
use Rattle.journal_device.proofs.ServingLemmas.{begun_standing, serve_no_room, serve_write_done, serve_write_failed, takes_write}
use Rattle.journal_device.proofs.TellingLemmas.{keeps_counted, served_told}
use Rattle.journal_device.proofs.WriteLemmas.{full_if_refused, on_refusal, put_ok, writes_if, writes_none}
use Rattle.journal_device.proofs.serving.serve_write.Goals as goal

pub overflow_mul-block : goal.overflow_mul-block
overflow_mul-block g c =
    let low = sector-low c.args.parts.now (g.D.Disk.identity c.args.disk.now) (g.D.Disk.moments c.args.disk.now) (c.requires.ready.parts_ refl) c.args.block c.requires.within in omega (arith, low)

pub put-requires : goal.put-requires
put-requires g c =
    let parts = c.args.parts.now in
    let disk = g.D.Disk.identity c.args.disk.now in
    let a = g.D.Disk.moments c.args.disk.now in
    let bytes = c.next_bytes-bytes.result.now in
    let ready = c.requires.ready.parts_ refl in
    record {
      block =
          subst (λ (x : Geometry). IsTaggedBlock x c.args.block bytes c.tag-tag.result) (sym c.requires.ready.geometry)
          (subst (λ (x : List ℕ). IsTaggedBlock parts.tags.geometry c.args.block bytes x) (sym c.tag-tag.ensures)
          (record {
            block_ = record {
              low = block-low parts disk a ready c.args.block c.requires.within;
              size = c.next_bytes-bytes.ensures.size ∙ ready.block_size;
            };
            tag_size = length-tag_by parts disk a ready c.args.block bytes;
          }));
    }

pub served-requires : goal.served-requires
served-requires g c =
    let kept = subst (KeepsFlight c.args.parts.now.slots) (sym c.count_block.ensures) (keeps_flight c.args.ticket.now with_block_counted (λ x. refl) c.args.parts.now.slots) in
    kept.same c.args.ticket.now ∙ c.requires.there

-- ---- the journal is full

pub returns-then-is_err-clause-next : goal.returns-then-is_err-clause-next
returns-then-is_err-clause-next g c =
    let parts = c.args.parts.now in
    let journal = c.args.state.now.journal in
    let recalculation = c.args.state.now.recalculation in
    let ticket = c.args.ticket.now in
    let a = g.D.Disk.moments c.args.disk.now in
    let bad = sym c.is_err.ensures.value ∙ c.if-is_err.true in
    let same = on_refusal c.put.result bad c.put.ensures.err in
    record {
      does = record {
        done = λ w is.
            let v = standing_on w is.disk in
            is_done_on w is.disk is.format (Serve ticket) (served_answer Serves.NoRoom) Working parts c.put.new.self recalculation a a
            (subst (λ (j : PlacedRing). IsServedAs v ticket Serves.NoRoom parts j recalculation a a) (sym same)
            (serve_no_room v parts journal recalculation a is.over ticket c.requires.there c.args.block c.args.is_flushed c.requires.turn a refl
            (full_if_refused c.put.result (has_room journal.ring) bad c.put.ensures.room)));
        err = tt;
      };
      goes_on = λ did. absurd cc;
      waiting = λ waits. (same_kept parts parts journal c.put.new.self recalculation recalculation refl same refl, refl);
      flight = same_flight parts.slots;
    }

pub returns-then-is_err-clause-writes : goal.returns-then-is_err-clause-writes
returns-then-is_err-clause-writes g c =
    let parts = c.args.parts.now in
    let journal = c.args.state.now.journal in
    let recalculation = c.args.state.now.recalculation in
    let a = g.D.Disk.moments c.args.disk.now in
    subst (λ (t : Turn). WritesFor t parts c.args.state.now a a) (sym c.requires.turn)
    (writes_none c.args.is_flushed c.args.block parts c.args.state.now a)

-- ---- the disk fails

pub returns-in_err-flush_if-clause-next : goal.returns-in_err-flush_if-clause-next
returns-in_err-flush_if-clause-next g c =
    let parts = c.args.parts.now in
    let journal = c.args.state.now.journal in
    let recalculation = c.args.state.now.recalculation in
    let ticket = c.args.ticket.now in
    let a = g.D.Disk.moments c.args.disk.now in
    let b = g.D.Disk.moments c.flush_if.new.disk in
    let bytes = c.next_bytes-bytes.result.now in
    let good = sym c.is_err.ensures.value ∙ c.if-is_err.false in
    record {
      does = record {
        done = search rules;
        err = on_err_always c.from_residual.result (λ w at.
            let v = standing_on w at.disk in
            let is = at.over in
            let takes = takes_write v parts journal recalculation a is ticket c.requires.there c.args.block c.args.is_flushed c.requires.turn bytes c.next_bytes-bytes.ensures.bytes
            (g.D.Disk.identity c.args.disk.now) (c.requires.ready.parts_ refl) c.tag-tag.result c.tag-tag.ensures in
            let has = put_ok c.put.result good c.put.ensures.written (standing_of v) ticket parts.tags a takes in
            let begun = begun_standing v parts journal recalculation a is ticket c.requires.there c.args.block c.args.is_flushed c.requires.turn bytes c.next_bytes-bytes.ensures.bytes c.put.new.self has in
            done_on w at.disk at.format (FailedServe ticket) Broken parts c.flush_if.new.journal recalculation a b
            (serve_write_failed v parts journal recalculation a is ticket c.requires.there c.args.block c.args.is_flushed c.requires.turn bytes c.next_bytes-bytes.ensures.bytes
            c.put.new.self has parts c.flush_if.new.journal b refl refl (c.flush_if.ensures.left begun has.begun)));
      };
      goes_on = search rules;
      waiting = search rules;
      flight = same_flight parts.slots;
    }

pub returns-in_err-flush_if-clause-writes : goal.returns-in_err-flush_if-clause-writes
returns-in_err-flush_if-clause-writes g c =
    let parts = c.args.parts.now in
    let journal = c.args.state.now.journal in
    let recalculation = c.args.state.now.recalculation in
    let a = g.D.Disk.moments c.args.disk.now in
    let b = g.D.Disk.moments c.flush_if.new.disk in
    let good = sym c.is_err.ensures.value ∙ c.if-is_err.false in
    subst (λ (t : Turn). WritesFor t parts c.args.state.now a b) (sym c.requires.turn)
    (writes_if c.args.is_flushed c.args.block parts c.args.state.now c.put.new.self a b
    (record { bytes = c.next_bytes-bytes.result.now; tag = c.tag-tag.result; is = put_ok c.put.result good c.put.ensures.put }) c.flush_if.ensures.writes)

-- ---- the block is put

pub returns-clause-next : goal.returns-clause-next
returns-clause-next g c =
    let parts = c.args.parts.now in
    let journal = c.args.state.now.journal in
    let recalculation = c.args.state.now.recalculation in
    let ticket = c.args.ticket.now in
    let a = g.D.Disk.moments c.args.disk.now in
    let b = g.D.Disk.moments c.flush_if.new.disk in
    let bytes = c.next_bytes-bytes.result.now in
    let new : Parts = record parts { slots = c.count_block.new.self } in
    let good = sym c.is_err.ensures.value ∙ c.if-is_err.false in
    record {
      does = record {
        done = λ w at.
            let v = standing_on w at.disk in
            let is = at.over in
            let takes = takes_write v parts journal recalculation a is ticket c.requires.there c.args.block c.args.is_flushed c.requires.turn bytes c.next_bytes-bytes.ensures.bytes
            (g.D.Disk.identity c.args.disk.now) (c.requires.ready.parts_ refl) c.tag-tag.result c.tag-tag.ensures in
            let has = put_ok c.put.result good c.put.ensures.written (standing_of v) ticket parts.tags a takes in
            let begun = begun_standing v parts journal recalculation a is ticket c.requires.there c.args.block c.args.is_flushed c.requires.turn bytes c.next_bytes-bytes.ensures.bytes c.put.new.self has in
            is_done_on w at.disk at.format (Serve ticket) (served_answer c.served.result) Working new c.flush_if.new.journal recalculation a b
            (subst (λ (x : Served). IsServedAs v ticket x new c.flush_if.new.journal recalculation a b) (sym c.served.ensures)
            (serve_write_done v parts journal recalculation a is ticket c.requires.there c.args.block c.args.is_flushed c.requires.turn bytes c.next_bytes-bytes.ensures.bytes
            c.put.new.self has new c.flush_if.new.journal b c.count_block.ensures refl refl
            (c.in_ok-flush_if.ensures.done begun has.begun) c.in_ok-flush_if.ensures.still (c.flush_if.ensures.left begun has.begun)));
        err = tt;
      };
      goes_on = λ did.
          subst (λ (x : Flight). turns_left ticket x < turns_left ticket parts.slots) (sym c.count_block.ensures)
          (fewer_written ticket parts.slots c.requires.there c.args.block c.args.is_flushed c.requires.fits c.requires.turn);
      waiting = λ same. absurd (true≢false (sym same ∙ ap waits c.served.ensures ∙ served-goes_on _));
      flight = subst (KeepsFlight parts.slots) (sym c.count_block.ensures) (keeps_flight ticket with_block_counted (λ x. refl) parts.slots);
    }

pub returns-clause-ready : goal.returns-clause-ready
returns-clause-ready g c =
    let parts = c.args.parts.now in
    let journal = c.args.state.now.journal in
    let recalculation = c.args.state.now.recalculation in
    let ticket = c.args.ticket.now in
    let disk = c.flush_if.new.disk in
    let a = g.D.Disk.moments c.args.disk.now in
    let b = g.D.Disk.moments disk in
    let new : Parts = record parts { slots = c.count_block.new.self } in
    let good = sym c.is_err.ensures.value ∙ c.if-is_err.false in
    let put = put_ok c.put.result good c.put.ensures.put in
    let ready = c.requires.ready.parts_ refl in
    let flight = subst (KeepsFlight parts.slots) (sym c.count_block.ensures) (keeps_flight ticket with_block_counted (λ x. refl) parts.slots) in
    record {
      parts_ = λ _. ready_read parts new (g.D.Disk.identity c.args.disk.now) (g.D.Disk.identity disk) a b
          ready c.in_ok-flush_if.ensures.store refl flight refl refl ready.buffer;
      geometry = c.flush_if.ensures.geometry ∙ ap (λ (j : PlacedRing). j.ring.geometry) put ∙ c.requires.ready.geometry;
      regions_ = c.requires.ready.regions_;
    }

pub returns-clause-writes : goal.returns-clause-writes
returns-clause-writes g c =
    let parts = c.args.parts.now in
    let journal = c.args.state.now.journal in
    let recalculation = c.args.state.now.recalculation in
    let a = g.D.Disk.moments c.args.disk.now in
    let b = g.D.Disk.moments c.flush_if.new.disk in
    let good = sym c.is_err.ensures.value ∙ c.if-is_err.false in
    subst (λ (t : Turn). WritesFor t parts c.args.state.now a b) (sym c.requires.turn)
    (writes_if c.args.is_flushed c.args.block parts c.args.state.now c.put.new.self a b
    (record { bytes = c.next_bytes-bytes.result.now; tag = c.tag-tag.result; is = put_ok c.put.result good c.put.ensures.put }) c.flush_if.ensures.writes)

-- ---- what it tells

pub returns-then-is_err-clause-tells : goal.returns-then-is_err-clause-tells
returns-then-is_err-clause-tells g c =
    let bad = sym c.is_err.ensures.value ∙ c.if-is_err.true in
    record {
      keeps = λ request is. is;
      told = full_if_refused c.put.result (has_room c.args.state.now.journal.ring) bad c.put.ensures.room;
    }

pub returns-in_err-flush_if-clause-tells : goal.returns-in_err-flush_if-clause-tells
returns-in_err-flush_if-clause-tells g c = record { keeps = λ request is. is; told = search rules }

pub returns-clause-tells : goal.returns-clause-tells
returns-clause-tells g c =
    let slots = c.args.parts.now.slots in
    let full = has_room c.args.state.now.journal.ring ≡ false in
    record {
      keeps = subst (KeepsRequest c.args.ticket.now slots) (sym c.count_block.ensures) (keeps_counted c.args.ticket.now slots c.requires.there);
      told = subst (IsToldOf c.args.ticket.now slots c.count_block.new.self full) (sym c.served.ensures) (served_told c.args.ticket.now slots c.count_block.new.self full);
    }
