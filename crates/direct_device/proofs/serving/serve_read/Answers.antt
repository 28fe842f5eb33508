use Rattle.std.proofs.Common.{rules, ◌≡◌, ℕ, List, length, refl, sym, ap, ◌∙◌, subst}
use Rattle.std.specs.Vec.{with_items}
use Rattle.std.proofs.lemmas.Bool.{true≢false}
use Rattle.std.proofs.lemmas.List.{with_items_is}
use Rattle.disk_model.specs.Disk.{Reads}
use Rattle.disk_model.specs.Moments.{HasNow}
use Rattle.image_model.specs.Geometry.{Geometry, data_at}
use Rattle.device_model.specs.Progress.{FailedServe}
use Rattle.direct_mode.specs.Cells.{IsBlock}
use Rattle.place_model.specs.Places.{WritesPlaces}
use Rattle.direct_mode.proofs.PlacesLemmas.{WritesPlaces-then, read_places}
use Rattle.direct_mode.proofs.CallLemmas.{through_law}
use Rattle.direct_mode.proofs.ServingLemmas.{on_err_always}
use Rattle.device_parts.specs.declared.answers.Served.{Served}
use Rattle.device_parts.specs.declared.condition.Condition.TheVariants.{Broken}
use Rattle.device_parts.specs.declared.parts.Parts.{Parts}
use Rattle.device_parts.specs.Answers.{after_read, waits}
use Rattle.device_parts.specs.Device as Devices
use Rattle.device_parts.specs.Device.{KeepsFlight}
use Rattle.device_parts.proofs.ReadyLemmas.{block-low, keeps_read, ready_read, same_flight, sector-low}
use Rattle.device_parts.proofs.TurnLemmas.{served-goes_on}
use Rattle.direct_device.specs.Answers.{IsWrittenNext}
use Rattle.direct_device.specs.Device.{standing_on}
use Rattle.direct_device.proofs.OverDisk.{IsServedAs, done_on, served_on}
use Rattle.direct_device.proofs.ServeLemmas.{block-is, serve_read_done, serve_read_failed, to_read}
use Rattle.direct_device.proofs.TakingLemmas.{taking_places}
use Rattle.direct_device.proofs.serving.serve_read.Goals as goal

pub take_to_read-requires-clause-block : goal.take_to_read-requires-clause-block
take_to_read-requires-clause-block g c = block-low c.args.parts.now (g.D.Disk.identity c.args.disk.now) (g.D.Disk.moments c.args.disk.now) c.requires.ready.parts_ c.args.block c.requires.within

pub returns-in_err-take_to_read-clause-next : goal.returns-in_err-take_to_read-clause-next
returns-in_err-take_to_read-clause-next g c =
    let parts = c.args.parts.now in
    let old = c.args.recalculation.now in
    let ticket = c.args.ticket.now in
    let a = g.D.Disk.moments c.args.disk.now in
    let b = g.D.Disk.moments c.take_to_read.new.disk in
    record {
      does = record {
        done = search rules;
        err = on_err_always c.from_residual.result (λ w is.
            let v = standing_on w is.disk in
            done_on w is.disk is.format (FailedServe ticket) a b Broken _ c.take_to_read.new.recalculation
            (serve_read_failed v parts old a is.over ticket c.requires.there c.args.block c.requires.turn c.requires.within _ c.take_to_read.new.recalculation b refl refl
            (c.take_to_read.ensures.through is.disk w.state.progress.regions.awaiting (to_read v parts old a is.over ticket c.requires.there))));
      };
      goes_on = search rules;
      waiting = search rules;
      flight = same_flight parts.slots;
    }

pub returns-in_err-stored-clause-next : goal.returns-in_err-stored-clause-next
returns-in_err-stored-clause-next g c =
    let parts = c.args.parts.now in
    let old = c.args.recalculation.now in
    let ticket = c.args.ticket.now in
    let a = g.D.Disk.moments c.args.disk.now in
    let m = g.D.Disk.moments c.take_to_read.new.disk in
    let b = g.D.Disk.moments c.read_block.new.disk in
    record {
      does = record {
        done = search rules;
        err = on_err_always c.from_residual-in_err-stored.result (λ w is.
            let v = standing_on w is.disk in
            let taken = c.in_ok-take_to_read.ensures.taken is.disk w.state.progress.regions.awaiting (to_read v parts old a is.over ticket c.requires.there) in
            done_on w is.disk is.format (FailedServe ticket) a b Broken _ c.take_to_read.new.recalculation
            (serve_read_failed v parts old a is.over ticket c.requires.there c.args.block c.requires.turn c.requires.within _ c.take_to_read.new.recalculation b refl refl
            (through_law is.disk a m b taken.through (c.read_block.ensures.kept is.disk _ taken.cells).through)));
      };
      goes_on = search rules;
      waiting = search rules;
      flight = same_flight parts.slots;
    }

pub read_block-requires-clause-block : goal.read_block-requires-clause-block
read_block-requires-clause-block g c =
    let parts = c.args.parts.now in
    let bytes = c.deref_mut.result.now in
    let size : length bytes ≡ parts.slots.block_size = search rules in
    subst (λ (x : Geometry). IsBlock x c.args.block bytes) (sym c.take_to_read.ensures.places)
    (block-is parts (g.D.Disk.identity c.args.disk.now) (g.D.Disk.moments c.args.disk.now) c.requires.ready.parts_ c.args.block bytes c.requires.within size)

pub serve_read-requires-clause-sector : goal.serve_read-requires-clause-sector
serve_read-requires-clause-sector g c =
    sector-low c.args.parts.now (g.D.Disk.identity c.args.disk.now) (g.D.Disk.moments c.args.disk.now) c.requires.ready.parts_ c.args.block c.requires.within

pub returns-clause-next : goal.returns-clause-next
returns-clause-next g c =
    let parts = c.args.parts.now in
    let old = c.args.recalculation.now in
    let ticket = c.args.ticket.now in
    let block = c.args.block in
    let stored = c.in_ok-stored.stored in
    let store = c.take_to_read.new.tags in
    let last = c.take_to_read.new.recalculation in
    let a = g.D.Disk.moments c.args.disk.now in
    let m = g.D.Disk.moments c.take_to_read.new.disk in
    let b = g.D.Disk.moments c.read_block.new.disk in
    let mid : Parts = record parts { tags = c.read_block.new.tags; buffer = with_items parts.buffer c.read_block.new.out } in
    let new = c.serve_read.new.self in
    let out : length c.read_block.new.out ≡ parts.buffer.len = search rules in
    let whole : length mid.buffer.items ≡ parts.slots.block_size = search rules in
    record {
      does = record {
        done = λ w is.
            let v = standing_on w is.disk in
            let taken = c.in_ok-take_to_read.ensures.taken is.disk w.state.progress.regions.awaiting (to_read v parts old a is.over ticket c.requires.there) in
            served_on w is.disk is.format ticket c.serve_read.result new last a b
            (subst (λ (x : Served). IsServedAs v ticket x new last a b) (sym c.serve_read.ensures.answer)
            (serve_read_done v parts old a is.over ticket c.requires.there block c.requires.turn c.requires.within
            (g.D.Disk.identity c.args.disk.now) store mid new last stored m b c.requires.ready.parts_ refl refl refl
            whole c.serve_read.ensures.slots taken (c.read_block.ensures.kept is.disk _ taken.cells)
            (subst (λ (xs : List ℕ). HasNow (Reads (data_at store.geometry block) xs) m) (sym (with_items_is parts.buffer c.read_block.new.out out)) c.in_ok-stored.ensures.read)
            c.in_ok-stored.ensures.tag));
        err = tt;
      };
      goes_on = λ did. c.serve_read.ensures.fewer;
      waiting = λ same. absurd (true≢false (sym same ∙ ap waits c.serve_read.ensures.answer ∙ served-goes_on _));
      flight = subst (λ (p : Parts). KeepsFlight parts.slots p.slots) (sym c.serve_read.ensures.slots) (keeps_read ticket block stored mid);
    }

pub returns-in_err-take_to_read-clause-ready : goal.returns-in_err-take_to_read-clause-ready
returns-in_err-take_to_read-clause-ready g c =
    let parts = c.args.parts.now in
    let disk = c.take_to_read.new.disk in
    record {
      parts_ = ready_read parts (record parts { tags = c.take_to_read.new.tags }) (g.D.Disk.identity c.args.disk.now) (g.D.Disk.identity disk) (g.D.Disk.moments c.args.disk.now) (g.D.Disk.moments disk)
          c.requires.ready.parts_ c.take_to_read.ensures.store c.take_to_read.ensures.places (same_flight parts.slots) refl refl c.requires.ready.parts_.buffer;
      geometry = c.take_to_read.ensures.geometry ∙ c.requires.ready.geometry ∙ sym c.take_to_read.ensures.places;
    }

pub returns-in_err-stored-clause-ready : goal.returns-in_err-stored-clause-ready
returns-in_err-stored-clause-ready g c =
    let parts = c.args.parts.now in
    let mid : Parts = record parts { tags = c.read_block.new.tags; buffer = with_items parts.buffer c.read_block.new.out } in
    let disk = c.read_block.new.disk in
    let whole : length mid.buffer.items ≡ parts.slots.block_size = search rules in
    record {
      parts_ = ready_read parts mid (g.D.Disk.identity c.args.disk.now) (g.D.Disk.identity disk) (g.D.Disk.moments c.args.disk.now) (g.D.Disk.moments disk)
          c.requires.ready.parts_ c.read_block.ensures.store (c.read_block.ensures.geometry ∙ c.take_to_read.ensures.places) (same_flight parts.slots) refl refl whole;
      geometry = c.take_to_read.ensures.geometry ∙ c.requires.ready.geometry ∙ sym (c.read_block.ensures.geometry ∙ c.take_to_read.ensures.places);
    }

pub returns-clause-ready : goal.returns-clause-ready
returns-clause-ready g c =
    let parts = c.args.parts.now in
    let mid : Parts = record parts { tags = c.read_block.new.tags; buffer = with_items parts.buffer c.read_block.new.out } in
    let disk = c.read_block.new.disk in
    let ticket = c.args.ticket.now in
    let stored = c.in_ok-stored.stored in
    let whole : length mid.buffer.items ≡ parts.slots.block_size = search rules in
    record {
      parts_ = subst (λ (p : Parts). Devices.IsReady p (g.D.Disk.identity disk) (g.D.Disk.moments disk)) (sym c.serve_read.ensures.slots)
          (ready_read parts (record mid { slots = after_read ticket c.args.block stored mid })
          (g.D.Disk.identity c.args.disk.now) (g.D.Disk.identity disk) (g.D.Disk.moments c.args.disk.now)
          (g.D.Disk.moments disk) c.requires.ready.parts_ c.read_block.ensures.store (c.read_block.ensures.geometry ∙ c.take_to_read.ensures.places)
          (keeps_read ticket c.args.block stored mid) refl refl whole);
      geometry = c.take_to_read.ensures.geometry ∙ c.requires.ready.geometry ∙ sym (c.read_block.ensures.geometry ∙ c.take_to_read.ensures.places) ∙ ap (λ (p : Parts). p.tags.geometry) (sym c.serve_read.ensures.slots);
    }

pub returns-in_err-take_to_read-clause-writes : goal.returns-in_err-take_to_read-clause-writes
returns-in_err-take_to_read-clause-writes g c =
    let parts = c.args.parts.now in
    taking_places (IsWrittenNext parts.slots c.args.ticket.now) parts.tags c.take_to_read.new.tags c.take_to_read.ensures.places c.take_to_read.ensures.writes

pub returns-in_err-stored-clause-writes : goal.returns-in_err-stored-clause-writes
returns-in_err-stored-clause-writes g c =
    let parts = c.args.parts.now in
    let next = IsWrittenNext parts.slots c.args.ticket.now in
    WritesPlaces-then next next next parts.tags.geometry c.take_to_read.new.tags.geometry c.read_block.new.tags.geometry (λ block is. is) (λ block is. is)
    (taking_places next parts.tags c.take_to_read.new.tags c.take_to_read.ensures.places c.take_to_read.ensures.writes)
    (read_places next c.take_to_read.new.tags c.read_block.new.tags c.read_block.ensures.geometry c.args.block c.read_block.ensures.moments)

pub returns-clause-writes : goal.returns-clause-writes
returns-clause-writes g c =
    let parts = c.args.parts.now in
    let next = IsWrittenNext parts.slots c.args.ticket.now in
    let before = g.D.Disk.moments c.args.disk.now in
    let after = g.D.Disk.moments c.read_block.new.disk in
    subst (λ (p : Parts). WritesPlaces next parts.tags.geometry p.tags.geometry before after)
    (sym c.serve_read.ensures.slots)
    (WritesPlaces-then next next next parts.tags.geometry c.take_to_read.new.tags.geometry c.read_block.new.tags.geometry (λ block is. is) (λ block is. is)
    (taking_places next parts.tags c.take_to_read.new.tags c.take_to_read.ensures.places c.take_to_read.ensures.writes)
    (read_places next c.take_to_read.new.tags c.read_block.new.tags c.read_block.ensures.geometry c.args.block c.read_block.ensures.moments))
