use Rattle.std.proofs.Common.{rules, ◌≡◌, ℕ, ◌<◌, false, List, length, refl, sym, ◌∙◌, ap, subst}
use Rattle.std.specs.Vec.{with_items}
use Rattle.std.proofs.lemmas.Bool.{true≢false}
use Rattle.std.proofs.lemmas.List.{with_items_is}
use Rattle.std.proofs.lemmas.Result.{err_from_is_err_and}
use Rattle.disk_model.specs.Moments.{HasNow}
use Rattle.disk_model.proofs.MomentsLemmas.{EachMoment-then}
use Rattle.image_model.specs.Geometry.{Geometry}
use Rattle.device_model.specs.Progress.{FailedServe, Serve}
use Rattle.direct_mode.specs.Cells.{IsBlock}
use Rattle.direct_mode.proofs.ServingLemmas.{on_err_always}
use Rattle.request_slots.specs.declared.turn.Turn.{Turn}
use Rattle.device_parts.specs.declared.answers.Served.{Served}
use Rattle.device_parts.specs.declared.condition.Condition.TheVariants.{Broken, Working}
use Rattle.device_parts.specs.declared.parts.Parts.{Parts}
use Rattle.device_parts.specs.Answers.{after_read, served_answer, waits}
use Rattle.device_parts.specs.Device.{KeepsFlight}
use Rattle.device_parts.proofs.ReadyLemmas.{block-low, keeps_read, ready_read, same_flight, sector-low}
use Rattle.device_parts.proofs.TurnLemmas.{served-goes_on}
use Rattle.journal_model.specs.Ring.{has_room}
use Rattle.journal_mode.specs.Journal.{PlacedRing}
use Rattle.journal_mode.specs.Calls.{GivesEach, KeepsEach}
use Rattle.journal_mode.specs.Reads.{IsCellNow}
use Rattle.journal_device.specs.Answers.{WritesFor, takes_first}
use Rattle.journal_device.specs.Device.{IsReady, standing_of, standing_on}
use Rattle.journal_device.specs.Telling.{IsToldOf, KeepsRequest}
use Rattle.journal_device.proofs.ConditionLemmas.{works_no_more}
use Rattle.journal_device.proofs.DoneLemmas.{idle_now}
use Rattle.journal_device.proofs.OverDisk.{HasFailedIn, IsServedAs, done_on, is_done_on}
use Rattle.journal_device.proofs.RecalcLemmas.{block_there, first_left, first_taken}
use Rattle.journal_device.proofs.ServingLemmas.{rests, serve_read_done, serve_read_failed, taken_working, then_awaiting}
use Rattle.journal_device.proofs.TellingLemmas.{keeps_read_of, served_told}
use Rattle.journal_device.proofs.WriteLemmas.{writes_first, writes_read}
use Rattle.journal_device.proofs.serving.serve_read.Goals as goal

pub read_block-requires-clause-block : goal.read_block-requires-clause-block
read_block-requires-clause-block g c =
    let ready = c.requires.ready.parts_ refl in
    subst (λ (y : Geometry). IsBlock y c.args.block c.deref_mut.result.now) (sym c.take_first.ensures.stays.places)
    (record {
      low = block-low c.args.parts.now (g.D.Disk.identity c.args.disk.now) (g.D.Disk.moments c.args.disk.now) ready c.args.block c.requires.within;
      size = ap (λ (xs : List ℕ). length xs) c.deref_mut.ensures.value ∙ ready.buffer ∙ ready.block_size;
    })

pub read_block-requires-clause-geometry : goal.read_block-requires-clause-geometry
read_block-requires-clause-geometry g c =
    ap (λ (j : PlacedRing). j.ring.geometry) c.take_first.ensures.journal ∙ c.requires.ready.geometry ∙ sym c.take_first.ensures.stays.places

pub serve_read-requires-clause-sector : goal.serve_read-requires-clause-sector
serve_read-requires-clause-sector g c =
    sector-low c.args.parts.now (g.D.Disk.identity c.args.disk.now) (g.D.Disk.moments c.args.disk.now) (c.requires.ready.parts_ refl) c.args.block c.requires.within

-- The block is one of the device.
pub take_first-requires-clause-block : goal.take_first-requires-clause-block
take_first-requires-clause-block g c =
    let low = block-low c.args.parts.now (g.D.Disk.identity c.args.disk.now) (g.D.Disk.moments c.args.disk.now) (c.requires.ready.parts_ refl) c.args.block c.requires.within in
    subst (λ (y : Geometry). c.args.block < y.blocks) (sym c.requires.ready.regions_) low

pub take_first-requires-clause-size : goal.take_first-requires-clause-size
take_first-requires-clause-size g c = (c.requires.ready.parts_ refl).tag_size ∙ ap (λ (y : Geometry). y.shape.tag_size) (sym c.requires.ready.regions_)

-- ---- the disk fails

pub returns-in_err-take_first-clause-next : goal.returns-in_err-take_first-clause-next
returns-in_err-take_first-clause-next g c =
    let parts = c.args.parts.now in
    let journal = c.args.state.now.journal in
    let recalculation = c.args.state.now.recalculation in
    let ticket = c.args.ticket.now in
    let a = g.D.Disk.moments c.args.disk.now in
    let b = g.D.Disk.moments c.take_first.new.disk in
    let new : Parts = record parts { tags = c.take_first.new.tags } in
    record {
      does = record {
        done = search rules;
        err = on_err_always c.from_residual.result (λ w at.
            let v = standing_on w at.disk in
            let is = at.over in
            done_on w at.disk at.format (FailedServe ticket) Broken new c.take_first.new.state.journal c.take_first.new.state.recalculation a b
            (subst (λ (j : PlacedRing). HasFailedIn v ticket new j c.take_first.new.state.recalculation a b) (sym c.take_first.ensures.journal)
            (serve_read_failed v parts journal recalculation a is ticket c.requires.there c.args.block c.requires.turn new c.take_first.new.state.recalculation b refl refl
            (first_left v parts journal recalculation a is c.args.block (block_there v parts journal recalculation a is (g.D.Disk.identity c.args.disk.now) (c.requires.ready.parts_ refl) c.args.block c.requires.within)
            (takes_first journal recalculation c.args.block) refl b c.take_first.ensures.through))));
      };
      goes_on = search rules;
      waiting = search rules;
      flight = same_flight parts.slots;
    }

pub returns-in_err-take_first-clause-ready : goal.returns-in_err-take_first-clause-ready
returns-in_err-take_first-clause-ready g c = record {
  parts_ = λ works. let failed = err_from_is_err_and c.from_residual.result c.from_residual.ensures.1 in works_no_more c.from_residual.result failed.0 failed.1 works;
  geometry = ap (λ (j : PlacedRing). j.ring.geometry) c.take_first.ensures.journal ∙ c.requires.ready.geometry ∙ sym c.take_first.ensures.stays.places;
  regions_ = c.take_first.ensures.stays.geometry ∙ c.requires.ready.regions_ ∙ sym c.take_first.ensures.stays.places;
}

pub returns-in_err-take_first-clause-writes : goal.returns-in_err-take_first-clause-writes
returns-in_err-take_first-clause-writes g c =
    let parts = c.args.parts.now in
    let journal = c.args.state.now.journal in
    let recalculation = c.args.state.now.recalculation in
    let a = g.D.Disk.moments c.args.disk.now in
    let b = g.D.Disk.moments c.take_first.new.disk in
    subst (λ (t : Turn). WritesFor t parts c.args.state.now a b) (sym c.requires.turn)
    (writes_first (takes_first journal recalculation c.args.block) _ _ c.args.block recalculation parts a b c.take_first.ensures.through)

pub returns-in_err-stored-clause-next : goal.returns-in_err-stored-clause-next
returns-in_err-stored-clause-next g c =
    let parts = c.args.parts.now in
    let journal = c.args.state.now.journal in
    let recalculation = c.args.state.now.recalculation in
    let first = c.take_first.new.state.recalculation in
    let store = c.take_first.new.tags in
    let same = c.take_first.ensures.journal in
    let ticket = c.args.ticket.now in
    let block = c.args.block in
    let a = g.D.Disk.moments c.args.disk.now in
    let m = g.D.Disk.moments c.take_first.new.disk in
    let b = g.D.Disk.moments c.read_block.new.disk in
    let new : Parts = record parts { tags = c.read_block.new.tags; buffer = with_items parts.buffer c.read_block.new.out } in
    let kept_each = subst (λ (j : PlacedRing). KeepsEach j store c.read_block.new.tags m b) same c.read_block.ensures.kept in
    record {
      does = record {
        done = search rules;
        err = on_err_always c.from_residual-in_err-stored.result (λ w at.
            let v = standing_on w at.disk in
            let is = at.over in
            let low = block_there v parts journal recalculation a is (g.D.Disk.identity c.args.disk.now) (c.requires.ready.parts_ refl) block c.requires.within in
            let t = takes_first journal recalculation block in
            let working = first_taken v parts journal recalculation a is block low t refl first store m c.take_first.ensures.stays.places c.in_ok-take_first.ensures.taken in
            done_on w at.disk at.format (FailedServe ticket) Broken new c.take_first.new.state.journal first a b
            (subst (λ (j : PlacedRing). HasFailedIn v ticket new j first a b) (sym same)
            (serve_read_failed v parts journal recalculation a is ticket c.requires.there block c.requires.turn new first b refl refl
            (EachMoment-then (first_left v parts journal recalculation a is block low t refl m c.take_first.ensures.through)
            (kept_each (standing_of v) working.stands).left))));
      };
      goes_on = search rules;
      waiting = search rules;
      flight = same_flight parts.slots;
    }

pub returns-in_err-stored-clause-ready : goal.returns-in_err-stored-clause-ready
returns-in_err-stored-clause-ready g c = record {
  parts_ = λ works. let failed = err_from_is_err_and c.from_residual-in_err-stored.result c.from_residual-in_err-stored.ensures.1 in works_no_more c.from_residual-in_err-stored.result failed.0 failed.1 works;
  geometry = ap (λ (j : PlacedRing). j.ring.geometry) c.take_first.ensures.journal ∙ c.requires.ready.geometry ∙ sym c.take_first.ensures.stays.places ∙ sym c.read_block.ensures.stays.geometry;
  regions_ = c.take_first.ensures.stays.geometry ∙ c.requires.ready.regions_ ∙ sym c.take_first.ensures.stays.places ∙ sym c.read_block.ensures.stays.geometry;
}

pub returns-in_err-stored-clause-writes : goal.returns-in_err-stored-clause-writes
returns-in_err-stored-clause-writes g c =
    let parts = c.args.parts.now in
    let journal = c.args.state.now.journal in
    let recalculation = c.args.state.now.recalculation in
    let a = g.D.Disk.moments c.args.disk.now in
    let m = g.D.Disk.moments c.take_first.new.disk in
    let b = g.D.Disk.moments c.read_block.new.disk in
    subst (λ (t : Turn). WritesFor t parts c.args.state.now a b) (sym c.requires.turn)
    (writes_read (takes_first journal recalculation c.args.block) _ _ c.args.block recalculation c.take_first.new.state.recalculation parts c.take_first.new.tags a m b c.take_first.ensures.stays.places
    c.in_ok-take_first.ensures.taken c.take_first.ensures.through c.read_block.ensures.moments)

-- ---- the block is read

pub returns-clause-next : goal.returns-clause-next
returns-clause-next g c =
    let parts = c.args.parts.now in
    let journal = c.args.state.now.journal in
    let recalculation = c.args.state.now.recalculation in
    let first = c.take_first.new.state.recalculation in
    let store = c.take_first.new.tags in
    let same = c.take_first.ensures.journal in
    let ticket = c.args.ticket.now in
    let block = c.args.block in
    let stored = c.in_ok-stored.stored in
    let a = g.D.Disk.moments c.args.disk.now in
    let m = g.D.Disk.moments c.take_first.new.disk in
    let b = g.D.Disk.moments c.read_block.new.disk in
    let mid : Parts = record parts { tags = c.read_block.new.tags; buffer = with_items parts.buffer c.read_block.new.out } in
    let new = c.serve_read.new.self in
    let out : length c.read_block.new.out ≡ parts.buffer.len = search rules in
    let bytes : mid.buffer.items ≡ c.read_block.new.out = with_items_is parts.buffer c.read_block.new.out out in
    let whole : length mid.buffer.items ≡ parts.slots.block_size = search rules in
    let kept_each = subst (λ (j : PlacedRing). KeepsEach j store c.read_block.new.tags m b) same c.read_block.ensures.kept in
    let gives_each = subst (λ (j : PlacedRing). GivesEach j block c.read_block.new.out stored store m) same c.in_ok-stored.ensures.whole in
    record {
      does = record {
        done = λ w at.
            let v = standing_on w at.disk in
            let is = at.over in
            let low = block_there v parts journal recalculation a is (g.D.Disk.identity c.args.disk.now) (c.requires.ready.parts_ refl) block c.requires.within in
            let t = takes_first journal recalculation block in
            let working = taken_working v parts journal recalculation a is ticket c.requires.there block c.requires.turn low t refl first store m c.take_first.ensures.stays.places c.in_ok-take_first.ensures.taken c.take_first.ensures.through in
            is_done_on w at.disk at.format (Serve ticket) (served_answer c.serve_read.result) Working new c.take_first.new.state.journal first a b
            (subst (λ (j : PlacedRing). IsServedAs v ticket c.serve_read.result new j first a b) (sym same)
            (subst (λ (x : Served). IsServedAs v ticket x new journal first a b) (sym c.serve_read.ensures.answer)
            (serve_read_done v parts journal recalculation a is ticket c.requires.there block c.requires.turn low t refl first store m c.take_first.ensures.stays.places c.in_ok-take_first.ensures.taken c.take_first.ensures.through
            (g.D.Disk.identity c.args.disk.now) mid new stored b (c.requires.ready.parts_ refl) refl refl refl
            whole c.serve_read.ensures.slots (kept_each (standing_of v) working.stands)
            (subst (λ (xs : List ℕ). HasNow (λ x. IsCellNow (standing_of v) block xs stored) m) (sym bytes)
            (gives_each (standing_of v) (then_awaiting v parts journal recalculation a is ticket c.requires.there block c.requires.turn low t refl first store m c.take_first.ensures.stays.places c.in_ok-take_first.ensures.taken c.take_first.ensures.through)
            working.stands (idle_now v parts journal recalculation a is) working.keeps
            (rests v parts journal recalculation a is ticket c.requires.there block c.requires.turn low t refl first store m c.take_first.ensures.stays.places c.in_ok-take_first.ensures.taken c.take_first.ensures.through))))));
        err = tt;
      };
      goes_on = λ did. c.serve_read.ensures.fewer;
      waiting = λ waits_. absurd (true≢false (sym waits_ ∙ ap waits c.serve_read.ensures.answer ∙ served-goes_on _));
      flight = subst (λ (p : Parts). KeepsFlight parts.slots p.slots) (sym c.serve_read.ensures.slots) (keeps_read ticket block stored mid);
    }

pub returns-clause-ready : goal.returns-clause-ready
returns-clause-ready g c =
    let parts = c.args.parts.now in
    let ticket = c.args.ticket.now in
    let block = c.args.block in
    let stored = c.in_ok-stored.stored in
    let disk = c.read_block.new.disk in
    let a = g.D.Disk.moments c.args.disk.now in
    let b = g.D.Disk.moments disk in
    let places = c.read_block.ensures.stays.geometry ∙ c.take_first.ensures.stays.places in
    let mid : Parts = record parts { tags = c.read_block.new.tags; buffer = with_items parts.buffer c.read_block.new.out } in
    let whole : length mid.buffer.items ≡ parts.slots.block_size = search rules in
    subst (λ (p : Parts). IsReady Working p c.take_first.new.state (g.D.Disk.identity disk) b) (sym c.serve_read.ensures.slots)
    (record {
      parts_ = λ _. ready_read parts (record mid { slots = after_read ticket block stored mid })
          (g.D.Disk.identity c.args.disk.now) (g.D.Disk.identity disk) a b (c.requires.ready.parts_ refl) c.read_block.ensures.stays.store
          places (keeps_read ticket block stored mid) refl refl whole;
      geometry = ap (λ (j : PlacedRing). j.ring.geometry) c.take_first.ensures.journal ∙ c.requires.ready.geometry ∙ sym places;
      regions_ = c.take_first.ensures.stays.geometry ∙ c.requires.ready.regions_ ∙ sym places;
    })

pub returns-clause-writes : goal.returns-clause-writes
returns-clause-writes g c =
    let parts = c.args.parts.now in
    let journal = c.args.state.now.journal in
    let recalculation = c.args.state.now.recalculation in
    let a = g.D.Disk.moments c.args.disk.now in
    let m = g.D.Disk.moments c.take_first.new.disk in
    let b = g.D.Disk.moments c.read_block.new.disk in
    subst (λ (t : Turn). WritesFor t parts c.args.state.now a b) (sym c.requires.turn)
    (writes_read (takes_first journal recalculation c.args.block) _ _ c.args.block recalculation c.take_first.new.state.recalculation parts c.take_first.new.tags a m b c.take_first.ensures.stays.places
    c.in_ok-take_first.ensures.taken c.take_first.ensures.through c.read_block.ensures.moments)

-- ---- what it tells

pub returns-in_err-take_first-clause-tells : goal.returns-in_err-take_first-clause-tells
returns-in_err-take_first-clause-tells g c = record { keeps = λ request is. is; told = search rules }

pub returns-in_err-stored-clause-tells : goal.returns-in_err-stored-clause-tells
returns-in_err-stored-clause-tells g c = record { keeps = λ request is. is; told = search rules }

pub returns-clause-tells : goal.returns-clause-tells
returns-clause-tells g c =
    let parts = c.args.parts.now in
    let ticket = c.args.ticket.now in
    let mid : Parts = record parts { tags = c.read_block.new.tags; buffer = with_items parts.buffer c.read_block.new.out } in
    let new = c.serve_read.new.self in
    let whole : length mid.buffer.items ≡ parts.slots.block_size = search rules in
    let full = has_room c.args.state.now.journal.ring ≡ false in
    record {
      keeps =
          subst (λ (p : Parts). KeepsRequest ticket parts.slots p.slots) (sym c.serve_read.ensures.slots)
          (keeps_read_of ticket c.args.block c.in_ok-stored.stored mid c.requires.there c.requires.fits c.requires.turn whole);
      told =
          subst (IsToldOf ticket parts.slots new.slots full) (sym c.serve_read.ensures.answer)
          (served_told ticket parts.slots new.slots full);
    }
