use Rattle.std.proofs.Common.{inl, inr, sym, ◌∙◌, ap, subst}
use Rattle.std.proofs.lemmas.Result.{on_ok_weaker}
use Rattle.image_model.specs.Geometry.{region_of}
use Rattle.image_model.proofs.Regions.{region_of-lt}
use Rattle.bitmap_model.specs.Steps.{with_dirty}
use Rattle.bitmap_laws.specs.Device.{with_block}
use Rattle.direct_mode.specs.Cells.{IsTaggedBlock, block_write}
use Rattle.bitmap_mode.specs.States.{States}
use Rattle.bitmap_mode.specs.Writing.{TakesWrite}
use Rattle.bitmap_mode.proofs.StatesLemmas.{counts_are_written}
use Rattle.bitmap_mode.proofs.WritingLemmas.{block_written, dirty_through, marked_first, marked_then, takes_cell}
use Rattle.bitmap_mode.proofs.StandingLemmas.{turns_at}
use Rattle.bitmap_mode.proofs.states.RegionStates.write_marked.Goals as goal

pub set_bit-requires-clause-region : goal.set_bit-requires-clause-region
set_bit-requires-clause-region g c =
    let tagged = subst (λ (s : States). IsTaggedBlock s.geometry c.args.block c.args.bytes.now c.args.tag.now) (sym c.self.view_is) c.requires.block in
    rw (c.region_of-region.ensures, c.self.invariant.bits_geometry) (region_of-lt c.self.inside.geometry c.args.block tagged.block_.low)

pub remove-requires : goal.remove-requires
remove-requires g c =
    let tagged = subst (λ (s : States). IsTaggedBlock s.geometry c.args.block c.args.bytes.now c.args.tag.now) (sym c.self.view_is) c.requires.block in
    rw (c.region_of-region.ensures, c.self.invariant.clean.0) (region_of-lt c.self.inside.geometry c.args.block tagged.block_.low)

pub insert-requires : goal.insert-requires
insert-requires g c =
    let tagged = subst (λ (s : States). IsTaggedBlock s.geometry c.args.block c.args.bytes.now c.args.tag.now) (sym c.self.view_is) c.requires.block in
    rw (c.region_of-region.ensures, c.self.invariant.fresh_size) (region_of-lt c.self.inside.geometry c.args.block tagged.block_.low)

pub returns-in_err-set_bit-clause-through : goal.returns-in_err-set_bit-clause-through
returns-in_err-set_bit-clause-through g c d ticket marked takes =
    let s : States = record { geometry = c.self.inside.geometry; bits = c.self.inside.bits; awaiting = c.self.inside.awaiting; fresh = c.self.inside.fresh } in
    let store = c.args.tags.now in
    let write = block_write ticket c.args.block c.args.bytes.now in
    let here = subst (λ (x : States). TakesWrite d marked write c.args.tag.now x store (g.D.Disk.moments c.args.disk.now)) (sym c.self.view_is) takes in
    let tagged = subst (λ (x : States). IsTaggedBlock x.geometry c.args.block c.args.bytes.now c.args.tag.now) (sym c.self.view_is) c.requires.block in
    inl (dirty_through d marked write c.args.tag.now s store here (c.requires.same ∙ ap (λ (x : States). x.geometry) (sym c.self.view_is)) c.self.invariant.bits_geometry tagged.block_
    c.region_of-region.result c.region_of-region.ensures c.set_bit.ensures.moments)

pub returns-clause-through : goal.returns-clause-through
returns-clause-through g c d ticket marked takes =
    let s : States = record { geometry = c.self.inside.geometry; bits = c.self.inside.bits; awaiting = c.self.inside.awaiting; fresh = c.self.inside.fresh } in
    let store = c.args.tags.now in
    let write = block_write ticket c.args.block c.args.bytes.now in
    let here = subst (λ (x : States). TakesWrite d marked write c.args.tag.now x store (g.D.Disk.moments c.args.disk.now)) (sym c.self.view_is) takes in
    let tagged = subst (λ (x : States). IsTaggedBlock x.geometry c.args.block c.args.bytes.now c.args.tag.now) (sym c.self.view_is) c.requires.block in
    let same = c.requires.same ∙ ap (λ (x : States). x.geometry) (sym c.self.view_is) in
    let there = c.self.invariant.bits_geometry in
    let region = c.region_of-region.result in
    let is = c.region_of-region.ensures in
    inr (turns_at d (with_block d write) marked
    (dirty_through d marked write c.args.tag.now s store here same there tagged.block_ region is c.set_bit.ensures.moments)
    (c.write_cell.ensures.through (with_dirty d (region_of d.geometry c.args.block)) ticket marked
    (takes_cell d marked write c.args.tag.now s store here same there tagged.block_ region is c.in_ok-set_bit.ensures.made)))

pub returns-clause-written : goal.returns-clause-written
returns-clause-written g c = on_ok_weaker c.write_cell.result (λ written d ticket marked takes.
    let s : States = record { geometry = c.self.inside.geometry; bits = c.self.inside.bits; awaiting = c.self.inside.awaiting; fresh = c.self.inside.fresh } in
    let new : States = record { geometry = c.self.inside.geometry; bits = c.set_bit.new.bits; awaiting = c.self.inside.awaiting; fresh = c.insert.new.self } in
    let store = c.args.tags.now in
    let write = block_write ticket c.args.block c.args.bytes.now in
    let here = subst (λ (x : States). TakesWrite d marked write c.args.tag.now x store (g.D.Disk.moments c.args.disk.now)) (sym c.self.view_is) takes in
    let tagged = subst (λ (x : States). IsTaggedBlock x.geometry c.args.block c.args.bytes.now c.args.tag.now) (sym c.self.view_is) c.requires.block in
    let same = c.requires.same ∙ ap (λ (x : States). x.geometry) (sym c.self.view_is) in
    let there = c.self.invariant.bits_geometry in
    let region = c.region_of-region.result in
    let is = c.region_of-region.ensures in
    let first = dirty_through d marked write c.args.tag.now s store here same there tagged.block_ region is c.set_bit.ensures.moments in
    let dirty = takes_cell d marked write c.args.tag.now s store here same there tagged.block_ region is c.in_ok-set_bit.ensures.made in
    let rest = c.write_cell.ensures.through (with_dirty d (region_of d.geometry c.args.block)) ticket marked dirty in
    block_written d marked write c.args.tag.now s store here same there tagged.block_ region is new c.write_cell.new.tags c.write_cell.ensures.geometry
    (counts_are_written s.geometry s.bits s.awaiting s.fresh c.self.inside.to_clean c.self.invariant c.set_bit.new.bits c.insert.new.self region c.in_ok-set_bit.ensures.set c.insert.ensures.has)
    (turns_at d (with_block d write) marked first rest)
    (written (with_dirty d (region_of d.geometry c.args.block)) ticket marked dirty)) c.write_cell.ensures.written

pub returns-in_err-set_bit-clause-moments : goal.returns-in_err-set_bit-clause-moments
returns-in_err-set_bit-clause-moments g c =
    let s : States = record { geometry = c.self.inside.geometry; bits = c.self.inside.bits; awaiting = c.self.inside.awaiting; fresh = c.self.inside.fresh } in
    rw (← c.self.view_is) (marked_first s c.args.block c.region_of-region.result c.args.bytes.now c.self.invariant.bits_geometry c.region_of-region.ensures c.set_bit.ensures.moments)

pub returns-clause-moments : goal.returns-clause-moments
returns-clause-moments g c =
    let s : States = record { geometry = c.self.inside.geometry; bits = c.self.inside.bits; awaiting = c.self.inside.awaiting; fresh = c.self.inside.fresh } in
    let tagged = subst (λ (x : States). IsTaggedBlock x.geometry c.args.block c.args.bytes.now c.args.tag.now) (sym c.self.view_is) c.requires.block in
    rw (← c.self.view_is)
    (marked_then s c.args.tags.now (g.D.Disk.identity c.set_bit.new.disk) c.args.block c.args.bytes.now c.args.tag.now (c.requires.same ∙ ap (λ (x : States). x.geometry) (sym c.self.view_is)) c.set_bit.ensures.store tagged.block_.low
    (marked_first s c.args.block c.region_of-region.result c.args.bytes.now c.self.invariant.bits_geometry c.region_of-region.ensures c.set_bit.ensures.moments)
    c.write_cell.ensures.moments)
