use Rattle.std.proofs.Common.{inr, Bool, sym, ◌∙◌, subst}
use Rattle.std.proofs.lemmas.Result.{on_ok_weaker}
use Rattle.bitmap_laws.specs.Device.{with_block}
use Rattle.bitmap_laws.specs.EventLaws.{after_block}
use Rattle.direct_mode.specs.Cells.{block_write}
use Rattle.bitmap_mode.specs.Standing.{StandsAs}
use Rattle.bitmap_mode.specs.Writing.{HasWritten}
use Rattle.bitmap_mode.proofs.StandingLemmas.{turns_on}
use Rattle.bitmap_mode.proofs.WritingLemmas.{marked_flushed}
use Rattle.bitmap_mode.proofs.states.RegionStates.write_block.Goals as goal

pub returns-then-is_flushed-clause-written : goal.returns-then-is_flushed-clause-written
returns-then-is_flushed-clause-written g c = on_ok_weaker c.flush.result (λ flushed d ticket marked takes.
    let write = block_write ticket c.args.block c.args.bytes.now in
    let written = c.in_ok-write_marked.ensures.written d ticket marked takes in
    record {
      through = turns_on d (with_block d write) marked written.through (c.flush.ensures.through (with_block d write) marked written.stands);
      stands = subst (λ (t : Bool). StandsAs (after_block t write d) marked c.flush.new.self c.flush.new.tags (g.D.Disk.moments c.flush.new.disk)) (sym c.if-is_flushed.true)
          (flushed (with_block d write) marked written.stands);
    }) c.flush.ensures.flushed

pub returns-then-is_flushed-clause-through : goal.returns-then-is_flushed-clause-through
returns-then-is_flushed-clause-through g c d ticket marked takes =
    let write = block_write ticket c.args.block c.args.bytes.now in
    let written = c.in_ok-write_marked.ensures.written d ticket marked takes in
    inr (turns_on d (with_block d write) marked written.through (c.flush.ensures.through (with_block d write) marked written.stands))

pub returns-then-is_flushed-clause-moments : goal.returns-then-is_flushed-clause-moments
returns-then-is_flushed-clause-moments g c =
    marked_flushed c.args.self.now c.write_marked.new.tags c.args.block c.args.bytes.now (c.write_marked.ensures.stays.tags ∙ c.requires.same) c.write_marked.ensures.moments c.flush.ensures.moments

pub returns-clause-written : goal.returns-clause-written
returns-clause-written g c d ticket marked takes =
    let write = block_write ticket c.args.block c.args.bytes.now in
    subst (λ (t : Bool). HasWritten d marked write t c.write_marked.new.self c.write_marked.new.tags (g.D.Disk.moments c.args.disk.now) (g.D.Disk.moments c.write_marked.new.disk)) (sym c.if-is_flushed.false)
    (c.in_ok-write_marked.ensures.written d ticket marked takes)
