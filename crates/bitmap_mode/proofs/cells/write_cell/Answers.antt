use Rattle.std.proofs.lemmas.Result.{on_ok_weaker}
use Rattle.tag_store.specs.Store.{given_tags}
use Rattle.direct_mode.specs.Cells.{block_write}
use Rattle.direct_mode.proofs.StoreCalls.{adds_block, adds_data, adds_put, puts_tag, reads_whole}
use Rattle.bitmap_laws.proofs.CallLemmas.{data_law}
use Rattle.bitmap_laws.proofs.ServeLemmas.{cell_failed_law, cell_written_law}
use Rattle.bitmap_mode.proofs.CellLemmas.{is_write}
use Rattle.bitmap_mode.proofs.cells.write_cell.Goals as goal

pub returns-in_err-write_block-clause-through : goal.returns-in_err-write_block-clause-through
returns-in_err-write_block-clause-through g c d ticket marked takes =
    let geometry = c.args.tags.now.geometry in
    data_law d geometry (block_write ticket c.args.block c.args.bytes.now) marked (given_tags c.args.tags.now) _ _ takes.geometry
    (is_write geometry d ticket c.args.block c.args.bytes.now takes.geometry c.requires.block.block_) takes.set takes.now c.write_block.ensures.moments

pub returns-in_err-write_block-clause-moments : goal.returns-in_err-write_block-clause-moments
returns-in_err-write_block-clause-moments g c =
    adds_data c.args.tags.now (g.D.Disk.identity c.args.disk.now) (g.D.Disk.identity c.write_block.new.disk) c.args.block c.args.bytes.now c.args.tag.now
    c.requires.store c.write_block.ensures.identity c.requires.block.block_ c.write_block.ensures.moments

pub returns-clause-moments : goal.returns-clause-moments
returns-clause-moments g c =
    adds_block c.args.tags.now (g.D.Disk.identity c.args.disk.now) (g.D.Disk.identity c.write_block.new.disk) c.args.block c.args.bytes.now c.args.tag.now
    c.requires.store c.write_block.ensures.identity c.requires.block.block_ c.write_block.ensures.moments c.put.ensures.moments

pub returns-clause-through : goal.returns-clause-through
returns-clause-through g c d ticket marked takes =
    let store = c.args.tags.now in
    let tags = given_tags store in
    let middle = c.write_block.new.disk in
    cell_failed_law d store.geometry (block_write ticket c.args.block c.args.bytes.now) c.args.tag.now marked tags tags _ _ _ takes.geometry
    (is_write store.geometry d ticket c.args.block c.args.bytes.now takes.geometry c.requires.block.block_) takes.set takes.tag_ takes.now
    (record { written = c.in_ok-write_block.ensures.written; adds = c.write_block.ensures.moments; gives = c.write_block.ensures.tags.each })
    (adds_put store c.put.new.self (g.D.Disk.identity middle) (g.D.Disk.identity c.put.new.disk) c.write_block.ensures.store c.put.ensures.store
    (reads_whole (g.D.Disk.identity middle) (g.D.Disk.moments middle) (g.met.D.Disk.reads_an_image middle) (g.met.D.Disk.whole_sectors middle))
    c.args.block c.args.tag.now c.requires.block.block_.low c.requires.block.tag_size c.put.ensures.moments)

pub returns-clause-written : goal.returns-clause-written
returns-clause-written g c = on_ok_weaker c.put.result (λ stored d ticket marked takes.
    let store = c.args.tags.now in
    let tags = given_tags store in
    let middle = c.write_block.new.disk in
    (cell_written_law d store.geometry (block_write ticket c.args.block c.args.bytes.now) c.args.tag.now marked tags tags (given_tags c.put.new.self) _ _ _ takes.geometry
    (is_write store.geometry d ticket c.args.block c.args.bytes.now takes.geometry c.requires.block.block_) takes.set takes.tag_ takes.now
    (record { written = c.in_ok-write_block.ensures.written; adds = c.write_block.ensures.moments; gives = c.write_block.ensures.tags.each })
    (puts_tag store c.put.new.self (g.D.Disk.identity middle) (g.D.Disk.identity c.put.new.disk) c.write_block.ensures.store c.put.ensures.store
    (reads_whole (g.D.Disk.identity middle) (g.D.Disk.moments middle) (g.met.D.Disk.reads_an_image middle) (g.met.D.Disk.whole_sectors middle))
    c.args.block c.args.tag.now c.requires.block.block_.low c.requires.block.tag_size stored c.put.ensures.keeps c.put.ensures.moments)).1) c.put.ensures.stored
