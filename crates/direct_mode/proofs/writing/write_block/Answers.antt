use Rattle.std.proofs.Common.{sym, ◌∙◌}
use Rattle.std.proofs.lemmas.Result.{on_ok_weaker}
use Rattle.tag_store.specs.Store.{given_tags}
use Rattle.direct_laws.proofs.CallLemmas.{data_law}
use Rattle.direct_laws.proofs.ServeLemmas.{block_written_law, put_failed_law}
use Rattle.direct_mode.specs.Cells.{block_write}
use Rattle.disk_model.specs.Disk.{OnlyAdds}
use Rattle.disk_model.proofs.DiskLemmas.{OnlyAdds-none}
use Rattle.buffer_cache.proofs.CachedLemmas.{told_at_end}
use Rattle.tag_store.specs.Store.{IsOfPut}
use Rattle.direct_mode.proofs.StoreCalls.{adds_block, adds_data, adds_put, gives_put, is_block_write, puts_tag, reads_block, reads_whole}
use Rattle.direct_mode.proofs.writing.write_block.Goals as goal

pub returns-in_err-write_block-clause-through : goal.returns-in_err-write_block-clause-through
returns-in_err-write_block-clause-through g c d ticket awaiting has =
    let geometry = c.args.tags.now.geometry in
    data_law d geometry (block_write ticket c.args.block c.args.bytes.now) awaiting (given_tags c.args.tags.now) _ _ has.geometry
    (is_block_write geometry d ticket c.args.block c.args.bytes.now has.geometry c.requires.block.block_) has.now c.write_block.ensures.moments

pub returns-in_err-write_block-clause-moments : goal.returns-in_err-write_block-clause-moments
returns-in_err-write_block-clause-moments g c =
    adds_data c.args.tags.now (g.D.Disk.identity c.args.disk.now) (g.D.Disk.identity c.write_block.new.disk) c.args.block c.args.bytes.now c.args.tag.now
    c.requires.store c.write_block.ensures.identity c.requires.block.block_ c.write_block.ensures.moments

pub returns-clause-moments : goal.returns-clause-moments
returns-clause-moments g c =
    adds_block c.args.tags.now (g.D.Disk.identity c.args.disk.now) (g.D.Disk.identity c.write_block.new.disk) c.args.block c.args.bytes.now c.args.tag.now
    c.requires.store c.write_block.ensures.identity c.requires.block.block_ c.write_block.ensures.moments c.put.ensures.moments

pub returns-clause-through : goal.returns-clause-through
returns-clause-through g c d ticket awaiting has =
    let store = c.args.tags.now in
    let geometry = store.geometry in
    let tags = given_tags store in
    let middle = c.write_block.new.disk in
    put_failed_law d geometry (block_write ticket c.args.block c.args.bytes.now) c.args.tag.now awaiting tags tags _ _ _ has.geometry
    (is_block_write geometry d ticket c.args.block c.args.bytes.now has.geometry c.requires.block.block_) has.now
    (record { written = c.in_ok-write_block.ensures.written; adds = c.write_block.ensures.moments; gives = c.write_block.ensures.tags.each })
    (adds_put store c.put.new.self (g.D.Disk.identity middle) (g.D.Disk.identity c.put.new.disk) c.write_block.ensures.store c.put.ensures.store
    (reads_whole (g.D.Disk.identity middle) (g.D.Disk.moments middle) (g.met.D.Disk.reads_an_image middle) (g.met.D.Disk.whole_sectors middle))
    c.args.block c.args.tag.now c.requires.block.block_.low c.requires.block.tag_size c.put.ensures.moments)

pub returns-clause-written : goal.returns-clause-written
returns-clause-written g c = on_ok_weaker c.put.result (λ stored d ticket awaiting has is_tag.
    let store = c.args.tags.now in
    let geometry = store.geometry in
    let tags = given_tags store in
    let middle = c.write_block.new.disk in
    record {
      geometry = has.geometry ∙ sym c.put.ensures.keeps.geometry;
      now = (block_written_law d geometry (block_write ticket c.args.block c.args.bytes.now) c.args.tag.now awaiting tags tags (given_tags c.put.new.self) _ _ _ has.geometry
          (is_block_write geometry d ticket c.args.block c.args.bytes.now has.geometry c.requires.block.block_) is_tag has.now
          (record { written = c.in_ok-write_block.ensures.written; adds = c.write_block.ensures.moments; gives = c.write_block.ensures.tags.each })
          (puts_tag store c.put.new.self (g.D.Disk.identity middle) (g.D.Disk.identity c.put.new.disk) c.write_block.ensures.store c.put.ensures.store
          (reads_whole (g.D.Disk.identity middle) (g.D.Disk.moments middle) (g.met.D.Disk.reads_an_image middle) (g.met.D.Disk.whole_sectors middle))
          c.args.block c.args.tag.now c.requires.block.block_.low c.requires.block.tag_size stored c.put.ensures.keeps c.put.ensures.moments)).1;
    }) c.put.ensures.stored

pub returns-clause-read : goal.returns-clause-read
returns-clause-read g c = on_ok_weaker c.put.result (λ stored.
    let store = c.args.tags.now in
    let middle = c.write_block.new.disk in
    reads_block store (g.D.Disk.identity middle) (given_tags c.put.new.self) c.args.block c.args.bytes.now c.args.tag.now _ _ _ c.write_block.ensures.store c.requires.block.block_
    c.in_ok-write_block.ensures.written c.put.ensures.moments
    (puts_tag store c.put.new.self (g.D.Disk.identity middle) (g.D.Disk.identity c.put.new.disk) c.write_block.ensures.store c.put.ensures.store
    (reads_whole (g.D.Disk.identity middle) (g.D.Disk.moments middle) (g.met.D.Disk.reads_an_image middle) (g.met.D.Disk.whole_sectors middle))
    c.args.block c.args.tag.now c.requires.block.block_.low c.requires.block.tag_size stored c.put.ensures.keeps c.put.ensures.moments)) c.put.ensures.stored

pub returns-clause-gives : goal.returns-clause-gives
returns-clause-gives g c = on_ok_weaker c.put.result (λ stored.
    let store = c.args.tags.now in
    let middle = c.write_block.new.disk in
    gives_put store.geometry c.args.block c.args.tag.now (given_tags store) (given_tags c.put.new.self) (g.D.Disk.moments c.args.disk.now) (g.D.Disk.moments middle) (g.D.Disk.moments c.put.new.disk)
    c.write_block.ensures.tags.each
    (λ x told. let start = (told_at_end (λ y. OnlyAdds (IsOfPut c.args.block c.args.tag.now store y) y) (λ y. OnlyAdds-none (IsOfPut c.args.block c.args.tag.now store y) y) c.put.ensures.moments).each x told in (start.0, start.1))
    (puts_tag store c.put.new.self (g.D.Disk.identity middle) (g.D.Disk.identity c.put.new.disk) c.write_block.ensures.store c.put.ensures.store
    (reads_whole (g.D.Disk.identity middle) (g.D.Disk.moments middle) (g.met.D.Disk.reads_an_image middle) (g.met.D.Disk.whole_sectors middle))
    c.args.block c.args.tag.now c.requires.block.block_.low c.requires.block.tag_size stored c.put.ensures.keeps c.put.ensures.moments).gives) c.put.ensures.stored
