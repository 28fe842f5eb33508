use Rattle.std.proofs.lemmas.Result.{on_ok_weaker}
use Rattle.disk_model.proofs.MomentsLemmas.{EachMoment-then}
use Rattle.direct_mode.proofs.StoreCalls.{adds_block, adds_data, adds_put, puts_tag, reads_whole}
use Rattle.direct_mode.proofs.ServingLemmas.{writes_in_place}
use Rattle.direct_mode.specs.Cells.{IsBlock}
use Rattle.tag_store.specs.Store.{given_tags}
use Rattle.place_writer.proofs.WritingLemmas.{data_in, gives_put, placed_by, put_in}
use Rattle.place_writer.proofs.writing.write_entry.Goals as goal

pub returns-in_err-write_block-clause-stands : goal.returns-in_err-write_block-clause-stands
returns-in_err-write_block-clause-stands g c d next has = data_in d c.args.tags.now c.args.block c.args.bytes.now c.args.tag.now next has c.write_block.ensures.moments

pub returns-clause-stands : goal.returns-clause-stands
returns-clause-stands g c d next has =
    let store = c.args.tags.now in
    let middle = c.write_block.new.disk in
    EachMoment-then (data_in d store c.args.block c.args.bytes.now c.args.tag.now next has c.write_block.ensures.moments)
    (put_in d store c.args.block c.args.bytes.now c.args.tag.now next has c.in_ok-write_block.ensures.written c.write_block.ensures.tags.each
    (adds_put store c.put.new.self (g.D.Disk.identity middle) (g.D.Disk.identity c.put.new.disk) c.write_block.ensures.store c.put.ensures.store
    (reads_whole (g.D.Disk.identity middle) (g.D.Disk.moments middle) (g.met.D.Disk.reads_an_image middle) (g.met.D.Disk.whole_sectors middle))
    c.args.block c.args.tag.now c.requires.block c.requires.tag c.put.ensures.moments))

pub returns-clause-placed : goal.returns-clause-placed
returns-clause-placed g c = on_ok_weaker c.put.result (λ stored d next has.
    let store = c.args.tags.now in
    let middle = c.write_block.new.disk in
    placed_by d store c.args.block c.args.bytes.now c.args.tag.now next c.put.new.self has c.in_ok-write_block.ensures.written c.write_block.ensures.tags.each
    (puts_tag store c.put.new.self (g.D.Disk.identity middle) (g.D.Disk.identity c.put.new.disk) c.write_block.ensures.store c.put.ensures.store
    (reads_whole (g.D.Disk.identity middle) (g.D.Disk.moments middle) (g.met.D.Disk.reads_an_image middle) (g.met.D.Disk.whole_sectors middle))
    c.args.block c.args.tag.now c.requires.block c.requires.tag stored c.put.ensures.keeps c.put.ensures.moments) c.put.ensures.keeps.geometry) c.put.ensures.stored

pub returns-clause-tags : goal.returns-clause-tags
returns-clause-tags g c = on_ok_weaker c.put.result (λ stored.
    let store = c.args.tags.now in
    let middle = c.write_block.new.disk in
    gives_put store.geometry c.args.block c.args.tag.now (given_tags store) (given_tags c.put.new.self) (g.D.Disk.moments c.args.disk.now) (g.D.Disk.moments middle) (g.D.Disk.moments c.put.new.disk) c.write_block.ensures.tags.each
    (puts_tag store c.put.new.self (g.D.Disk.identity middle) (g.D.Disk.identity c.put.new.disk) c.write_block.ensures.store c.put.ensures.store
    (reads_whole (g.D.Disk.identity middle) (g.D.Disk.moments middle) (g.met.D.Disk.reads_an_image middle) (g.met.D.Disk.whole_sectors middle))
    c.args.block c.args.tag.now c.requires.block c.requires.tag stored c.put.ensures.keeps c.put.ensures.moments)) c.put.ensures.stored

pub returns-in_err-write_block-clause-moments : goal.returns-in_err-write_block-clause-moments
returns-in_err-write_block-clause-moments g c =
    let store = c.args.tags.now in
    let disk = c.args.disk.now in
    let is_block : IsBlock store.geometry c.args.block c.args.bytes.now = record { low = c.requires.block; size = c.requires.bytes } in
    writes_in_place store (g.D.Disk.identity disk) c.args.block c.args.bytes.now c.args.tag.now c.requires.store c.requires.block
    (adds_data store (g.D.Disk.identity disk) (g.D.Disk.identity c.write_block.new.disk) c.args.block c.args.bytes.now c.args.tag.now
    c.requires.store c.write_block.ensures.identity is_block c.write_block.ensures.moments)

pub returns-clause-moments : goal.returns-clause-moments
returns-clause-moments g c =
    let store = c.args.tags.now in
    let disk = c.args.disk.now in
    let is_block : IsBlock store.geometry c.args.block c.args.bytes.now = record { low = c.requires.block; size = c.requires.bytes } in
    writes_in_place store (g.D.Disk.identity disk) c.args.block c.args.bytes.now c.args.tag.now c.requires.store c.requires.block
    (adds_block store (g.D.Disk.identity disk) (g.D.Disk.identity c.write_block.new.disk) c.args.block c.args.bytes.now c.args.tag.now
    c.requires.store c.write_block.ensures.identity is_block c.write_block.ensures.moments c.put.ensures.moments)
