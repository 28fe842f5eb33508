use Rattle.std.proofs.Common.{◌≡◌, subst, List}
use Rattle.std.specs.Prelude.{IfOk}
use Rattle.disk_model.specs.Disk.{Content}
use Rattle.disk_model.specs.Moments.{HasNow}
use Rattle.direct_laws.specs.ServeLaws.{WritesBack}
use Rattle.recalculation.specs.Rest.{KeepsRest}
use Rattle.recalculation.proofs.RestLemmas.{KeepsRest-still}
use Rattle.tag_store.specs.Store.{given_tags}
use Rattle.direct_mode.proofs.StoreCalls.{back_kept, gets_tag, reads_whole}
use Rattle.bitmap_mode.proofs.CellLemmas.{rest_kept}
use Rattle.bitmap_mode.proofs.cells.read_cell.Goals as goal

pub returns-in_err-read_block-clause-back : goal.returns-in_err-read_block-clause-back
returns-in_err-read_block-clause-back g c = back_kept c.args.tags.now.geometry (given_tags c.args.tags.now) _ _ c.read_block.ensures.kept

pub returns-clause-back : goal.returns-clause-back
returns-clause-back g c =
    let store = c.args.tags.now in
    let disk = c.read_block.new.disk in
    let last = c.get.new.disk in
    subst (λ (m : List Content). WritesBack store.geometry (given_tags store) (given_tags c.get.new.self) m (g.D.Disk.moments last)) c.read_block.ensures.kept
    (gets_tag store c.get.new.self (g.D.Disk.identity disk) (g.D.Disk.identity last) c.read_block.ensures.store c.get.ensures.store
    (reads_whole (g.D.Disk.identity disk) (g.D.Disk.moments disk) (g.met.D.Disk.reads_an_image disk) (g.met.D.Disk.whole_sectors disk))
    c.args.block c.get.ensures.keeps c.get.ensures.moments)

pub returns-clause-tag : goal.returns-clause-tag
returns-clause-tag g c =
    subst (λ (m : List Content). IfOk c.get.result (λ tag. HasNow (λ x. tag ≡ given_tags c.args.tags.now x c.args.block) m)) c.read_block.ensures.kept c.get.ensures.tag

pub returns-in_err-read_block-clause-rest : goal.returns-in_err-read_block-clause-rest
returns-in_err-read_block-clause-rest g c = KeepsRest-still c.args.tags.now _ _ c.read_block.ensures.kept

pub returns-clause-rest : goal.returns-clause-rest
returns-clause-rest g c =
    let store = c.args.tags.now in
    let disk = c.read_block.new.disk in
    subst (λ (m : List Content). KeepsRest store c.get.new.self m (g.D.Disk.moments c.get.new.disk)) c.read_block.ensures.kept
    (rest_kept store c.get.new.self (g.D.Disk.identity disk) c.args.block c.read_block.ensures.store
    (reads_whole (g.D.Disk.identity disk) (g.D.Disk.moments disk) (g.met.D.Disk.reads_an_image disk) (g.met.D.Disk.whole_sectors disk)) c.get.ensures.keeps c.get.ensures.moments)
