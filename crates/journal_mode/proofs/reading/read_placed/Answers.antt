use Rattle.std.proofs.Common.{sym, subst, List}
use Rattle.disk_model.specs.Disk.{Content, OnlyAdds}
use Rattle.disk_model.specs.Moments.{EachMoment, EachSince}
use Rattle.disk_model.proofs.MomentsLemmas.{EachMoment-kept}
use Rattle.replay.proofs.StoreCalls.{gets_tag, reads_whole}
use Rattle.direct_laws.specs.CallLaws.{GivesTags}
use Rattle.journal_model.specs.JournaledDisk.{StandsFor}
use Rattle.replay.specs.Cells.{HasCells}
use Rattle.replay.proofs.WritingLemmas.{back_in, gives_still, written_in}
use Rattle.tag_store.specs.Store.{IsOutForTag, given_tags}
use Rattle.journal_mode.proofs.reading.read_placed.Goals as goal

pub returns-in_err-read_block-clause-cells : goal.returns-in_err-read_block-clause-cells
returns-in_err-read_block-clause-cells g c d has = subst (HasCells d c.args.tags.now) (sym c.read_block.ensures.kept) has

pub returns-in_err-read_block-clause-stands : goal.returns-in_err-read_block-clause-stands
returns-in_err-read_block-clause-stands g c d has = EachMoment-kept (StandsFor d) c.read_block.ensures.kept

pub returns-clause-cells : goal.returns-clause-cells
returns-clause-cells g c d has =
    let store = c.args.tags.now in
    let disk = c.read_block.new.disk in
    let last = c.get.new.disk in
    written_in d store c.get.new.self (subst (HasCells d store) (sym c.read_block.ensures.kept) has)
    (gets_tag store c.get.new.self (g.D.Disk.identity disk) (g.D.Disk.identity last) c.read_block.ensures.store c.get.ensures.store
    (reads_whole (g.D.Disk.identity disk) (g.D.Disk.moments disk) (g.met.D.Disk.reads_an_image disk) (g.met.D.Disk.whole_sectors disk))
    c.args.block c.get.ensures.keeps c.get.ensures.moments)
    c.get.ensures.keeps.geometry

pub returns-in_err-read_block-clause-tags : goal.returns-in_err-read_block-clause-tags
returns-in_err-read_block-clause-tags g c =
    let store = c.args.tags.now in
    let a = g.D.Disk.moments c.args.disk.now in
    subst (λ (m : List Content). GivesTags store.geometry (given_tags store) (given_tags store) a m) (sym c.read_block.ensures.kept) (gives_still store.geometry (given_tags store) a)

pub returns-clause-tags : goal.returns-clause-tags
returns-clause-tags g c =
    let store = c.args.tags.now in
    let disk = c.read_block.new.disk in
    let last = c.get.new.disk in
    let back = gets_tag store c.get.new.self (g.D.Disk.identity disk) (g.D.Disk.identity last) c.read_block.ensures.store c.get.ensures.store
    (reads_whole (g.D.Disk.identity disk) (g.D.Disk.moments disk) (g.met.D.Disk.reads_an_image disk) (g.met.D.Disk.whole_sectors disk))
    c.args.block c.get.ensures.keeps c.get.ensures.moments in
    subst (λ (m : List Content). GivesTags store.geometry (given_tags store) (given_tags c.get.new.self) m (g.D.Disk.moments last)) c.read_block.ensures.kept back.gives

pub returns-clause-stands : goal.returns-clause-stands
returns-clause-stands g c d has =
    let store = c.args.tags.now in
    let disk = c.read_block.new.disk in
    let last = c.get.new.disk in
    let writes = gets_tag store c.get.new.self (g.D.Disk.identity disk) (g.D.Disk.identity last) c.read_block.ensures.store c.get.ensures.store
    (reads_whole (g.D.Disk.identity disk) (g.D.Disk.moments disk) (g.met.D.Disk.reads_an_image disk) (g.met.D.Disk.whole_sectors disk))
    c.args.block c.get.ensures.keeps c.get.ensures.moments in
    subst (λ (m : List Content). EachMoment m (g.D.Disk.moments last) (StandsFor d)) c.read_block.ensures.kept
    (back_in d store (subst (HasCells d store) (sym c.read_block.ensures.kept) has) writes.adds)

pub returns-clause-moments : goal.returns-clause-moments
returns-clause-moments g c =
    subst (λ (m : List Content). EachSince (OnlyAdds (IsOutForTag c.args.block c.args.tags.now)) m (g.D.Disk.moments c.get.new.disk)) c.read_block.ensures.kept c.get.ensures.moments
