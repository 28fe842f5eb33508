use Rattle.std.proofs.Common.{◌+◌, ◌/◌, ◌≤◌, List, length, arith, subst}
use Rattle.std.proofs.lemmas.Result.{on_ok_weaker}
use Rattle.disk_model.specs.Disk.{AddsSome, Content, with_run}
use Rattle.disk_model.specs.Moments.{EachSince, IsChangedBy}
use Rattle.image_model.specs.Geometry.{data_at}
use Rattle.direct_laws.specs.CallLaws.{GivesTags}
use Rattle.tag_store.specs.Store.{given_tags}
use Rattle.replay.proofs.AmidLemmas.{block_done, block_moments, block_there}
use Rattle.replay.proofs.ReadPlacesLemmas.{shows_written}
use Rattle.replay.proofs.writing.place_data.Goals as goal

pub returns-then-branch-clause-placed : goal.returns-then-branch-clause-placed
returns-then-branch-clause-placed g c d data_ahead tag_ahead last has =
    let store = c.args.tags.now in
    let old = g.D.Disk.moments c.args.disk.now in
    block_there d data_ahead tag_ahead store c.args.block c.args.bytes.now c.requires.block.low c.requires.block.size last old (g.D.Disk.moments c.is_in_place.new.disk) c.is_in_place.ensures.kept has
    (c.in_ok-is_in_place.ensures.told.there c.if-branch.true)

pub returns-clause-placed : goal.returns-clause-placed
returns-clause-placed g c = on_ok_weaker c.write_block.result (λ written d data_ahead tag_ahead last has.
    let store = c.args.tags.now in
    let new = g.D.Disk.moments c.write_block.new.disk in
    block_done d data_ahead tag_ahead store c.args.block c.args.bytes.now c.requires.block.low c.requires.block.size last (g.D.Disk.moments c.args.disk.now) new has
    (subst (λ (m : List Content). IsChangedBy (with_run (data_at store.geometry c.args.block) c.args.bytes.now) m new) c.is_in_place.ensures.kept written)
    (subst (λ (m : List Content). GivesTags store.geometry (given_tags store) (given_tags store) m new) c.is_in_place.ensures.kept c.write_block.ensures.tags.each)) c.write_block.ensures.written

pub returns-clause-run : goal.returns-clause-run
returns-clause-run g c = on_ok_weaker c.write_block.result (λ written.
    let own = c.args.tags.now.geometry in
    let at = data_at own c.args.block in
    let behind : at + length c.args.bytes.now / 512 ≤ c.is_in_place.new.self.behind = omega (arith, c.requires.block.size, c.in_ok-is_in_place.ensures.behind) in
    shows_written own c.is_in_place.new.self at c.args.bytes.now (g.D.Disk.moments c.is_in_place.new.disk) (g.D.Disk.moments c.write_block.new.disk) behind c.is_in_place.ensures.run written) c.write_block.ensures.written

pub returns-clause-stands : goal.returns-clause-stands
returns-clause-stands g c d data_ahead tag_ahead last has =
    let store = c.args.tags.now in
    block_moments d data_ahead tag_ahead store c.args.block c.args.bytes.now c.requires.block.low c.requires.block.size last has
    (subst (λ (m : List Content). EachSince (AddsSome (data_at store.geometry c.args.block) c.args.bytes.now) m (g.D.Disk.moments c.write_block.new.disk)) c.is_in_place.ensures.kept c.write_block.ensures.moments)

pub returns-clause-still : goal.returns-clause-still
returns-clause-still g c start told is = absurd (c.in_ok-is_in_place.ensures.told.elsewhere c.if-branch.false start told is)
