use Rattle.std.proofs.Common.{◌≡◌, ◌<◌, length, rules, subst, sym, ◌∙◌}
use Rattle.std.proofs.lemmas.Result.{on_ok_weaker}
use Rattle.disk_model.specs.Moments.{EachSince}
use Rattle.disk_model.specs.Disk.{OnlyAdds}
use Rattle.disk_model.proofs.MomentsLemmas.{adds_then}
use Rattle.place_writer.proofs.StoreCalls.{adds_put, gets_tag, puts_tag, reads_whole}
use Rattle.place_model.specs.Tags.{HoldsTag}
use Rattle.image_model.specs.Geometry.{Geometry}
use Rattle.replay.proofs.AmidLemmas.{tag_done, tag_got, tag_moments, tag_same}
use Rattle.direct_laws.specs.CallLaws.{KeepsOthersNow}
use Rattle.replay.proofs.ReadPlacesLemmas.{others_then}
use Rattle.replay.proofs.WritesLemmas.{get_in_tags, put_in_tags}
use Rattle.replay.proofs.writing.place_tag.Goals as goal

pub returns-in_err-stored-clause-stands : goal.returns-in_err-stored-clause-stands
returns-in_err-stored-clause-stands g c d data_ahead tag_ahead last has =
    let store = c.args.tags.now in
    let disk = c.args.disk.now in
    let got = gets_tag store c.get.new.self (g.D.Disk.identity disk) (g.D.Disk.identity c.get.new.disk) c.requires.store c.get.ensures.store
    (reads_whole (g.D.Disk.identity disk) (g.D.Disk.moments disk) (g.met.D.Disk.reads_an_image disk) (g.met.D.Disk.whole_sectors disk)) c.args.block c.get.ensures.keeps c.get.ensures.moments in
    tag_got d data_ahead tag_ahead store c.args.block c.args.tag.now last c.get.new.self (g.D.Disk.moments disk) (g.D.Disk.moments c.get.new.disk) has got c.get.ensures.keeps.geometry

pub returns-in_err-stored-clause-moments : goal.returns-in_err-stored-clause-moments
returns-in_err-stored-clause-moments g c = get_in_tags c.args.tags.now c.args.block c.get.ensures.moments

pub returns-then-eq-clause-stands : goal.returns-then-eq-clause-stands
returns-then-eq-clause-stands g c d data_ahead tag_ahead last has =
    let store = c.args.tags.now in
    let disk = c.args.disk.now in
    let got = gets_tag store c.get.new.self (g.D.Disk.identity disk) (g.D.Disk.identity c.get.new.disk) c.requires.store c.get.ensures.store
    (reads_whole (g.D.Disk.identity disk) (g.D.Disk.moments disk) (g.met.D.Disk.reads_an_image disk) (g.met.D.Disk.whole_sectors disk)) c.args.block c.get.ensures.keeps c.get.ensures.moments in
    tag_got d data_ahead tag_ahead store c.args.block c.args.tag.now last c.get.new.self (g.D.Disk.moments disk) (g.D.Disk.moments c.get.new.disk) has got c.get.ensures.keeps.geometry

pub returns-then-eq-clause-moments : goal.returns-then-eq-clause-moments
returns-then-eq-clause-moments g c = get_in_tags c.args.tags.now c.args.block c.get.ensures.moments

pub returns-then-eq-clause-placed : goal.returns-then-eq-clause-placed
returns-then-eq-clause-placed g c d data_ahead tag_ahead last has =
    let store = c.args.tags.now in
    let disk = c.args.disk.now in
    let got = gets_tag store c.get.new.self (g.D.Disk.identity disk) (g.D.Disk.identity c.get.new.disk) c.requires.store c.get.ensures.store
    (reads_whole (g.D.Disk.identity disk) (g.D.Disk.moments disk) (g.met.D.Disk.reads_an_image disk) (g.met.D.Disk.whole_sectors disk)) c.args.block c.get.ensures.keeps c.get.ensures.moments in
    let same : c.in_ok-stored.stored ≡ c.args.tag.now = let e = c.if-eq.ensures in search rules in
    tag_same d data_ahead tag_ahead store c.args.block c.args.tag.now last c.get.new.self (g.D.Disk.moments disk) (g.D.Disk.moments c.get.new.disk) has got c.get.ensures.keeps.geometry
    (λ x told. sym same ∙ c.in_ok-stored.ensures.tag x told) c.requires.block

pub returns-clause-stands : goal.returns-clause-stands
returns-clause-stands g c d data_ahead tag_ahead last has =
    let store = c.args.tags.now in
    let middle = c.get.new.self in
    let disk = c.args.disk.now in
    let mid = c.get.new.disk in
    let got = gets_tag store middle (g.D.Disk.identity disk) (g.D.Disk.identity mid) c.requires.store c.get.ensures.store
    (reads_whole (g.D.Disk.identity disk) (g.D.Disk.moments disk) (g.met.D.Disk.reads_an_image disk) (g.met.D.Disk.whole_sectors disk)) c.args.block c.get.ensures.keeps c.get.ensures.moments in
    tag_moments d data_ahead tag_ahead store c.args.block c.args.tag.now last middle (g.D.Disk.moments disk) (g.D.Disk.moments mid) has got c.get.ensures.keeps.geometry
    (adds_put middle c.put.new.self (g.D.Disk.identity mid) (g.D.Disk.identity c.put.new.disk) c.get.ensures.store c.put.ensures.store
    (reads_whole (g.D.Disk.identity mid) (g.D.Disk.moments mid) (g.met.D.Disk.reads_an_image mid) (g.met.D.Disk.whole_sectors mid))
    c.args.block c.args.tag.now (subst (λ (y : Geometry). c.args.block < y.blocks) (sym c.get.ensures.keeps.geometry) c.requires.block) (subst (λ (y : Geometry). length c.args.tag.now ≡ y.shape.tag_size) (sym c.get.ensures.keeps.geometry) c.requires.tag) c.put.ensures.moments)

pub returns-clause-placed : goal.returns-clause-placed
returns-clause-placed g c = on_ok_weaker c.put.result (λ stored d data_ahead tag_ahead last has.
    let store = c.args.tags.now in
    let middle = c.get.new.self in
    let disk = c.args.disk.now in
    let mid = c.get.new.disk in
    let got = gets_tag store middle (g.D.Disk.identity disk) (g.D.Disk.identity mid) c.requires.store c.get.ensures.store
    (reads_whole (g.D.Disk.identity disk) (g.D.Disk.moments disk) (g.met.D.Disk.reads_an_image disk) (g.met.D.Disk.whole_sectors disk)) c.args.block c.get.ensures.keeps c.get.ensures.moments in
    tag_done d data_ahead tag_ahead store c.args.block c.args.tag.now last middle (g.D.Disk.moments disk) (g.D.Disk.moments mid) has got c.get.ensures.keeps.geometry
    c.put.new.self (g.D.Disk.moments c.put.new.disk)
    (puts_tag middle c.put.new.self (g.D.Disk.identity mid) (g.D.Disk.identity c.put.new.disk) c.get.ensures.store c.put.ensures.store
    (reads_whole (g.D.Disk.identity mid) (g.D.Disk.moments mid) (g.met.D.Disk.reads_an_image mid) (g.met.D.Disk.whole_sectors mid))
    c.args.block c.args.tag.now (subst (λ (y : Geometry). c.args.block < y.blocks) (sym c.get.ensures.keeps.geometry) c.requires.block) (subst (λ (y : Geometry). length c.args.tag.now ≡ y.shape.tag_size) (sym c.get.ensures.keeps.geometry) c.requires.tag) stored c.put.ensures.keeps c.put.ensures.moments) c.put.ensures.keeps.geometry) c.put.ensures.stored

pub returns-clause-moments : goal.returns-clause-moments
returns-clause-moments g c =
    let store = c.args.tags.now in
    let middle = c.get.new.self in
    adds_then (λ sector x. HoldsTag store.geometry sector) (get_in_tags store c.args.block c.get.ensures.moments)
    (subst (λ (y : Geometry). EachSince (OnlyAdds (λ sector x. HoldsTag y sector)) (g.D.Disk.moments c.get.new.disk) (g.D.Disk.moments c.put.new.disk)) c.get.ensures.keeps.geometry
    (put_in_tags middle (g.D.Disk.identity c.get.new.disk) c.args.block c.args.tag.now c.get.ensures.store (subst (λ (y : Geometry). c.args.block < y.blocks) (sym c.get.ensures.keeps.geometry) c.requires.block) c.put.ensures.moments))

pub returns-then-eq-clause-others : goal.returns-then-eq-clause-others
returns-then-eq-clause-others g c =
    let store = c.args.tags.now in
    let disk = c.args.disk.now in
    let got = gets_tag store c.get.new.self (g.D.Disk.identity disk) (g.D.Disk.identity c.get.new.disk) c.requires.store c.get.ensures.store
    (reads_whole (g.D.Disk.identity disk) (g.D.Disk.moments disk) (g.met.D.Disk.reads_an_image disk) (g.met.D.Disk.whole_sectors disk)) c.args.block c.get.ensures.keeps c.get.ensures.moments in
    got.others

pub returns-clause-others : goal.returns-clause-others
returns-clause-others g c = on_ok_weaker c.put.result (λ stored.
    let store = c.args.tags.now in
    let middle = c.get.new.self in
    let disk = c.args.disk.now in
    let mid = c.get.new.disk in
    let before = g.D.Disk.moments disk in
    let between = g.D.Disk.moments mid in
    let after = g.D.Disk.moments c.put.new.disk in
    let same = c.get.ensures.keeps.geometry in
    let low = subst (λ (y : Geometry). c.args.block < y.blocks) (sym same) c.requires.block in
    let size = subst (λ (y : Geometry). length c.args.tag.now ≡ y.shape.tag_size) (sym same) c.requires.tag in
    let got = gets_tag store middle (g.D.Disk.identity disk) (g.D.Disk.identity mid) c.requires.store c.get.ensures.store
    (reads_whole (g.D.Disk.identity disk) before (g.met.D.Disk.reads_an_image disk) (g.met.D.Disk.whole_sectors disk)) c.args.block c.get.ensures.keeps c.get.ensures.moments in
    let put = puts_tag middle c.put.new.self (g.D.Disk.identity mid) (g.D.Disk.identity c.put.new.disk) c.get.ensures.store c.put.ensures.store
    (reads_whole (g.D.Disk.identity mid) between (g.met.D.Disk.reads_an_image mid) (g.met.D.Disk.whole_sectors mid))
    c.args.block c.args.tag.now low size stored c.put.ensures.keeps c.put.ensures.moments in
    others_then store.geometry (λ sector x. HoldsTag middle.geometry sector) before between after got.others
    (put_in_tags middle (g.D.Disk.identity mid) c.args.block c.args.tag.now c.get.ensures.store low c.put.ensures.moments)
    (subst (λ (y : Geometry). KeepsOthersNow y between after) same put.others)) c.put.ensures.stored
