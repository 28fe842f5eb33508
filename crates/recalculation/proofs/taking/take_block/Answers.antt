use Rattle.std.proofs.Common.{◌*◌, ◌^◌, ◌<◌, ◌≤◌, List, rules, inl, inr, refl, sym, ◌∙◌, ap, subst, arith}
use Rattle.std.proofs.lemmas.Nat.{mul-le}
use Rattle.std.proofs.lemmas.Result.{on_err_weaker, on_ok_weaker}
use Rattle.disk_model.specs.Disk.{Content}
use Rattle.image_model.specs.Geometry.{Geometry, IsGeometry, Shape}
use Rattle.image_model.proofs.Regions.{blocks-low}
use Rattle.direct_mode.proofs.StoreCalls.{ReadsWhole, reads_whole}
use Rattle.direct_mode.proofs.ServingLemmas.{on_err_always}
use Rattle.tag_store.specs.Store.{IsStore}
use Rattle.recalculation.proofs.RestLemmas.{KeepsRest-put, KeepsRest-still, KeepsRest-then}
use Rattle.recalculation.proofs.TakingLemmas.{block_adds, block_fails, block_shows, block_taken, placed_tag_is, tag_length}
use Rattle.recalculation.proofs.taking.take_block.Goals as goal

pub overflow_mul-block : goal.overflow_mul-block
overflow_mul-block g c =
    let geometry = c.args.places.now.geometry in
    let few = blocks-low geometry _ c.requires.fits.numbers.on_disk in
    let shape = ap (λ (s : Shape). s.spb) c.shape-spb.ensures.shape in
    let spb = c.requires.fits.numbers.on_disk.spb.1 in
    let low = c.requires.block in
    let within = c.requires.end in
    let row : c.args.block * c.shape-spb.result.spb ≤ 2 ^ 48 * 8 = mul-le c.args.block c.shape-spb.result.spb (2 ^ 48) 8 (omega (arith, few, low, within)) (omega (arith, shape, spb)) in
    omega (arith, row)

pub put-requires-clause-size : goal.put-requires-clause-size
put-requires-clause-size g c =
    tag_length c.args.maker.now c.args.places.now.geometry _ (c.args.block * c.shape-spb.result.spb) c.block.result.now c.tag-tag.result c.requires.fits.numbers.on_disk c.requires.fits.size c.tag-tag.ensures
    ∙ ap (λ (x : Geometry). x.shape.tag_size) (sym c.requires.fits.same)

pub returns-in_err-show-clause-err : goal.returns-in_err-show-clause-err
returns-in_err-show-clause-err g c = on_err_always c.from_residual.result (inl (c.show.ensures.kept, refl))

pub returns-in_err-show-clause-stays : goal.returns-in_err-show-clause-stays
returns-in_err-show-clause-stays g c = record {
  store_ = search rules;
  places = refl;
  rest = KeepsRest-still c.args.tags.now (g.D.Disk.moments c.args.disk.now) (g.D.Disk.moments c.show.new.disk) c.show.ensures.kept;
  identity = c.show.ensures.identity;
}

pub returns-clause-stays : goal.returns-clause-stays
returns-clause-stays g c =
    let sectors = (g.D.Disk.identity c.args.disk.now).sectors in
    let tags = c.args.tags.now in
    let read = g.D.Disk.moments c.show.new.disk in
    let fits : IsGeometry c.args.places.now.geometry sectors = subst (λ (x : Geometry). IsGeometry x sectors) c.requires.fits.same c.requires.fits.store_.geometry in
    let size = tag_length c.args.maker.now c.args.places.now.geometry sectors (c.args.block * c.shape-spb.result.spb) c.block.result.now c.tag-tag.result fits c.requires.fits.size c.tag-tag.ensures in
    let still = KeepsRest-still tags (g.D.Disk.moments c.args.disk.now) read c.show.ensures.kept in
    record {
      store_ = c.put.ensures.store;
      places = c.put.ensures.keeps.geometry;
      rest = KeepsRest-then tags tags c.put.new.self (g.D.Disk.moments c.args.disk.now) read (g.D.Disk.moments c.put.new.disk) still
          (KeepsRest-put tags c.put.new.self (g.D.Disk.identity c.args.disk.now) c.args.block c.tag-tag.result read (g.D.Disk.moments c.put.new.disk)
          (subst (λ (x : List Content). IsStore tags (g.D.Disk.identity c.args.disk.now) x) (sym c.show.ensures.kept) c.requires.fits.store_)
          (subst (λ (x : List Content). ReadsWhole (g.D.Disk.identity c.args.disk.now) x) (sym c.show.ensures.kept)
          (reads_whole (g.D.Disk.identity c.args.disk.now) (g.D.Disk.moments c.args.disk.now) (g.met.D.Disk.reads_an_image c.args.disk.now) (g.met.D.Disk.whole_sectors c.args.disk.now)))
          (subst (λ (x : Geometry). c.args.block < x.blocks) (sym c.requires.fits.same) (omega (arith, c.requires.block, c.requires.end)))
          (size ∙ ap (λ (x : Geometry). x.shape.tag_size) (sym c.requires.fits.same))
          c.put.ensures.keeps.geometry c.put.ensures.moments c.put.result c.put.ensures.stored c.put.ensures.err);
      identity = c.put.ensures.identity ∙ c.show.ensures.identity;
    }

pub returns-clause-taken : goal.returns-clause-taken
returns-clause-taken g c =
    let geometry = c.args.places.now.geometry in
    let spb_is = ap (λ (s : Shape). s.spb) c.shape-spb.ensures.shape in
    let sectors = (g.D.Disk.identity c.args.disk.now).sectors in
    let fits : IsGeometry geometry sectors = subst (λ (x : Geometry). IsGeometry x sectors) c.requires.fits.same c.requires.fits.store_.geometry in
    let size = tag_length c.args.maker.now geometry sectors (c.args.block * c.shape-spb.result.spb) c.block.result.now c.tag-tag.result fits c.requires.fits.size c.tag-tag.ensures in
    let is = placed_tag_is c.args.maker.now geometry c.args.block c.shape-spb.result.spb c.block.result.now c.tag-tag.result (g.D.Disk.moments c.show.new.disk) spb_is c.tag-tag.ensures
    (c.block.ensures.bytes geometry sectors (g.D.Disk.moments c.show.new.disk) (sym spb_is) fits c.show.ensures.run) in
    on_ok_weaker c.put.result (λ stored. block_taken c.args.maker.now geometry c.args.tags.now c.put.new.self (g.D.Disk.identity c.args.disk.now) (g.D.Disk.identity c.put.new.disk) c.args.block c.shape-spb.result.spb c.block.result.now c.tag-tag.result
    (g.D.Disk.moments c.args.disk.now) (g.D.Disk.moments c.show.new.disk) (g.D.Disk.moments c.put.new.disk) c.requires.fits.same c.show.ensures.kept c.requires.fits.store_ c.put.ensures.store
    (reads_whole (g.D.Disk.identity c.args.disk.now) (g.D.Disk.moments c.args.disk.now) (g.met.D.Disk.reads_an_image c.args.disk.now) (g.met.D.Disk.whole_sectors c.args.disk.now))
    (omega (arith, c.requires.block, c.requires.end)) size is c.put.ensures.moments
    stored c.put.ensures.keeps) c.put.ensures.stored

pub returns-clause-run : goal.returns-clause-run
returns-clause-run g c =
    let geometry = c.args.places.now.geometry in
    let spb_is = ap (λ (s : Shape). s.spb) c.shape-spb.ensures.shape in
    let sectors = (g.D.Disk.identity c.args.disk.now).sectors in
    let fits : IsGeometry geometry sectors = subst (λ (x : Geometry). IsGeometry x sectors) c.requires.fits.same c.requires.fits.store_.geometry in
    let size = tag_length c.args.maker.now geometry sectors (c.args.block * c.shape-spb.result.spb) c.block.result.now c.tag-tag.result fits c.requires.fits.size c.tag-tag.ensures in
    let is = placed_tag_is c.args.maker.now geometry c.args.block c.shape-spb.result.spb c.block.result.now c.tag-tag.result (g.D.Disk.moments c.show.new.disk) spb_is c.tag-tag.ensures
    (c.block.ensures.bytes geometry sectors (g.D.Disk.moments c.show.new.disk) (sym spb_is) fits c.show.ensures.run) in
    on_ok_weaker c.put.result (λ stored. block_shows c.args.maker.now geometry c.args.tags.now c.put.new.self (g.D.Disk.identity c.args.disk.now) (g.D.Disk.identity c.put.new.disk) c.args.block c.shape-spb.result.spb c.block.result.now c.tag-tag.result
    (g.D.Disk.moments c.args.disk.now) (g.D.Disk.moments c.show.new.disk) (g.D.Disk.moments c.put.new.disk) c.requires.fits.same c.show.ensures.kept c.requires.fits.store_ c.put.ensures.store
    (reads_whole (g.D.Disk.identity c.args.disk.now) (g.D.Disk.moments c.args.disk.now) (g.met.D.Disk.reads_an_image c.args.disk.now) (g.met.D.Disk.whole_sectors c.args.disk.now))
    (omega (arith, c.requires.block, c.requires.end)) size is c.put.ensures.moments
    c.show.new.self c.show.ensures.run stored c.put.ensures.keeps) c.put.ensures.stored

pub returns-clause-moments : goal.returns-clause-moments
returns-clause-moments g c =
    let geometry = c.args.places.now.geometry in
    let spb_is = ap (λ (s : Shape). s.spb) c.shape-spb.ensures.shape in
    let sectors = (g.D.Disk.identity c.args.disk.now).sectors in
    let fits : IsGeometry geometry sectors = subst (λ (x : Geometry). IsGeometry x sectors) c.requires.fits.same c.requires.fits.store_.geometry in
    let size = tag_length c.args.maker.now geometry sectors (c.args.block * c.shape-spb.result.spb) c.block.result.now c.tag-tag.result fits c.requires.fits.size c.tag-tag.ensures in
    let is = placed_tag_is c.args.maker.now geometry c.args.block c.shape-spb.result.spb c.block.result.now c.tag-tag.result (g.D.Disk.moments c.show.new.disk) spb_is c.tag-tag.ensures
    (c.block.ensures.bytes geometry sectors (g.D.Disk.moments c.show.new.disk) (sym spb_is) fits c.show.ensures.run) in
    inr (block_adds c.args.maker.now geometry c.args.tags.now c.put.new.self (g.D.Disk.identity c.args.disk.now) (g.D.Disk.identity c.put.new.disk) c.args.block c.shape-spb.result.spb c.block.result.now c.tag-tag.result
    (g.D.Disk.moments c.args.disk.now) (g.D.Disk.moments c.show.new.disk) (g.D.Disk.moments c.put.new.disk) c.requires.fits.same c.show.ensures.kept c.requires.fits.store_ c.put.ensures.store
    (reads_whole (g.D.Disk.identity c.args.disk.now) (g.D.Disk.moments c.args.disk.now) (g.met.D.Disk.reads_an_image c.args.disk.now) (g.met.D.Disk.whole_sectors c.args.disk.now))
    (omega (arith, c.requires.block, c.requires.end)) size is c.put.ensures.moments)

pub returns-clause-err : goal.returns-clause-err
returns-clause-err g c =
    let geometry = c.args.places.now.geometry in
    let spb_is = ap (λ (s : Shape). s.spb) c.shape-spb.ensures.shape in
    let sectors = (g.D.Disk.identity c.args.disk.now).sectors in
    let fits : IsGeometry geometry sectors = subst (λ (x : Geometry). IsGeometry x sectors) c.requires.fits.same c.requires.fits.store_.geometry in
    let size = tag_length c.args.maker.now geometry sectors (c.args.block * c.shape-spb.result.spb) c.block.result.now c.tag-tag.result fits c.requires.fits.size c.tag-tag.ensures in
    let is = placed_tag_is c.args.maker.now geometry c.args.block c.shape-spb.result.spb c.block.result.now c.tag-tag.result (g.D.Disk.moments c.show.new.disk) spb_is c.tag-tag.ensures
    (c.block.ensures.bytes geometry sectors (g.D.Disk.moments c.show.new.disk) (sym spb_is) fits c.show.ensures.run) in
    on_err_weaker c.put.result (λ first. inr (block_fails c.args.maker.now geometry c.args.tags.now c.put.new.self (g.D.Disk.identity c.args.disk.now) (g.D.Disk.identity c.put.new.disk) c.args.block c.shape-spb.result.spb c.block.result.now c.tag-tag.result
    (g.D.Disk.moments c.args.disk.now) (g.D.Disk.moments c.show.new.disk) (g.D.Disk.moments c.put.new.disk) c.requires.fits.same c.show.ensures.kept c.requires.fits.store_ c.put.ensures.store
    (reads_whole (g.D.Disk.identity c.args.disk.now) (g.D.Disk.moments c.args.disk.now) (g.met.D.Disk.reads_an_image c.args.disk.now) (g.met.D.Disk.whole_sectors c.args.disk.now))
    (omega (arith, c.requires.block, c.requires.end)) size is c.put.ensures.moments
    (reads_whole (g.D.Disk.identity c.put.new.disk) (g.D.Disk.moments c.put.new.disk) (g.met.D.Disk.reads_an_image c.put.new.disk) (g.met.D.Disk.whole_sectors c.put.new.disk))
    c.put.ensures.keeps.geometry first)) c.put.ensures.err
