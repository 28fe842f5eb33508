use Rattle.std.proofs.Common.{ℕ, ◌+◌, ◌≤◌, ap, ◌∙◌, arith}
use Rattle.disk_model.specs.Disk.{last_image}
use Rattle.disk_model.specs.Identity.{DiskIdentity}
use Rattle.disk_model.specs.Moments.{content_now}
use Rattle.image_model.specs.declared.byte_place.BytePlace.{BytePlace}
use Rattle.image_model.specs.Geometry.{Shape}
use Rattle.image_model.proofs.GeometryLemmas.{data_at-inside}
use Rattle.check_model.proofs.JudgingLemmas.{tag_lies}
use Rattle.image_salvage.specs.Telling.{as_verdict}
use Rattle.image_salvage.proofs.ReadingLemmas.{bytes-read, verdict-read}
use Rattle.image_salvage.proofs.reading.read_block.Goals as goal

pub show-requires-clause-inside : goal.show-requires-clause-inside
show-requires-clause-inside g c =
    let lies = tag_lies c.args.format.now.geometry (g.D.Disk.identity c.args.disk.now).sectors c.args.block c.requires.fits.is.geometry c.requires.block in
    omega (arith, lies.inside, ap (λ (p : BytePlace). p.sector) c.tag_at-tag_at.ensures)

pub show-requires-2-clause-inside : goal.show-requires-2-clause-inside
show-requires-2-clause-inside g c =
    let inside = data_at-inside c.args.format.now.geometry (g.D.Disk.identity c.args.disk.now).sectors c.args.block c.requires.fits.is.geometry c.requires.block in
    omega (arith, inside.1, c.data_at-at.ensures, ap (λ (s : Shape). s.spb) c.shape-shape.ensures.shape, ap (λ (d : DiskIdentity). d.sectors) c.show.ensures.identity)

pub overflow_add-stored : goal.overflow_add-stored
overflow_add-stored g c =
    let lies = tag_lies c.args.format.now.geometry (g.D.Disk.identity c.args.disk.now).sectors c.args.block c.requires.fits.is.geometry c.requires.block in
    omega (arith, lies.ends, ap (λ (p : BytePlace). p.byte) c.tag_at-tag_at.ensures, ap (λ (s : Shape). s.tag_size) c.shape-shape.ensures.shape)

pub slice_bounds-stored-end : goal.slice_bounds-stored-end
slice_bounds-stored-end g c =
    let lies = tag_lies c.args.format.now.geometry (g.D.Disk.identity c.args.disk.now).sectors c.args.block c.requires.fits.is.geometry c.requires.block in
    let end : c.tag_at-tag_at.result.byte + c.shape-shape.result.tag ≤ 1024 = omega (arith, lies.ends, ap (λ (p : BytePlace). p.byte) c.tag_at-tag_at.ensures, ap (λ (s : Shape). s.tag_size) c.shape-shape.ensures.shape) in
    let size = c.run.ensures.size in
    omega (arith, end, size)

pub returns-clause-verdict : goal.returns-clause-verdict
returns-clause-verdict g c x now =
    ap as_verdict c.judge.ensures
    ∙ verdict-read c.args.maker.now.key (g.D.Disk.identity c.args.disk.now).sectors c.args.format.now (last_image x) c.args.block
    c.args.maker.now.salt c.tag_at-tag_at.result c.data_at-at.result c.shape-shape.result.tag c.shape-shape.result.spb c.run.result.now c.run-placed.result.now
    c.requires.fits.salt c.tag_at-tag_at.ensures c.data_at-at.ensures (ap (λ (s : Shape). s.tag_size) c.shape-shape.ensures.shape) (ap (λ (s : Shape). s.spb) c.shape-shape.ensures.shape)
    (c.run.ensures.bytes (g.D.Disk.moments c.show.new.disk) c.show.ensures.window x (ap content_now c.show.ensures.kept ∙ now))
    (c.run-placed.ensures.bytes (g.D.Disk.moments c.show-2.new.disk) c.show-2.ensures.window x (ap content_now (c.show-2.ensures.kept ∙ c.show.ensures.kept) ∙ now))

pub returns-clause-copied : goal.returns-clause-copied
returns-clause-copied g c x now =
    c.copy_from_slice.ensures.after
    ∙ bytes-read c.args.maker.now.key (g.D.Disk.identity c.args.disk.now).sectors c.args.format.now (last_image x) c.args.block c.data_at-at.result c.shape-shape.result.spb c.run-placed.result.now
    c.data_at-at.ensures (ap (λ (s : Shape). s.spb) c.shape-shape.ensures.shape)
    (c.run-placed.ensures.bytes (g.D.Disk.moments c.show-2.new.disk) c.show-2.ensures.window x (ap content_now (c.show-2.ensures.kept ∙ c.show.ensures.kept) ∙ now))
