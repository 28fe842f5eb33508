use Rattle.std.proofs.Common.{ℕ, ap, sym, arith, ◌∙◌}
use Rattle.std.proofs.lemmas.Result.{IfOk-weaker}
use Rattle.disk_model.specs.Disk.{last_image}
use Rattle.image_model.specs.Bitmap.{is_bit_set}
use Rattle.image_model.specs.Geometry.{region_of}
use Rattle.image_model.proofs.Regions.{region_of-lt}
use Rattle.bitmap_model.specs.BitmapDisk.{bit_in, bit_sector}
use Rattle.bitmap_model.proofs.BitLemmas.{bit_sector-at, is_dirty-at}
use Rattle.bitmap_reading.proofs.reading.is_dirty.Goals as goal

pub read_bit-requires-clause-inside : goal.read_bit-requires-clause-inside
read_bit-requires-clause-inside g c =
    let geometry = c.args.geometry.now in
    let at = bit_sector-at geometry (g.D.Disk.identity c.args.disk.now).sectors c.requires.geometry.geometry c.requires.geometry.fits
    (region_of geometry c.args.block) (region_of-lt geometry c.args.block c.requires.block) in
    let same = ap bit_sector c.region_of.ensures in
    omega (arith, same, at.1, at.2)

pub returns-clause-dirty : goal.returns-clause-dirty
returns-clause-dirty g c =
    let geometry = c.args.geometry.now in
    let region = region_of geometry c.args.block in
    IfOk-weaker c.read_bit.result _ _ (λ dirty h x told.
    h x told ∙ ap (λ (r : ℕ). is_bit_set (last_image x (bit_sector r)) (bit_in r)) c.region_of.ensures
    ∙ sym (is_dirty-at geometry (g.D.Disk.identity c.args.disk.now).sectors c.requires.geometry.geometry c.requires.geometry.fits
    region (region_of-lt geometry c.args.block c.requires.block) (last_image x)
    (λ sector inside. g.met.D.Disk.whole_sectors c.args.disk.now x sector (last_image x sector) told inside (g.met.D.Disk.reads_an_image c.args.disk.now x told sector))))
    c.read_bit.ensures.bit
