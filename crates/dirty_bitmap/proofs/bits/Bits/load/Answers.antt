use Rattle.std.proofs.Common.{◌≡◌, ◌∙◌, ◌*◌, ap, arith, sym, ℕ, List, Some, length, drop}
use Rattle.std.proofs.lemmas.List.{take_at}
use Rattle.disk_model.specs.Disk.{last_image}
use Rattle.disk_model.specs.Moments.{content_now}
use Rattle.image_model.specs.Bitmap.{is_bit_set}
use Rattle.image_model.specs.Geometry.{bitmap_sectors}
use Rattle.dirty_bitmap.specs.Regions.{has_region, set_sectors}
use Rattle.dirty_bitmap.proofs.BitsLemmas.{HoldsBits-loaded, bitmap_run, bits_read, regions-few, set_sectors-is}
use Rattle.dirty_bitmap.proofs.bits.Bits.load.Goals as goal

pub zero_bitmap-requires : goal.zero_bitmap-requires
zero_bitmap-requires g c = omega (arith, regions-few c.args.geometry _ c.requires.places, c.regions-size.ensures)

pub read_run-requires-clause-run : goal.read_run-requires-clause-run
read_run-requires-clause-run g c =
    bitmap_run c.args.geometry _ _ c.requires.places c.requires.fits
    (ap (λ (xs : List ℕ). length xs) c.as_mut_slice.ensures.value ∙ c.in_ok-bytes.ensures.whole
    ∙ ap (λ (n : ℕ). 512 * set_sectors n) c.regions-size.ensures ∙ ap (λ (n : ℕ). 512 * n) (set_sectors-is c.args.geometry))

pub from_bitmap-set-requires-clause-few : goal.from_bitmap-set-requires-clause-few
from_bitmap-set-requires-clause-few g c = omega (arith, regions-few c.args.geometry _ c.requires.places, c.regions-size.ensures)

pub returns-clause-loaded : goal.returns-clause-loaded
returns-clause-loaded g c content told region low =
    let items = c.in_ok-bytes.bytes.items in
    let buffer = c.read_run.new.buffer in
    let long : length buffer ≡ length items = c.read_run.auto.buffer ∙ ap (λ (xs : List ℕ). length xs) c.as_mut_slice.ensures.value in
    let size : length buffer ≡ 512 * bitmap_sectors c.args.geometry =
    long ∙ c.in_ok-bytes.ensures.whole ∙ ap (λ (n : ℕ). 512 * set_sectors n) c.regions-size.ensures ∙ ap (λ (n : ℕ). 512 * n) (set_sectors-is c.args.geometry) in
    c.from_bitmap-set.ensures.told region (omega (arith, low, c.regions-size.ensures))
    ∙ ap (λ (xs : List ℕ). is_bit_set xs region) (take_at buffer (drop (length buffer) items) c.in_ok-bytes.bytes.len (c.read_run.auto.buffer ∙ c.as_mut_slice.ensures.len))
    ∙ bits_read c.args.geometry content buffer size (c.in_ok-read_run.ensures.read content told) region

pub returns-clause-holds : goal.returns-clause-holds
returns-clause-holds g c none later told =
    let told_old : content_now (g.D.Disk.moments c.args.disk.now) ≡ Some later = ap content_now (sym c.read_run.ensures.kept) ∙ told in
    HoldsBits-loaded c.args.geometry _ (has_region c.from_bitmap-set.result) later c.requires.places c.requires.fits
    (λ sector inside. g.met.D.Disk.whole_sectors c.args.disk.now later sector (last_image later sector) told_old inside (g.met.D.Disk.reads_an_image c.args.disk.now later told_old sector))
    (none later told_old) (returns-clause-loaded g c later told_old)
