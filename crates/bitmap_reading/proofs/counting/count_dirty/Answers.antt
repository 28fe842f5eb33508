use Rattle.std.proofs.Common.{ℕ, ◌*◌, ◌+◌, ◌%◌, ◌^◌, ◌<◌, ◌≤◌, ap, arith, ◌∙◌, count_ones}
use Rattle.std.proofs.lemmas.Nat.{mod_below, pow_pos}
use lib.Count.{ones-le}
use Rattle.disk_model.specs.Disk.{last_image}
use Rattle.disk_model.specs.Identity.{DiskIdentity}
use Rattle.disk_model.specs.Moments.{content_now}
use Rattle.image_model.specs.Bitmap.{is_dirty}
use Rattle.image_model.specs.Geometry.{regions}
use Rattle.dirty_bitmap.proofs.BitsLemmas.{regions-few}
use Rattle.bitmap_model.proofs.BitLemmas.{bit_sector-at}
use Rattle.bitmap_reading.proofs.ReadingLemmas.{counted_more, word_dirty}
use Rattle.bitmap_reading.proofs.counting.count_dirty.Goals as goal

pub read_word-requires-clause-inside : goal.read_word-requires-clause-inside
read_word-requires-clause-inside g c =
    let at : ℕ = c.loop-at.at in
    let low : 64 * at < regions c.args.geometry.now = omega (arith, c.loop-at-test.true, c.div_ceil-at-end.ensures, c.regions-regions.ensures) in
    let places = bit_sector-at c.args.geometry.now (g.D.Disk.identity c.args.disk.now).sectors c.requires.geometry.geometry c.requires.geometry.fits (64 * at) low in
    let same = ap (λ (d : DiskIdentity). d.sectors) c.loop-at.invariant.identity in
    omega (arith, places.1, places.2, same)

pub overflow_add-count : goal.overflow_add-count
overflow_add-count g c =
    let at : ℕ = c.loop-at.at in
    let bits : ℕ = c.min.result in
    let n : ℕ = c.in_ok-word.word % 2 ^ bits in
    let most : count_ones n ≤ bits = ones-le bits n (mod_below c.in_ok-word.word (2 ^ bits) (pow_pos bits)) in
    let few = regions-few c.args.geometry.now (g.D.Disk.identity c.args.disk.now).sectors c.requires.geometry.geometry in
    omega (arith, most, few, c.min.ensures, c.ones-count.ensures, c.loop-at.invariant.few, c.loop-at-test.true, c.div_ceil-at-end.ensures, c.regions-regions.ensures)

pub loop-at-preserved : goal.loop-at-preserved
loop-at-preserved g c =
    let inv = c.loop-at.invariant in
    let at : ℕ = c.loop-at.at in
    let word : ℕ = c.in_ok-word.word in
    let bits : ℕ = c.min.result in
    let size : ℕ = c.regions-regions.result in
    let geometry = c.args.geometry.now in
    let low : 64 * at < size = omega (arith, c.loop-at-test.true, c.div_ceil-at-end.ensures) in
    let most : count_ones (word % 2 ^ bits) ≤ bits = ones-le bits (word % 2 ^ bits) (mod_below word (2 ^ bits) (pow_pos bits)) in
    record {
      window = c.read_word.ensures.window;
      identity = c.read_word.ensures.identity ∙ inv.identity;
      moments = c.read_word.ensures.kept ∙ inv.moments;
      faults = c.in_ok-word.ensures.cause.passed ∙ inv.faults;
      few = omega (arith, most, c.min.ensures, c.ones-count.ensures, inv.few);
      counted = λ x told.
          ap (λ (n : ℕ). c.loop-at.count + n) c.ones-count.ensures
          ∙ counted_more (is_dirty geometry (last_image x)) size at word c.loop-at.count bits low c.min.ensures
          (λ i inside. word_dirty geometry (g.D.Disk.identity c.args.disk.now).sectors at word i (last_image x) c.requires.geometry
          (omega (arith, inside, c.min.ensures, low, c.regions-regions.ensures)) (omega (arith, inside, c.min.ensures))
          (λ sector within. g.met.D.Disk.whole_sectors c.args.disk.now x sector (last_image x sector) told within (g.met.D.Disk.reads_an_image c.args.disk.now x told sector))
          (c.in_ok-word.ensures.word x (ap content_now inv.moments ∙ told) i (omega (arith, inside, c.min.ensures))))
          (inv.counted x told);
    }
