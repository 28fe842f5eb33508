use Rattle.std.proofs.Common.{◌≡◌, ◌==◌, ◌/◌, ◌%◌, ℕ, List, ap, ◌∙◌, slice_index}
use Rattle.std.proofs.lemmas.List.{append-nil}
use Rattle.std.proofs.lemmas.Nat.Bits.{shr_and_one}
use Rattle.disk_model.specs.Disk.{last_image}
use Rattle.disk_model.specs.Moments.{content_now}
use Rattle.image_model.specs.Bitmap.{is_bit_set}
use Rattle.bitmap_model.specs.BitmapDisk.{bit_in, bit_sector}
use Rattle.bitmap_reading.proofs.reading.read_bit.Goals as goal

pub returns-clause-bit : goal.returns-clause-bit
unfolding is_bit_set
returns-clause-bit g c x told =
    let region = c.args.region in
    let sector = bit_sector region in
    let bytes : c.run-bytes.result.now ≡ last_image x sector =
    c.run-bytes.ensures.bytes (g.D.Disk.moments c.show.new.disk) c.show.ensures.window x (ap content_now c.show.ensures.kept ∙ told)
    ∙ append-nil (last_image x sector) in
    ap (λ (n : ℕ). n == 1) (shr_and_one (slice_index c.run-bytes.result.now (region % 4096 / 8)) (region % 4096 % 8))
    ∙ ap (λ (xs : List ℕ). is_bit_set xs (bit_in region)) bytes
