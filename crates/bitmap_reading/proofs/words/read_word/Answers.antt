use Rattle.std.proofs.Common.{◌≡◌, ◌+◌, ◌*◌, ◌/◌, ◌%◌, ℕ, List, sym, ap, ◌∙◌}
use Rattle.std.proofs.lemmas.List.{append-nil}
use Rattle.disk_model.specs.Disk.{last_image}
use Rattle.disk_model.specs.Moments.{content_now}
use Rattle.image_model.specs.Bitmap.{is_bit_set}
use Rattle.bitmap_reading.proofs.words.read_word.Goals as goal

pub returns-clause-word : goal.returns-clause-word
returns-clause-word g c x told i low =
    let sector : ℕ = 8 + c.args.at / 64 in
    let bytes : c.run.result.now ≡ last_image x sector =
    c.run.ensures.bytes (g.D.Disk.moments c.show.new.disk) c.show.ensures.window x (ap content_now c.show.ensures.kept ∙ told)
    ∙ append-nil (last_image x sector) in
    ap (λ (xs : List ℕ). is_bit_set xs (64 * (c.args.at % 64) + i)) (sym bytes) ∙ c.word_at.ensures i low
