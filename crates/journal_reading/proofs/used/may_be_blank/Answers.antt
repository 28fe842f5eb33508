use Rattle.std.proofs.Common.{◌∙◌, ap, arith}
use Rattle.std.proofs.lemmas.Bool.{lt-ltb}
use Rattle.std.proofs.lemmas.List.{take_all}
use Rattle.image_model.specs.Grid.{is_zero_sector}
use Rattle.journal_reading.proofs.used.may_be_blank.Goals as goal

pub returns-then-k-bitmap : goal.returns-then-k-bitmap
returns-then-k-bitmap c =
    let bytes = c.args.bytes.now in
    let whole = take_all 512 bytes (omega (arith, c.requires)) in
    rw (lt-ltb c.args.k c.args.bitmap c.if-k-bitmap.true) (c.is_zero.ensures ∙ ap is_zero_sector whole)
