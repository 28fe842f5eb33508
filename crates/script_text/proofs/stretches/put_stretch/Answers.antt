-- What is put is a part of the stretch's text.
use Rattle.std.proofs.Common.{arith}
use Rattle.device_model.proofs.StretchesLemmas.{length-stretch_text}
use Rattle.script_text.proofs.stretches.put_stretch.Goals as goal

pub put_byte-requires : goal.put_byte-requires
put_byte-requires c =
    let text = length-stretch_text c.args.byte c.args.count in
    record { room = omega (arith, text) }

pub put_number-requires : goal.put_number-requires
put_number-requires c =
    let text = length-stretch_text c.args.byte c.args.count in
    record { room = omega (arith, text) }
