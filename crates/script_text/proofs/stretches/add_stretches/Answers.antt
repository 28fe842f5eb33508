use Rattle.std.proofs.Common.{◌<◌, ◌^◌, length, arith}
use Rattle.device_model.proofs.StretchesLemmas.{length-stretches_text-le}
use Rattle.script_text.proofs.stretches.add_stretches.Goals as goal

pub put_stretches-requires : goal.put_stretches-requires
put_stretches-requires c =
    let few = c.in-Some.ensures in
    let small : length c.args.bytes.now < 2 ^ 64 = omega (arith, few.0) in
    let text = length-stretches_text-le c.args.bytes.now small in
    let room = c.in_ok-reserve.ensures.ok in
    record { room = omega (arith, text, few.1, room, c.reserve.ensures.len) }
