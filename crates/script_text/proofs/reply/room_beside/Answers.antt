use Rattle.std.proofs.Common.{◌+◌, ◌≤◌, length, arith}
use Rattle.std.specs.Fmt.{decimal}
use Rattle.device_model.proofs.TextLemmas.{length-decimal-le-20}
use Rattle.script_text.proofs.TextLemmas.{IfSome-from_iff}
use Rattle.script_text.proofs.reply.room_beside.Goals as goal

pub returns : goal.returns
returns c =
    let one : length (decimal c.args.one) ≤ 20 = length-decimal-le-20 c.args.one (omega arith) in
    let other : length (decimal c.args.other) ≤ 20 = length-decimal-le-20 c.args.other (omega arith) in
    IfSome-from_iff c.checked_add.result _ (c.args.more + 72) _ c.checked_add.ensures (omega (arith, one, other))
