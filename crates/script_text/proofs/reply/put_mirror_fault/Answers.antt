-- The text is its pieces, one after the other.
use Rattle.std.proofs.Common.{arith, append_assoc}
use Rattle.script_text.proofs.TextLemmas.{length-mirror_fault_text}
use Rattle.script_text.proofs.reply.put_mirror_fault.Goals as goal

pub put_hex-requires : goal.put_hex-requires
put_hex-requires c =
    let text = length-mirror_fault_text c.args.block c.args.stored.now c.args.computed.now c.args.second_stored.now c.args.second_computed.now in
    record { room = omega (arith, text) }

pub put_hex-requires-2 : goal.put_hex-requires-2
put_hex-requires-2 c =
    let text = length-mirror_fault_text c.args.block c.args.stored.now c.args.computed.now c.args.second_stored.now c.args.second_computed.now in
    record { room = omega (arith, text) }

pub put_hex-requires-3 : goal.put_hex-requires-3
put_hex-requires-3 c =
    let text = length-mirror_fault_text c.args.block c.args.stored.now c.args.computed.now c.args.second_stored.now c.args.second_computed.now in
    record { room = omega (arith, text) }

pub put_hex-requires-4 : goal.put_hex-requires-4
put_hex-requires-4 c =
    let text = length-mirror_fault_text c.args.block c.args.stored.now c.args.computed.now c.args.second_stored.now c.args.second_computed.now in
    record { room = omega (arith, text) }

pub returns : goal.returns
returns c =
    record {
      written = rw (c.put_bytes-6.ensures.written, c.put_hex-4.ensures.written, c.put_bytes-5.ensures.written, c.put_hex-3.ensures.written, c.put_bytes-4.ensures.written, c.put_hex-2.ensures.written, c.put_bytes-3.ensures.written, c.put_hex.ensures.written, c.put_bytes-2.ensures.written, c.put_number.ensures.written, c.put_bytes.ensures.written) (simp append_assoc);
    }
