-- The runs of eight bytes are put at once.
use Rattle.std.proofs.Common.{ap, arith, append_assoc, length, length-append, length-take, take, drop}
use Rattle.std.specs.List.{flat_map}
use Rattle.device_model.specs.Stretches.{stretches_text}
use Rattle.script_text.specs.Singles.{single_text}
use Rattle.script_text.proofs.SinglesLemmas.{singles_first, length-singles}
use Rattle.script_text.proofs.stretches.put_front.Goals as goal

pub put_singles-requires : goal.put_singles-requires
put_singles-requires c =
    let bytes = c.args.bytes.now in
    let more = c.begins_with_singles.ensures.more c.if-begins_with_singles.true in
    let all = ap length (singles_first 8 bytes more (c.begins_with_singles.ensures.singles c.if-begins_with_singles.true)) in
    let parts = length-append (flat_map single_text (take 8 bytes)) (stretches_text (drop 8 bytes)) in
    let front = length-singles (take 8 bytes) in
    let eight = length-take 8 bytes in
    record { room = grind (arith, all, parts, front, eight, more, c.requires.room) }

pub returns-in-Some-clause-written : goal.returns-in-Some-clause-written
returns-in-Some-clause-written c =
    let bytes = c.args.bytes.now in
    let more = c.begins_with_singles.ensures.more c.if-begins_with_singles.true in
    let all = singles_first 8 bytes more (c.begins_with_singles.ensures.singles c.if-begins_with_singles.true) in
    let parts = c.in-Some.ensures.cases in
    rw (all, c.put_singles.ensures.written, parts.0, parts.1) (simp append_assoc)
