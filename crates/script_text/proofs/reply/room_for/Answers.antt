use Rattle.std.proofs.Common.{◌+◌, ◌<◌, ◌≤◌, ◌^◌, length, arith}
use Rattle.std.specs.Fmt.{decimal}
use Rattle.device_model.specs.Reply.{Bytes, TagFault}
use Rattle.device_model.specs.Transcript.{read_text}
use Rattle.script_text.specs.Told.{mirror_fault_text}
use Rattle.script_text.proofs.TextLemmas.{length-read_text, length-fault_text, length-mirror_fault_text, IfSome-lower}
use Rattle.script_text.proofs.reply.room_for.Goals as goal

pub returns-in_ok-runs-in-Read : goal.returns-in_ok-runs-in-Read
returns-in_ok-runs-in-Read c =
    let bytes = c.in-Read.bytes.now in
    let few = c.in_ok-runs-in-Read.ensures in
    let small : length bytes < 2 ^ 64 = omega (arith, few.0) in
    let text = length-read_text c.in-Read.first c.in-Read.count bytes small in
    let all : length (read_text c.in-Read.first c.in-Read.count (Bytes bytes)) ≤ 32 + length (decimal c.in-Read.first) + length (decimal c.in-Read.count) + c.in_ok-runs-in-Read.runs =
    omega (arith, text, few.1) in
    rw c.in-Read.is (IfSome-lower c.room_beside-in-Read.result _ _ c.room_beside-in-Read.ensures all)

pub returns-in_ok-digits-in-Fault : goal.returns-in_ok-digits-in-Fault
returns-in_ok-digits-in-Fault c =
    let text = length-fault_text c.in-Fault.block c.in-Fault.stored.now c.in-Fault.computed.now in
    let sum = c.in_ok-checked_add-in-Fault.ensures in
    let twice = c.in_ok-digits-in-Fault.ensures in
    let all : length (read_text 0 0 (TagFault c.in-Fault.block c.in-Fault.stored.now c.in-Fault.computed.now)) ≤ 32 + length (decimal c.in-Fault.block) + length (decimal 0) + c.in_ok-digits-in-Fault.digits =
    omega (arith, text, sum.1, twice.1) in
    rw c.in-Fault.is (IfSome-lower c.room_beside-in-Fault.result _ _ c.room_beside-in-Fault.ensures all)

pub returns-in_ok-more-in-MirrorFault : goal.returns-in_ok-more-in-MirrorFault
returns-in_ok-more-in-MirrorFault c =
    let f = c.in-MirrorFault in
    let text = length-mirror_fault_text f.block f.stored.now f.computed.now f.second_stored.now f.second_computed.now in
    let first = c.in_ok-first-in-MirrorFault.ensures in
    let second = c.in_ok-second-in-MirrorFault.ensures in
    let sum = c.in_ok-checked_add-in-MirrorFault.ensures in
    let twice = c.in_ok-digits-in-MirrorFault.ensures in
    let more = c.in_ok-more-in-MirrorFault.ensures in
    let all : length (mirror_fault_text f.block f.stored.now f.computed.now f.second_stored.now f.second_computed.now) ≤ 32 + length (decimal f.block) + length (decimal 0) + c.in_ok-more-in-MirrorFault.more =
    omega (arith, text, first.1, second.1, sum.1, twice.1, more.1) in
    rw c.in-MirrorFault.is (IfSome-lower c.room_beside-in-MirrorFault.result _ _ c.room_beside-in-MirrorFault.ensures all)
